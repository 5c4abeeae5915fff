-- What holds of the runs of programs that break no rule.
use Rattle.std.specs.Prelude.{Option, ◌≡◌, IsTrue, true, List, All, None}
use Rattle.std.proofs.Common.{ℤ}
use Rattle.act_words.specs.declared.ending.Ending.{Ending}
use Rattle.act_words.specs.declared.settings.Settings.{Settings}
use Rattle.act_words.specs.Acts.{Act, IsAct}
use Rattle.act_words.specs.Checks.{is_word_number}
use Rattle.ckc_core.specs.declared.program.Site.{Site}
use Rattle.ckc_core.specs.Outcome.{Ends, Stuck, Unsound}
use Rattle.ckc_tree.specs.Items.{Tree}
use Rattle.built_forms.specs.Built.{is_built}
use Rattle.ckc_names_rules.specs.Naming.{naming_fault, named_of}
use Rattle.ckc_core.specs.Core.{Core}
use Rattle.ckc_core.specs.States.{State}
use Rattle.ckc_core.specs.Meaning.{meaning, audited_meaning}
use Rattle.region_typing_rules.specs.Verdicts.{Passes}
use Rattle.region_typing_rules.specs.Operands.{Places}
use Rattle.region_typing_rules.specs.Cores.{checked}

-- the program has a core: it has only forms that are built, each name has one meaning and `main` is there, and no rule is broken
pub record HasCore (at : Places) (t : Tree) (c : Core) : Type 0 where
  pub forms : is_built t ≡ true
  pub names : naming_fault t ≡ None
  pub rules : checked at (named_of t) ≡ Passes c

-- something is so of a program under all settings, with all inputs and over all acts
abbrev AtAll : (Settings → List ℤ → List Act → Type 0) → Type 0
AtAll Holds =
    (settings : Settings) (inputs : List ℤ) (acts : List Act) → All (λ z. IsTrue (is_word_number z)) inputs → All IsAct acts
    → Holds settings inputs acts

-- each pointer of the audited run is valid with its bounds
abbrev pub NeverUnsound : Core → Type 0
NeverUnsound program = AtAll (λ settings inputs acts. (site : Site) (s : State) → audited_meaning program settings inputs acts ≡ Unsound site s → ⊥)

-- the audited run is never stuck
abbrev pub NeverStuck : Core → Type 0
NeverStuck program = AtAll (λ settings inputs acts. (site : Option Site) (s : State) → audited_meaning program settings inputs acts ≡ Stuck site s → ⊥)

-- the run ends, and the audited run ends as it does
abbrev pub AlwaysEnds : Core → Type 0
AlwaysEnds program =
    AtAll (λ settings inputs acts. (ending : Ending) × (s : State) × (meaning program settings inputs acts ≡ Ends ending s)
    × (audited_meaning program settings inputs acts ≡ Ends ending s))
