-- What is known between two mentions, and what mentions in their order make of it.
use Rattle.std.specs.Prelude.{◌≡◌, ℕ, List, [], Result, Ok, Err}
use Rattle.ckc_text.specs.declared.fault.Refused.{Refused}
use Rattle.ckc_text.specs.declared.fault.Refused.TheVariants.{Source, NoMemory}
use Rattle.ckc_names_rules.specs.Mentions.{Mention}
use Rattle.ckc_names_rules.specs.Scopes.{Block, Scopes, all_mentioned}
use Rattle.ckc_names_rules.specs.Naming.{names_seen}

-- what is visible, and the names that were seen so far, each once
pub record State : Type 0 where
  pub scopes : Scopes
  pub names : List (List ℕ)

-- with nothing open yet
abbrev pub nothing_known : State
nothing_known = record { scopes = record { blocks = []; tags = [] }; names = [] }

-- the same with other blocks
abbrev pub with_blocks : List Block → State → State
with_blocks blocks s = record { scopes = record { blocks = blocks; tags = s.scopes.tags }; names = s.names }

-- the same with other tags
abbrev pub with_tags : List (List ℕ) → State → State
with_tags tags s = record { scopes = record { blocks = s.scopes.blocks; tags = tags }; names = s.names }

-- the same with other names
abbrev pub with_names : List (List ℕ) → State → State
with_names names s = record { scopes = s.scopes; names = names }

abbrev goes_so : List Mention → State → Result (Unit {0}) Refused → State → Type 0
goes_so mentions old (Ok done) new = (all_mentioned mentions old.scopes ≡ Ok new.scopes) × (names_seen mentions old.names ≡ new.names)
goes_so mentions old (Err (Source fault)) new = all_mentioned mentions old.scopes ≡ Err fault
goes_so mentions old (Err NoMemory) new = Unit {0}

-- what going over mentions answers, and what is known behind them: the first fault, if there is one
pub record Goes (mentions : List Mention) (old : State) (result : Result (Unit {0}) Refused) (new : State) : Type 0 where
  pub so : goes_so mentions old result new
