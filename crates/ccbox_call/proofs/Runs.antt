-- The run of an accepted program ends, and its code ends in the same way.
use Rattle.std.proofs.Common.{◌≡◌, ℕ, ◌+◌, ◌-◌, ◌≤◌, false, ℤ, List, [], ◌∷◌, length, Option, Some, None, option_map, refl, ap, ◌∙◌, subst, arith}
use Rattle.std.specs.Prelude.{All, replicate}
use Rattle.std.proofs.lemmas.List.{replicate-append-replicate}
use Rattle.ckc_text.specs.Places.{place_at}
use Rattle.ckc_io.specs.Files.{Files, file_at}
use Rattle.ckc_lexer.proofs.Next.{few_tokens}
use Rattle.ckc_parser_grammar.proofs.FewNodes.{few_nodes}
use Rattle.act_words.specs.declared.ending.Ending.{Ending}
use Rattle.act_words.specs.declared.settings.Settings.{Settings}
use Rattle.act_words.specs.Acts.{Act, IsAct, Seen}
use Rattle.act_words.specs.World.{Event, Took, Output, Released, Showed, NoAct}
use Rattle.act_words.specs.View.{due_front}
use Rattle.ckc_core.specs.Core.{Core}
use Rattle.ckc_core.specs.Programs.{parted}
use Rattle.ckc_core.specs.Outcome.{Ends}
use Rattle.ckc_core.specs.States.{State}
use Rattle.ckc_core.specs.Meaning.{meaning}
use Rattle.check_insertion.specs.ErasedMeaning as erased
use Rattle.check_insertion.specs.Insert.{inserted}
use Rattle.check_insertion.specs.Keeps.{Follows}
use Rattle.check_insertion.proofs.Insertions.{keeps_meaning as inserted_keeps}
use Rattle.sandbox_actor.specs.Answers.{Moment}
use Rattle.sandbox_actor.specs.ActLists.{RefusedLine, acts_of_file, lines_of}
use Rattle.run_core.specs.Moments.{due_in, due_from, before_due}
use Rattle.sandbox_actor.proofs.Acts.{are_acts}
use Rattle.code_words.specs.Runs.{memory_of}
use Rattle.lowering.specs.Correct.{IsLowerable}
use Rattle.region_typing_rules.specs.NeverStuck.{AlwaysEnds}
use Rattle.region_typing_rules.proofs.Counts.{few}
use Rattle.region_typing_rules.proofs.BodyWeights.{light}
use Rattle.region_typing_rules.proofs.Typing.{safe, typed, small}
use Rattle.region_typing_rules.proofs.Programs.{always_ends}
use Rattle.ccbox_call_words.specs.Requests.{Run, Exec, Options, request_of}
use Rattle.ccbox_call_words.proofs.Allowed.{settings_allowed, inputs_are_words, listing_settings_allowed, listing_inputs_are_words}
use Rattle.ccbox_call.specs.Acceptance.{IsAcceptedCore}
use Rattle.ccbox_call.specs.Supplies.{Supply, Listed, Own, supply_at, needed_from, needed_line}
use Rattle.ccbox_call.specs.Calls.{MayRun}
use Rattle.ccbox_call.proofs.Lowering.{IsLight, small_is_lowerable}

-- what words ask for may be run with
pub may_run : (words : List (List ℕ)) (name : List ℕ) (options : Options) → request_of words ≡ Some (Run name options) → MayRun options
may_run words name options asked = record { settings = settings_allowed words name options asked; inputs = inputs_are_words words name options asked }

pub listing_may_run : (words : List (List ℕ)) (name : List ℕ) (options : Options) → request_of words ≡ Some (Exec name options) → MayRun options
listing_may_run words name options asked = record { settings = listing_settings_allowed words name options asked; inputs = listing_inputs_are_words words name options asked }

-- the bodies of what is accepted have few nodes, since its source has few tokens
light_bodies : (c : Core) → IsAcceptedCore c → All IsLight (parted c).functions
light_bodies c a = λ k d lt.
    let x = a.1 in
    let t = x.has_tree in
    let nodes = few_nodes (length a.0) t.tokens x.tree (t.is_tree).spelled in
    omega (arith, few_tokens t.are_tokens, nodes, light (place_at a.0) x.tree c x.has_core k d lt)

-- what is accepted can be lowered, with its checks
pub lowerable : (c : Core) → IsAcceptedCore c → IsLowerable (inserted c)
lowerable c a = let x = a.1 in small_is_lowerable (parted c) (typed (place_at a.0) x.tree c x.has_core) (small (place_at a.0) x.tree c x.has_core ((x.has_tree).is_tree).low) (few (place_at a.0) x.tree c x.has_core) (light_bodies c a)

-- the run of what is accepted ends, audited or not
pub ends : (c : Core) → IsAcceptedCore c → AlwaysEnds c
ends c a = let x = a.1 in always_ends c (safe (place_at a.0) x.tree c x.has_core)

-- and so it does with its checks inserted
pub inserted_ends : (c : Core) (settings : Settings) (inputs : List ℤ) (acts : List Act) (ending : Ending) (s : State) → meaning c settings inputs acts ≡ Ends ending s → erased.meaning (inserted c) settings inputs acts ≡ Ends ending s
inserted_ends c settings inputs acts ending s h =
    subst (λ o. Follows o (erased.meaning (inserted c) settings inputs acts)) h (inserted_keeps c false settings inputs acts)

-- the acts of a supply are acts
abbrev pub AreActs : Supply → Type 0
AreActs (Listed list) = All IsAct list.acts
AreActs Own = Unit {0}

-- what files say are acts
acts_from_file : (o : Option (List ℕ)) (supply : Supply) → option_map (λ file. Listed (acts_of_file file)) o ≡ Some supply → AreActs supply
acts_from_file None supply h = absurd (cc)
acts_from_file (Some file) supply h = let same : Listed (acts_of_file file) ≡ supply = cc in subst AreActs same (are_acts 1 0 (lines_of file))

pub acts_there : (files : Files) (o : Option (List ℕ)) (supply : Supply) → supply_at files o ≡ Some supply → AreActs supply
acts_there files None supply h = let same : Own ≡ supply = cc in subst AreActs same tt
acts_there files (Some name) supply h = acts_from_file (file_at files name) supply h

-- a memory without static blocks holds zeros alone
pub no_blocks : (size : ℕ) → 65536 ≤ size → memory_of size [] ≡ replicate size 0
no_blocks size le =
    let whole : 16 + (size - 16) ≡ size = omega arith in
    replicate-append-replicate 16 (size - 16) 0 ∙ ap (λ n. replicate n 0) whole

-- the events before the first moment at which no act was left are the front that is told
due_front_of : (last : Option Seen) (events : List Event) (moment : Moment) → due_from last events ≡ Some moment → due_front events ≡ Some (before_due events)
due_front_of last [] moment h = absurd (cc)
due_front_of last (Took turn act ∷ events) moment h = ap (option_map (λ front. Took turn act ∷ front)) (due_front_of last events moment h)
due_front_of last (Output bytes ∷ events) moment h = ap (option_map (λ front. Output bytes ∷ front)) (due_front_of last events moment h)
due_front_of last (Released release ∷ events) moment h = ap (option_map (λ front. Released release ∷ front)) (due_front_of last events moment h)
due_front_of last (Showed seen ∷ events) moment h = ap (option_map (λ front. Showed seen ∷ front)) (due_front_of (Some seen) events moment h)
due_front_of last (NoAct turn ∷ events) moment h = refl

pub needed_front : (supply : Supply) (events : List Event) (refused : RefusedLine) → needed_line supply events ≡ Some refused → due_front events ≡ Some (before_due events)
needed_front Own events refused needed = absurd (cc)
needed_front (Listed list) events refused needed = by (due_in events) refl needed
  where
    by : (o : Option Moment) → due_in events ≡ o → needed_from o list ≡ Some refused → due_front events ≡ Some (before_due events)
    by None h needed = absurd (cc)
    by (Some moment) h needed = due_front_of None events moment h
