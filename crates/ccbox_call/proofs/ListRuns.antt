-- What an image's run with the acts of a list, or of its own code, comes to is an answer of that supply, and for the code of a program
-- it is what the program means over the same acts.
use Rattle.std.proofs.Common.{◌≡◌, ℕ, ℤ, inl, List, [], ◌∷◌, ◌++◌, Option, Some, None, refl, sym, ap, ◌∙◌, subst, append-nil}
use Rattle.std.specs.Prelude.{All, IsTrue}
use Rattle.ckc_text.specs.declared.code.Code.{Code}
use Rattle.ckc_io.specs.Files.{Files}
use Rattle.act_words.specs.declared.ending.Ending.{Ending}
use Rattle.act_words.specs.declared.settings.Settings.{Settings}
use Rattle.act_words.specs.Acts.{Act, Seen, IsAct}
use Rattle.act_words.specs.Checks.{is_word_number}
use Rattle.act_words.specs.Limits.{AreAllowed}
use Rattle.act_words.specs.Shown.{Shown}
use Rattle.act_words.specs.View.{acts_of}
use Rattle.act_words.specs.World.{Event, Took, Output, Released, Showed, NoAct}
use Rattle.ckc_core.specs.Core.{Core}
use Rattle.ckc_core.specs.States as meaning
use Rattle.sandbox_actor.specs.Answers.{Moment, Answer}
use Rattle.sandbox_actor.specs.Answers as actor
use Rattle.sandbox_actor.specs.ActLists.{ActList, RefusedLine, Given, ListAnswers}
use Rattle.sandbox_actor.specs.ActLists as lists
use Rattle.sandbox_actor_code.specs.Answering.{CodeState, code_at_start}
use Rattle.sandbox_actor.proofs.GivenActs.{given_front, given_ended, given_refused}
use Rattle.code_words.specs.Images.{Image}
use Rattle.code_words.specs.Paced.{is_paced}
use Rattle.code_words.specs.Table.{State}
use Rattle.code_words.specs.Runs.{CodeRun, exec, started, events_of}
use Rattle.code_words.specs.Dumps.{blocks_held}
use Rattle.code_words.proofs.Runs.{one_end, same_ending, same_last}
use Rattle.code_words.proofs.Worlds.{stay, told as acts_told}
use Rattle.lowering.specs.Correct.{KeepsMeaning, blocks_meant}
use Rattle.run_core.specs.Texts.{run_text, front_text}
use Rattle.run_core.specs.Moments.{due_from, due_in, before_due, IsDue}
use Rattle.run_core.specs.Chains.{Chain, none, more}
use Rattle.run_core.specs.Gave.{Gave}
use Rattle.run_core.specs.Runs.{Outcome, Ends, LineRefused, EndsBefore, Comes, ended, ran_out, refused, missing}
use Rattle.act_recorder.specs.Diagnostics.{act_refused_text}
use Rattle.ccbox_call_words.specs.Statuses.{status_of}
use Rattle.check_insertion.specs.Insert.{inserted}
use Rattle.ccbox_call.specs.Acceptance.{IsAcceptedCore}
use Rattle.ccbox_call.specs.Answers.{text_with, status_with, SupplyAnswer, ran}
use Rattle.ccbox_call.specs.Supplies.{Supply, Listed, Own, Supplied, FromCode, needed_from, needed_line}
use Rattle.ccbox_call.proofs.Bare.{IsBare, without_bodies, by_bare_code, are_acts_without}
use Rattle.ccbox_call.specs.Programs.{Meant, Coded, RunsTo, MeantRun, ImageRun}
use Rattle.ccbox_call.proofs.CodeEnds.{HasEnd, run_ends}
use Rattle.ccbox_call.proofs.Runs.{AreActs, inserted_ends, ends}

-- how a list answers
abbrev pub FromList : ActList → Option Files → Moment → Answer → ActList → Type 0
FromList before files moment answer after = ListAnswers before answer after

given : {files : Option Files} {image : Image} {settings : Settings} {inputs : List ℤ} {first last : ActList} {acts : List Act} → Chain FromList files image settings inputs first acts last → Given first acts last
given none = lists.none
given (more chain due step) = lists.more (given chain) step

-- ---- events behind a moment

due-append : (last : Option Seen) (xs ys : List Event) (moment : Moment) → due_from last xs ≡ Some moment → due_from last (xs ++ ys) ≡ Some moment
due-append last [] ys moment h = absurd (cc)
due-append last (Took turn act ∷ xs) ys moment h = due-append last xs ys moment h
due-append last (Output bytes ∷ xs) ys moment h = due-append last xs ys moment h
due-append last (Released release ∷ xs) ys moment h = due-append last xs ys moment h
due-append last (Showed seen ∷ xs) ys moment h = due-append (Some seen) xs ys moment h
due-append last (NoAct turn ∷ xs) ys moment h = h

before-append : (last : Option Seen) (xs ys : List Event) (moment : Moment) → due_from last xs ≡ Some moment → before_due (xs ++ ys) ≡ before_due xs
before-append last [] ys moment h = absurd (cc)
before-append last (Took turn act ∷ xs) ys moment h = ap (λ es. Took turn act ∷ es) (before-append last xs ys moment h)
before-append last (Output bytes ∷ xs) ys moment h = ap (λ es. Output bytes ∷ es) (before-append last xs ys moment h)
before-append last (Released release ∷ xs) ys moment h = ap (λ es. Released release ∷ es) (before-append last xs ys moment h)
before-append last (Showed seen ∷ xs) ys moment h = ap (λ es. Showed seen ∷ es) (before-append (Some seen) xs ys moment h)
before-append last (NoAct turn ∷ xs) ys moment h = refl

-- ---- the image's run over the list

-- the text of a run that ended is that of an answer, and that of a run that needs a refused line is the front of one
pub data Answers (IsAnswer : List ℕ → ℕ → Type 0) (text : List ℕ) : Outcome → Type 0 where
  whole : (ending : Ending) → IsAnswer text (status_of ending) → Answers IsAnswer text (Ends ending)
  front : (line : ℕ) (code : Code) → IsAnswer (text ++ act_refused_text line code) 8 → Answers IsAnswer text (LineRefused line code)

module _ (image : Image) (settings : Settings) (inputs : List ℤ) (list : ActList) (paced : IsTrue (is_paced image)) where
  abbrev pub OfList : List ℕ → ℕ → Type 0
  OfList = SupplyAnswer (Coded image) settings inputs (Listed list)

  -- an answer of the list, by the line that is needed
  answer_with : (ending : Ending) (t : State) (needed : Option RefusedLine) → CodeRun image settings inputs list.acts ending t → needed_line (Listed list) t.world.events ≡ needed → OfList (text_with settings needed t.world.events ending (blocks_held t)) (status_with needed ending)
  answer_with ending t needed run is_needed =
      subst (λ x. OfList (text_with settings x t.world.events ending (blocks_held t)) (status_with x ending)) is_needed
      (ran list.acts ending t.world.events (blocks_held t) (record { last = t; runs = run; events_are = refl; blocks_are = refl }) refl)

  -- no line is needed where none is refused
  nothing_needed : (o : Option Moment) → list.refused ≡ None → needed_from o list ≡ None
  nothing_needed None h = refl
  nothing_needed (Some moment) h = h

  ended_answers : (last : ActList) (ending : Ending) (acts : List Act) (events : List Event) (blocks : List Shown) → Given list acts last → EndsBefore image settings inputs acts ending events blocks → Answers OfList (run_text settings events ending blocks) (Ends ending)
  ended_answers last ending acts events blocks g e =
      let r = e.runs last.acts in
      let same : acts ++ last.acts ≡ list.acts = ap (λ (l : ActList). l.acts) (sym (given_front g)) in
      let none : needed_line (Listed list) (r.0).world.events ≡ None = ap (λ o. needed_from o list) (ap due_in r.3 ∙ e.undue) in
      let there = answer_with ending r.0 None (subst (λ xs. CodeRun image settings inputs xs ending r.0) same r.1) none in
      let with_events = subst (λ es. OfList (run_text settings es ending (blocks_held r.0)) (status_of ending)) r.3 there in
      whole ending (subst (λ bs. OfList (run_text settings events ending bs) (status_of ending)) r.4 with_events)

  out_answers : (mid last : ActList) (ending : Ending) (acts : List Act) (t : State) → Given list acts mid → ListAnswers mid actor.Ended last → CodeRun image settings inputs acts ending t → Answers OfList (run_text settings t.world.events ending (blocks_held t)) (Ends ending)
  out_answers mid last ending acts t g step run =
      let is_list = given_ended g step in
      let same : acts ≡ list.acts = ap (λ (l : ActList). l.acts) (sym is_list) in
      let none = nothing_needed (due_in t.world.events) (ap (λ (l : ActList). l.refused) is_list) in
      whole ending (answer_with ending t None (subst (λ xs. CodeRun image settings inputs xs ending t) same run) none)

  refused_answers : (mid last : ActList) (line : ℕ) (code : Code) (moment : Moment) (acts : List Act) (events : List Event) → Given list acts mid → IsDue image settings inputs acts moment events → ListAnswers mid (actor.Refused line code) last → Answers OfList (front_text settings events) (LineRefused line code)
  refused_answers mid last line code moment acts events g due step =
      let is_list = given_refused g step in
      let same : acts ≡ list.acts = ap (λ (l : ActList). l.acts) (sym is_list) in
      let end : HasEnd image settings paced (started image settings inputs list.acts) = run_ends image settings paced inputs list.acts in
      let run : CodeRun image settings inputs list.acts end.ending end.last = (end.steps, end.ends) in
      let so_far : List Event = events_of (exec image settings due.steps (started image settings inputs acts)) in
      let later = stay image settings inputs acts due.steps end.ending end.last (subst (λ xs. CodeRun image settings inputs xs end.ending end.last) (sym same) run) in
      let is_due : due_in (end.last).world.events ≡ Some moment = ap due_in later.1 ∙ due-append None so_far later.0 moment due.due in
      let is_before : before_due (end.last).world.events ≡ events = ap before_due later.1 ∙ before-append None so_far later.0 moment due.due ∙ sym due.before in
      let needed : needed_line (Listed list) (end.last).world.events ≡ Some (record { line = line; code = code }) = ap (λ o. needed_from o list) is_due ∙ ap (λ (l : ActList). l.refused) is_list in
      let a = answer_with end.ending end.last (Some (record { line = line; code = code })) run needed in
      front line code (subst (λ es. OfList (front_text settings es ++ act_refused_text line code) 8) is_before a)

  pub answers : {files : Option Files} {last : ActList} {outcome : Outcome} {text : List ℕ} → Comes FromList files image settings inputs list last outcome text → Answers OfList text outcome
  answers (ended {last = last} {ending = ending} acts events blocks chain gave e) = ended_answers last ending acts events blocks (given chain) e
  answers (ran_out {mid = mid} {last = last} {ending = ending} acts t chain due step run) = out_answers mid last ending acts t (given chain) step run
  answers (refused {mid = mid} {last = last} {line = line} {code = code} {moment = moment} acts events chain due step) = refused_answers mid last line code moment acts events (given chain) due step
  answers (missing acts events chain due step) = absurd step

-- ---- the image's run with its own code

-- no files are told to code
untold : (files : Option Files) (before after : CodeState) (last : Option Seen) (events : List Event) → Gave FromCode files before last events after → Gave FromCode None before last events after
untold files before after last [] h = h
untold files before after last (Took turn act ∷ events) h = (h.0, h.1, untold files h.0 after last events h.2)
untold files before after last (Output bytes ∷ events) h = untold files before after last events h
untold files before after last (Released release ∷ events) h = untold files before after last events h
untold files before after last (Showed seen ∷ events) h = untold files before after (Some seen) events h
untold files before after last (NoAct turn ∷ events) h = absurd h

module _ (image : Image) (settings : Settings) (inputs : List ℤ) where
  abbrev pub OfOwn : List ℕ → ℕ → Type 0
  OfOwn = SupplyAnswer (Coded image) settings inputs Own

  own_ended : (files : Option Files) (last : CodeState) (ending : Ending) (acts : List Act) (events : List Event) (blocks : List Shown) → Gave FromCode files (code_at_start image settings.budget) None events last → EndsBefore image settings inputs acts ending events blocks → Answers OfOwn (run_text settings events ending blocks) (Ends ending)
  own_ended files last ending acts events blocks gave e =
      let r = e.runs [] in
      let told = acts_told image settings inputs (acts ++ []) ending r.0 r.1 in
      let all : acts ++ [] ≡ acts_of events = told ∙ ap (λ left. acts_of (r.0).world.events ++ left) r.2 ∙ append-nil (acts_of (r.0).world.events) ∙ ap acts_of r.3 in
      whole ending (ran (acts ++ []) ending events blocks (record { last = r.0; runs = r.1; events_are = r.3; blocks_are = r.4 }) (all, (last, untold files (code_at_start image settings.budget) last None events gave)))

  pub own_answers : {files : Option Files} {last : CodeState} {outcome : Outcome} {text : List ℕ} → Comes FromCode files image settings inputs (code_at_start image settings.budget) last outcome text → Answers OfOwn text outcome
  own_answers {files} (ended {last = last} {ending = ending} acts events blocks chain gave e) = own_ended files last ending acts events blocks gave e
  own_answers (ran_out acts t chain due step run) = absurd step
  own_answers (refused acts events chain due step) = absurd step
  own_answers (missing acts events chain due step) = absurd step

-- ---- the program's run over the same acts

module _ (c : Core) (image : Image) (settings : Settings) (inputs : List ℤ) (acts : List Act) (is : IsAcceptedCore c) (keeps : KeepsMeaning (inserted c) image) (allowed : AreAllowed settings) (are_words : All (λ z. IsTrue (is_word_number z)) inputs) (are : All IsAct acts) where
  -- what the code's run over the acts comes to is what the program's run does
  pub record MeantEnd (ending : Ending) (t : State) : Type 0 where
    pub state : meaning.State
    pub runs : RunsTo c settings inputs acts ending state
    pub events : state.world.events ≡ t.world.events
    pub blocks : blocks_meant settings.base state ≡ blocks_held t

  pub meant : (ending : Ending) (t : State) → CodeRun image settings inputs acts ending t → MeantEnd ending t
  meant ending t run =
      let e = ends c is settings inputs acts are_words are in
      let r = keeps.ends settings inputs acts e.0 e.1 allowed are_words are (inserted_ends c settings inputs acts e.0 e.1 e.2) in
      let both = one_end image settings run.0 (r.1).0 (started image settings inputs acts) ending e.0 t r.0 run.1 (r.1).1 in
      let last : t ≡ r.0 = same_last ending e.0 t r.0 both in
      record {
        state = e.1;
        runs = subst (λ x. RunsTo c settings inputs acts x e.1) (sym (same_ending ending e.0 t r.0 both)) e.2;
        events = ap (λ w. w.events) (sym (r.2).world) ∙ ap (λ (u : State). u.world.events) (sym last);
        blocks = sym (r.2).blocks ∙ ap blocks_held (sym last);
      }

  meant_run : (ending : Ending) (events : List Event) (blocks : List Shown) → ImageRun image settings inputs acts ending events blocks → MeantRun c settings inputs acts ending events blocks
  meant_run ending events blocks r =
      let m = meant ending r.last r.runs in
      record { last = m.state; runs = m.runs; events_are = m.events ∙ r.events_are; blocks_are = m.blocks ∙ r.blocks_are }

module _ (c : Core) (image : Image) (settings : Settings) (inputs : List ℤ) (is : IsAcceptedCore c) (keeps : KeepsMeaning (inserted c) image) (bare : image.sandbox.funs ≡ []) (allowed : AreAllowed settings) (are_words : All (λ z. IsTrue (is_word_number z)) inputs) where
  start_bare : IsBare (code_at_start image settings.budget)
  start_bare = record { bare = bare; idle = inl refl }

  -- what the code does by itself, the sandbox of the program does
  pub own_of_source : (acts : List Act) (events : List Event) → Supplied (Coded image) settings Own acts events → Supplied (Meant c) settings Own acts events
  own_of_source acts events h = (h.0, without_bodies None (code_at_start image settings.budget) (h.1).0 None events start_bare (h.1).1)

  pub own_of_code : (acts : List Act) (events : List Event) → Supplied (Meant c) settings Own acts events → Supplied (Coded image) settings Own acts events
  own_of_code acts events h = (h.0, by_bare_code (code_at_start image settings.budget) None events start_bare h.1)

  pub own_are_acts : (acts : List Act) (events : List Event) → Supplied (Meant c) settings Own acts events → All IsAct acts
  own_are_acts acts events h = subst (All IsAct) (sym h.0) (are_acts_without None events h.1)

  -- so an answer of its code is its answer
  pub meant_answer : (supply : Supply) → AreActs supply → {text : List ℕ} {status : ℕ} → SupplyAnswer (Coded image) settings inputs supply text status → SupplyAnswer (Meant c) settings inputs supply text status
  meant_answer (Listed list) are (ran acts ending events blocks r from) = ran acts ending events blocks (meant_run c image settings inputs acts is keeps allowed are_words (subst (All IsAct) (sym from) are) ending events blocks r) from
  meant_answer Own are (ran acts ending events blocks r from) =
      let h = own_of_source acts events from in
      ran acts ending events blocks (meant_run c image settings inputs acts is keeps allowed are_words (own_are_acts acts events h) ending events blocks r) h
