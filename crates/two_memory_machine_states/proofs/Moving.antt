-- From what a part of a call does to the table's move.
use Rattle.std.proofs.Common.{◌≡◌, ℕ, ℤ, ◌++◌, pos, Bool, true, false, List, [], ◌∷◌, Option, Some, None, refl, sym, ap, subst, ◌∙◌}
use Rattle.std.specs.Prelude.{slice_get}
use Rattle.ckc_text.specs.declared.place.Place.{Place}
use Rattle.act_words.specs.declared.act.Turn.TheVariants as turns
use Rattle.act_words.specs.declared.ending.Ending.{Ending}
use Rattle.act_words.specs.declared.settings.Settings.{Settings}
use Rattle.act_words.specs.Acts.{Act}
use Rattle.act_words.specs.World
use Rattle.act_words.specs.World.{World, Took, NoAct}
use Rattle.act_words.specs.Acting.{BeforeTouch, InSandbox, act_before_touch, act_in_sandbox, sandbox_ended}
use Rattle.act_words.specs.Numbers.{word}
use Rattle.code_words.specs.declared.op.Op.{Op}
use Rattle.code_words.specs.declared.op.Op.TheVariants as ops
use Rattle.code_words.specs.Functions.{Func}
use Rattle.code_words.specs.declared.image.Image.{Image}
use Rattle.code_words.specs.Table.{Frame, Touch, State, Step, Goes, Over, wild, push, act}
use Rattle.code_words.specs.Moves.{move, make_touch, before_touch_by, in_sandbox_by, in_world}
use Rattle.two_memory_machine_states.specs.declared.event.Event.{Event}
use Rattle.two_memory_machine_states.specs.declared.event.Event.TheVariants.{Ran, Asks, Input, Out, Showed, Touched, Ended}
use Rattle.two_memory_machine_states.specs.declared.event.Waiting.TheVariants as waiting
use Rattle.two_memory_machine_states.specs.Machines.{Machine, with_one, Doing, Running, NeedsNumber, HasNumber, Touching, Suspended, Gives, TellsStep, TellsAct, StepsIf, Steps, TakesAct, TakesEnd, TakesNoNumber, is_input, waits_for_number, next_op_of, state_of, world_of, turn_of, waiting_for, ending_given}
use Rattle.two_memory_machine_states.specs.declared.outcome.Outcome.{Outcome}
use Rattle.two_memory_machine_states.specs.declared.outcome.Outcome.TheVariants as outcomes
use Rattle.two_memory_machine_states.specs.Steps.{EventBy, GoesBy, Brings, IsIn, IsGivenTo, Tells, event_of, MovesBy}

-- a machine of the same image
pub gives_at : (Tells : Event → Doing → Type 0) (acts : List Act) (inputs : List ℤ) (events : List World.Event) (step : Step) (old mid new : Machine) (event : Event) → mid.image ≡ old.image → mid.settings ≡ old.settings → Gives Tells acts inputs events step mid event new → Gives Tells acts inputs events step old event new
gives_at Tells acts inputs events (Goes s) old mid new event e h g = (g.0, g.1, g.2, (g.3.0 ∙ e, g.3.1 ∙ h))
gives_at Tells acts inputs events (Over ending s) old mid new event e h g = (g.0, g.1, g.2, g.3, g.4, (g.5.0 ∙ e, g.5.1 ∙ h))

-- ---- the run is over just where the event says so

step_goes : (event : Event) (doing : Doing) → TellsStep event doing → ending_given event ≡ None
step_goes Ran doing h = refl
step_goes Asks doing h = refl
step_goes Input doing h = absurd h
step_goes (Out bytes) doing h = refl
step_goes (Showed seen) doing h = absurd h
step_goes (Touched release seen) doing h = absurd h
step_goes (Ended ending) doing h = absurd h

act_goes : (event : Event) (doing : Doing) → TellsAct event doing → ending_given event ≡ None
act_goes Ran doing h = refl
act_goes Asks doing h = absurd h
act_goes Input doing h = absurd h
act_goes (Out bytes) doing h = absurd h
act_goes (Showed seen) doing h = refl
act_goes (Touched release seen) doing h = refl
act_goes (Ended ending) doing h = absurd h

pub step_over : (acts : List Act) (inputs : List ℤ) (events : List World.Event) (step : Step) (old new : Machine) (event : Event) → Gives TellsStep acts inputs events step old event new → new.over ≡ ending_given event
step_over acts inputs events (Goes s) old new event g = g.2 ∙ sym (step_goes event new.doing g.1)
step_over acts inputs events (Over ending s) old new event g = g.1 ∙ sym (ap ending_given g.0)

pub act_over : (acts : List Act) (inputs : List ℤ) (events : List World.Event) (step : Step) (old new : Machine) (event : Event) → Gives TellsAct acts inputs events step old event new → new.over ≡ ending_given event
act_over acts inputs events (Goes s) old new event g = g.2 ∙ sym (act_goes event new.doing g.1)
act_over acts inputs events (Over ending s) old new event g = g.1 ∙ sym (ap ending_given g.0)

-- ---- steps

-- the instruction that stands next is that of the innermost function
pub record StandsIn (m : Machine) (op : Op) : Type 0 where
  pub f : Func
  pub here : IsIn m f
  pub stands : slice_get f.ops m.frame.next ≡ Some op

pub stands_in : (m : Machine) (op : Op) → next_op_of m ≡ Some op → StandsIn m op
stands_in m op e = by (slice_get m.image.trusted.funs m.frame.function) refl
  where
    by : (f : Option Func) → slice_get m.image.trusted.funs m.frame.function ≡ f → StandsIn m op
    by None here = absurd (cc (rw here at e))
    by (Some f) here = record { f = f; here = here; stands = rw here at e }

line_moves : (m : Machine) (f : Func) (op : Op) (acts : List Act) (inputs : List ℤ) (events : List World.Event) → m.doing ≡ Running → IsIn m f → slice_get f.ops m.frame.next ≡ Some op → move m.image m.settings (state_of m acts inputs events) ≡ act m.image m.settings f op m.frame (state_of m acts inputs events)
line_moves m f op acts inputs events runs here stands = rw (runs, here, stands) refl

-- the step is of this kind
of_kind : (old new : Machine) (event : Event) (b : Bool) → waits_for_number old.doing (next_op_of old) ≡ b → StepsIf b old event new → StepsIf (waits_for_number old.doing (next_op_of old)) old event new
of_kind old new event b e h = subst (λ c. StepsIf c old event new) (sym e) h

kind_of : (old : Machine) (op : Option Op) → old.doing ≡ Running → next_op_of old ≡ op → waits_for_number old.doing (next_op_of old) ≡ is_input op
kind_of old op runs next = ap (λ doing. waits_for_number doing (next_op_of old)) runs ∙ ap is_input next

no_number : (old new : Machine) (event : Event) → old.doing ≡ Running → old.doing ≡ HasNumber (pos 0) → TakesNoNumber old event new
no_number old new event runs given = absurd (let no : Running ≡ HasNumber (pos 0) = sym runs ∙ given in cc)

pub steps_from : (old new : Machine) (event : Event) (op : Op) → old.doing ≡ Running → next_op_of old ≡ Some op → is_input (Some op) ≡ false → Tells op old event new → Steps old event new
steps_from old new event op runs next other tells =
    record {
      makes = of_kind old new event false (kind_of old (Some op) runs next ∙ other) (λ acts inputs events.
          let s = stands_in old op next in
          subst (λ line. Gives TellsStep acts inputs events line old event new) (sym (line_moves old s.f op acts inputs events runs s.here s.stands)) (tells s.f s.here acts inputs events));
      none_left = no_number old new event runs;
    }

-- an instruction that waits for a number
pub steps_waits : (old new : Machine) (event : Event) → old.doing ≡ Running → next_op_of old ≡ Some ops.NextInput → event ≡ Input → new ≡ record old { doing = NeedsNumber } → Steps old event new
steps_waits old new event runs next told is =
    record { makes = of_kind old new event true (kind_of old (Some ops.NextInput) runs next) (told, is); none_left = no_number old new event runs }

-- an outcome told by its event
pub gives_told : (acts : List Act) (inputs : List ℤ) (events : List World.Event) (step : Step) (old new : Machine) (outcome : Outcome) → Brings acts inputs events step old outcome new → Gives TellsStep acts inputs events step old (event_of outcome new.over) new
gives_told acts inputs events (Goes s) old new outcome brings = by outcome brings
  where
    by : (o : Outcome) → Brings acts inputs events (Goes s) old o new → Gives TellsStep acts inputs events (Goes s) old (event_of o new.over) new
    by outcomes.Ran b = b
    by outcomes.Asks b = b
    by outcomes.Ended b = absurd b.1
gives_told acts inputs events (Over ending s) old new outcome brings = rw (brings.0, brings.1) (refl, refl, brings.2, brings.3, brings.4, brings.5)

pub event_told : (line : State → Step) (old new : Machine) (event : Event) (outcome : Outcome) → event ≡ event_of outcome new.over → GoesBy line old outcome new → EventBy line old event new
event_told line old new event outcome told goes = rw told (λ acts inputs events. gives_told acts inputs events _ old new outcome (goes acts inputs events))

pub tells_over : (old new : Machine) (event : Event) (op : Op) → next_op_of old ≡ Some op → Tells op old event new → new.over ≡ ending_given event
tells_over old new event op next tells = let s = stands_in old op next in step_over [] [] [] _ old new event (tells s.f s.here [] [] [])

-- where no instruction stands, the step is wild
pub steps_wild : (old new : Machine) (event : Event) → old.doing ≡ Running → next_op_of old ≡ None → EventBy wild old event new → Steps old event new
steps_wild old new event runs next goes =
    record {
      makes = of_kind old new event false (kind_of old None runs next) (λ acts inputs events. by (slice_get old.image.trusted.funs old.frame.function) refl acts inputs events);
      none_left = no_number old new event runs;
    }
  where
    by : (f : Option Func) → slice_get old.image.trusted.funs old.frame.function ≡ f → EventBy (move old.image old.settings) old event new
    by None here = λ acts inputs events.
        let line : move old.image old.settings (state_of old acts inputs events) ≡ wild (state_of old acts inputs events) = rw (runs, here) refl in
        rw line (goes acts inputs events)
    by (Some f) here = λ acts inputs events.
        let none : slice_get f.ops old.frame.next ≡ None = rw here at next in
        let line : move old.image old.settings (state_of old acts inputs events) ≡ wild (state_of old acts inputs events) = rw (runs, here, none) refl in
        rw line (goes acts inputs events)

-- ---- acts

before_in : (image : Image) (f : Frame) (touch : Touch) (r : BeforeTouch) (u : World) (s : State) → before_touch_by image f touch r (in_world u s) ≡ before_touch_by image f touch r s
before_in image f touch (BeforeTouch.Waits w) u s = refl
before_in image f touch (BeforeTouch.Touches w) u s = refl
before_in image f touch (BeforeTouch.Ends ending w) u s = refl

sandbox_in : (image : Image) (settings : Settings) (r : InSandbox) (u : World) (s : State) → in_sandbox_by image settings r (in_world u s) ≡ in_sandbox_by image settings r s
sandbox_in image settings (InSandbox.Keeps w) u s = refl
sandbox_in image settings (InSandbox.Answers word w) u s = refl
sandbox_in image settings (InSandbox.Calls k words w) u s = refl
sandbox_in image settings (InSandbox.Ends ending w) u s = refl

pub takes_before : (old new : Machine) (event : Event) (touch : Touch) (a : Act) → old.doing ≡ Touching touch →
    MovesBy (λ s. before_touch_by old.image old.frame touch (act_before_touch a s.world) s) (with_one old) event new → TakesAct old a event new
takes_before old new event touch a e moves = λ acts inputs events.
    let s = state_of old (a ∷ acts) inputs events in
    let es = events ++ Took turns.Trusted a ∷ [] in
    let w = world_of (with_one old) acts inputs es in
    let line : move old.image old.settings s ≡ before_touch_by old.image old.frame touch (act_before_touch a w) s = rw e refl in
    subst (λ turn. Gives TellsAct acts inputs (events ++ Took turn a ∷ []) (move old.image old.settings s) old event new) (sym (ap turn_of e))
    (subst (λ step. Gives TellsAct acts inputs es step old event new) (sym (line ∙ sym (before_in old.image old.frame touch (act_before_touch a w) w s)))
    (gives_at TellsAct acts inputs es _ old (with_one old) new event refl refl (moves acts inputs es)))

pub takes_in_sandbox : (old new : Machine) (event : Event) (import : ℕ) (place : Place) (a : Act) → old.doing ≡ Suspended import place →
    MovesBy (λ s. in_sandbox_by old.image old.settings (act_in_sandbox a s.world) s) (with_one old) event new → TakesAct old a event new
takes_in_sandbox old new event import place a e moves = λ acts inputs events.
    let s = state_of old (a ∷ acts) inputs events in
    let es = events ++ Took turns.Sandbox a ∷ [] in
    let w = world_of (with_one old) acts inputs es in
    let line : move old.image old.settings s ≡ in_sandbox_by old.image old.settings (act_in_sandbox a w) s = rw e refl in
    subst (λ turn. Gives TellsAct acts inputs (events ++ Took turn a ∷ []) (move old.image old.settings s) old event new) (sym (ap turn_of e))
    (subst (λ step. Gives TellsAct acts inputs es step old event new) (sym (line ∙ sym (sandbox_in old.image old.settings (act_in_sandbox a w) w s)))
    (gives_at TellsAct acts inputs es _ old (with_one old) new event refl refl (moves acts inputs es)))

pub takes_end : (old new : Machine) (event : Event) (touch : Touch) → old.doing ≡ Touching touch → MovesBy (make_touch old.image old.frame touch) old event new → TakesEnd old event new
takes_end old new event touch e moves = λ inputs events.
    let told = moves [] inputs (events ++ NoAct turns.Trusted ∷ []) in
    let line : move old.image old.settings (state_of old [] inputs events) ≡ make_touch old.image old.frame touch (state_of old [] inputs (events ++ NoAct turns.Trusted ∷ [])) = rw e refl in
    subst (λ turn. Gives TellsAct [] inputs (events ++ NoAct turn ∷ []) (move old.image old.settings (state_of old [] inputs events)) old event new) (sym (ap turn_of e))
    (subst (λ step. Gives TellsAct [] inputs (events ++ NoAct turns.Trusted ∷ []) step old event new) (sym line) told)

pub takes_sandbox_end : (old new : Machine) (event : Event) (import : ℕ) (place : Place) → old.doing ≡ Suspended import place → MovesBy (Over sandbox_ended) old event new → TakesEnd old event new
takes_sandbox_end old new event import place e moves = λ inputs events.
    let told = moves [] inputs (events ++ NoAct turns.Sandbox ∷ []) in
    let line : move old.image old.settings (state_of old [] inputs events) ≡ Over sandbox_ended (state_of old [] inputs (events ++ NoAct turns.Sandbox ∷ [])) = rw e refl in
    subst (λ turn. Gives TellsAct [] inputs (events ++ NoAct turn ∷ []) (move old.image old.settings (state_of old [] inputs events)) old event new) (sym (ap turn_of e))
    (subst (λ step. Gives TellsAct [] inputs (events ++ NoAct turns.Sandbox ∷ []) step old event new) (sym line) told)

-- ---- what a machine waits for

-- an instruction is next, and a number was given if it takes one
pub data IsNext : Doing → Type 0 where
  at_run : IsNext Running
  at_number : (number : ℤ) → IsNext (HasNumber number)

pub runs_of : (over : Option Ending) (doing : Doing) → waiting_for over doing ≡ waiting.Runs → (over ≡ None) × IsNext doing
runs_of (Some ending) doing h = absurd (cc)
runs_of None Running h = (refl, IsNext.at_run)
runs_of None NeedsNumber h = absurd (cc)
runs_of None (HasNumber number) h = (refl, IsNext.at_number number)
runs_of None (Touching touch) h = absurd (cc)
runs_of None (Suspended import place) h = absurd (cc)

pub number_of : (over : Option Ending) (doing : Doing) → waiting_for over doing ≡ waiting.Number → (over ≡ None) × (doing ≡ NeedsNumber)
number_of (Some ending) doing h = absurd (cc)
number_of None Running h = absurd (cc)
number_of None NeedsNumber h = (refl, refl)
number_of None (HasNumber number) h = absurd (cc)
number_of None (Touching touch) h = absurd (cc)
number_of None (Suspended import place) h = absurd (cc)

-- no number was given where another instruction is next
pub runs_other : (doing : Doing) (op : Option Op) → IsNext doing → IsGivenTo doing op → is_input op ≡ false → doing ≡ Running
runs_other Running op next given other = refl
runs_other (HasNumber number) op next given other = absurd (let no : true ≡ false = rw given at other in cc)
runs_other NeedsNumber op next given other = absurd (elim next [ ])
runs_other (Touching touch) op next given other = absurd (elim next [ ])
runs_other (Suspended import place) op next given other = absurd (elim next [ ])

-- ---- input numbers

-- the instruction takes the number that was given
pub takes_number : (old new : Machine) (event : Event) (f : Func) (number : ℤ) → old.doing ≡ HasNumber number → IsIn old f → slice_get f.ops old.frame.next ≡ Some ops.NextInput →
    EventBy (push f (word number) old.frame.stack old.frame) (record old { doing = Running }) event new → Steps old event new
takes_number old new event f number holds here stands goes =
    record {
      makes = of_kind old new event false (ap (λ doing. waits_for_number doing (next_op_of old)) holds) (λ acts inputs events.
          let line : move old.image old.settings (state_of old acts inputs events) ≡ push f (word number) old.frame.stack old.frame (state_of (record old { doing = Running }) acts inputs events) = rw (holds, here, stands) refl in
          subst (λ step. Gives TellsStep acts inputs events step old event new) (sym line) (gives_at TellsStep acts inputs events _ old (record old { doing = Running }) new event refl refl (goes acts inputs events)));
      none_left = λ given acts events.
          let zero : number ≡ pos 0 = let same : HasNumber number ≡ HasNumber (pos 0) = sym holds ∙ given in cc in
          let line : move old.image old.settings (state_of (record old { doing = NeedsNumber }) acts [] events) ≡ push f (word number) old.frame.stack old.frame (state_of (record old { doing = Running }) acts [] events) = rw (here, stands, zero) refl in
          subst (λ step. Gives TellsStep acts [] events step old event new) (sym line) (gives_at TellsStep acts [] events _ old (record old { doing = Running }) new event refl refl (goes acts [] events));
    }
