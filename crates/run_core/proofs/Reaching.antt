-- Runs that come to where a machine stands, and on from there.
use Rattle.std.proofs.Common.{◌≡◌, ℕ, ℤ, pos, Bool, true, false, zero, suc, List, [], ◌∷◌, ◌++◌, Option, Some, None, refl, sym, ap, ◌∙◌, subst, append-nil}
use Rattle.act_words.specs.declared.ending.Ending.{Ending}
use Rattle.act_words.specs.declared.settings.Settings.{Settings}
use Rattle.act_words.specs.Acts.{Act}
use Rattle.act_words.specs.World.{Event}
use Rattle.code_words.specs.declared.image.Image.{Image}
use Rattle.code_words.specs.Table.{State, Step, Goes, Over}
use Rattle.code_words.specs.Moves.{move}
use Rattle.code_words.specs.Runs.{Run, Unfinished, Finished, exec, go_on}
use Rattle.two_memory_machine.specs.declared.event.Event.{Event as MachineEvent}
use Rattle.two_memory_machine.specs.declared.event.Event.TheVariants as told_by
use Rattle.two_memory_machine.specs.declared.event.Waiting.TheVariants as waiting
use Rattle.two_memory_machine.specs.Machines.{Machine, Doing, Running, NeedsNumber, HasNumber, Touching, Suspended, Gives, TellsStep, Steps as MachineSteps, StepsIf, IsOfSame, state_of, waiting_of, waiting_for, waits_for_number, told_behind, next_op_of}
use Rattle.two_memory_machine.proofs.Moving.{gives_at, number_of}
use Rattle.two_memory_machine.specs.Running.{StepsOn}
use Rattle.run_core.specs.Inputs.{TakesInput}
use Rattle.run_core.specs.Progress.{IsAt, Reaches, Leads, told}

-- what an event tells stands behind the events
pub told_is : (event : MachineEvent) (events : List Event) → told_behind event events ≡ events ++ told event
told_is told_by.Ran events = sym (append-nil events)
told_is told_by.Asks events = sym (append-nil events)
told_is told_by.Input events = sym (append-nil events)
told_is (told_by.Out bytes) events = refl
told_is (told_by.Showed seen) events = refl
told_is (told_by.Touched release None) events = refl
told_is (told_by.Touched release (Some seen)) events = refl
told_is (told_by.Ended ending) events = sym (append-nil events)

-- one move more
pub one_more : (image : Image) (settings : Settings) (n : ℕ) (s u : State) → exec image settings n s ≡ Unfinished u → exec image settings (suc n) s ≡ go_on (move image settings u) Unfinished
one_more image settings zero s u e = let same : s ≡ u = cc in ap (λ t. go_on (move image settings t) Unfinished) same
one_more image settings (suc n) s u e = by (move image settings s) (λ t h. one_more image settings n t u h) e
  where
    by : (x : Step) → ((t : State) → exec image settings n t ≡ Unfinished u → exec image settings (suc n) t ≡ go_on (move image settings u) Unfinished) → go_on x (exec image settings n) ≡ Unfinished u → go_on x (exec image settings (suc n)) ≡ go_on (move image settings u) Unfinished
    by (Goes t) more h = more t h
    by (Over ending t) more h = absurd (cc)

-- where a move of the table leads
landed : (Tells : MachineEvent → Doing → Type 0) (acts : List Act) (inputs : List ℤ) (events : List Event) (step : Step) (old new : Machine) (event : MachineEvent) → Gives Tells acts inputs events step old event new → IsAt (go_on step Unfinished) new acts inputs (told_behind event events)
landed Tells acts inputs events (Goes t) old new event gives = (gives.2, gives.0)
landed Tells acts inputs events (Over ending t) old new event gives = rw gives.0 (gives.1, gives.2, gives.3, gives.4)

-- from where a machine stands, one move on
pub reached : (Tells : MachineEvent → Doing → Type 0) (s : State) (old new : Machine) (event : MachineEvent) (acts acts' : List Act) (inputs inputs' : List ℤ) (events events' : List Event) → old.over ≡ None → Gives Tells acts' inputs' events' (move old.image old.settings (state_of old acts inputs events)) old event new → Reaches old.image old.settings s old acts inputs events → Reaches old.image old.settings s new acts' inputs' (told_behind event events')
reached Tells s old new event acts acts' inputs inputs' events events' going gives r = by (exec old.image old.settings r.moves s) refl r.there
  where
    by : (run : Run) → exec old.image old.settings r.moves s ≡ run → IsAt run old acts inputs events → Reaches old.image old.settings s new acts' inputs' (told_behind event events')
    by (Unfinished u) e at =
        let here : exec old.image old.settings r.moves s ≡ Unfinished (state_of old acts inputs events) = e ∙ ap Unfinished at.1 in
        record {
          moves = suc r.moves;
          there = rw (one_more old.image old.settings r.moves s (state_of old acts inputs events) here) (landed Tells acts' inputs' events' (move old.image old.settings (state_of old acts inputs events)) old new event gives);
        }
    by (Finished ending t) e at = absurd (let no : None ≡ Some ending = sym going ∙ at.0 in cc)

pub gives_same : (Tells : MachineEvent → Doing → Type 0) (acts : List Act) (inputs : List ℤ) (events : List Event) (step : Step) (old new : Machine) (event : MachineEvent) → Gives Tells acts inputs events step old event new → IsOfSame old new
gives_same Tells acts inputs events (Goes t) old new event gives = gives.3
gives_same Tells acts inputs events (Over ending t) old new event gives = gives.5

-- ---- what a machine waits for

pub not_over_at : (m : Machine) → waiting_of m ≡ waiting.Runs → m.over ≡ None
not_over_at m = by m.over
  where
    by : (over : Option Ending) → waiting_for over m.doing ≡ waiting.Runs → over ≡ None
    by (Some ending) h = absurd (cc)
    by None h = refl

pub not_over : (m : Machine) → waiting_of m ≡ waiting.Number → m.over ≡ None
not_over m = by m.over
  where
    by : (over : Option Ending) → waiting_for over m.doing ≡ waiting.Number → over ≡ None
    by (Some ending) h = absurd (cc)
    by None h = refl

pub unended : (m : Machine) → waiting_of m ≡ waiting.Act → m.over ≡ None
unended m = by m.over
  where
    by : (over : Option Ending) → waiting_for over m.doing ≡ waiting.Act → over ≡ None
    by (Some ending) h = absurd (cc)
    by None h = refl

-- ---- steps and numbers

-- from one machine to the next, and on
leads_on : (first mid last : Machine) (inputs left : List ℤ) (event : MachineEvent) → Leads first inputs told_by.Ran mid left → Leads mid left event last left → Leads first inputs event last left
leads_on first mid last inputs left event a b =
    record {
      same = (b.same.0 ∙ a.same.0, b.same.1 ∙ a.same.1);
      goes = λ s acts events r.
          subst (λ image. Reaches image first.settings s last acts left (told_behind event events)) a.same.0
          (subst (λ settings. Reaches mid.image settings s last acts left (told_behind event events)) a.same.1
          (b.goes s acts events (subst (λ image. Reaches image mid.settings s mid acts left events) (sym a.same.0) (subst (λ settings. Reaches first.image settings s mid acts left events) (sym a.same.1) (a.goes s acts events r)))));
    }

-- the step waits for a number: the table makes no move
leads_needs : (old : Machine) (inputs : List ℤ) → waiting_of old ≡ waiting.Runs → waits_for_number old.doing (next_op_of old) ≡ true → Leads old inputs told_by.Input (record old { doing = NeedsNumber }) inputs
leads_needs old inputs waits needs =
    record {
      same = (refl, refl);
      goes = λ s acts events r. record { moves = r.moves; there = by old.doing refl (exec old.image old.settings r.moves s) acts events r.there };
    }
  where
    at : (run : Run) (acts : List Act) (events : List Event) → old.doing ≡ Running → IsAt run old acts inputs events → IsAt run (record old { doing = NeedsNumber }) acts inputs events
    at (Unfinished u) acts events runs here = rw runs at here
    at (Finished ending t) acts events runs here = rw runs at here

    by : (doing : Doing) → old.doing ≡ doing → (run : Run) (acts : List Act) (events : List Event) → IsAt run old acts inputs events → IsAt run (record old { doing = NeedsNumber }) acts inputs events
    by Running is run acts events here = at run acts events is here
    by NeedsNumber is run acts events here = absurd (let no : waiting.Number ≡ waiting.Runs = rw (not_over_at old waits, is) at waits in cc)
    by (HasNumber number) is run acts events here = absurd (let no : false ≡ true = rw is at needs in cc)
    by (Touching touch) is run acts events here = absurd (let no : waiting.Act ≡ waiting.Runs = rw (not_over_at old waits, is) at waits in cc)
    by (Suspended import place) is run acts events here = absurd (let no : waiting.Act ≡ waiting.Runs = rw (not_over_at old waits, is) at waits in cc)

step_leads : (old new : Machine) (event : MachineEvent) (inputs : List ℤ) → waiting_of old ≡ waiting.Runs → MachineSteps old event new → Leads old inputs event new inputs
step_leads old new event inputs waits steps = by (waits_for_number old.doing (next_op_of old)) refl steps.makes
  where
    by : (input : Bool) → waits_for_number old.doing (next_op_of old) ≡ input → StepsIf input old event new → Leads old inputs event new inputs
    by true is h = rw (h.0, h.1) (leads_needs old inputs waits is)
    by false is h = record {
      same = gives_same TellsStep [] inputs [] _ old new event (h [] inputs []);
      goes = λ s acts events r. reached TellsStep s old new event acts acts inputs inputs events events (not_over_at old waits) (h acts inputs events) r;
    }

-- a number is given, and taken
give_leads : (old given new : Machine) (event : MachineEvent) (inputs : List ℤ) (number : ℤ) (after : List ℤ) → waiting_of old ≡ waiting.Number → TakesInput inputs number after → given ≡ record old { doing = HasNumber number } → MachineSteps given event new → Leads old inputs event new after
give_leads old given new event inputs number after waits taken is steps = by inputs taken
  where
    going : old.over ≡ None
    going = not_over old waits

    needs : old.doing ≡ NeedsNumber
    needs = (number_of old.over old.doing waits).1

    held : Machine
    held = record old { doing = HasNumber number }

    steps_held : MachineSteps held event new
    steps_held = subst (λ (m : Machine). MachineSteps m event new) is steps

    takes : (acts : List Act) (inputs : List ℤ) (events : List Event) → Gives TellsStep acts inputs events (move old.image old.settings (state_of old acts (number ∷ inputs) events)) old event new
    takes acts inputs events =
        let same : state_of old acts (number ∷ inputs) events ≡ state_of held acts inputs events = rw needs refl in
        subst (λ s. Gives TellsStep acts inputs events (move old.image old.settings s) old event new) (sym same) (gives_at TellsStep acts inputs events _ old held new event refl refl (steps_held.makes acts inputs events))

    takes_none : number ≡ pos 0 → (acts : List Act) (events : List Event) → Gives TellsStep acts [] events (move old.image old.settings (state_of old acts [] events)) old event new
    takes_none none acts events =
        let same : state_of old acts [] events ≡ state_of (record held { doing = NeedsNumber }) acts [] events = rw needs refl in
        subst (λ s. Gives TellsStep acts [] events (move old.image old.settings s) old event new) (sym same) (gives_at TellsStep acts [] events _ old held new event refl refl (steps_held.none_left (ap HasNumber none) acts events))

    by : (inputs : List ℤ) → TakesInput inputs number after → Leads old inputs event new after
    by [] taken =
        rw taken.1
        (record {
          same = gives_same TellsStep [] [] [] _ old new event (takes_none taken.0 [] []);
          goes = λ s acts events r. reached TellsStep s old new event acts acts [] [] events events going (takes_none taken.0 acts events) r;
        })
    by (next ∷ left) taken =
        rw (taken.1, ← taken.0)
        (record {
          same = gives_same TellsStep [] left [] _ old new event (takes [] left []);
          goes = λ s acts events r. reached TellsStep s old new event acts acts (number ∷ left) left events events going (takes acts left events) r;
        })

-- steps that tell nothing, and one more
pub steps_lead : (old new : Machine) (event : MachineEvent) (inputs : List ℤ) → waiting_of old ≡ waiting.Runs → StepsOn old event new → Leads old inputs event new inputs
steps_lead old new event inputs waits (StepsOn.last steps) = step_leads old new event inputs waits steps
steps_lead old new event inputs waits (StepsOn.more {mid = mid} steps again rest) =
    leads_on old mid new inputs inputs event (step_leads old mid told_by.Ran inputs waits steps) (steps_lead mid new event inputs again rest)

-- a number is given, and taken, and then come such steps
pub given_leads : (old given new : Machine) (event : MachineEvent) (inputs : List ℤ) (number : ℤ) (after : List ℤ) → waiting_of old ≡ waiting.Number → TakesInput inputs number after → given ≡ record old { doing = HasNumber number } → StepsOn given event new → Leads old inputs event new after
given_leads old given new event inputs number after waits taken is (StepsOn.last steps) = give_leads old given new event inputs number after waits taken is steps
given_leads old given new event inputs number after waits taken is (StepsOn.more {mid = mid} steps again rest) =
    leads_on old mid new inputs after event (give_leads old given mid told_by.Ran inputs number after waits taken is steps) (steps_lead mid new event after again rest)
