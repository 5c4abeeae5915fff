-- How far a run has come behind each move.
use Rattle.std.proofs.Common.{◌≡◌, ℕ, suc, ℤ, Bool, true, false, Option, Some, None, List, [], ◌∷◌, ◌++◌, length, refl, sym, ap, ◌∙◌, subst, append-nil, append_assoc}
use Rattle.std.specs.Prelude.{slice_get, nat_lt}
use Rattle.act_words.specs.declared.act.Turn.TheVariants as turns
use Rattle.act_words.specs.declared.ending.Ending.{Ending}
use Rattle.act_words.specs.declared.settings.Settings.{Settings}
use Rattle.act_words.specs.Acts.{Act, Seen, Looked, Wrote, Passed, Replied, SeenCall, SeenReply}
use Rattle.act_words.specs.World.{World, Event, Took, Released, Showed, NoAct}
use Rattle.sandbox_actor.specs.Answers.{Moment}
use Rattle.code_words.specs.Functions.{Func}
use Rattle.code_words.specs.declared.image.Image.{Image}
use Rattle.code_words.specs.Table.{Frame, Loads, Stores, Passes, Replies, State, push_result}
use Rattle.code_words.specs.Moves.{move}
use Rattle.code_words.specs.Dumps.{blocks_held}
use Rattle.code_words.specs.Runs.{Run, Unfinished, Finished, CodeRun, exec, go_on, started, events_of}
use Rattle.two_memory_machine.specs.declared.event.Event.{Event as MachineEvent}
use Rattle.two_memory_machine.specs.declared.event.Event.TheVariants as told_by
use Rattle.two_memory_machine.specs.declared.event.Waiting.TheVariants as waiting
use Rattle.two_memory_machine.specs.Machines.{Machine, Doing, Running, NeedsNumber, HasNumber, Touching, Suspended, IsStart, TakesAct, TakesEnd, TellsAct, state_of, turn_of, waiting_of, told_behind}
use Rattle.run_core.specs.Moments.{due_from, due_in, before_due, IsDue}
use Rattle.run_core.specs.Runs.{EndsBefore}
use Rattle.run_core.specs.Touched.{last_of}
use Rattle.run_core.specs.Progress.{IsAt, Reaches, Leads, Going, RunsOut, told, blocks_of}
use Rattle.run_core.proofs.Dues.{last_of-append, due_from-append, before_due-append}
use Rattle.run_core.proofs.Reaching.{told_is, one_more, reached, gives_same, unended}

-- no event of a machine says that an act was due
told_undue : (last : Option Seen) (event : MachineEvent) → due_from last (told event) ≡ None
told_undue last told_by.Ran = refl
told_undue last told_by.Asks = refl
told_undue last told_by.Input = refl
told_undue last (told_by.Out bytes) = refl
told_undue last (told_by.Showed seen) = refl
told_undue last (told_by.Touched release None) = refl
told_undue last (told_by.Touched release (Some seen)) = refl
told_undue last (told_by.Ended ending) = refl

-- ---- moves

pub going_first : (image : Image) (settings : Settings) (inputs : List ℤ) (m : Machine) → IsStart image settings m → Going image settings inputs [] [] None inputs m
going_first image settings inputs m start = record {
  image_is = start.image_is;
  settings_is = start.settings_are;
  reaches = λ rest. record { moves = 0; there = (start.over, sym (start.state rest inputs)) };
  undue = refl;
  last_is = refl;
}

module _ (image : Image) (settings : Settings) (inputs : List ℤ) (acts : List Act) (events : List Event) (old : Machine) (event : MachineEvent) (new : Machine) where
  -- what leads on leads on in a run of this image
  led : (before after : List ℤ) (s : State) (rest : List Act) → old.image ≡ image → old.settings ≡ settings → Leads old before event new after → Reaches image settings s old rest before events → Reaches image settings s new rest after (events ++ told event)
  led before after s rest image_is settings_is leads r =
      subst (λ es. Reaches image settings s new rest after es) (told_is event events)
      (subst (λ k. Reaches k settings s new rest after (told_behind event events)) image_is
      (subst (λ k. Reaches old.image k s new rest after (told_behind event events)) settings_is
      (leads.goes s rest events (subst (λ k. Reaches k old.settings s old rest before events) (sym image_is) (subst (λ k. Reaches image k s old rest before events) (sym settings_is) r)))))

  undue_behind : due_in events ≡ None → due_in (events ++ told event) ≡ None
  undue_behind undue = due_from-append None events (told event) undue ∙ told_undue (last_of None events) event

  last_behind : (last later : Option Seen) → last ≡ last_of None events → later ≡ last_of last (told event) → later ≡ last_of None (events ++ told event)
  last_behind last later last_is shown = shown ∙ ap (λ seen. last_of seen (told event)) last_is ∙ sym (last_of-append None events (told event))

  pub going_step : (last later : Option Seen) (before after : List ℤ) → Leads old before event new after → later ≡ last_of last (told event) → Going image settings inputs acts events last before old → Going image settings inputs acts (events ++ told event) later after new
  going_step last later before after leads shown going = record {
    image_is = leads.same.0 ∙ going.image_is;
    settings_is = leads.same.1 ∙ going.settings_is;
    reaches = λ rest. led before after (started image settings inputs (acts ++ rest)) rest going.image_is going.settings_is leads (going.reaches rest);
    undue = undue_behind going.undue;
    last_is = last_behind last later going.last_is shown;
  }

  pub out_step : (before after : List ℤ) → Leads old before event new after → RunsOut image settings inputs acts events before old → RunsOut image settings inputs acts (events ++ told event) after new
  out_step before after leads out = record {
    image_is = leads.same.0 ∙ out.image_is;
    settings_is = leads.same.1 ∙ out.settings_is;
    reaches = led before after (started image settings inputs acts) [] out.image_is out.settings_is leads out.reaches;
  }

  -- the events behind an act
  abbrev behind_act : Act → List Event
  behind_act act = events ++ Took (turn_of old.doing) act ∷ []

  -- a run that comes to a machine which takes an act
  taken : (act : Act) (left : List ℤ) (s : State) (rest : List Act) → old.image ≡ image → old.settings ≡ settings → old.over ≡ None → TakesAct old act event new → Reaches image settings s old (act ∷ rest) left events → Reaches image settings s new rest left (behind_act act ++ told event)
  taken act left s rest image_is settings_is running takes r =
      subst (λ es. Reaches image settings s new rest left es) (told_is event (behind_act act))
      (subst (λ k. Reaches k settings s new rest left (told_behind event (behind_act act))) image_is
      (subst (λ k. Reaches old.image k s new rest left (told_behind event (behind_act act))) settings_is
      (reached TellsAct s old new event (act ∷ rest) rest left left events (behind_act act) running (takes rest left events)
      (subst (λ k. Reaches k old.settings s old (act ∷ rest) left events) (sym image_is) (subst (λ k. Reaches image k s old (act ∷ rest) left events) (sym settings_is) r)))))

  pub going_act : (last later : Option Seen) (act : Act) (left : List ℤ) → old.over ≡ None → TakesAct old act event new → later ≡ last_of last (told event) → Going image settings inputs acts events last left old → Going image settings inputs (acts ++ act ∷ []) (behind_act act ++ told event) later left new
  going_act last later act left running takes shown going =
      let same = gives_same TellsAct [] [] _ _ old new event (takes [] [] []) in
      let took : List Event = Took (turn_of old.doing) act ∷ [] in
      record {
        image_is = same.0 ∙ going.image_is;
        settings_is = same.1 ∙ going.settings_is;
        reaches = λ rest. subst (λ all. Reaches image settings (started image settings inputs all) new rest left (behind_act act ++ told event)) (sym (append_assoc acts (act ∷ []) rest))
            (taken act left (started image settings inputs (acts ++ act ∷ rest)) rest going.image_is going.settings_is running takes (going.reaches (act ∷ rest)));
        undue = due_from-append None (behind_act act) (told event) (due_from-append None events took going.undue) ∙ told_undue (last_of None (behind_act act)) event;
        last_is = shown ∙ ap (λ seen. last_of seen (told event)) (going.last_is ∙ sym (last_of-append None events took)) ∙ sym (last_of-append None (behind_act act) (told event));
      }

  pub out_end : (left : List ℤ) → old.over ≡ None → TakesEnd old event new → RunsOut image settings inputs acts events left old → RunsOut image settings inputs acts ((events ++ NoAct (turn_of old.doing) ∷ []) ++ told event) left new
  out_end left running takes out =
      let same = gives_same TellsAct [] [] _ _ old new event (takes [] []) in
      let s = started image settings inputs acts in
      let due = events ++ NoAct (turn_of old.doing) ∷ [] in
      record {
        image_is = same.0 ∙ out.image_is;
        settings_is = same.1 ∙ out.settings_is;
        reaches =
            subst (λ es. Reaches image settings s new [] left es) (told_is event due)
            (subst (λ k. Reaches k settings s new [] left (told_behind event due)) out.image_is
            (subst (λ k. Reaches old.image k s new [] left (told_behind event due)) out.settings_is
            (reached TellsAct s old new event [] [] left left events due running (takes left events)
            (subst (λ k. Reaches k old.settings s old [] left events) (sym out.image_is) (subst (λ k. Reaches image k s old [] left events) (sym out.settings_is) out.reaches)))));
      }

-- ---- an act that is due

-- what is pushed tells nothing
pushes_quietly : (fun : Option Func) (w : ℕ) (f : Frame) (s : State) → events_of (go_on (push_result fun (Some w) f s) Unfinished) ≡ s.world.events
pushes_quietly None w f s = refl
pushes_quietly (Some fun) w f s = by (nat_lt (length f.stack) fun.stack) refl
  where
    by : (room : Bool) → nat_lt (length f.stack) fun.stack ≡ room → events_of (go_on (push_result (Some fun) (Some w) f s) Unfinished) ≡ s.world.events
    by true e = rw e refl
    by false e = rw e refl

-- where no act is left, the next move tells first that one was due
due_next : (m : Machine) (left : List ℤ) (events : List Event) → waiting_of m ≡ waiting.Act → (more : List Event) × (events_of (go_on (move m.image m.settings (state_of m [] left events)) Unfinished) ≡ (events ++ NoAct (turn_of m.doing) ∷ []) ++ more)
due_next m left events waits = by m.doing refl
  where
    due : List Event
    due = events ++ NoAct turns.Trusted ∷ []

    by : (doing : Doing) → m.doing ≡ doing → (more : List Event) × (events_of (go_on (move m.image m.settings (state_of m [] left events)) Unfinished) ≡ (events ++ NoAct (turn_of m.doing) ∷ []) ++ more)
    by Running e = absurd (let no : waiting.Runs ≡ waiting.Act = rw (unended m waits, e) at waits in cc)
    by NeedsNumber e = absurd (let no : waiting.Number ≡ waiting.Act = rw (unended m waits, e) at waits in cc)
    by (HasNumber number) e = absurd (let no : waiting.Runs ≡ waiting.Act = rw (unended m waits, e) at waits in cc)
    by (Touching (Loads at len)) e = (Released Looked ∷ [], rw e (pushes_quietly (slice_get m.image.trusted.funs m.frame.function) _ _ _))
    by (Touching (Stores at bytes)) e = (Released (Wrote at bytes) ∷ [], rw e refl)
    by (Touching (Passes import words place)) e = (Released (Passed import words) ∷ Showed (SeenCall import words) ∷ [], rw e refl)
    by (Touching (Replies value)) e = (Released (Replied value) ∷ Showed (SeenReply value) ∷ [], rw e refl)
    by (Suspended import place) e = ([], rw e (sym (append-nil (events ++ NoAct turns.Sandbox ∷ []))))

module _ (image : Image) (settings : Settings) (inputs : List ℤ) (acts : List Act) (events : List Event) (last : Option Seen) (left : List ℤ) (m : Machine) (going : Going image settings inputs acts events last left m) where
  -- no act follows
  pub out_of_going : RunsOut image settings inputs acts events left m
  out_of_going = record {
    image_is = going.image_is;
    settings_is = going.settings_is;
    reaches = subst (λ all. Reaches image settings (started image settings inputs all) m [] left events) (append-nil acts) (going.reaches []);
  }

  pub is_due : waiting_of m ≡ waiting.Act → IsDue image settings inputs acts (record { turn = turn_of m.doing; last = last }) events
  is_due waits = by (exec image settings r.moves s) refl r.there
    where
      s : State
      s = started image settings inputs acts

      r : Reaches image settings s m [] left events
      r = out_of_going.reaches

      asked_at : Option Seen → Option Moment
      asked_at seen = Some (record { turn = turn_of m.doing; last = seen })

      by : (run : Run) → exec image settings r.moves s ≡ run → IsAt run m [] left events → IsDue image settings inputs acts (record { turn = turn_of m.doing; last = last }) events
      by (Finished ending t) e at = absurd (let no : None ≡ Some ending = sym (unended m waits) ∙ at.0 in cc)
      by (Unfinished u) e at =
          let here : exec image settings r.moves s ≡ Unfinished (state_of m [] left events) = e ∙ ap Unfinished at.1 in
          let next = due_next m left events waits in
          let due : List Event = (events ++ NoAct (turn_of m.doing) ∷ []) ++ next.0 in
          let moved : events_of (go_on (move image settings (state_of m [] left events)) Unfinished) ≡ due =
          subst (λ k. events_of (go_on (move k settings (state_of m [] left events)) Unfinished) ≡ due) going.image_is (subst (λ k. events_of (go_on (move m.image k (state_of m [] left events)) Unfinished) ≡ due) going.settings_is next.1) in
          let happened : events_of (exec image settings (suc r.moves) s) ≡ events ++ NoAct (turn_of m.doing) ∷ next.0 =
          ap events_of (one_more image settings r.moves s (state_of m [] left events) here) ∙ moved ∙ append_assoc events (NoAct (turn_of m.doing) ∷ []) next.0 in
          record {
            steps = suc r.moves;
            due = ap due_in happened ∙ due_from-append None events _ going.undue ∙ ap asked_at (sym going.last_is);
            before = sym (ap before_due happened ∙ before_due-append None events _ going.undue ∙ append-nil events);
          }

  pub ends_before : (ending : Ending) → m.over ≡ Some ending → EndsBefore image settings inputs acts ending events (blocks_of m)
  ends_before ending over = record { runs = λ rest. by rest (exec image settings (going.reaches rest).moves (started image settings inputs (acts ++ rest))) refl (going.reaches rest).there; undue = going.undue }
    where
      by : (rest : List Act) (run : Run) → exec image settings (going.reaches rest).moves (started image settings inputs (acts ++ rest)) ≡ run → IsAt run m rest left events → (t : State) × CodeRun image settings inputs (acts ++ rest) ending t × (t.world.acts ≡ rest) × (t.world.events ≡ events) × (blocks_held t ≡ blocks_of m)
      by rest (Unfinished u) e at = absurd (let no : None ≡ Some ending = sym at.0 ∙ over in cc)
      by rest (Finished other t) e at =
          let both : Some other ≡ Some ending = sym at.0 ∙ over in
          let same : other ≡ ending = cc in
          (t, ((going.reaches rest).moves, e ∙ ap (λ d. Finished d t) same), ap (λ (w : World). w.acts) at.3, ap (λ (w : World). w.events) at.3, rw (at.1, at.2) refl)

-- the end of a run over these acts alone
pub record EndsSo (image : Image) (settings : Settings) (inputs : List ℤ) (acts : List Act) (events : List Event) (m : Machine) (ending : Ending) : Type 0 where
  pub t : State
  pub run : CodeRun image settings inputs acts ending t
  pub told : t.world.events ≡ events
  pub blocks : blocks_held t ≡ blocks_of m

pub run_out : (image : Image) (settings : Settings) (inputs : List ℤ) (acts : List Act) (events : List Event) (left : List ℤ) (m : Machine) (ending : Ending) → m.over ≡ Some ending → RunsOut image settings inputs acts events left m → EndsSo image settings inputs acts events m ending
run_out image settings inputs acts events left m ending over out = by (exec image settings out.reaches.moves (started image settings inputs acts)) refl out.reaches.there
  where
    by : (run : Run) → exec image settings out.reaches.moves (started image settings inputs acts) ≡ run → IsAt run m [] left events → EndsSo image settings inputs acts events m ending
    by (Unfinished u) e at = absurd (let no : None ≡ Some ending = sym at.0 ∙ over in cc)
    by (Finished other t) e at =
        let both : Some other ≡ Some ending = sym at.0 ∙ over in
        let same : other ≡ ending = cc in
        record { t = t; run = (out.reaches.moves, e ∙ ap (λ d. Finished d t) same); told = ap (λ (w : World). w.events) at.3; blocks = rw (at.1, at.2) refl }
