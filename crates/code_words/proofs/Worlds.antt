-- What the worlds of a run keep: the view is a fold, events stay, and each act that is taken is told.
use Rattle.std.proofs.Common.{◌≡◌, ℕ, ℤ, zero, suc, ◌≤◌, Bool, true, false, length, List, [], ◌∷◌, ◌++◌, refl, sym, ap, ◌∙◌, subst, ⊎_elim, arith}
use Rattle.std.proofs.lemmas.Bool.{cases_lt}
use Rattle.std.proofs.lemmas.List.{append_assoc, append-nil}
use Rattle.act_words.specs.declared.act.Turn.{Turn}
use Rattle.act_words.specs.declared.act.Turn.TheVariants as turns
use Rattle.act_words.specs.declared.ending.Ending.{Ending}
use Rattle.act_words.specs.declared.settings.Settings.{Settings}
use Rattle.act_words.specs.Acts.{Act, Go, Read, Write, Call, Return, Stop, Release, Looked, Wrote, Passed, Replied, SeenBytes, SeenCall, SeenReply}
use Rattle.act_words.specs.World.{World, Event, Took, Output, Released, Showed, NoAct, taken_one, in_turn, with_inputs}
use Rattle.act_words.specs.Acting.{BeforeTouch, InSandbox, lies_in, bytes_at, shown_if, written_if, waits_or_ends, keeps_or_ends, act_before_touch, act_in_sandbox}
use Rattle.act_words.specs.Touches.{released}
use Rattle.act_words.specs.View.{ViewIsFold, acts_of}
use Rattle.act_words.proofs.Views.{acts_of-append, Told, Ready, HasFolded, BeforeTold, InTold, told_at_start, shown, none_left, at_the_end, released_told, act_before_told, act_in_told, told_in, write_told, ready_turn, view_in_turn}
use Rattle.code_words.specs.Images.{Image}
use Rattle.code_words.specs.Table.{State, Step, Goes, Over, Control, Runs, Touches, Away}
use Rattle.code_words.specs.Moves.{move}
use Rattle.code_words.specs.Runs.{Run, Unfinished, Finished, go_on, exec, started, CodeRun, events_of}
use Rattle.code_words.proofs.Runs.{finished_stays}
use Rattle.code_words.proofs.Keeps.{AreKept, BeforeKeeps, InKeeps, ReleaseKeeps, RunKeeps, HoldsIn, run-keeps}

-- ---- the view

module _ (start : List ℕ) (all : List Act) where
  -- the fold goes on from here, and this side has the turn
  abbrev pub OwnTurn : World → Type 0
  OwnTurn w = Told start all w × (w.turn ≡ turns.Trusted)

  abbrev pub OtherTurn : World → Type 0
  OtherTurn w = Told start all w × (w.turn ≡ turns.Sandbox)

  -- behind a call of a callback the trusted side gets the turn
  abbrev pub BehindCall : World → Type 0
  BehindCall w = Told start all (in_turn turns.Trusted w)

  before_told : (r : BeforeTouch) → BeforeTold start all r → BeforeKeeps OwnTurn (Ready start all) OtherTurn BehindCall (HasFolded start all) r
  before_told (BeforeTouch.Waits w) told = told
  before_told (BeforeTouch.Touches w) told = told
  before_told (BeforeTouch.Ends ending w) told = told

  in_told : (r : InSandbox) → InTold start all r → InKeeps OwnTurn (Ready start all) OtherTurn BehindCall (HasFolded start all) r
  in_told (InSandbox.Keeps w) told = told
  in_told (InSandbox.Answers word w) told = told
  in_told (InSandbox.Calls fun words w) told = told
  in_told (InSandbox.Ends ending w) told = told

  release_told : (release : Release) (w : World) → Ready start all w → ReleaseKeeps OwnTurn (Ready start all) OtherTurn BehindCall (HasFolded start all) release (released release w)
  release_told Looked w ready = (released_told start all Looked w ready, ready_turn start all w ready)
  release_told (Wrote at bytes) w ready = (released_told start all (Wrote at bytes) w ready, ready_turn start all w ready)
  release_told (Passed fun args) w ready = (released_told start all (Passed fun args) w ready, refl)
  release_told (Replied value) w ready = (released_told start all (Replied value) w ready, refl)

  pub view_kept : AreKept OwnTurn (Ready start all) OtherTurn BehindCall (HasFolded start all)
  view_kept =
      record {
        ticks = λ w n d. (told_in start all w (record w { ticks = n }) d.0 refl refl refl refl, d.1);
        inputs = λ w left d. (told_in start all w (with_inputs left w) d.0 refl refl refl refl, d.1);
        writes = λ w bytes d. (write_told start all bytes w d.0, d.1);
        rooms = λ w room d. (told_in start all w (record w { room = room }) d.0 refl refl refl refl, d.1);
        acts = λ w act acts e d. before_told (act_before_touch act (taken_one act acts w)) (act_before_told start all act acts w d.0 d.1 e);
        no_act = λ w none d. at_the_end _ (none_left start all turns.Trusted w d.0 none) d.1 none;
        touches = λ w release ready. release_told release w ready;
        sandbox_acts = λ w act acts e d. in_told (act_in_sandbox act (taken_one act acts w)) (act_in_told start all act acts w d.0 d.1 e);
        no_sandbox_act = λ w none d. shown start all _ (none_left start all turns.Sandbox w d.0 none);
        called_ticks = λ w n d. told_in start all (in_turn turns.Trusted w) (in_turn turns.Trusted (record w { ticks = n })) d refl refl refl refl;
        called_back = λ w d. (d, refl);
        called_ends = λ w d. view_in_turn start all w (shown start all (in_turn turns.Trusted w) d);
        ends = λ w d. shown start all w d.0;
      }

pub folded : (image : Image) (settings : Settings) (inputs : List ℤ) (acts : List Act) (ending : Ending) (t : State) → CodeRun image settings inputs acts ending t → HasFolded (started image settings inputs acts).world.sandbox acts t.world
folded image settings inputs acts ending t run =
    let s = started image settings inputs acts in
    let start = s.world.sandbox in
    subst (RunKeeps (OwnTurn start acts) (Ready start acts) (OtherTurn start acts) (BehindCall start acts) (HasFolded start acts)) run.1
    (run-keeps (OwnTurn start acts) (Ready start acts) (OtherTurn start acts) (BehindCall start acts) (HasFolded start acts) (view_kept start acts) image settings run.0 s (told_at_start start s.world.room inputs acts, refl))

pub view : (image : Image) (settings : Settings) (inputs : List ℤ) (acts : List Act) (ending : Ending) (t : State) → CodeRun image settings inputs acts ending t → ViewIsFold (started image settings inputs acts).world.sandbox acts t.world
view image settings inputs acts ending t run = (folded image settings inputs acts ending t run).fold

-- ---- what happened, and the acts that are left

module _ (P : List Event → List Act → Type 0) where
  -- a property of both stays where more is told, and where an act is taken
  pub record Stays : Type 0 where
    pub tells : (events more : List Event) (acts : List Act) → acts_of more ≡ [] → P events acts → P (events ++ more) acts
    pub takes : (events : List Event) (turn : Turn) (act : Act) (acts : List Act) → P events (act ∷ acts) → P (events ++ Took turn act ∷ []) acts

  abbrev pub In : World → Type 0
  In w = P w.events w.acts

  module _ (stays : Stays) where
    act_stays : (act : Act) (w : World) → In w → BeforeKeeps In In In In In (act_before_touch act w)
    act_stays Go w h = h
    act_stays (Read at len) w h = by (lies_in at len w.sandbox)
      where
        by : (inside : Bool) → BeforeKeeps In In In In In (waits_or_ends (shown_if inside at len w) w)
        by true = stays.tells w.events (Showed (SeenBytes at (bytes_at at len w.sandbox)) ∷ []) w.acts refl h
        by false = h
    act_stays (Write at bytes) w h = by (lies_in at (length bytes) w.sandbox)
      where
        by : (inside : Bool) → BeforeKeeps In In In In In (waits_or_ends (written_if inside at bytes w) w)
        by true = h
        by false = h
    act_stays (Call fun args) w h = h
    act_stays (Return value) w h = h
    act_stays Stop w h = h

    sandbox_act_stays : (act : Act) (w : World) → In w → InKeeps In In In In In (act_in_sandbox act w)
    sandbox_act_stays Go w h = h
    sandbox_act_stays (Read at len) w h = by (lies_in at len w.sandbox)
      where
        by : (inside : Bool) → InKeeps In In In In In (keeps_or_ends (shown_if inside at len w) w)
        by true = stays.tells w.events (Showed (SeenBytes at (bytes_at at len w.sandbox)) ∷ []) w.acts refl h
        by false = h
    sandbox_act_stays (Write at bytes) w h = by (lies_in at (length bytes) w.sandbox)
      where
        by : (inside : Bool) → InKeeps In In In In In (keeps_or_ends (written_if inside at bytes w) w)
        by true = h
        by false = h
    sandbox_act_stays (Call fun args) w h = h
    sandbox_act_stays (Return value) w h = h
    sandbox_act_stays Stop w h = h

    touch_stays : (release : Release) (w : World) → In w → ReleaseKeeps In In In In In release (released release w)
    touch_stays Looked w h = stays.tells w.events (Released Looked ∷ []) w.acts refl h
    touch_stays (Wrote at bytes) w h = stays.tells w.events (Released (Wrote at bytes) ∷ []) w.acts refl h
    touch_stays (Passed fun args) w h = stays.tells w.events (Released (Passed fun args) ∷ Showed (SeenCall fun args) ∷ []) w.acts refl h
    touch_stays (Replied value) w h = stays.tells w.events (Released (Replied value) ∷ Showed (SeenReply value) ∷ []) w.acts refl h

    taken_stays : (act : Act) (acts : List Act) (w : World) → w.acts ≡ act ∷ acts → In w → In (taken_one act acts w)
    taken_stays act acts w e h = stays.takes w.events w.turn act acts (subst (λ left. P w.events left) e h)

    stays_kept : AreKept In In In In In
    stays_kept =
        record {
          ticks = λ w n h. h;
          inputs = λ w left h. h;
          writes = λ w bytes h. stays.tells w.events (Output bytes ∷ []) w.acts refl h;
          rooms = λ w room h. h;
          acts = λ w act acts e h. act_stays act (taken_one act acts w) (taken_stays act acts w e h);
          no_act = λ w none h. stays.tells w.events (NoAct turns.Trusted ∷ []) w.acts refl h;
          touches = λ w release h. touch_stays release w h;
          sandbox_acts = λ w act acts e h. sandbox_act_stays act (taken_one act acts w) (taken_stays act acts w e h);
          no_sandbox_act = λ w none h. stays.tells w.events (NoAct turns.Sandbox ∷ []) w.acts refl h;
          called_ticks = λ w n h. h;
          called_back = λ w h. h;
          called_ends = λ w h. h;
          ends = λ w h. h;
        }

    -- a run keeps it
    run_stays : (image : Image) (settings : Settings) (n : ℕ) (s : State) → In s.world → RunKeeps In In In In In (exec image settings n s)
    run_stays image settings n s h = run-keeps In In In In In stays_kept image settings n s (elim s.control as (λ control. HoldsIn In In In In In control s.world) [ Runs f ↦ h | Touches f touch ↦ h | Away ↦ h ])

-- ---- events stay

-- the second list begins with the first
abbrev IsFront : List Event → List Event → Type 0
IsFront first second = (more : List Event) × (second ≡ first ++ more)

same_front : (events : List Event) → IsFront events events
same_front events = ([], sym (append-nil events))

-- more events at the end
longer : (first second : List Event) (more : List Event) → IsFront first second → IsFront first (second ++ more)
longer first second more front = (front.0 ++ more, ap (λ events. events ++ more) front.1 ∙ append_assoc first front.0 more)

module _ (events : List Event) where
  -- what happened begins so
  abbrev Begins : List Event → List Act → Type 0
  Begins later acts = IsFront events later

  abbrev Behind : World → Type 0
  Behind w = In Begins w

  begins : Stays Begins
  begins =
      record {
        tells = λ later more acts none front. longer events later more front;
        takes = λ later turn act acts front. longer events later (Took turn act ∷ []) front;
      }

  behind_run : (r : Run) → RunKeeps Behind Behind Behind Behind Behind r → IsFront events (events_of r)
  behind_run (Unfinished s) b = by s.control b
    where
      by : (control : Control) → HoldsIn Behind Behind Behind Behind Behind control s.world → IsFront events s.world.events
      by (Runs f) b = b
      by (Touches f touch) b = b
      by Away b = b
  behind_run (Finished ending s) b = b

module _ (image : Image) (settings : Settings) where
  -- with more moves, the same happened, and perhaps more
  later : (n m : ℕ) (s : State) → n ≤ m → IsFront (events_of (exec image settings n s)) (events_of (exec image settings m s))
  later zero m s le =
      let events = s.world.events in
      behind_run events (exec image settings m s) (run_stays (Begins events) (begins events) image settings m s (same_front events))
  later (suc n) zero s le = absurd (omega arith)
  later (suc n) (suc m) s le = by (move image settings s) (λ t. later n m t (omega arith))
    where
      by : (next : Step) → ((t : State) → IsFront (events_of (exec image settings n t)) (events_of (exec image settings m t))) → IsFront (events_of (go_on next (exec image settings n))) (events_of (go_on next (exec image settings m)))
      by (Goes t) rest = rest t
      by (Over ending t) rest = same_front t.world.events

  pub stay : (inputs : List ℤ) (acts : List Act) (n : ℕ) (ending : Ending) (t : State) → CodeRun image settings inputs acts ending t → IsFront (events_of (exec image settings n (started image settings inputs acts))) t.world.events
  stay inputs acts n ending t run =
      let s = started image settings inputs acts in
      ⊎_elim
      (λ lt. subst (λ r. IsFront (events_of (exec image settings n s)) (events_of r)) run.1 (later n run.0 s (omega arith)))
      (λ le. subst (λ r. IsFront (events_of r) t.world.events) (sym (finished_stays image settings run.0 n s ending t le run.1)) (same_front t.world.events))
      (cases_lt n run.0)

-- ---- each act that is taken is told

module _ (all : List Act) where
  -- the list has the acts that happened, and those that are left
  abbrev Tells : List Event → List Act → Type 0
  Tells events acts = all ≡ acts_of events ++ acts

  acts_told : Stays Tells
  acts_told =
      record {
        tells = λ events more acts none h. h ∙ ap (λ front. front ++ acts) (sym (acts_of-append events more ∙ ap (λ rest. acts_of events ++ rest) none ∙ append-nil (acts_of events)));
        takes = λ events turn act acts h. h ∙ sym (append_assoc (acts_of events) (act ∷ []) acts) ∙ ap (λ front. front ++ acts) (sym (acts_of-append events (Took turn act ∷ [])));
      }

pub told : (image : Image) (settings : Settings) (inputs : List ℤ) (acts : List Act) (ending : Ending) (t : State) → CodeRun image settings inputs acts ending t → acts ≡ acts_of t.world.events ++ t.world.acts
told image settings inputs acts ending t run =
    subst (RunKeeps (In (Tells acts)) (In (Tells acts)) (In (Tells acts)) (In (Tells acts)) (In (Tells acts))) run.1
    (run_stays (Tells acts) (acts_told acts) image settings run.0 (started image settings inputs acts) refl)
