-- Whatever the world answers, it takes back no tick, and no more ticks were spent than there may be.
use Rattle.std.proofs.Common.{◌≡◌, ℕ, suc, ◌≤◌, Bool, true, false, List, [], ◌∷◌, length, Option, Some, None, ℤ, refl, arith}
use Rattle.std.specs.Prelude.{nat_lt}
use Rattle.std.proofs.lemmas.Bool.Decides.{nat_tests}
use Rattle.act_words.specs.Acts.{Act, Go, Read, Write, Call, Return, Stop, Release, Looked, Wrote, Passed, Replied}
use Rattle.act_words.specs.World.{World, taken_one}
use Rattle.act_words.specs.Acting.{BeforeTouch, InSandbox, act_before_touch, act_in_sandbox, waits_or_ends, keeps_or_ends, shown_if, written_if, lies_in}
use Rattle.act_words.specs.Touches.{Asked, Got, Ended, asking, on_from, before_touch, touch, released, Crossed, on_keeps, until_return, spent_if, spend_tick, entered_if, enter_call, input_from, next_input}

module _ (budget : ℕ) where
  -- so many ticks were spent at least, and no more than there may be
  pub record HasSpent (low : ℕ) (w : World) : Type 0 where
    pub least : low ≤ w.ticks
    pub most : w.ticks ≤ budget

  -- the same of the world behind an answer
  abbrev pub Answers : {A : Type 0} → ℕ → Asked A → Type 0
  Answers low (Got v w) = HasSpent low w
  Answers low (Ended ending w) = Unit {0}

  asking_answers : {A B : Type 0} (low : ℕ) (o : Asked A) (next : A → World → Asked B) → Answers low o → ((v : A) (w : World) → HasSpent low w → Answers low (next v w)) → Answers low (asking o next)
  asking_answers low (Got v w) next h more = more v w h
  asking_answers low (Ended ending w) next h more = tt

  module _ (low : ℕ) where
    -- ---- single acts

    abbrev SpentIn : Option World → Type 0
    SpentIn None = Unit {0}
    SpentIn (Some w) = HasSpent low w

    shown_spent : (fits : Bool) (at len : ℕ) (w : World) → HasSpent low w → SpentIn (shown_if fits at len w)
    shown_spent true at len w h = record { least = h.least; most = h.most }
    shown_spent false at len w h = tt

    written_spent : (fits : Bool) (at : ℕ) (bytes : List ℕ) (w : World) → HasSpent low w → SpentIn (written_if fits at bytes w)
    written_spent true at bytes w h = record { least = h.least; most = h.most }
    written_spent false at bytes w h = tt

    -- before a touch
    abbrev SpentBefore : BeforeTouch → Type 0
    SpentBefore (BeforeTouch.Waits w) = HasSpent low w
    SpentBefore (BeforeTouch.Touches w) = HasSpent low w
    SpentBefore (BeforeTouch.Ends ending w) = Unit {0}

    waits_spent : (o : Option World) (w : World) → SpentIn o → SpentBefore (waits_or_ends o w)
    waits_spent None w h = tt
    waits_spent (Some after) w h = h

    act_before : (act : Act) (w : World) → HasSpent low w → SpentBefore (act_before_touch act w)
    act_before Go w h = h
    act_before (Read at len) w h = waits_spent _ w (shown_spent (lies_in at len w.sandbox) at len w h)
    act_before (Write at bytes) w h = waits_spent _ w (written_spent (lies_in at (length bytes) w.sandbox) at bytes w h)
    act_before (Call fun args) w h = tt
    act_before (Return value) w h = tt
    act_before Stop w h = tt

    -- in the sandbox's turn
    abbrev SpentInside : InSandbox → Type 0
    SpentInside (InSandbox.Keeps w) = HasSpent low w
    SpentInside (InSandbox.Answers word w) = HasSpent low w
    SpentInside (InSandbox.Calls fun words w) = Unit {0}
    SpentInside (InSandbox.Ends ending w) = Unit {0}

    keeps_spent : (o : Option World) (w : World) → SpentIn o → SpentInside (keeps_or_ends o w)
    keeps_spent None w h = tt
    keeps_spent (Some after) w h = h

    act_inside : (act : Act) (w : World) → HasSpent low w → SpentInside (act_in_sandbox act w)
    act_inside Go w h = h
    act_inside (Read at len) w h = keeps_spent _ w (shown_spent (lies_in at len w.sandbox) at len w h)
    act_inside (Write at bytes) w h = keeps_spent _ w (written_spent (lies_in at (length bytes) w.sandbox) at bytes w h)
    act_inside (Call fun args) w h = tt
    act_inside (Return value) w h = record { least = h.least; most = h.most }
    act_inside Stop w h = tt

    -- ---- touches

    before_goes_on : (b : BeforeTouch) (next : World → Asked (Unit {0})) → SpentBefore b → ((w : World) → HasSpent low w → Answers low (next w)) → Answers low (on_from b next)
    before_goes_on (BeforeTouch.Waits w) next h more = more w h
    before_goes_on (BeforeTouch.Touches w) next h more = h
    before_goes_on (BeforeTouch.Ends ending w) next h more = tt

    taken : (act : Act) (acts : List Act) (w : World) → HasSpent low w → HasSpent low (taken_one act acts w)
    taken act acts w h = record { least = h.least; most = h.most }

    before_answers : (acts : List Act) (w : World) → HasSpent low w → Answers low (before_touch acts w)
    before_answers [] w h = record { least = h.least; most = h.most }
    before_answers (act ∷ acts) w h = before_goes_on (act_before_touch act (taken_one act acts w)) (before_touch acts) (act_before act (taken_one act acts w) (taken act acts w h)) (before_answers acts)

    released_spent : (release : Release) (w : World) → HasSpent low w → HasSpent low (released release w)
    released_spent Looked w h = record { least = h.least; most = h.most }
    released_spent (Wrote at bytes) w h = record { least = h.least; most = h.most }
    released_spent (Passed fun args) w h = record { least = h.least; most = h.most }
    released_spent (Replied value) w h = record { least = h.least; most = h.most }

    pub touch_answers : (release : Release) (w : World) → HasSpent low w → Answers low (touch release w)
    touch_answers release w h = asking_answers low (before_touch w.acts w) _ (before_answers w.acts w h) (λ _ v v_spent. released_spent release v v_spent)

    -- ---- the sandbox's turn

    abbrev pub Crosses : Crossed → Type 0
    Crosses (Crossed.Returned word w) = HasSpent low w
    Crosses (Crossed.Called fun words w) = Unit {0}
    Crosses (Crossed.Over ending w) = Unit {0}

    crosses_on : (b : InSandbox) (next : World → Crossed) → SpentInside b → ((w : World) → HasSpent low w → Crosses (next w)) → Crosses (on_keeps b next)
    crosses_on (InSandbox.Keeps w) next h more = more w h
    crosses_on (InSandbox.Answers word w) next h more = h
    crosses_on (InSandbox.Calls fun words w) next h more = tt
    crosses_on (InSandbox.Ends ending w) next h more = tt

    pub until_crosses : (acts : List Act) (w : World) → HasSpent low w → Crosses (until_return acts w)
    until_crosses [] w h = tt
    until_crosses (act ∷ acts) w h = crosses_on (act_in_sandbox act (taken_one act acts w)) (until_return acts) (act_inside act (taken_one act acts w) (taken act acts w h)) (until_crosses acts)

    -- ---- what a run asks for

    spent_answers : (within : Bool) (w : World) → nat_lt w.ticks budget ≡ within → HasSpent low w → Answers (suc low) (spent_if within w)
    spent_answers true w e h = record { least = omega (arith, h.least); most = grind (arith, nat_tests) }
    spent_answers false w e h = tt

    -- behind a tick there is one more
    pub tick_answers : (w : World) → HasSpent low w → Answers (suc low) (spend_tick budget w)
    tick_answers w h = spent_answers (nat_lt w.ticks budget) w refl h

    entered_answers : (within : Bool) (w : World) → HasSpent low w → Answers low (entered_if within w)
    entered_answers true w h = h
    entered_answers false w h = tt

    pub enter_answers : (depth : ℕ) (w : World) → HasSpent low w → Answers low (enter_call depth w)
    enter_answers depth w h = entered_answers (nat_lt depth 1000) w h

    input_answers : (inputs : List ℤ) (w : World) → HasSpent low w → Answers low (input_from inputs w)
    input_answers [] w h = h
    input_answers (z ∷ inputs) w h = record { least = h.least; most = h.most }

    pub next_answers : (w : World) → HasSpent low w → Answers low (next_input w)
    next_answers w h = input_answers w.inputs w h
