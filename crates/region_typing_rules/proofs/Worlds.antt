-- Whatever the world answers, what is left are acts and numbers of 32 bits, a reply is a word, and no more ticks were spent
-- than there may be.
use Rattle.std.proofs.Common.{◌≡◌, ℕ, suc, ◌<◌, ◌≤◌, ◌^◌, Bool, true, false, List, [], ◌∷◌, length, Option, Some, None, refl, arith}
use Rattle.std.specs.Prelude.{nat_lt}
use Rattle.std.specs.List.{AllByRecursion}
use Rattle.std.proofs.Common.{ℤ}
use Rattle.std.proofs.lemmas.Bool.Decides.{nat_tests}
use Rattle.act_words.specs.Acts.{Act, Go, Read, Write, Call, Return, Stop, IsAct, Release, Looked, Wrote, Passed, Replied}
use Rattle.act_words.specs.World.{World, taken_one}
use Rattle.act_words.specs.Acting.{BeforeTouch, InSandbox, act_before_touch, act_in_sandbox, waits_or_ends, keeps_or_ends, shown_if, written_if, lies_in}
use Rattle.act_words.specs.Touches.{Asked, Got, Ended, asking, on_from, before_touch, touch, released, Crossed, on_keeps, until_return, spent_if, spend_tick, entered_if, enter_call, input_from, next_input}
use Rattle.ckc_core.proofs.Numbers.{IsNumber}

-- there is nothing to say of an answer that says nothing
abbrev pub Anything : Unit {0} → Type 0
Anything _ = Unit {0}

abbrev pub IsWord : ℕ → Type 0
IsWord reply = reply < 2 ^ 32

module _ (budget : ℕ) where
  -- what is left are acts and numbers of 32 bits, and so many ticks were spent at least, and no more than there may be
  abbrev pub IsWorld : ℕ → World → Type 0
  IsWorld low w = AllByRecursion IsAct w.acts × AllByRecursion IsNumber w.inputs × (low ≤ w.ticks) × (w.ticks ≤ budget)

  -- an answer that is as it should be, or an end
  abbrev pub Answers : {A : Type 0} → ℕ → (A → Type 0) → Asked A → Type 0
  Answers low P (Got v w) = P v × IsWorld low w
  Answers low P (Ended ending w) = Unit {0}

  asking_answers : {A B : Type 0} (low : ℕ) (P : A → Type 0) (Q : B → Type 0) (o : Asked A) (next : A → World → Asked B) → Answers low P o → ((v : A) (w : World) → P v → IsWorld low w → Answers low Q (next v w)) → Answers low Q (asking o next)
  asking_answers low P Q (Got v w) next h more = more v w h.0 h.1
  asking_answers low P Q (Ended ending w) next h more = tt

  -- ---- single acts

  abbrev LeftIn : ℕ → Option World → Type 0
  LeftIn low None = Unit {0}
  LeftIn low (Some w) = IsWorld low w

  shown_left : (low : ℕ) (fits : Bool) (at len : ℕ) (w : World) → IsWorld low w → LeftIn low (shown_if fits at len w)
  shown_left low true at len w left = left
  shown_left low false at len w left = tt

  written_left : (low : ℕ) (fits : Bool) (at : ℕ) (bytes : List ℕ) (w : World) → IsWorld low w → LeftIn low (written_if fits at bytes w)
  written_left low true at bytes w left = left
  written_left low false at bytes w left = tt

  -- before a touch
  abbrev LeavesBefore : ℕ → BeforeTouch → Type 0
  LeavesBefore low (BeforeTouch.Waits w) = IsWorld low w
  LeavesBefore low (BeforeTouch.Touches w) = IsWorld low w
  LeavesBefore low (BeforeTouch.Ends ending w) = Unit {0}

  waits_left : (low : ℕ) (o : Option World) (w : World) → LeftIn low o → LeavesBefore low (waits_or_ends o w)
  waits_left low None w left = tt
  waits_left low (Some after) w left = left

  act_before : (low : ℕ) (act : Act) (w : World) → IsWorld low w → LeavesBefore low (act_before_touch act w)
  act_before low Go w left = left
  act_before low (Read at len) w left = waits_left low _ w (shown_left low (lies_in at len w.sandbox) at len w left)
  act_before low (Write at bytes) w left = waits_left low _ w (written_left low (lies_in at (length bytes) w.sandbox) at bytes w left)
  act_before low (Call fun args) w left = tt
  act_before low (Return value) w left = tt
  act_before low Stop w left = tt

  -- in the sandbox's turn
  abbrev LeavesInside : ℕ → InSandbox → Type 0
  LeavesInside low (InSandbox.Keeps w) = IsWorld low w
  LeavesInside low (InSandbox.Answers word w) = (word < 2 ^ 32) × IsWorld low w
  LeavesInside low (InSandbox.Calls fun words w) = Unit {0}
  LeavesInside low (InSandbox.Ends ending w) = Unit {0}

  keeps_left : (low : ℕ) (o : Option World) (w : World) → LeftIn low o → LeavesInside low (keeps_or_ends o w)
  keeps_left low None w left = tt
  keeps_left low (Some after) w left = left

  act_inside : (low : ℕ) (act : Act) (w : World) → IsAct act → IsWorld low w → LeavesInside low (act_in_sandbox act w)
  act_inside low Go w is left = left
  act_inside low (Read at len) w is left = keeps_left low _ w (shown_left low (lies_in at len w.sandbox) at len w left)
  act_inside low (Write at bytes) w is left = keeps_left low _ w (written_left low (lies_in at (length bytes) w.sandbox) at bytes w left)
  act_inside low (Call fun args) w is left = tt
  act_inside low (Return value) w is left = (is, left)
  act_inside low Stop w is left = tt

  -- ---- touches

  before_goes_on : (low : ℕ) (b : BeforeTouch) (next : World → Asked (Unit {0})) → LeavesBefore low b → ((w : World) → IsWorld low w → Answers low Anything (next w)) → Answers low Anything (on_from b next)
  before_goes_on low (BeforeTouch.Waits w) next left more = more w left
  before_goes_on low (BeforeTouch.Touches w) next left more = (tt, left)
  before_goes_on low (BeforeTouch.Ends ending w) next left more = tt

  before_answers : (low : ℕ) (acts : List Act) → AllByRecursion IsAct acts → (w : World) → IsWorld low w → Answers low Anything (before_touch acts w)
  before_answers low [] all w left = (tt, left)
  before_answers low (act ∷ acts) all w left =
      before_goes_on low (act_before_touch act (taken_one act acts w)) (before_touch acts) (act_before low act (taken_one act acts w) (all.1, left.1, left.2, left.3)) (before_answers low acts all.1)

  released_left : (low : ℕ) (release : Release) (w : World) → IsWorld low w → IsWorld low (released release w)
  released_left low Looked w left = left
  released_left low (Wrote at bytes) w left = left
  released_left low (Passed fun args) w left = left
  released_left low (Replied value) w left = left

  pub touch_answers : (low : ℕ) (release : Release) (w : World) → IsWorld low w → Answers low Anything (touch release w)
  touch_answers low release w left = asking_answers low Anything Anything (before_touch w.acts w) _ (before_answers low w.acts left.0 w left) (λ _ v _ v_left. (tt, released_left low release v v_left))

  -- ---- the sandbox's turn

  abbrev pub Crosses : ℕ → Crossed → Type 0
  Crosses low (Crossed.Returned word w) = IsWord word × IsWorld low w
  Crosses low (Crossed.Called fun words w) = Unit {0}
  Crosses low (Crossed.Over ending w) = Unit {0}

  crosses_on : (low : ℕ) (b : InSandbox) (next : World → Crossed) → LeavesInside low b → ((w : World) → IsWorld low w → Crosses low (next w)) → Crosses low (on_keeps b next)
  crosses_on low (InSandbox.Keeps w) next left more = more w left
  crosses_on low (InSandbox.Answers word w) next left more = left
  crosses_on low (InSandbox.Calls fun words w) next left more = tt
  crosses_on low (InSandbox.Ends ending w) next left more = tt

  pub until_crosses : (low : ℕ) (acts : List Act) → AllByRecursion IsAct acts → (w : World) → IsWorld low w → Crosses low (until_return acts w)
  until_crosses low [] all w left = tt
  until_crosses low (act ∷ acts) all w left =
      crosses_on low (act_in_sandbox act (taken_one act acts w)) (until_return acts) (act_inside low act (taken_one act acts w) all.0 (all.1, left.1, left.2, left.3)) (until_crosses low acts all.1)

  -- ---- what a run asks for

  spent_answers : (low : ℕ) (within : Bool) (w : World) → nat_lt w.ticks budget ≡ within → IsWorld low w → Answers (suc low) Anything (spent_if within w)
  spent_answers low true w h left = let few = left.2 in (tt, (left.0, left.1, omega arith, grind (arith, nat_tests)))
  spent_answers low false w h left = tt

  -- behind a tick there is one more
  pub tick_answers : (low : ℕ) (w : World) → IsWorld low w → Answers (suc low) Anything (spend_tick budget w)
  tick_answers low w left = spent_answers low (nat_lt w.ticks budget) w refl left

  entered_answers : (low : ℕ) (within : Bool) (w : World) → IsWorld low w → Answers low Anything (entered_if within w)
  entered_answers low true w left = (tt, left)
  entered_answers low false w left = tt

  pub enter_answers : (low depth : ℕ) (w : World) → IsWorld low w → Answers low Anything (enter_call depth w)
  enter_answers low depth w left = entered_answers low (nat_lt depth 1000) w left

  input_answers : (low : ℕ) (inputs : List ℤ) (w : World) → AllByRecursion IsNumber inputs → IsWorld low w → Answers low IsNumber (input_from inputs w)
  input_answers low [] w all left = (refl, left)
  input_answers low (z ∷ inputs) w all left = (all.0, (left.0, all.1, left.2, left.3))

  pub next_answers : (low : ℕ) (w : World) → IsWorld low w → Answers low IsNumber (next_input w)
  next_answers low w left = input_answers low w.inputs w left.1 left
