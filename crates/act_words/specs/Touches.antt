-- Touches: the acts before them and what they release; what the sandbox's turn comes to; and what else a run asks the world
-- for.
use Rattle.std.specs.Prelude.{ℕ, Bool, true, false, nat_lt, List, [], ◌∷◌, length, None, pos}
use Rattle.std.proofs.Common.{ℤ}
use Rattle.ckc_text.specs.declared.code.Code.TheVariants.{S1, S2}
use Rattle.flat_bytes.specs.Blocks.{is_refused, counter_after}
use Rattle.act_words.specs.declared.act.Turn.TheVariants as turns
use Rattle.act_words.specs.declared.ending.Ending.{Ending}
use Rattle.act_words.specs.declared.ending.Ending.TheVariants as endings
use Rattle.act_words.specs.Acts.{Act, Release, Looked, Wrote, Passed, Replied, SeenCall, SeenReply}
use Rattle.act_words.specs.World.{World, Output, Released, Showed, NoAct, telling, holding, in_turn, taken_one, spent_one, with_inputs}
use Rattle.act_words.specs.Acting.{BeforeTouch, InSandbox, act_before_touch, act_in_sandbox, with_bytes, sandbox_ended}

-- what the world answers where a meaning asks it for something: a value, or the run's end
pub data Asked (A : Type 0) : Type 0 where
  Got : (value : A) (world : World) → Asked A
  Ended : (ending : Ending) (world : World) → Asked A

-- goes on from a value, and stays with an end
abbrev pub asking : {A B : Type 0} → Asked A → (A → World → Asked B) → Asked B
asking (Got value w) next = next value w
asking (Ended ending w) next = Ended ending w

-- ---- touches

abbrev pub on_from : BeforeTouch → (World → Asked (Unit {0})) → Asked (Unit {0})
on_from (BeforeTouch.Waits w) next = next w
on_from (BeforeTouch.Touches w) next = Got _ w
on_from (BeforeTouch.Ends ending w) next = Ended ending w

-- acts are taken up to and including the next `go`, or up to the end of the list
abbrev pub before_touch : List Act → World → Asked (Unit {0})
before_touch [] w = Got _ (telling (NoAct turns.Trusted ∷ []) w)
before_touch (act ∷ acts) w = on_from (act_before_touch act (taken_one act acts w)) (before_touch acts)

-- what a touch releases is told. A call and a reply are shown to the sandbox, and give it the turn
abbrev pub released : Release → World → World
released Looked w = telling (Released Looked ∷ []) w
released (Wrote at bytes) w = holding (with_bytes at bytes w.sandbox) (telling (Released (Wrote at bytes) ∷ []) w)
released (Passed fun args) w = in_turn turns.Sandbox (telling (Released (Passed fun args) ∷ Showed (SeenCall fun args) ∷ []) w)
released (Replied value) w = in_turn turns.Sandbox (telling (Released (Replied value) ∷ Showed (SeenReply value) ∷ []) w)

-- one touch
abbrev pub touch : Release → World → Asked (Unit {0})
touch release w = asking (before_touch w.acts w) (λ _ v. Got _ (released release v))

-- ---- the sandbox's turn

-- what the sandbox's turn comes to
pub data Crossed : Type 0 where
  -- the innermost tainted call ends with this word
  Returned : (word : ℕ) (world : World) → Crossed
  -- a callback is called with these words
  Called : (fun : ℕ) (words : List ℕ) (world : World) → Crossed
  -- the run ends
  Over : (ending : Ending) (world : World) → Crossed

-- goes on where the sandbox keeps the turn
abbrev pub on_keeps : InSandbox → (World → Crossed) → Crossed
on_keeps (InSandbox.Keeps w) next = next w
on_keeps (InSandbox.Answers word w) next = Returned word w
on_keeps (InSandbox.Calls fun words w) next = Called fun words w
on_keeps (InSandbox.Ends ending w) next = Over ending w

-- acts are taken until the next `return` or `call`. The sandbox ends with the list
abbrev pub until_return : List Act → World → Crossed
until_return [] w = Over sandbox_ended (telling (NoAct turns.Sandbox ∷ []) w)
until_return (act ∷ acts) w = on_keeps (act_in_sandbox act (taken_one act acts w)) (until_return acts)

-- ---- what calls ask for

abbrev pub spent_if : Bool → World → Asked (Unit {0})
spent_if true w = Got _ (spent_one w)
spent_if false w = Ended (endings.Stop S1 None) w

-- S1: a tick is due, and as many as the budget were spent
abbrev pub spend_tick : ℕ → World → Asked (Unit {0})
spend_tick budget w = spent_if (nat_lt w.ticks budget) w

abbrev pub entered_if : Bool → World → Asked (Unit {0})
entered_if true w = Got _ w
entered_if false w = Ended (endings.Stop S2 None) w

-- S2: a call would make 1,001 open calls
abbrev pub enter_call : ℕ → World → Asked (Unit {0})
enter_call depth w = entered_if (nat_lt depth 1000) w

-- ---- input, output, and room

abbrev pub input_from : List ℤ → World → Asked ℤ
input_from [] w = Got (pos 0) w
input_from (number ∷ inputs) w = Got number (with_inputs inputs w)

-- the next input number, and 0 behind the last
abbrev pub next_input : World → Asked ℤ
next_input w = input_from w.inputs w

-- the program writes
abbrev pub write : List ℕ → World → World
write bytes w = telling (Output bytes ∷ []) w

abbrev pub offset_unless : Bool → ℕ → ℕ
offset_unless true offset = 0
offset_unless false offset = offset

-- a block of so many bytes of the sandbox's memory: its offset, and 0 where it is refused
abbrev pub make_block : ℕ → World → Asked ℕ
make_block bytes w =
    Got (offset_unless (is_refused (length w.sandbox) w.room bytes) w.room) (record w { room = counter_after (length w.sandbox) w.room bytes })
