-- Walks over texts of trusted memory, as the table counts them.
use Rattle.std.specs.Prelude.{◌≡◌, ℕ, ◌+◌, List, length, None}
use Rattle.ckc_text.specs.declared.code.Code.TheVariants.{S1}
use Rattle.trusted_memory.specs.Memories.{Memory}
use Rattle.act_words.specs.declared.ending.Ending.TheVariants.{Stop}
use Rattle.code_words.specs.Functions.{Func}
use Rattle.code_words.specs.Table.{Frame, State, Step, Over, wild, push, count_from}
use Rattle.two_memory_machine_memory.specs.declared.texts.TextEnd.{TextEnd}
use Rattle.two_memory_machine_memory.specs.declared.texts.TextEnd.TheVariants as ends
use Rattle.two_memory_machine_memory.specs.declared.texts.Walk.{Walk}

-- so many ticks were spent
abbrev pub with_ticks : ℕ → State → State
with_ticks n s = record s { world = record s.world { ticks = n } }

-- what the table's count comes to at the end of a walk
abbrev pub step_at : TextEnd → Func → ℕ → ℕ → List ℕ → Frame → State → Step
step_at ends.Zero fun ticks count stack f s = push fun count stack f (with_ticks (ticks + count + 1) s)
step_at ends.Outside fun ticks count stack f s = wild (with_ticks (ticks + count + 1) s)
step_at ends.NoTick fun ticks count stack f s = Over (Stop S1 None) (with_ticks (ticks + count) s)

-- the table's count from an address on comes to this
abbrev pub IsWalked : Memory → ℕ → ℕ → ℕ → Walk → Type 0
IsWalked memory start ticks budget w =
    (fun : Func) (stack : List ℕ) (f : Frame) (s : State) → s.memory ≡ memory → s.world.ticks ≡ ticks →
    count_from (length memory.bytes) fun budget start 0 stack f s ≡ step_at w.end fun ticks w.count stack f s

-- a tick was left
abbrev pub IsEarly : TextEnd → Type 0
IsEarly ends.Zero = Unit {0}
IsEarly ends.Outside = Unit {0}
IsEarly ends.NoTick = ⊥
