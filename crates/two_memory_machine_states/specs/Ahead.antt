-- What lies ahead of the innermost call, and several of its instructions at once.
use Rattle.std.specs.Prelude.{ℕ, List, [], drop, Option, Some, None, slice_get}
use Rattle.code_words.specs.declared.op.Op.{Op}
use Rattle.code_words.specs.Functions.{Func}
use Rattle.two_memory_machine_states.specs.Machines.{Machine}

-- the instructions from the one that stands next on
abbrev pub ahead_of : Machine → List Op
ahead_of m = ops_in (slice_get m.image.trusted.funs m.frame.function)
  where
    ops_in : Option Func → List Op
    ops_in None = []
    ops_in (Some f) = drop m.frame.next f.ops

-- the innermost call stands at another instruction, with other slots and another stack
abbrev pub moved_on : ℕ → List ℕ → List ℕ → Machine → Machine
moved_on next slots stack m = record m { frame = record m.frame { next = next; slots = slots; stack = stack } }
