-- An open call of the sandbox's code, as the rest of the actor sees it.
use Rattle.std.specs.Prelude.{ℕ, ◌≤◌, Bool, true, false, List, [], ◌∷◌, slice_set}
use Rattle.code_words.specs.declared.op.Op.{Op}
use Rattle.code_words.specs.Functions.{Func}
use Rattle.code_words.specs.SandboxCode.{Frame}
use Rattle.code_words.specs.Table.{slots_for}
use Rattle.sandbox_actor_code.specs.declared.call_frame.FrameRoom.{FrameRoom}

-- a frame, the instructions of its function, how many words its stack may have, and what there is room for
pub record Call : Type 0 where
  pub frame : Frame
  pub ops : List Op
  pub limit : ℕ
  pub room : FrameRoom

-- the function's frame has room
pub record IsRoomFor (f : Func) (room : FrameRoom) : Type 0 where
  pub slots : f.slots ≤ room.slots
  pub stack : f.stack ≤ room.stack

abbrev pub with_stack : List ℕ → Call → Call
with_stack stack c = record c { frame = record c.frame { stack = stack } }

-- the next instruction is another one
abbrev pub at_next : ℕ → Call → Call
at_next next c = record c { frame = record c.frame { next = next } }

-- a word on a stack that may have it
abbrev pub pushed_if : Bool → ℕ → List ℕ → Call → Call
pushed_if true word below c = with_stack (word ∷ below) c
pushed_if false word below c = c

-- a word in a slot that is there
abbrev pub slot_set_if : Bool → ℕ → ℕ → Call → Call
slot_set_if true k word c = record c { frame = record c.frame { slots = slice_set c.frame.slots k word } }
slot_set_if false k word c = c

-- a function is called with these words
abbrev pub called : Func → List ℕ → Call → Call
called fun words c =
    record {
      frame = record { function = fun.number; next = 0; slots = slots_for fun words; stack = [] };
      ops = fun.ops;
      limit = fun.stack;
      room = c.room;
    }
