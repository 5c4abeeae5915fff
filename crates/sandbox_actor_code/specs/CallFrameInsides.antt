-- The fields of an open call: what callers see of them, and what is always true of them.
use Rattle.std.specs.Prelude.{◌-◌, ◌≤◌, length, take, drop}
use Rattle.sandbox_actor_code.specs.declared.call_frame.CallFrame.TheInside.{Inside}
use Rattle.sandbox_actor_code.specs.CallFrames.{Call}

-- what callers see
abbrev pub call : Inside → Call
call c =
    record {
      frame = record { function = c.function; next = c.next; slots = take c.used c.slots.items; stack = drop c.top c.stack.items };
      ops = c.ops.now;
      limit = c.limit;
      room = record { slots = length c.slots.items; stack = length c.stack.items };
    }

-- the parts lie in their vectors, and the stack has no more words than it may
pub record IsConsistent (c : Inside) : Type 0 where
  pub slots : c.used ≤ length c.slots.items
  pub top : c.top ≤ length c.stack.items
  pub limit : c.limit ≤ length c.stack.items
  pub few : length c.stack.items - c.top ≤ c.limit
