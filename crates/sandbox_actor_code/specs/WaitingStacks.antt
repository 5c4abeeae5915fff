-- The calls that wait for the innermost one, as the rest of the actor sees them.
use Rattle.std.specs.Prelude.{List, [], ◌∷◌, Option, Some, None}
use Rattle.sandbox_actor_code.specs.declared.call_frame.FrameRoom.{FrameRoom}
use Rattle.sandbox_actor_code.specs.declared.waiting_calls.Awaited.{Awaited}
use Rattle.sandbox_actor_code.specs.declared.waiting_calls.WaitingCall.{WaitingCall}

-- the innermost call first, and the room that each has
pub record Waiting : Type 0 where
  pub calls : List WaitingCall
  pub room : FrameRoom

abbrev pub awaited_of : List WaitingCall → Option Awaited
awaited_of [] = None
awaited_of (w ∷ calls) = Some w.awaited
