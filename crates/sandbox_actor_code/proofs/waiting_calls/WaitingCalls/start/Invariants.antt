use Rattle.std.proofs.Common.{◌≡◌, length}
use Rattle.std.specs.Prelude.{All}
use Rattle.sandbox_actor_code.specs.declared.waiting_calls.WaitingCall.{WaitingCall}
use Rattle.sandbox_actor_code.proofs.waiting_calls.WaitingCalls.start.Given as goal

-- each row so far has the room
abbrev pub invariant-loop : goal.invariant-loop
invariant-loop l = record {
  len : length l.rows.items ≡ l.counter;
  room : All (λ (row : WaitingCall). row.call.room ≡ l.room) l.rows.items;
}
