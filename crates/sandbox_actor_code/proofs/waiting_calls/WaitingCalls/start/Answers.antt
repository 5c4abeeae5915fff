use Rattle.std.proofs.Common.{arith}
use Rattle.sandbox_actor_code.proofs.waiting_calls.WaitingCalls.start.Goals as goal

pub invariant_of-result : goal.invariant_of-result
invariant_of-result c =
    record {
      count = omega arith;
      rows = omega (arith, c.loop.invariant.len, c.loop-test.false, c.loop.auto.counter-end);
      room = c.loop.invariant.room;
    }
