use Rattle.std.proofs.Common.{sym, arith}
use Rattle.sandbox_actor_code.proofs.WaitingRows.{length-first}
use Rattle.sandbox_actor_code.proofs.waiting_calls.WaitingCalls.len.Goals as goal

pub returns-clause-count : goal.returns-clause-count
returns-clause-count c =
    let i = c.self.inside in
    rw (← c.self.view_is) (sym (length-first i.rows.items i.count (omega (arith, c.self.invariant.count, c.self.invariant.rows))))
