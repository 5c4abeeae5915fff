use Rattle.region_typing_scope.specs.OnHeap.{statement}
use Rattle.region_typing_statements.proofs.Walking.{done_in, other_turns}
use Rattle.region_typing_statements.proofs.statements.loop_ended.Goals as goal

pub returns : goal.returns
returns c =
    let gone = c.in_ok-leave_loop.ensures in
    done_in statement c.in_ok-repeated.field-0 _ c.args.scope.now c.leave_loop.new.self _ c.in_ok-repeated.ensures gone.known (other_turns _ _ _ _ c.args.scope.now c.leave_loop.new.self gone.known gone.seen gone.size)
