use Rattle.region_typing_scope.specs.OnHeap.{statement}
use Rattle.region_typing_statements.proofs.Walking.{done_in, other_flow}
use Rattle.region_typing_statements.proofs.statements.branch_ended.Goals as goal

pub returns : goal.returns
returns c =
    let met = c.in_ok-meet.ensures in
    done_in statement c.in_ok-choice.field-0 _ c.args.scope.now c.meet.new.self _ c.in_ok-choice.ensures met.known (other_flow _ _ _ c.args.scope.now c.meet.new.self met.known met.seen met.size)
