use Rattle.std.proofs.Common.{refl}
use Rattle.region_typing_scope.specs.OnHeap.{statement}
use Rattle.region_typing_statements.proofs.Walking.{goes_on, refused, done_in, other_flow}
use Rattle.region_typing_statements.proofs.bundles.unsettled_assignment.Goals as goal

pub returns-in_err-built : goal.returns-in_err-built
returns-in_err-built c = refused _ c.from_residual.result c.from_residual.ensures.1 c.in_err-built.ensures

pub returns : goal.returns
returns c =
    let gone = c.in_ok-assign.ensures in
    let known = rw c.deref.ensures at gone.known in
    goes_on _ c.in_ok-built.ensures
    (done_in statement c.in_ok-built.built _ c.args.scope.now c.assign.new.self _ refl known (other_flow _ _ _ c.args.scope.now c.assign.new.self known gone.seen gone.size))
