use Rattle.std.proofs.Common.{refl}
use Rattle.region_typing_scope.specs.OnHeap.{statement}
use Rattle.region_typing_statements.proofs.Walking.{goes_on, refused, done_in, other_flow}
use Rattle.region_typing_statements.proofs.simple_statements.return_from.Goals as goal

pub returns-in_err-built : goal.returns-in_err-built
returns-in_err-built c = refused _ c.from_residual.result c.from_residual.ensures.1 c.in_err-built.ensures

pub returns : goal.returns
returns c =
    let gone = c.in_ok-cut.ensures in
    goes_on _ c.in_ok-built.ensures
    (done_in statement c.in_ok-built.built _ c.args.scope.now c.cut.new.self _ refl gone.known (other_flow _ _ _ c.args.scope.now c.cut.new.self gone.known gone.seen gone.size))
