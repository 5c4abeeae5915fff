use Rattle.std.proofs.Common.{refl}
use Rattle.region_typing_scope.specs.OnHeap.{statement}
use Rattle.region_typing_statements.proofs.Walking.{goes_on, refused}
use Rattle.region_typing_statements.proofs.Settling.{settled_walk, settling_broken}
use Rattle.region_typing_statements.proofs.simple_statements.assign.Goals as goal

pub returns-in_err-built : goal.returns-in_err-built
returns-in_err-built c = refused _ c.from_residual.result c.from_residual.ensures.1 c.in_err-built.ensures

pub returns-in_err-settle : goal.returns-in_err-settle
returns-in_err-settle c =
    let broken = rw (c.deref.ensures, c.span.ensures) at c.in_err-settle.ensures.known in
    goes_on _ c.in_ok-built.ensures
    (settling_broken c.args.scope.now c.settle.new.self (statement c.in_ok-built.built) _ c.from_residual-in_err-settle.result c.from_residual-in_err-settle.ensures.1 broken)

pub returns : goal.returns
returns c =
    let settled = rw (c.deref.ensures, c.span.ensures) at c.in_ok-settle.ensures.known in
    goes_on _ c.in_ok-built.ensures
    (settled_walk c.args.scope.now c.settle.new.self (statement c.in_ok-built.built) _ c.in_ok-built.built settled refl c.in_ok-settle.ensures.seen c.in_ok-settle.ensures.size)
