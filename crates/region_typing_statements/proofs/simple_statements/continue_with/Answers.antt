use Rattle.std.proofs.Common.{refl, ap}
use Rattle.ckc_core.specs.Core as core
use Rattle.region_typing_scope.specs.OnHeap.{statement}
use Rattle.region_typing_statements.proofs.Testing.{walk_fails, walks_behind}
use Rattle.region_typing_statements.proofs.Walking.{done_in, other_flow}
use Rattle.region_typing_statements.proofs.simple_statements.continue_with.Goals as goal

pub returns-in_err-needs : goal.returns-in_err-needs
returns-in_err-needs c = walk_fails _ _ _ _ _ c.from_residual.result refl c.from_residual.ensures.1 c.in_err-needs.ensures

pub returns : goal.returns
returns c =
    let gone = c.in_ok-go_on.ensures in
    walks_behind _ _ _ _ _ refl c.in_ok-needs.ensures
    (done_in statement c.in_ok-boxed.field-0 core.Continue c.args.scope.now c.go_on.new.self _ (ap core.statement c.in_ok-boxed.ensures) gone.known (other_flow _ _ _ c.args.scope.now c.go_on.new.self gone.known gone.seen gone.size))
