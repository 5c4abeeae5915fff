use Rattle.std.proofs.Common.{ap}
use Rattle.pointer_modes.specs.Types.{ctype}
use Rattle.ckc_core.specs.Core as core
use Rattle.region_typing_scope.specs.OnHeap.{typed}
use Rattle.region_typing_scope.proofs.Entailing.{converted_then}
use Rattle.region_typing_statements.proofs.Settling.{settled_walk, settling_broken}
use Rattle.region_typing_statements.proofs.Walking.{goes_on, refused}
use Rattle.region_typing_statements.proofs.local_arrays.made.Goals as goal

pub returns-in_err-value : goal.returns-in_err-value
returns-in_err-value c =
    rw (converted_then (typed c.args.memory) (ctype c.args.t.now) c.args.span _)
    (refused _ c.from_residual.result c.from_residual.ensures.1 c.in_err-value.ensures)

pub returns-in_err-settle : goal.returns-in_err-settle
returns-in_err-settle c =
    let made = ap core.statement c.in_ok-made.ensures in
    let broken = rw (c.deref.ensures, made) at c.in_err-settle.ensures.known in
    rw (converted_then (typed c.args.memory) (ctype c.args.t.now) c.args.span _)
    (goes_on _ c.in_ok-value.ensures (settling_broken c.args.scope.now c.settle.new.self _ _ c.from_residual-in_err-settle.result c.from_residual-in_err-settle.ensures.1 broken))

pub returns : goal.returns
returns c =
    let zero = c.in_ok-first.ensures in
    let made = ap core.statement c.in_ok-made.ensures in
    let settled = rw (c.deref.ensures, made) at c.in_ok-settle.ensures.known in
    let built = rw (zero, made) at c.in_ok-both.ensures in
    rw (converted_then (typed c.args.memory) (ctype c.args.t.now) c.args.span _)
    (goes_on _ c.in_ok-value.ensures (settled_walk c.args.scope.now c.settle.new.self _ _ c.in_ok-both.field-0 settled built c.in_ok-settle.ensures.seen c.in_ok-settle.ensures.size))
