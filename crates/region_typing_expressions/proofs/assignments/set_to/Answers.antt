use Rattle.std.proofs.Common.{ap, sym, ◌∙◌}
use Rattle.ckc_core.specs.Core.{statement}
use Rattle.region_typing_rules.specs.Verdicts.{Passes}
use Rattle.region_typing_scope.specs.OnHeap.{typed}
use Rattle.region_typing_scope.proofs.Going.{goes_on, refused}
use Rattle.region_typing_expressions.proofs.Continuing.{set_parts}
use Rattle.region_typing_expressions.proofs.assignments.set_to.Goals as goal

pub returns-in_err-value : goal.returns-in_err-value
returns-in_err-value c =
    let value = rw (c.declared_for-declared.ensures, c.deref.ensures, c.deref-2.ensures, c.deref-3.ensures) at c.in_err-value.ensures in
    rw (set_parts c.args.scope.now.flow (typed c.args.left) (typed c.args.right) c.args.span) (goes_on _ c.in_ok-target.ensures (refused _ c.from_residual-in_err-value.result c.from_residual-in_err-value.ensures.1 value))

pub returns : goal.returns
returns c =
    let value = rw (c.declared_for-declared.ensures, c.deref.ensures, c.deref-2.ensures, c.deref-3.ensures) at c.in_ok-value.ensures in
    let stored = rw (c.into_inner.ensures) at c.store.ensures in
    rw (set_parts c.args.scope.now.flow (typed c.args.left) (typed c.args.right) c.args.span)
    (goes_on _ c.in_ok-target.ensures (goes_on _ value (record { so = ap Passes (sym (ap statement c.in_ok-boxed.ensures ∙ stored)) })))
