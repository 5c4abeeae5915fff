use Rattle.std.proofs.Common.{ap, sym}
use Rattle.ckc_core.specs.Core.{expression}
use Rattle.pointer_modes.specs.Types.{Int}
use Rattle.region_typing_rules.specs.Verdicts.{Passes}
use Rattle.region_typing_rules.specs.Operands.{Gives}
use Rattle.region_typing_scope.specs.OnHeap.{typed}
use Rattle.region_typing_scope.proofs.Going.{goes_on, refused}
use Rattle.region_typing_expressions.proofs.Continuing.{length_parts}
use Rattle.region_typing_expressions.proofs.calls.text_length.Goals as goal

pub returns-in_err-ctype : goal.returns-in_err-ctype
returns-in_err-ctype c =
    rw (length_parts (typed c.args.text.typed) c.args.text.span c.args.site c.args.span)
    (refused _ c.from_residual.result c.from_residual.ensures.1 c.in_err-ctype.ensures)

pub returns-in_err-needs : goal.returns-in_err-needs
returns-in_err-needs c =
    let unconverted = rw c.becomes_text.ensures at c.in_err-needs.ensures in
    rw (length_parts (typed c.args.text.typed) c.args.text.span c.args.site c.args.span)
    (goes_on _ c.in_ok-ctype.ensures (refused _ c.from_residual-in_err-needs.result c.from_residual-in_err-needs.ensures.1 unconverted))

pub returns-in_err-needs-2 : goal.returns-in_err-needs-2
returns-in_err-needs-2 c =
    let converted = rw c.becomes_text.ensures at c.in_ok-needs.ensures in
    let unmeasured = rw (c.is_measured.ensures, c.deref.ensures) at c.in_err-needs-2.ensures in
    rw (length_parts (typed c.args.text.typed) c.args.text.span c.args.site c.args.span)
    (goes_on _ c.in_ok-ctype.ensures (goes_on _ converted (refused _ c.from_residual-in_err-needs-2.result c.from_residual-in_err-needs-2.ensures.1 unmeasured)))

pub returns : goal.returns
returns c =
    let converted = rw c.becomes_text.ensures at c.in_ok-needs.ensures in
    let measured = rw (c.is_measured.ensures, c.deref.ensures) at c.in_ok-needs-2.ensures in
    rw (length_parts (typed c.args.text.typed) c.args.text.span c.args.site c.args.span)
    (goes_on _ c.in_ok-ctype.ensures (goes_on _ converted (goes_on _ measured (record { so = ap (λ e. Passes (Gives Int (expression e))) (sym c.in_ok-value.ensures) }))))
