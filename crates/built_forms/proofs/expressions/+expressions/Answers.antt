use Rattle.built_forms.proofs.Rows.{call_built}
use Rattle.built_forms.proofs.expressions.+expressions.Goals as goal

pub built_expression-returns-in-Call : goal.built_expression-returns-in-Call
built_expression-returns-in-Call t c =
    call_built c.args.written.now c.in-Call.callee c.in-Call.arguments c.in-Call.span c.as_slice.result.now c.built_arguments.result c.in-Call.is c.as_slice.ensures.value c.built_arguments.ensures
