use Rattle.region_typing_expressions.proofs.Arguments.{call_tree}
use Rattle.region_typing_expressions.proofs.expressions.call_at.Goals as goal

pub returns-in-Call : goal.returns-in-Call
returns-in-Call c =
    rw (call_tree c.args.e.now c.in-Call.callee c.in-Call.arguments c.in-Call.span c.as_slice-arguments.result.now c.in-Call.is c.as_slice-arguments.ensures.value)
    c.called.ensures
