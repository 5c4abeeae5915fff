use Rattle.ckc_tree.proofs.TextRows.{call_texts}
use Rattle.ckc_tree.proofs.expression_texts.+expressions.Goals as goal

pub push_expression_texts-returns-in-Call : goal.push_expression_texts-returns-in-Call
push_expression_texts-returns-in-Call t c =
    let call = c.in-Call in
    rw (← call_texts c.args.written.now call.callee call.arguments call.span c.as_slice-in-Call.result.now call.is c.as_slice-in-Call.ensures.value) c.push_arguments_texts.ensures
