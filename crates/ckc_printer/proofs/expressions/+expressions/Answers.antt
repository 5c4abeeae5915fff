use Rattle.ckc_printer.proofs.Texts.{behind}
use Rattle.ckc_printer.proofs.Arguments.{call_of}
use Rattle.ckc_printer.proofs.expressions.+expressions.Goals as goal

pub put_expr-returns-in-Call : goal.put_expr-returns-in-Call
put_expr-returns-in-Call t c =
    let call = c.in-Call in
    rw (call_of c.args.expr.now call.callee call.arguments call.span call.is, ← c.as_slice-in-Call.ensures.value) c.put_call.ensures

pub put_bounds-returns-in-ByteCount : goal.put_bounds-returns-in-ByteCount
put_bounds-returns-in-ByteCount t c =
    let closed = rw c.deref-in-ByteCount.ensures at c.put_closed-in-ByteCount.ensures in
    rw c.in-ByteCount.is (behind c.put-in-ByteCount.ensures closed)

pub put_bounds-returns-in-Unknown : goal.put_bounds-returns-in-Unknown
put_bounds-returns-in-Unknown t c = rw c.in-Unknown.is c.put-in-Unknown.ensures
