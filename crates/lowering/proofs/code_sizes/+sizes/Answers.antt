use Rattle.std.proofs.Common.{ap, arith, rules}
use Rattle.check_insertion.specs.declared.erased.Expr.{the_lemmas}
use Rattle.check_insertion.proofs.Rows.{call_of}
use Rattle.lowering.specs.Code.{expression_size}
use Rattle.lowering.proofs.code_sizes.+sizes.Goals as goal

pub expression_size-arguments_size-requires : goal.expression_size-arguments_size-requires
expression_size-arguments_size-requires t c =
    let shape = call_of c.args.expr.now c.in-Call.call c.as_slice.result.now c.in-Call.is c.as_slice.ensures.value in
    (search (rules, the_lemmas), omega (arith, c.requires, ap expression_size shape))

pub expression_size-overflow_add-result-in-Call : goal.expression_size-overflow_add-result-in-Call
expression_size-overflow_add-result-in-Call t c =
    let shape = call_of c.args.expr.now c.in-Call.call c.as_slice.result.now c.in-Call.is c.as_slice.ensures.value in
    omega (arith, c.requires, c.arguments_size.ensures, ap expression_size shape)

pub expression_size-returns-in-Call : goal.expression_size-returns-in-Call
expression_size-returns-in-Call t c =
    let shape = call_of c.args.expr.now c.in-Call.call c.as_slice.result.now c.in-Call.is c.as_slice.ensures.value in
    omega (arith, c.arguments_size.ensures, ap expression_size shape)
