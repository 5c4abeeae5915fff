use Rattle.std.proofs.Common.{ap, arith, rules}
use Rattle.check_insertion.specs.declared.erased.Expr.{the_lemmas}
use Rattle.check_insertion.specs.Erased.{expression}
use Rattle.check_insertion.specs.Stacks.{expression_stack, arguments_stack}
use Rattle.check_insertion.proofs.Rows.{call_of}
use Rattle.lowering.proofs.Sizes.{stack_above}
use Rattle.lowering.proofs.Slices.{arguments_drop}
use Rattle.lowering.proofs.stacks.+stacks.Goals as goal

pub arguments_stack-loop-before-preserved : goal.arguments_stack-loop-before-preserved
arguments_stack-loop-before-preserved t c =
    let arg = c.index-arguments-before in
    let cut = ap arguments_stack (arguments_drop c.args.arguments.now c.loop-before.before arg.result c.loop-before-test.true arg.is) in
    record {
      whole = omega (arith, c.loop-before.invariant.whole, c.max-most.ensures, c.expression_stack.ensures, cut);
      each = omega (arith, c.loop-before.invariant.each, c.max-most.ensures, c.expression_stack.ensures, stack_above (expression arg.result));
    }

pub expression_stack-arguments_stack-requires : goal.expression_stack-arguments_stack-requires
expression_stack-arguments_stack-requires t c =
    let shape = call_of c.args.expr.now c.in-Call.call c.as_slice.result.now c.in-Call.is c.as_slice.ensures.value in
    (search (rules, the_lemmas), omega (arith, c.requires, ap expression_stack shape))

pub expression_stack-returns-in-Call : goal.expression_stack-returns-in-Call
expression_stack-returns-in-Call t c =
    let shape = call_of c.args.expr.now c.in-Call.call c.as_slice.result.now c.in-Call.is c.as_slice.ensures.value in
    omega (arith, c.max.ensures, c.arguments_stack.ensures, ap expression_stack shape)
