use Rattle.std.proofs.Common.{ap}
use Rattle.ckc_tree.specs.Expressions.{expression}
use Rattle.region_typing_scope.proofs.Arguments.{call_tree}
use Rattle.region_typing_scope.proofs.sums.+sums.Goals as goal

pub sum_form-returns-in-Call : goal.sum_form-returns-in-Call
sum_form-returns-in-Call t c =
    rw (call_tree c.args.e.now c.in-Call.callee c.in-Call.arguments c.in-Call.span c.as_slice.result.now c.in-Call.is c.as_slice.ensures.value) c.all_forms.ensures

pub sum_form-returns-in-SizeOf : goal.sum_form-returns-in-SizeOf
sum_form-returns-in-SizeOf t c = rw (ap expression c.in-SizeOf.is) (c.size_form.ensures c.in-SizeOf.span)
