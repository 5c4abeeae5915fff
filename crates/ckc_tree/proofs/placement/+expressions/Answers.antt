use Rattle.std.proofs.lemmas.Grind.{common_steps}
use Rattle.std.proofs.Common.{ap, ◌∙◌, arith, rules}
use Rattle.ckc_tree.specs.Walks.{expression_list, arguments_walked}
use Rattle.ckc_tree.proofs.Rows.{call_walked}
use Rattle.ckc_tree.proofs.placement.+expressions.Goals as goal

pub walk_parts_of_expression-returns-in-Call : goal.walk_parts_of_expression-returns-in-Call
walk_parts_of_expression-returns-in-Call t c =
    let call = c.in-Call in
    let slice = c.as_slice.result.now in
    c.walk_arguments.ensures
    ∙ ap (arguments_walked (expression_list slice)) c.pass.ensures
    ∙ call_walked c.args.expr.now call.callee call.arguments call.span slice c.args.cursor.now call.is c.as_slice.ensures.value

pub walk_arguments-loop-argument-preserved : goal.walk_arguments-loop-argument-preserved
walk_arguments-loop-argument-preserved t c = grind (arith, common_steps)

pub walk_arguments-returns : goal.walk_arguments-returns
walk_arguments-returns t c = grind (arith, common_steps)

pub walk_parts_of_bounds-returns-in-Range : goal.walk_parts_of_bounds-returns-in-Range
walk_parts_of_bounds-returns-in-Range t c = search rules

pub walk_parts_of_expression-returns-in-Some : goal.walk_parts_of_expression-returns-in-Some
walk_parts_of_expression-returns-in-Some t c = search rules

pub walk_parts_of_expression-returns-in-Malloc : goal.walk_parts_of_expression-returns-in-Malloc
walk_parts_of_expression-returns-in-Malloc t c = search rules

pub walk_parts_of_expression-returns-in-Calloc : goal.walk_parts_of_expression-returns-in-Calloc
walk_parts_of_expression-returns-in-Calloc t c = search rules

pub walk_parts_of_expression-returns-in-Binary : goal.walk_parts_of_expression-returns-in-Binary
walk_parts_of_expression-returns-in-Binary t c = search rules
