use Rattle.std.proofs.Common.{◌≡◌, false, length, replicate, rules, arith}
use Rattle.std.specs.Option.{option_map}
use Rattle.ckc_tree.specs.Statements.{assignment, statement}
use Rattle.region_typing_statements.specs.Marks.{seen}
use Rattle.region_typing_statements.proofs.MarkedLocals.{mark_each, all_below}
use Rattle.region_typing_statements.proofs.assigned.assigned_in.Goals as goal

pub numbers-requires : goal.numbers-requires
numbers-requires c =
    let limit = length c.args.scope.now.locals.items in
    let count : c.len-count.result ≡ limit = search rules in
    let start : c.in_ok-marks.marks.items ≡ replicate c.len-count.result false = search rules in
    let each = mark_each limit c.len-count.result c.len-count.result (seen c.in_ok-visible.visible.items) (seen c.as_slice-2.result.now) (statement c.args.body.now) (option_map assignment c.args.step.now) c.in_ok-marks.marks.items c.mark_statement.new.marks.items c.mark_step.new.marks.items c.as_slice-3.result.now count start c.in_ok-mark_statement.ensures.marked c.mark_step.ensures c.as_slice-3.ensures.value in
    omega (arith, each, c.args.scope.now.few_locals, c.args.scope.now.tracked, c.args.scope.now.few_tracked)

pub returns-clause-below : goal.returns-clause-below
returns-clause-below c =
    let limit = length c.args.scope.now.locals.items in
    let count : c.len-count.result ≡ limit = search rules in
    let start : c.in_ok-marks.marks.items ≡ replicate c.len-count.result false = search rules in
    let each = mark_each limit c.len-count.result c.len-count.result (seen c.in_ok-visible.visible.items) (seen c.as_slice-2.result.now) (statement c.args.body.now) (option_map assignment c.args.step.now) c.in_ok-marks.marks.items c.mark_statement.new.marks.items c.mark_step.new.marks.items c.as_slice-3.result.now count start c.in_ok-mark_statement.ensures.marked c.mark_step.ensures c.as_slice-3.ensures.value in
    all_below limit c.numbers.result c.as_slice-3.result.now each c.numbers.ensures
