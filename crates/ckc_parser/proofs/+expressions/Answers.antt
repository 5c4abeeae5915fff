use Rattle.std.proofs.Common.{◌≤◌, ◌+◌, [], length, refl, sym, ap, ◌∙◌, arith, rules}
use Rattle.ckc_lexer.specs.declared.token.TokenKind.TheVariants as kinds
use Rattle.ckc_tree.specs.Expressions.{expression}
use Rattle.ckc_tree.specs.Heights.{expression_reach, expressions_reach}
use Rattle.ckc_parser_grammar.specs.ExpressionGrammar as g
use Rattle.ckc_parser_grammar.specs.StuckExpressions as s
use Rattle.ckc_parser.specs.Readings.{listed}
use Rattle.ckc_parser.specs.Contexts.{Base, waiting, paren_start}
use Rattle.ckc_parser.specs.Endings.{within, unended}
use Rattle.ckc_parser.specs.Parts as parts
use Rattle.ckc_parser.specs.Parts.{no_type, no_operand, no_comma, no_bounds}
use Rattle.ckc_parser_grammar.proofs.Readings.{err, begins, takes, may_take, takes_more, low_around}
use Rattle.ckc_parser.proofs.Selecting.{primary_built, primary_reads, selects_built, height_is, start_is, room, selector_is, index_stuck, index_selects, selects_none, selects_more}
use Rattle.ckc_parser.proofs.Arguments.{follows_none, follows_more, low_pushed, all_read, first_read}
use Rattle.ckc_parser.proofs.BoundsForms.{word_of_bounds, count_stuck, count_read, no_comma_or_paren, low_stuck, high_stuck, unknown_refused}
use Rattle.ckc_parser.proofs.TypedParts.{cast_stuck, malloc_stuck, calloc_stuck, last_stuck, size_stuck}
use Rattle.ckc_parser.proofs.Contexts.{needs_first}
use Rattle.ckc_parser_grammar.proofs.Paths.{low_beside}
use Rattle.ckc_parser.proofs.ContextSteps.{operator_shorter, needs_in, depth_fits, primary_fails, primary_read, selectors_fail, selectors_read, unclosed, closed_again, some_wait, whole_before, whole_outside, whole_read, tight_before}
use Rattle.ckc_parser.proofs.+expressions.Goals as goal

pub bounds::bounds-returns-in_err-form-clause-reads : goal.bounds::bounds-returns-in_err-form-clause-reads
bounds::bounds-returns-in_err-form-clause-reads t c = rw (err _ _ c.from_residual.ensures.1, c.in_err-form.ensures.reason, c.in_err-form.ensures.left) (s.no_bounds c.in_err-form.ensures.other)

pub bounds::bounds-returns-in_err-open_paren-clause-reads : goal.bounds::bounds-returns-in_err-open_paren-clause-reads
bounds::bounds-returns-in_err-open_paren-clause-reads t c = rw (err _ _ c.from_residual-in_err-open_paren.ensures.1, c.in_err-open_paren.ensures.reason, c.in_err-open_paren.ensures.left, c.in_ok-form.ensures) (s.opens (word_of_bounds c.in_ok-form.form) c.in_err-open_paren.ensures.other)

pub bounds::bounds-returns-in-Count-clause-reads : goal.bounds::bounds-returns-in-Count-clause-reads
bounds::bounds-returns-in-Count-clause-reads t c = rw (c.in_ok-form.ensures, c.in_ok-open_paren.ensures, c.in-Count.is) (c.count.ensures.reads _)

pub bounds::bounds-returns-in-ByteCount-clause-reads : goal.bounds::bounds-returns-in-ByteCount-clause-reads
bounds::bounds-returns-in-ByteCount-clause-reads t c = rw (c.in_ok-form.ensures, c.in_ok-open_paren.ensures, c.in-ByteCount.is) (c.count-in-ByteCount.ensures.reads _)

pub bounds::bounds-returns-in-Ends-clause-reads : goal.bounds::bounds-returns-in-Ends-clause-reads
bounds::bounds-returns-in-Ends-clause-reads t c = rw (c.in_ok-form.ensures, c.in_ok-open_paren.ensures, c.in-Ends.is) (c.ends.ensures.reads _)

pub bounds::count-returns-in_err-count-clause-reads : goal.bounds::count-returns-in_err-count-clause-reads
bounds::count-returns-in_err-count-clause-reads t c = λ p. rw (err _ _ c.from_residual.ensures.1) (count_stuck c.args.is_count c.in_err-count.ensures.reads)

pub bounds::count-returns-clause-reads : goal.bounds::count-returns-clause-reads
bounds::count-returns-clause-reads t c = λ p. rw (c.counted.ensures.tree, c.counted.ensures.placed) (count_read _ c.args.is_count c.in_ok-count.ensures.reads.0 c.in_ok-count.ensures.reads.1)

pub bounds::ends-returns-in-Some-clause-reads : goal.bounds::ends-returns-in-Some-clause-reads
bounds::ends-returns-in-Some-clause-reads t c = λ p. rw (c.in-Some.ensures.1, c.join-span.ensures) (g.unknown refl refl, omega arith)

pub bounds::ends-returns-clause-reads : goal.bounds::ends-returns-clause-reads
bounds::ends-returns-clause-reads t c = c.range.ensures.reads

pub bounds::range-returns-in_err-too_deep-clause-reads : goal.bounds::range-returns-in_err-too_deep-clause-reads
bounds::range-returns-in_err-too_deep-clause-reads t c = λ p. rw (err _ _ c.from_residual.ensures.1) (unknown_refused _ _ _ c.requires.known c.in_err-too_deep.ensures.2 c.in_err-too_deep.ensures.3 c.in_err-too_deep.ensures.4)

pub bounds::range-returns-in_err-low-clause-reads : goal.bounds::range-returns-in_err-low-clause-reads
bounds::range-returns-in_err-low-clause-reads t c = λ p. rw (err _ _ c.from_residual-in_err-low.ensures.1) (low_stuck c.requires.known c.in_ok-too_deep.ensures.1 (rw c.in_ok-too_deep.ensures.0 at c.in_err-low.ensures.reads))

pub bounds::range-returns-in_err-high-clause-reads : goal.bounds::range-returns-in_err-high-clause-reads
bounds::range-returns-in_err-high-clause-reads t c = λ p. rw (err _ _ c.from_residual-in_err-high.ensures.1) (high_stuck (rw c.in_ok-too_deep.ensures.0 at c.in_ok-low.ensures.reads.0) c.in_ok-low.ensures.reads.1 c.in_err-high.ensures.reads)

pub bounds::range-returns-clause-reads : goal.bounds::range-returns-clause-reads
bounds::range-returns-clause-reads t c = λ p. rw (c.between.ensures.tree, c.between.ensures.placed)
    (g.range refl (rw c.in_ok-too_deep.ensures.0 at c.in_ok-low.ensures.reads.0) c.in_ok-high.ensures.reads.0, low_beside _ _ _ c.in_ok-low.ensures.reads.1 c.in_ok-high.ensures.reads.1)

pub bounds::range-returns-clause-shorter : goal.bounds::range-returns-clause-shorter
bounds::range-returns-clause-shorter t c = omega (arith, ap length c.in_ok-too_deep.ensures.0, c.in_ok-low.ensures.shorter, c.in_ok-high.ensures.shorter)

pub expressions::closed-reduced-requires : goal.expressions::closed-reduced-requires
expressions::closed-reduced-requires t c = let has = c.closed.invariant.0 c.requires.0 c.requires.1 in (c.requires.0, has.around, c.in_ok-selected.ensures.reads.1)

pub expressions::closed-returns-in_err-selected-clause-reads : goal.expressions::closed-returns-in_err-selected-clause-reads
expressions::closed-returns-in_err-selected-clause-reads t c = λ b start. let has = c.closed.invariant.0 b start in rw (err _ _ c.from_residual.ensures.1) (selectors_fail has c.in_err-selected.ensures.reads)

pub expressions::closed-returns-in_err-whole-clause-reads : goal.expressions::closed-returns-in_err-whole-clause-reads
expressions::closed-returns-in_err-whole-clause-reads t c = λ b start. let has = c.closed.invariant.0 b start in rw (err _ _ c.from_residual-in_err-whole.ensures.1, c.in_err-whole.ensures b c.selectors.new.tokens.now c.looseness-looser.ensures (selectors_read has c.looseness-looser.ensures c.in_ok-selected.ensures.reads.0 c.in_ok-selected.ensures.reads.1)) (selectors_fail has s.selectors_no_room)

pub expressions::closed-returns-then-looser-le10-clause-reads : goal.expressions::closed-returns-then-looser-le10-clause-reads
expressions::closed-returns-then-looser-le10-clause-reads t c = λ b start. let has = c.closed.invariant.0 b start in let read = c.in_ok-whole.ensures b c.selectors.new.tokens.now c.looseness-looser.ensures (selectors_read has c.looseness-looser.ensures c.in_ok-selected.ensures.reads.0 c.in_ok-selected.ensures.reads.1) in whole_before read.0 c.looseness-looser.ensures read.1 c.if-looser-le10.true

pub expressions::closed-returns-in_default-clause-reads : goal.expressions::closed-returns-in_default-clause-reads
expressions::closed-returns-in_default-clause-reads t c = λ b start. let has = c.closed.invariant.0 b start in let read = c.in_ok-whole.ensures b c.selectors.new.tokens.now c.looseness-looser.ensures (selectors_read has c.looseness-looser.ensures c.in_ok-selected.ensures.reads.0 c.in_ok-selected.ensures.reads.1) in whole_outside read.0 c.looseness-looser.ensures read.1 (sym (c.in_default.ensures ∙ ap (λ x. paren_start (waiting x)) c.as_slice.ensures.value))

pub expressions::closed-returns-in_err-end-clause-reads : goal.expressions::closed-returns-in_err-end-clause-reads
expressions::closed-returns-in_err-end-clause-reads t c = λ b start. let has = c.closed.invariant.0 b start in let read = c.in_ok-whole.ensures b c.selectors.new.tokens.now c.looseness-looser.ensures (selectors_read has c.looseness-looser.ensures c.in_ok-selected.ensures.reads.0 c.in_ok-selected.ensures.reads.1) in rw (err _ _ c.from_residual-in_err-end.ensures.1, c.in_err-end.ensures.reason, c.in_err-end.ensures.left) (unclosed read.0 c.looseness-looser.ensures (sym (c.in-Some.ensures ∙ ap (λ x. paren_start (waiting x)) c.as_slice.ensures.value)) c.if-looser-le10.false c.in_err-end.ensures.other)

pub expressions::closed-unwrapped-operand-requires : goal.expressions::closed-unwrapped-operand-requires
expressions::closed-unwrapped-operand-requires t c = some_wait _ c.in-Some.start (sym (c.in-Some.ensures ∙ ap (λ x. paren_start (waiting x)) c.as_slice.ensures.value))

pub expressions::closed-closed-preserved : goal.expressions::closed-closed-preserved
expressions::closed-closed-preserved t c = (λ b start. let has = c.closed.invariant.0 b start in let read = c.in_ok-whole.ensures b c.selectors.new.tokens.now c.looseness-looser.ensures (selectors_read has c.looseness-looser.ensures c.in_ok-selected.ensures.reads.0 c.in_ok-selected.ensures.reads.1) in closed_again _ _ read.0 c.looseness-looser.ensures (sym (c.in-Some.ensures ∙ ap (λ x. paren_start (waiting x)) c.as_slice.ensures.value)) c.if-looser-le10.false c.in_ok-end.ensures c.join.ensures c.unwrapped-operand.ensures, omega (arith, ap length c.in_ok-end.ensures, c.in_ok-selected.ensures.shorter))

pub expressions::expression_before-returns-in_err-operand-clause-reads : goal.expressions::expression_before-returns-in_err-operand-clause-reads
expressions::expression_before-returns-in_err-operand-clause-reads t c = rw (err _ _ c.from_residual.ensures.1) (within c.in_err-operand.ensures.reads)

pub expressions::expression_before-returns-in_err-end-clause-reads : goal.expressions::expression_before-returns-in_err-end-clause-reads
expressions::expression_before-returns-in_err-end-clause-reads t c = rw (err _ _ c.from_residual-in_err-end.ensures.1, c.in_err-end.ensures.reason, c.in_err-end.ensures.left) (unended c.in_ok-operand.ensures.reads.0 c.in_ok-operand.ensures.reads.1 c.in_err-end.ensures.other)

pub expressions::expression_before-returns-clause-reads : goal.expressions::expression_before-returns-clause-reads
expressions::expression_before-returns-clause-reads t c = (rw c.in_ok-end.ensures at c.in_ok-operand.ensures.reads.0, c.in_ok-operand.ensures.reads.1)

pub expressions::indexed-returns-in_err-index-clause-reads : goal.expressions::indexed-returns-in_err-index-clause-reads
expressions::indexed-returns-in_err-index-clause-reads t c = λ start. rw (err _ _ c.from_residual.ensures.1) (index_stuck (room _ c.args.operand c.requires) (rw c.deeper.ensures at c.in_err-index.ensures.reads))

pub expressions::indexed-returns-clause-reads : goal.expressions::indexed-returns-clause-reads
expressions::indexed-returns-clause-reads t c = λ start. selects_built _ c.index_with.ensures (index_selects (room _ c.args.operand c.requires) c.in_ok-index.ensures.reads.0 (rw c.deeper.ensures at c.in_ok-index.ensures.reads.1))

pub expressions::indexed-returns-clause-shorter : goal.expressions::indexed-returns-clause-shorter
expressions::indexed-returns-clause-shorter t c = takes _ _ _ c.in_ok-index.ensures.shorter

pub expressions::operators-operators-init : goal.expressions::operators-operators-init
expressions::operators-operators-init t c =
    let b : Base = record { loosest = c.args.loosest; depth = c.args.depth; tokens = c.args.tokens.now.now } in
    (needs_in b _ _ [] (ap waiting c.new.ensures.items) refl refl (c.requires.loose, c.requires.high) (needs_first b), omega arith)

pub expressions::operators-returns-in_err-prefixes-clause-reads : goal.expressions::operators-returns-in_err-prefixes-clause-reads
expressions::operators-returns-in_err-prefixes-clause-reads t c = rw (err _ _ c.from_residual.ensures.1) (c.in_err-prefixes.ensures.reads _ c.operators.invariant.0)

pub expressions::operators-primary-requires : goal.expressions::operators-primary-requires
expressions::operators-primary-requires t c = let pre = c.in_ok-prefixes.ensures.reads _ c.operators.invariant.0 in (search rules, depth_fits pre.0.around)

pub expressions::operators-returns-in_err-operand-clause-reads : goal.expressions::operators-returns-in_err-operand-clause-reads
expressions::operators-returns-in_err-operand-clause-reads t c = let pre = c.in_ok-prefixes.ensures.reads _ c.operators.invariant.0 in rw (err _ _ c.from_residual-in_err-operand.ensures.1) (primary_fails pre.0 pre.1 c.in_err-operand.ensures.reads)

pub expressions::operators-closed-requires : goal.expressions::operators-closed-requires
expressions::operators-closed-requires t c = let pre = c.in_ok-prefixes.ensures.reads _ c.operators.invariant.0 in (search rules, (_, (primary_read pre.0 c.in_ok-operand.ensures.reads.0 c.in_ok-operand.ensures.reads.1)))

pub expressions::operators-returns-in_err-operand-2-clause-reads : goal.expressions::operators-returns-in_err-operand-2-clause-reads
expressions::operators-returns-in_err-operand-2-clause-reads t c = let pre = c.in_ok-prefixes.ensures.reads _ c.operators.invariant.0 in rw (err _ _ c.from_residual-in_err-operand-2.ensures.1) (c.in_err-operand-2.ensures.reads _ (primary_read pre.0 c.in_ok-operand.ensures.reads.0 c.in_ok-operand.ensures.reads.1))

pub expressions::operators-returns-in_default-clause-reads : goal.expressions::operators-returns-in_default-clause-reads
expressions::operators-returns-in_default-clause-reads t c = let pre = c.in_ok-prefixes.ensures.reads _ c.operators.invariant.0 in let whole = c.in_ok-operand-2.ensures.reads _ (primary_read pre.0 c.in_ok-operand.ensures.reads.0 c.in_ok-operand.ensures.reads.1) in rw c.in_default.ensures.0 (whole_read whole c.in_default.ensures.1)

pub expressions::operators-wait_for_right-requires-clause-low : goal.expressions::operators-wait_for_right-requires-clause-low
expressions::operators-wait_for_right-requires-clause-low t c = let pre = c.in_ok-prefixes.ensures.reads _ c.operators.invariant.0 in let whole = c.in_ok-operand-2.ensures.reads _ (primary_read pre.0 c.in_ok-operand.ensures.reads.0 c.in_ok-operand.ensures.reads.1) in whole.read.low

pub expressions::operators-wait_for_right-requires-clause-depth : goal.expressions::operators-wait_for_right-requires-clause-depth
expressions::operators-wait_for_right-requires-clause-depth t c = let pre = c.in_ok-prefixes.ensures.reads _ c.operators.invariant.0 in let whole = c.in_ok-operand-2.ensures.reads _ (primary_read pre.0 c.in_ok-operand.ensures.reads.0 c.in_ok-operand.ensures.reads.1) in depth_fits whole.read.around

pub expressions::operators-returns-in_err-wait_for_right-clause-reads : goal.expressions::operators-returns-in_err-wait_for_right-clause-reads
expressions::operators-returns-in_err-wait_for_right-clause-reads t c = let pre = c.in_ok-prefixes.ensures.reads _ c.operators.invariant.0 in let whole = c.in_ok-operand-2.ensures.reads _ (primary_read pre.0 c.in_ok-operand.ensures.reads.0 c.in_ok-operand.ensures.reads.1) in rw (err _ _ c.from_residual-in_err-wait_for_right.ensures.1) (c.in_err-wait_for_right.ensures _ _ _ c.in-Some.ensures.0 c.in-Some.ensures.1 (tight_before whole c.in-Some.ensures.0))

pub expressions::operators-operators-preserved : goal.expressions::operators-operators-preserved
expressions::operators-operators-preserved t c = let pre = c.in_ok-prefixes.ensures.reads _ c.operators.invariant.0 in let whole = c.in_ok-operand-2.ensures.reads _ (primary_read pre.0 c.in_ok-operand.ensures.reads.0 c.in_ok-operand.ensures.reads.1) in (c.in_ok-wait_for_right.ensures _ _ _ c.in-Some.ensures.0 c.in-Some.ensures.1 (tight_before whole c.in-Some.ensures.0), omega (arith, c.in_ok-prefixes.ensures.shorter, c.in_ok-operand.ensures.shorter, c.in_ok-operand-2.ensures.shorter, operator_shorter c.closed.new.tokens.now c.in-Some.ensures.0))

pub expressions::operators-operators-smaller : goal.expressions::operators-operators-smaller
expressions::operators-operators-smaller t c = omega (arith, c.in_ok-prefixes.ensures.shorter, c.in_ok-operand.ensures.shorter, c.in_ok-operand-2.ensures.shorter, operator_shorter c.closed.new.tokens.now c.in-Some.ensures.0)

pub expressions::operators-returns-in_default-clause-shorter : goal.expressions::operators-returns-in_default-clause-shorter
expressions::operators-returns-in_default-clause-shorter t c = omega (arith, ap length c.in_default.ensures.0, c.in_ok-prefixes.ensures.shorter, c.in_ok-operand.ensures.shorter, c.in_ok-operand-2.ensures.shorter)

pub expressions::selected-returns-in-Index-clause-reads : goal.expressions::selected-returns-in-Index-clause-reads
expressions::selected-returns-in-Index-clause-reads t c = λ start. rw c.in-Index.is (c.indexed.ensures.reads start)

pub expressions::selected-returns-in-Dot-clause-reads : goal.expressions::selected-returns-in-Dot-clause-reads
expressions::selected-returns-in-Dot-clause-reads t c = λ start. rw c.in-Dot.is (c.member.ensures.reads _ start c.requires)

pub expressions::selected-returns-in-Arrow-clause-reads : goal.expressions::selected-returns-in-Arrow-clause-reads
expressions::selected-returns-in-Arrow-clause-reads t c = λ start. rw c.in-Arrow.is (c.member-in-Arrow.ensures.reads _ start c.requires)

pub expressions::selectors-selectors-init : goal.expressions::selectors-selectors-init
expressions::selectors-selectors-init t c = (selects_none c.requires.low, omega arith)

pub expressions::selectors-check_around-requires : goal.expressions::selectors-check_around-requires
expressions::selectors-check_around-requires t c = omega (arith, height_is c.selectors.operand, c.selectors.invariant.0.low)

pub expressions::selectors-returns-in_err-check_around-clause-reads : goal.expressions::selectors-returns-in_err-check_around-clause-reads
expressions::selectors-returns-in_err-check_around-clause-reads t c =
    let deep = rw (height_is c.selectors.operand) at c.in_err-check_around.ensures.1 in
    rw (err _ _ c.from_residual.ensures.1, c.in_err-check_around.ensures.0, start_is c.selectors.operand) (c.selectors.invariant.0.fails (rw c.in-Some.ensures.1 (s.selectors_deep (selector_is c.in-Some.selector) deep)))

pub expressions::selectors-returns-in_err-operand-clause-reads : goal.expressions::selectors-returns-in_err-operand-clause-reads
expressions::selectors-returns-in_err-operand-clause-reads t c = rw (err _ _ c.from_residual-in_err-operand.ensures.1) (c.selectors.invariant.0.fails (rw c.in-Some.ensures.1 (c.in_err-operand.ensures.reads c.in-Some.ensures.0)))

pub expressions::selectors-selectors-preserved : goal.expressions::selectors-selectors-preserved
expressions::selectors-selectors-preserved t c = (selects_more c.selectors.invariant.0 (rw (← c.in-Some.ensures.1) at (c.in_ok-operand.ensures.reads c.in-Some.ensures.0)), omega (arith, ap length c.in-Some.ensures.1, c.in_ok-operand.ensures.shorter))

pub expressions::selectors-returns-clause-reads : goal.expressions::selectors-returns-clause-reads
expressions::selectors-returns-clause-reads t c = rw c.in_default.ensures.0 (c.selectors.invariant.0.selects (g.unselected c.in_default.ensures.1), c.selectors.invariant.0.low)

pub expressions::selectors-returns-clause-shorter : goal.expressions::selectors-returns-clause-shorter
expressions::selectors-returns-clause-shorter t c = omega (arith, ap length c.in_default.ensures.0, c.selectors.invariant.1)

pub primary::arguments-returns-in-Ok-clause-reads : goal.primary::arguments-returns-in-Ok-clause-reads
primary::arguments-returns-in-Ok-clause-reads t c = rw (c.in-Ok.ensures, c.no_arguments.ensures) (g.no_argument, omega arith)

pub primary::arguments-returns-in_err-first-clause-reads : goal.primary::arguments-returns-in_err-first-clause-reads
primary::arguments-returns-in_err-first-clause-reads t c = rw (err _ _ c.from_residual.ensures.1) (s.argument c.in_default.ensures.other (rw c.in_default.ensures.left at c.in_err-first.ensures.reads))

pub primary::arguments-returns-in_err-arguments-clause-reads : goal.primary::arguments-returns-in_err-arguments-clause-reads
primary::arguments-returns-in_err-arguments-clause-reads t c = rw (err _ _ c.from_residual-in_err-arguments.ensures.1) (s.arguments_no_room)

pub primary::arguments-more_arguments-requires : goal.primary::arguments-more_arguments-requires
primary::arguments-more_arguments-requires t c =
    let one = rw c.no_arguments-2.ensures at c.in_ok-arguments.ensures in
    (search rules, (c.requires, low_pushed _ [] _ _ one (omega arith) c.in_ok-first.ensures.reads.1))

pub primary::arguments-returns-clause-reads : goal.primary::arguments-returns-clause-reads
primary::arguments-returns-clause-reads t c =
    let one = rw c.no_arguments-2.ensures at c.in_ok-arguments.ensures in
    first_read _ _ _ _ _ one (rw c.in_default.ensures.left at c.in_ok-first.ensures.reads.0) c.in_ok-first.ensures.reads.1 c.more_arguments.ensures.reads

pub primary::arguments-returns-clause-shorter : goal.primary::arguments-returns-clause-shorter
primary::arguments-returns-clause-shorter t c = takes_more _ _ _ _ (omega (arith, ap length c.in_default.ensures.left, c.in_ok-first.ensures.shorter)) c.more_arguments.ensures.shorter

pub primary::more_arguments-arguments-init : goal.primary::more_arguments-arguments-init
primary::more_arguments-arguments-init t c = (follows_none c.requires.low, omega arith)

pub primary::more_arguments-returns-in_err-argument-clause-reads : goal.primary::more_arguments-returns-in_err-argument-clause-reads
primary::more_arguments-returns-in_err-argument-clause-reads t c = rw (err _ _ c.from_residual.ensures.1) (c.arguments.invariant.0.fails (rw c.in-Ok.ensures (s.other c.in_err-argument.ensures.reads)))

pub primary::more_arguments-returns-in_err-arguments-clause-reads : goal.primary::more_arguments-returns-in_err-arguments-clause-reads
primary::more_arguments-returns-in_err-arguments-clause-reads t c = rw (err _ _ c.from_residual-in_err-arguments.ensures.1) (s.more_no_room)

pub primary::more_arguments-arguments-preserved : goal.primary::more_arguments-arguments-preserved
primary::more_arguments-arguments-preserved t c = (follows_more _ _ _ c.arguments.invariant.0 c.in-Ok.ensures c.in_ok-argument.ensures.reads.0 c.in_ok-argument.ensures.reads.1 c.in_ok-arguments.ensures, omega (arith, ap length c.in-Ok.ensures, c.in_ok-argument.ensures.shorter))

pub primary::more_arguments-returns-in_err-end-clause-reads : goal.primary::more_arguments-returns-in_err-end-clause-reads
primary::more_arguments-returns-in_err-end-clause-reads t c = rw (err _ _ c.from_residual-in_err-end.ensures.1, c.in_err-end.ensures.reason, c.in_err-end.ensures.left, c.in_default.ensures.left)
    (c.arguments.invariant.0.fails (s.end (no_comma_or_paren _ c.in_default.ensures.other (rw c.in_default.ensures.left at c.in_err-end.ensures.other))))

pub primary::more_arguments-returns-clause-reads : goal.primary::more_arguments-returns-clause-reads
primary::more_arguments-returns-clause-reads t c = all_read c.arguments.invariant.0 (rw c.in_default.ensures.left at c.in_ok-end.ensures)

pub primary::more_arguments-returns-clause-shorter : goal.primary::more_arguments-returns-clause-shorter
primary::more_arguments-returns-clause-shorter t c = omega (arith, ap length c.in_ok-end.ensures, ap length c.in_default.ensures.left, c.arguments.invariant.1)

pub primary::typed_operand-returns-in_err-read-clause-reads : goal.primary::typed_operand-returns-in_err-read-clause-reads
primary::typed_operand-returns-in_err-read-clause-reads t c = rw (err _ _ c.from_residual.ensures.1) (no_type c.in_err-read.ensures.reads)

pub primary::typed_operand-returns-in_err-operand-clause-reads : goal.primary::typed_operand-returns-in_err-operand-clause-reads
primary::typed_operand-returns-in_err-operand-clause-reads t c = rw (err _ _ c.from_residual-in_err-operand.ensures.1) (no_operand c.in_ok-read.ensures.reads.0 c.in_ok-read.ensures.reads.1 c.in_err-operand.ensures.reads)

pub primary::typed_operand-returns-clause-reads : goal.primary::typed_operand-returns-clause-reads
primary::typed_operand-returns-clause-reads t c = record {
  behind = _;
  type = c.in_ok-read.ensures.reads.0;
  type_low = c.in_ok-read.ensures.reads.1;
  operand = c.in_ok-operand.ensures.reads.0;
  low = c.in_ok-operand.ensures.reads.1;
}

pub primary::last_bounds-returns-in_err-comma-clause-reads : goal.primary::last_bounds-returns-in_err-comma-clause-reads
primary::last_bounds-returns-in_err-comma-clause-reads t c = rw (err _ _ c.from_residual.ensures.1, c.in_err-comma.ensures.reason, c.in_err-comma.ensures.left) (no_comma c.in_err-comma.ensures.other)

pub primary::last_bounds-returns-in_err-written-clause-reads : goal.primary::last_bounds-returns-in_err-written-clause-reads
primary::last_bounds-returns-in_err-written-clause-reads t c = rw (err _ _ c.from_residual-in_err-written.ensures.1, c.in_ok-comma.ensures) (no_bounds c.in_err-written.ensures.reads)

pub primary::last_bounds-returns-in_err-end-clause-reads : goal.primary::last_bounds-returns-in_err-end-clause-reads
primary::last_bounds-returns-in_err-end-clause-reads t c = rw (err _ _ c.from_residual-in_err-end.ensures.1, c.in_err-end.ensures.reason, c.in_err-end.ensures.left, c.in_ok-comma.ensures) (parts.unended c.in_ok-written.ensures.reads.0 c.in_ok-written.ensures.reads.1 c.in_err-end.ensures.other)

pub primary::last_bounds-returns-clause-reads : goal.primary::last_bounds-returns-clause-reads
primary::last_bounds-returns-clause-reads t c = record {
  comma = _;
  behind = _;
  at = c.in_ok-comma.ensures;
  spelled = rw c.in_ok-end.ensures at c.in_ok-written.ensures.reads.0;
  low = c.in_ok-written.ensures.reads.1;
}

pub primary::cast-returns-in_err-parts-clause-reads : goal.primary::cast-returns-in_err-parts-clause-reads
primary::cast-returns-in_err-parts-clause-reads t c = λ k is. rw (err _ _ c.from_residual.ensures.1) (cast_stuck is c.requires (rw c.deeper-below.ensures at c.in_err-parts.ensures.reads))

pub primary::cast-returns-in-Ok-clause-reads : goal.primary::cast-returns-in-Ok-clause-reads
primary::cast-returns-in-Ok-clause-reads t c = λ k is.
    let parts = rw c.deeper-below.ensures at c.in_ok-parts.ensures.reads in
    let low = low_around _ c.args.start.from _ c.requires (low_beside _ _ _ parts.type_low parts.low) in
    primary_built _ _ (rw c.join.ensures at c.cast_with.ensures) (g.cast is parts.type (rw c.in-Ok.ensures at parts.operand)) low

pub primary::cast-returns-in-Ok-clause-shorter : goal.primary::cast-returns-in-Ok-clause-shorter
primary::cast-returns-in-Ok-clause-shorter t c = takes _ _ _ (omega (arith, ap length c.in-Ok.ensures, c.in_ok-parts.ensures.shorter))

pub primary::cast-returns-in_err-written-clause-reads : goal.primary::cast-returns-in_err-written-clause-reads
primary::cast-returns-in_err-written-clause-reads t c = λ k is.
    let parts = rw c.deeper-below.ensures at c.in_ok-parts.ensures.reads in
    rw (err _ _ c.from_residual-in_err-written.ensures.1) (last_stuck is c.requires parts c.in_default.ensures.other (rw (c.deeper-below.ensures, c.in_default.ensures.left) at c.in_err-written.ensures.reads))

pub primary::cast-returns-clause-reads : goal.primary::cast-returns-clause-reads
primary::cast-returns-clause-reads t c = λ k is.
    let parts = rw c.deeper-below.ensures at c.in_ok-parts.ensures.reads in
    let last = rw (c.deeper-below.ensures, c.in_default.ensures.left) at c.in_ok-written.ensures.reads in
    let low = low_around _ c.args.start.from _ c.requires (low_beside _ _ _ (low_beside _ _ _ parts.type_low parts.low) last.low) in
    primary_built _ _ (rw c.join-2.ensures at c.bounded_cast_with.ensures) (g.bounded_cast is parts.type (rw last.at at parts.operand) last.spelled) low

pub primary::cast-returns-clause-shorter : goal.primary::cast-returns-clause-shorter
primary::cast-returns-clause-shorter t c = takes _ _ _ (omega (arith, ap length c.in_default.ensures.left, c.in_ok-parts.ensures.shorter, c.in_ok-written.ensures.shorter))

pub primary::malloc-returns-in_err-parts-clause-reads : goal.primary::malloc-returns-in_err-parts-clause-reads
primary::malloc-returns-in_err-parts-clause-reads t c = λ k is. rw (err _ _ c.from_residual.ensures.1) (malloc_stuck is c.requires (rw c.deeper.ensures at c.in_err-parts.ensures.reads))

pub primary::malloc-returns-in_err-end-clause-reads : goal.primary::malloc-returns-in_err-end-clause-reads
primary::malloc-returns-in_err-end-clause-reads t c = λ k is.
    let parts = rw c.deeper.ensures at c.in_ok-parts.ensures.reads in
    rw (err _ _ c.from_residual-in_err-end.ensures.1, c.in_err-end.ensures.reason, c.in_err-end.ensures.left) (s.malloc_close is parts.type parts.type_low parts.operand parts.low c.in_err-end.ensures.other)

pub primary::malloc-returns-clause-reads : goal.primary::malloc-returns-clause-reads
primary::malloc-returns-clause-reads t c = λ k is.
    let parts = rw c.deeper.ensures at c.in_ok-parts.ensures.reads in
    let low = low_around _ c.args.start.from _ c.requires (low_beside _ _ _ parts.type_low parts.low) in
    primary_built _ _ (rw c.join.ensures at c.malloc_with.ensures) (g.malloc is parts.type (rw c.in_ok-end.ensures at parts.operand)) low

pub primary::malloc-returns-clause-shorter : goal.primary::malloc-returns-clause-shorter
primary::malloc-returns-clause-shorter t c = takes _ _ _ (omega (arith, ap length c.in_ok-end.ensures, c.in_ok-parts.ensures.shorter))

pub primary::calloc-returns-in_err-parts-clause-reads : goal.primary::calloc-returns-in_err-parts-clause-reads
primary::calloc-returns-in_err-parts-clause-reads t c = λ k is. rw (err _ _ c.from_residual.ensures.1) (calloc_stuck is c.requires (rw c.deeper-below.ensures at c.in_err-parts.ensures.reads))

pub primary::calloc-returns-in_err-comma-clause-reads : goal.primary::calloc-returns-in_err-comma-clause-reads
primary::calloc-returns-in_err-comma-clause-reads t c = λ k is.
    let parts = rw c.deeper-below.ensures at c.in_ok-parts.ensures.reads in
    rw (err _ _ c.from_residual-in_err-comma.ensures.1, c.in_err-comma.ensures.reason, c.in_err-comma.ensures.left) (s.calloc_comma is parts.type parts.type_low parts.operand parts.low c.in_err-comma.ensures.other)

pub primary::calloc-returns-in_err-size-clause-reads : goal.primary::calloc-returns-in_err-size-clause-reads
primary::calloc-returns-in_err-size-clause-reads t c = λ k is.
    let parts = rw (c.deeper-below.ensures, c.in_ok-comma.ensures) at c.in_ok-parts.ensures.reads in
    rw (err _ _ c.from_residual-in_err-size.ensures.1) (size_stuck is c.requires parts (rw c.deeper-below.ensures at c.in_err-size.ensures.reads))

pub primary::calloc-returns-clause-reads : goal.primary::calloc-returns-clause-reads
primary::calloc-returns-clause-reads t c = λ k is.
    let parts = rw (c.deeper-below.ensures, c.in_ok-comma.ensures) at c.in_ok-parts.ensures.reads in
    let size = rw c.deeper-below.ensures at c.in_ok-size.ensures.reads in
    let low = low_around _ c.args.start.from _ c.requires (low_beside _ _ _ (low_beside _ _ _ parts.type_low parts.low) size.1) in
    primary_built _ _ c.calloc_with.ensures (g.calloc is parts.type parts.operand size.0) low

pub primary::calloc-returns-clause-shorter : goal.primary::calloc-returns-clause-shorter
primary::calloc-returns-clause-shorter t c = takes _ _ _ (omega (arith, ap length c.in_ok-comma.ensures, c.in_ok-parts.ensures.shorter, c.in_ok-size.ensures.shorter))

pub primary::name_or_call-returns-in_err-name-clause-reads : goal.primary::name_or_call-returns-in_err-name-clause-reads
primary::name_or_call-returns-in_err-name-clause-reads t c = rw (err _ _ c.from_residual.ensures.1) (s.primary_no_room)

pub primary::name_or_call-leaf-requires : goal.primary::name_or_call-leaf-requires
primary::name_or_call-leaf-requires t c = rw c.in_ok-name.ensures refl

pub primary::name_or_call-returns-in_default-clause-reads : goal.primary::name_or_call-returns-in_default-clause-reads
primary::name_or_call-returns-in_default-clause-reads t c = rw c.in_default.ensures.left (primary_built _ _ (rw c.in_ok-name.ensures at c.leaf.ensures) (g.name c.in_default.ensures.other) (omega arith))

pub primary::name_or_call-returns-in_default-clause-shorter : goal.primary::name_or_call-returns-in_default-clause-shorter
primary::name_or_call-returns-in_default-clause-shorter t c = may_take _ _ _ (omega (arith, ap length c.in_default.ensures.left))

pub primary::name_or_call-returns-in_err-read-clause-reads : goal.primary::name_or_call-returns-in_err-read-clause-reads
primary::name_or_call-returns-in_err-read-clause-reads t c = rw (err _ _ c.from_residual-in_err-read.ensures.1, c.in-Ok.ensures) (s.arguments c.requires (rw c.deeper.ensures at c.in_err-read.ensures.reads))

pub primary::name_or_call-returns-clause-reads : goal.primary::name_or_call-returns-clause-reads
primary::name_or_call-returns-clause-reads t c =
    let low = low_around c.args.depth c.args.span.from (expressions_reach (listed c.in_ok-read.read.items.items)) c.requires (rw c.deeper.ensures at c.in_ok-read.ensures.reads.1) in
    rw c.in-Ok.ensures (primary_built _ _ (rw c.in_ok-name.ensures at c.call_with.ensures) (g.called (g.call c.in_ok-read.ensures.reads.0)) low)

pub primary::name_or_call-returns-clause-shorter : goal.primary::name_or_call-returns-clause-shorter
primary::name_or_call-returns-clause-shorter t c = may_take _ _ _ (omega (arith, ap length c.in-Ok.ensures, c.in_ok-read.ensures.shorter))

pub primary::primary-returns-in_err-token-clause-reads : goal.primary::primary-returns-in_err-token-clause-reads
primary::primary-returns-in_err-token-clause-reads t c = rw (err _ _ c.from_residual.ensures.1) c.in_err-token.ensures

pub primary::primary-returns-in-Number-clause-reads : goal.primary::primary-returns-in-Number-clause-reads
primary::primary-returns-in-Number-clause-reads t c = rw (begins _ _ _ _ c.in_ok-token.ensures.0 c.in-Number.is) (primary_reads _ _ _ _ (primary_built _ _ c.leaf.ensures g.number (omega (arith, c.in_ok-token.ensures.2))))

pub primary::primary-returns-in-Number-clause-shorter : goal.primary::primary-returns-in-Number-clause-shorter
primary::primary-returns-in-Number-clause-shorter t c = takes _ _ _ (omega (arith, ap length c.in_ok-token.ensures.0))

pub primary::primary-returns-in-Character-clause-reads : goal.primary::primary-returns-in-Character-clause-reads
primary::primary-returns-in-Character-clause-reads t c = rw (begins _ _ _ _ c.in_ok-token.ensures.0 c.in-Character.is) (primary_reads _ _ _ _ (primary_built _ _ c.leaf-in-Character.ensures g.character (omega (arith, c.in_ok-token.ensures.2))))

pub primary::primary-returns-in-Character-clause-shorter : goal.primary::primary-returns-in-Character-clause-shorter
primary::primary-returns-in-Character-clause-shorter t c = takes _ _ _ (omega (arith, ap length c.in_ok-token.ensures.0))

pub primary::primary-returns-in-Text-clause-reads : goal.primary::primary-returns-in-Text-clause-reads
primary::primary-returns-in-Text-clause-reads t c = rw (begins _ _ _ _ c.in_ok-token.ensures.0 c.in-Text.is) (primary_reads _ _ _ _ (primary_built _ _ c.text_literal.ensures g.text (omega (arith, c.in_ok-token.ensures.2))))

pub primary::primary-returns-in-Text-clause-shorter : goal.primary::primary-returns-in-Text-clause-shorter
primary::primary-returns-in-Text-clause-shorter t c = takes _ _ _ (omega (arith, ap length c.in_ok-token.ensures.0))

pub primary::primary-returns-in-Name-clause-reads : goal.primary::primary-returns-in-Name-clause-reads
primary::primary-returns-in-Name-clause-reads t c = rw (begins _ _ _ _ c.in_ok-token.ensures.0 c.in-Name.is) (primary_reads _ _ _ _ c.name_or_call.ensures.reads)

pub primary::primary-returns-in-Keyword-Sizeof-clause-reads : goal.primary::primary-returns-in-Keyword-Sizeof-clause-reads
primary::primary-returns-in-Keyword-Sizeof-clause-reads t c = rw (begins _ _ _ _ c.in_ok-token.ensures.0 (c.in-Keyword-Sizeof.is ∙ ap kinds.Keyword (rw c.in-Keyword-Sizeof.is at c.in-Keyword-Sizeof.field-0-is))) (primary_reads _ _ _ _ c.size_of.ensures.reads)

pub primary::primary-returns-in-Some-default-default-clause-reads : goal.primary::primary-returns-in-Some-default-default-clause-reads
primary::primary-returns-in-Some-default-default-clause-reads t c = rw (c.in_ok-token.ensures.0) (primary_reads _ _ _ _ (c.cast.ensures.reads _ (sym c.cast_word.ensures ∙ c.in-Some-default-default.is-0)))

pub primary::primary-returns-in_default-Some-default-clause-reads : goal.primary::primary-returns-in_default-Some-default-clause-reads
primary::primary-returns-in_default-Some-default-clause-reads t c = rw (c.in_ok-token.ensures.0) (primary_reads _ _ _ _ (c.malloc.ensures.reads _ (sym c.malloc_word.ensures ∙ c.in_default-Some-default.is-1)))

pub primary::primary-returns-in_default-default-Some-clause-reads : goal.primary::primary-returns-in_default-default-Some-clause-reads
primary::primary-returns-in_default-default-Some-clause-reads t c = rw (c.in_ok-token.ensures.0) (primary_reads _ _ _ _ (c.calloc.ensures.reads _ (sym c.calloc_word.ensures ∙ c.in_default-default-Some.is-2)))
