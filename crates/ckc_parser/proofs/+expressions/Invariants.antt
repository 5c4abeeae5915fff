use Rattle.std.proofs.Common.{◌≤◌, ◌+◌, ◌*◌, length}
use Rattle.ckc_tree.specs.Expressions.{expression}
use Rattle.ckc_parser.specs.Contexts.{Base, NeedsOperand, HasOperand}
use Rattle.ckc_parser.specs.Readings.{SelectsOne}
use Rattle.ckc_parser.proofs.Arguments.{Follows}
use Rattle.ckc_parser.proofs.+expressions.Given as goal

-- each call takes fewer tokens, or those of the same tokens go in this order

abbrev pub decreases-primary::primary : goal.decreases-primary::primary
decreases-primary::primary l = 8 * length l.tokens.now.now

abbrev pub decreases-expressions::operators : goal.decreases-expressions::operators
decreases-expressions::operators l = 8 * length l.tokens.now.now + 1

abbrev pub decreases-expressions::expression : goal.decreases-expressions::expression
decreases-expressions::expression l = 8 * length l.tokens.now.now + 2

abbrev pub decreases-expressions::expression_before : goal.decreases-expressions::expression_before
decreases-expressions::expression_before l = 8 * length l.tokens.now.now + 3

abbrev pub decreases-primary::arguments : goal.decreases-primary::arguments
decreases-primary::arguments l = 8 * length l.tokens.now.now + 3

abbrev pub decreases-primary::typed_operand : goal.decreases-primary::typed_operand
decreases-primary::typed_operand l = 8 * length l.tokens.now.now + 3

abbrev pub decreases-primary::more_arguments : goal.decreases-primary::more_arguments
decreases-primary::more_arguments l = 8 * length l.tokens.now.now + 3

abbrev pub decreases-primary::name_or_call : goal.decreases-primary::name_or_call
decreases-primary::name_or_call l = 8 * length l.tokens.now.now + 4

abbrev pub decreases-bounds::count : goal.decreases-bounds::count
decreases-bounds::count l = 8 * length l.tokens.now.now + 4

abbrev pub decreases-bounds::range : goal.decreases-bounds::range
decreases-bounds::range l = 8 * length l.tokens.now.now + 4

abbrev pub decreases-expressions::indexed : goal.decreases-expressions::indexed
decreases-expressions::indexed l = 8 * length l.tokens.now.now + 4

abbrev pub decreases-primary::calloc : goal.decreases-primary::calloc
decreases-primary::calloc l = 8 * length l.tokens.now.now + 4

abbrev pub decreases-primary::malloc : goal.decreases-primary::malloc
decreases-primary::malloc l = 8 * length l.tokens.now.now + 4

abbrev pub decreases-primary::cast : goal.decreases-primary::cast
decreases-primary::cast l = 8 * length l.tokens.now.now + 4

abbrev pub decreases-bounds::ends : goal.decreases-bounds::ends
decreases-bounds::ends l = 8 * length l.tokens.now.now + 5

abbrev pub decreases-expressions::selected : goal.decreases-expressions::selected
decreases-expressions::selected l = 8 * length l.tokens.now.now + 5

abbrev pub decreases-bounds::bounds : goal.decreases-bounds::bounds
decreases-bounds::bounds l = 8 * length l.tokens.now.now + 6

abbrev pub decreases-expressions::selectors : goal.decreases-expressions::selectors
decreases-expressions::selectors l = 8 * length l.tokens.now.now + 6

abbrev pub decreases-primary::last_bounds : goal.decreases-primary::last_bounds
decreases-primary::last_bounds l = 8 * length l.tokens.now.now + 7

abbrev pub decreases-expressions::closed : goal.decreases-expressions::closed
decreases-expressions::closed l = 8 * length l.tokens.now.now + 7

-- each form that goes on from here with an operand goes on from the start
abbrev pub invariant-expressions::operators-operators : goal.invariant-expressions::operators-operators
invariant-expressions::operators-operators l = NeedsOperand (record { loosest = l.loosest; depth = l.fn.depth; tokens = l.fn.tokens.now }) l.around l.tokens.now × (length l.tokens.now ≤ length l.fn.tokens.now)

abbrev pub decreases-expressions::operators-operators : goal.decreases-expressions::operators-operators
decreases-expressions::operators-operators l = length l.tokens.now

abbrev pub invariant-expressions::closed-closed : goal.invariant-expressions::closed-closed
invariant-expressions::closed-closed l =
    ((b : Base) → HasOperand b l.fn.around (expression l.fn.operand.expr.value) l.fn.operand.outer l.fn.tokens.now → HasOperand b l.around (expression l.operand.expr.value) l.operand.outer l.tokens.now) × (length l.tokens.now ≤ length l.fn.tokens.now)

abbrev pub decreases-expressions::closed-closed : goal.decreases-expressions::closed-closed
decreases-expressions::closed-closed l = length l.tokens.now

abbrev pub invariant-expressions::selectors-selectors : goal.invariant-expressions::selectors-selectors
invariant-expressions::selectors-selectors l = SelectsOne (expression l.fn.operand.expr.value) l.fn.operand.outer l.depth l.fn.tokens.now (expression l.operand.expr.value) l.operand.outer l.tokens.now × (length l.tokens.now ≤ length l.fn.tokens.now)

abbrev pub decreases-expressions::selectors-selectors : goal.decreases-expressions::selectors-selectors
decreases-expressions::selectors-selectors l = length l.tokens.now

abbrev pub invariant-primary::more_arguments-arguments : goal.invariant-primary::more_arguments-arguments
invariant-primary::more_arguments-arguments l = Follows l.depth l.fn.arguments.items.items l.fn.tokens.now l.arguments.items.items l.tokens.now × (length l.tokens.now ≤ length l.fn.tokens.now)

abbrev pub decreases-primary::more_arguments-arguments : goal.decreases-primary::more_arguments-arguments
decreases-primary::more_arguments-arguments l = length l.tokens.now
