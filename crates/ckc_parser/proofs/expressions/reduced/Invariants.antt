use Rattle.std.proofs.Common.{◌≡◌, List, length}
use Rattle.ckc_lexer.specs.declared.token.Token.{Token}
use Rattle.ckc_tree.specs.Expressions.{expression}
use Rattle.ckc_tree.specs.Heights.{expression_reach}
use Rattle.ckc_parser_grammar.specs.Failures.{IsLow}
use Rattle.ckc_parser.specs.Contexts.{Base, IsAround, HasTight, looser_at}
use Rattle.ckc_parser.proofs.expressions.reduced.Given as goal

abbrev pub invariant-loop-around : goal.invariant-loop-around
invariant-loop-around l =
    ((b : Base) → IsAround b l.fn.around → IsLow l.fn.around.depth (expression_reach (expression l.fn.operand.expr.value)) → IsAround b l.around × IsLow l.around.depth (expression_reach (expression l.operand.expr.value)))
    × ((b : Base) (ts : List Token) → l.looser ≡ looser_at ts → HasTight b l.fn.around l.looser (expression l.fn.operand.expr.value) l.fn.operand.outer ts → HasTight b l.around l.looser (expression l.operand.expr.value) l.operand.outer ts)

abbrev pub decreases-loop-around : goal.decreases-loop-around
decreases-loop-around l = length l.around.pending.items
