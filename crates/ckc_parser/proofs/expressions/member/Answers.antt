use Rattle.std.proofs.Common.{◌∷◌, length, ap, arith}
use Rattle.ckc_tree.specs.Expressions.{expression}
use Rattle.ckc_parser_grammar.specs.Tokens.{token}
use Rattle.ckc_parser_grammar.specs.StuckExpressions as s
use Rattle.ckc_parser_grammar.specs.StuckExpressions.{StuckSelectors}
use Rattle.ckc_parser.specs.Readings.{member_word}
use Rattle.ckc_parser_grammar.proofs.Readings.{err, takes, name_fails}
use Rattle.ckc_parser.proofs.Selecting.{room, member_stuck, selects_built}
use Rattle.ckc_parser.proofs.NamedOperands.{member_named}
use Rattle.ckc_parser.proofs.expressions.member.Goals as goal

pub returns-in_err-member-clause-reads : goal.returns-in_err-member-clause-reads
returns-in_err-member-clause-reads c = λ d start less. rw (err _ _ c.from_residual.ensures.1)
    (name_fails (StuckSelectors (expression c.args.operand.expr.value) c.args.operand.outer d (token (member_word c.args.is_arrow) start ∷ c.args.tokens.now.now)) c.in_err-member.ensures (member_stuck c.args.is_arrow (room d c.args.operand less)) s.selectors_no_room)

pub returns-clause-reads : goal.returns-clause-reads
returns-clause-reads c = λ d start less. rw c.in_ok-member.ensures.1
    (selects_built _ c.member_with.ensures (member_named c.in_ok-member.member c.in_ok-member.ensures.0 c.args.is_arrow (room d c.args.operand less)))

pub returns-clause-shorter : goal.returns-clause-shorter
returns-clause-shorter c = takes _ _ _ (omega (arith, ap length c.in_ok-member.ensures.1))
