use Rattle.std.proofs.Common.{◌+◌, ◌*◌, ◌≤◌, length}
use Rattle.ckc_parser_grammar.specs.StuckStatements.{StuckStatements}
use Rattle.ckc_parser_grammar.proofs.Lists.{GoesOn, AreStatements}
use Rattle.ckc_parser.proofs.statements.+statements.Given as goal

-- each call has fewer tokens, or as many and a function that is lower here
abbrev pub decreases-if_statement : goal.decreases-if_statement
decreases-if_statement l = 4 * length l.tokens.now.now

abbrev pub decreases-while_statement : goal.decreases-while_statement
decreases-while_statement l = 4 * length l.tokens.now.now

abbrev pub decreases-for_statement : goal.decreases-for_statement
decreases-for_statement l = 4 * length l.tokens.now.now

abbrev pub decreases-plain : goal.decreases-plain
decreases-plain l = 4 * length l.tokens.now.now

abbrev pub decreases-statement : goal.decreases-statement
decreases-statement l = 4 * length l.tokens.now.now + 1

abbrev pub decreases-statements : goal.decreases-statements
decreases-statements l = 4 * length l.tokens.now.now + 2

abbrev pub invariant-statements-statements : goal.invariant-statements-statements
invariant-statements-statements l = GoesOn (AreStatements l.fn.depth) (StuckStatements l.fn.depth) l.fn.tokens.now l.form.items l.tokens.now × (length l.tokens.now ≤ length l.fn.tokens.now)

abbrev pub decreases-statements-statements : goal.decreases-statements-statements
decreases-statements-statements l = length l.tokens.now
