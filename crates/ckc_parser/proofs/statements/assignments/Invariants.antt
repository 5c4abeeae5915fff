use Rattle.std.proofs.Common.{length}
use Rattle.ckc_parser_grammar.specs.StuckStatements.{StuckAssignments}
use Rattle.ckc_parser_grammar.proofs.Lists.{GoesOn, AreAssignments}
use Rattle.ckc_parser.proofs.statements.assignments.Given as goal

abbrev pub invariant-assignments : goal.invariant-assignments
invariant-assignments l = GoesOn (AreAssignments l.fn.depth) (StuckAssignments l.fn.depth) l.fn.tokens.now l.form.items l.tokens.now

abbrev pub decreases-assignments : goal.decreases-assignments
decreases-assignments l = length l.tokens.now
