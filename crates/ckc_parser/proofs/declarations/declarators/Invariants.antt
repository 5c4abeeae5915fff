use Rattle.std.proofs.Common.{length}
use Rattle.ckc_parser_grammar.specs.StuckStatements.{StuckDeclarators}
use Rattle.ckc_parser_grammar.proofs.Lists.{GoesOn, AreDeclarators}
use Rattle.ckc_parser.proofs.declarations.declarators.Given as goal

abbrev pub invariant-declarators : goal.invariant-declarators
invariant-declarators l = GoesOn (AreDeclarators l.fn.depth) (StuckDeclarators l.fn.depth) l.fn.tokens.now l.form.items l.tokens.now

abbrev pub decreases-declarators : goal.decreases-declarators
decreases-declarators l = length l.tokens.now
