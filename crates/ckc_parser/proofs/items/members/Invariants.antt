use Rattle.std.proofs.Common.{length}
use Rattle.ckc_parser_grammar.specs.StuckItems.{StuckMembers}
use Rattle.ckc_parser_grammar.proofs.Lists.{GoesOn, AreMembers}
use Rattle.ckc_parser.proofs.items.members.Given as goal

abbrev pub invariant-members : goal.invariant-members
invariant-members l = GoesOn AreMembers StuckMembers l.fn.tokens.now l.members.items l.tokens.now

abbrev pub decreases-members : goal.decreases-members
decreases-members l = length l.tokens.now
