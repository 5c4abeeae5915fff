use Rattle.std.proofs.Common.{length}
use Rattle.ckc_parser_grammar.specs.StuckItems.{StuckItems}
use Rattle.ckc_parser_grammar.proofs.Lists.{GoesOn, AreItems}
use Rattle.ckc_parser.proofs.parser.items.Given as goal

abbrev pub invariant-items : goal.invariant-items
invariant-items l = GoesOn AreItems StuckItems l.fn.tokens.now l.items.items l.tokens.now

abbrev pub decreases-items : goal.decreases-items
decreases-items l = length l.tokens.now
