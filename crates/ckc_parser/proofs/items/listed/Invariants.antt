use Rattle.std.proofs.Common.{length}
use Rattle.ckc_parser_grammar.specs.StuckItems.{StuckListed}
use Rattle.ckc_parser_grammar.proofs.Lists.{GoesOn, AreParameters}
use Rattle.ckc_parser.proofs.items.listed.Given as goal

abbrev pub invariant-listed : goal.invariant-listed
invariant-listed l = GoesOn AreParameters StuckListed l.fn.tokens.now l.form.items l.tokens.now

abbrev pub decreases-listed : goal.decreases-listed
decreases-listed l = length l.tokens.now
