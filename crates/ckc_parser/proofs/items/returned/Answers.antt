use Rattle.std.proofs.Common.{arith}
use Rattle.ckc_parser.specs.ItemReadings as readings
use Rattle.ckc_parser_grammar.specs.ItemGrammar as g
use Rattle.ckc_parser_grammar.proofs.Readings.{err}
use Rattle.ckc_parser.proofs.items.returned.Goals as goal

pub returns-in-Ok : goal.returns-in-Ok
returns-in-Ok c = rw c.in-Ok.ensures (g.void, omega arith)

pub returns-in_err-base : goal.returns-in_err-base
returns-in_err-base c = rw (err _ _ c.from_residual.ensures.1) (readings.value c.in_default.ensures.other (rw (c.new.ensures, c.in_default.ensures.left) at c.in_err-base.ensures.reads))

pub returns : goal.returns
returns c = (g.value (rw c.in_default.ensures.left at c.in_ok-base.ensures.reads.0), rw c.new.ensures at c.in_ok-base.ensures.reads.1)
