use Rattle.ckc_parser.specs.ItemReadings as readings
use Rattle.ckc_parser_grammar.specs.StuckItems as stuck
use Rattle.ckc_parser.proofs.items.side.Goals as goal

pub returns-in-Some : goal.returns-in-Some
returns-in-Some c = λ result. rw c.in-Some.is stuck.marked

pub returns-in-Trusted : goal.returns-in-Trusted
returns-in-Trusted c = (c.in-None.is, rw c.in-Trusted.is readings.trusted)

pub returns-in-Tainted : goal.returns-in-Tainted
returns-in-Tainted c = (c.in-None.is, rw c.in-Tainted.is readings.tainted)

pub returns-in-Callback : goal.returns-in-Callback
returns-in-Callback c = λ result. rw c.in-Callback.is stuck.callback
