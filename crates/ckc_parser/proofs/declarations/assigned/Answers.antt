use Rattle.ckc_parser.specs.StatementReadings as readings
use Rattle.ckc_parser_grammar.proofs.Readings.{low_around}
use Rattle.ckc_parser.proofs.Ahead.{no_assign_word}
use Rattle.ckc_parser_grammar.proofs.Paths.{low_beside}
use Rattle.ckc_parser_grammar.proofs.Readings.{err}
use Rattle.ckc_parser.proofs.declarations.assigned.Goals as goal

pub returns-in-Ok : goal.returns-in-Ok
returns-in-Ok c = rw (c.in-Ok.ensures.at, c.step.ensures, c.join-span.ensures) (readings.after c.in-Ok.ensures.says, low_around _ _ _ c.requires.deep c.requires.low)

pub returns-in_err-operator : goal.returns-in_err-operator
returns-in_err-operator c = rw (err _ _ c.from_residual.ensures.1, c.in_err-operator.ensures.reason, c.in_err-operator.ensures.left, c.in_default.ensures.left) (readings.operator (no_assign_word _ (rw c.in_default.ensures.left at c.in_err-operator.ensures.other) c.in_default.ensures.other))

pub returns-in_err-stored : goal.returns-in_err-stored
returns-in_err-stored c = rw (err _ _ c.from_residual-in_err-stored.ensures.1, ← c.in_default.ensures.left, c.in_ok-operator.ensures.at) (readings.value c.in_ok-operator.ensures.says (rw c.deeper.ensures at c.in_err-stored.ensures.reads))

pub returns : goal.returns
returns c =
    rw (← c.in_default.ensures.left, c.in_ok-operator.ensures.at, c.store.ensures, c.join-span-2.ensures)
    (readings.store c.in_ok-operator.ensures.says c.in_ok-stored.ensures.reads.0, low_around _ _ _ c.requires.deep (low_beside _ _ _ c.requires.low (rw c.deeper.ensures at c.in_ok-stored.ensures.reads.1)))
