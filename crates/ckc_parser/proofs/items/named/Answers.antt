use Rattle.ckc_parser.specs.ItemReadings as readings
use Rattle.ckc_parser_grammar.proofs.Readings.{err}
use Rattle.ckc_parser.proofs.items.named.Goals as goal

pub returns-in_err-name : goal.returns-in_err-name
returns-in_err-name c = rw (err _ _ c.from_residual.ensures.1, c.in_err-name.ensures.reason, c.in_err-name.ensures.left) (readings.name c.stars-stars.ensures.spelled c.in_err-name.ensures.other)

pub returns-in_err-open_paren : goal.returns-in_err-open_paren
returns-in_err-open_paren c =
    let starred = rw c.in_ok-name.ensures at c.stars-stars.ensures.spelled in
    rw (err _ _ c.from_residual-in_err-open_paren.ensures.1, c.in_err-open_paren.ensures.reason, c.in_err-open_paren.ensures.left) (readings.opens starred c.in_err-open_paren.ensures.other)

pub returns : goal.returns
returns c = record { paren = _; spelled = rw (c.in_ok-name.ensures, c.in_ok-open_paren.ensures) at c.stars-stars.ensures.spelled }
