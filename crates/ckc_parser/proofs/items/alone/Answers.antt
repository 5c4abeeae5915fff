use Rattle.ckc_parser.proofs.FileLevel.{stuck_result, stuck_callee}
use Rattle.ckc_parser_grammar.proofs.Readings.{err}
use Rattle.ckc_parser.proofs.items.alone.Goals as goal

pub returns-in_err-returned : goal.returns-in_err-returned
returns-in_err-returned c = rw (err _ _ c.from_residual.ensures.1) (stuck_result c.requires.led c.in_err-returned.ensures)

pub returns-in_err-named : goal.returns-in_err-named
returns-in_err-named c = rw (err _ _ c.from_residual-in_err-named.ensures.1) (stuck_callee c.requires.led c.in_ok-returned.ensures.0 c.in_ok-returned.ensures.1 (c.requires.alone _) c.in_err-named.ensures)

pub function-requires : goal.function-requires
function-requires c = record { typed = _; named = _; led = c.requires.led; returned = c.in_ok-returned.ensures.0; low = c.in_ok-returned.ensures.1; is_named = c.in_ok-named.ensures }
