use Rattle.ckc_parser_grammar.specs.Answers.{no_name, no_room}
use Rattle.ckc_parser_grammar.proofs.Readings.{err}
use Rattle.ckc_parser_grammar.proofs.tokens.identifier.Goals as goal

pub returns-in_err-name : goal.returns-in_err-name
returns-in_err-name c = rw (err _ _ c.from_residual.ensures.1, c.in_err-name.ensures.reason, c.in_err-name.ensures.left) (no_name c.in_err-name.ensures.other)

pub returns-in_err-copied : goal.returns-in_err-copied
returns-in_err-copied c = rw (err _ _ c.from_residual-in_err-copied.ensures.1) no_room
