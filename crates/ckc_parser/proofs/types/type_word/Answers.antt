use Rattle.std.proofs.Common.{sym}
use Rattle.ckc_parser_grammar.specs.StuckTypes as stuck
use Rattle.ckc_parser_grammar.proofs.Readings.{err, next, next_none}
use Rattle.ckc_parser.proofs.types.type_word.Goals as goal

pub returns-in_default : goal.returns-in_default
returns-in_default c = stuck.no_type (next_none _ _ c.in_default.ensures.cases)

pub returns-then-not-starts_type : goal.returns-then-not-starts_type
returns-then-not-starts_type c = stuck.no_type (next _ _ _ _ _ c.in-Some.ensures.cases.0 (sym c.if-not-starts_type.ensures))

pub returns-in_err-check : goal.returns-in_err-check
returns-in_err-check c = rw (err _ _ c.from_residual.ensures.1, c.in_err-check.ensures.0, c.in-Some.ensures.cases.0) (stuck.deep (sym c.if-not-starts_type.ensures) c.in_err-check.ensures.1)
