use Rattle.std.proofs.Common.{sym}
use Rattle.ckc_parser_grammar.specs.StuckExpressions as s
use Rattle.ckc_parser.specs.Readings.{no_primary, in_primary}
use Rattle.ckc_parser_grammar.proofs.Readings.{err, next, next_none}
use Rattle.ckc_parser.proofs.primary.primary_word.Goals as goal

pub returns-in_default : goal.returns-in_default
returns-in_default c = no_primary (next_none _ _ c.in_default.ensures.cases)

pub returns-then-not-starts_primary : goal.returns-then-not-starts_primary
returns-then-not-starts_primary c = no_primary (next _ _ _ _ _ c.in-Some.ensures.cases.0 (sym c.if-not-starts_primary.ensures))

pub returns-in_err-check : goal.returns-in_err-check
returns-in_err-check c = rw (err _ _ c.from_residual.ensures.1, c.in_err-check.ensures.0, c.in-Some.ensures.cases.0) (in_primary (s.primary_deep (sym c.if-not-starts_primary.ensures) c.in_err-check.ensures.1))
