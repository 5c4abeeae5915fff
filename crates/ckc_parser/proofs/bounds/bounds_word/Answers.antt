use Rattle.std.proofs.Common.{refl, ap, ◌∙◌}
use Rattle.ckc_parser_grammar.specs.Tokens.{next_is}
use Rattle.ckc_parser_grammar.specs.StuckExpressions.{bounds_word}
use Rattle.ckc_parser_grammar.proofs.Readings.{err}
use Rattle.ckc_parser.proofs.BoundsForms.{no_bounds_word}
use Rattle.ckc_parser.proofs.bounds.bounds_word.Goals as goal

pub returns-in_err-word : goal.returns-in_err-word
returns-in_err-word c = rw (err _ _ c.from_residual.ensures.1) record { reason = c.in_err-word.ensures.reason; left = refl; other = no_bounds_word _ c.in_err-word.ensures.other }

pub returns-in_default : goal.returns-in_default
returns-in_default c = record { reason = refl; left = refl; other = ap (next_is bounds_word) c.in_ok-word.ensures ∙ c.in_default.ensures }

pub returns : goal.returns
returns c = rw (c.in_ok-word.ensures, c.in-Some.ensures) refl
