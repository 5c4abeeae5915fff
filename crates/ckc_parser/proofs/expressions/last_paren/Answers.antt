use Rattle.std.proofs.Common.{refl}
use Rattle.ckc_parser.proofs.Waiting.{waiting_last, no_paren}
use Rattle.ckc_parser.proofs.expressions.last_paren.Goals as goal

pub returns-in-Paren : goal.returns-in-Paren
returns-in-Paren c = rw (waiting_last _ _ _ c.in_ok-last.ensures.cases.0, c.in-Paren.is) refl

pub returns-in_default : goal.returns-in_default
returns-in_default c = rw (waiting_last _ _ _ c.in_ok-last.ensures.cases.0) (no_paren _ _ c.in_default.not-Paren)
