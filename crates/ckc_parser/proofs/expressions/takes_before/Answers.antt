use Rattle.std.proofs.Common.{refl}
use Rattle.ckc_parser.proofs.Waiting.{waiting_last}
use Rattle.ckc_parser.proofs.expressions.takes_before.Goals as goal

pub returns-in-Paren : goal.returns-in-Paren
returns-in-Paren c = rw (waiting_last _ _ _ c.in-Some.ensures.cases.0, c.in-Paren.is) refl

pub returns-in-Unary : goal.returns-in-Unary
returns-in-Unary c = rw (waiting_last _ _ _ c.in-Some.ensures.cases.0, c.in-Unary.is) refl

pub returns-in-Binary : goal.returns-in-Binary
returns-in-Binary c = rw (waiting_last _ _ _ c.in-Some.ensures.cases.0, c.in-Binary.is, c.takes_before.ensures) refl
