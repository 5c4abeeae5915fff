use Rattle.ckc_lexer.proofs.Next.{ordered}
use Rattle.ckc_lexer.proofs.laws.in_order.Goals as goal

pub returns : goal.returns
returns c = λ src tokens h. ordered h
