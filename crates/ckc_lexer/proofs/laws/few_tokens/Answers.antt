use Rattle.ckc_lexer.proofs.Next.{few_tokens}
use Rattle.ckc_lexer.proofs.laws.few_tokens.Goals as goal

pub returns : goal.returns
returns c = λ src tokens h. few_tokens h
