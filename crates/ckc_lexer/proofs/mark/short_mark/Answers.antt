use Rattle.std.proofs.Common.{rules}
use Rattle.ckc_lexer.proofs.mark.short_mark.Goals as goal

pub returns-in_default : goal.returns-in_default
returns-in_default c = search rules
