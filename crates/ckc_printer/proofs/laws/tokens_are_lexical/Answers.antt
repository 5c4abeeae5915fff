use Rattle.ckc_printer.proofs.LexicalTokens.{lexed_lexical}
use Rattle.ckc_printer.proofs.laws.tokens_are_lexical.Goals as goal

pub returns : goal.returns
returns c = lexed_lexical
