use Rattle.ckc_printer.proofs.LexedText.{lexed_back}
use Rattle.ckc_printer.proofs.LexicalTokens.{lexed_lexical}
use Rattle.ckc_printer.proofs.ReadBack.{read_back}
use Rattle.ckc_printer.proofs.laws.reads_back.Goals as goal

pub returns : goal.returns
returns c = read_back lexed_lexical lexed_back
