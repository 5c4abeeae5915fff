use Rattle.ckc_printer.proofs.LexedText.{lexed_back}
use Rattle.ckc_printer.proofs.laws.pieces_lex_back.Goals as goal

pub returns : goal.returns
returns c = lexed_back
