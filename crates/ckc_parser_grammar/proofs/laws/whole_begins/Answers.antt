use Rattle.ckc_parser_grammar.proofs.WholeForms.{program_whole}
use Rattle.ckc_parser_grammar.proofs.laws.whole_begins.Goals as goal

pub returns : goal.returns
returns c = program_whole
