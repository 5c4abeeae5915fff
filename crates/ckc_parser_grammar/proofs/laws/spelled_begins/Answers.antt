use Rattle.ckc_parser_grammar.proofs.Whole.{whole_begins}
use Rattle.ckc_parser_grammar.proofs.laws.spelled_begins.Goals as goal

pub returns : goal.returns
returns c = whole_begins
