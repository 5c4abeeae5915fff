use Rattle.ckc_parser_grammar.proofs.OneFault.{at_most_one_fault}
use Rattle.ckc_parser_grammar.proofs.laws.at_most_one_fault.Goals as goal

pub returns : goal.returns
returns c = at_most_one_fault
