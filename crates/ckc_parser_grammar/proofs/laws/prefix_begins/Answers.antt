use Rattle.ckc_parser_grammar.proofs.Prefixes.{prefix_begins}
use Rattle.ckc_parser_grammar.proofs.laws.prefix_begins.Goals as goal

pub returns : goal.returns
returns c = prefix_begins
