use Rattle.ckc_parser_grammar.proofs.FewNodes.{few_nodes}
use Rattle.ckc_parser_grammar.proofs.laws.few_nodes.Goals as goal

pub returns : goal.returns
returns c = few_nodes
