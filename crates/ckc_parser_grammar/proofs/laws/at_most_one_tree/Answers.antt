use Rattle.ckc_parser_grammar.proofs.OneItem.{at_most_one_tree}
use Rattle.ckc_parser_grammar.proofs.laws.at_most_one_tree.Goals as goal

pub returns : goal.returns
returns c = at_most_one_tree
