use Rattle.ckc_parser_grammar.specs.ItemGrammar as g
use Rattle.ckc_parser.proofs.items.function_kind.Goals as goal

pub returns-in-Ok : goal.returns-in-Ok
returns-in-Ok c = c.in-Ok.ensures

pub returns-in-Err : goal.returns-in-Err
returns-in-Err c = rw c.in-Err.ensures.left (g.trusted c.in-Err.ensures.other)
