use Rattle.ckc_parser_grammar.specs.ItemGrammar as g
use Rattle.ckc_parser.proofs.items.optional_mark.Goals as goal

pub returns-in-Ok : goal.returns-in-Ok
returns-in-Ok c = rw c.in-Ok.ensures.at (g.present c.in-Ok.ensures.says)

pub returns-in-Err : goal.returns-in-Err
returns-in-Err c = rw c.in-Err.ensures.left (g.absent c.in-Err.ensures.other)
