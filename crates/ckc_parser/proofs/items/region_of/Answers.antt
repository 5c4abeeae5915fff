use Rattle.ckc_parser_grammar.specs.ItemGrammar as g
use Rattle.ckc_parser.proofs.items.region_of.Goals as goal

pub returns-in-On : goal.returns-in-On
returns-in-On c = rw c.in-On.is g.on

pub returns-in-Off : goal.returns-in-Off
returns-in-Off c = rw c.in-Off.is g.off
