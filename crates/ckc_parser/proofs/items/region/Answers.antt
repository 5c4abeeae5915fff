use Rattle.ckc_parser_grammar.specs.ItemGrammar as g
use Rattle.ckc_parser_grammar.proofs.Readings.{begins}
use Rattle.ckc_parser.proofs.items.region.Goals as goal

pub returns-in-Scope : goal.returns-in-Scope
returns-in-Scope c = rw (begins _ _ _ _ c.in-Some.ensures.cases.0 c.in-Scope.is) (g.region c.region_of.ensures)
