use Rattle.std.proofs.Common.{arith}
use Rattle.ckc_parser_grammar.specs.ItemGrammar as g
use Rattle.ckc_parser_grammar.proofs.WholeForms.{stuck_is_fault}
use Rattle.ckc_parser.proofs.parser.parse.Goals as goal

pub returns-in-Ok : goal.returns-in-Ok
returns-in-Ok c = record { spelled = g.program c.in-Ok.ensures.0; low = omega (arith, c.in-Ok.ensures.1) }

pub returns-in-Err : goal.returns-in-Err
returns-in-Err c = c.refused.ensures _ (stuck_is_fault _ _ _ c.in-Err.ensures)
