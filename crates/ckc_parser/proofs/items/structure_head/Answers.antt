use Rattle.ckc_parser_grammar.specs.StuckStatements.{open_brace}
use Rattle.ckc_parser_grammar.proofs.Ahead.{no_struct, no_name}
use Rattle.ckc_parser.proofs.FileLevel.{structure_at}
use Rattle.ckc_parser.proofs.items.structure_head.Goals as goal

pub returns-in_default : goal.returns-in_default
returns-in_default c = no_struct _ c.in_default.ensures.other

pub returns-in_default-name : goal.returns-in_default-name
returns-in_default-name c = rw c.in-Ok.ensures (no_name open_brace _ c.in_default-name.ensures.other)

pub returns-in-Err : goal.returns-in-Err
returns-in-Err c = rw (c.in-Ok.ensures, c.in-Ok-name.ensures) c.in-Err.ensures.other

pub returns-in-Ok-open_brace : goal.returns-in-Ok-open_brace
returns-in-Ok-open_brace c = structure_at c.in-Ok.ensures c.in-Ok-name.ensures c.in-Ok-open_brace.ensures
