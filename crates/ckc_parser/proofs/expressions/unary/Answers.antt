use Rattle.ckc_parser.proofs.ContextSteps.{unary_reads}
use Rattle.ckc_parser.proofs.expressions.unary.Goals as goal

pub returns-clause-reads : goal.returns-clause-reads
returns-clause-reads c = unary_reads _ _ _ c.operators.result c.operators.ensures.reads
