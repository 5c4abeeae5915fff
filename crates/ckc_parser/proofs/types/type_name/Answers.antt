use Rattle.ckc_parser_grammar.specs.TypeGrammar as grammar
use Rattle.ckc_parser_grammar.specs.StuckTypes as stuck
use Rattle.ckc_parser_grammar.proofs.Readings.{err}
use Rattle.ckc_parser.proofs.types.type_name.Goals as goal

pub returns-in_err-base-clause-reads : goal.returns-in_err-base-clause-reads
returns-in_err-base-clause-reads c = rw (err _ _ c.from_residual.ensures.1) (stuck.base c.in_err-base.ensures.reads)

pub returns-clause-reads : goal.returns-clause-reads
returns-clause-reads c = (grammar.type_name c.in_ok-base.ensures.reads.0 c.stars-stars.ensures.spelled, c.in_ok-base.ensures.reads.1)
