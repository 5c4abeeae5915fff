use Rattle.ckc_parser_grammar.specs.TypeGrammar as grammar
use Rattle.ckc_parser_grammar.specs.StuckTypes as stuck
use Rattle.ckc_parser_grammar.proofs.Readings.{err}
use Rattle.ckc_parser.proofs.types.angled.Goals as goal

pub returns-in_err-less-clause-reads : goal.returns-in_err-less-clause-reads
returns-in_err-less-clause-reads c = rw (err _ _ c.from_residual.ensures.1, c.in_err-less.ensures.reason, c.in_err-less.ensures.left) (stuck.opens c.in_err-less.ensures.other)

pub returns-in_err-read-clause-reads : goal.returns-in_err-read-clause-reads
returns-in_err-read-clause-reads c = rw (err _ _ c.from_residual-in_err-read.ensures.1, c.in_ok-less.ensures) (stuck.inside c.in_err-read.ensures.reads)

pub returns-in_err-greater-clause-reads : goal.returns-in_err-greater-clause-reads
returns-in_err-greater-clause-reads c =
    rw (err _ _ c.from_residual-in_err-greater.ensures.1, c.in_err-greater.ensures.reason, c.in_err-greater.ensures.left, c.in_ok-less.ensures) (stuck.close c.in_ok-read.ensures.reads.0 c.in_ok-read.ensures.reads.1 c.in_err-greater.ensures.other)

pub returns-in_err-open_paren-clause-reads : goal.returns-in_err-open_paren-clause-reads
returns-in_err-open_paren-clause-reads c =
    let read = rw c.in_ok-greater.ensures at c.in_ok-read.ensures.reads.0 in
    rw (err _ _ c.from_residual-in_err-open_paren.ensures.1, c.in_err-open_paren.ensures.reason, c.in_err-open_paren.ensures.left, c.in_ok-less.ensures) (stuck.paren read c.in_ok-read.ensures.reads.1 c.in_err-open_paren.ensures.other)

pub returns-clause-reads : goal.returns-clause-reads
returns-clause-reads c =
    let read = rw (c.in_ok-greater.ensures, c.in_ok-open_paren.ensures) at c.in_ok-read.ensures.reads.0 in
    rw c.in_ok-less.ensures (grammar.angled read, c.in_ok-read.ensures.reads.1)
