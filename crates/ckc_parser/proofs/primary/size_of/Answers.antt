use Rattle.std.proofs.Common.{length, ap, arith}
use Rattle.ckc_parser_grammar.specs.ExpressionGrammar as g
use Rattle.ckc_parser_grammar.specs.StuckExpressions as s
use Rattle.ckc_parser_grammar.proofs.Readings.{err, takes, low_around}
use Rattle.ckc_parser.proofs.Selecting.{primary_built}
use Rattle.ckc_parser.proofs.primary.size_of.Goals as goal

pub returns-in_err-open_paren-clause-reads : goal.returns-in_err-open_paren-clause-reads
returns-in_err-open_paren-clause-reads c = rw (err _ _ c.from_residual.ensures.1, c.in_err-open_paren.ensures.reason, c.in_err-open_paren.ensures.left) (s.size_of_open c.requires c.in_err-open_paren.ensures.other)

pub returns-in_err-read-clause-reads : goal.returns-in_err-read-clause-reads
returns-in_err-read-clause-reads c = rw (err _ _ c.from_residual-in_err-read.ensures.1, c.in_ok-open_paren.ensures) (s.size_of_type c.requires (rw c.deeper.ensures at c.in_err-read.ensures.reads))

pub returns-in_err-end-clause-reads : goal.returns-in_err-end-clause-reads
returns-in_err-end-clause-reads c =
    rw (err _ _ c.from_residual-in_err-end.ensures.1, c.in_err-end.ensures.reason, c.in_err-end.ensures.left, c.in_ok-open_paren.ensures) (s.size_of_close c.in_ok-read.ensures.reads.0 (rw c.deeper.ensures at c.in_ok-read.ensures.reads.1) c.in_err-end.ensures.other)

pub returns-clause-reads : goal.returns-clause-reads
returns-clause-reads c =
    let low = low_around _ c.args.word.from _ c.requires (rw c.deeper.ensures at c.in_ok-read.ensures.reads.1) in
    rw c.in_ok-open_paren.ensures (primary_built _ _ (rw c.join.ensures at c.size_of_with.ensures) (g.size_of (rw c.in_ok-end.ensures at c.in_ok-read.ensures.reads.0)) low)

pub returns-clause-shorter : goal.returns-clause-shorter
returns-clause-shorter c = takes _ _ _ (omega (arith, ap length c.in_ok-open_paren.ensures, ap length c.in_ok-end.ensures, c.in_ok-read.ensures.shorter))
