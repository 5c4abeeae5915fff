use Rattle.std.proofs.Common.{◌<◌, arith}
use Rattle.ckc_parser_grammar.proofs.Readings.{low_around}
use Rattle.ckc_parser.proofs.FileLevel.{stuck_brace}
use Rattle.ckc_parser_grammar.specs.ItemGrammar as g
use Rattle.ckc_parser_grammar.specs.StuckItems as stuck
use Rattle.ckc_parser_grammar.proofs.Readings.{err}
use Rattle.ckc_parser.proofs.items.body.Goals as goal

pub returns-in-Ok : goal.returns-in-Ok
returns-in-Ok c = rw c.in-Ok.ensures (g.absent, omega arith)

pub returns-in_err-open_brace : goal.returns-in_err-open_brace
returns-in_err-open_brace c = rw (err _ _ c.from_residual.ensures.1, c.in_err-open_brace.ensures.reason, c.in_err-open_brace.ensures.left) (stuck_brace (rw c.in_default.ensures.left at c.optional_mark-mark.ensures) c.in_default.ensures.other c.in_err-open_brace.ensures.other)

pub returns-in_err-read : goal.returns-in_err-read
returns-in_err-read c =
    let marked = rw (c.in_ok-open_brace.ensures, c.in_default.ensures.left) at c.optional_mark-mark.ensures in
    rw (err _ _ c.from_residual-in_err-read.ensures.1) (stuck.statements marked (rw (c.deeper.ensures, c.new.ensures) at c.in_err-read.ensures))

pub returns : goal.returns
returns c =
    let marked = rw (c.in_ok-open_brace.ensures, c.in_default.ensures.left) at c.optional_mark-mark.ensures in
    let deep : 0 < 200 = omega arith in
    rw (c.from_first-span.ensures, c.in_default.ensures.left) (g.present marked c.in_ok-read.ensures.0, low_around 0 _ _ deep (rw (c.deeper.ensures, c.new.ensures) at c.in_ok-read.ensures.1))
