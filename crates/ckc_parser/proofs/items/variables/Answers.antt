use Rattle.ckc_parser_grammar.proofs.Paths.{low_beside}
use Rattle.ckc_parser_grammar.specs.ItemGrammar as g
use Rattle.ckc_parser_grammar.specs.StuckItems as stuck
use Rattle.ckc_parser_grammar.proofs.Readings.{err}
use Rattle.ckc_parser.proofs.items.variables.Goals as goal

pub returns-in_err-read : goal.returns-in_err-read
returns-in_err-read c =
    let base = c.requires in
    rw (err _ _ c.from_residual.ensures.1) (stuck.variables base.taint base.no_structure base.type base.low base.no_function (rw c.new.ensures at c.in_err-read.ensures))

pub returns-in_err-end : goal.returns-in_err-end
returns-in_err-end c =
    let base = c.requires in
    rw (err _ _ c.from_residual-in_err-end.ensures.1, c.in_err-end.ensures.reason, c.in_err-end.ensures.left) (stuck.variables_end base.taint base.type base.low base.no_function c.in_ok-read.ensures.0 (rw c.new.ensures at c.in_ok-read.ensures.1) c.in_err-end.ensures.other)

pub returns : goal.returns
returns c =
    let base = c.requires in
    let declared = rw c.in_ok-end.ensures at c.in_ok-read.ensures.0 in
    rw c.from_first-span.ensures (g.global base.taint base.type declared, low_beside _ _ _ base.low (rw c.new.ensures at c.in_ok-read.ensures.1))
