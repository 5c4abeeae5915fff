use Rattle.std.proofs.Common.{arith}
use Rattle.ckc_parser_grammar.specs.ItemGrammar as g
use Rattle.ckc_parser_grammar.specs.StuckItems as stuck
use Rattle.ckc_parser_grammar.proofs.Readings.{err}
use Rattle.ckc_parser.proofs.items.parameters.Goals as goal

pub returns-in-Ok : goal.returns-in-Ok
returns-in-Ok c = rw c.in-Ok.ensures (g.nothing, omega arith)

pub returns-in_err-span : goal.returns-in_err-span
returns-in_err-span c = rw (err _ _ c.from_residual.ensures.1, c.in_err-span.ensures.reason, c.in_err-span.ensures.left, ← c.in_default.ensures.left, c.in-Ok-void_word.ensures) (stuck.void c.in_err-span.ensures.other)

pub returns-in-Ok-void_word : goal.returns-in-Ok-void_word
returns-in-Ok-void_word c = rw (← c.in_default.ensures.left, c.in-Ok-void_word.ensures, c.in_ok-span.ensures) (g.void, omega arith)

pub returns-in_err-read : goal.returns-in_err-read
returns-in_err-read c = rw (err _ _ c.from_residual-in_err-read.ensures.1) (stuck.listed c.in_default.ensures.other (rw c.in_default.ensures.left at c.in_default-void_word.ensures.other) (rw (c.in_default-void_word.ensures.left, c.in_default.ensures.left) at c.in_err-read.ensures))

pub returns : goal.returns
returns c = (g.listed (rw (c.in_default-void_word.ensures.left, c.in_default.ensures.left) at c.in_ok-read.ensures.0), c.in_ok-read.ensures.1)
