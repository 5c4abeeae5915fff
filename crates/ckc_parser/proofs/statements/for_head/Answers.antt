use Rattle.ckc_parser.proofs.Blocks.{end_of}
use Rattle.ckc_parser_grammar.specs.StuckStatements as stuck
use Rattle.ckc_parser_grammar.proofs.Readings.{err}
use Rattle.ckc_parser.proofs.statements.for_head.Goals as goal

pub returns-in_err-open_paren : goal.returns-in_err-open_paren
returns-in_err-open_paren c = rw (err _ _ c.from_residual.ensures.1, c.in_err-open_paren.ensures.reason, c.in_err-open_paren.ensures.left) (stuck.for_open c.requires c.in_err-open_paren.ensures.other)

pub returns-in_err-initial : goal.returns-in_err-initial
returns-in_err-initial c = rw (err _ _ c.from_residual-in_err-initial.ensures.1, c.in_ok-open_paren.ensures) (stuck.for_initial c.requires (rw c.deeper-below.ensures at c.in_err-initial.ensures))

pub returns-in_err-read : goal.returns-in_err-read
returns-in_err-read c =
    rw (err _ _ c.from_residual-in_err-read.ensures.1, c.in_ok-open_paren.ensures)
    (stuck.for_condition c.requires c.in_ok-initial.ensures.0 (rw c.deeper-below.ensures at c.in_ok-initial.ensures.1) (rw c.deeper-below.ensures at c.in_err-read.ensures))

pub returns-in_err-step : goal.returns-in_err-step
returns-in_err-step c =
    rw (err _ _ c.from_residual-in_err-step.ensures.1, c.in_ok-open_paren.ensures)
    (stuck.for_step c.requires c.in_ok-initial.ensures.0 (rw c.deeper-below.ensures at c.in_ok-initial.ensures.1) (end_of c.in_ok-read.ensures.0) (rw c.deeper-below.ensures at c.in_ok-read.ensures.1) (rw c.deeper-below.ensures at c.in_err-step.ensures))

pub returns : goal.returns
returns c = rw c.in_ok-boxed.ensures (record {
  opening = _;
  first = _;
  second = _;
  third = _;
  opened = c.in_ok-open_paren.ensures;
  begun = c.in_ok-initial.ensures.0;
  begun_low = rw c.deeper-below.ensures at c.in_ok-initial.ensures.1;
  tested = end_of c.in_ok-read.ensures.0;
  tested_low = rw c.deeper-below.ensures at c.in_ok-read.ensures.1;
  stepped = c.in_ok-step.ensures.0;
  stepped_low = rw c.deeper-below.ensures at c.in_ok-step.ensures.1;
})

pub returns-in_err-boxed : goal.returns-in_err-boxed
returns-in_err-boxed c = rw (err _ _ c.from_residual-in_err-boxed.ensures.1) stuck.statement_no_room
