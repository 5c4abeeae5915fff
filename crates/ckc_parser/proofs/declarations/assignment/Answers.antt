use Rattle.std.proofs.Common.{◌≡◌, ◌<◌, true, arith, sym}
use Rattle.ckc_parser_grammar.specs.Tokens.{next_is}
use Rattle.ckc_parser_grammar.specs.StuckStatements.{assignment_word}
use Rattle.ckc_parser_grammar.proofs.Readings.{next, next_none, low_around}
use Rattle.ckc_parser.proofs.Assignments.{no_step_word, assignment_reads}
use Rattle.ckc_parser_grammar.specs.StatementGrammar as g
use Rattle.ckc_parser_grammar.specs.StuckStatements as stuck
use Rattle.ckc_parser_grammar.proofs.Readings.{err}
use Rattle.ckc_parser.proofs.declarations.assignment.Goals as goal

pub returns-in_default : goal.returns-in_default
returns-in_default c = stuck.no_assignment (next_none _ _ c.in_default.ensures.cases)

pub returns-then-not-starts_assignment : goal.returns-then-not-starts_assignment
returns-then-not-starts_assignment c = stuck.no_assignment (next _ _ _ _ _ c.in-Some.ensures.cases.0 (sym c.if-not-starts_assignment.ensures))

pub returns-in_err-check : goal.returns-in_err-check
returns-in_err-check c = rw (err _ _ c.from_residual.ensures.1, c.in_err-check.ensures.0, c.in-Some.ensures.cases.0) (stuck.deep (sym c.if-not-starts_assignment.ensures) c.in_err-check.ensures.1)

pub returns-in_err-read : goal.returns-in_err-read
returns-in_err-read c =
    let deep = c.in_ok-check.ensures in
    rw (err _ _ c.from_residual-in_err-read.ensures.1, c.in-Ok.ensures.at) (stuck.before deep c.in-Ok.ensures.says (rw c.deeper-below.ensures at c.in_err-read.ensures.reads))

pub returns-in-Ok : goal.returns-in-Ok
returns-in-Ok c =
    let deep = c.in_ok-check.ensures in
    rw (c.in-Ok.ensures.at, c.step.ensures, c.join-span.ensures) (g.before c.in-Ok.ensures.says c.in_ok-read.ensures.reads.0, low_around _ _ _ deep (rw c.deeper-below.ensures at c.in_ok-read.ensures.reads.1))

pub returns-in_err-target : goal.returns-in_err-target
returns-in_err-target c =
    let deep = c.in_ok-check.ensures in
    let word : next_is assignment_word c.args.tokens.now.now ≡ true = next _ _ _ _ _ c.in-Some.ensures.cases.0 (sym c.if-not-starts_assignment.ensures) in
    rw (err _ _ c.from_residual-in_err-target.ensures.1) (stuck.target deep (no_step_word _ word c.in_default-step_operator.ensures.other) (rw (c.deeper-below.ensures, c.in_default-step_operator.ensures.left) at c.in_err-target.ensures.reads))

pub returns : goal.returns
returns c =
    let deep = c.in_ok-check.ensures in
    assignment_reads _ _ deep (rw c.in_default-step_operator.ensures.left at c.in_ok-target.ensures.reads.0) (rw c.deeper-below.ensures at c.in_ok-target.ensures.reads.1) c.assigned.ensures
