use Rattle.ckc_parser.proofs.Blocks.{stuck_jump, is_jump}
use Rattle.ckc_parser_grammar.specs.StuckStatements as stuck
use Rattle.ckc_parser_grammar.proofs.Readings.{err}
use Rattle.ckc_parser.proofs.statements.jump.Goals as goal

pub returns-in_err-end : goal.returns-in_err-end
returns-in_err-end c = λ depth deep. rw (err _ _ c.from_residual.ensures.1, c.in_err-end.ensures.reason, c.in_err-end.ensures.left) (stuck_jump c.args.is_break deep c.in_err-end.ensures.other)

pub returns-in_err-boxed : goal.returns-in_err-boxed
returns-in_err-boxed c = λ depth deep. rw (err _ _ c.from_residual-in_err-boxed.ensures.1) stuck.statement_no_room

pub returns : goal.returns
returns c = λ depth deep. rw (c.in_ok-end.ensures, c.in_ok-boxed.ensures, c.jumped.ensures, c.join-span.ensures) (is_jump c.args.is_break deep)
