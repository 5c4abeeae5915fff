use Rattle.std.proofs.lemmas.Grind.{common_steps}
use Rattle.std.proofs.Common.{rules, arith}
use Rattle.lowering.proofs.check_code.emit_check.Goals as goal

pub returns-in_err-emit_within-in-Below : goal.returns-in_err-emit_within-in-Below
returns-in_err-emit_within-in-Below c = search rules

pub returns-in_err-emit_within-in-UpTo : goal.returns-in_err-emit_within-in-UpTo
returns-in_err-emit_within-in-UpTo c = search rules

pub returns-in_err-emit_containment-in-Contains : goal.returns-in_err-emit_containment-in-Contains
returns-in_err-emit_containment-in-Contains c = search rules

pub returns-in-NotNull : goal.returns-in-NotNull
returns-in-NotNull c = search rules

pub returns-in_ok-emit_within-in-Below : goal.returns-in_ok-emit_within-in-Below
returns-in_ok-emit_within-in-Below c = grind (arith, common_steps)

pub returns-in_ok-emit_within-in-UpTo : goal.returns-in_ok-emit_within-in-UpTo
returns-in_ok-emit_within-in-UpTo c = grind (arith, common_steps)

pub returns-in_ok-emit_containment-in-Contains : goal.returns-in_ok-emit_containment-in-Contains
returns-in_ok-emit_containment-in-Contains c = grind (arith, common_steps)
