use Rattle.std.proofs.lemmas.Grind.{common_steps}
use Rattle.std.proofs.Common.{rules, arith}
use Rattle.lowering.proofs.check_code.emit_term.Goals as goal

pub returns-in_err-put_two : goal.returns-in_err-put_two
returns-in_err-put_two c = search rules

pub returns-in_err-put_two-2 : goal.returns-in_err-put_two-2
returns-in_err-put_two-2 c = search rules

pub returns-in_err-put_two-3 : goal.returns-in_err-put_two-3
returns-in_err-put_two-3 c = search rules

pub returns : goal.returns
returns c = grind (arith, common_steps)
