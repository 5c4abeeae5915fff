use Rattle.std.proofs.lemmas.Grind.{common_steps}
use Rattle.std.proofs.Common.{rules, arith}
use Rattle.bounds_flow.proofs.flow.Flow.new.Goals as goal

pub returns-in_err-held : goal.returns-in_err-held
returns-in_err-held c = search rules

pub returns-in_err-assigned : goal.returns-in_err-assigned
returns-in_err-assigned c = search rules

pub invariant_of-result : goal.invariant_of-result
invariant_of-result c = grind (arith, common_steps)

pub returns : goal.returns
returns c = search rules
