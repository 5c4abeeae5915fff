use Rattle.std.proofs.lemmas.Bool.Decides.{nat_tests}
use Rattle.std.proofs.Common.{rules, arith}
use Rattle.region_typing_expressions.proofs.assignments.store_sum.Goals as goal

pub returns-in_err-met : goal.returns-in_err-met
returns-in_err-met c = search rules

pub returns-in_err-needs : goal.returns-in_err-needs
returns-in_err-needs c = grind (arith, nat_tests)

pub returns : goal.returns
returns c = search rules
