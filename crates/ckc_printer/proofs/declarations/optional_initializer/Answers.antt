use Rattle.std.proofs.lemmas.Grind.{common_steps}
use Rattle.std.proofs.Common.{arith}
use Rattle.ckc_printer.proofs.declarations.optional_initializer.Goals as goal

pub returns-in-Some-Value : goal.returns-in-Some-Value
returns-in-Some-Value c = grind (arith, common_steps)

pub returns-in-Some-List : goal.returns-in-Some-List
returns-in-Some-List c = grind (arith, common_steps)
