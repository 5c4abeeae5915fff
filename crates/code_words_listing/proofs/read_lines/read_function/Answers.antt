use Rattle.std.proofs.lemmas.Bool.Decides.{nat_tests}
use Rattle.std.proofs.Common.{arith, rules}
use Rattle.std.proofs.lemmas.Grind.{common_steps}
use Rattle.code_words_listing.proofs.read_lines.read_function.Goals as goal

pub returns-in_err-args : goal.returns-in_err-args
returns-in_err-args c = grind (arith, common_steps)

pub returns-in_err-fixed-2 : goal.returns-in_err-fixed-2
returns-in_err-fixed-2 c = grind (arith, common_steps)

pub returns-in_err-slots : goal.returns-in_err-slots
returns-in_err-slots c = grind (arith, common_steps)

pub returns-in_err-fixed-3 : goal.returns-in_err-fixed-3
returns-in_err-fixed-3 c = grind (arith, common_steps)

pub returns-in_err-stack : goal.returns-in_err-stack
returns-in_err-stack c = grind (arith, common_steps)

pub returns-in_err-fixed-4 : goal.returns-in_err-fixed-4
returns-in_err-fixed-4 c = grind (arith, common_steps)

pub returns-in_err-result : goal.returns-in_err-result
returns-in_err-result c = grind (arith, common_steps)

pub returns-in_err-end : goal.returns-in_err-end
returns-in_err-end c = grind (arith, common_steps)

pub from_residual-requires : goal.from_residual-requires
from_residual-requires c κs = search rules

pub returns-in_err-number : goal.returns-in_err-number
returns-in_err-number c = search rules

pub from_residual-requires-in_err-name : goal.from_residual-requires-in_err-name
from_residual-requires-in_err-name c κs = search rules

pub returns-in_err-name : goal.returns-in_err-name
returns-in_err-name c = search rules

pub from_residual-requires-in_err-fixed : goal.from_residual-requires-in_err-fixed
from_residual-requires-in_err-fixed c κs = search rules

pub returns-in_err-fixed : goal.returns-in_err-fixed
returns-in_err-fixed c = grind (arith, common_steps)

pub from_residual-requires-in_err-args : goal.from_residual-requires-in_err-args
from_residual-requires-in_err-args c κs = search rules

pub from_residual-requires-in_err-fixed-2 : goal.from_residual-requires-in_err-fixed-2
from_residual-requires-in_err-fixed-2 c κs = search rules

pub from_residual-requires-in_err-slots : goal.from_residual-requires-in_err-slots
from_residual-requires-in_err-slots c κs = search rules

pub from_residual-requires-in_err-fixed-3 : goal.from_residual-requires-in_err-fixed-3
from_residual-requires-in_err-fixed-3 c κs = search rules

pub from_residual-requires-in_err-stack : goal.from_residual-requires-in_err-stack
from_residual-requires-in_err-stack c κs = search rules

pub from_residual-requires-in_err-fixed-4 : goal.from_residual-requires-in_err-fixed-4
from_residual-requires-in_err-fixed-4 c κs = search rules

pub from_residual-requires-in_err-result : goal.from_residual-requires-in_err-result
from_residual-requires-in_err-result c κs = search rules

pub from_residual-requires-in_err-end : goal.from_residual-requires-in_err-end
from_residual-requires-in_err-end c κs = search rules

pub overflow_add-from : goal.overflow_add-from
overflow_add-from c = search rules

pub returns-then-args-slots : goal.returns-then-args-slots
returns-then-args-slots c = grind (arith, nat_tests)

pub returns-else-from-le4096 : goal.returns-else-from-le4096
returns-else-from-le4096 c = grind (arith, nat_tests)
