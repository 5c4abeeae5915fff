use Rattle.std.proofs.Common.{arith, rules}
use Rattle.std.proofs.lemmas.Grind.{common_steps}
use Rattle.code_words_listing.proofs.read_lines.read_callback.Goals as goal

pub returns-in_err-fixed-2 : goal.returns-in_err-fixed-2
returns-in_err-fixed-2 c = grind (arith, common_steps)

pub returns-in_err-args : goal.returns-in_err-args
returns-in_err-args c = grind (arith, common_steps)

pub returns-in_err-fixed-3 : goal.returns-in_err-fixed-3
returns-in_err-fixed-3 c = grind (arith, common_steps)

pub returns-in_err-result : goal.returns-in_err-result
returns-in_err-result c = grind (arith, common_steps)

pub returns-in_err-end : goal.returns-in_err-end
returns-in_err-end c = grind (arith, common_steps)

pub from_residual-requires : goal.from_residual-requires
from_residual-requires c κs = search rules

pub returns-in_err-number : goal.returns-in_err-number
returns-in_err-number c = search rules

pub from_residual-requires-in_err-fixed : goal.from_residual-requires-in_err-fixed
from_residual-requires-in_err-fixed c κs = search rules

pub returns-in_err-fixed : goal.returns-in_err-fixed
returns-in_err-fixed c = search rules

pub from_residual-requires-in_err-fun : goal.from_residual-requires-in_err-fun
from_residual-requires-in_err-fun c κs = search rules

pub returns-in_err-fun : goal.returns-in_err-fun
returns-in_err-fun c = search rules

pub from_residual-requires-in_err-fixed-2 : goal.from_residual-requires-in_err-fixed-2
from_residual-requires-in_err-fixed-2 c κs = search rules

pub from_residual-requires-in_err-args : goal.from_residual-requires-in_err-args
from_residual-requires-in_err-args c κs = search rules

pub from_residual-requires-in_err-fixed-3 : goal.from_residual-requires-in_err-fixed-3
from_residual-requires-in_err-fixed-3 c κs = search rules

pub from_residual-requires-in_err-result : goal.from_residual-requires-in_err-result
from_residual-requires-in_err-result c κs = search rules

pub from_residual-requires-in_err-end : goal.from_residual-requires-in_err-end
from_residual-requires-in_err-end c κs = search rules

pub returns-then-args-le16 : goal.returns-then-args-le16
returns-then-args-le16 c = grind (arith, common_steps)

pub returns-else-args-le16 : goal.returns-else-args-le16
returns-else-args-le16 c = grind (arith, common_steps)
