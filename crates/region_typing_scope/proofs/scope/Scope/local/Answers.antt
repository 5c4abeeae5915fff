use Rattle.std.proofs.lemmas.Grind.{elements}
use Rattle.std.proofs.Common.{rules, arith}
use Rattle.region_typing_scope.proofs.scope.Scope.local.Goals as goal

pub returns-in_err-number : goal.returns-in_err-number
returns-in_err-number c = search rules

pub returns-in_err-ctype : goal.returns-in_err-ctype
returns-in_err-ctype c = grind (arith, elements)

pub returns : goal.returns
returns c = grind (arith, elements)
