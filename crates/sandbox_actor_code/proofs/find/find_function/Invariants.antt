use Rattle.std.proofs.Common.{◌≡◌, drop}
use Rattle.std.specs.Prelude.{◌==◌, find}
use Rattle.code_words.specs.Functions.{Func}
use Rattle.sandbox_actor_code.proofs.find.find_function.Given as goal

-- what is left has the function, if one has
abbrev pub invariant-loop-fun : goal.invariant-loop-fun
invariant-loop-fun l = find (λ (f : Func). f.number == l.number) (drop l.fun-index l.funs) ≡ find (λ (f : Func). f.number == l.number) l.funs
