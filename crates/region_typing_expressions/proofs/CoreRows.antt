-- Arguments of a core, one list before another.
use Rattle.std.proofs.Common.{◌≡◌, List, [], ◌∷◌, ◌++◌, refl, ap}
use Rattle.ckc_core.specs.declared.program.Expr.{Expr}
use Rattle.ckc_core.specs.Core as core
use Rattle.ckc_core.specs.Core.{expression, arguments_of}

-- values before others
abbrev pub joined : List Expr → core.Arguments → core.Arguments
joined [] others = others
joined (x ∷ xs) others = core.More (expression x) (joined xs others)

pub joined_none : (xs : List Expr) → joined xs core.Done ≡ arguments_of xs
joined_none [] = refl
joined_none (x ∷ xs) = ap (core.More (expression x)) (joined_none xs)

pub joined_one : (xs : List Expr) (x : Expr) (others : core.Arguments) → joined (xs ++ x ∷ []) others ≡ joined xs (core.More (expression x) others)
joined_one [] x others = refl
joined_one (y ∷ xs) x others = ap (core.More (expression y)) (joined_one xs x others)
