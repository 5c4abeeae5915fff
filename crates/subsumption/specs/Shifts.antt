-- A number put on to a variable.
use Rattle.std.specs.Prelude.{ℕ, ℤ, pos, ◌+ℤ◌, ◌-ℤ◌, Bool, cond, ◌==◌, false, Option, None, Some}
use Rattle.subsumption.specs.declared.fact.Fact.{Fact}

-- whether the variable is this one
abbrev pub is_variable : ℕ → Option ℕ → Bool
is_variable x None = false
is_variable x (Some y) = y == x

-- the fact with x + c put for x
abbrev pub moved : ℕ → ℤ → Fact → Fact
moved x c f = record { left = f.left; right = f.right; plus = f.plus +ℤ (cond (is_variable x f.right) c (pos 0) -ℤ cond (is_variable x f.left) c (pos 0)) }
