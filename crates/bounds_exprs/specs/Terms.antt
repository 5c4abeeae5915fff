-- Terms: a constant, or a variable plus a constant.
use Rattle.std.specs.Prelude.{ℕ, ◌^◌, ℤ, pos, neg_ℤ, ◌+ℤ◌, Bool, false, cond, ◌&&◌, ◌==◌, Option, None, Some}
use Rattle.std.specs.Int.Signed.{le_z}
use Rattle.bounds_exprs.specs.declared.term.Term.{Term}

-- the number lies between the limit's negative and the limit, both included
abbrev pub is_within : ℕ → ℤ → Bool
is_within limit z = le_z (neg_ℤ (pos limit)) z && le_z z (pos limit)

-- the limit of the constants of terms
abbrev pub term_limit : ℕ
term_limit = 2 ^ 40

-- the term, where its constant is within the limit
abbrev pub within_limit : Option ℕ → ℤ → Option Term
within_limit var plus = cond (is_within term_limit plus) (Some (record { var = var; plus = plus })) None

-- this variable is the one that is named
abbrev pub is_var : ℕ → Option ℕ → Bool
is_var x None = false
is_var x (Some y) = y == x

-- the term with another one put for a variable
abbrev pub substituted : Term → ℕ → Term → Option Term
substituted t x by = cond (is_var x t.var) (within_limit by.var (t.plus +ℤ by.plus)) (within_limit t.var t.plus)

-- the term with the variable plus c put for the variable
abbrev pub shifted : Term → ℕ → ℤ → Option Term
shifted t x c = substituted t x (record { var = Some x; plus = c })
