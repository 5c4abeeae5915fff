-- Terms put together from terms.
use Rattle.std.specs.Prelude.{◌+ℤ◌, ◌-ℤ◌, ◌*ℤ◌, cond, Option, None, Some, is_none}
use Rattle.bounds_exprs.specs.declared.term.Term.{Term}
use Rattle.bounds_exprs.specs.Terms.{within_limit}

-- the sum, where one of the two is a constant
abbrev pub added : Option Term → Option Term → Option Term
added None b = None
added (Some a) None = None
added (Some a) (Some b) = cond (is_none a.var) (within_limit b.var (a.plus +ℤ b.plus)) (cond (is_none b.var) (within_limit a.var (a.plus +ℤ b.plus)) None)

-- the difference, where the second is a constant
abbrev pub subtracted : Option Term → Option Term → Option Term
subtracted None b = None
subtracted (Some a) None = None
subtracted (Some a) (Some b) = cond (is_none b.var) (within_limit a.var (a.plus -ℤ b.plus)) None

-- the product, where both are constants
abbrev pub multiplied : Option Term → Option Term → Option Term
multiplied None b = None
multiplied (Some a) None = None
multiplied (Some a) (Some b) = cond (is_none a.var) (cond (is_none b.var) (within_limit None (a.plus *ℤ b.plus)) None) None
