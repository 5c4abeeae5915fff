-- Changes of bounds, what bounds name, and terms put for parameters.
use Rattle.std.specs.Prelude.{ℕ, ℤ, pos, ◌+ℤ◌, ◌-ℤ◌, Bool, cond, ◌||◌, Option, None, Some, List, slice_index_or}
use Rattle.bounds_exprs.specs.declared.term.Term.{Term}
use Rattle.bounds_exprs.specs.declared.term.Bounds.{Bounds}
use Rattle.bounds_exprs.specs.Terms.{is_var, within_limit}

-- the bounds between two ends, where there are both
abbrev pub between : Option ℕ → Option Term → Option Term → Option Bounds
between base None hi = None
between base (Some lo) None = None
between base (Some lo) (Some hi) = Some (record { base = base; lo = lo; hi = hi })

-- both ends moved by a constant
abbrev pub moved_by : ℤ → Bounds → Option Bounds
moved_by c b = between b.base (within_limit b.lo.var (b.lo.plus +ℤ c)) (within_limit b.hi.var (b.hi.plus +ℤ c))

-- an end names the variable
abbrev pub is_named : ℕ → Bounds → Bool
is_named x b = is_var x b.lo.var || is_var x b.hi.var

-- a term once c was added to the variable: what this was is what it is, minus c
abbrev pub lowered : ℕ → ℤ → Term → Option Term
lowered x c t = within_limit t.var (t.plus -ℤ cond (is_var x t.var) c (pos 0))

-- both ends once c was added to the variable
abbrev pub moved_back : ℕ → ℤ → Bounds → Option Bounds
moved_back x c b = between b.base (lowered x c b.lo) (lowered x c b.hi)

-- a constant more than a term, where this is there and the limit allows it
abbrev pub raised_term : Option Term → ℤ → Option Term
raised_term None c = None
raised_term (Some t) c = within_limit t.var (c +ℤ t.plus)

-- A term with the n-th of these put for the variable n, where that is there. What is put in isn't looked at again.
abbrev pub filled_in : List (Option Term) → Term → Option Term
filled_in terms t = by t.var
  where
    by : Option ℕ → Option Term
    by None = within_limit None t.plus
    by (Some x) = raised_term (slice_index_or terms x None) t.plus

-- both ends with these put for the variables; the base stays
abbrev pub ends_filled_in : List (Option Term) → Bounds → Option Bounds
ends_filled_in terms b = between b.base (filled_in terms b.lo) (filled_in terms b.hi)
