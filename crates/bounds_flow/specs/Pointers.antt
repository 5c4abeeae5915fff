-- What is known of one pointer, and what becomes of that. (Checked C's rule that declared bounds hold after an assignment.)
use Rattle.std.specs.Prelude.{ℕ, ℤ, neg_ℤ, ◌+ℤ◌, pos, is_none, Bool, true, false, cond, not, ◌&&◌, ◌||◌, Option, None, Some, List, slice_index_or}
use Rattle.std.specs.Ordering.{int_eq}
use Rattle.bounds_exprs.specs.declared.term.Term.{Term}
use Rattle.bounds_exprs.specs.declared.term.Bounds.{Bounds}
use Rattle.bounds_exprs.specs.Terms.{is_var, within_limit}
use Rattle.bounds_exprs.specs.Normal.{is_same}
use Rattle.bounds_exprs.specs.Changes.{is_named, moved_back, moved_by}
use Rattle.bounds_flow.specs.declared.held.Held.{Held}
use Rattle.bounds_flow.specs.declared.held.Mark.{Mark}
use Rattle.bounds_flow.specs.declared.held.Mark.TheVariants as marks
use Rattle.bounds_flow.specs.declared.steps.Source.{Source}
use Rattle.bounds_flow.specs.declared.steps.Source.TheVariants as sources

-- ---- pointers

-- what is known of a variable that is no pointer in scope
abbrev pub no_pointer : Held
no_pointer = record { declared = None; bounds = None; known = false; mark = marks.Settled }

-- what is known of a pointer that comes into scope
abbrev pub fresh : Option Bounds → Held
fresh declared = record { declared = declared; bounds = declared; known = false; mark = marks.Settled }

-- the pointer with its declared bounds in force
abbrev pub with_declared : Held → Held
with_declared h = record h { bounds = h.declared }

-- the pointer, which isn't known not to be null
abbrev pub maybe_null : Held → Held
maybe_null h = record h { known = false }

-- the pointer, which is known not to be null
abbrev pub known_not_null : Held → Held
known_not_null h = record h { known = true }

-- its bounds are lost by an assignment to another variable
abbrev pub lost : Held → Held
lost h = record h { bounds = None; mark = marks.Lost }

-- its bounds once another variable was assigned, where there are any left
abbrev pub moved_to : Option Bounds → Held → Held
moved_to None h = lost h
moved_to (Some b) h = record h { bounds = Some b; mark = marks.Changed }

-- the change of a pointer whose bounds in force pass the test; another one stays
abbrev pub where_bounds : Option Bounds → (Bounds → Bool) → (Bounds → Held) → Held → Held
where_bounds None test change h = h
where_bounds (Some b) test change h = cond (test b) (change b) h

-- ---- x = e, of an int

-- after x = x + c: what x was is x - c
abbrev pub after_shift : ℕ → ℤ → Held → Held
after_shift x c h = where_bounds h.bounds (is_named x) (λ b. moved_to (moved_back x c b) h) h

-- the variable was assigned
abbrev pub is_assigned : List Bool → Option ℕ → Bool
is_assigned assigned None = false
is_assigned assigned (Some x) = slice_index_or assigned x false

-- there are bounds, and neither end names a variable that was assigned
abbrev pub stays_true : List Bool → Option Bounds → Bool
stays_true assigned None = false
stays_true assigned (Some b) = not (is_assigned assigned b.lo.var || is_assigned assigned b.hi.var)

-- nothing became of it
abbrev pub is_settled : Mark → Bool
is_settled marks.Settled = true
is_settled marks.Changed = false
is_settled marks.Lost = false
is_settled marks.WasNull = false

-- bounds that can't be kept: back to the declared ones, where these hold as they did at the last settling, or lost
abbrev pub dropped : List Bool → Held → Held
dropped assigned h = cond (is_settled h.mark && stays_true assigned h.declared) (with_declared h) (lost h)

-- after x was assigned something else, with the variables that were assigned by now
abbrev pub after_number : ℕ → List Bool → Held → Held
after_number x assigned h = where_bounds h.bounds (is_named x) (λ b. dropped assigned h) h

-- ---- p = e, of a pointer

-- the bounds once their base was assigned itself plus a constant, where it was
abbrev pub moved_off : Option ℤ → Bounds → Option Bounds
moved_off None b = None
moved_off (Some c) b = moved_by (neg_ℤ c) b

-- another pointer after p was assigned
abbrev pub after_base : ℕ → Option ℤ → Held → Held
after_base p moved h = where_bounds h.bounds (λ b. is_var p b.base) (λ b. moved_to (moved_off moved b) h) h

-- The bounds that p gets. Those from what p was are its own, read from what it is.
abbrev pub bounds_from : ℕ → Option ℤ → Source → Option Bounds
bounds_from p moved sources.Null = None
bounds_from p moved sources.Lost = None
bounds_from p moved (sources.Known b) = cond (is_var p b.base) (moved_off moved (record b { base = None })) (Some b)

-- what becomes of a pointer that is assigned
abbrev pub mark_from : Source → Mark
mark_from sources.Null = marks.WasNull
mark_from sources.Lost = marks.Changed
mark_from (sources.Known b) = marks.Changed

-- p itself
abbrev pub assigned_from : ℕ → Source → Option ℤ → Bool → Held → Held
assigned_from p from moved not_null h = record { declared = h.declared; bounds = bounds_from p moved from; known = not_null; mark = mark_from from }

-- ---- null-terminated pointers

-- the bounds with another upper end, where there is one
abbrev pub up_to : Bounds → Option Term → Option Bounds
up_to b None = None
up_to b (Some hi) = Some (record b { hi = hi })

-- one element further than before, where the constant isn't too large
abbrev pub one_further : Bounds → Option Bounds
one_further b = up_to b (within_limit b.hi.var (b.hi.plus +ℤ pos 1))

-- the pointer with these bounds in force, where there are any; else as before
abbrev pub with_bounds : Option Bounds → Held → Held
with_bounds None h = h
with_bounds (Some b) h = record h { bounds = Some b }

-- bounds that count from the pointer itself
abbrev pub is_own : Option Bounds → Bool
is_own None = false
is_own (Some b) = is_none b.base

-- ---- where ways meet, and where a scope ends

-- the terms, and the bounds, are the same
abbrev pub same_term : Term → Term → Bool
same_term a b = is_same a.var b.var && int_eq a.plus b.plus

abbrev pub same_bounds : Option Bounds → Option Bounds → Bool
same_bounds None None = true
same_bounds None (Some b) = false
same_bounds (Some a) None = false
same_bounds (Some a) (Some b) = is_same a.base b.base && (same_term a.lo b.lo && same_term a.hi b.hi)

-- equal bounds are kept, others become these; it isn't null where it isn't on both ways
abbrev pub joined_over : Option Bounds → Held → Held → Held
joined_over other h k = record h { bounds = cond (same_bounds h.bounds k.bounds) h.bounds other; known = h.known && k.known }

-- others become the declared ones
abbrev pub joined_with : Held → Held → Held
joined_with h k = joined_over h.declared h k

-- the bounds speak of the variable
abbrev pub speaks_of : ℕ → Bounds → Bool
speaks_of x b = is_var x b.base || is_named x b

-- another pointer after x left its scope
abbrev pub after_leaving : ℕ → Held → Held
after_leaving x h = where_bounds h.bounds (speaks_of x) (λ b. with_declared h) h

-- after a settling: what was assigned, moved or lost has its declared bounds
abbrev pub settled_pointer : Held → Held
settled_pointer h = record h { bounds = cond (is_settled h.mark) h.bounds h.declared; mark = marks.Settled }
