-- Whatever becomes of a pointer, its bounds speak of the same variables.
use Rattle.std.proofs.Common.{ℕ, ℤ, Bool, true, false, cond, Option, None, Some, List, neg_ℤ, pos, ◌+ℤ◌, ◌-ℤ◌}
use Rattle.bounds_exprs.specs.declared.term.Term.{Term}
use Rattle.bounds_exprs.specs.declared.term.Bounds.{Bounds}
use Rattle.bounds_exprs.specs.Terms.{is_within, term_limit, within_limit, is_var}
use Rattle.bounds_exprs.specs.Changes.{between, is_named, lowered, moved_back}
use Rattle.subsumption.specs.Facts.{IsBelow}
use Rattle.bounds_flow.specs.declared.held.Held.{Held}
use Rattle.bounds_flow.specs.declared.changes.Change.{Change}
use Rattle.bounds_flow.specs.declared.changes.Change.TheVariants.{Shift, Number, Base, Leave, Head, Settle}
use Rattle.bounds_flow.specs.declared.steps.Source.{Source}
use Rattle.bounds_flow.specs.declared.steps.Source.TheVariants as sources
use Rattle.bounds_flow.specs.Pointers.{assigned_from, bounds_from, dropped, fresh, is_settled, joined_over, lost, moved_off, moved_to, same_bounds, speaks_of, where_bounds, with_declared}
use Rattle.bounds_flow.specs.Conditions.{AreBoundsBelow, AreEndsBelow, IsHeldBelow, IsSourceBelow, IsTermBelow}
use Rattle.bounds_flow.specs.Changes.{changed}

limit_below : (vars : ℕ) (var : Option ℕ) (z : ℤ) → IsBelow vars var → IsTermBelow vars (within_limit var z)
limit_below vars var z h =
    let t : Term = record { var = var; plus = z } in
    elim (is_within term_limit z) as (λ b. IsTermBelow vars (cond b (Some t) None)) [ true ↦ h | false ↦ tt ]

between_below : (vars : ℕ) (base : Option ℕ) (lo hi : Option Term) → IsTermBelow vars lo → IsTermBelow vars hi → AreBoundsBelow vars (between base lo hi)
between_below vars base None hi l h = tt
between_below vars base (Some lo) None l h = tt
between_below vars base (Some lo) (Some hi) l h = record { lo = l; hi = h }

lowered_below : (vars x : ℕ) (c : ℤ) (t : Term) → IsBelow vars t.var → IsTermBelow vars (lowered x c t)
lowered_below vars x c t h = limit_below vars t.var (t.plus -ℤ cond (is_var x t.var) c (pos 0)) h

off_below : (vars : ℕ) (moved : Option ℤ) (b : Bounds) → AreEndsBelow vars b → AreBoundsBelow vars (moved_off moved b)
off_below vars None b e = tt
off_below vars (Some c) b e =
    between_below vars b.base _ _ (limit_below vars b.lo.var (b.lo.plus +ℤ neg_ℤ c) e.lo) (limit_below vars b.hi.var (b.hi.plus +ℤ neg_ℤ c) e.hi)

moved_below : (vars : ℕ) (o : Option Bounds) (h : Held) → IsHeldBelow vars h → AreBoundsBelow vars o → IsHeldBelow vars (moved_to o h)
moved_below vars None h is e = record { declared = is.declared; bounds = tt }
moved_below vars (Some b) h is e = record { declared = is.declared; bounds = e }

-- one of two is below where both are
either_below : (vars : ℕ) (b : Bool) (h k : Held) → IsHeldBelow vars h → IsHeldBelow vars k → IsHeldBelow vars (cond b h k)
either_below vars true h k i j = i
either_below vars false h k i j = j

either_bounds : (vars : ℕ) (b : Bool) (o p : Option Bounds) → AreBoundsBelow vars o → AreBoundsBelow vars p → AreBoundsBelow vars (cond b o p)
either_bounds vars true o p i j = i
either_bounds vars false o p i j = j

where_below : (vars : ℕ) (o : Option Bounds) (test : Bounds → Bool) (change : Bounds → Held) (h : Held) → AreBoundsBelow vars o → IsHeldBelow vars h
    → ((b : Bounds) → AreEndsBelow vars b → IsHeldBelow vars (change b)) → IsHeldBelow vars (where_bounds o test change h)
where_below vars None test change h e is each = is
where_below vars (Some b) test change h e is each = either_below vars (test b) (change b) h (each b e) is

declared_below : (vars : ℕ) (h : Held) → IsHeldBelow vars h → IsHeldBelow vars (with_declared h)
declared_below vars h is = record { declared = is.declared; bounds = is.declared }

dropped_below : (vars : ℕ) (assigned : List Bool) (h : Held) → IsHeldBelow vars h → IsHeldBelow vars (dropped assigned h)
dropped_below vars assigned h is = either_below vars _ (with_declared h) (lost h) (declared_below vars h is) (moved_below vars None h is tt)

pub changed_below : (vars : ℕ) (assigned : List Bool) (change : Change) (h : Held) → IsHeldBelow vars h → IsHeldBelow vars (changed assigned change h)
changed_below vars assigned (Shift x c) h is = where_below vars h.bounds (is_named x) _ h is.bounds is
    (λ b e. moved_below vars (moved_back x c b) h is (between_below vars b.base _ _ (lowered_below vars x c b.lo e.lo) (lowered_below vars x c b.hi e.hi)))
changed_below vars assigned (Number x) h is = where_below vars h.bounds (is_named x) _ h is.bounds is (λ b e. dropped_below vars assigned h is)
changed_below vars assigned (Base p moved) h is = where_below vars h.bounds (λ b. is_var p b.base) _ h is.bounds is
    (λ b e. moved_below vars (moved_off moved b) h is (off_below vars moved b e))
changed_below vars assigned (Leave x) h is = where_below vars h.bounds (speaks_of x) _ h is.bounds is (λ b e. declared_below vars h is)
changed_below vars assigned Head h is = declared_below vars h is
changed_below vars assigned Settle h is = record { declared = is.declared; bounds = either_bounds vars (is_settled h.mark) h.bounds h.declared is.bounds is.declared }

pub fresh_below : (vars : ℕ) (declared : Option Bounds) → AreBoundsBelow vars declared → IsHeldBelow vars (fresh declared)
fresh_below vars declared e = record { declared = e; bounds = e }

from_below : (vars p : ℕ) (moved : Option ℤ) (from : Source) → IsSourceBelow vars from → AreBoundsBelow vars (bounds_from p moved from)
from_below vars p moved sources.Null e = tt
from_below vars p moved sources.Lost e = tt
from_below vars p moved (sources.Known b) e = either_bounds vars (is_var p b.base) _ (Some b) (off_below vars moved _ (record { lo = e.lo; hi = e.hi })) e

pub assigned_below : (vars p : ℕ) (from : Source) (moved : Option ℤ) (not_null : Bool) (h : Held) → IsHeldBelow vars h → IsSourceBelow vars from
    → IsHeldBelow vars (assigned_from p from moved not_null h)
assigned_below vars p from moved not_null h is e = record { declared = is.declared; bounds = from_below vars p moved from e }

pub joined_below : (vars : ℕ) (other : Option Bounds) (h k : Held) → AreBoundsBelow vars other → IsHeldBelow vars h → IsHeldBelow vars (joined_over other h k)
joined_below vars other h k below is = record { declared = is.declared; bounds = either_bounds vars (same_bounds h.bounds k.bounds) h.bounds other is.bounds below }
