-- Whatever becomes of a pointer, its bounds name `int` variables and a base of its size.
use Rattle.std.proofs.Common.{ℕ, ◌≡◌, ℤ, neg_ℤ, ◌+ℤ◌, Bool, true, false, cond, Option, None, Some, List}
use Rattle.std.specs.Prelude.{slice_get}
use Rattle.bounds_exprs.specs.declared.term.Term.{Term}
use Rattle.bounds_exprs.specs.declared.term.Bounds.{Bounds}
use Rattle.bounds_exprs.specs.Terms.{is_var, within_limit}
use Rattle.bounds_exprs.specs.Changes.{between, is_named, lowered, moved_back}
use Rattle.pointer_modes.specs.Types.{CType, Structure}
use Rattle.bounds_flow.specs.declared.held.Held.{Held}
use Rattle.bounds_flow.specs.declared.changes.Change.{Change}
use Rattle.bounds_flow.specs.declared.changes.Change.TheVariants.{Shift, Number, Base, Leave, Head, Settle}
use Rattle.bounds_flow.specs.declared.steps.Source.{Source}
use Rattle.bounds_flow.specs.declared.steps.Source.TheVariants as sources
use Rattle.bounds_flow.specs.Pointers.{assigned_from, bounds_from, dropped, is_settled, joined_with, lost, moved_off, moved_to, no_pointer, same_bounds, speaks_of, where_bounds, with_declared}
use Rattle.bounds_flow.specs.Changes.{changed}
use Rattle.bounds_flow_meaning.specs.Holding.{HasSize, IsFormed, target_size}

module _ (structs : List Structure) (types : List CType) (size : ℕ) where
  abbrev pub Has : Option Bounds → Type 0
  Has o = HasSize structs types size o

  between_size : (base : Option ℕ) (lo hi : Option Term) → ((q : ℕ) (t : CType) → base ≡ Some q → slice_get types q ≡ Some t → target_size structs t ≡ size) → Has (between base lo hi)
  between_size base None hi h = tt
  between_size base (Some lo) None h = tt
  between_size base (Some lo) (Some hi) h = h

  off_size : (moved : Option ℤ) (b : Bounds) → Has (Some b) → Has (moved_off moved b)
  off_size None b h = tt
  off_size (Some c) b h = between_size b.base (within_limit b.lo.var (b.lo.plus +ℤ neg_ℤ c)) (within_limit b.hi.var (b.hi.plus +ℤ neg_ℤ c)) h

  -- a base is none of its own
  own_size : (moved : Option ℤ) (b : Bounds) → Has (moved_off moved (record b { base = None }))
  own_size None b = tt
  own_size (Some c) b = between_size None (within_limit b.lo.var (b.lo.plus +ℤ neg_ℤ c)) (within_limit b.hi.var (b.hi.plus +ℤ neg_ℤ c)) (λ q t e. absurd (cc))

  either_size : (b : Bool) (o p : Option Bounds) → Has o → Has p → Has (cond b o p)
  either_size true o p h k = h
  either_size false o p h k = k

  abbrev Formed : Held → Type 0
  Formed h = IsFormed structs types size h

  moved_formed : (o : Option Bounds) (h : Held) → Formed h → Has o → Formed (moved_to o h)
  moved_formed None h is e = record { ints = is.ints; declared = is.declared; bounds = tt }
  moved_formed (Some b) h is e = record { ints = is.ints; declared = is.declared; bounds = e }

  declared_formed : (h : Held) → Formed h → Formed (with_declared h)
  declared_formed h is = record { ints = is.ints; declared = is.declared; bounds = is.declared }

  either_formed : (b : Bool) (h k : Held) → Formed h → Formed k → Formed (cond b h k)
  either_formed true h k i j = i
  either_formed false h k i j = j

  where_formed : (o : Option Bounds) (test : Bounds → Bool) (change : Bounds → Held) (h : Held) → Has o → Formed h → ((b : Bounds) → Has (Some b) → Formed (change b))
      → Formed (where_bounds o test change h)
  where_formed None test change h e is each = is
  where_formed (Some b) test change h e is each = either_formed (test b) (change b) h (each b e) is

  pub changed_formed : (assigned : List Bool) (change : Change) (h : Held) → Formed h → Formed (changed assigned change h)
  changed_formed assigned (Shift x c) h is = where_formed h.bounds (is_named x) (λ b. moved_to (moved_back x c b) h) h is.bounds is
      (λ b e. moved_formed (moved_back x c b) h is (between_size b.base (lowered x c b.lo) (lowered x c b.hi) e))
  changed_formed assigned (Number x) h is = where_formed h.bounds (is_named x) (λ b. dropped assigned h) h is.bounds is
      (λ b e. either_formed _ (with_declared h) (lost h) (declared_formed h is) (moved_formed None h is tt))
  changed_formed assigned (Base p moved) h is = where_formed h.bounds (λ b. is_var p b.base) (λ b. moved_to (moved_off moved b) h) h is.bounds is
      (λ b e. moved_formed (moved_off moved b) h is (off_size moved b e))
  changed_formed assigned (Leave x) h is = where_formed h.bounds (speaks_of x) (λ b. with_declared h) h is.bounds is (λ b e. declared_formed h is)
  changed_formed assigned Head h is = declared_formed h is
  changed_formed assigned Settle h is = record { ints = is.ints; declared = is.declared; bounds = either_size (is_settled h.mark) h.bounds h.declared is.bounds is.declared }

  -- the bounds of what is assigned
  abbrev pub SizedSource : Source → Type 0
  SizedSource sources.Null = Unit {0}
  SizedSource sources.Lost = Unit {0}
  SizedSource (sources.Known b) = Has (Some b)

  from_size : (p : ℕ) (moved : Option ℤ) (from : Source) → SizedSource from → Has (bounds_from p moved from)
  from_size p moved sources.Null e = tt
  from_size p moved sources.Lost e = tt
  from_size p moved (sources.Known b) e = either_size (is_var p b.base) (moved_off moved (record b { base = None })) (Some b) (own_size moved b) e

  pub assigned_formed : (p : ℕ) (from : Source) (moved : Option ℤ) (not_null : Bool) (h : Held) → Formed h → SizedSource from → Formed (assigned_from p from moved not_null h)
  assigned_formed p from moved not_null h is e = record { ints = is.ints; declared = is.declared; bounds = from_size p moved from e }

  pub joined_formed : (h k : Held) → Formed h → Formed (joined_with h k)
  joined_formed h k is = record { ints = is.ints; declared = is.declared; bounds = either_size (same_bounds h.bounds k.bounds) h.bounds h.declared is.bounds is.declared }

  pub none_formed : Formed no_pointer
  none_formed = record { ints = tt; declared = tt; bounds = tt }
