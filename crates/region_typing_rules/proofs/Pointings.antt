-- In a bundle too, the bounds in force of a local are those of a pointer that counts elements, are limited, and name locals.
use Rattle.std.proofs.Common.{◌≡◌, ℕ, ℤ, pos, ◌-ℤ◌, Bool, true, false, cond, List, map, Option, Some, None, is_none, refl, ap, subst}
use Rattle.std.specs.Prelude.{neg_ℤ, option_map, slice_get, slice_set}
use Rattle.std.proofs.lemmas.Option.{same_Some}
use Rattle.bounds_exprs.specs.declared.term.Bounds.{Bounds}
use Rattle.bounds_exprs.specs.declared.term.Term.{Term}
use Rattle.bounds_exprs.specs.Changes.{is_named, lowered, moved_back}
use Rattle.bounds_exprs.specs.Normal.{is_same}
use Rattle.bounds_exprs.specs.Terms.{is_var}
use Rattle.subsumption.specs.ClosedTables.{ClosedTable, entails_terms}
use Rattle.pointer_modes.specs.declared.ctype.Kind.{Kind}
use Rattle.pointer_modes.specs.declared.ctype.Kind.TheVariants as kinds
use Rattle.pointer_modes.specs.Types.{CType, Int, Char, Struct, Pointer}
use Rattle.bounds_flow.specs.declared.held.Held.{Held}
use Rattle.bounds_flow.specs.declared.steps.Source.{Source}
use Rattle.bounds_flow.specs.declared.steps.Source.TheVariants as sources
use Rattle.bounds_flow.specs.Pointers.{after_base, after_number, after_shift, assigned_from, bounds_from, dropped, is_own, lost, moved_off, moved_to, where_bounds, with_declared}
use Rattle.bounds_flow.specs.Flows.{Knowledge, count_to, held_at, length_assigned, measured, measured_by, number_assigned, pointer_assigned, variable}
use Rattle.bounds_flow_meaning.proofs.Steps.{each_map, each_put}
use Rattle.ckc_core.specs.declared.program.PointerBounds.{PointerBounds}
use Rattle.ckc_core.specs.Core as core
use Rattle.ckc_core.specs.Meaning.{bounds_of}
use Rattle.region_typing_rules.specs.Types.{Counts}
use Rattle.region_typing_rules.specs.Readings.{based_bounds, behind_local, is_not_null, is_null, own_bounds, term}
use Rattle.region_typing_rules.specs.Scopes.{Scope}
use Rattle.region_typing_rules.specs.Verdicts.{picked}
use Rattle.region_typing_rules.specs.Knowing.{are_below, assigned_by, count_assigned, given_bounds, given_from, known_source, measured_local, moved_from, source, value_assigned}
use Rattle.region_typing_rules.specs.Typed as typed
use Rattle.region_typing_rules.specs.Typed.{Frame, HasType, IsSimple}
use Rattle.region_typing_rules.proofs.InForce.{AreSo, IsPointing, IsSoOf}
use Rattle.region_typing_rules.proofs.NodeBounds.{AreRead, AreReadable, beside_readable, between_readable, bounds_read, limited_there, moved_readable}

-- with other ends
pointing_with : (types : List CType) (p : ℕ) (b d : Bounds) → IsPointing types p b → AreReadable types d → IsPointing types p d
pointing_with types p b d h r = record { mode = h.mode; kind = h.kind; counts = h.counts; element = h.element; own = h.own; limited = r.limited; named = r.named }

back_pointing : (types : List CType) (p x : ℕ) (c : ℤ) (b d : Bounds) → moved_back x c b ≡ Some d → IsPointing types p b → IsPointing types p d
back_pointing types p x c b d is h =
    pointing_with types p b d h
    (between_readable types b d (lowered x c b.lo) (lowered x c b.hi) h.named (limited_there b.lo.var (b.lo.plus -ℤ cond (is_var x b.lo.var) c (pos 0))) (limited_there b.hi.var (b.hi.plus -ℤ cond (is_var x b.hi.var) c (pos 0))) is)

off_pointing : (types : List CType) (p : ℕ) (moved : Option ℤ) (b d : Bounds) → moved_off moved b ≡ Some d → IsPointing types p b → IsPointing types p d
off_pointing types p None b d is h = absurd (cc)
off_pointing types p (Some c) b d is h = pointing_with types p b d h (moved_readable types (neg_ℤ c) b d h.named is)

-- ---- one pointer

module _ (types : List CType) (p : ℕ) where
  abbrev Points : Bounds → Type 0
  Points = IsPointing types p

  moved_so : (o : Option Bounds) (h : Held) → ((d : Bounds) → o ≡ Some d → Points d) → IsSoOf Points h → IsSoOf Points (moved_to o h)
  moved_so None h is so = record { bounds = λ b e. absurd (cc); declared = so.declared }
  moved_so (Some b) h is so = record { bounds = is; declared = so.declared }

  cond_so : (test : Bool) (h k : Held) → IsSoOf Points h → IsSoOf Points k → IsSoOf Points (cond test h k)
  cond_so true h k a b = a
  cond_so false h k a b = b

  where_so : (o : Option Bounds) (test : Bounds → Bool) (change : Bounds → Held) (h : Held) → h.bounds ≡ o → IsSoOf Points h → ((b : Bounds) → h.bounds ≡ Some b → IsSoOf Points (change b)) → IsSoOf Points (where_bounds o test change h)
  where_so None test change h e so each = so
  where_so (Some b) test change h e so each = cond_so (test b) (change b) h (each b e) so

  shift_so : (x : ℕ) (c : ℤ) (h : Held) → IsSoOf Points h → IsSoOf Points (after_shift x c h)
  shift_so x c h so =
      where_so h.bounds (is_named x) (λ b. moved_to (moved_back x c b) h) h refl so (λ b e. moved_so (moved_back x c b) h (λ d is. back_pointing types p x c b d is (so.bounds b e)) so)

  number_so : (x : ℕ) (assigned : List Bool) (h : Held) → IsSoOf Points h → IsSoOf Points (after_number x assigned h)
  number_so x assigned h so =
      where_so h.bounds (is_named x) (λ b. dropped assigned h) h refl so
      (λ b e. cond_so _ (with_declared h) (lost h) (record { bounds = so.declared; declared = so.declared }) (record { bounds = λ b e. absurd (cc); declared = so.declared }))

  base_so : (q : ℕ) (moved : Option ℤ) (h : Held) → IsSoOf Points h → IsSoOf Points (after_base q moved h)
  base_so q moved h so =
      where_so h.bounds (λ b. is_var q b.base) (λ b. moved_to (moved_off moved b) h) h refl so (λ b e. moved_so (moved_off moved b) h (λ d is. off_pointing types p moved b d is (so.bounds b e)) so)

  -- what is assigned
  from_so : (q : ℕ) (moved : Option ℤ) (from : Source) → ((b : Bounds) → from ≡ sources.Known b → Points b) → (d : Bounds) → bounds_from q moved from ≡ Some d → Points d
  from_so q moved sources.Null is d e = absurd (cc)
  from_so q moved sources.Lost is d e = absurd (cc)
  from_so q moved (sources.Known b) is d e = by (is_var q b.base) e
    where
      free : Points (record b { base = None })
      free = let h = is b refl in record { mode = h.mode; kind = h.kind; counts = h.counts; element = h.element; own = h.own; limited = record { low = h.limited.low; high = h.limited.high }; named = record { ints = record { lo = h.named.ints.lo; hi = h.named.ints.hi }; base = λ r e. absurd (cc) } }

      by : (test : Bool) → cond test (moved_off moved (record b { base = None })) (Some b) ≡ Some d → Points d
      by true e = off_pointing types p moved (record b { base = None }) d e free
      by false e = subst Points (same_Some b d e) (is b refl)

  assigned_so : (from : Source) (moved : Option ℤ) (known : Bool) (h : Held) → ((b : Bounds) → from ≡ sources.Known b → Points b) → IsSoOf Points h → IsSoOf Points (assigned_from p from moved known h)
  assigned_so from moved known h is so = record { bounds = from_so p moved from is; declared = so.declared }

  -- what ends at a count
  count_points : (x : ℕ) → slice_get types x ≡ Some Int → (b : Bounds) → Points b → Points (count_to x)
  count_points x int b h = record { mode = h.mode; kind = h.kind; counts = h.counts; element = h.element; own = h.own; limited = record { low = refl; high = refl }; named = record { ints = record { lo = tt; hi = int }; base = λ q e. absurd (cc) } }

  ended_points : (x : ℕ) → slice_get types x ≡ Some Int → (b : Bounds) → Points b → Points (record b { hi = variable x })
  ended_points x int b h = record { mode = h.mode; kind = h.kind; counts = h.counts; element = h.element; own = h.own; limited = record { low = h.limited.low; high = refl }; named = record { ints = record { lo = h.named.ints.lo; hi = int }; base = h.named.base } }

  measured_so : (x : ℕ) (t : ClosedTable) (o : Option Bounds) (h : Held) → slice_get types x ≡ Some Int → h.bounds ≡ o → Points (count_to x) → IsSoOf Points h → IsSoOf Points (measured x t o h)
  measured_so x t None h int e count so = record { bounds = λ b is. subst Points (same_Some (count_to x) b is) count; declared = so.declared }
  measured_so x t (Some b) h int e count so =
      cond_so (entails_terms b.hi (variable x) t) (record h { bounds = Some (record b { hi = variable x }) }) h
      (record { bounds = λ d is. subst Points (same_Some (record b { hi = variable x }) d is) (ended_points x int b (so.bounds b e)); declared = so.declared }) so

-- ---- all of them

module _ (types : List CType) where
  abbrev Each : ℕ → Held → Type 0
  Each q h = IsSoOf (IsPointing types q) h

  number_all_so : (x : ℕ) (to : Option Term) (f : Knowledge) → AreSo (IsPointing types) f → AreSo (IsPointing types) (number_assigned x to f)
  number_all_so x None f so p = each_map Each (after_number x (slice_set f.assigned x true)) refl f.held (λ q. number_so types q x (slice_set f.assigned x true) (held_at f.held q) (so q)) p
  number_all_so x (Some e) f so p = by (is_var x e.var)
    where
      since : List Bool
      since = slice_set f.assigned x true

      by : (test : Bool) → Each p (held_at (cond test (map (after_shift x e.plus) f.held) (map (after_number x since) f.held)) p)
      by true = each_map Each (after_shift x e.plus) refl f.held (λ q. shift_so types q x e.plus (held_at f.held q) (so q)) p
      by false = each_map Each (after_number x since) refl f.held (λ q. number_so types q x since (held_at f.held q) (so q)) p

  pointer_all_so : (p : ℕ) (from : Source) (moved : Option ℤ) (known : Bool) (f : Knowledge) → ((b : Bounds) → from ≡ sources.Known b → IsPointing types p b) → AreSo (IsPointing types) f → AreSo (IsPointing types) (pointer_assigned p from moved known f)
  pointer_all_so p from moved known f is so =
      each_put Each _ p (assigned_from p from moved known (held_at f.held p)) (assigned_so types p from moved known (held_at f.held p) is (so p))
      (each_map Each (after_base p moved) refl f.held (λ q. base_so types q p moved (held_at f.held q) (so q)))

  -- a count, where the pointer that is counted has bounds that count from itself
  length_all_so : (x p : ℕ) (f : Knowledge) → slice_get types x ≡ Some Int → AreSo (IsPointing types) f → AreSo (IsPointing types) (length_assigned x p f)
  length_all_so x p f int so q = by (held_at f.held p).bounds refl
    where
      g : Knowledge
      g = number_assigned x None f

      before : AreSo (IsPointing types) (number_assigned x None f)
      before = number_all_so x None f so

      by : (o : Option Bounds) → (held_at f.held p).bounds ≡ o → Each q (held_at (cond (is_own o) (measured_by x p g) g).held q)
      by None e = before q
      by (Some b) e = owned (is_none b.base)
        where
          owned : (test : Bool) → Each q (held_at (cond test (measured_by x p g) g).held q)
          owned true =
              each_put Each g.held p (measured x (measured_by x p g).facts (held_at g.held p).bounds (held_at g.held p))
              (measured_so types p x (measured_by x p g).facts (held_at g.held p).bounds (held_at g.held p) int refl (count_points types p x int b ((so p).bounds b e)) (before p)) before q
          owned false = before q

-- ---- values

-- the bounds that an assignment takes from an expression
abbrev IsReadableIf : List CType → Option Bounds → Type 0
IsReadableIf types o = (b : Bounds) → o ≡ Some b → AreReadable types b

picked_readable : (types : List CType) (test : Bool) (a o : Option Bounds) → IsReadableIf types a → IsReadableIf types o → IsReadableIf types (picked test a o)
picked_readable types true a o h k = h
picked_readable types false a o h k = k

from_readable : (types : List CType) (base : Option ℕ) (based own : Option Bounds) → IsReadableIf types based → IsReadableIf types own → IsReadableIf types (given_from base based own)
from_readable types base None own h k = k
from_readable types base (Some b) own h k = picked_readable types (is_same base b.base) (Some b) own h k

given_readable : (types : List CType) (declared : Option Bounds) (e : core.Expression) → IsReadableIf types (based_bounds e) → IsReadableIf types (own_bounds e) → IsReadableIf types (given_bounds declared e)
given_readable types None e h k = k
given_readable types (Some d) e h k = from_readable types d.base (based_bounds e) (own_bounds e) h k

-- where they are known, they are those, and the pointer counts elements
record IsKnownFrom (kind : Kind) (given : Option Bounds) (b : Bounds) : Type 0 where
  counts : Counts kind
  is : given ≡ Some b

tested_from : (vars : ℕ) (d b : Bounds) (test : Bool) → picked test (sources.Known d) sources.Lost ≡ sources.Known b → d ≡ b
tested_from vars d b true h = cc
tested_from vars d b false h = absurd (cc)

known_from : (vars : ℕ) (o : Option Bounds) (b : Bounds) (null : Bool) → picked null sources.Null (known_source vars o) ≡ sources.Known b → o ≡ Some b
known_from vars o b true h = absurd (cc)
known_from vars None b false h = absurd (cc)
known_from vars (Some d) b false h = ap Some (tested_from vars d b (are_below vars d) h)

none_from : (b : Bounds) (null : Bool) → picked null sources.Null sources.Lost ≡ sources.Known b → ⊥
none_from b true h = cc
none_from b false h = cc

source_from : (vars : ℕ) (kind : Kind) (declared : Option Bounds) (e : core.Expression) (b : Bounds) → source vars kind declared e ≡ sources.Known b → IsKnownFrom kind (given_bounds declared e) b
source_from vars kinds.One declared e b h = absurd (none_from b (is_null e) h)
source_from vars kinds.Array declared e b h = record { counts = tt; is = known_from vars (given_bounds declared e) b (is_null e) h }
source_from vars kinds.Nt declared e b h = record { counts = tt; is = known_from vars (given_bounds declared e) b (is_null e) h }

value_pointing : (types : List CType) (f : Knowledge) (x : ℕ) (e : core.Expression) (o : Option CType) → slice_get types x ≡ o → IsReadableIf types (based_bounds e) → IsReadableIf types (own_bounds e) → AreSo (IsPointing types) f → AreSo (IsPointing types) (value_assigned o types x e f)
value_pointing types f x e None is based own so = so
value_pointing types f x e (Some Int) is based own so = by (measured_local types e)
  where
    by : (o : Option ℕ) → AreSo (IsPointing types) (count_assigned x o (term types e) f)
    by None = number_all_so types x (term types e) f so
    by (Some p) = length_all_so types x p f is so
value_pointing types f x e (Some Char) is based own so = so
value_pointing types f x e (Some (Struct number)) is based own so = so
value_pointing types f x e (Some (Pointer mode kind target)) is based own so =
    pointer_all_so types x (source f.vars kind (held_at f.held x).declared e) (moved_from x (behind_local types e)) (is_not_null types f e) f
    (λ b from.
    let known = source_from f.vars kind (held_at f.held x).declared e b from in
    let r = given_readable types (held_at f.held x).declared e based own b known.is in
    record { mode = mode; kind = kind; counts = known.counts; element = target; own = is; limited = r.limited; named = r.named }) so

own_readable : (types : List CType) (e : core.Expression) → AreRead types (bounds_of e) → IsReadableIf types (own_bounds e)
own_readable types e read b is = by (bounds_of e) refl
  where
    by : (o : Option PointerBounds) → bounds_of e ≡ o → AreReadable types b
    by None none = absurd (let found : None ≡ Some b = subst (λ o. option_map (λ (p : PointerBounds). p.bounds) o ≡ Some b) none is in cc)
    by (Some p) some = subst (AreReadable types) (same_Some p.bounds b (subst (λ o. option_map (λ (p : PointerBounds). p.bounds) o ≡ Some b) some is)) (subst (AreRead types) some read)

-- what a statement assigns
pub simple_pointing : (g : Frame) (locals : List CType) (here : Scope) {x : core.Statement} → IsSimple g locals here x → AreSo (IsPointing here.locals) here.flow → AreSo (IsPointing here.locals) (assigned_by here.locals x here.flow)
simple_pointing g locals here typed.nothing so = so
simple_pointing g locals here (typed.set_local {k = k} {e = e} found h) so =
    value_pointing here.locals here.flow k e (slice_get here.locals k) refl (λ b is. beside_readable e b h is) (own_readable here.locals e (bounds_read e h)) so
simple_pointing g locals here (typed.store scalar place h) so = so
simple_pointing g locals here (typed.store_bounded counts object h asked) so = so
simple_pointing g locals here (typed.update_local {k = k} {operator = operator} {e = e} {site = site} found number char h) so =
    value_pointing here.locals here.flow k (core.Arithmetic operator (core.Local k None) e site) (slice_get here.locals k) refl (λ b is. absurd (cc)) (λ b is. absurd (cc)) so
simple_pointing g locals here (typed.update number place h) so = so
simple_pointing g locals here (typed.evaluate h) so = so
simple_pointing g locals here (typed.call_alone known h asked) so = so
simple_pointing g locals here (typed.print h) so = so
simple_pointing g locals here (typed.put_byte h) so = so
