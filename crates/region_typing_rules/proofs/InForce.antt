-- The bounds in force behind a condition: those before it, wider ones, or, where two ways met between statements, the declared ones.
use Rattle.std.proofs.Common.{◌≡◌, ℕ, zero, suc, Bool, true, false, cond, not, List, [], ◌∷◌, Option, None, Some, is_none, pos, refl, sym, subst}
use Rattle.std.specs.Prelude.{◌&&◌, slice_get}
use Rattle.bounds_exprs.specs.declared.term.Term.{Term}
use Rattle.bounds_exprs.specs.declared.term.Bounds.{Bounds}
use Rattle.pointer_modes.specs.declared.ctype.Mode.{Mode}
use Rattle.pointer_modes.specs.declared.ctype.Kind.{Kind}
use Rattle.pointer_modes.specs.Types.{CType, Pointer}
use Rattle.bounds_flow.specs.declared.held.Held.{Held}
use Rattle.bounds_flow.specs.Pointers.{joined_over, known_not_null, one_further, same_bounds, with_bounds}
use Rattle.bounds_flow.specs.Flows.{Knowledge, are_equal, change_at, held_at, joined_held, met, rejoined, rejoined_held, wider}
use Rattle.subsumption.specs.ClosedTables.{ClosedTable, joined}
use Rattle.bounds_flow_meaning.proofs.Steps.{each_put}
use Rattle.act_words.specs.declared.operator.Comparison.{Comparison}
use Rattle.ckc_core.specs.declared.program.Direction.TheVariants as directions
use Rattle.ckc_core.specs.Core as core
use Rattle.region_typing_rules.specs.Verdicts.{picked}
use Rattle.region_typing_rules.specs.Types.{Counts}
use Rattle.region_typing_rules.specs.KnownIsSo.{AreLimited}
use Rattle.region_typing_rules.specs.Typed.{AreNamed}
use Rattle.region_typing_rules.specs.Readings.{compared, element_told, elements_told, is_ended_local, is_null, null_told, place_told, pointer_local, term, told}

-- something is so of the bounds of a pointer, of those in force and of those that are declared
pub record IsSoOf (Q : Bounds → Type 0) (h : Held) : Type 0 where
  pub bounds : (b : Bounds) → h.bounds ≡ Some b → Q b
  pub declared : (b : Bounds) → h.declared ≡ Some b → Q b

-- and of those of each pointer of a flow
abbrev pub AreSo : (ℕ → Bounds → Type 0) → Knowledge → Type 0
AreSo Q f = (p : ℕ) → IsSoOf (Q p) (held_at f.held p)

-- it stays so of bounds that reach one element further
abbrev pub StaysSo : (Bounds → Type 0) → Type 0
StaysSo Q = (b d : Bounds) → one_further b ≡ Some d → Q b → Q d

-- a local of which bounds are in force is a pointer that counts elements. They are limited, and name locals
pub record IsPointing (types : List CType) (k : ℕ) (b : Bounds) : Type 0 where
  pub mode : Mode
  pub kind : Kind
  pub counts : Counts kind
  pub element : CType
  pub own : slice_get types k ≡ Some (Pointer mode kind element)
  pub limited : AreLimited b
  pub named : AreNamed types b

-- ---- one pointer

wider_so : (Q : Bounds → Type 0) → StaysSo Q → (index : Term) (t : ClosedTable) (h : Held) → IsSoOf Q h → IsSoOf Q (with_bounds (wider index t h.bounds) h)
wider_so Q stays index t h so = by h.bounds refl
  where
    reached : (b : Bounds) → h.bounds ≡ Some b → (o : Option Bounds) → one_further b ≡ o → IsSoOf Q (with_bounds o h)
    reached b e None is = so
    reached b e (Some d) is = record { bounds = λ c q. (let same : d ≡ c = cc in subst Q same (stays b d is (so.bounds b e))); declared = so.declared }

    tested : (b : Bounds) → h.bounds ≡ Some b → (test : Bool) → IsSoOf Q (with_bounds (cond test (one_further b) None) h)
    tested b e true = reached b e (one_further b) refl
    tested b e false = so

    by : (o : Option Bounds) → h.bounds ≡ o → IsSoOf Q (with_bounds (wider index t h.bounds) h)
    by None e = subst (λ o. IsSoOf Q (with_bounds (wider index t o) h)) (sym e) so
    by (Some b) e = subst (λ o. IsSoOf Q (with_bounds (wider index t o) h)) (sym e) (tested b e (is_none b.base && are_equal index b.hi t))

joined_so : (Q : Bounds → Type 0) (o : Option Bounds) (h k : Held) → ((b : Bounds) → o ≡ Some b → Q b) → IsSoOf Q h → IsSoOf Q (joined_over o h k)
joined_so Q o h k other so = by (same_bounds h.bounds k.bounds)
  where
    by : (test : Bool) → IsSoOf Q (record h { bounds = cond test h.bounds o; known = h.known && k.known })
    by true = record { bounds = so.bounds; declared = so.declared }
    by false = record { bounds = other; declared = so.declared }

all_joined : (Q : ℕ → Bounds → Type 0) (held others : List Held) → ((p : ℕ) → IsSoOf (Q p) (held_at held p)) → (p : ℕ) → IsSoOf (Q p) (held_at (joined_held held others) p)
all_joined Q [] others so p = so p
all_joined Q (h ∷ held) [] so p = so p
all_joined Q (h ∷ held) (k ∷ others) so zero = joined_so (Q 0) h.declared h k (so 0).declared (so 0)
all_joined Q (h ∷ held) (k ∷ others) so (suc p) = all_joined (λ p. Q (suc p)) held others (λ p. so (suc p)) p

all_rejoined : (Q : ℕ → Bounds → Type 0) (before held others : List Held) → ((p : ℕ) → IsSoOf (Q p) (held_at before p)) → ((p : ℕ) → IsSoOf (Q p) (held_at held p)) → (p : ℕ) → IsSoOf (Q p) (held_at (rejoined_held before held others) p)
all_rejoined Q [] held others was so p = was p
all_rejoined Q (b ∷ before) [] others was so p = so p
all_rejoined Q (b ∷ before) (h ∷ held) [] was so p = so p
all_rejoined Q (b ∷ before) (h ∷ held) (k ∷ others) was so zero = joined_so (Q 0) b.bounds h k (was 0).bounds (so 0)
all_rejoined Q (b ∷ before) (h ∷ held) (k ∷ others) was so (suc p) = all_rejoined (λ p. Q (suc p)) before held others (λ p. was (suc p)) (λ p. so (suc p)) p

rejoined_so : (Q : ℕ → Bounds → Type 0) (before f g : Knowledge) → AreSo Q before → AreSo Q f → AreSo Q (rejoined before f g)
rejoined_so Q before f g was so = by before.bundled
  where
    by : (inside : Bool) → AreSo Q (cond inside (record f { facts = joined f.vars f.facts g.facts; held = rejoined_held before.held f.held g.held }) (met f g))
    by true = all_rejoined Q before.held f.held g.held was so
    by false = all_joined Q f.held g.held so

-- ---- conditions

module _ (Q : ℕ → Bounds → Type 0) (stays : (p : ℕ) → StaysSo (Q p)) (types : List CType) where
  changed_so : (x : ℕ) (change : Held → Held) (f : Knowledge) → (IsSoOf (Q x) (held_at f.held x) → IsSoOf (Q x) (change (held_at f.held x))) → AreSo Q f → (p : ℕ) → IsSoOf (Q p) (held_at (change_at x change f.held) p)
  changed_so x change f keeps so = each_put (λ p h. IsSoOf (Q p) h) f.held x (change (held_at f.held x)) (keeps (so x)) so

  null_so : (o : Option ℕ) (truth : Bool) (f : Knowledge) → AreSo Q f → AreSo Q (null_told o truth f)
  null_so None truth f so = so
  null_so (Some p) true f so = changed_so p known_not_null f (λ h. record { bounds = h.bounds; declared = h.declared }) so
  null_so (Some p) false f so = so

  picked_so : (test : Bool) (f g : Knowledge) → AreSo Q f → AreSo Q g → AreSo Q (picked test f g)
  picked_so true f g h k = h
  picked_so false f g h k = k

  compared_so : (comparison : Comparison) (a b : Option Term) (truth : Bool) (f : Knowledge) → AreSo Q f → AreSo Q (compared comparison a b truth f)
  compared_so comparison None b truth f so = so
  compared_so comparison (Some a) None truth f so = so
  compared_so comparison (Some a) (Some b) truth f so = so

  element_so : (test : Bool) (local : ℕ) (o : Option Term) (f : Knowledge) → AreSo Q f → AreSo Q (element_told test local o f)
  element_so false local o f so = so
  element_so true local None f so = so
  element_so true local (Some index) f so = changed_so local (with_bounds (wider index f.facts (held_at f.held local).bounds)) f (wider_so (Q local) (stays local) index f.facts (held_at f.held local)) so

  elements_so : (pointer number : core.Expression) (f : Knowledge) → AreSo Q f → AreSo Q (elements_told types pointer number f)
  elements_so (core.Local local bounds) number f so = element_so (is_ended_local (slice_get types local)) local (term types number) f so
  elements_so (core.Sum (core.Local local bounds) directions.Forward elements site own) (core.Number (pos zero)) f so = element_so (is_ended_local (slice_get types local)) local (term types elements) f so
  elements_so pointer number f so = so

  place_so : (place : core.Place) (f : Knowledge) → AreSo Q f → AreSo Q (place_told types place f)
  place_so (core.Through pointer (core.Element number true) offset site) f so = elements_so pointer number f so
  place_so place f so = so

  -- what is so of all bounds in force, and of all that are declared, is so of those behind a condition
  pub bounds_told : (e : core.Expression) (truth : Bool) (f : Knowledge) → AreSo Q f → AreSo Q (told types e truth f)
  bounds_told (core.AndAlso left right) true f so = bounds_told right true (told types left true f) (bounds_told left true f so)
  bounds_told (core.AndAlso left right) false f so = rejoined_so Q f (told types left false f) (told types right false (told types left true f)) so (bounds_told left false f so)
  bounds_told (core.OrElse left right) true f so = rejoined_so Q f (told types left true f) (told types right true (told types left false f)) so (bounds_told left true f so)
  bounds_told (core.OrElse left right) false f so = bounds_told right false (told types left false f) (bounds_told left false f so)
  bounds_told (core.Not operand) truth f so = bounds_told operand (not truth) f so
  bounds_told (core.Compare comparison left right) truth f so = compared_so comparison (term types left) (term types right) truth f so
  bounds_told (core.Same left right) truth f so =
      picked_so (is_null right) (null_told (pointer_local types left) (not truth) f) (picked (is_null left) (null_told (pointer_local types right) (not truth) f) f) (null_so (pointer_local types left) (not truth) f so)
      (picked_so (is_null left) (null_told (pointer_local types right) (not truth) f) f (null_so (pointer_local types right) (not truth) f so) so)
  bounds_told (core.Load type place bounds) true f so = place_so place f so
  bounds_told (core.Load type place bounds) false f so = so
  bounds_told (core.Local local bounds) truth f so = null_so (pointer_local types (core.Local local bounds)) truth f so
  bounds_told e truth f so = so
