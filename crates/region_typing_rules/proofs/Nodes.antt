-- What stands at the nodes of expressions: bounds that count elements, those of sums, and what they meet.
use Rattle.std.proofs.Common.{◌≡◌, ℕ, Bool, true, false, List, Option, Some, None, ℤ, ◌+ℤ◌, ◌<◌, refl, sym, ap, ◌∙◌, subst, arith, ◌⊎◌, inl, inr}
use Rattle.std.specs.Prelude.{◌==◌, not, ◌||◌, cond, is_some}
use Rattle.std.proofs.lemmas.Bool.{eqb-true}
use Rattle.ckc_tree.specs.declared.expr.BinaryOperator.TheVariants as binary
use Rattle.ckc_tree.specs.Expressions as e
use Rattle.ckc_tree.specs.Expressions.{Expression}
use Rattle.pointer_modes.specs.declared.ctype.Mode.{Mode}
use Rattle.pointer_modes.specs.declared.ctype.Mode.TheVariants as modes
use Rattle.pointer_modes.specs.declared.ctype.Kind.{Kind}
use Rattle.pointer_modes.specs.declared.ctype.Kind.TheVariants as kinds
use Rattle.pointer_modes.specs.Types.{CType, Int, Char, Struct, Pointer, Structure}
use Rattle.pointer_modes.specs.Layout.{size_of}
use Rattle.ckc_core.specs.declared.program.Site.{Site}
use Rattle.act_words.specs.declared.operator.ArithmeticOperator.TheVariants as arithmetics
use Rattle.act_words.specs.declared.operator.Operator.TheVariants as operators
use Rattle.ckc_core.specs.declared.program.Direction.{Direction}
use Rattle.ckc_core.specs.declared.program.PointerBounds.{PointerBounds}
use Rattle.ckc_core.specs.Core as core
use Rattle.ckc_core.specs.Meaning.{bounds_of}
use Rattle.bounds_exprs.specs.declared.term.Bounds.{Bounds}
use Rattle.bounds_exprs.specs.declared.term.Term.{Term}
use Rattle.bounds_exprs.specs.Terms.{is_within, term_limit, within_limit}
use Rattle.bounds_exprs.specs.Changes.{between, moved_by}
use Rattle.subsumption.specs.Facts.{IsBelow}
use Rattle.subsumption.specs.ClosedTables.{ClosedTable}
use Rattle.bounds_flow.specs.Conditions.{AreEndsBelow, AreBoundsBelow, IsTermBelow}
use Rattle.bounds_flow.specs.Settling.{Finding, Meets, WasLost, Falls, ends_find, bounds_find}
use Rattle.bounds_flow_meaning.specs.Holding.{at_node, is_ended}
use Rattle.region_typing_rules.specs.Verdicts.{Verdict, Passes, Stops, picked}
use Rattle.region_typing_rules.specs.Scopes.{Scope}
use Rattle.region_typing_rules.specs.Types.{is_number, is_row, Counts}
use Rattle.region_typing_rules.specs.Readings.{constant, against, sum_bounds, from_base, based_bounds}
use Rattle.region_typing_rules.specs.Operands.{bounds_by, bounds_at, noted_if, one_element, sum_node, number, have_one_base, beside, is_met, cell_bounds}
use Rattle.region_typing_rules.specs.NewMemory.{first_factor, second_factor, factor_beside, is_size, has_base}
use Rattle.region_typing_rules.specs.DeclaredBounds.{row_of}
use Rattle.region_typing_rules.specs.Typed as rules
use Rattle.region_typing_rules.specs.Typed.{HasBounds, AreSumBounds, CountsFrom, IsScalar, IsNodeOf}
use Rattle.region_typing_rules.proofs.Verdicts.{Promises}
use Rattle.region_typing_rules.proofs.Known.{IsKnown}
use Rattle.region_typing_rules.proofs.Elements.{based_has_base}
use Rattle.bounds_exprs.specs.declared.term.Term.{Term}

pub both_promised : {A : Type 0} (P Q : A → Type 0) (v : Verdict A) → Promises P v → Promises Q v → Promises (λ x. P x × Q x) v
both_promised P Q (Passes value) h k = (h, k)
both_promised P Q (Stops stop) h k = tt

pub first_not : (a b : Bool) → not (a || b) ≡ true → a ≡ false
first_not true b h = absurd (cc)
first_not false b h = refl

pub number_scalar : (t : CType) → is_number t ≡ true → IsScalar t
number_scalar Int h = refl
number_scalar Char h = refl
number_scalar (Struct n) h = absurd (cc)
number_scalar (Pointer m k t) h = absurd (cc)

-- ---- bounds at nodes

-- bounds at a node of a pointer of this kind count elements of the type, which have bytes, and their ends speak of variables below this number
pub record CountElements (structs : List Structure) (vars : ℕ) (kind : Kind) (t : CType) (p : PointerBounds) : Type 0 where
  pub node : IsNodeOf structs (Pointer modes.Checked kind t) p
  pub some : 0 < size_of structs t
  pub below : AreEndsBelow vars p.bounds

pub ended_alike : (m : Mode) (kind : Kind) (t : CType) → is_ended (Pointer modes.Checked kind t) ≡ is_ended (Pointer m kind t)
ended_alike m kinds.One t = refl
ended_alike m kinds.Array t = refl
ended_alike m kinds.Nt t = refl

-- whatever its mode
pub at_mode : {structs : List Structure} {kind : Kind} {t : CType} {p : PointerBounds} (m : Mode) → IsNodeOf structs (Pointer modes.Checked kind t) p → IsNodeOf structs (Pointer m kind t) p
at_mode {kind = kind} {t = t} m h = record { size = h.size; terminated = h.terminated ∙ ended_alike m kind t }

-- the bounds do, where there are any
abbrev pub AreCounted : List Structure → ℕ → Kind → CType → Option PointerBounds → Type 0
AreCounted structs vars kind t None = Unit {0}
AreCounted structs vars kind t (Some p) = CountElements structs vars kind t p

-- a pointer with bounds has such ones at its node, and so do the ends of those that it has from a base beside them
pub record IsRow (structs : List Structure) (vars : ℕ) (kind : Kind) (t : CType) (value : core.Expression) : Type 0 where
  pub own : AreCounted structs vars kind t (bounds_of value)
  pub based : (b : Bounds) → based_bounds value ≡ Some b → AreEndsBelow vars b

-- a pointer to one value has the bounds of its type at its node, and the ends of those that it has from a base speak of such variables
pub record IsOne (structs : List Structure) (vars : ℕ) (m : Mode) (t : CType) (value : core.Expression) : Type 0 where
  pub own : HasBounds structs (Pointer m kinds.One t) (bounds_of value)
  pub based : (b : Bounds) → based_bounds value ≡ Some b → AreEndsBelow vars b

-- what is at the node of a value of a type
abbrev pub HasNode : List Structure → ℕ → CType → core.Expression → Type 0
HasNode structs vars Int value = Unit {0}
HasNode structs vars Char value = Unit {0}
HasNode structs vars (Struct number) value = Unit {0}
HasNode structs vars (Pointer m kinds.One t) value = IsOne structs vars m t value
HasNode structs vars (Pointer m kinds.Array t) value = IsRow structs vars kinds.Array t value
HasNode structs vars (Pointer m kinds.Nt t) value = IsRow structs vars kinds.Nt t value

-- the node of a pointer that counts elements
pub counted_node : {structs : List Structure} {vars : ℕ} {t : CType} {value : core.Expression} (m : Mode) (kind : Kind) → Counts kind → IsRow structs vars kind t value → HasNode structs vars (Pointer m kind t) value
counted_node m kinds.One counts h = absurd counts
counted_node m kinds.Array counts h = h
counted_node m kinds.Nt counts h = h

pub no_row : (m : Mode) (p : PointerBounds) → bounds_by m kinds.Array p ≡ None
no_row modes.Checked p = refl
no_row modes.Tainted p = refl
no_row modes.Raw p = refl

pub no_ended : (m : Mode) (p : PointerBounds) → bounds_by m kinds.Nt p ≡ None
no_ended modes.Checked p = refl
no_ended modes.Tainted p = refl
no_ended modes.Raw p = refl

-- those of a pointer to one value
pub single_below : (structs : List Structure) (vars : ℕ) (m : Mode) (t : CType) (site : Site) (p : PointerBounds) → bounds_at structs (Pointer m kinds.One t) site ≡ Some p → AreEndsBelow vars p.bounds
single_below structs vars modes.Checked t site p e = let same : one_element ≡ p.bounds = cc in subst (AreEndsBelow vars) same (record { lo = tt; hi = tt })
single_below structs vars modes.Tainted t site p e = absurd (cc)
single_below structs vars modes.Raw t site p e = absurd (cc)

-- an expression has bounds from a base by those at its node alone
pub record TakesBounds (of : Option PointerBounds → core.Expression) : Type 0 where
  pub own : (o : Option PointerBounds) → bounds_of (of o) ≡ o
  pub none : based_bounds (of None) ≡ None
  pub based : (vars : ℕ) (p : PointerBounds) (b : Bounds) → AreEndsBelow vars p.bounds → based_bounds (of (Some p)) ≡ Some b → AreEndsBelow vars b

-- without bounds at its node an expression has none
bare_row : (structs : List Structure) (vars : ℕ) (kind : Kind) (t : CType) (of : Option PointerBounds → core.Expression) → TakesBounds of → IsRow structs vars kind t (of None)
bare_row structs vars kind t of is = record { own = subst (AreCounted structs vars kind t) (sym (is.own None)) tt; based = λ b e. let found = rw is.none at e in absurd (cc) }

-- the bounds that its type gives an expression
pub node_with : (structs : List Structure) (vars : ℕ) (t : CType) (site : Site) (of : Option PointerBounds → core.Expression) → TakesBounds of → HasNode structs vars t (of (bounds_at structs t site))
node_with structs vars Int site of is = tt
node_with structs vars Char site of is = tt
node_with structs vars (Struct number) site of is = tt
node_with structs vars (Pointer m kinds.One t) site of is = record {
  own = (site, is.own (bounds_at structs (Pointer m kinds.One t) site));
  based = λ b e. by b (bounds_at structs (Pointer m kinds.One t) site) refl e;
}
  where
    by : (b : Bounds) (o : Option PointerBounds) → bounds_at structs (Pointer m kinds.One t) site ≡ o → based_bounds (of o) ≡ Some b → AreEndsBelow vars b
    by b None at e = absurd (let q : None ≡ Some b = sym is.none ∙ e in cc)
    by b (Some p) at e = is.based vars p b (single_below structs vars m t site p at) e
node_with structs vars (Pointer m kinds.Array t) site of is = subst (λ o. IsRow structs vars kinds.Array t (of o)) (sym (no_row m _)) (bare_row structs vars kinds.Array t of is)
node_with structs vars (Pointer m kinds.Nt t) site of is = subst (λ o. IsRow structs vars kinds.Nt t (of o)) (sym (no_ended m _)) (bare_row structs vars kinds.Nt t of is)

pub number_sized : (structs : List Structure) (t : CType) → is_number t ≡ true → 0 < size_of structs t
number_sized structs Int h = omega arith
number_sized structs Char h = omega arith
number_sized structs (Struct n) h = absurd (cc)
number_sized structs (Pointer m k t) h = absurd (cc)

-- and those that it has in a cell
pub cell_node_with : (declared structs : List Structure) (vars : ℕ) (t : CType) (site : Site) (of : Option PointerBounds → core.Expression) → TakesBounds of → IsKnown declared t → HasNode structs vars t (of (cell_bounds structs t site))
cell_node_with declared structs vars Int site of is known = tt
cell_node_with declared structs vars Char site of is known = tt
cell_node_with declared structs vars (Struct number) site of is known = tt
cell_node_with declared structs vars (Pointer modes.Checked kinds.One t) site of is known = node_with structs vars (Pointer modes.Checked kinds.One t) site of is
cell_node_with declared structs vars (Pointer modes.Checked kinds.Array t) site of is known = node_with structs vars (Pointer modes.Checked kinds.Array t) site of is
cell_node_with declared structs vars (Pointer modes.Tainted kind t) site of is known = node_with structs vars (Pointer modes.Tainted kind t) site of is
cell_node_with declared structs vars (Pointer modes.Raw kind t) site of is known = node_with structs vars (Pointer modes.Raw kind t) site of is
cell_node_with declared structs vars (Pointer modes.Checked kinds.Nt t) site of is known =
    let p = at_node (row_of 0) (size_of structs t) true site in
    let below : AreEndsBelow vars p.bounds = record { lo = tt; hi = tt } in
    record {
      own = subst (AreCounted structs vars kinds.Nt t) (sym (is.own (Some p))) (record { node = record { size = refl; terminated = refl }; some = number_sized structs t known.0; below = below });
      based = λ b e. is.based vars p b below e;
    }

load_noted : (t : CType) (p : core.Place) (o : Option PointerBounds) → bounds_of (noted_if o (core.Load t p None)) ≡ o
load_noted t p None = refl
load_noted t p (Some b) = refl

local_noted : (k : ℕ) (o : Option PointerBounds) → bounds_of (noted_if o (core.Local k None)) ≡ o
local_noted k None = refl
local_noted k (Some b) = refl

-- ---- bounds of sums

within_below : (vars : ℕ) (var : Option ℕ) (z : ℤ) → IsBelow vars var → IsTermBelow vars (within_limit var z)
within_below vars var z low = by (is_within term_limit z)
  where
    by : (test : Bool) → IsTermBelow vars (cond test (Some (record { var = var; plus = z })) None)
    by true = low
    by false = tt

between_below : (vars : ℕ) (base : Option ℕ) (lo hi : Option Term) → IsTermBelow vars lo → IsTermBelow vars hi → AreBoundsBelow vars (between base lo hi)
between_below vars base None hi low high = tt
between_below vars base (Some lo) None low high = tt
between_below vars base (Some lo) (Some hi) low high = record { lo = low; hi = high }

moved_below : (vars : ℕ) (c : ℤ) (b : Bounds) → AreEndsBelow vars b → AreBoundsBelow vars (moved_by c b)
moved_below vars c b below =
    let lo = b.lo.plus +ℤ c in
    let hi = b.hi.plus +ℤ c in
    between_below vars b.base (within_limit b.lo.var lo) (within_limit b.hi.var hi) (within_below vars b.lo.var lo below.lo) (within_below vars b.hi.var hi below.hi)

pub sum_counted : (structs : List Structure) (vars : ℕ) (kind : Kind) (t : CType) (types : List CType) (e : core.Expression) (direction : Direction) (i : core.Expression) (p : PointerBounds) {b : Option PointerBounds} → CountElements structs vars kind t p → ((d : Bounds) → based_bounds e ≡ Some d → AreEndsBelow vars d)
    → AreSumBounds types e direction i p b → AreCounted structs vars kind t b
sum_counted structs vars kind t types e direction i p h beside rules.unknown = tt
sum_counted structs vars kind t types e direction i p h beside (rules.based base) = record { node = record { size = h.node.size; terminated = h.node.terminated }; some = h.some; below = h.below }
sum_counted structs vars kind t types e direction i p h beside (rules.beside {d = d} from) = record { node = record { size = h.node.size; terminated = h.node.terminated }; some = h.some; below = beside d from }
sum_counted structs vars kind t types e direction i p h beside (rules.moved {c = c} none is moved) =
    record { node = record { size = h.node.size; terminated = h.node.terminated }; some = h.some; below = subst (AreBoundsBelow vars) moved (moved_below vars (against direction c) p.bounds h.below) }

-- the bounds of a sum
pub sum_bounded : (types : List CType) (e : core.Expression) (direction : Direction) (i : core.Expression) (p : PointerBounds) (site : Site) → bounds_of e ≡ Some p → AreSumBounds types e direction i p (sum_node types direction e i site)
sum_bounded types e direction i p site own = by p.bounds.base (constant types i) refl refl
  where
    Bounded : Type 0
    Bounded = AreSumBounds types e direction i p (sum_node types direction e i site)

    -- where a constant moves none, those from a base stay
    beside : sum_bounds direction (constant types i) (Some p.bounds) ≡ None → (o : Option Bounds) → based_bounds e ≡ o → Bounded
    beside ends None from = rw (own, from, ends) rules.unknown
    beside ends (Some d) from = rw (own, from, ends) (rules.beside {site = site} from)

    by : (base : Option ℕ) (c : Option ℤ) → p.bounds.base ≡ base → constant types i ≡ c → Bounded
    by (Some base) c from is =
        let ends : sum_bounds direction (constant types i) (Some p.bounds) ≡ Some p.bounds = rw from refl in
        rw (own, ends) (rules.based {site = site} from)
    by None None none is =
        let ends : sum_bounds direction (constant types i) (Some p.bounds) ≡ None = rw (is, none) refl in
        beside ends (based_bounds e) refl
    by None (Some c) none is = moved_to (moved_by (against direction c) p.bounds) refl
      where
        moved_to : (o : Option Bounds) → moved_by (against direction c) p.bounds ≡ o → Bounded
        moved_to None moved =
            let ends : sum_bounds direction (constant types i) (Some p.bounds) ≡ None = rw (is, moved, none) refl in
            beside ends (based_bounds e) refl
        moved_to (Some q) moved =
            let ends : sum_bounds direction (constant types i) (Some p.bounds) ≡ Some q = rw (is, moved, none) refl in
            rw (own, ends) (rules.moved {site = site} none is moved)

-- ---- findings

met_is : (x : Finding) → is_met x ≡ true → x ≡ Meets
met_is Meets h = refl
met_is WasLost h = absurd (cc)
met_is (Falls asked) h = absurd (cc)

-- what bounds without a base meet
pub record MeetsEnds (facts : ClosedTable) (asked b : Bounds) : Type 0 where
  pub base : b.base ≡ None
  pub ends : ends_find facts asked b ≡ Meets

pub one_met : (facts : ClosedTable) (b : Bounds) → is_met (bounds_find facts one_element (Some b)) ≡ true → MeetsEnds facts one_element b
one_met facts b h = by b.base refl
  where
    by : (base : Option ℕ) → b.base ≡ base → MeetsEnds facts one_element b
    by None e = record { base = e; ends = met_is (ends_find facts one_element b) (let found = rw e at h in found) }
    by (Some k) e = let none = rw e at h in absurd (cc)

-- the element at which a pointer stands counts from no base, and so bounds from one don't meet it
pub based_unmet : (facts : ClosedTable) (value : core.Expression) → is_met (bounds_find facts one_element (based_bounds value)) ≡ true → ⊥
based_unmet facts value h = by (based_bounds value) refl
  where
    by : (o : Option Bounds) → based_bounds value ≡ o → ⊥
    by None e = let found = rw e at h in cc
    by (Some b) e = let base = based_has_base value b e in let found = rw (e, base.1) at h in cc

-- ---- one base

-- two expressions count from one local pointer
pub record CountFromOne (v w : core.Expression) : Type 0 where
  pub base : ℕ
  pub first : CountsFrom v base
  pub second : CountsFrom w base

pub one_base : (v w : core.Expression) → have_one_base (based_bounds v) (based_bounds w) ≡ true → CountFromOne v w
one_base v w h = by (based_bounds v) (based_bounds w) refl refl
  where
    by : (a b : Option Bounds) → based_bounds v ≡ a → based_bounds w ≡ b → CountFromOne v w
    by None b e e' = let found = rw e at h in absurd (cc)
    by (Some a) None e e' = let found = rw (e, e') at h in absurd (cc)
    by (Some a) (Some b) e e' =
        let base = based_has_base v a e in
        let other = based_has_base w b e' in
        let same : (base.0 == other.0) ≡ true = (let found = rw (e, e', base.1, other.1) at h in found) in
        record {
          base = base.0;
          first = record { bounds = a; based = e; base = base.1 };
          second = record { bounds = b; based = e'; base = other.1 ∙ ap Some (sym (eqb-true base.0 other.0 same)) };
        }

-- a pointer to an array
pub record IsRowType (t : CType) : Type 0 where
  pub mode : Mode
  pub kind : Kind
  pub target : CType
  pub is : t ≡ Pointer mode kind target

pub row_type : (t : CType) → is_row t ≡ true → IsRowType t
row_type Int h = absurd (cc)
row_type Char h = absurd (cc)
row_type (Struct number) h = absurd (cc)
row_type (Pointer m kinds.One t) h = absurd (cc)
row_type (Pointer m kinds.Array t) h = record { mode = m; kind = kinds.Array; target = t; is = refl }
row_type (Pointer m kinds.Nt t) h = record { mode = m; kind = kinds.Nt; target = t; is = refl }

-- ---- the bounds in force of a local pointer

pub from_base_below : (vars : ℕ) (k : ℕ) (b : Bounds) → AreEndsBelow vars b → AreEndsBelow vars (from_base k b)
from_base_below vars k b below = by (is_some b.base)
  where
    by : (test : Bool) → AreEndsBelow vars (picked test b (record b { base = Some k }))
    by true = below
    by false = record { lo = below.lo; hi = below.hi }

pub load_takes : (t : CType) (p : core.Place) → TakesBounds (λ o. noted_if o (core.Load t p None))
load_takes t p = record { own = load_noted t p; none = refl; based = λ vars q b below e. absurd (cc) }

pub local_takes : (k : ℕ) → TakesBounds (λ o. noted_if o (core.Local k None))
local_takes k = record { own = local_noted k; none = refl; based = λ vars q b below e. let same : from_base k q.bounds ≡ b = cc in subst (AreEndsBelow vars) same (from_base_below vars k q.bounds below) }

-- ---- the factors of a size

pub record IsFactor (e v : core.Expression) : Type 0 where
  pub other : core.Expression
  pub site : Site
  pub is : (e ≡ core.Arithmetic (operators.Arithmetic arithmetics.Multiply) v other site) ⊎ (e ≡ core.Arithmetic (operators.Arithmetic arithmetics.Multiply) other v site)

first_is : (e v : core.Expression) → first_factor e ≡ Some v → IsFactor e v
first_is (core.Arithmetic (operators.Arithmetic arithmetics.Multiply) a b site) v h = let same : a ≡ v = cc in record { other = b; site = site; is = inl (ap (λ a. core.Arithmetic (operators.Arithmetic arithmetics.Multiply) a b site) same) }
first_is _ v h = absurd (cc)

second_is : (e v : core.Expression) → second_factor e ≡ Some v → IsFactor e v
second_is (core.Arithmetic (operators.Arithmetic arithmetics.Multiply) a b site) v h = let same : b ≡ v = cc in record { other = a; site = site; is = inr (ap (λ b. core.Arithmetic (operators.Arithmetic arithmetics.Multiply) a b site) same) }
second_is _ v h = absurd (cc)

one_factor : (value n : core.Expression) (a b : Bool) → picked a (first_factor value) (picked b (second_factor value) None) ≡ Some n → IsFactor value n
one_factor value n true b h = first_is value n h
one_factor value n false true h = second_is value n h
one_factor value n false false h = absurd (cc)

pub beside_is : (s : Scope) (t : CType) (size : Expression) (value n : core.Expression) → factor_beside s t size value ≡ Some n → IsFactor value n
beside_is s t (e.Binary binary.Multiply left right span) value n h = one_factor value n (is_size s t right) (is_size s t left) h
beside_is s t _ value n h = absurd (cc)

-- ---- the base of a cast

pub record HasBase (value : core.Expression) (k : ℕ) : Type 0 where
  pub bounds : Bounds
  pub based : based_bounds value ≡ Some bounds
  pub base : bounds.base ≡ Some k

pub base_is : (value : core.Expression) (k : ℕ) → has_base (Some k) value ≡ true → HasBase value k
base_is value k h = by (based_bounds value) refl
  where
    by : (o : Option Bounds) → based_bounds value ≡ o → HasBase value k
    by None e = let found = rw e at h in absurd (cc)
    by (Some d) e =
        let base = based_has_base value d e in
        let same : (base.0 == k) ≡ true = (let found = rw (e, base.1) at h in found) in
        record { bounds = d; based = e; base = base.1 ∙ ap Some (eqb-true base.0 k same) }
