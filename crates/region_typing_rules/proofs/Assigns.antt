-- What is known behind an assignment is so.
use Rattle.std.proofs.Common.{◌≡◌, ℕ, zero, suc, ◌≤◌, ℤ, pos, ◌+ℤ◌, ◌*ℤ◌, Bool, true, false, ◌==◌, cond, List, [], ◌∷◌, length, Option, Some, None, refl, sym, ◌∙◌, ap, subst, arith, inl, inr}
use Rattle.std.specs.Prelude.{◌≢◌, ◌&&◌, slice_get, slice_set}
use Rattle.std.proofs.lemmas.Int.{ints}
use Rattle.std.proofs.lemmas.Bool.{cases_eq}
use Rattle.std.proofs.lemmas.Bool.Decides.{nat_tests}
use Rattle.std.proofs.lemmas.List.{set-set}
use Rattle.std.proofs.lemmas.Option.{slice_get_within}
use Rattle.act_words.specs.declared.operator.Operator.{Operator}
use Rattle.bounds_exprs.specs.declared.term.Term.{Term}
use Rattle.bounds_exprs.specs.Values.{value as term_number}
use Rattle.pointer_modes.specs.declared.ctype.Mode.{Mode}
use Rattle.pointer_modes.specs.declared.ctype.Kind.{Kind}
use Rattle.pointer_modes.specs.declared.ctype.Kind.TheVariants as kinds
use Rattle.pointer_modes.specs.Types.{CType, Int, Char, Struct, Pointer, Structure}
use Rattle.bounds_flow.specs.Flows.{length_assigned, Knowledge, held_at, number_assigned, pointer_assigned}
use Rattle.bounds_flow.specs.Conditions.{IsFlow}
use Rattle.bounds_flow_meaning.specs.Holding.{HaveTypes, Holds, numbers_in, target_size, types_of}
use Rattle.bounds_exprs.specs.declared.term.Bounds.{Bounds}
use Rattle.bounds_exprs.specs.Normal.{is_same}
use Rattle.bounds_flow.specs.declared.steps.Source.{Source}
use Rattle.bounds_flow.specs.declared.steps.Source.TheVariants as sources
use Rattle.bounds_flow_meaning.specs.Laws.{IsGiven, IsMoved, IsMovedBy, IsPointer, IsTermOf, with_local}
use Rattle.bounds_flow_meaning.proofs.AllSteps.{flows_hold}
use Rattle.bounds_flow_meaning.proofs.Numbers.{local_there, found_other, found_same, int_term, same_number, same_types, still_types, type_there}
use Rattle.ckc_core.specs.declared.program.Site.{Site}
use Rattle.ckc_core.specs.declared.program.PointerBounds.{PointerBounds}
use Rattle.ckc_core.specs.Outcome.{and_then, and_then-and_then}
use Rattle.ckc_core.specs.Core as core
use Rattle.ckc_core.specs.States.{Value, Number, Null, At, Cell, Local, State, cell_at, same_type, has_type}
use Rattle.ckc_core.specs.Steps.{Result, Flow, Next, Broke, Continued, Returned, given, arithmetic_of, is_char, kept_if, set_if, set_local, set_over, pointer_to, store_if, store_over, store_at, leaves_zero, load_at, printed, put, no_result, called}
use Rattle.ckc_core.specs.Meaning.{Knot, Setting, audit, effect, place, place_from, site_of, storable, target_of, value, values}
use Rattle.region_typing_rules.specs.Verdicts.{picked}
use Rattle.region_typing_rules.specs.Readings.{Behind, term, own_bounds, based_bounds, is_null, pointer_local, known_at, behind_local, is_not_null}
use Rattle.region_typing_rules.specs.Knowing.{count_assigned, measured_local, are_below, given_from, given_bounds, known_source, source, moved_from, value_assigned, assigned_by}
use Rattle.region_typing_rules.specs.KnownIsSo.{WhereGiven, IsAlike, HoldsAlike, HasLocals}
use Rattle.region_typing_rules.proofs.Keeping.{IsAfter, value_after}
use Rattle.region_typing_rules.proofs.Moving.{AssignsOnly, IsMovedTo, KnotMoves, effect_moves, set_moved}
use Rattle.region_typing_rules.proofs.Terms.{so_on, so_always, so_both, so_further, audited_so, IsOfTerm, number_is, term_formed, formed_later, term_so}
use Rattle.region_typing_rules.proofs.Alike.{has_after, has_alike, holds_moved, holds_after, types_alike, number_alike, IsTracked}
use Rattle.region_typing_rules.proofs.CountedTexts.{IsLength, IsRightLength, IsRightText, counted_there, length_read}
use Rattle.region_typing_rules.proofs.Told.{pointer_is, pointer_so, null_given}
use Rattle.region_typing_rules.proofs.Given.{IsGivenIf, AreGivenAt, AreGiven, none_given}
use Rattle.region_typing_rules.proofs.Between.{term_below}

-- a statement that goes on to the next one, of whose state this is so
abbrev pub OnNext : (State → Type 0) → Flow → State → Type 0
OnNext P Next s = P s
OnNext P Broke s = ⊥
OnNext P Continued s = ⊥
OnNext P (Returned v) s = ⊥

-- ---- lists

same_Some : {X : Type 0} (x y : X) → Some x ≡ Some y → x ≡ y
same_Some x y e = cc

pub set_again : {X : Type 0} (xs : List X) (k : ℕ) (x : X) → slice_get xs k ≡ Some x → slice_set xs k x ≡ xs
set_again [] k x h = absurd (cc)
set_again (y ∷ xs) zero x h = ap (λ y. y ∷ xs) (sym (same_Some y x h))
set_again (y ∷ xs) (suc k) x h = ap (λ xs. y ∷ xs) (set_again xs k x h)

-- ---- the state before an assignment, for each that is alike behind it

module _ (n x : ℕ) (old : Local) (v : Value) (t w : State) (there : slice_get t.locals x ≡ Some old) (typed : has_type old.type v ≡ true)
    (alike : IsAlike n (with_local x old v t) w) (now : slice_get w.locals x ≡ Some (record old { value = v })) where
  abbrev new : Local
  new = record old { value = v }

  -- with the old value
  abbrev pub before : State
  before = record w { locals = slice_set w.locals x (record new { value = old.value }) }

  pub before_there : slice_get before.locals x ≡ Some old
  before_there = found_same w.locals x new old.value now

  pub before_back : with_local x old v before ≡ w
  before_back = ap (λ ls. record w { locals = ls }) (set-set w.locals x (record new { value = old.value }) new ∙ set_again w.locals x new now)

  pub before_alike : IsAlike n t before
  before_alike = record {
    blocks = alike.blocks;
    same = same_types w.locals x new old.value now ∙ (alike.same ∙ same_types t.locals x old v there);
    types = λ h. still_types w.locals x new old.value now (h x old there) (alike.types (still_types t.locals x old v there typed h));
    tracked = λ y low other. elim (cases_eq y x) [
      | inl same ↦ subst (λ y. slice_get before.locals y ≡ slice_get t.locals y) (sym same) (before_there ∙ sym there)
      | inr ne ↦ found_other w.locals x new old.value now y ne
          ∙ (alike.tracked y low (λ c. other (subst (λ ts. slice_get ts y ≡ Some Char) (same_types t.locals x old v there) c)) ∙ found_other t.locals x old v there y ne)
    ];
  }

-- ---- what is known of a value

abbrev pub is_address : core.Expression → Bool
is_address (core.Number number) = false
is_address core.Null = false
is_address (core.Local x bounds) = false
is_address (core.Load type place bounds) = false
is_address (core.AddressOf place bounds) = true
is_address (core.Negate operand site) = false
is_address (core.Complement operand) = false
is_address (core.Not operand) = false
is_address (core.Arithmetic operator left right site) = false
is_address (core.Compare comparison left right) = false
is_address (core.Same left right) = false
is_address (core.AndAlso left right) = false
is_address (core.OrElse left right) = false
is_address (core.LowByte operand) = false
is_address (core.Call callee arguments bounds) = false
is_address core.NextInput = false
is_address (core.Sum pointer direction number site bounds) = false
is_address (core.Order comparison left right site) = false
is_address (core.Allocate count element terminator bounds) = false
is_address (core.Length pointer site) = false
is_address (core.Cast pointer bounds) = false

-- where an expression is a local pointer plus a constant, its value stands so many elements behind what the local holds
abbrev pub IsBehind : List Structure → List CType → core.Expression → Value → State → Type 0
IsBehind structs types e v t =
    (b : Behind) → behind_local types e ≡ Some b → (l : Local) → slice_get t.locals b.local ≡ Some l → IsMoved (target_size structs l.type) b.elements l.value v

-- where an expression counts the bytes of a local, its value is the count
abbrev IsCountOf : core.Expression → Value → State → Type 0
IsCountOf e v t = (k : ℕ) (b : Option PointerBounds) (site : Site) → e ≡ core.Length (core.Local k b) site → IsLength k b v t

-- such an expression
record IsMeasured (e : core.Expression) (k : ℕ) : Type 0 where
  bounds : Option PointerBounds
  site : Site
  is : e ≡ core.Length (core.Local k bounds) site

measured_is : (types : List CType) (e : core.Expression) (k : ℕ) → measured_local types e ≡ Some k → IsMeasured e k
measured_is types (core.Length pointer site) k h = let it = pointer_is types pointer k h in record { bounds = it.bounds; site = site; is = ap (λ e. core.Length e site) it.is }
measured_is types e k h = absurd (cc)

right_at : (known : List Structure) (types : List CType) (f : Knowledge) (e : core.Expression) (k : ℕ) (b : Option PointerBounds) (site : Site) → e ≡ core.Length (core.Local k b) site → IsRightLength known types f e → (p : PointerBounds) → b ≡ Some p → IsRightText known types f k p
right_at known types f e k b site is right = subst (IsRightLength known types f) is right

-- what a statement assigns counts from a node that is right
abbrev pub IsRight : List Structure → List CType → Knowledge → core.Statement → Type 0
IsRight known types f (core.SetLocal local value) = IsRightLength known types f value
IsRight known types f _ = Unit {0}

-- a value, as the flow takes it where it is assigned
pub record IsRead (structs : List Structure) (types : List CType) (e : core.Expression) (v : Value) (t : State) : Type 0 where
  pub term : IsOfTerm t.locals (term types e) v
  pub local : (p : ℕ) → pointer_local types e ≡ Some p → (l : Local) → slice_get t.locals p ≡ Some l → l.value ≡ v
  pub null : is_null e ≡ true → v ≡ Null
  pub address : is_address e ≡ true → v ≢ Null
  pub moved : IsBehind structs types e v t
  pub counted : IsCountOf e v t

-- what is given to a pointer is so of it: where it has bounds, they are those at its expression's node or from its declared base
picked_given : (structs : List Structure) (c : CType) (test : Bool) (a b : Option Bounds) (v : Value) (s : State) → IsGivenIf structs c a v s → IsGivenIf structs c b v s → IsGivenIf structs c (picked test a b) v s
picked_given structs c true a b v s h k = h
picked_given structs c false a b v s h k = k

from_given : (structs : List Structure) (c : CType) (base : Option ℕ) (based own : Option Bounds) (v : Value) (s : State) → IsGivenIf structs c own v s → IsGivenIf structs c based v s → IsGivenIf structs c (given_from base based own) v s
from_given structs c base None own v s h k = h
from_given structs c base (Some b) own v s h k = picked_given structs c (is_same base b.base) (Some b) own v s k h

bounds_given : (structs : List Structure) (c : CType) (declared : Option Bounds) (e : core.Expression) (v : Value) (s : State) → AreGivenAt structs c e v s → IsGivenIf structs c (given_bounds declared e) v s
bounds_given structs c None e v s h = h.0
bounds_given structs c (Some d) e v s h = from_given structs c d.base (based_bounds e) (own_bounds e) v s h.0 h.1

tested_given : (structs : List Structure) (c : CType) (b : Bounds) (test : Bool) (v : Value) (s : State) → IsGivenIf structs c (Some b) v s → IsGiven structs (picked test (sources.Known b) sources.Lost) (record { type = c; value = v }) s
tested_given structs c b true v s h = h
tested_given structs c b false v s h = tt

known_given : (structs : List Structure) (vars : ℕ) (c : CType) (o : Option Bounds) (v : Value) (s : State) → IsGivenIf structs c o v s → IsGiven structs (known_source vars o) (record { type = c; value = v }) s
known_given structs vars c None v s h = tt
known_given structs vars c (Some b) v s h = tested_given structs c b (are_below vars b) v s h

null_given_by : (structs : List Structure) (test : Bool) (from : Source) (l : Local) (s : State) → (test ≡ true → l.value ≡ Null) → (test ≡ false → IsGiven structs from l s) → IsGiven structs (picked test sources.Null from) l s
null_given_by structs true from l s null other = null refl
null_given_by structs false from l s null other = other refl

-- what is read of a value that a pointer of a kind is given
abbrev pub IsGivenTo : List Structure → ℕ → CType → core.Expression → Value → State → Type 0
IsGivenTo structs n Int e v s = Unit {0}
IsGivenTo structs n Char e v s = Unit {0}
IsGivenTo structs n (Struct number) e v s = Unit {0}
IsGivenTo structs n (Pointer m kinds.One t) e v s = Unit {0}
IsGivenTo structs n (Pointer m kinds.Array t) e v s = AreGiven structs n (Pointer m kinds.Array t) e v s
IsGivenTo structs n (Pointer m kinds.Nt t) e v s = AreGiven structs n (Pointer m kinds.Nt t) e v s

-- a value without bounds
none_given_to : (structs : List Structure) (n : ℕ) (c : CType) (e : core.Expression) (v : Value) (s : State) → own_bounds e ≡ None → based_bounds e ≡ None → IsGivenTo structs n c e v s
none_given_to structs n Int e v s own based = tt
none_given_to structs n Char e v s own based = tt
none_given_to structs n (Struct number) e v s own based = tt
none_given_to structs n (Pointer m kinds.One t) e v s own based = tt
none_given_to structs n (Pointer m kinds.Array t) e v s own based = none_given structs n (Pointer m kinds.Array t) e v s own based
none_given_to structs n (Pointer m kinds.Nt t) e v s own based = none_given structs n (Pointer m kinds.Nt t) e v s own based

source_given : (structs : List Structure) (vars n : ℕ) (m : Mode) (kind : Kind) (t : CType) (declared : Option Bounds) (e : core.Expression) (v : Value) (s w : State) → (is_null e ≡ true → v ≡ Null) → IsAlike n s w → IsGivenTo structs n (Pointer m kind t) e v s
    → IsGiven structs (source vars kind declared e) (record { type = Pointer m kind t; value = v }) w
source_given structs vars n m kinds.Array t declared e v s w null alike h =
    null_given_by structs (is_null e) (known_source vars (given_bounds declared e)) (record { type = Pointer m kinds.Array t; value = v }) w null
    (λ other. known_given structs vars (Pointer m kinds.Array t) (given_bounds declared e) v w (bounds_given structs (Pointer m kinds.Array t) declared e v w (h w alike)))
source_given structs vars n m kinds.One t declared e v s w null alike h = null_given_by structs (is_null e) sources.Lost (record { type = Pointer m kinds.One t; value = v }) w null (λ other. tt)
source_given structs vars n m kinds.Nt t declared e v s w null alike h =
    null_given_by structs (is_null e) (known_source vars (given_bounds declared e)) (record { type = Pointer m kinds.Nt t; value = v }) w null
    (λ other. known_given structs vars (Pointer m kinds.Nt t) (given_bounds declared e) v w (bounds_given structs (Pointer m kinds.Nt t) declared e v w (h w alike)))

-- known not to be null
known_value : (types : List CType) (f : Knowledge) (e : core.Expression) (o : Option ℕ) (v : Value) → known_at f o ≡ true → ((p : ℕ) → o ≡ Some p → (held_at f.held p).known ≡ true → v ≢ Null) → v ≢ Null
known_value types f e None v k h = absurd (cc)
known_value types f e (Some p) v k h = h p refl k

not_null_read : (types : List CType) (f : Knowledge) (e : core.Expression) (v : Value) → (is_address e ≡ true → v ≢ Null) → ((p : ℕ) → pointer_local types e ≡ Some p → (held_at f.held p).known ≡ true → v ≢ Null) → is_not_null types f e ≡ true → v ≢ Null
not_null_read types f (core.Number number) v address known h = known_value types f (core.Number number) (pointer_local types (core.Number number)) v h known
not_null_read types f core.Null v address known h = known_value types f core.Null (pointer_local types core.Null) v h known
not_null_read types f (core.Local x bounds) v address known h = known_value types f (core.Local x bounds) (pointer_local types (core.Local x bounds)) v h known
not_null_read types f (core.Load type place bounds) v address known h = known_value types f (core.Load type place bounds) (pointer_local types (core.Load type place bounds)) v h known
not_null_read types f (core.AddressOf place bounds) v address known h = address refl
not_null_read types f (core.Negate operand site) v address known h = known_value types f (core.Negate operand site) (pointer_local types (core.Negate operand site)) v h known
not_null_read types f (core.Complement operand) v address known h = known_value types f (core.Complement operand) (pointer_local types (core.Complement operand)) v h known
not_null_read types f (core.Not operand) v address known h = known_value types f (core.Not operand) (pointer_local types (core.Not operand)) v h known
not_null_read types f (core.Arithmetic operator left right site) v address known h = known_value types f (core.Arithmetic operator left right site) (pointer_local types (core.Arithmetic operator left right site)) v h known
not_null_read types f (core.Compare comparison left right) v address known h = known_value types f (core.Compare comparison left right) (pointer_local types (core.Compare comparison left right)) v h known
not_null_read types f (core.Same left right) v address known h = known_value types f (core.Same left right) (pointer_local types (core.Same left right)) v h known
not_null_read types f (core.AndAlso left right) v address known h = known_value types f (core.AndAlso left right) (pointer_local types (core.AndAlso left right)) v h known
not_null_read types f (core.OrElse left right) v address known h = known_value types f (core.OrElse left right) (pointer_local types (core.OrElse left right)) v h known
not_null_read types f (core.LowByte operand) v address known h = known_value types f (core.LowByte operand) (pointer_local types (core.LowByte operand)) v h known
not_null_read types f (core.Call callee arguments bounds) v address known h = known_value types f (core.Call callee arguments bounds) (pointer_local types (core.Call callee arguments bounds)) v h known
not_null_read types f core.NextInput v address known h = known_value types f core.NextInput (pointer_local types core.NextInput) v h known
not_null_read types f (core.Sum pointer direction number site bounds) v address known h = known_value types f (core.Sum pointer direction number site bounds) (pointer_local types (core.Sum pointer direction number site bounds)) v h known
not_null_read types f (core.Order comparison left right site) v address known h = known_value types f (core.Order comparison left right site) (pointer_local types (core.Order comparison left right site)) v h known
not_null_read types f (core.Allocate count element terminator bounds) v address known h = known_value types f (core.Allocate count element terminator bounds) (pointer_local types (core.Allocate count element terminator bounds)) v h known
not_null_read types f (core.Length pointer site) v address known h = known_value types f (core.Length pointer site) (pointer_local types (core.Length pointer site)) v h known
not_null_read types f (core.Cast pointer bounds) v address known h = known_value types f (core.Cast pointer bounds) (pointer_local types (core.Cast pointer bounds)) v h known

-- a pointer that is assigned itself stays where it is
pub stays : (size : ℕ) (v : Value) → IsMoved size (pos 0) v v
stays size (Number number) = tt
stays size Null = tt
stays size (At block byte) = (byte, refl, still)
  where
    still : pos byte ≡ pos byte +ℤ (pos 0 *ℤ pos size)
    still = omega (arith, ints)

moved_from_local : (structs : List Structure) (x : ℕ) (b : Behind) (test : Bool) (old : Local) (v : Value) → (b.local == x) ≡ test → (b.local ≡ x → IsMoved (target_size structs old.type) b.elements old.value v)
    → IsMovedBy structs (cond test (Some b.elements) None) old v
moved_from_local structs x b true old v e moved = moved (same_number b.local x e)
moved_from_local structs x b false old v e moved = tt

moved_read : (structs : List Structure) (types : List CType) (x : ℕ) (e : core.Expression) (o : Option Behind) (old : Local) (v : Value) (t : State) → behind_local types e ≡ o → IsBehind structs types e v t → slice_get t.locals x ≡ Some old → IsMovedBy structs (moved_from x o) old v
moved_read structs types x e None old v t is moved there = tt
moved_read structs types x e (Some b) old v t is moved there =
    moved_from_local structs x b (b.local == x) old v refl (λ same. moved b is old (subst (λ y. slice_get t.locals y ≡ Some old) (sym same) there))

-- ---- assignments

pointer_value : (mode : Mode) (kind : Kind) (target : CType) (v : Value) → has_type (Pointer mode kind target) v ≡ true → IsPointer v
pointer_value mode kind target (Number z) h = absurd (cc)
pointer_value mode kind target Null h = tt
pointer_value mode kind target (At block byte) h = tt

int_value : (v : Value) → has_type Int v ≡ true → (z : ℤ) × (v ≡ Number z)
int_value (Number z) h = (z, refl)
int_value Null h = absurd (cc)
int_value (At block byte) h = absurd (cc)

pub itself_equal : (x : ℕ) → (x == x) ≡ true
itself_equal x = grind (arith, nat_tests)

char_untracked : (types : List CType) (x : ℕ) → slice_get types x ≡ Some Char → (s : State) → HasLocals types s → (y : ℕ) → IsTracked (length types) s y → (y == x) ≡ false
char_untracked types x is s has y tracked = by (y == x) refl
  where
    by : (test : Bool) → (y == x) ≡ test → (y == x) ≡ false
    by true e = absurd (tracked.1 (subst (λ z. slice_get (types_of s.locals) z ≡ Some Char) (sym (same_number y x e)) (has x Char is)))
    by false e = e

struct_value : (n : ℕ) (v : Value) → has_type (Struct n) v ≡ true → ⊥
struct_value n (Number z) h = cc
struct_value n Null h = cc
struct_value n (At block byte) h = cc

module _ (structs : List Structure) (types : List CType) (f : Knowledge) (flow : IsFlow f) (few : length types ≤ f.vars) where
  module _ (known : List Structure) (x : ℕ) (e : core.Expression) (right : IsRightLength known types f e) (v : Value) (t : State) (has : HasLocals types t) (h : HoldsAlike structs (length types) f t) (read : IsRead structs types e v t)
      (old : Local) (there : slice_get t.locals x ≡ Some old) (typed : has_type old.type v ≡ true) where
    -- its type among those of the state
    old_type : (c : CType) → slice_get types x ≡ Some c → old.type ≡ c
    old_type c is = same_Some old.type c (sym (type_there t.locals x old there) ∙ has x c is)

    -- it is there in each state that is alike behind it
    there_now : (w : State) → IsAlike (length types) (with_local x old v t) w → (c : CType) → slice_get types x ≡ Some c → (c ≡ Char → ⊥) → slice_get w.locals x ≡ Some (record old { value = v })
    there_now w alike c is other =
        alike.tracked x (slice_get_within types x c is)
        (λ q. other (same_Some c Char (sym (has x c is) ∙ (ap (λ ts. slice_get ts x) (sym (same_types t.locals x old v there)) ∙ q))))
        ∙ found_same t.locals x old v there

    is_term : (o : Option Term) (z : ℤ) (s : State) → HaveTypes s.locals → HasLocals types s → ((a : Term) → o ≡ Some a → z ≡ term_number (numbers_in s.locals) a) → term types e ≡ o → IsTermOf o s.locals z
    is_term None z s good has' is same = tt
    is_term (Some a) z s good has' is same = int_term s.locals a good (formed_later types s a.var has' (term_formed types e a same).int) ∙ ap Some (sym (is a refl))

    number_set : (z : ℤ) → v ≡ Number z → slice_get types x ≡ Some Int → HoldsAlike structs (length types) (number_assigned x (term types e) f) (with_local x old v t)
    number_set z is int w alike =
        let now = there_now w alike Int int (λ q. absurd (cc)) in
        let b = before (length types) x old v t w there typed alike now in
        let b_alike = before_alike (length types) x old v t w there typed alike now in
        let held = h b b_alike in
        let low = slice_get_within types x Int int in
        let numbers = number_alike types t b has b_alike (term types e) z (term_formed types e) (number_is t.locals (term types e) z (subst (IsOfTerm t.locals (term types e)) is read.term)) in
        subst (λ w. Holds structs (number_assigned x (term types e) f) w) (ap (λ v. with_local x old v b) (sym is) ∙ before_back (length types) x old v t w there typed alike now)
        ((flows_hold structs f flow).assign_int x (term types e) b old z (omega (arith, low, few)) (term_below types f.vars e (term types e) refl few)
        (before_there (length types) x old v t w there typed alike now) (subst (λ v. has_type old.type v ≡ true) is typed)
        (is_term (term types e) z b held.met.types (has_alike types t b b_alike has) numbers refl) held)

    length_set : (k : ℕ) → measured_local types e ≡ Some k → slice_get types x ≡ Some Int → HoldsAlike structs (length types) (length_assigned x k f) (with_local x old v t)
    length_set k measured int w alike =
        let m = measured_is types e k measured in
        let c = read.counted k m.bounds m.site m.is in
        let now = there_now w alike Int int (λ q. absurd (cc)) in
        let b = before (length types) x old v t w there typed alike now in
        let b_alike = before_alike (length types) x old v t w there typed alike now in
        let low = slice_get_within types x Int int in
        subst (λ w. Holds structs (length_assigned x k f) w) (ap (λ v. with_local x old v b) (sym c.is) ∙ before_back (length types) x old v t w there typed alike now)
        ((flows_hold structs f flow).assign_length x k b old c.count (omega (arith, low, few)) (before_there (length types) x old v t w there typed alike now) (subst (λ v. has_type old.type v ≡ true) c.is typed)
        (counted_there structs known types f k m.bounds v t b has b_alike c (right_at known types f e k m.bounds m.site m.is right)) (h b b_alike))

    pointer_set : (mode : Mode) (kind : Kind) (target : CType) → slice_get types x ≡ Some (Pointer mode kind target) → IsGivenTo structs (length types) (Pointer mode kind target) e v t
        → HoldsAlike structs (length types) (pointer_assigned x (source f.vars kind (held_at f.held x).declared e) (moved_from x (behind_local types e)) (is_not_null types f e) f) (with_local x old v t)
    pointer_set mode kind target is given w alike =
        let from = source f.vars kind (held_at f.held x).declared e in
        let now = there_now w alike (Pointer mode kind target) is (λ q. absurd (cc)) in
        let b = before (length types) x old v t w there typed alike now in
        let b_alike = before_alike (length types) x old v t w there typed alike now in
        let held = h b b_alike in
        let b_there = before_there (length types) x old v t w there typed alike now in
        let type = old_type (Pointer mode kind target) is in
        subst (λ w. Holds structs (pointer_assigned x from (moved_from x (behind_local types e)) (is_not_null types f e) f) w) (before_back (length types) x old v t w there typed alike now)
        ((flows_hold structs f flow).assign_pointer x from (moved_from x (behind_local types e)) (is_not_null types f e) b old v b_there
        (pointer_value mode kind target v (subst (λ c. has_type c v ≡ true) type typed)) typed
        (subst (λ c. IsGiven structs from (record { type = c; value = v }) b) (sym type) (source_given structs f.vars (length types) mode kind target (held_at f.held x).declared e v t b read.null b_alike given))
        (moved_read structs types x e (behind_local types e) old v t refl read.moved there)
        (not_null_read types f e v read.address (there_known b b_alike held))
        ((flows_hold structs f flow).forget x b held))
      where
        there_known : (b : State) → IsAlike (length types) t b → Holds structs f b → (p : ℕ) → pointer_local types e ≡ Some p → (held_at f.held p).known ≡ true → v ≢ Null
        there_known b b_alike held p q k =
            let it = pointer_is types e p q in
            let l = local_there t.locals p it.there.0 (has p it.there.0 it.there.1) in
            λ n. (held.pointers p l.local (b_alike.tracked p it.below (λ c. it.untold (it.there.1 ∙ (sym (has p it.there.0 it.there.1) ∙ c))) ∙ l.there)).known k (read.local p q l.local l.there ∙ n)

    type_set : (c : CType) → slice_get types x ≡ Some c → IsGivenTo structs (length types) c e v t → HoldsAlike structs (length types) (value_assigned (Some c) types x e f) (with_local x old v t)
    type_set Int is given = by (measured_local types e) refl
      where
        by : (o : Option ℕ) → measured_local types e ≡ o → HoldsAlike structs (length types) (count_assigned x o (term types e) f) (with_local x old v t)
        by None none = let z = int_value v (subst (λ c. has_type c v ≡ true) (old_type Int is) typed) in number_set z.0 z.1 is
        by (Some k) measured = length_set k measured is
    type_set Char is given = holds_moved structs (length types) f flow (λ y. y == x) t (with_local x old v t) (set_moved (λ y. y == x) t x old v (itself_equal x) there typed) (char_untracked types x is t has) h
    type_set (Struct n) is given = absurd (struct_value n v (subst (λ c. has_type c v ≡ true) (old_type (Struct n) is) typed))
    type_set (Pointer mode kind target) is given = pointer_set mode kind target is given

  module _ (known : List Structure) (x : ℕ) (e : core.Expression) (right : IsRightLength known types f e) (c : CType) (is : slice_get types x ≡ Some c) where
    abbrev Assigned : Flow → State → Type 0
    Assigned flow u = OnNext (HoldsAlike structs (length types) (value_assigned (slice_get types x) types x e f)) flow u

    set_so_if : (v : Value) (t : State) → HasLocals types t → HoldsAlike structs (length types) f t → IsRead structs types e v t → IsGivenTo structs (length types) c e v t → (old : Local) → slice_get t.locals x ≡ Some old → (test : Bool) → has_type old.type v ≡ test → WhereGiven Assigned (set_if test old x v t)
    set_so_if v t has h read given old there true typed =
        subst (λ o. HoldsAlike structs (length types) (value_assigned o types x e f) (with_local x old v t)) (sym is) (type_set known x e right v t has h read old there typed c is given)
    set_so_if v t has h read given old there false typed = tt

    set_so_over : (v : Value) (t : State) → HasLocals types t → HoldsAlike structs (length types) f t → IsRead structs types e v t → IsGivenTo structs (length types) c e v t → (o : Option Local) → slice_get t.locals x ≡ o → WhereGiven Assigned (set_over o x v t)
    set_so_over v t has h read given None there = tt
    set_so_over v t has h read given (Some old) there = set_so_if v t has h read given old there (has_type old.type v) refl

    pub set_so : (v : Value) (t : State) → HasLocals types t → HoldsAlike structs (length types) f t → IsRead structs types e v t → IsGivenTo structs (length types) c e v t → WhereGiven Assigned (set_local x v t)
    set_so v t has h read given = set_so_over v t has h read given (slice_get t.locals x) refl

-- ---- statements that go on

pub behind_any : {A B : Type 0} (Q : B → State → Type 0) (o : Result A) (next : A → State → Result B) → ((v : A) (s : State) → WhereGiven Q (next v s)) → WhereGiven Q (and_then o next)
behind_any {A = A} Q o next more = so_on (λ (v : A) (s : State). Unit {0}) Q o next (so_always (λ (v : A) (s : State). Unit {0}) o (λ v s. tt)) (λ v s _. more v s)

abbrev pub GoesOn : Flow → State → Type 0
GoesOn flow s = flow ≡ Next

set_goes : (x : ℕ) (v : Value) (s : State) → WhereGiven GoesOn (set_local x v s)
set_goes x v s = over (slice_get s.locals x)
  where
    on : (test : Bool) (old : Local) → WhereGiven GoesOn (set_if test old x v s)
    on true old = refl
    on false old = tt

    over : (o : Option Local) → WhereGiven GoesOn (set_over o x v s)
    over None = tt
    over (Some old) = on (has_type old.type v) old

store_goes : (type : CType) (site : Option Site) (at : ℕ × ℕ) (v : Value) (s : State) → WhereGiven GoesOn (store_at type site at v s)
store_goes type site at v s = over (cell_at s.blocks at.0 at.1)
  where
    on : (test : Bool) → WhereGiven GoesOn (store_if test site at.0 at.1 v s)
    on true = refl
    on false = tt

    over : (o : Option Cell) → WhereGiven GoesOn (store_over o type site v at.0 at.1 s)
    over None = tt
    over (Some old) = on (same_type type old.type && (has_type type v && leaves_zero (slice_get s.blocks at.0) at.1 v))

printed_goes : (v : Value) (s : State) → WhereGiven GoesOn (printed v s)
printed_goes (Number z) s = refl
printed_goes Null s = tt
printed_goes (At block byte) s = tt

put_goes : (v : Value) (s : State) → WhereGiven GoesOn (put v s)
put_goes (Number z) s = refl
put_goes Null s = tt
put_goes (At block byte) s = tt

result_goes : (o : Option Value) (s : State) → WhereGiven GoesOn (no_result o s)
result_goes None s = refl
result_goes (Some v) s = tt

on_next_of : (P : State → Type 0) (flow : Flow) (s : State) → flow ≡ Next → P s → OnNext P flow s
on_next_of P flow s e h = subst (λ flow. OnNext P flow s) (sym e) h

-- a statement that is no block, branch or loop, and leads on
abbrev pub IsPlain : List CType → core.Statement → Type 0
IsPlain types core.Nothing = Unit {0}
IsPlain types (core.SetLocal local value) = (c : CType) × (slice_get types local ≡ Some c)
IsPlain types (core.Store type place value) = Unit {0}
IsPlain types (core.UpdateLocal char local operator value site) = (c : CType) × (slice_get types local ≡ Some c) × (is_char c ≡ char)
IsPlain types (core.Update type place operator value site) = Unit {0}
IsPlain types (core.Evaluate value) = Unit {0}
IsPlain types (core.CallAlone callee arguments) = Unit {0}
IsPlain types (core.Print value) = Unit {0}
IsPlain types (core.PutByte value) = Unit {0}
IsPlain types (core.Block statements) = ⊥
IsPlain types (core.If condition consequent alternative) = ⊥
IsPlain types (core.Loop condition body step) = ⊥
IsPlain types (core.Return value) = ⊥
IsPlain types core.ReturnNothing = ⊥
IsPlain types core.Break = ⊥
IsPlain types core.Continue = ⊥

module _ (audited : Bool) (g : Setting) (k : Knot) (moves : KnotMoves audited g k) (structs known : List Structure) (types : List CType) (f : Knowledge) (flow : IsFlow f) (few : length types ≤ f.vars) where
  value_here : (e : core.Expression) (s : State) → WhereGiven (λ v t. IsAfter s t) (value audited g k e s)
  value_here e s = value_after audited g k moves.calls e s

  -- ---- what is read

  address_read : (e : core.Expression) (s : State) → WhereGiven (λ (v : Value) (t : State). is_address e ≡ true → v ≢ Null) (value audited g k e s)
  address_read (core.Number number) s = so_always (λ (v : Value) (t : State). is_address (core.Number number) ≡ true → v ≢ Null) (value audited g k (core.Number number) s) (λ v t h. absurd (cc))
  address_read core.Null s = so_always (λ (v : Value) (t : State). is_address core.Null ≡ true → v ≢ Null) (value audited g k core.Null s) (λ v t h. absurd (cc))
  address_read (core.Local x bounds) s = so_always (λ (v : Value) (t : State). is_address (core.Local x bounds) ≡ true → v ≢ Null) (value audited g k (core.Local x bounds) s) (λ v t h. absurd (cc))
  address_read (core.Load type place bounds) s = so_always (λ (v : Value) (t : State). is_address (core.Load type place bounds) ≡ true → v ≢ Null) (value audited g k (core.Load type place bounds) s) (λ v t h. absurd (cc))
  address_read (core.AddressOf p bounds) s =
      so_on (λ (v : Value) (t : State). v ≢ Null) (λ (v : Value) (t : State). true ≡ true → v ≢ Null) (and_then (place audited g k p s) pointer_to) (audit audited bounds)
      (behind_any (λ (v : Value) (t : State). v ≢ Null) (place audited g k p s) pointer_to (λ at t q. absurd (cc)))
      (λ v t h. audited_so (λ (v : Value) (t : State). true ≡ true → v ≢ Null) audited bounds v t (λ _. h))
  address_read (core.Negate operand site) s = so_always (λ (v : Value) (t : State). is_address (core.Negate operand site) ≡ true → v ≢ Null) (value audited g k (core.Negate operand site) s) (λ v t h. absurd (cc))
  address_read (core.Complement operand) s = so_always (λ (v : Value) (t : State). is_address (core.Complement operand) ≡ true → v ≢ Null) (value audited g k (core.Complement operand) s) (λ v t h. absurd (cc))
  address_read (core.Not operand) s = so_always (λ (v : Value) (t : State). is_address (core.Not operand) ≡ true → v ≢ Null) (value audited g k (core.Not operand) s) (λ v t h. absurd (cc))
  address_read (core.Arithmetic operator left right site) s = so_always (λ (v : Value) (t : State). is_address (core.Arithmetic operator left right site) ≡ true → v ≢ Null) (value audited g k (core.Arithmetic operator left right site) s) (λ v t h. absurd (cc))
  address_read (core.Compare comparison left right) s = so_always (λ (v : Value) (t : State). is_address (core.Compare comparison left right) ≡ true → v ≢ Null) (value audited g k (core.Compare comparison left right) s) (λ v t h. absurd (cc))
  address_read (core.Same left right) s = so_always (λ (v : Value) (t : State). is_address (core.Same left right) ≡ true → v ≢ Null) (value audited g k (core.Same left right) s) (λ v t h. absurd (cc))
  address_read (core.AndAlso left right) s = so_always (λ (v : Value) (t : State). is_address (core.AndAlso left right) ≡ true → v ≢ Null) (value audited g k (core.AndAlso left right) s) (λ v t h. absurd (cc))
  address_read (core.OrElse left right) s = so_always (λ (v : Value) (t : State). is_address (core.OrElse left right) ≡ true → v ≢ Null) (value audited g k (core.OrElse left right) s) (λ v t h. absurd (cc))
  address_read (core.LowByte operand) s = so_always (λ (v : Value) (t : State). is_address (core.LowByte operand) ≡ true → v ≢ Null) (value audited g k (core.LowByte operand) s) (λ v t h. absurd (cc))
  address_read (core.Call callee arguments bounds) s = so_always (λ (v : Value) (t : State). is_address (core.Call callee arguments bounds) ≡ true → v ≢ Null) (value audited g k (core.Call callee arguments bounds) s) (λ v t h. absurd (cc))
  address_read core.NextInput s = so_always (λ (v : Value) (t : State). is_address core.NextInput ≡ true → v ≢ Null) (value audited g k core.NextInput s) (λ v t h. absurd (cc))
  address_read (core.Sum pointer direction number site bounds) s = so_always (λ (v : Value) (t : State). is_address (core.Sum pointer direction number site bounds) ≡ true → v ≢ Null) (value audited g k (core.Sum pointer direction number site bounds) s) (λ v t h. absurd (cc))
  address_read (core.Order comparison left right site) s = so_always (λ (v : Value) (t : State). is_address (core.Order comparison left right site) ≡ true → v ≢ Null) (value audited g k (core.Order comparison left right site) s) (λ v t h. absurd (cc))
  address_read (core.Allocate count element terminator bounds) s = so_always (λ (v : Value) (t : State). is_address (core.Allocate count element terminator bounds) ≡ true → v ≢ Null) (value audited g k (core.Allocate count element terminator bounds) s) (λ v t h. absurd (cc))
  address_read (core.Length pointer site) s = so_always (λ (v : Value) (t : State). is_address (core.Length pointer site) ≡ true → v ≢ Null) (value audited g k (core.Length pointer site) s) (λ v t h. absurd (cc))
  address_read (core.Cast pointer bounds) s = so_always (λ (v : Value) (t : State). is_address (core.Cast pointer bounds) ≡ true → v ≢ Null) (value audited g k (core.Cast pointer bounds) s) (λ v t h. absurd (cc))

  abbrev IsLocalOf : core.Expression → Value → State → Type 0
  IsLocalOf e v t = (p : ℕ) → pointer_local types e ≡ Some p → (l : Local) → slice_get t.locals p ≡ Some l → l.value ≡ v

  -- what is moved, where it is a local pointer plus a constant
  abbrev pub IsMoving : CType → core.Expression → State → Type 0
  IsMoving c e s = WhereGiven (λ v t. IsBehind structs types e v t × IsGivenTo structs (length types) c e v t) (value audited g k e s)

  counted_read : (e : core.Expression) (s : State) → WhereGiven (IsCountOf e) (value audited g k e s)
  counted_read (core.Length (core.Local i b) site) s =
      so_further (IsLength i b) (IsCountOf (core.Length (core.Local i b) site)) (value audited g k (core.Length (core.Local i b) site) s) (length_read audited g k moves.calls types i b site s) (λ v t l j c at same. by v t l j c at same)
    where
      by : (v : Value) (t : State) → IsLength i b v t → (j : ℕ) (c : Option PointerBounds) (at : Site) → core.Length (core.Local i b) site ≡ core.Length (core.Local j c) at → IsLength j c v t
      by v t l j c at same = let first : i ≡ j = cc in let second : b ≡ c = cc in subst (λ i. IsLength i c v t) first (subst (λ b. IsLength i b v t) second l)
  counted_read e s = so_always (IsCountOf e) (value audited g k e s) (λ v t j c at same. absurd (cc))

  -- each of them
  abbrev IsReadSo : core.Expression → State → Value → State → Type 0
  IsReadSo e s v t =
      IsAfter s t × (IsOfTerm s.locals (term types e) v × (IsLocalOf e v t × ((is_null e ≡ true → v ≡ Null) × ((is_address e ≡ true → v ≢ Null) × (IsBehind structs types e v t × IsCountOf e v t)))))

  pub read_so : (e : core.Expression) (s : State) → WhereGiven (IsBehind structs types e) (value audited g k e s) → HaveTypes s.locals → HasLocals types s → WhereGiven (λ v t. IsAfter s t × IsRead structs types e v t) (value audited g k e s)
  read_so e s moving good has =
      so_further (IsReadSo e s) (λ v t. IsAfter s t × IsRead structs types e v t) (value audited g k e s)
      (so_both (λ v t. IsAfter s t) (λ v t. IsOfTerm s.locals (term types e) v × (IsLocalOf e v t × ((is_null e ≡ true → v ≡ Null) × ((is_address e ≡ true → v ≢ Null) × (IsBehind structs types e v t × IsCountOf e v t))))) (value audited g k e s) (value_here e s)
      (so_both (λ v t. IsOfTerm s.locals (term types e) v) (λ v t. IsLocalOf e v t × ((is_null e ≡ true → v ≡ Null) × ((is_address e ≡ true → v ≢ Null) × (IsBehind structs types e v t × IsCountOf e v t)))) (value audited g k e s) (term_so audited g k moves.calls types s.locals good has e s refl)
      (so_both (IsLocalOf e) (λ v t. (is_null e ≡ true → v ≡ Null) × ((is_address e ≡ true → v ≢ Null) × (IsBehind structs types e v t × IsCountOf e v t))) (value audited g k e s) (pointer_so audited g k moves.calls structs types e s)
      (so_both (λ v t. is_null e ≡ true → v ≡ Null) (λ v t. (is_address e ≡ true → v ≢ Null) × (IsBehind structs types e v t × IsCountOf e v t)) (value audited g k e s) (null_given audited g k moves.calls structs types e s)
      (so_both (λ v t. is_address e ≡ true → v ≢ Null) (λ v t. IsBehind structs types e v t × IsCountOf e v t) (value audited g k e s) (address_read e s)
      (so_both (IsBehind structs types e) (IsCountOf e) (value audited g k e s) moving (counted_read e s)))))))
      (λ v t x. (
        x.0,
        record {
          term = subst (λ ls. IsOfTerm ls (term types e) v) (sym x.0.1) x.1.0;
          local = x.1.1.0;
          null = x.1.1.1.0;
          address = x.1.1.1.1.0;
          moved = x.1.1.1.1.1.0;
          counted = x.1.1.1.1.1.1;
        },
      ))

  -- ---- what is known behind them

  pub goes_on : (x : core.Statement) → IsPlain types x → (s : State) → WhereGiven GoesOn (effect audited g k x s)
  goes_on core.Nothing plain s = refl
  goes_on (core.SetLocal x e) plain s = behind_any GoesOn (value audited g k e s) (set_local x) (λ v t. set_goes x v t)
  goes_on (core.Store type p e) plain s =
      behind_any GoesOn (target_of audited g k p s) _ (λ q t. behind_any GoesOn (value audited g k e t) _ (λ v u. behind_any GoesOn (place_from p q u) _
      (λ at w. behind_any GoesOn (storable p q v w) _ (λ _ x. store_goes type (site_of p) at v x))))
  goes_on (core.UpdateLocal char x operator e site) plain s =
      behind_any GoesOn (given (slice_get s.locals x) s) _ (λ old t. behind_any GoesOn (value audited g k e t) _ (λ v u. behind_any GoesOn (arithmetic_of operator site old v u) _ (λ new w. behind_any GoesOn (kept_if char new w) (set_local x) (λ last y. set_goes x last y))))
  goes_on (core.Update type p operator e site) plain s =
      behind_any GoesOn (target_of audited g k p s) _ (λ q t. behind_any GoesOn (place_from p q t) _ (λ at u. behind_any GoesOn (load_at type (Some site) at u) _ (λ old w. behind_any GoesOn (value audited g k e w) _
      (λ v x. behind_any GoesOn (arithmetic_of operator site old v x) _ (λ new y. behind_any GoesOn (kept_if (is_char type) new y) _
      (λ last z. behind_any GoesOn (storable p q last z) _ (λ _ done. store_goes type (Some site) at last done)))))))
  goes_on (core.Evaluate e) plain s = behind_any GoesOn (value audited g k e s) _ (λ v t. refl)
  goes_on (core.CallAlone callee arguments) plain s = behind_any GoesOn (values audited g k arguments s) _ (λ vs t. behind_any GoesOn (called g k callee vs t) no_result (λ v u. result_goes v u))
  goes_on (core.Print e) plain s = behind_any GoesOn (value audited g k e s) printed (λ v t. printed_goes v t)
  goes_on (core.PutByte e) plain s = behind_any GoesOn (value audited g k e s) put (λ v t. put_goes v t)
  goes_on (core.Block xs) plain s = absurd plain
  goes_on (core.If c x y) plain s = absurd plain
  goes_on (core.Loop c x y) plain s = absurd plain
  goes_on (core.Return e) plain s = absurd plain
  goes_on core.ReturnNothing plain s = absurd plain
  goes_on core.Break plain s = absurd plain
  goes_on core.Continue plain s = absurd plain

  -- where no variable changes of which the flow speaks
  unchanged : (may : ℕ → Bool) (x : core.Statement) → IsPlain types x → AssignsOnly may x → (s : State) → ((y : ℕ) → IsTracked (length types) s y → may y ≡ false) → HoldsAlike structs (length types) f s → WhereGiven (OnNext (HoldsAlike structs (length types) f)) (effect audited g k x s)
  unchanged may x plain only s spared h =
      so_further (λ flow u. GoesOn flow u × IsMovedTo may s u) (OnNext (HoldsAlike structs (length types) f)) (effect audited g k x s)
      (so_both GoesOn (λ flow u. IsMovedTo may s u) (effect audited g k x s) (goes_on x plain s) (effect_moves audited g k moves may x s only))
      (λ flow' u x. on_next_of (HoldsAlike structs (length types) f) flow' u x.0 (holds_moved structs (length types) f flow may s u x.1 spared h))

  nothing_assigned : (x : core.Statement) → IsPlain types x → AssignsOnly (λ y. false) x → (s : State) → HoldsAlike structs (length types) f s → WhereGiven (OnNext (HoldsAlike structs (length types) f)) (effect audited g k x s)
  nothing_assigned x plain only s h = unchanged (λ y. false) x plain only s (λ y tracked. refl) h

  set_local_so : (x : ℕ) (e : core.Expression) → IsRightLength known types f e → (c : CType) → slice_get types x ≡ Some c → (s : State) → IsMoving c e s → HasLocals types s → HoldsAlike structs (length types) f s
      → WhereGiven (OnNext (HoldsAlike structs (length types) (value_assigned (slice_get types x) types x e f))) (effect audited g k (core.SetLocal x e) s)
  set_local_so x e right c is s moving has h =
      so_on (λ v t. (IsAfter s t × IsRead structs types e v t) × IsGivenTo structs (length types) c e v t) (OnNext (HoldsAlike structs (length types) (value_assigned (slice_get types x) types x e f))) (value audited g k e s) (set_local x)
      (so_both (λ v t. IsAfter s t × IsRead structs types e v t) (IsGivenTo structs (length types) c e) (value audited g k e s)
      (read_so e s (so_further (λ v t. IsBehind structs types e v t × IsGivenTo structs (length types) c e v t) (IsBehind structs types e) (value audited g k e s) moving (λ v t m. m.0)) (types_alike structs (length types) f s h) has)
      (so_further (λ v t. IsBehind structs types e v t × IsGivenTo structs (length types) c e v t) (IsGivenTo structs (length types) c e) (value audited g k e s) moving (λ v t m. m.1)))
      (λ v t r. set_so structs types f flow few known x e right c is v t (has_after types s t r.0.0 has) (holds_after structs (length types) f s t flow r.0.0 h) r.0.1 r.1)

  -- an update that keeps no byte is an assignment
  update_is : (x : ℕ) (operator : Operator) (e : core.Expression) (site : Site) (s : State) → effect audited g k (core.UpdateLocal false x operator e site) s ≡ effect audited g k (core.SetLocal x (core.Arithmetic operator (core.Local x None) e site)) s
  update_is x operator e site s = by (slice_get s.locals x) refl
    where
      by : (o : Option Local) → slice_get s.locals x ≡ o → effect audited g k (core.UpdateLocal false x operator e site) s ≡ effect audited g k (core.SetLocal x (core.Arithmetic operator (core.Local x None) e site)) s
      by None there = rw there refl
      by (Some old) there = rw there (sym (and_then-and_then (value audited g k e s) (arithmetic_of operator site old.value) (set_local x)))

  update_so : (x : ℕ) (operator : Operator) (e : core.Expression) (site : Site) (c : CType) (char : Bool) → slice_get types x ≡ Some c → is_char c ≡ char → (s : State) → HasLocals types s → HoldsAlike structs (length types) f s
      → WhereGiven (OnNext (HoldsAlike structs (length types) (value_assigned (slice_get types x) types x (core.Arithmetic operator (core.Local x None) e site) f))) (effect audited g k (core.UpdateLocal char x operator e site) s)
  update_so x operator e site c false is fits s has h =
      subst (λ o. WhereGiven (OnNext (HoldsAlike structs (length types) (value_assigned (slice_get types x) types x (core.Arithmetic operator (core.Local x None) e site) f))) o) (sym (update_is x operator e site s))
      (set_local_so x (core.Arithmetic operator (core.Local x None) e site) tt c is s (so_always (λ v t. IsBehind structs types (core.Arithmetic operator (core.Local x None) e site) v t × IsGivenTo structs (length types) c (core.Arithmetic operator (core.Local x None) e site) v t) (value audited g k (core.Arithmetic operator (core.Local x None) e site) s)
      (λ v t. ((λ b q. absurd (cc)), none_given_to structs (length types) c (core.Arithmetic operator (core.Local x None) e site) v t refl refl))) has h)
  update_so x operator e site Char true is fits s has h =
      subst (λ o. WhereGiven (OnNext (HoldsAlike structs (length types) (value_assigned o types x (core.Arithmetic operator (core.Local x None) e site) f))) (effect audited g k (core.UpdateLocal true x operator e site) s)) (sym is)
      (unchanged (λ y. y == x) (core.UpdateLocal true x operator e site) (Char, is, refl) (itself_equal x) s (char_untracked types x is s has) h)
  update_so x operator e site Int true is fits s has h = absurd (cc)
  update_so x operator e site (Struct n) true is fits s has h = absurd (cc)
  update_so x operator e site (Pointer mode kind target) true is fits s has h = absurd (cc)

  -- of a statement, what it assigns to a pointer
  abbrev pub AreMoving : core.Statement → State → Type 0
  AreMoving core.Nothing s = Unit {0}
  AreMoving (core.SetLocal local value) s = (c : CType) → slice_get types local ≡ Some c → IsMoving c value s
  AreMoving (core.Store type place value) s = Unit {0}
  AreMoving (core.UpdateLocal char local operator value site) s = Unit {0}
  AreMoving (core.Update type place operator value site) s = Unit {0}
  AreMoving (core.Evaluate value) s = Unit {0}
  AreMoving (core.CallAlone callee arguments) s = Unit {0}
  AreMoving (core.Print value) s = Unit {0}
  AreMoving (core.PutByte value) s = Unit {0}
  AreMoving (core.Block statements) s = Unit {0}
  AreMoving (core.If condition consequent alternative) s = Unit {0}
  AreMoving (core.Loop condition body step) s = Unit {0}
  AreMoving (core.Return value) s = Unit {0}
  AreMoving core.ReturnNothing s = Unit {0}
  AreMoving core.Break s = Unit {0}
  AreMoving core.Continue s = Unit {0}

  pub plain_so : (x : core.Statement) → IsPlain types x → IsRight known types f x → (s : State) → AreMoving x s → HasLocals types s → HoldsAlike structs (length types) f s → WhereGiven (OnNext (HoldsAlike structs (length types) (assigned_by types x f))) (effect audited g k x s)
  plain_so core.Nothing plain right s moving has h = nothing_assigned core.Nothing plain tt s h
  plain_so (core.SetLocal x e) plain right s moving has h = set_local_so x e right plain.0 plain.1 s (moving plain.0 plain.1) has h
  plain_so (core.Store type p e) plain right s moving has h = nothing_assigned (core.Store type p e) plain tt s h
  plain_so (core.UpdateLocal char x operator e site) plain right s moving has h = update_so x operator e site plain.0 char plain.1 plain.2 s has h
  plain_so (core.Update type p operator e site) plain right s moving has h = nothing_assigned (core.Update type p operator e site) plain tt s h
  plain_so (core.Evaluate e) plain right s moving has h = nothing_assigned (core.Evaluate e) plain tt s h
  plain_so (core.CallAlone callee arguments) plain right s moving has h = nothing_assigned (core.CallAlone callee arguments) plain tt s h
  plain_so (core.Print e) plain right s moving has h = nothing_assigned (core.Print e) plain tt s h
  plain_so (core.PutByte e) plain right s moving has h = nothing_assigned (core.PutByte e) plain tt s h
  plain_so (core.Block xs) plain right s moving has h = absurd plain
  plain_so (core.If c x y) plain right s moving has h = absurd plain
  plain_so (core.Loop c x y) plain right s moving has h = absurd plain
  plain_so (core.Return e) plain right s moving has h = absurd plain
  plain_so core.ReturnNothing plain right s moving has h = absurd plain
  plain_so core.Break plain right s moving has h = absurd plain
  plain_so core.Continue plain right s moving has h = absurd plain
