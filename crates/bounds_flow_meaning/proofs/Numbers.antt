-- Local variables, their numbers, and what terms come to.
use Rattle.std.proofs.Common.{ℕ, zero, suc, ◌≡◌, ◌≢◌, ℤ, pos, ◌+ℤ◌, ◌-ℤ◌, Bool, true, false, cond, ◌==◌, Option, None, Some, List, [], ◌∷◌, set, refl, sym, ap, ◌∙◌, subst, arith, ◌⊎◌, inl, inr}
use Rattle.std.specs.Prelude.{slice_get}
use Rattle.std.proofs.lemmas.Int.{ints}
use Rattle.std.proofs.lemmas.Option.{same_Some, cond_some}
use Rattle.std.proofs.lemmas.Bool.{cases_eq}
use Rattle.std.proofs.lemmas.Bool.Decides.{nat_tests}
use Rattle.bounds_exprs.specs.declared.term.Term.{Term}
use Rattle.bounds_exprs.specs.Terms.{is_var, is_within, term_limit, within_limit}
use Rattle.bounds_exprs.specs.Changes.{lowered}
use Rattle.subsumption.specs.Facts.{value_of, term_value as value}
use Rattle.pointer_modes.specs.Types.{CType, Int, Char, Struct, Pointer}
use Rattle.ckc_core.specs.States.{Value, Number, Null, At, Local, has_type}
use Rattle.ckc_core.specs.Bounds.{term_value, base_byte}
use Rattle.bounds_flow_meaning.specs.Holding.{IsInt, HaveTypes, numbers_in, types_of}
use Rattle.bounds_flow_meaning.specs.Laws.{IsPointer}

-- ---- lists

get-set_same : {X : Type 0} (xs : List X) (k : ℕ) (old new : X) → slice_get xs k ≡ Some old → slice_get (set xs k new) k ≡ Some new
get-set_same [] k old new h = absurd (cc)
get-set_same (x ∷ xs) zero old new h = refl
get-set_same (x ∷ xs) (suc k) old new h = get-set_same xs k old new h

get-set_other : {X : Type 0} (xs : List X) (k j : ℕ) (new : X) → j ≢ k → slice_get (set xs k new) j ≡ slice_get xs j
get-set_other [] k j new ne = refl
get-set_other (x ∷ xs) zero zero new ne = absurd (ne refl)
get-set_other (x ∷ xs) zero (suc j) new ne = refl
get-set_other (x ∷ xs) (suc k) zero new ne = refl
get-set_other (x ∷ xs) (suc k) (suc j) new ne = get-set_other xs k j new (λ e. ne (ap suc e))

pub same_number : (x y : ℕ) → (x == y) ≡ true → x ≡ y
same_number x y h = grind (arith, nat_tests)

pub other_number : (x y : ℕ) → (x == y) ≡ false → x ≢ y
other_number x y h = λ e. grind (arith, nat_tests)

-- ---- values and types

pub record IsNumber (v : Value) : Type 0 where
  pub number : ℤ
  pub is : v ≡ Number number

-- a type has numbers or pointers as its values
pub number_too : (t : CType) (z : ℤ) (v : Value) → has_type t (Number z) ≡ true → has_type t v ≡ true → IsNumber v
number_too Int z (Number y) h k = record { number = y; is = refl }
number_too Int z Null h k = absurd (cc)
number_too Int z (At block byte) h k = absurd (cc)
number_too Char z (Number y) h k = record { number = y; is = refl }
number_too Char z Null h k = absurd (cc)
number_too Char z (At block byte) h k = absurd (cc)
number_too (Struct n) z v h k = absurd (cc)
number_too (Pointer mode kind target) z v h k = absurd (cc)

pub pointer_too : (t : CType) (v w : Value) → IsPointer v → has_type t v ≡ true → has_type t w ≡ true → IsPointer w
pointer_too t (Number z) w p h k = absurd p
pointer_too Int Null w p h k = absurd (cc)
pointer_too Int (At block byte) w p h k = absurd (cc)
pointer_too Char Null w p h k = absurd (cc)
pointer_too Char (At block byte) w p h k = absurd (cc)
pointer_too (Struct n) Null w p h k = absurd (cc)
pointer_too (Struct n) (At block byte) w p h k = absurd (cc)
pointer_too (Pointer mode kind target) v (Number z) p h k = absurd (cc)
pointer_too (Pointer mode kind target) v Null p h k = tt
pointer_too (Pointer mode kind target) v (At block byte) p h k = tt

pub type_there : (locals : List Local) (x : ℕ) (l : Local) → slice_get locals x ≡ Some l → slice_get (types_of locals) x ≡ Some l.type
type_there [] x l h = absurd (cc)
type_there (k ∷ locals) zero l h = ap Some (ap (λ (k : Local). k.type) (same_Some k l h))
type_there (k ∷ locals) (suc x) l h = type_there locals x l h

pub record IsLocal (locals : List Local) (x : ℕ) (t : CType) : Type 0 where
  pub local : Local
  pub there : slice_get locals x ≡ Some local
  pub type : local.type ≡ t

pub local_there : (locals : List Local) (x : ℕ) (t : CType) → slice_get (types_of locals) x ≡ Some t → IsLocal locals x t
local_there [] x t h = absurd (cc)
local_there (k ∷ locals) zero t h = record { local = k; there = refl; type = same_Some k.type t h }
local_there (k ∷ locals) (suc x) t h = let l = local_there locals x t h in record { local = l.local; there = l.there; type = l.type }

-- ---- numbers

pub numbers_there : (locals : List Local) (x : ℕ) (l : Local) (z : ℤ) → slice_get locals x ≡ Some l → l.value ≡ Number z → numbers_in locals x ≡ z
numbers_there locals x l z e v = rw (e, v) refl

pub zero_there : (locals : List Local) (x : ℕ) (l : Local) → slice_get locals x ≡ Some l → IsPointer l.value → numbers_in locals x ≡ pos 0
zero_there locals x l e p = by l.value refl p
  where
    by : (v : Value) → l.value ≡ v → IsPointer v → numbers_in locals x ≡ pos 0
    by (Number z) q h = absurd h
    by Null q h = rw (e, q) refl
    by (At block byte) q h = rw (e, q) refl

-- ---- terms

-- a term of a variable that holds a number has one
pub term_there : (locals : List Local) (x : ℕ) (l : Local) (z plus : ℤ) → slice_get locals x ≡ Some l → l.value ≡ Number z
    → term_value (record { var = Some x; plus = plus }) locals ≡ Some (z +ℤ plus)
term_there locals x l z plus e v = rw (e, v) refl

pub no_term : (locals : List Local) (x : ℕ) (l : Local) (plus : ℤ) → slice_get locals x ≡ Some l → IsPointer l.value → term_value (record { var = Some x; plus = plus }) locals ≡ None
no_term locals x l plus e p = by l.value refl p
  where
    by : (v : Value) → l.value ≡ v → IsPointer v → term_value (record { var = Some x; plus = plus }) locals ≡ None
    by (Number z) q h = absurd h
    by Null q h = rw (e, q) refl
    by (At block byte) q h = rw (e, q) refl

none_some : (o : Option ℤ) (z : ℤ) → o ≡ None → o ≡ Some z → ⊥
none_some o z p q = cc

-- a variable of which a term has a number holds one
record HasNumber (locals : List Local) (x : ℕ) : Type 0 where
  pub local : Local
  pub number : ℤ
  pub there : slice_get locals x ≡ Some local
  pub is : local.value ≡ Number number

has_number : (locals : List Local) (x : ℕ) (plus z : ℤ) → term_value (record { var = Some x; plus = plus }) locals ≡ Some z → HasNumber locals x
has_number locals x plus z h = by (slice_get locals x) refl
  where
    by_value : (l : Local) (v : Value) → slice_get locals x ≡ Some l → l.value ≡ v → HasNumber locals x
    by_value l (Number y) e q = record { local = l; number = y; there = e; is = q }
    by_value l Null e q = absurd (none_some (term_value (record { var = Some x; plus = plus }) locals) z (no_term locals x l plus e (subst IsPointer (sym q) tt)) h)
    by_value l (At block byte) e q = absurd (none_some (term_value (record { var = Some x; plus = plus }) locals) z (no_term locals x l plus e (subst IsPointer (sym q) tt)) h)

    by : (o : Option Local) → slice_get locals x ≡ o → HasNumber locals x
    by None e = let none : None ≡ Some z = rw e at h in absurd (cc)
    by (Some l) e = by_value l l.value e refl

term_number_by : (locals : List Local) (o : Option ℕ) (plus z : ℤ) → term_value (record { var = o; plus = plus }) locals ≡ Some z → value_of (numbers_in locals) o +ℤ plus ≡ z
term_number_by locals None plus z h = same_Some (pos 0 +ℤ plus) z h
term_number_by locals (Some x) plus z h =
    let n = has_number locals x plus z h in
    ap (λ y. y +ℤ plus) (numbers_there locals x n.local n.number n.there n.is) ∙ same_Some (n.number +ℤ plus) z (sym (term_there locals x n.local n.number plus n.there n.is) ∙ h)

-- with a larger constant it has a larger number
pub term_raised : (locals : List Local) (o : Option ℕ) (plus k z : ℤ) → term_value (record { var = o; plus = plus }) locals ≡ Some z
    → term_value (record { var = o; plus = plus +ℤ k }) locals ≡ Some (z +ℤ k)
term_raised locals None plus k z h =
    let e : pos 0 +ℤ plus ≡ z = same_Some (pos 0 +ℤ plus) z h in ap Some (let q : pos 0 +ℤ (plus +ℤ k) ≡ z +ℤ k = omega (arith, ints, e) in q)
term_raised locals (Some x) plus k z h =
    let n = has_number locals x plus z h in
    let e : n.number +ℤ plus ≡ z = same_Some (n.number +ℤ plus) z (sym (term_there locals x n.local n.number plus n.there n.is) ∙ h) in
    term_there locals x n.local n.number (plus +ℤ k) n.there n.is ∙ ap Some (let q : n.number +ℤ (plus +ℤ k) ≡ z +ℤ k = omega (arith, ints, e) in q)

-- its number is the one over the numbers of all variables
pub term_number : (locals : List Local) (t : Term) (z : ℤ) → term_value t locals ≡ Some z → value (numbers_in locals) t ≡ z
term_number locals t z h = term_number_by locals t.var t.plus z h

int_held : (t : CType) (v : Value) → t ≡ Int → has_type t v ≡ true → IsNumber v
int_held Int (Number z) e h = record { number = z; is = refl }
int_held Int Null e h = absurd (cc)
int_held Int (At block byte) e h = absurd (cc)
int_held Char v e h = absurd (cc)
int_held (Struct n) v e h = absurd (cc)
int_held (Pointer mode kind target) v e h = absurd (cc)

held_term : (locals : List Local) (x : ℕ) (l : Local) (z plus : ℤ) → slice_get locals x ≡ Some l → l.value ≡ Number z
    → term_value (record { var = Some x; plus = plus }) locals ≡ Some (numbers_in locals x +ℤ plus)
held_term locals x l z plus e v = term_there locals x l z plus e v ∙ ap (λ z. Some (z +ℤ plus)) (sym (numbers_there locals x l z e v))

int_term_by : (locals : List Local) (o : Option ℕ) (plus : ℤ) → HaveTypes locals → IsInt (types_of locals) o → term_value (record { var = o; plus = plus }) locals ≡ Some (value_of (numbers_in locals) o +ℤ plus)
int_term_by locals None plus types is = refl
int_term_by locals (Some x) plus types is =
    let l = local_there locals x Int is in
    let n = int_held l.local.type l.local.value l.type (types x l.local l.there) in
    held_term locals x l.local n.number plus l.there n.is

-- a term of an `int` variable has a number
pub int_term : (locals : List Local) (t : Term) → HaveTypes locals → IsInt (types_of locals) t.var → term_value t locals ≡ Some (value (numbers_in locals) t)
int_term locals t types is = int_term_by locals t.var t.plus types is

-- ---- another value in a variable

abbrev pub replaced : List Local → ℕ → Local → Value → List Local
replaced locals x old v = set locals x (record old { value = v })

module _ (locals : List Local) (x : ℕ) (old : Local) (v : Value) (there : slice_get locals x ≡ Some old) where
  pub found_same : slice_get (replaced locals x old v) x ≡ Some (record old { value = v })
  found_same = get-set_same locals x old (record old { value = v }) there

  pub found_other : (q : ℕ) → q ≢ x → slice_get (replaced locals x old v) q ≡ slice_get locals q
  found_other q ne = get-set_other locals x q (record old { value = v }) ne

  pub looked_up : (q : ℕ) (l : Local) → slice_get (replaced locals x old v) q ≡ Some l
      → ((q ≡ x) × (l ≡ record old { value = v })) ⊎ ((q ≢ x) × (slice_get locals q ≡ Some l))
  looked_up q l h = elim (cases_eq q x) [
    | inl same ↦ inl (same, same_Some l (record old { value = v }) (sym h ∙ (ap (slice_get (replaced locals x old v)) same ∙ found_same)))
    | inr ne ↦ inr (ne, sym (found_other q ne) ∙ h)
  ]

  pub same_types : types_of (replaced locals x old v) ≡ types_of locals
  same_types = by locals x there
    where
      by : (locals : List Local) (x : ℕ) → slice_get locals x ≡ Some old → types_of (replaced locals x old v) ≡ types_of locals
      by [] x h = refl
      by (l ∷ locals) zero h = ap (λ (t : CType). t ∷ types_of locals) (ap (λ (k : Local). k.type) (sym (same_Some l old h)))
      by (l ∷ locals) (suc x) h = ap (λ ts. l.type ∷ ts) (by locals x h)

  pub still_types : has_type old.type v ≡ true → HaveTypes locals → HaveTypes (replaced locals x old v)
  still_types is types q l h = elim (looked_up q l h) [
    | inl same ↦ subst (λ (l : Local). has_type l.type l.value ≡ true) (sym same.1) is
    | inr other ↦ types q l other.1
  ]

  -- terms and bases that don't name it
  other_term_by : (o : Option ℕ) (plus : ℤ) → is_var x o ≡ false
      → term_value (record { var = o; plus = plus }) (replaced locals x old v) ≡ term_value (record { var = o; plus = plus }) locals
  other_term_by None plus e = refl
  other_term_by (Some y) plus e = rw (found_other y (other_number y x e)) refl

  pub other_term : (t : Term) → is_var x t.var ≡ false → term_value t (replaced locals x old v) ≡ term_value t locals
  other_term t e = other_term_by t.var t.plus e

  pub other_base : (o : Option ℕ) (block byte : ℕ) → is_var x o ≡ false → base_byte o (replaced locals x old v) block byte ≡ base_byte o locals block byte
  other_base None block byte e = refl
  other_base (Some y) block byte e = rw (found_other y (other_number y x e)) refl

  pub other_numbers : (y : ℕ) → y ≢ x → numbers_in (replaced locals x old v) y ≡ numbers_in locals y
  other_numbers y ne = rw (found_other y ne) refl

  -- a number in the place of a number leads nowhere, as before
  pub number_base : IsNumber old.value → IsNumber v → (o : Option ℕ) (block byte : ℕ) → base_byte o (replaced locals x old v) block byte ≡ base_byte o locals block byte
  number_base was is o block byte = by (is_var x o) refl o refl
    where
      none : (locals : List Local) (l : Local) → slice_get locals x ≡ Some l → IsNumber l.value → base_byte (Some x) locals block byte ≡ None
      none locals l e n = rw (e, n.is) refl

      by : (b : Bool) → is_var x o ≡ b → (p : Option ℕ) → o ≡ p → base_byte o (replaced locals x old v) block byte ≡ base_byte o locals block byte
      by false e p q = other_base o block byte e
      by true e None q = ap (λ o. base_byte o (replaced locals x old v) block byte) q ∙ sym (ap (λ o. base_byte o locals block byte) q)
      by true e (Some y) q =
          let same : o ≡ Some x = q ∙ ap Some (same_number y x (sym (ap (is_var x) q) ∙ e)) in
          let now : base_byte (Some x) (replaced locals x old v) block byte ≡ None = none (replaced locals x old v) (record old { value = v }) found_same is in
          let before : base_byte (Some x) locals block byte ≡ None = none locals old there was in
          subst (λ o. base_byte o (replaced locals x old v) block byte ≡ base_byte o locals block byte) (sym same) (now ∙ sym before)

  -- a pointer in the place of a pointer is no number, as before
  pointer_term_by : IsPointer old.value → IsPointer v → (o : Option ℕ) (plus : ℤ)
      → term_value (record { var = o; plus = plus }) (replaced locals x old v) ≡ term_value (record { var = o; plus = plus }) locals
  pointer_term_by was is None plus = refl
  pointer_term_by was is (Some y) plus = elim (cases_eq y x) [
    | inl same ↦ (
        let here : term_value (record { var = Some x; plus = plus }) (replaced locals x old v) ≡ term_value (record { var = Some x; plus = plus }) locals =
        no_term (replaced locals x old v) x (record old { value = v }) plus found_same is ∙ sym (no_term locals x old plus there was) in
        subst (λ y. term_value (record { var = Some y; plus = plus }) (replaced locals x old v) ≡ term_value (record { var = Some y; plus = plus }) locals) (sym same) here)
    | inr ne ↦ rw (found_other y ne) refl
  ]

  pub pointer_term : IsPointer old.value → IsPointer v → (t : Term) → term_value t (replaced locals x old v) ≡ term_value t locals
  pointer_term was is t = pointer_term_by was is t.var t.plus

  pub pointer_numbers : IsPointer old.value → IsPointer v → (y : ℕ) → numbers_in (replaced locals x old v) y ≡ numbers_in locals y
  pointer_numbers was is y = elim (cases_eq y x) [
    | inl same ↦ (
        let here : numbers_in (replaced locals x old v) x ≡ numbers_in locals x =
        zero_there (replaced locals x old v) x (record old { value = v }) found_same is ∙ sym (zero_there locals x old there was) in
        subst (λ y. numbers_in (replaced locals x old v) y ≡ numbers_in locals y) (sym same) here)
    | inr ne ↦ other_numbers y ne
  ]

-- ---- shifts

limited : (var : Option ℕ) (plus : ℤ) (t : Term) → within_limit var plus ≡ Some t → record { var = var; plus = plus } ≡ t
limited var plus t e = (cond_some (is_within term_limit plus) (record { var = var; plus = plus }) t e).1

pub limited_value : (locals : List Local) (var : Option ℕ) (plus : ℤ) (t : Term) → within_limit var plus ≡ Some t → term_value t locals ≡ term_value (record { var = var; plus = plus }) locals
limited_value locals var plus t e = ap (λ t. term_value t locals) (sym (limited var plus t e))

-- after c was added to a variable, a term in which it is lowered by c comes to what the term came to
module _ (locals : List Local) (x : ℕ) (old : Local) (y c : ℤ) (there : slice_get locals x ≡ Some old) (was : old.value ≡ Number y) where
  abbrev after : List Local
  after = replaced locals x old (Number (y +ℤ c))

  lowered_here : (plus : ℤ) → term_value (record { var = Some x; plus = plus -ℤ c }) after ≡ term_value (record { var = Some x; plus = plus }) locals
  lowered_here plus =
      let q : (y +ℤ c) +ℤ (plus -ℤ c) ≡ y +ℤ plus = omega (arith, ints) in
      term_there after x (record old { value = Number (y +ℤ c) }) (y +ℤ c) (plus -ℤ c) (found_same locals x old (Number (y +ℤ c)) there) refl
      ∙ (ap Some q ∙ sym (term_there locals x old y plus there was))

  lowered_by : (o : Option ℕ) (plus : ℤ) (b : Bool) → is_var x o ≡ b
      → term_value (record { var = o; plus = plus -ℤ cond b c (pos 0) }) after ≡ term_value (record { var = o; plus = plus }) locals
  lowered_by None plus true e = absurd (cc)
  lowered_by (Some w) plus true e =
      subst (λ w. term_value (record { var = Some w; plus = plus -ℤ c }) after ≡ term_value (record { var = Some w; plus = plus }) locals) (sym (same_number w x e)) (lowered_here plus)
  lowered_by o plus false e =
      let q : plus -ℤ pos 0 ≡ plus = omega (arith, ints) in
      ap (λ p. term_value (record { var = o; plus = p }) after) q ∙ other_term locals x old (Number (y +ℤ c)) there (record { var = o; plus = plus }) e

  pub lowered_value : (t u : Term) → lowered x c t ≡ Some u → term_value u (replaced locals x old (Number (y +ℤ c))) ≡ term_value t locals
  lowered_value t u e = limited_value after t.var (t.plus -ℤ cond (is_var x t.var) c (pos 0)) u e ∙ lowered_by t.var t.plus (is_var x t.var) refl
