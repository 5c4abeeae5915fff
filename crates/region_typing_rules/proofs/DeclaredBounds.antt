-- The bounds that are declared for a local speak of `int` locals, count from the pointer itself or from one like it, and have small
-- constants.
use Rattle.std.proofs.Common.{◌≡◌, ℕ, zero, suc, ◌<◌, ◌≤◌, ℤ, pos, ◌≤ℤ◌, Bool, true, false, List, [], ◌∷◌, ◌++◌, length, Option, Some, None, refl, subst, arith}
use Rattle.std.specs.Prelude.{◌==◌, ◌&&◌, nat_lt, ◌^◌, neg_ℤ, slice_get, cond, is_none}
use Rattle.std.specs.Int.Signed.{le_z}
use Rattle.std.specs.Int.{int_div_euclid}
use Rattle.std.proofs.lemmas.Int.{ints}
use Rattle.std.proofs.lemmas.Bool.{and_from, and_parts, ltb-true}
use Rattle.std.proofs.lemmas.Option.{slice_get_within}
use Rattle.ckc_text.specs.declared.place.Span.{Span}
use Rattle.ckc_text.specs.declared.code.Code.TheVariants.{E16}
use Rattle.ckc_tree.specs.declared.expr.BinaryOperator.{BinaryOperator}
use Rattle.ckc_tree.specs.declared.expr.BinaryOperator.TheVariants as binary
use Rattle.ckc_tree.specs.Expressions as e
use Rattle.ckc_tree.specs.Expressions.{Expression, Expressions, bounds_span}
use Rattle.bounds_exprs.specs.declared.term.Term.{Term}
use Rattle.bounds_exprs.specs.declared.term.Bounds.{Bounds}
use Rattle.bounds_exprs.specs.Terms.{is_within, term_limit, within_limit}
use Rattle.bounds_exprs.specs.Sums as sums
use Rattle.bounds_exprs.specs.Sums.{Sum, variables_of, constant_of, is_term, term_of}
use Rattle.bounds_exprs.specs.Normal as normal
use Rattle.bounds_exprs.specs.Normal.{How, End, constant, is_element_size, elements_in, elements_of, pointer_of, negated, end_at, end_of, is_same, bounds_within, counted, paired, bounds_of}
use Rattle.subsumption.specs.Facts.{IsBelow}
use Rattle.pointer_modes.specs.declared.ctype.Mode.{Mode}
use Rattle.pointer_modes.specs.declared.ctype.Kind.{Kind}
use Rattle.pointer_modes.specs.declared.ctype.Kind.TheVariants as kinds
use Rattle.pointer_modes.specs.Types.{CType, Int, Char, Struct, Pointer, Structure}
use Rattle.pointer_modes.specs.Layout.{size_of}
use Rattle.bounds_flow.specs.Conditions.{AreBoundsBelow}
use Rattle.bounds_flow_meaning.specs.Holding.{IsInt, AreInts}
use Rattle.bounds_flow_meaning.proofs.Validity.{both_true, int_from, int_to}
use Rattle.ckc_core.specs.States.{same_mode, same_type}
use Rattle.region_typing_rules.specs.Verdicts.{Verdict, Passes, Stops, passing, needs, picked}
use Rattle.region_typing_rules.specs.Scopes.{Scope}
use Rattle.region_typing_rules.specs.Types.{Counts, type_named, is_number, is_row}
use Rattle.region_typing_rules.specs.Knowing.{local_number}
use Rattle.region_typing_rules.specs.KnownIsSo.{AreLimited}
use Rattle.region_typing_rules.specs.DeclaredBounds.{Bounded, local_sum, name_sum, operation_sum, sum_written, all_written, parts_written, how_written, normal_bounds, row_of, unwritten_bounds, bounded_of, declared_bounds}
use Rattle.region_typing_rules.specs.DeclaredFormed.{IsFormedIf, DeclaredFormed}
use Rattle.region_typing_rules.specs.Typed.{AreConstant}
use Rattle.region_typing_rules.proofs.Verdicts.{Promises, passing_promises, needs_promises, anything_promised, promised_so, promise_kept}
use Rattle.region_typing_rules.proofs.SameTypes.{mode_equal, same_equal}

-- what is so of both is so of the one that a test chooses
chosen : {A : Type 0} (P : A → Type 0) (test : Bool) (x y : A) → P x → P y → P (cond test x y)
chosen P true x y h k = h
chosen P false x y h k = k

-- ---- constants

within_more : (z : ℤ) → is_within (2 ^ 31) z ≡ true → is_within term_limit z ≡ true
within_more z h =
    let both = both_true (le_z (neg_ℤ (pos (2 ^ 31))) z) (le_z z (pos (2 ^ 31))) h in
    let low : neg_ℤ (pos (2 ^ 31)) ≤ℤ z = int_from (neg_ℤ (pos (2 ^ 31))) z both.0 in
    let high : z ≤ℤ pos (2 ^ 31) = int_from z (pos (2 ^ 31)) both.1 in
    let low' : neg_ℤ (pos (2 ^ 40)) ≤ℤ z = omega (arith, ints, low) in
    let high' : z ≤ℤ pos (2 ^ 40) = omega (arith, ints, high) in
    and_from (le_z (neg_ℤ (pos term_limit)) z) (le_z z (pos term_limit)) (int_to (neg_ℤ (pos term_limit)) z low') (int_to z (pos term_limit) high')

-- the types of the locals, and the pointer that bounds are for
module _ (types : List CType) (p : Bounded) where
  -- another pointer like this one
  abbrev IsAlike : ℕ → Type 0
  IsAlike q = (k : Kind) × (slice_get types q ≡ Some (Pointer p.mode k p.element)) × ((q == p.own) ≡ false)

  abbrev IsBase : Option ℕ → Type 0
  IsBase None = Unit {0}
  IsBase (Some q) = IsAlike q

  -- the variables of a sum are `int` locals, and its pointers are like this one
  abbrev IsSum : Sum → Type 0
  IsSum (sums.Number value) = Unit {0}
  IsSum (sums.Variable x) = slice_get types x ≡ Some Int
  IsSum (sums.Pointer q) = IsBase q
  IsSum (sums.Size bytes element) = Unit {0}
  IsSum (sums.Plus a b) = IsSum a × IsSum b
  IsSum (sums.Minus a b) = IsSum a × IsSum b
  IsSum (sums.Times a b) = IsSum a × IsSum b
  IsSum sums.Other = Unit {0}

  -- ---- terms

  first_of_both : (xs ys : List ℕ) → IsInt types (slice_get xs 0) → IsInt types (slice_get ys 0) → IsInt types (slice_get (xs ++ ys) 0)
  first_of_both [] ys h k = k
  first_of_both (x ∷ xs) ys h k = h

  first_int : (s : Sum) → IsSum s → IsInt types (slice_get (variables_of s) 0)
  first_int (sums.Number value) h = tt
  first_int (sums.Variable x) h = h
  first_int (sums.Pointer q) h = tt
  first_int (sums.Size bytes element) h = tt
  first_int (sums.Plus a b) h = first_of_both (variables_of a) (variables_of b) (first_int a h.0) (first_int b h.1)
  first_int (sums.Minus a b) h = first_of_both (variables_of a) (variables_of b) (first_int a h.0) (first_int b h.1)
  first_int (sums.Times a b) h = first_of_both (variables_of a) (variables_of b) (first_int a h.0) (first_int b h.1)
  first_int sums.Other h = tt

  -- the variable of a term is, where there is a term
  abbrev IsIntIf : Option Term → Type 0
  IsIntIf None = Unit {0}
  IsIntIf (Some t) = IsInt types t.var

  term_int : (s : Sum) → IsSum s → IsIntIf (term_of s)
  term_int s h = chosen IsIntIf (is_term s) (Some (record { var = slice_get (variables_of s) 0; plus = constant_of s })) None (first_int s h) tt

  divided_int : (size : ℕ) (o : Option Term) → IsIntIf o → IsIntIf (elements_in size o)
  divided_int size None h = tt
  divided_int size (Some bytes) h =
      chosen IsIntIf (is_none bytes.var) (Some (constant (int_div_euclid bytes.plus (pos size)))) (cond (size == 1) (Some bytes) None) tt
      (chosen IsIntIf (size == 1) (Some bytes) None h tt)

  elements_int : (size : ℕ) (s : Sum) → IsSum s → IsIntIf (elements_of size s)
  elements_int size (sums.Number value) h = divided_int size (term_of (sums.Number value)) (term_int (sums.Number value) h)
  elements_int size (sums.Variable x) h = divided_int size (term_of (sums.Variable x)) (term_int (sums.Variable x) h)
  elements_int size (sums.Pointer q) h = tt
  elements_int size (sums.Size bytes element) h = divided_int size (term_of (sums.Size bytes element)) (term_int (sums.Size bytes element) h)
  elements_int size (sums.Plus a b) h = divided_int size (term_of (sums.Plus a b)) (term_int (sums.Plus a b) h)
  elements_int size (sums.Minus a b) h = divided_int size (term_of (sums.Minus a b)) (term_int (sums.Minus a b) h)
  elements_int size (sums.Times a b) h =
      chosen IsIntIf (is_element_size b) (term_of a) (cond (is_element_size a) (term_of b) (elements_in size (term_of (sums.Times a b)))) (term_int a h.0)
      (chosen IsIntIf (is_element_size a) (term_of b) (elements_in size (term_of (sums.Times a b))) (term_int b h.1)
      (divided_int size (term_of (sums.Times a b)) (term_int (sums.Times a b) h)))
  elements_int size sums.Other h = tt

  -- ---- ends

  abbrev IsPointerIf : Option (Option ℕ) → Type 0
  IsPointerIf None = Unit {0}
  IsPointerIf (Some q) = IsBase q

  abbrev IsEndIf : Option End → Type 0
  IsEndIf None = Unit {0}
  IsEndIf (Some end) = IsBase end.pointer × IsInt types end.offset.var

  pointer_base : (s : Sum) → IsSum s → IsPointerIf (pointer_of s)
  pointer_base (sums.Number value) h = tt
  pointer_base (sums.Variable x) h = tt
  pointer_base (sums.Pointer q) h = h
  pointer_base (sums.Size bytes element) h = tt
  pointer_base (sums.Plus a b) h = tt
  pointer_base (sums.Minus a b) h = tt
  pointer_base (sums.Times a b) h = tt
  pointer_base sums.Other h = tt

  negated_int : (o : Option Term) → IsIntIf (negated o)
  negated_int None = tt
  negated_int (Some t) =
      chosen IsIntIf (is_none t.var) (within_limit None (neg_ℤ t.plus)) None
      (chosen IsIntIf (is_within term_limit (neg_ℤ t.plus)) (Some (record { var = None; plus = neg_ℤ t.plus })) None tt tt) tt

  end_formed : (pointer : Option (Option ℕ)) (offset : Option Term) → IsPointerIf pointer → IsIntIf offset → IsEndIf (end_at pointer offset)
  end_formed None offset h k = tt
  end_formed (Some pointer) None h k = tt
  end_formed (Some pointer) (Some offset) h k = (h, k)

  ends_formed : (s : Sum) → IsSum s → IsEndIf (end_of s)
  ends_formed (sums.Number value) h = tt
  ends_formed (sums.Variable x) h = tt
  ends_formed (sums.Pointer q) h = (h, tt)
  ends_formed (sums.Size bytes element) h = tt
  ends_formed (sums.Plus a b) h = end_formed (pointer_of a) (term_of b) (pointer_base a h.0) (term_int b h.1)
  ends_formed (sums.Minus a b) h = end_formed (pointer_of a) (negated (term_of b)) (pointer_base a h.0) (negated_int (term_of b))
  ends_formed (sums.Times a b) h = tt
  ends_formed sums.Other h = tt

  -- ---- bounds

  -- bounds of a pointer like this one
  record AreFormed (b : Bounds) : Type 0 where
    base : IsBase b.base
    ints : AreInts types b
    limited : AreLimited b

  abbrev AreFormedIf : Option Bounds → Type 0
  AreFormedIf None = Unit {0}
  AreFormedIf (Some b) = AreFormed b

  within_formed : (base : Option ℕ) (lo hi : Term) → IsBase base → IsInt types lo.var → IsInt types hi.var → AreFormedIf (bounds_within base lo hi)
  within_formed base lo hi h l k = by (is_within (2 ^ 31) lo.plus && is_within (2 ^ 31) hi.plus) refl
    where
      by : (test : Bool) → (is_within (2 ^ 31) lo.plus && is_within (2 ^ 31) hi.plus) ≡ test → AreFormedIf (cond test (Some (record { base = base; lo = lo; hi = hi })) None)
      by true test =
          let both = both_true (is_within (2 ^ 31) lo.plus) (is_within (2 ^ 31) hi.plus) test in
          record { base = h; ints = record { lo = l; hi = k }; limited = record { low = within_more lo.plus both.0; high = within_more hi.plus both.1 } }
      by false test = tt

  counted_formed : (o : Option Term) → IsIntIf o → AreFormedIf (counted o)
  counted_formed None h = tt
  counted_formed (Some t) h = within_formed None (constant (pos 0)) t tt tt h

  paired_formed : (lo hi : Option End) → IsEndIf lo → IsEndIf hi → AreFormedIf (paired lo hi)
  paired_formed None hi h k = tt
  paired_formed (Some lo) None h k = tt
  paired_formed (Some lo) (Some hi) h k =
      chosen AreFormedIf (is_same lo.pointer hi.pointer) (bounds_within lo.pointer lo.offset hi.offset) None
      (within_formed lo.pointer lo.offset hi.offset h.0 h.1 k.1) tt

  -- what is written for bounds has such sums
  abbrev IsHow : How → Type 0
  IsHow (normal.Count n) = IsSum n
  IsHow (normal.ByteCount n) = IsSum n
  IsHow (normal.Pair lo hi) = IsSum lo × IsSum hi
  IsHow normal.Unknown = Unit {0}

  how_formed : (how : How) (size : ℕ) → IsHow how → AreFormedIf (bounds_of how size)
  how_formed (normal.Count n) size h = counted_formed (term_of n) (term_int n h)
  how_formed (normal.ByteCount n) size h = chosen AreFormedIf (size == 0) None (counted (elements_of size n)) tt (counted_formed (elements_of size n) (elements_int size n h))
  how_formed (normal.Pair lo hi) size h = paired_formed (end_of lo) (end_of hi) (ends_formed lo h.0) (ends_formed hi h.1)
  how_formed normal.Unknown size h = tt

  bounds_formed : (how : How) (size : ℕ) (span : Span) → IsHow how → Promises AreFormedIf (normal_bounds how size span)
  bounds_formed normal.Unknown size span h = tt
  bounds_formed (normal.Count n) size span h = by (bounds_of (normal.Count n) size) refl (how_formed (normal.Count n) size h)
    where
      by : (o : Option Bounds) → bounds_of (normal.Count n) size ≡ o → AreFormedIf o → Promises AreFormedIf (normal_bounds (normal.Count n) size span)
      by None e k = rw e tt
      by (Some b) e k = rw e k
  bounds_formed (normal.ByteCount n) size span h = by (bounds_of (normal.ByteCount n) size) refl (how_formed (normal.ByteCount n) size h)
    where
      by : (o : Option Bounds) → bounds_of (normal.ByteCount n) size ≡ o → AreFormedIf o → Promises AreFormedIf (normal_bounds (normal.ByteCount n) size span)
      by None e k = rw e tt
      by (Some b) e k = rw e k
  bounds_formed (normal.Pair lo hi) size span h = by (bounds_of (normal.Pair lo hi) size) refl (how_formed (normal.Pair lo hi) size h)
    where
      by : (o : Option Bounds) → bounds_of (normal.Pair lo hi) size ≡ o → AreFormedIf o → Promises AreFormedIf (normal_bounds (normal.Pair lo hi) size span)
      by None e k = rw e tt
      by (Some b) e k = rw e k

-- ---- what is written

picked_so : {A : Type 0} (P : A → Type 0) (test : Bool) (x y : A) → (test ≡ true → P x) → (test ≡ false → P y) → P (picked test x y)
picked_so P true x y h k = h refl
picked_so P false x y h k = k refl

module _ (s : Scope) (p : Bounded) where
  abbrev IsWritten : Sum → Type 0
  IsWritten = IsSum s.locals p

  local_formed : (local : ℕ) (o : Option CType) → slice_get s.locals local ≡ o → IsWritten (local_sum p local o)
  local_formed local None e = tt
  local_formed local (Some Int) e = e
  local_formed local (Some Char) e = tt
  local_formed local (Some (Struct number)) e = tt
  local_formed local (Some (Pointer mode kind target)) e =
      picked_so IsWritten (local == p.own) (sums.Pointer None) (picked (same_mode p.mode mode && same_type p.element target) (sums.Pointer (Some local)) sums.Other) (λ own. tt)
      (λ other. picked_so IsWritten (same_mode p.mode mode && same_type p.element target) (sums.Pointer (Some local)) sums.Other (alike other) (λ unlike. tt))
    where
      alike : (local == p.own) ≡ false → (same_mode p.mode mode && same_type p.element target) ≡ true → IsAlike s.locals p local
      alike other test =
          let both = both_true (same_mode p.mode mode) (same_type p.element target) test in
          let m : p.mode ≡ mode = mode_equal p.mode mode both.0 in
          let t : p.element ≡ target = same_equal p.element target both.1 in
          (kind, rw (m, t) e, other)

  name_formed : (name : ℕ) (o : Option ℕ) → IsWritten (name_sum s p name o)
  name_formed name (Some local) = local_formed local (slice_get s.locals local) refl
  name_formed name None = picked_so IsWritten (name == s.given.null) (sums.Number (pos 0)) sums.Other (λ null. tt) (λ other. tt)

  operation_formed : (operator : BinaryOperator) (a b : Sum) → IsWritten a → IsWritten b → IsWritten (operation_sum operator a b)
  operation_formed binary.Add a b h k = (h, k)
  operation_formed binary.Subtract a b h k = (h, k)
  operation_formed binary.Multiply a b h k = (h, k)
  operation_formed _ a b h k = tt

  other_formed : {A : Type 0} (v : Verdict A) → Promises IsWritten (passing v (λ part. Passes sums.Other))
  other_formed (Passes value) = tt
  other_formed (Stops stop) = tt

  parts_formed : (b : e.Bounds) → Promises IsWritten (parts_written s p b)
  parts_formed (e.Count count span) = other_formed (sum_written s p count)
  parts_formed (e.ByteCount count span) = other_formed (sum_written s p count)
  parts_formed (e.Unknown span) = tt
  parts_formed (e.Range low high span) =
      passing_promises (λ a. Unit {0}) IsWritten (sum_written s p low) (λ a. passing (sum_written s p high) (λ part. Passes sums.Other)) (anything_promised (sum_written s p low)) (λ a h. other_formed (sum_written s p high))

  mutual
    written_formed : (x : Expression) → Promises IsWritten (sum_written s p x)
    written_formed (e.Number value span) = tt
    written_formed (e.Character value span) = tt
    written_formed (e.Text bytes span) = tt
    written_formed (e.Name name) = name_formed name.number (local_number s.visible name.number)
    written_formed (e.Call callee arguments span) = all_formed arguments
    written_formed (e.SizeOf type span) =
        passing_promises (λ t. Unit {0}) IsWritten (type_named s type) (λ t. Passes (sums.Size (size_of s.structs t) (same_type p.element t))) (anything_promised (type_named s type)) (λ t h. tt)
    written_formed (e.Cast word type operand span) = other_formed (sum_written s p operand)
    written_formed (e.BoundedCast word type operand bounds span) =
        passing_promises (λ a. Unit {0}) IsWritten (sum_written s p operand) (λ a. parts_written s p bounds) (anything_promised (sum_written s p operand)) (λ a h. parts_formed bounds)
    written_formed (e.Malloc word type size span) = other_formed (sum_written s p size)
    written_formed (e.Calloc word type count size span) =
        passing_promises (λ a. Unit {0}) IsWritten (sum_written s p count) (λ a. passing (sum_written s p size) (λ part. Passes sums.Other)) (anything_promised (sum_written s p count)) (λ a h. other_formed (sum_written s p size))
    written_formed (e.Index base index span) =
        passing_promises (λ a. Unit {0}) IsWritten (sum_written s p base) (λ a. passing (sum_written s p index) (λ part. Passes sums.Other)) (anything_promised (sum_written s p base)) (λ a h. other_formed (sum_written s p index))
    written_formed (e.Dot base member span) = other_formed (sum_written s p base)
    written_formed (e.Arrow base member span) = other_formed (sum_written s p base)
    written_formed (e.Unary operator operand span) = other_formed (sum_written s p operand)
    written_formed (e.Binary operator left right span) =
        passing_promises IsWritten IsWritten (sum_written s p left) (λ a. passing (sum_written s p right) (λ b. Passes (operation_sum operator a b))) (written_formed left) (λ a h.
        passing_promises IsWritten IsWritten (sum_written s p right) (λ b. Passes (operation_sum operator a b)) (written_formed right) (λ b k. operation_formed operator a b h k))

    all_formed : (xs : Expressions) → Promises IsWritten (all_written s p xs)
    all_formed e.NoMore = tt
    all_formed (e.Then first others) =
        passing_promises (λ a. Unit {0}) IsWritten (sum_written s p first) (λ a. all_written s p others) (anything_promised (sum_written s p first)) (λ a h. all_formed others)

  how_is : (b : e.Bounds) → Promises (IsHow s.locals p) (how_written s p b)
  how_is (e.Count count span) = passing_promises IsWritten (IsHow s.locals p) (sum_written s p count) (λ n. Passes (normal.Count n)) (written_formed count) (λ n h. h)
  how_is (e.ByteCount count span) = passing_promises IsWritten (IsHow s.locals p) (sum_written s p count) (λ n. Passes (normal.ByteCount n)) (written_formed count) (λ n h. h)
  how_is (e.Unknown span) = tt
  how_is (e.Range low high span) =
      passing_promises IsWritten (IsHow s.locals p) (sum_written s p low) (λ a. passing (sum_written s p high) (λ b. Passes (normal.Pair a b))) (written_formed low) (λ a h.
      passing_promises IsWritten (IsHow s.locals p) (sum_written s p high) (λ b. Passes (normal.Pair a b)) (written_formed high) (λ b k. (h, k)))

-- ---- what is declared

row_counts : (mode : Mode) (kind : Kind) (target : CType) → is_row (Pointer mode kind target) ≡ true → Counts kind
row_counts mode kinds.One target row = absurd (cc)
row_counts mode kinds.Array target row = tt
row_counts mode kinds.Nt target row = tt

-- bounds of a pointer to an array, which are formed for one like it
for_row : (structs : List Structure) (types : List CType) (own : ℕ) (t : CType) → is_row t ≡ true → nat_lt 0 (size_of structs (bounded_of own t).element) ≡ true → (o : Option Bounds) → AreFormedIf types (bounded_of own t) o → IsFormedIf structs types t o
for_row structs types own t row bytes None h = tt
for_row structs types own Int row bytes (Some b) h = absurd (cc)
for_row structs types own Char row bytes (Some b) h = absurd (cc)
for_row structs types own (Struct number) row bytes (Some b) h = absurd (cc)
for_row structs types own (Pointer mode kind target) row bytes (Some b) h = record {
  mode = mode;
  kind = kind;
  counts = row_counts mode kind target row;
  element = target;
  own = refl;
  some = ltb-true 0 (size_of structs target) bytes;
  ints = h.ints;
  base = λ q e. (let is = subst (IsBase types (bounded_of own (Pointer mode kind target))) e h.base in (is.0, is.1));
  limited = h.limited;
}

-- bounds that aren't written are none, or those of a null-terminated pointer to numbers
unwritten_so : (P : Option Bounds → Type 0) (t : CType) → P None → ((mode : Mode) (target : CType) → t ≡ Pointer mode kinds.Nt target → is_number target ≡ true → P (Some (row_of 0)))
    → P (unwritten_bounds t)
unwritten_so P Int none more = none
unwritten_so P Char none more = none
unwritten_so P (Struct number) none more = none
unwritten_so P (Pointer mode kinds.One target) none more = none
unwritten_so P (Pointer mode kinds.Array target) none more = none
unwritten_so P (Pointer mode kinds.Nt target) none more = picked_so P (is_number target) (Some (row_of 0)) None (more mode target refl) (λ other. none)

pub number_sized : (structs : List Structure) (t : CType) → is_number t ≡ true → 0 < size_of structs t
number_sized structs Int number = omega arith
number_sized structs Char number = omega arith
number_sized structs (Struct n) number = absurd (cc)
number_sized structs (Pointer mode kind target) number = absurd (cc)

-- what is so of bounds that are formed for a pointer to an array is so of what is declared
declared_promises : (P : Option Bounds → Type 0) (s : Scope) (t : CType) (own : ℕ) (o : Option e.Bounds) → P (unwritten_bounds t)
    → (is_row t ≡ true → nat_lt 0 (size_of s.structs (bounded_of own t).element) ≡ true → (o : Option Bounds) → AreFormedIf s.locals (bounded_of own t) o → P o) → Promises P (declared_bounds s t own o)
declared_promises P s t own None unwritten more = unwritten
declared_promises P s t own (Some b) unwritten more =
    let p : Bounded = bounded_of own t in
    let size : ℕ = size_of s.structs p.element in
    passing_promises (IsHow s.locals p) P (how_written s p b) (λ how. needs (is_row t && nat_lt 0 size) E16 (bounds_span b) (normal_bounds how size (bounds_span b))) (how_is s p b) (λ how h.
    needs_promises P (is_row t && nat_lt 0 size) E16 (bounds_span b) (normal_bounds how size (bounds_span b)) (λ both.
    let parts = and_parts (is_row t) (nat_lt 0 size) both in
    promised_so (AreFormedIf s.locals p) P (normal_bounds how size (bounds_span b)) (bounds_formed s.locals p how size (bounds_span b) h) (more parts.0 parts.1)))

unwritten_formed : (structs : List Structure) (types : List CType) (t : CType) → IsFormedIf structs types t (unwritten_bounds t)
unwritten_formed structs types t =
    unwritten_so (IsFormedIf structs types t) t tt
    (λ mode target own number.
    record {
      mode = mode;
      kind = kinds.Nt;
      counts = tt;
      element = target;
      own = own;
      some = number_sized structs target number;
      ints = record { lo = tt; hi = tt };
      base = λ q e. absurd (cc);
      limited = record { low = refl; high = refl };
    })

-- what is declared is formed
pub declared_formed : (s : Scope) (t : CType) (own : ℕ) (o : Option e.Bounds) → Promises (IsFormedIf s.structs s.locals t) (declared_bounds s t own o)
declared_formed s t own o = declared_promises (IsFormedIf s.structs s.locals t) s t own o (unwritten_formed s.structs s.locals t) (for_row s.structs s.locals own t)

-- ---- bounds that name nothing but their pointer

-- bounds of a pointer to an array of elements that have bytes, which count from the pointer itself, between constants
pub record IsConstantFor (structs : List Structure) (t : CType) (b : Bounds) : Type 0 where
  pub mode : Mode
  pub kind : Kind
  pub counts : Counts kind
  pub element : CType
  pub own : t ≡ Pointer mode kind element
  pub some : 0 < size_of structs element
  pub limited : AreLimited b
  pub constant : AreConstant b

abbrev pub IsConstantIf : List Structure → CType → Option Bounds → Type 0
IsConstantIf structs t None = Unit {0}
IsConstantIf structs t (Some b) = IsConstantFor structs t b

-- a pointer is the one local
module _ (m : Mode) (k : Kind) (target : CType) where
  abbrev alone : List CType
  alone = Pointer m k target ∷ []

  no_int : (x : ℕ) → slice_get alone x ≡ Some Int → ⊥
  no_int zero h = absurd (cc)
  no_int (suc x) h = absurd (cc)

  no_variable : (o : Option ℕ) → IsInt alone o → o ≡ None
  no_variable None h = refl
  no_variable (Some x) h = absurd (no_int x h)

  no_base : (o : Option ℕ) → IsBase alone (bounded_of 0 (Pointer m k target)) o → o ≡ None
  no_base None h = refl
  no_base (Some zero) h = absurd (let other = h.2 in cc)
  no_base (Some (suc q)) h = absurd (let none = h.1 in cc)

for_own : (structs : List Structure) (t : CType) → is_row t ≡ true → nat_lt 0 (size_of structs (bounded_of 0 t).element) ≡ true → (o : Option Bounds) → AreFormedIf (t ∷ []) (bounded_of 0 t) o → IsConstantIf structs t o
for_own structs t row bytes None h = tt
for_own structs Int row bytes (Some b) h = absurd (cc)
for_own structs Char row bytes (Some b) h = absurd (cc)
for_own structs (Struct number) row bytes (Some b) h = absurd (cc)
for_own structs (Pointer mode kind target) row bytes (Some b) h = record {
  mode = mode;
  kind = kind;
  counts = row_counts mode kind target row;
  element = target;
  own = refl;
  some = ltb-true 0 (size_of structs target) bytes;
  limited = h.limited;
  constant = record {
    base = no_base mode kind target b.base h.base;
    lo = no_variable mode kind target b.lo.var h.ints.lo;
    hi = no_variable mode kind target b.hi.var h.ints.hi;
  };
}

unwritten_constant : (structs : List Structure) (t : CType) → IsConstantIf structs t (unwritten_bounds t)
unwritten_constant structs t =
    unwritten_so (IsConstantIf structs t) t tt
    (λ mode target own number.
    record {
      mode = mode;
      kind = kinds.Nt;
      counts = tt;
      element = target;
      own = own;
      some = number_sized structs target number;
      limited = record { low = refl; high = refl };
      constant = record { base = refl; lo = refl; hi = refl };
    })

pub own_formed : (s : Scope) (t : CType) (o : Option e.Bounds) → s.locals ≡ t ∷ [] → Promises (IsConstantIf s.structs t) (declared_bounds s t 0 o)
own_formed s t o alone =
    declared_promises (IsConstantIf s.structs t) s t 0 o (unwritten_constant s.structs t)
    (λ row bytes b h. for_own s.structs t row bytes b (subst (λ types. AreFormedIf types (bounded_of 0 t) b) alone h))

-- what is no pointer has none
pub none_formed : (s : Scope) (o : Option e.Bounds) → Promises (λ (b : Option Bounds). b ≡ None) (declared_bounds s Int 0 o)
none_formed s o = declared_promises (λ (b : Option Bounds). b ≡ None) s Int 0 o refl (λ row bytes b h. absurd (cc))

pub declared_is_formed : DeclaredFormed
declared_is_formed s t own o b e = promise_kept (IsFormedIf s.structs s.locals t) (declared_bounds s t own o) b (declared_formed s t own o) e

-- ---- below the variables of a flow

pub int_below : (types : List CType) (vars : ℕ) (o : Option ℕ) → length types ≤ vars → IsInt types o → IsBelow vars o
int_below types vars None few h = tt
int_below types vars (Some x) few h = let there = slice_get_within types x Int h in omega arith

-- where there are variables for all locals, what is declared speaks of these
pub formed_below : (structs : List Structure) (types : List CType) (t : CType) (vars : ℕ) (o : Option Bounds) → length types ≤ vars → IsFormedIf structs types t o → AreBoundsBelow vars o
formed_below structs types t vars None few h = tt
formed_below structs types t vars (Some b) few h = record { lo = int_below types vars b.lo.var few h.ints.lo; hi = int_below types vars b.hi.var few h.ints.hi }
