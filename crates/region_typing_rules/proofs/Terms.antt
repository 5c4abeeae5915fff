-- A number that has a term is the number of its term.
use Rattle.std.proofs.Common.{◌≡◌, ℕ, ◌≤◌, ℤ, pos, ◌+ℤ◌, ◌-ℤ◌, ◌*ℤ◌, ◌≤ℤ◌, Bool, true, false, List, length, Option, Some, None, refl, sym, ◌∙◌, ap, subst, arith}
use Rattle.std.specs.Prelude.{not, ◌||◌, neg_ℤ, slice_get, cond}
use Rattle.std.specs.Int.Signed.{le_z}
use Rattle.std.proofs.lemmas.Int.{ints}
use Rattle.std.proofs.lemmas.Bool.{le-leb}
use Rattle.std.proofs.lemmas.Option.{slice_get_within}
use Rattle.act_words.specs.Checks.{is_word_number, held_if}
use Rattle.act_words.specs.declared.ending.Ending.{Ending}
use Rattle.act_words.specs.declared.operator.Operator.TheVariants as operators
use Rattle.act_words.specs.declared.operator.ArithmeticOperator.{ArithmeticOperator}
use Rattle.act_words.specs.declared.operator.ArithmeticOperator.TheVariants as arithmetics
use Rattle.bounds_exprs.specs.declared.term.Term.{Term}
use Rattle.bounds_exprs.specs.Terms.{is_within, term_limit, within_limit}
use Rattle.bounds_exprs.specs.Parts.{added, subtracted, multiplied}
use Rattle.bounds_exprs.specs.Values.{value as term_number}
use Rattle.bounds_exprs.proofs.Values.{parts_add_up}
use Rattle.subsumption.specs.Facts.{IsBelow}
use Rattle.subsumption.specs.Graphs.{IsWithin}
use Rattle.pointer_modes.specs.Types.{CType, Int, Char, Struct, Pointer}
use Rattle.bounds_flow.specs.Flows.{variable}
use Rattle.bounds_flow.specs.Conditions.{IsTermWithin}
use Rattle.bounds_flow_meaning.specs.Holding.{HaveTypes, IsInt, numbers_in, types_of}
use Rattle.bounds_flow_meaning.proofs.Numbers.{local_there, numbers_there}
use Rattle.bounds_flow_meaning.proofs.Validity.{both_true, int_from}
use Rattle.ckc_core.specs.declared.program.Site.{Site}
use Rattle.ckc_core.specs.declared.program.PointerBounds.{PointerBounds}
use Rattle.ckc_core.specs.declared.program.Terminator.{Terminator}
use Rattle.ckc_core.specs.Outcome.{Gives, Ends, Stuck, Unsound, Short, and_then}
use Rattle.ckc_core.specs.Core as core
use Rattle.ckc_core.specs.States.{Value, Number, Null, At, Local, State, has_type}
use Rattle.ckc_core.specs.Bounds.{is_valid}
use Rattle.ckc_core.specs.Steps.{Result, given, value_if, checked, arithmetic_of}
use Rattle.ckc_core.specs.Meaning.{Knot, Setting, audit, sound_if, value}
use Rattle.region_typing_rules.specs.Readings.{term}
use Rattle.region_typing_rules.specs.Typed.{IsCountBeforeZero, all_of, all_before, all_but_last}
use Rattle.region_typing_rules.specs.KnownIsSo.{WhereGiven, HasLocals}
use Rattle.region_typing_rules.proofs.Keeping.{IsAfter, CallsKeep, value_after}

-- ---- steps that give something

pub so_on : {A B : Type 0} (P : A → State → Type 0) (Q : B → State → Type 0) (o : Result A) (next : A → State → Result B) → WhereGiven P o → ((v : A) (s : State) → P v s → WhereGiven Q (next v s)) → WhereGiven Q (and_then o next)
so_on P Q (Gives v s) next h more = more v s h
so_on P Q (Ends ending s) next h more = tt
so_on P Q (Stuck site s) next h more = tt
so_on P Q (Unsound site s) next h more = tt
so_on P Q Short next h more = tt

pub so_always : {A : Type 0} (P : A → State → Type 0) (o : Result A) → ((v : A) (s : State) → P v s) → WhereGiven P o
so_always P (Gives v s) h = h v s
so_always P (Ends ending s) h = tt
so_always P (Stuck site s) h = tt
so_always P (Unsound site s) h = tt
so_always P Short h = tt

pub so_both : {A : Type 0} (P Q : A → State → Type 0) (o : Result A) → WhereGiven P o → WhereGiven Q o → WhereGiven (λ v s. P v s × Q v s) o
so_both P Q (Gives v s) h k = (h, k)
so_both P Q (Ends ending s) h k = tt
so_both P Q (Stuck site s) h k = tt
so_both P Q (Unsound site s) h k = tt
so_both P Q Short h k = tt

pub so_further : {A : Type 0} (P Q : A → State → Type 0) (o : Result A) → WhereGiven P o → ((v : A) (s : State) → P v s → Q v s) → WhereGiven Q o
so_further P Q (Gives v s) h more = more v s h
so_further P Q (Ends ending s) h more = tt
so_further P Q (Stuck site s) h more = tt
so_further P Q (Unsound site s) h more = tt
so_further P Q Short h more = tt

pub audited_so : (P : Value → State → Type 0) (audited : Bool) (bounds : Option PointerBounds) (v : Value) (s : State) → P v s → WhereGiven P (audit audited bounds v s)
audited_so P audited None v s h = h
audited_so P audited (Some p) v s h = by (not audited || is_valid p v s)
  where
    by : (test : Bool) → WhereGiven P (sound_if test p.site v s)
    by true = h
    by false = tt

-- ---- terms speak of `int` locals, and have small constants

-- what a term of an expression is
pub record IsFormedTerm (types : List CType) (t : Term) : Type 0 where
  pub int : IsInt types t.var
  pub small : IsWithin term_limit t.plus

is_at_most : (a b : ℤ) → le_z a b ≡ true → a ≤ℤ b
is_at_most a b h = int_from a b h

is_within_limit : (z : ℤ) → is_within term_limit z ≡ true → IsWithin term_limit z
is_within_limit z h =
    let both = both_true (le_z (neg_ℤ (pos term_limit)) z) (le_z z (pos term_limit)) h in
    record { low = is_at_most (neg_ℤ (pos term_limit)) z both.0; high = is_at_most z (pos term_limit) both.1 }

limited_formed : (types : List CType) (var : Option ℕ) (plus : ℤ) (t : Term) → IsInt types var → within_limit var plus ≡ Some t → IsFormedTerm types t
limited_formed types var plus t int e = by (is_within term_limit plus) refl e
  where
    by : (test : Bool) → is_within term_limit plus ≡ test → cond test (Some (record { var = var; plus = plus })) None ≡ Some t → IsFormedTerm types t
    by true q h = let same : record { var = var; plus = plus } ≡ t = cc in subst (IsFormedTerm types) same (record { int = int; small = is_within_limit plus q })
    by false q h = absurd (cc)

abbrev AreFormed : List CType → Option Term → Type 0
AreFormed types o = (t : Term) → o ≡ Some t → IsFormedTerm types t

-- of the variables and the constants of two terms
added_formed : (types : List CType) (x y : Option ℕ) (p q : ℤ) (t : Term) → IsInt types x → IsInt types y → added (Some (record { var = x; plus = p })) (Some (record { var = y; plus = q })) ≡ Some t → IsFormedTerm types t
added_formed types None y p q t hx hy e = limited_formed types y (p +ℤ q) t hy e
added_formed types (Some x) None p q t hx hy e = limited_formed types (Some x) (p +ℤ q) t hx e
added_formed types (Some x) (Some y) p q t hx hy e = absurd (cc)

subtracted_formed : (types : List CType) (x y : Option ℕ) (p q : ℤ) (t : Term) → IsInt types x → subtracted (Some (record { var = x; plus = p })) (Some (record { var = y; plus = q })) ≡ Some t → IsFormedTerm types t
subtracted_formed types x None p q t hx e = limited_formed types x (p -ℤ q) t hx e
subtracted_formed types x (Some y) p q t hx e = absurd (cc)

multiplied_formed : (types : List CType) (x y : Option ℕ) (p q : ℤ) (t : Term) → multiplied (Some (record { var = x; plus = p })) (Some (record { var = y; plus = q })) ≡ Some t → IsFormedTerm types t
multiplied_formed types None None p q t e = limited_formed types None (p *ℤ q) t tt e
multiplied_formed types None (Some y) p q t e = absurd (cc)
multiplied_formed types (Some x) y p q t e = absurd (cc)

sum_formed : (types : List CType) (o p : Option Term) → AreFormed types o → AreFormed types p → AreFormed types (added o p)
sum_formed types None p h k t e = absurd (cc)
sum_formed types (Some a) None h k t e = absurd (cc)
sum_formed types (Some a) (Some b) h k t e = added_formed types a.var b.var a.plus b.plus t (h a refl).int (k b refl).int e

difference_formed : (types : List CType) (o p : Option Term) → AreFormed types o → AreFormed types (subtracted o p)
difference_formed types None p h t e = absurd (cc)
difference_formed types (Some a) None h t e = absurd (cc)
difference_formed types (Some a) (Some b) h t e = subtracted_formed types a.var b.var a.plus b.plus t (h a refl).int e

product_formed : (types : List CType) (o p : Option Term) → AreFormed types (multiplied o p)
product_formed types None p t e = absurd (cc)
product_formed types (Some a) None t e = absurd (cc)
product_formed types (Some a) (Some b) t e = multiplied_formed types a.var b.var a.plus b.plus t e

-- the term of a local
pub record IsIntTerm (types : List CType) (x : ℕ) (t : Term) : Type 0 where
  pub int : slice_get types x ≡ Some Int
  pub is : t ≡ variable x

pub local_term : (types : List CType) (x : ℕ) (bounds : Option PointerBounds) (t : Term) → term types (core.Local x bounds) ≡ Some t → IsIntTerm types x t
local_term types x bounds t h = by (slice_get types x) refl
  where
    by : (o : Option CType) → slice_get types x ≡ o → IsIntTerm types x t
    by None e = let k : None ≡ Some t = rw e at h in absurd (cc)
    by (Some Int) e = let k : Some (variable x) ≡ Some t = rw e at h in let same : variable x ≡ t = cc in record { int = e; is = sym same }
    by (Some Char) e = let k : None ≡ Some t = rw e at h in absurd (cc)
    by (Some (Struct number)) e = let k : None ≡ Some t = rw e at h in absurd (cc)
    by (Some (Pointer mode kind target)) e = let k : None ≡ Some t = rw e at h in absurd (cc)

variable_formed : (types : List CType) (x : ℕ) (t : Term) → IsIntTerm types x t → IsFormedTerm types t
variable_formed types x t h = subst (IsFormedTerm types) (sym h.is) (record { int = h.int; small = is_within_limit (pos 0) refl })

pub term_formed : (types : List CType) (e : core.Expression) (t : Term) → term types e ≡ Some t → IsFormedTerm types t
term_formed types (core.Number number) t h = limited_formed types None number t tt h
term_formed types core.Null t h = absurd (cc)
term_formed types (core.Local x bounds) t h = variable_formed types x t (local_term types x bounds t h)
term_formed types (core.Load type place bounds) t h = absurd (cc)
term_formed types (core.AddressOf place bounds) t h = absurd (cc)
term_formed types (core.Negate operand site) t h = absurd (cc)
term_formed types (core.Complement operand) t h = absurd (cc)
term_formed types (core.Not operand) t h = absurd (cc)
term_formed types (core.Arithmetic (operators.Arithmetic arithmetics.Add) left right site) t h = sum_formed types (term types left) (term types right) (term_formed types left) (term_formed types right) t h
term_formed types (core.Arithmetic (operators.Arithmetic arithmetics.Subtract) left right site) t h = difference_formed types (term types left) (term types right) (term_formed types left) t h
term_formed types (core.Arithmetic (operators.Arithmetic arithmetics.Multiply) left right site) t h = product_formed types (term types left) (term types right) t h
term_formed types (core.Arithmetic (operators.Arithmetic arithmetics.Divide) left right site) t h = absurd (cc)
term_formed types (core.Arithmetic (operators.Arithmetic arithmetics.Remainder) left right site) t h = absurd (cc)
term_formed types (core.Arithmetic (operators.Arithmetic arithmetics.ShiftLeft) left right site) t h = absurd (cc)
term_formed types (core.Arithmetic (operators.Arithmetic arithmetics.ShiftRight) left right site) t h = absurd (cc)
term_formed types (core.Arithmetic (operators.Bitwise operator) left right site) t h = absurd (cc)
term_formed types (core.Compare comparison left right) t h = absurd (cc)
term_formed types (core.Same left right) t h = absurd (cc)
term_formed types (core.AndAlso left right) t h = absurd (cc)
term_formed types (core.OrElse left right) t h = absurd (cc)
term_formed types (core.LowByte operand) t h = absurd (cc)
term_formed types (core.Call callee arguments bounds) t h = absurd (cc)
term_formed types core.NextInput t h = absurd (cc)
term_formed types (core.Sum pointer direction number site bounds) t h = absurd (cc)
term_formed types (core.Order comparison left right site) t h = absurd (cc)
term_formed types (core.Allocate count element terminator bounds) t h = absurd (cc)
term_formed types (core.Length pointer site) t h = absurd (cc)
term_formed types (core.Cast pointer bounds) t h = absurd (cc)

-- what the term of the bounds of new memory is
pub before_formed : (types : List CType) (terminator : Terminator) (count : core.Expression) (n : Term) → IsCountBeforeZero types terminator count n → IsFormedTerm types n
before_formed types _ count n (all_of counts) = term_formed types count n counts
before_formed types _ count n (all_before counts) = term_formed types count n counts
before_formed types _ _ _ (all_but_last {n = m} few) = record { int = tt; small = is_within_limit (pos m) (le-leb m term_limit (omega (arith, few))) }

pub formed_below : (types : List CType) (vars : ℕ) (o : Option ℕ) → length types ≤ vars → IsInt types o → IsBelow vars o
formed_below types vars None few h = tt
formed_below types vars (Some x) few h = let low = slice_get_within types x Int h in omega (arith, low, few)

pub formed_within : (types : List CType) (vars : ℕ) (t : Term) → length types ≤ vars → IsFormedTerm types t → IsTermWithin vars t
formed_within types vars t few h = record { var = formed_below types vars t.var few h.int; plus = h.small }

pub formed_later : (types : List CType) (s : State) (o : Option ℕ) → HasLocals types s → IsInt types o → IsInt (types_of s.locals) o
formed_later types s None has h = tt
formed_later types s (Some x) has h = has x Int h

-- ---- a number with a term is that of the term

-- the value is the number of the term, where there is one
abbrev pub IsOfTerm : List Local → Option Term → Value → Type 0
IsOfTerm ls o v = (t : Term) → o ≡ Some t → v ≡ Number (term_number (numbers_in ls) t)

abbrev pub IsNumberOf : List Local → Option Term → ℤ → Type 0
IsNumberOf ls o z = (t : Term) → o ≡ Some t → z ≡ term_number (numbers_in ls) t

pub number_is : (ls : List Local) (o : Option Term) (z : ℤ) → IsOfTerm ls o (Number z) → IsNumberOf ls o z
number_is ls o z h t e = let q = h t e in cc

is_number : (ls : List Local) (o : Option Term) (z : ℤ) → IsNumberOf ls o z → IsOfTerm ls o (Number z)
is_number ls o z h t e = ap Number (h t e)

sum_is : (ls : List Local) (o p : Option Term) (x y : ℤ) → IsNumberOf ls o x → IsNumberOf ls p y → IsNumberOf ls (added o p) (x +ℤ y)
sum_is ls None p x y h k t e = absurd (cc)
sum_is ls (Some a) None x y h k t e = absurd (cc)
sum_is ls (Some a) (Some b) x y h k t e = ap (λ x. x +ℤ y) (h a refl) ∙ (ap (λ y. term_number (numbers_in ls) a +ℤ y) (k b refl) ∙ sym ((parts_add_up (numbers_in ls) a b t).0 e))

difference_is : (ls : List Local) (o p : Option Term) (x y : ℤ) → IsNumberOf ls o x → IsNumberOf ls p y → IsNumberOf ls (subtracted o p) (x -ℤ y)
difference_is ls None p x y h k t e = absurd (cc)
difference_is ls (Some a) None x y h k t e = absurd (cc)
difference_is ls (Some a) (Some b) x y h k t e = ap (λ x. x -ℤ y) (h a refl) ∙ (ap (λ y. term_number (numbers_in ls) a -ℤ y) (k b refl) ∙ sym ((parts_add_up (numbers_in ls) a b t).1 e))

product_is : (ls : List Local) (o p : Option Term) (x y : ℤ) → IsNumberOf ls o x → IsNumberOf ls p y → IsNumberOf ls (multiplied o p) (x *ℤ y)
product_is ls None p x y h k t e = absurd (cc)
product_is ls (Some a) None x y h k t e = absurd (cc)
product_is ls (Some a) (Some b) x y h k t e = ap (λ x. x *ℤ y) (h a refl) ∙ (ap (λ y. term_number (numbers_in ls) a *ℤ y) (k b refl) ∙ sym ((parts_add_up (numbers_in ls) a b t).2 e))

-- no term, nothing to show
none_is : (ls : List Local) (v : Value) → IsOfTerm ls None v
none_is ls v t e = absurd (cc)

held_so : (P : Value → State → Type 0) (test : Bool) (z : ℤ) (ending : Ending) (s : State) → P (Number z) s → WhereGiven P (checked (held_if test z ending) s)
held_so P true z ending s h = h
held_so P false z ending s h = tt

int_number : (v : Value) → has_type Int v ≡ true → (z : ℤ) × (v ≡ Number z)
int_number (Number z) h = (z, refl)
int_number Null h = absurd (cc)
int_number (At block byte) h = absurd (cc)

module _ (audited : Bool) (g : Setting) (k : Knot) (calls : CallsKeep k) (types : List CType) (ls : List Local) (typed : HaveTypes ls) (has : (x : ℕ) (t : CType) → slice_get types x ≡ Some t → slice_get (types_of ls) x ≡ Some t) where
  abbrev HasTerm : core.Expression → Value → State → Type 0
  HasTerm e v s = IsOfTerm ls (term types e) v

  local_so : (x : ℕ) (bounds : Option PointerBounds) (o : Option Local) (s : State) → slice_get ls x ≡ o → WhereGiven (HasTerm (core.Local x bounds)) (given o s)
  local_so x bounds None s e = tt
  local_so x bounds (Some l) s e = λ t h.
      let is = local_term types x bounds t h in
      let there = local_there ls x Int (has x Int is.int) in
      let same : there.local ≡ l = (let a = there.there in cc) in
      let z = int_number l.value (subst (λ y. has_type y l.value ≡ true) (ap (λ (y : Local). y.type) (sym same) ∙ there.type) (typed x l e)) in
      let n : numbers_in ls x ≡ z.0 = numbers_there ls x l z.0 e z.1 in
      let q : z.0 +ℤ pos 0 ≡ z.0 = omega (arith, ints) in
      z.1 ∙ ap Number (sym (ap (term_number (numbers_in ls)) is.is ∙ (ap (λ y. y +ℤ pos 0) n ∙ q)))

  operator_so : (operator : ArithmeticOperator) (left right : core.Expression) (site : Site) (a b : Value) (s : State) → IsOfTerm ls (term types left) a → IsOfTerm ls (term types right) b
      → WhereGiven (HasTerm (core.Arithmetic (operators.Arithmetic operator) left right site)) (arithmetic_of (operators.Arithmetic operator) site a b s)
  operator_so arithmetics.Add left right site (Number x) (Number y) s h k =
      held_so (HasTerm (core.Arithmetic (operators.Arithmetic arithmetics.Add) left right site)) (is_word_number (x +ℤ y)) (x +ℤ y) _ s
      (is_number ls (added (term types left) (term types right)) (x +ℤ y) (sum_is ls (term types left) (term types right) x y (number_is ls (term types left) x h) (number_is ls (term types right) y k)))
  operator_so arithmetics.Subtract left right site (Number x) (Number y) s h k =
      held_so (HasTerm (core.Arithmetic (operators.Arithmetic arithmetics.Subtract) left right site)) (is_word_number (x -ℤ y)) (x -ℤ y) _ s
      (is_number ls (subtracted (term types left) (term types right)) (x -ℤ y) (difference_is ls (term types left) (term types right) x y (number_is ls (term types left) x h) (number_is ls (term types right) y k)))
  operator_so arithmetics.Multiply left right site (Number x) (Number y) s h k =
      held_so (HasTerm (core.Arithmetic (operators.Arithmetic arithmetics.Multiply) left right site)) (is_word_number (x *ℤ y)) (x *ℤ y) _ s
      (is_number ls (multiplied (term types left) (term types right)) (x *ℤ y) (product_is ls (term types left) (term types right) x y (number_is ls (term types left) x h) (number_is ls (term types right) y k)))
  operator_so arithmetics.Divide left right site (Number x) (Number y) s h k = so_always (HasTerm (core.Arithmetic (operators.Arithmetic arithmetics.Divide) left right site)) _ (λ v t. none_is ls v)
  operator_so arithmetics.Remainder left right site (Number x) (Number y) s h k = so_always (HasTerm (core.Arithmetic (operators.Arithmetic arithmetics.Remainder) left right site)) _ (λ v t. none_is ls v)
  operator_so arithmetics.ShiftLeft left right site (Number x) (Number y) s h k = so_always (HasTerm (core.Arithmetic (operators.Arithmetic arithmetics.ShiftLeft) left right site)) _ (λ v t. none_is ls v)
  operator_so arithmetics.ShiftRight left right site (Number x) (Number y) s h k = so_always (HasTerm (core.Arithmetic (operators.Arithmetic arithmetics.ShiftRight) left right site)) _ (λ v t. none_is ls v)
  operator_so operator left right site (Number x) Null s h k = tt
  operator_so operator left right site (Number x) (At block byte) s h k = tt
  operator_so operator left right site Null b s h k = tt
  operator_so operator left right site (At block byte) b s h k = tt

  without_term : (e : core.Expression) (s : State) → term types e ≡ None → WhereGiven (HasTerm e) (value audited g k e s)
  without_term e s none = so_always (HasTerm e) (value audited g k e s) (λ v t. subst (λ o. IsOfTerm ls o v) (sym none) (none_is ls v))

  kept_so : (e : core.Expression) (s : State) → s.locals ≡ ls → WhereGiven (λ (v : Value) t. t.locals ≡ ls) (value audited g k e s)
  kept_so e s here = so_further (λ v t. IsAfter s t) (λ v t. t.locals ≡ ls) (value audited g k e s) (value_after audited g k calls e s) (λ v t after. after.1 ∙ here)

  pub term_so : (e : core.Expression) (s : State) → s.locals ≡ ls → WhereGiven (HasTerm e) (value audited g k e s)
  term_so (core.Number number) s here = by (is_word_number number)
    where
      is : HasTerm (core.Number number) (Number number) s
      is t h = by_test (is_within term_limit number) h
        where
          q : pos 0 +ℤ number ≡ number
          q = omega (arith, ints)

          by_test : (test : Bool) → cond test (Some (record { var = None; plus = number })) None ≡ Some t → Number number ≡ Number (term_number (numbers_in ls) t)
          by_test true e = let same : record { var = None; plus = number } ≡ t = cc in ap Number (sym q ∙ ap (term_number (numbers_in ls)) same)
          by_test false e = absurd (cc)

      by : (test : Bool) → WhereGiven (HasTerm (core.Number number)) (value_if test None (Number number) s)
      by true = is
      by false = tt
  term_so (core.Local x bounds) s here =
      so_on (HasTerm (core.Local x bounds)) (HasTerm (core.Local x bounds)) (given (slice_get s.locals x) s) (audit audited bounds)
      (local_so x bounds (slice_get s.locals x) s (ap (λ ls. slice_get ls x) (sym here))) (λ v t h. audited_so (HasTerm (core.Local x bounds)) audited bounds v t h)
  term_so (core.Arithmetic (operators.Arithmetic operator) left right site) s here =
      so_on (λ v t. (t.locals ≡ ls) × HasTerm left v t) (HasTerm (core.Arithmetic (operators.Arithmetic operator) left right site)) (value audited g k left s) _
      (so_both (λ v t. t.locals ≡ ls) (HasTerm left) (value audited g k left s) (kept_so left s here) (term_so left s here))
      (λ a t h. so_on (HasTerm right) (HasTerm (core.Arithmetic (operators.Arithmetic operator) left right site)) (value audited g k right t) _ (term_so right t h.0)
      (λ b u h'. operator_so operator left right site a b u h.1 h'))
  term_so (core.Arithmetic (operators.Bitwise operator) left right site) s here = without_term (core.Arithmetic (operators.Bitwise operator) left right site) s refl
  term_so core.Null s here = without_term core.Null s refl
  term_so (core.Load type place bounds) s here = without_term (core.Load type place bounds) s refl
  term_so (core.AddressOf place bounds) s here = without_term (core.AddressOf place bounds) s refl
  term_so (core.Negate operand site) s here = without_term (core.Negate operand site) s refl
  term_so (core.Complement operand) s here = without_term (core.Complement operand) s refl
  term_so (core.Not operand) s here = without_term (core.Not operand) s refl
  term_so (core.Compare comparison left right) s here = without_term (core.Compare comparison left right) s refl
  term_so (core.Same left right) s here = without_term (core.Same left right) s refl
  term_so (core.AndAlso left right) s here = without_term (core.AndAlso left right) s refl
  term_so (core.OrElse left right) s here = without_term (core.OrElse left right) s refl
  term_so (core.LowByte operand) s here = without_term (core.LowByte operand) s refl
  term_so (core.Call callee arguments bounds) s here = without_term (core.Call callee arguments bounds) s refl
  term_so core.NextInput s here = without_term core.NextInput s refl
  term_so (core.Sum pointer direction number site bounds) s here = without_term (core.Sum pointer direction number site bounds) s refl
  term_so (core.Order comparison left right site) s here = without_term (core.Order comparison left right site) s refl
  term_so (core.Allocate count element terminator bounds) s here = without_term (core.Allocate count element terminator bounds) s refl
  term_so (core.Length pointer site) s here = without_term (core.Length pointer site) s refl
  term_so (core.Cast pointer bounds) s here = without_term (core.Cast pointer bounds) s refl
