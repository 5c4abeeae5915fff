-- What terms come to.
use Rattle.std.proofs.Common.{ℕ, ℤ, pos, ◌+ℤ◌, ◌-ℤ◌, ◌*ℤ◌, ◌≡◌, ◌≢◌, Bool, true, false, cond, ◌==◌, Option, None, Some, List, get_or, refl, sym, ◌∙◌, ap, arith}
use Rattle.std.proofs.lemmas.Int.{ints}
use Rattle.std.proofs.lemmas.Bool.Decides.{nat_tests}
use Rattle.bounds_exprs.specs.declared.term.Term.{Term}
use Rattle.bounds_exprs.specs.Terms.{is_within, term_limit, within_limit, is_var}
use Rattle.bounds_exprs.specs.Parts.{added, subtracted, multiplied}
use Rattle.bounds_exprs.specs.Changes.{filled_in, raised_term}
use Rattle.bounds_exprs.specs.Values.{number, value, PartsAddUp, ShiftsKeepValues, FillingKeepsValues}

-- where a term is within the limit, it is the term
limited_by : (b : Bool) (var : Option ℕ) (plus : ℤ) (t : Term) (v : ℕ → ℤ) → cond b (Some (record { var = var; plus = plus })) None ≡ Some t → value v t ≡ number v var +ℤ plus
limited_by true var plus t v e = cc
limited_by false var plus t v e = absurd (cc)

limited_value : (var : Option ℕ) (plus : ℤ) (t : Term) (v : ℕ → ℤ) → within_limit var plus ≡ Some t → value v t ≡ number v var +ℤ plus
limited_value var plus t v e = limited_by (is_within term_limit plus) var plus t v e

none_some : (t : Term) (o : Option Term) → o ≡ None → o ≡ Some t → ⊥
none_some t o n e = cc

added_value : (v : ℕ → ℤ) (x y : Option ℕ) (p q : ℤ) (t : Term) → added (Some (record { var = x; plus = p })) (Some (record { var = y; plus = q })) ≡ Some t → value v t ≡ (number v x +ℤ p) +ℤ (number v y +ℤ q)
added_value v None y p q t e = (let h = limited_value y (p +ℤ q) t v e in omega (arith, ints, h))
added_value v (Some x) None p q t e = (let h = limited_value (Some x) (p +ℤ q) t v e in omega (arith, ints, h))
added_value v (Some x) (Some y) p q t e = absurd (none_some t None refl e)

subtracted_value : (v : ℕ → ℤ) (x y : Option ℕ) (p q : ℤ) (t : Term) → subtracted (Some (record { var = x; plus = p })) (Some (record { var = y; plus = q })) ≡ Some t → value v t ≡ (number v x +ℤ p) -ℤ (number v y +ℤ q)
subtracted_value v x None p q t e = (let h = limited_value x (p -ℤ q) t v e in omega (arith, ints, h))
subtracted_value v x (Some y) p q t e = absurd (none_some t None refl e)

zero_more : (p : ℤ) → pos 0 +ℤ p ≡ p
zero_more p = omega (arith, ints)

multiplied_value : (v : ℕ → ℤ) (x y : Option ℕ) (p q : ℤ) (t : Term) → multiplied (Some (record { var = x; plus = p })) (Some (record { var = y; plus = q })) ≡ Some t → value v t ≡ (number v x +ℤ p) *ℤ (number v y +ℤ q)
multiplied_value v None None p q t e = limited_value None (p *ℤ q) t v e ∙ (zero_more (p *ℤ q) ∙ (ap (λ a. a *ℤ q) (sym (zero_more p)) ∙ ap (λ b. (pos 0 +ℤ p) *ℤ b) (sym (zero_more q))))
multiplied_value v None (Some y) p q t e = absurd (none_some t None refl e)
multiplied_value v (Some x) y p q t e = absurd (none_some t None refl e)

pub parts_add_up : PartsAddUp
parts_add_up v a b t = (added_value v a.var b.var a.plus b.plus t, subtracted_value v a.var b.var a.plus b.plus t, multiplied_value v a.var b.var a.plus b.plus t)

shifted_number : (x : ℕ) (c : ℤ) (o : Option ℕ) (before now : ℕ → ℤ) → now x ≡ before x +ℤ c → ((y : ℕ) → y ≢ x → now y ≡ before y) → number now o ≡ number before o +ℤ cond (is_var x o) c (pos 0)
shifted_number x c None before now here others = omega (arith, ints)
shifted_number x c (Some y) before now here others = by (y == x) refl
  where
    by : (b : Bool) → (y == x) ≡ b → now y ≡ before y +ℤ cond b c (pos 0)
    by true e = (let same : y ≡ x = grind (arith, nat_tests) in let p : now y ≡ now x = ap now same in let q : before y ≡ before x = ap before same in omega (arith, ints, p, q, here))
    by false e = (let h = others y (λ same. absurd (grind (arith, nat_tests))) in omega (arith, ints, h))

pub shifts_keep_values : ShiftsKeepValues
shifts_keep_values x c t after before now e here others =
    let h = limited_value t.var (t.plus -ℤ cond (is_var x t.var) c (pos 0)) after now e in
    let n = shifted_number x c t.var before now here others in omega (arith, ints, h, n)

raised_value : (o : Option Term) (c : ℤ) (after : Term) (v : ℕ → ℤ) (z : ℤ) → raised_term o c ≡ Some after → ((s : Term) → o ≡ Some s → z ≡ value v s) → value v after ≡ z +ℤ c
raised_value None c after v z e h = absurd (none_some after None refl e)
raised_value (Some s) c after v z e h = (let p = limited_value s.var (c +ℤ s.plus) after v e in let q = h s refl in omega (arith, ints, p, q))

filled_value : (terms : List (Option Term)) (o : Option ℕ) (plus : ℤ) (after : Term) (v inner : ℕ → ℤ) → filled_in terms (record { var = o; plus = plus }) ≡ Some after
    → ((x : ℕ) (s : Term) → get_or terms x None ≡ Some s → inner x ≡ value v s) → value v after ≡ number inner o +ℤ plus
filled_value terms None plus after v inner e h = limited_value None plus after v e
filled_value terms (Some x) plus after v inner e h = raised_value (get_or terms x None) plus after v (inner x) e (h x)

pub filling_keeps_values : FillingKeepsValues
filling_keeps_values terms t after v inner e h = filled_value terms t.var t.plus after v inner e h
