-- The term of a sum goes by the terms of its parts.
use Rattle.std.proofs.Common.{ℕ, ◌≤◌, ◌≡◌, ℤ, ◌+ℤ◌, ◌-ℤ◌, ◌*ℤ◌, Bool, true, false, cond, ◌&&◌, List, [], ◌∷◌, ◌++◌, length, refl, arith, append-nil, Option, None, Some}
use Rattle.std.proofs.lemmas.Bool.Decides.{nat_tests}
use Rattle.std.specs.Prelude.{nat_le, slice_get}
use Rattle.bounds_exprs.specs.declared.term.Term.{Term}
use Rattle.bounds_exprs.specs.Terms.{is_within, term_limit}
use Rattle.bounds_exprs.specs.Sums.{Sum, Number, Variable, Pointer, Size, Plus, Minus, Times, Other, is_none_of, variables_of, constant_of, is_term, term_of}
use Rattle.bounds_exprs.specs.Parts.{added, subtracted, multiplied}

-- a term of these variables and this constant, where it is one
abbrev pub made : Bool → List ℕ → ℤ → Option Term
made is vars plus = cond is (Some (record { var = slice_get vars 0; plus = plus })) None

abbrev pub AtMostOne : Bool → List ℕ → Type 0
AtMostOne is vars = is ≡ true → length vars ≤ 1

made-plus : (a b : Bool) (x y : List ℕ) (p q : ℤ) → AtMostOne a x → AtMostOne b y
    → made (a && b && nat_le (length (x ++ y)) 1 && is_within term_limit (p +ℤ q)) (x ++ y) (p +ℤ q) ≡ added (made a x p) (made b y q)
made-plus false b x y p q f g = refl
made-plus true false x y p q f g = refl
made-plus true true [] [] p q f g = refl
made-plus true true [] (y ∷ []) p q f g = refl
made-plus true true [] (y ∷ z ∷ ys) p q f g = absurd (omega (arith, g refl))
made-plus true true (x ∷ []) [] p q f g = refl
made-plus true true (x ∷ []) (y ∷ []) p q f g = refl
made-plus true true (x ∷ []) (y ∷ z ∷ ys) p q f g = absurd (omega (arith, g refl))
made-plus true true (x ∷ z ∷ xs) y p q f g = absurd (omega (arith, f refl))

made-minus : (a b : Bool) (x y : List ℕ) (p q : ℤ)
    → made (a && b && is_none_of y && is_within term_limit (p -ℤ q)) (x ++ y) (p -ℤ q) ≡ subtracted (made a x p) (made b y q)
made-minus false b x y p q = refl
made-minus true false x y p q = refl
made-minus true true [] [] p q = refl
made-minus true true [] (y ∷ ys) p q = refl
made-minus true true (x ∷ xs) [] p q = refl
made-minus true true (x ∷ xs) (y ∷ ys) p q = refl

made-times : (a b : Bool) (x y : List ℕ) (p q : ℤ)
    → made (a && b && is_none_of x && is_none_of y && is_within term_limit (p *ℤ q)) (x ++ y) (p *ℤ q) ≡ multiplied (made a x p) (made b y q)
made-times false b x y p q = refl
made-times true false x y p q = refl
made-times true true [] [] p q = refl
made-times true true [] (y ∷ ys) p q = refl
made-times true true (x ∷ xs) [] p q = refl
made-times true true (x ∷ xs) (y ∷ ys) p q = refl

few_sum : (a b : Bool) (n : ℕ) (w : Bool) → (a && b && nat_le n 1 && w) ≡ true → n ≤ 1
few_sum false b n w h = cc
few_sum true false n w h = cc
few_sum true true n w h = grind (arith, nat_tests)

few_closed : (x y : List ℕ) → is_none_of y ≡ true → length x ≤ 1 → length (x ++ y) ≤ 1
few_closed x [] h f = simp append-nil f
few_closed x (y ∷ ys) h f = cc

few_difference : (a b w : Bool) (x y : List ℕ) → AtMostOne a x → (a && b && is_none_of y && w) ≡ true → length (x ++ y) ≤ 1
few_difference false b w x y f h = cc
few_difference true false w x y f h = cc
few_difference true true w x [] f h = few_closed x [] refl (f refl)
few_difference true true w x (y ∷ ys) f h = cc

few_product : (a b w : Bool) (x y : List ℕ) → (a && b && is_none_of x && is_none_of y && w) ≡ true → length (x ++ y) ≤ 1
few_product false b w x y h = cc
few_product true false w x y h = cc
few_product true true w [] [] h = omega arith
few_product true true w [] (y ∷ ys) h = cc
few_product true true w (x ∷ xs) y h = cc

few : (s : Sum) → is_term s ≡ true → length (variables_of s) ≤ 1
few (Number value) h = omega arith
few (Variable var) h = omega arith
few (Pointer var) h = omega arith
few (Size bytes element) h = omega arith
few (Plus left right) h = few_sum (is_term left) (is_term right) _ _ h
few (Minus left right) h = few_difference (is_term left) (is_term right) _ _ _ (few left) h
few (Times left right) h = few_product (is_term left) (is_term right) _ _ _ h
few Other h = omega arith

pub term_of-plus : (a b : Sum) → term_of (Plus a b) ≡ added (term_of a) (term_of b)
term_of-plus a b = made-plus (is_term a) (is_term b) (variables_of a) (variables_of b) (constant_of a) (constant_of b) (few a) (few b)

pub term_of-minus : (a b : Sum) → term_of (Minus a b) ≡ subtracted (term_of a) (term_of b)
term_of-minus a b = made-minus (is_term a) (is_term b) (variables_of a) (variables_of b) (constant_of a) (constant_of b)

pub term_of-times : (a b : Sum) → term_of (Times a b) ≡ multiplied (term_of a) (term_of b)
term_of-times a b = made-times (is_term a) (is_term b) (variables_of a) (variables_of b) (constant_of a) (constant_of b)
