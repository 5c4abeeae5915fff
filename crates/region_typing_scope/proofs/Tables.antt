-- What tables find.
use Rattle.std.proofs.Common.{◌≡◌, ℕ, zero, suc, ◌+◌, ◌-◌, ◌<◌, ◌≤◌, Bool, true, false, cond, position, List, [], ◌∷◌, ◌++◌, length, map, get_or, Option, Some, None, refl, sym, ap, ◌∙◌, subst, below_more, arith}
use Rattle.std.specs.Prelude.{◌==◌}
use Rattle.std.specs.Option.{option_map}
use Rattle.std.proofs.lemmas.List.{map-append, length-map, length-append, get_or_append_left, get_or_at, get_or_default}
use Rattle.region_typing_rules.specs.Verdicts.{picked}
use Rattle.region_typing_rules.specs.Scopes.{Signature}
use Rattle.region_typing_rules.specs.Calls.{side_number, counted, same_side, is_import}
use Rattle.region_typing_scope.specs.declared.signature.Signature as code
use Rattle.region_typing_scope.specs.Signatures.{signature}
use Rattle.region_typing_scope.specs.Tables.{place_of, place_in, or_last, Noted, Finds, side_before, Counts}
use Rattle.region_typing_scope.proofs.Searches.{place_found}

-- ---- the first place of a number

next_last : (b : Bool) (n : ℕ) → option_map suc (cond b (Some n) None) ≡ cond b (Some (suc n)) None
next_last true n = refl
next_last false n = refl

place_more : {X : Type 0} (p : X → Bool) (xs : List X) (x : X) → place_of p (xs ++ x ∷ []) ≡ or_last (place_of p xs) (p x) (length xs)
place_more p [] x = refl
place_more p (y ∷ ys) x = by (p y) (place_of p ys) (place_more p ys x)
  where
    by : (b : Bool) (o : Option ℕ) → place_of p (ys ++ x ∷ []) ≡ or_last o (p x) (length ys)
        → cond b (Some 0) (option_map suc (place_of p (ys ++ x ∷ []))) ≡ or_last (cond b (Some 0) (option_map suc o)) (p x) (suc (length ys))
    by true o rest = refl
    by false None rest = ap (option_map suc) rest ∙ next_last (p x) (length ys)
    by false (Some k) rest = ap (option_map suc) rest

pub finds_nothing : Finds [] []
finds_nothing = record { first = λ number. refl }

-- a number more, with its place
finds_more : (old new : List (Option ℕ)) (numbers : List ℕ) (number : ℕ) → Finds old numbers → Noted number (length numbers) old new → Finds new (numbers ++ number ∷ [])
finds_more old new numbers number finds noted = record {
  first = λ other.
      noted.at other ∙ ap (λ o. or_last o (other == number) (length numbers)) (finds.first other) ∙ sym (place_more (λ k. other == k) numbers number);
}

-- a number more, as the code adds it
pub finds_more_as : (numbers more : List ℕ) (old new : List (Option ℕ)) (number place : ℕ)
    → Finds old numbers → place ≡ length numbers → Noted number place old new → more ≡ numbers ++ number ∷ [] → Finds new more
finds_more_as numbers more old new number place finds last noted is =
    rw is (finds_more old new numbers number finds (subst (λ k. Noted number k old new) last noted))

-- the same of what has numbers
pub finds_pushed : {X : Type 0} (number_of : X → ℕ) (xs ys : List X) (x : X) (old new : List (Option ℕ)) (number place : ℕ)
    → Finds old (map number_of xs) → place ≡ length xs → Noted number place old new → ys ≡ xs ++ x ∷ [] → number_of x ≡ number → Finds new (map number_of ys)
finds_pushed number_of xs ys x old new number place finds last noted more named =
    let all : length (map number_of xs) ≡ length xs = length-map xs number_of in
    rw (more, map-append number_of xs (x ∷ []), named)
    (finds_more old new (map number_of xs) number finds (subst (λ k. Noted number k old new) (last ∙ sym all) noted))

place_by : {X : Type 0} (p : ℕ → Bool) (number_of : X → ℕ) (xs : List X) → place_of p (map number_of xs) ≡ place_of (λ x. p (number_of x)) xs
place_by p number_of [] = refl
place_by p number_of (x ∷ xs) = ap (λ o. cond (p (number_of x)) (Some 0) (option_map suc o)) (place_by p number_of xs)

-- a table answers what a search does
pub searched : (table : List (Option ℕ)) (numbers : List ℕ) (number : ℕ) → Finds table numbers → place_in table number ≡ position (λ other. number == other) numbers
searched table numbers number finds = finds.first number ∙ sym (place_found (λ other. number == other) numbers)

pub searched_by : {X : Type 0} (number_of : X → ℕ) (xs : List X) (table : List (Option ℕ)) (number : ℕ) → Finds table (map number_of xs) → place_in table number ≡ position (λ x. number == number_of x) xs
searched_by number_of xs table number finds = finds.first number ∙ place_by (λ other. number == other) number_of xs ∙ sym (place_found (λ x. number == number_of x) xs)

-- ---- functions by their side

counted_sum : (b : Bool) (m n : ℕ) → counted b m + n ≡ m + counted b n
counted_sum true m n = omega arith
counted_sum false m n = refl

counted_twice : (a b : Bool) (n : ℕ) → counted a (counted b n) ≡ counted b (counted a n)
counted_twice true true n = refl
counted_twice true false n = refl
counted_twice false b n = refl

-- where the function of a name stands, or else the end
abbrev place_or : Option ℕ → ℕ → ℕ
place_or None end = end
place_or (Some place) end = place

number_at : (side : Bool) (fs : List code.Signature) (name : ℕ) (n : ℕ) → side_number side (map signature fs) name n ≡ n + side_before side (map signature fs) (place_or (place_of (λ f. name == f.name) fs) (length fs))
number_at side [] name n = omega arith
number_at side (f ∷ fs) name n = by (name == f.name) (place_of (λ g. name == g.name) fs) (λ m. number_at side fs name m)
  where
    by : (b : Bool) (o : Option ℕ) → ((m : ℕ) → side_number side (map signature fs) name m ≡ m + side_before side (map signature fs) (place_or o (length fs)))
        → picked b n (side_number side (map signature fs) name (counted (same_side side (is_import (signature f))) n)) ≡ n + side_before side (map signature (f ∷ fs)) (place_or (cond b (Some 0) (option_map suc o)) (suc (length fs)))
    by true o rest = omega arith
    by false None rest = rest (counted (same_side side (is_import (signature f))) n) ∙ counted_sum (same_side side (is_import (signature f))) n _
    by false (Some k) rest = rest (counted (same_side side (is_import (signature f))) n) ∙ counted_sum (same_side side (is_import (signature f))) n _

pub number_found : (side : Bool) (fs : List code.Signature) (name : ℕ) (k : ℕ) → position (λ f. name == f.name) fs ≡ Some k → side_before side (map signature fs) k ≡ side_number side (map signature fs) name 0
number_found side fs name k found =
    sym (number_at side fs name 0 ∙ ap (λ o. 0 + side_before side (map signature fs) (place_or o (length fs))) (sym (place_found (λ f. name == f.name) fs) ∙ found) ∙ omega arith)

pub number_unknown : (side : Bool) (fs : List code.Signature) (name : ℕ) → position (λ f. name == f.name) fs ≡ None → side_before side (map signature fs) (length fs) ≡ side_number side (map signature fs) name 0
number_unknown side fs name none =
    sym (number_at side fs name 0 ∙ ap (λ o. 0 + side_before side (map signature fs) (place_or o (length fs))) (sym (place_found (λ f. name == f.name) fs) ∙ none) ∙ omega arith)

pub before_first : (side : Bool) (fs : List Signature) → side_before side fs 0 ≡ 0
before_first side [] = refl
before_first side (f ∷ fs) = refl

before_few : (side : Bool) (fs : List Signature) (k : ℕ) → side_before side fs k ≤ k
before_few side [] k = omega arith
before_few side (f ∷ fs) zero = omega arith
before_few side (f ∷ fs) (suc k) = by (same_side side (is_import f)) (before_few side fs k)
  where
    by : (b : Bool) → side_before side fs k ≤ k → counted b (side_before side fs k) ≤ suc k
    by true rest = omega arith
    by false rest = omega arith

-- the number of the last function before a place
pub counted_at : (counts : List ℕ) (fs : List Signature) (place n : ℕ) → Counts counts fs → 0 < place → place ≤ length fs → n ≡ get_or counts (place - 1) n → n ≡ side_before true fs place
counted_at counts fs place n counts_them some within is =
    let next : suc (place - 1) ≡ place = omega arith in
    is ∙ get_or_default counts (place - 1) n 0 (rw counts_them.all (omega arith)) ∙ counts_them.so_far (place - 1) (omega arith) ∙ ap (side_before true fs) next

pub counted_few : (fs : List Signature) (place n : ℕ) → n ≡ side_before true fs place → n ≤ place
counted_few fs place n is = rw is (before_few true fs place)

both_sides : (fs : List Signature) (k : ℕ) → k ≤ length fs → side_before true fs k + side_before false fs k ≡ k
both_sides [] zero within = refl
both_sides [] (suc k) within = absurd (omega arith)
both_sides (f ∷ fs) zero within = refl
both_sides (f ∷ fs) (suc k) within = by (is_import f) (both_sides fs k (omega arith))
  where
    by : (i : Bool) → side_before true fs k + side_before false fs k ≡ k → counted (same_side true i) (side_before true fs k) + counted (same_side false i) (side_before false fs k) ≡ suc k
    by true rest = omega arith
    by false rest = omega arith

pub other_side : (fs : List Signature) (place n : ℕ) → place ≤ length fs → n ≡ side_before true fs place → place - n ≡ side_before false fs place
other_side fs place n within is =
    let sum : side_before true fs place + side_before false fs place ≡ place = both_sides fs place within in
    omega arith

before_more : (side : Bool) (fs : List Signature) (f : Signature) (k : ℕ) → k ≤ length fs → side_before side (fs ++ f ∷ []) k ≡ side_before side fs k
before_more side [] f zero within = refl
before_more side [] f (suc k) within = absurd (omega arith)
before_more side (g ∷ fs) f zero within = refl
before_more side (g ∷ fs) f (suc k) within = ap (counted (same_side side (is_import g))) (before_more side fs f k (omega arith))

before_last : (side : Bool) (fs : List Signature) (f : Signature) → side_before side (fs ++ f ∷ []) (suc (length fs)) ≡ counted (same_side side (is_import f)) (side_before side fs (length fs))
before_last side [] f = refl
before_last side (g ∷ fs) f =
    ap (counted (same_side side (is_import g))) (before_last side fs f) ∙ counted_twice (same_side side (is_import g)) (same_side side (is_import f)) (side_before side fs (length fs))

pub counts_nothing : Counts [] []
counts_nothing = record { all = refl; so_far = λ place less. absurd (omega arith) }

counts_more : (counts : List ℕ) (fs : List Signature) (f : Signature) (n : ℕ) → Counts counts fs → n ≡ counted (is_import f) (side_before true fs (length fs)) → Counts (counts ++ n ∷ []) (fs ++ f ∷ [])
counts_more counts fs f n before last = record {
  all = length-append counts (n ∷ []) ∙ ap (λ k. k + 1) before.all ∙ sym (length-append fs (f ∷ []));
  so_far = so_far;
}
  where
    so_far : (place : ℕ) → place < length (fs ++ f ∷ []) → get_or (counts ++ n ∷ []) place 0 ≡ side_before true (fs ++ f ∷ []) (suc place)
    so_far place less =
        below_more (λ k. get_or (counts ++ n ∷ []) k 0 ≡ side_before true (fs ++ f ∷ []) (suc k)) (length fs)
        (λ k within. get_or_append_left counts (n ∷ []) 0 k (rw before.all within) ∙ before.so_far k within ∙ sym (before_more true fs f (suc k) (omega arith)))
        (get_or_at counts n [] 0 (length fs) before.all ∙ last ∙ sym (before_last true fs f))
        place (omega (arith, length-append fs (f ∷ [])))

-- a function more, as the code adds it
pub counts_pushed : (counts more : List ℕ) (fs gs : List code.Signature) (f : code.Signature) (n : ℕ) → Counts counts (map signature fs)
    → n ≡ counted (is_import (signature f)) (side_before true (map signature fs) (length fs)) → more ≡ counts ++ n ∷ [] → gs ≡ fs ++ f ∷ [] → Counts more (map signature gs)
counts_pushed counts more fs gs f n before last counted_more added =
    rw (counted_more, added, map-append signature fs (f ∷ []))
    (counts_more counts (map signature fs) (signature f) n before (rw (length-map fs signature) last))
