-- Names in a list, as the keys of a set hold them.
use Rattle.std.proofs.Common.{◌≡◌, ℕ, zero, suc, ◌+◌, ◌<◌, ◌≤◌, Bool, true, false, not, ◌||◌, cond, if◌then◌else◌, nat_lt, position, is_some, bytes_eq, List, [], ◌∷◌, ◌++◌, length, slice_get, Vec, Global, Some, None, refl, sym, ap, ◌∙◌, true≢false, arith}
use Rattle.std.specs.List.{position_or_len, list_any, AllByRecursion, IsDistinct}
use Rattle.std.proofs.lemmas.List.{length-map, map-append}
use Rattle.std.proofs.lemmas.List.Quantifiers.{position-Some}
use Rattle.std.proofs.lemmas.Slice.Eq.{bytes_eq-Decides}
use Rattle.std.proofs.lemmas.Bool.{ltb-false}
use Rattle.std.proofs.lemmas.Bool.Decides.{nat_tests}
use Rattle.ckc_names_rules.specs.Scopes.{is_among}
use Rattle.ckc_names_rules.specs.Naming.{with_new}
use Rattle.ckc_names.specs.NameLists.{name_at, names_in, Distinct}

-- ---- whether a name is in a list

one_more : (a b : ℕ) → nat_lt (1 + a) (suc b) ≡ nat_lt a b
one_more a b = grind (arith, nat_tests)

any_place : {X : Type 0} (p : X → Bool) (xs : List X) → nat_lt (position_or_len p xs) (length xs) ≡ list_any p xs
any_place p [] = refl
any_place p (x ∷ xs) = by (p x) (any_place p xs)
  where
    by : (b : Bool) → nat_lt (position_or_len p xs) (length xs) ≡ list_any p xs → nat_lt (cond (not b) (1 + position_or_len p xs) 0) (suc (length xs)) ≡ (b || list_any p xs)
    by true rest = grind (arith, nat_tests)
    by false rest = one_more (position_or_len p xs) (length xs) ∙ rest

is_some_cond : (b : Bool) (n : ℕ) → is_some (cond b (Some n) None) ≡ b
is_some_cond true n = refl
is_some_cond false n = refl

pub among_any : (names : List (List ℕ)) (name : List ℕ) → is_among names name ≡ list_any (bytes_eq name) names
among_any names name = is_some_cond _ _ ∙ any_place (bytes_eq name) names

pub any_in : (p : List ℕ → Bool) (keys : List (Vec ℕ Global)) → list_any (λ v. p v.items) keys ≡ list_any p (names_in keys)
any_in p [] = refl
any_in p (v ∷ keys) = ap (λ b. p v.items || b) (any_in p keys)

pub is_in_set : (name : List ℕ) (keys : List (Vec ℕ Global)) → list_any (λ v. bytes_eq name v.items) keys ≡ is_among (names_in keys) name
is_in_set name keys = any_in (bytes_eq name) keys ∙ sym (among_any (names_in keys) name)

-- ---- where a name stands

place_in : (p : List ℕ → Bool) (keys : List (Vec ℕ Global)) → position_or_len (λ v. p v.items) keys ≡ position_or_len p (names_in keys)
place_in p [] = refl
place_in p (v ∷ keys) = ap (λ (n : ℕ). cond (not (p v.items)) (1 + n) 0) (place_in p keys)

position_in : (p : List ℕ → Bool) (keys : List (Vec ℕ Global)) → position (λ v. p v.items) keys ≡ position p (names_in keys)
position_in p keys = rw (place_in p keys, length-map keys (λ v. v.items)) refl

some_place : (b : Bool) (k n : ℕ) → cond b (Some k) None ≡ Some n → n ≡ k
some_place true k n is = let same : k ≡ n = cc in sym same
some_place false k n is = absurd (cc)

-- the number that a set finds, or that behind its last
pub found_number : (name : List ℕ) (keys : List (Vec ℕ Global)) (number : ℕ) → position (λ v. bytes_eq name v.items) keys ≡ Some number → number ≡ position_or_len (bytes_eq name) (names_in keys)
found_number name keys number found =
    some_place (nat_lt (position_or_len (λ v. bytes_eq name v.items) keys) (length keys)) (position_or_len (λ v. bytes_eq name v.items) keys) number found ∙ place_in (bytes_eq name) keys

none_place : (b : Bool) (k : ℕ) → cond b (Some k) None ≡ None → b ≡ false
none_place true k is = absurd (cc)
none_place false k is = refl

place_or_end : {X : Type 0} (p : X → Bool) (xs : List X) → position_or_len p xs ≤ length xs
place_or_end p [] = omega arith
place_or_end p (x ∷ xs) = by (p x) (place_or_end p xs)
  where
    by : (b : Bool) → position_or_len p xs ≤ length xs → cond (not b) (1 + position_or_len p xs) 0 ≤ suc (length xs)
    by true rest = omega arith
    by false rest = omega arith

pub end_number : (name : List ℕ) (keys : List (Vec ℕ Global)) → position (λ v. bytes_eq name v.items) keys ≡ None → length keys ≡ position_or_len (bytes_eq name) (names_in keys)
end_number name keys none =
    let p : Vec ℕ Global → Bool = λ v. bytes_eq name v.items in
    let past = ltb-false (position_or_len p keys) (length keys) (none_place (nat_lt (position_or_len p keys) (length keys)) (position_or_len p keys) none) in
    let last : length keys ≡ position_or_len p keys = omega (arith, past, place_or_end p keys) in
    last ∙ place_in (bytes_eq name) keys

pub number_in : (name : List ℕ) (keys : List (Vec ℕ Global)) (number : ℕ) → position (λ v. bytes_eq name v.items) keys ≡ Some number → name_at (names_in keys) number ≡ name
number_in name keys number found =
    let at = position-Some (bytes_eq name) (names_in keys) number [] (sym (position_in (bytes_eq name) keys) ∙ found) in
    sym ((bytes_eq-Decides name (name_at (names_in keys) number)).0 at.1)

pub number_within : (name : List ℕ) (keys : List (Vec ℕ Global)) (number : ℕ) → position (λ v. bytes_eq name v.items) keys ≡ Some number → is_among (names_in keys) name ≡ true
number_within name keys number found = ap is_some (sym (position_in (bytes_eq name) keys) ∙ found)

pub name_of_key : (keys : List (Vec ℕ Global)) (number : ℕ) (v : Vec ℕ Global) → slice_get keys number ≡ Some v → name_at (names_in keys) number ≡ v.items
name_of_key [] number v at = absurd (cc)
name_of_key (key ∷ keys) zero v at = let same : key ≡ v = cc in ap (λ w. w.items) same
name_of_key (key ∷ keys) (suc number) v at = name_of_key keys number v at

pub within_names : (keys : List (Vec ℕ Global)) (number : ℕ) → number < length keys → number < length (names_in keys)
within_names keys number less = omega (arith, less, length-map keys (λ v. v.items))

-- the names behind one that was put in
pub put_in : (keys : List (Vec ℕ Global)) (v : Vec ℕ Global) → names_in (if list_any (λ w. bytes_eq v.items w.items) keys then keys else keys ++ v ∷ []) ≡ with_new (is_among (names_in keys) v.items) v.items (names_in keys)
put_in keys v = rw (is_in_set v.items keys) (by (is_among (names_in keys) v.items))
  where
    by : (b : Bool) → names_in (if b then keys else keys ++ v ∷ []) ≡ with_new b v.items (names_in keys)
    by true = refl
    by false = map-append (λ w. w.items) keys (v ∷ [])

-- ---- no name stands twice

apart : (x : List ℕ) (keys : List (Vec ℕ Global)) (k : ℕ) → AllByRecursion (λ w. bytes_eq x w.items ≡ false) keys → k < length keys → x ≡ name_at (names_in keys) k → ⊥
apart x [] k all less same = omega arith
apart x (key ∷ keys) zero all less same = true≢false (sym ((bytes_eq-Decides x key.items).1 same) ∙ all.0)
apart x (key ∷ keys) (suc k) all less same = apart x keys k all.1 (omega arith) same

same_place : (keys : List (Vec ℕ Global)) → IsDistinct (λ v w. bytes_eq v.items w.items) keys → (j k : ℕ) → j < length keys → k < length keys → name_at (names_in keys) j ≡ name_at (names_in keys) k → j ≡ k
unfolding IsDistinct
same_place [] d j k l m same = absurd (omega arith)
same_place (key ∷ keys) d zero zero l m same = refl
same_place (key ∷ keys) d zero (suc k) l m same = absurd (apart key.items keys k d.0 (omega arith) same)
same_place (key ∷ keys) d (suc j) zero l m same = absurd (apart key.items keys j d.0 (omega arith) (sym same))
same_place (key ∷ keys) d (suc j) (suc k) l m same = ap suc (same_place keys d.1 j k (omega arith) (omega arith) same)

pub distinct_names : (keys : List (Vec ℕ Global)) → IsDistinct (λ v w. bytes_eq v.items w.items) keys → Distinct (names_in keys)
distinct_names keys d = record {
  same = λ j k l m same. let long = length-map keys (λ v. v.items) in same_place keys d j k (omega (arith, long)) (omega (arith, long)) same;
}
