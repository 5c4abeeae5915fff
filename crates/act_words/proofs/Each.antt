-- A function on each item of a list, where it gives something for each of them.
use Rattle.std.proofs.Common.{◌≡◌, ℕ, ◌+◌, ◌<◌, ◌≤◌, List, [], ◌∷◌, ◌++◌, length, get_or, take, map, Option, Some, None, refl, sym, ap, ◌∙◌}
use Rattle.std.proofs.lemmas.List.{take_more, take_all, take-append-drop}
use Rattle.std.proofs.Math.Seq.{drop-cons}
use Rattle.serde_json.specs.Find.{as_number}
use Rattle.serde_json.specs.View.{view, number_view, items_view}
use Rattle.serde_json.specs.declared.number.Number.{Number}
use Rattle.serde_json.specs.declared.value.Value.{Value}
use Rattle.act_words.specs.Readings.{both, numbers_of, words_of, word_of}

abbrev pub each : {A B : Type 0} → (A → Option B) → List A → Option (List B)
each f [] = Some []
each f (x ∷ xs) = both (λ y ys. y ∷ ys) (f x) (each f xs)

abbrev joined : {B : Type 0} → Option (List B) → Option (List B) → Option (List B)
joined = both (λ xs ys. xs ++ ys)

joined-nothing : {B : Type 0} (o : Option (List B)) → o ≡ joined (Some []) o
joined-nothing None = refl
joined-nothing (Some ys) = refl

regroup : {B : Type 0} (a : Option B) (b c : Option (List B)) → both (λ y ys. y ∷ ys) a (joined b c) ≡ joined (both (λ y ys. y ∷ ys) a b) c
regroup None b c = refl
regroup (Some y) None c = refl
regroup (Some y) (Some ys) None = refl
regroup (Some y) (Some ys) (Some zs) = refl

each-append : {A B : Type 0} (f : A → Option B) (xs ys : List A) → each f (xs ++ ys) ≡ joined (each f xs) (each f ys)
each-append f [] ys = joined-nothing (each f ys)
each-append f (x ∷ xs) ys = ap (both (λ y ys. y ∷ ys) (f x)) (each-append f xs ys) ∙ regroup (f x) (each f xs) (each f ys)

nowhere : {B : Type 0} (o : Option (List B)) → joined o None ≡ None
nowhere None = refl
nowhere (Some ys) = refl

-- one more item, one that stops it, and the last
pub each_more : {A B : Type 0} (f : A → Option B) (xs : List A) (i : ℕ) (x : A) (y : B) (ys : List B) → i < length xs → get_or xs i x ≡ x → each f (take i xs) ≡ Some ys → f x ≡ Some y
    → each f (take (i + 1) xs) ≡ Some (ys ++ y ∷ [])
each_more f xs i x y ys within here before this = ap (each f) (take_more xs i x within) ∙ rw here (each-append f (take i xs) (x ∷ []) ∙ rw (before, this))

pub each_none : {A B : Type 0} (f : A → Option B) (xs : List A) (i : ℕ) (x : A) → i < length xs → get_or xs i x ≡ x → f x ≡ None → each f xs ≡ None
each_none f xs i x within here this =
    ap (each f) (sym (take-append-drop i xs) ∙ ap (λ rest. take i xs ++ rest) (drop-cons xs i x within)) ∙ rw here (each-append f (take i xs) _ ∙ rw this (nowhere _))

pub each_all : {A B : Type 0} (f : A → Option B) (xs : List A) (i : ℕ) (ys : List B) → length xs ≤ i → each f (take i xs) ≡ Some ys → each f xs ≡ Some ys
each_all f xs i ys all before = ap (each f) (sym (take_all i xs all)) ∙ before

pub numbers_of-each : (vs : List Value) → numbers_of (items_view vs) ≡ each (λ v. as_number (view v)) vs
numbers_of-each [] = refl
numbers_of-each (v ∷ vs) = ap (both (λ n ns. n ∷ ns) (as_number (view v))) (numbers_of-each vs)

pub words_of-each : (ns : List Number) → words_of (map number_view ns) ≡ each (λ n. word_of (number_view n)) ns
words_of-each [] = refl
words_of-each (n ∷ ns) = ap (both (λ w ws. w ∷ ws) (word_of (number_view n))) (words_of-each ns)
