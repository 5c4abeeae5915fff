-- Reading the numbers between commas one after the other.
use Rattle.std.proofs.Common.{rules, ◌≡◌, ℕ, ℤ, ◌+◌, ◌≤◌, Bool, true, false, List, [], ◌∷◌, ◌++◌, length, Option, Some, None, option_map, refl, sym, ap, ◌∙◌, arith}
use Rattle.std.specs.Option.{option_and_then}
use Rattle.std.specs.Prelude.{if◌then◌else◌, nat_le, IfSome}
use Rattle.std.proofs.lemmas.Bool.Decides.{nat_tests}
use Rattle.std.proofs.lemmas.List.{append_assoc, length-append}
use Rattle.ccbox_call_words.specs.Requests.{numbers_in, pieces_of, few, input_list}
use Rattle.ccbox_call_words.specs.Pieces.{is_some}

-- the numbers so far, and those that are left
abbrev pub joined : List ℤ → Option (List ℤ) → Option (List ℤ)
joined sofar left = option_map (λ numbers. sofar ++ numbers) left

-- so many numbers were counted, and the numbers of a text are these and those of its rest
pub record Counted (text rest : List ℕ) (count : ℕ) : Type 0 where
  pub sofar : List ℤ
  pub long : length sofar ≡ count
  pub few : count ≤ 65536
  pub read : numbers_in (pieces_of text) ≡ joined sofar (numbers_in (pieces_of rest))

one_further : (sofar : List ℤ) (n : ℤ) (left : Option (List ℤ)) → joined sofar (option_map (λ numbers. n ∷ numbers) left) ≡ joined (sofar ++ (n ∷ [])) left
one_further sofar n None = refl
one_further sofar n (Some numbers) = ap Some (sym (append_assoc sofar (n ∷ []) numbers))

few_or_none : (numbers : List ℤ) → is_some (few numbers) ≡ nat_le (length numbers) 65536
few_or_none numbers = by (nat_le (length numbers) 65536)
  where
    by : (t : Bool) → is_some (if t then Some numbers else None) ≡ t
    by true = refl
    by false = refl

small_enough : (k : ℕ) → k ≤ 65536 → nat_le k 65536 ≡ true
small_enough k le = grind (arith, nat_tests)

few_same : (numbers : List ℤ) → is_some (few numbers) ≡ true → few numbers ≡ Some numbers
few_same numbers = same (few numbers) (by (nat_le (length numbers) 65536))
  where
    same : (few : Option (List ℤ)) → IfSome few (λ there. there ≡ numbers) → is_some few ≡ true → few ≡ Some numbers
    same (Some there) is some = ap Some is
    same None is some = search rules

    by : (t : Bool) → IfSome (if t then Some numbers else None) (λ there. there ≡ numbers)
    by true = refl
    by false = tt

-- the numbers of a text are those so far and those of the rest
module _ (text rest : List ℕ) (sofar : List ℤ) (read : numbers_in (pieces_of text) ≡ joined sofar (numbers_in (pieces_of rest))) where
  pub none_first : numbers_in (pieces_of rest) ≡ None → input_list text ≡ None
  none_first none = ap (option_and_then few) (read ∙ ap (joined sofar) none)

  pub last : (n : ℤ) → numbers_in (pieces_of rest) ≡ Some (n ∷ []) → input_list text ≡ few (sofar ++ (n ∷ []))
  last n is = ap (option_and_then few) (read ∙ ap (joined sofar) is)

  pub next : (n : ℤ) (behind : List ℕ) → numbers_in (pieces_of rest) ≡ option_map (λ numbers. n ∷ numbers) (numbers_in (pieces_of behind)) → numbers_in (pieces_of text) ≡ joined (sofar ++ (n ∷ [])) (numbers_in (pieces_of behind))
  next n behind is = read ∙ (ap (joined sofar) is ∙ one_further sofar n (numbers_in (pieces_of behind)))

  pub last_is : (n : ℤ) → numbers_in (pieces_of rest) ≡ Some (n ∷ []) → is_some (input_list text) ≡ true → Some (sofar ++ (n ∷ [])) ≡ input_list text
  last_is n is some = let at = last n is in rw at (sym (few_same (sofar ++ (n ∷ [])) (rw at at some)))

  pub last_some : (n : ℤ) → numbers_in (pieces_of rest) ≡ Some (n ∷ []) → length sofar + 1 ≤ 65536 → is_some (input_list text) ≡ true
  last_some n is small = ap is_some (last n is) ∙ (few_or_none (sofar ++ (n ∷ [])) ∙ small_enough (length (sofar ++ (n ∷ []))) (omega (arith, length-append sofar (n ∷ []))))
