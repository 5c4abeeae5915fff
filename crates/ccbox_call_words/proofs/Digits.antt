-- Numbers in words.
use Rattle.std.proofs.Common.{rules, ◌≡◌, ℕ, ◌^◌, ◌<◌, ◌≤◌, true, List, [], ◌∷◌, None, Result, Ok, Err, refl, sym, ap, arith}
use Rattle.std.specs.Option.{option_and_then}
use Rattle.std.specs.Result.{result_ok}
use Rattle.std.specs.List.{list_all}
use Rattle.std.specs.Str.Parse.{digits_value, ParsesUnsigned}
use Rattle.std.proofs.lemmas.Bool.Decides.{nat_tests}
use Rattle.std.proofs.lemmas.Str.Parse.{IsNumeralModel, numerals_by_value, parse_digits}
use Rattle.ccbox_call_words.specs.Requests.{is_digit, in_range, number_from}

numerals : IsNumeralModel (λ ds. list_all is_digit ds ≡ true) (digits_value 10)
numerals = numerals_by_value (λ ds. list_all is_digit ds ≡ true) (search rules)

great : (least most n : ℕ) → most < 2 ^ 32 → 2 ^ 32 ≤ n → in_range least most n ≡ None
great least most n lt le = grind (arith, nat_tests)

-- digits that name no u32 are out of range
module _ (least most : ℕ) (small : most < 2 ^ 32) where
  pub parsed : {E : Type 0} → (bs : List ℕ) (r : Result ℕ E) → ParsesUnsigned 32 10 bs r → list_all is_digit bs ≡ true → number_from least most bs ≡ option_and_then (in_range least most) (result_ok r)
  parsed {E = E} [] (Ok x) h all = let some : 0 < 0 = (parse_digits numerals {E = E} 32 [] (Ok x) h all).0.0 in absurd (omega arith)
  parsed {E = E} [] (Err e) h all = refl
  parsed {E = E} (b ∷ bs) (Ok x) h all = let is : x ≡ digits_value 10 (b ∷ bs) = (parse_digits numerals {E = E} 32 (b ∷ bs) (Ok x) h all).1 in rw all (ap (in_range least most) (sym is))
  parsed {E = E} (b ∷ bs) (Err e) h all =
      let wide = parse_digits numerals {E = E} 32 (b ∷ bs) (Err e) h all in
      let no : digits_value 10 (b ∷ bs) < 2 ^ 32 → ⊥ = λ lt. wide (omega arith, lt) in
      rw all (great least most (digits_value 10 (b ∷ bs)) small (omega (arith, no)))
