-- A word that is written for a value spells the value.
use Rattle.std.proofs.Common.{◌≡◌, ℕ, suc, ◌+◌, ◌^◌, ◌<◌, ◌≤◌, ◌%◌, ◌==◌, true, false, List, [], ◌∷◌, ◌++◌, length, drop, decimal, Option, Some, None, inl, inr, refl, ap, arith, ℤ, pos, negsuc, lit<, append_assoc, length-append, drop_at}
use Rattle.std.specs.Prelude.{All, FitsSigned, nat_lt, nat_le, codes}
use Rattle.std.specs.Int.{Width, w32, w64}
use Rattle.std.specs.List.{position_or_len}
use Rattle.std.specs.Prelude.{take, position}
use Rattle.std.specs.Fmt.{signed_decimal}
use Rattle.std.specs.Str.{bytes_eq}
use Rattle.std.specs.Str.Parse.{digits_value}
use Rattle.std.proofs.lemmas.Fmt.{decimal_is_IsNumeral, decimal_by_steps}
use Rattle.std.proofs.lemmas.Slice.Eq.{bytes_eq-Decides}
use Rattle.std.proofs.lemmas.Bool.Decides.{Decides-ltb, Decides-eqb, Decides-int_eq, nat_tests}
use Rattle.std.proofs.lemmas.Int.{int_wrap_fits, ints}
use Rattle.std.proofs.lemmas.Bool.{cases_lt}
use Rattle.std.proofs.lemmas.List.{get_or_past, take_at}
use Rattle.std.proofs.lemmas.List.Elements.{All-nil, All-cons, All-append, All-get_or, All-head, All-tail}
use Rattle.std.specs.List.{slice_index}
use Rattle.hex.specs.Hex.{IsBytes}
use Rattle.hex.specs.Hex.{encode_lower}
use Rattle.hex.proofs.HexLemmas.{decode_of-encode_lower}
use Rattle.ckc_text.specs.declared.place.Place.{Place}
use Rattle.ckc_text.specs.Names.{IsName, begins_with}
use Rattle.code_words_listing.specs.Fields.{IsNumberOrNone, place_text, optional_text}
use Rattle.code_words_listing.specs.Reading.{number_in, size_in, signed_value, signed_in, number_or_none_in, name_in, bytes_in, place_in}

same : (word : List ℕ) → bytes_eq word word ≡ true
same word = (bytes_eq-Decides word word).1 refl

pub number_back : (n : ℕ) → n < 2 ^ 32 → number_in (decimal n) ≡ Some n
number_back n h =
    let value : digits_value 10 (decimal n) ≡ n = (decimal_is_IsNumeral n (omega (arith, h))).1 in
    rw (value, same (decimal n), (Decides-ltb n (2 ^ 32)).1 h) refl

pub size_back : (n : ℕ) → (1 ≤ n) × (n < 2 ^ 32) → size_in (decimal n) ≡ Some n
size_back n h =
    let some : nat_le 1 n ≡ true = grind (arith, nat_tests, h.0) in
    rw (number_back n h.1, some) refl

-- ---- digits

-- the bytes of a number are digits
abbrev pub IsDigit : ℕ → Type 0
IsDigit b = (48 ≤ b) × (b ≤ 57)

-- a first digit, and more digits
record AreDigits (word : List ℕ) : Type 0 where
  pub first : ℕ
  pub others : List ℕ
  pub parts : word ≡ first ∷ others
  pub digit : 48 ≤ first

are-digits : (n : ℕ) → n < 2 ^ 64 → AreDigits (decimal n)
are-digits n h =
    decimal_by_steps (λ n ds. AreDigits ds) (λ n low. record { first = 48 + n; others = []; parts = refl; digit = omega arith })
    (λ n ds low d. record { first = d.first; others = d.others ++ (48 + n % 10) ∷ []; parts = ap (λ l. l ++ (48 + n % 10) ∷ []) d.parts; digit = d.digit }) n h

no-minus : (word : List ℕ) → AreDigits word → begins_with (λ b. b == 45) word ≡ false
no-minus word d = rw d.parts (grind (arith, nat_tests, d.digit))

-- the digits of the number are few enough to be read back
abbrev pub IsSmall : ℤ → Type 0
IsSmall (pos n) = n < 2 ^ 64
IsSmall (negsuc n) = suc n < 2 ^ 64

pub small32 : (z : ℤ) → FitsSigned w32 z → IsSmall z
small32 (pos n) h = omega (arith, ints, h)
small32 (negsuc n) h = omega (arith, ints, h)

pub small64 : (z : ℤ) → FitsSigned w64 z → IsSmall z
small64 (pos n) h = omega (arith, ints, h)
small64 (negsuc n) h = omega (arith, ints, h)

signed-value : (z : ℤ) → IsSmall z → signed_value (signed_decimal z) ≡ z
signed-value (pos n) h = rw (no-minus (decimal n) (are-digits n h), (decimal_is_IsNumeral n h).1) refl
signed-value (negsuc n) h = rw (decimal_is_IsNumeral (suc n) h).1 refl

pub signed_back : (w : Width) (z : ℤ) → FitsSigned w z → IsSmall z → signed_in w (signed_decimal z) ≡ Some z
signed_back w z h small = rw (signed-value z small, same (signed_decimal z), int_wrap_fits w z h, (Decides-int_eq z z).1 refl) refl

pub signed32_back : (z : ℤ) → FitsSigned w32 z → signed_in w32 (signed_decimal z) ≡ Some z
signed32_back z h = signed_back w32 z h (small32 z h)

pub signed64_back : (z : ℤ) → FitsSigned w64 z → signed_in w64 (signed_decimal z) ≡ Some z
signed64_back z h = signed_back w64 z h (small64 z h)

-- ---- places

pub all-digits : (n : ℕ) → n < 2 ^ 64 → All IsDigit (decimal n)
all-digits n h =
    decimal_by_steps (λ n ds. All IsDigit ds) (λ n low. All-cons IsDigit (48 + n) [] (omega arith, omega arith) (All-nil IsDigit))
    (λ n ds low d. All-append IsDigit ds ((48 + n % 10) ∷ []) d (All-cons IsDigit (48 + n % 10) [] (omega arith, omega arith) (All-nil IsDigit))) n h

-- the first colon stands behind the digits of the line
up-to : (front : List ℕ) (b : ℕ) (others : List ℕ) → All (λ b. (b == 58) ≡ false) front → (b == 58) ≡ true → position_or_len (λ b. b == 58) (front ++ b ∷ others) ≡ length front
up-to [] b others h e = rw e refl
up-to (a ∷ front) b others h e =
    rw (All-head (λ b. (b == 58) ≡ false) a front h) (omega (arith, up-to front b others (All-tail (λ b. (b == 58) ≡ false) a front h) e))

colon-at : (front others : List ℕ) → All (λ b. (b == 58) ≡ false) front → position (λ b. b == 58) ((front ++ 58 ∷ []) ++ others) ≡ Some (length front)
colon-at front others h =
    let at = up-to front 58 others h refl in
    let inside : nat_lt (length front) (length (front ++ 58 ∷ others)) ≡ true = (Decides-ltb (length front) (length (front ++ 58 ∷ others))).1 (omega (arith, length-append front (58 ∷ others))) in
    rw (append_assoc front (58 ∷ []) others, at, inside) refl

pub place_back : (place : Place) → (place.line < 2 ^ 32) × (place.col < 2 ^ 32) → place_in (place_text place) ≡ Some place
place_back place h =
    let front = decimal place.line in
    let others = decimal place.col in
    let no-colon : All (λ b. (b == 58) ≡ false) front = λ k d low. grind (arith, nat_tests, all-digits place.line (omega (arith, h.0)) k d low) in
    let before : take (length front) ((front ++ 58 ∷ []) ++ others) ≡ front = rw (append_assoc front (58 ∷ []) others) (take_at front (58 ∷ others) (length front) refl) in
    let behind : drop (length front + 1) ((front ++ 58 ∷ []) ++ others) ≡ others = drop_at (front ++ 58 ∷ []) others (length front + 1) (length-append front (58 ∷ [])) in
    rw (colon-at front others no-colon, before, behind, number_back place.line h.0, number_back place.col h.1) refl

-- ---- others

pub number_or_none_back : (number : Option ℕ) → IsNumberOrNone number → number_or_none_in (optional_text number) ≡ Some number
number_or_none_back None h = refl
number_or_none_back (Some n) h =
    let d = are-digits n (omega (arith, h)) in
    let other : bytes_eq (decimal n) (codes "-") ≡ false = rw d.parts (grind (arith, nat_tests, d.digit)) in
    rw (other, number_back n h) refl

pub name_back : (name : List ℕ) → IsName name → name_in name ≡ Some name
name_back name h = rw (h.starts, h.whole, (Decides-eqb (length name) (length name)).1 refl) refl

are-bytes : (bytes : List ℕ) → All (λ b. b < 256) bytes → IsBytes bytes
are-bytes bytes h i =
    elim (cases_lt i (length bytes)) as (λ _. slice_index bytes i < 256) [ inl low ↦ All-get_or (λ b. b < 256) bytes i 0 low h | inr high ↦ rw (get_or_past bytes i 0 high) (lit< tt) ]

pub bytes_back : (bytes : List ℕ) → All (λ b. b < 256) bytes → bytes_in (encode_lower bytes) ≡ Some bytes
bytes_back bytes h = rw (decode_of-encode_lower bytes (are-bytes bytes h), same (encode_lower bytes)) refl
