-- What single words spell, from what is known of them.
use Rattle.std.proofs.Common.{◌≡◌, ℕ, suc, ◌+◌, ◌==◌, ◌^◌, ◌<◌, ◌&&◌, Bool, true, false, List, [], ◌∷◌, length, decimal, Option, Some, None, Result, Ok, Err, refl, sym, ap, ◌∙◌, arith, ℤ, pos, negsuc, subst}
use Rattle.std.specs.Prelude.{FitsSigned, nat_lt, MatchResult, IsUtf8, IfSome}
use Rattle.std.specs.Int.{Width, int_wrap, w32, w64}
use Rattle.std.specs.Ordering.{int_eq}
use Rattle.std.specs.Fmt.{signed_decimal}
use Rattle.std.specs.Str.{bytes_eq}
use Rattle.std.specs.Str.Parse.{digits_value, ParsesUnsigned, ParsesSigned, signed_digits_value}
use Rattle.std.specs.List.{list_all, prefix_len}
use Rattle.std.specs.Result.{result_ok}
use Rattle.std.proofs.lemmas.Fmt.{IsAscii-decimal, IsAscii-signed, parse-decimal, parse-signed_decimal}
use Rattle.std.proofs.lemmas.Str.{IsUtf8-from_ascii}
use Rattle.std.proofs.lemmas.Slice.Eq.{bytes_eq-Decides}
use Rattle.std.proofs.lemmas.Bool.Decides.{Decides-ltb, Decides-int_eq, nat_tests}
use Rattle.std.proofs.lemmas.Int.{SFits-int_wrap, ints}
use Rattle.std.specs.Int.Signed.{mag}
use Rattle.code_words_listing.specs.Reading.{when, number_in, signed_in, signed_value}
use Rattle.code_words_listing.proofs.FieldsBack.{number_back, signed_back, IsSmall, small32, small64}

nothing : {A : Type 0} (first second : Bool) (value : A) → (first ≡ true → second ≡ true → ⊥) → when (first && second) value ≡ None
nothing true true value never = absurd (never refl refl)
nothing true false value never = refl
nothing false second value never = refl

-- a word that no number is written as spells none
pub number-none : (word : List ℕ) → ((n : ℕ) → n < 2 ^ 32 → word ≡ decimal n → ⊥) → number_in word ≡ None
number-none word never =
    nothing (bytes_eq word (decimal (digits_value 10 word))) (nat_lt (digits_value 10 word) (2 ^ 32)) (digits_value 10 word)
    (λ e low. never (digits_value 10 word) ((Decides-ltb (digits_value 10 word) (2 ^ 32)).0 low) ((bytes_eq-Decides word (decimal (digits_value 10 word))).0 e))

-- words that are no text, or that no number is parsed from
pub no-text : {A E : Type 0} (word : List ℕ) (r : Result A E) (P : A → Type 0) (Q : E → Type 0) → MatchResult r P (λ e. (IsUtf8 word → ⊥) × Q e) → result_ok r ≡ None → IsUtf8 word → ⊥
no-text word (Ok s) P Q h none = cc
no-text word (Err e) P Q h none = h.0

pub text-is : {E : Type 0} (word : List ℕ) {A : Type 0} (r : Result A E) (bytes : A → List ℕ) (P : A → Type 0) (Q : E → Type 0) (s : A) → MatchResult r (λ s. (bytes s ≡ word) × P s) Q → result_ok r ≡ Some s → bytes s ≡ word
text-is word (Ok t) bytes P Q s h some = let e : Some t ≡ Some s = some in ap bytes (sym (inner e)) ∙ h.0
  where
    inner : Some t ≡ Some s → t ≡ s
    inner e = cc
text-is word (Err e) bytes P Q s h some = cc

pub number-not-text : (word : List ℕ) → (IsUtf8 word → ⊥) → number_in word ≡ None
number-not-text word never = number-none word (λ n h e. never (subst IsUtf8 (sym e) (IsUtf8-from_ascii (decimal n) (IsAscii-decimal n (omega (arith, h))))))

pub number-not-parsed : {E : Type 0} (word text : List ℕ) (r : Result ℕ E) → text ≡ word → ParsesUnsigned 32 10 text r → result_ok r ≡ None → number_in word ≡ None
number-not-parsed word text (Ok x) same h none = cc
number-not-parsed {E = E} word text (Err e) same h none =
    number-none word (λ n low is. let parsed : Result ℕ E = Err e in let r : parsed ≡ Ok n = parse-decimal {E = E} 32 n text parsed low (omega (arith, low)) (same ∙ is) h in cc)

pub number-parsed : {E : Type 0} (word text : List ℕ) (r : Result ℕ E) (m : ℕ) (written : Bool) → text ≡ word → ParsesUnsigned 32 10 text r → result_ok r ≡ Some m
    → written ≡ bytes_eq (decimal m) word → when written m ≡ number_in word
number-parsed word text (Err e) m written same h some w = cc
number-parsed {E = E} word text (Ok x) m true same h some w =
    let x-is : x ≡ m = cc in
    let low : m < 2 ^ 32 = omega (arith, h.0.1, h.1, x-is) in
    let is : decimal m ≡ word = (bytes_eq-Decides (decimal m) word).0 (sym w) in
    sym (ap number_in (sym is) ∙ number_back m low)
number-parsed {E = E} word text (Ok x) m false same h some w =
    sym (number-none word (λ n low is.
    let parsed : Result ℕ E = Ok x in
    let r : parsed ≡ Ok n = parse-decimal {E = E} 32 n text parsed low (omega (arith, low)) (same ∙ is) h in
    let m-is : m ≡ n = cc in
    let t : bytes_eq (decimal m) word ≡ true = (bytes_eq-Decides (decimal m) word).1 (ap decimal m-is ∙ sym is) in
    cc))

-- ---- numbers with a sign, of a width of at most 64 bits

pub signed-none : (w : Width) (word : List ℕ) → ((z : ℤ) → FitsSigned w z → word ≡ signed_decimal z → ⊥) → signed_in w word ≡ None
signed-none w word never =
    nothing (bytes_eq word (signed_decimal (signed_value word))) (int_eq (int_wrap w (signed_value word)) (signed_value word)) (signed_value word)
    (λ e same. never (signed_value word) (subst (FitsSigned w) ((Decides-int_eq (int_wrap w (signed_value word)) (signed_value word)).0 same) (SFits-int_wrap w (signed_value word)))
    ((bytes_eq-Decides word (signed_decimal (signed_value word))).0 e))

-- each number of the width can be read back
pub record IsReadable (w : Width) : Type 0 where
  pub small : (z : ℤ) → FitsSigned w z → IsSmall z
  pub size : (z : ℤ) → FitsSigned w z → mag z < 2 ^ 63

pub readable32 : IsReadable w32
readable32 = record { small = small32; size = size32 }
  where
    size32 : (z : ℤ) → FitsSigned w32 z → mag z < 2 ^ 63
    size32 (pos n) h = omega (arith, ints, h)
    size32 (negsuc n) h = omega (arith, ints, h)

pub readable64 : IsReadable w64
readable64 = record { small = small64; size = size64 }
  where
    size64 : (z : ℤ) → FitsSigned w64 z → mag z < 2 ^ 63
    size64 (pos n) h = omega (arith, ints, h)
    size64 (negsuc n) h = omega (arith, ints, h)

module _ (w : Width) (readable : IsReadable w) where
  pub signed-not-text : (word : List ℕ) → (IsUtf8 word → ⊥) → signed_in w word ≡ None
  signed-not-text word never = signed-none w word (λ z h e. never (subst IsUtf8 (sym e) (IsUtf8-from_ascii (signed_decimal z) (IsAscii-signed z (readable.size z h)))))

  pub signed-not-parsed : {E : Type 0} (word text : List ℕ) (r : Result ℤ E) → text ≡ word → ParsesSigned w 10 text r → result_ok r ≡ None → signed_in w word ≡ None
  signed-not-parsed word text (Ok x) same h none = cc
  signed-not-parsed {E = E} word text (Err e) same h none =
      signed-none w word (λ z fits is. let parsed : Result ℤ E = Err e in let r : parsed ≡ Ok z = parse-signed_decimal {E = E} w z text parsed fits (readable.size z fits) (same ∙ is) h in cc)

  pub signed-fits : {E : Type 0} (text : List ℕ) (r : Result ℤ E) (m : ℤ) → ParsesSigned w 10 text r → result_ok r ≡ Some m → FitsSigned w m
  signed-fits text (Err e) m h some = cc
  signed-fits text (Ok x) m h some = let same : signed_digits_value 10 text ≡ m = cc in subst (FitsSigned w) same h.0.1

  pub signed-parsed : {E : Type 0} (word text : List ℕ) (r : Result ℤ E) (m : ℤ) (written : Bool) → text ≡ word → ParsesSigned w 10 text r → result_ok r ≡ Some m
      → written ≡ bytes_eq (signed_decimal m) word → when written m ≡ signed_in w word
  signed-parsed word text (Err e) m written same h some s = cc
  signed-parsed {E = E} word text (Ok x) m true same h some s =
      let fits : FitsSigned w m = signed-fits {E = E} text (Ok x) m h some in
      let is : signed_decimal m ≡ word = (bytes_eq-Decides (signed_decimal m) word).0 (sym s) in
      sym (ap (signed_in w) (sym is) ∙ signed_back w m fits (readable.small m fits))
  signed-parsed {E = E} word text (Ok x) m false same h some s =
      sym (signed-none w word (λ z fits is.
      let parsed : Result ℤ E = Ok x in
      let r : parsed ≡ Ok z = parse-signed_decimal {E = E} w z text parsed fits (readable.size z fits) (same ∙ is) h in
      let m-is : m ≡ z = cc in
      let t : bytes_eq (signed_decimal m) word ≡ true = (bytes_eq-Decides (signed_decimal m) word).1 (ap signed_decimal m-is ∙ sym is) in
      cc))

-- ---- names and places

one-more : (m n : ℕ) → ((1 + m) == suc n) ≡ (m == n)
one-more m n = grind (arith, nat_tests)

none-of : (n : ℕ) → (0 == suc n) ≡ false
none-of n = grind (arith, nat_tests)

pub all-word-bytes : (p : ℕ → Bool) (word : List ℕ) → list_all p word ≡ (prefix_len p word == length word)
all-word-bytes p [] = refl
all-word-bytes p (b ∷ word) = by (p b) refl (all-word-bytes p word)
  where
    by : (t : Bool) → p b ≡ t → list_all p word ≡ (prefix_len p word == length word) → list_all p (b ∷ word) ≡ (prefix_len p (b ∷ word) == length (b ∷ word))
    by true e h = rw e (h ∙ sym (one-more (prefix_len p word) (length word)))
    by false e h = rw e (sym (none-of (length word)))

-- a number with a sign that is spelled fits its width
pub fits_of : (w : Width) (word : List ℕ) (found : Option ℤ) → found ≡ signed_in w word → IfSome found (λ z. FitsSigned w z)
fits_of w word None h = tt
fits_of w word (Some z) h = by (bytes_eq word (signed_decimal v)) (int_eq (int_wrap w v) v) refl h
  where
    v : ℤ
    v = signed_value word

    by : (e l : Bool) → int_eq (int_wrap w v) v ≡ l → Some z ≡ when (e && l) v → FitsSigned w z
    by true true l s = let is : v ≡ z = cc in subst (FitsSigned w) ((Decides-int_eq (int_wrap w v) v).0 l ∙ is) (SFits-int_wrap w v)
    by true false l s = cc
    by false l k s = cc
