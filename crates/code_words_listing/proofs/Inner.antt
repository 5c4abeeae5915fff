-- Words have no byte that ends a word or a line.
use Rattle.std.proofs.Common.{◌≡◌, ℕ, suc, ◌^◌, ◌<◌, ◌≤◌, ◌/◌, ◌%◌, ◌&&◌, Bool, true, false, List, [], ◌∷◌, ◌++◌, length, map, decimal, Some, None, refl, arith, pos, negsuc, lit≤, ℤ}
use Rattle.std.specs.Prelude.{All, nat_le, codes, get_or}
use Rattle.std.specs.List.{list_all, prefix_len}
use Rattle.std.specs.Fmt.{signed_decimal}
use Rattle.std.proofs.lemmas.List.Elements.{All-nil, All-cons, All-append, All-get_or, All-weaker, All-head, All-tail, All-from_get_or}
use Rattle.std.proofs.lemmas.List.Sums.{prefix_len_passes}
use Rattle.std.proofs.lemmas.Bool.Decides.{nat_tests}
use Rattle.hex.specs.Hex.{encode_lower, encode_with, lower_digits}
use Rattle.ckc_text.specs.Names.{is_word_byte}
use Rattle.code_words_listing.specs.Fields.{Field, Fixed, Number, Size, Signed32, Signed64, NumberOrNone, Named, Bytes, At, Fits, word_of}
use Rattle.code_words_listing.proofs.FieldsBack.{IsDigit, all-digits, IsSmall, small32, small64}

-- the byte is above the space
abbrev pub Inner : ℕ → Type 0
Inner b = 33 ≤ b

abbrev pub is_inner : ℕ → Bool
is_inner b = nat_le 33 b

-- a word that always stands there has such bytes
abbrev pub is_plain : Field → Bool
is_plain (Fixed word) = list_all is_inner word
is_plain _ = true

both : (a b : Bool) → (a && b) ≡ true → (a ≡ true) × (b ≡ true)
both true b h = (refl, h)
both false b h = cc

inner-bytes : (word : List ℕ) → list_all is_inner word ≡ true → All Inner word
inner-bytes [] h = All-nil Inner
inner-bytes (b ∷ word) h =
    let parts = both (is_inner b) (list_all is_inner word) h in
    All-cons Inner b word (grind (arith, nat_tests, parts.0)) (inner-bytes word parts.1)

inner-number : (n : ℕ) → n < 2 ^ 64 → All Inner (decimal n)
inner-number n h = All-weaker IsDigit Inner (λ b d. omega (arith, d.0)) (decimal n) (all-digits n h)

inner-signed : (z : ℤ) → IsSmall z → All Inner (signed_decimal z)
inner-signed (pos n) h = inner-number n h
inner-signed (negsuc n) h = All-cons Inner 45 (decimal (suc n)) (lit≤ tt) (inner-number (suc n) h)

word-byte : (b : ℕ) → is_word_byte b ≡ true → 33 ≤ b
word-byte b h = grind (arith, nat_tests)

inner-name : (name : List ℕ) → prefix_len is_word_byte name ≡ length name → All Inner name
inner-name name h = All-from_get_or Inner name 0 (λ i low. word-byte (get_or name i 0) (prefix_len_passes is_word_byte name i 0 (omega (arith, low, h))))

inner-hex : (bytes : List ℕ) → All (λ b. b < 256) bytes → All Inner (encode_lower bytes)
unfolding encode_with
inner-hex [] h = All-nil Inner
inner-hex (b ∷ bytes) h =
    let low : b < 256 = All-head (λ b. b < 256) b bytes h in
    let digits : All Inner lower_digits = inner-bytes lower_digits refl in
    All-cons Inner (get_or lower_digits (b / 16) 0) (get_or lower_digits (b % 16) 0 ∷ encode_lower bytes) (All-get_or Inner lower_digits (b / 16) 0 (omega (arith, low)) digits)
    (All-cons Inner (get_or lower_digits (b % 16) 0) (encode_lower bytes) (All-get_or Inner lower_digits (b % 16) 0 (omega (arith, low)) digits) (inner-hex bytes (All-tail (λ b. b < 256) b bytes h)))

pub inner-field : (f : Field) → Fits f → is_plain f ≡ true → All Inner (word_of f)
inner-field (Fixed word) h p = inner-bytes word p
inner-field (Number n) h p = inner-number n (omega (arith, h))
inner-field (Size n) h p = inner-number n (omega (arith, h.1))
inner-field (Signed32 z) h p = inner-signed z (small32 z h)
inner-field (Signed64 z) h p = inner-signed z (small64 z h)
inner-field (NumberOrNone None) h p = inner-bytes (codes "-") refl
inner-field (NumberOrNone (Some n)) h p = inner-number n (omega (arith, h))
inner-field (Named name) h p = inner-name name h.whole
inner-field (Bytes bytes) h p = inner-hex bytes h
inner-field (At place) h p =
    All-cons Inner 64 _ (lit≤ tt) (All-append Inner (decimal place.line ++ 58 ∷ []) (decimal place.col)
    (All-append Inner (decimal place.line) (58 ∷ []) (inner-number place.line (omega (arith, h.0))) (inner-bytes (58 ∷ []) refl)) (inner-number place.col (omega (arith, h.1))))

pub inner-words : (fs : List Field) → All Fits fs → list_all is_plain fs ≡ true → All (All Inner) (map word_of fs)
inner-words [] h p = All-nil (All Inner)
inner-words (f ∷ fs) h p =
    let parts = both (is_plain f) (list_all is_plain fs) p in
    All-cons (All Inner) (word_of f) (map word_of fs) (inner-field f (All-head Fits f fs h) parts.0) (inner-words fs (All-tail Fits f fs h) parts.1)
