-- What is read after a write.
use Rattle.std.proofs.Common.{◌≡◌, ◌≢◌, ℕ, zero, suc, ◌+◌, ◌*◌, ◌/◌, ◌%◌, ◌^◌, ◌<◌, ◌≤◌, ◌⊎◌, inl, inr, List, length, replicate, slice_index, slice_set, refl, ap, ◌∙◌, arith, get_or-set_other, get_or-set_same, length-set}
use Rattle.std.proofs.lemmas.Bool.{cases_lt}
use Rattle.std.proofs.lemmas.List.{get_or-replicate, length-replicate, get_or_past}
use Rattle.std.proofs.Math.Nat.{pow-suc, one-le-pow}
use Rattle.std.proofs.Math.Arith.{mod-mul}
use Rattle.flat_bytes.specs.Words.{word_at, with_word}

-- a store keeps the number of bytes
pub length-with_word : (w : ℕ) (bytes : List ℕ) (at v : ℕ) → length (with_word w bytes at v) ≡ length bytes
length-with_word zero bytes at v = refl
length-with_word (suc w) bytes at v = length-with_word w (slice_set bytes at (v % 256)) (at + 1) (v / 256) ∙ length-set bytes at (v % 256)

-- each byte outside the word stays
pub byte_apart : (w : ℕ) (bytes : List ℕ) (at v k : ℕ) → (k < at) ⊎ (at + w ≤ k) → slice_index (with_word w bytes at v) k ≡ slice_index bytes k
byte_apart zero bytes at v k out = refl
byte_apart (suc w) bytes at v k out =
    let further : (k < at + 1) ⊎ (at + 1 + w ≤ k) = elim out [ inl before ↦ inl (omega arith) | inr behind ↦ inr (omega arith) ] in
    let other : k ≢ at = omega arith in
    byte_apart w (slice_set bytes at (v % 256)) (at + 1) (v / 256) k further ∙ get_or-set_other bytes at k (v % 256) 0 other

-- a word that shares no byte with what is stored is read as before
pub read_apart : (k w : ℕ) (bytes : List ℕ) (place at v : ℕ) → (place + k ≤ at) ⊎ (at + w ≤ place) → word_at k (with_word w bytes at v) place ≡ word_at k bytes place
read_apart zero w bytes place at v out = refl
read_apart (suc k) w bytes place at v out =
    let byte_out : (place < at) ⊎ (at + w ≤ place) = elim out [ inl before ↦ inl (omega arith) | inr behind ↦ inr (omega arith) ] in
    let rest_out : (place + 1 + k ≤ at) ⊎ (at + w ≤ place + 1) = elim out [ inl before ↦ inl (omega arith) | inr behind ↦ inr (omega arith) ] in
    let byte = byte_apart w bytes at v place byte_out in
    let rest = read_apart k w bytes (place + 1) at v rest_out in
    cc

-- a word that was stored is read again
pub read_same : (w : ℕ) (bytes : List ℕ) (at v : ℕ) → at + w ≤ length bytes → word_at w (with_word w bytes at v) at ≡ v % 256 ^ w
read_same zero bytes at v lies = omega arith
read_same (suc w) bytes at v lies =
    let lowered = slice_set bytes at (v % 256) in
    let len = length-set bytes at (v % 256) in
    let here : slice_index (with_word w lowered (at + 1) (v / 256)) at ≡ v % 256 = byte_apart w lowered (at + 1) (v / 256) at (inl (omega arith)) ∙ get_or-set_same bytes at (v % 256) 0 (omega arith) in
    let rest = read_same w lowered (at + 1) (v / 256) (omega arith) in
    let whole : v % 256 ^ suc w ≡ (v / 256 % 256 ^ w) * 256 + v % 256 = ap (λ m. v % m) (pow-suc 256 w) ∙ mod-mul v {m = 256 ^ w} {c = 256} (one-le-pow w 256 (omega arith)) (omega arith) in
    omega (arith, here, rest, whole)

zero_byte : (n k : ℕ) → slice_index (replicate n 0) k ≡ 0
zero_byte n k = elim (cases_lt k n) [ inl within ↦ get_or-replicate n k 0 0 within | inr past ↦ get_or_past (replicate n 0) k 0 (omega (arith, length-replicate {A = ℕ} n 0)) ]

-- words of zeros are zero
pub read_zeros : (w n at : ℕ) → word_at w (replicate n 0) at ≡ 0
read_zeros zero n at = refl
read_zeros (suc w) n at = omega (arith, zero_byte n at, read_zeros w n (at + 1))
