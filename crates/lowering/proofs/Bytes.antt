-- Words in a list of bytes between two others.
use Rattle.std.proofs.Common.{◌≡◌, ℕ, zero, suc, ◌+◌, ◌/◌, ◌%◌, ◌^◌, ◌<◌, Bool, true, false, List, [], ◌∷◌, ◌++◌, length, refl, ap, ◌∙◌, arith}
use Rattle.std.specs.Prelude.{slice_set}
use Rattle.std.proofs.lemmas.List.{get_or-append-add}
use Rattle.flat_bytes.specs.Words.{word_at, with_word}
use Rattle.lowering.specs.Images.{width_if, word_bytes_if}

-- a word behind other bytes
pub word_behind : (w : ℕ) (pre bytes : List ℕ) (at : ℕ) → word_at w (pre ++ bytes) (length pre + at) ≡ word_at w bytes at
word_behind zero pre bytes at = refl
word_behind (suc w) pre bytes at =
    let here = get_or-append-add pre bytes at 0 in
    let next : length pre + at + 1 ≡ length pre + (at + 1) = omega arith in
    let rest = ap (λ n. word_at w (pre ++ bytes) n) next ∙ word_behind w pre bytes (at + 1) in
    omega (arith, here, rest)

set_behind : (pre bytes : List ℕ) (at v : ℕ) → slice_set (pre ++ bytes) (length pre + at) v ≡ pre ++ slice_set bytes at v
set_behind [] bytes at v = let e : 0 + at ≡ at = omega arith in ap (λ n. slice_set bytes n v) e
set_behind (b ∷ pre) bytes at v =
    let e : suc (length pre) + at ≡ suc (length pre + at) = omega arith in
    ap (λ n. slice_set (b ∷ (pre ++ bytes)) n v) e ∙ ap (λ l. b ∷ l) (set_behind pre bytes at v)

pub with_word_behind : (w : ℕ) (pre bytes : List ℕ) (at v : ℕ) → with_word w (pre ++ bytes) (length pre + at) v ≡ pre ++ with_word w bytes at v
with_word_behind zero pre bytes at v = refl
with_word_behind (suc w) pre bytes at v =
    let next : length pre + at + 1 ≡ length pre + (at + 1) = omega arith in
    ap (λ l. with_word w l (length pre + at + 1) (v / 256)) (set_behind pre bytes at (v % 256))
    ∙ ap (λ n. with_word w (pre ++ slice_set bytes at (v % 256)) n (v / 256)) next
    ∙ with_word_behind w pre (slice_set bytes at (v % 256)) (at + 1) (v / 256)

pub length_word : (char : Bool) (w : ℕ) → length (word_bytes_if char w) ≡ width_if char
length_word true w = refl
length_word false w = refl

-- the number that a word of the width stands for
pub word_read : (char : Bool) (w : ℕ) (post : List ℕ) → w < 256 ^ width_if char → word_at (width_if char) (word_bytes_if char w ++ post) 0 ≡ w
word_read true w post h = omega arith
word_read false w post h = omega arith

-- a word in the place of another one
pub word_written : (char : Bool) (old new : ℕ) (post : List ℕ) → new < 256 ^ width_if char → with_word (width_if char) (word_bytes_if char old ++ post) 0 new ≡ word_bytes_if char new ++ post
word_written true old new post h = refl
word_written false old new post h =
    let third : new / 256 / 256 % 256 ≡ new / 65536 % 256 = omega arith in
    let fourth : new / 256 / 256 / 256 % 256 ≡ new / 16777216 % 256 = omega arith in
    cc
