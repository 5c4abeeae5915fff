-- Where blocks of some shapes stand, and the words of values there. Blocks are only added, and none of them moves.
use Rattle.std.proofs.Common.{◌≡◌, ℕ, zero, suc, ◌+◌, ◌-◌, ◌<◌, ◌≤◌, Bool, true, false, cond, List, [], ◌∷◌, ◌++◌, Option, Some, None, refl, sym, ap, ◌∙◌, subst, arith, append_assoc}
use Rattle.std.specs.Prelude.{◌==◌, nat_lt, option_map, slice_get, sum}
use Rattle.std.proofs.lemmas.List.{append-nil}
use Rattle.std.proofs.lemmas.List.Sums.{sum_by-cons}
use Rattle.std.proofs.lemmas.Bool.Decides.{nat_tests}
use Rattle.flat_bytes.specs.Blocks.{first_offset, grown}
use Rattle.ckc_core.specs.States.{Value, Number, Null, At, Block, Shape, Grows, shape, shapes, number_at}
use Rattle.ckc_core.proofs.Numbers.{IsNumber}
use Rattle.lowering.specs.Correct.{size_of, offset_from, word_of}

pub sum_cons : (x : ℕ) (xs : List ℕ) → sum (x ∷ xs) ≡ x + sum xs
sum_cons x xs = sum_by-cons (λ (n : ℕ). n) x xs

-- ---- where blocks and cells stand

-- the offset behind blocks, of which the first stands at one
abbrev pub end_from : ℕ → List Shape → ℕ
end_from offset [] = offset
end_from offset (s ∷ blocks) = end_from (grown offset (size_of s)) blocks

-- how many bytes stand before a cell
abbrev pub bytes_before : List ℕ → ℕ → ℕ
bytes_before strides zero = 0
bytes_before [] (suc cell) = 0
bytes_before (stride ∷ strides) (suc cell) = stride + bytes_before strides cell

begins_by : (stride byte cell : ℕ) (strides : List ℕ) (first inside : Bool) (o : Option ℕ) → (byte == 0) ≡ first → nat_lt byte stride ≡ inside → ((k : ℕ) → o ≡ Some k → bytes_before strides k ≡ byte - stride) → cond first (Some 0) (cond inside None (option_map (λ (n : ℕ). suc n) o)) ≡ Some cell → bytes_before (stride ∷ strides) cell ≡ byte
begins_by stride byte cell strides true inside o is low more h =
    let e : 0 ≡ cell = cc in
    let none : 0 ≡ byte = grind (arith, nat_tests) in
    subst (λ k. bytes_before (stride ∷ strides) k ≡ byte) e none
begins_by stride byte cell strides false true o is low more h = absurd (cc)
begins_by stride byte cell strides false false None is low more h = absurd (cc)
begins_by stride byte cell strides false false (Some k) is low more h =
    let e : suc k ≡ cell = cc in
    let before = more k refl in
    let enough : stride ≤ byte = grind (arith, nat_tests) in
    let here : stride + bytes_before strides k ≡ byte = omega arith in
    subst (λ n. bytes_before (stride ∷ strides) n ≡ byte) e here

-- a cell begins at the byte behind those before it
pub begins : (strides : List ℕ) (byte cell : ℕ) → number_at strides byte ≡ Some cell → bytes_before strides cell ≡ byte
begins [] byte cell h = absurd (cc)
begins (stride ∷ strides) byte cell h =
    begins_by stride byte cell strides (byte == 0) (nat_lt byte stride) (number_at strides (byte - stride)) refl refl (λ k e. begins strides (byte - stride) k e) h

-- a block that is there has its shape
pub shape_there : (blocks : List Block) (number : ℕ) (b : Block) → slice_get blocks number ≡ Some b → slice_get (shapes blocks) number ≡ Some (shape b)
shape_there [] number b h = absurd (cc)
shape_there (x ∷ blocks) zero b h = let e : x ≡ b = cc in ap (λ y. Some (shape y)) e
shape_there (x ∷ blocks) (suc number) b h = shape_there blocks number b h

-- ---- bounds

pub bytes_before_le : (strides : List ℕ) (cell : ℕ) → bytes_before strides cell ≤ sum strides
bytes_before_le strides zero = omega arith
bytes_before_le [] (suc cell) = omega arith
bytes_before_le (stride ∷ strides) (suc cell) = omega (arith, sum_cons stride strides, bytes_before_le strides cell)

pub offset_least : (offset : ℕ) (blocks : List Shape) (number : ℕ) → offset ≤ offset_from offset blocks number
offset_least offset [] number = omega arith
offset_least offset (s ∷ blocks) zero = omega arith
offset_least offset (s ∷ blocks) (suc number) = omega (arith, offset_least (grown offset (size_of s)) blocks number)

pub end_least : (offset : ℕ) (blocks : List Shape) → offset ≤ end_from offset blocks
end_least offset [] = omega arith
end_least offset (s ∷ blocks) = omega (arith, end_least (grown offset (size_of s)) blocks)

-- a block ends before the end of all
pub block_within : (offset : ℕ) (blocks : List Shape) (number : ℕ) (s : Shape) → slice_get blocks number ≡ Some s → offset_from offset blocks number + size_of s + 16 ≤ end_from offset blocks
block_within offset [] number s h = absurd (cc)
block_within offset (x ∷ blocks) zero s h = let e : x ≡ s = cc in omega (arith, end_least (grown offset (size_of x)) blocks, ap size_of e)
block_within offset (x ∷ blocks) (suc number) s h = block_within (grown offset (size_of x)) blocks number s h

-- and before the next one
pub blocks_apart : (offset : ℕ) (blocks : List Shape) (j k : ℕ) (s other : Shape) → slice_get blocks j ≡ Some s → slice_get blocks k ≡ Some other → j < k → offset_from offset blocks j + size_of s + 16 ≤ offset_from offset blocks k
blocks_apart offset [] j k s other h there lt = absurd (cc)
blocks_apart offset (x ∷ blocks) j zero s other h there lt = absurd (omega arith)
blocks_apart offset (x ∷ blocks) zero (suc k) s other h there lt = let e : x ≡ s = cc in omega (arith, offset_least (grown offset (size_of x)) blocks k, ap size_of e)
blocks_apart offset (x ∷ blocks) (suc j) (suc k) s other h there lt = blocks_apart (grown offset (size_of x)) blocks j k s other h there (omega arith)

-- ---- values

-- a place in a block that is there, up to its end
pub record InBlock (blocks : List Shape) (block byte : ℕ) : Type 0 where
  pub found : Shape
  pub there : slice_get blocks block ≡ Some found
  pub within : byte ≤ size_of found

-- a number of 32 bits, null, or a place in a block
abbrev pub IsKeptBy : List Shape → Value → Type 0
IsKeptBy blocks (Number number) = IsNumber number
IsKeptBy blocks Null = Unit {0}
IsKeptBy blocks (At block byte) = InBlock blocks block byte

-- ---- blocks that are added

pub grows_none : (blocks : List Shape) → Grows blocks blocks
grows_none blocks = ([], sym (append-nil blocks))

pub grows_on : (a b c : List Shape) → Grows a b → Grows b c → Grows a c
grows_on a b c first second = (first.0 ++ second.0, second.1 ∙ ap (λ l. l ++ second.0) first.1 ∙ append_assoc a first.0 second.0)

there_grows : (blocks more : List Shape) (number : ℕ) (s : Shape) → slice_get blocks number ≡ Some s → slice_get (blocks ++ more) number ≡ Some s
there_grows [] more number s h = absurd (cc)
there_grows (x ∷ blocks) more zero s h = h
there_grows (x ∷ blocks) more (suc number) s h = there_grows blocks more number s h

offset_grows : (offset : ℕ) (blocks more : List Shape) (number : ℕ) (s : Shape) → slice_get blocks number ≡ Some s → offset_from offset (blocks ++ more) number ≡ offset_from offset blocks number
offset_grows offset [] more number s h = absurd (cc)
offset_grows offset (x ∷ blocks) more zero s h = refl
offset_grows offset (x ∷ blocks) more (suc number) s h = offset_grows (grown offset (size_of x)) blocks more number s h

-- a block that was there is still there, at its offset
pub still_there : (before after : List Shape) (number : ℕ) (s : Shape) → Grows before after → slice_get before number ≡ Some s → slice_get after number ≡ Some s
still_there before after number s grows h = ap (λ l. slice_get l number) grows.1 ∙ there_grows before grows.0 number s h

pub same_offset : (before after : List Shape) (number : ℕ) (s : Shape) → Grows before after → slice_get before number ≡ Some s → offset_from first_offset after number ≡ offset_from first_offset before number
same_offset before after number s grows h = ap (λ l. offset_from first_offset l number) grows.1 ∙ offset_grows first_offset before grows.0 number s h

-- a value is still one, and has the same word
pub kept_grows : (before after : List Shape) (v : Value) → Grows before after → IsKeptBy before v → IsKeptBy after v
kept_grows before after (Number z) grows kept = kept
kept_grows before after Null grows kept = tt
kept_grows before after (At block byte) grows kept = record { found = kept.found; there = still_there before after block kept.found grows kept.there; within = kept.within }

pub word_grows : (base : ℕ) (before after : List Shape) (v : Value) → Grows before after → IsKeptBy before v → word_of base after v ≡ word_of base before v
word_grows base before after (Number z) grows kept = refl
word_grows base before after Null grows kept = refl
word_grows base before after (At block byte) grows kept = ap (λ n. base + (n + byte)) (same_offset before after block kept.found grows kept.there)
