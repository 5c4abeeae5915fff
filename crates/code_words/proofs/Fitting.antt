-- Static blocks that lie in a memory, one after another.
use Rattle.std.proofs.Common.{ℕ, suc, ◌<◌, ◌≤◌, List, [], ◌∷◌, length, arith}
use Rattle.std.proofs.lemmas.List.Elements.{All-cons}
use Rattle.flat_bytes.specs.Blocks.{grown}
use Rattle.code_words.specs.Runs.{counter_behind}
use Rattle.code_words.specs.Fitting.{BlocksFit}

pub counter_grows : (counter : ℕ) (blocks : List (List ℕ)) → counter ≤ counter_behind counter blocks
counter_grows counter [] = omega arith
counter_grows counter (block ∷ blocks) = omega (arith, counter_grows (grown counter (length block)) blocks)

pub with_first : (size offset : ℕ) (block : List ℕ) (blocks : List (List ℕ)) → 0 < length block → BlocksFit size (grown offset (length block)) blocks → BlocksFit size offset (block ∷ blocks)
with_first size offset block blocks some fits = record { not_empty = All-cons (λ (b : List ℕ). 0 < length b) block blocks some fits.not_empty; low = fits.low }

pub without_first : (size offset : ℕ) (block : List ℕ) (blocks : List (List ℕ)) → BlocksFit size offset (block ∷ blocks) → BlocksFit size (grown offset (length block)) blocks
without_first size offset block blocks fits = record { not_empty = λ k d h. fits.not_empty (suc k) d (omega (arith, h)); low = fits.low }

-- the first block isn't empty, and ends in the memory
pub first_fits : (size offset : ℕ) (block : List ℕ) (blocks : List (List ℕ)) → BlocksFit size offset (block ∷ blocks) → (0 < length block) × (grown offset (length block) ≤ size)
first_fits size offset block blocks fits = (fits.not_empty 0 block (omega arith), omega (arith, counter_grows (grown offset (length block)) blocks, fits.low))
