-- A finite map from names to bytes, and what a read of it answers.
use Rattle.std.specs.Prelude.{◌≡◌, ℕ, ◌≤◌, ◌⊎◌, ◌↔◌, List, length, take, drop, Option, Some, None, Result, Ok, Err}
use Rattle.std.specs.Ordering.{nat_cmp}
use Rattle.std.specs.Cmp.Lexicographic.{slice_cmp}
use Rattle.std.specs.FinMap.{FinMap, get}
use Rattle.ckc_io.specs.declared.shelf.ShelfFault.{ShelfFault}
use Rattle.ckc_io.specs.declared.shelf.ShelfFault.TheVariants.{Missing, Failed}

-- files by the bytes of their names
abbrev pub Files : Type 0
Files = FinMap (slice_cmp nat_cmp) (List ℕ)

-- the bytes of a file, where it is there
abbrev pub file_at : Files → List ℕ → Option (List ℕ)
file_at files name = get files name

-- holds of the value, where it is told
abbrev pub Told : {A : Type 0} → Option A → (A → Type 0) → Type 0
Told {A} told P = (a : A) → told ≡ Some a → P a

-- the first bytes of a buffer are those of the file from an offset, as many as were read
pub record Reads (file : List ℕ) (from count : ℕ) (into : List ℕ) : Type 0 where
  pub within : count ≤ length (drop from file)
  pub bytes : take count into ≡ take count (drop from file)
  -- no byte comes exactly where none is asked for or none is left
  pub none : (count ≡ 0) ↔ ((length into ≡ 0) ⊎ (length file ≤ from))

-- what a read answers, over the files that are there
abbrev pub ShelfAnswers : Files → List ℕ → ℕ → List ℕ → Result ℕ ShelfFault → Type 0
ShelfAnswers files name from into (Ok count) = (file : List ℕ) × (file_at files name ≡ Some file) × Reads file from count into
ShelfAnswers files name from into (Err Missing) = file_at files name ≡ None
ShelfAnswers files name from into (Err Failed) = Unit {0}
