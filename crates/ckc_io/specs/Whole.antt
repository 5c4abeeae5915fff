-- What reading a whole file answers, over the files that are told, and which count each answer raises.
use Rattle.std.specs.Prelude.{◌≡◌, ℕ, ◌≤◌, ◌⊎◌, Vec, List, ◌++◌, length, take, drop, Some, None, Result, Ok, Err}
use Rattle.ckc_io.specs.Counts.{Rises}
use Rattle.ckc_io.specs.Files.{Files, file_at}
use Rattle.ckc_io.specs.declared.shelf.ShelfFault.{ShelfFault}
use Rattle.ckc_io.specs.declared.shelf.ShelfFault.TheVariants as shelf
use Rattle.ckc_io.specs.declared.whole.ReadFault.{ReadFault}
use Rattle.ckc_io.specs.declared.whole.ReadFault.TheVariants.{Missing, Failed, NoMemory}

-- the fault of a whole read that a fault of one read makes
abbrev pub read_fault_of : ShelfFault → ReadFault
read_fault_of shelf.Missing = Missing
read_fault_of shelf.Failed = Failed

-- what reading a whole file answers: its first bytes, as many as are wanted at most
abbrev pub WholeAnswers : {A : Type 0} → Files → List ℕ → ℕ → Result (Vec ℕ A) ReadFault → Type 0
WholeAnswers files name most (Ok bytes) = (file : List ℕ) × (file_at files name ≡ Some file) × (bytes.items ≡ take most file)
WholeAnswers files name most (Err Missing) = file_at files name ≡ None
WholeAnswers files name most (Err Failed) = Unit {0}
WholeAnswers files name most (Err NoMemory) = Unit {0}

-- what the answer says of the shelf's two counts: each of its faults raises its own count alone
abbrev pub WholeCounts : {A : Type 0} → Result A ReadFault → ℕ → ℕ → ℕ → ℕ → Type 0
WholeCounts (Ok x) misses misses' faults faults' = (misses' ≡ misses) × (faults' ≡ faults)
WholeCounts (Err Missing) misses misses' faults faults' = Rises misses misses' × (faults' ≡ faults)
WholeCounts (Err Failed) misses misses' faults faults' = (misses' ≡ misses) × Rises faults faults'
WholeCounts (Err NoMemory) misses misses' faults faults' = (misses' ≡ misses) × (faults' ≡ faults)

-- a piece of a file, put behind the bytes that were read before
pub record Piece (file old new : List ℕ) (most count : ℕ) : Type 0 where
  pub longer : new ≡ old ++ take count (drop (length old) file)
  pub within : count ≤ length (drop (length old) file)
  -- no byte comes only where all that are wanted are there, or none is left
  pub none : count ≡ 0 → (most ≤ length old) ⊎ (length file ≤ length old)

-- what reading a piece answers
abbrev pub PieceAnswers : Files → List ℕ → ℕ → List ℕ → List ℕ → Result ℕ ReadFault → Type 0
PieceAnswers files name most old new (Ok count) = (file : List ℕ) × (file_at files name ≡ Some file) × Piece file old new most count
PieceAnswers files name most old new (Err Missing) = file_at files name ≡ None
PieceAnswers files name most old new (Err Failed) = Unit {0}
PieceAnswers files name most old new (Err NoMemory) = Unit {0}
