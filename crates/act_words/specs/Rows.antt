-- A list in an array that is longer: the list, and blanks behind it.
use Rattle.std.specs.Prelude.{◌≡◌, ◌≤◌, ◌-◌, ◌++◌, ℕ, List, length, take, drop, replicate}
use Rattle.std.proofs.Common.{arith, ◌∙◌}
use Rattle.std.proofs.lemmas.List.{length-take-le, take-append-drop, length-append, length-drop, length-replicate, drop-replicate}
use Rattle.std.proofs.Math.Seq.{drop-append_seam}

-- of n cells the first len hold the list
pub record IsRow {A : Type 0} (n : ℕ) (blank : A) (cells : List A) (len : ℕ) : Type 0 where
  pub fits : len ≤ n
  pub size : length cells ≡ n
  pub padded : drop len cells ≡ replicate (n - len) blank

-- the list tells how many there are, and all cells
pub length_back : {A : Type 0} (n : ℕ) (blank : A) (cells : List A) (len : ℕ) → IsRow n blank cells len → length (take len cells) ≡ len
length_back n blank cells len h = length-take-le len cells (omega (arith, h.fits, h.size))

pub cells_back : {A : Type 0} (n : ℕ) (blank : A) (cells : List A) (len : ℕ) → IsRow n blank cells len
    → take len cells ++ replicate (n - length (take len cells)) blank ≡ cells
cells_back n blank cells len h = rw (length_back n blank cells len h, ← h.padded) (take-append-drop len cells)

-- a list put over the first of n blanks
pub row_of : {A : Type 0} (n : ℕ) (blank : A) (items : List A) → length items ≤ n
    → IsRow n blank (items ++ drop (length items) (replicate n blank)) (length items)
row_of n blank items h =
    record {
      fits = h;
      size = simp (length-append, length-drop, length-replicate) (omega arith);
      padded = drop-append_seam items _ ∙ drop-replicate (length items) n blank;
    }
