-- What terms come to where each variable has a number, and what changes of terms leave of that.
use Rattle.std.specs.Prelude.{ℕ, ℤ, pos, ◌+ℤ◌, ◌-ℤ◌, ◌*ℤ◌, ◌≡◌, ◌≢◌, Option, None, Some, List, slice_index_or}
use Rattle.bounds_exprs.specs.declared.term.Term.{Term}
use Rattle.bounds_exprs.specs.Parts.{added, subtracted, multiplied}
use Rattle.bounds_exprs.specs.Changes.{lowered, filled_in}

abbrev pub number : (ℕ → ℤ) → Option ℕ → ℤ
number v None = pos 0
number v (Some x) = v x

-- the number of a term
abbrev pub value : (ℕ → ℤ) → Term → ℤ
value v t = number v t.var +ℤ t.plus

-- a sum, difference or product of terms that is a term comes to that of theirs
abbrev pub PartsAddUp : Type 0
PartsAddUp = (v : ℕ → ℤ) (a b t : Term)
    → (added (Some a) (Some b) ≡ Some t → value v t ≡ value v a +ℤ value v b)
    × (subtracted (Some a) (Some b) ≡ Some t → value v t ≡ value v a -ℤ value v b)
    × (multiplied (Some a) (Some b) ≡ Some t → value v t ≡ value v a *ℤ value v b)

-- once c was added to x, the term that is left comes to what the term came to before
abbrev pub ShiftsKeepValues : Type 0
ShiftsKeepValues = (x : ℕ) (c : ℤ) (t after : Term) (before now : ℕ → ℤ) → lowered x c t ≡ Some after
    → now x ≡ before x +ℤ c → ((y : ℕ) → y ≢ x → now y ≡ before y) → value now after ≡ value before t

-- a term with others put for its variable comes to what it came to over their numbers
abbrev pub FillingKeepsValues : Type 0
FillingKeepsValues = (terms : List (Option Term)) (t after : Term) (v inner : ℕ → ℤ) → filled_in terms t ≡ Some after
    → ((x : ℕ) (s : Term) → slice_index_or terms x None ≡ Some s → inner x ≡ value v s) → value v after ≡ value inner t
