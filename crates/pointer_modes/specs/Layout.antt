-- Where the cells of a type lie, by the usual layout of 32 bits: a char has one byte, an int and a pointer have four and
-- stand at multiples of four.
use Rattle.std.specs.Prelude.{◌≡◌, ◌⊎◌, ℕ, ◌+◌, ◌-◌, ◌*◌, ◌/◌, max, List, [], ◌∷◌, map}
use Rattle.pointer_modes.specs.Types.{CType, Int, Char, Struct, Pointer, Member, Structure, members_of}

-- a scalar cell of a type: its byte place, and its bytes
pub record Cell : Type 0 where
  pub offset : ℕ
  pub size : ℕ

-- the least multiple of an alignment that is no less
abbrev pub aligned_up : ℕ → ℕ → ℕ
aligned_up alignment n = (n + (alignment - 1)) / alignment * alignment

-- the bytes of a scalar, which are also its alignment
abbrev pub scalar_size : CType → ℕ
scalar_size Int = 4
scalar_size Char = 1
scalar_size (Pointer mode kind target) = 4
-- a struct is no scalar, and no member of a struct
scalar_size (Struct number) = 4

-- the sizes of members, in order
abbrev pub member_sizes : List Member → List ℕ
member_sizes members = map (λ m. scalar_size m.ctype) members

-- the sizes of the scalars that a type consists of: a struct has one for each member
abbrev pub sizes_of : List Structure → CType → List ℕ
sizes_of structs Int = scalar_size Int ∷ []
sizes_of structs Char = scalar_size Char ∷ []
sizes_of structs (Pointer mode kind target) = scalar_size (Pointer mode kind target) ∷ []
sizes_of structs (Struct number) = member_sizes (members_of structs number)

-- cells of these sizes from a place on, each at the first multiple of its size behind the one before
abbrev pub placed_from : ℕ → List ℕ → List Cell
placed_from place [] = []
placed_from place (size ∷ sizes) = (record { offset = aligned_up size place; size = size }) ∷ placed_from (aligned_up size place + size) sizes

-- the place behind them
abbrev pub end_from : ℕ → List ℕ → ℕ
end_from place [] = place
end_from place (size ∷ sizes) = end_from (aligned_up size place + size) sizes

-- the alignment of a type whose scalars have these sizes: that of the largest, and 1 where there is none
abbrev pub largest_of : List ℕ → ℕ
largest_of [] = 1
largest_of (size ∷ sizes) = max size (largest_of sizes)

-- the cells of a type, in order
abbrev pub cells_of : List Structure → CType → List Cell
cells_of structs t = placed_from 0 (sizes_of structs t)

abbrev pub alignment_of : List Structure → CType → ℕ
alignment_of structs t = largest_of (sizes_of structs t)

-- the bytes of a type: up to the end of its last cell, rounded up to its alignment
abbrev pub size_of : List Structure → CType → ℕ
size_of structs t = aligned_up (alignment_of structs t) (end_from 0 (sizes_of structs t))

-- the size of a scalar
abbrev pub IsWidth : ℕ → Type 0
IsWidth size = (size ≡ 1) ⊎ (size ≡ 4)
