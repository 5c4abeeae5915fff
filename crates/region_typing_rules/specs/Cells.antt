-- The cells of a value of a type in a block: the type of each, and the bytes from it to the next one.
use Rattle.std.specs.Prelude.{ℕ, ◌-◌, nat_lt, nat_le, ◌&&◌, Bool, true, List, [], ◌∷◌, map, Option, Some, None}
use Rattle.std.proofs.Common.{ℤ}
use Rattle.pointer_modes.specs.Types.{CType, Int, Char, Struct, Pointer, Structure, members_of}
use Rattle.pointer_modes.specs.Layout.{Cell, cells_of, size_of}
use Rattle.ckc_core.specs.Programs.{Initial}

-- the bytes of the cells from one on: from each to the next one, and from the last to the end
abbrev pub strides_from : List Cell → ℕ → List ℕ
strides_from [] end = []
strides_from (c ∷ []) end = (end - c.offset) ∷ []
strides_from (c ∷ d ∷ cells) end = (d.offset - c.offset) ∷ strides_from (d ∷ cells) end

abbrev pub strides_of : List Structure → CType → List ℕ
strides_of structs t = strides_from (cells_of structs t) (size_of structs t)

-- the types of the cells of a type
abbrev pub cell_types : List Structure → CType → List CType
cell_types structs Int = Int ∷ []
cell_types structs Char = Char ∷ []
cell_types structs (Pointer mode kind target) = Pointer mode kind target ∷ []
cell_types structs (Struct number) = map (λ m. m.ctype) (members_of structs number)

abbrev pub numbered_cells : ℤ → List CType → List ℕ → List Initial
numbered_cells number [] strides = []
numbered_cells number (t ∷ ts) [] = []
numbered_cells number (t ∷ ts) (stride ∷ strides) = record { type = t; stride = stride; number = number } ∷ numbered_cells number ts strides

-- the cells of a variable, each with this number
abbrev pub cells_with : List Structure → CType → ℤ → List Initial
cells_with structs t number = numbered_cells number (cell_types structs t) (strides_of structs t)

-- array-has-length: 1 to 8,192 (E08)
abbrev pub is_length : Option ℕ → Bool
is_length None = true
is_length (Some length) = nat_lt 0 length && nat_le length 8192
