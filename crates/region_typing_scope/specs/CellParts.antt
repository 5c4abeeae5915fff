-- Inside: the parts of a value's cells, as the code goes through them.
use Rattle.std.specs.Prelude.{◌≡◌, ℕ, ◌+◌, ◌-◌, nat_lt, List, length, map, slice_index}
use Rattle.pointer_modes.specs.Types.{CType, Int, Char, Struct, Pointer, Member, Structure, members_of}
use Rattle.pointer_modes.specs.Layout.{cells_of, size_of}
use Rattle.region_typing_rules.specs.Verdicts.{picked}

-- a struct with these members
abbrev pub IsStructOf : List Structure → CType → List Member → Type 0
IsStructOf structs (Struct number) members = members ≡ members_of structs number
IsStructOf structs Int members = ⊥
IsStructOf structs Char members = ⊥
IsStructOf structs (Pointer mode kind target) members = ⊥

-- the place of the cell behind one, or the end
abbrev pub next_place : List Structure → CType → ℕ → ℕ
next_place structs t k =
    picked (nat_lt (k + 1) (length (cells_of structs t))) (slice_index (map (λ c. c.offset) (cells_of structs t)) (k + 1)) (size_of structs t)

-- the bytes from a cell to the next one, or to the end
abbrev pub stride_at : List Structure → CType → ℕ → ℕ
stride_at structs t k = next_place structs t k - slice_index (map (λ c. c.offset) (cells_of structs t)) k
