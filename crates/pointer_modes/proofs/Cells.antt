-- The cells of types, one by one.
use Rattle.std.proofs.Common.{◌≡◌, ℕ, zero, suc, ◌+◌, ◌<◌, ◌≤◌, List, [], ◌∷◌, length, map, get_or, slice_index, take, refl, sym, ap, ◌∙◌, arith}
use Rattle.std.proofs.lemmas.List.{length-map, take-map}
use Rattle.pointer_modes.specs.declared.ctype.Member as code
use Rattle.pointer_modes.specs.Types.{CType, Struct, Member, Structure, ctype, member, members_of}
use Rattle.pointer_modes.specs.Layout.{aligned_up, scalar_size, member_sizes, placed_from, end_from, largest_of, cells_of}

-- an alignment is at least 1
pub largest_positive : (sizes : List ℕ) → 1 ≤ largest_of sizes
largest_positive [] = omega arith
largest_positive (size ∷ sizes) = omega (arith, largest_positive sizes)

-- a cell for each size
pub length-placed_from : (place : ℕ) (sizes : List ℕ) → length (placed_from place sizes) ≡ length sizes
length-placed_from place [] = refl
length-placed_from place (size ∷ sizes) = ap suc (length-placed_from (aligned_up size place + size) sizes)

-- the cells of a struct are those of its members
pub cells_of_struct : (structs : List Structure) (t : CType) (number : ℕ) (members : List Member) → t ≡ Struct number → members ≡ members_of structs number → cells_of structs t ≡ placed_from 0 (member_sizes members)
cells_of_struct structs t number members is are = ap (cells_of structs) is ∙ ap (λ ms. placed_from 0 (member_sizes ms)) (sym are)

pub length_of_cells : (structs : List Structure) (t : CType) (number : ℕ) (xs : List code.Member) → t ≡ Struct number → map member xs ≡ members_of structs number → length (cells_of structs t) ≡ length xs
length_of_cells structs t number xs is are =
    ap length (cells_of_struct structs t number (map member xs) is are)
    ∙ length-placed_from 0 (member_sizes (map member xs))
    ∙ length-map (map member xs) (λ m. scalar_size m.ctype)
    ∙ length-map xs member

-- where a cell stands: at the first multiple of its size behind the cells before it
pub offset_at : (place : ℕ) (sizes : List ℕ) (k : ℕ) → k < length sizes → slice_index (map (λ c. c.offset) (placed_from place sizes)) k ≡ aligned_up (slice_index sizes k) (end_from place (take k sizes))
offset_at place [] k h = absurd (omega arith)
offset_at place (size ∷ sizes) zero h = refl
offset_at place (size ∷ sizes) (suc k) h = offset_at (aligned_up size place + size) sizes k (omega arith)

size_at : (xs : List code.Member) (k : ℕ) (d : code.Member) → k < length xs → slice_index (member_sizes (map member xs)) k ≡ scalar_size (ctype (get_or xs k d).ctype)
size_at [] k d h = absurd (omega arith)
size_at (x ∷ xs) zero d h = refl
size_at (x ∷ xs) (suc k) d h = size_at xs k d (omega arith)

sizes_before : (xs : List code.Member) (k : ℕ) → take k (member_sizes (map member xs)) ≡ member_sizes (map member (take k xs))
sizes_before xs k = take-map (λ m. scalar_size m.ctype) k (map member xs) ∙ ap member_sizes (take-map member k xs)

-- where the cell of a member stands
pub offset_of_member : (xs : List code.Member) (k : ℕ) (d : code.Member) → k < length xs → slice_index (map (λ c. c.offset) (placed_from 0 (member_sizes (map member xs)))) k ≡ aligned_up (scalar_size (ctype (get_or xs k d).ctype)) (end_from 0 (member_sizes (map member (take k xs))))
offset_of_member xs k d h =
    let sizes = member_sizes (map member xs) in
    let len : length sizes ≡ length xs = length-map (map member xs) (λ m. scalar_size m.ctype) ∙ length-map xs member in
    offset_at 0 sizes k (omega arith)
    ∙ ap (λ size. aligned_up size (end_from 0 (take k sizes))) (size_at xs k d h)
    ∙ ap (λ before. aligned_up (scalar_size (ctype (get_or xs k d).ctype)) (end_from 0 before)) (sizes_before xs k)
