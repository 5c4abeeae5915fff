-- What holds of every layout.
use Rattle.std.proofs.Common.{◌≡◌, ℕ, suc, ◌+◌, ◌%◌, ◌≤◌, inl, inr, max, List, [], ◌∷◌, All, AllPairs, refl, sym, subst, arith}
use Rattle.std.proofs.lemmas.List.Elements.{All-nil, All-cons, All-map}
use Rattle.std.proofs.lemmas.List.Kept.{AllPairs-cons}
use Rattle.pointer_modes.specs.Types.{CType, Int, Char, Struct, Pointer, Structure, members_of}
use Rattle.pointer_modes.specs.Layout.{Cell, IsWidth, aligned_up, scalar_size, sizes_of, placed_from, end_from, largest_of}

-- a multiple of a width from a place on
record Up (place size : ℕ) : Type 0 where
  from : place ≤ aligned_up size place
  aligned : aligned_up size place % size ≡ 0

up : (place size : ℕ) → IsWidth size → Up place size
up place size (inl one) = subst (Up place) (sym one) (record { from = omega arith; aligned = omega arith })
up place size (inr four) = subst (Up place) (sym four) (record { from = omega arith; aligned = omega arith })

-- a cell stands between two places, at a multiple of its size
pub record Stands (from to : ℕ) (c : Cell) : Type 0 where
  pub behind : from ≤ c.offset
  pub before : c.offset + c.size ≤ to
  pub width : IsWidth c.size
  pub aligned : c.offset % c.size ≡ 0

rest_of : (size : ℕ) (sizes : List ℕ) → All IsWidth (size ∷ sizes) → All IsWidth sizes
rest_of size sizes all = λ k d h. all (suc k) d (omega arith)

end_behind : (place : ℕ) (sizes : List ℕ) → All IsWidth sizes → place ≤ end_from place sizes
end_behind place [] all = omega arith
end_behind place (size ∷ sizes) all = omega (arith, (up place size (all 0 0 (omega arith))).from, end_behind (aligned_up size place + size) sizes (rest_of size sizes all))

pub stand : (place : ℕ) (sizes : List ℕ) → All IsWidth sizes → All (Stands place (end_from place sizes)) (placed_from place sizes)
stand place [] all = All-nil (Stands place place)
stand place (size ∷ sizes) all =
    let width : IsWidth size = all 0 0 (omega arith) in
    let rest = rest_of size sizes all in
    let next = aligned_up size place + size in
    let here = up place size width in
    let later = stand next sizes rest in
    All-cons (Stands place (end_from next sizes)) _ (placed_from next sizes)
    (record { behind = here.from; before = end_behind next sizes rest; width = width; aligned = here.aligned })
    (λ k d h. record { behind = omega (arith, here.from, (later k d h).behind); before = (later k d h).before; width = (later k d h).width; aligned = (later k d h).aligned })

-- a cell ends where another begins, or before
abbrev Before : Cell → Cell → Type 0
Before a b = a.offset + a.size ≤ b.offset

pub apart : (place : ℕ) (sizes : List ℕ) → All IsWidth sizes → AllPairs Before (placed_from place sizes)
apart place [] all = λ i j d lt h. absurd (omega arith)
apart place (size ∷ sizes) all =
    let rest = rest_of size sizes all in
    let next = aligned_up size place + size in
    AllPairs-cons Before _ (placed_from next sizes) (λ k d h. (stand next sizes rest k d h).behind) (apart next sizes rest)

max_width : (a b : ℕ) → IsWidth a → IsWidth b → IsWidth (max a b)
max_width a b (inl e) (inl f) = inl (omega arith)
max_width a b (inl e) (inr f) = inr (omega arith)
max_width a b (inr e) (inl f) = inr (omega arith)
max_width a b (inr e) (inr f) = inr (omega arith)

pub largest_width : (sizes : List ℕ) → All IsWidth sizes → IsWidth (largest_of sizes)
largest_width [] all = inl refl
largest_width (size ∷ sizes) all = max_width size (largest_of sizes) (all 0 0 (omega arith)) (largest_width sizes (rest_of size sizes all))

-- no cell is larger than the largest
pub none_larger : (place : ℕ) (sizes : List ℕ) → All (λ c. c.size ≤ largest_of sizes) (placed_from place sizes)
none_larger place [] = λ k d h. absurd (omega arith)
none_larger place (size ∷ sizes) =
    let next = aligned_up size place + size in
    let later = none_larger next sizes in
    All-cons (λ c. c.size ≤ max size (largest_of sizes)) _ (placed_from next sizes) (omega arith) (λ k d h. omega (arith, later k d h))

scalar_width : (t : CType) → IsWidth (scalar_size t)
scalar_width Int = inr refl
scalar_width Char = inl refl
scalar_width (Struct number) = inr refl
scalar_width (Pointer mode kind target) = inr refl

one_width : (t : CType) → All IsWidth (scalar_size t ∷ [])
one_width t = All-cons IsWidth (scalar_size t) [] (scalar_width t) (All-nil IsWidth)

-- each scalar of a type has 1 or 4 bytes
pub widths : (structs : List Structure) (t : CType) → All IsWidth (sizes_of structs t)
widths structs Int = one_width Int
widths structs Char = one_width Char
widths structs (Struct number) = All-map IsWidth (λ m. scalar_size m.ctype) (members_of structs number) (λ k d h. scalar_width _)
widths structs (Pointer mode kind target) = one_width (Pointer mode kind target)

-- the size of a type holds its cells, and is a multiple of its alignment
pub size_behind : (sizes : List ℕ) → All IsWidth sizes → end_from 0 sizes ≤ aligned_up (largest_of sizes) (end_from 0 sizes)
size_behind sizes all = (up (end_from 0 sizes) (largest_of sizes) (largest_width sizes all)).from

pub size_aligned : (sizes : List ℕ) → All IsWidth sizes → aligned_up (largest_of sizes) (end_from 0 sizes) % largest_of sizes ≡ 0
size_aligned sizes all = (up (end_from 0 sizes) (largest_of sizes) (largest_width sizes all)).aligned
