-- The cells of a value, one by one.
use Rattle.std.proofs.Common.{◌≡◌, ℕ, zero, suc, ◌+◌, ◌-◌, ◌<◌, ◌≤◌, ℤ, true, nat_lt, List, [], ◌∷◌, ◌++◌, length, map, drop, get_or, slice_index, add-one, append_assoc, refl, ap, sym, ◌∙◌, arith}
use Rattle.std.proofs.lemmas.List.{append-nil, map-append}
use Rattle.std.proofs.lemmas.Bool.Decides.{nat_tests}
use Rattle.pointer_modes.specs.declared.ctype.Member as code_member
use Rattle.pointer_modes.proofs.Cells.{length_of_cells}
use Rattle.pointer_modes.specs.Types.{CType, Int, Char, Struct, Pointer, Member, Structure, ctype, member}
use Rattle.pointer_modes.specs.Layout.{Cell, cells_of, size_of}
use Rattle.ckc_core.specs.declared.program.Initial as code_initial
use Rattle.ckc_core.specs.Programs.{Initial}
use Rattle.ckc_core.specs.Core.{initial}
use Rattle.region_typing_rules.specs.Verdicts.{picked}
use Rattle.region_typing_rules.specs.Cells.{strides_from, strides_of, cells_with, numbered_cells}
use Rattle.region_typing_scope.specs.CellParts.{IsStructOf, stride_at}
use Rattle.region_typing_scope.proofs.Steps.{parts_at, no_parts}

abbrev offsets : List Cell → List ℕ
offsets cells = map (λ (c : Cell). c.offset) cells

abbrev next_from : List Cell → ℕ → ℕ → ℕ
next_from cells end k = picked (nat_lt (suc k) (length cells)) (slice_index (offsets cells) (suc k)) end

one_later : (a b : ℕ) → nat_lt (suc a) (suc b) ≡ nat_lt a b
one_later a b = grind (arith, nat_tests)

strides_at : (cells : List Cell) (end k : ℕ) → k < length cells → drop k (strides_from cells end) ≡ (next_from cells end k - slice_index (offsets cells) k) ∷ drop (suc k) (strides_from cells end)
strides_at [] end k less = absurd (omega arith)
strides_at (c ∷ []) end zero less = refl
strides_at (c ∷ []) end (suc k) less = absurd (omega arith)
strides_at (c ∷ d ∷ cells) end zero less = let test : nat_lt 1 (suc (suc (length cells))) ≡ true = grind (arith, nat_tests) in rw test refl
strides_at (c ∷ d ∷ cells) end (suc k) less =
    strides_at (d ∷ cells) end k (omega arith)
    ∙ ap (λ b. (picked b (slice_index (offsets (d ∷ cells)) (suc k)) end - slice_index (offsets (d ∷ cells)) k) ∷ drop (suc k) (strides_from (d ∷ cells) end)) (sym (one_later (suc k) (length (d ∷ cells))))

-- the bytes of the cells from one on
pub strides_left : (structs : List Structure) (t : CType) (k : ℕ) → k < length (cells_of structs t) → drop k (strides_of structs t) ≡ stride_at structs t k ∷ drop (k + 1) (strides_of structs t)
strides_left structs t k less = rw add-one (strides_at (cells_of structs t) (size_of structs t) k less)

types_shown : (ms : List code_member.Member) → map (λ (m : Member). m.ctype) (map member ms) ≡ map (λ (m : code_member.Member). ctype m.ctype) ms
types_shown [] = refl
types_shown (m ∷ ms) = ap (λ ts. ctype m.ctype ∷ ts) (types_shown ms)

-- the cells of a struct
pub struct_cells : (structs : List Structure) (t : CType) (ms : List code_member.Member) (number : ℤ) → IsStructOf structs t (map member ms) → cells_with structs t number ≡ numbered_cells number (map (λ (m : code_member.Member). ctype m.ctype) ms) (strides_of structs t)
struct_cells structs (Struct n) ms number are = ap (λ ws. numbered_cells number (map (λ (m : Member). m.ctype) ws) (strides_of structs (Struct n))) (sym are) ∙ ap (λ ts. numbered_cells number ts (strides_of structs (Struct n))) (types_shown ms)
struct_cells structs Int ms number are = absurd are
struct_cells structs Char ms number are = absurd are
struct_cells structs (Pointer mode kind target) ms number are = absurd are

pub as_many_cells : (structs : List Structure) (t : CType) (ms : List code_member.Member) → IsStructOf structs t (map member ms) → length (cells_of structs t) ≡ length ms
as_many_cells structs (Struct n) ms are = length_of_cells structs (Struct n) n ms refl are
as_many_cells structs Int ms are = absurd are
as_many_cells structs Char ms are = absurd are
as_many_cells structs (Pointer mode kind target) ms are = absurd are

-- a cell more
pub cell_more : (structs : List Structure) (t : CType) (ms : List code_member.Member) (number : ℤ) (k : ℕ) (m : code_member.Member) (all : List Initial) (built new : List code_initial.Initial) (cell : code_initial.Initial) → new ≡ built ++ cell ∷ [] → k < length ms → m ≡ get_or ms k m → IsStructOf structs t (map member ms)
    → initial cell ≡ record { type = ctype m.ctype; stride = stride_at structs t k; number = number }
    → all ≡ map initial built ++ numbered_cells number (map (λ (m : code_member.Member). ctype m.ctype) (drop k ms)) (drop k (strides_of structs t))
    → all ≡ map initial new ++ numbered_cells number (map (λ (m : code_member.Member). ctype m.ctype) (drop (k + 1) ms)) (drop (k + 1) (strides_of structs t))
cell_more structs t ms number k m all built new cell are less is struct cell_is so_far =
    let types = λ (m : code_member.Member). ctype m.ctype in
    let long : k < length (cells_of structs t) = omega (arith, as_many_cells structs t ms struct) in
    let rest = numbered_cells number (map types (drop (k + 1) ms)) (drop (k + 1) (strides_of structs t)) in
    so_far
    ∙ ap (λ ts. map initial built ++ numbered_cells number ts (drop k (strides_of structs t))) (parts_at types ms k m less is)
    ∙ ap (λ ss. map initial built ++ numbered_cells number (types m ∷ map types (drop (k + 1) ms)) ss) (strides_left structs t k long)
    ∙ ap (λ c. map initial built ++ c ∷ rest) (sym cell_is)
    ∙ sym (append_assoc (map initial built) (initial cell ∷ []) rest)
    ∙ ap (λ cells. cells ++ rest) (sym (ap (map initial) are ∙ map-append initial built (cell ∷ [])))

pub cells_done : (structs : List Structure) (t : CType) (ms : List code_member.Member) (number : ℤ) (k : ℕ) (all : List Initial) (built : List code_initial.Initial) → length ms ≤ k
    → all ≡ map initial built ++ numbered_cells number (map (λ (m : code_member.Member). ctype m.ctype) (drop k ms)) (drop k (strides_of structs t)) → all ≡ map initial built
cells_done structs t ms number k all built end so_far =
    so_far ∙ ap (λ ts. map initial built ++ numbered_cells number ts (drop k (strides_of structs t))) (no_parts (λ (m : code_member.Member). ctype m.ctype) ms k end) ∙ append-nil (map initial built)
