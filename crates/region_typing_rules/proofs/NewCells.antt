-- The cells of an element in new memory: they begin with zeros, and elements of them hold a value each of the element's type.
use Rattle.std.proofs.Common.{◌≡◌, ℕ, zero, suc, ◌+◌, ◌*◌, ◌<◌, pos, List, [], ◌∷◌, ◌++◌, map, length, refl, sym, ap, ◌∙◌, subst, append_assoc, arith}
use Rattle.std.specs.List.{AllByRecursion}
use Rattle.std.proofs.lemmas.List.Sums.{sum_by-cons}
use Rattle.pointer_modes.specs.Types.{CType, Int, Char, Struct, Pointer, Member, Structure, members_of}
use Rattle.pointer_modes.specs.Layout.{size_of}
use Rattle.ckc_core.specs.Programs.{Initial}
use Rattle.ckc_core.specs.States.{Cell, strides}
use Rattle.ckc_core.specs.Pointers.{element_size, element_cells, cells_of_elements}
use Rattle.bounds_flow_meaning.specs.Rows.{HasRow, AreCellsOf}
use Rattle.region_typing_rules.specs.Cells.{cells_with}
use Rattle.region_typing_rules.specs.Typed.{IsScalar, IsInitial}
use Rattle.region_typing_rules.specs.Lowerable.{cells_size, IsRoomy}
use Rattle.region_typing_rules.proofs.Verdicts.{Extends}
use Rattle.region_typing_rules.proofs.Layouts.{IsStart, open_shape, shape_of, bytes_kept, row_kept, cells_row, whole_size, zero_cells}
use Rattle.region_typing_rules.proofs.Copies.{size_append, row_front, row_behind, all_beside}

-- ---- cells of a block, and those before a run that stand as they do

record StandAlike (cells : List Cell) (initials : List Initial) : Type 0 where
  types : map (λ (c : Cell). c.type) cells ≡ (shape_of initials).types
  strides : strides cells ≡ (shape_of initials).strides

abbrev plain : Cell → Initial
plain c = record { type = c.type; stride = c.stride; number = pos 0 }

plain_alike : (cells : List Cell) → StandAlike cells (map plain cells)
plain_alike [] = record { types = refl; strides = refl }
plain_alike (c ∷ cells) =
    let rest = plain_alike cells in
    record { types = ap (λ (ts : List CType). c.type ∷ ts) rest.types; strides = ap (λ (ss : List ℕ). c.stride ∷ ss) rest.strides }

element_alike : (element : List Initial) (cells : List Cell) (initials : List Initial) → StandAlike cells initials → StandAlike (element_cells element ++ cells) (element ++ initials)
element_alike [] cells initials h = h
element_alike (i ∷ element) cells initials h =
    let rest = element_alike element cells initials h in
    record { types = ap (λ (ts : List CType). i.type ∷ ts) rest.types; strides = ap (λ (ss : List ℕ). i.stride ∷ ss) rest.strides }

-- so many times the same cells
abbrev repeated : ℕ → List Initial → List Initial
repeated zero element = []
repeated (suc n) element = element ++ repeated n element

elements_alike : (n : ℕ) (element : List Initial) (cells : List Cell) (initials : List Initial) → StandAlike cells initials → StandAlike (cells_of_elements n element ++ cells) (repeated n element ++ initials)
elements_alike zero element cells initials h = h
elements_alike (suc n) element cells initials h =
    rw (append_assoc, append_assoc) (element_alike element (cells_of_elements n element ++ cells) (repeated n element ++ initials) (elements_alike n element cells initials h))

alike_row : (structs : List Structure) (t : CType) (byte : ℕ) (cells : List Cell) (initials : List Initial) → StandAlike cells initials → HasRow structs (shape_of initials) byte t → HasRow structs (open_shape (map (λ (c : Cell). c.type) cells) (strides cells)) byte t
alike_row structs t byte cells initials alike h =
    let by_types = subst (λ (ts : List CType). HasRow structs (open_shape ts (shape_of initials).strides) byte t) (sym alike.types) h in
    subst (λ (ss : List ℕ). HasRow structs (open_shape (map (λ (c : Cell). c.type) cells) ss) byte t) (sym alike.strides) by_types

-- ---- sizes

element_whole : (element : List Initial) → element_size element ≡ cells_size element
element_whole [] = refl
element_whole (i ∷ element) = sum_by-cons (λ (n : ℕ). n) i.stride (map (λ (i : Initial). i.stride) element) ∙ ap (λ n. i.stride + n) (element_whole element)

repeated_size : (n : ℕ) (element : List Initial) → cells_size (repeated n element) ≡ n * element_size element
repeated_size zero element = omega arith
repeated_size (suc n) element = omega (arith, size_append element (repeated n element), element_whole element, repeated_size n element)

repeated_roomy : (n : ℕ) (element : List Initial) → AllByRecursion IsRoomy element → AllByRecursion IsRoomy (repeated n element)
repeated_roomy zero element all = tt
repeated_roomy (suc n) element all = all_beside IsRoomy element (repeated n element) all (repeated_roomy n element all)

-- a type with bytes has cells
some_members : (structs : List Structure) (n : ℕ) (members : List Member) → members_of structs n ≡ members → 0 < size_of structs (Struct n) → 0 < length (cells_with structs (Struct n) (pos 0))
some_members structs n [] e some = let none = rw e at some in absurd (omega arith)
some_members structs n (m ∷ []) e some = rw e (omega arith)
some_members structs n (m ∷ next ∷ members) e some = rw e (omega arith)

some_cells : (structs : List Structure) (t : CType) → 0 < size_of structs t → 0 < length (cells_with structs t (pos 0))
some_cells structs Int some = omega arith
some_cells structs Char some = omega arith
some_cells structs (Pointer m k t) some = omega arith
some_cells structs (Struct n) some = some_members structs n (members_of structs n) refl some

-- ---- new memory

all_initial : (structs : List Structure) (element : List Initial) → AllByRecursion IsStart element → AllByRecursion (IsInitial structs) element
all_initial structs [] all = tt
all_initial structs (i ∷ element) all = (all.0 structs, all_initial structs element all.1)

-- one element behind others, and before whatever there is
element_stands : (structs : List Structure) (t : CType) (element : List Initial) → AllByRecursion IsRoomy element → HasRow structs (shape_of element) 0 t → AreCellsOf structs t element
element_stands structs t element roomy row n after =
    let others = element ++ map plain after in
    let first = row_front structs t element (map plain after) 0 row in
    let behind = row_behind structs t (repeated n element) others 0 (repeated_roomy n element roomy) first in
    let place : cells_size (repeated n element) + 0 ≡ n * element_size element = omega (arith, repeated_size n element) in
    let there = subst (λ byte. HasRow structs (shape_of (repeated n element ++ others)) byte t) place behind in
    rw append_assoc (alike_row structs t (n * element_size element) (cells_of_elements n element ++ (element_cells element ++ after)) (repeated n element ++ others)
    (elements_alike n element (element_cells element ++ after) others (element_alike element after (map plain after) (plain_alike after))) there)

-- the cells of an element of new memory, where these structs and later ones are known
pub record AreNewCells (structs later : List Structure) (t : CType) (element : List Initial) : Type 0 where
  pub size : element_size element ≡ size_of structs t
  pub later_size : element_size element ≡ size_of later t
  pub bytes : 0 < size_of later t
  pub initial : (known : List Structure) → AllByRecursion (IsInitial known) element
  pub cells : AreCellsOf later t element
  pub roomy : AllByRecursion IsRoomy element

pub new_cells : (structs later : List Structure) (t : CType) → Extends structs later → ((n : ℕ) → AllByRecursion (λ (m : Member). IsScalar m.ctype) (members_of structs n)) → 0 < size_of structs t → AreNewCells structs later t (cells_with structs t (pos 0))
new_cells structs later t extends scalars some =
    let element = cells_with structs t (pos 0) in
    let there = some_cells structs t some in
    let written = zero_cells structs t scalars in
    let row = cells_row structs t (pos 0) there in
    let same = bytes_kept structs later t extends row.stands.there in
    let size : element_size element ≡ size_of structs t = element_whole element ∙ whole_size structs t (pos 0) there in
    record {
      size = size;
      later_size = size ∙ same;
      bytes = omega (arith, some, same);
      initial = λ known. all_initial known element written.start;
      cells = element_stands later t element written.roomy (row_kept structs later (shape_of element) 0 t extends row);
      roomy = written.roomy;
    }
