-- Rows of values in blocks: where a value of a type stands, and what stands between the ends of a pointer.
use Rattle.std.specs.Prelude.{ℕ, suc, ◌≡◌, ◌==◌, ◌&&◌, Bool, Option, None, ◌+◌, ◌*◌, ◌<◌, ◌≤◌, ℤ, pos}
use Rattle.std.specs.Prelude.{◌+ℤ◌, ◌*ℤ◌, true, false, List, [], ◌∷◌, ◌++◌, length, replicate, sum, Some, slice_get}
use Rattle.pointer_modes.specs.declared.ctype.Kind.TheVariants as kinds
use Rattle.pointer_modes.specs.Types.{CType, Int, Char, Struct, Pointer, Member, Structure, members_of}
use Rattle.pointer_modes.specs.Layout.{Cell, cells_of, size_of}
use Rattle.ckc_core.specs.Programs.{Initial}
use Rattle.ckc_core.specs.States as states
use Rattle.ckc_core.specs.States.{Shape, number_at, shape, type_at}
use Rattle.ckc_core.specs.Bounds.{Ends}
use Rattle.ckc_core.specs.Pointers.{cells_of_elements, element_cells, element_size, lies_below, lies_up_to}

-- a scalar in a value: its type, and how many bytes stand before it
pub record Slot : Type 0 where
  pub type : CType
  pub offset : ℕ

abbrev pub slots_from : List Member → List Cell → List Slot
slots_from [] cells = []
slots_from (m ∷ members) [] = []
slots_from (m ∷ members) (c ∷ cells) = record { type = m.ctype; offset = c.offset } ∷ slots_from members cells

abbrev single : CType → List Slot
single t = record { type = t; offset = 0 } ∷ []

-- the scalars that a value of a type consists of
abbrev pub slots : List Structure → CType → List Slot
slots structs Int = single Int
slots structs Char = single Char
slots structs (Pointer mode kind target) = single (Pointer mode kind target)
slots structs (Struct number) = slots_from (members_of structs number) (cells_of structs (Struct number))

-- the cell that begins at a byte is the last one of a block that a zero ends
abbrev pub ends_at_number : Option ℕ → ℕ → Bool
ends_at_number None cells = false
ends_at_number (Some number) cells = suc number == cells

abbrev pub is_zero_at : Shape → ℕ → Bool
is_zero_at s byte = s.zero_ended && ends_at_number (number_at s.strides byte) (length s.types)

-- at a byte of a block of this shape such scalars stand, and there is one; none is the zero that ends the block, and pointers may lead
-- to it
pub record Stands (s : Shape) (byte : ℕ) (row : List Slot) : Type 0 where
  pub there : 0 < length row
  pub each : (k : ℕ) (slot : Slot) → slice_get row k ≡ Some slot → type_at s (byte + slot.offset) ≡ Some slot.type
  pub inside : (k : ℕ) (slot : Slot) → slice_get row k ≡ Some slot → is_zero_at s (byte + slot.offset) ≡ false
  pub unsealed : s.is_sealed ≡ false

-- a value of the type stands at a byte of a block of this shape, and so many bytes as it takes are the block's
pub record HasRow (structs : List Structure) (s : Shape) (byte : ℕ) (type : CType) : Type 0 where
  pub stands : Stands s byte (slots structs type)
  pub room : byte + size_of structs type ≤ sum s.strides

-- a place at which a value of the type stands, in blocks of these shapes
pub record IsPlace (structs : List Structure) (blocks : List Shape) (type : CType) (block byte : ℕ) : Type 0 where
  pub shape : Shape
  pub found : slice_get blocks block ≡ Some shape
  pub row : HasRow structs shape byte type

-- ---- between ends

-- a value of the type stands at each place between the ends that is so many elements further on than this byte, or back
abbrev pub AreElements : List Structure → List Shape → CType → (block byte : ℕ) → Ends → Type 0
AreElements structs blocks type block byte e =
    (n : ℤ) (place : ℕ) → pos place ≡ pos byte +ℤ (n *ℤ pos e.size) → lies_below e (pos place) ≡ true → IsPlace structs blocks type block place

-- a place in a row of cells of the type that a zero ends: it is the one of a number; inside of bounds it isn't that zero
pub record IsEndedPlace (structs : List Structure) (blocks : List Shape) (type : CType) (block byte : ℕ) (inside : Bool) : Type 0 where
  pub shape : Shape
  pub found : slice_get blocks block ≡ Some shape
  pub ended : shape.zero_ended ≡ true
  pub unsealed : shape.is_sealed ≡ false
  pub cells : ℕ
  pub types : shape.types ≡ replicate cells type
  pub strides : shape.strides ≡ replicate cells (size_of structs type)
  pub some : 1 ≤ size_of structs type
  pub number : ℕ
  pub is : byte ≡ number * size_of structs type
  pub below : number < cells
  pub before_zero : inside ≡ true → suc number < cells

-- such a scalar stands at each place between the ends, and at the upper one, where the zero may stand
abbrev pub AreEnded : List Structure → List Shape → CType → (block byte : ℕ) → Ends → Type 0
AreEnded structs blocks type block byte e =
    (n : ℤ) (place : ℕ) → pos place ≡ pos byte +ℤ (n *ℤ pos e.size) → lies_up_to e (pos place) ≡ true
    → IsEndedPlace structs blocks type block place (lies_below e (pos place))

-- the same of what a pointer of a type leads to
abbrev pub LeadsOn : List Structure → List Shape → CType → (block byte : ℕ) → Ends → Type 0
LeadsOn structs blocks Int block byte e = Unit {0}
LeadsOn structs blocks Char block byte e = Unit {0}
LeadsOn structs blocks (Struct number) block byte e = Unit {0}
LeadsOn structs blocks (Pointer mode kinds.One target) block byte e = AreElements structs blocks target block byte e
LeadsOn structs blocks (Pointer mode kinds.Array target) block byte e = AreElements structs blocks target block byte e
LeadsOn structs blocks (Pointer mode kinds.Nt target) block byte e = AreEnded structs blocks target block byte e

-- ---- cells

-- in a block that begins with elements of these cells, a value of the type stands at each of them
abbrev pub AreCellsOf : List Structure → CType → List Initial → Type 0
AreCellsOf structs type element = (n : ℕ) (after : List states.Cell)
    → HasRow structs (shape (record { cells = cells_of_elements n element ++ element_cells element ++ after; zero_ended = false; is_sealed = false }))
    (n * element_size element) type

-- an element is one cell of a type, with as many bytes as that takes
pub record IsOneCell (structs : List Structure) (type : CType) (element : List Initial) : Type 0 where
  pub number : ℤ
  pub is : element ≡ record { type = type; stride = size_of structs type; number = number } ∷ []
  pub some : 1 ≤ size_of structs type

-- the same of what a pointer of a type leads to
abbrev pub AreCellsBehind : List Structure → CType → List Initial → Type 0
AreCellsBehind structs Int element = Unit {0}
AreCellsBehind structs Char element = Unit {0}
AreCellsBehind structs (Struct number) element = Unit {0}
AreCellsBehind structs (Pointer mode kinds.One target) element = AreCellsOf structs target element
AreCellsBehind structs (Pointer mode kinds.Array target) element = AreCellsOf structs target element
AreCellsBehind structs (Pointer mode kinds.Nt target) element = IsOneCell structs target element
