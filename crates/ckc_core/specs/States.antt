-- The states of the meaning: blocks of typed cells, local variables, and the world. No address stands in a state.
use Rattle.std.specs.Prelude.{◌≡◌, ℕ, suc, ◌-◌, ◌==◌, ◌&&◌, Bool, true, false, cond, List, [], ◌∷◌, ◌++◌, Option, Some, None, option_map, map}
use Rattle.std.specs.Prelude.{slice_get, slice_set, nat_lt, pos, negsuc}
use Rattle.std.specs.Option.{option_and_then}
use Rattle.std.proofs.Common.{ℤ}
use Rattle.act_words.specs.Checks.{is_word_number}
use Rattle.pointer_modes.specs.declared.ctype.Mode.{Mode}
use Rattle.pointer_modes.specs.declared.ctype.Mode.TheVariants as modes
use Rattle.pointer_modes.specs.declared.ctype.Kind.{Kind}
use Rattle.pointer_modes.specs.declared.ctype.Kind.TheVariants as kinds
use Rattle.pointer_modes.specs.Types.{CType, Int, Char, Struct, Pointer}
use Rattle.act_words.specs.World.{World}
use Rattle.ckc_core.specs.Programs.{Initial, Variable}

-- a number, null, or a place: a byte of a block
pub data Value : Type 0 where
  Number : (number : ℤ) → Value
  Null : Value
  At : (block byte : ℕ) → Value

abbrev pub same_mode : Mode → Mode → Bool
same_mode modes.Checked modes.Checked = true
same_mode modes.Tainted modes.Tainted = true
same_mode modes.Raw modes.Raw = true
same_mode _ _ = false

abbrev pub same_kind : Kind → Kind → Bool
same_kind kinds.One kinds.One = true
same_kind kinds.Array kinds.Array = true
same_kind kinds.Nt kinds.Nt = true
same_kind _ _ = false

abbrev pub same_type : CType → CType → Bool
same_type Int Int = true
same_type Char Char = true
same_type (Struct m) (Struct n) = m == n
same_type (Pointer mode kind target) (Pointer mode' kind' target') = same_mode mode mode' && (same_kind kind kind' && same_type target target')
same_type _ _ = false

abbrev is_byte : ℤ → Bool
is_byte (pos n) = nat_lt n 256
is_byte (negsuc n) = false

-- the value is one of the type
abbrev pub has_type : CType → Value → Bool
has_type Int (Number number) = is_word_number number
has_type Char (Number number) = is_byte number
has_type (Pointer mode kind target) Null = true
has_type (Pointer mode kind target) (At block byte) = true
has_type _ _ = false

-- what a variable of the type holds before it is given a value
abbrev pub zero_of : CType → Value
zero_of Int = Number (pos 0)
zero_of Char = Number (pos 0)
zero_of (Struct number) = Null
zero_of (Pointer mode kind target) = Null

-- ---- blocks

-- a cell: its type, the bytes from its first one to that of the next cell, or to the block's end, and what it holds
pub record Cell : Type 0 where
  pub type : CType
  pub stride : ℕ
  pub value : Value

-- a block: its cells, in order, whether a zero ends it, and whether no pointer leads to it
pub record Block : Type 0 where
  pub cells : List Cell
  pub zero_ended : Bool
  pub is_sealed : Bool

-- the bytes from each cell to the next one
abbrev pub strides : List Cell → List ℕ
strides cells = map (λ (c : Cell). c.stride) cells

-- the number of the cell that begins at a byte
abbrev pub number_at : List ℕ → ℕ → Option ℕ
number_at [] byte = None
number_at (stride ∷ strides) byte =
    cond (byte == 0) (Some 0) (cond (nat_lt byte stride) None (option_map (λ number. suc number) (number_at strides (byte - stride))))

-- the cell of a block that begins at a byte
abbrev pub cell_in : Block → ℕ → Option Cell
cell_in b byte = option_and_then (λ number. slice_get b.cells number) (number_at (strides b.cells) byte)

-- the cell at a place
abbrev pub cell_at : List Block → ℕ → ℕ → Option Cell
cell_at blocks block byte = option_and_then (λ b. cell_in b byte) (slice_get blocks block)

-- the cells where the one of a number, if it is there, holds another value
abbrev pub with_value : List Cell → Option ℕ → Value → List Cell
with_value cells None value = cells
with_value cells (Some number) value = put (slice_get cells number)
  where
    put : Option Cell → List Cell
    put None = cells
    put (Some old) = slice_set cells number (record old { value = value })

-- the blocks with another value at a place
abbrev pub stored : List Block → ℕ → ℕ → Value → List Block
stored blocks block byte value = with_block (slice_get blocks block)
  where
    with_block : Option Block → List Block
    with_block None = blocks
    with_block (Some b) = slice_set blocks block (record b { cells = with_value b.cells (number_at (strides b.cells) byte) value })

-- ---- what a block never changes: the types of its cells, where they stand, whether a zero ends it, and whether no pointer leads to it

pub record Shape : Type 0 where
  pub types : List CType
  pub strides : List ℕ
  pub zero_ended : Bool
  pub is_sealed : Bool

abbrev pub shape : Block → Shape
shape b = record { types = map (λ (c : Cell). c.type) b.cells; strides = strides b.cells; zero_ended = b.zero_ended; is_sealed = b.is_sealed }

abbrev pub shapes : List Block → List Shape
shapes blocks = map shape blocks

-- the type of the cell that begins at a byte
abbrev pub type_at : Shape → ℕ → Option CType
type_at s byte = option_and_then (λ number. slice_get s.types number) (number_at s.strides byte)

-- blocks are only ever added
abbrev pub Grows : List Shape → List Shape → Type 0
Grows before after = (more : List Shape) × (after ≡ before ++ more)

-- ---- states

-- a local variable: its type, and what it holds
pub record Local : Type 0 where
  pub type : CType
  pub value : Value

-- the blocks, the local variables of the innermost open call, how many calls are open, and the world
pub record State : Type 0 where
  pub blocks : List Block
  pub locals : List Local
  pub depth : ℕ
  pub world : World

-- in another world
abbrev pub in_world : World → State → State
in_world w s = record s { world = w }

abbrev pub initial_value : CType → ℤ → Value
initial_value Int number = Number number
initial_value Char number = Number number
initial_value (Struct n) number = Null
initial_value (Pointer mode kind target) number = Null

-- the cells of a file-level variable before the run
abbrev pub initial_cells : List Initial → List Cell
initial_cells cells = map (λ (i : Initial). record { type = i.type; stride = i.stride; value = initial_value i.type i.number }) cells

-- and its block
abbrev pub object_block : Variable → Block
object_block v = record { cells = initial_cells v.cells; zero_ended = v.zero_ended; is_sealed = v.is_sealed }
