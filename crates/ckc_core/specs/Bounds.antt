-- The ends of pointers, and which pointers are valid with their bounds.
use Rattle.std.specs.Prelude.{ℕ, ◌-◌, ◌==◌, ◌&&◌, Bool, true, false, cond, List, Option, Some, None, slice_get, nat_le, int_le, pos, sum}
use Rattle.std.proofs.Common.{ℤ, ◌+ℤ◌, ◌*ℤ◌}
use Rattle.bounds_exprs.specs.declared.term.Term.{Term}
use Rattle.ckc_core.specs.declared.program.PointerBounds.{PointerBounds}
use Rattle.ckc_core.specs.States.{Value, Number, Null, At, Block, Local, State, strides}

-- where the ends of bounds stand: bytes of the block in which the pointer stands; and the bytes of an element
pub record Ends : Type 0 where
  pub low : ℤ
  pub high : ℤ
  pub size : ℕ

-- a pointer as an expression gives it, with its ends, where it has any
pub record Pointed : Type 0 where
  pub value : Value
  pub ends : Option Ends

-- ---- ends, evaluated over whole numbers

abbrev number_of : Value → Option ℤ
number_of (Number number) = Some number
number_of Null = None
number_of (At block byte) = None

abbrev number_in : Option Local → Option ℤ
number_in None = None
number_in (Some local) = number_of local.value

abbrev variable_value : Option ℕ → List Local → Option ℤ
variable_value None locals = Some (pos 0)
variable_value (Some x) locals = number_in (slice_get locals x)

abbrev plus : Option ℤ → ℤ → Option ℤ
plus None constant = None
plus (Some number) constant = Some (number +ℤ constant)

-- the number of a term, where its variable holds one
abbrev pub term_value : Term → List Local → Option ℤ
term_value t locals = plus (variable_value t.var locals) t.plus

abbrev byte_of : ℕ → Value → Option ℕ
byte_of block (Number number) = None
byte_of block Null = None
byte_of block (At other byte) = cond (other == block) (Some byte) None

abbrev byte_in : ℕ → Option Local → Option ℕ
byte_in block None = None
byte_in block (Some local) = byte_of block local.value

-- the byte from which bounds count: that of the pointer itself, or that of their base, which stands in the same block
abbrev pub base_byte : Option ℕ → List Local → (block byte : ℕ) → Option ℕ
base_byte None locals block byte = Some byte
base_byte (Some base) locals block byte = byte_in block (slice_get locals base)

abbrev pub ends_from : ℕ → Option ℕ → Option ℤ → Option ℤ → Option Ends
ends_from size None low high = None
ends_from size (Some base) None high = None
ends_from size (Some base) (Some low) None = None
ends_from size (Some base) (Some low) (Some high) = Some (record { low = pos base +ℤ (low *ℤ pos size); high = pos base +ℤ (high *ℤ pos size); size = size })

-- the ends of a pointer to a place
abbrev pub ends_at : PointerBounds → List Local → (block byte : ℕ) → Option Ends
ends_at p locals block byte =
    ends_from p.size (base_byte p.bounds.base locals block byte) (term_value p.bounds.lo locals) (term_value p.bounds.hi locals)

-- a pointer with its ends, by the bounds at its node
abbrev pub with_ends : Option PointerBounds → Value → List Local → Pointed
with_ends None value locals = record { value = value; ends = None }
with_ends (Some p) (Number number) locals = record { value = Number number; ends = None }
with_ends (Some p) Null locals = record { value = Null; ends = None }
with_ends (Some p) (At block byte) locals = record { value = At block byte; ends = ends_at p locals block byte }

-- ---- valid pointers

-- the bytes of a block
abbrev pub block_size : Block → ℕ
block_size b = sum (strides b.cells)

-- both ends lie from a block's start to this byte, where the lower isn't above the upper
abbrev pub lie_within : Ends → ℕ → Bool
lie_within e size = cond (int_le e.low e.high) (int_le (pos 0) e.low && int_le e.high (pos size)) true

-- the byte up to which ends may lie: the block's end, or the first one of the last element, where a zero stands
abbrev pub room_of : Bool → Block → ℕ → ℕ
room_of false b size = block_size b
room_of true b size = block_size b - size

abbrev valid_in : Bool → Option Block → ℕ → Option Ends → Bool
valid_in terminated None byte ends = false
valid_in terminated (Some b) byte None = false
valid_in terminated (Some b) byte (Some ends) = nat_le byte (block_size b) && lie_within ends (room_of terminated b ends.size)

-- a pointer is null, or it stands in a block, up to its end, and so do its ends, up to the last element where it is null-terminated
abbrev pub is_valid : PointerBounds → Value → State → Bool
is_valid p (Number number) s = false
is_valid p Null s = true
is_valid p (At block byte) s = valid_in p.terminated (slice_get s.blocks block) byte (ends_at p s.locals block byte)
