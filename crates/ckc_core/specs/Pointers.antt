-- What is done with pointers, as the meanings of both languages share it: elements, sums, order, new blocks.
use Rattle.std.specs.Prelude.{ℕ, zero, suc, ◌+◌, ◌-◌, ◌*◌, ◌==◌, ◌&&◌, ◌||◌, Bool, true, false, List, [], ◌∷◌, ◌++◌, length, map, sum, Option, Some, None}
use Rattle.std.specs.Prelude.{slice_get, nat_le, int_lt, int_le, pos, negsuc}
use Rattle.std.proofs.Common.{ℤ, ◌*ℤ◌, neg_ℤ}
use Rattle.ckc_text.specs.declared.code.Code.{Code}
use Rattle.ckc_text.specs.declared.code.Code.TheVariants.{C1}
use Rattle.act_words.specs.declared.ending.Ending.TheVariants.{Check}
use Rattle.act_words.specs.declared.operator.Comparison.{Comparison}
use Rattle.act_words.specs.Operators.{holds}
use Rattle.flat_bytes.specs.Blocks.{first_offset, grown, is_refused}
use Rattle.ckc_core.specs.declared.program.Direction.{Direction}
use Rattle.ckc_core.specs.declared.program.Direction.TheVariants as directions
use Rattle.ckc_core.specs.declared.program.Terminator.{Terminator}
use Rattle.ckc_core.specs.declared.program.Terminator.TheVariants as terminators
use Rattle.ckc_core.specs.declared.program.Site.{Site}
use Rattle.ckc_core.specs.Outcome.{Gives, Ends as Over, Stuck}
use Rattle.ckc_core.specs.Programs.{Initial}
use Rattle.act_words.specs.Touches.{spend_tick}
use Rattle.pointer_modes.specs.Types.{CType, Char}
use Rattle.ckc_core.specs.States.{Value, Number, Null, At, Cell, Block, State, zero_of, cell_at}
use Rattle.ckc_core.specs.Bounds.{Ends, block_size}
use Rattle.ckc_core.specs.Steps.{Result, place_at, number_of_test, is_zero, asked}

-- ---- ends

-- a byte from the lower end on, and below the upper one
abbrev pub lies_below : Ends → ℤ → Bool
lies_below e byte = int_le e.low byte && int_lt byte e.high

-- the same, or at the upper one
abbrev pub lies_up_to : Ends → ℤ → Bool
lies_up_to e byte = int_le e.low byte && int_le byte e.high

-- a byte at which an element may stand: below the upper end, and of a null-terminated pointer at it too
abbrev pub lies_in : Bool → Ends → ℤ → Bool
lies_in false e byte = lies_below e byte
lies_in true e byte = lies_up_to e byte

-- new ends within old ones, or turned
abbrev pub are_within : Ends → Ends → Bool
are_within old new = int_lt new.high new.low || (int_le old.low new.low && int_le new.high old.high)

-- ---- steps

abbrev pub number_given : Option Site → Value → State → Result ℤ
number_given site (Number number) s = Gives number s
number_given site Null s = Stuck site s
number_given site (At block byte) s = Stuck site s

-- goes on where a check holds
abbrev pub checked_if : {A : Type 0} → Bool → Code → Site → Result A → State → Result A
checked_if true code site next s = next
checked_if false code site next s = Over (Check code site.place) s

-- how many bytes so many elements are, further on or back
abbrev pub distance : Direction → ℕ → ℤ → ℤ
distance directions.Forward size number = number *ℤ pos size
distance directions.Backward size number = neg_ℤ (number *ℤ pos size)

abbrev byte_from : ℤ → Option ℕ
byte_from (pos byte) = Some byte
byte_from (negsuc byte) = None

abbrev place_behind : Option Site → ℕ → Option ℕ → ℕ → State → Result (ℕ × ℕ)
place_behind site block None offset s = Stuck site s
place_behind site block (Some byte) offset s = place_at site block (byte + offset) s

-- the place of a cell: so many bytes behind an element that begins at a byte
abbrev pub cell_behind : Option Site → ℕ → ℤ → ℕ → State → Result (ℕ × ℕ)
cell_behind site block byte offset s = place_behind site block (byte_from byte) offset s

abbrev pub reaches : Option Block → ℕ → Bool
reaches None byte = false
reaches (Some b) byte = nat_le byte (block_size b)

abbrev pub pointer_if : Bool → Option Site → ℕ → ℕ → State → Result Value
pointer_if true site block byte s = Gives (At block byte) s
pointer_if false site block byte s = Stuck site s

abbrev pointer_behind : Option Site → ℕ → Option ℕ → State → Result Value
pointer_behind site block None s = Stuck site s
pointer_behind site block (Some byte) s = pointer_if (reaches (slice_get s.blocks block) byte) site block byte s

-- a pointer to a byte of a block, or to its end
abbrev pub pointer_at : Option Site → ℕ → ℤ → State → Result Value
pointer_at site block byte s = pointer_behind site block (byte_from byte) s

-- ---- order

abbrev pub ordered_if : Bool → Comparison → Option Site → ℕ → ℕ → State → Result Value
ordered_if true comparison site byte other s = Gives (number_of_test (holds comparison (pos byte) (pos other))) s
ordered_if false comparison site byte other s = Stuck site s

-- the order of two places, which is told in one block alone
abbrev pub ordered : Comparison → Option Site → Value → Value → State → Result Value
ordered comparison site (Number number) w s = Stuck site s
ordered comparison site Null w s = Stuck site s
ordered comparison site (At block byte) (Number number) s = Stuck site s
ordered comparison site (At block byte) Null s = Stuck site s
ordered comparison site (At block byte) (At other byte') s = ordered_if (block == other) comparison site byte byte' s

-- not null (C1)
abbrev pub not_null : Site → Value → State → Result (Unit {0})
not_null site (Number number) s = Stuck (Some site) s
not_null site Null s = Over (Check C1 site.place) s
not_null site (At block byte) s = Gives tt s

-- ---- new blocks

-- the counter behind blocks that stand one after another from a counter on
abbrev pub counter_behind : ℕ → List Block → ℕ
counter_behind counter [] = counter
counter_behind counter (b ∷ blocks) = counter_behind (grown counter (block_size b)) blocks

abbrev pub element_size : List Initial → ℕ
element_size element = sum (map (λ (i : Initial). i.stride) element)

abbrev pub element_cells : List Initial → List Cell
element_cells element = map (λ (i : Initial). record { type = i.type; stride = i.stride; value = zero_of i.type }) element

-- the cells of so many elements
abbrev pub cells_of_elements : ℕ → List Initial → List Cell
cells_of_elements zero element = []
cells_of_elements (suc n) element = element_cells element ++ cells_of_elements n element

-- whether a zero ends a block
abbrev pub is_terminated : Terminator → Bool
is_terminated terminators.Absent = false
is_terminated terminators.Last = true
is_terminated terminators.Behind = true

-- how many elements of those that are counted stand before the zero, where one ends them
abbrev pub before_zero : Terminator → ℕ → ℕ
before_zero terminators.Absent n = n
before_zero terminators.Last n = n - 1
before_zero terminators.Behind n = n

-- how many elements a block of so many has: one more, which is 0, where a zero ends it
abbrev pub made_elements : Bool → ℕ → ℕ
made_elements false n = n
made_elements true n = suc n

-- the block of so many elements
abbrev pub new_block : Bool → ℕ → List Initial → Block
new_block terminated n element = record { cells = cells_of_elements (made_elements terminated n) element; zero_ended = terminated; is_sealed = false }

abbrev pub made_if : Bool → Bool → ℕ → List Initial → State → Result Value
made_if true terminated n element s = Gives Null s
made_if false terminated n element s = Gives (At (length s.blocks) 0) (record s { blocks = s.blocks ++ new_block terminated n element ∷ [] })

-- so many elements, before the zero that ends them where one does, in a memory of this size: null where they are refused
abbrev pub elements_made : ℕ → Bool → List Initial → ℕ → State → Result Value
elements_made size terminated element n s =
    made_if (is_refused size (counter_behind first_offset s.blocks) (made_elements terminated n * element_size element)) terminated n element s

-- a new block of as many elements as are counted: null where there are none, or where it is refused
abbrev pub allocated : ℕ → Terminator → List Initial → ℤ → State → Result Value
allocated size terminator element (negsuc n) s = Gives Null s
allocated size terminator element (pos zero) s = Gives Null s
allocated size terminator element (pos (suc n)) s = elements_made size (is_terminated terminator) element (before_zero terminator (suc n)) s

-- ---- null-terminated bytes

-- how many bytes stand before the first zero, of which so many were counted: a tick is spent for each byte that is read
abbrev pub counted_if : Bool → Option Site → ℕ → Result Value → State → Result Value
counted_if true site n more s = Gives (Number (pos n)) s
counted_if false site n more s = more

abbrev pub read_as : CType → Value → Option Site → ℕ → Result Value → State → Result Value
read_as Char (Number number) site n more s = counted_if (is_zero (Number number)) site n more s
read_as type value site n more s = Stuck site s

abbrev pub byte_read : Option Cell → Option Site → ℕ → Result Value → State → Result Value
byte_read None site n more s = Stuck site s
byte_read (Some cell) site n more s = read_as cell.type cell.value site n more s

-- from a byte of a block on, which has so many bytes at most behind it
abbrev pub counted_from : ℕ → ℕ → Option Site → (block byte n : ℕ) → State → Result Value
counted_from zero budget site block byte n s = Stuck site s
counted_from (suc more) budget site block byte n s =
    asked (spend_tick budget s.world) s (λ _ t. byte_read (cell_at t.blocks block byte) site n (counted_from more budget site block (byte + 1) (n + 1) t) t)

abbrev pub bytes_of_block : Option Block → ℕ
bytes_of_block None = 0
bytes_of_block (Some b) = block_size b

abbrev pub counted : ℕ → Option Site → (block byte : ℕ) → State → Result Value
counted budget site block byte s = counted_from (suc (bytes_of_block (slice_get s.blocks block))) budget site block byte 0 s
