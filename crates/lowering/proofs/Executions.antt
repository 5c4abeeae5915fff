-- A run of a program's code: how a state of the meaning stands in the code's memory.
use Rattle.std.proofs.Common.{◌≡◌, ℕ, zero, suc, ◌+◌, ◌-◌, ◌<◌, ◌≤◌, Bool, true, false, ℤ, pos, List, [], ◌∷◌, ◌++◌, length, map, take, drop, replicate, Some, refl, sym, ap, ◌∙◌, arith, append_assoc, length-append}
use Rattle.std.specs.Prelude.{slice_get, sum, flat_map, All}
use Rattle.std.specs.List.{AllByRecursion}
use Rattle.std.proofs.Math.Seq.{take-append_seam, drop-append_seam}
use Rattle.std.proofs.lemmas.List.{length-replicate}
use Rattle.std.proofs.lemmas.List.Elements.{recursion_from_All}
use Rattle.std.proofs.lemmas.Bool.Decides.{nat_tests}
use Rattle.act_words.specs.declared.settings.Settings.{Settings}
use Rattle.act_words.specs.Limits.{AreAllowed}
use Rattle.act_words.specs.Numbers.{word}
use Rattle.act_words.specs.World.{World}
use Rattle.flat_bytes.specs.Blocks.{first_offset, grown, rounded_up, is_refused, blocks_from}
use Rattle.flat_bytes.specs.Blocks as flat
use Rattle.trusted_memory.specs.Memories.{Memory}
use Rattle.pointer_modes.specs.Types.{CType, Int, Char, Struct, Pointer}
use Rattle.ckc_core.specs.Programs.{Initial, Variable}
use Rattle.check_insertion.specs.Erased.{Erased}
use Rattle.ckc_core.specs.States.{Value, Null, Cell, Block, Shape, Local, Grows, strides, shape, shapes, has_type, initial_value, initial_cells, object_block}
use Rattle.ckc_core.specs.States as meaning
use Rattle.ckc_core.specs.Steps.{is_char}
use Rattle.code_words.specs.Table.{Caller, Control, State}
use Rattle.code_words.specs.Table as table
use Rattle.code_words.specs.Runs.{spread, counter_behind}
use Rattle.code_words.specs.declared.image.Image.{Image}
use Rattle.lowering.specs.Images.{width_if, word_bytes_if, padded, cell_bytes, object_bytes, image_of}
use Rattle.lowering.specs.Correct.{size_of, offset_from, bytes_of, block_bytes, shown_from, counted_from, IsCell, IsLowerable, SameEnd}
use Rattle.lowering.specs.Correct as correct
use Rattle.act_words.specs.Shown.{Shown}
use Rattle.lowering.proofs.Shapes.{sum_cons, end_from, end_least, IsKeptBy, word_grows, kept_grows}
use Rattle.lowering.proofs.Memory.{HasRoom, HasRooms, memory_bytes, length_block}

-- a run of a program's code, from a state on
pub record Execution : Type 0 where
  pub program : Erased
  pub lowerable : IsLowerable program
  pub settings : Settings
  pub allowed : AreAllowed settings
  pub start : State

abbrev pub image : Execution → Image
image g = image_of g.program

-- the shapes of the file-level variables
abbrev pub variables : Execution → List Shape
variables g = shapes (map object_block g.program.objects)

-- ---- where blocks of some shapes are there

abbrev pub word_by : Execution → List Shape → Value → ℕ
word_by g all v = correct.word_of g.settings.base all v

-- the words of local variables
abbrev pub slots_by : Execution → List Shape → List Local → List ℕ
slots_by g all locals = map (λ (x : Local). word_by g all x.value) locals

abbrev pub tail : Execution → List Shape → List ℕ
tail g all = replicate (g.settings.trusted - end_from first_offset all) 0

abbrev pub memory_by : Execution → List Shape → List Block → Memory
memory_by g all blocks = record { bytes = memory_bytes g.settings.base all (tail g all) blocks; base = g.settings.base; counter = end_from first_offset all }

-- the machine's blocks, of which the first stands at an offset
abbrev pub listed_from : ℕ → List Shape → List flat.Block
listed_from offset [] = []
listed_from offset (s ∷ all) = (record { offset = offset; bytes = size_of s }) ∷ listed_from (grown offset (size_of s)) all

abbrev pub state_by : Execution → List Shape → Control → List Caller → List Block → World → State
state_by g all control callers blocks world = record { memory = memory_by g all blocks; blocks = listed_from first_offset all; control = control; callers = callers; world = world }

-- ---- the same of a state of the meaning

abbrev pub word_of : Execution → meaning.State → Value → ℕ
word_of g s v = word_by g (shapes s.blocks) v

abbrev pub memory : Execution → List Block → Memory
memory g blocks = memory_by g (shapes blocks) blocks

-- a state of the code, with the memory and the world of a state of the meaning
abbrev pub state : Execution → Control → List Caller → meaning.State → State
state g control callers s = state_by g (shapes s.blocks) control callers s.blocks s.world

-- ---- what is so of each state of the meaning

-- a number has 32 bits, and a place is one in a block
abbrev pub IsKept : meaning.State → Value → Type 0
IsKept s v = IsKeptBy (shapes s.blocks) v

abbrev pub AreKeptBy : List Shape → List Local → Type 0
AreKeptBy all locals = AllByRecursion (λ (x : Local). IsKeptBy all x.value) locals

-- a cell has room for its word, and its value is of its type
pub record KeptCell (all : List Shape) (c : Cell) : Type 0 where
  pub room : HasRoom c
  pub typed : has_type c.type c.value ≡ true
  pub value : IsKeptBy all c.value

abbrev pub KeptCells : List Shape → Block → Type 0
KeptCells all b = AllByRecursion (KeptCell all) b.cells

-- the blocks fit into the memory, and the first ones are the file-level variables
pub record KeptBlocks (g : Execution) (blocks : List Block) : Type 0 where
  pub cells : AllByRecursion (KeptCells (shapes blocks)) blocks
  pub fits : end_from first_offset (shapes blocks) ≤ g.settings.trusted
  pub grows : Grows (variables g) (shapes blocks)

-- words of local variables stay where blocks are added
pub slots_grow : (g : Execution) (before after : List Shape) (locals : List Local) → Grows before after → AreKeptBy before locals → slots_by g after locals ≡ slots_by g before locals
slots_grow g before after [] grows kept = refl
slots_grow g before after (x ∷ locals) grows kept =
    let here = word_grows g.settings.base before after x.value grows kept.0 in
    let rest = slots_grow g before after locals grows kept.1 in
    cc

pub locals_grow : (before after : List Shape) (locals : List Local) → Grows before after → AreKeptBy before locals → AreKeptBy after locals
locals_grow before after [] grows kept = tt
locals_grow before after (x ∷ locals) grows kept = (kept_grows before after x.value grows kept.0, locals_grow before after locals grows kept.1)

-- ---- the file-level variables before the run

-- each cell of a variable is one, and there is one
abbrev pub IsObject : Variable → Type 0
IsObject v = All IsCell v.cells × (0 < length v.cells)

initial_word : (base : ℕ) (all : List Shape) (type : CType) (number : ℤ) → (initial_value type number ≡ Null → number ≡ pos 0) → correct.word_of base all (initial_value type number) ≡ word number
initial_word base all Int number null = refl
initial_word base all Char number null = refl
initial_word base all (Struct n) number null = ap word (sym (null refl))
initial_word base all (Pointer mode kind target) number null = ap word (sym (null refl))

pub strides_of : (cells : List Initial) → strides (initial_cells cells) ≡ map (λ (i : Initial). i.stride) cells
strides_of [] = refl
strides_of (i ∷ cells) = ap (λ l. i.stride ∷ l) (strides_of cells)

content_of : (base : ℕ) (all : List Shape) (cells : List Initial) → AllByRecursion IsCell cells → flat_map (bytes_of base all) (initial_cells cells) ≡ flat_map cell_bytes cells
content_of base all [] is = refl
content_of base all (i ∷ cells) is =
    let here = ap (λ w. padded i.stride (word_bytes_if (is_char i.type) w)) (initial_word base all i.type i.number is.0.null) in
    let rest = content_of base all cells is.1 in
    cc

pub contents_of : (base : ℕ) (all : List Shape) (objects : List Variable) → AllByRecursion IsObject objects → map (block_bytes base all) (map object_block objects) ≡ map object_bytes objects
contents_of base all [] is = refl
contents_of base all (v ∷ objects) is =
    let here = content_of base all v.cells (recursion_from_All IsCell v.cells is.0.0) in
    let rest = contents_of base all objects is.1 in
    cc

rooms_of : (cells : List Initial) → AllByRecursion IsCell cells → AllByRecursion HasRoom (initial_cells cells)
rooms_of [] is = tt
rooms_of (i ∷ cells) is = (is.0.room, rooms_of cells is.1)

-- a variable's bytes are those of its cells
pub object_size : (v : Variable) → IsObject v → length (object_bytes v) ≡ size_of (shape (object_block v))
object_size v is =
    let each = recursion_from_All IsCell v.cells is.0 in
    ap length (sym (content_of 0 [] v.cells each)) ∙ length_block 0 [] (object_block v) (rooms_of v.cells each)

width_above : (char : Bool) → 1 ≤ width_if char
width_above true = omega arith
width_above false = omega arith

cells_above : (cells : List Initial) → AllByRecursion IsCell cells → 0 < length cells → 1 ≤ sum (strides (initial_cells cells))
cells_above [] is some = absurd (omega arith)
cells_above (i ∷ cells) is some = omega (arith, sum_cons i.stride (strides (initial_cells cells)), width_above (is_char i.type), is.0.room)

-- no variable is empty
pub object_above : (v : Variable) → IsObject v → 1 ≤ size_of (shape (object_block v))
object_above v is = cells_above v.cells (recursion_from_All IsCell v.cells is.0) is.1

-- where the code finds a variable
offset_of : (offset : ℕ) (objects : List Variable) (k : ℕ) (s : Shape) → AllByRecursion IsObject objects → slice_get (shapes (map object_block objects)) k ≡ Some s → table.offset_from offset (map object_bytes objects) k ≡ Some (offset_from offset (shapes (map object_block objects)) k)
offset_of offset [] k s is h = absurd (cc)
offset_of offset (v ∷ objects) zero s is h = refl
offset_of offset (v ∷ objects) (suc k) s is h =
    ap (λ n. table.offset_from (grown offset n) (map object_bytes objects) k) (object_size v is.0)
    ∙ offset_of (grown offset (size_of (shape (object_block v)))) objects k s is.1 h

pub end_of : (offset : ℕ) (objects : List Variable) → end_from offset (shapes (map object_block objects)) ≡ counted_from offset objects
end_of offset [] = refl
end_of offset (v ∷ objects) =
    end_of (grown offset (size_of (shape (object_block v)))) objects ∙ ap (λ l. counted_from (grown offset (sum l)) objects) (strides_of v.cells)

-- the machine's counter behind the variables
pub counter_of : (offset : ℕ) (objects : List Variable) → AllByRecursion IsObject objects → counter_behind offset (map object_bytes objects) ≡ end_from offset (shapes (map object_block objects))
counter_of offset [] is = refl
counter_of offset (v ∷ objects) is =
    ap (λ n. counter_behind (grown offset n) (map object_bytes objects)) (object_size v is.0)
    ∙ counter_of (grown offset (size_of (shape (object_block v)))) objects is.1

-- and its blocks
pub listed_of : (size offset : ℕ) (objects : List Variable) → AllByRecursion IsObject objects → end_from offset (shapes (map object_block objects)) ≤ size → blocks_from size offset (map length (map object_bytes objects)) ≡ listed_from offset (shapes (map object_block objects))
listed_of size offset [] is within = refl
listed_of size offset (v ∷ objects) is within =
    let n = size_of (shape (object_block v)) in
    let kept : is_refused size offset n ≡ false = let far = end_least (grown offset n) (shapes (map object_block objects)) in let some = object_above v is.0 in grind (arith, nat_tests) in
    let later = listed_of size (grown offset n) objects is.1 within in
    ap (λ k. blocks_from size offset (k ∷ map length (map object_bytes objects))) (object_size v is.0) ∙ rw kept (ap (λ l. (record { offset = offset; bytes = n }) ∷ l) later)

module _ (g : Execution) where
  pub all_objects : AllByRecursion IsObject g.program.objects
  all_objects = recursion_from_All IsObject g.program.objects g.lowerable.cells

  pub variable_address : (k : ℕ) (s : Shape) → slice_get (variables g) k ≡ Some s → table.address_of (image g) g.settings.base k ≡ Some (g.settings.base + offset_from first_offset (variables g) k)
  variable_address k s h = ap (table.at_base g.settings.base) (offset_of first_offset g.program.objects k s all_objects h)

  pub variables_end : end_from first_offset (variables g) ≤ 65536
  variables_end = omega (arith, end_of first_offset g.program.objects, g.lowerable.objects)

-- ---- the last states agree

module _ (base : ℕ) (all : List Shape) (bytes tail : List ℕ) where
  abbrev seen : flat.Block → Shown
  seen b = record { address = base + b.offset; bytes = take b.bytes (drop b.offset bytes) }

  taken : (pre word rest : List ℕ) (n : ℕ) → length word ≡ n → bytes ≡ pre ++ (word ++ rest) → take n (drop (length pre) bytes) ≡ word
  taken pre word rest n long e =
      ap (λ l. take n (drop (length pre) l)) e ∙ ap (take n) (drop-append_seam pre (word ++ rest)) ∙ ap (λ m. take m (word ++ rest)) (sym long) ∙ take-append_seam word rest

  held_from : (pre : List ℕ) (offset : ℕ) (blocks : List Block) → length pre ≡ offset → AllByRecursion HasRooms blocks → bytes ≡ pre ++ (spread (map (block_bytes base all) blocks) ++ tail) → map seen (listed_from offset (shapes blocks)) ≡ shown_from base all offset blocks
  held_from pre offset [] long rooms e = refl
  held_from pre offset (b ∷ blocks) long rooms e =
      let n = size_of (shape b) in
      let content = block_bytes base all b in
      let zeros : List ℕ = replicate (rounded_up (length content) - length content + 16) 0 in
      let rest = spread (map (block_bytes base all) blocks) in
      let size_is = length_block base all b rooms.0 in
      let split = e ∙ ap (λ l. pre ++ l) (append_assoc (content ++ zeros) rest tail ∙ append_assoc content zeros (rest ++ tail)) in
      let further = e ∙ ap (λ l. pre ++ l) (append_assoc (content ++ zeros) rest tail) ∙ sym (append_assoc pre (content ++ zeros) (rest ++ tail)) in
      let front = pre ++ (content ++ zeros) in
      let long' : length front ≡ grown offset n = omega (arith, length-append pre (content ++ zeros), length-append content zeros, length-replicate {A = ℕ} (rounded_up (length content) - length content + 16) 0, size_is, long) in
      let here : take n (drop offset bytes) ≡ content = ap (λ k. take n (drop k bytes)) (sym long) ∙ taken pre content (zeros ++ (rest ++ tail)) n size_is split in
      let later = held_from front (grown offset n) blocks long' rooms.1 further in
      cc

cells_rooms : (all : List Shape) (cells : List Cell) → AllByRecursion (KeptCell all) cells → AllByRecursion HasRoom cells
cells_rooms all [] kept = tt
cells_rooms all (c ∷ cells) kept = (kept.0.room, cells_rooms all cells kept.1)

pub rooms_kept : (all : List Shape) (blocks : List Block) → AllByRecursion (KeptCells all) blocks → AllByRecursion HasRooms blocks
rooms_kept all [] kept = tt
rooms_kept all (b ∷ blocks) kept = (cells_rooms all b.cells kept.0, rooms_kept all blocks kept.1)

pub same_end : (g : Execution) (control : Control) (callers : List Caller) (s : meaning.State) → KeptBlocks g s.blocks → SameEnd g.settings.base s (state g control callers s)
same_end g control callers s kept =
    record {
      world = refl;
      blocks =
          let all = shapes s.blocks in
          let rooms = rooms_kept all s.blocks kept.cells in
          let zeros : List ℕ = replicate first_offset 0 in
          let regrouped = append_assoc zeros (spread (map (block_bytes g.settings.base all) s.blocks)) (tail g all) in
          held_from g.settings.base all (memory g s.blocks).bytes (tail g all) zeros first_offset s.blocks refl rooms regrouped;
    }
