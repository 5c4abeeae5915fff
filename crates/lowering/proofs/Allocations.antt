-- New blocks: the machine's memory has zeros behind its blocks, and these are the bytes of a new one.
use Rattle.std.proofs.Common.{◌≡◌, ℕ, zero, suc, ◌+◌, ◌-◌, ◌*◌, ◌<◌, ◌≤◌, Bool, true, false, ℤ, pos, negsuc, List, [], ◌∷◌, ◌++◌, length, map, replicate, Some, refl, sym, ap, ◌∙◌, subst, arith, append_assoc, length-append}
use Rattle.std.specs.Prelude.{slice_get, sum, flat_map, nat_lt}
use Rattle.std.specs.List.{AllByRecursion}
use Rattle.std.proofs.lemmas.List.{append-nil, length-map, length-replicate, replicate-append-replicate}
use Rattle.std.proofs.lemmas.List.Elements.{recursion_from_All}
use Rattle.std.proofs.lemmas.Bool.Decides.{nat_tests}
use Rattle.act_words.specs.Numbers.{word, signed}
use Rattle.flat_bytes.specs.Blocks.{first_offset, grown, rounded_up, is_refused}
use Rattle.flat_bytes.specs.Blocks as flat
use Rattle.act_words.specs.World.{World}
use Rattle.pointer_modes.specs.Types.{CType, Int, Char, Struct, Pointer}
use Rattle.ckc_core.specs.declared.program.Terminator.{Terminator}
use Rattle.ckc_core.specs.declared.program.Terminator.TheVariants as terminators
use Rattle.ckc_core.specs.Outcome.{Gives}
use Rattle.ckc_core.specs.Programs.{Initial}
use Rattle.ckc_core.specs.States.{Null, At, Cell, Block, Shape, Grows, strides, shape, shapes, zero_of}
use Rattle.ckc_core.specs.States as meaning
use Rattle.ckc_core.specs.Steps.{is_char}
use Rattle.ckc_core.specs.Bounds.{block_size}
use Rattle.ckc_core.specs.Pointers.{counter_behind, element_size, element_cells, cells_of_elements, is_terminated, before_zero, made_elements, made_if, allocated}
use Rattle.code_words.specs.Table.{Goes, Runs, act, push, allocate_if, is_positive}
use Rattle.code_words.specs.Table as table
use Rattle.code_words.specs.Runs.{spread}
use Rattle.lowering.specs.Code.{allocation_code}
use Rattle.lowering.specs.Images.{width_if, word_bytes_if, padded}
use Rattle.lowering.specs.Sized.{IsFresh, IsElement}
use Rattle.lowering.specs.Correct.{size_of, offset_from, bytes_of, block_bytes}
use Rattle.lowering.specs.Correct as correct
use Rattle.ckc_core.proofs.Numbers.{IsNumber, signed-word}
use Rattle.lowering.proofs.Shapes.{end_from, sum_cons, InBlock, IsKeptBy, grows_on, kept_grows, word_grows}
use Rattle.lowering.proofs.Memory.{HasRoom, HasRooms, length_block}
use Rattle.lowering.proofs.Executions.{Execution, image, variables, tail, listed_from, memory_by, memory, state_by, KeptCell, KeptCells, KeptBlocks, slots_grow, locals_grow, rooms_kept}
use Rattle.lowering.proofs.Reaches.{word_pos}
use Rattle.lowering.proofs.Steps.{Layout, Scratch, words, code, frame, frame_by, standing, Kept, Here, fetched, one_move, pushes, Evaluates}

-- ---- where a new block stands

shapes_more : (blocks : List Block) (b : Block) → shapes (blocks ++ b ∷ []) ≡ shapes blocks ++ shape b ∷ []
shapes_more [] b = refl
shapes_more (x ∷ blocks) b = ap (λ l. shape x ∷ l) (shapes_more blocks b)

end_more : (offset : ℕ) (all : List Shape) (s : Shape) → end_from offset (all ++ s ∷ []) ≡ grown (end_from offset all) (size_of s)
end_more offset [] s = refl
end_more offset (x ∷ all) s = end_more (grown offset (size_of x)) all s

offset_more : (offset : ℕ) (all : List Shape) (s : Shape) → offset_from offset (all ++ s ∷ []) (length all) ≡ end_from offset all
offset_more offset [] s = refl
offset_more offset (x ∷ all) s = offset_more (grown offset (size_of x)) all s

there_more : (all : List Shape) (s : Shape) → slice_get (all ++ s ∷ []) (length all) ≡ Some s
there_more [] s = refl
there_more (x ∷ all) s = there_more all s

listed_more : (offset : ℕ) (all : List Shape) (s : Shape) → listed_from offset (all ++ s ∷ []) ≡ listed_from offset all ++ (record { offset = end_from offset all; bytes = size_of s }) ∷ []
listed_more offset [] s = refl
listed_more offset (x ∷ all) s = ap (λ l. (record { offset = offset; bytes = size_of x }) ∷ l) (listed_more (grown offset (size_of x)) all s)

-- the meaning counts as the code does
counter_is : (offset : ℕ) (blocks : List Block) → counter_behind offset blocks ≡ end_from offset (shapes blocks)
counter_is offset [] = refl
counter_is offset (b ∷ blocks) = counter_is (grown offset (block_size b)) blocks

-- ---- the bytes of a new block

zeros_join : (m n : ℕ) → replicate {A = ℕ} m 0 ++ replicate n 0 ≡ replicate (m + n) 0
zeros_join m n = replicate-append-replicate m n 0

module _ (base : ℕ) (all : List Shape) where
  zero_is : (char : Bool) → word_bytes_if char 0 ≡ replicate (width_if char) 0
  zero_is true = refl
  zero_is false = refl

  -- a cell that holds the zero of its type has zeros alone
  fresh_bytes : (c : Cell) → correct.word_of base all c.value ≡ 0 → HasRoom c → bytes_of base all c ≡ replicate c.stride 0
  fresh_bytes c null room =
      let char = is_char c.type in
      let n = width_if char in
      let whole : n + (c.stride - n) ≡ c.stride = omega (arith, room) in
      ap (λ w. padded c.stride (word_bytes_if char w)) null
      ∙ ap (padded c.stride) (zero_is char)
      ∙ ap (λ k. replicate n 0 ++ replicate (c.stride - k) 0) (length-replicate {A = ℕ} n 0)
      ∙ zeros_join n (c.stride - n)
      ∙ ap (λ k. replicate k 0) whole

  -- a row of new cells
  abbrev AreFresh : List Cell → Type 0
  AreFresh cells = AllByRecursion (λ (c : Cell). (correct.word_of base all c.value ≡ 0) × HasRoom c) cells

  cells_bytes : (cells : List Cell) → AreFresh cells → flat_map (bytes_of base all) cells ≡ replicate (sum (strides cells)) 0
  cells_bytes [] fresh = refl
  cells_bytes (c ∷ cells) fresh =
      let here = fresh_bytes c fresh.0.0 fresh.0.1 in
      let rest = cells_bytes cells fresh.1 in
      ap (λ l. l ++ flat_map (bytes_of base all) cells) here
      ∙ ap (λ l. replicate c.stride 0 ++ l) rest
      ∙ zeros_join c.stride (sum (strides cells))
      ∙ ap (λ k. replicate k 0) (sym (sum_cons c.stride (strides cells)))

  zero_word : (type : CType) → correct.word_of base all (zero_of type) ≡ 0
  zero_word Int = refl
  zero_word Char = refl
  zero_word (Struct n) = refl
  zero_word (Pointer mode kind target) = refl

  zero_kept : (type : CType) → IsKeptBy all (zero_of type)
  zero_kept Int = refl
  zero_kept Char = refl
  zero_kept (Struct n) = tt
  zero_kept (Pointer mode kind target) = tt

-- ---- the cells of new elements

all_append : {X : Type 0} (P : X → Type 0) (xs ys : List X) → AllByRecursion P xs → AllByRecursion P ys → AllByRecursion P (xs ++ ys)
all_append P [] ys h k = k
all_append P (x ∷ xs) ys h k = (h.0, all_append P xs ys h.1 k)

element_all : (P : Cell → Type 0) (element : List Initial) → ((i : Initial) → IsFresh i → P (record { type = i.type; stride = i.stride; value = zero_of i.type })) → AllByRecursion IsFresh element → AllByRecursion P (element_cells element)
element_all P [] each fresh = tt
element_all P (i ∷ element) each fresh = (each i fresh.0, element_all P element each fresh.1)

cells_all : (P : Cell → Type 0) (n : ℕ) (element : List Initial) → AllByRecursion P (element_cells element) → AllByRecursion P (cells_of_elements n element)
cells_all P zero element each = tt
cells_all P (suc n) element each = all_append P (element_cells element) (cells_of_elements n element) each (cells_all P n element each)

sum_append : (xs ys : List Cell) → sum (strides (xs ++ ys)) ≡ sum (strides xs) + sum (strides ys)
sum_append [] ys = omega arith
sum_append (c ∷ xs) ys = omega (arith, sum_cons c.stride (strides (xs ++ ys)), sum_cons c.stride (strides xs), sum_append xs ys)

element_strides : (element : List Initial) → sum (strides (element_cells element)) ≡ element_size element
element_strides [] = refl
element_strides (i ∷ element) = omega (arith, sum_cons i.stride (strides (element_cells element)), sum_cons i.stride (map (λ (i : Initial). i.stride) element), element_strides element)

elements_size : (n : ℕ) (element : List Initial) → sum (strides (cells_of_elements n element)) ≡ n * element_size element
elements_size zero element = omega arith
elements_size (suc n) element = omega (arith, sum_append (element_cells element) (cells_of_elements n element), element_strides element, elements_size n element)

-- ---- blocks that were there

module _ (base : ℕ) (before after : List Shape) (grows : Grows before after) where
  cells_same : (cells : List Cell) → AllByRecursion (KeptCell before) cells → flat_map (bytes_of base after) cells ≡ flat_map (bytes_of base before) cells
  cells_same [] kept = refl
  cells_same (c ∷ cells) kept =
      let here = ap (λ w. padded c.stride (word_bytes_if (is_char c.type) w)) (word_grows base before after c.value grows kept.0.value) in
      let rest = cells_same cells kept.1 in
      cc

  blocks_same : (blocks : List Block) → AllByRecursion (KeptCells before) blocks → map (block_bytes base after) blocks ≡ map (block_bytes base before) blocks
  blocks_same [] kept = refl
  blocks_same (b ∷ blocks) kept =
      let here = cells_same b.cells kept.0 in
      let rest = blocks_same blocks kept.1 in
      cc

  cells_still : (cells : List Cell) → AllByRecursion (KeptCell before) cells → AllByRecursion (KeptCell after) cells
  cells_still [] kept = tt
  cells_still (c ∷ cells) kept = (record { room = kept.0.room; typed = kept.0.typed; value = kept_grows before after c.value grows kept.0.value }, cells_still cells kept.1)

  blocks_still : (blocks : List Block) → AllByRecursion (KeptCells before) blocks → AllByRecursion (KeptCells after) blocks
  blocks_still [] kept = tt
  blocks_still (b ∷ blocks) kept = (cells_still b.cells kept.0, blocks_still blocks kept.1)

-- ---- the memory with a new block

spread_more : (contents : List (List ℕ)) (content : List ℕ) → spread (contents ++ content ∷ []) ≡ spread contents ++ (content ++ replicate (rounded_up (length content) - length content + 16) 0)
spread_more [] content = append-nil (content ++ replicate (rounded_up (length content) - length content + 16) 0)
spread_more (x ∷ contents) content =
    let gap : List ℕ = replicate (rounded_up (length x) - length x + 16) 0 in
    ap (λ l. (x ++ gap) ++ l) (spread_more contents content) ∙ sym (append_assoc (x ++ gap) (spread contents) (content ++ replicate (rounded_up (length content) - length content + 16) 0))

map_more : (f : Block → List ℕ) (blocks : List Block) (b : Block) → map f (blocks ++ b ∷ []) ≡ map f blocks ++ f b ∷ []
map_more f [] b = refl
map_more f (x ∷ blocks) b = ap (λ l. f x ∷ l) (map_more f blocks b)

-- zeros behind blocks are those of a new block, of the gap behind it, and those that are left
zeros_split : (size left here : ℕ) → grown here size ≤ left → (replicate {A = ℕ} size 0 ++ replicate (rounded_up size - size + 16) 0) ++ replicate (left - grown here size) 0 ≡ replicate (left - here) 0
zeros_split size left here low =
    let more : size ≤ rounded_up size = omega arith in
    let whole : size + (rounded_up size - size + 16) + (left - grown here size) ≡ left - here = omega (arith, low, more) in
    ap (λ l. l ++ replicate (left - grown here size) 0) (zeros_join size (rounded_up size - size + 16))
    ∙ zeros_join (size + (rounded_up size - size + 16)) (left - grown here size)
    ∙ ap (λ k. replicate k 0) whole

module _ (g : Execution) (blocks : List Block) (kept : KeptBlocks g blocks) (ended : Bool) (n : ℕ) (element : List Initial) (is : IsElement element) (enough : grown (end_from first_offset (shapes blocks)) (n * element_size element) ≤ g.settings.trusted) where
  -- the block of so many elements
  abbrev pub made : Block
  made = record { cells = cells_of_elements n element; zero_ended = ended; is_sealed = false }

  abbrev pub after : List Block
  after = blocks ++ made ∷ []

  abbrev before_shapes : List Shape
  before_shapes = shapes blocks

  abbrev after_shapes : List Shape
  after_shapes = shapes after

  pub made_grows : Grows before_shapes after_shapes
  made_grows = (shape made ∷ [], shapes_more blocks made)

  made_size : size_of (shape made) ≡ n * element_size element
  made_size = elements_size n element

  fresh : AllByRecursion IsFresh element
  fresh = recursion_from_All IsFresh element is.cells

  made_cells : AllByRecursion (KeptCell after_shapes) made.cells
  made_cells = cells_all (KeptCell after_shapes) n element (element_all (KeptCell after_shapes) element (λ i f. record { room = f.room; typed = f.typed; value = zero_kept g.settings.base after_shapes i.type }) fresh)

  ends_at : end_from first_offset after_shapes ≡ grown (end_from first_offset before_shapes) (n * element_size element)
  ends_at = ap (end_from first_offset) (shapes_more blocks made) ∙ end_more first_offset before_shapes (shape made) ∙ ap (grown (end_from first_offset before_shapes)) made_size

  pub made_kept : KeptBlocks g after
  made_kept = record {
    cells = all_append (KeptCells after_shapes) blocks (made ∷ []) (blocks_still g.settings.base before_shapes after_shapes made_grows blocks kept.cells) (made_cells, tt);
    fits = omega (arith, ends_at, enough);
    grows = grows_on (variables g) before_shapes after_shapes kept.grows made_grows;
  }

  made_bytes : block_bytes g.settings.base after_shapes made ≡ replicate (n * element_size element) 0
  made_bytes =
      let base = g.settings.base in
      let P = λ (c : Cell). (correct.word_of base after_shapes c.value ≡ 0) × HasRoom c in
      let row = cells_all P n element (element_all P element (λ i f. (zero_word base after_shapes i.type, f.room)) fresh) in
      cells_bytes base after_shapes made.cells row ∙ ap (λ k. replicate k 0) made_size

  -- the bytes stay as they are
  pub same_bytes : (memory_by g after_shapes after).bytes ≡ (memory_by g before_shapes blocks).bytes
  same_bytes =
      let base = g.settings.base in
      let size = n * element_size element in
      let here = end_from first_offset before_shapes in
      let zeros : List ℕ = replicate first_offset 0 in
      let old = spread (map (block_bytes base before_shapes) blocks) in
      let gap = λ (k : ℕ). replicate {A = ℕ} (rounded_up k - k + 16) 0 in
      let content : List ℕ = replicate size 0 in
      let left : List ℕ = replicate (g.settings.trusted - grown here size) 0 in
      let blocks_are = blocks_same base before_shapes after_shapes made_grows blocks kept.cells in
      let contents : map (block_bytes base after_shapes) after ≡ map (block_bytes base before_shapes) blocks ++ content ∷ [] =
      map_more (block_bytes base after_shapes) blocks made ∙ ap (λ l. l ++ block_bytes base after_shapes made ∷ []) blocks_are ∙ ap (λ c. map (block_bytes base before_shapes) blocks ++ c ∷ []) made_bytes in
      let spreads : spread (map (block_bytes base after_shapes) after) ≡ old ++ (content ++ gap size) =
      ap spread contents ∙ spread_more (map (block_bytes base before_shapes) blocks) content ∙ ap (λ k. old ++ (content ++ gap k)) (length-replicate {A = ℕ} size 0) in
      ap (λ e. (zeros ++ spread (map (block_bytes base after_shapes) after)) ++ replicate (g.settings.trusted - e) 0) ends_at
      ∙ ap (λ l. (zeros ++ l) ++ left) spreads
      ∙ append_assoc zeros (old ++ (content ++ gap size)) left
      ∙ ap (λ l. zeros ++ l) (append_assoc old (content ++ gap size) left ∙ ap (λ l. old ++ l) (zeros_split size g.settings.trusted here enough))
      ∙ sym (append_assoc zeros old (replicate (g.settings.trusted - here) 0))

  listed_is : listed_from first_offset after_shapes ≡ listed_from first_offset before_shapes ++ (record { offset = end_from first_offset before_shapes; bytes = n * element_size element }) ∷ []
  listed_is =
      ap (listed_from first_offset) (shapes_more blocks made) ∙ listed_more first_offset before_shapes (shape made)
      ∙ ap (λ k. listed_from first_offset before_shapes ++ (record { offset = end_from first_offset before_shapes; bytes = k }) ∷ []) made_size

  -- the address of the block
  pub made_address : correct.word_of g.settings.base after_shapes (At (length blocks) 0) ≡ g.settings.base + end_from first_offset before_shapes
  made_address =
      let many : length before_shapes ≡ length blocks = length-map blocks shape in
      let there : offset_from first_offset after_shapes (length blocks) ≡ end_from first_offset before_shapes =
      ap (λ l. offset_from first_offset l (length blocks)) (shapes_more blocks made) ∙ ap (offset_from first_offset (before_shapes ++ shape made ∷ [])) (sym many) ∙ offset_more first_offset before_shapes (shape made) in
      omega (arith, there)

  pub made_there : InBlock after_shapes (length blocks) 0
  made_there =
      let many : length before_shapes ≡ length blocks = length-map blocks shape in
      record { found = shape made; there = ap (λ l. slice_get l (length blocks)) (shapes_more blocks made) ∙ ap (slice_get (before_shapes ++ shape made ∷ [])) (sym many) ∙ there_more before_shapes (shape made); within = omega arith }

  -- the machine's state with the block
  pub made_state : (control : table.Control) (callers : List table.Caller) (w : World) → state_by g after_shapes control callers after w ≡ record (state_by g before_shapes control callers blocks w) { memory = record (memory_by g before_shapes blocks) { counter = grown (end_from first_offset before_shapes) (n * element_size element) }; blocks = listed_from first_offset before_shapes ++ (record { offset = end_from first_offset before_shapes; bytes = n * element_size element }) ∷ [] }
  made_state control callers w =
      let state_of = λ (bytes : List ℕ) (counter : ℕ) (listed : List flat.Block). the_state control callers w bytes counter listed in
      ap (λ b. state_of b (end_from first_offset after_shapes) (listed_from first_offset after_shapes)) same_bytes
      ∙ ap (λ c. state_of (memory_by g before_shapes blocks).bytes c (listed_from first_offset after_shapes)) ends_at
      ∙ ap (state_of (memory_by g before_shapes blocks).bytes (grown (end_from first_offset before_shapes) (n * element_size element))) listed_is
    where
      the_state : table.Control → List table.Caller → World → List ℕ → ℕ → List flat.Block → table.State
      the_state control callers w bytes counter listed =
          record { memory = record { bytes = bytes; base = g.settings.base; counter = counter }; blocks = listed; control = control; callers = callers; world = w }

-- ---- the size of the memory

spread_long : (base : ℕ) (all : List Shape) (offset : ℕ) (blocks : List Block) → AllByRecursion HasRooms blocks → offset + length (spread (map (block_bytes base all) blocks)) ≡ end_from offset (shapes blocks)
spread_long base all offset [] rooms = omega arith
spread_long base all offset (b ∷ blocks) rooms =
    let content = block_bytes base all b in
    let gap : List ℕ = replicate (rounded_up (length content) - length content + 16) 0 in
    let rest = spread (map (block_bytes base all) blocks) in
    let later = spread_long base all (grown offset (size_of (shape b))) blocks rooms.1 in
    omega (arith, later, length-append (content ++ gap) rest, length-append content gap, length-replicate {A = ℕ} (rounded_up (length content) - length content + 16) 0, length_block base all b rooms.0)

memory_long : (g : Execution) (blocks : List Block) → KeptBlocks g blocks → length (memory g blocks).bytes ≡ g.settings.trusted
memory_long g blocks kept =
    let all = shapes blocks in
    let zeros : List ℕ = replicate first_offset 0 in
    let middle = spread (map (block_bytes g.settings.base all) blocks) in
    omega (arith, kept.fits, spread_long g.settings.base all first_offset blocks (rooms_kept all blocks kept.cells), length-append (zeros ++ middle) (tail g all), length-append zeros middle, length-replicate {A = ℕ} first_offset 0, length-replicate {A = ℕ} (g.settings.trusted - end_from first_offset all) 0)

above_none : (k : ℕ) → is_positive (pos (suc k)) ≡ true
above_none k = grind (arith, nat_tests)

-- how many elements more than asked for the instruction makes
abbrev more_elements : Terminator → ℕ
more_elements terminators.Absent = 0
more_elements terminators.Last = 0
more_elements terminators.Behind = 1

-- the bytes that the instruction asks for
bytes_are : (terminator : Terminator) (k : ℕ) (element : List Initial) → IsNumber (pos (suc k))
    → (word (pos (suc k)) + more_elements terminator) * element_size element ≡ made_elements (is_terminated terminator) (before_zero terminator (suc k)) * element_size element
bytes_are terminators.Absent k element number = ap (λ n. n * element_size element) (omega (arith, word_pos (suc k) number))
bytes_are terminators.Last k element number = ap (λ n. n * element_size element) (omega (arith, word_pos (suc k) number))
bytes_are terminators.Behind k element number = ap (λ n. n * element_size element) (omega (arith, word_pos (suc k) number))

-- ---- the instruction

module _ (g : Execution) (l : Layout g) where
  -- the frame of the call, whose locals have the same words
  frame_is : (next : ℕ) (c : Scratch) (stack : List ℕ) (s : meaning.State) (after : List Shape) → Grows (shapes s.blocks) after → Kept g l s → frame_by g l after next c stack s.locals ≡ frame g l next c stack s
  frame_is next c stack s after grows kept = ap (λ slots. record { function = l.number; next = next; slots = slots ++ words c; stack = stack }) (slots_grow g (shapes s.blocks) after s.locals grows kept.locals)

  act_is : (terminator : Terminator) (size next : ℕ) (c : Scratch) (w : ℕ) (stack : List ℕ) (s : meaning.State) → act (image g) g.settings (code g l) (allocation_code terminator size) (frame g l next c (w ∷ stack) s) (standing g l next c (w ∷ stack) s) ≡ allocate_if (is_positive (signed w)) (code g l) ((w + more_elements terminator) * size) stack (frame g l next c (w ∷ stack) s) (standing g l next c (w ∷ stack) s)
  act_is terminators.Absent size next c w stack s = refl
  act_is terminators.Last size next c w stack s = refl
  act_is terminators.Behind size next c w stack s = refl

  -- a block is made, and its address is pushed
  block_runs : (next : ℕ) (stack : List ℕ) (s : meaning.State) (terminator : Terminator) (k : ℕ) (element : List Initial) (is : IsElement element) (w : ℕ) → is_positive (signed w) ≡ true → (w + more_elements terminator) * element_size element ≡ made_elements (is_terminated terminator) k * element_size element → is_refused g.settings.trusted (end_from first_offset (shapes s.blocks)) (made_elements (is_terminated terminator) k * element_size element) ≡ false → Here g l next (w ∷ stack) s → slice_get (code g l).ops next ≡ Some (allocation_code terminator (element_size element)) → length stack < (code g l).stack → Evaluates g l (next + 1) stack (made_if false (is_terminated terminator) k element s)
  block_runs next stack s terminator k element is w positive bytes given here at room =
      let size = made_elements (is_terminated terminator) k * element_size element in
      let counter = end_from first_offset (shapes s.blocks) in
      let enough : grown counter size ≤ g.settings.trusted = grind (arith, nat_tests) in
      let blocks = after g s.blocks here.kept.blocks (is_terminated terminator) (made_elements (is_terminated terminator) k) element is enough in
      let t : meaning.State = record s { blocks = blocks } in
      let grows = made_grows g s.blocks here.kept.blocks (is_terminated terminator) (made_elements (is_terminated terminator) k) element is enough in
      let address = g.settings.base + counter in
      let c = here.scratch in
      let fr = frame g l next c (w ∷ stack) s in
      let u = standing g l next c (w ∷ stack) s in
      let m = memory g s.blocks in
      let test : nat_lt (length stack) (code g l).stack ≡ true = grind (arith, nat_tests) in
      let given' : is_refused (length m.bytes) counter size ≡ false = ap (λ n. is_refused n counter size) (memory_long g s.blocks here.kept.blocks) ∙ given in
      let made_by : allocate_if true (code g l) size stack fr u ≡ push (code g l) address stack fr (record u { memory = record m { counter = grown counter size }; blocks = listed_from first_offset (shapes s.blocks) ++ (record { offset = counter; bytes = size }) ∷ [] }) = rw given' refl in
      let kept : Kept g l t = record {
        count = here.kept.count;
        depth = here.kept.depth;
        locals = locals_grow (shapes s.blocks) (shapes blocks) s.locals grows here.kept.locals;
        blocks = made_kept g s.blocks here.kept.blocks (is_terminated terminator) (made_elements (is_terminated terminator) k) element is enough;
        grows = grows_on l.since (shapes s.blocks) (shapes blocks) here.kept.grows grows;
        world = here.kept.world;
      } in (
        subst (λ z. Here g l (next + 1) (z ∷ stack) t) (sym (made_address g s.blocks here.kept.blocks (is_terminated terminator) (made_elements (is_terminated terminator) k) element is enough))
            (record {
              scratch = c;
              holds = here.holds;
              kept = kept;
              reached = one_move g u _ here.reached
                  (fetched g l next c (w ∷ stack) s (allocation_code terminator (element_size element)) at
                  ∙ act_is terminator (element_size element) next c w stack s
                  ∙ ap (λ yes. allocate_if yes (code g l) ((w + more_elements terminator) * element_size element) stack fr u) positive
                  ∙ ap (λ b. allocate_if true (code g l) b stack fr u) bytes
                  ∙ made_by
                  ∙ ap (λ yes. table.push_if yes address stack fr (record u { memory = record m { counter = grown counter size }; blocks = listed_from first_offset (shapes s.blocks) ++ (record { offset = counter; bytes = size }) ∷ [] })) test
                  ∙ ap (λ f. Goes (record (state_by g (shapes s.blocks) (Runs f) l.callers s.blocks s.world) { memory = record m { counter = grown counter size }; blocks = listed_from first_offset (shapes s.blocks) ++ (record { offset = counter; bytes = size }) ∷ [] })) (sym (frame_is (next + 1) c (address ∷ stack) s (shapes blocks) grows here.kept))
                  ∙ ap Goes (sym (made_state g s.blocks here.kept.blocks (is_terminated terminator) (made_elements (is_terminated terminator) k) element is enough (Runs (frame_by g l (shapes blocks) (next + 1) c (address ∷ stack) s.locals)) l.callers s.world)));
            }),
        made_there g s.blocks here.kept.blocks (is_terminated terminator) (made_elements (is_terminated terminator) k) element is enough,
      )

  -- nothing is made, and null is pushed
  refused_runs : (next : ℕ) (stack : List ℕ) (s : meaning.State) (terminator : Terminator) (size bytes w : ℕ) → (w + more_elements terminator) * size ≡ bytes → is_refused g.settings.trusted (end_from first_offset (shapes s.blocks)) bytes ≡ true → Here g l next (w ∷ stack) s → slice_get (code g l).ops next ≡ Some (allocation_code terminator size) → length stack < (code g l).stack → Evaluates g l (next + 1) stack (Gives Null s)
  refused_runs next stack s terminator size bytes w same refused here at room = (pushes g l next (w ∷ stack) s (allocation_code terminator size) 0 stack here at room (λ c. act_is terminator size next c w stack s ∙ by c (is_positive (signed w)) refl), tt)
    where
      given : is_refused (length (memory g s.blocks).bytes) (end_from first_offset (shapes s.blocks)) bytes ≡ true
      given = ap (λ n. is_refused n (end_from first_offset (shapes s.blocks)) bytes) (memory_long g s.blocks here.kept.blocks) ∙ refused

      none : (c : Scratch) → allocate_if true (code g l) bytes stack (frame g l next c (w ∷ stack) s) (standing g l next c (w ∷ stack) s) ≡ push (code g l) 0 stack (frame g l next c (w ∷ stack) s) (standing g l next c (w ∷ stack) s)
      none c = rw given refl

      by : (c : Scratch) (positive : Bool) → is_positive (signed w) ≡ positive → allocate_if (is_positive (signed w)) (code g l) ((w + more_elements terminator) * size) stack (frame g l next c (w ∷ stack) s) (standing g l next c (w ∷ stack) s) ≡ push (code g l) 0 stack (frame g l next c (w ∷ stack) s) (standing g l next c (w ∷ stack) s)
      by c true e =
          ap (λ yes. allocate_if yes (code g l) ((w + more_elements terminator) * size) stack (frame g l next c (w ∷ stack) s) (standing g l next c (w ∷ stack) s)) e
          ∙ ap (λ b. allocate_if true (code g l) b stack (frame g l next c (w ∷ stack) s) (standing g l next c (w ∷ stack) s)) same
          ∙ none c
      by c false e = ap (λ yes. allocate_if yes (code g l) ((w + more_elements terminator) * size) stack (frame g l next c (w ∷ stack) s) (standing g l next c (w ∷ stack) s)) e

  -- no element is asked for
  none_runs : (next : ℕ) (stack : List ℕ) (s : meaning.State) (terminator : Terminator) (size : ℕ) (z : ℤ) → IsNumber z → is_positive z ≡ false → Here g l next (word z ∷ stack) s → slice_get (code g l).ops next ≡ Some (allocation_code terminator size) → length stack < (code g l).stack → Evaluates g l (next + 1) stack (Gives Null s)
  none_runs next stack s terminator size z number none here at room =
      let w = word z in
      let no : is_positive (signed w) ≡ false = ap is_positive (signed-word z number) ∙ none in
      (pushes g l next (w ∷ stack) s (allocation_code terminator size) 0 stack here at room (λ c. act_is terminator size next c w stack s ∙ ap (λ yes. allocate_if yes (code g l) ((w + more_elements terminator) * size) stack (frame g l next c (w ∷ stack) s) (standing g l next c (w ∷ stack) s)) no), tt)

  count_runs : (next : ℕ) (stack : List ℕ) (s : meaning.State) (terminator : Terminator) (k : ℕ) (element : List Initial) (refused : Bool) → IsElement element → IsNumber (pos (suc k))
      → is_refused g.settings.trusted (counter_behind first_offset s.blocks) (made_elements (is_terminated terminator) (before_zero terminator (suc k)) * element_size element) ≡ refused
      → Here g l next (word (pos (suc k)) ∷ stack) s → slice_get (code g l).ops next ≡ Some (allocation_code terminator (element_size element)) → length stack < (code g l).stack
      → Evaluates g l (next + 1) stack (made_if refused (is_terminated terminator) (before_zero terminator (suc k)) element s)
  count_runs next stack s terminator k element refused is number test here at room = by refused test
    where
      w : ℕ
      w = word (pos (suc k))

      count : ℕ
      count = before_zero terminator (suc k)

      size : ℕ
      size = made_elements (is_terminated terminator) count * element_size element

      known : (refused : Bool) → is_refused g.settings.trusted (counter_behind first_offset s.blocks) size ≡ refused → is_refused g.settings.trusted (end_from first_offset (shapes s.blocks)) size ≡ refused
      known refused test = ap (λ c. is_refused g.settings.trusted c size) (sym (counter_is first_offset s.blocks)) ∙ test

      some : is_positive (signed w) ≡ true
      some = ap is_positive (signed-word (pos (suc k)) number) ∙ above_none k

      by : (refused : Bool) → is_refused g.settings.trusted (counter_behind first_offset s.blocks) size ≡ refused → Evaluates g l (next + 1) stack (made_if refused (is_terminated terminator) count element s)
      by true test = refused_runs next stack s terminator (element_size element) size w (bytes_are terminator k element number) (known true test) here at room
      by false test = block_runs next stack s terminator count element is w some (bytes_are terminator k element number) (known false test) here at room

  -- a new block of so many elements, whose number lies on the stack
  pub allocation_runs : (next : ℕ) (stack : List ℕ) (s : meaning.State) (terminator : Terminator) (n : ℤ) (element : List Initial) → IsElement element → IsNumber n → Here g l next (word n ∷ stack) s → slice_get (code g l).ops next ≡ Some (allocation_code terminator (element_size element)) → length stack < (code g l).stack → Evaluates g l (next + 1) stack (allocated g.settings.trusted terminator element n s)
  allocation_runs next stack s terminator (pos zero) element is number here at room = none_runs next stack s terminator (element_size element) (pos 0) number refl here at room
  allocation_runs next stack s terminator (pos (suc k)) element is number here at room =
      count_runs next stack s terminator k element (is_refused g.settings.trusted (counter_behind first_offset s.blocks) (made_elements (is_terminated terminator) (before_zero terminator (suc k)) * element_size element)) is number refl here at room
  allocation_runs next stack s terminator (negsuc k) element is number here at room = none_runs next stack s terminator (element_size element) (negsuc k) number refl here at room
