-- The bytes of a memory in which blocks stand, and where the word of a cell lies among them.
use Rattle.std.proofs.Common.{◌≡◌, ℕ, zero, suc, ◌+◌, ◌-◌, ◌≤◌, List, [], ◌∷◌, ◌++◌, length, map, replicate, Some, refl, sym, ap, ◌∙◌, subst, arith, append_assoc, length-append}
use Rattle.std.specs.Prelude.{slice_get, slice_set, sum, flat_map}
use Rattle.std.specs.List.{AllByRecursion}
use Rattle.std.proofs.lemmas.List.{length-replicate}
use Rattle.flat_bytes.specs.Blocks.{first_offset, grown, rounded_up}
use Rattle.code_words.specs.Runs.{spread}
use Rattle.ckc_core.specs.States.{Value, Cell, Block, Shape, strides, shape, shapes}
use Rattle.ckc_core.specs.Steps.{is_char}
use Rattle.lowering.specs.Images.{width_if, word_bytes_if, padded}
use Rattle.lowering.specs.Correct.{size_of, offset_from, word_of, bytes_of, block_bytes}
use Rattle.lowering.proofs.Shapes.{sum_cons, bytes_before}
use Rattle.lowering.proofs.Bytes.{length_word}

-- a cell has room for its word
abbrev pub HasRoom : Cell → Type 0
HasRoom c = width_if (is_char c.type) ≤ c.stride

abbrev pub HasRooms : Block → Type 0
HasRooms b = AllByRecursion HasRoom b.cells

-- a block where the cell of a number holds another value
abbrev pub with_cell : Block → ℕ → Cell → Value → Block
with_cell b number c v = record b { cells = slice_set b.cells number (record c { value = v }) }

module _ (base : ℕ) (all : List Shape) where
  -- the bytes of a value in a cell of a type
  abbrev pub value_bytes : Cell → Value → List ℕ
  value_bytes c v = word_bytes_if (is_char c.type) (word_of base all v)

  abbrev cells_bytes : List Cell → List ℕ
  cells_bytes cells = flat_map (bytes_of base all) cells

  -- the whole memory, with so many zeros behind the blocks
  abbrev pub memory_bytes : List ℕ → List Block → List ℕ
  memory_bytes tail blocks = replicate first_offset 0 ++ spread (map (block_bytes base all) blocks) ++ tail

  length_cell : (c : Cell) → HasRoom c → length (bytes_of base all c) ≡ c.stride
  length_cell c room =
      let w = length_word (is_char c.type) (word_of base all c.value) in
      let pad = length-replicate {A = ℕ} (c.stride - length (value_bytes c c.value)) 0 in
      omega (arith, w, pad, length-append (value_bytes c c.value) (replicate (c.stride - length (value_bytes c c.value)) 0))

  length_cells : (cells : List Cell) → AllByRecursion HasRoom cells → length (cells_bytes cells) ≡ sum (strides cells)
  length_cells [] rooms = refl
  length_cells (c ∷ cells) rooms = omega (arith, length-append (bytes_of base all c) (cells_bytes cells), length_cell c rooms.0, length_cells cells rooms.1, sum_cons c.stride (strides cells))

  pub length_block : (b : Block) → HasRooms b → length (block_bytes base all b) ≡ size_of (shape b)
  length_block b rooms = length_cells b.cells rooms

  -- the word of a cell lies between two parts that don't depend on its value
  pub record CellSeam (cells : List Cell) (number : ℕ) (c : Cell) : Type 0 where
    pub pre : List ℕ
    pub post : List ℕ
    pub at : length pre ≡ bytes_before (strides cells) number
    pub now : cells_bytes cells ≡ pre ++ (value_bytes c c.value ++ post)
    pub new : (v : Value) → cells_bytes (slice_set cells number (record c { value = v })) ≡ pre ++ (value_bytes c v ++ post)

  split_cell : (c : Cell) (v : Value) (rest : List ℕ) → padded c.stride (value_bytes c v) ++ rest ≡ value_bytes c v ++ (replicate (c.stride - width_if (is_char c.type)) 0 ++ rest)
  split_cell c v rest =
      append_assoc (value_bytes c v) (replicate (c.stride - length (value_bytes c v)) 0) rest
      ∙ ap (λ n. value_bytes c v ++ (replicate (c.stride - n) 0 ++ rest)) (length_word (is_char c.type) (word_of base all v))

  cell_seam : (cells : List Cell) (number : ℕ) (c : Cell) → AllByRecursion HasRoom cells → slice_get cells number ≡ Some c → CellSeam cells number c
  cell_seam [] number c rooms h = absurd (cc)
  cell_seam (first ∷ cells) zero c rooms h =
      let e : c ≡ first = cc in
      subst (λ x. CellSeam (first ∷ cells) zero x) (sym e)
      (record {
        pre = [];
        post = replicate (first.stride - width_if (is_char first.type)) 0 ++ cells_bytes cells;
        at = refl;
        now = split_cell first first.value (cells_bytes cells);
        new = λ v. split_cell first v (cells_bytes cells);
      })
  cell_seam (first ∷ cells) (suc number) c rooms h =
      let s = cell_seam cells number c rooms.1 h in
      record {
        pre = bytes_of base all first ++ s.pre;
        post = s.post;
        at = omega (arith, length-append (bytes_of base all first) s.pre, length_cell first rooms.0, s.at);
        now = ap (λ l. bytes_of base all first ++ l) s.now ∙ sym (append_assoc (bytes_of base all first) s.pre (value_bytes c c.value ++ s.post));
        new = λ v. ap (λ l. bytes_of base all first ++ l) (s.new v) ∙ sym (append_assoc (bytes_of base all first) s.pre (value_bytes c v ++ s.post));
      }

  -- the zeros between a block and the next one
  abbrev gap : List ℕ → List ℕ
  gap bytes = replicate (rounded_up (length bytes) - length bytes + 16) 0

  module _ (tail : List ℕ) where
    -- the same in the memory, from the first block's offset on
    pub record BlockSeam (offset : ℕ) (blocks : List Block) (block number : ℕ) (b : Block) (c : Cell) : Type 0 where
      pub pre : List ℕ
      pub post : List ℕ
      pub at : offset + length pre ≡ offset_from offset (shapes blocks) block + bytes_before (strides b.cells) number
      pub now : spread (map (block_bytes base all) blocks) ++ tail ≡ pre ++ (value_bytes c c.value ++ post)
      pub new : (v : Value) → spread (map (block_bytes base all) (slice_set blocks block (with_cell b number c v))) ++ tail ≡ pre ++ (value_bytes c v ++ post)

    -- the first block with what follows it, where its word is seen
    split_block : (bytes rest pre word post : List ℕ) (size : ℕ) → bytes ≡ pre ++ (word ++ post) → length bytes ≡ size → ((bytes ++ gap bytes) ++ rest) ++ tail ≡ pre ++ (word ++ (post ++ (replicate (rounded_up size - size + 16) 0 ++ (rest ++ tail))))
    split_block bytes rest pre word post size e long =
        let zeros = replicate (rounded_up size - size + 16) 0 in
        ap (λ n. ((bytes ++ replicate (rounded_up n - n + 16) 0) ++ rest) ++ tail) long
        ∙ append_assoc (bytes ++ zeros) rest tail
        ∙ append_assoc bytes zeros (rest ++ tail)
        ∙ ap (λ l. l ++ (zeros ++ (rest ++ tail))) e
        ∙ append_assoc pre (word ++ post) (zeros ++ (rest ++ tail))
        ∙ ap (λ l. pre ++ l) (append_assoc word post (zeros ++ (rest ++ tail)))

    long_block : (offset : ℕ) (bytes pre : List ℕ) (size : ℕ) → length bytes ≡ size → offset + length ((bytes ++ gap bytes) ++ pre) ≡ grown offset size + length pre
    long_block offset bytes pre size long =
        omega (arith, length-append (bytes ++ gap bytes) pre, length-append bytes (gap bytes), length-replicate {A = ℕ} (rounded_up (length bytes) - length bytes + 16) 0, long)

    pub block_seam : (offset : ℕ) (blocks : List Block) (block number : ℕ) (b : Block) (c : Cell) → AllByRecursion HasRooms blocks → slice_get blocks block ≡ Some b → slice_get b.cells number ≡ Some c → BlockSeam offset blocks block number b c
    block_seam offset [] block number b c rooms there h = absurd (cc)
    block_seam offset (first ∷ blocks) zero number b c rooms there h =
        let e : first ≡ b = cc in
        let s = cell_seam b.cells number c (subst HasRooms e rooms.0) h in
        let size = length s.pre + (width_if (is_char c.type) + length s.post) in
        let rest = spread (map (block_bytes base all) blocks) in
        let long = λ (v : Value). length-append s.pre (value_bytes c v ++ s.post) ∙ ap (λ n. length s.pre + n) (length-append (value_bytes c v) s.post ∙ ap (λ n. n + length s.post) (length_word (is_char c.type) (word_of base all v))) in
        subst (λ x. BlockSeam offset (x ∷ blocks) zero number b c) (sym e)
        (record {
          pre = s.pre;
          post = s.post ++ (replicate (rounded_up size - size + 16) 0 ++ (rest ++ tail));
          at = omega (arith, s.at);
          now = split_block (block_bytes base all b) rest s.pre (value_bytes c c.value) s.post size s.now (ap length s.now ∙ long c.value);
          new = λ v. split_block (block_bytes base all (with_cell b number c v)) rest s.pre (value_bytes c v) s.post size (s.new v) (ap length (s.new v) ∙ long v);
        })
    block_seam offset (first ∷ blocks) (suc block) number b c rooms there h =
        let front = block_bytes base all first ++ gap (block_bytes base all first) in
        let s = block_seam (grown offset (size_of (shape first))) blocks block number b c rooms.1 there h in
        let regroup = λ (rest word : List ℕ) (e : rest ++ tail ≡ s.pre ++ (word ++ s.post)). append_assoc front rest tail ∙ ap (λ l. front ++ l) e ∙ sym (append_assoc front s.pre (word ++ s.post)) in
        record {
          pre = front ++ s.pre;
          post = s.post;
          at = long_block offset (block_bytes base all first) s.pre (size_of (shape first)) (length_block first rooms.0) ∙ s.at;
          now = regroup (spread (map (block_bytes base all) blocks)) (value_bytes c c.value) s.now;
          new = λ v. regroup (spread (map (block_bytes base all) (slice_set blocks block (with_cell b number c v)))) (value_bytes c v) (s.new v);
        }
