-- Places: addresses, loads and stores of cells.
use Rattle.std.proofs.Common.{◌≡◌, ℕ, zero, suc, ◌+◌, ◌-◌, ◌%◌, ◌^◌, ◌<◌, ◌≤◌, Bool, true, false, pos, negsuc, List, [], ◌∷◌, ◌++◌, length, map, replicate, Option, Some, None, refl, sym, ap, ◌∙◌, subst, arith, ⊎_elim, append_assoc, length-append}
use Rattle.std.specs.Prelude.{slice_get, slice_set, nat_lt, nat_le, not, ◌&&◌, ◌==◌}
use Rattle.std.specs.Option.{option_and_then}
use Rattle.std.proofs.lemmas.Bool.{cases_lt}
use Rattle.std.proofs.lemmas.Bool.Decides.{nat_tests}
use Rattle.std.proofs.lemmas.List.{length-map}
use Rattle.act_words.specs.Numbers.{word, signed}
use Rattle.act_words.specs.Arithmetic.{is_zero}
use Rattle.flat_bytes.specs.Blocks.{first_offset}
use Rattle.flat_bytes.specs.Words.{word_at}
use Rattle.pointer_modes.specs.Types.{CType, Int, Char, Struct, Pointer}
use Rattle.ckc_core.specs.declared.program.Site.{Site}
use Rattle.ckc_core.specs.States.{Value, Number, Null, At, Cell, Block, strides, shape, shapes, number_at, cell_in, cell_at, object_block, same_type, has_type}
use Rattle.ckc_core.specs.States as meaning
use Rattle.ckc_core.specs.Steps.{setting_of, value_if, value_in, place_if, place_at, variable_if, variable_at, load_at, truth, same_place, is_char}
use Rattle.check_insertion.specs.ErasedMeaning.{element}
use Rattle.code_words.specs.Table.{act, push, push_some, load, holds}
use Rattle.code_words.specs.Table as table
use Rattle.code_words.specs.declared.op.Op.TheVariants as ops
use Rattle.lowering.specs.Code.{offset_code, offset_size, address_code, load_code}
use Rattle.lowering.specs.Code as codes
use Rattle.check_insertion.specs.Stacks.{offset_stack}
use Rattle.lowering.specs.Images.{width_if}
use Rattle.lowering.specs.Correct.{offset_from}
use Rattle.lowering.specs.Correct as correct
use Rattle.ckc_core.proofs.Numbers.{word_small, word-signed, zero_word}
use Rattle.ckc_core.proofs.Elements.{of_element}
use Rattle.lowering.proofs.Shapes.{begins, bytes_before_le, shape_there, offset_least, block_within, blocks_apart, InBlock, same_offset}
use Rattle.lowering.proofs.Bytes.{word_behind, length_word, word_read}
use Rattle.lowering.proofs.Memory.{with_cell, value_bytes, block_seam}
use Rattle.lowering.proofs.Executions.{Execution, image, variables, word_of, tail, memory_by, memory, IsKept, KeptCell, KeptCells, KeptBlocks, variable_address, rooms_kept}
use Rattle.lowering.proofs.Steps.{HasAt, Leads, Finishes, Layout, code, frame, standing, Here, pushes, here_at, Arrives, Evaluates, Scratch}

-- ---- where a cell stands

-- the cell that begins at a byte of a block
pub record Found (blocks : List Block) (block byte : ℕ) (c : Cell) : Type 0 where
  pub holder : Block
  pub there : slice_get blocks block ≡ Some holder
  pub number : ℕ
  pub starts : number_at (strides holder.cells) byte ≡ Some number
  pub is : slice_get holder.cells number ≡ Some c

numbered : (blocks : List Block) (block byte : ℕ) (c : Cell) (b : Block) (o : Option ℕ) → slice_get blocks block ≡ Some b → number_at (strides b.cells) byte ≡ o → option_and_then (λ number. slice_get b.cells number) o ≡ Some c → Found blocks block byte c
numbered blocks block byte c b None there starts h = absurd (cc)
numbered blocks block byte c b (Some number) there starts h = record { holder = b; there = there; number = number; starts = starts; is = h }

held : (blocks : List Block) (block byte : ℕ) (c : Cell) (o : Option Block) → slice_get blocks block ≡ o → option_and_then (λ b. cell_in b byte) o ≡ Some c → Found blocks block byte c
held blocks block byte c None there h = absurd (cc)
held blocks block byte c (Some b) there h = numbered blocks block byte c b (number_at (strides b.cells) byte) there refl h

pub cell_found : (blocks : List Block) (block byte : ℕ) (c : Cell) → cell_at blocks block byte ≡ Some c → Found blocks block byte c
cell_found blocks block byte c h = held blocks block byte c (slice_get blocks block) refl h

-- so the byte lies in the block
pub in_block : (blocks : List Block) (block byte : ℕ) (c : Cell) → Found blocks block byte c → InBlock (shapes blocks) block byte
in_block blocks block byte c f =
    let row = strides f.holder.cells in
    record {
      found = shape f.holder;
      there = shape_there blocks block f.holder f.there;
      within = omega (arith, begins row byte f.number f.starts, bytes_before_le row f.number);
    }

pub cell_kept : (g : Execution) (blocks : List Block) (block byte : ℕ) (c : Cell) → KeptBlocks g blocks → Found blocks block byte c → KeptCell (shapes blocks) c
cell_kept g blocks block byte c kept f =
    of_element (KeptCell (shapes blocks)) f.holder.cells f.number c (of_element (KeptCells (shapes blocks)) blocks block f.holder kept.cells f.there) f.is

-- the blocks after a write to a cell
pub stored_is : (blocks : List Block) (block byte : ℕ) (c : Cell) (v : Value) → (f : Found blocks block byte c) → meaning.stored blocks block byte v ≡ slice_set blocks block (with_cell f.holder f.number c v)
stored_is blocks block byte c v f = let there = f.there in let starts = f.starts in let is = f.is in rw (there, starts, is) refl

-- ---- words of values

-- what is kept has a word of 32 bits, and a place isn't null
pub kept_small : (g : Execution) (s : meaning.State) (v : Value) → KeptBlocks g s.blocks → IsKept s v → word_of g s v < 2 ^ 32
kept_small g s (Number z) blocks kept = word_small z kept
kept_small g s Null blocks kept = omega arith
kept_small g s (At block byte) blocks kept =
    omega (arith, block_within first_offset (shapes s.blocks) block kept.found kept.there, kept.within, blocks.fits, g.allowed.most_trusted, g.allowed.most_base)

not_not : (b : Bool) → b ≡ not (not b)
not_not true = refl
not_not false = refl

pub truth_word : (g : Execution) (s : meaning.State) (v : Value) → IsKept s v → (word_of g s v == 0) ≡ not (truth v)
truth_word g s (Number z) kept = zero_word z kept ∙ not_not (is_zero z)
truth_word g s Null kept = refl
truth_word g s (At block byte) kept = let least = offset_least first_offset (shapes s.blocks) block in grind (arith, nat_tests)

-- places of blocks in order have addresses in order
addresses_lt : (g : Execution) (s : meaning.State) (b c b' c' : ℕ) → IsKept s (At b c) → IsKept s (At b' c') → b < b' → word_of g s (At b c) < word_of g s (At b' c')
addresses_lt g s b c b' c' h h' lt = omega (arith, blocks_apart first_offset (shapes s.blocks) b b' h.found h'.found h.there h'.there lt, h.within)

same_address : (g : Execution) (s : meaning.State) (b c b' c' : ℕ) → IsKept s (At b c) → IsKept s (At b' c') → (word_of g s (At b c) == word_of g s (At b' c')) ≡ (b == b' && c == c')
same_address g s b c b' c' h h' = ⊎_elim
    (λ lt. let a = addresses_lt g s b c b' c' h h' lt in grind (arith, nat_tests))
    (λ ge. ⊎_elim
    (λ gt. let a = addresses_lt g s b' c' b c h' h gt in grind (arith, nat_tests))
    (λ le.
    let e : b ≡ b' = omega arith in
    let same = ap (offset_from first_offset (shapes s.blocks)) e in
    ⊎_elim
    (λ lt. let a : word_of g s (At b c) < word_of g s (At b' c') = omega (arith, same) in grind (arith, nat_tests))
    (λ ge'. ⊎_elim
    (λ gt. let a : word_of g s (At b' c') < word_of g s (At b c) = omega (arith, same) in grind (arith, nat_tests))
    (λ le'. let f : c ≡ c' = omega arith in let a : word_of g s (At b c) ≡ word_of g s (At b' c') = omega (arith, same) in grind (arith, nat_tests))
    (cases_lt c' c))
    (cases_lt c c'))
    (cases_lt b' b))
    (cases_lt b b')

-- the words of two places are the same where the places are
pub same_words : (g : Execution) (s : meaning.State) (v w : Value) (test : Bool) → IsKept s v → IsKept s w → same_place v w ≡ Some test → (word_of g s v == word_of g s w) ≡ test
same_words g s (Number a) w test hv hw h = absurd (cc)
same_words g s Null (Number a) test hv hw h = absurd (cc)
same_words g s Null Null test hv hw h = cc
same_words g s Null (At b c) test hv hw h =
    let e : false ≡ test = cc in
    let least = offset_least first_offset (shapes s.blocks) b in
    let no : (0 == word_of g s (At b c)) ≡ false = grind (arith, nat_tests) in
    no ∙ e
same_words g s (At b c) (Number a) test hv hw h = absurd (cc)
same_words g s (At b c) Null test hv hw h = let e : false ≡ test = cc in truth_word g s (At b c) hv ∙ e
same_words g s (At b c) (At b' c') test hv hw h = let e : (b == b' && c == c') ≡ test = cc in same_address g s b c b' c' hv hw ∙ e

-- ---- file-level variables

exists_at : {X : Type 0} (xs : List X) (k : ℕ) → k < length xs → (x : X) × (slice_get xs k ≡ Some x)
exists_at [] k h = absurd (omega arith)
exists_at (x ∷ xs) zero h = (x, refl)
exists_at (x ∷ xs) (suc k) h = exists_at xs k (omega arith)

-- the block of a variable stands where the code finds it
pub variable_found : (g : Execution) (blocks : List Block) (k : ℕ) → KeptBlocks g blocks → k < length g.program.objects → table.address_of (image g) g.settings.base k ≡ Some (g.settings.base + offset_from first_offset (shapes blocks) k)
variable_found g blocks k kept h =
    let many : k < length (variables g) = omega (arith, length-map (map object_block g.program.objects) shape, length-map g.program.objects object_block) in
    let s = exists_at (variables g) k many in
    variable_address g k s.0 s.1 ∙ ap (λ n. Some (g.settings.base + n)) (sym (same_offset (variables g) (shapes blocks) k s.0 kept.grows s.1))

module _ (g : Execution) (l : Layout g) where
  -- ---- addresses on the stack

  -- the code comes to a place with its address on the stack
  abbrev pub Placed : ℕ → List ℕ → ℕ × ℕ → meaning.State → Type 0
  Placed next stack place s = Arrives g l next stack (At place.0 place.1) s

  -- so many bytes behind an address
  pub offset_runs : (next : ℕ) (stack : List ℕ) (s : meaning.State) (a offset : ℕ) → a + offset < 2 ^ 32 → Here g l next (a ∷ stack) s → HasAt (code g l).ops next (offset_code offset) → length stack + offset_stack offset ≤ (code g l).stack → Here g l (next + offset_size offset) ((a + offset) ∷ stack) s
  offset_runs next stack s a zero small here at room =
      let n : next ≡ next + 0 = omega arith in
      let m : a ≡ a + 0 = omega arith in
      subst (λ k. Here g l (next + 0) (k ∷ stack) s) m (here_at g l next (next + 0) (a ∷ stack) s n here)
  offset_runs next stack s a (suc n) small here at room =
      let w : word (signed (suc n)) ≡ suc n = word-signed (suc n) (omega arith) in
      let first = pushes g l next (a ∷ stack) s (ops.Const (signed (suc n))) (word (signed (suc n))) (a ∷ stack) here at.0 (omega arith) (λ scratch. refl) in
      let second = pushes g l (next + 1) (word (signed (suc n)) ∷ (a ∷ stack)) s ops.WrapAdd ((a + word (signed (suc n))) % 2 ^ 32) stack first at.1.0 (omega arith) (λ scratch. refl) in
      let sum_is : (a + word (signed (suc n))) % 2 ^ 32 ≡ a + suc n = omega arith in
      let place : next + 1 + 1 ≡ next + 2 = omega arith in
      subst (λ k. Here g l (next + 2) (k ∷ stack) s) sum_is (here_at g l (next + 1 + 1) (next + 2) _ s place second)

  -- so many bytes behind the address of a byte of a block, where a cell begins
  pub behind_runs : (next : ℕ) (stack : List ℕ) (s : meaning.State) (site : Option Site) (block byte offset : ℕ) (o : Option Cell) → cell_at s.blocks block (byte + offset) ≡ o → Here g l next (word_of g s (At block byte) ∷ stack) s → HasAt (code g l).ops next (offset_code offset) → length stack + offset_stack offset ≤ (code g l).stack → Leads (Placed (next + offset_size offset) stack) (Finishes g) (place_if o site block (byte + offset) s)
  behind_runs next stack s site block byte offset None is here at room = tt
  behind_runs next stack s site block byte offset (Some c) is here at room =
      let kept = in_block s.blocks block (byte + offset) c (cell_found s.blocks block (byte + offset) c is) in
      let same : word_of g s (At block byte) + offset ≡ word_of g s (At block (byte + offset)) = omega arith in
      let small : word_of g s (At block byte) + offset < 2 ^ 32 = omega (arith, same, kept_small g s (At block (byte + offset)) here.kept.blocks kept) in
      (subst (λ k. Here g l (next + offset_size offset) (k ∷ stack) s) same (offset_runs next stack s (word_of g s (At block byte)) offset small here at room), kept)

  -- the address of a byte of a variable
  pub direct_runs : (next : ℕ) (stack : List ℕ) (s : meaning.State) (object offset : ℕ) → object < length g.program.objects → Here g l next stack s → HasAt (code g l).ops next (address_code object offset) → length stack + offset_stack offset ≤ (code g l).stack → Leads (Placed (next + (1 + offset_size offset)) stack) (Finishes g) (place_at None object offset s)
  direct_runs next stack s object offset low here at room =
      let a = g.settings.base + offset_from first_offset (shapes s.blocks) object in
      let fits : length stack < (code g l).stack = omega (arith, stack_least offset) in
      let first = pushes g l next stack s (ops.BlockAddress object) a stack here at.0 fits (λ scratch. ap (λ o. push_some (code g l) o stack (frame g l next scratch stack s) (standing g l next scratch stack s)) (variable_found g s.blocks object here.kept.blocks low)) in
      let begin : a ≡ word_of g s (At object 0) = omega arith in
      let place : next + 1 + offset_size offset ≡ next + (1 + offset_size offset) = omega arith in
      let zero_behind : 0 + offset ≡ offset = omega arith in
      subst (λ n. Leads (Placed n stack) (Finishes g) (place_at None object offset s)) place
      (subst (λ byte. Leads (Placed (next + 1 + offset_size offset) stack) (Finishes g) (place_at None object byte s)) zero_behind
      (behind_runs (next + 1) stack s None object 0 offset (cell_at s.blocks object (0 + offset)) refl (subst (λ k. Here g l (next + 1) (k ∷ stack) s) begin first) at.1 room))
    where
      stack_least : (n : ℕ) → 1 ≤ offset_stack n
      stack_least zero = omega arith
      stack_least (suc n) = omega arith

  variable_by : (next : ℕ) (stack : List ℕ) (s : meaning.State) (object offset : ℕ) (low : Bool) → nat_lt object (length g.program.objects) ≡ low → Here g l next stack s → HasAt (code g l).ops next (address_code object offset) → length stack + offset_stack offset ≤ (code g l).stack → Leads (Placed (next + (1 + offset_size offset)) stack) (Finishes g) (variable_if low object offset s)
  variable_by next stack s object offset false test here at room = tt
  variable_by next stack s object offset true test here at room = let low : object < length g.program.objects = grind (arith, nat_tests) in direct_runs next stack s object offset low here at room

  pub variable_runs : (next : ℕ) (stack : List ℕ) (s : meaning.State) (object offset : ℕ) → Here g l next stack s → HasAt (code g l).ops next (address_code object offset) → length stack + offset_stack offset ≤ (code g l).stack → Leads (Placed (next + (1 + offset_size offset)) stack) (Finishes g) (variable_at (setting_of g.program g.settings) object offset s)
  variable_runs next stack s object offset here at room = variable_by next stack s object offset (nat_lt object (length g.program.objects)) refl here at room

  -- the address of an element, behind the pointer's word
  pub element_runs : (next : ℕ) (stack : List ℕ) (s : meaning.State) (offset : ℕ) (v : Value) → Arrives g l next stack v s → HasAt (code g l).ops next (offset_code offset) → length stack + offset_stack offset ≤ (code g l).stack → Leads (Placed (next + offset_size offset) stack) (Finishes g) (element offset v s)
  element_runs next stack s offset (Number z) x at room = tt
  element_runs next stack s offset Null x at room = tt
  element_runs next stack s offset (At block byte) x at room = behind_runs next stack s None block byte offset (cell_at s.blocks block (byte + offset)) refl x.0 at room

  -- ---- loads

  -- where a cell's word lies in the memory
  pub record Seam (blocks : List Block) (block byte : ℕ) (c : Cell) : Type 0 where
    pub pre : List ℕ
    pub post : List ℕ
    pub at : offset_from first_offset (shapes blocks) block + byte ≡ length pre
    pub now : (memory g blocks).bytes ≡ pre ++ (value_bytes g.settings.base (shapes blocks) c c.value ++ post)
    pub new : (v : Value) → (memory_by g (shapes blocks) (meaning.stored blocks block byte v)).bytes ≡ pre ++ (value_bytes g.settings.base (shapes blocks) c v ++ post)

  pub seam : (blocks : List Block) (block byte : ℕ) (c : Cell) → KeptBlocks g blocks → Found blocks block byte c → Seam blocks block byte c
  seam blocks block byte c kept f =
      let base = g.settings.base in
      let all = shapes blocks in
      let zeros = replicate {A = ℕ} first_offset 0 in
      let s = block_seam base all (tail g all) first_offset blocks block f.number f.holder c (rooms_kept all blocks kept.cells) f.there f.is in
      record {
        pre = zeros ++ s.pre;
        post = s.post;
        at = omega (arith, begins (strides f.holder.cells) byte f.number f.starts, s.at, length-append zeros s.pre);
        now = append_assoc zeros _ (tail g all) ∙ ap (λ l. zeros ++ l) s.now ∙ sym (append_assoc zeros s.pre (value_bytes base all c c.value ++ s.post));
        new = λ v.
            ap (λ bs. (memory_by g all bs).bytes) (stored_is blocks block byte c v f)
            ∙ append_assoc zeros _ (tail g all) ∙ ap (λ l. zeros ++ l) (s.new v) ∙ sym (append_assoc zeros s.pre (value_bytes base all c v ++ s.post));
      }

  -- the cell's bytes are bytes of the memory
  pub seam_inside : (blocks : List Block) (block byte : ℕ) (c : Cell) → Seam blocks block byte c → holds (memory g blocks) (g.settings.base + (offset_from first_offset (shapes blocks) block + byte)) (width_if (is_char c.type)) ≡ true
  seam_inside blocks block byte c s =
      let a = g.settings.base + (offset_from first_offset (shapes blocks) block + byte) in
      let all = shapes blocks in
      let w = value_bytes g.settings.base all c c.value in
      let long : length (memory g blocks).bytes ≡ length s.pre + (width_if (is_char c.type) + length s.post) =
      ap length s.now ∙ length-append s.pre (w ++ s.post) ∙ ap (λ n. length s.pre + n) (length-append w s.post ∙ ap (λ n. n + length s.post) (length_word (is_char c.type) (correct.word_of g.settings.base all c.value))) in
      let low : nat_le g.settings.base a ≡ true = let e = s.at in grind (arith, nat_tests) in
      let high : nat_le (a + width_if (is_char c.type)) (g.settings.base + length (memory g blocks).bytes) ≡ true = let e = s.at in grind (arith, nat_tests) in
      rw (low, high) refl

  -- a value of a cell's type fits in the cell
  pub typed_small : (s : meaning.State) (type : CType) (v : Value) → KeptBlocks g s.blocks → has_type type v ≡ true → IsKept s v → word_of g s v < 256 ^ width_if (is_char type)
  typed_small s Int v blocks typed kept = kept_small g s v blocks kept
  typed_small s Char (Number (pos n)) blocks typed kept = grind (arith, nat_tests)
  typed_small s Char (Number (negsuc n)) blocks typed kept = absurd (cc)
  typed_small s Char Null blocks typed kept = absurd (cc)
  typed_small s Char (At block byte) blocks typed kept = absurd (cc)
  typed_small s (Struct n) v blocks typed kept = kept_small g s v blocks kept
  typed_small s (Pointer mode kind target) v blocks typed kept = kept_small g s v blocks kept

  load_act : (char : Bool) (next : ℕ) (scratch : Scratch) (a : ℕ) (stack : List ℕ) (s : meaning.State) → act (image g) g.settings (code g l) (codes.load_if char) (frame g l next scratch (a ∷ stack) s) (standing g l next scratch (a ∷ stack) s) ≡ load (code g l) (width_if char) a stack (frame g l next scratch (a ∷ stack) s) (standing g l next scratch (a ∷ stack) s)
  load_act true next scratch a stack s = refl
  load_act false next scratch a stack s = refl

  pub same_char : (a b : CType) → same_type a b ≡ true → is_char a ≡ is_char b
  same_char Int Int h = refl
  same_char Int Char h = absurd (cc)
  same_char Int (Struct n) h = refl
  same_char Int (Pointer m k t) h = refl
  same_char Char Int h = absurd (cc)
  same_char Char Char h = refl
  same_char Char (Struct n) h = absurd (cc)
  same_char Char (Pointer m k t) h = absurd (cc)
  same_char (Struct n) Int h = refl
  same_char (Struct n) Char h = absurd (cc)
  same_char (Struct n) (Struct n') h = refl
  same_char (Struct n) (Pointer m k t) h = refl
  same_char (Pointer m k t) Int h = refl
  same_char (Pointer m k t) Char h = absurd (cc)
  same_char (Pointer m k t) (Struct n) h = refl
  same_char (Pointer m k t) (Pointer m' k' t') h = refl

  load_typed : (next : ℕ) (stack : List ℕ) (s : meaning.State) (type : CType) (site : Option Site) (block byte : ℕ) (c : Cell) (same : Bool) → same_type type c.type ≡ same → Found s.blocks block byte c → Placed next stack (block, byte) s → slice_get (code g l).ops next ≡ Some (load_code type) → length stack < (code g l).stack → Evaluates g l (next + 1) stack (value_if same site c.value s)
  load_typed next stack s type site block byte c false test f placed at room = tt
  load_typed next stack s type site block byte c true test f placed at room =
      let a = word_of g s (At block byte) in
      let char = same_char type c.type test in
      let width = width_if (is_char c.type) in
      let here = placed.0 in
      let sm = seam s.blocks block byte c here.kept.blocks f in
      let kept = cell_kept g s.blocks block byte c here.kept.blocks f in
      let behind : a - g.settings.base ≡ length sm.pre + 0 = omega (arith, sm.at) in
      let word_is : word_at width (memory g s.blocks).bytes (a - g.settings.base) ≡ word_of g s c.value =
      ap (λ n. word_at width (memory g s.blocks).bytes n) behind
      ∙ ap (λ bytes. word_at width bytes (length sm.pre + 0)) sm.now
      ∙ word_behind width sm.pre (value_bytes g.settings.base (shapes s.blocks) c c.value ++ sm.post) 0
      ∙ word_read (is_char c.type) (word_of g s c.value) sm.post (typed_small s c.type c.value here.kept.blocks kept.typed kept.value) in (
        pushes g l next (a ∷ stack) s (load_code type) (word_of g s c.value) stack here at room
            (λ scratch.
            let t = standing g l next scratch (a ∷ stack) s in
            let fr = frame g l next scratch (a ∷ stack) s in
            load_act (is_char type) next scratch a stack s
            ∙ ap (λ b. load (code g l) (width_if b) a stack fr t) char
            ∙ ap (λ yes. table.load_if yes (code g l) width a stack fr t) (seam_inside s.blocks block byte c sm)
            ∙ ap (λ w. push (code g l) w stack fr t) word_is),
        kept.value,
      )

  load_found : (next : ℕ) (stack : List ℕ) (s : meaning.State) (type : CType) (site : Option Site) (block byte : ℕ) (o : Option Cell) → cell_at s.blocks block byte ≡ o → Placed next stack (block, byte) s → slice_get (code g l).ops next ≡ Some (load_code type) → length stack < (code g l).stack → Evaluates g l (next + 1) stack (value_in type site o s)
  load_found next stack s type site block byte None h placed at room = tt
  load_found next stack s type site block byte (Some c) h placed at room =
      load_typed next stack s type site block byte c (same_type type c.type) refl (cell_found s.blocks block byte c h) placed at room

  pub load_runs : (next : ℕ) (stack : List ℕ) (s : meaning.State) (type : CType) (site : Option Site) (place : ℕ × ℕ) → Placed next stack place s → slice_get (code g l).ops next ≡ Some (load_code type) → length stack < (code g l).stack → Evaluates g l (next + 1) stack (load_at type site place s)
  load_runs next stack s type site place placed at room = load_found next stack s type site place.0 place.1 (cell_at s.blocks place.0 place.1) refl placed at room
