-- What is put into cells, local variables and the slot of a value.
use Rattle.std.proofs.Common.{◌≡◌, ℕ, zero, suc, ◌+◌, ◌-◌, ◌<◌, ◌≤◌, Bool, true, false, ℤ, List, [], ◌∷◌, ◌++◌, length, map, Option, Some, None, refl, sym, ap, ◌∙◌, subst, arith, length-append}
use Rattle.std.specs.Prelude.{slice_get, slice_set, nat_lt, ◌&&◌}
use Rattle.std.specs.List.{AllByRecursion}
use Rattle.std.proofs.lemmas.List.{length-map}
use Rattle.std.proofs.lemmas.Bool.{and_parts}
use Rattle.std.proofs.lemmas.Bool.Decides.{nat_tests}
use Rattle.flat_bytes.specs.Blocks.{first_offset}
use Rattle.flat_bytes.specs.Words.{with_word}
use Rattle.pointer_modes.specs.Types.{CType, Int, Char, Struct, Pointer}
use Rattle.ckc_core.specs.declared.program.Site.{Site}
use Rattle.ckc_core.specs.States.{Value, Number, Null, At, Cell, Block, Shape, Local, Grows, strides, shape, shapes, cell_at, same_type, has_type}
use Rattle.ckc_core.specs.States as meaning
use Rattle.ckc_core.specs.Steps.{store_if, store_over, store_at, leaves_zero, set_over, set_local, is_char, kept_if}
use Rattle.check_insertion.specs.declared.erased.Check.{Check}
use Rattle.check_insertion.specs.Erased as erased
use Rattle.check_insertion.specs.ErasedMeaning.{step_to, pass, reached}
use Rattle.ckc_core.specs.Steps as meanings
use Rattle.ckc_core.specs.Outcome.{and_then}
use Rattle.code_words.specs.Table.{Runs, Goes, act, store, push_some, set_if}
use Rattle.code_words.specs.Table as table
use Rattle.code_words.specs.declared.op.Op.TheVariants as ops
use Rattle.lowering.specs.Code.{Places, store_code, through_code, through_size, byte_code, byte_size}
use Rattle.lowering.specs.Code as codes
use Rattle.check_insertion.specs.Stacks.{offset_stack}
use Rattle.ckc_core.proofs.Elements.{of_element}
use Rattle.lowering.specs.Images.{width_if}
use Rattle.lowering.proofs.Shapes.{end_from, IsKeptBy, grows_none, grows_on, kept_grows, word_grows}
use Rattle.lowering.proofs.Bytes.{with_word_behind, word_written}
use Rattle.lowering.proofs.Memory.{with_cell, value_bytes}
use Rattle.lowering.proofs.Executions.{Execution, image, variables, word_of, memory_by, memory, state_by, IsKept, AreKeptBy, KeptCell, KeptCells, KeptBlocks}
use Rattle.lowering.proofs.Steps.{HasAt, has_front, has_back, leads_on, Finishes, Layout, Holds, code, frame_by, frame, standing, Kept, Here, moved, one_move, fetched, here_at, Arrives, Evaluates, Scratch, words}
use Rattle.lowering.proofs.Sizes.{length_through}
use Rattle.lowering.proofs.Expressions.{index_below, low_byte_runs}
use Rattle.lowering.proofs.Places.{Found, cell_found, stored_is, Placed, seam, seam_inside, typed_small, same_char}
use Rattle.lowering.proofs.Accesses.{index_pile, IsIndex, SmallChecks, most_words, through_runs}
use Rattle.lowering.proofs.Calls.{FlowsTo, Affects, ArePlaces}

-- ---- lists

pub all_set : {X : Type 0} (P : X → Type 0) (xs : List X) (i : ℕ) (x : X) → AllByRecursion P xs → P x → AllByRecursion P (slice_set xs i x)
all_set P [] i x all h = tt
all_set P (y ∷ xs) zero x all h = (h, all.1)
all_set P (y ∷ xs) (suc i) x all h = (all.0, all_set P xs i x all.1 h)

pub length_set : {X : Type 0} (xs : List X) (i : ℕ) (x : X) → length (slice_set xs i x) ≡ length xs
length_set [] i x = refl
length_set (y ∷ xs) zero x = refl
length_set (y ∷ xs) (suc i) x = ap suc (length_set xs i x)

mapped_set : {X Y : Type 0} (f : X → Y) (xs : List X) (ys : List Y) (i : ℕ) (x : X) → i < length xs → slice_set (map f xs ++ ys) i (f x) ≡ map f (slice_set xs i x) ++ ys
mapped_set f [] ys i x h = absurd (omega arith)
mapped_set f (y ∷ xs) ys zero x h = refl
mapped_set f (y ∷ xs) ys (suc i) x h = ap (λ l. f y ∷ l) (mapped_set f xs ys i x (omega arith))

last_set : {X Y : Type 0} (f : X → Y) (xs : List X) (old new : Y) (ys : List Y) → slice_set (map f xs ++ old ∷ ys) (length xs) new ≡ map f xs ++ new ∷ ys
last_set f [] old new ys = refl
last_set f (x ∷ xs) old new ys = ap (λ l. f x ∷ l) (last_set f xs old new ys)

last_there : {X Y : Type 0} (f : X → Y) (xs : List X) (y : Y) (ys : List Y) → slice_get (map f xs ++ y ∷ ys) (length xs) ≡ Some y
last_there f [] y ys = refl
last_there f (x ∷ xs) y ys = last_there f xs y ys

-- an element that is mapped to the same leaves what a list is mapped to
map_set : {X Y : Type 0} (f : X → Y) (xs : List X) (i : ℕ) (old new : X) → slice_get xs i ≡ Some old → f new ≡ f old → map f (slice_set xs i new) ≡ map f xs
map_set f [] i old new h e = refl
map_set f (x ∷ xs) zero old new h e = let same : x ≡ old = cc in ap (λ y. y ∷ map f xs) (e ∙ ap f (sym same))
map_set f (x ∷ xs) (suc i) old new h e = ap (λ l. f x ∷ l) (map_set f xs i old new h e)

-- ---- types

same_typed : (a b : CType) (v : Value) → same_type a b ≡ true → has_type a v ≡ true → has_type b v ≡ true
same_typed Int Int v h t = t
same_typed Int Char v h t = absurd (cc)
same_typed Int (Struct n) v h t = absurd (cc)
same_typed Int (Pointer m k e) v h t = absurd (cc)
same_typed Char Int v h t = absurd (cc)
same_typed Char Char v h t = t
same_typed Char (Struct n) v h t = absurd (cc)
same_typed Char (Pointer m k e) v h t = absurd (cc)
same_typed (Struct n) b v h t = absurd (cc)
same_typed (Pointer m k e) Int v h t = absurd (cc)
same_typed (Pointer m k e) Char v h t = absurd (cc)
same_typed (Pointer m k e) (Struct n) v h t = absurd (cc)
same_typed (Pointer m k e) (Pointer m' k' e') (Number z) h t = absurd (cc)
same_typed (Pointer m k e) (Pointer m' k' e') Null h t = refl
same_typed (Pointer m k e) (Pointer m' k' e') (At block cell) h t = refl

-- ---- blocks with another value in a cell

abbrev shaped : Block → List CType → List ℕ → Shape
shaped b types strides = record { types = types; strides = strides; zero_ended = b.zero_ended; is_sealed = b.is_sealed }

-- the block keeps its shape
shape_set : (b : Block) (number : ℕ) (c : Cell) (v : Value) → slice_get b.cells number ≡ Some c → shape (with_cell b number c v) ≡ shape b
shape_set b number c v h =
    let new : Cell = record c { value = v } in
    ap (λ types. shaped b types (strides (slice_set b.cells number new))) (map_set (λ (x : Cell). x.type) b.cells number c new h refl)
    ∙ ap (shaped b (map (λ (x : Cell). x.type) b.cells)) (map_set (λ (x : Cell). x.stride) b.cells number c new h refl)

-- and all blocks keep theirs
shapes_stored : (blocks : List Block) (block byte : ℕ) (c : Cell) (v : Value) → Found blocks block byte c → shapes (meaning.stored blocks block byte v) ≡ shapes blocks
shapes_stored blocks block byte c v f =
    ap shapes (stored_is blocks block byte c v f) ∙ map_set shape blocks block f.holder (with_cell f.holder f.number c v) f.there (shape_set f.holder f.number c v f.is)

-- the value is one of the cell's type
kept_stored : (g : Execution) (blocks : List Block) (block byte : ℕ) (c : Cell) (v : Value) → KeptBlocks g blocks → Found blocks block byte c → has_type c.type v ≡ true → IsKeptBy (shapes blocks) v → KeptBlocks g (meaning.stored blocks block byte v)
kept_stored g blocks block byte c v kept f typed value =
    let all = shapes blocks in
    let after = meaning.stored blocks block byte v in
    let same = shapes_stored blocks block byte c v f in
    let row = of_element (KeptCells all) blocks block f.holder kept.cells f.there in
    let old = of_element (KeptCell all) f.holder.cells f.number c row f.is in
    let new : KeptCell all (record c { value = v }) = record { room = old.room; typed = typed; value = value } in
    let cells = all_set (KeptCells all) blocks block (with_cell f.holder f.number c v) kept.cells (all_set (KeptCell all) f.holder.cells f.number (record c { value = v }) row new) in
    record {
      cells = subst (λ a. AllByRecursion (KeptCells a) after) (sym same) (subst (AllByRecursion (KeptCells all)) (sym (stored_is blocks block byte c v f)) cells);
      fits = subst (λ a. end_from first_offset a ≤ g.settings.trusted) (sym same) kept.fits;
      grows = subst (Grows (variables g)) (sym same) kept.grows;
    }

module _ (g : Execution) (l : Layout g) where
  -- ---- stores

  store_act : (char : Bool) (next : ℕ) (scratch : Scratch) (a w : ℕ) (stack : List ℕ) (s : meaning.State) → act (image g) g.settings (code g l) (codes.store_if char) (frame g l next scratch (w ∷ (a ∷ stack)) s) (standing g l next scratch (w ∷ (a ∷ stack)) s) ≡ store (width_if char) a w stack (frame g l next scratch (w ∷ (a ∷ stack)) s) (standing g l next scratch (w ∷ (a ∷ stack)) s)
  store_act true next scratch a w stack s = refl
  store_act false next scratch a w stack s = refl

  store_typed : (next : ℕ) (stack : List ℕ) (s : meaning.State) (type : CType) (block byte : ℕ) (c : Cell) (v : Value) → same_type type c.type ≡ true → has_type type v ≡ true → Found s.blocks block byte c → IsKept s v → Here g l next (word_of g s v ∷ (word_of g s (At block byte) ∷ stack)) s → slice_get (code g l).ops next ≡ Some (store_code type) → Here g l (next + 1) stack (record s { blocks = meaning.stored s.blocks block byte v })
  store_typed next stack s type block byte c v same typed f value here at =
      let a = word_of g s (At block byte) in
      let w = word_of g s v in
      let all = shapes s.blocks in
      let width = width_if (is_char c.type) in
      let char = same_char g l type c.type same in
      let sm = seam g l s.blocks block byte c here.kept.blocks f in
      let new = meaning.stored s.blocks block byte v in
      let shape_is = sym (shapes_stored s.blocks block byte c v f) in
      let typed' = same_typed type c.type v same typed in
      let behind : a - g.settings.base ≡ length sm.pre + 0 = omega (arith, sm.at) in
      let bytes : with_word width (memory g s.blocks).bytes (a - g.settings.base) w ≡ (memory_by g all new).bytes =
      ap (λ n. with_word width (memory g s.blocks).bytes n w) behind
      ∙ ap (λ bytes. with_word width bytes (length sm.pre + 0) w) sm.now
      ∙ with_word_behind width sm.pre (value_bytes g.settings.base all c c.value ++ sm.post) 0 w
      ∙ ap (λ l. sm.pre ++ l) (word_written (is_char c.type) (word_of g s c.value) w sm.post (typed_small g l s c.type v here.kept.blocks typed' value))
      ∙ sym (sm.new v) in
      let kept : Kept g l (record s { blocks = new }) = record {
        count = here.kept.count;
        depth = here.kept.depth;
        locals = subst (λ a. AreKeptBy a s.locals) shape_is here.kept.locals;
        blocks = kept_stored g s.blocks block byte c v here.kept.blocks f typed' value;
        grows = subst (Grows l.since) shape_is here.kept.grows;
        world = here.kept.world;
      } in
      moved g l next (w ∷ (a ∷ stack)) s (store_code type) (next + 1) stack (record s { blocks = new }) here at kept
      (λ scratch.
      let fr = frame g l next scratch (w ∷ (a ∷ stack)) s in
      let t = standing g l next scratch (w ∷ (a ∷ stack)) s in
      store_act (is_char type) next scratch a w stack s
      ∙ ap (λ b. store (width_if b) a w stack fr t) char
      ∙ ap (λ yes. table.store_if yes width a w stack fr t) (seam_inside g l s.blocks block byte c sm)
      ∙ ap (λ bytes. table.on_with fr stack (record t { memory = record t.memory { bytes = bytes } })) bytes
      ∙ ap (λ a. Goes (state_by g a (Runs (frame_by g l a (next + 1) scratch stack s.locals)) l.callers new s.world)) shape_is)

  store_by : (next : ℕ) (s : meaning.State) (p : Places) (type : CType) (site : Option Site) (block byte : ℕ) (c : Cell) (v : Value) (rest fits : Bool) → (same_type type c.type && (has_type type v && rest)) ≡ fits → Found s.blocks block byte c → IsKept s v → Here g l next (word_of g s v ∷ (word_of g s (At block byte) ∷ [])) s → slice_get (code g l).ops next ≡ Some (store_code type) → Affects g l p (next + 1) (store_if fits site block byte v s)
  store_by next s p type site block byte c v rest false test f value here at = tt
  store_by next s p type site block byte c v rest true test f value here at =
      let both = and_parts (same_type type c.type) (has_type type v && rest) test in
      store_typed next [] s type block byte c v both.0 (and_parts (has_type type v) rest both.1).0 f value here at

  store_found : (next : ℕ) (s : meaning.State) (p : Places) (type : CType) (site : Option Site) (block byte : ℕ) (o : Option Cell) (v : Value) → cell_at s.blocks block byte ≡ o → IsKept s v → Here g l next (word_of g s v ∷ (word_of g s (At block byte) ∷ [])) s → slice_get (code g l).ops next ≡ Some (store_code type) → Affects g l p (next + 1) (store_over o type site v block byte s)
  store_found next s p type site block byte None v h value here at = tt
  store_found next s p type site block byte (Some c) v h value here at =
      let rest = leaves_zero (slice_get s.blocks block) byte v in
      store_by next s p type site block byte c v rest (same_type type c.type && (has_type type v && rest)) refl (cell_found s.blocks block byte c h) value here at

  -- a value is put into a cell, whose address lies on the stack
  pub store_runs : (next : ℕ) (s : meaning.State) (p : Places) (type : CType) (site : Option Site) (place : ℕ × ℕ) (v : Value) → IsKept s v → Here g l next (word_of g s v ∷ (word_of g s (At place.0 place.1) ∷ [])) s → slice_get (code g l).ops next ≡ Some (store_code type) → Affects g l p (next + 1) (store_at type site place v s)
  store_runs next s p type site place v value here at = store_found next s p type site place.0 place.1 (cell_at s.blocks place.0 place.1) v refl value here at

  -- ---- local variables

  abbrev slot : meaning.State → Local → ℕ
  slot s x = word_of g s x.value

  set_by : (next : ℕ) (s : meaning.State) (p : Places) (k : ℕ) (old : Local) (v : Value) (fits : Bool) → slice_get s.locals k ≡ Some old → IsKept s v → Here g l next (word_of g s v ∷ []) s → slice_get (code g l).ops next ≡ Some (ops.Set k) → Affects g l p (next + 1) (meanings.set_if fits old k v s)
  set_by next s p k old v false there value here at = tt
  set_by next s p k old v true there value here at =
      let low = index_below s.locals k old there in
      let new : Local = record old { value = v } in
      let t = record s { locals = slice_set s.locals k new } in
      let kept : Kept g l t = record {
        count = length_set s.locals k new ∙ here.kept.count;
        depth = here.kept.depth;
        locals = all_set (λ (x : Local). IsKept s x.value) s.locals k new here.kept.locals value;
        blocks = here.kept.blocks;
        grows = here.kept.grows;
        world = here.kept.world;
      } in
      moved g l next (word_of g s v ∷ []) s (ops.Set k) (next + 1) [] t here at kept
      (λ scratch.
      let slots = map (slot s) s.locals ++ words scratch in
      let long = length-append (map (slot s) s.locals) (words scratch) in
      let many = length-map s.locals (slot s) in
      let room : nat_lt k (length slots) ≡ true = grind (arith, nat_tests) in
      let fr = frame g l next scratch (word_of g s v ∷ []) s in
      let u = standing g l next scratch (word_of g s v ∷ []) s in
      ap (λ yes. set_if yes k (word_of g s v) [] fr u) room
      ∙ ap (λ slots. table.on_with (record fr { slots = slots }) [] u) (mapped_set (slot s) s.locals (words scratch) k new low))

  set_found : (next : ℕ) (s : meaning.State) (p : Places) (k : ℕ) (o : Option Local) (v : Value) → slice_get s.locals k ≡ o → IsKept s v → Here g l next (word_of g s v ∷ []) s → slice_get (code g l).ops next ≡ Some (ops.Set k) → Affects g l p (next + 1) (set_over o k v s)
  set_found next s p k None v there value here at = tt
  set_found next s p k (Some old) v there value here at = set_by next s p k old v (has_type old.type v) there value here at

  pub set_runs : (next : ℕ) (s : meaning.State) (p : Places) (k : ℕ) (v : Value) → IsKept s v → Here g l next (word_of g s v ∷ []) s → slice_get (code g l).ops next ≡ Some (ops.Set k) → Affects g l p (next + 1) (set_local k v s)
  set_runs next s p k v value here at = set_found next s p k (slice_get s.locals k) v refl value here at

  -- a value is kept modulo 256, where it has to be
  pub byte_runs : (next : ℕ) (stack : List ℕ) (s : meaning.State) (char : Bool) (v : Value) → Arrives g l next stack v s → HasAt (code g l).ops next (byte_code char) → length stack < (code g l).stack → Evaluates g l (next + byte_size char) stack (kept_if char v s)
  byte_runs next stack s true v x at room = low_byte_runs g l next stack s v x.1 x.0 at.0 room
  byte_runs next stack s false v x at room = let e : next ≡ next + 0 = omega arith in (here_at g l next (next + 0) (word_of g s v ∷ stack) s e x.0, x.1)

  -- ---- the slot of the value

  -- the same call from a state on, while a value is kept aside
  abbrev pub holding : ℕ → meaning.State → Layout g
  holding w s = record l { held = Some w; since = shapes s.blocks }

  pub value_set : (next : ℕ) (stack : List ℕ) (s : meaning.State) (p : Places) (w : ℕ) → p.scratch ≡ length l.function.locals → Here g l next (w ∷ stack) s → slice_get (code g l).ops next ≡ Some (ops.Set p.scratch) → Here g (holding w s) (next + 1) stack s
  value_set next stack s p w is here at =
      let c = here.scratch in
      let slots = map (slot s) s.locals ++ words c in
      let e : p.scratch ≡ length s.locals = is ∙ sym here.kept.count in
      let long = length-append (map (slot s) s.locals) (words c) in
      let many = length-map s.locals (slot s) in
      let room : nat_lt p.scratch (length slots) ≡ true = grind (arith, nat_tests) in
      let fr = frame g l next c (w ∷ stack) s in
      let u = standing g l next c (w ∷ stack) s in
      let k = here.kept in
      record {
        scratch = record c { value = w };
        holds = refl;
        kept = record { count = k.count; depth = k.depth; locals = k.locals; blocks = k.blocks; grows = grows_none (shapes s.blocks); world = k.world };
        reached = one_move g u _ here.reached
            (fetched g l next c (w ∷ stack) s (ops.Set p.scratch) at
            ∙ ap (λ yes. set_if yes p.scratch w stack fr u) room
            ∙ ap (λ n. table.on_with (record fr { slots = slice_set slots n w }) stack u) e
            ∙ ap (λ slots. table.on_with (record fr { slots = slots }) stack u) (last_set (slot s) s.locals c.value w (c.pointer ∷ (c.number ∷ []))));
      }

  -- the value's word is pushed
  pub value_pushed : (next : ℕ) (stack : List ℕ) (s t : meaning.State) (p : Places) (w : ℕ) → ArePlaces g l p → Grows l.since (shapes s.blocks) → Here g (holding w s) next stack t → slice_get (code g l).ops next ≡ Some (ops.Local p.scratch) → length stack < (code g l).stack → Here g l (next + 1) (w ∷ stack) t
  value_pushed next stack s t p w places grows here at room =
      let c = here.scratch in
      let slots = map (slot t) t.locals ++ words c in
      let e : p.scratch ≡ length t.locals = places.scratch ∙ sym here.kept.count in
      let fr = frame g l next c stack t in
      let u = standing g l next c stack t in
      let k = here.kept in
      let test : nat_lt (length stack) (code g l).stack ≡ true = grind (arith, nat_tests) in
      record {
        scratch = c;
        holds = subst (λ o. Holds o c) (sym places.free) tt;
        kept = record { count = k.count; depth = k.depth; locals = k.locals; blocks = k.blocks; grows = grows_on l.since (shapes s.blocks) (shapes t.blocks) grows k.grows; world = k.world };
        reached = one_move g u _ here.reached
            (fetched g l next c stack t (ops.Local p.scratch) at
            ∙ ap (λ n. push_some (code g l) (slice_get slots n) stack fr u) e
            ∙ ap (λ o. push_some (code g l) o stack fr u) (last_there (slot t) t.locals c.value (c.pointer ∷ (c.number ∷ [])))
            ∙ ap (λ x. table.push (code g l) x stack fr u) here.holds
            ∙ ap (λ yes. table.push_if yes w stack fr u) test);
      }

  -- a store through a pointer: its value is kept aside while the pointer is checked
  pub through_store_runs : (next : ℕ) (s : meaning.State) (p : Places) (type : CType) (index : erased.Index) (offset : ℕ) (cs : List Check) (q v : Value) (n : ℤ) → ArePlaces g l p → SmallChecks p.scratch index cs → IsIndex index n → IsKept s q → IsKept s v → Here g l next (word_of g s v ∷ index_pile index n (word_of g s q ∷ [])) s → HasAt (code g l).ops next (ops.Set p.scratch ∷ (through_code p.scratch index offset cs ++ (ops.Local p.scratch ∷ (store_code type ∷ [])))) → 2 ≤ (code g l).stack → offset_stack offset ≤ (code g l).stack → most_words index ≤ (code g l).stack → Affects g l p (next + (3 + through_size index offset cs)) (and_then (and_then (pass (step_to index n) cs q s) (λ _ t. reached index offset (step_to index n) q t)) (λ place t. store_at type None place v t))
  through_store_runs next s p type index offset cs q v n places small number hq hv here at two room most =
      let w = word_of g s v in
      let m = holding w s in
      let step = step_to index n in
      let last = ops.Local p.scratch ∷ (store_code type ∷ []) in
      let i = next + 1 + through_size index offset cs in
      let o = and_then (pass step cs q s) (λ _ t. reached index offset step q t) in
      let back = has_back (code g l).ops (next + 1) (through_code p.scratch index offset cs) last (through_size index offset cs) (length_through p.scratch index offset cs) at.1 in
      let end : i + 1 + 1 ≡ next + (3 + through_size index offset cs) = omega arith in
      subst (λ k. Affects g l p k (and_then o (λ place t. store_at type None place v t))) end
      (leads_on (Placed g m i []) (FlowsTo g l p (i + 1 + 1)) (Finishes g) o (λ place t. store_at type None place v t)
      (through_runs g m p.scratch places.scratch index (next + 1) [] s offset cs q n small number hq (value_set next (index_pile index n (word_of g s q ∷ [])) s p w places.scratch here at.0) (has_front (code g l).ops (next + 1) (through_code p.scratch index offset cs) last at.1) (omega arith) (omega arith))
      (λ place t x.
      let a = word_of g t (At place.0 place.1) in
      let added = x.0.kept.grows in
      let same = sym (word_grows g.settings.base (shapes s.blocks) (shapes t.blocks) v added hv) in
      let pushed = value_pushed i (a ∷ []) s t p w places here.kept.grows x.0 back.0 (omega arith) in
      store_runs (i + 1) t p type None place v (kept_grows (shapes s.blocks) (shapes t.blocks) v added hv) (subst (λ u. Here g l (i + 1) (u ∷ (a ∷ [])) t) same pushed) back.1.0))
