-- How many bytes stand before the first zero: the machine counts them as the meaning does, and spends a tick for each byte.
use Rattle.std.proofs.Common.{◌≡◌, ℕ, zero, suc, ◌+◌, ◌-◌, ◌^◌, ◌<◌, ◌≤◌, Bool, true, false, ℤ, pos, List, [], ◌∷◌, ◌++◌, length, Option, Some, None, refl, sym, ap, ◌∙◌, subst, arith}
use Rattle.std.specs.Prelude.{All, slice_get, nat_lt, nat_le, ◌==◌}
use Rattle.std.proofs.lemmas.Bool.Decides.{nat_tests}
use Rattle.std.proofs.lemmas.Bool.{and_parts}
use Rattle.std.proofs.lemmas.List.Elements.{recursion_from_All}
use Rattle.act_words.specs.declared.ending.Ending.{Ending}
use Rattle.act_words.specs.Numbers.{word}
use Rattle.act_words.specs.Arithmetic as arithmetic
use Rattle.act_words.specs.World.{World, spent_one}
use Rattle.act_words.specs.Touches.{spent_if}
use Rattle.flat_bytes.specs.Blocks.{first_offset}
use Rattle.flat_bytes.specs.Words.{word_at}
use Rattle.pointer_modes.specs.Types.{CType, Int, Char, Struct, Pointer}
use Rattle.ckc_core.specs.Outcome.{Gives, Ends, Stuck, Unsound, Short, and_then}
use Rattle.ckc_core.specs.States.{Value, Number, Null, At, Cell, shapes, cell_at}
use Rattle.ckc_core.specs.States as meaning
use Rattle.ckc_core.specs.Steps.{Result, is_char}
use Rattle.ckc_core.specs.Steps as meanings
use Rattle.ckc_core.specs.Pointers.{counted_if, read_as, byte_read, counted_from, bytes_of_block, counted}
use Rattle.check_insertion.specs.declared.erased.Check.{Check}
use Rattle.check_insertion.specs.ErasedMeaning.{no_step, pass, length_from}
use Rattle.code_words.specs.Table.{Frame, byte_at, by_byte, count_from, holds, push, wild}
use Rattle.code_words.specs.Table as table
use Rattle.code_words.specs.declared.op.Op.TheVariants as ops
use Rattle.lowering.specs.Code.{Still, checks_code, checks_size}
use Rattle.lowering.specs.Images.{width_if}
use Rattle.lowering.specs.Sized.{IsSmall}
use Rattle.lowering.specs.Correct.{offset_from}
use Rattle.ckc_core.proofs.Numbers.{IsNumber, zero_word}
use Rattle.lowering.proofs.Bytes.{word_behind, word_read}
use Rattle.lowering.proofs.Memory.{value_bytes}
use Rattle.lowering.proofs.Shapes.{block_within}
use Rattle.lowering.proofs.Worlds.{KeptWorld}
use Rattle.lowering.proofs.Executions.{Execution, word_of, memory, IsKept, same_end}
use Rattle.lowering.proofs.Steps.{HasAt, has_front, has_back, Leads, leads_on, Finishes, Layout, Scratch, code, frame, standing, Kept, kept_in, fetched, one_move, last_move, Here, Arrives, Evaluates}
use Rattle.lowering.proofs.Sizes.{length_checks}
use Rattle.lowering.proofs.Places.{Found, cell_found, cell_kept, in_block, seam, seam_inside, typed_small}
use Rattle.lowering.proofs.Reaches.{word_pos}
use Rattle.lowering.proofs.Aside.{stands_here, here_stands}
use Rattle.lowering.proofs.Checks.{Passes, checks_run}
use Rattle.lowering.proofs.Accesses.{holds_still}

width_some : (char : Bool) → 1 ≤ width_if char
width_some true = omega arith
width_some false = omega arith

module _ (g : Execution) (l : Layout g) (next : ℕ) (c : Scratch) (pointer : ℕ) (stack : List ℕ) (s : meaning.State) (kept : Kept g l s) (block : ℕ) where
  abbrev pile : List ℕ
  pile = pointer ∷ stack

  abbrev fr : Frame
  fr = frame g l next c pile s

  abbrev within : World → table.State
  within w = standing g l next c pile (meaning.in_world w s)

  abbrev address : ℕ → ℕ
  address byte = word_of g s (At block byte)

  abbrev start : ℕ
  start = offset_from first_offset (shapes s.blocks) block

  -- the count is pushed
  record Pushes (step : table.Step) (v : Value) (t : meaning.State) : Type 0 where
    world : World
    same : t ≡ meaning.in_world world s
    left : KeptWorld world
    count : ℕ
    is : v ≡ Number (pos count)
    few : count < 2 ^ 31
    goes : step ≡ push (code g l) count stack fr (within world)

  -- the budget is spent
  record Stops (step : table.Step) (ending : Ending) (t : meaning.State) : Type 0 where
    world : World
    same : t ≡ meaning.in_world world s
    over : step ≡ table.Over ending (within world)

  abbrev CountsAs : table.Step → Result Value → Type 0
  CountsAs step o = Leads (Pushes step) (Stops step) o

  -- the byte of a cell that holds a `char`
  char_there : (byte : ℕ) (x : Cell) (z : ℤ) (w : World) → x.type ≡ Char → x.value ≡ Number z → Found s.blocks block byte x → byte_at (within w) (address byte) ≡ Some (word z)
  char_there byte x z w has is f =
      let sm = seam g l s.blocks block byte x kept.blocks f in
      let k = cell_kept g s.blocks block byte x kept.blocks f in
      let all = memory g s.blocks in
      let width : width_if (is_char x.type) ≡ 1 = ap (λ t. width_if (is_char t)) has in
      let inside : holds all (address byte) 1 ≡ true = subst (λ n. holds all (address byte) n ≡ true) width (seam_inside g l s.blocks block byte x sm) in
      let behind : address byte - g.settings.base ≡ length sm.pre + 0 = omega (arith, sm.at) in
      let read : word_at (width_if (is_char x.type)) all.bytes (address byte - g.settings.base) ≡ word_of g s x.value =
      ap (λ n. word_at (width_if (is_char x.type)) all.bytes n) behind
      ∙ ap (λ bytes. word_at (width_if (is_char x.type)) bytes (length sm.pre + 0)) sm.now
      ∙ word_behind (width_if (is_char x.type)) sm.pre (value_bytes g.settings.base (shapes s.blocks) x x.value ++ sm.post) 0
      ∙ word_read (is_char x.type) (word_of g s x.value) sm.post (typed_small g l s x.type x.value kept.blocks k.typed k.value) in
      let one : word_at 1 all.bytes (address byte - g.settings.base) ≡ word z = subst (λ n. word_at n all.bytes (address byte - g.settings.base) ≡ word_of g s x.value) width read ∙ ap (word_of g s) is in
      rw inside (ap Some (omega (arith, one)))

  -- a byte that is read
  byte_by : (b n : ℕ) (test : Bool) (w : World) (step : table.Step) (rest : Result Value) → (b == 0) ≡ test → KeptWorld w → n < 2 ^ 31 → CountsAs step rest → CountsAs (by_byte (Some b) (wild (within w)) (push (code g l) n stack fr (within w)) step) (counted_if test None n rest (meaning.in_world w s))
  byte_by zero n true w step rest is left few further = record { world = w; same = refl; left = left; count = n; is = refl; few = few; goes = refl }
  byte_by zero n false w step rest is left few further = absurd (let q : true ≡ false = is in cc)
  byte_by (suc b) n true w step rest is left few further = absurd (grind (arith, nat_tests, is))
  byte_by (suc b) n false w step rest is left few further = further

  read_by : (byte n : ℕ) (w : World) (x : Cell) (t : CType) (v : Value) (step : table.Step) (rest : Result Value) → x.type ≡ t → x.value ≡ v → Found s.blocks block byte x → KeptWorld w → n ≤ byte → CountsAs step rest → CountsAs (by_byte (byte_at (within w) (address byte)) (wild (within w)) (push (code g l) n stack fr (within w)) step) (read_as t v None n rest (meaning.in_world w s))
  read_by byte n w x Int v step rest has is f left low further = tt
  read_by byte n w x (Struct k) v step rest has is f left low further = tt
  read_by byte n w x (Pointer mode kind target) v step rest has is f left low further = tt
  read_by byte n w x Char Null step rest has is f left low further = tt
  read_by byte n w x Char (At other place) step rest has is f left low further = tt
  read_by byte n w x Char (Number z) step rest has is f left low further =
      let k = cell_kept g s.blocks block byte x kept.blocks f in
      let number : IsNumber z = subst (IsKept s) is k.value in
      let there = in_block s.blocks block byte x f in
      let few : n < 2 ^ 31 = omega (arith, low, block_within first_offset (shapes s.blocks) block there.found there.there, there.within, kept.blocks.fits, g.allowed.most_trusted) in
      subst (λ o. CountsAs (by_byte o (wild (within w)) (push (code g l) n stack fr (within w)) step) (counted_if (arithmetic.is_zero z) None n rest (meaning.in_world w s))) (sym (char_there byte x z w has is f))
      (byte_by (word z) n (arithmetic.is_zero z) w step rest (zero_word z number) left few further)

  cell_by : (byte n : ℕ) (w : World) (o : Option Cell) (step : table.Step) (rest : Result Value) → cell_at s.blocks block byte ≡ o → KeptWorld w → n ≤ byte → CountsAs step rest → CountsAs (by_byte (byte_at (within w) (address byte)) (wild (within w)) (push (code g l) n stack fr (within w)) step) (byte_read o None n rest (meaning.in_world w s))
  cell_by byte n w None step rest found left low further = tt
  cell_by byte n w (Some x) step rest found left low further = read_by byte n w x x.type x.value step rest refl refl (cell_found s.blocks block byte x found) left low further

  -- behind the memory's last byte no cell begins
  none_by : (byte n : ℕ) (w : World) (o : Option Cell) (rest : Result Value) → cell_at s.blocks block byte ≡ o → length (memory g s.blocks).bytes ≤ start + byte + 0 → CountsAs (wild (within w)) (byte_read o None n rest (meaning.in_world w s))
  none_by byte n w None rest found enough = tt
  none_by byte n w (Some x) rest found enough =
      let sm = seam g l s.blocks block byte x kept.blocks (cell_found s.blocks block byte x found) in
      let a = g.settings.base + (start + byte) in
      let width = width_if (is_char x.type) in
      let last = g.settings.base + length (memory g s.blocks).bytes in
      let inside = and_parts (nat_le g.settings.base a) (nat_le (a + width) last) (seam_inside g l s.blocks block byte x sm) in
      let up : a + width ≤ last = (let test = inside.1 in grind (arith, nat_tests, test)) in
      absurd (omega (arith, up, enough, width_some (is_char x.type)))

  spent_left : (w : World) → KeptWorld w → KeptWorld (spent_one w)
  spent_left w left = record { acts = left.acts; inputs = left.inputs }

  last_by : (more byte n : ℕ) (w : World) (spent : Bool) → length (memory g s.blocks).bytes ≤ start + byte + 0
      → CountsAs (table.asked (spent_if spent w) (within w) (λ _ t. wild t)) (meanings.asked (spent_if spent w) (meaning.in_world w s) (λ _ t. byte_read (cell_at t.blocks block byte) None n (counted_from more g.settings.budget None block (byte + 1) (n + 1) t) t))
  last_by more byte n w true enough = none_by byte n (spent_one w) (cell_at s.blocks block byte) (counted_from more g.settings.budget None block (byte + 1) (n + 1) (meaning.in_world (spent_one w) s)) refl enough
  last_by more byte n w false enough = record { world = w; same = refl; over = refl }

  turn_by : (more left byte n : ℕ) (w : World) (spent : Bool) → KeptWorld w → n ≤ byte → CountsAs (count_from left (code g l) g.settings.budget (address byte + 1) (n + 1) stack fr (within (spent_one w))) (counted_from more g.settings.budget None block (byte + 1) (n + 1) (meaning.in_world (spent_one w) s))
      → CountsAs (table.asked (spent_if spent w) (within w) (λ _ t. by_byte (byte_at t (address byte)) (wild t) (push (code g l) n stack fr t) (count_from left (code g l) g.settings.budget (address byte + 1) (n + 1) stack fr t)))
      (meanings.asked (spent_if spent w) (meaning.in_world w s) (λ _ t. byte_read (cell_at t.blocks block byte) None n (counted_from more g.settings.budget None block (byte + 1) (n + 1) t) t))
  turn_by more left byte n w true kw low further =
      cell_by byte n (spent_one w) (cell_at s.blocks block byte) (count_from left (code g l) g.settings.budget (address byte + 1) (n + 1) stack fr (within (spent_one w))) (counted_from more g.settings.budget None block (byte + 1) (n + 1) (meaning.in_world (spent_one w) s)) refl (spent_left w kw) low further
  turn_by more left byte n w false kw low further = record { world = w; same = refl; over = refl }

  counts : (more left byte n : ℕ) (w : World) → KeptWorld w → n ≤ byte → length (memory g s.blocks).bytes ≤ start + byte + left → CountsAs (count_from left (code g l) g.settings.budget (address byte) n stack fr (within w)) (counted_from more g.settings.budget None block byte n (meaning.in_world w s))
  counts zero left byte n w kw low enough = tt
  counts (suc more) zero byte n w kw low enough = last_by more byte n w (nat_lt w.ticks g.settings.budget) enough
  counts (suc more) (suc left) byte n w kw low enough =
      let on : address (byte + 1) ≡ address byte + 1 = omega arith in
      let further = subst (λ a. CountsAs (count_from left (code g l) g.settings.budget a (n + 1) stack fr (within (spent_one w))) (counted_from more g.settings.budget None block (byte + 1) (n + 1) (meaning.in_world (spent_one w) s))) on
      (counts more left (byte + 1) (n + 1) (spent_one w) (spent_left w kw) (omega (arith, low)) (omega (arith, enough))) in
      turn_by more left byte n w (nat_lt w.ticks g.settings.budget) kw low further

module _ (g : Execution) (l : Layout g) where
  -- the count of a text, whose address lies on the stack
  text_runs : (next : ℕ) (stack : List ℕ) (s : meaning.State) (block byte : ℕ) → Here g l next (word_of g s (At block byte) ∷ stack) s → slice_get (code g l).ops next ≡ Some ops.TextLength → length stack < (code g l).stack → Evaluates g l (next + 1) stack (counted g.settings.budget None block byte s)
  text_runs next stack s block byte here at room =
      let p = word_of g s (At block byte) in
      let size = length (memory g s.blocks).bytes in
      by (counted g.settings.budget None block byte s) (counts g l next here.scratch p stack s here.kept block (suc (bytes_of_block (slice_get s.blocks block))) size byte 0 s.world here.kept.world (omega arith) (omega arith))
    where
      pile : List ℕ
      pile = word_of g s (At block byte) ∷ stack

      by : (o : Result Value) → CountsAs g l next here.scratch (word_of g s (At block byte)) stack s here.kept block (count_from (length (memory g s.blocks).bytes) (code g l) g.settings.budget (word_of g s (At block byte)) 0 stack (frame g l next here.scratch (word_of g s (At block byte) ∷ stack) s) (standing g l next here.scratch (word_of g s (At block byte) ∷ stack) s)) o → Evaluates g l (next + 1) stack o
      by (Gives v t) h =
          let test : nat_lt (length stack) (code g l).stack ≡ true = grind (arith, nat_tests) in
          let number : IsNumber (pos h.count) = (let few = h.few in grind (arith, nat_tests)) in
          let u = meaning.in_world h.world s in
          let pushed : Here g l (next + 1) (h.count ∷ stack) u = record {
            scratch = here.scratch;
            holds = here.holds;
            kept = kept_in g l s h.world here.kept h.left;
            reached = one_move g _ _ here.reached (fetched g l next here.scratch (word_of g s (At block byte) ∷ stack) s ops.TextLength at ∙ h.goes ∙ rw test refl);
          } in
          let worded : Here g l (next + 1) (word (pos h.count) ∷ stack) u = subst (λ k. Here g l (next + 1) (k ∷ stack) u) (sym (word_pos h.count number)) pushed in
          subst (λ t. Arrives g l (next + 1) stack v t) (sym h.same) (subst (λ v. Arrives g l (next + 1) stack v u) (sym h.is) (worded, number))
      by (Ends ending t) h =
          let u = meaning.in_world h.world s in
          subst (λ t. Finishes g ending t) (sym h.same)
          (last_move g _ _ ending u here.reached (fetched g l next here.scratch (word_of g s (At block byte) ∷ stack) s ops.TextLength at ∙ h.over) (same_end g (table.Runs (frame g l next here.scratch (word_of g s (At block byte) ∷ stack) s)) l.callers u here.kept.blocks))
      by (Stuck site t) h = tt
      by (Unsound site t) h = tt
      by Short h = tt

  pointer_runs : (next : ℕ) (stack : List ℕ) (s : meaning.State) (v : Value) → Here g l next (word_of g s v ∷ stack) s → slice_get (code g l).ops next ≡ Some ops.TextLength → length stack < (code g l).stack → Evaluates g l (next + 1) stack (length_from g.settings.budget v s)
  pointer_runs next stack s (Number z) here at room = tt
  pointer_runs next stack s Null here at room = tt
  pointer_runs next stack s (At block byte) here at room = text_runs next stack s block byte here at room

  -- behind the checks of its pointer
  pub length_runs : (slot : ℕ) → slot ≡ length l.function.locals → (size next : ℕ) (stack : List ℕ) (s : meaning.State) (cs : List Check) (v : Value) → All (IsSmall slot 6) cs → IsKept s v → Here g l next (word_of g s v ∷ stack) s → HasAt (code g l).ops next (checks_code slot (Still size) cs ++ ops.TextLength ∷ []) → length stack + 6 ≤ (code g l).stack
      → Evaluates g l (next + (checks_size (Still size) cs + 1)) stack (and_then (pass (no_step size) cs v s) (λ _ t. length_from g.settings.budget v t))
  length_runs slot is size next stack s cs v small kept here at room =
      let c = here.scratch in
      let m = next + checks_size (Still size) cs in
      let back = has_back (code g l).ops next (checks_code slot (Still size) cs) (ops.TextLength ∷ []) (checks_size (Still size) cs) (length_checks slot (Still size) cs) at in
      let end : m + 1 ≡ next + (checks_size (Still size) cs + 1) = omega arith in
      subst (λ k. Evaluates g l k stack (and_then (pass (no_step size) cs v s) (λ _ t. length_from g.settings.budget v t))) end
      (leads_on (Passes g l m stack v c s) (Arrives g l (m + 1) stack) (Finishes g) (pass (no_step size) cs v s) (λ _ t. length_from g.settings.budget v t)
      (checks_run g l slot is (Still size) cs next c stack s v (pos 0) 6 (recursion_from_All (IsSmall slot 6) cs small) tt kept (stands_here g l next (word_of g s v ∷ stack) s here) (has_front (code g l).ops next (checks_code slot (Still size) cs) (ops.TextLength ∷ []) at) room)
      (λ u t x. subst (λ z. Evaluates g l (m + 1) stack (length_from g.settings.budget v z)) (sym x.same)
      (pointer_runs m stack s v (here_stands g l m x.after (word_of g s v ∷ stack) s (holds_still l.held c x.after x.value here.holds) x.stands) back.0 (omega (arith, room)))))
