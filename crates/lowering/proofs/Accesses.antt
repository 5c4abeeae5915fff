-- Accesses through pointers, sums, order and casts, behind the words of their parts.
use Rattle.std.proofs.Common.{◌≡◌, ℕ, zero, suc, ◌+◌, ◌^◌, ◌<◌, ◌≤◌, Bool, true, false, ℤ, pos, negsuc, ◌+ℤ◌, List, [], ◌∷◌, ◌++◌, length, Option, Some, None, refl, sym, ap, ◌∙◌, subst, arith}
use Rattle.std.specs.Prelude.{All, slice_get, not, nat_le, nat_lt, int_le, int_lt, ◌==◌, ◌&&◌}
use Rattle.std.proofs.lemmas.Bool.Decides.{nat_tests}
use Rattle.std.proofs.lemmas.List.Elements.{recursion_from_All}
use Rattle.act_words.specs.declared.operator.Comparison.{Comparison}
use Rattle.act_words.specs.declared.operator.Comparison.TheVariants as comparisons
use Rattle.act_words.specs.Numbers.{word}
use Rattle.act_words.specs.Arithmetic.{bit, wrapping_negation}
use Rattle.act_words.specs.Operators.{holds}
use Rattle.flat_bytes.specs.Blocks.{first_offset}
use Rattle.ckc_core.specs.declared.program.Direction.{Direction}
use Rattle.ckc_core.specs.declared.program.Direction.TheVariants as directions
use Rattle.ckc_core.specs.Outcome.{Gives, and_then}
use Rattle.ckc_core.specs.States.{Value, Number, Null, At, Block, Cell, shapes, cell_at}
use Rattle.ckc_core.specs.States as meaning
use Rattle.ckc_core.specs.Steps as meanings
use Rattle.ckc_core.specs.Bounds.{block_size}
use Rattle.ckc_core.specs.Pointers.{distance, cell_behind, reaches, pointer_if, pointer_at, ordered_if, ordered}
use Rattle.check_insertion.specs.declared.erased.Check.{Check}
use Rattle.check_insertion.specs.Erased as erased
use Rattle.check_insertion.specs.ErasedMeaning.{Step, step_to, no_step, pass, reached, far_element, moved}
use Rattle.check_insertion.specs.Stacks.{offset_stack}
use Rattle.code_words.specs.Table.{act, push}
use Rattle.code_words.specs.Table as table
use Rattle.code_words.specs.declared.op.Op.TheVariants as ops
use Rattle.lowering.specs.Code.{Still, Onward, reach_to, number_slot, checks_code, checks_size, moved_code, moved_size, offset_code, offset_size, through_code, through_size, sum_code, sum_size, order_op, order_code, order_size}
use Rattle.lowering.specs.Sized.{IsSmall}
use Rattle.lowering.specs.Correct.{offset_from}
use Rattle.ckc_core.proofs.Numbers.{IsNumber}
use Rattle.lowering.proofs.Shapes.{InBlock, shape_there}
use Rattle.lowering.proofs.Executions.{Execution, image, word_of, IsKept, KeptBlocks}
use Rattle.lowering.proofs.Steps.{HasAt, has_front, has_back, Leads, leads_on, Finishes, Layout, Scratch, Holds, code, frame, standing, Here, Arrives, Evaluates}
use Rattle.lowering.proofs.Sizes.{length_checks}
use Rattle.lowering.proofs.Expressions.{test_runs}
use Rattle.lowering.proofs.Places.{Placed, cell_found, in_block, kept_small, behind_runs, element_runs}
use Rattle.lowering.proofs.Aside.{Stands, stands_here, here_stands, stand_push, stand_slot, number_set, number_there}
use Rattle.lowering.proofs.Reaches.{step_of, step_to_is, IsAside, address_moved, moved_word}
use Rattle.lowering.proofs.Checks.{Passes, checks_run}

-- what is held stays so, where the value's slot has the same word
pub holds_still : (o : Option ℕ) (c after : Scratch) → after.value ≡ c.value → Holds o c → Holds o after
holds_still None c after same h = tt
holds_still (Some w) c after same h = same ∙ h

-- the words below the checks of an access: its pointer's, and the number's above it
abbrev pub index_pile : erased.Index → ℤ → List ℕ → List ℕ
index_pile erased.First n stack = stack
index_pile (erased.Element number size) n stack = word n ∷ stack

-- the number of an element is one of 32 bits
abbrev pub IsIndex : erased.Index → ℤ → Type 0
IsIndex erased.First n = Unit {0}
IsIndex (erased.Element number size) n = IsNumber n

-- the checks of an access, and the words that they need
abbrev pub SmallChecks : ℕ → erased.Index → List Check → Type 0
SmallChecks locals erased.First cs = All (IsSmall locals 1) cs
SmallChecks locals (erased.Element number size) cs = All (IsSmall locals 6) cs

abbrev pub most_words : erased.Index → ℕ
most_words erased.First = 1
most_words (erased.Element number size) = 6

-- a place that a pointer may have lies in its block
reached_block : (blocks : List Block) (block byte : ℕ) (o : Option Block) → slice_get blocks block ≡ o → reaches o byte ≡ true → InBlock (shapes blocks) block byte
reached_block blocks block byte None there h = absurd (cc)
reached_block blocks block byte (Some b) there h =
    let within : byte ≤ block_size b = grind (arith, nat_tests) in
    record { found = meaning.shape b; there = shape_there blocks block b there; within = within }

-- the order of two bytes is that of their addresses in a block
same_test : (a b c : ℕ) → (a + b == a + c) ≡ (int_le (pos b) (pos c) && int_le (pos c) (pos b))
same_test a b c = grind (arith, nat_tests)

less_test : (a b c : ℕ) → nat_lt (a + b) (a + c) ≡ int_lt (pos b) (pos c)
less_test a b c = grind (arith, nat_tests)

up_to_test : (a b c : ℕ) → nat_le (a + b) (a + c) ≡ int_le (pos b) (pos c)
up_to_test a b c = grind (arith, nat_tests)

offset_low : (k : ℕ) → offset_stack k ≤ 2
offset_low zero = omega arith
offset_low (suc k) = omega arith

module _ (g : Execution) (l : Layout g) (slot : ℕ) (is : slot ≡ length l.function.locals) where
  -- ---- addresses of elements

  abbrev Address : meaning.State → ℕ → ℕ → ℕ
  Address s block byte = word_of g s (At block byte)

  moved_is : (direction : Direction) (size : ℕ) (s : meaning.State) (block byte target w : ℕ) (n : ℤ) → KeptBlocks g s.blocks → IsNumber n → w ≡ word n → pos byte +ℤ distance direction size n ≡ pos target → InBlock (shapes s.blocks) block target → table.element (Address s block byte) (moved_word direction w) size ≡ Address s block target
  moved_is direction size s block byte target w n kept number aside leads inside =
      let a = g.settings.base + offset_from first_offset (shapes s.blocks) block in
      let from : Address s block byte ≡ a + byte = omega arith in
      let to : a + target ≡ Address s block target = omega arith in
      let low : a + target < 2 ^ 32 = omega (arith, to, kept_small g s (At block target) kept inside) in
      ap (λ k. table.element (Address s block byte) (moved_word direction k) size) aside
      ∙ ap (λ k. table.element k (moved_word direction (word n)) size) from
      ∙ address_moved direction a byte size target n number leads low
      ∙ to

  pub moved_stands : (direction : Direction) (size next : ℕ) (c : Scratch) (stack : List ℕ) (s : meaning.State) (block byte target : ℕ) (n : ℤ) → IsNumber n → c.number ≡ word n → pos byte +ℤ distance direction size n ≡ pos target → InBlock (shapes s.blocks) block target → Stands g l next c (Address s block byte ∷ stack) s → HasAt (code g l).ops next (moved_code slot direction size) → length stack + 2 ≤ (code g l).stack → Stands g l (next + moved_size direction) c (Address s block target ∷ stack) s
  moved_stands directions.Forward size next c stack s block byte target n number aside leads inside st at room =
      let p = Address s block byte in
      let first = stand_slot g l next c (p ∷ stack) s (number_slot slot) c.number (number_there g l slot is c s st.kept) st at.0 (omega arith) in
      let same = moved_is directions.Forward size s block byte target c.number n st.kept.blocks number aside leads inside in
      let end : next + 1 + 1 ≡ next + 2 = omega arith in
      let pile = c.number ∷ (p ∷ stack) in
      subst (λ k. Stands g l k c (Address s block target ∷ stack) s) end
      (stand_push g l (next + 1) c pile s (ops.Index size) (Address s block target) stack first at.1.0 (omega arith)
      (ap (λ w. push (code g l) w stack (frame g l (next + 1) c pile s) (standing g l (next + 1) c pile s)) same))
  moved_stands directions.Backward size next c stack s block byte target n number aside leads inside st at room =
      let p = Address s block byte in
      let first = stand_slot g l next c (p ∷ stack) s (number_slot slot) c.number (number_there g l slot is c s st.kept) st at.0 (omega arith) in
      let back = wrapping_negation c.number in
      let second = stand_push g l (next + 1) c (c.number ∷ (p ∷ stack)) s ops.WrapNeg back (p ∷ stack) first at.1.0 (omega arith) refl in
      let same = moved_is directions.Backward size s block byte target c.number n st.kept.blocks number aside leads inside in
      let end : next + 1 + 1 + 1 ≡ next + 3 = omega arith in
      let pile = back ∷ (p ∷ stack) in
      subst (λ k. Stands g l k c (Address s block target ∷ stack) s) end
      (stand_push g l (next + 1 + 1) c pile s (ops.Index size) (Address s block target) stack second at.1.1.0 (omega arith)
      (ap (λ w. push (code g l) w stack (frame g l (next + 1 + 1) c pile s) (standing g l (next + 1 + 1) c pile s)) same))

  -- ---- accesses

  -- the address of a cell of an element that stands a step from a pointer
  abbrev IsPlaced : ℕ → List ℕ → meanings.Result (ℕ × ℕ) → Type 0
  IsPlaced next stack o = Leads (Placed g l next stack) (Finishes g) o

  cell_runs : (size next : ℕ) (c : Scratch) (stack : List ℕ) (s : meaning.State) (offset block byte : ℕ) (n z : ℤ) → IsNumber n → c.number ≡ word n → pos byte +ℤ distance directions.Forward size n ≡ z → Holds l.held c → Stands g l next c (Address s block byte ∷ stack) s → HasAt (code g l).ops next (moved_code slot directions.Forward size ++ offset_code offset) → length stack + 2 ≤ (code g l).stack → IsPlaced (next + (2 + offset_size offset)) stack (cell_behind None block z offset s)
  cell_runs size next c stack s offset block byte n (negsuc z) number aside leads held st at room = tt
  cell_runs size next c stack s offset block byte n (pos target) number aside leads held st at room = by (cell_at s.blocks block (target + offset)) refl
    where
      by : (o : Option Cell) → cell_at s.blocks block (target + offset) ≡ o → IsPlaced (next + (2 + offset_size offset)) stack (cell_behind None block (pos target) offset s)
      by None none = rw none tt
      by (Some x) found =
          let far = in_block s.blocks block (target + offset) x (cell_found s.blocks block (target + offset) x found) in
          let inside : InBlock (shapes s.blocks) block target = record { found = far.found; there = far.there; within = omega (arith, far.within) } in
          let front = has_front (code g l).ops next (moved_code slot directions.Forward size) (offset_code offset) at in
          let back = has_back (code g l).ops next (moved_code slot directions.Forward size) (offset_code offset) 2 refl at in
          let there = here_stands g l (next + 2) c (Address s block target ∷ stack) s held (moved_stands directions.Forward size next c stack s block byte target n number aside leads inside st front room) in
          let end : next + 2 + offset_size offset ≡ next + (2 + offset_size offset) = omega arith in
          subst (λ k. IsPlaced k stack (cell_behind None block (pos target) offset s)) end
          (behind_runs g l (next + 2) stack s None block target offset (cell_at s.blocks block (target + offset)) refl there back (omega (arith, offset_low offset)))

  far_runs : (size next : ℕ) (c : Scratch) (stack : List ℕ) (s : meaning.State) (offset : ℕ) (v : Value) (n : ℤ) → IsNumber n → c.number ≡ word n → Holds l.held c → Stands g l next c (word_of g s v ∷ stack) s → HasAt (code g l).ops next (moved_code slot directions.Forward size ++ offset_code offset) → length stack + 2 ≤ (code g l).stack → IsPlaced (next + (2 + offset_size offset)) stack (far_element offset (step_of (Onward size) n) v s)
  far_runs size next c stack s offset (Number z) n number aside held st at room = tt
  far_runs size next c stack s offset Null n number aside held st at room = tt
  far_runs size next c stack s offset (At block byte) n number aside held st at room =
      cell_runs size next c stack s offset block byte n (pos byte +ℤ distance directions.Forward size n) number aside refl held st at room

  -- the address behind a pointer, whose word lies on the stack with that of the number, and behind the checks
  pub through_runs : (index : erased.Index) (next : ℕ) (stack : List ℕ) (s : meaning.State) (offset : ℕ) (cs : List Check) (v : Value) (n : ℤ) → SmallChecks slot index cs → IsIndex index n → IsKept s v → Here g l next (index_pile index n (word_of g s v ∷ stack)) s → HasAt (code g l).ops next (through_code slot index offset cs) → length stack + offset_stack offset ≤ (code g l).stack → length stack + most_words index ≤ (code g l).stack → IsPlaced (next + through_size index offset cs) stack (and_then (pass (step_to index n) cs v s) (λ _ t. reached index offset (step_to index n) v t))
  through_runs erased.First next stack s offset cs v n small number kept here at room words =
      let m = next + checks_size (Still 1) cs in
      let c = here.scratch in
      let back = has_back (code g l).ops next (checks_code slot (Still 1) cs) (offset_code offset) (checks_size (Still 1) cs) (length_checks slot (Still 1) cs) at in
      let end : m + offset_size offset ≡ next + (checks_size (Still 1) cs + offset_size offset) = omega arith in
      subst (λ k. IsPlaced k stack (and_then (pass (no_step 1) cs v s) (λ _ t. reached erased.First offset (no_step 1) v t))) end
      (leads_on (Passes g l m stack v c s) (Placed g l (m + offset_size offset) stack) (Finishes g) (pass (no_step 1) cs v s) (λ _ t. reached erased.First offset (no_step 1) v t)
      (checks_run g l slot is (Still 1) cs next c stack s v n 1 (recursion_from_All (IsSmall slot 1) cs small) tt kept (stands_here g l next (word_of g s v ∷ stack) s here) (has_front (code g l).ops next (checks_code slot (Still 1) cs) (offset_code offset) at) words)
      (λ u t x.
      subst (λ z. IsPlaced (m + offset_size offset) stack (reached erased.First offset (no_step 1) v z)) (sym x.same)
      (element_runs g l m stack s offset v (here_stands g l m x.after (word_of g s v ∷ stack) s (holds_still l.held c x.after x.value here.holds) x.stands, kept) back room)))
  through_runs (erased.Element number' size) next stack s offset cs v n small number kept here at room words =
      let r = Onward size in
      let step = step_of r n in
      let m = next + 1 + checks_size r cs in
      let end : m + (2 + offset_size offset) ≡ next + (1 + (checks_size r cs + (2 + offset_size offset))) = omega arith in
      let last = moved_code slot directions.Forward size ++ offset_code offset in
      let back = has_back (code g l).ops (next + 1) (checks_code slot r cs) last (checks_size r cs) (length_checks slot r cs) at.1 in
      let c : Scratch = record here.scratch { number = word n } in
      let set = number_set g l slot is next here.scratch (word_of g s v ∷ stack) s (word n) (stands_here g l next (word n ∷ (word_of g s v ∷ stack)) s here) at.0 in
      subst (λ k. IsPlaced k stack (and_then (pass step cs v s) (λ _ t. far_element offset step v t))) end
      (leads_on (Passes g l m stack v c s) (Placed g l (m + (2 + offset_size offset)) stack) (Finishes g) (pass step cs v s) (λ _ t. far_element offset step v t)
      (checks_run g l slot is r cs (next + 1) c stack s v n 6 (recursion_from_All (IsSmall slot 6) cs small) (refl, number) kept set (has_front (code g l).ops (next + 1) (checks_code slot r cs) last at.1) words)
      (λ u t x.
      subst (λ z. IsPlaced (m + (2 + offset_size offset)) stack (far_element offset step v z)) (sym x.same)
      (far_runs size m x.after stack s offset v n number x.number (holds_still l.held here.scratch x.after x.value here.holds) x.stands back (omega arith))))

  -- ---- sums

  pointer_by : (direction : Direction) (size next : ℕ) (c : Scratch) (stack : List ℕ) (s : meaning.State) (block byte target : ℕ) (n : ℤ) (inside : Bool) → reaches (slice_get s.blocks block) target ≡ inside → IsNumber n → c.number ≡ word n → pos byte +ℤ distance direction size n ≡ pos target → Holds l.held c → Stands g l next c (Address s block byte ∷ stack) s → HasAt (code g l).ops next (moved_code slot direction size) → length stack + 2 ≤ (code g l).stack → Evaluates g l (next + moved_size direction) stack (pointer_if inside None block target s)
  pointer_by direction size next c stack s block byte target n false test number aside leads held st at room = tt
  pointer_by direction size next c stack s block byte target n true test number aside leads held st at room =
      let inside = reached_block s.blocks block target (slice_get s.blocks block) refl test in
      (here_stands g l (next + moved_size direction) c (Address s block target ∷ stack) s held (moved_stands direction size next c stack s block byte target n number aside leads inside st at room), inside)

  pointer_runs : (direction : Direction) (size next : ℕ) (c : Scratch) (stack : List ℕ) (s : meaning.State) (block byte : ℕ) (n z : ℤ) → IsNumber n → c.number ≡ word n → pos byte +ℤ distance direction size n ≡ z → Holds l.held c → Stands g l next c (Address s block byte ∷ stack) s → HasAt (code g l).ops next (moved_code slot direction size) → length stack + 2 ≤ (code g l).stack → Evaluates g l (next + moved_size direction) stack (pointer_at None block z s)
  pointer_runs direction size next c stack s block byte n (negsuc z) number aside leads held st at room = tt
  pointer_runs direction size next c stack s block byte n (pos target) number aside leads held st at room =
      pointer_by direction size next c stack s block byte target n (reaches (slice_get s.blocks block) target) refl number aside leads held st at room

  abbrev step_by : Direction → ℕ → ℤ → Step
  step_by direction size n = record { direction = direction; size = size; number = n }

  moved_runs : (direction : Direction) (size next : ℕ) (c : Scratch) (stack : List ℕ) (s : meaning.State) (v : Value) (n : ℤ) → IsNumber n → c.number ≡ word n → Holds l.held c → Stands g l next c (word_of g s v ∷ stack) s → HasAt (code g l).ops next (moved_code slot direction size) → length stack + 2 ≤ (code g l).stack → Evaluates g l (next + moved_size direction) stack (moved (step_by direction size n) v s)
  moved_runs direction size next c stack s (Number z) n number aside held st at room = tt
  moved_runs direction size next c stack s Null n number aside held st at room = tt
  moved_runs direction size next c stack s (At block byte) n number aside held st at room =
      pointer_runs direction size next c stack s block byte n (pos byte +ℤ distance direction size n) number aside refl held st at room

  aside_there : (direction : Direction) (size w : ℕ) (n : ℤ) → w ≡ word n → IsNumber n → IsAside (reach_to direction size) w n
  aside_there directions.Forward size w n same number = (same, number)
  aside_there directions.Backward size w n same number = (same, number)

  -- the address that is so many elements on, behind the words of a pointer and a number
  pub sum_runs : (direction : Direction) (size next : ℕ) (stack : List ℕ) (s : meaning.State) (cs : List Check) (v : Value) (n : ℤ) → All (IsSmall slot 6) cs → IsNumber n → IsKept s v → Here g l next (word n ∷ (word_of g s v ∷ stack)) s → HasAt (code g l).ops next (sum_code slot direction size cs) → length stack + 6 ≤ (code g l).stack → Evaluates g l (next + sum_size direction size cs) stack (and_then (pass (step_by direction size n) cs v s) (λ _ t. moved (step_by direction size n) v t))
  sum_runs direction size next stack s cs v n small number kept here at room =
      let r = reach_to direction size in
      let step = step_by direction size n in
      let m = next + 1 + checks_size r cs in
      let end : m + moved_size direction ≡ next + (1 + (checks_size r cs + moved_size direction)) = omega arith in
      let last = moved_code slot direction size in
      let back = has_back (code g l).ops (next + 1) (checks_code slot r cs) last (checks_size r cs) (length_checks slot r cs) at.1 in
      let c : Scratch = record here.scratch { number = word n } in
      let set = number_set g l slot is next here.scratch (word_of g s v ∷ stack) s (word n) (stands_here g l next (word n ∷ (word_of g s v ∷ stack)) s here) at.0 in
      let passes = checks_run g l slot is r cs (next + 1) c stack s v n 6 (recursion_from_All (IsSmall slot 6) cs small) (aside_there direction size (word n) n refl number) kept set (has_front (code g l).ops (next + 1) (checks_code slot r cs) last at.1) room in
      subst (λ k. Evaluates g l k stack (and_then (pass step cs v s) (λ _ t. moved step v t))) end
      (leads_on (Passes g l m stack v c s) (Arrives g l (m + moved_size direction) stack) (Finishes g) (pass step cs v s) (λ _ t. moved step v t)
      (subst (λ z. Leads (Passes g l m stack v c s) (Finishes g) (pass z cs v s)) (step_to_is direction size n) passes)
      (λ u t x.
      subst (λ z. Evaluates g l (m + moved_size direction) stack (moved step v z)) (sym x.same)
      (moved_runs direction size m x.after stack s v n number x.number (holds_still l.held here.scratch x.after x.value here.holds) x.stands back (omega arith))))

  -- ---- order

  order_act : (comparison : Comparison) (next : ℕ) (c : Scratch) (stack : List ℕ) (s : meaning.State) (a byte byte' : ℕ) → act (image g) g.settings (code g l) (order_op comparison) (frame g l next c ((a + byte') ∷ ((a + byte) ∷ stack)) s) (standing g l next c ((a + byte') ∷ ((a + byte) ∷ stack)) s) ≡ push (code g l) (bit (holds comparison (pos byte) (pos byte'))) stack (frame g l next c ((a + byte') ∷ ((a + byte) ∷ stack)) s) (standing g l next c ((a + byte') ∷ ((a + byte) ∷ stack)) s)
  order_act comparison next c stack s a byte byte' = by comparison
    where
      pushed : Bool → table.Step
      pushed test = push (code g l) (bit test) stack (frame g l next c ((a + byte') ∷ ((a + byte) ∷ stack)) s) (standing g l next c ((a + byte') ∷ ((a + byte) ∷ stack)) s)

      by : (k : Comparison) → act (image g) g.settings (code g l) (order_op k) (frame g l next c ((a + byte') ∷ ((a + byte) ∷ stack)) s) (standing g l next c ((a + byte') ∷ ((a + byte) ∷ stack)) s) ≡ pushed (holds k (pos byte) (pos byte'))
      by comparisons.Equal = ap pushed (same_test a byte byte')
      by comparisons.NotEqual = ap (λ t. pushed (not t)) (same_test a byte byte')
      by comparisons.Less = ap pushed (less_test a byte byte')
      by comparisons.LessEqual = ap pushed (up_to_test a byte byte')
      by comparisons.Greater = ap pushed (less_test a byte' byte)
      by comparisons.GreaterEqual = ap pushed (up_to_test a byte' byte)

  ordered_by : (comparison : Comparison) (next : ℕ) (stack : List ℕ) (s : meaning.State) (block byte other byte' : ℕ) (same : Bool) → (block == other) ≡ same → Here g l next (Address s other byte' ∷ (Address s block byte ∷ stack)) s → slice_get (code g l).ops next ≡ Some (order_op comparison) → length stack < (code g l).stack → Evaluates g l (next + 1) stack (ordered_if same comparison None byte byte' s)
  ordered_by comparison next stack s block byte other byte' false test here at room = tt
  ordered_by comparison next stack s block byte other byte' true test here at room =
      let e : other ≡ block = grind (arith, nat_tests) in
      let a = g.settings.base + offset_from first_offset (shapes s.blocks) block in
      let right : Address s other byte' ≡ a + byte' = omega (arith, ap (offset_from first_offset (shapes s.blocks)) e) in
      let left : Address s block byte ≡ a + byte = omega arith in
      let here' = subst (λ w. Here g l next (w ∷ (Address s block byte ∷ stack)) s) right here in
      let here'' = subst (λ w. Here g l next ((a + byte') ∷ (w ∷ stack)) s) left here' in
      test_runs g l next ((a + byte') ∷ ((a + byte) ∷ stack)) stack s (order_op comparison) (holds comparison (pos byte) (pos byte')) here'' at room (λ c. order_act comparison next c stack s a byte byte')

  ordered_runs : (comparison : Comparison) (next : ℕ) (stack : List ℕ) (s : meaning.State) (v w : Value) → Here g l next (word_of g s w ∷ (word_of g s v ∷ stack)) s → slice_get (code g l).ops next ≡ Some (order_op comparison) → length stack < (code g l).stack → Evaluates g l (next + 1) stack (ordered comparison None v w s)
  ordered_runs comparison next stack s (Number z) w here at room = tt
  ordered_runs comparison next stack s Null w here at room = tt
  ordered_runs comparison next stack s (At block byte) (Number z) here at room = tt
  ordered_runs comparison next stack s (At block byte) Null here at room = tt
  ordered_runs comparison next stack s (At block byte) (At other byte') here at room = ordered_by comparison next stack s block byte other byte' (block == other) refl here at room

  pub order_runs : (comparison : Comparison) (next : ℕ) (stack : List ℕ) (s : meaning.State) (cs ds : List Check) (v w : Value) → All (IsSmall slot 1) cs → All (IsSmall slot 1) ds → IsKept s v → IsKept s w → Here g l next (word_of g s w ∷ (word_of g s v ∷ stack)) s → HasAt (code g l).ops next (order_code slot comparison cs ds) → length stack + 2 ≤ (code g l).stack → Evaluates g l (next + order_size cs ds) stack (and_then (pass (no_step 1) cs v s) (λ _ t. and_then (pass (no_step 1) ds w t) (λ _ u. ordered comparison None v w u)))
  order_runs comparison next stack s cs ds v w small small' hv hw here at room =
      let r = Still 1 in
      let p = word_of g s v in
      let q = word_of g s w in
      let m = next + 1 + checks_size r cs in
      let n = m + 1 + checks_size r ds in
      let end : n + 1 ≡ next + (1 + (checks_size r cs + (1 + (checks_size r ds + 1)))) = omega arith in
      let second = checks_code slot r ds ++ order_op comparison ∷ [] in
      let last = ops.Local (number_slot slot) ∷ second in
      let back = has_back (code g l).ops (next + 1) (checks_code slot r cs) last (checks_size r cs) (length_checks slot r cs) at.1 in
      let behind = has_back (code g l).ops (m + 1) (checks_code slot r ds) (order_op comparison ∷ []) (checks_size r ds) (length_checks slot r ds) back.1 in
      let c : Scratch = record here.scratch { number = q } in
      let set = number_set g l slot is next here.scratch (p ∷ stack) s q (stands_here g l next (q ∷ (p ∷ stack)) s here) at.0 in
      subst (λ k. Evaluates g l k stack (and_then (pass (no_step 1) cs v s) (λ _ t. and_then (pass (no_step 1) ds w t) (λ _ u. ordered comparison None v w u)))) end
      (leads_on (Passes g l m stack v c s) (Arrives g l (n + 1) stack) (Finishes g) (pass (no_step 1) cs v s) _
      (checks_run g l slot is r cs (next + 1) c stack s v (pos 0) 1 (recursion_from_All (IsSmall slot 1) cs small) tt hv set (has_front (code g l).ops (next + 1) (checks_code slot r cs) last at.1) (omega arith))
      (λ u t x.
      let there = number_there g l slot is x.after s x.stands.kept ∙ ap Some x.number in
      let pushed = stand_slot g l m x.after (p ∷ stack) s (number_slot slot) q there x.stands back.0 (omega arith) in
      subst (λ z. Evaluates g l (n + 1) stack (and_then (pass (no_step 1) ds w z) (λ _ u. ordered comparison None v w u))) (sym x.same)
      (leads_on (Passes g l n (p ∷ stack) w x.after s) (Arrives g l (n + 1) stack) (Finishes g) (pass (no_step 1) ds w s) _
      (checks_run g l slot is r ds (m + 1) x.after (p ∷ stack) s w (pos 0) 1 (recursion_from_All (IsSmall slot 1) ds small') tt hw pushed (has_front (code g l).ops (m + 1) (checks_code slot r ds) (order_op comparison ∷ []) back.1) (omega arith))
      (λ u' t' y.
      subst (λ z. Evaluates g l (n + 1) stack (ordered comparison None v w z)) (sym y.same)
      (ordered_runs comparison n stack s v w (here_stands g l n y.after (q ∷ (p ∷ stack)) s (holds_still l.held here.scratch y.after (y.value ∙ x.value) here.holds) y.stands) behind.0 (omega arith))))))

  -- ---- casts

  pub cast_runs : (size next : ℕ) (stack : List ℕ) (s : meaning.State) (cs : List Check) (v : Value) → All (IsSmall slot 7) cs → IsKept s v → Here g l next (word_of g s v ∷ stack) s → HasAt (code g l).ops next (checks_code slot (Still size) cs) → length stack + 7 ≤ (code g l).stack → Evaluates g l (next + checks_size (Still size) cs) stack (and_then (pass (no_step size) cs v s) (λ _ t. Gives v t))
  cast_runs size next stack s cs v small kept here at room =
      let c = here.scratch in
      let m = next + checks_size (Still size) cs in
      leads_on (Passes g l m stack v c s) (Arrives g l m stack) (Finishes g) (pass (no_step size) cs v s) (λ _ t. Gives v t)
      (checks_run g l slot is (Still size) cs next c stack s v (pos 0) 7 (recursion_from_All (IsSmall slot 7) cs small) tt kept (stands_here g l next (word_of g s v ∷ stack) s here) at room)
      (λ u t x. subst (Arrives g l m stack v) (sym x.same) (here_stands g l m x.after (word_of g s v ∷ stack) s (holds_still l.held c x.after x.value here.holds) x.stands, kept))
