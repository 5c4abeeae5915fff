-- What single instructions of an expression leave on the stack.
use Rattle.std.proofs.Common.{◌≡◌, ℕ, zero, suc, ◌+◌, ◌%◌, ◌^◌, ◌<◌, Bool, true, false, ℤ, neg_ℤ, List, [], ◌∷◌, ◌++◌, length, map, Option, Some, None, refl, sym, ap, ◌∙◌, subst, arith}
use Rattle.std.specs.Prelude.{slice_get, nat_lt, not, ◌==◌}
use Rattle.std.specs.List.{AllByRecursion}
use Rattle.std.proofs.lemmas.Bool.Decides.{nat_tests}
use Rattle.ckc_text.specs.declared.code.Code.TheVariants.{S1}
use Rattle.act_words.specs.declared.ending.Ending.TheVariants.{Stop}
use Rattle.ckc_core.specs.Outcome.{Gives}
use Rattle.act_words.specs.Checks.{Checked, Holds, Fails, is_word_number}
use Rattle.act_words.specs.Numbers.{word}
use Rattle.act_words.specs.Arithmetic as arithmetic
use Rattle.act_words.specs.Operators.{bitwise_result, holds}
use Rattle.act_words.specs.Arithmetic.{bit}
use Rattle.act_words.specs.World.{spent_one, with_inputs}
use Rattle.act_words.specs.Touches.{input_from, next_input, spent_if, spend_tick}
use Rattle.ckc_core.specs.declared.program.Site.{Site}
use Rattle.act_words.specs.declared.operator.Operator.{Operator}
use Rattle.act_words.specs.declared.operator.Operator.TheVariants as operators
use Rattle.act_words.specs.declared.operator.Comparison.{Comparison}
use Rattle.act_words.specs.declared.operator.Comparison.TheVariants as comparisons
use Rattle.ckc_core.specs.States.{Value, Number, Null, At, Local}
use Rattle.ckc_core.specs.States as meaning
use Rattle.ckc_core.specs.Steps.{given, checked, value_if, number_of_test, result_of, arithmetic_of, compared, negated, complemented, low_byte_of}
use Rattle.ckc_core.specs.Steps as meanings
use Rattle.code_words.specs.Table as table
use Rattle.code_words.specs.Table.{act, push, push_some, push_checked}
use Rattle.code_words.specs.declared.op.Op.{Op}
use Rattle.code_words.specs.declared.op.Op.TheVariants as ops
use Rattle.lowering.specs.Code.{operator_code}
use Rattle.ckc_core.proofs.Elements.{of_element}
use Rattle.lowering.proofs.Worlds.{KeptWorld}
use Rattle.ckc_core.proofs.Numbers.{IsNumber, IfHolds, bits_small, signed-word, word_small, word-signed, signed_fits, equal_words, complement_fits, overflow_fits, result_fits}
use Rattle.lowering.proofs.Executions.{Execution, image, word_of, IsKept}
use Rattle.lowering.proofs.Steps.{Asks, Finishes, Layout, code, frame, standing, Here, kept_in, moved, pushes_in, pushes, ended, Arrives, Evaluates, Scratch, words}

-- ---- lists

-- an element of a list that is mapped, with more behind it
pub mapped_there : {X Y : Type 0} (f : X → Y) (xs : List X) (ys : List Y) (k : ℕ) (x : X) → slice_get xs k ≡ Some x → slice_get (map f xs ++ ys) k ≡ Some (f x)
mapped_there f [] ys k x h = absurd (cc)
mapped_there f (y ∷ xs) ys zero x h = let e : y ≡ x = cc in ap (λ z. Some (f z)) e
mapped_there f (y ∷ xs) ys (suc k) x h = mapped_there f xs ys k x h

-- an index at which something stands
pub index_below : {X : Type 0} (xs : List X) (i : ℕ) (x : X) → slice_get xs i ≡ Some x → i < length xs
index_below [] i x h = absurd (cc)
index_below (y ∷ xs) zero x h = omega arith
index_below (y ∷ xs) (suc i) x h = omega (arith, index_below xs i x h)

-- ---- numbers

-- the word of a test's number
pub bit_word : (g : Execution) (s : meaning.State) (test : Bool) → word_of g s (number_of_test test) ≡ bit test
bit_word g s true = refl
bit_word g s false = refl

pub test_kept : (s : meaning.State) (test : Bool) → IsKept s (number_of_test test)
test_kept s true = refl
test_kept s false = refl

-- where a branch goes
abbrev pub chosen : Bool → ℕ → ℕ → ℕ
chosen true target next = target
chosen false target next = next

module _ (g : Execution) (l : Layout g) where
  -- ---- values that are pushed

  pub number_runs : (next : ℕ) (stack : List ℕ) (s : meaning.State) (z : ℤ) (fits : Bool) → is_word_number z ≡ fits → Here g l next stack s → slice_get (code g l).ops next ≡ Some (ops.Const z) → length stack < (code g l).stack → Evaluates g l (next + 1) stack (value_if fits None (Number z) s)
  number_runs next stack s z true fits here at room = (pushes g l next stack s (ops.Const z) (word z) stack here at room (λ scratch. refl), fits)
  number_runs next stack s z false fits here at room = tt

  pub local_runs : (next : ℕ) (stack : List ℕ) (s : meaning.State) (k : ℕ) (o : Option Local) → slice_get s.locals k ≡ o → Here g l next stack s → slice_get (code g l).ops next ≡ Some (ops.Local k) → length stack < (code g l).stack → Evaluates g l (next + 1) stack (given o s)
  local_runs next stack s k None h here at room = tt
  local_runs next stack s k (Some x) h here at room = (
    pushes g l next stack s (ops.Local k) (word_of g s x.value) stack here at room
        (λ scratch. ap (λ o. push_some (code g l) o stack (frame g l next scratch stack s) (standing g l next scratch stack s)) (mapped_there (λ (y : Local). word_of g s y.value) s.locals (words scratch) k x h)),
    of_element (λ (y : Local). IsKept s y.value) s.locals k x here.kept.locals h,
  )

  -- ---- operators

  -- pushes the number of a check, or ends
  pub checked_runs : (next : ℕ) (old stack : List ℕ) (s : meaning.State) (op : Op) (c : Checked ℤ) → IfHolds IsNumber c → Here g l next old s → slice_get (code g l).ops next ≡ Some op → length stack < (code g l).stack → ((w : Scratch) → act (image g) g.settings (code g l) op (frame g l next w old s) (standing g l next w old s) ≡ push_checked (code g l) c stack (frame g l next w old s) (standing g l next w old s)) → Evaluates g l (next + 1) stack (checked c s)
  checked_runs next old stack s op (Holds z) fits here at room is = (pushes g l next old s op (word z) stack here at room is, fits)
  checked_runs next old stack s op (Fails ending) fits here at room is = ended g l next old s op ending s here at here.kept.blocks is

  -- the instruction of an operator, on two words
  operated : (operator : Operator) (site : Site) (a b : ℤ) (next : ℕ) (w : Scratch) (stack : List ℕ) (s : meaning.State) → IsNumber a → IsNumber b → act (image g) g.settings (code g l) (operator_code operator site) (frame g l next w (word b ∷ (word a ∷ stack)) s) (standing g l next w (word b ∷ (word a ∷ stack)) s) ≡ push_checked (code g l) (result_of operator site a b) stack (frame g l next w (word b ∷ (word a ∷ stack)) s) (standing g l next w (word b ∷ (word a ∷ stack)) s)
  operated (operators.Arithmetic operator) site a b next w stack s ha hb = rw (signed-word a ha, signed-word b hb) refl
  operated (operators.Bitwise operator) site a b next w stack s ha hb =
      let e = word-signed (bitwise_result operator (word a) (word b)) (bits_small operator (word a) (word b) (word_small a ha) (word_small b hb)) in
      ap (λ n. push (code g l) n stack (frame g l next w (word b ∷ (word a ∷ stack)) s) (standing g l next w (word b ∷ (word a ∷ stack)) s)) (sym e)

  -- an operator on two values, whose words lie on the stack
  pub operator_runs : (next : ℕ) (stack : List ℕ) (s : meaning.State) (operator : Operator) (site : Site) (v w : Value) → IsKept s v → IsKept s w → Here g l next (word_of g s w ∷ (word_of g s v ∷ stack)) s → slice_get (code g l).ops next ≡ Some (operator_code operator site) → length stack < (code g l).stack → Evaluates g l (next + 1) stack (arithmetic_of operator site v w s)
  operator_runs next stack s operator site (Number a) (Number b) hv hw here at room =
      checked_runs next (word b ∷ (word a ∷ stack)) stack s (operator_code operator site) (result_of operator site a b) (result_fits operator site a b hv hw) here at room (λ scratch. operated operator site a b next scratch stack s hv hw)
  operator_runs next stack s operator site (Number a) Null hv hw here at room = tt
  operator_runs next stack s operator site (Number a) (At block byte) hv hw here at room = tt
  operator_runs next stack s operator site Null w hv hw here at room = tt
  operator_runs next stack s operator site (At block byte) w hv hw here at room = tt

  -- the number of a test is pushed
  pub test_runs : (next : ℕ) (old stack : List ℕ) (s : meaning.State) (op : Op) (test : Bool) → Here g l next old s → slice_get (code g l).ops next ≡ Some op → length stack < (code g l).stack → ((w : Scratch) → act (image g) g.settings (code g l) op (frame g l next w old s) (standing g l next w old s) ≡ push (code g l) (bit test) stack (frame g l next w old s) (standing g l next w old s)) → Arrives g l (next + 1) stack (number_of_test test) s
  test_runs next old stack s op test here at room is =
      (subst (λ n. Here g l (next + 1) (n ∷ stack) s) (sym (bit_word g s test)) (pushes g l next old s op (bit test) stack here at room is), test_kept s test)

  -- the instruction of a comparison, on two words
  compared_words : (comparison : Comparison) (a b : ℤ) (next : ℕ) (w : Scratch) (stack : List ℕ) (s : meaning.State) → IsNumber a → IsNumber b → act (image g) g.settings (code g l) (ops.Compare comparison) (frame g l next w (word b ∷ (word a ∷ stack)) s) (standing g l next w (word b ∷ (word a ∷ stack)) s) ≡ push (code g l) (bit (holds comparison a b)) stack (frame g l next w (word b ∷ (word a ∷ stack)) s) (standing g l next w (word b ∷ (word a ∷ stack)) s)
  compared_words comparisons.Equal a b next w stack s ha hb = ap (λ t. push (code g l) (bit t) stack (frame g l next w (word b ∷ (word a ∷ stack)) s) (standing g l next w (word b ∷ (word a ∷ stack)) s)) (equal_words a b ha hb)
  compared_words comparisons.NotEqual a b next w stack s ha hb = ap (λ t. push (code g l) (bit (not t)) stack (frame g l next w (word b ∷ (word a ∷ stack)) s) (standing g l next w (word b ∷ (word a ∷ stack)) s)) (equal_words a b ha hb)
  compared_words comparisons.Less a b next w stack s ha hb = rw (signed-word a ha, signed-word b hb) refl
  compared_words comparisons.LessEqual a b next w stack s ha hb = rw (signed-word a ha, signed-word b hb) refl
  compared_words comparisons.Greater a b next w stack s ha hb = rw (signed-word a ha, signed-word b hb) refl
  compared_words comparisons.GreaterEqual a b next w stack s ha hb = rw (signed-word a ha, signed-word b hb) refl

  pub comparison_runs : (next : ℕ) (stack : List ℕ) (s : meaning.State) (comparison : Comparison) (v w : Value) → IsKept s v → IsKept s w → Here g l next (word_of g s w ∷ (word_of g s v ∷ stack)) s → slice_get (code g l).ops next ≡ Some (ops.Compare comparison) → length stack < (code g l).stack → Evaluates g l (next + 1) stack (compared comparison v w s)
  comparison_runs next stack s comparison (Number a) (Number b) hv hw here at room =
      test_runs next (word b ∷ (word a ∷ stack)) stack s (ops.Compare comparison) (holds comparison a b) here at room (λ scratch. compared_words comparison a b next scratch stack s hv hw)
  comparison_runs next stack s comparison (Number a) Null hv hw here at room = tt
  comparison_runs next stack s comparison (Number a) (At block byte) hv hw here at room = tt
  comparison_runs next stack s comparison Null w hv hw here at room = tt
  comparison_runs next stack s comparison (At block byte) w hv hw here at room = tt

  pub negation_runs : (next : ℕ) (stack : List ℕ) (s : meaning.State) (site : Site) (v : Value) → IsKept s v → Here g l next (word_of g s v ∷ stack) s → slice_get (code g l).ops next ≡ Some (ops.Neg site.place) → length stack < (code g l).stack → Evaluates g l (next + 1) stack (negated site v s)
  negation_runs next stack s site (Number b) hv here at room =
      checked_runs next (word b ∷ stack) stack s (ops.Neg site.place) (arithmetic.negation site.place b) (overflow_fits site.place (neg_ℤ b)) here at room (λ scratch. rw (signed-word b hv) refl)
  negation_runs next stack s site Null hv here at room = tt
  negation_runs next stack s site (At block byte) hv here at room = tt

  pub complement_runs : (next : ℕ) (stack : List ℕ) (s : meaning.State) (v : Value) → IsKept s v → Here g l next (word_of g s v ∷ stack) s → slice_get (code g l).ops next ≡ Some ops.Not → length stack < (code g l).stack → Evaluates g l (next + 1) stack (complemented v s)
  complement_runs next stack s (Number b) hv here at room =
      let w = arithmetic.complement (word b) in
      (subst (λ n. Here g l (next + 1) (n ∷ stack) s) (sym (word-signed w (complement_fits (word b)))) (pushes g l next (word b ∷ stack) s ops.Not w stack here at room (λ scratch. refl)), signed_fits w (complement_fits (word b)))
  complement_runs next stack s Null hv here at room = tt
  complement_runs next stack s (At block byte) hv here at room = tt

  pub low_byte_runs : (next : ℕ) (stack : List ℕ) (s : meaning.State) (v : Value) → IsKept s v → Here g l next (word_of g s v ∷ stack) s → slice_get (code g l).ops next ≡ Some ops.Byte → length stack < (code g l).stack → Evaluates g l (next + 1) stack (low_byte_of v s)
  low_byte_runs next stack s (Number b) hv here at room =
      let low : nat_lt (word b % 256) (2 ^ 31) ≡ true = grind (arith, nat_tests) in
      (pushes g l next (word b ∷ stack) s ops.Byte (word b % 256) stack here at room (λ scratch. refl), low)
  low_byte_runs next stack s Null hv here at room = tt
  low_byte_runs next stack s (At block byte) hv here at room = tt

  -- ---- what the world gives

  input_from_runs : (inputs : List ℤ) (next : ℕ) (stack : List ℕ) (s : meaning.State) → AllByRecursion IsNumber inputs → Here g l next stack s → slice_get (code g l).ops next ≡ Some ops.NextInput → length stack < (code g l).stack → ((scratch : Scratch) → act (image g) g.settings (code g l) ops.NextInput (frame g l next scratch stack s) (standing g l next scratch stack s) ≡ table.asked (input_from inputs s.world) (standing g l next scratch stack s) (λ number t. push (code g l) (word number) stack (frame g l next scratch stack s) t)) → Evaluates g l (next + 1) stack (meanings.asked (input_from inputs s.world) s (λ number t. Gives (Number number) t))
  input_from_runs [] next stack s all here at room is = (pushes g l next stack s ops.NextInput 0 stack here at room is, refl)
  input_from_runs (z ∷ inputs) next stack s all here at room is =
      let kept : KeptWorld (with_inputs inputs s.world) = record { acts = here.kept.world.acts; inputs = all.1 } in
      (pushes_in g l next stack s ops.NextInput (word z) stack (with_inputs inputs s.world) kept here at room is, all.0)

  pub input_runs : (next : ℕ) (stack : List ℕ) (s : meaning.State) → Here g l next stack s → slice_get (code g l).ops next ≡ Some ops.NextInput → length stack < (code g l).stack → Evaluates g l (next + 1) stack (meanings.asked (next_input s.world) s (λ number t. Gives (Number number) t))
  input_runs next stack s here at room = input_from_runs s.world.inputs next stack s here.kept.world.inputs here at room (λ scratch. refl)

  -- a tick is spent, or the budget is
  spent_runs : (next : ℕ) (stack : List ℕ) (s : meaning.State) (left : Bool) → nat_lt s.world.ticks g.settings.budget ≡ left → Here g l next stack s → slice_get (code g l).ops next ≡ Some ops.Tick → Asks (λ u w. Here g l (next + 1) stack (meaning.in_world w s)) (λ ending w. Finishes g ending (meaning.in_world w s)) (spent_if left s.world)
  spent_runs next stack s true test here at =
      let kept : KeptWorld (spent_one s.world) = record { acts = here.kept.world.acts; inputs = here.kept.world.inputs } in
      moved g l next stack s ops.Tick (next + 1) stack (meaning.in_world (spent_one s.world) s) here at (kept_in g l s (spent_one s.world) here.kept kept) (λ scratch. rw test refl)
  spent_runs next stack s false test here at =
      ended g l next stack s ops.Tick (Stop S1 None) s here at here.kept.blocks (λ scratch. rw test refl)

  pub tick_runs : (next : ℕ) (stack : List ℕ) (s : meaning.State) → Here g l next stack s → slice_get (code g l).ops next ≡ Some ops.Tick → Asks (λ u w. Here g l (next + 1) stack (meaning.in_world w s)) (λ ending w. Finishes g ending (meaning.in_world w s)) (spend_tick g.settings.budget s.world)
  tick_runs next stack s here at = spent_runs next stack s (nat_lt s.world.ticks g.settings.budget) refl here at

  -- ---- jumps

  -- to an instruction that is there
  pub jump_runs : (next : ℕ) (old stack : List ℕ) (s : meaning.State) (op : Op) (target : ℕ) → target < length (code g l).ops → Here g l next old s → slice_get (code g l).ops next ≡ Some op → ((w : Scratch) → act (image g) g.settings (code g l) op (frame g l next w old s) (standing g l next w old s) ≡ table.jump (code g l) target stack (frame g l next w old s) (standing g l next w old s)) → Here g l target stack s
  jump_runs next old stack s op target low here at is =
      let test : nat_lt target (length (code g l).ops) ≡ true = grind (arith, nat_tests) in
      moved g l next old s op target stack s here at here.kept (λ scratch. is scratch ∙ rw test refl)

  -- by a condition's word: to the target where it is 0, and else to the next instruction
  pub branch_runs : (next : ℕ) (w : ℕ) (stack : List ℕ) (s : meaning.State) (target : ℕ) (is_zero_word : Bool) → (w == 0) ≡ is_zero_word → target < length (code g l).ops → Here g l next (w ∷ stack) s → slice_get (code g l).ops next ≡ Some (ops.JumpIfZero target) → Here g l (chosen is_zero_word target (next + 1)) stack s
  branch_runs next w stack s target true test low here at = jump_runs next (w ∷ stack) stack s (ops.JumpIfZero target) target low here at (λ scratch. rw test refl)
  branch_runs next w stack s target false test low here at = moved g l next (w ∷ stack) s (ops.JumpIfZero target) (next + 1) stack s here at here.kept (λ scratch. rw test refl)
