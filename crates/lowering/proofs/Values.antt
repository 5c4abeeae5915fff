-- The code of an expression leaves the word of its value.
use Rattle.std.proofs.Common.{◌≡◌, ℕ, ◌+◌, ◌<◌, ◌≤◌, ℤ, pos, List, [], ◌∷◌, ◌++◌, length, Option, Some, None, refl, sym, subst, arith}
use Rattle.std.specs.Prelude.{max, slice_get, not}
use Rattle.std.specs.List.{AllByRecursion}
use Rattle.ckc_core.specs.Outcome.{Gives, Ends, Stuck, Unsound, Short, and_then}
use Rattle.act_words.specs.Checks.{is_word_number}
use Rattle.act_words.specs.declared.operator.Comparison.TheVariants as comparisons
use Rattle.ckc_core.specs.declared.program.Callee.{Callee}
use Rattle.ckc_core.specs.declared.program.Callee.TheVariants as callees
use Rattle.ckc_core.specs.declared.program.Terminator.{Terminator}
use Rattle.ckc_core.specs.Programs.{Initial}
use Rattle.ckc_core.specs.Pointers.{number_given, element_size, allocated}
use Rattle.check_insertion.specs.declared.erased.Check.{Check}
use Rattle.check_insertion.specs.Erased as erased
use Rattle.ckc_core.specs.States.{Value, Number, Null, At, Grows, shapes}
use Rattle.ckc_core.specs.States as meaning
use Rattle.ckc_core.specs.Steps.{Result, setting_of, truth, number_of_test, arithmetic_of, compared, negated, complemented, low_byte_of, same_place, test_given, pointer_to, load_at, called, result_given}
use Rattle.check_insertion.specs.ErasedMeaning.{Knot, Setting, value, values, place, number_of}
use Rattle.code_words.specs.declared.op.Op.{Op}
use Rattle.code_words.specs.declared.op.Op.TheVariants as ops
use Rattle.lowering.specs.Code.{Still, operator_code, load_code, checks_code, checks_size, through_code, through_size, sum_code, sum_size, order_code, order_size, index_code, index_size, expression_size, arguments_size, place_size, expression_code, arguments_code, place_code, callee_code, allocation_code}
use Rattle.check_insertion.specs.Stacks.{expression_stack, arguments_stack, place_stack, index_stack}
use Rattle.lowering.specs.Sized.{IsElement, SizedExpression, SizedArguments, SizedPlace, SizedIndex}
use Rattle.lowering.proofs.Shapes.{kept_grows, word_grows}
use Rattle.lowering.proofs.Executions.{Execution, word_of, IsKept}
use Rattle.lowering.proofs.Steps.{HasAt, has_front, has_back, Leads, leads_on, Finishes, Layout, code, Here, pushes, here_at, Arrives, Evaluates, evaluates_at, from, here_from, here_on, both}
use Rattle.lowering.proofs.Sizes.{length_expression, length_arguments, length_place, length_index, stack_above, place_above}
use Rattle.lowering.proofs.Expressions.{number_runs, local_runs, operator_runs, comparison_runs, negation_runs, complement_runs, low_byte_runs, input_runs}
use Rattle.lowering.proofs.Places.{Placed, variable_runs, load_runs}
use Rattle.lowering.proofs.Accesses.{index_pile, IsIndex, SmallChecks, most_words, through_runs, sum_runs, order_runs, cast_runs}
use Rattle.lowering.proofs.Allocations.{allocation_runs}
use Rattle.lowering.proofs.TextLengths.{length_runs}
use Rattle.lowering.proofs.Conditions.{zero_runs, and_runs, or_runs, same_runs}
use Rattle.lowering.proofs.Calls.{piled, KnotRuns, Resumes, call_runs}
use Rattle.lowering.proofs.Tainted.{tainted_runs}

-- what the meaning knows of a run
abbrev pub setting : Execution → Setting
setting g = setting_of g.program g.settings

-- one step behind two others
and_then_twice : {A B C : Type 0} (o : Result A) (first : A → meaning.State → Result B) (second : B → meaning.State → Result C) → and_then (and_then o first) second ≡ and_then o (λ a t. and_then (first a t) second)
and_then_twice (Gives a t) first second = refl
and_then_twice (Ends ending t) first second = refl
and_then_twice (Stuck site t) first second = refl
and_then_twice (Unsound site t) first second = refl
and_then_twice Short first second = refl

pub small_checks : (slot : ℕ) (index : erased.Index) (checks : List Check) → SizedIndex slot index checks → SmallChecks slot index checks
small_checks slot erased.First checks sized = sized
small_checks slot (erased.Element number size) checks sized = sized.2

pub few_words : (index : erased.Index) → most_words index ≤ max 1 (index_stack index)
few_words erased.First = omega arith
few_words (erased.Element number size) = omega arith

module _ (g : Execution) where
  -- the values' words are on the stack, the last on top
  pub record Piles (l : Layout g) (next : ℕ) (stack : List ℕ) (vs : List Value) (s : meaning.State) : Type 0 where
    pub here : Here g l next (piled g s vs stack) s
    pub kept : AllByRecursion (IsKept s) vs

  -- a value whose word lies below those of others is one of them
  piled_on : (l : Layout g) (next : ℕ) (stack : List ℕ) (v : Value) (vs : List Value) (s t : meaning.State) → Grows l.since (shapes s.blocks) → IsKept s v → Piles (from g l s) next (word_of g s v ∷ stack) vs t → Piles l next stack (v ∷ vs) t
  piled_on l next stack v vs s t grows kept x =
      let added = x.here.kept.grows in
      let same = sym (word_grows g.settings.base (shapes s.blocks) (shapes t.blocks) v added kept) in
      record {
        here = subst (λ w. Here g l next (piled g t vs (w ∷ stack)) t) same (here_on g l next (piled g t vs (word_of g s v ∷ stack)) s t grows x.here);
        kept = (kept_grows (shapes s.blocks) (shapes t.blocks) v added kept, x.kept);
      }

  -- the result of a call that has one
  given_result : (l : Layout g) (next : ℕ) (stack : List ℕ) (v : Option Value) (s : meaning.State) → Resumes g l next stack v s → Evaluates g l next stack (result_given v s)
  given_result l next stack None s h = tt
  given_result l next stack (Some v) s h = h

  module _ (k : Knot) (runs : KnotRuns g k) where
    -- the code of an expression, where it stands, leaves its value
    abbrev pub ExpressionRuns : erased.Expression → Type 0
    ExpressionRuns e = (l : Layout g) (slot : ℕ) → slot ≡ length l.function.locals → SizedExpression slot e → (next : ℕ) (stack : List ℕ) (s : meaning.State) → Here g l next stack s → HasAt (code g l).ops next (expression_code slot next e) → length stack + expression_stack e ≤ (code g l).stack → next + expression_size e < length (code g l).ops → Evaluates g l (next + expression_size e) stack (value (setting g) k e s)

    abbrev pub ArgumentsRun : erased.Arguments → Type 0
    ArgumentsRun args = (l : Layout g) (slot : ℕ) → slot ≡ length l.function.locals → SizedArguments slot args → (next : ℕ) (stack : List ℕ) (s : meaning.State) → Here g l next stack s → HasAt (code g l).ops next (arguments_code slot next args) → length stack + arguments_stack args ≤ (code g l).stack → next + arguments_size args < length (code g l).ops → Leads (Piles l (next + arguments_size args) stack) (Finishes g) (values (setting g) k args s)

    -- an operand, and the instruction that follows it
    unary_runs : (operand : erased.Expression) (op : Op) (more : Value → meaning.State → Result Value) → ExpressionRuns operand → (l : Layout g) (slot : ℕ) → slot ≡ length l.function.locals → SizedExpression slot operand → (next : ℕ) (stack : List ℕ) (s : meaning.State) → ((m : ℕ) (v : Value) (t : meaning.State) → IsKept t v → Here g l m (word_of g t v ∷ stack) t → slice_get (code g l).ops m ≡ Some op → length stack < (code g l).stack → Evaluates g l (m + 1) stack (more v t)) → Here g l next stack s → HasAt (code g l).ops next (expression_code slot next operand ++ op ∷ []) → length stack + expression_stack operand ≤ (code g l).stack → next + (expression_size operand + 1) < length (code g l).ops → Evaluates g l (next + (expression_size operand + 1)) stack (and_then (value (setting g) k operand s) more)
    unary_runs operand op more operand_runs l slot is sized next stack s behind here at room low =
        let m = next + expression_size operand in
        let first = expression_code slot next operand in
        let end : m + 1 ≡ next + (expression_size operand + 1) = omega arith in
        evaluates_at g l (m + 1) (next + (expression_size operand + 1)) stack (and_then (value (setting g) k operand s) more) end
        (leads_on (Arrives g l m stack) (Arrives g l (m + 1) stack) (Finishes g) (value (setting g) k operand s) more
        (operand_runs l slot is sized next stack s here (has_front (code g l).ops next first (op ∷ []) at) room (omega arith))
        (λ v t x. behind m v t x.1 x.0 (has_back (code g l).ops next first (op ∷ []) (expression_size operand) (length_expression slot next operand) at).0 (omega (arith, stack_above operand))))

    -- two operands, and the instruction that follows them
    binary_runs : (left right : erased.Expression) (op : Op) (more : Value → Value → meaning.State → Result Value) → ExpressionRuns left → ExpressionRuns right → (l : Layout g) (slot : ℕ) → slot ≡ length l.function.locals → SizedExpression slot left × SizedExpression slot right → (next : ℕ) (stack : List ℕ) (s : meaning.State) → ((m : ℕ) (v w : Value) (t : meaning.State) → IsKept t v → IsKept t w → Here g l m (word_of g t w ∷ (word_of g t v ∷ stack)) t → slice_get (code g l).ops m ≡ Some op → length stack < (code g l).stack → Evaluates g l (m + 1) stack (more v w t)) → Here g l next stack s → HasAt (code g l).ops next (expression_code slot next left ++ (expression_code slot (next + expression_size left) right ++ op ∷ [])) → length stack + max (expression_stack left) (1 + expression_stack right) ≤ (code g l).stack → next + (expression_size left + (expression_size right + 1)) < length (code g l).ops → Evaluates g l (next + (expression_size left + (expression_size right + 1))) stack (and_then (value (setting g) k left s) (λ v t. and_then (value (setting g) k right t) (more v)))
    binary_runs left right op more left_runs right_runs l slot is sized next stack s behind here at room low =
        let m = next + expression_size left in
        let n = m + expression_size right in
        let first = expression_code slot next left in
        let second = expression_code slot m right in
        let back = has_back (code g l).ops next first (second ++ op ∷ []) (expression_size left) (length_expression slot next left) at in
        let end : n + 1 ≡ next + (expression_size left + (expression_size right + 1)) = omega arith in
        evaluates_at g l (n + 1) (next + (expression_size left + (expression_size right + 1))) stack (and_then (value (setting g) k left s) (λ v t. and_then (value (setting g) k right t) (more v))) end
        (leads_on (Arrives g l m stack) (Arrives g l (n + 1) stack) (Finishes g) (value (setting g) k left s) _
        (left_runs l slot is sized.0 next stack s here (has_front (code g l).ops next first (second ++ op ∷ []) at) (omega arith) (omega arith))
        (λ v t x. leads_on (Arrives g (from g l t) n (word_of g t v ∷ stack)) (Arrives g l (n + 1) stack) (Finishes g) (value (setting g) k right t) (more v)
        (right_runs (from g l t) slot is sized.1 m (word_of g t v ∷ stack) t (here_from g l m (word_of g t v ∷ stack) t x.0) (has_front (code g l).ops m second (op ∷ []) back) (omega arith) (omega arith))
        (λ w u y.
        let z = both g l n stack v w t u x.0.kept.grows x.1 y in
        behind n v w u z.below z.top z.here (has_back (code g l).ops m second (op ∷ []) (expression_size right) (length_expression slot m right) back).0 (omega (arith, stack_above left)))))

    -- a call of values, whose words lie on the stack
    callee_runs : (callee : Callee) (l : Layout g) (m : ℕ) (stack : List ℕ) (vs : List Value) (t : meaning.State) → Piles l m stack vs t → HasAt (code g l).ops m (ops.Tick ∷ (callee_code callee ∷ [])) → length stack < (code g l).stack → Leads (Resumes g l (m + 1 + 1) stack) (Finishes g) (called (setting g) k callee vs t)
    callee_runs (callees.Trusted function) l m stack vs t x at room = call_runs g l k runs m stack t function vs x.kept x.here at room
    callee_runs (callees.Tainted import site) l m stack vs t x at room = tainted_runs g l k runs m stack t import site vs x.here at room

    -- the arguments of a call, its instructions, and what follows the call
    pub called_runs : {A : Type 0} (H : A → meaning.State → Type 0) (args : erased.Arguments) (callee : Callee) (more : Option Value → meaning.State → Result A) → ArgumentsRun args → (l : Layout g) (slot : ℕ) → slot ≡ length l.function.locals → SizedArguments slot args → (next : ℕ) (stack : List ℕ) (s : meaning.State) → ((v : Option Value) (t : meaning.State) → Resumes g l (next + (arguments_size args + 2)) stack v t → Leads H (Finishes g) (more v t)) → Here g l next stack s → HasAt (code g l).ops next (arguments_code slot next args ++ ops.Tick ∷ (callee_code callee ∷ [])) → length stack < (code g l).stack → length stack + arguments_stack args ≤ (code g l).stack → next + (arguments_size args + 2) < length (code g l).ops → Leads H (Finishes g) (and_then (values (setting g) k args s) (λ vs t. and_then (called (setting g) k callee vs t) more))
    called_runs H args callee more args_run l slot is sized next stack s behind here at free room low =
        let m = next + arguments_size args in
        let last = ops.Tick ∷ (callee_code callee ∷ []) in
        let end : m + 1 + 1 ≡ next + (arguments_size args + 2) = omega arith in
        leads_on (Piles l m stack) H (Finishes g) (values (setting g) k args s) _
        (args_run l slot is sized next stack s here (has_front (code g l).ops next (arguments_code slot next args) last at) room (omega arith))
        (λ vs t x. leads_on (Resumes g l (m + 1 + 1) stack) H (Finishes g) (called (setting g) k callee vs t) more
        (callee_runs callee l m stack vs t x (has_back (code g l).ops next (arguments_code slot next args) last (arguments_size args) (length_arguments slot next args) at) free)
        (λ v u y. behind v u (subst (λ n. Resumes g l n stack v u) end y)))

    -- a pointer's word, and that of the number of an element above it, where an access has one
    pub record Indexed (l : Layout g) (index : erased.Index) (next : ℕ) (stack : List ℕ) (v : Value) (z : ℤ) (t : meaning.State) : Type 0 where
      pub here : Here g l next (index_pile index z (word_of g t v ∷ stack)) t
      pub number : IsIndex index z
      pub kept : IsKept t v

    numbered : (l : Layout g) (number : erased.Expression) (size next : ℕ) (stack : List ℕ) (v w : Value) (t u : meaning.State) → Grows l.since (shapes t.blocks) → IsKept t v → Arrives g (from g l t) next (word_of g t v ∷ stack) w u → Leads (Indexed l (erased.Element number size) next stack v) (Finishes g) (number_given None w u)
    numbered l number size next stack v (Number z) t u grows kept y =
        let b = both g l next stack v (Number z) t u grows kept y in
        record { here = b.here; number = b.top; kept = b.below }
    numbered l number size next stack v Null t u grows kept y = tt
    numbered l number size next stack v (At block byte) t u grows kept y = tt

    -- a number above a pointer
    number_above : (number : erased.Expression) (size : ℕ) → ExpressionRuns number → (l : Layout g) (slot : ℕ) → slot ≡ length l.function.locals → SizedExpression slot number → (m : ℕ) (stack : List ℕ) (v : Value) (t : meaning.State) → Arrives g l m stack v t → HasAt (code g l).ops m (expression_code slot m number) → length stack + (1 + expression_stack number) ≤ (code g l).stack → m + expression_size number < length (code g l).ops → Leads (Indexed l (erased.Element number size) (m + expression_size number) stack v) (Finishes g) (and_then (value (setting g) k number t) (number_given None))
    number_above number size number_runs l slot is sized m stack v t x at room low =
        let n = m + expression_size number in
        leads_on (Arrives g (from g l t) n (word_of g t v ∷ stack)) (Indexed l (erased.Element number size) n stack v) (Finishes g) (value (setting g) k number t) (number_given None)
        (number_runs (from g l t) slot is sized m (word_of g t v ∷ stack) t (here_from g l m (word_of g t v ∷ stack) t x.0) at (omega arith) low)
        (λ w u y. numbered l number size n stack v w t u x.0.kept.grows x.1 y)

    -- a count, and the block that is made
    allocated_runs : (l : Layout g) (m : ℕ) (stack : List ℕ) (v : Value) (t : meaning.State) (terminator : Terminator) (element : List Initial) → IsElement element → IsKept t v → Here g l m (word_of g t v ∷ stack) t → slice_get (code g l).ops m ≡ Some (allocation_code terminator (element_size element)) → length stack < (code g l).stack → Evaluates g l (m + 1) stack (and_then (number_given None v t) (allocated g.settings.trusted terminator element))
    allocated_runs l m stack (Number z) t terminator element is kept here at room = allocation_runs g l m stack t terminator z element is kept here at room
    allocated_runs l m stack Null t terminator element is kept here at room = tt
    allocated_runs l m stack (At block byte) t terminator element is kept here at room = tt

    mutual
      -- the value of an expression
      pub value_runs : (e : erased.Expression) (l : Layout g) (slot : ℕ) → slot ≡ length l.function.locals → SizedExpression slot e → (next : ℕ) (stack : List ℕ) (s : meaning.State) → Here g l next stack s → HasAt (code g l).ops next (expression_code slot next e) → length stack + expression_stack e ≤ (code g l).stack → next + expression_size e < length (code g l).ops → Evaluates g l (next + expression_size e) stack (value (setting g) k e s)
      value_runs (erased.Number z) l slot is sized next stack s here at room low = number_runs g l next stack s z (is_word_number z) refl here at.0 (omega arith)
      value_runs erased.Null l slot is sized next stack s here at room low = (pushes g l next stack s (ops.Const (pos 0)) 0 stack here at.0 (omega arith) (λ scratch. refl), tt)
      value_runs (erased.Local n) l slot is sized next stack s here at room low = local_runs g l next stack s n (slice_get s.locals n) refl here at.0 (omega arith)
      value_runs (erased.Load type p) l slot is sized next stack s here at room low =
          let m = next + place_size p in
          let last = load_code type ∷ [] in
          let end : m + 1 ≡ next + (place_size p + 1) = omega arith in
          evaluates_at g l (m + 1) (next + (place_size p + 1)) stack (value (setting g) k (erased.Load type p) s) end
          (leads_on (Placed g l m stack) (Arrives g l (m + 1) stack) (Finishes g) (place (setting g) k p s) (load_at type None)
          (place_runs p l slot is sized next stack s here (has_front (code g l).ops next (place_code slot next p) last at) room (omega arith))
          (λ at_cell t x. load_runs g l m stack t type None at_cell x (has_back (code g l).ops next (place_code slot next p) last (place_size p) (length_place slot next p) at).0 (omega (arith, place_above p))))
      value_runs (erased.AddressOf p) l slot is sized next stack s here at room low =
          let m = next + place_size p in
          leads_on (Placed g l m stack) (Arrives g l m stack) (Finishes g) (place (setting g) k p s) pointer_to
          (place_runs p l slot is sized next stack s here at room low) (λ at_cell t x. x)
      value_runs (erased.Negate operand site) l slot is sized next stack s here at room low =
          unary_runs operand (ops.Neg site.place) (negated site) (value_runs operand) l slot is sized next stack s (λ m v t. negation_runs g l m stack t site v) here at room low
      value_runs (erased.Complement operand) l slot is sized next stack s here at room low =
          unary_runs operand ops.Not complemented (value_runs operand) l slot is sized next stack s (λ m v t. complement_runs g l m stack t v) here at room low
      value_runs (erased.Not operand) l slot is sized next stack s here at room low =
          unary_runs operand ops.Zero (λ v t. Gives (number_of_test (not (truth v))) t) (value_runs operand) l slot is sized next stack s (λ m v t. zero_runs g l m stack t v) here at room low
      value_runs (erased.LowByte operand) l slot is sized next stack s here at room low =
          unary_runs operand ops.Byte low_byte_of (value_runs operand) l slot is sized next stack s (λ m v t. low_byte_runs g l m stack t v) here at room low
      value_runs (erased.Arithmetic operator left right site) l slot is sized next stack s here at room low =
          binary_runs left right (operator_code operator site) (arithmetic_of operator site) (value_runs left) (value_runs right) l slot is sized next stack s (λ m v w t. operator_runs g l m stack t operator site v w) here at room low
      value_runs (erased.Compare comparison left right) l slot is sized next stack s here at room low =
          binary_runs left right (ops.Compare comparison) (compared comparison) (value_runs left) (value_runs right) l slot is sized next stack s (λ m v w t. comparison_runs g l m stack t comparison v w) here at room low
      value_runs (erased.Same left right) l slot is sized next stack s here at room low =
          binary_runs left right (ops.Compare comparisons.Equal) (λ v w t. test_given (same_place v w) t) (value_runs left) (value_runs right) l slot is sized next stack s (λ m v w t. same_runs g l m stack t v w) here at room low
      value_runs (erased.AndAlso left right) l slot is sized next stack s here at room low =
          let m = next + expression_size left in
          let n = expression_size right in
          let second = expression_code slot (m + 1) right in
          let last = ops.Zero ∷ (ops.Zero ∷ (ops.Jump (m + 1 + n + 4) ∷ (ops.Const (pos 0) ∷ []))) in
          let rest = ops.JumpIfZero (m + 1 + n + 3) ∷ (second ++ last) in
          let back = has_back (code g l).ops next (expression_code slot next left) rest (expression_size left) (length_expression slot next left) at in
          let end : m + 1 + n + 4 ≡ next + (expression_size left + (n + 5)) = omega arith in
          evaluates_at g l (m + 1 + n + 4) (next + (expression_size left + (n + 5))) stack (value (setting g) k (erased.AndAlso left right) s) end
          (leads_on (Arrives g l m stack) (Arrives g l (m + 1 + n + 4) stack) (Finishes g) (value (setting g) k left s) _
          (value_runs left l slot is sized.0 next stack s here (has_front (code g l).ops next (expression_code slot next left) rest at) (omega arith) (omega arith))
          (λ v t x. and_runs g l m n stack t v (truth v) (value (setting g) k right t) refl x.1 x.0 back.0 (has_back (code g l).ops (m + 1) second last n (length_expression slot (m + 1) right) back.1) (omega arith) (omega (arith, stack_above left))
          (λ inside. value_runs right l slot is sized.1 (m + 1) stack t inside (has_front (code g l).ops (m + 1) second last back.1) (omega arith) (omega arith))))
      value_runs (erased.OrElse left right) l slot is sized next stack s here at room low =
          let m = next + expression_size left in
          let n = expression_size right in
          let second = expression_code slot (m + 3) right in
          let last = ops.Zero ∷ (ops.Zero ∷ []) in
          let rest = ops.JumpIfZero (m + 3) ∷ (ops.Const (pos 1) ∷ (ops.Jump (m + 3 + n + 2) ∷ (second ++ last))) in
          let back = has_back (code g l).ops next (expression_code slot next left) rest (expression_size left) (length_expression slot next left) at in
          let three : m + 1 + 1 + 1 ≡ m + 3 = omega arith in
          let behind = subst (λ i. HasAt (code g l).ops i (second ++ last)) three back.1.1.1 in
          let end : m + 3 + n + 2 ≡ next + (expression_size left + (n + 5)) = omega arith in
          evaluates_at g l (m + 3 + n + 2) (next + (expression_size left + (n + 5))) stack (value (setting g) k (erased.OrElse left right) s) end
          (leads_on (Arrives g l m stack) (Arrives g l (m + 3 + n + 2) stack) (Finishes g) (value (setting g) k left s) _
          (value_runs left l slot is sized.0 next stack s here (has_front (code g l).ops next (expression_code slot next left) rest at) (omega arith) (omega arith))
          (λ v t x. or_runs g l m n stack t v (truth v) (value (setting g) k right t) refl x.1 x.0 (back.0, (back.1.0, (back.1.1.0, tt))) (has_back (code g l).ops (m + 3) second last n (length_expression slot (m + 3) right) behind) (omega arith) (omega (arith, stack_above left))
          (λ inside. value_runs right l slot is sized.1 (m + 3) stack t inside (has_front (code g l).ops (m + 3) second last behind) (omega arith) (omega arith))))
      value_runs (erased.Call callee args) l slot is sized next stack s here at room low =
          called_runs (Arrives g l (next + (arguments_size args + 2)) stack) args callee result_given (arguments_run args) l slot is sized next stack s
          (given_result l (next + (arguments_size args + 2)) stack) here at (omega arith) (omega arith) low
      value_runs erased.NextInput l slot is sized next stack s here at room low = input_runs g l next stack s here at.0 (omega arith)
      value_runs (erased.Sum pointer direction number size checks) l slot is sized next stack s here at room low =
          let m = next + expression_size pointer in
          let n = m + expression_size number in
          let step = sum_size direction size checks in
          let first = expression_code slot next pointer in
          let second = expression_code slot m number in
          let last = sum_code slot direction size checks in
          let back = has_back (code g l).ops next first (second ++ last) (expression_size pointer) (length_expression slot next pointer) at in
          let end : n + step ≡ next + (expression_size pointer + (expression_size number + step)) = omega arith in
          evaluates_at g l (n + step) (next + (expression_size pointer + (expression_size number + step))) stack (value (setting g) k (erased.Sum pointer direction number size checks) s) end
          (leads_on (Arrives g l m stack) (Arrives g l (n + step) stack) (Finishes g) (value (setting g) k pointer s) _
          (value_runs pointer l slot is sized.0 next stack s here (has_front (code g l).ops next first (second ++ last) at) (omega arith) (omega arith))
          (λ v t x. leads_on (Indexed l (erased.Element number size) n stack v) (Arrives g l (n + step) stack) (Finishes g) (and_then (value (setting g) k number t) (number_given None)) _
          (number_above number size (value_runs number) l slot is sized.1 m stack v t x (has_front (code g l).ops m second last back) (omega arith) (omega arith))
          (λ z u y. sum_runs g l slot is direction size n stack u checks v z sized.3 y.number y.kept y.here (has_back (code g l).ops m second last (expression_size number) (length_expression slot m number) back) (omega arith))))
      value_runs (erased.Order comparison left left_checks right right_checks) l slot is sized next stack s here at room low =
          let m = next + expression_size left in
          let n = m + expression_size right in
          let step = order_size left_checks right_checks in
          let first = expression_code slot next left in
          let second = expression_code slot m right in
          let last = order_code slot comparison left_checks right_checks in
          let back = has_back (code g l).ops next first (second ++ last) (expression_size left) (length_expression slot next left) at in
          let end : n + step ≡ next + (expression_size left + (expression_size right + step)) = omega arith in
          evaluates_at g l (n + step) (next + (expression_size left + (expression_size right + step))) stack (value (setting g) k (erased.Order comparison left left_checks right right_checks) s) end
          (leads_on (Arrives g l m stack) (Arrives g l (n + step) stack) (Finishes g) (value (setting g) k left s) _
          (value_runs left l slot is sized.0 next stack s here (has_front (code g l).ops next first (second ++ last) at) (omega arith) (omega arith))
          (λ v t x. leads_on (Arrives g (from g l t) n (word_of g t v ∷ stack)) (Arrives g l (n + step) stack) (Finishes g) (value (setting g) k right t) _
          (value_runs right (from g l t) slot is sized.1 m (word_of g t v ∷ stack) t (here_from g l m (word_of g t v ∷ stack) t x.0) (has_front (code g l).ops m second last back) (omega arith) (omega arith))
          (λ w u y.
          let z = both g l n stack v w t u x.0.kept.grows x.1 y in
          order_runs g l slot is comparison n stack u left_checks right_checks v w sized.2 sized.3 z.below z.top z.here (has_back (code g l).ops m second last (expression_size right) (length_expression slot m right) back) (omega arith))))
      value_runs (erased.Length pointer size checks) l slot is sized next stack s here at room low =
          let m = next + expression_size pointer in
          let first = expression_code slot next pointer in
          let last = checks_code slot (Still size) checks ++ ops.TextLength ∷ [] in
          let step = checks_size (Still size) checks + 1 in
          let end : m + step ≡ next + (expression_size pointer + step) = omega arith in
          evaluates_at g l (m + step) (next + (expression_size pointer + step)) stack (value (setting g) k (erased.Length pointer size checks) s) end
          (leads_on (Arrives g l m stack) (Arrives g l (m + step) stack) (Finishes g) (value (setting g) k pointer s) _
          (value_runs pointer l slot is sized.0 next stack s here (has_front (code g l).ops next first last at) (omega arith) (omega arith))
          (λ v t x. length_runs g l slot is size m stack t checks v sized.2 x.1 x.0 (has_back (code g l).ops next first last (expression_size pointer) (length_expression slot next pointer) at) (omega arith)))
      value_runs (erased.Allocate count element terminator) l slot is sized next stack s here at room low =
          let m = next + expression_size count in
          let first = expression_code slot next count in
          let last = allocation_code terminator (element_size element) ∷ [] in
          let end : m + 1 ≡ next + (expression_size count + 1) = omega arith in
          evaluates_at g l (m + 1) (next + (expression_size count + 1)) stack (value (setting g) k (erased.Allocate count element terminator) s) end
          (subst (Evaluates g l (m + 1) stack) (sym (and_then_twice (value (setting g) k count s) (number_given None) (allocated g.settings.trusted terminator element)))
          (leads_on (Arrives g l m stack) (Arrives g l (m + 1) stack) (Finishes g) (value (setting g) k count s) _
          (value_runs count l slot is sized.0 next stack s here (has_front (code g l).ops next first last at) room (omega arith))
          (λ v t x. allocated_runs l m stack v t terminator element sized.1 x.1 x.0 (has_back (code g l).ops next first last (expression_size count) (length_expression slot next count) at).0 (omega (arith, stack_above count)))))
      value_runs (erased.Cast pointer size checks) l slot is sized next stack s here at room low =
          let m = next + expression_size pointer in
          let first = expression_code slot next pointer in
          let last = checks_code slot (Still size) checks in
          let step = checks_size (Still size) checks in
          let end : m + step ≡ next + (expression_size pointer + step) = omega arith in
          evaluates_at g l (m + step) (next + (expression_size pointer + step)) stack (value (setting g) k (erased.Cast pointer size checks) s) end
          (leads_on (Arrives g l m stack) (Arrives g l (m + step) stack) (Finishes g) (value (setting g) k pointer s) _
          (value_runs pointer l slot is sized.0 next stack s here (has_front (code g l).ops next first last at) (omega arith) (omega arith))
          (λ v t x. cast_runs g l slot is size m stack t checks v sized.2 x.1 x.0 (has_back (code g l).ops next first last (expression_size pointer) (length_expression slot next pointer) at) (omega arith)))

      -- the values of arguments
      pub arguments_run : (args : erased.Arguments) (l : Layout g) (slot : ℕ) → slot ≡ length l.function.locals → SizedArguments slot args → (next : ℕ) (stack : List ℕ) (s : meaning.State) → Here g l next stack s → HasAt (code g l).ops next (arguments_code slot next args) → length stack + arguments_stack args ≤ (code g l).stack → next + arguments_size args < length (code g l).ops → Leads (Piles l (next + arguments_size args) stack) (Finishes g) (values (setting g) k args s)
      arguments_run erased.Done l slot is sized next stack s here at room low =
          let none : next ≡ next + 0 = omega arith in
          record { here = here_at g l next (next + 0) stack s none here; kept = tt }
      arguments_run (erased.More first rest) l slot is sized next stack s here at room low =
          let m = next + expression_size first in
          let n = m + arguments_size rest in
          let back = has_back (code g l).ops next (expression_code slot next first) (arguments_code slot m rest) (expression_size first) (length_expression slot next first) at in
          let end : n ≡ next + (expression_size first + arguments_size rest) = omega arith in
          subst (λ n. Leads (Piles l n stack) (Finishes g) (values (setting g) k (erased.More first rest) s)) end
          (leads_on (Arrives g l m stack) (Piles l n stack) (Finishes g) (value (setting g) k first s) _
          (value_runs first l slot is sized.0 next stack s here (has_front (code g l).ops next (expression_code slot next first) (arguments_code slot m rest) at) (omega arith) (omega arith))
          (λ v t x. leads_on (Piles (from g l t) n (word_of g t v ∷ stack)) (Piles l n stack) (Finishes g) (values (setting g) k rest t) _
          (arguments_run rest (from g l t) slot is sized.1 m (word_of g t v ∷ stack) t (here_from g l m (word_of g t v ∷ stack) t x.0) back (omega arith) (omega arith))
          (λ vs u y. piled_on l n stack v vs t u x.0.kept.grows x.1 y)))

      -- the address of a cell
      pub place_runs : (p : erased.Place) (l : Layout g) (slot : ℕ) → slot ≡ length l.function.locals → SizedPlace slot p → (next : ℕ) (stack : List ℕ) (s : meaning.State) → Here g l next stack s → HasAt (code g l).ops next (place_code slot next p) → length stack + place_stack p ≤ (code g l).stack → next + place_size p < length (code g l).ops → Leads (Placed g l (next + place_size p) stack) (Finishes g) (place (setting g) k p s)
      place_runs (erased.Direct object offset) l slot is sized next stack s here at room low = variable_runs g l next stack s object offset here at room
      place_runs (erased.Through pointer index offset checks) l slot is sized next stack s here at room low =
          let first = expression_code slot next pointer in
          let m = next + expression_size pointer in
          let n = m + index_size index in
          let second = index_code slot m index in
          let last = through_code slot index offset checks in
          let step = through_size index offset checks in
          let back = has_back (code g l).ops next first (second ++ last) (expression_size pointer) (length_expression slot next pointer) at in
          let end : n + step ≡ next + (expression_size pointer + (index_size index + step)) = omega arith in
          subst (λ i. Leads (Placed g l i stack) (Finishes g) (place (setting g) k (erased.Through pointer index offset checks) s)) end
          (leads_on (Arrives g l m stack) (Placed g l (n + step) stack) (Finishes g) (value (setting g) k pointer s) _
          (value_runs pointer l slot is sized.0 next stack s here (has_front (code g l).ops next first (second ++ last) at) (omega arith) (omega arith))
          (λ v t x. leads_on (Indexed l index n stack v) (Placed g l (n + step) stack) (Finishes g) (number_of (setting g) k index t) _
          (index_runs index checks l slot is sized.1 m stack v t x (has_front (code g l).ops m second last back) (omega arith) (omega arith))
          (λ z u y. through_runs g l slot is index n stack u offset checks v z (small_checks slot index checks sized.1) y.number y.kept y.here (has_back (code g l).ops m second last (index_size index) (length_index slot m index) back) (omega arith) (omega (arith, stack_above pointer, few_words index)))))

      -- the number of an element, above its pointer's word
      pub index_runs : (index : erased.Index) (checks : List Check) (l : Layout g) (slot : ℕ) → slot ≡ length l.function.locals → SizedIndex slot index checks → (m : ℕ) (stack : List ℕ) (v : Value) (t : meaning.State) → Arrives g l m stack v t → HasAt (code g l).ops m (index_code slot m index) → length stack + index_stack index ≤ (code g l).stack → m + index_size index < length (code g l).ops → Leads (Indexed l index (m + index_size index) stack v) (Finishes g) (number_of (setting g) k index t)
      index_runs erased.First checks l slot is sized m stack v t x at room low =
          let none : m ≡ m + 0 = omega arith in
          record { here = here_at g l m (m + 0) (word_of g t v ∷ stack) t none x.0; number = tt; kept = x.1 }
      index_runs (erased.Element number size) checks l slot is sized m stack v t x at room low =
          number_above number size (value_runs number) l slot is sized.0 m stack v t x at (omega arith) low
