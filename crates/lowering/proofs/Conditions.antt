-- Conditions: tests of words, and expressions that pass over their right operand.
use Rattle.std.proofs.Common.{◌≡◌, ℕ, ◌+◌, ◌<◌, Bool, true, false, pos, List, [], ◌∷◌, length, Option, Some, None, refl, ap, ◌∙◌, subst, arith}
use Rattle.std.specs.Prelude.{slice_get, not, ◌==◌}
use Rattle.ckc_core.specs.Outcome.{Gives, and_then}
use Rattle.act_words.specs.declared.operator.Comparison.TheVariants as comparisons
use Rattle.ckc_core.specs.States.{Value}
use Rattle.ckc_core.specs.States as meaning
use Rattle.ckc_core.specs.Steps.{Result, truth, number_of_test, choose, same_place, test_given}
use Rattle.code_words.specs.declared.op.Op.TheVariants as ops
use Rattle.lowering.proofs.Executions.{Execution, word_of, IsKept}
use Rattle.lowering.proofs.Steps.{HasAt, leads_on, Finishes, Layout, code, Here, pushes, here_at, Arrives, Evaluates}
use Rattle.lowering.proofs.Expressions.{test_runs, jump_runs, branch_runs}
use Rattle.lowering.proofs.Places.{truth_word, same_words}

truth_of_test : (test : Bool) → not (truth (number_of_test (not test))) ≡ test
truth_of_test true = refl
truth_of_test false = refl

module _ (g : Execution) (l : Layout g) where
  pub zero_runs : (next : ℕ) (stack : List ℕ) (s : meaning.State) (v : Value) → IsKept s v → Here g l next (word_of g s v ∷ stack) s → slice_get (code g l).ops next ≡ Some ops.Zero → length stack < (code g l).stack → Arrives g l (next + 1) stack (number_of_test (not (truth v))) s
  zero_runs next stack s v kept here at room =
      subst (λ test. Arrives g l (next + 1) stack (number_of_test test) s) (truth_word g s v kept)
      (test_runs g l next (word_of g s v ∷ stack) stack s ops.Zero (word_of g s v == 0) here at room (λ scratch. refl))

  -- 1 for a scalar that is neither 0 nor null
  pub truth_runs : (next : ℕ) (stack : List ℕ) (s : meaning.State) (v : Value) → IsKept s v → Here g l next (word_of g s v ∷ stack) s → slice_get (code g l).ops next ≡ Some ops.Zero → slice_get (code g l).ops (next + 1) ≡ Some ops.Zero → length stack < (code g l).stack → Arrives g l (next + 1 + 1) stack (number_of_test (truth v)) s
  truth_runs next stack s v kept here at0 at1 room =
      let first = zero_runs next stack s v kept here at0 room in
      subst (λ test. Arrives g l (next + 1 + 1) stack (number_of_test test) s) (truth_of_test (truth v))
      (zero_runs (next + 1) stack s (number_of_test (not (truth v))) first.1 first.0 at1 room)

  -- the right operand counts, where the left one holds
  pub and_runs : (next size : ℕ) (stack : List ℕ) (s : meaning.State) (v : Value) (test : Bool) (o : Result Value) → truth v ≡ test → IsKept s v → Here g l next (word_of g s v ∷ stack) s → slice_get (code g l).ops next ≡ Some (ops.JumpIfZero (next + 1 + size + 3)) → HasAt (code g l).ops (next + 1 + size) (ops.Zero ∷ (ops.Zero ∷ (ops.Jump (next + 1 + size + 4) ∷ (ops.Const (pos 0) ∷ [])))) → next + 1 + size + 4 < length (code g l).ops → length stack < (code g l).stack → (Here g l (next + 1) stack s → Evaluates g l (next + 1 + size) stack o) → Evaluates g l (next + 1 + size + 4) stack (choose test (and_then o (λ b u. Gives (number_of_test (truth b)) u)) (Gives (number_of_test false) s))
  and_runs next size stack s v true o is kept here branch at low room right =
      let is_zero_word : (word_of g s v == 0) ≡ false = truth_word g s v kept ∙ ap not is in
      let inside = branch_runs g l next (word_of g s v) stack s (next + 1 + size + 3) false is_zero_word (omega arith) here branch in
      leads_on (Arrives g l (next + 1 + size) stack) (Arrives g l (next + 1 + size + 4) stack) (Finishes g) o (λ b u. Gives (number_of_test (truth b)) u) (right inside)
      (λ b u x.
      let y = truth_runs (next + 1 + size) stack u b x.1 x.0 at.0 at.1.0 room in
      (jump_runs g l (next + 1 + size + 1 + 1) (word_of g u (number_of_test (truth b)) ∷ stack) (word_of g u (number_of_test (truth b)) ∷ stack) u (ops.Jump (next + 1 + size + 4)) (next + 1 + size + 4) low y.0 at.1.1.0 (λ scratch. refl), y.1))
  and_runs next size stack s v false o is kept here branch at low room right =
      let is_zero_word : (word_of g s v == 0) ≡ true = truth_word g s v kept ∙ ap not is in
      let past = branch_runs g l next (word_of g s v) stack s (next + 1 + size + 3) true is_zero_word (omega arith) here branch in
      let place : next + 1 + size + 3 ≡ next + 1 + size + 1 + 1 + 1 = omega arith in
      let end : next + 1 + size + 1 + 1 + 1 + 1 ≡ next + 1 + size + 4 = omega arith in (
        here_at g l (next + 1 + size + 1 + 1 + 1 + 1) (next + 1 + size + 4) (0 ∷ stack) s end
            (pushes g l (next + 1 + size + 1 + 1 + 1) stack s (ops.Const (pos 0)) 0 stack (here_at g l (next + 1 + size + 3) (next + 1 + size + 1 + 1 + 1) stack s place past) at.1.1.1.0 room (λ scratch. refl)),
        refl,
      )

  -- the right operand counts, where the left one fails
  pub or_runs : (next size : ℕ) (stack : List ℕ) (s : meaning.State) (v : Value) (test : Bool) (o : Result Value) → truth v ≡ test → IsKept s v → Here g l next (word_of g s v ∷ stack) s → HasAt (code g l).ops next (ops.JumpIfZero (next + 3) ∷ (ops.Const (pos 1) ∷ (ops.Jump (next + 3 + size + 2) ∷ []))) → HasAt (code g l).ops (next + 3 + size) (ops.Zero ∷ (ops.Zero ∷ [])) → next + 3 + size + 2 < length (code g l).ops → length stack < (code g l).stack → (Here g l (next + 3) stack s → Evaluates g l (next + 3 + size) stack o) → Evaluates g l (next + 3 + size + 2) stack (choose test (Gives (number_of_test true) s) (and_then o (λ b u. Gives (number_of_test (truth b)) u)))
  or_runs next size stack s v true o is kept here front at low room right =
      let is_zero_word : (word_of g s v == 0) ≡ false = truth_word g s v kept ∙ ap not is in
      let inside = branch_runs g l next (word_of g s v) stack s (next + 3) false is_zero_word (omega arith) here front.0 in
      let one = pushes g l (next + 1) stack s (ops.Const (pos 1)) 1 stack inside front.1.0 room (λ scratch. refl) in
      (jump_runs g l (next + 1 + 1) (1 ∷ stack) (1 ∷ stack) s (ops.Jump (next + 3 + size + 2)) (next + 3 + size + 2) low one front.1.1.0 (λ scratch. refl), refl)
  or_runs next size stack s v false o is kept here front at low room right =
      let is_zero_word : (word_of g s v == 0) ≡ true = truth_word g s v kept ∙ ap not is in
      let past = branch_runs g l next (word_of g s v) stack s (next + 3) true is_zero_word (omega arith) here front.0 in
      let end : next + 3 + size + 1 + 1 ≡ next + 3 + size + 2 = omega arith in
      leads_on (Arrives g l (next + 3 + size) stack) (Arrives g l (next + 3 + size + 2) stack) (Finishes g) o (λ b u. Gives (number_of_test (truth b)) u) (right past)
      (λ b u x. subst (λ n. Arrives g l n stack (number_of_test (truth b)) u) end (truth_runs (next + 3 + size) stack u b x.1 x.0 at.0 at.1.0 room))

  -- whether two pointers are the same
  same_runs_by : (next : ℕ) (stack : List ℕ) (s : meaning.State) (v w : Value) (o : Option Bool) → same_place v w ≡ o → IsKept s v → IsKept s w → Here g l next (word_of g s w ∷ (word_of g s v ∷ stack)) s → slice_get (code g l).ops next ≡ Some (ops.Compare comparisons.Equal) → length stack < (code g l).stack → Evaluates g l (next + 1) stack (test_given o s)
  same_runs_by next stack s v w None is hv hw here at room = tt
  same_runs_by next stack s v w (Some test) is hv hw here at room =
      subst (λ t. Arrives g l (next + 1) stack (number_of_test t) s) (same_words g s v w test hv hw is)
      (test_runs g l next (word_of g s w ∷ (word_of g s v ∷ stack)) stack s (ops.Compare comparisons.Equal) (word_of g s v == word_of g s w) here at room (λ scratch. refl))

  pub same_runs : (next : ℕ) (stack : List ℕ) (s : meaning.State) (v w : Value) → IsKept s v → IsKept s w → Here g l next (word_of g s w ∷ (word_of g s v ∷ stack)) s → slice_get (code g l).ops next ≡ Some (ops.Compare comparisons.Equal) → length stack < (code g l).stack → Evaluates g l (next + 1) stack (test_given (same_place v w) s)
  same_runs next stack s v w hv hw here at room = same_runs_by next stack s v w (same_place v w) refl hv hw here at room
