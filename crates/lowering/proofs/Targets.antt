-- A place is that of its target: the pointer and the number of an element are computed, and then the place is found from them.
use Rattle.std.proofs.Common.{◌≡◌, ℕ, Bool, true, false, pos, Option, Some, None, refl, sym, ◌∙◌}
use Rattle.std.specs.Prelude.{nat_lt, length}
use Rattle.ckc_core.specs.Outcome.{Gives, Ends, Stuck, Unsound, Short, and_then}
use Rattle.ckc_core.specs.States.{Value, At, Cell, cell_at}
use Rattle.ckc_core.specs.States as meaning
use Rattle.ckc_core.specs.Steps.{Result, place_at, variable_if}
use Rattle.check_insertion.specs.Erased as erased
use Rattle.check_insertion.specs.ErasedMeaning.{Knot, Setting, Target, step_to, pass, reached, value, place, number_of, target_of, place_from}

-- one step behind two others
behind_two : {A B C : Type 0} (o : Result A) (first : A → meaning.State → Result B) (second : B → meaning.State → Result C) → and_then (and_then o first) second ≡ and_then o (λ a t. and_then (first a t) second)
behind_two (Gives a t) first second = refl
behind_two (Ends ending t) first second = refl
behind_two (Stuck site t) first second = refl
behind_two (Unsound site t) first second = refl
behind_two Short first second = refl

then_same : {A B : Type 0} (o : Result A) (first second : A → meaning.State → Result B) → ((a : A) (t : meaning.State) → first a t ≡ second a t) → and_then o first ≡ and_then o second
then_same (Gives a t) first second same = same a t
then_same (Ends ending t) first second same = refl
then_same (Stuck site t) first second same = refl
then_same (Unsound site t) first second same = refl
then_same Short first second same = refl

module _ (g : Setting) (k : Knot) {A : Type 0} (more : ℕ × ℕ → meaning.State → Result A) where
  direct_by : (object offset : ℕ) (low : Bool) (o : Option Cell) (s : meaning.State) → cell_at s.blocks object offset ≡ o
      → and_then (and_then (variable_if low object offset s) (λ at t. Gives (record { pointer = At at.0 at.1; number = pos 0 }) t)) (λ (q : Target) t. and_then (place_at None object offset t) more) ≡ and_then (variable_if low object offset s) more
  direct_by object offset false o s is = refl
  direct_by object offset true None s is = rw is refl
  direct_by object offset true (Some c) s is = rw is (rw is refl)

  pub target_then : (p : erased.Place) (s : meaning.State) → and_then (target_of g k p s) (λ q t. and_then (place_from p q t) more) ≡ and_then (place g k p s) more
  target_then (erased.Direct object offset) s = direct_by object offset (nat_lt object (length g.program.objects)) (cell_at s.blocks object offset) s refl
  target_then (erased.Through pointer index offset checks) s =
      let at = λ (v : Value) (n : _) (u : meaning.State). and_then (pass (step_to index n) checks v u) (λ _ w. reached index offset (step_to index n) v w) in
      let aim = λ (v : Value) (t : meaning.State). and_then (number_of g k index t) (λ n u. Gives (record { pointer = v; number = n }) u) in
      let from = λ (q : Target) (t : meaning.State). and_then (place_from (erased.Through pointer index offset checks) q t) more in
      let first = behind_two (value g k pointer s) aim from in
      let second = then_same (value g k pointer s) (λ v t. and_then (aim v t) from) (λ v t. and_then (number_of g k index t) (λ n u. and_then (at v n u) more)) (λ v t. behind_two (number_of g k index t) (λ n u. Gives (record { pointer = v; number = n }) u) from) in
      let third = then_same (value g k pointer s) (λ v t. and_then (and_then (number_of g k index t) (at v)) more) (λ v t. and_then (number_of g k index t) (λ n u. and_then (at v n u) more)) (λ v t. behind_two (number_of g k index t) (at v) more) in
      let fourth = behind_two (value g k pointer s) (λ v t. and_then (number_of g k index t) (at v)) more in
      first ∙ second ∙ sym third ∙ sym fourth
