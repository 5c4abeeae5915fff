-- As many marks as there are locals, and the numbers of those that have one.
use Rattle.std.proofs.Common.{◌≡◌, ℕ, suc, ◌+◌, ◌<◌, ◌≤◌, Bool, true, false, List, [], ◌∷◌, length, replicate, Vec, Global, Option, Some, None, Result, Ok, Err, IfOk, refl, ap, ◌∙◌, length-set, arith}
use Rattle.std.specs.List.{All}
use Rattle.std.proofs.lemmas.List.{length-replicate}
use Rattle.std.proofs.lemmas.List.Elements.{All-nil, All-cons}
use Rattle.ckc_tree.specs.declared.identifier.Identifier.{Identifier}
use Rattle.ckc_tree.specs.Expressions as e
use Rattle.ckc_tree.specs.Expressions.{Expression}
use Rattle.ckc_tree.specs.Statements as s
use Rattle.ckc_tree.specs.Statements.{Assignment, ForInitial, Statement, Statements}
use Rattle.region_typing_rules.specs.Scopes.{Visible}
use Rattle.region_typing_rules.specs.Knowing.{local_number, target_marked, assignment_marked, bundle_marked, step_marked, hidden_by, hidden_first, first_marked, marked, all_marked, numbers_marked}

-- ---- as many marks as there were

name_keeps : (vs : List Visible) (name : Identifier) (ms : List Bool) (o : Option ℕ) → local_number vs name.number ≡ o → length (target_marked vs (e.Name name) ms) ≡ length ms
name_keeps vs name ms None h = rw h refl
name_keeps vs name ms (Some local) h = rw h (length-set ms local true)

target_keeps : (vs : List Visible) (x : Expression) (ms : List Bool) → length (target_marked vs x ms) ≡ length ms
target_keeps vs (e.Name name) ms = name_keeps vs name ms (local_number vs name.number) refl
target_keeps vs _ ms = refl

assignment_keeps : (vs : List Visible) (a : Assignment) (ms : List Bool) → length (assignment_marked vs a ms) ≡ length ms
assignment_keeps vs (s.Store operator target value span) ms = target_keeps vs target ms
assignment_keeps vs (s.Step operator side target span) ms = target_keeps vs target ms

bundle_keeps : (vs : List Visible) (xs : List Assignment) (ms : List Bool) → length (bundle_marked vs xs ms) ≡ length ms
bundle_keeps vs [] ms = refl
bundle_keeps vs (a ∷ xs) ms = bundle_keeps vs xs (assignment_marked vs a ms) ∙ assignment_keeps vs a ms

step_keeps : (vs : List Visible) (step : Option Assignment) (ms : List Bool) → length (step_marked vs step ms) ≡ length ms
step_keeps vs None ms = refl
step_keeps vs (Some a) ms = assignment_keeps vs a ms

first_keeps : (vs : List Visible) (initial : ForInitial) (ms : List Bool) → length (first_marked vs initial ms) ≡ length ms
first_keeps vs s.Nothing ms = refl
first_keeps vs (s.Declares d) ms = refl
first_keeps vs (s.Assigns a) ms = assignment_keeps vs a ms

mutual
  statement_keeps : (beyond : ℕ) (vs : List Visible) (x : Statement) (ms : List Bool) → length (marked beyond vs x ms) ≡ length ms
  statement_keeps beyond vs (s.Block mark inner span) ms = statements_keep beyond vs inner ms
  statement_keeps beyond vs (s.Bundle assignments span) ms = bundle_keeps vs assignments ms
  statement_keeps beyond vs (s.Declare d span) ms = refl
  statement_keeps beyond vs (s.Assign a span) ms = assignment_keeps vs a ms
  statement_keeps beyond vs (s.CallAlone call span) ms = refl
  statement_keeps beyond vs (s.Empty span) ms = refl
  statement_keeps beyond vs (s.If test consequent span) ms = statement_keeps beyond vs consequent ms
  statement_keeps beyond vs (s.IfElse test consequent alternative span) ms = statement_keeps beyond vs alternative (marked beyond vs consequent ms) ∙ statement_keeps beyond vs consequent ms
  statement_keeps beyond vs (s.While test body span) ms = statement_keeps beyond vs body ms
  statement_keeps beyond vs (s.For initial test step body span) ms =
      let ws = hidden_first beyond initial vs in
      let first = first_marked vs initial ms in
      step_keeps ws step (marked beyond ws body first) ∙ statement_keeps beyond ws body first ∙ first_keeps vs initial ms
  statement_keeps beyond vs (s.Return value span) ms = refl
  statement_keeps beyond vs (s.Break span) ms = refl
  statement_keeps beyond vs (s.Continue span) ms = refl

  statements_keep : (beyond : ℕ) (vs : List Visible) (xs : Statements) (ms : List Bool) → length (all_marked beyond vs xs ms) ≡ length ms
  statements_keep beyond vs s.NoMore ms = refl
  statements_keep beyond vs (s.Then first others) ms = statements_keep beyond (hidden_by beyond first vs) others (marked beyond vs first ms) ∙ statement_keeps beyond vs first ms

-- a mark for each local
pub mark_each : (limit count beyond : ℕ) (vs ws : List Visible) (x : Statement) (step : Option Assignment) (none inner all slice : List Bool)
    → count ≡ limit → none ≡ replicate count false → inner ≡ marked beyond vs x none → all ≡ step_marked ws step inner → slice ≡ all → length slice ≡ limit
mark_each limit count beyond vs ws x step none inner all slice each start so_far are same =
    ap length same ∙ ap length are ∙ step_keeps ws step inner ∙ ap length so_far ∙ statement_keeps beyond vs x none ∙ ap length start ∙ length-replicate count false ∙ each

-- ---- numbers

numbers_below : (limit local : ℕ) (ms : List Bool) → local + length ms ≤ limit → All (λ x. x < limit) (numbers_marked local ms)
numbers_below limit local [] h = All-nil (λ x. x < limit)
numbers_below limit local (true ∷ ms) h = All-cons (λ x. x < limit) local (numbers_marked (suc local) ms) (omega (arith, h)) (numbers_below limit (suc local) ms (omega (arith, h)))
numbers_below limit local (false ∷ ms) h = numbers_below limit (suc local) ms (omega (arith, h))

-- each number is one of a local
pub all_below : {E : Type 0} (limit : ℕ) (r : Result (Vec ℕ Global) E) (ms : List Bool) → length ms ≡ limit → IfOk r (λ v. v.items ≡ numbers_marked 0 ms) → IfOk r (λ v. All (λ x. x < limit) v.items)
all_below limit (Ok v) ms all are = rw are (numbers_below limit 0 ms (omega (arith, all)))
all_below limit (Err e) ms all are = tt
