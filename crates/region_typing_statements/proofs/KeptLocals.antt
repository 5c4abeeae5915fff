-- The first assignment of a local that bounds name, where there are no bounds.
use Rattle.std.proofs.Common.{◌≡◌, ℕ, List, [], ◌∷◌, Option, Some, None, refl}
use Rattle.ckc_text.specs.declared.place.Span.{Span}
use Rattle.ckc_tree.specs.declared.identifier.Identifier.{Identifier}
use Rattle.ckc_tree.specs.Expressions as e
use Rattle.ckc_tree.specs.Expressions.{Expression}
use Rattle.ckc_tree.specs.Statements as s
use Rattle.ckc_tree.specs.Statements.{Assignment, ForInitial, Statement, Statements}
use Rattle.region_typing_rules.specs.Scopes.{Visible}
use Rattle.region_typing_rules.specs.Items.{names}
use Rattle.region_typing_rules.specs.Knowing.{local_number, hidden_by, hidden_first}
use Rattle.region_typing_rules.specs.KeptParameters.{target_changed, assignment_changed, bundle_changed, step_changed, first_changed, changed, all_changed}

name_kept : (vs : List Visible) (name : Identifier) (span : Span) (o : Option ℕ) → local_number vs name.number ≡ o → target_changed (names None) vs (e.Name name) span ≡ None
name_kept vs name span None h = rw h refl
name_kept vs name span (Some local) h = rw h refl

target_kept : (vs : List Visible) (x : Expression) (span : Span) → target_changed (names None) vs x span ≡ None
target_kept vs (e.Name name) span = name_kept vs name span (local_number vs name.number) refl
target_kept vs _ span = refl

assignment_kept : (vs : List Visible) (a : Assignment) → assignment_changed (names None) vs a ≡ None
assignment_kept vs (s.Store operator target value span) = target_kept vs target span
assignment_kept vs (s.Step operator side target span) = target_kept vs target span

bundle_kept : (vs : List Visible) (xs : List Assignment) → bundle_changed (names None) vs xs ≡ None
bundle_kept vs [] = refl
bundle_kept vs (a ∷ xs) = rw (assignment_kept vs a) (bundle_kept vs xs)

step_kept : (vs : List Visible) (step : Option Assignment) → step_changed (names None) vs step ≡ None
step_kept vs None = refl
step_kept vs (Some a) = assignment_kept vs a

first_kept : (vs : List Visible) (initial : ForInitial) → first_changed (names None) vs initial ≡ None
first_kept vs s.Nothing = refl
first_kept vs (s.Declares d) = refl
first_kept vs (s.Assigns a) = assignment_kept vs a

mutual
  statement_kept : (beyond : ℕ) (vs : List Visible) (x : Statement) → changed (names None) beyond vs x ≡ None
  statement_kept beyond vs (s.Block mark inner span) = all_kept beyond vs inner
  statement_kept beyond vs (s.Bundle assignments span) = bundle_kept vs assignments
  statement_kept beyond vs (s.Declare d span) = refl
  statement_kept beyond vs (s.Assign a span) = assignment_kept vs a
  statement_kept beyond vs (s.CallAlone call span) = refl
  statement_kept beyond vs (s.Empty span) = refl
  statement_kept beyond vs (s.If test consequent span) = statement_kept beyond vs consequent
  statement_kept beyond vs (s.IfElse test consequent alternative span) = rw (statement_kept beyond vs consequent) (statement_kept beyond vs alternative)
  statement_kept beyond vs (s.While test body span) = statement_kept beyond vs body
  statement_kept beyond vs (s.For initial test step body span) =
      let ws = hidden_first beyond initial vs in
      rw (first_kept vs initial, step_kept ws step) (statement_kept beyond ws body)
  statement_kept beyond vs (s.Return value span) = refl
  statement_kept beyond vs (s.Break span) = refl
  statement_kept beyond vs (s.Continue span) = refl

  -- where there are no bounds, they name no local that is assigned
  pub all_kept : (beyond : ℕ) (vs : List Visible) (xs : Statements) → all_changed (names None) beyond vs xs ≡ None
  all_kept beyond vs s.NoMore = refl
  all_kept beyond vs (s.Then first others) = rw (statement_kept beyond vs first) (all_kept beyond (hidden_by beyond first vs) others)
