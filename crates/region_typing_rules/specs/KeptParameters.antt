-- The first assignment of a local that may not be assigned: a parameter that the bounds of a result name.
use Rattle.std.specs.Prelude.{ℕ, Bool, List, [], ◌∷◌, Option, Some, None}
use Rattle.ckc_text.specs.declared.place.Span.{Span}
use Rattle.ckc_tree.specs.Expressions as e
use Rattle.ckc_tree.specs.Expressions.{Expression}
use Rattle.ckc_tree.specs.Statements as s
use Rattle.ckc_tree.specs.Statements.{Assignment, ForInitial, Statement, Statements}
use Rattle.region_typing_rules.specs.Verdicts.{picked}
use Rattle.region_typing_rules.specs.Scopes.{Visible}
use Rattle.region_typing_rules.specs.Knowing.{hidden_by, hidden_first, local_number}

abbrev pub first_of : Option Span → Option Span → Option Span
first_of None later = later
first_of (Some span) later = Some span

abbrev pub changed_at : (ℕ → Bool) → Option ℕ → Span → Option Span
changed_at kept None span = None
changed_at kept (Some local) span = picked (kept local) (Some span) None

abbrev pub target_changed : (ℕ → Bool) → List Visible → Expression → Span → Option Span
target_changed kept visible (e.Name name) span = changed_at kept (local_number visible name.number) span
target_changed kept visible _ span = None

abbrev pub assignment_changed : (ℕ → Bool) → List Visible → Assignment → Option Span
assignment_changed kept visible (s.Store operator target value span) = target_changed kept visible target span
assignment_changed kept visible (s.Step operator side target span) = target_changed kept visible target span

abbrev pub bundle_changed : (ℕ → Bool) → List Visible → List Assignment → Option Span
bundle_changed kept visible [] = None
bundle_changed kept visible (a ∷ assignments) = first_of (assignment_changed kept visible a) (bundle_changed kept visible assignments)

abbrev pub step_changed : (ℕ → Bool) → List Visible → Option Assignment → Option Span
step_changed kept visible None = None
step_changed kept visible (Some a) = assignment_changed kept visible a

abbrev pub first_changed : (ℕ → Bool) → List Visible → ForInitial → Option Span
first_changed kept visible s.Nothing = None
first_changed kept visible (s.Declares d) = None
first_changed kept visible (s.Assigns a) = assignment_changed kept visible a

abbrev mutual
  -- where a statement assigns such a local first, in the order of the source
  pub changed : (ℕ → Bool) → (beyond : ℕ) → List Visible → Statement → Option Span
  changed kept beyond visible (s.Block mark inner span) = all_changed kept beyond visible inner
  changed kept beyond visible (s.Bundle assignments span) = bundle_changed kept visible assignments
  changed kept beyond visible (s.Declare d span) = None
  changed kept beyond visible (s.Assign a span) = assignment_changed kept visible a
  changed kept beyond visible (s.CallAlone call span) = None
  changed kept beyond visible (s.Empty span) = None
  changed kept beyond visible (s.If test consequent span) = changed kept beyond visible consequent
  changed kept beyond visible (s.IfElse test consequent alternative span) =
      first_of (changed kept beyond visible consequent) (changed kept beyond visible alternative)
  changed kept beyond visible (s.While test body span) = changed kept beyond visible body
  changed kept beyond visible (s.For initial test step body span) =
      first_of (first_changed kept visible initial)
      (first_of (step_changed kept (hidden_first beyond initial visible) step) (changed kept beyond (hidden_first beyond initial visible) body))
  changed kept beyond visible (s.Return value span) = None
  changed kept beyond visible (s.Break span) = None
  changed kept beyond visible (s.Continue span) = None

  pub all_changed : (ℕ → Bool) → (beyond : ℕ) → List Visible → Statements → Option Span
  all_changed kept beyond visible s.NoMore = None
  all_changed kept beyond visible (s.Then first others) =
      first_of (changed kept beyond visible first) (all_changed kept beyond (hidden_by beyond first visible) others)
