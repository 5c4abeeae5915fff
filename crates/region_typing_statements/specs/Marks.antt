-- Inside: the locals that are visible, the innermost first, and parts of the marks of a statement and of what it changes.
use Rattle.std.specs.Prelude.{ℕ, Bool, List, ◌++◌, ◌≡◌, map, reverse, Option}
use Rattle.ckc_tree.specs.Statements.{Assignment, ForInitial, Statement}
use Rattle.region_typing_rules.specs.Scopes.{Visible}
use Rattle.region_typing_rules.specs.Knowing.{marked, step_marked, hidden_first, first_marked}
use Rattle.region_typing_rules.specs.KeptParameters.{first_of, first_changed, step_changed, changed}
use Rattle.ckc_text.specs.declared.place.Span.{Span}
use Rattle.region_typing_scope.specs.declared.visible.Visible as code
use Rattle.region_typing_scope.specs.Visibles.{visible}

abbrev pub seen : List code.Visible → List Visible
seen vs = reverse (map visible vs)

-- names are visible beside those that were
pub record Adds (before after : List code.Visible) : Type 0 where
  pub more : List code.Visible
  pub is : after ≡ before ++ more

-- marks for the locals that a `for` assigns
abbrev pub turns_marked : (beyond : ℕ) → List Visible → ForInitial → Option Assignment → Statement → List Bool → List Bool
turns_marked beyond visible initial step body marks =
    step_marked (hidden_first beyond initial visible) step
    (marked beyond (hidden_first beyond initial visible) body (first_marked visible initial marks))

-- where a `for` first assigns a local that is kept
abbrev pub turns_changed : (ℕ → Bool) → (beyond : ℕ) → List Visible → ForInitial → Option Assignment → Statement → Option Span
turns_changed kept beyond visible initial step body =
    first_of (first_changed kept visible initial)
    (first_of (step_changed kept (hidden_first beyond initial visible) step) (changed kept beyond (hidden_first beyond initial visible) body))
