-- What is so of an assignment is so of it with what is known behind it.
use Rattle.std.proofs.Common.{ℕ, List, [], ◌∷◌, Option}
use Rattle.ckc_text.specs.declared.code.Code.TheVariants.{E21}
use Rattle.ckc_text.specs.declared.place.Span.{Span}
use Rattle.ckc_tree.specs.Statements.{Initializer, Assignment, assignment_span}
use Rattle.bounds_flow.specs.Flows.{Knowledge, in_bundle}
use Rattle.pointer_modes.specs.Types.{CType}
use Rattle.ckc_core.specs.Core as core
use Rattle.region_typing_rules.specs.Verdicts.{Passes, passing}
use Rattle.region_typing_rules.specs.Scopes.{Scope}
use Rattle.region_typing_rules.specs.Operands.{Places}
use Rattle.region_typing_rules.specs.Knowing.{assigned_by, settling, knowing}
use Rattle.region_typing_rules.specs.Statements.{Walked, both, zero_value, assignment, assigning, assignments, are_locals, bundle, first_value, declared}
use Rattle.region_typing_rules.proofs.Verdicts.{Promises, passing_promises, needs_promises, anything_promised}

pub settled_promises : (Q : Walked → Type 0) (x : core.Statement) (g : Scope) (f : Knowledge) (span : Span) → ((k : Knowledge) → Q (x, knowing k g)) → Promises Q (passing (settling f span) (λ k. Passes (x, knowing k g)))
settled_promises Q x g f span h = passing_promises (λ (k : Knowledge). Unit {0}) Q (settling f span) _ (anything_promised (settling f span)) (λ k _. h k)

pub assigning_promises : (P : core.Statement → Type 0) (Q : Walked → Type 0) (at : Places) (g : Scope) (a : Assignment) → Promises P (assignment at g a) → ((x : core.Statement) (k : Knowledge) → P x → Q (x, knowing k g)) → Promises Q (assigning at g a)
assigning_promises P Q at g a h more =
    passing_promises P Q (assignment at g a) _ h (λ x px. settled_promises Q x g (assigned_by g.locals x g.flow) (assignment_span a) (λ k. more x k px))

-- what is so of each assignment in a bundle, whatever is known where it stands, and of all of them together
module _ (Q : Knowledge → Assignment → core.Statement → Type 0) (P : Knowledge → List Assignment → core.Statements × Knowledge → Type 0) (at : Places) (g : Scope)
    (each : (f : Knowledge) (a : Assignment) → Promises (Q f a) (assignment at (knowing f g) a)) (none : (f : Knowledge) → P f [] (core.NoMore, f))
    (more : (f : Knowledge) (a : Assignment) (written : List Assignment) (x : core.Statement) (rest : core.Statements × Knowledge) → Q f a x → P (assigned_by g.locals x f) written rest → P f (a ∷ written) (core.Then x rest.0, rest.1)) where
  pub assignments_promise : (f : Knowledge) (written : List Assignment) → Promises (P f written) (assignments at (knowing f g) written)
  assignments_promise f [] = none f
  assignments_promise f (a ∷ written) =
      passing_promises (Q f a) (P f (a ∷ written)) (assignment at (knowing f g) a) _ (each f a)
      (λ x q. passing_promises (P (assigned_by g.locals x f) written) (P f (a ∷ written)) (assignments at (knowing (assigned_by g.locals x f) g) written) _ (assignments_promise (assigned_by g.locals x f) written)
      (λ rest p. more f a written x rest q p))

pub bundle_promises : (P : core.Statements × Knowledge → Type 0) (R : Walked → Type 0) (at : Places) (g : Scope) (written : List Assignment) (span : Span) → Promises P (assignments at (knowing (in_bundle g.flow) g) written)
    → ((w : core.Statements × Knowledge) (k : Knowledge) → P w → R (core.Block w.0, knowing k g)) → Promises R (bundle at g written span)
bundle_promises P R at g written span h more =
    passing_promises P R (assignments at (knowing (in_bundle g.flow) g) written) _ h
    (λ w p. needs_promises R (are_locals g.visible written) E21 span _ (λ locals. settled_promises R (core.Block w.0) g w.1 span (λ k. more w k p)))

pub declared_promises : (Q : Walked → Type 0) (g : Scope) (written : Option Initializer) (t : CType) (local : ℕ) (span : Span) (initial : core.Statement) → ((k : Knowledge) → Q (both (core.SetLocal local (zero_value t)) initial, knowing k g))
    → Promises Q (declared g written t local span initial)
declared_promises Q g written t local span initial h =
    settled_promises Q (both (core.SetLocal local (zero_value t)) initial) g (assigned_by g.locals (first_value written initial local t) g.flow) span h
