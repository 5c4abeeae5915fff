-- What is declared for a local speaks of variables of the flow alone.
use Rattle.std.proofs.Common.{ℕ, ◌≤◌, length, Option, Result, Ok, Err}
use Rattle.std.specs.Prelude.{IfOk}
use Rattle.ckc_tree.specs.Expressions as e
use Rattle.bounds_exprs.specs.declared.term.Bounds.{Bounds}
use Rattle.pointer_modes.specs.Types.{CType}
use Rattle.bounds_flow.specs.Conditions.{AreBoundsBelow}
use Rattle.region_typing_rules.specs.Scopes.{Scope}
use Rattle.region_typing_rules.specs.DeclaredBounds.{declared_bounds}
use Rattle.region_typing_rules.proofs.DeclaredBounds.{declared_is_formed, formed_below}
use Rattle.region_typing_scope.specs.declared.refusals.CheckError.{CheckError}
use Rattle.region_typing_scope.specs.Answering.{Answers}

pub answered_below : (s : Scope) (t : CType) (own vars : ℕ) (o : Option e.Bounds) (r : Result (Option Bounds) CheckError) → length s.locals ≤ vars
    → Answers (λ (b : Option Bounds). b) (declared_bounds s t own o) r → IfOk r (AreBoundsBelow vars)
answered_below s t own vars o (Ok b) few h = formed_below s.structs s.locals t vars b few (declared_is_formed s t own o b h.so)
answered_below s t own vars o (Err e) few h = tt
