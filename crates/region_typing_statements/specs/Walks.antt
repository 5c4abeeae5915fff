-- Inside: what a walk over statements answers, and what it leaves known.
use Rattle.std.specs.Prelude.{◌≡◌, ℕ, length, Option, None, Some, Result, Ok, Err}
use Rattle.ckc_text.specs.declared.place.Span.{Span}
use Rattle.ckc_text.specs.declared.code.Code.TheVariants.{E13}
use Rattle.region_typing_scope.specs.declared.refusals.CheckError.{CheckError}
use Rattle.region_typing_scope.specs.declared.refusals.CheckError.TheVariants as errors
use Rattle.pointer_modes.specs.Types.{CType}
use Rattle.ckc_core.specs.Core as core
use Rattle.ckc_tree.specs.Expressions.{Expression}
use Rattle.ckc_tree.specs.Statements.{Initializer, Declarator}
use Rattle.region_typing_rules.specs.Verdicts.{Verdict, Passes, Breaks, Unnamed, passing, needs}
use Rattle.region_typing_rules.specs.Operands.{Places, converted, bounds_met}
use Rattle.region_typing_rules.specs.Expressions.{typed}
use Rattle.region_typing_rules.specs.Types.{is_scalar}
use Rattle.region_typing_rules.specs.DeclaredBounds.{declared_bounds}
use Rattle.region_typing_rules.specs.Statements.{initialised, with_local, declared, bounded_local}
use Rattle.region_typing_rules.specs.Scopes.{Scope}
use Rattle.region_typing_scope.specs.declared.scope as code
use Rattle.region_typing_scope.specs.Views.{scope}
use Rattle.region_typing_scope.specs.Locals.{Grows}

abbrev pub walks_so : {C A : Type 0} → (C → A) → Verdict (A × Scope) → code.Scope.Scope → Result C CheckError → code.Scope.Scope → Type 0
walks_so view verdict old (Ok c) new = (verdict ≡ Passes (view c, scope new)) × Grows old new
walks_so view verdict old (Err (errors.Source fault)) new = verdict ≡ Breaks fault
walks_so view verdict old (Err errors.Unnamed) new = verdict ≡ Unnamed
walks_so view verdict old (Err errors.NoMemory) new = Unit {0}

-- the answer is the verdict's value with what is known behind it, or the fault of the rule that is broken, or that a name stands
-- for nothing
pub record Walks {C A : Type 0} (view : C → A) (verdict : Verdict (A × Scope)) (old : code.Scope.Scope) (result : Result C CheckError)
    (new : code.Scope.Scope) : Type 0 where
  pub so : walks_so view verdict old result new

-- the value that a local is given
abbrev pub initial_value : Places → Scope → Expression → CType → ℕ → Span → Verdict core.Statement
initial_value at g value t local span = passing (typed at g value) (λ u. converted u t span (λ v. bounds_met g.flow u t span (Passes (core.SetLocal local v))))

-- an initial value, where there is one, or else the other one
abbrev pub chosen : {A : Type 0} → Option Initializer → A → A → A
chosen None initial zero = zero
chosen (Some written) initial zero = initial

-- what a local is before it is given a value, then its initial value, and what is known behind it
abbrev pub from_zero : Places → Scope → Option Initializer → CType → ℕ → Span → Verdict (core.Statement × Scope)
from_zero at g written t local span =
    passing (initialised at g written t local span) (λ initial. needs (is_scalar t) E13 span (declared g written t local span initial))

-- a local more, with the bounds that are declared for it, which is given what it is at first
abbrev pub declared_local : Places → Scope → Declarator → CType → Span → Verdict (core.Statement × Scope)
declared_local at g d t span =
    passing (declared_bounds (with_local d.name.number t None g) t (length g.locals) d.bounds) (bounded_local at g d t span)
