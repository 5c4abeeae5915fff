-- Inside: what an assignment stores in, as the code holds it.
use Rattle.std.specs.Prelude.{ℕ, Box, not, ◌&&◌, ◌||◌, Option, Some, is_none}
use Rattle.std.proofs.Common.{Global, Bool}
use Rattle.ckc_text.specs.declared.place.Span.{Span}
use Rattle.ckc_text.specs.declared.code.Code.TheVariants.{E12, E13, E17, E18, E19}
use Rattle.bounds_exprs.specs.declared.term.Bounds.{Bounds}
use Rattle.bounds_flow.specs.Flows.{Knowledge}
use Rattle.pointer_modes.specs.Types.{CType, ctype}
use Rattle.ckc_core.specs.declared.program.Site.{Site}
use Rattle.ckc_core.specs.declared.program.PointerBounds.{PointerBounds}
use Rattle.ckc_core.specs.Meaning.{bounds_of}
use Rattle.ckc_core.specs.declared.program.Direction.{Direction}
use Rattle.ckc_core.specs.Core as core
use Rattle.ckc_core.specs.Core.{place}
use Rattle.region_typing_rules.specs.Verdicts.{Verdict, Passes, passing, needs, breaks, picked}
use Rattle.region_typing_rules.specs.Scopes.{Scope}
use Rattle.region_typing_rules.specs.Types.{is_scalar, is_pointer, is_single, is_row}
use Rattle.region_typing_rules.specs.Operands.{Typed, Value, AStruct, ForNothing, ForArray, For, Lvalue, OfLocal, OfCell, OfBounded, OfUnknown, number_of}
use Rattle.region_typing_rules.specs.Operands.{is_single_value, lacks_bounds, meets, operator_along, sum_node}
use Rattle.region_typing_rules.specs.DeclaredBounds.{unwritten_bounds}
use Rattle.region_typing_rules.specs.Statements.{update, moved}
use Rattle.region_typing_expressions.specs.declared.assignments.Lvalue as code
use Rattle.region_typing_expressions.specs.declared.assignments.Lvalue.TheVariants as lvalues
use Rattle.region_typing_expressions.specs.declared.assignments.Target as code_target

abbrev pub lvalue : code.Lvalue → Lvalue
lvalue (lvalues.Local local) = OfLocal local
lvalue (lvalues.Cell cell) = OfCell (place cell)
lvalue (lvalues.Bounded object declared) = OfBounded object declared
lvalue (lvalues.Unknown object) = OfUnknown object

-- what a place of a type holds, with bounds at its node
abbrev pub held : CType → code.Lvalue → Option PointerBounds → core.Expression
held type (lvalues.Local local) bounds = core.Local local bounds
held type (lvalues.Cell cell) bounds = core.Load type (place cell) bounds
held type (lvalues.Bounded object declared) bounds = core.Load type (core.Direct object 0) bounds
held type (lvalues.Unknown object) bounds = core.Load type (core.Direct object 0) bounds

-- a place, its type, and what it holds
pub record Target : Type 0 where
  pub type : CType
  pub place : Lvalue
  pub value : core.Expression

abbrev pub target : code_target.Target → Target
target t = record { type = ctype t.ctype; place = lvalue t.place; value = held (ctype t.ctype) t.place t.bounds }

abbrev pub target_on_heap : Box code_target.Target Global → Target
target_on_heap t = target t.value

-- the place of a scalar (E12, E13)
abbrev pub target_of : Typed → Span → Verdict Target
target_of (Value type zero value ForNothing) span = breaks E12 span
target_of (Value type zero value ForArray) span = breaks E12 span
target_of (Value type zero value (For place)) span = Passes (record { type = type; place = place; value = value })
target_of (AStruct number place) span = breaks E13 span

-- a pointer whose bounds are unknown
abbrev pub is_unbounded : Target → Bool
is_unbounded t = is_row t.type && is_none (bounds_of t.value)

-- the target of an update is a number or a pointer with bounds, and what it is updated by is neither a `ptr` nor a pointer
-- whose bounds are unknown (E19, E18, E13)
abbrev pub may_update : Target → Typed → Span → Verdict (Unit {0})
may_update t right span =
    needs (not (is_single t.type || is_single_value right)) E19 span
    (needs (not (is_unbounded t || lacks_bounds right)) E18 span (needs (is_scalar t.type) E13 span (Passes tt)))

-- a file-level pointer that becomes a sum of it (E17)
abbrev pub bounded_sum : Knowledge → ℕ → Bounds → CType → core.Expression → Span → Verdict core.Statement
bounded_sum f object bounds type sum span = needs (meets f sum (Some bounds)) E17 span (Passes (core.Store type (core.Direct object 0) sum))

-- no sum is stored in a cell, whether it meets the bounds that are asked there or not (E17, E18)
abbrev pub cell_sum : Knowledge → CType → core.Expression → Span → Verdict core.Statement
cell_sum f type sum span = needs (meets f sum (unwritten_bounds type)) E17 span (breaks E18 span)

-- a pointer that is moved by a number
abbrev pub sum_of : Scope → Direction → core.Expression → core.Expression → Site → core.Expression
sum_of s direction pointer value site = core.Sum pointer direction value site (sum_node s.locals direction pointer value site)

-- a pointer that becomes a sum of it (E17, E18)
abbrev pub moved_target : Scope → Direction → Target → core.Expression → Site → Span → Verdict core.Statement
moved_target s direction t value site span = moved s.flow t.place t.type (sum_of s direction t.value value site) span

-- a pointer is moved, and a number is updated in its place
abbrev pub update_by : Scope → Direction → Target → core.Expression → Site → Span → Verdict core.Statement
update_by s direction t value site span =
    picked (is_pointer t.type) (moved_target s direction t value site span) (Passes (update t.place t.type (operator_along direction) value site))

-- an update of a place by a number (E13)
abbrev pub updated_target : Scope → Direction → Target → Typed → Site → Span → Verdict core.Statement
updated_target s direction t right site span =
    passing (may_update t right span) (λ (u : Unit {0}). passing (number_of right span Passes) (λ value. update_by s direction t value site span))
