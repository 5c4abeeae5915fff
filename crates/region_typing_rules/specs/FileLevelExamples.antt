-- What a file-level pointer is for which bounds are declared, where p is one to three `int`s with the name 2.
use Rattle.std.specs.Prelude.{◌≡◌, ℕ, true, false, [], Option, Some, None}
use Rattle.ckc_text.specs.declared.code.Code.TheVariants.{E16, E17, E18, E22}
use Rattle.ckc_tree.specs.declared.expr.BinaryOperator.TheVariants as binary
use Rattle.ckc_tree.specs.declared.stmt.ArrayKind.TheVariants as array_kinds
use Rattle.ckc_tree.specs.declared.stmt.ArrayForm.{ArrayForm}
use Rattle.ckc_tree.specs.Expressions as e
use Rattle.ckc_tree.specs.Expressions.{Expression}
use Rattle.ckc_tree.specs.Statements.{Declarator}
use Rattle.pointer_modes.specs.Types.{Int}
use Rattle.ckc_core.specs.declared.program.Direction.TheVariants as directions
use Rattle.ckc_core.specs.Core as core
use Rattle.ckc_core.specs.Programs.{open_variable}
use Rattle.region_typing_rules.specs.Verdicts.{Verdict, Passes, breaks}
use Rattle.region_typing_rules.specs.Scopes.{Object, WrittenBounds}
use Rattle.region_typing_rules.specs.Operands.{Typed, Value, For, ForNothing, OfBounded, OfCell, address, name_typed}
use Rattle.region_typing_rules.specs.Statements.{moved, set_to}
use Rattle.region_typing_rules.specs.Items.{object_bounds, variable_of}
use Rattle.region_typing_rules.specs.MemoryExamples.{at_node, from_to, here, name, number, row, scope, site, term, three}

-- ---- declarations

-- `p : count(n)`, as it is written, and an array with these bounds
abbrev declared_as : Option ArrayForm → e.Bounds → Declarator
declared_as array bounds = record {
  stars = 0;
  name = record { name = []; number = 2; span = here };
  array = array;
  bounds = Some bounds;
  initializer = None;
  span = here;
}

abbrev three_more : Expression
three_more = e.Binary binary.Add (name 2) (e.Number 3 here) here

abbrev bounds_of : e.Bounds → Verdict WrittenBounds
bounds_of bounds = object_bounds scope (declared_as None bounds) row

-- bounds name nothing but the pointer itself, though other names stand for locals where it is declared; and an array has none. What has bounds
-- is sealed
abbrev pub declared : Type 0
declared =
    (bounds_of (e.Count (e.Number 3 here) here) ≡ Passes (Some (Some three)))
    × (bounds_of (e.Range (name 2) three_more here) ≡ Passes (Some (Some three)))
    × (bounds_of (e.Unknown here) ≡ Passes (Some None)) × (bounds_of (e.Count (name 0) here) ≡ breaks E16 here)
    × (bounds_of (e.Range (name 1) (name 1) here) ≡ breaks E16 here)
    × (object_bounds scope (declared_as (Some (record { kind = array_kinds.Checked; length = 3; span = here })) (e.Count (e.Number 3 here) here)) Int
    ≡ breaks E16 here)
    × (variable_of false (Some (Some three)) [] ≡ record { cells = []; zero_ended = false; is_sealed = true })
    × (variable_of false None [] ≡ open_variable []) × (variable_of false (Some None) [] ≡ open_variable [])

-- ---- names

abbrev place : core.Place
place = core.Direct 0 0

abbrev p : core.Expression
p = core.Load row place (at_node three)

abbrev pointer : Typed
pointer = Value row false p (For (OfBounded 0 three))

-- it has its bounds where it is named, and no address; without bounds it is a cell
abbrev pub names : Type 0
names =
    (name_typed scope (Object 0 row (Some (Some three))) site ≡ pointer) × (address pointer site here ≡ breaks E22 here)
    × (name_typed scope (Object 0 row None) site ≡ Value row false (core.Load row place None) (For (OfCell place)))

-- ---- assignments

abbrev elements : ℕ → Typed
elements n = Value row false (core.AddressOf (core.Direct 1 0) (at_node (from_to None (term None 0) (term None n)))) ForNothing

abbrev sum_by : core.Expression → core.Expression
sum_by by = core.Sum p directions.Forward by site None

-- `p + 0`
abbrev here_on : core.Expression
here_on = core.Sum p directions.Forward (number 0) site (at_node three)

-- as many elements or more are asked for, and null has none; so is a sum, of which bounds may be unknown
abbrev pub assigned : Type 0
assigned =
    (set_to scope.flow pointer (elements 3) here ≡ Passes (core.Store row place (core.AddressOf (core.Direct 1 0) (at_node three))))
    × (set_to scope.flow pointer (elements 2) here ≡ breaks E17 here)
    × (set_to scope.flow pointer (Value Int true (number 0) ForNothing) here ≡ Passes (core.Store row place core.Null))
    × (moved scope.flow (OfBounded 0 three) row here_on here ≡ Passes (core.Store row place here_on))
    × (moved scope.flow (OfBounded 0 three) row (sum_by (core.Local 0 None)) here ≡ breaks E17 here)
    × (moved scope.flow (OfCell place) row (sum_by (core.Local 0 None)) here ≡ breaks E18 here)
