-- The rules of statements, in the order in which they are asked of a node behind its children.
use Rattle.std.specs.Prelude.{◌&&◌, ◌-◌, ℕ, Bool, true, false, not, ◌||◌, nat_lt, List, [], ◌∷◌, ◌++◌, length, Option, Some, None, is_some, option_map, pos}
use Rattle.ckc_text.specs.declared.place.Span.{Span}
use Rattle.ckc_text.specs.declared.code.Code.TheVariants.{E08, E12, E13, E15, E17, E18, E21, E30}
use Rattle.ckc_tree.specs.declared.stmt.Mark.{Mark}
use Rattle.ckc_tree.specs.declared.stmt.Mark.TheVariants as marks
use Rattle.ckc_tree.specs.declared.stmt.StoreOperator.{StoreOperator}
use Rattle.ckc_tree.specs.declared.stmt.StoreOperator.TheVariants as stores
use Rattle.ckc_tree.specs.declared.stmt.StepOperator.{StepOperator}
use Rattle.ckc_tree.specs.declared.stmt.StepOperator.TheVariants as steps
use Rattle.ckc_tree.specs.Types.{TypeTree, type_span}
use Rattle.ckc_tree.specs.declared.stmt.ArrayForm.{ArrayForm}
use Rattle.ckc_tree.specs.declared.stmt.ArrayKind.{ArrayKind}
use Rattle.ckc_tree.specs.declared.stmt.ArrayKind.TheVariants as array_kinds
use Rattle.ckc_tree.specs.Expressions as e
use Rattle.ckc_tree.specs.Expressions.{Expression, expression_span}
use Rattle.ckc_tree.specs.Statements as s
use Rattle.ckc_tree.specs.Statements.{Initializer, Declarator, Declaration, Assignment, assignment_span, ForInitial, Statement, Statements}
use Rattle.bounds_flow.specs.Flows.{Knowledge, entered, in_bundle, met}
use Rattle.pointer_modes.specs.declared.ctype.Mode.TheVariants as modes
use Rattle.pointer_modes.specs.declared.ctype.Kind.{Kind}
use Rattle.pointer_modes.specs.declared.ctype.Kind.TheVariants as kinds
use Rattle.pointer_modes.specs.Types.{CType, Int, Char, Struct, Pointer}
use Rattle.ckc_core.specs.declared.program.Site.{Site}
use Rattle.act_words.specs.declared.operator.Operator.{Operator}
use Rattle.bounds_exprs.specs.declared.term.Bounds.{Bounds}
use Rattle.bounds_exprs.specs.Normal.{constant}
use Rattle.ckc_core.specs.declared.program.Direction.{Direction}
use Rattle.ckc_core.specs.declared.program.Direction.TheVariants as directions
use Rattle.ckc_core.specs.declared.program.Terminator.TheVariants as terminators
use Rattle.ckc_core.specs.Core as core
use Rattle.ckc_core.specs.Steps.{is_char}
use Rattle.region_typing_rules.specs.Verdicts.{Verdict, Passes, passing, needs, breaks}
use Rattle.region_typing_rules.specs.Scopes.{Scope, Visible}
use Rattle.region_typing_rules.specs.Types.{is_scalar, may_lead_to, without_stars, base_type}
use Rattle.region_typing_rules.specs.Operands.{Places, Typed, Value, AStruct, ForNothing, ForArray, For, Called, Gives, GivesNothing, asked_of, meets}
use Rattle.region_typing_rules.specs.Operands.{Lvalue, OfLocal, OfCell, OfBounded, OfUnknown, site_at}
use Rattle.region_typing_rules.specs.Operands.{scalar_of, converted, bounds_met, number_of, two_numbers}
use Rattle.region_typing_rules.specs.Expressions.{typed, call_typed}
use Rattle.region_typing_rules.specs.Operands.{without_ptr, operator_along, sum_node}
use Rattle.region_typing_rules.specs.NewMemory.{allocation, ended_allocation}
use Rattle.region_typing_rules.specs.Cells.{is_length}
use Rattle.region_typing_rules.specs.DeclaredBounds.{row_of, unwritten_bounds, declared_bounds}
use Rattle.region_typing_rules.specs.Readings.{told}
use Rattle.region_typing_rules.specs.Knowing.{assigned_by, local_number, settling, outside_of, knowing, when, cut, broken, continued, with_others, at_loop}

-- what a statement becomes, and what is known behind it
abbrev pub Walked : Type 0
Walked = core.Statement × Scope

-- two statements in a row
abbrev pub both : core.Statement → core.Statement → core.Statement
both first second = core.Block (core.Then first (core.Then second core.NoMore))

-- ---- assignments

abbrev pub store : Lvalue → CType → core.Expression → core.Statement
store (OfLocal local) type value = core.SetLocal local value
store (OfCell place) type value = core.Store type place value
store (OfBounded object bounds) type value = core.Store type (core.Direct object 0) value
store (OfUnknown object) type value = core.Store type (core.Direct object 0) value

-- the checks of an update name the whole assignment
abbrev pub updated_place : core.Place → Site → core.Place
updated_place (core.Direct object offset) site = core.Direct object offset
updated_place (core.Through pointer index offset before) site = core.Through pointer index offset site

abbrev pub update : Lvalue → CType → Operator → core.Expression → Site → core.Statement
update (OfLocal local) type operator value site = core.UpdateLocal (is_char type) local operator value site
update (OfCell place) type operator value site = core.Update type (updated_place place site) operator value site
update (OfBounded object bounds) type operator value site = core.Update type (core.Direct object 0) operator value site
update (OfUnknown object) type operator value site = core.Update type (core.Direct object 0) operator value site

-- target-is-place: a variable, an element or a member, and no array (E12). target-is-scalar: E13
abbrev pub assigned : Typed → Span → (CType → Lvalue → Verdict core.Statement) → Verdict core.Statement
assigned (Value type zero value ForNothing) span next = breaks E12 span
assigned (Value type zero value ForArray) span next = breaks E12 span
assigned (Value type zero value (For place)) span next = next type place
assigned (AStruct number place) span next = breaks E13 span

-- the bounds that are declared for where a value goes, which it is asked for at once; those of a local are asked when what is known is settled
abbrev pub declared_for : Lvalue → CType → Option Bounds
declared_for (OfLocal local) type = None
declared_for (OfCell place) type = unwritten_bounds type
declared_for (OfBounded object bounds) type = Some bounds
declared_for (OfUnknown object) type = None

-- the bounds of a value meet those that are declared for where it goes, and those of the type there
abbrev pub meets_declared : Knowledge → Option Bounds → Typed → CType → Bool
meets_declared f None (Value type zero value place) to = zero || meets f value (asked_of type to)
meets_declared f (Some b) (Value type zero value place) to = zero || (meets f value (asked_of type to) && meets f value (Some b))
meets_declared f bounds (AStruct number place) to = true

-- right-side-converts: E13. bounds-are-met: E17
abbrev pub set_to : Knowledge → Typed → Typed → Span → Verdict core.Statement
set_to f target right span =
    assigned target span (λ type place. converted right type span (λ value.
    needs (meets_declared f (declared_for place type) right type) E17 span (Passes (store place type value))))

-- a pointer with bounds becomes a sum of it, which a file-level pointer is asked for its bounds (E17), and so is a null-terminated one in a cell;
-- other pointers in cells have no bounds, so they have no sums. No sum is stored in a cell, not even one of 0
abbrev pub moved : Knowledge → Lvalue → CType → core.Expression → Span → Verdict core.Statement
moved f (OfLocal local) type sum span = Passes (core.SetLocal local sum)
moved f (OfCell place) type sum span = needs (meets f sum (unwritten_bounds type)) E17 span (breaks E18 span)
moved f (OfBounded object bounds) type sum span =
    needs (meets f sum (Some bounds)) E17 span (Passes (core.Store type (core.Direct object 0) sum))
moved f (OfUnknown object) type sum span = breaks E18 span

abbrev pub updated_as : Scope → Direction → CType → Lvalue → Typed → Typed → Site → Span → Verdict core.Statement
updated_as g direction (Pointer mode kind target) place (Value type zero pointer old) right site span =
    number_of right span (λ value.
    moved g.flow place (Pointer mode kind target) (core.Sum pointer direction value site (sum_node g.locals direction pointer value site)) span)
updated_as g direction type place target right site span =
    two_numbers target right span (λ old value. Passes (update place type (operator_along direction) value site))

-- updates-as-sum: the rules of the sum or the difference of both (E19, E18, E13)
abbrev pub updated : Places → Scope → Direction → Typed → Typed → Span → Verdict core.Statement
updated at g direction target right span =
    assigned target span (λ type place. without_ptr target right span (updated_as g direction type place target right (site_at at span) span))

abbrev pub stored : Places → Scope → StoreOperator → Typed → Typed → Span → Verdict core.Statement
stored at g stores.Set target right span = set_to g.flow target right span
stored at g stores.Add target right span = updated at g directions.Forward target right span
stored at g stores.Subtract target right span = updated at g directions.Backward target right span

abbrev pub step_of : StepOperator → Direction
step_of steps.Increment = directions.Forward
step_of steps.Decrement = directions.Backward

abbrev pub one : Typed
one = Value Int false (core.Number (pos 1)) ForNothing

abbrev pub assignment : Places → Scope → Assignment → Verdict core.Statement
assignment at g (s.Store operator target value span) = passing (typed at g target) (λ a. passing (typed at g value) (λ b. stored at g operator a b span))
assignment at g (s.Step operator side target span) = passing (typed at g target) (λ a. updated at g (step_of operator) a one span)

-- an assignment, and what is known behind it
abbrev pub assigning : Places → Scope → Assignment → Verdict Walked
assigning at g a =
    passing (assignment at g a) (λ x.
    passing (settling (assigned_by g.locals x g.flow) (assignment_span a)) (λ f. Passes (x, knowing f g)))

-- ---- bundles

-- assignments in a bundle, and what is known behind them: none is settled
abbrev pub assignments : Places → Scope → List Assignment → Verdict (core.Statements × Knowledge)
assignments at g [] = Passes (core.NoMore, g.flow)
assignments at g (a ∷ written) =
    passing (assignment at g a) (λ x.
    passing (assignments at (knowing (assigned_by g.locals x g.flow) g) written) (λ rest. Passes (core.Then x rest.0, rest.1)))

abbrev pub target_of : Assignment → Expression
target_of (s.Store operator target value span) = target
target_of (s.Step operator side target span) = target

abbrev is_local : List Visible → Expression → Bool
is_local visible (e.Name name) = is_some (local_number visible name.number)
is_local visible _ = false

abbrev pub are_locals : List Visible → List Assignment → Bool
are_locals visible [] = true
are_locals visible (a ∷ written) = is_local visible (target_of a) && are_locals visible written

-- targets-are-locals, as no struct of the source has members whose bounds name others: E21. bounds-are-kept, behind the last assignment: E20, E17
abbrev pub bundle : Places → Scope → List Assignment → Span → Verdict Walked
bundle at g written span =
    passing (assignments at (knowing (in_bundle g.flow) g) written) (λ w.
    needs (are_locals g.visible written) E21 span
    (passing (settling w.1 span) (λ f. Passes (core.Block w.0, knowing f g))))

-- ---- locals

abbrev pub zero_value : CType → core.Expression
zero_value Int = core.Number (pos 0)
zero_value Char = core.Number (pos 0)
zero_value (Struct number) = core.Null
zero_value (Pointer mode kind target) = core.Null

-- a local more, which is visible from now on, with the bounds that are declared for it
abbrev pub with_local : ℕ → CType → Option Bounds → Scope → Scope
with_local name type declared g = record g {
  locals = g.locals ++ type ∷ [];
  visible = record { name = name; local = length g.locals } ∷ g.visible;
  flow = entered (length g.locals) declared g.flow;
}

-- no-list-for-local: E13. bounds-are-met: E17
abbrev pub initialised : Places → Scope → Option Initializer → CType → ℕ → Span → Verdict core.Statement
initialised at g None type local span = Passes core.Nothing
initialised at g (Some (s.Value value)) type local span =
    passing (typed at g value) (λ t. converted t type span (λ v. bounds_met g.flow t type span (Passes (core.SetLocal local v))))
initialised at g (Some (s.Constants constants list)) type local span = breaks E13 span

-- few-locals: at most 256 with the parameters (E08, at the declaration). The flow of a function has a variable for each of its
-- locals, and 256 where there are more
abbrev pub few_locals : {A : Type 0} → Scope → Span → Verdict A → Verdict A
few_locals g span next = needs (nat_lt (length g.locals) g.flow.vars) E08 span next

-- the assignment that a declaration is: of its initial value, or else of zero or null
abbrev pub first_value : Option Initializer → core.Statement → ℕ → CType → core.Statement
first_value None initial local t = core.SetLocal local (zero_value t)
first_value (Some i) initial local t = initial

-- a local with its initial value, and what is known behind it
abbrev pub declared : Scope → Option Initializer → CType → ℕ → Span → core.Statement → Verdict Walked
declared g written t local span initial =
    passing (settling (assigned_by g.locals (first_value written initial local t) g.flow) span)
    (λ f. Passes (both (core.SetLocal local (zero_value t)) initial, knowing f g))

-- a local of a type and with bounds: its initial value is read where it has them. no-struct-local: E13. At each entry of its declaration a
-- local is zero or null before its initial value is evaluated
abbrev pub bounded_local : Places → Scope → Declarator → CType → Span → Option Bounds → Verdict Walked
bounded_local at g d t span bounds =
    passing (initialised at (with_local d.name.number t bounds g) d.initializer t (length g.locals) span) (λ initial.
    needs (is_scalar t) E13 span (declared (with_local d.name.number t bounds g) d.initializer t (length g.locals) span initial))

-- the names in its bounds are looked up where the local is visible
abbrev pub plain_local : Places → Scope → TypeTree → CType → Span → Declarator → Verdict Walked
plain_local at g base type span d =
    passing (without_stars base d.stars type) (λ t.
    passing (declared_bounds (with_local d.name.number t None g) t (length g.locals) d.bounds) (bounded_local at g d t span))

-- ---- local arrays

-- how many elements a declarator asks for, where it declares an array
abbrev pub length_of : Declarator → Option ℕ
length_of d = option_map (λ (a : ArrayForm). a.length) d.array

-- whether a zero ends the array that is declared
abbrev ends_array : Option ArrayForm → Bool
ends_array None = false
ends_array (Some a) = is_ended_kind a.kind
  where
    is_ended_kind : ArrayKind → Bool
    is_ended_kind array_kinds.Checked = false
    is_ended_kind array_kinds.NullTerminated = true

abbrev pub is_ended_array : Declarator → Bool
is_ended_array d = ends_array d.array

abbrev pub array_kind : (ended : Bool) → Kind
array_kind true = kinds.Nt
array_kind false = kinds.Array

-- how many elements of so many stand before the zero that ends them, where one does
abbrev pub before_end : (ended : Bool) → ℕ → ℕ
before_end true count = count - 1
before_end false count = count

-- a pointer to the first of so many elements, which nothing else is assigned to
abbrev pub row_type : (ended : Bool) → CType → CType
row_type ended t = Pointer modes.Checked (array_kind ended) t

-- a local array more, which is visible from now on
abbrev pub with_array : ℕ → CType → ℕ → (ended : Bool) → Scope → Scope
with_array name t count ended g =
    record (with_local name (row_type ended t) (Some (row_of (before_end ended count))) g) { arrays = length g.locals ∷ g.arrays }

-- ended-are-numbers: a zero ends only numbers (E13, at the type)
abbrev pub array_element : {A : Type 0} → (ended : Bool) → CType → TypeTree → Verdict A → Verdict A
array_element ended t base next = needs (may_lead_to (array_kind ended) t) E13 (type_span base) next

-- new memory for an array
abbrev pub array_memory : Scope → (ended : Bool) → CType → ℕ → Site → Span → Verdict Typed
array_memory g false t count site span = allocation g t (core.Number (pos count)) site span
array_memory g true t count site span =
    ended_allocation g t (core.Number (pos count)) terminators.Last (Some (constant (pos (before_end true count)))) site span

-- bounds-on-pointer: an array has no others than those of its elements (E16, at the bounds)
abbrev pub array_bounds : Scope → Option e.Bounds → Verdict (Option Bounds)
array_bounds g bounds = declared_bounds g Int (length g.locals) bounds

-- no-value-for-array: E13, behind what is written
abbrev pub without_initial : Places → Scope → Option Initializer → Span → Verdict (Unit {0})
without_initial at g None span = Passes tt
without_initial at g (Some (s.Value value)) span = passing (typed at g value) (λ t. breaks E13 span)
without_initial at g (Some (s.Constants constants list)) span = breaks E13 span

-- each entry of its declaration makes new memory for an array, which is null before, and where there is no room
abbrev pub made_array : Scope → ℕ → Typed → CType → Span → Verdict Walked
made_array g local memory t span =
    converted memory t span (λ v.
    passing (settling (assigned_by g.locals (core.SetLocal local v) g.flow) span)
    (λ f. Passes (both (core.SetLocal local (zero_value t)) (core.SetLocal local v), knowing f g)))

abbrev pub array_in : Places → Scope → ℕ → Declarator → CType → ℕ → (ended : Bool) → Span → Verdict Walked
array_in at g local d t count ended span =
    passing (array_bounds g d.bounds) (λ bounds.
    passing (without_initial at g d.initializer span) (λ initial.
    passing (array_memory g ended t count (site_at at span) span) (λ memory. made_array g local memory (row_type ended t) span)))

-- array-has-length: E08, at the declaration
abbrev pub array_local : Places → Scope → TypeTree → CType → Span → Declarator → ℕ → (ended : Bool) → Verdict Walked
array_local at g base type span d count ended =
    needs (is_length (Some count)) E08 span
    (passing (without_stars base d.stars type) (λ t.
    array_element ended t base (array_in at (with_array d.name.number t count ended g) (length g.locals) d t count ended span)))

abbrev pub local_of : Places → Scope → TypeTree → CType → Span → Declarator → Option ℕ → Verdict Walked
local_of at g base type span d None = plain_local at g base type span d
local_of at g base type span d (Some count) = array_local at g base type span d count (is_ended_array d)

abbrev pub declarator : Places → Scope → TypeTree → CType → Span → Declarator → Verdict Walked
declarator at g base type span d = few_locals g span (local_of at g base type span d (length_of d))

abbrev pub declarators : Places → Scope → TypeTree → CType → Span → List Declarator → Verdict Walked
declarators at g base type span [] = Passes (core.Nothing, g)
declarators at g base type span (d ∷ ds) =
    passing (declarator at g base type span d) (λ first. passing (declarators at first.1 base type span ds) (λ rest. Passes (both first.0 rest.0, rest.1)))

-- how many elements the first of some declarators asks for
abbrev pub first_length : List Declarator → Option ℕ
first_length [] = None
first_length (d ∷ ds) = length_of d

-- the limits of the first local are asked before the type that all share is walked
abbrev pub declaration : Places → Scope → Declaration → Verdict Walked
declaration at g d =
    few_locals g d.span
    (needs (is_length (first_length d.declarators)) E08 d.span
    (passing (base_type g d.base) (λ type. declarators at g d.base type d.span d.declarators)))

-- ---- statements

-- behind a block its names are gone, and its locals keep their numbers
abbrev pub behind_block : Scope → Scope → Scope
behind_block before inside =
    record inside { visible = before.visible; in_loop = before.in_loop; flow = outside_of (length before.locals) inside inside.flow }

-- behind a branch, where another way meets it
abbrev pub meeting : Knowledge → Scope → Scope
meeting f g = knowing (met f g.flow) g

-- behind a branch alone
abbrev pub behind_branch : Scope → core.Expression → Scope → Scope
behind_branch g condition inside = meeting (told g.locals condition false g.flow) (behind_block g inside)

-- the alternative of a branch, and behind both
abbrev pub at_alternative : Scope → core.Expression → Scope → Scope
at_alternative g condition inside = knowing (told g.locals condition false g.flow) (behind_block g inside)

abbrev pub behind_both : Scope → Scope → Scope → Scope
behind_both g first second = meeting (behind_block g first).flow (behind_block (behind_block g first) second)

-- behind a loop: its condition came out false, or a `break` led out of it
abbrev pub behind_loop : Scope → Scope → core.Expression → Scope → Scope
behind_loop g head condition inside = record (behind_block g inside) {
  outside = g.outside;
  flow = with_others inside.breaks (told g.locals condition false head.flow);
  breaks = g.breaks;
  continues = g.continues;
}

-- before the step of a loop: its body ended, or a `continue` led here
abbrev pub before_step : Scope → Scope → Scope
before_step g inside = knowing (with_others inside.continues (behind_block g inside).flow) (behind_block g inside)

abbrev pub in_loop : Scope → Scope
in_loop g = record g { in_loop = true }

abbrev pub is_unchecked : Option Mark → Bool
is_unchecked None = false
is_unchecked (Some marks.Checked) = false
is_unchecked (Some marks.Unchecked) = true

-- block-is-checked: neither the block nor its region is unchecked (E15)
abbrev pub is_checked : {A : Type 0} → Scope → Option Mark → Span → Verdict A → Verdict A
is_checked g mark span next = needs (not (is_unchecked mark || g.is_off)) E15 span next

-- condition-is-scalar: E13
abbrev pub condition : Places → Scope → Expression → Verdict core.Expression
condition at g e = passing (typed at g e) (λ t. scalar_of t (expression_span e) Passes)

abbrev pub optional_condition : Places → Scope → Option Expression → Verdict core.Expression
optional_condition at g None = Passes (core.Number (pos 1))
optional_condition at g (Some e) = condition at g e

abbrev pub optional_step : Places → Scope → Option Assignment → Verdict Walked
optional_step at g None = Passes (core.Nothing, g)
optional_step at g (Some a) = assigning at g a

abbrev pub first_part : Places → Scope → ForInitial → Verdict Walked
first_part at g s.Nothing = Passes (core.Nothing, g)
first_part at g (s.Declares d) = declaration at g d
first_part at g (s.Assigns a) = assigning at g a

-- a result is left
abbrev pub alone : Called → core.Statement
alone (Gives type value) = core.Evaluate value
alone (GivesNothing call) = call

abbrev pub returned : Knowledge → Option CType → Option Bounds → Typed → Span → Verdict core.Statement
returned f None bounds t span = breaks E13 span
returned f (Some type) bounds t span = converted t type span (λ v. needs (meets_declared f bounds t type) E17 span (Passes (core.Return v)))

abbrev pub returned_nothing : Option CType → Span → Verdict core.Statement
returned_nothing None span = Passes core.ReturnNothing
returned_nothing (Some type) span = breaks E13 span

-- result-as-declared: a value exactly where the result isn't void, which converts (E13). bounds-are-met: E17
abbrev pub return : Places → Scope → Option Expression → Span → Verdict core.Statement
return at g None span = returned_nothing g.result span
return at g (Some e) span = passing (typed at g e) (λ t. returned g.flow g.result g.result_bounds t span)

abbrev mutual
  pub statement : Places → Scope → Statement → Verdict Walked
  statement at g (s.Block mark inner span) = passing (statements at g inner) (λ w. is_checked g mark span (Passes (core.Block w.0, behind_block g w.1)))
  statement at g (s.Bundle assignments span) = bundle at g assignments span
  statement at g (s.Declare d span) = declaration at g d
  statement at g (s.Assign a span) = assigning at g a
  statement at g (s.CallAlone call span) = passing (call_typed at g call) (λ c. Passes (alone c, g))
  statement at g (s.Empty span) = Passes (core.Nothing, g)
  statement at g (s.If test consequent span) =
      passing (condition at g test) (λ c. passing (statement at (when c true g) consequent)
      (λ x. Passes (core.If c x.0 core.Nothing, behind_branch g c x.1)))
  statement at g (s.IfElse test consequent alternative span) =
      passing (condition at g test) (λ c. passing (statement at (when c true g) consequent)
      (λ x. passing (statement at (at_alternative g c x.1) alternative) (λ y. Passes (core.If c x.0 y.0, behind_both g x.1 y.1))))
  statement at g (s.While test body span) =
      passing (condition at (at_loop body None g) test) (λ c. passing (statement at (in_loop (when c true (at_loop body None g))) body)
      (λ x. Passes (core.Loop c x.0 core.Nothing, behind_loop g (at_loop body None g) c x.1)))
  statement at g (s.For initial test step body span) =
      passing (first_part at g initial) (λ first. passing (optional_condition at (at_loop body step first.1) test) (λ c.
      passing (statement at (in_loop (when c true (at_loop body step first.1))) body)
      (λ x. passing (optional_step at (before_step first.1 x.1) step) (λ y.
      Passes (both first.0 (core.Loop c x.0 y.0), behind_block g (behind_loop first.1 (at_loop body step first.1) c y.1))))))
  statement at g (s.Return value span) = passing (return at g value span) (λ x. Passes (x, cut g))
  statement at g (s.Break span) = needs g.in_loop E30 span (Passes (core.Break, broken g))
  statement at g (s.Continue span) = needs g.in_loop E30 span (Passes (core.Continue, continued g))

  pub statements : Places → Scope → Statements → Verdict (core.Statements × Scope)
  statements at g s.NoMore = Passes (core.NoMore, g)
  statements at g (s.Then first others) = passing (statement at g first) (λ x. passing (statements at x.1 others) (λ y. Passes (core.Then x.0 y.0, y.1)))
