-- What is known where a walk stands, and what assignments, conditions, loops and the ends of blocks make of it.
use Rattle.std.specs.Prelude.{ℕ, zero, suc, ◌+◌, ◌-◌, ◌==◌, nat_lt, ◌&&◌, ℤ, Bool, true, false, cond, List, [], ◌∷◌, length, Option, None, Some}
use Rattle.std.specs.Prelude.{replicate, slice_get, slice_set}
use Rattle.ckc_text.specs.declared.place.Span.{Span}
use Rattle.ckc_text.specs.declared.code.Code.TheVariants.{E17, E20}
use Rattle.ckc_tree.specs.Expressions as e
use Rattle.ckc_tree.specs.Expressions.{Expression}
use Rattle.ckc_tree.specs.Statements as s
use Rattle.ckc_tree.specs.Statements.{Declarator, Assignment, ForInitial, Statement, Statements}
use Rattle.subsumption.specs.ClosedTables.{ClosedTable}
use Rattle.bounds_flow.specs.declared.held.Held.{Held}
use Rattle.bounds_flow.specs.declared.steps.Source.{Source}
use Rattle.bounds_flow.specs.declared.steps.Source.TheVariants as sources
use Rattle.bounds_flow.specs.Flows.{Knowledge, held_at, left, number_assigned, length_assigned, pointer_assigned, at_head, cut_off, met, settled}
use Rattle.bounds_flow.specs.Settling.{Finding, Meets, WasLost, Falls, finding}
use Rattle.bounds_exprs.specs.declared.term.Bounds.{Bounds}
use Rattle.bounds_exprs.specs.declared.term.Term.{Term}
use Rattle.bounds_exprs.specs.Normal.{is_same}
use Rattle.pointer_modes.specs.declared.ctype.Kind.{Kind}
use Rattle.pointer_modes.specs.declared.ctype.Kind.TheVariants as kinds
use Rattle.pointer_modes.specs.Types.{CType, Int, Char, Struct, Pointer}
use Rattle.ckc_core.specs.Core as core
use Rattle.region_typing_rules.specs.Verdicts.{Verdict, Passes, breaks, picked}
use Rattle.region_typing_rules.specs.Scopes.{Scope, Visible}
use Rattle.region_typing_rules.specs.Readings.{Behind, term, own_bounds, based_bounds, behind_local, pointer_local, is_null, is_not_null, told}

-- ---- how many locals there are

abbrev declared_first : ForInitial → ℕ
declared_first s.Nothing = 0
declared_first (s.Declares d) = length d.declarators
declared_first (s.Assigns a) = 0

abbrev mutual
  -- how many locals a statement declares
  pub declared_in : Statement → ℕ
  declared_in (s.Block mark inner span) = all_declared inner
  declared_in (s.Bundle assignments span) = 0
  declared_in (s.Declare d span) = length d.declarators
  declared_in (s.Assign a span) = 0
  declared_in (s.CallAlone call span) = 0
  declared_in (s.Empty span) = 0
  declared_in (s.If test consequent span) = declared_in consequent
  declared_in (s.IfElse test consequent alternative span) = declared_in consequent + declared_in alternative
  declared_in (s.While test body span) = declared_in body
  declared_in (s.For initial test step body span) = declared_first initial + declared_in body
  declared_in (s.Return value span) = 0
  declared_in (s.Break span) = 0
  declared_in (s.Continue span) = 0

  pub all_declared : Statements → ℕ
  all_declared s.NoMore = 0
  all_declared (s.Then first others) = declared_in first + all_declared others

-- ---- which locals a statement assigns

-- the number of the innermost local of a name
abbrev pub local_number : List Visible → ℕ → Option ℕ
local_number [] name = None
local_number (v ∷ visible) name = cond (name == v.name) (Some v.local) (local_number visible name)

abbrev pub marked_at : Option ℕ → List Bool → List Bool
marked_at None marks = marks
marked_at (Some local) marks = slice_set marks local true

-- a mark for the local that is assigned, where it is one of those that have marks
abbrev pub target_marked : List Visible → Expression → List Bool → List Bool
target_marked visible (e.Name name) marks = marked_at (local_number visible name.number) marks
target_marked visible _ marks = marks

abbrev pub assignment_marked : List Visible → Assignment → List Bool → List Bool
assignment_marked visible (s.Store operator target value span) marks = target_marked visible target marks
assignment_marked visible (s.Step operator side target span) marks = target_marked visible target marks

abbrev pub bundle_marked : List Visible → List Assignment → List Bool → List Bool
bundle_marked visible [] marks = marks
bundle_marked visible (a ∷ assignments) marks = bundle_marked visible assignments (assignment_marked visible a marks)

abbrev pub step_marked : List Visible → Option Assignment → List Bool → List Bool
step_marked visible None marks = marks
step_marked visible (Some a) marks = assignment_marked visible a marks

-- names that are declared hide those of the locals that have marks: what they stand for has none
abbrev pub hiding : (beyond : ℕ) → List Declarator → List Visible → List Visible
hiding beyond [] visible = visible
hiding beyond (d ∷ declarators) visible = hiding beyond declarators (record { name = d.name.number; local = beyond } ∷ visible)

-- the names behind a statement, and behind what stands first in the head of a `for`
abbrev pub hidden_by : (beyond : ℕ) → Statement → List Visible → List Visible
hidden_by beyond (s.Declare d span) visible = hiding beyond d.declarators visible
hidden_by beyond _ visible = visible

abbrev pub hidden_first : (beyond : ℕ) → ForInitial → List Visible → List Visible
hidden_first beyond s.Nothing visible = visible
hidden_first beyond (s.Declares d) visible = hiding beyond d.declarators visible
hidden_first beyond (s.Assigns a) visible = visible

abbrev pub first_marked : List Visible → ForInitial → List Bool → List Bool
first_marked visible s.Nothing marks = marks
first_marked visible (s.Declares d) marks = marks
first_marked visible (s.Assigns a) marks = assignment_marked visible a marks

abbrev mutual
  -- marks for the locals that a statement assigns
  pub marked : (beyond : ℕ) → List Visible → Statement → List Bool → List Bool
  marked beyond visible (s.Block mark inner span) marks = all_marked beyond visible inner marks
  marked beyond visible (s.Bundle assignments span) marks = bundle_marked visible assignments marks
  marked beyond visible (s.Declare d span) marks = marks
  marked beyond visible (s.Assign a span) marks = assignment_marked visible a marks
  marked beyond visible (s.CallAlone call span) marks = marks
  marked beyond visible (s.Empty span) marks = marks
  marked beyond visible (s.If test consequent span) marks = marked beyond visible consequent marks
  marked beyond visible (s.IfElse test consequent alternative span) marks = marked beyond visible alternative (marked beyond visible consequent marks)
  marked beyond visible (s.While test body span) marks = marked beyond visible body marks
  marked beyond visible (s.For initial test step body span) marks =
      step_marked (hidden_first beyond initial visible) step
      (marked beyond (hidden_first beyond initial visible) body (first_marked visible initial marks))
  marked beyond visible (s.Return value span) marks = marks
  marked beyond visible (s.Break span) marks = marks
  marked beyond visible (s.Continue span) marks = marks

  pub all_marked : (beyond : ℕ) → List Visible → Statements → List Bool → List Bool
  all_marked beyond visible s.NoMore marks = marks
  all_marked beyond visible (s.Then first others) marks =
      all_marked beyond (hidden_by beyond first visible) others (marked beyond visible first marks)

-- the numbers of those that have a mark
abbrev pub numbers_marked : ℕ → List Bool → List ℕ
numbers_marked local [] = []
numbers_marked local (true ∷ marks) = local ∷ numbers_marked (suc local) marks
numbers_marked local (false ∷ marks) = numbers_marked (suc local) marks

-- the locals that a loop assigns, in its body and behind its turns
abbrev pub assigned_in : Scope → Statement → Option Assignment → List ℕ
assigned_in g body step =
    let beyond = length g.locals in
    numbers_marked 0 (step_marked g.visible step (marked beyond g.visible body (replicate beyond false)))

-- ---- assignments

-- the bounds that a local pointer is given with a value: those from its declared base, where the value has them, and else those at its node
abbrev pub given_from : (base : Option ℕ) → (based own : Option Bounds) → Option Bounds
given_from base None own = own
given_from base (Some b) own = picked (is_same base b.base) (Some b) own

abbrev pub given_bounds : (declared : Option Bounds) → core.Expression → Option Bounds
given_bounds None value = own_bounds value
given_bounds (Some d) value = given_from d.base (based_bounds value) (own_bounds value)

-- both ends speak of variables below this number, or of none
abbrev pub is_below : ℕ → Option ℕ → Bool
is_below vars None = true
is_below vars (Some x) = nat_lt x vars

abbrev pub are_below : ℕ → Bounds → Bool
are_below vars b = is_below vars b.lo.var && is_below vars b.hi.var

-- bounds of the flow's variables; those at the nodes that the walk makes speak of no others
abbrev pub known_source : (vars : ℕ) → Option Bounds → Source
known_source vars None = sources.Lost
known_source vars (Some b) = picked (are_below vars b) (sources.Known b) sources.Lost

-- what a local pointer is assigned: null, or a pointer with bounds or without; one to one element has none that a flow holds
abbrev pub source : (vars : ℕ) → Kind → (declared : Option Bounds) → core.Expression → Source
source vars kinds.Array declared value = picked (is_null value) sources.Null (known_source vars (given_bounds declared value))
source vars kinds.One declared value = picked (is_null value) sources.Null sources.Lost
source vars kinds.Nt declared value = picked (is_null value) sources.Null (known_source vars (given_bounds declared value))

-- the constant, where a pointer is assigned itself plus a constant
abbrev pub moved_from : ℕ → Option Behind → Option ℤ
moved_from local None = None
moved_from local (Some b) = cond (b.local == local) (Some b.elements) None

-- the local pointer whose elements before the zero an expression counts
abbrev pub measured_local : List CType → core.Expression → Option ℕ
measured_local types (core.Length pointer site) = pointer_local types pointer
measured_local types _ = None

-- an `int` local is assigned such a count, or another number
abbrev pub count_assigned : ℕ → Option ℕ → Option Term → Knowledge → Knowledge
count_assigned local None to f = number_assigned local to f
count_assigned local (Some pointer) to f = length_assigned local pointer f

-- a local of a type is assigned a value: a `char` isn't tracked
abbrev pub value_assigned : Option CType → List CType → ℕ → core.Expression → Knowledge → Knowledge
value_assigned (Some Int) types local value f = count_assigned local (measured_local types value) (term types value) f
value_assigned (Some (Pointer mode kind target)) types local value f =
    pointer_assigned local (source f.vars kind (held_at f.held local).declared value) (moved_from local (behind_local types value))
    (is_not_null types f value) f
value_assigned (Some Char) types local value f = f
value_assigned (Some (Struct number)) types local value f = f
value_assigned None types local value f = f

-- what is known behind an assignment, or any other statement that is no block, branch or loop
abbrev pub assigned_by : List CType → core.Statement → Knowledge → Knowledge
assigned_by types (core.SetLocal local value) f = value_assigned (slice_get types local) types local value f
assigned_by types (core.UpdateLocal char local operator value site) f =
    value_assigned (slice_get types local) types local (core.Arithmetic operator (core.Local local None) value site) f
assigned_by types _ f = f

abbrev pub or_later : Finding → Finding → Finding
or_later Meets later = later
or_later WasLost later = WasLost
or_later (Falls asked) later = Falls asked

-- what a settling finds of the first pointer that doesn't meet its declared bounds
abbrev pub first_found : ClosedTable → List Held → Finding
first_found t [] = Meets
first_found t (h ∷ held) = or_later (finding t h) (first_found t held)

-- bounds-are-kept: E20 where bounds were lost by an assignment to another variable; E17 where those in force don't meet the
-- declared ones
abbrev pub settled_as : Finding → Knowledge → Span → Verdict Knowledge
settled_as Meets f span = Passes (settled f)
settled_as WasLost f span = breaks E20 span
settled_as (Falls asked) f span = breaks E17 span

abbrev pub settling : Knowledge → Span → Verdict Knowledge
settling f span = settled_as (first_found f.facts f.held) f span

-- ---- where ways part and meet

-- from one of the locals on so many leave their scope
abbrev pub without_locals : (local count : ℕ) → Knowledge → Knowledge
without_locals local zero f = f
without_locals local (suc count) f = without_locals (suc local) count (left local f)

-- the flow, where something else is known
abbrev pub knowing : Knowledge → Scope → Scope
knowing f g = record g { flow = f }

-- where a condition came out so
abbrev pub when : core.Expression → Bool → Scope → Scope
when condition truth g = knowing (told g.locals condition truth g.flow) g

-- no way leads on
abbrev pub cut : Scope → Scope
cut g = knowing (cut_off g.flow) g

-- a way more meets those that are there
abbrev pub with_way : Knowledge → Option Knowledge → Knowledge
with_way f None = f
with_way f (Some before) = met before f

-- what is known of a way once the locals from one on have left their scopes
abbrev pub outside_of : (local : ℕ) → Scope → Knowledge → Knowledge
outside_of local g f = without_locals local (length g.locals - local) f

-- what is known on a way out of the innermost loop, or on to its next turn: the locals inside of the loop have left their scopes
abbrev pub way_out : Scope → Knowledge
way_out g = outside_of g.outside g g.flow

-- behind a `break`, and behind a `continue`
abbrev pub broken : Scope → Scope
broken g = record (cut g) { breaks = Some (with_way (way_out g) g.breaks) }

abbrev pub continued : Scope → Scope
continued g = record (cut g) { continues = Some (with_way (way_out g) g.continues) }

-- a way that others meet, if there are some
abbrev pub with_others : Option Knowledge → Knowledge → Knowledge
with_others None f = f
with_others (Some others) f = met f others

-- the head of a loop, in which no way leads out or on yet
abbrev pub at_loop : Statement → Option Assignment → Scope → Scope
at_loop body step g =
    record g { outside = length g.locals; flow = at_head (assigned_in g body step) g.flow; breaks = None; continues = None }
