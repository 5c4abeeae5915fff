-- How many nodes stand one inside the other. A node is a block, a statement, an expression or a type; one that stands
-- in no other has depth 1.
use Rattle.std.specs.Prelude.{ℕ, zero, suc, nat_lt, Bool, true, false, List, [], ◌∷◌, Option, Some, None}
use Rattle.ckc_tree.specs.Types.{TypeTree, IntType, CharType, StructType, PointerType}
use Rattle.ckc_tree.specs.Expressions as e
use Rattle.ckc_tree.specs.Expressions.{Expression, Expressions, Bounds}
use Rattle.ckc_tree.specs.Statements as s
use Rattle.ckc_tree.specs.Statements.{Initializer, Declarator, Declaration, Assignment, ForInitial, Statement, Statements}
use Rattle.ckc_tree.specs.Items as i
use Rattle.ckc_tree.specs.Items.{Member, ResultForm, Parameters, Body, Item, Tree}

-- the greatest depth, and where the first node of that depth starts; with no node both are 0
pub record Reach : Type 0 where
  pub height : ℕ
  pub start : ℕ

abbrev pub nowhere : Reach
nowhere = record { height = 0; start = 0 }

-- one node at this start
abbrev pub node : ℕ → Reach
node start = record { height = 1; start = start }

-- the second where the first is less deep, as a test says
abbrev pub deeper : Bool → Reach → Reach → Reach
deeper true first second = second
deeper false first second = first

infixl 50 ◌beside◌
-- of two parts, of which the first stands first
abbrev pub ◌beside◌ : Reach → Reach → Reach
first beside second = deeper (nat_lt first.height second.height) first second

-- the height and the start of what a node holds, which makes it deeper by one
abbrev pub inside : ℕ → ℕ → ℕ → Reach
inside start zero held = node start
inside start (suc n) held = record { height = suc (suc n); start = held }

-- a node at this start around these parts
abbrev pub around : ℕ → Reach → Reach
around start parts = inside start parts.height parts.start

abbrev pub type_reach : TypeTree → Reach
type_reach (IntType span) = node span.from
type_reach (CharType span) = node span.from
type_reach (StructType tag span) = node span.from
type_reach (PointerType word element stars span) = around span.from (type_reach element)

abbrev mutual
  pub expression_reach : Expression → Reach
  expression_reach (e.Number value span) = node span.from
  expression_reach (e.Character value span) = node span.from
  expression_reach (e.Text bytes span) = node span.from
  expression_reach (e.Name name) = node name.span.from
  expression_reach (e.Call callee arguments span) = around span.from (expressions_reach arguments)
  expression_reach (e.SizeOf type span) = around span.from (type_reach type.base)
  expression_reach (e.Cast word type operand span) = around span.from (type_reach type.base beside expression_reach operand)
  expression_reach (e.BoundedCast word type operand bounds span) =
      around span.from (type_reach type.base beside expression_reach operand beside bounds_reach bounds)
  expression_reach (e.Malloc word type size span) = around span.from (type_reach type.base beside expression_reach size)
  expression_reach (e.Calloc word type count size span) = around span.from (type_reach type.base beside expression_reach count beside expression_reach size)
  expression_reach (e.Index base index span) = around span.from (expression_reach base beside expression_reach index)
  expression_reach (e.Dot base member span) = around span.from (expression_reach base)
  expression_reach (e.Arrow base member span) = around span.from (expression_reach base)
  expression_reach (e.Unary operator operand span) = around span.from (expression_reach operand)
  expression_reach (e.Binary operator left right span) = around span.from (expression_reach left beside expression_reach right)

  pub expressions_reach : Expressions → Reach
  expressions_reach e.NoMore = nowhere
  expressions_reach (e.Then first others) = expression_reach first beside expressions_reach others

  -- bounds are no node: their parts are parts of what has the bounds
  pub bounds_reach : Bounds → Reach
  bounds_reach (e.Count count span) = expression_reach count
  bounds_reach (e.ByteCount count span) = expression_reach count
  bounds_reach (e.Unknown span) = nowhere
  bounds_reach (e.Range low high span) = expression_reach low beside expression_reach high

abbrev pub optional_bounds_reach : Option Bounds → Reach
optional_bounds_reach None = nowhere
optional_bounds_reach (Some bounds) = bounds_reach bounds

abbrev pub optional_expression_reach : Option Expression → Reach
optional_expression_reach None = nowhere
optional_expression_reach (Some expression) = expression_reach expression

-- a list of constants has no node
abbrev pub optional_initializer_reach : Option Initializer → Reach
optional_initializer_reach None = nowhere
optional_initializer_reach (Some (s.Value value)) = expression_reach value
optional_initializer_reach (Some (s.Constants constants span)) = nowhere

-- a declarator is no node
abbrev pub declarator_reach : Declarator → Reach
declarator_reach d = optional_bounds_reach d.bounds beside optional_initializer_reach d.initializer

abbrev pub declarators_reach : List Declarator → Reach
declarators_reach [] = nowhere
declarators_reach (first ∷ others) = declarator_reach first beside declarators_reach others

-- the parts of a declaration
abbrev pub declared_reach : Declaration → Reach
declared_reach d = type_reach d.base beside declarators_reach d.declarators

-- the parts of an assignment
abbrev pub assigned_reach : Assignment → Reach
assigned_reach (s.Store operator target value span) = expression_reach target beside expression_reach value
assigned_reach (s.Step operator side target span) = expression_reach target

-- an assignment that stands where it isn't a statement by itself is a node as a statement is
abbrev pub assignment_reach : Assignment → Reach
assignment_reach a = around (s.assignment_span a).from (assigned_reach a)

abbrev pub assignments_reach : List Assignment → Reach
assignments_reach [] = nowhere
assignments_reach (first ∷ others) = assignment_reach first beside assignments_reach others

abbrev pub optional_assignment_reach : Option Assignment → Reach
optional_assignment_reach None = nowhere
optional_assignment_reach (Some a) = assignment_reach a

abbrev pub for_initial_reach : ForInitial → Reach
for_initial_reach s.Nothing = nowhere
for_initial_reach (s.Declares d) = around d.span.from (declared_reach d)
for_initial_reach (s.Assigns a) = assignment_reach a

abbrev mutual
  pub statement_reach : Statement → Reach
  statement_reach (s.Block mark statements span) = around span.from (statements_reach statements)
  statement_reach (s.Bundle assignments span) = around span.from (assignments_reach assignments)
  statement_reach (s.Declare declaration span) = around span.from (declared_reach declaration)
  statement_reach (s.Assign assignment span) = around span.from (assigned_reach assignment)
  statement_reach (s.CallAlone call span) = around span.from (expression_reach call)
  statement_reach (s.Empty span) = node span.from
  statement_reach (s.If condition consequent span) = around span.from (expression_reach condition beside statement_reach consequent)
  statement_reach (s.IfElse condition consequent alternative span) =
      around span.from (expression_reach condition beside statement_reach consequent beside statement_reach alternative)
  statement_reach (s.While condition body span) = around span.from (expression_reach condition beside statement_reach body)
  statement_reach (s.For initial condition step body span) =
      around span.from (for_initial_reach initial beside optional_expression_reach condition beside optional_assignment_reach step beside statement_reach body)
  statement_reach (s.Return value span) = around span.from (optional_expression_reach value)
  statement_reach (s.Break span) = node span.from
  statement_reach (s.Continue span) = node span.from

  pub statements_reach : Statements → Reach
  statements_reach s.NoMore = nowhere
  statements_reach (s.Then first others) = statement_reach first beside statements_reach others

-- neither a member nor a parameter is a node
abbrev pub member_reach : Member → Reach
member_reach m = type_reach m.type.base beside optional_bounds_reach m.bounds

abbrev pub members_reach : List Member → Reach
members_reach [] = nowhere
members_reach (first ∷ others) = member_reach first beside members_reach others

abbrev pub result_reach : ResultForm → Reach
result_reach (i.Void span) = nowhere
result_reach (i.Value base) = type_reach base

abbrev pub parameters_reach : Parameters → Reach
parameters_reach i.Nothing = nowhere
parameters_reach i.VoidAlone = nowhere
parameters_reach (i.Listed parameters) = members_reach parameters

abbrev pub body_reach : Body → Reach
body_reach b = around b.span.from (statements_reach b.statements)

abbrev pub optional_body_reach : Option Body → Reach
optional_body_reach None = nowhere
optional_body_reach (Some b) = body_reach b

abbrev pub item_reach : Item → Reach
item_reach (i.RegionItem region span) = nowhere
item_reach (i.StructureItem structure) = members_reach structure.members
item_reach (i.GlobalItem global) = type_reach global.base beside declarators_reach global.declarators
item_reach (i.FunctionItem function) =
    result_reach function.result beside parameters_reach function.parameters beside optional_bounds_reach function.bounds
    beside optional_body_reach function.body

abbrev pub items_reach : List Item → Reach
items_reach [] = nowhere
items_reach (first ∷ others) = item_reach first beside items_reach others

-- the greatest depth in a whole source
abbrev pub height : Tree → ℕ
height tree = (items_reach tree.items).height
