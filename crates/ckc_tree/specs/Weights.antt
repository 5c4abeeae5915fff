-- How many nodes each part of a tree has. A node is a type, an expression, bounds, a list of constants, what makes a variable
-- an array, a declarator, a declaration, an assignment, a statement, a member, a parameter, a body, an item, or the void in
-- place of a result; a part that is left out has none.
use Rattle.std.specs.Prelude.{ℕ, ◌+◌, suc, List, [], ◌∷◌, Option, Some, None}
use Rattle.ckc_tree.specs.declared.stmt.ArrayForm.{ArrayForm}
use Rattle.ckc_tree.specs.Types.{TypeTree, IntType, CharType, StructType, PointerType}
use Rattle.ckc_tree.specs.Expressions as e
use Rattle.ckc_tree.specs.Expressions.{Expression, Expressions, Bounds}
use Rattle.ckc_tree.specs.Statements as s
use Rattle.ckc_tree.specs.Statements.{Initializer, Declarator, Declaration, Assignment, ForInitial, Statement, Statements}
use Rattle.ckc_tree.specs.Items as i
use Rattle.ckc_tree.specs.Items.{Member, Structure, Global, ResultForm, Parameters, Body, Function, Item, Tree}

abbrev pub type_weight : TypeTree → ℕ
type_weight (IntType span) = 1
type_weight (CharType span) = 1
type_weight (StructType tag span) = 1
type_weight (PointerType word element stars span) = suc (type_weight element)

abbrev mutual
  pub expression_weight : Expression → ℕ
  expression_weight (e.Number value span) = 1
  expression_weight (e.Character value span) = 1
  expression_weight (e.Text bytes span) = 1
  expression_weight (e.Name name) = 1
  expression_weight (e.Call callee arguments span) = suc (expressions_weight arguments)
  expression_weight (e.SizeOf type span) = suc (type_weight type.base)
  expression_weight (e.Cast word type operand span) = suc (type_weight type.base + expression_weight operand)
  expression_weight (e.BoundedCast word type operand bounds span) = suc (type_weight type.base + expression_weight operand + bounds_weight bounds)
  expression_weight (e.Malloc word type size span) = suc (type_weight type.base + expression_weight size)
  expression_weight (e.Calloc word type count size span) = suc (type_weight type.base + expression_weight count + expression_weight size)
  expression_weight (e.Index base index span) = suc (expression_weight base + expression_weight index)
  expression_weight (e.Dot base member span) = suc (expression_weight base)
  expression_weight (e.Arrow base member span) = suc (expression_weight base)
  expression_weight (e.Unary operator operand span) = suc (expression_weight operand)
  expression_weight (e.Binary operator left right span) = suc (expression_weight left + expression_weight right)

  pub expressions_weight : Expressions → ℕ
  expressions_weight e.NoMore = 0
  expressions_weight (e.Then first others) = expression_weight first + expressions_weight others

  pub bounds_weight : Bounds → ℕ
  bounds_weight (e.Count count span) = suc (expression_weight count)
  bounds_weight (e.ByteCount count span) = suc (expression_weight count)
  bounds_weight (e.Unknown span) = 1
  bounds_weight (e.Range low high span) = suc (expression_weight low + expression_weight high)

abbrev pub optional_bounds_weight : Option Bounds → ℕ
optional_bounds_weight None = 0
optional_bounds_weight (Some bounds) = bounds_weight bounds

abbrev pub optional_expression_weight : Option Expression → ℕ
optional_expression_weight None = 0
optional_expression_weight (Some expression) = expression_weight expression

-- a list of constants is one node, however long it is
abbrev pub initializer_weight : Initializer → ℕ
initializer_weight (s.Value value) = expression_weight value
initializer_weight (s.Constants constants span) = 1

abbrev pub optional_initializer_weight : Option Initializer → ℕ
optional_initializer_weight None = 0
optional_initializer_weight (Some initializer) = initializer_weight initializer

abbrev pub optional_array_weight : Option ArrayForm → ℕ
optional_array_weight None = 0
optional_array_weight (Some array) = 1

abbrev pub declarator_weight : Declarator → ℕ
declarator_weight d = suc (optional_array_weight d.array + optional_bounds_weight d.bounds + optional_initializer_weight d.initializer)

abbrev pub declarators_weight : List Declarator → ℕ
declarators_weight [] = 0
declarators_weight (first ∷ others) = declarator_weight first + declarators_weight others

abbrev pub declaration_weight : Declaration → ℕ
declaration_weight d = suc (type_weight d.base + declarators_weight d.declarators)

abbrev pub assignment_weight : Assignment → ℕ
assignment_weight (s.Store operator target value span) = suc (expression_weight target + expression_weight value)
assignment_weight (s.Step operator side target span) = suc (expression_weight target)

abbrev pub assignments_weight : List Assignment → ℕ
assignments_weight [] = 0
assignments_weight (first ∷ others) = assignment_weight first + assignments_weight others

abbrev pub optional_assignment_weight : Option Assignment → ℕ
optional_assignment_weight None = 0
optional_assignment_weight (Some a) = assignment_weight a

abbrev pub for_initial_weight : ForInitial → ℕ
for_initial_weight s.Nothing = 0
for_initial_weight (s.Declares d) = declaration_weight d
for_initial_weight (s.Assigns a) = assignment_weight a

abbrev mutual
  -- a declaration or an assignment that is a statement by itself is one node
  pub statement_weight : Statement → ℕ
  statement_weight (s.Block mark statements span) = suc (statements_weight statements)
  statement_weight (s.Bundle assignments span) = suc (assignments_weight assignments)
  statement_weight (s.Declare declaration span) = declaration_weight declaration
  statement_weight (s.Assign assignment span) = assignment_weight assignment
  statement_weight (s.CallAlone call span) = suc (expression_weight call)
  statement_weight (s.Empty span) = 1
  statement_weight (s.If condition consequent span) = suc (expression_weight condition + statement_weight consequent)
  statement_weight (s.IfElse condition consequent alternative span) =
      suc (expression_weight condition + statement_weight consequent + statement_weight alternative)
  statement_weight (s.While condition body span) = suc (expression_weight condition + statement_weight body)
  statement_weight (s.For initial condition step body span) =
      suc (for_initial_weight initial + optional_expression_weight condition + optional_assignment_weight step + statement_weight body)
  statement_weight (s.Return value span) = suc (optional_expression_weight value)
  statement_weight (s.Break span) = 1
  statement_weight (s.Continue span) = 1

  pub statements_weight : Statements → ℕ
  statements_weight s.NoMore = 0
  statements_weight (s.Then first others) = statement_weight first + statements_weight others

-- a member of a struct or a parameter of a function
abbrev pub member_weight : Member → ℕ
member_weight m = suc (type_weight m.type.base + optional_bounds_weight m.bounds)

abbrev pub members_weight : List Member → ℕ
members_weight [] = 0
members_weight (first ∷ others) = member_weight first + members_weight others

abbrev pub result_weight : ResultForm → ℕ
result_weight (i.Void span) = 1
result_weight (i.Value base) = type_weight base

abbrev pub parameters_weight : Parameters → ℕ
parameters_weight i.Nothing = 0
parameters_weight i.VoidAlone = 0
parameters_weight (i.Listed parameters) = members_weight parameters

abbrev pub body_weight : Body → ℕ
body_weight b = suc (statements_weight b.statements)

abbrev pub optional_body_weight : Option Body → ℕ
optional_body_weight None = 0
optional_body_weight (Some b) = body_weight b

abbrev pub structure_weight : Structure → ℕ
structure_weight s = suc (members_weight s.members)

abbrev pub global_weight : Global → ℕ
global_weight g = suc (type_weight g.base + declarators_weight g.declarators)

abbrev pub function_weight : Function → ℕ
function_weight f = suc (result_weight f.result + parameters_weight f.parameters + optional_bounds_weight f.bounds + optional_body_weight f.body)

abbrev pub item_weight : Item → ℕ
item_weight (i.RegionItem region span) = 1
item_weight (i.StructureItem structure) = structure_weight structure
item_weight (i.GlobalItem global) = global_weight global
item_weight (i.FunctionItem function) = function_weight function

abbrev pub items_weight : List Item → ℕ
items_weight [] = 0
items_weight (first ∷ others) = item_weight first + items_weight others

-- how many nodes a whole source has
abbrev pub tree_weight : Tree → ℕ
tree_weight tree = items_weight tree.items
