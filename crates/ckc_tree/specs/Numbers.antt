-- Trees whose names have numbers: the same trees, in which each name has the number that a function gives it.
use Rattle.std.specs.Prelude.{ℕ, List, map}
use Rattle.std.specs.Option.{option_map}
use Rattle.ckc_tree.specs.declared.identifier.Identifier.{Identifier}
use Rattle.ckc_tree.specs.Types.{TypeTree, IntType, CharType, StructType, PointerType, TypeName}
use Rattle.ckc_tree.specs.Expressions as e
use Rattle.ckc_tree.specs.Expressions.{Expression, Expressions, Bounds}
use Rattle.ckc_tree.specs.Statements as s
use Rattle.ckc_tree.specs.Statements.{Initializer, Declarator, Declaration, Assignment, ForInitial, Statement, Statements}
use Rattle.ckc_tree.specs.Items as i
use Rattle.ckc_tree.specs.Items.{Member, Structure, Global, ResultForm, Parameters, Body, Function, Item, Tree}

-- what gives each name a number
abbrev pub Numbers : Type 0
Numbers = List ℕ → ℕ

abbrev pub number_name : Numbers → Identifier → Identifier
number_name of name = record name { number = of name.name }

abbrev pub number_type : Numbers → TypeTree → TypeTree
number_type of (IntType span) = IntType span
number_type of (CharType span) = CharType span
number_type of (StructType tag span) = StructType (number_name of tag) span
number_type of (PointerType word element stars span) = PointerType word (number_type of element) stars span

abbrev pub number_type_name : Numbers → TypeName → TypeName
number_type_name of t = record { base = number_type of t.base; stars = t.stars }

abbrev mutual
  pub number_expression : Numbers → Expression → Expression
  number_expression of (e.Number value span) = e.Number value span
  number_expression of (e.Character value span) = e.Character value span
  number_expression of (e.Text bytes span) = e.Text bytes span
  number_expression of (e.Name name) = e.Name (number_name of name)
  number_expression of (e.Call callee arguments span) = e.Call (number_name of callee) (number_expressions of arguments) span
  number_expression of (e.SizeOf type span) = e.SizeOf (number_type_name of type) span
  number_expression of (e.Cast word type operand span) = e.Cast word (number_type_name of type) (number_expression of operand) span
  number_expression of (e.BoundedCast word type operand bounds span) =
      e.BoundedCast word (number_type_name of type) (number_expression of operand) (number_bounds of bounds) span
  number_expression of (e.Malloc word type size span) = e.Malloc word (number_type_name of type) (number_expression of size) span
  number_expression of (e.Calloc word type count size span) =
      e.Calloc word (number_type_name of type) (number_expression of count) (number_expression of size) span
  number_expression of (e.Index base index span) = e.Index (number_expression of base) (number_expression of index) span
  number_expression of (e.Dot base member span) = e.Dot (number_expression of base) (number_name of member) span
  number_expression of (e.Arrow base member span) = e.Arrow (number_expression of base) (number_name of member) span
  number_expression of (e.Unary operator operand span) = e.Unary operator (number_expression of operand) span
  number_expression of (e.Binary operator left right span) = e.Binary operator (number_expression of left) (number_expression of right) span

  pub number_expressions : Numbers → Expressions → Expressions
  number_expressions of e.NoMore = e.NoMore
  number_expressions of (e.Then first others) = e.Then (number_expression of first) (number_expressions of others)

  pub number_bounds : Numbers → Bounds → Bounds
  number_bounds of (e.Count count span) = e.Count (number_expression of count) span
  number_bounds of (e.ByteCount count span) = e.ByteCount (number_expression of count) span
  number_bounds of (e.Unknown span) = e.Unknown span
  number_bounds of (e.Range low high span) = e.Range (number_expression of low) (number_expression of high) span

abbrev pub number_initializer : Numbers → Initializer → Initializer
number_initializer of (s.Value value) = s.Value (number_expression of value)
number_initializer of (s.Constants constants span) = s.Constants constants span

abbrev pub number_declarator : Numbers → Declarator → Declarator
number_declarator of d =
    record d { name = number_name of d.name; bounds = option_map (number_bounds of) d.bounds; initializer = option_map (number_initializer of) d.initializer }

abbrev pub number_declaration : Numbers → Declaration → Declaration
number_declaration of d = record d { base = number_type of d.base; declarators = map (number_declarator of) d.declarators }

abbrev pub number_assignment : Numbers → Assignment → Assignment
number_assignment of (s.Store operator target value span) = s.Store operator (number_expression of target) (number_expression of value) span
number_assignment of (s.Step operator side target span) = s.Step operator side (number_expression of target) span

abbrev pub number_initial : Numbers → ForInitial → ForInitial
number_initial of s.Nothing = s.Nothing
number_initial of (s.Declares d) = s.Declares (number_declaration of d)
number_initial of (s.Assigns a) = s.Assigns (number_assignment of a)

abbrev mutual
  pub number_statement : Numbers → Statement → Statement
  number_statement of (s.Block mark inner span) = s.Block mark (number_statements of inner) span
  number_statement of (s.Bundle assignments span) = s.Bundle (map (number_assignment of) assignments) span
  number_statement of (s.Declare d span) = s.Declare (number_declaration of d) span
  number_statement of (s.Assign a span) = s.Assign (number_assignment of a) span
  number_statement of (s.CallAlone call span) = s.CallAlone (number_expression of call) span
  number_statement of (s.Empty span) = s.Empty span
  number_statement of (s.If condition consequent span) = s.If (number_expression of condition) (number_statement of consequent) span
  number_statement of (s.IfElse condition consequent alternative span) =
      s.IfElse (number_expression of condition) (number_statement of consequent) (number_statement of alternative) span
  number_statement of (s.While condition body span) = s.While (number_expression of condition) (number_statement of body) span
  number_statement of (s.For initial condition step body span) =
      s.For (number_initial of initial) (option_map (number_expression of) condition) (option_map (number_assignment of) step) (number_statement of body) span
  number_statement of (s.Return value span) = s.Return (option_map (number_expression of) value) span
  number_statement of (s.Break span) = s.Break span
  number_statement of (s.Continue span) = s.Continue span

  pub number_statements : Numbers → Statements → Statements
  number_statements of s.NoMore = s.NoMore
  number_statements of (s.Then first others) = s.Then (number_statement of first) (number_statements of others)

abbrev pub number_member : Numbers → Member → Member
number_member of m = record m { type = number_type_name of m.type; name = number_name of m.name; bounds = option_map (number_bounds of) m.bounds }

abbrev pub number_structure : Numbers → Structure → Structure
number_structure of d = record d { tag = number_name of d.tag; members = map (number_member of) d.members }

abbrev pub number_global : Numbers → Global → Global
number_global of g = record g { base = number_type of g.base; declarators = map (number_declarator of) g.declarators }

abbrev pub number_result : Numbers → ResultForm → ResultForm
number_result of (i.Void span) = i.Void span
number_result of (i.Value base) = i.Value (number_type of base)

abbrev pub number_parameters : Numbers → Parameters → Parameters
number_parameters of i.Nothing = i.Nothing
number_parameters of i.VoidAlone = i.VoidAlone
number_parameters of (i.Listed parameters) = i.Listed (map (number_member of) parameters)

abbrev pub number_body : Numbers → Body → Body
number_body of b = record b { statements = number_statements of b.statements }

abbrev pub number_function : Numbers → Function → Function
number_function of f = record f {
  result = number_result of f.result;
  name = number_name of f.name;
  parameters = number_parameters of f.parameters;
  bounds = option_map (number_bounds of) f.bounds;
  body = option_map (number_body of) f.body;
}

abbrev pub number_item : Numbers → Item → Item
number_item of (i.RegionItem region span) = i.RegionItem region span
number_item of (i.StructureItem d) = i.StructureItem (number_structure of d)
number_item of (i.GlobalItem g) = i.GlobalItem (number_global of g)
number_item of (i.FunctionItem f) = i.FunctionItem (number_function of f)

-- the whole tree with numbers
abbrev pub numbered : Numbers → Tree → Tree
numbered of t = record t { items = map (number_item of) t.items }
