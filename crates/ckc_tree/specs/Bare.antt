-- Trees without places and numbers: each span is put to the start of the source, and each number of a name to 0. Two trees are
-- the same but for their spans, and for numbers, where these are equal.
use Rattle.std.specs.Prelude.{◌≡◌, map}
use Rattle.std.specs.Option.{option_map}
use Rattle.ckc_text.specs.declared.place.Span.{Span}
use Rattle.ckc_tree.specs.declared.identifier.Identifier.{Identifier}
use Rattle.ckc_tree.specs.declared.stmt.ArrayForm.{ArrayForm}
use Rattle.ckc_tree.specs.declared.stmt.SignedConstant.{SignedConstant}
use Rattle.ckc_tree.specs.Types.{TypeTree, IntType, CharType, StructType, PointerType, TypeName}
use Rattle.ckc_tree.specs.Expressions as e
use Rattle.ckc_tree.specs.Expressions.{Expression, Expressions, Bounds}
use Rattle.ckc_tree.specs.Statements as s
use Rattle.ckc_tree.specs.Statements.{Initializer, Declarator, Declaration, Assignment, ForInitial, Statement, Statements}
use Rattle.ckc_tree.specs.Items as i
use Rattle.ckc_tree.specs.Items.{Member, Structure, Global, ResultForm, Parameters, Body, Function, Item, Tree}

abbrev nowhere : Span
nowhere = record { from = 0; to = 0 }

abbrev pub bare_name : Identifier → Identifier
bare_name name = record { name = name.name; number = 0; span = nowhere }

abbrev pub bare_type : TypeTree → TypeTree
bare_type (IntType span) = IntType nowhere
bare_type (CharType span) = CharType nowhere
bare_type (StructType tag span) = StructType (bare_name tag) nowhere
bare_type (PointerType word element stars span) = PointerType word (bare_type element) stars nowhere

abbrev pub bare_type_name : TypeName → TypeName
bare_type_name t = record { base = bare_type t.base; stars = t.stars }

abbrev mutual
  pub bare_expression : Expression → Expression
  bare_expression (e.Number value span) = e.Number value nowhere
  bare_expression (e.Character value span) = e.Character value nowhere
  bare_expression (e.Text bytes span) = e.Text bytes nowhere
  bare_expression (e.Name name) = e.Name (bare_name name)
  bare_expression (e.Call callee arguments span) = e.Call (bare_name callee) (bare_expressions arguments) nowhere
  bare_expression (e.SizeOf type span) = e.SizeOf (bare_type_name type) nowhere
  bare_expression (e.Cast word type operand span) = e.Cast word (bare_type_name type) (bare_expression operand) nowhere
  bare_expression (e.BoundedCast word type operand bounds span) =
      e.BoundedCast word (bare_type_name type) (bare_expression operand) (bare_bounds bounds) nowhere
  bare_expression (e.Malloc word type size span) = e.Malloc word (bare_type_name type) (bare_expression size) nowhere
  bare_expression (e.Calloc word type count size span) = e.Calloc word (bare_type_name type) (bare_expression count) (bare_expression size) nowhere
  bare_expression (e.Index base index span) = e.Index (bare_expression base) (bare_expression index) nowhere
  bare_expression (e.Dot base member span) = e.Dot (bare_expression base) (bare_name member) nowhere
  bare_expression (e.Arrow base member span) = e.Arrow (bare_expression base) (bare_name member) nowhere
  bare_expression (e.Unary operator operand span) = e.Unary operator (bare_expression operand) nowhere
  bare_expression (e.Binary operator left right span) = e.Binary operator (bare_expression left) (bare_expression right) nowhere

  pub bare_expressions : Expressions → Expressions
  bare_expressions e.NoMore = e.NoMore
  bare_expressions (e.Then first others) = e.Then (bare_expression first) (bare_expressions others)

  pub bare_bounds : Bounds → Bounds
  bare_bounds (e.Count count span) = e.Count (bare_expression count) nowhere
  bare_bounds (e.ByteCount count span) = e.ByteCount (bare_expression count) nowhere
  bare_bounds (e.Unknown span) = e.Unknown nowhere
  bare_bounds (e.Range low high span) = e.Range (bare_expression low) (bare_expression high) nowhere

abbrev pub bare_array : ArrayForm → ArrayForm
bare_array a = record { kind = a.kind; length = a.length; span = nowhere }

abbrev pub bare_constant : SignedConstant → SignedConstant
bare_constant c = record { negative = c.negative; constant = c.constant; span = nowhere }

abbrev pub bare_initializer : Initializer → Initializer
bare_initializer (s.Value value) = s.Value (bare_expression value)
bare_initializer (s.Constants constants span) = s.Constants (map bare_constant constants) nowhere

abbrev pub bare_declarator : Declarator → Declarator
bare_declarator d = record {
  stars = d.stars;
  name = bare_name d.name;
  array = option_map bare_array d.array;
  bounds = option_map bare_bounds d.bounds;
  initializer = option_map bare_initializer d.initializer;
  span = nowhere;
}

abbrev pub bare_declaration : Declaration → Declaration
bare_declaration d = record { base = bare_type d.base; declarators = map bare_declarator d.declarators; span = nowhere }

abbrev pub bare_assignment : Assignment → Assignment
bare_assignment (s.Store operator target value span) = s.Store operator (bare_expression target) (bare_expression value) nowhere
bare_assignment (s.Step operator side target span) = s.Step operator side (bare_expression target) nowhere

abbrev pub bare_initial : ForInitial → ForInitial
bare_initial s.Nothing = s.Nothing
bare_initial (s.Declares declaration) = s.Declares (bare_declaration declaration)
bare_initial (s.Assigns assignment) = s.Assigns (bare_assignment assignment)

abbrev mutual
  pub bare_statement : Statement → Statement
  bare_statement (s.Block mark statements span) = s.Block mark (bare_statements statements) nowhere
  bare_statement (s.Bundle assignments span) = s.Bundle (map bare_assignment assignments) nowhere
  bare_statement (s.Declare declaration span) = s.Declare (bare_declaration declaration) nowhere
  bare_statement (s.Assign assignment span) = s.Assign (bare_assignment assignment) nowhere
  bare_statement (s.CallAlone call span) = s.CallAlone (bare_expression call) nowhere
  bare_statement (s.Empty span) = s.Empty nowhere
  bare_statement (s.If condition consequent span) = s.If (bare_expression condition) (bare_statement consequent) nowhere
  bare_statement (s.IfElse condition consequent alternative span) =
      s.IfElse (bare_expression condition) (bare_statement consequent) (bare_statement alternative) nowhere
  bare_statement (s.While condition body span) = s.While (bare_expression condition) (bare_statement body) nowhere
  bare_statement (s.For initial condition step body span) =
      s.For (bare_initial initial) (option_map bare_expression condition) (option_map bare_assignment step) (bare_statement body) nowhere
  bare_statement (s.Return value span) = s.Return (option_map bare_expression value) nowhere
  bare_statement (s.Break span) = s.Break nowhere
  bare_statement (s.Continue span) = s.Continue nowhere

  pub bare_statements : Statements → Statements
  bare_statements s.NoMore = s.NoMore
  bare_statements (s.Then first others) = s.Then (bare_statement first) (bare_statements others)

abbrev pub bare_member : Member → Member
bare_member m = record { type = bare_type_name m.type; name = bare_name m.name; bounds = option_map bare_bounds m.bounds; span = nowhere }

abbrev pub bare_structure : Structure → Structure
bare_structure x = record { tainted = x.tainted; tag = bare_name x.tag; members = map bare_member x.members; span = nowhere }

abbrev pub bare_global : Global → Global
bare_global x = record { tainted = x.tainted; base = bare_type x.base; declarators = map bare_declarator x.declarators; span = nowhere }

abbrev pub bare_result : ResultForm → ResultForm
bare_result (i.Void span) = i.Void nowhere
bare_result (i.Value base) = i.Value (bare_type base)

abbrev pub bare_parameters : Parameters → Parameters
bare_parameters i.Nothing = i.Nothing
bare_parameters i.VoidAlone = i.VoidAlone
bare_parameters (i.Listed parameters) = i.Listed (map bare_member parameters)

abbrev pub bare_body : Body → Body
bare_body b = record { mark = b.mark; statements = bare_statements b.statements; span = nowhere }

abbrev pub bare_function : Function → Function
bare_function f = record {
  kind = f.kind;
  mark = f.mark;
  result = bare_result f.result;
  stars = f.stars;
  name = bare_name f.name;
  parameters = bare_parameters f.parameters;
  bounds = option_map bare_bounds f.bounds;
  body = option_map bare_body f.body;
  span = nowhere;
}

abbrev pub bare_item : Item → Item
bare_item (i.RegionItem region span) = i.RegionItem region nowhere
bare_item (i.StructureItem structure) = i.StructureItem (bare_structure structure)
bare_item (i.GlobalItem global) = i.GlobalItem (bare_global global)
bare_item (i.FunctionItem function) = i.FunctionItem (bare_function function)

abbrev pub bare_tree : Tree → Tree
bare_tree t = record { items = map bare_item t.items; span = nowhere }

-- the trees are the same but for their spans
abbrev pub SameTree : Tree → Tree → Type 0
SameTree t u = bare_tree t ≡ bare_tree u
