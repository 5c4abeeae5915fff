-- Trees whose names have numbers are the same as without, but for these, and so as high.
use Rattle.std.proofs.Common.{◌≡◌, ℕ, List, [], ◌∷◌, map, Option, Some, None, refl}
use Rattle.std.specs.Option.{option_map}
use Rattle.ckc_tree.specs.Types.{TypeTree, IntType, CharType, StructType, PointerType}
use Rattle.ckc_tree.specs.Expressions as e
use Rattle.ckc_tree.specs.Expressions.{Expression, Expressions, Bounds}
use Rattle.ckc_tree.specs.Statements as s
use Rattle.ckc_tree.specs.Statements.{Initializer, Declarator, Declaration, Assignment, ForInitial, Statement, Statements}
use Rattle.ckc_tree.specs.Items as i
use Rattle.ckc_tree.specs.Items.{Member, ResultForm, Parameters, Body, Item, Tree}
use Rattle.ckc_tree.specs.Bare.{bare_type, bare_expression, bare_expressions, bare_bounds, bare_initializer, bare_declarator, bare_declaration, bare_assignment, bare_initial, bare_statement, bare_statements, bare_member, bare_result, bare_parameters, bare_body, bare_item}
use Rattle.ckc_tree.specs.Heights.{height}
use Rattle.ckc_tree.proofs.SameHeights.{same_height}
use Rattle.ckc_tree.specs.Numbers.{Numbers, number_type, number_expression, number_expressions, number_bounds, number_initializer, number_declarator, number_declaration, number_assignment, number_initial, number_statement, number_statements, number_member, number_result, number_parameters, number_body, number_item, numbered}

module _ (of : Numbers) where
  type_same : (t : TypeTree) → bare_type (number_type of t) ≡ bare_type t
  type_same (IntType span) = refl
  type_same (CharType span) = refl
  type_same (StructType tag span) = refl
  type_same (PointerType word element stars span) = rw (type_same element) refl

  mutual
    expression_same : (x : Expression) → bare_expression (number_expression of x) ≡ bare_expression x
    expression_same (e.Number value span) = refl
    expression_same (e.Character value span) = refl
    expression_same (e.Text bytes span) = refl
    expression_same (e.Name name) = refl
    expression_same (e.Call callee arguments span) = rw (expressions_same arguments) refl
    expression_same (e.SizeOf type span) = rw (type_same type.base) refl
    expression_same (e.Cast word type operand span) = rw (type_same type.base, expression_same operand) refl
    expression_same (e.BoundedCast word type operand bounds span) = rw (type_same type.base, expression_same operand, bounds_same bounds) refl
    expression_same (e.Malloc word type size span) = rw (type_same type.base, expression_same size) refl
    expression_same (e.Calloc word type count size span) = rw (type_same type.base, expression_same count, expression_same size) refl
    expression_same (e.Index base index span) = rw (expression_same base, expression_same index) refl
    expression_same (e.Dot base member span) = rw (expression_same base) refl
    expression_same (e.Arrow base member span) = rw (expression_same base) refl
    expression_same (e.Unary operator operand span) = rw (expression_same operand) refl
    expression_same (e.Binary operator left right span) = rw (expression_same left, expression_same right) refl

    expressions_same : (xs : Expressions) → bare_expressions (number_expressions of xs) ≡ bare_expressions xs
    expressions_same e.NoMore = refl
    expressions_same (e.Then first others) = rw (expression_same first, expressions_same others) refl

    bounds_same : (b : Bounds) → bare_bounds (number_bounds of b) ≡ bare_bounds b
    bounds_same (e.Count count span) = rw (expression_same count) refl
    bounds_same (e.ByteCount count span) = rw (expression_same count) refl
    bounds_same (e.Unknown span) = refl
    bounds_same (e.Range low high span) = rw (expression_same low, expression_same high) refl

  optional_bounds_same : (o : Option Bounds) → option_map bare_bounds (option_map (number_bounds of) o) ≡ option_map bare_bounds o
  optional_bounds_same None = refl
  optional_bounds_same (Some bounds) = rw (bounds_same bounds) refl

  optional_expression_same : (o : Option Expression) → option_map bare_expression (option_map (number_expression of) o) ≡ option_map bare_expression o
  optional_expression_same None = refl
  optional_expression_same (Some x) = rw (expression_same x) refl

  initializer_same : (o : Option Initializer) → option_map bare_initializer (option_map (number_initializer of) o) ≡ option_map bare_initializer o
  initializer_same None = refl
  initializer_same (Some (s.Value value)) = rw (expression_same value) refl
  initializer_same (Some (s.Constants constants span)) = refl

  declarators_same : (ds : List Declarator) → map bare_declarator (map (number_declarator of) ds) ≡ map bare_declarator ds
  declarators_same [] = refl
  declarators_same (d ∷ ds) = rw (optional_bounds_same d.bounds, initializer_same d.initializer, declarators_same ds) refl

  declaration_same : (d : Declaration) → bare_declaration (number_declaration of d) ≡ bare_declaration d
  declaration_same d = rw (type_same d.base, declarators_same d.declarators) refl

  assignment_same : (a : Assignment) → bare_assignment (number_assignment of a) ≡ bare_assignment a
  assignment_same (s.Store operator target value span) = rw (expression_same target, expression_same value) refl
  assignment_same (s.Step operator side target span) = rw (expression_same target) refl

  assignments_same : (list : List Assignment) → map bare_assignment (map (number_assignment of) list) ≡ map bare_assignment list
  assignments_same [] = refl
  assignments_same (a ∷ list) = rw (assignment_same a, assignments_same list) refl

  optional_assignment_same : (o : Option Assignment) → option_map bare_assignment (option_map (number_assignment of) o) ≡ option_map bare_assignment o
  optional_assignment_same None = refl
  optional_assignment_same (Some a) = rw (assignment_same a) refl

  initial_same : (x : ForInitial) → bare_initial (number_initial of x) ≡ bare_initial x
  initial_same s.Nothing = refl
  initial_same (s.Declares d) = rw (declaration_same d) refl
  initial_same (s.Assigns a) = rw (assignment_same a) refl

  mutual
    statement_same : (x : Statement) → bare_statement (number_statement of x) ≡ bare_statement x
    statement_same (s.Block mark inner span) = rw (statements_same inner) refl
    statement_same (s.Bundle assignments span) = rw (assignments_same assignments) refl
    statement_same (s.Declare d span) = rw (declaration_same d) refl
    statement_same (s.Assign a span) = rw (assignment_same a) refl
    statement_same (s.CallAlone call span) = rw (expression_same call) refl
    statement_same (s.Empty span) = refl
    statement_same (s.If condition consequent span) = rw (expression_same condition, statement_same consequent) refl
    statement_same (s.IfElse condition consequent alternative span) = rw (expression_same condition, statement_same consequent, statement_same alternative) refl
    statement_same (s.While condition body span) = rw (expression_same condition, statement_same body) refl
    statement_same (s.For initial condition step body span) = rw (initial_same initial, optional_expression_same condition, optional_assignment_same step, statement_same body) refl
    statement_same (s.Return value span) = rw (optional_expression_same value) refl
    statement_same (s.Break span) = refl
    statement_same (s.Continue span) = refl

    statements_same : (xs : Statements) → bare_statements (number_statements of xs) ≡ bare_statements xs
    statements_same s.NoMore = refl
    statements_same (s.Then first others) = rw (statement_same first, statements_same others) refl

  members_same : (ms : List Member) → map bare_member (map (number_member of) ms) ≡ map bare_member ms
  members_same [] = refl
  members_same (m ∷ ms) = rw (type_same m.type.base, optional_bounds_same m.bounds, members_same ms) refl

  result_same : (r : ResultForm) → bare_result (number_result of r) ≡ bare_result r
  result_same (i.Void span) = refl
  result_same (i.Value base) = rw (type_same base) refl

  parameters_same : (p : Parameters) → bare_parameters (number_parameters of p) ≡ bare_parameters p
  parameters_same i.Nothing = refl
  parameters_same i.VoidAlone = refl
  parameters_same (i.Listed parameters) = rw (members_same parameters) refl

  body_same : (o : Option Body) → option_map bare_body (option_map (number_body of) o) ≡ option_map bare_body o
  body_same None = refl
  body_same (Some b) = rw (statements_same b.statements) refl

  item_same : (x : Item) → bare_item (number_item of x) ≡ bare_item x
  item_same (i.RegionItem region span) = refl
  item_same (i.StructureItem d) = rw (members_same d.members) refl
  item_same (i.GlobalItem g) = rw (type_same g.base, declarators_same g.declarators) refl
  item_same (i.FunctionItem f) = rw (result_same f.result, parameters_same f.parameters, optional_bounds_same f.bounds, body_same f.body) refl

  items_same : (xs : List Item) → map bare_item (map (number_item of) xs) ≡ map bare_item xs
  items_same [] = refl
  items_same (x ∷ xs) = rw (item_same x, items_same xs) refl

pub numbered_height : (of : Numbers) (t : Tree) → height (numbered of t) ≡ height t
numbered_height of t = same_height (numbered of t) t (rw (items_same of t.items) refl)
