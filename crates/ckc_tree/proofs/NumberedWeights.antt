-- Trees whose names have numbers have as many nodes as without.
use Rattle.std.proofs.Common.{◌≡◌, ℕ, List, [], ◌∷◌, map, Option, Some, None, refl}
use Rattle.std.specs.Option.{option_map}
use Rattle.ckc_tree.specs.Types.{TypeTree, IntType, CharType, StructType, PointerType}
use Rattle.ckc_tree.specs.Expressions as e
use Rattle.ckc_tree.specs.Expressions.{Expression, Expressions, Bounds}
use Rattle.ckc_tree.specs.Statements as s
use Rattle.ckc_tree.specs.Statements.{Initializer, Declarator, Declaration, Assignment, ForInitial, Statement, Statements}
use Rattle.ckc_tree.specs.Items as i
use Rattle.ckc_tree.specs.Items.{Member, ResultForm, Parameters, Body, Item, Tree}
use Rattle.ckc_tree.specs.Weights.{type_weight, expression_weight, expressions_weight, bounds_weight, optional_bounds_weight, optional_expression_weight, optional_initializer_weight, declarators_weight, declaration_weight, assignment_weight, assignments_weight, optional_assignment_weight, for_initial_weight, statement_weight, statements_weight, members_weight, result_weight, parameters_weight, optional_body_weight, item_weight, items_weight, tree_weight}
use Rattle.ckc_tree.specs.Numbers.{Numbers, number_type, number_expression, number_expressions, number_bounds, number_initializer, number_declarator, number_declaration, number_assignment, number_initial, number_statement, number_statements, number_member, number_result, number_parameters, number_body, number_item, numbered}

module _ (of : Numbers) where
  type_same : (t : TypeTree) → type_weight (number_type of t) ≡ type_weight t
  type_same (IntType span) = refl
  type_same (CharType span) = refl
  type_same (StructType tag span) = refl
  type_same (PointerType word element stars span) = rw (type_same element) refl

  mutual
    expression_same : (x : Expression) → expression_weight (number_expression of x) ≡ expression_weight x
    expression_same (e.Number value span) = refl
    expression_same (e.Character value span) = refl
    expression_same (e.Text bytes span) = refl
    expression_same (e.Name name) = refl
    expression_same (e.Call callee arguments span) = rw (expressions_same arguments) refl
    expression_same (e.SizeOf type span) = rw (type_same type.base) refl
    expression_same (e.Cast word type operand span) = rw (type_same type.base, expression_same operand) refl
    expression_same (e.BoundedCast word type operand bounds span) = rw (type_same type.base, expression_same operand, bounds_same bounds) refl
    expression_same (e.Malloc word type size span) = rw (type_same type.base, expression_same size) refl
    expression_same (e.Calloc word type count size span) = rw (type_same type.base, expression_same count, expression_same size) refl
    expression_same (e.Index base index span) = rw (expression_same base, expression_same index) refl
    expression_same (e.Dot base member span) = rw (expression_same base) refl
    expression_same (e.Arrow base member span) = rw (expression_same base) refl
    expression_same (e.Unary operator operand span) = rw (expression_same operand) refl
    expression_same (e.Binary operator left right span) = rw (expression_same left, expression_same right) refl

    expressions_same : (xs : Expressions) → expressions_weight (number_expressions of xs) ≡ expressions_weight xs
    expressions_same e.NoMore = refl
    expressions_same (e.Then first others) = rw (expression_same first, expressions_same others) refl

    bounds_same : (b : Bounds) → bounds_weight (number_bounds of b) ≡ bounds_weight b
    bounds_same (e.Count count span) = rw (expression_same count) refl
    bounds_same (e.ByteCount count span) = rw (expression_same count) refl
    bounds_same (e.Unknown span) = refl
    bounds_same (e.Range low high span) = rw (expression_same low, expression_same high) refl

  optional_bounds_same : (o : Option Bounds) → optional_bounds_weight (option_map (number_bounds of) o) ≡ optional_bounds_weight o
  optional_bounds_same None = refl
  optional_bounds_same (Some bounds) = bounds_same bounds

  optional_expression_same : (o : Option Expression) → optional_expression_weight (option_map (number_expression of) o) ≡ optional_expression_weight o
  optional_expression_same None = refl
  optional_expression_same (Some x) = expression_same x

  initializer_same : (o : Option Initializer) → optional_initializer_weight (option_map (number_initializer of) o) ≡ optional_initializer_weight o
  initializer_same None = refl
  initializer_same (Some (s.Value value)) = expression_same value
  initializer_same (Some (s.Constants constants span)) = refl

  declarators_same : (ds : List Declarator) → declarators_weight (map (number_declarator of) ds) ≡ declarators_weight ds
  declarators_same [] = refl
  declarators_same (d ∷ ds) = rw (optional_bounds_same d.bounds, initializer_same d.initializer, declarators_same ds) refl

  declaration_same : (d : Declaration) → declaration_weight (number_declaration of d) ≡ declaration_weight d
  declaration_same d = rw (type_same d.base, declarators_same d.declarators) refl

  assignment_same : (a : Assignment) → assignment_weight (number_assignment of a) ≡ assignment_weight a
  assignment_same (s.Store operator target value span) = rw (expression_same target, expression_same value) refl
  assignment_same (s.Step operator side target span) = rw (expression_same target) refl

  assignments_same : (list : List Assignment) → assignments_weight (map (number_assignment of) list) ≡ assignments_weight list
  assignments_same [] = refl
  assignments_same (a ∷ list) = rw (assignment_same a, assignments_same list) refl

  optional_assignment_same : (o : Option Assignment) → optional_assignment_weight (option_map (number_assignment of) o) ≡ optional_assignment_weight o
  optional_assignment_same None = refl
  optional_assignment_same (Some a) = assignment_same a

  initial_same : (x : ForInitial) → for_initial_weight (number_initial of x) ≡ for_initial_weight x
  initial_same s.Nothing = refl
  initial_same (s.Declares d) = declaration_same d
  initial_same (s.Assigns a) = assignment_same a

  mutual
    statement_same : (x : Statement) → statement_weight (number_statement of x) ≡ statement_weight x
    statement_same (s.Block mark inner span) = rw (statements_same inner) refl
    statement_same (s.Bundle assignments span) = rw (assignments_same assignments) refl
    statement_same (s.Declare d span) = declaration_same d
    statement_same (s.Assign a span) = assignment_same a
    statement_same (s.CallAlone call span) = rw (expression_same call) refl
    statement_same (s.Empty span) = refl
    statement_same (s.If condition consequent span) = rw (expression_same condition, statement_same consequent) refl
    statement_same (s.IfElse condition consequent alternative span) = rw (expression_same condition, statement_same consequent, statement_same alternative) refl
    statement_same (s.While condition body span) = rw (expression_same condition, statement_same body) refl
    statement_same (s.For initial condition step body span) = rw (initial_same initial, optional_expression_same condition, optional_assignment_same step, statement_same body) refl
    statement_same (s.Return value span) = rw (optional_expression_same value) refl
    statement_same (s.Break span) = refl
    statement_same (s.Continue span) = refl

    statements_same : (xs : Statements) → statements_weight (number_statements of xs) ≡ statements_weight xs
    statements_same s.NoMore = refl
    statements_same (s.Then first others) = rw (statement_same first, statements_same others) refl

  members_same : (ms : List Member) → members_weight (map (number_member of) ms) ≡ members_weight ms
  members_same [] = refl
  members_same (m ∷ ms) = rw (type_same m.type.base, optional_bounds_same m.bounds, members_same ms) refl

  result_same : (r : ResultForm) → result_weight (number_result of r) ≡ result_weight r
  result_same (i.Void span) = refl
  result_same (i.Value base) = type_same base

  parameters_same : (p : Parameters) → parameters_weight (number_parameters of p) ≡ parameters_weight p
  parameters_same i.Nothing = refl
  parameters_same i.VoidAlone = refl
  parameters_same (i.Listed parameters) = members_same parameters

  body_same : (o : Option Body) → optional_body_weight (option_map (number_body of) o) ≡ optional_body_weight o
  body_same None = refl
  body_same (Some b) = rw (statements_same b.statements) refl

  item_same : (x : Item) → item_weight (number_item of x) ≡ item_weight x
  item_same (i.RegionItem region span) = refl
  item_same (i.StructureItem d) = rw (members_same d.members) refl
  item_same (i.GlobalItem g) = rw (type_same g.base, declarators_same g.declarators) refl
  item_same (i.FunctionItem f) = rw (result_same f.result, parameters_same f.parameters, optional_bounds_same f.bounds, body_same f.body) refl

  items_same : (xs : List Item) → items_weight (map (number_item of) xs) ≡ items_weight xs
  items_same [] = refl
  items_same (x ∷ xs) = rw (item_same x, items_same xs) refl

pub same_weight : (of : Numbers) (t : Tree) → tree_weight (numbered of t) ≡ tree_weight t
same_weight of t = items_same of t.items
