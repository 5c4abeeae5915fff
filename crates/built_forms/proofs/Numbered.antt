-- Trees whose names have numbers have only forms that are built exactly where they do without.
use Rattle.std.proofs.Common.{◌≡◌, Bool, List, [], ◌∷◌, map, Option, Some, None, refl}
use Rattle.std.specs.Prelude.{is_none}
use Rattle.std.specs.List.{list_all}
use Rattle.std.specs.Option.{option_map}
use Rattle.ckc_tree.specs.Types.{TypeTree, IntType, CharType, StructType, PointerType}
use Rattle.ckc_tree.specs.Expressions as e
use Rattle.ckc_tree.specs.Expressions.{Expression, Expressions, Bounds}
use Rattle.ckc_tree.specs.Statements as s
use Rattle.ckc_tree.specs.Statements.{Initializer, Declarator, Declaration, Assignment, ForInitial, Statement, Statements}
use Rattle.ckc_tree.specs.Items as i
use Rattle.ckc_tree.specs.Items.{Member, ResultForm, Parameters, Body, Function, Item, Tree}
use Rattle.built_forms.specs.Built.{built_type, is_number_type, built_expression, built_expressions, built_bounds, optional, built_initializer, built_declarator, built_declaration, built_assignment, built_initial, built_statement, built_statements, built_member, built_parameter, is_number_parameter, built_parameters, built_result, is_number_result, built_body, built_result_bounds, built_of_kind, built_item, is_built}
use Rattle.ckc_tree.specs.declared.item.FunctionKind.{FunctionKind}
use Rattle.ckc_tree.specs.declared.item.FunctionKind.TheVariants as function_kinds
use Rattle.ckc_tree.specs.Numbers.{Numbers, number_type, number_expression, number_expressions, number_bounds, number_initializer, number_declarator, number_declaration, number_assignment, number_initial, number_statement, number_statements, number_member, number_result, number_parameters, number_body, number_function, number_item, numbered}

is_none_same : {A B : Type 0} (f : A → B) (o : Option A) → is_none (option_map f o) ≡ is_none o
is_none_same f None = refl
is_none_same f (Some x) = refl

module _ (of : Numbers) where
  type_same : (t : TypeTree) → built_type (number_type of t) ≡ built_type t
  type_same (IntType span) = refl
  type_same (CharType span) = refl
  type_same (StructType tag span) = refl
  type_same (PointerType word element stars span) = rw (type_same element) refl

  mutual
    expression_same : (x : Expression) → built_expression (number_expression of x) ≡ built_expression x
    expression_same (e.Number value span) = refl
    expression_same (e.Character value span) = refl
    expression_same (e.Text bytes span) = refl
    expression_same (e.Name name) = refl
    expression_same (e.Call callee arguments span) = rw (expressions_same arguments) refl
    expression_same (e.SizeOf type span) = rw (type_same type.base) refl
    expression_same (e.Cast word type operand span) = rw (type_same type.base, expression_same operand) refl
    expression_same (e.BoundedCast word type operand bounds span) = rw (type_same type.base, expression_same operand, bounds_same bounds) refl
    expression_same (e.Malloc word type size span) = rw (type_same type.base, expression_same size) refl
    expression_same (e.Calloc word type count size span) = rw (type_same type.base, expression_same count, expression_same size) refl
    expression_same (e.Index base index span) = rw (expression_same base, expression_same index) refl
    expression_same (e.Dot base member span) = rw (expression_same base) refl
    expression_same (e.Arrow base member span) = rw (expression_same base) refl
    expression_same (e.Unary operator operand span) = rw (expression_same operand) refl
    expression_same (e.Binary operator left right span) = rw (expression_same left, expression_same right) refl

    expressions_same : (xs : Expressions) → built_expressions (number_expressions of xs) ≡ built_expressions xs
    expressions_same e.NoMore = refl
    expressions_same (e.Then first others) = rw (expression_same first, expressions_same others) refl

    bounds_same : (b : Bounds) → built_bounds (number_bounds of b) ≡ built_bounds b
    bounds_same (e.Count count span) = expression_same count
    bounds_same (e.ByteCount count span) = expression_same count
    bounds_same (e.Unknown span) = refl
    bounds_same (e.Range low high span) = rw (expression_same low, expression_same high) refl

  optional_expression_same : (o : Option Expression) → optional built_expression (option_map (number_expression of) o) ≡ optional built_expression o
  optional_expression_same None = refl
  optional_expression_same (Some x) = expression_same x

  optional_bounds_same : (o : Option Bounds) → optional built_bounds (option_map (number_bounds of) o) ≡ optional built_bounds o
  optional_bounds_same None = refl
  optional_bounds_same (Some b) = bounds_same b

  initializer_same : (o : Option Initializer) → optional built_initializer (option_map (number_initializer of) o) ≡ optional built_initializer o
  initializer_same None = refl
  initializer_same (Some (s.Value value)) = expression_same value
  initializer_same (Some (s.Constants constants span)) = refl

  declarators_same : (ds : List Declarator) → list_all built_declarator (map (number_declarator of) ds) ≡ list_all built_declarator ds
  declarators_same [] = refl
  declarators_same (d ∷ ds) = rw (optional_bounds_same d.bounds, initializer_same d.initializer, declarators_same ds) refl

  declaration_same : (d : Declaration) → built_declaration (number_declaration of d) ≡ built_declaration d
  declaration_same d = rw (type_same d.base, declarators_same d.declarators) refl

  assignment_same : (a : Assignment) → built_assignment (number_assignment of a) ≡ built_assignment a
  assignment_same (s.Store operator target value span) = rw (expression_same target, expression_same value) refl
  assignment_same (s.Step operator side target span) = rw (expression_same target) refl

  assignments_same : (xs : List Assignment) → list_all built_assignment (map (number_assignment of) xs) ≡ list_all built_assignment xs
  assignments_same [] = refl
  assignments_same (a ∷ xs) = rw (assignment_same a, assignments_same xs) refl

  optional_assignment_same : (o : Option Assignment) → optional built_assignment (option_map (number_assignment of) o) ≡ optional built_assignment o
  optional_assignment_same None = refl
  optional_assignment_same (Some a) = assignment_same a

  initial_same : (x : ForInitial) → built_initial (number_initial of x) ≡ built_initial x
  initial_same s.Nothing = refl
  initial_same (s.Declares d) = declaration_same d
  initial_same (s.Assigns a) = assignment_same a

  mutual
    statement_same : (x : Statement) → built_statement (number_statement of x) ≡ built_statement x
    statement_same (s.Block mark inner span) = rw (statements_same inner) refl
    statement_same (s.Bundle assignments span) = assignments_same assignments
    statement_same (s.Declare d span) = declaration_same d
    statement_same (s.Assign a span) = assignment_same a
    statement_same (s.CallAlone call span) = rw (expression_same call) refl
    statement_same (s.Empty span) = refl
    statement_same (s.If condition consequent span) = rw (expression_same condition, statement_same consequent) refl
    statement_same (s.IfElse condition consequent alternative span) = rw (expression_same condition, statement_same consequent, statement_same alternative) refl
    statement_same (s.While condition body span) = rw (expression_same condition, statement_same body) refl
    statement_same (s.For initial condition step body span) = rw (initial_same initial, optional_expression_same condition, optional_assignment_same step, statement_same body) refl
    statement_same (s.Return value span) = rw (optional_expression_same value) refl
    statement_same (s.Break span) = refl
    statement_same (s.Continue span) = refl

    statements_same : (xs : Statements) → built_statements (number_statements of xs) ≡ built_statements xs
    statements_same s.NoMore = refl
    statements_same (s.Then first others) = rw (statement_same first, statements_same others) refl

  member_same : (m : Member) → built_member (number_member of m) ≡ built_member m
  member_same m = rw (type_same m.type.base, is_none_same (number_bounds of) m.bounds) refl

  members_same : (ms : List Member) → list_all built_member (map (number_member of) ms) ≡ list_all built_member ms
  members_same [] = refl
  members_same (m ∷ ms) = rw (member_same m, members_same ms) refl

  parameter_same : (m : Member) → built_parameter (number_member of m) ≡ built_parameter m
  parameter_same m = rw (type_same m.type.base, optional_bounds_same m.bounds) refl

  listed_same : (ms : List Member) → list_all built_parameter (map (number_member of) ms) ≡ list_all built_parameter ms
  listed_same [] = refl
  listed_same (m ∷ ms) = rw (parameter_same m, listed_same ms) refl

  number_type_same : (t : TypeTree) → is_number_type (number_type of t) ≡ is_number_type t
  number_type_same (IntType span) = refl
  number_type_same (CharType span) = refl
  number_type_same (StructType tag span) = refl
  number_type_same (PointerType word element stars span) = refl

  number_parameter_same : (m : Member) → is_number_parameter (number_member of m) ≡ is_number_parameter m
  number_parameter_same m = rw (number_type_same m.type.base, is_none_same (number_bounds of) m.bounds) refl

  number_parameters_same : (ms : List Member) → list_all is_number_parameter (map (number_member of) ms) ≡ list_all is_number_parameter ms
  number_parameters_same [] = refl
  number_parameters_same (m ∷ ms) = rw (number_parameter_same m, number_parameters_same ms) refl

  parameters_same : (test : Member → Bool) → ((ms : List Member) → list_all test (map (number_member of) ms) ≡ list_all test ms) → (p : Parameters) → built_parameters test (number_parameters of p) ≡ built_parameters test p
  parameters_same test same i.Nothing = refl
  parameters_same test same i.VoidAlone = refl
  parameters_same test same (i.Listed parameters) = same parameters

  result_same : (r : ResultForm) → built_result (number_result of r) ≡ built_result r
  result_same (i.Void span) = refl
  result_same (i.Value base) = type_same base

  number_result_same : (r : ResultForm) → is_number_result (number_result of r) ≡ is_number_result r
  number_result_same (i.Void span) = refl
  number_result_same (i.Value base) = number_type_same base

  body_same : (o : Option Body) → optional built_body (option_map (number_body of) o) ≡ optional built_body o
  body_same None = refl
  body_same (Some b) = statements_same b.statements

  result_bounds_same : (kind : FunctionKind) (b : Option Bounds) → built_result_bounds kind (option_map (number_bounds of) b) ≡ built_result_bounds kind b
  result_bounds_same function_kinds.Trusted b = optional_bounds_same b
  result_bounds_same function_kinds.Tainted b = is_none_same (number_bounds of) b
  result_bounds_same function_kinds.Callback b = is_none_same (number_bounds of) b

  kind_same : (kind : FunctionKind) (f : Function) → built_of_kind kind (number_function of f) ≡ built_of_kind kind f
  kind_same function_kinds.Trusted f = rw (result_same f.result, parameters_same built_parameter listed_same f.parameters, body_same f.body) refl
  kind_same function_kinds.Tainted f = rw (number_result_same f.result, parameters_same is_number_parameter number_parameters_same f.parameters, is_none_same (number_body of) f.body) refl
  kind_same function_kinds.Callback f = refl

  item_same : (x : Item) → built_item (number_item of x) ≡ built_item x
  item_same (i.RegionItem region span) = refl
  item_same (i.StructureItem d) = rw (members_same d.members) refl
  item_same (i.GlobalItem g) = rw (type_same g.base, declarators_same g.declarators) refl
  item_same (i.FunctionItem f) = rw (result_bounds_same f.kind f.bounds, kind_same f.kind f) refl

  items_same : (xs : List Item) → list_all built_item (map (number_item of) xs) ≡ list_all built_item xs
  items_same [] = refl
  items_same (x ∷ xs) = rw (item_same x, items_same xs) refl

pub same_forms : (of : Numbers) (t : Tree) → is_built (numbered of t) ≡ is_built t
same_forms of t = items_same of t.items
