-- Trees that are the same but for their spans are equally high.
use Rattle.std.proofs.Common.{◌≡◌, ℕ, zero, suc, nat_lt, Bool, true, false, List, [], ◌∷◌, map, Option, Some, None, refl, sym, ap, ◌∙◌}
use Rattle.std.specs.Option.{option_map}
use Rattle.ckc_tree.specs.Types.{TypeTree, IntType, CharType, StructType, PointerType}
use Rattle.ckc_tree.specs.Expressions as e
use Rattle.ckc_tree.specs.Expressions.{Expression, Expressions, Bounds}
use Rattle.ckc_tree.specs.Statements as s
use Rattle.ckc_tree.specs.Statements.{Initializer, Declarator, Declaration, Assignment, ForInitial, Statement, Statements}
use Rattle.ckc_tree.specs.Items as i
use Rattle.ckc_tree.specs.Items.{Member, ResultForm, Parameters, Body, Item, Tree}
use Rattle.ckc_tree.specs.Bare.{bare_type, bare_expression, bare_expressions, bare_bounds, bare_initializer, bare_declarator, bare_declaration, bare_assignment, bare_initial, bare_statement, bare_statements, bare_member, bare_result, bare_parameters, bare_body, bare_item, SameTree}
use Rattle.ckc_tree.specs.Heights.{Reach, deeper, ◌beside◌, inside, around, type_reach, expression_reach, expressions_reach, bounds_reach, optional_bounds_reach, optional_expression_reach, optional_initializer_reach, declarators_reach, declared_reach, assigned_reach, assignment_reach, assignments_reach, optional_assignment_reach, for_initial_reach, statement_reach, statements_reach, members_reach, result_reach, parameters_reach, optional_body_reach, item_reach, items_reach, height}

-- of the same height, wherever they start
record Level (r q : Reach) : Type 0 where
  same : r.height ≡ q.height

level : {r q : Reach} → r.height ≡ q.height → Level r q
level h = record { same = h }

deeper_same : (b : Bool) (r r' q q' : Reach) → r.height ≡ r'.height → q.height ≡ q'.height → (deeper b r q).height ≡ (deeper b r' q').height
deeper_same true r r' q q' h k = k
deeper_same false r r' q q' h k = h

both : {r r' q q' : Reach} → Level r r' → Level q q' → Level (r beside q) (r' beside q')
both {r} {r'} {q} {q'} x y =
    let tests : nat_lt r.height q.height ≡ nat_lt r'.height q'.height = rw (x.same, y.same) refl in
    level (ap (λ b. (deeper b r q).height) tests ∙ deeper_same (nat_lt r'.height q'.height) r r' q q' x.same y.same)

inside_height : (start n held : ℕ) → (inside start n held).height ≡ suc n
inside_height start zero held = refl
inside_height start (suc n) held = refl

within : (start : ℕ) {r q : Reach} → Level r q → Level (around start r) (around 0 q)
within start {r} {q} x = level (inside_height start r.height r.start ∙ ap suc x.same ∙ sym (inside_height 0 q.height q.start))

type_level : (t : TypeTree) → Level (type_reach t) (type_reach (bare_type t))
type_level (IntType span) = level refl
type_level (CharType span) = level refl
type_level (StructType tag span) = level refl
type_level (PointerType word element stars span) = within span.from (type_level element)

mutual
  expression_level : (x : Expression) → Level (expression_reach x) (expression_reach (bare_expression x))
  expression_level (e.Number value span) = level refl
  expression_level (e.Character value span) = level refl
  expression_level (e.Text bytes span) = level refl
  expression_level (e.Name name) = level refl
  expression_level (e.Call callee arguments span) = within span.from (expressions_level arguments)
  expression_level (e.SizeOf type span) = within span.from (type_level type.base)
  expression_level (e.Cast word type operand span) = within span.from (both (type_level type.base) (expression_level operand))
  expression_level (e.BoundedCast word type operand bounds span) = within span.from (both (both (type_level type.base) (expression_level operand)) (bounds_level bounds))
  expression_level (e.Malloc word type size span) = within span.from (both (type_level type.base) (expression_level size))
  expression_level (e.Calloc word type count size span) = within span.from (both (both (type_level type.base) (expression_level count)) (expression_level size))
  expression_level (e.Index base index span) = within span.from (both (expression_level base) (expression_level index))
  expression_level (e.Dot base member span) = within span.from (expression_level base)
  expression_level (e.Arrow base member span) = within span.from (expression_level base)
  expression_level (e.Unary operator operand span) = within span.from (expression_level operand)
  expression_level (e.Binary operator left right span) = within span.from (both (expression_level left) (expression_level right))

  expressions_level : (x : Expressions) → Level (expressions_reach x) (expressions_reach (bare_expressions x))
  expressions_level e.NoMore = level refl
  expressions_level (e.Then first others) = both (expression_level first) (expressions_level others)

  bounds_level : (b : Bounds) → Level (bounds_reach b) (bounds_reach (bare_bounds b))
  bounds_level (e.Count count span) = expression_level count
  bounds_level (e.ByteCount count span) = expression_level count
  bounds_level (e.Unknown span) = level refl
  bounds_level (e.Range low high span) = both (expression_level low) (expression_level high)

optional_bounds_level : (o : Option Bounds) → Level (optional_bounds_reach o) (optional_bounds_reach (option_map bare_bounds o))
optional_bounds_level None = level refl
optional_bounds_level (Some bounds) = bounds_level bounds

optional_expression_level : (o : Option Expression) → Level (optional_expression_reach o) (optional_expression_reach (option_map bare_expression o))
optional_expression_level None = level refl
optional_expression_level (Some x) = expression_level x

initializer_level : (o : Option Initializer) → Level (optional_initializer_reach o) (optional_initializer_reach (option_map bare_initializer o))
initializer_level None = level refl
initializer_level (Some (s.Value value)) = expression_level value
initializer_level (Some (s.Constants constants span)) = level refl

declarators_level : (list : List Declarator) → Level (declarators_reach list) (declarators_reach (map bare_declarator list))
declarators_level [] = level refl
declarators_level (d ∷ list) = both (both (optional_bounds_level d.bounds) (initializer_level d.initializer)) (declarators_level list)

declared_level : (d : Declaration) → Level (declared_reach d) (declared_reach (bare_declaration d))
declared_level d = both (type_level d.base) (declarators_level d.declarators)

assigned_level : (a : Assignment) → Level (assigned_reach a) (assigned_reach (bare_assignment a))
assigned_level (s.Store operator target value span) = both (expression_level target) (expression_level value)
assigned_level (s.Step operator side target span) = expression_level target

assignment_level : (a : Assignment) → Level (assignment_reach a) (assignment_reach (bare_assignment a))
assignment_level (s.Store operator target value span) = within span.from (both (expression_level target) (expression_level value))
assignment_level (s.Step operator side target span) = within span.from (expression_level target)

assignments_level : (list : List Assignment) → Level (assignments_reach list) (assignments_reach (map bare_assignment list))
assignments_level [] = level refl
assignments_level (a ∷ list) = both (assignment_level a) (assignments_level list)

optional_assignment_level : (o : Option Assignment) → Level (optional_assignment_reach o) (optional_assignment_reach (option_map bare_assignment o))
optional_assignment_level None = level refl
optional_assignment_level (Some a) = assignment_level a

initial_level : (x : ForInitial) → Level (for_initial_reach x) (for_initial_reach (bare_initial x))
initial_level s.Nothing = level refl
initial_level (s.Declares d) = within d.span.from (declared_level d)
initial_level (s.Assigns a) = assignment_level a

mutual
  statement_level : (x : Statement) → Level (statement_reach x) (statement_reach (bare_statement x))
  statement_level (s.Block mark statements span) = within span.from (statements_level statements)
  statement_level (s.Bundle assignments span) = within span.from (assignments_level assignments)
  statement_level (s.Declare declaration span) = within span.from (declared_level declaration)
  statement_level (s.Assign assignment span) = within span.from (assigned_level assignment)
  statement_level (s.CallAlone call span) = within span.from (expression_level call)
  statement_level (s.Empty span) = level refl
  statement_level (s.If condition consequent span) = within span.from (both (expression_level condition) (statement_level consequent))
  statement_level (s.IfElse condition consequent alternative span) = within span.from (both (both (expression_level condition) (statement_level consequent)) (statement_level alternative))
  statement_level (s.While condition body span) = within span.from (both (expression_level condition) (statement_level body))
  statement_level (s.For initial condition step body span) = within span.from (both (both (both (initial_level initial) (optional_expression_level condition)) (optional_assignment_level step)) (statement_level body))
  statement_level (s.Return value span) = within span.from (optional_expression_level value)
  statement_level (s.Break span) = level refl
  statement_level (s.Continue span) = level refl

  statements_level : (x : Statements) → Level (statements_reach x) (statements_reach (bare_statements x))
  statements_level s.NoMore = level refl
  statements_level (s.Then first others) = both (statement_level first) (statements_level others)

members_level : (list : List Member) → Level (members_reach list) (members_reach (map bare_member list))
members_level [] = level refl
members_level (m ∷ list) = both (both (type_level m.type.base) (optional_bounds_level m.bounds)) (members_level list)

result_level : (r : ResultForm) → Level (result_reach r) (result_reach (bare_result r))
result_level (i.Void span) = level refl
result_level (i.Value base) = type_level base

parameters_level : (p : Parameters) → Level (parameters_reach p) (parameters_reach (bare_parameters p))
parameters_level i.Nothing = level refl
parameters_level i.VoidAlone = level refl
parameters_level (i.Listed parameters) = members_level parameters

body_level : (o : Option Body) → Level (optional_body_reach o) (optional_body_reach (option_map bare_body o))
body_level None = level refl
body_level (Some body) = within body.span.from (statements_level body.statements)

item_level : (x : Item) → Level (item_reach x) (item_reach (bare_item x))
item_level (i.RegionItem region span) = level refl
item_level (i.StructureItem structure) = members_level structure.members
item_level (i.GlobalItem global) = both (type_level global.base) (declarators_level global.declarators)
item_level (i.FunctionItem function) = both (both (both (result_level function.result) (parameters_level function.parameters)) (optional_bounds_level function.bounds)) (body_level function.body)

items_level : (list : List Item) → Level (items_reach list) (items_reach (map bare_item list))
items_level [] = level refl
items_level (x ∷ list) = both (item_level x) (items_level list)

pub same_height : (t u : Tree) → SameTree t u → height t ≡ height u
same_height t u same = (items_level t.items).same ∙ ap height same ∙ sym (items_level u.items).same
