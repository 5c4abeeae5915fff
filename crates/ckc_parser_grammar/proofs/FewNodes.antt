-- A tree has no more nodes than it has tokens: each node has a token of its own.
use Rattle.std.proofs.Common.{ℕ, ◌+◌, ◌≤◌, Bool, List, [], length, Option, arith}
use Rattle.ckc_text.specs.declared.place.Span.{Span}
use Rattle.ckc_lexer.specs.declared.token.Token.{Token}
use Rattle.ckc_tree.specs.declared.identifier.Identifier.{Identifier}
use Rattle.ckc_tree.specs.declared.item.FunctionKind.{FunctionKind}
use Rattle.ckc_tree.specs.declared.stmt.ArrayForm.{ArrayForm}
use Rattle.ckc_tree.specs.declared.stmt.Mark.{Mark}
use Rattle.ckc_tree.specs.declared.stmt.SignedConstant.{SignedConstant}
use Rattle.ckc_tree.specs.Types.{TypeTree, TypeName}
use Rattle.ckc_tree.specs.Expressions.{Expression, Expressions, Bounds}
use Rattle.ckc_tree.specs.Statements.{Initializer, Declarator, Declaration, Assignment, ForInitial, Statement, Statements}
use Rattle.ckc_tree.specs.Items.{Member, ResultForm, Parameters, Body, Item, Tree}
use Rattle.ckc_tree.specs.Weights.{optional_array_weight, type_weight, expression_weight, expressions_weight, bounds_weight, optional_bounds_weight, optional_expression_weight, optional_initializer_weight, declarator_weight, declarators_weight, declaration_weight, assignment_weight, assignments_weight, optional_assignment_weight, for_initial_weight, statement_weight, statements_weight, members_weight, result_weight, parameters_weight, optional_body_weight, item_weight, items_weight, tree_weight}
use Rattle.ckc_parser_grammar.specs.TypeGrammar as t
use Rattle.ckc_parser_grammar.specs.TypeGrammar.{SpellsStars, SpellsType, SpellsTypeName, SpellsAngled}
use Rattle.ckc_parser_grammar.specs.ExpressionGrammar as e
use Rattle.ckc_parser_grammar.specs.ExpressionGrammar.{SpellsBinary, SpellsTail, SpellsUnary, SpellsSelectors, SpellsPrimary, SpellsCall, SpellsArguments, SpellsMoreArguments, SpellsBounds}
use Rattle.ckc_parser_grammar.specs.StatementGrammar as s
use Rattle.ckc_parser_grammar.specs.StatementGrammar.{SpellsOptionalBounds, SpellsOptionalArray, SpellsSigned, SpellsConstants, SpellsOptionalInitializer, SpellsDeclarator, SpellsDeclarators, SpellsDeclaration, SpellsAssignment, SpellsAssignments, SpellsForInitial, SpellsForCondition, SpellsForStep, SpellsStatement, SpellsStatements}
use Rattle.ckc_parser_grammar.specs.ItemGrammar as i
use Rattle.ckc_parser_grammar.specs.ItemGrammar.{SpellsTainted, SpellsKind, SpellsOptionalMark, SpellsMember, SpellsMembers, SpellsResult, SpellsListed, SpellsParameters, SpellsBody, SpellsItem, SpellsItems, SpellsProgram}
use Rattle.ckc_parser_grammar.proofs.ExpressionPaths.{marks_at}
use Rattle.ckc_parser_grammar.proofs.ExpressionLinks.{operator_shrinks}

-- between these tokens and the rest of them stand at least so many
abbrev Takes : ℕ → List Token → List Token → Type 0
Takes n ts rest = n + length rest ≤ length ts

-- ---- types

stars_take : {n : ℕ} {ts rest : List Token} → SpellsStars ts n rest → Takes 0 ts rest
stars_take (t.none f) = omega arith
stars_take (t.more d) = omega (arith, stars_take d)

type_takes : {ts rest : List Token} {x : TypeTree} → SpellsType ts x rest → Takes (type_weight x) ts rest
type_takes t.int = omega arith
type_takes t.char = omega arith
type_takes t.struct = omega arith
type_takes (t.pointer w d n) = omega (arith, type_takes d, stars_take n)

type_name_takes : {ts rest : List Token} {x : TypeName} → SpellsTypeName ts x rest → Takes (type_weight x.base) ts rest
type_name_takes (t.type_name d n) = omega (arith, type_takes d, stars_take n)

pub angled_takes : {ts rest : List Token} {x : TypeName} → SpellsAngled ts x rest → Takes (type_weight x.base) ts rest
angled_takes (t.angled d) = omega (arith, type_name_takes d)

-- ---- expressions. Behind an expression so far, the nodes of that are counted as if they were tokens.

mutual
  pub binary_takes : {n : ℕ} {ts rest : List Token} {x : Expression} {o : Span} → SpellsBinary n ts x o rest → Takes (expression_weight x) ts rest
  binary_takes (e.operand d) = unary_takes d
  binary_takes (e.operators d u) = omega (arith, binary_takes d, tail_takes u)

  tail_takes : {n : ℕ} {ts rest : List Token} {x whole : Expression} {o w : Span} → SpellsTail n x o ts whole w rest → expression_weight whole + length rest ≤ expression_weight x + length ts
  tail_takes (e.level_done f) = omega arith
  tail_takes (e.level_more {ts} found l d u) = omega (arith, operator_shrinks (marks_at ts found), binary_takes d, tail_takes u)

  unary_takes : {ts rest : List Token} {x : Expression} {o : Span} → SpellsUnary ts x o rest → Takes (expression_weight x) ts rest
  unary_takes (e.operator w d) = omega (arith, unary_takes d)
  unary_takes (e.postfix p d) = omega (arith, primary_takes p, selectors_take d)

  selectors_take : {ts rest : List Token} {x whole : Expression} {o w : Span} → SpellsSelectors x o ts whole w rest → expression_weight whole + length rest ≤ expression_weight x + length ts
  selectors_take (e.unselected f) = omega arith
  selectors_take (e.index d u) = omega (arith, binary_takes d, selectors_take u)
  selectors_take (e.dot u) = omega (arith, selectors_take u)
  selectors_take (e.arrow u) = omega (arith, selectors_take u)

  pub primary_takes : {ts rest : List Token} {x : Expression} {o : Span} → SpellsPrimary ts x o rest → Takes (expression_weight x) ts rest
  primary_takes e.number = omega arith
  primary_takes e.character = omega arith
  primary_takes e.text = omega arith
  primary_takes (e.name f) = omega arith
  primary_takes (e.called d) = call_takes d
  primary_takes (e.parentheses d) = omega (arith, binary_takes d)
  primary_takes (e.size_of d) = omega (arith, type_name_takes d)
  primary_takes (e.cast w a d) = omega (arith, angled_takes a, binary_takes d)
  primary_takes (e.bounded_cast w a d b) = omega (arith, angled_takes a, binary_takes d, bounds_take b)
  primary_takes (e.malloc w a d) = omega (arith, angled_takes a, binary_takes d)
  primary_takes (e.calloc w a c d) = omega (arith, angled_takes a, binary_takes c, binary_takes d)

  call_takes : {ts rest : List Token} {x : Expression} {o : Span} → SpellsCall ts x o rest → Takes (expression_weight x) ts rest
  call_takes (e.call d) = omega (arith, arguments_take d)

  arguments_take : {ts rest : List Token} {xs : Expressions} {q : Span} → SpellsArguments ts xs q rest → Takes (expressions_weight xs) ts rest
  arguments_take e.no_argument = omega arith
  arguments_take (e.argument d m) = omega (arith, binary_takes d, more_take m)

  more_take : {ts rest : List Token} {xs : Expressions} {q : Span} → SpellsMoreArguments ts xs q rest → Takes (expressions_weight xs) ts rest
  more_take e.no_other = omega arith
  more_take (e.other d m) = omega (arith, binary_takes d, more_take m)

  bounds_take : {ts rest : List Token} {b : Bounds} {o : Span} → SpellsBounds ts b o rest → Takes (bounds_weight b) ts rest
  bounds_take (e.count is d) = omega (arith, binary_takes d)
  bounds_take (e.byte_count is d) = omega (arith, binary_takes d)
  bounds_take (e.unknown is too) = omega arith
  bounds_take (e.range is low high) = omega (arith, binary_takes low, binary_takes high)

-- ---- declarations

optional_bounds_take : {ts rest : List Token} {b : Option Bounds} {o w : Span} → SpellsOptionalBounds o ts b w rest → Takes (optional_bounds_weight b) ts rest
optional_bounds_take (s.absent f) = omega arith
optional_bounds_take (s.present d) = omega (arith, bounds_take d)

array_takes : {ts rest : List Token} {a : Option ArrayForm} {o w : Span} → SpellsOptionalArray o ts a w rest → Takes (optional_array_weight a) ts rest
array_takes (s.absent f) = omega arith
array_takes (s.present w) = omega arith

pub signed_takes : {ts rest : List Token} {x : SignedConstant} → SpellsSigned ts x rest → Takes 0 ts rest
signed_takes (s.plain c) = omega arith
signed_takes (s.minus c) = omega arith

constants_take : {ts rest : List Token} {xs : List SignedConstant} {q : Span} → SpellsConstants ts xs q rest → Takes 0 ts rest
constants_take (s.one d) = omega (arith, signed_takes d)
constants_take (s.more d m) = omega (arith, signed_takes d, constants_take m)

optional_initializer_takes : {ts rest : List Token} {x : Option Initializer} {o w : Span} → SpellsOptionalInitializer o ts x w rest → Takes (optional_initializer_weight x) ts rest
optional_initializer_takes (s.absent f) = omega arith
optional_initializer_takes (s.value d) = omega (arith, binary_takes d)
optional_initializer_takes (s.constants d) = omega (arith, constants_take d)

pub declarator_takes : {ts rest : List Token} {d : Declarator} → SpellsDeclarator ts d rest → Takes (declarator_weight d) ts rest
declarator_takes (s.declarator n a b x) = omega (arith, stars_take n, array_takes a, optional_bounds_take b, optional_initializer_takes x)

declarators_take : {ts rest : List Token} {ds : List Declarator} {w : Span} → SpellsDeclarators ts ds w rest → Takes (declarators_weight ds) ts rest
declarators_take (s.one d f) = omega (arith, declarator_takes d)
declarators_take (s.more d m) = omega (arith, declarator_takes d, declarators_take m)

-- the node of a declaration has the mark behind it
declaration_takes : {ts rest : List Token} {d : Declaration} → SpellsDeclaration ts d rest → declaration_weight d + length rest ≤ 1 + length ts
declaration_takes (s.declaration d m) = omega (arith, type_takes d, declarators_take m)

pub assignment_takes : {ts rest : List Token} {a : Assignment} → SpellsAssignment ts a rest → Takes (assignment_weight a) ts rest
assignment_takes (s.store d w u) = omega (arith, unary_takes d, binary_takes u)
assignment_takes (s.after d w) = omega (arith, unary_takes d)
assignment_takes (s.before w d) = omega (arith, unary_takes d)

assignments_take : {ts rest : List Token} {xs : List Assignment} {q : Span} → SpellsAssignments ts xs q rest → Takes (assignments_weight xs) ts rest
assignments_take s.none = omega arith
assignments_take (s.more d m) = omega (arith, assignment_takes d, assignments_take m)

-- ---- the head of a for

pub for_initial_takes : {ts rest : List Token} {x : ForInitial} → SpellsForInitial ts x rest → Takes (for_initial_weight x) ts rest
for_initial_takes s.nothing = omega arith
for_initial_takes (s.declares d) = omega (arith, declaration_takes d)
for_initial_takes (s.assigns d) = omega (arith, assignment_takes d)

pub for_condition_takes : {ts rest : List Token} {x : Option Expression} → SpellsForCondition ts x rest → Takes (optional_expression_weight x) ts rest
for_condition_takes s.absent = omega arith
for_condition_takes (s.present d) = omega (arith, binary_takes d)

pub for_step_takes : {ts rest : List Token} {x : Option Assignment} → SpellsForStep ts x rest → Takes (optional_assignment_weight x) ts rest
for_step_takes s.absent = omega arith
for_step_takes (s.present d) = omega (arith, assignment_takes d)

-- ---- statements

mutual
  pub statement_takes : {ts rest : List Token} {x : Statement} → SpellsStatement ts x rest → Takes (statement_weight x) ts rest
  statement_takes (s.block d) = omega (arith, statements_take d)
  statement_takes (s.marked_block w d) = omega (arith, statements_take d)
  statement_takes (s.bundle d) = omega (arith, assignments_take d)
  statement_takes (s.declare d) = omega (arith, declaration_takes d)
  statement_takes (s.assign d) = omega (arith, assignment_takes d)
  statement_takes (s.call d) = omega (arith, call_takes d)
  statement_takes s.empty = omega arith
  statement_takes (s.if c d f) = omega (arith, binary_takes c, statement_takes d)
  statement_takes (s.if_else c d a) = omega (arith, binary_takes c, statement_takes d, statement_takes a)
  statement_takes (s.while c d) = omega (arith, binary_takes c, statement_takes d)
  statement_takes (s.for f c a d) = omega (arith, for_initial_takes f, for_condition_takes c, for_step_takes a, statement_takes d)
  statement_takes s.return_nothing = omega arith
  statement_takes (s.return d) = omega (arith, binary_takes d)
  statement_takes s.break = omega arith
  statement_takes s.continue = omega arith

  statements_take : {ts rest : List Token} {xs : Statements} {q : Span} → SpellsStatements ts xs q rest → Takes (statements_weight xs) ts rest
  statements_take s.none = omega arith
  statements_take (s.more d m) = omega (arith, statement_takes d, statements_take m)

-- ---- items

tainted_takes : {ts rest : List Token} {b : Bool} → SpellsTainted ts b rest → Takes 0 ts rest
tainted_takes (i.absent f) = omega arith
tainted_takes i.present = omega arith

kind_takes : {ts rest : List Token} {k : FunctionKind} → SpellsKind ts k rest → Takes 0 ts rest
kind_takes (i.trusted f) = omega arith
kind_takes i.tainted = omega arith
kind_takes i.callback = omega arith

mark_takes : {ts rest : List Token} {m : Option Mark} → SpellsOptionalMark ts m rest → Takes 0 ts rest
mark_takes (i.absent f) = omega arith
mark_takes (i.present w) = omega arith

-- the node of a member has its name
pub member_takes : {ts rest : List Token} {type : TypeName} {name : Identifier} {b : Option Bounds} {o : Span} → SpellsMember ts type name b o rest → Takes (1 + type_weight type.base + optional_bounds_weight b) ts rest
member_takes (i.member d b) = omega (arith, type_name_takes d, optional_bounds_take b)

members_take : {ts rest : List Token} {ms : List Member} → SpellsMembers ts ms rest → Takes (members_weight ms) ts rest
members_take (i.one m) = omega (arith, member_takes m)
members_take (i.more m others) = omega (arith, member_takes m, members_take others)

listed_takes : {ts rest : List Token} {ms : List Member} {q : Span} → SpellsListed ts ms q rest → Takes (members_weight ms) ts rest
listed_takes (i.one m) = omega (arith, member_takes m)
listed_takes (i.more m others) = omega (arith, member_takes m, listed_takes others)

result_takes : {ts rest : List Token} {x : ResultForm} → SpellsResult ts x rest → Takes (result_weight x) ts rest
result_takes i.void = omega arith
result_takes (i.value d) = type_takes d

parameters_take : {ts rest : List Token} {x : Parameters} {q : Span} → SpellsParameters ts x q rest → Takes (parameters_weight x) ts rest
parameters_take i.nothing = omega arith
parameters_take i.void = omega arith
parameters_take (i.listed d) = listed_takes d

body_takes : {ts rest : List Token} {x : Option Body} {q : Span} → SpellsBody ts x q rest → Takes (optional_body_weight x) ts rest
body_takes i.absent = omega arith
body_takes (i.present m d) = omega (arith, mark_takes m, statements_take d)

pub item_takes : {ts rest : List Token} {x : Item} → SpellsItem ts x rest → Takes (item_weight x) ts rest
item_takes (i.region r) = omega arith
item_takes (i.structure a m) = omega (arith, tainted_takes a, members_take m)
item_takes (i.global a d m) = omega (arith, tainted_takes a, type_takes d, declarators_take m)
item_takes (i.function k m d n p b y) = omega (arith, kind_takes k, mark_takes m, result_takes d, stars_take n, parameters_take p, optional_bounds_take b, body_takes y)

items_take : {ts : List Token} {xs : List Item} → SpellsItems ts xs → Takes (items_weight xs) ts []
items_take i.none = omega arith
items_take (i.more d m) = omega (arith, item_takes d, items_take m)

pub few_nodes : (bytes : ℕ) (tokens : List Token) (t : Tree) → SpellsProgram bytes tokens t → tree_weight t ≤ length tokens
few_nodes bytes tokens tree (i.program d) = omega (arith, items_take d)
