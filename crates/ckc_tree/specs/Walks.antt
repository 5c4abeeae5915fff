-- For private clauses: where a cursor comes that moves through a tree, from span to span.
use Rattle.std.specs.Prelude.{ℕ, Bool, List, [], ◌∷◌, Option, Some, None}
use Rattle.ckc_text.specs.declared.place.Span.{Span}
use Rattle.ckc_tree.specs.declared.cursor.Cursor.{Cursor}
use Rattle.ckc_tree.specs.Cursors.{begun, reached, passed}
use Rattle.ckc_tree.specs.declared.expr.Expr.{Expr}
use Rattle.ckc_tree.specs.declared.stmt.ArrayForm.{ArrayForm}
use Rattle.ckc_tree.specs.declared.stmt.SignedConstant.{SignedConstant}
use Rattle.ckc_tree.specs.Types.{TypeTree, IntType, CharType, StructType, PointerType}
use Rattle.ckc_tree.specs.Expressions as e
use Rattle.ckc_tree.specs.Expressions.{Expression, expression, Expressions, Bounds, expression_span, bounds_span}
use Rattle.ckc_tree.specs.Statements as s
use Rattle.ckc_tree.specs.Statements.{Initializer, Declarator, Declaration, Assignment, ForInitial, Statement, Statements, statement_span}
use Rattle.ckc_tree.specs.Items as i
use Rattle.ckc_tree.specs.Items.{Member, Structure, Global, Parameters, ResultForm, Function, Body, Item, Tree}

-- to where a span begins, through its parts, and to where it ends
abbrev pub around : Span → (Cursor → Cursor) → Cursor → Cursor
around span parts cursor = reached (parts (reached cursor span.from)) span.to

abbrev pub each_walked : {A : Type 0} → (A → Cursor → Cursor) → List A → Cursor → Cursor
each_walked walked [] cursor = cursor
each_walked walked (part ∷ parts) cursor = each_walked walked parts (walked part cursor)

abbrev pub optional_walked : {A : Type 0} → (A → Cursor → Cursor) → Option A → Cursor → Cursor
optional_walked walked None cursor = cursor
optional_walked walked (Some part) cursor = walked part cursor

abbrev pub type_walked : TypeTree → Cursor → Cursor
type_walked (IntType span) cursor = passed cursor span
type_walked (CharType span) cursor = passed cursor span
type_walked (StructType tag span) cursor = reached (passed (reached cursor span.from) tag.span) span.to
type_walked (PointerType word element stars span) cursor = reached (type_walked element (reached cursor span.from)) span.to

-- the arguments in a slice
abbrev pub expression_list : List Expr → Expressions
expression_list [] = e.NoMore
expression_list (first ∷ others) = e.Then (expression first) (expression_list others)

abbrev mutual
  pub expression_parts : Expression → Cursor → Cursor
  expression_parts (e.Number value span) cursor = cursor
  expression_parts (e.Character value span) cursor = cursor
  expression_parts (e.Text bytes span) cursor = cursor
  expression_parts (e.Name name) cursor = cursor
  expression_parts (e.Call callee arguments span) cursor = arguments_walked arguments (passed cursor callee.span)
  expression_parts (e.SizeOf type span) cursor = type_walked type.base cursor
  expression_parts (e.Cast word type operand span) cursor = around (expression_span operand) (expression_parts operand) (type_walked type.base cursor)
  expression_parts (e.BoundedCast word type operand bounds span) cursor =
      around (bounds_span bounds) (bounds_parts bounds) (around (expression_span operand) (expression_parts operand) (type_walked type.base cursor))
  expression_parts (e.Malloc word type size span) cursor = around (expression_span size) (expression_parts size) (type_walked type.base cursor)
  expression_parts (e.Calloc word type count size span) cursor =
      around (expression_span size) (expression_parts size) (around (expression_span count) (expression_parts count) (type_walked type.base cursor))
  expression_parts (e.Index base index span) cursor =
      around (expression_span index) (expression_parts index) (around (expression_span base) (expression_parts base) cursor)
  expression_parts (e.Dot base member span) cursor = passed (around (expression_span base) (expression_parts base) cursor) member.span
  expression_parts (e.Arrow base member span) cursor = passed (around (expression_span base) (expression_parts base) cursor) member.span
  expression_parts (e.Unary operator operand span) cursor = around (expression_span operand) (expression_parts operand) cursor
  expression_parts (e.Binary operator left right span) cursor =
      around (expression_span right) (expression_parts right) (around (expression_span left) (expression_parts left) cursor)

  pub arguments_walked : Expressions → Cursor → Cursor
  arguments_walked e.NoMore cursor = cursor
  arguments_walked (e.Then first others) cursor = arguments_walked others (around (expression_span first) (expression_parts first) cursor)

  pub bounds_parts : Bounds → Cursor → Cursor
  bounds_parts (e.Count count span) cursor = around (expression_span count) (expression_parts count) cursor
  bounds_parts (e.ByteCount count span) cursor = around (expression_span count) (expression_parts count) cursor
  bounds_parts (e.Unknown span) cursor = cursor
  bounds_parts (e.Range low high span) cursor =
      around (expression_span high) (expression_parts high) (around (expression_span low) (expression_parts low) cursor)

abbrev pub expression_walked : Expression → Cursor → Cursor
expression_walked x cursor = around (expression_span x) (expression_parts x) cursor

abbrev pub bounds_walked : Bounds → Cursor → Cursor
bounds_walked bounds cursor = around (bounds_span bounds) (bounds_parts bounds) cursor

abbrev pub constant_walked : SignedConstant → Cursor → Cursor
constant_walked constant cursor = passed cursor constant.span

abbrev pub initializer_walked : Initializer → Cursor → Cursor
initializer_walked (s.Value value) cursor = expression_walked value cursor
initializer_walked (s.Constants constants span) cursor = around span (each_walked constant_walked constants) cursor

abbrev pub array_walked : ArrayForm → Cursor → Cursor
array_walked array cursor = passed cursor array.span

abbrev pub declarator_parts : Declarator → Cursor → Cursor
declarator_parts d cursor =
    optional_walked initializer_walked d.initializer (optional_walked bounds_walked d.bounds (optional_walked array_walked d.array (passed cursor d.name.span)))

abbrev pub declarator_walked : Declarator → Cursor → Cursor
declarator_walked d cursor = around d.span (declarator_parts d) cursor

-- a type and variables behind it
abbrev pub declared_parts : TypeTree → List Declarator → Cursor → Cursor
declared_parts base declarators cursor = each_walked declarator_walked declarators (type_walked base cursor)

abbrev pub declaration_walked : Declaration → Cursor → Cursor
declaration_walked d cursor = around d.span (declared_parts d.base d.declarators) cursor

abbrev pub assignment_walked : Assignment → Cursor → Cursor
assignment_walked (s.Store operator target value span) cursor = reached (expression_walked value (expression_walked target (reached cursor span.from))) span.to
assignment_walked (s.Step operator side target span) cursor = around span (expression_walked target) cursor

abbrev pub initial_walked : ForInitial → Cursor → Cursor
initial_walked s.Nothing cursor = cursor
initial_walked (s.Declares declaration) cursor = declaration_walked declaration cursor
initial_walked (s.Assigns assignment) cursor = assignment_walked assignment cursor

-- the parts in the head of a for
abbrev pub head_walked : ForInitial → Option Expression → Option Assignment → Cursor → Cursor
head_walked initial condition step cursor = optional_walked assignment_walked step (optional_walked expression_walked condition (initial_walked initial cursor))

abbrev mutual
  pub statement_parts : Statement → Cursor → Cursor
  statement_parts (s.Block mark statements span) cursor = statements_walked statements cursor
  statement_parts (s.Bundle assignments span) cursor = each_walked assignment_walked assignments cursor
  statement_parts (s.Declare declaration span) cursor = declaration_walked declaration cursor
  statement_parts (s.Assign assignment span) cursor = assignment_walked assignment cursor
  statement_parts (s.CallAlone call span) cursor = expression_walked call cursor
  statement_parts (s.Empty span) cursor = cursor
  statement_parts (s.If condition consequent span) cursor = around (statement_span consequent) (statement_parts consequent) (expression_walked condition cursor)
  statement_parts (s.IfElse condition consequent alternative span) cursor = around (statement_span alternative) (statement_parts alternative)
      (around (statement_span consequent) (statement_parts consequent) (expression_walked condition cursor))
  statement_parts (s.While condition body span) cursor = around (statement_span body) (statement_parts body) (expression_walked condition cursor)
  statement_parts (s.For initial condition step body span) cursor =
      around (statement_span body) (statement_parts body) (head_walked initial condition step cursor)
  statement_parts (s.Return value span) cursor = optional_walked expression_walked value cursor
  statement_parts (s.Break span) cursor = cursor
  statement_parts (s.Continue span) cursor = cursor

  pub statements_walked : Statements → Cursor → Cursor
  statements_walked s.NoMore cursor = cursor
  statements_walked (s.Then first others) cursor = statements_walked others (around (statement_span first) (statement_parts first) cursor)

abbrev pub statement_walked : Statement → Cursor → Cursor
statement_walked x cursor = around (statement_span x) (statement_parts x) cursor

-- what members and parameters have in common
abbrev pub declared_walked : Span → TypeTree → Span → Option Bounds → Cursor → Cursor
declared_walked span base name written cursor =
    reached (optional_walked bounds_walked written (passed (type_walked base (reached cursor span.from)) name)) span.to

abbrev pub member_walked : Member → Cursor → Cursor
member_walked m cursor = declared_walked m.span m.type.base m.name.span m.bounds cursor

abbrev pub parameters_walked : Parameters → Cursor → Cursor
parameters_walked i.Nothing cursor = cursor
parameters_walked i.VoidAlone cursor = cursor
parameters_walked (i.Listed parameters) cursor = each_walked member_walked parameters cursor

abbrev pub result_walked : ResultForm → Cursor → Cursor
result_walked (i.Void span) cursor = passed cursor span
result_walked (i.Value base) cursor = type_walked base cursor

abbrev pub body_walked : Body → Cursor → Cursor
body_walked b cursor = around b.span (statements_walked b.statements) cursor

abbrev pub function_parts : Function → Cursor → Cursor
function_parts f cursor = optional_walked body_walked f.body (optional_walked bounds_walked f.bounds
    (parameters_walked f.parameters (passed (result_walked f.result cursor) f.name.span)))

abbrev pub function_walked : Function → Cursor → Cursor
function_walked f cursor = around f.span (function_parts f) cursor

abbrev pub structure_walked : Structure → Cursor → Cursor
structure_walked structure cursor =
    reached (each_walked member_walked structure.members (passed (reached cursor structure.span.from) structure.tag.span)) structure.span.to

abbrev pub global_walked : Global → Cursor → Cursor
global_walked global cursor = around global.span (declared_parts global.base global.declarators) cursor

abbrev pub item_walked : Item → Cursor → Cursor
item_walked (i.RegionItem region span) cursor = passed cursor span
item_walked (i.StructureItem structure) cursor = structure_walked structure cursor
item_walked (i.GlobalItem global) cursor = global_walked global cursor
item_walked (i.FunctionItem function) cursor = function_walked function cursor

-- whether the cursor never moves back in a source of so many bytes
abbrev pub is_placed : ℕ → Tree → Bool
is_placed length tree = (reached (around tree.span (each_walked item_walked tree.items) begun) length).in_order
