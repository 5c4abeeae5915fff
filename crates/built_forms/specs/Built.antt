-- Which trees have only forms that are built.
use Rattle.std.specs.Prelude.{Bool, true, false, not, ◌&&◌, ◌==◌, Option, Some, None, is_none}
use Rattle.std.specs.List.{list_all}
use Rattle.ckc_tree.specs.declared.item.FunctionKind.{FunctionKind}
use Rattle.ckc_tree.specs.declared.item.FunctionKind.TheVariants as function_kinds
use Rattle.ckc_tree.specs.declared.expr.MallocWord.{MallocWord}
use Rattle.ckc_tree.specs.declared.expr.MallocWord.TheVariants as malloc_words
use Rattle.ckc_tree.specs.declared.type_form.PointerMode.{PointerMode}
use Rattle.ckc_tree.specs.declared.type_form.PointerMode.TheVariants as modes
use Rattle.ckc_tree.specs.Types.{TypeTree, IntType, CharType, StructType, PointerType}
use Rattle.ckc_tree.specs.Expressions as e
use Rattle.ckc_tree.specs.Expressions.{Expression, Expressions, Bounds}
use Rattle.ckc_tree.specs.Statements as s
use Rattle.ckc_tree.specs.Statements.{Initializer, Declarator, Declaration, Assignment, ForInitial, Statement, Statements}
use Rattle.ckc_tree.specs.Items as i
use Rattle.ckc_tree.specs.Items.{Member, Structure, Global, ResultForm, Parameters, Body, Function, Item, Tree}

-- ---- types

abbrev pub is_checked_mode : PointerMode → Bool
is_checked_mode modes.Checked = true
is_checked_mode modes.Tainted = false

-- the checked pointer words are built; stars are, too
abbrev pub built_type : TypeTree → Bool
built_type (IntType span) = true
built_type (CharType span) = true
built_type (StructType tag span) = true
built_type (PointerType word element stars span) = is_checked_mode word.mode && built_type element

-- what crosses to the sandbox
abbrev pub is_number_type : TypeTree → Bool
is_number_type (IntType span) = true
is_number_type (CharType span) = true
is_number_type (StructType tag span) = false
is_number_type (PointerType word element stars span) = false

-- ---- expressions

-- of the words for new memory, those that give tainted memory aren't built
abbrev pub is_built_malloc : MallocWord → Bool
is_built_malloc malloc_words.Malloc = true
is_built_malloc malloc_words.TMalloc = false

abbrev mutual
  pub built_expression : Expression → Bool
  built_expression (e.Number value span) = true
  built_expression (e.Character value span) = true
  built_expression (e.Text bytes span) = true
  built_expression (e.Name name) = true
  built_expression (e.Call callee arguments span) = built_expressions arguments
  built_expression (e.SizeOf type span) = built_type type.base
  built_expression (e.Cast word type operand span) = built_type type.base && built_expression operand
  built_expression (e.BoundedCast word type operand bounds span) = built_type type.base && (built_expression operand && built_bounds bounds)
  built_expression (e.Malloc word type size span) = is_built_malloc word && (built_type type.base && built_expression size)
  built_expression (e.Calloc word type count size span) = built_type type.base && (built_expression count && built_expression size)
  built_expression (e.Index base index span) = built_expression base && built_expression index
  built_expression (e.Dot base member span) = built_expression base
  built_expression (e.Arrow base member span) = built_expression base
  built_expression (e.Unary operator operand span) = built_expression operand
  built_expression (e.Binary operator left right span) = built_expression left && built_expression right

  pub built_expressions : Expressions → Bool
  built_expressions e.NoMore = true
  built_expressions (e.Then first others) = built_expression first && built_expressions others

  pub built_bounds : Bounds → Bool
  built_bounds (e.Count count span) = built_expression count
  built_bounds (e.ByteCount count span) = built_expression count
  built_bounds (e.Unknown span) = true
  built_bounds (e.Range low high span) = built_expression low && built_expression high

-- ---- statements

-- a part that may be left out
abbrev pub optional : {A : Type 0} → (A → Bool) → Option A → Bool
optional test None = true
optional test (Some part) = test part

abbrev pub built_initializer : Initializer → Bool
built_initializer (s.Value value) = built_expression value
built_initializer (s.Constants constants span) = true

-- a variable may be an array, and may have bounds
abbrev pub built_declarator : Declarator → Bool
built_declarator d = optional built_bounds d.bounds && optional built_initializer d.initializer

abbrev pub built_declaration : Declaration → Bool
built_declaration d = built_type d.base && list_all built_declarator d.declarators

abbrev pub built_assignment : Assignment → Bool
built_assignment (s.Store operator target value span) = built_expression target && built_expression value
built_assignment (s.Step operator side target span) = built_expression target

abbrev pub built_initial : ForInitial → Bool
built_initial s.Nothing = true
built_initial (s.Declares d) = built_declaration d
built_initial (s.Assigns a) = built_assignment a

abbrev mutual
  pub built_statement : Statement → Bool
  built_statement (s.Block mark inner span) = built_statements inner
  built_statement (s.Bundle assignments span) = list_all built_assignment assignments
  built_statement (s.Declare d span) = built_declaration d
  built_statement (s.Assign a span) = built_assignment a
  built_statement (s.CallAlone call span) = built_expression call
  built_statement (s.Empty span) = true
  built_statement (s.If condition consequent span) = built_expression condition && built_statement consequent
  built_statement (s.IfElse condition consequent alternative span) = built_expression condition && (built_statement consequent && built_statement alternative)
  built_statement (s.While condition body span) = built_expression condition && built_statement body
  built_statement (s.For initial condition step body span) =
      built_initial initial && (optional built_expression condition && (optional built_assignment step && built_statement body))
  built_statement (s.Return value span) = optional built_expression value
  built_statement (s.Break span) = true
  built_statement (s.Continue span) = true

  pub built_statements : Statements → Bool
  built_statements s.NoMore = true
  built_statements (s.Then first others) = built_statement first && built_statements others

-- ---- items

abbrev pub built_member : Member → Bool
built_member m = built_type m.type.base && is_none m.bounds

-- a parameter of a trusted function, which may have bounds
abbrev pub built_parameter : Member → Bool
built_parameter p = built_type p.type.base && optional built_bounds p.bounds

abbrev pub is_number_parameter : Member → Bool
is_number_parameter m = is_number_type m.type.base && (m.type.stars == 0 && is_none m.bounds)

abbrev pub built_parameters : (Member → Bool) → Parameters → Bool
built_parameters test i.Nothing = true
built_parameters test i.VoidAlone = true
built_parameters test (i.Listed parameters) = list_all test parameters

abbrev pub built_result : ResultForm → Bool
built_result (i.Void span) = true
built_result (i.Value base) = built_type base

abbrev pub is_number_result : ResultForm → Bool
is_number_result (i.Void span) = true
is_number_result (i.Value base) = is_number_type base

abbrev pub built_body : Body → Bool
built_body b = built_statements b.statements

-- trusted functions, and tainted ones without a body that take and give numbers
abbrev pub built_of_kind : FunctionKind → Function → Bool
built_of_kind function_kinds.Trusted f = built_result f.result && (built_parameters built_parameter f.parameters && optional built_body f.body)
built_of_kind function_kinds.Tainted f = is_number_result f.result && (f.stars == 0 && (built_parameters is_number_parameter f.parameters && is_none f.body))
built_of_kind function_kinds.Callback f = false

-- the result of a trusted function may have bounds
abbrev pub built_result_bounds : FunctionKind → Option Bounds → Bool
built_result_bounds function_kinds.Trusted bounds = optional built_bounds bounds
built_result_bounds function_kinds.Tainted bounds = is_none bounds
built_result_bounds function_kinds.Callback bounds = is_none bounds

abbrev pub built_function : Function → Bool
built_function f = built_result_bounds f.kind f.bounds && built_of_kind f.kind f

abbrev pub built_item : Item → Bool
built_item (i.RegionItem region span) = true
built_item (i.StructureItem x) = not x.tainted && list_all built_member x.members
built_item (i.GlobalItem g) = not g.tainted && (built_type g.base && list_all built_declarator g.declarators)
built_item (i.FunctionItem f) = built_function f

-- the tree has only forms that are built
abbrev pub is_built : Tree → Bool
is_built t = list_all built_item t.items
