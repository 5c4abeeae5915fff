-- Statements as plain data, and the view from the types of the code to them.
use Rattle.std.specs.Prelude.{ℕ, List, map, Option, Some, None, Box}
use Rattle.std.proofs.Common.{Global}
use Rattle.std.specs.Option.{option_map}
use Rattle.ckc_text.specs.declared.place.Span.{Span}
use Rattle.ckc_tree.specs.declared.identifier.Identifier.{Identifier}
use Rattle.ckc_tree.specs.declared.expr.Expr.{Expr}
use Rattle.ckc_tree.specs.declared.stmt as code
use Rattle.ckc_tree.specs.declared.stmt.Stmt.{Row_of-Stmt, end_of-Stmt, more_of-Stmt, Held-Stmt-If-2, None', Some'}
use Rattle.ckc_tree.specs.declared.stmt.Stmt.TheVariants as stmts
use Rattle.ckc_tree.specs.declared.stmt.Assignment.TheVariants as assignments
use Rattle.ckc_tree.specs.declared.stmt.ForInitial.TheVariants as initials
use Rattle.ckc_tree.specs.declared.stmt.Initializer.TheVariants as initializers
use Rattle.ckc_tree.specs.declared.stmt.Mark.{Mark}
use Rattle.ckc_tree.specs.declared.stmt.ArrayForm.{ArrayForm}
use Rattle.ckc_tree.specs.declared.stmt.SignedConstant.{SignedConstant}
use Rattle.ckc_tree.specs.declared.stmt.StoreOperator.{StoreOperator}
use Rattle.ckc_tree.specs.declared.stmt.StepOperator.{StepOperator}
use Rattle.ckc_tree.specs.declared.stmt.StepSide.{StepSide}
use Rattle.ckc_tree.specs.Types.{TypeTree, type_tree}
use Rattle.ckc_tree.specs.Expressions.{Expression, expression, Bounds, bounds}

-- what a variable is initialised with
pub data Initializer : Type 0 where
  Value : (value : Expression) → Initializer
  Constants : (constants : List SignedConstant) (span : Span) → Initializer

-- one variable of a declaration
pub record Declarator : Type 0 where
  pub stars : ℕ
  pub name : Identifier
  pub array : Option ArrayForm
  pub bounds : Option Bounds
  pub initializer : Option Initializer
  pub span : Span

-- a type and its variables
pub record Declaration : Type 0 where
  pub base : TypeTree
  pub declarators : List Declarator
  pub span : Span

-- an assignment
pub data Assignment : Type 0 where
  Store : (operator : StoreOperator) (target value : Expression) (span : Span) → Assignment
  Step : (operator : StepOperator) (side : StepSide) (target : Expression) (span : Span) → Assignment

-- what stands first in the head of a for
pub data ForInitial : Type 0 where
  Nothing : ForInitial
  Declares : (declaration : Declaration) → ForInitial
  Assigns : (assignment : Assignment) → ForInitial

mutual
  -- a statement
  pub data Statement : Type 0 where
    Block : (mark : Option Mark) (statements : Statements) (span : Span) → Statement
    Bundle : (assignments : List Assignment) (span : Span) → Statement
    Declare : (declaration : Declaration) (span : Span) → Statement
    Assign : (assignment : Assignment) (span : Span) → Statement
    CallAlone : (call : Expression) (span : Span) → Statement
    Empty : (span : Span) → Statement
    If : (condition : Expression) (consequent : Statement) (span : Span) → Statement
    IfElse : (condition : Expression) (consequent alternative : Statement) (span : Span) → Statement
    While : (condition : Expression) (body : Statement) (span : Span) → Statement
    For : (initial : ForInitial) (condition : Option Expression) (step : Option Assignment) (body : Statement) (span : Span) → Statement
    Return : (value : Option Expression) (span : Span) → Statement
    Break : (span : Span) → Statement
    Continue : (span : Span) → Statement

  -- the statements of a block
  pub data Statements : Type 0 where
    NoMore : Statements
    Then : (first : Statement) (others : Statements) → Statements

-- the bytes that an assignment stands on
abbrev pub assignment_span : Assignment → Span
assignment_span (Store operator target value span) = span
assignment_span (Step operator side target span) = span

-- the bytes that a statement stands on
abbrev pub statement_span : Statement → Span
statement_span (Block mark statements span) = span
statement_span (Bundle assignments span) = span
statement_span (Declare declaration span) = span
statement_span (Assign assignment span) = span
statement_span (CallAlone call span) = span
statement_span (Empty span) = span
statement_span (If condition consequent span) = span
statement_span (IfElse condition consequent alternative span) = span
statement_span (While condition body span) = span
statement_span (For initial condition step body span) = span
statement_span (Return value span) = span
statement_span (Break span) = span
statement_span (Continue span) = span

-- the expression that stands on the heap
abbrev pub on_heap : Box Expr Global → Expression
on_heap expr = expression expr.value

-- what a value of the code's type stands for
abbrev pub initializer : code.Initializer.Initializer → Initializer
initializer (initializers.Value value) = Value (expression value.value)
initializer (initializers.List constants span) = Constants constants.items span

abbrev pub declarator : code.Declarator.Declarator → Declarator
declarator d = record {
  stars = d.stars;
  name = d.name;
  array = d.array;
  bounds = option_map bounds d.bounds;
  initializer = option_map initializer d.initializer;
  span = d.span;
}

abbrev pub declaration : code.Declaration.Declaration → Declaration
declaration d = record { base = type_tree d.base; declarators = map declarator d.declarators.items; span = d.span }

abbrev pub assignment : code.Assignment.Assignment → Assignment
assignment (assignments.Store operator target value span) = Store operator (expression target.value) (expression value.value) span
assignment (assignments.Step operator side target span) = Step operator side (expression target.value) span

abbrev pub for_initial : code.ForInitial.ForInitial → ForInitial
for_initial initials.Nothing = Nothing
for_initial (initials.Declare d) = Declares (declaration d)
for_initial (initials.Assign a) = Assigns (assignment a)

-- an if with its else, if it has one
abbrev if_of : Expression → Statement → Option Statement → Span → Statement
if_of condition consequent None span = If condition consequent span
if_of condition consequent (Some alternative) span = IfElse condition consequent alternative span

abbrev mutual
  pub statement : code.Stmt.Stmt → Statement
  statement (stmts.Block' mark shape inner span) = Block mark (statements inner) span
  statement (stmts.Bundle inner span) = Bundle (map assignment inner.items) span
  statement (stmts.Declare d span) = Declare (declaration d) span
  statement (stmts.Assign a span) = Assign (assignment a) span
  statement (stmts.Call call span) = CallAlone (expression call.value) span
  statement (stmts.Empty span) = Empty span
  statement (stmts.If' condition p consequent written span) = if_of (expression condition.value) (statement consequent) (alternative_of written) span
  statement (stmts.While' condition p body span) = While (expression condition.value) (statement body) span
  statement (stmts.For' initial condition step p body span) =
      For (for_initial initial) (option_map on_heap condition) (option_map assignment step) (statement body) span
  statement (stmts.Return value span) = Return (option_map on_heap value) span
  statement (stmts.Break span) = Break span
  statement (stmts.Continue span) = Continue span

  -- the statements in a row
  pub statements : {n : _} → Row_of-Stmt n → Statements
  statements end_of-Stmt = NoMore
  statements (more_of-Stmt first others) = Then (statement first) (statements others)

  -- the alternative of an if, where it has one
  pub alternative_of : Held-Stmt-If-2 → Option Statement
  alternative_of None' = None
  alternative_of (Some' p alternative) = Some (statement alternative)
