-- Programs as plain data: names are numbers, each pointer has its bounds, and each access its type, its index and its site.
use Rattle.std.specs.Prelude.{ℕ, suc, Bool, List, [], ◌∷◌, Option, map, option_map}
use Rattle.std.proofs.Common.{ℤ}
use Rattle.pointer_modes.specs.Types.{CType, ctype}
use Rattle.ckc_core.specs.declared.program as code
use Rattle.ckc_core.specs.declared.program.Expr.{Row_of-Expr, end_of-Expr, more_of-Expr}
use Rattle.ckc_core.specs.declared.program.Stmt.{Row_of-Stmt, end_of-Stmt, more_of-Stmt}
use Rattle.ckc_core.specs.declared.program.Expr.TheVariants as exprs
use Rattle.ckc_core.specs.declared.program.CellPlace.TheVariants as places
use Rattle.ckc_core.specs.declared.program.Index.TheVariants as indexes
use Rattle.ckc_core.specs.declared.program.Stmt.TheVariants as stmts
use Rattle.ckc_core.specs.declared.program.Definition.TheVariants as definitions
use Rattle.ckc_core.specs.declared.program.Site.{Site}
use Rattle.act_words.specs.declared.operator.Operator.{Operator}
use Rattle.act_words.specs.declared.operator.Comparison.{Comparison}
use Rattle.ckc_core.specs.declared.program.Callee.{Callee}
use Rattle.ckc_core.specs.declared.program.Direction.{Direction}
use Rattle.ckc_core.specs.declared.program.Terminator.{Terminator}
use Rattle.ckc_core.specs.declared.program.PointerBounds.{PointerBounds}
use Rattle.ckc_core.specs.Programs.{FunctionOf, Import, Initial, Variable, Definition, Trusted, Tainted, SourceOf, ProgramOf}

mutual
  -- an expression
  pub data Expression : Type 0 where
    Number : (number : ℤ) → Expression
    Null : Expression
    -- what a local variable holds; a checked pointer has bounds here, at the next two forms, and as the result of a call
    Local : (local : ℕ) (bounds : Option PointerBounds) → Expression
    -- what a cell of this type holds
    Load : (type : CType) (place : Place) (bounds : Option PointerBounds) → Expression
    -- a pointer to a cell
    AddressOf : (place : Place) (bounds : Option PointerBounds) → Expression
    Negate : (operand : Expression) (site : Site) → Expression
    Complement : (operand : Expression) → Expression
    -- 1 where a scalar is 0 or null, and else 0
    Not : (operand : Expression) → Expression
    Arithmetic : (operator : Operator) (left right : Expression) (site : Site) → Expression
    Compare : (comparison : Comparison) (left right : Expression) → Expression
    -- whether two pointers are the same
    Same : (left right : Expression) → Expression
    AndAlso : (left right : Expression) → Expression
    OrElse : (left right : Expression) → Expression
    -- a number modulo 256
    LowByte : (operand : Expression) → Expression
    -- a call with a result
    Call : (callee : Callee) (arguments : Arguments) (bounds : Option PointerBounds) → Expression
    NextInput : Expression
    -- a pointer that is so many elements further on, or back
    Sum : (pointer : Expression) (direction : Direction) (number : Expression) (site : Site) (bounds : Option PointerBounds) → Expression
    -- the order of two pointers in one block
    Order : (comparison : Comparison) (left right : Expression) (site : Site) → Expression
    -- a new block of so many elements, each with these cells, or null; of one more where a zero stands behind them
    Allocate : (count : Expression) (element : List Initial) (terminator : Terminator) (bounds : Option PointerBounds) → Expression
    -- how many bytes stand before the first zero
    Length : (pointer : Expression) (site : Site) → Expression
    -- a pointer with other bounds, which have to lie within its own where there are some
    Cast : (pointer : Expression) (bounds : Option PointerBounds) → Expression

  -- the arguments of a call, from left to right
  pub data Arguments : Type 0 where
    Done : Arguments
    More : (first : Expression) (rest : Arguments) → Arguments

  -- which element an access takes, from the one that its pointer leads to: that one, or the one of a number, of a null-terminated
  -- pointer or of another one
  pub data Index : Type 0 where
    First : Index
    Element : (number : Expression) (terminated : Bool) → Index

  -- where a cell stands: so many bytes behind the first one of a file-level variable, or of an element that a pointer leads to
  pub data Place : Type 0 where
    Direct : (object offset : ℕ) → Place
    Through : (pointer : Expression) (index : Index) (offset : ℕ) (site : Site) → Place

mutual
  -- a statement
  pub data Statement : Type 0 where
    Nothing : Statement
    SetLocal : (local : ℕ) (value : Expression) → Statement
    Store : (type : CType) (place : Place) (value : Expression) → Statement
    -- the old value and an operator with another one; a local of type `char` keeps the result modulo 256
    UpdateLocal : (is_char : Bool) (local : ℕ) (operator : Operator) (value : Expression) (site : Site) → Statement
    Update : (type : CType) (place : Place) (operator : Operator) (value : Expression) (site : Site) → Statement
    -- a value that is left
    Evaluate : (value : Expression) → Statement
    -- a call without a result
    CallAlone : (callee : Callee) (arguments : Arguments) → Statement
    Print : (number : Expression) → Statement
    PutByte : (number : Expression) → Statement
    Block : (statements : Statements) → Statement
    If : (condition : Expression) (consequent alternative : Statement) → Statement
    -- a loop with what follows each turn
    Loop : (condition : Expression) (body step : Statement) → Statement
    Return : (value : Expression) → Statement
    ReturnNothing : Statement
    Break : Statement
    Continue : Statement

  pub data Statements : Type 0 where
    NoMore : Statements
    Then : (first : Statement) (others : Statements) → Statements

-- how many arguments there are
abbrev pub count : Arguments → ℕ
count Done = 0
count (More first rest) = suc (count rest)

abbrev pub Function : Type 0
Function = FunctionOf Statements

-- a whole program
abbrev pub Core : Type 0
Core = SourceOf Statements

-- its two sides
abbrev pub Parted : Type 0
Parted = ProgramOf Statements

-- ---- the views from the types of the code

abbrev pub initial : code.Initial.Initial → Initial
initial i = record { type = ctype i.ctype; stride = i.stride; number = i.number }

abbrev mutual
  -- the expression that a value of the code's type stands for
  pub expression : code.Expr.Expr → Expression
  expression (exprs.Number number) = Number number
  expression exprs.Null = Null
  expression (exprs.Local local bounds) = Local local bounds
  expression (exprs.Load type cell bounds) = Load (ctype type) (place cell) bounds
  expression (exprs.AddressOf cell bounds) = AddressOf (place cell) bounds
  expression (exprs.Negate' p operand site) = Negate (expression operand) site
  expression (exprs.Complement' p operand) = Complement (expression operand)
  expression (exprs.Not' p operand) = Not (expression operand)
  expression (exprs.Arithmetic' operator p left q right site) = Arithmetic operator (expression left) (expression right) site
  expression (exprs.Compare' comparison p left q right) = Compare comparison (expression left) (expression right)
  expression (exprs.Same' p left q right) = Same (expression left) (expression right)
  expression (exprs.AndAlso' p left q right) = AndAlso (expression left) (expression right)
  expression (exprs.OrElse' p left q right) = OrElse (expression left) (expression right)
  expression (exprs.LowByte' p operand) = LowByte (expression operand)
  expression (exprs.Call' callee shape row bounds) = Call callee (arguments row) bounds
  expression exprs.NextInput = NextInput
  expression (exprs.Sum' p pointer direction q number site bounds) = Sum (expression pointer) direction (expression number) site bounds
  expression (exprs.Order' comparison p left q right site) = Order comparison (expression left) (expression right) site
  expression (exprs.Allocate' p count element terminator bounds) = Allocate (expression count) (map initial element.items) terminator bounds
  expression (exprs.Length' p pointer site) = Length (expression pointer) site
  expression (exprs.Cast' p pointer bounds) = Cast (expression pointer) bounds

  pub arguments : {m : _} → Row_of-Expr m → Arguments
  arguments end_of-Expr = Done
  arguments (more_of-Expr first rest) = More (expression first) (arguments rest)

  pub place : code.CellPlace.CellPlace → Place
  place (places.Direct object offset) = Direct object offset
  place (places.Through' p pointer which offset site) = Through (expression pointer) (index which) offset site

  pub index : code.Index.Index → Index
  index indexes.First = First
  index (indexes.Element' p number terminated) = Element (expression number) terminated

-- the arguments in a slice
abbrev pub arguments_of : List code.Expr.Expr → Arguments
arguments_of [] = Done
arguments_of (first ∷ rest) = More (expression first) (arguments_of rest)

abbrev mutual
  -- the statement
  pub statement : code.Stmt.Stmt → Statement
  statement stmts.Nothing = Nothing
  statement (stmts.SetLocal local value) = SetLocal local (expression value.value)
  statement (stmts.Store type cell value) = Store (ctype type) (place cell) (expression value.value)
  statement (stmts.UpdateLocal is_char local operator value site) = UpdateLocal is_char local operator (expression value.value) site
  statement (stmts.Update type cell operator value site) = Update (ctype type) (place cell) operator (expression value.value) site
  statement (stmts.Evaluate value) = Evaluate (expression value.value)
  statement (stmts.CallAlone call) = CallAlone call.callee (arguments_of call.arguments.items)
  statement (stmts.Print number) = Print (expression number.value)
  statement (stmts.PutByte number) = PutByte (expression number.value)
  statement (stmts.Block' shape row) = Block (statements row)
  statement (stmts.If' condition p consequent q alternative) = If (expression condition.value) (statement consequent) (statement alternative)
  statement (stmts.Loop' condition p body q step) = Loop (expression condition.value) (statement body) (statement step)
  statement (stmts.Return value) = Return (expression value.value)
  statement stmts.ReturnNothing = ReturnNothing
  statement stmts.Break = Break
  statement stmts.Continue = Continue

  pub statements : {m : _} → Row_of-Stmt m → Statements
  statements end_of-Stmt = NoMore
  statements (more_of-Stmt first rest) = Then (statement first) (statements rest)

-- the statements in a slice
abbrev pub statements_of : List code.Stmt.Stmt → Statements
statements_of [] = NoMore
statements_of (first ∷ rest) = Then (statement first) (statements_of rest)

abbrev pub function : code.Function.Function → Function
function f = record {
  name = f.name;
  parameters = f.parameters;
  locals = map ctype f.locals.items;
  result = option_map ctype f.result;
  body = statements_of f.body.items;
}

abbrev pub import_of : code.Import.Import → Import
import_of i = record { name = i.name; parameters = i.parameters; result = option_map ctype i.result }

abbrev pub object : code.Object.Object → Variable
object o = record { cells = map initial o.cells.items; zero_ended = o.zero_ended; is_sealed = o.is_sealed }

-- a function on its side
abbrev pub definition : code.Definition.Definition → Definition Statements
definition (definitions.Trusted f) = Trusted (function f)
definition (definitions.Tainted i) = Tainted (import_of i)

-- the whole program
abbrev pub core : code.Core.Core → Core
core c = record { objects = map object c.objects.items; definitions = map definition c.definitions.items; main = c.main }
