-- Expressions and bounds as plain data, and the view from the types of the code to them.
use Rattle.std.specs.Prelude.{ℕ, List, Option, Some, None}
use Rattle.ckc_text.specs.declared.place.Span.{Span}
use Rattle.ckc_tree.specs.declared.identifier.Identifier.{Identifier}
use Rattle.ckc_tree.specs.declared.expr as code
use Rattle.ckc_tree.specs.declared.expr.Expr.{Row_of-Expr, end_of-Expr, more_of-Expr, Held-Expr-Cast-3, None', Some'}
use Rattle.ckc_tree.specs.declared.expr.Expr.TheVariants as exprs
use Rattle.ckc_tree.specs.declared.expr.BoundsText.TheVariants as texts
use Rattle.ckc_tree.specs.declared.expr.UnaryOperator.{UnaryOperator}
use Rattle.ckc_tree.specs.declared.expr.BinaryOperator.{BinaryOperator}
use Rattle.ckc_tree.specs.declared.expr.CastWord.{CastWord}
use Rattle.ckc_tree.specs.declared.expr.MallocWord.{MallocWord}
use Rattle.ckc_tree.specs.declared.expr.CallocWord.{CallocWord}
use Rattle.ckc_tree.specs.Types.{TypeName, type_name}

mutual
  -- an expression
  pub data Expression : Type 0 where
    Number : (value : ℕ) (span : Span) → Expression
    Character : (value : ℕ) (span : Span) → Expression
    Text : (bytes : List ℕ) (span : Span) → Expression
    Name : (name : Identifier) → Expression
    Call : (callee : Identifier) (arguments : Expressions) (span : Span) → Expression
    SizeOf : (type : TypeName) (span : Span) → Expression
    Cast : (word : CastWord) (type : TypeName) (operand : Expression) (span : Span) → Expression
    BoundedCast : (word : CastWord) (type : TypeName) (operand : Expression) (bounds : Bounds) (span : Span) → Expression
    Malloc : (word : MallocWord) (type : TypeName) (size : Expression) (span : Span) → Expression
    Calloc : (word : CallocWord) (type : TypeName) (count size : Expression) (span : Span) → Expression
    Index : (base index : Expression) (span : Span) → Expression
    Dot : (base : Expression) (member : Identifier) (span : Span) → Expression
    Arrow : (base : Expression) (member : Identifier) (span : Span) → Expression
    Unary : (operator : UnaryOperator) (operand : Expression) (span : Span) → Expression
    Binary : (operator : BinaryOperator) (left right : Expression) (span : Span) → Expression

  -- the arguments of a call
  pub data Expressions : Type 0 where
    NoMore : Expressions
    Then : (first : Expression) (others : Expressions) → Expressions

  -- the bounds of a pointer
  pub data Bounds : Type 0 where
    Count : (count : Expression) (span : Span) → Bounds
    ByteCount : (count : Expression) (span : Span) → Bounds
    Unknown : (span : Span) → Bounds
    Range : (low high : Expression) (span : Span) → Bounds

-- the bytes that an expression stands on, without the parentheses around it
abbrev pub expression_span : Expression → Span
expression_span (Number value span) = span
expression_span (Character value span) = span
expression_span (Text bytes span) = span
expression_span (Name name) = name.span
expression_span (Call callee arguments span) = span
expression_span (SizeOf type span) = span
expression_span (Cast word type operand span) = span
expression_span (BoundedCast word type operand bounds span) = span
expression_span (Malloc word type size span) = span
expression_span (Calloc word type count size span) = span
expression_span (Index base index span) = span
expression_span (Dot base member span) = span
expression_span (Arrow base member span) = span
expression_span (Unary operator operand span) = span
expression_span (Binary operator left right span) = span

-- the bytes that bounds stand on
abbrev pub bounds_span : Bounds → Span
bounds_span (Count count span) = span
bounds_span (ByteCount count span) = span
bounds_span (Unknown span) = span
bounds_span (Range low high span) = span

-- a cast with the bounds that are written in it, if some are
abbrev cast_of : CastWord → TypeName → Expression → Option Bounds → Span → Expression
cast_of word type operand None span = Cast word type operand span
cast_of word type operand (Some written) span = BoundedCast word type operand written span

abbrev mutual
  -- the expression that a value of the code's type stands for
  pub expression : code.Expr.Expr → Expression
  expression (exprs.Number value span) = Number value span
  expression (exprs.Character value span) = Character value span
  expression (exprs.Text bytes span) = Text bytes.items span
  expression (exprs.Name name) = Name name
  expression (exprs.Call' callee shape arguments span) = Call callee (expressions arguments) span
  expression (exprs.SizeOf type span) = SizeOf (type_name type) span
  expression (exprs.Cast' word type p operand written span) = cast_of word (type_name type) (expression operand) (written_bounds written) span
  expression (exprs.Malloc' word type p size span) = Malloc word (type_name type) (expression size) span
  expression (exprs.Calloc' word type p count q size span) = Calloc word (type_name type) (expression count) (expression size) span
  expression (exprs.Index' p base q index span) = Index (expression base) (expression index) span
  expression (exprs.Dot' p base member span) = Dot (expression base) member span
  expression (exprs.Arrow' p base member span) = Arrow (expression base) member span
  expression (exprs.Unary' operator p operand span) = Unary operator (expression operand) span
  expression (exprs.Binary' operator p left q right span) = Binary operator (expression left) (expression right) span

  -- the arguments in a row
  pub expressions : {n : _} → Row_of-Expr n → Expressions
  expressions end_of-Expr = NoMore
  expressions (more_of-Expr first others) = Then (expression first) (expressions others)

  -- the bounds of a cast, where it has some
  pub written_bounds : Held-Expr-Cast-3 → Option Bounds
  written_bounds None' = None
  written_bounds (Some' p written) = Some (bounds written)

  -- the bounds that a value of the code's type stands for
  pub bounds : code.BoundsText.BoundsText → Bounds
  bounds (texts.Count' p count span) = Count (expression count) span
  bounds (texts.ByteCount' p count span) = ByteCount (expression count) span
  bounds (texts.Unknown span) = Unknown span
  bounds (texts.Range' p low q high span) = Range (expression low) (expression high) span
