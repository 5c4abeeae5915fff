-- The signs of expressions and bounds.
use Rattle.std.specs.Prelude.{Bool, true, false, List, [], ◌∷◌, ◌++◌, codes}
use Rattle.ckc_lexer.specs.declared.token.TokenKind.{TokenKind}
use Rattle.ckc_lexer.specs.declared.keyword.Keyword.TheVariants as keywords
use Rattle.ckc_lexer.specs.declared.token.TokenKind.TheVariants as kinds
use Rattle.ckc_tree.specs.declared.expr.UnaryOperator.{UnaryOperator}
use Rattle.ckc_tree.specs.declared.expr.UnaryOperator.TheVariants as unary
use Rattle.ckc_tree.specs.declared.expr.BinaryOperator.{BinaryOperator}
use Rattle.ckc_tree.specs.declared.expr.BinaryOperator.TheVariants as binary
use Rattle.ckc_tree.specs.declared.expr.CastWord.{CastWord}
use Rattle.ckc_tree.specs.declared.expr.CastWord.TheVariants as casts
use Rattle.ckc_tree.specs.declared.expr.MallocWord.{MallocWord}
use Rattle.ckc_tree.specs.declared.expr.MallocWord.TheVariants as mallocs
use Rattle.ckc_tree.specs.declared.expr.CallocWord.{CallocWord}
use Rattle.ckc_tree.specs.declared.expr.CallocWord.TheVariants as callocs
use Rattle.ckc_tree.specs.Expressions.{Expression, Expressions, NoMore, Then, Number, Character, Text, Name, Call, SizeOf, Cast, BoundedCast}
use Rattle.ckc_tree.specs.Expressions.{Malloc, Calloc, Index, Dot, Arrow, Unary, Binary, Bounds, Count, ByteCount, Unknown, Range}
use Rattle.ckc_printer.specs.Pieces.{Sign, One, RightShift, around}
use Rattle.ckc_printer.specs.TypePieces.{name_sign, type_name_pieces, angled_pieces}

-- an operator before its operand
abbrev pub unary_kind : UnaryOperator → TokenKind
unary_kind unary.Deref = kinds.Star
unary_kind unary.AddressOf = kinds.Ampersand
unary_kind unary.Negate = kinds.Minus
unary_kind unary.Not = kinds.Not
unary_kind unary.Complement = kinds.Tilde

-- an operator between its operands
abbrev pub binary_sign : BinaryOperator → Sign
binary_sign binary.Or = One kinds.OrOr
binary_sign binary.And = One kinds.AndAnd
binary_sign binary.BitOr = One kinds.Bar
binary_sign binary.BitXor = One kinds.Caret
binary_sign binary.BitAnd = One kinds.Ampersand
binary_sign binary.Equal = One kinds.EqualEqual
binary_sign binary.NotEqual = One kinds.NotEqual
binary_sign binary.Less = One kinds.Less
binary_sign binary.LessEqual = One kinds.LessEqual
binary_sign binary.Greater = One kinds.Greater
binary_sign binary.GreaterEqual = One kinds.GreaterEqual
binary_sign binary.ShiftLeft = One kinds.ShiftLeft
binary_sign binary.ShiftRight = RightShift
binary_sign binary.Add = One kinds.Plus
binary_sign binary.Subtract = One kinds.Minus
binary_sign binary.Multiply = One kinds.Star
binary_sign binary.Divide = One kinds.Slash
binary_sign binary.Remainder = One kinds.Percent

abbrev pub cast_kind : CastWord → TokenKind
cast_kind casts.Dynamic = kinds.Keyword keywords.DynamicBoundsCast
cast_kind casts.Assume = kinds.Keyword keywords.AssumeBoundsCast

abbrev pub malloc_kind : MallocWord → TokenKind
malloc_kind mallocs.Malloc = kinds.Keyword keywords.Malloc
malloc_kind mallocs.TMalloc = kinds.Keyword keywords.TMalloc

abbrev pub calloc_kind : CallocWord → TokenKind
calloc_kind callocs.Calloc = kinds.Keyword keywords.Calloc
calloc_kind callocs.NtCalloc = kinds.Keyword keywords.NtCalloc

-- what stands in parentheses where it is an operand or a base
abbrev pub is_compound : Expression → Bool
is_compound (Number value span) = false
is_compound (Character value span) = false
is_compound (Text bytes span) = false
is_compound (Name name) = false
is_compound (Call callee arguments span) = false
is_compound (SizeOf type span) = false
is_compound (Cast word type operand span) = true
is_compound (BoundedCast word type operand bounds span) = true
is_compound (Malloc word type size span) = false
is_compound (Calloc word type count size span) = false
is_compound (Index base index span) = false
is_compound (Dot base member span) = false
is_compound (Arrow base member span) = false
is_compound (Unary operator operand span) = true
is_compound (Binary operator left right span) = true

-- what stands in parentheses where it is a target
abbrev pub is_binary : Expression → Bool
is_binary (Number value span) = false
is_binary (Character value span) = false
is_binary (Text bytes span) = false
is_binary (Name name) = false
is_binary (Call callee arguments span) = false
is_binary (SizeOf type span) = false
is_binary (Cast word type operand span) = false
is_binary (BoundedCast word type operand bounds span) = false
is_binary (Malloc word type size span) = false
is_binary (Calloc word type count size span) = false
is_binary (Index base index span) = false
is_binary (Dot base member span) = false
is_binary (Arrow base member span) = false
is_binary (Unary operator operand span) = false
is_binary (Binary operator left right span) = true

abbrev mutual
  pub expression_pieces : Expression → List Sign
  expression_pieces (Number value span) = One (kinds.Number value) ∷ []
  expression_pieces (Character value span) = One (kinds.Character value) ∷ []
  expression_pieces (Text bytes span) = One (kinds.Text bytes) ∷ []
  expression_pieces (Name name) = name_sign name ∷ []
  expression_pieces (Call callee arguments span) = name_sign callee ∷ One kinds.OpenParen ∷ (arguments_pieces arguments ++ One kinds.CloseParen ∷ [])
  expression_pieces (SizeOf type span) = One (kinds.Keyword keywords.Sizeof) ∷ One kinds.OpenParen ∷ (type_name_pieces type ++ One kinds.CloseParen ∷ [])
  expression_pieces (Cast word type operand span) =
      One (cast_kind word) ∷ (angled_pieces type ++ One kinds.OpenParen ∷ (expression_pieces operand ++ One kinds.CloseParen ∷ []))
  expression_pieces (BoundedCast word type operand bounds span) =
      One (cast_kind word) ∷ (angled_pieces type ++ One kinds.OpenParen
      ∷ (expression_pieces operand ++ One kinds.Comma ∷ (bounds_pieces bounds ++ One kinds.CloseParen ∷ [])))
  expression_pieces (Malloc word type size span) =
      One (malloc_kind word) ∷ (angled_pieces type ++ One kinds.OpenParen ∷ (expression_pieces size ++ One kinds.CloseParen ∷ []))
  expression_pieces (Calloc word type count size span) =
      One (calloc_kind word) ∷ (angled_pieces type ++ One kinds.OpenParen
      ∷ (expression_pieces count ++ One kinds.Comma ∷ (expression_pieces size ++ One kinds.CloseParen ∷ [])))
  expression_pieces (Index base index span) =
      around (is_compound base) (expression_pieces base) ++ One kinds.OpenBracket ∷ (expression_pieces index ++ One kinds.CloseBracket ∷ [])
  expression_pieces (Dot base member span) = around (is_compound base) (expression_pieces base) ++ One kinds.Dot ∷ name_sign member ∷ []
  expression_pieces (Arrow base member span) = around (is_compound base) (expression_pieces base) ++ One kinds.Arrow ∷ name_sign member ∷ []
  expression_pieces (Unary operator operand span) = One (unary_kind operator) ∷ around (is_compound operand) (expression_pieces operand)
  expression_pieces (Binary operator left right span) =
      around (is_compound left) (expression_pieces left) ++ binary_sign operator ∷ around (is_compound right) (expression_pieces right)

  -- the arguments of a call, with commas between
  pub arguments_pieces : Expressions → List Sign
  arguments_pieces NoMore = []
  arguments_pieces (Then first others) = expression_pieces first ++ more_pieces others

  -- arguments, each behind a comma
  pub more_pieces : Expressions → List Sign
  more_pieces NoMore = []
  more_pieces (Then first others) = One kinds.Comma ∷ (expression_pieces first ++ more_pieces others)

  pub bounds_pieces : Bounds → List Sign
  bounds_pieces (Count count span) = One (kinds.Name (codes "count")) ∷ One kinds.OpenParen ∷ (expression_pieces count ++ One kinds.CloseParen ∷ [])
  bounds_pieces (ByteCount count span) = One (kinds.Name (codes "byte_count")) ∷ One kinds.OpenParen ∷ (expression_pieces count ++ One kinds.CloseParen ∷ [])
  bounds_pieces (Unknown span) = One (kinds.Name (codes "bounds")) ∷ One kinds.OpenParen ∷ One (kinds.Name (codes "unknown")) ∷ One kinds.CloseParen ∷ []
  bounds_pieces (Range low high span) =
      One (kinds.Name (codes "bounds")) ∷ One kinds.OpenParen ∷ (expression_pieces low
      ++ One kinds.Comma ∷ (expression_pieces high ++ One kinds.CloseParen ∷ []))

-- an operand or a base
abbrev pub operand_pieces : Expression → List Sign
operand_pieces operand = around (is_compound operand) (expression_pieces operand)

-- what is stored to
abbrev pub target_pieces : Expression → List Sign
target_pieces target = around (is_binary target) (expression_pieces target)
