-- For private clauses: the signs of parts of expressions and statements.
use Rattle.std.specs.Prelude.{List, [], ◌∷◌, ◌++◌, Option}
use Rattle.std.specs.List.{flat_map}
use Rattle.ckc_lexer.specs.declared.keyword.Keyword.TheVariants as keywords
use Rattle.ckc_lexer.specs.declared.token.TokenKind.TheVariants as kinds
use Rattle.ckc_tree.specs.declared.expr.Expr.{Expr}
use Rattle.ckc_tree.specs.declared.expr.Expr.TheVariants as exprs
use Rattle.ckc_tree.specs.declared.expr.UnaryOperator.{UnaryOperator}
use Rattle.ckc_tree.specs.declared.expr.BinaryOperator.{BinaryOperator}
use Rattle.ckc_tree.specs.declared.expr.MallocWord.{MallocWord}
use Rattle.ckc_tree.specs.declared.expr.CallocWord.{CallocWord}
use Rattle.ckc_tree.specs.declared.identifier.Identifier.{Identifier}
use Rattle.ckc_tree.specs.declared.stmt.Mark.{Mark}
use Rattle.ckc_tree.specs.Types.{TypeName}
use Rattle.ckc_tree.specs.Expressions.{Expression, Expressions, Bounds}
use Rattle.ckc_tree.specs.Statements.{Assignment, ForInitial, Statement, Statements}
use Rattle.ckc_printer.specs.Pieces.{Sign, One}
use Rattle.ckc_printer.specs.TypePieces.{name_sign, type_name_pieces, angled_pieces}
use Rattle.ckc_printer.specs.ExpressionPieces.{malloc_kind, calloc_kind, unary_kind, binary_sign}
use Rattle.ckc_printer.specs.ExpressionPieces.{operand_pieces, expression_pieces, arguments_pieces, bounds_pieces}
use Rattle.ckc_printer.specs.StatementPieces.{mark_pieces, optional_expression_pieces, bundled_pieces, for_head_pieces, tested_pieces}
use Rattle.ckc_printer.specs.StatementPieces.{statement_pieces, statements_pieces}

-- an expression with a type in angle brackets: a cast or an allocation
abbrev pub HasAngledType : Expr → Type 0
HasAngledType (exprs.Cast' word type p operand written span) = Unit {0}
HasAngledType (exprs.Malloc' word type p size span) = Unit {0}
HasAngledType (exprs.Calloc' word type p count q size span) = Unit {0}
HasAngledType _ = ⊥

-- an expression and the parenthesis behind it
abbrev pub closed_pieces : Expression → List Sign
closed_pieces last = expression_pieces last ++ One kinds.CloseParen ∷ []

-- the bounds of a cast, from the comma before them to the parenthesis behind them
abbrev pub limits_pieces : Bounds → List Sign
limits_pieces bounds = One kinds.Comma ∷ (bounds_pieces bounds ++ One kinds.CloseParen ∷ [])

abbrev pub size_pieces : TypeName → List Sign
size_pieces type = One (kinds.Keyword keywords.Sizeof) ∷ One kinds.OpenParen ∷ (type_name_pieces type ++ One kinds.CloseParen ∷ [])

abbrev pub call_pieces : Identifier → Expressions → List Sign
call_pieces callee arguments = name_sign callee ∷ One kinds.OpenParen ∷ (arguments_pieces arguments ++ One kinds.CloseParen ∷ [])

abbrev pub malloc_pieces : MallocWord → TypeName → Expression → List Sign
malloc_pieces word type size = One (malloc_kind word) ∷ (angled_pieces type ++ One kinds.OpenParen ∷ closed_pieces size)

abbrev pub calloc_pieces : CallocWord → TypeName → Expression → Expression → List Sign
calloc_pieces word type count size =
    One (calloc_kind word) ∷ (angled_pieces type ++ One kinds.OpenParen ∷ (expression_pieces count ++ One kinds.Comma ∷ closed_pieces size))

abbrev pub index_pieces : Expression → Expression → List Sign
index_pieces base index = operand_pieces base ++ One kinds.OpenBracket ∷ (expression_pieces index ++ One kinds.CloseBracket ∷ [])

-- an operator before its operand, and one between its operands
abbrev pub unary_pieces : UnaryOperator → Expression → List Sign
unary_pieces operator operand = One (unary_kind operator) ∷ operand_pieces operand

abbrev pub binary_pieces : BinaryOperator → Expression → Expression → List Sign
binary_pieces operator left right = operand_pieces left ++ binary_sign operator ∷ operand_pieces right

abbrev pub bundle_pieces : List Assignment → List Sign
bundle_pieces assignments = One (kinds.Keyword keywords.Bundled) ∷ One kinds.OpenBrace ∷ (flat_map bundled_pieces assignments ++ One kinds.CloseBrace ∷ [])

abbrev pub return_pieces : Option Expression → List Sign
return_pieces value = One (kinds.Keyword keywords.Return) ∷ (optional_expression_pieces value ++ One kinds.Semicolon ∷ [])

abbrev pub block_pieces : Option Mark → Statements → List Sign
block_pieces mark statements = mark_pieces mark ++ One kinds.OpenBrace ∷ (statements_pieces statements ++ One kinds.CloseBrace ∷ [])

-- signs with a semicolon behind them
abbrev pub ended_pieces : List Sign → List Sign
ended_pieces signs = signs ++ One kinds.Semicolon ∷ []

abbrev pub if_else_pieces : Expression → Statement → Statement → List Sign
if_else_pieces condition consequent alternative =
    tested_pieces (kinds.Keyword keywords.If) condition ++ (statement_pieces consequent ++ One (kinds.Keyword keywords.Else) ∷ statement_pieces alternative)

abbrev pub for_pieces : ForInitial → Option Expression → Option Assignment → Statement → List Sign
for_pieces initial condition step body = for_head_pieces initial condition step ++ statement_pieces body
