-- For private clauses: what slices of the code's types stand for.
use Rattle.std.specs.Prelude.{ℕ, zero, suc, List, [], ◌∷◌}
use Rattle.ckc_tree.specs.declared.expr.Expr.{Expr}
use Rattle.ckc_tree.specs.Expressions.{Expressions, NoMore, Then, expression}
use Rattle.ckc_printer.specs.Pieces.{Sign, with_commas, after_commas}
use Rattle.ckc_printer.specs.ExpressionPieces.{arguments_pieces, more_pieces}

-- the arguments that stand in a slice
abbrev pub expressions_of : List Expr → Expressions
expressions_of [] = NoMore
expressions_of (first ∷ others) = Then (expression first) (expressions_of others)

-- the arguments from a place on: the first of all has no comma before it
abbrev pub arguments_from : ℕ → Expressions → List Sign
arguments_from zero arguments = arguments_pieces arguments
arguments_from (suc n) arguments = more_pieces arguments

-- a list from a place on: the first of all has no comma before it
abbrev pub commas_from : {A : Type 0} → ℕ → (A → List Sign) → List A → List Sign
commas_from zero pieces xs = with_commas pieces xs
commas_from (suc n) pieces xs = after_commas pieces xs
