-- The arguments of a call, in a row and in a slice.
use Rattle.std.proofs.Common.{◌≡◌, Vec, Global, refl, ap, ◌∙◌}
use mathlib.Core.Former.{Count}
use Rattle.ckc_text.specs.declared.place.Span.{Span}
use Rattle.ckc_tree.specs.declared.identifier.Identifier.{Identifier}
use Rattle.ckc_tree.specs.declared.expr.Expr.{Expr, Row_of-Expr, end_of-Expr, more_of-Expr, items-the_row-Expr, items_hidden-the_row-Expr-0}
use Rattle.ckc_tree.specs.declared.expr.Expr.TheVariants as exprs
use Rattle.ckc_tree.specs.Expressions.{Expressions, Call, Then, expression, expressions}
use Rattle.ckc_printer.specs.Slices.{expressions_of}

-- the arguments of a call, as a row
abbrev row_of : Expr → (n : Count) × Row_of-Expr n
row_of (exprs.Call' callee shape row span) = (_, row)
row_of _ = (_, end_of-Expr)

expressions_of_row : (n : _) (row : Row_of-Expr n) → expressions row ≡ expressions_of (items-the_row-Expr n row)
expressions_of_row n end_of-Expr = refl
expressions_of_row n (more_of-Expr first rest) = ap (Then (expression first)) (expressions_of_row _ rest)

-- a call of the arguments of a vector
pub call_of : (e : Expr) (callee : Identifier) (args : Vec Expr Global) (span : Span) → e ≡ exprs.Call callee args span → expression e ≡ Call callee (expressions_of args.items) span
call_of e callee args span is =
    let row = row_of (exprs.Call callee args span) in
    ap expression is ∙ ap (λ (all : Expressions). Call callee all span) (expressions_of_row row.0 row.1 ∙ ap expressions_of (items_hidden-the_row-Expr-0 args))
