-- The arguments of a call as they stand in a slice.
use Rattle.std.proofs.Common.{◌≡◌, List, Vec, Global, refl, ap, sym, ◌∙◌}
use mathlib.Core.Former.{Count}
use Rattle.ckc_text.specs.declared.place.Span.{Span}
use Rattle.ckc_tree.specs.declared.identifier.Identifier.{Identifier}
use Rattle.ckc_tree.specs.declared.expr.Expr.{Expr, Row_of-Expr, end_of-Expr, more_of-Expr, items-the_row-Expr, items_hidden-the_row-Expr-0}
use Rattle.ckc_tree.specs.declared.expr.Expr.TheVariants as exprs
use Rattle.ckc_tree.specs.Expressions.{Call, Then, expression, expressions}
use Rattle.ckc_tree.specs.Walks.{expression_list}

abbrev arguments_row : Expr → (n : Count) × Row_of-Expr n
arguments_row (exprs.Call' callee shape row span) = (_, row)
arguments_row _ = (_, end_of-Expr)

list_of_row : (n : _) (row : Row_of-Expr n) → expressions row ≡ expression_list (items-the_row-Expr n row)
list_of_row n end_of-Expr = refl
list_of_row n (more_of-Expr first rest) = ap (λ es. Then (expression first) es) (list_of_row _ rest)

-- the tree of a call
pub call_tree : (x : Expr) (callee : Identifier) (arguments : Vec Expr Global) (span : Span) (slice : List Expr) → x ≡ exprs.Call callee arguments span → slice ≡ arguments.items → expression x ≡ Call callee (expression_list slice) span
call_tree x callee arguments span slice is same =
    let row = arguments_row (exprs.Call callee arguments span) in
    ap expression is
    ∙ ap (λ es. Call callee es span) (list_of_row row.0 row.1 ∙ ap expression_list (items_hidden-the_row-Expr-0 arguments ∙ sym same))
