-- The arguments and the statements that a `Vec` holds, as the views show them.
use Rattle.std.proofs.Common.{◌≡◌, List, Vec, Global, refl, ap, sym, ◌∙◌}
use mathlib.Core.Former.{Count}
use Rattle.check_insertion.specs.declared.erased.Call.{Call}
use Rattle.check_insertion.specs.declared.erased.Expr.{Expr, Row_of-Expr, end_of-Expr, more_of-Expr, items-the_row-Expr, items_hidden-the_row-Expr-0}
use Rattle.check_insertion.specs.declared.erased.Expr.TheVariants as exprs
use Rattle.check_insertion.specs.declared.erased.Stmt.{Stmt, Row_of-Stmt, end_of-Stmt, more_of-Stmt, items-the_row-Stmt, items_hidden-the_row-Stmt-0}
use Rattle.check_insertion.specs.declared.erased.Stmt.TheVariants as stmts
use Rattle.check_insertion.specs.Erased as erased
use Rattle.check_insertion.specs.Erased.{expression, arguments, arguments_of, statement, statements, statements_of}

-- the arguments of a call
abbrev row_of : Expr → (n : Count) × Row_of-Expr n
row_of (exprs.Call' callee shape row) = (_, row)
row_of _ = (_, end_of-Expr)

arguments_of_row : (n : _) (row : Row_of-Expr n) → arguments row ≡ arguments_of (items-the_row-Expr n row)
arguments_of_row n end_of-Expr = refl
arguments_of_row n (more_of-Expr first rest) = ap (erased.More (expression first)) (arguments_of_row _ rest)

-- what a call stands for
pub call_value : (call : Call) → expression (exprs.Call call) ≡ erased.Call call.callee (arguments_of call.arguments.items)
call_value call =
    let row = row_of (exprs.Call call) in
    ap (erased.Call call.callee) (arguments_of_row row.0 row.1 ∙ ap arguments_of (items_hidden-the_row-Expr-0 call.arguments))

pub call_of : (e : Expr) (call : Call) (slice : List Expr) → e ≡ exprs.Call call → slice ≡ call.arguments.items → expression e ≡ erased.Call call.callee (arguments_of slice)
call_of e call slice is same = ap expression is ∙ call_value call ∙ ap (λ xs. erased.Call call.callee (arguments_of xs)) (sym same)

-- the statements of a block
abbrev inner_row : Stmt → (n : Count) × Row_of-Stmt n
inner_row (stmts.Block' shape row) = (_, row)
inner_row _ = (_, end_of-Stmt)

statements_of_row : (n : _) (row : Row_of-Stmt n) → statements row ≡ statements_of (items-the_row-Stmt n row)
statements_of_row n end_of-Stmt = refl
statements_of_row n (more_of-Stmt first rest) = ap (erased.Then (statement first)) (statements_of_row _ rest)

-- what a block stands for
pub block_value : (inner : Vec Stmt Global) → statement (stmts.Block inner) ≡ erased.Block (statements_of inner.items)
block_value inner =
    let row = inner_row (stmts.Block inner) in
    ap erased.Block (statements_of_row row.0 row.1 ∙ ap statements_of (items_hidden-the_row-Stmt-0 inner))

pub block_of : (x : Stmt) (inner : Vec Stmt Global) (slice : List Stmt) → x ≡ stmts.Block inner → slice ≡ inner.items → statement x ≡ erased.Block (statements_of slice)
block_of x inner slice is same = ap statement is ∙ block_value inner ∙ ap (λ xs. erased.Block (statements_of xs)) (sym same)
