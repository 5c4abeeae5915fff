-- The arguments and the statements that a `Vec` holds, as the views show them.
use Rattle.std.proofs.Common.{◌≡◌, Option, List, Vec, Global, refl, ap, sym, ◌∙◌}
use mathlib.Core.Former.{Count}
use Rattle.ckc_core.specs.declared.program.Call.{Call}
use Rattle.ckc_core.specs.declared.program.PointerBounds.{PointerBounds}
use Rattle.ckc_core.specs.declared.program.Expr.{Expr, Row_of-Expr, end_of-Expr, more_of-Expr, items-the_row-Expr, items_hidden-the_row-Expr-0}
use Rattle.ckc_core.specs.declared.program.Expr.TheVariants as exprs
use Rattle.ckc_core.specs.declared.program.Stmt.{Stmt, Row_of-Stmt, end_of-Stmt, more_of-Stmt, items-the_row-Stmt, items_hidden-the_row-Stmt-0}
use Rattle.ckc_core.specs.declared.program.Stmt.TheVariants as stmts
use Rattle.ckc_core.specs.Core as core
use Rattle.ckc_core.specs.Core.{expression, arguments, arguments_of, statement, statements, statements_of}

-- the arguments of a call
abbrev row_of : Expr → (n : Count) × Row_of-Expr n
row_of (exprs.Call' callee shape row bounds) = (_, row)
row_of _ = (_, end_of-Expr)

arguments_of_row : (n : _) (row : Row_of-Expr n) → arguments row ≡ arguments_of (items-the_row-Expr n row)
arguments_of_row n end_of-Expr = refl
arguments_of_row n (more_of-Expr first rest) = ap (core.More (expression first)) (arguments_of_row _ rest)

-- what a call stands for
pub call_value : (call : Call) (bounds : Option PointerBounds) → expression (exprs.Call call bounds) ≡ core.Call call.callee (arguments_of call.arguments.items) bounds
call_value call bounds =
    let row = row_of (exprs.Call call bounds) in
    ap (λ xs. core.Call call.callee xs bounds) (arguments_of_row row.0 row.1 ∙ ap arguments_of (items_hidden-the_row-Expr-0 call.arguments))

pub call_of : (e : Expr) (call : Call) (bounds : Option PointerBounds) (slice : List Expr) → e ≡ exprs.Call call bounds → slice ≡ call.arguments.items → expression e ≡ core.Call call.callee (arguments_of slice) bounds
call_of e call bounds slice is same = ap expression is ∙ call_value call bounds ∙ ap (λ xs. core.Call call.callee (arguments_of xs) bounds) (sym same)

-- the statements of a block
abbrev inner_row : Stmt → (n : Count) × Row_of-Stmt n
inner_row (stmts.Block' shape row) = (_, row)
inner_row _ = (_, end_of-Stmt)

statements_of_row : (n : _) (row : Row_of-Stmt n) → statements row ≡ statements_of (items-the_row-Stmt n row)
statements_of_row n end_of-Stmt = refl
statements_of_row n (more_of-Stmt first rest) = ap (core.Then (statement first)) (statements_of_row _ rest)

-- what a block stands for
pub block_value : (inner : Vec Stmt Global) → statement (stmts.Block inner) ≡ core.Block (statements_of inner.items)
block_value inner =
    let row = inner_row (stmts.Block inner) in
    ap core.Block (statements_of_row row.0 row.1 ∙ ap statements_of (items_hidden-the_row-Stmt-0 inner))

pub block_of : (x : Stmt) (inner : Vec Stmt Global) (slice : List Stmt) → x ≡ stmts.Block inner → slice ≡ inner.items → statement x ≡ core.Block (statements_of slice)
block_of x inner slice is same = ap statement is ∙ block_value inner ∙ ap (λ xs. core.Block (statements_of xs)) (sym same)
