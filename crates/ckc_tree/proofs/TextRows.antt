-- Arguments and statements that a `Vec` holds, as the trees show them.
use Rattle.std.proofs.Common.{◌≡◌, List, Vec, Global, Option, refl, ap, sym, ◌∙◌}
use mathlib.Core.Former.{Count}
use Rattle.ckc_text.specs.declared.place.Span.{Span}
use Rattle.ckc_tree.specs.declared.identifier.Identifier.{Identifier}
use Rattle.ckc_tree.specs.declared.expr.Expr.{Expr, Row_of-Expr, end_of-Expr, more_of-Expr, items-the_row-Expr, items_hidden-the_row-Expr-0}
use Rattle.ckc_tree.specs.declared.expr.Expr.TheVariants as exprs
use Rattle.ckc_tree.specs.declared.stmt.Mark.{Mark}
use Rattle.ckc_tree.specs.declared.stmt.Stmt.{Stmt, Row_of-Stmt, end_of-Stmt, more_of-Stmt, items-the_row-Stmt, items_hidden-the_row-Stmt-0}
use Rattle.ckc_tree.specs.declared.stmt.Stmt.TheVariants as stmts
use Rattle.ckc_tree.specs.Expressions as e
use Rattle.ckc_tree.specs.Expressions.{expression, expressions}
use Rattle.ckc_tree.specs.Statements as s
use Rattle.ckc_tree.specs.Statements.{statement, statements}
use Rattle.ckc_tree.specs.Items.{statement_list}
use Rattle.ckc_tree.specs.Texts.{expression_texts, expressions_texts, statement_texts, statements_texts}
use Rattle.ckc_tree.specs.Slices.{expressions_of}

abbrev arguments_row : Expr → (n : Count) × Row_of-Expr n
arguments_row (exprs.Call' callee shape row span) = (_, row)
arguments_row _ = (_, end_of-Expr)

arguments_of_row : (n : _) (row : Row_of-Expr n) → expressions row ≡ expressions_of (items-the_row-Expr n row)
arguments_of_row n end_of-Expr = refl
arguments_of_row n (more_of-Expr first rest) = ap (e.Then (expression first)) (arguments_of_row _ rest)

-- the strings of a call, with its arguments in a slice
pub call_texts : (x : Expr) (callee : Identifier) (arguments : Vec Expr Global) (span : Span) (slice : List Expr)
    → x ≡ exprs.Call callee arguments span → slice ≡ arguments.items → expressions_texts (expressions_of slice) ≡ expression_texts (expression x)
call_texts x callee arguments span slice is same =
    let row = arguments_row (exprs.Call callee arguments span) in
    let list = arguments_of_row row.0 row.1 ∙ ap expressions_of (items_hidden-the_row-Expr-0 arguments) in
    ap (λ l. expressions_texts (expressions_of l)) same
    ∙ ap expressions_texts (sym list)
    ∙ ap (λ y. expression_texts (expression y)) (sym is)

abbrev statements_row : Stmt → (n : Count) × Row_of-Stmt n
statements_row (stmts.Block' mark shape row span) = (_, row)
statements_row _ = (_, end_of-Stmt)

statements_of_row : (n : _) (row : Row_of-Stmt n) → statements row ≡ statement_list (items-the_row-Stmt n row)
statements_of_row n end_of-Stmt = refl
statements_of_row n (more_of-Stmt first rest) = ap (s.Then (statement first)) (statements_of_row _ rest)

-- the strings of a block, with its statements in a slice
pub block_texts : (x : Stmt) (mark : Option Mark) (inner : Vec Stmt Global) (span : Span) (slice : List Stmt)
    → x ≡ stmts.Block mark inner span → slice ≡ inner.items → statements_texts (statement_list slice) ≡ statement_texts (statement x)
block_texts x mark inner span slice is same =
    let row = statements_row (stmts.Block mark inner span) in
    let list = statements_of_row row.0 row.1 ∙ ap statement_list (items_hidden-the_row-Stmt-0 inner) in
    ap (λ l. statements_texts (statement_list l)) same
    ∙ ap statements_texts (sym list)
    ∙ ap (λ y. statement_texts (statement y)) (sym is)
