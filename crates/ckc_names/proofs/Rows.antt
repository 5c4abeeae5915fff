-- Arguments and statements that a `Vec` holds, as the trees show them.
use Rattle.std.proofs.Common.{◌≡◌, List, [], ◌∷◌, ◌++◌, Vec, Global, Option, refl, ap, sym, ◌∙◌}
use Rattle.std.specs.List.{flat_map}
use mathlib.Core.Former.{Count}
use Rattle.ckc_text.specs.declared.place.Span.{Span}
use Rattle.ckc_tree.specs.declared.identifier.Identifier.{Identifier}
use Rattle.ckc_tree.specs.declared.expr.Expr.{Expr, Row_of-Expr, end_of-Expr, more_of-Expr, items-the_row-Expr, items_hidden-the_row-Expr-0}
use Rattle.ckc_tree.specs.declared.expr.Expr.TheVariants as exprs
use Rattle.ckc_tree.specs.declared.stmt.Mark.{Mark}
use Rattle.ckc_tree.specs.declared.stmt.Stmt.{Stmt, Row_of-Stmt, end_of-Stmt, more_of-Stmt, items-the_row-Stmt, items_hidden-the_row-Stmt-0}
use Rattle.ckc_tree.specs.declared.stmt.Stmt.TheVariants as stmts
use Rattle.ckc_tree.specs.Expressions.{expression, expressions}
use Rattle.ckc_tree.specs.Statements.{statement, statements}
use Rattle.ckc_tree.specs.declared.item.Item.{Item}
use Rattle.ckc_tree.specs.declared.item.Program.{Program}
use Rattle.ckc_tree.specs.Items.{statement_list, item, tree}
use Rattle.ckc_names_rules.specs.Mentions.{Call, expression_mentions, expressions_mentions, in_block, statement_mentions, statements_mentions, item_mentions, tree_mentions}
use Rattle.ckc_names.specs.Slices.{arguments_mentions, block_mentions}
use Rattle.ckc_names.proofs.Going.{flat_shown}

abbrev arguments_row : Expr → (n : Count) × Row_of-Expr n
arguments_row (exprs.Call' callee shape row span) = (_, row)
arguments_row _ = (_, end_of-Expr)

arguments_of_row : (n : _) (row : Row_of-Expr n) → expressions_mentions (expressions row) ≡ arguments_mentions (items-the_row-Expr n row)
arguments_of_row n end_of-Expr = refl
arguments_of_row n (more_of-Expr first rest) = ap (λ ms. expression_mentions (expression first) ++ ms) (arguments_of_row _ rest)

-- what a call says
pub call_mentions : (x : Expr) (callee : Identifier) (arguments : Vec Expr Global) (span : Span) (slice : List Expr) → x ≡ exprs.Call callee arguments span → slice ≡ arguments.items → expression_mentions (expression x) ≡ Call callee ∷ [] ++ arguments_mentions slice
call_mentions x callee arguments span slice is same =
    let row = arguments_row (exprs.Call callee arguments span) in
    ap (λ y. expression_mentions (expression y)) is
    ∙ ap (λ ms. Call callee ∷ ms) (arguments_of_row row.0 row.1 ∙ ap arguments_mentions (items_hidden-the_row-Expr-0 arguments ∙ sym same))

abbrev statements_row : Stmt → (n : Count) × Row_of-Stmt n
statements_row (stmts.Block' mark shape row span) = (_, row)
statements_row _ = (_, end_of-Stmt)

statements_of_row : (n : _) (row : Row_of-Stmt n) → statements_mentions (statements row) ≡ block_mentions (items-the_row-Stmt n row)
statements_of_row n end_of-Stmt = refl
statements_of_row n (more_of-Stmt first rest) = ap (λ ms. statement_mentions (statement first) ++ ms) (statements_of_row _ rest)

-- what a block says
pub block_says : (x : Stmt) (mark : Option Mark) (inner : Vec Stmt Global) (span : Span) (slice : List Stmt) → x ≡ stmts.Block mark inner span → slice ≡ inner.items → statement_mentions (statement x) ≡ in_block (block_mentions slice)
block_says x mark inner span slice is same =
    let row = statements_row (stmts.Block mark inner span) in
    ap (λ y. statement_mentions (statement y)) is
    ∙ ap in_block (statements_of_row row.0 row.1 ∙ ap block_mentions (items_hidden-the_row-Stmt-0 inner ∙ sym same))

-- the statements of a body
pub body_says : (xs : List Stmt) → statements_mentions (statement_list xs) ≡ block_mentions xs
body_says [] = refl
body_says (x ∷ xs) = ap (λ ms. statement_mentions (statement x) ++ ms) (body_says xs)

-- the items of a program
pub program_says : (program : Program) (slice : List Item) → slice ≡ program.items.items → flat_map (λ x. item_mentions (item x)) slice ≡ tree_mentions (tree program)
program_says program slice is = ap (flat_map (λ x. item_mentions (item x))) is ∙ sym (flat_shown item_mentions item program.items.items)
