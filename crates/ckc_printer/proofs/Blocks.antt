-- The statements of a block, in a row and in a slice.
use Rattle.std.proofs.Common.{◌≡◌, Option, Vec, Global, refl, ap, ◌∙◌}
use mathlib.Core.Former.{Count}
use Rattle.ckc_text.specs.declared.place.Span.{Span}
use Rattle.ckc_tree.specs.declared.stmt.Mark.{Mark}
use Rattle.ckc_tree.specs.declared.stmt.Stmt.{Stmt, Row_of-Stmt, end_of-Stmt, more_of-Stmt, items-the_row-Stmt, items_hidden-the_row-Stmt-0}
use Rattle.ckc_tree.specs.declared.stmt.Stmt.TheVariants as stmts
use Rattle.ckc_tree.specs.Statements.{Statements, Block, Then, statement, statements}
use Rattle.ckc_tree.specs.Items.{statement_list}

-- the statements of a block, as a row
abbrev row_of : Stmt → (n : Count) × Row_of-Stmt n
row_of (stmts.Block' mark shape row span) = (_, row)
row_of _ = (_, end_of-Stmt)

statements_of_row : (n : _) (row : Row_of-Stmt n) → statements row ≡ statement_list (items-the_row-Stmt n row)
statements_of_row n end_of-Stmt = refl
statements_of_row n (more_of-Stmt first rest) = ap (Then (statement first)) (statements_of_row _ rest)

-- a block of the statements of a vector
pub block_of : (s : Stmt) (mark : Option Mark) (inner : Vec Stmt Global) (span : Span) → s ≡ stmts.Block mark inner span → statement s ≡ Block mark (statement_list inner.items) span
block_of s mark inner span is =
    let row = row_of (stmts.Block mark inner span) in
    ap statement is ∙ ap (λ (all : Statements). Block mark all span) (statements_of_row row.0 row.1 ∙ ap statement_list (items_hidden-the_row-Stmt-0 inner))
