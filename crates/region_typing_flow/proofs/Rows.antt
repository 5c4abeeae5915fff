-- Statements that a `Vec` holds, as the trees show them.
use Rattle.std.proofs.Common.{◌≡◌, List, Vec, Global, Option, refl, ap, sym, ◌∙◌}
use mathlib.Core.Former.{Count}
use Rattle.ckc_text.specs.declared.place.Span.{Span}
use Rattle.ckc_tree.specs.declared.stmt.Mark.{Mark}
use Rattle.ckc_tree.specs.declared.stmt.Stmt.{Stmt, Row_of-Stmt, end_of-Stmt, more_of-Stmt, items-the_row-Stmt, items_hidden-the_row-Stmt-0}
use Rattle.ckc_tree.specs.declared.stmt.Stmt.TheVariants as stmts
use Rattle.ckc_tree.specs.Statements as s
use Rattle.ckc_tree.specs.Items.{statement_list}
use Rattle.region_typing_rules.specs.Knowing.{declared_in, all_declared}

abbrev row_of : Stmt → (n : Count) × Row_of-Stmt n
row_of (stmts.Block' mark shape row span) = (_, row)
row_of _ = (_, end_of-Stmt)

list_of_row : (n : _) (row : Row_of-Stmt n) → s.statements row ≡ statement_list (items-the_row-Stmt n row)
list_of_row n end_of-Stmt = refl
list_of_row n (more_of-Stmt first rest) = ap (s.Then (s.statement first)) (list_of_row _ rest)

-- how many locals a block declares
pub block_declares : (x : Stmt) (mark : Option Mark) (inner : Vec Stmt Global) (span : Span) (slice : List Stmt) → x ≡ stmts.Block mark inner span → slice ≡ inner.items → all_declared (statement_list slice) ≡ declared_in (s.statement x)
block_declares x mark inner span slice is same =
    let row = row_of (stmts.Block mark inner span) in
    ap (λ xs. all_declared (statement_list xs)) same
    ∙ ap all_declared (sym (list_of_row row.0 row.1 ∙ ap statement_list (items_hidden-the_row-Stmt-0 inner)))
    ∙ ap (λ y. declared_in (s.statement y)) (sym is)
