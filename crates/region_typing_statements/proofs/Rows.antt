-- Statements that a `Vec` holds, as the trees show them.
use Rattle.std.proofs.Common.{◌≡◌, List, Vec, Global, Option, refl, ap, sym, ◌∙◌}
use mathlib.Core.Former.{Count}
use Rattle.ckc_text.specs.declared.place.Span.{Span}
use Rattle.ckc_tree.specs.declared.stmt.Mark.{Mark}
use Rattle.ckc_tree.specs.declared.stmt.Stmt as trees
use Rattle.ckc_tree.specs.declared.stmt.Stmt.TheVariants as tree_stmts
use Rattle.ckc_tree.specs.Statements as s
use Rattle.ckc_tree.specs.Items.{statement_list}

abbrev tree_row : trees.Stmt → (n : Count) × trees.Row_of-Stmt n
tree_row (tree_stmts.Block' mark shape row span) = (_, row)
tree_row _ = (_, trees.end_of-Stmt)

list_of_tree_row : (n : _) (row : trees.Row_of-Stmt n) → s.statements row ≡ statement_list (trees.items-the_row-Stmt n row)
list_of_tree_row n trees.end_of-Stmt = refl
list_of_tree_row n (trees.more_of-Stmt first rest) = ap (s.Then (s.statement first)) (list_of_tree_row _ rest)

-- the tree of a block
pub block_tree : (x : trees.Stmt) (mark : Option Mark) (inner : Vec trees.Stmt Global) (span : Span) (slice : List trees.Stmt) → x ≡ tree_stmts.Block mark inner span → slice ≡ inner.items → s.statement x ≡ s.Block mark (statement_list slice) span
block_tree x mark inner span slice is same =
    let row = tree_row (tree_stmts.Block mark inner span) in
    ap s.statement is
    ∙ ap (λ xs. s.Block mark xs span) (list_of_tree_row row.0 row.1 ∙ ap statement_list (trees.items_hidden-the_row-Stmt-0 inner ∙ sym same))
