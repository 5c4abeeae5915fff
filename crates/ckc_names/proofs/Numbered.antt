-- Trees whose parts got their numbers one after another.
use Rattle.std.proofs.Common.{◌≡◌, ℕ, ◌+◌, ◌<◌, List, [], ◌∷◌, ◌++◌, length, map, take, set, get_or, Vec, Global, Option, refl, sym, ap, ◌∙◌, subst}
use Rattle.std.specs.Vec.{with_items}
use Rattle.std.proofs.lemmas.List.{take_more, take_more_set, map-append, with_items_is}
use mathlib.Core.Former.{Count}
use Rattle.ckc_text.specs.declared.place.Span.{Span}
use Rattle.ckc_tree.specs.declared.identifier.Identifier.{Identifier}
use Rattle.ckc_tree.specs.declared.expr.Expr.{Expr, Row_of-Expr, end_of-Expr, more_of-Expr, items-the_row-Expr, items_hidden-the_row-Expr-0}
use Rattle.ckc_tree.specs.declared.expr.Expr.TheVariants as exprs
use Rattle.ckc_tree.specs.declared.stmt.Mark.{Mark}
use Rattle.ckc_tree.specs.declared.stmt.Stmt.{Stmt, Row_of-Stmt, end_of-Stmt, more_of-Stmt, items-the_row-Stmt, items_hidden-the_row-Stmt-0}
use Rattle.ckc_tree.specs.declared.stmt.Stmt.TheVariants as stmts
use Rattle.ckc_tree.specs.Expressions as e
use Rattle.ckc_tree.specs.Expressions.{Expression, Expressions, expression, expressions}
use Rattle.ckc_tree.specs.Statements as s
use Rattle.ckc_tree.specs.Statements.{Statement, Statements, statement, statements}
use Rattle.ckc_tree.specs.declared.item.Block.{Block}
use Rattle.ckc_tree.specs.Items.{statement_list, body}
use Rattle.ckc_tree.specs.Numbers.{Numbers, number_name, number_expression, number_expressions, number_statement, number_statements, number_body}

-- ---- parts in a slice

-- one part more has its number
pub one_more : {C T : Type 0} (view : C → T) (change : T → T) (old now : List C) (i : ℕ) (d new : C) → length now ≡ length old → i < length old → get_or now i d ≡ get_or old i d → map view (take i now) ≡ map change (map view (take i old))
    → view new ≡ change (view (get_or now i d)) → map view (take (i + 1) (set now i new)) ≡ map change (map view (take (i + 1) old))
one_more view change old now i d new long less same before is =
    let less' : i < length now = subst (λ n. i < n) (sym long) less in
    let left : map view (take (i + 1) (set now i new)) ≡ map view (take i now) ++ view new ∷ [] = ap (map view) (take_more_set now i new less') ∙ map-append view (take i now) (new ∷ []) in
    let right : map change (map view (take (i + 1) old)) ≡ map change (map view (take i old)) ++ change (view (get_or old i d)) ∷ [] =
    ap (λ xs. map change (map view xs)) (take_more old i d less) ∙ ap (map change) (map-append view (take i old) (get_or old i d ∷ [])) ∙ map-append change (map view (take i old)) (view (get_or old i d) ∷ []) in
    left ∙ rw (before, is, same) refl ∙ sym right

-- what a slice of a vector became, the vector is
pub vec_walked : {C T : Type 0} (view : C → T) (change : T → T) (v v' : Vec C Global) (slice ws : List C) → slice ≡ v.items → v' ≡ v → length ws ≡ length slice → map view ws ≡ map change (map view slice)
    → map view (with_items v' ws).items ≡ map change (map view v.items)
vec_walked view change v v' slice ws is same long walked =
    ap (map view) (with_items_is v' ws (long ∙ ap length is ∙ sym v.ok.0 ∙ sym (ap (λ (u : Vec _ Global). u.len) same)))
    ∙ walked ∙ ap (λ xs. map change (map view xs)) is

-- ---- arguments

abbrev arguments_of : List Expression → Expressions
arguments_of [] = e.NoMore
arguments_of (x ∷ xs) = e.Then x (arguments_of xs)

arguments_numbered : (of : Numbers) (xs : List Expression) → number_expressions of (arguments_of xs) ≡ arguments_of (map (number_expression of) xs)
arguments_numbered of [] = refl
arguments_numbered of (x ∷ xs) = ap (e.Then (number_expression of x)) (arguments_numbered of xs)

abbrev arguments_row : Expr → (n : Count) × Row_of-Expr n
arguments_row (exprs.Call' callee shape row span) = (_, row)
arguments_row _ = (_, end_of-Expr)

of_arguments_row : (n : _) (row : Row_of-Expr n) → expressions row ≡ arguments_of (map expression (items-the_row-Expr n row))
of_arguments_row n end_of-Expr = refl
of_arguments_row n (more_of-Expr first rest) = ap (e.Then (expression first)) (of_arguments_row _ rest)

call_is : (callee : Identifier) (v : Vec Expr Global) (span : Span) → expression (exprs.Call callee v span) ≡ e.Call callee (arguments_of (map expression v.items)) span
call_is callee v span =
    let row = arguments_row (exprs.Call callee v span) in
    ap (λ xs. e.Call callee xs span) (of_arguments_row row.0 row.1 ∙ ap (λ xs. arguments_of (map expression xs)) (items_hidden-the_row-Expr-0 v))

pub call_numbered : (of : Numbers) (x : Expr) (callee callee' : Identifier) (v v' : Vec Expr Global) (span span' : Span) (slice ws : List Expr) → x ≡ exprs.Call callee v span → slice ≡ v.items → v' ≡ v → span' ≡ span
    → length ws ≡ length slice → map expression ws ≡ map (number_expression of) (map expression slice) → callee' ≡ number_name of callee → expression (exprs.Call callee' (with_items v' ws) span') ≡ number_expression of (expression x)
call_numbered of x callee callee' v v' span span' slice ws is part same there long walked named =
    ap (λ o. expression (exprs.Call callee' (with_items v' ws) o)) there
    ∙ call_is callee' (with_items v' ws) span
    ∙ ap (λ xs. e.Call callee' (arguments_of xs) span) (vec_walked expression (number_expression of) v v' slice ws part same long walked)
    ∙ ap (λ c. e.Call c (arguments_of (map (number_expression of) (map expression v.items))) span) named
    ∙ ap (λ xs. e.Call (number_name of callee) xs span) (sym (arguments_numbered of (map expression v.items)))
    ∙ ap (number_expression of) (sym (ap expression is ∙ call_is callee v span))

-- ---- statements

abbrev statements_of : List Statement → Statements
statements_of [] = s.NoMore
statements_of (x ∷ xs) = s.Then x (statements_of xs)

statements_numbered : (of : Numbers) (xs : List Statement) → number_statements of (statements_of xs) ≡ statements_of (map (number_statement of) xs)
statements_numbered of [] = refl
statements_numbered of (x ∷ xs) = ap (s.Then (number_statement of x)) (statements_numbered of xs)

abbrev statements_row : Stmt → (n : Count) × Row_of-Stmt n
statements_row (stmts.Block' mark shape row span) = (_, row)
statements_row _ = (_, end_of-Stmt)

of_statements_row : (n : _) (row : Row_of-Stmt n) → statements row ≡ statements_of (map statement (items-the_row-Stmt n row))
of_statements_row n end_of-Stmt = refl
of_statements_row n (more_of-Stmt first rest) = ap (s.Then (statement first)) (of_statements_row _ rest)

block_is : (mark : Option Mark) (v : Vec Stmt Global) (span : Span) → statement (stmts.Block mark v span) ≡ s.Block mark (statements_of (map statement v.items)) span
block_is mark v span =
    let row = statements_row (stmts.Block mark v span) in
    ap (λ xs. s.Block mark xs span) (of_statements_row row.0 row.1 ∙ ap (λ xs. statements_of (map statement xs)) (items_hidden-the_row-Stmt-0 v))

pub block_numbered : (of : Numbers) (x : Stmt) (mark mark' : Option Mark) (v v' : Vec Stmt Global) (span span' : Span) (slice ws : List Stmt) → x ≡ stmts.Block mark v span → slice ≡ v.items → v' ≡ v → mark' ≡ mark → span' ≡ span
    → length ws ≡ length slice → map statement ws ≡ map (number_statement of) (map statement slice) → statement (stmts.Block mark' (with_items v' ws) span') ≡ number_statement of (statement x)
block_numbered of x mark mark' v v' span span' slice ws is part same marked there long walked =
    ap (λ m. statement (stmts.Block m (with_items v' ws) span')) marked
    ∙ ap (λ o. statement (stmts.Block mark (with_items v' ws) o)) there
    ∙ block_is mark (with_items v' ws) span
    ∙ ap (λ xs. s.Block mark (statements_of xs) span) (vec_walked statement (number_statement of) v v' slice ws part same long walked)
    ∙ ap (λ xs. s.Block mark xs span) (sym (statements_numbered of (map statement v.items)))
    ∙ ap (number_statement of) (sym (ap statement is ∙ block_is mark v span))

-- the statements of a body
listed_is : (xs : List Stmt) → statement_list xs ≡ statements_of (map statement xs)
listed_is [] = refl
listed_is (x ∷ xs) = ap (s.Then (statement x)) (listed_is xs)

list_numbered : (of : Numbers) (old new : List Stmt) → map statement new ≡ map (number_statement of) (map statement old) → statement_list new ≡ number_statements of (statement_list old)
list_numbered of old new walked =
    listed_is new ∙ ap statements_of walked ∙ sym (statements_numbered of (map statement old)) ∙ ap (number_statements of) (sym (listed_is old))

pub body_numbered : (of : Numbers) (b : Block) (slice ws : List Stmt) → slice ≡ b.statements.items → length ws ≡ length slice → map statement ws ≡ map (number_statement of) (map statement slice)
    → body (record b { statements = with_items b.statements ws }) ≡ number_body of (body b)
body_numbered of b slice ws is long walked =
    let all = vec_walked statement (number_statement of) b.statements b.statements slice ws is refl long walked in
    ap (λ (xs : Statements). record (body b) { statements = xs }) (list_numbered of b.statements.items (with_items b.statements ws).items all)
