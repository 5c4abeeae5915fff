-- Arguments and statements that a `Vec` holds, as the trees show them; and tests of all that stand in a list.
use Rattle.std.proofs.Common.{◌≡◌, ℕ, ◌+◌, ◌<◌, ◌≤◌, Bool, true, false, ◌&&◌, List, [], ◌∷◌, length, map, take, get_or, Vec, Global, Option, refl, ap, sym, ◌∙◌}
use Rattle.std.specs.List.{list_all}
use Rattle.std.proofs.lemmas.List.{take_all}
use Rattle.std.proofs.lemmas.List.Folds.{list_all_more, list_all_at, list_all-map}
use mathlib.Core.Former.{Count}
use Rattle.ckc_tree.specs.declared.expr.Expr.{Expr, Row_of-Expr, end_of-Expr, more_of-Expr, items-the_row-Expr, items_hidden-the_row-Expr-0}
use Rattle.ckc_tree.specs.declared.expr.Expr.TheVariants as exprs
use Rattle.ckc_tree.specs.declared.stmt.Stmt.{Stmt, Row_of-Stmt, end_of-Stmt, more_of-Stmt, items-the_row-Stmt, items_hidden-the_row-Stmt-0}
use Rattle.ckc_tree.specs.declared.stmt.Stmt.TheVariants as stmts
use Rattle.ckc_tree.specs.declared.stmt.Mark.{Mark}
use Rattle.ckc_tree.specs.declared.identifier.Identifier.{Identifier}
use Rattle.ckc_text.specs.declared.place.Span.{Span}
use Rattle.ckc_tree.specs.Expressions.{expression, expressions}
use Rattle.ckc_tree.specs.Statements.{statement, statements}
use Rattle.ckc_tree.specs.Items.{statement_list}
use Rattle.built_forms.specs.Built.{built_expression, built_expressions, built_statement, built_statements}

-- ---- tests of lists

-- one more passes
pub more_pass : {X : Type 0} (test : X → Bool) (xs : List X) (i : ℕ) (x : X) → i < length xs → x ≡ get_or xs i x → test x ≡ true → list_all test (take i xs) ≡ true → list_all test (take (i + 1) xs) ≡ true
more_pass test xs i x inside is passes so_far = list_all_more test xs i x inside ∙ ap (λ b. b && test (get_or xs i x)) so_far ∙ ap test (sym is) ∙ passes

-- all pass
pub all_pass : {X : Type 0} (test : X → Bool) (xs : List X) (i : ℕ) → length xs ≤ i → list_all test (take i xs) ≡ true → true ≡ list_all test xs
all_pass test xs i over so_far = sym so_far ∙ ap (list_all test) (take_all i xs over)

-- one fails
pub one_fails : {X : Type 0} (test : X → Bool) (xs : List X) (i : ℕ) (x : X) → i < length xs → x ≡ get_or xs i x → test x ≡ false → false ≡ list_all test xs
one_fails test xs i x inside is fails = sym (list_all_at test xs i x inside (ap test (sym is) ∙ fails))

-- what is seen of all that stand in a list
pub seen : {X Y : Type 0} (test : Y → Bool) (view : X → Y) (xs ys : List X) (r : Bool) → r ≡ list_all (λ x. test (view x)) xs → xs ≡ ys → r ≡ list_all test (map view ys)
seen test view xs ys r is same = is ∙ ap (list_all (λ x. test (view x))) same ∙ sym (list_all-map test view ys)

-- behind a test that passes
pub behind : (a b r : Bool) → a ≡ true → r ≡ b → r ≡ (a && b)
behind a b r passes is = is ∙ sym (ap (λ c. c && b) passes)

-- ---- rows

abbrev arguments_row : Expr → (n : Count) × Row_of-Expr n
arguments_row (exprs.Call' callee shape row span) = (_, row)
arguments_row _ = (_, end_of-Expr)

arguments_of_row : (n : _) (row : Row_of-Expr n) → built_expressions (expressions row) ≡ list_all (λ x. built_expression (expression x)) (items-the_row-Expr n row)
arguments_of_row n end_of-Expr = refl
arguments_of_row n (more_of-Expr first rest) = ap (λ b. built_expression (expression first) && b) (arguments_of_row _ rest)

-- whether a call is built
pub call_built : (x : Expr) (callee : Identifier) (arguments : Vec Expr Global) (span : Span) (slice : List Expr) (r : Bool) → x ≡ exprs.Call callee arguments span → slice ≡ arguments.items → r ≡ list_all (λ y. built_expression (expression y)) slice → r ≡ built_expression (expression x)
call_built x callee arguments span slice r is same all =
    let row = arguments_row (exprs.Call callee arguments span) in
    all
    ∙ ap (list_all (λ y. built_expression (expression y))) same
    ∙ sym (arguments_of_row row.0 row.1 ∙ ap (list_all (λ y. built_expression (expression y))) (items_hidden-the_row-Expr-0 arguments))
    ∙ ap (λ y. built_expression (expression y)) (sym is)

abbrev statements_row : Stmt → (n : Count) × Row_of-Stmt n
statements_row (stmts.Block' mark shape row span) = (_, row)
statements_row _ = (_, end_of-Stmt)

statements_of_row : (n : _) (row : Row_of-Stmt n) → built_statements (statements row) ≡ list_all (λ x. built_statement (statement x)) (items-the_row-Stmt n row)
statements_of_row n end_of-Stmt = refl
statements_of_row n (more_of-Stmt first rest) = ap (λ b. built_statement (statement first) && b) (statements_of_row _ rest)

-- whether a block is built
pub block_built : (x : Stmt) (mark : Option Mark) (inner : Vec Stmt Global) (span : Span) (slice : List Stmt) → x ≡ stmts.Block mark inner span → slice ≡ inner.items → list_all (λ y. built_statement (statement y)) slice ≡ built_statement (statement x)
block_built x mark inner span slice is same =
    let row = statements_row (stmts.Block mark inner span) in
    ap (list_all (λ y. built_statement (statement y))) same
    ∙ sym (statements_of_row row.0 row.1 ∙ ap (list_all (λ y. built_statement (statement y))) (items_hidden-the_row-Stmt-0 inner))
    ∙ ap (λ y. built_statement (statement y)) (sym is)

-- whether the statements of a body are built
pub body_built : (xs : List Stmt) → list_all (λ y. built_statement (statement y)) xs ≡ built_statements (statement_list xs)
body_built [] = refl
body_built (x ∷ xs) = ap (λ b. built_statement (statement x) && b) (body_built xs)
