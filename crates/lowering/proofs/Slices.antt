-- What slices of the code's types stand for.
use Rattle.std.proofs.Common.{◌≡◌, ℕ, zero, suc, ◌+◌, ◌<◌, List, [], ◌∷◌, length, get_or, drop, map, ap, sym, subst, ◌∙◌, arith}
use Rattle.std.specs.Prelude.{All}
use Rattle.std.specs.List.{AllByRecursion}
use Rattle.std.proofs.lemmas.List.Elements.{recursion_from_All}
use Rattle.std.proofs.Math.Seq.{drop-cons}
use Rattle.check_insertion.specs.declared.erased.Expr.{Expr}
use Rattle.check_insertion.specs.declared.erased.Stmt.{Stmt}
use Rattle.check_insertion.specs.Erased.{More, Then, expression, arguments_of, statement, statements_of}

-- an argument, and those behind it
pub arguments_drop : (args : List Expr) (i : ℕ) (x : Expr) → i < length args → x ≡ get_or args i x → arguments_of (drop i args) ≡ More (expression x) (arguments_of (drop (i + 1) args))
arguments_drop args i x low is =
    let next : suc i ≡ i + 1 = omega arith in
    ap arguments_of (drop-cons args i x low ∙ ap (λ y. y ∷ drop (suc i) args) (sym is) ∙ ap (λ j. x ∷ drop j args) next)

-- a statement, and those behind it
pub statements_drop : (stmts : List Stmt) (i : ℕ) (x : Stmt) → i < length stmts → x ≡ get_or stmts i x → statements_of (drop i stmts) ≡ Then (statement x) (statements_of (drop (i + 1) stmts))
statements_drop stmts i x low is =
    let next : suc i ≡ i + 1 = omega arith in
    ap statements_of (drop-cons stmts i x low ∙ ap (λ y. y ∷ drop (suc i) stmts) (sym is) ∙ ap (λ j. x ∷ drop j stmts) next)

-- what is so of what each element stands for is so of one
pub meant_at : {A B : Type 0} (meant : A → B) (P : B → Type 0) (xs : List A) (i : ℕ) (x : A) → i < length xs → x ≡ get_or xs i x → All P (map meant xs) → P (meant x)
meant_at {A} meant P xs i x low is all = at xs i low is (recursion_from_All P (map meant xs) all)
  where
    at : (xs : List A) (i : ℕ) → i < length xs → x ≡ get_or xs i x → AllByRecursion P (map meant xs) → P (meant x)
    at [] i low is each = absurd (omega arith)
    at (y ∷ ys) zero low is each = subst (λ z. P (meant z)) (sym is) each.0
    at (y ∷ ys) (suc i) low is each = at ys i (omega arith) is each.1
