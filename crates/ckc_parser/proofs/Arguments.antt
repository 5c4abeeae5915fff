-- Arguments of a call, and their reach.
use Rattle.std.proofs.Common.{◌≡◌, ℕ, zero, suc, ◌<◌, Bool, true, false, List, [], ◌∷◌, ◌++◌, Vec, Global, refl, sym, ap, ◌∙◌, arith}
use Rattle.std.specs.Prelude.{nat_lt}
use Rattle.std.proofs.lemmas.Bool.Decides.{nat_tests}
use mathlib.Core.Former.{Count}
use Rattle.ckc_text.specs.declared.place.Span.{Span}
use Rattle.ckc_tree.specs.declared.identifier.Identifier.{Identifier}
use Rattle.ckc_tree.specs.declared.expr.Expr.{Expr, Row_of-Expr, end_of-Expr, more_of-Expr, items-the_row-Expr, items_hidden-the_row-Expr-0}
use Rattle.ckc_tree.specs.declared.expr.Expr.TheVariants as exprs
use Rattle.ckc_tree.specs.Expressions as e
use Rattle.ckc_tree.specs.Expressions.{Expression, Expressions, NoMore, Then, Call, expression, expressions}
use Rattle.ckc_tree.specs.Heights.{Reach, nowhere, around, ◌beside◌, expression_reach, expressions_reach}
use Rattle.ckc_lexer.specs.declared.token.Token.{Token}
use Rattle.ckc_lexer.specs.declared.token.TokenKind.TheVariants as kinds
use Rattle.ckc_parser_grammar.specs.Tokens.{token}
use Rattle.ckc_parser_grammar.specs.ExpressionGrammar as g
use Rattle.ckc_parser_grammar.specs.ExpressionGrammar.{SpellsBinary, SpellsMoreArguments}
use Rattle.std.proofs.Common.{Result, Ok, Err}
use Rattle.ckc_parser_grammar.specs.declared.stuck.Stuck.{Stuck}
use Rattle.ckc_parser.specs.declared.primary.ReadArguments.{ReadArguments}
use Rattle.ckc_parser_grammar.specs.Failures.{Failure, IsLow}
use Rattle.ckc_parser_grammar.specs.Answers.{Reads}
use Rattle.ckc_parser_grammar.specs.StuckExpressions as s
use Rattle.ckc_parser_grammar.specs.StuckExpressions.{StuckMoreArguments, StuckArguments}
use Rattle.ckc_parser.specs.Readings.{before, listed, IsMore, IsArguments}
use Rattle.ckc_parser_grammar.proofs.Paths.{low_beside, beside_nowhere}

-- ---- the deepest node of parts side by side

beside_same : (p q r : Reach) → (p beside q) beside r ≡ p beside (q beside r)
beside_same p q r = by_tests (nat_lt p.height q.height) (nat_lt q.height r.height) refl refl
  where
    by_tests : (a b : Bool) → nat_lt p.height q.height ≡ a → nat_lt q.height r.height ≡ b → (p beside q) beside r ≡ p beside (q beside r)
    by_tests true true f s = let t : nat_lt p.height r.height ≡ true = grind (arith, nat_tests) in rw (f, s, t) refl
    by_tests true false f s = rw (f, s, f) refl
    by_tests false true f s = rw (f, s) refl
    by_tests false false f s = let t : nat_lt p.height r.height ≡ false = grind (arith, nat_tests) in rw (f, s, f, t) refl

nowhere_beside : (p : Reach) → 0 < p.height → nowhere beside p ≡ p
nowhere_beside p h = let t : nat_lt 0 p.height ≡ true = grind (arith, nat_tests) in rw t refl

around_positive : (s : ℕ) (r : Reach) → 0 < (around s r).height
around_positive s r = by_height r.height r.start
  where
    by_height : (h t : ℕ) → 0 < (around s (record { height = h; start = t })).height
    by_height zero t = omega arith
    by_height (suc h) t = omega arith

expression_positive : (x : Expression) → 0 < (expression_reach x).height
expression_positive (e.Number value span) = omega arith
expression_positive (e.Character value span) = omega arith
expression_positive (e.Text bytes span) = omega arith
expression_positive (e.Name name) = omega arith
expression_positive (e.Call callee arguments span) = around_positive _ _
expression_positive (e.SizeOf type span) = around_positive _ _
expression_positive (e.Cast word type operand span) = around_positive _ _
expression_positive (e.BoundedCast word type operand bounds span) = around_positive _ _
expression_positive (e.Malloc word type size span) = around_positive _ _
expression_positive (e.Calloc word type count size span) = around_positive _ _
expression_positive (e.Index base index span) = around_positive _ _
expression_positive (e.Dot base member span) = around_positive _ _
expression_positive (e.Arrow base member span) = around_positive _ _
expression_positive (e.Unary operator operand span) = around_positive _ _
expression_positive (e.Binary operator left right span) = around_positive _ _

-- ---- one more argument

before_pushed : (xs : List Expr) (x : Expr) (others : Expressions) → before (xs ++ x ∷ []) others ≡ before xs (Then (expression x) others)
before_pushed [] x others = refl
before_pushed (y ∷ xs) x others = ap (Then (expression y)) (before_pushed xs x others)

pub reach_pushed : (xs : List Expr) (x : Expr) → expressions_reach (listed (xs ++ x ∷ [])) ≡ expressions_reach (listed xs) beside expression_reach (expression x)
reach_pushed [] x = beside_nowhere (expression_reach (expression x)) ∙ sym (nowhere_beside (expression_reach (expression x)) (expression_positive (expression x)))
reach_pushed (y ∷ xs) x = ap (λ (r : Reach). expression_reach (expression y) beside r) (reach_pushed xs x) ∙ sym (beside_same (expression_reach (expression y)) (expressions_reach (listed xs)) (expression_reach (expression x)))

-- ---- the call of the code, seen as a call

listed_of_row : (n : _) (row : Row_of-Expr n) → expressions row ≡ listed (items-the_row-Expr n row)
listed_of_row n end_of-Expr = refl
listed_of_row n (more_of-Expr first rest) = ap (Then (expression first)) (listed_of_row _ rest)

abbrev row_of : Expr → (n : Count) × Row_of-Expr n
row_of (exprs.Call' callee shape row span) = (_, row)
row_of _ = (_, end_of-Expr)

pub call_is : (callee : Identifier) (xs : Vec Expr Global) (span : Span) → expression (exprs.Call callee xs span) ≡ Call callee (listed xs.items) span
call_is callee xs span =
    let row = row_of (exprs.Call callee xs span) in
    ap (λ ys. Call callee ys span) (listed_of_row row.0 row.1 ∙ ap listed (items_hidden-the_row-Expr-0 xs))

-- ---- arguments behind arguments

-- what is left behind these arguments completes what stood behind those
pub record Follows (d : ℕ) (xs : List Expr) (ts : List Token) (ys : List Expr) (rest : List Token) : Type 0 where
  pub more : {others : Expressions} {o : Span} {last : List Token} → SpellsMoreArguments rest others o last → (all : Expressions) × SpellsMoreArguments ts all o last × (before ys others ≡ before xs all)
  pub fails : {f : Failure} → StuckMoreArguments d rest f → StuckMoreArguments d ts f
  pub low : IsLow d (expressions_reach (listed ys))

pub follows_none : {d : ℕ} {xs : List Expr} {ts : List Token} → IsLow d (expressions_reach (listed xs)) → Follows d xs ts xs ts
follows_none low = record { more = λ {others} d. (others, d, refl); fails = λ d. d; low = low }

pub low_pushed : (d : ℕ) (xs ys : List Expr) (x : Expr) → ys ≡ xs ++ x ∷ [] → IsLow d (expressions_reach (listed xs)) → IsLow d (expression_reach (expression x)) → IsLow d (expressions_reach (listed ys))
low_pushed d xs ys x is all last = rw (is, reach_pushed xs x) (low_beside d (expressions_reach (listed xs)) (expression_reach (expression x)) all last)

pub follows_more : {d : ℕ} {xs ys zs : List Expr} {ts us mid rest : List Token} (x : Expr) (comma o : Span) → Follows d xs ts ys mid → mid ≡ token kinds.Comma comma ∷ us → SpellsBinary 10 us (expression x) o rest → IsLow d (expression_reach (expression x)) → zs ≡ ys ++ x ∷ [] → Follows d xs ts zs rest
follows_more {d} {xs} {ys} {zs} {ts} {us} {mid} {rest} x comma o sofar is spelled low grown = record {
  more = λ {others} {o} {last} d. others_read d;
  fails = λ stuck. sofar.fails (rw is (s.still_others spelled low stuck));
  low = low_pushed d ys zs x grown sofar.low low;
}
  where
    others_read : {others : Expressions} {q : Span} {last : List Token} → SpellsMoreArguments rest others q last → (all : Expressions) × SpellsMoreArguments ts all q last × (before zs others ≡ before xs all)
    others_read {others} {q} {last} d =
        let more : SpellsMoreArguments mid (Then (expression x) others) q last = rw is (g.other spelled d) in
        let all = sofar.more more in
        (all.0, all.1, rw grown (before_pushed ys x others ∙ all.2))

pub all_read : {d : ℕ} {xs ys : List Expr} {t : Span} {ts mid rest : List Token} → Follows d xs ts ys mid → mid ≡ token kinds.CloseParen t ∷ rest → IsMore d xs ts ys t rest
all_read {ys} {t} {mid} {rest} sofar is =
    let more : SpellsMoreArguments mid NoMore t rest = rw is g.no_other in
    let all = sofar.more more in
    record { others = all.0; spelled = all.1; is = all.2; low = sofar.low }

-- the first argument, and what was read behind it
pub first_read : {o : Span} {ts mid : List Token} (d : ℕ) (rest : List Token) (x : Expr) (xs : List Expr) (r : Result (ReadArguments × Span) Stuck) → xs ≡ x ∷ [] → SpellsBinary 10 ts (expression x) o mid → IsLow d (expression_reach (expression x))
    → Reads (λ y us. IsMore d xs mid y.0.items.items y.1 us) (StuckMoreArguments d mid) r rest → Reads (λ y us. IsArguments d ts (listed y.0.items.items) y.1 us) (StuckArguments d ts) r rest
first_read {ts} d rest x xs (Ok found) is spelled low more =
    let all : listed found.0.items.items ≡ Then (expression x) more.others = more.is ∙ ap (λ ys. before ys more.others) is in
    (rw all (g.argument spelled more.spelled), more.low)
first_read d rest x xs (Err e) is spelled low stuck = s.others spelled low stuck
