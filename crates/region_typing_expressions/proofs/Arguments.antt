-- Arguments as they stand in slices, and what they are.
use Rattle.std.proofs.Common.{◌≡◌, ℕ, ◌+◌, ◌<◌, ◌≤◌, List, [], ◌∷◌, ◌++◌, length, map, drop, get_or, Vec, Global, refl, ap, sym, ◌∙◌, append_assoc}
use mathlib.Core.Former.{Count}
use Rattle.std.proofs.lemmas.List.{append-nil, drop_more, drop_all, map-append}
use Rattle.ckc_text.specs.declared.place.Span.{Span}
use Rattle.ckc_tree.specs.declared.identifier.Identifier.{Identifier}
use Rattle.ckc_tree.specs.declared.expr.Expr.{Expr, Row_of-Expr, end_of-Expr, more_of-Expr, items-the_row-Expr, items_hidden-the_row-Expr-0}
use Rattle.ckc_tree.specs.declared.expr.Expr.TheVariants as exprs
use Rattle.ckc_tree.specs.Expressions.{Expressions, Call, Then, expression, expressions, expression_span}
use Rattle.region_typing_rules.specs.Verdicts.{Stop, Verdict, Passes, Stops, passing}
use Rattle.region_typing_rules.specs.Scopes.{Scope}
use Rattle.region_typing_rules.specs.Operands.{Places, Typed}
use Rattle.region_typing_rules.specs.Calls.{with_result}
use Rattle.region_typing_rules.specs.Expressions.{typed, all_typed}
use Rattle.region_typing_expressions.specs.declared.calls.Argument as code
use Rattle.region_typing_scope.specs.OnHeap.{typed as typed_view}
use Rattle.region_typing_expressions.specs.Calls.{argument, called_with}
use Rattle.region_typing_expressions.specs.Slices.{expression_list}

abbrev arguments_row : Expr → (n : Count) × Row_of-Expr n
arguments_row (exprs.Call' callee shape row span) = (_, row)
arguments_row _ = (_, end_of-Expr)

list_of_row : (n : _) (row : Row_of-Expr n) → expressions row ≡ expression_list (items-the_row-Expr n row)
list_of_row n end_of-Expr = refl
list_of_row n (more_of-Expr first rest) = ap (λ es. Then (expression first) es) (list_of_row _ rest)

-- the tree of a call
pub call_tree : (x : Expr) (callee : Identifier) (arguments : Vec Expr Global) (span : Span) (slice : List Expr) → x ≡ exprs.Call callee arguments span → slice ≡ arguments.items → expression x ≡ Call callee (expression_list slice) span
call_tree x callee arguments span slice is same =
    let row = arguments_row (exprs.Call callee arguments span) in
    ap expression is
    ∙ ap (λ es. Call callee es span) (list_of_row row.0 row.1 ∙ ap expression_list (items_hidden-the_row-Expr-0 arguments ∙ sym same))

passing_twice : {A B C : Type 0} (v : Verdict A) (f : A → Verdict B) (g : B → Verdict C) → passing v (λ x. passing (f x) g) ≡ passing (passing v f) g
passing_twice (Passes x) f g = refl
passing_twice (Stops stop) f g = refl

-- the value of a call
pub call_parts : (at : Places) (s : Scope) (callee : Identifier) (arguments : Expressions) (span : Span) → typed at s (Call callee arguments span) ≡ passing (called_with at s callee.number arguments span) (λ c. with_result c span)
call_parts at s callee arguments span = passing_twice (all_typed at s arguments) _ _

-- the arguments so far before those that are left
abbrev pub behind : List (Typed × Span) → Verdict (List (Typed × Span)) → Verdict (List (Typed × Span))
behind done rest = passing rest (λ ts. Passes (done ++ ts))

behind_all : (v : Verdict (List (Typed × Span))) → v ≡ behind [] v
behind_all (Passes ts) = refl
behind_all (Stops stop) = refl

pub from_start : (at : Places) (s : Scope) (xs : List Expr) → all_typed at s (expression_list xs) ≡ behind [] (all_typed at s (expression_list (drop 0 xs)))
from_start at s xs = behind_all (all_typed at s (expression_list xs))

left_at : (xs : List Expr) (i : ℕ) (x : Expr) → i < length xs → x ≡ get_or xs i x → expression_list (drop i xs) ≡ Then (expression x) (expression_list (drop (i + 1) xs))
left_at xs i x less is = ap expression_list (drop_more xs i x less ∙ ap (λ y. y ∷ drop (i + 1) xs) (sym is))

one_behind : (done : List (Typed × Span)) (t : Typed × Span) (rest : Verdict (List (Typed × Span))) → behind done (passing rest (λ ts. Passes (t ∷ ts))) ≡ behind (done ++ t ∷ []) rest
one_behind done t (Passes ts) = ap Passes (sym (append_assoc done (t ∷ []) ts))
one_behind done t (Stops stop) = refl

-- an argument more
pub argument_more : (at : Places) (s : Scope) (xs : List Expr) (i : ℕ) (x : Expr) (done : List (Typed × Span)) (t : Typed) (span : Span) → i < length xs → x ≡ get_or xs i x → span ≡ expression_span (expression x)
    → all_typed at s (expression_list xs) ≡ behind done (all_typed at s (expression_list (drop i xs))) → typed at s (expression x) ≡ Passes t
    → all_typed at s (expression_list xs) ≡ behind (done ++ (t, span) ∷ []) (all_typed at s (expression_list (drop (i + 1) xs)))
argument_more at s xs i x done t span less is span_is so_far passes =
    so_far ∙ ap (λ es. behind done (all_typed at s es)) (left_at xs i x less is)
    ∙ rw (passes, ← span_is) (one_behind done (t, span) (all_typed at s (expression_list (drop (i + 1) xs))))

-- an argument that breaks a rule
pub argument_breaks : (at : Places) (s : Scope) (xs : List Expr) (i : ℕ) (x : Expr) (done : List (Typed × Span)) (stop : Stop) → i < length xs → x ≡ get_or xs i x
    → all_typed at s (expression_list xs) ≡ behind done (all_typed at s (expression_list (drop i xs))) → typed at s (expression x) ≡ Stops stop → all_typed at s (expression_list xs) ≡ Stops stop
argument_breaks at s xs i x done stop less is so_far breaks =
    so_far ∙ ap (λ es. behind done (all_typed at s es)) (left_at xs i x less is) ∙ rw breaks refl

-- all arguments
pub arguments_done : (at : Places) (s : Scope) (xs : List Expr) (i : ℕ) (done : List (Typed × Span)) → length xs ≤ i → all_typed at s (expression_list xs) ≡ behind done (all_typed at s (expression_list (drop i xs))) → all_typed at s (expression_list xs) ≡ Passes done
arguments_done at s xs i done end so_far =
    so_far ∙ ap (λ ys. behind done (all_typed at s (expression_list ys))) (drop_all i xs end) ∙ ap Passes (append-nil done)

-- an argument more, as it is pushed
pub argument_pushed : (at : Places) (s : Scope) (xs : List Expr) (i : ℕ) (x : Expr) (built new : List code.Argument) (a : code.Argument) → new ≡ built ++ a ∷ [] → i < length xs → x ≡ get_or xs i x → a.span ≡ expression_span (expression x)
    → all_typed at s (expression_list xs) ≡ behind (map argument built) (all_typed at s (expression_list (drop i xs))) → typed at s (expression x) ≡ Passes (typed_view a.typed)
    → all_typed at s (expression_list xs) ≡ behind (map argument new) (all_typed at s (expression_list (drop (i + 1) xs)))
argument_pushed at s xs i x built new a are less is span_is so_far passes =
    argument_more at s xs i x (map argument built) (typed_view a.typed) a.span less is span_is so_far passes
    ∙ ap (λ done. behind done (all_typed at s (expression_list (drop (i + 1) xs)))) (sym (ap (map argument) are ∙ map-append argument built (a ∷ [])))
