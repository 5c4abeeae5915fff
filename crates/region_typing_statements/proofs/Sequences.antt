-- Statements in their order, and what they leave known.
use Rattle.std.proofs.Common.{◌≡◌, ℕ, ◌+◌, ◌<◌, ◌≤◌, List, [], ◌∷◌, ◌++◌, length, drop, get_or, refl, ap, sym, ◌∙◌}
use Rattle.std.proofs.lemmas.List.{drop_more, drop_all}
use Rattle.ckc_tree.specs.declared.stmt.Stmt as trees
use Rattle.ckc_tree.specs.Statements as s
use Rattle.ckc_tree.specs.Items.{statement_list}
use Rattle.ckc_core.specs.declared.program.Stmt.{Stmt}
use Rattle.ckc_core.specs.Core as core
use Rattle.ckc_core.specs.Core.{statement, statements_of}
use Rattle.region_typing_rules.specs.Verdicts.{Stop, Verdict, Passes, Stops, passing}
use Rattle.region_typing_rules.specs.Scopes.{Scope}
use Rattle.region_typing_rules.specs.Operands.{Places}
use Rattle.region_typing_rules.specs.Statements as rules
use Rattle.region_typing_statements.specs.Parts.{joined}

-- statements so far before those that are left
abbrev pub behind : List Stmt → Verdict (core.Statements × Scope) → Verdict (core.Statements × Scope)
behind built rest = passing rest (λ w. Passes (joined built w.0, w.1))

behind_none : (v : Verdict (core.Statements × Scope)) → v ≡ behind [] v
behind_none (Passes w) = refl
behind_none (Stops stop) = refl

pub behind_empty : (built : List Stmt) (v : Verdict (core.Statements × Scope)) → built ≡ [] → v ≡ behind built v
behind_empty built v is = rw is (behind_none v)

pub joined_none : (xs : List Stmt) → joined xs core.NoMore ≡ statements_of xs
joined_none [] = refl
joined_none (x ∷ xs) = ap (core.Then (statement x)) (joined_none xs)

pub joined_one : (xs : List Stmt) (x : Stmt) (others : core.Statements) → joined (xs ++ x ∷ []) others ≡ joined xs (core.Then (statement x) others)
joined_one [] x others = refl
joined_one (y ∷ xs) x others = ap (core.Then (statement y)) (joined_one xs x others)

behind_one : (built : List Stmt) (x : Stmt) (rest : Verdict (core.Statements × Scope)) → behind built (passing rest (λ y. Passes (core.Then (statement x) y.0, y.1))) ≡ behind (built ++ x ∷ []) rest
behind_one built x (Passes w) = ap (λ xs. Passes (xs, w.1)) (sym (joined_one built x w.0))
behind_one built x (Stops stop) = refl

-- those that are left are the next one before the others
pub left_at : (xs : List trees.Stmt) (i : ℕ) (x : trees.Stmt) → i < length xs → x ≡ get_or xs i x → statement_list (drop i xs) ≡ s.Then (s.statement x) (statement_list (drop (i + 1) xs))
left_at xs i x less is = ap statement_list (drop_more xs i x less ∙ ap (λ y. y ∷ drop (i + 1) xs) (sym is))

-- a statement more
pub statement_more : (at : Places) (all : Verdict (core.Statements × Scope)) (xs : List trees.Stmt) (i : ℕ) (x : trees.Stmt) (g h : Scope) (built new : List Stmt) (y : Stmt) → new ≡ built ++ y ∷ [] → i < length xs → x ≡ get_or xs i x
    → all ≡ behind built (rules.statements at g (statement_list (drop i xs))) → rules.statement at g (s.statement x) ≡ Passes (statement y, h)
    → all ≡ behind new (rules.statements at h (statement_list (drop (i + 1) xs)))
statement_more at all xs i x g h built new y are less is so_far passes =
    so_far ∙ ap (λ ys. behind built (rules.statements at g ys)) (left_at xs i x less is)
    ∙ rw passes (behind_one built y (rules.statements at h (statement_list (drop (i + 1) xs))))
    ∙ ap (λ b. behind b (rules.statements at h (statement_list (drop (i + 1) xs)))) (sym are)

-- a statement in which a rule is broken
pub statement_breaks : (at : Places) (all : Verdict (core.Statements × Scope)) (xs : List trees.Stmt) (i : ℕ) (x : trees.Stmt) (g : Scope) (built : List Stmt) (stop : Stop) → i < length xs → x ≡ get_or xs i x
    → all ≡ behind built (rules.statements at g (statement_list (drop i xs))) → rules.statement at g (s.statement x) ≡ Stops stop → all ≡ Stops stop
statement_breaks at all xs i x g built stop less is so_far breaks =
    so_far ∙ ap (λ ys. behind built (rules.statements at g ys)) (left_at xs i x less is) ∙ rw breaks refl

-- all statements
pub statements_done : (at : Places) (all : Verdict (core.Statements × Scope)) (xs : List trees.Stmt) (i : ℕ) (g : Scope) (built : List Stmt) → length xs ≤ i → all ≡ behind built (rules.statements at g (statement_list (drop i xs))) → all ≡ Passes (statements_of built, g)
statements_done at all xs i g built end so_far =
    so_far ∙ ap (λ ys. behind built (rules.statements at g (statement_list ys))) (drop_all i xs end) ∙ ap (λ ys. Passes (ys, g)) (joined_none built)
