-- Statements in their order: the marks that they make, and where they first change a local that is kept.
use Rattle.std.proofs.Common.{◌≡◌, ℕ, ◌+◌, ◌<◌, ◌≤◌, Bool, List, ◌++◌, Option, Some, None, length, drop, get_or, refl, ap, ◌∙◌, append_assoc}
use Rattle.std.proofs.lemmas.List.{drop_all}
use Rattle.ckc_text.specs.declared.place.Span.{Span}
use Rattle.ckc_tree.specs.declared.stmt.Stmt as trees
use Rattle.ckc_tree.specs.Statements as s
use Rattle.ckc_tree.specs.Items.{statement_list}
use Rattle.region_typing_rules.specs.Scopes.{Visible}
use Rattle.region_typing_rules.specs.Knowing.{hidden_by, marked, all_marked}
use Rattle.region_typing_rules.specs.KeptParameters.{first_of, changed, all_changed}
use Rattle.region_typing_scope.specs.declared.visible.Visible as code
use Rattle.region_typing_statements.specs.Marks.{Adds}
use Rattle.region_typing_statements.proofs.Sequences.{left_at}

-- ---- names

-- more names are visible, where some were added behind those that were
pub added : (vs us ws xs : List code.Visible) → Adds vs us → ws ≡ us → Adds ws xs → Adds vs xs
added vs us ws xs first same rest = record {
  more = first.more ++ rest.more;
  is = rest.is ∙ ap (λ ys. ys ++ rest.more) (same ∙ first.is) ∙ append_assoc vs first.more rest.more;
}

-- ---- marks

-- the marks of a statement more
pub marked_more : (beyond : ℕ) (xs : List trees.Stmt) (i : ℕ) (x : trees.Stmt) (vs ws : List Visible) (all marks new : List Bool) → i < length xs → x ≡ get_or xs i x → all ≡ all_marked beyond vs (statement_list (drop i xs)) marks
    → new ≡ marked beyond vs (s.statement x) marks → ws ≡ hidden_by beyond (s.statement x) vs → all ≡ all_marked beyond ws (statement_list (drop (i + 1) xs)) new
marked_more beyond xs i x vs ws all marks new less is so_far made hidden =
    so_far ∙ ap (λ ys. all_marked beyond vs ys marks) (left_at xs i x less is) ∙ rw (made, hidden) refl

-- the marks of all
pub marks_done : (beyond : ℕ) (xs : List trees.Stmt) (i : ℕ) (vs : List Visible) (all marks : List Bool) → length xs ≤ i → all ≡ all_marked beyond vs (statement_list (drop i xs)) marks → all ≡ marks
marks_done beyond xs i vs all marks end so_far = so_far ∙ ap (λ ys. all_marked beyond vs (statement_list ys) marks) (drop_all i xs end)

-- ---- changes

one_of_three : (first second third : Option Span) → first_of first (first_of second third) ≡ first_of (first_of first second) third
one_of_three None second third = refl
one_of_three (Some span) second third = refl

no_other : (first : Option Span) → first_of first None ≡ first
no_other None = refl
no_other (Some span) = refl

-- a statement more that changes such a local, or none
pub changed_more : (kept : ℕ → Bool) (beyond : ℕ) (xs : List trees.Stmt) (i : ℕ) (x : trees.Stmt) (vs ws : List Visible) (all first later new : Option Span) → i < length xs → x ≡ get_or xs i x
    → all ≡ first_of first (all_changed kept beyond vs (statement_list (drop i xs))) → later ≡ changed kept beyond vs (s.statement x) → new ≡ first_of first later → ws ≡ hidden_by beyond (s.statement x) vs
    → all ≡ first_of new (all_changed kept beyond ws (statement_list (drop (i + 1) xs)))
changed_more kept beyond xs i x vs ws all first later new less is so_far found next hidden =
    so_far ∙ ap (λ ys. first_of first (all_changed kept beyond vs ys)) (left_at xs i x less is)
    ∙ one_of_three first (changed kept beyond vs (s.statement x)) (all_changed kept beyond (hidden_by beyond (s.statement x) vs) (statement_list (drop (i + 1) xs)))
    ∙ rw (next, found, hidden) refl

-- all of them
pub changes_done : (kept : ℕ → Bool) (beyond : ℕ) (xs : List trees.Stmt) (i : ℕ) (vs : List Visible) (all first : Option Span) → length xs ≤ i → all ≡ first_of first (all_changed kept beyond vs (statement_list (drop i xs))) → all ≡ first
changes_done kept beyond xs i vs all first end so_far = so_far ∙ ap (λ ys. first_of first (all_changed kept beyond vs (statement_list ys))) (drop_all i xs end) ∙ no_other first
