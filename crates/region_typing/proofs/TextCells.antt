-- The blocks of strings.
use Rattle.std.proofs.Common.{◌≡◌, ℕ, ◌+◌, ◌<◌, ◌≤◌, List, [], ◌∷◌, ◌++◌, length, drop, get_or, ap, sym, ◌∙◌, append_assoc}
use Rattle.std.proofs.lemmas.List.{drop_more, drop_all}
use Rattle.ckc_tree.specs.Texts.{Text}
use Rattle.ckc_core.specs.Programs.{Initial}
use Rattle.region_typing_rules.specs.Scopes.{Scope}
use Rattle.region_typing_rules.specs.Strings.{char_cell, text_cells}
use Rattle.region_typing_rules.specs.Items.{with_texts}

-- the cell of a character more
pub cells_more : (bytes : List ℕ) (k x : ℕ) (all built new : List Initial) → k < length bytes → x ≡ get_or bytes k x → new ≡ built ++ char_cell x ∷ [] → all ≡ built ++ text_cells (drop k bytes) → all ≡ new ++ text_cells (drop (k + 1) bytes)
cells_more bytes k x all built new less is are so_far =
    so_far
    ∙ ap (λ bs. built ++ text_cells bs) (drop_more bytes k x less ∙ ap (λ y. y ∷ drop (k + 1) bytes) (sym is))
    ∙ sym (append_assoc built (char_cell x ∷ []) (text_cells (drop (k + 1) bytes)))
    ∙ ap (λ cells. cells ++ text_cells (drop (k + 1) bytes)) (sym are)

-- and that of the zero behind all of them
pub cells_done : (bytes : List ℕ) (k : ℕ) (all built new : List Initial) → length bytes ≤ k → new ≡ built ++ char_cell 0 ∷ [] → all ≡ built ++ text_cells (drop k bytes) → new ≡ all
cells_done bytes k all built new end are so_far = are ∙ sym (so_far ∙ ap (λ bs. built ++ text_cells bs) (drop_all k bytes end))

-- strings that are pushed into a scope
pub texts_known : (g : Scope) (taken : ℕ) (all texts : List Text) → all ≡ g.strings.texts ++ texts → record g { strings = record g.strings { texts = all; taken = taken } } ≡ with_texts taken texts g
texts_known g taken all texts pushed = ap (λ ts. record g { strings = record g.strings { texts = ts; taken = taken } }) pushed
