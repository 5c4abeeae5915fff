-- A search from the innermost local on.
use Rattle.std.proofs.Common.{◌≡◌, ℕ, ◌+◌, List, [], ◌∷◌, ◌++◌, length, map, take, get_or, reverse, ◌<◌, slice_get, cond, Some, sym, ap, ◌∙◌}
use Rattle.std.specs.Prelude.{◌==◌, true}
use Rattle.std.proofs.lemmas.List.{take_more, map-append, reverse-append}
use Rattle.pointer_modes.specs.Types.{CType}
use Rattle.region_typing_rules.specs.Scopes.{found_if, local_if, local_named}
use Rattle.region_typing_rules.specs.Verdicts.{picked}
use Rattle.region_typing_rules.specs.Operands.{is_array}
use Rattle.region_typing_rules.specs.Knowing.{local_number}
use Rattle.region_typing_scope.specs.declared.visible as code
use Rattle.region_typing_scope.specs.Visibles.{visible}

-- the innermost of the locals up to one
pub last_local : (types : List CType) (vs : List code.Visible.Visible) (n k : ℕ) (v : code.Visible.Visible) (name : ℕ) → n ≡ k + 1 → k < length vs → v ≡ get_or vs k v
    → local_named types (reverse (map visible (take n vs))) name ≡ found_if (name == v.name) (local_if (slice_get types v.local) v.local) (local_named types (reverse (map visible (take k vs))) name)
last_local types vs n k v name e less is =
    ap (λ ws. local_named types (reverse (map visible ws)) name) (ap (λ j. take j vs) e ∙ take_more vs k v less ∙ ap (λ w. take k vs ++ w ∷ []) (sym is))
    ∙ ap (λ ws. local_named types (reverse ws) name) (map-append visible (take k vs) (v ∷ []))
    ∙ ap (λ ws. local_named types ws name) (reverse-append (map visible (take k vs)) (visible v ∷ []))

-- the number of the innermost one
pub last_number : (vs : List code.Visible.Visible) (n k : ℕ) (v : code.Visible.Visible) (name : ℕ) → n ≡ k + 1 → k < length vs → v ≡ get_or vs k v
    → local_number (reverse (map visible (take n vs))) name ≡ cond (name == v.name) (Some v.local) (local_number (reverse (map visible (take k vs))) name)
last_number vs n k v name e less is =
    ap (λ ws. local_number (reverse (map visible ws)) name) (ap (λ j. take j vs) e ∙ take_more vs k v less ∙ ap (λ w. take k vs ++ w ∷ []) (sym is))
    ∙ ap (λ ws. local_number (reverse ws) name) (map-append visible (take k vs) (v ∷ []))
    ∙ ap (λ ws. local_number ws name) (reverse-append (map visible (take k vs)) (visible v ∷ []))

-- whether a local is among those up to one
pub last_array : (arrays : List ℕ) (n k array local : ℕ) → n ≡ k + 1 → k < length arrays → array ≡ get_or arrays k array
    → is_array (reverse (take n arrays)) local ≡ picked (local == array) true (is_array (reverse (take k arrays)) local)
last_array arrays n k array local e less is =
    ap (λ xs. is_array (reverse xs) local) (ap (λ j. take j arrays) e ∙ take_more arrays k array less ∙ ap (λ x. take k arrays ++ x ∷ []) (sym is))
    ∙ ap (λ xs. is_array xs local) (reverse-append (take k arrays) (array ∷ []))
