-- Bounds that are declared for the local that was added last.
use Rattle.std.proofs.Common.{◌≡◌, ℕ, ◌+◌, ◌-◌, Bool, List, [], ◌∷◌, ◌++◌, length, Option, Some, None, refl, ap, ◌∙◌, arith}
use Rattle.std.proofs.lemmas.List.{length-append, set-set}
use Rattle.bounds_exprs.specs.declared.term.Bounds.{Bounds}
use Rattle.bounds_flow.specs.Flows.{Knowledge, entered}
use Rattle.bounds_flow.specs.Pointers.{fresh}
use Rattle.pointer_modes.specs.Types.{CType}
use Rattle.region_typing_rules.specs.Scopes.{Scope}
use Rattle.region_typing_rules.specs.Knowing.{knowing}
use Rattle.region_typing_rules.specs.DeclaredBounds.{row_of}
use Rattle.region_typing_rules.specs.Statements.{with_local, before_end, row_type, with_array}

-- a variable that comes into scope twice, the second time with bounds
entered_again : (k : ℕ) (b : Option Bounds) (f : Knowledge) → entered k b (entered k None f) ≡ entered k b f
entered_again k b f = ap (λ held. record f { held = held }) (set-set f.held k (fresh None) (fresh b))

last_of : {A : Type 0} (xs : List A) (x : A) → length (xs ++ x ∷ []) - 1 ≡ length xs
last_of xs x = let count : length (xs ++ x ∷ []) ≡ length xs + 1 = length-append xs (x ∷ []) in omega arith

pub declared_so : (k name : ℕ) (t : CType) (b : Option Bounds) (f : Knowledge) (g old : Scope) → k ≡ length old.locals - 1 → f ≡ entered k b old.flow → old ≡ with_local name t None g → knowing f old ≡ with_local name t b g
declared_so k name t b f g old last is was =
    let here : k ≡ length g.locals = last ∙ (ap (λ (s : Scope). length s.locals - 1) was ∙ last_of g.locals t) in
    let known : f ≡ entered (length g.locals) b g.flow = is ∙ (ap (λ (s : Scope). entered k b s.flow) was ∙ (ap (λ n. entered n b (entered (length g.locals) None g.flow)) here ∙ entered_again (length g.locals) b g.flow)) in
    rw (known, was) refl

-- a local array, which is noted among the arrays once it has its bounds
pub array_so : (name : ℕ) (u t : CType) (elements local : ℕ) (ended : Bool) (b : Bounds) (arrays : List ℕ) (g mid : Scope) → mid ≡ with_local name u (Some b) g
    → b ≡ row_of (before_end ended elements) → u ≡ row_type ended t → local ≡ length g.locals → arrays ≡ local ∷ mid.arrays
    → record mid { arrays = arrays } ≡ with_array name t elements ended g
array_so name u t elements local ended b arrays g mid was bounds row here are =
    ap (λ xs. record mid { arrays = xs }) are
    ∙ ap (λ (m : Scope). record m { arrays = local ∷ m.arrays }) was
    ∙ ap (λ k. record (with_local name u (Some b) g) { arrays = k ∷ g.arrays }) here
    ∙ ap (λ d. record (with_local name u (Some d) g) { arrays = length g.locals ∷ g.arrays }) bounds
    ∙ ap (λ v. record (with_local name v (Some (row_of (before_end ended elements))) g) { arrays = length g.locals ∷ g.arrays }) row
