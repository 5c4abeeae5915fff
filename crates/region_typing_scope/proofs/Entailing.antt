-- What a flow entails of variables that it hasn't, and values of types that they convert to.
use Rattle.std.proofs.Common.{◌≡◌, ℕ, zero, suc, ◌+◌, ◌<◌, ◌≤◌, pos, Bool, true, false, Option, Some, None, [], get_or, ◌⊎◌, inl, inr, refl, ap, sym, ◌∙◌, arith}
use Rattle.std.specs.Prelude.{nat_lt}
use Rattle.std.proofs.lemmas.Bool.Decides.{nat_tests}
use Rattle.ckc_text.specs.declared.place.Span.{Span}
use Rattle.ckc_text.specs.declared.code.Code.{Code}
use Rattle.ckc_text.specs.declared.code.Code.TheVariants.{E13, E17}
use Rattle.bounds_exprs.specs.declared.term.Bounds.{Bounds}
use Rattle.bounds_exprs.specs.declared.term.Term.{Term}
use Rattle.subsumption.specs.ClosedTables.{Pairs, Rows, ClosedTable, Contradiction, Least, values_below, rows_of, entry, entails_terms}
use Rattle.subsumption.specs.TableLaws.{IsTable}
use Rattle.subsumption.specs.Graphs.{node_of}
use Rattle.bounds_flow.specs.Flows.{Knowledge}
use Rattle.pointer_modes.specs.Types.{CType}
use Rattle.ckc_core.specs.Core as core
use Rattle.region_typing_rules.specs.Verdicts.{Verdict, Passes, passing, needs}
use Rattle.region_typing_rules.specs.Types.{converts}
use Rattle.region_typing_rules.specs.Operands.{Typed, Value, AStruct, converted, bounds_met}
use Rattle.region_typing_rules.specs.Statements.{meets_declared}
use Rattle.region_typing_rules.specs.Knowing.{is_below}
use Rattle.region_typing_scope.specs.Entailing.{fitted}

-- ---- variables that a table hasn't

past : {A : Type 0} (n : ℕ) (f : ℕ → A) (i : ℕ) (d : A) → n ≤ i → get_or (values_below n f) i d ≡ d
past zero f i d less = refl
past (suc n) f zero d less = absurd (omega arith)
past (suc n) f (suc i) d less = past n (λ i. f (suc i)) i d (omega arith)

within : {A : Type 0} (n : ℕ) (f : ℕ → A) (i : ℕ) (d : A) → i < n → get_or (values_below n f) i d ≡ f i
within zero f i d less = absurd (omega arith)
within (suc n) f zero d less = refl
within (suc n) f (suc i) d less = within n (λ i. f (suc i)) i d (omega arith)

past_row : (n : ℕ) (t : Pairs) (i j : ℕ) → n ≤ i → entry (rows_of n t) i j ≡ None
past_row n t i j less = ap (λ r. get_or r j None) (past n (λ i. values_below n (λ j. t i j)) i [] less)

past_entry : (n : ℕ) (t : Pairs) (i j : ℕ) → n ≤ j → (i < n) ⊎ (n ≤ i) → entry (rows_of n t) i j ≡ None
past_entry n t i j less (inl inside) = ap (λ r. get_or r j None) (within n (λ i. values_below n (λ j. t i j)) i [] inside) ∙ past n (λ j. t i j) j None less
past_entry n t i j less (inr outside) = past_row n t i j outside

inside_or_not : (n i : ℕ) (b : Bool) → nat_lt i n ≡ b → (i < n) ⊎ (n ≤ i)
inside_or_not n i true is = inl (grind (arith, nat_tests, is))
inside_or_not n i false is = inr (grind (arith, nat_tests, is))

node_past : (vars : ℕ) (var : Option ℕ) → is_below vars var ≡ false → (vars + 1) ≤ node_of var
node_past vars None is = absurd (cc)
node_past vars (Some x) is = grind (arith, nat_tests, is)

-- no constant is known of such a variable
unknown : (vars : ℕ) (rows : Rows) (a b : Term) → rows_of (vars + 1) (entry rows) ≡ rows → (is_below vars a.var ≡ false) ⊎ (is_below vars b.var ≡ false)
    → entry rows (node_of a.var) (node_of b.var) ≡ None
unknown vars rows a b shape (inl left) =
    ap (λ (r : Rows). entry r (node_of a.var) (node_of b.var)) (sym shape) ∙ past_row (vars + 1) (entry rows) (node_of a.var) (node_of b.var) (node_past vars a.var left)
unknown vars rows a b shape (inr right) =
    ap (λ (r : Rows). entry r (node_of a.var) (node_of b.var)) (sym shape)
    ∙ past_entry (vars + 1) (entry rows) (node_of a.var) (node_of b.var) (node_past vars b.var right) (inside_or_not (vars + 1) (node_of a.var) _ refl)

-- what is entailed of it is entailed of all
pub outside : (vars : ℕ) (t : ClosedTable) (a b one none : Term) → IsTable vars t → one ≡ record { var = None; plus = pos 1 } → none ≡ record { var = None; plus = pos 0 }
    → (is_below vars a.var ≡ false) ⊎ (is_below vars b.var ≡ false) → entails_terms a b t ≡ entails_terms one none t
outside vars Contradiction a b one none is one_is none_is out = refl
outside vars (Least rows) a b one none is one_is none_is out =
    let diagonal : entry rows 0 0 ≡ Some (pos 0) = is.closed.diagonal 0 (omega arith) in
    rw (unknown vars rows a b is.shape out, one_is, none_is, diagonal) refl

-- ---- values of types that they convert to

pub needs_then : {A B : Type 0} (b : Bool) (code : Code) (span : Span) (v : A) (next : A → Verdict B) → needs b code span (next v) ≡ passing (needs b code span (Passes v)) next
needs_then true code span v next = refl
needs_then false code span v next = refl

pub converted_then : {A : Type 0} (t : Typed) (to : CType) (span : Span) (next : core.Expression → Verdict A) → converted t to span next ≡ passing (converted t to span Passes) next
converted_then (Value type null value place) to span next = needs_then (converts type null to) _ span _ next
converted_then (AStruct struct place) to span next = refl

fitting : {A B : Type 0} (a b : Bool) (span : Span) (v : A) (next : A → Verdict B) → needs a E13 span (needs b E17 span (next v)) ≡ passing (needs a E13 span (needs b E17 span (Passes v))) next
fitting true true span v next = refl
fitting true false span v next = refl
fitting false b span v next = refl

-- a value that fits, and what comes behind it
pub fits_then : {A : Type 0} (f : Knowledge) (b : Option Bounds) (t : Typed) (to : CType) (span : Span) (next : core.Expression → Verdict A)
    → converted t to span (λ v. needs (meets_declared f b t to) E17 span (next v)) ≡ passing (fitted f b t to span) next
fits_then f b (Value type null value place) to span next = fitting (converts type null to) (meets_declared f b (Value type null value place) to) span _ next
fits_then f b (AStruct number place) to span next = refl

-- the same where no bounds are declared
pub fitted_then : {A : Type 0} (f : Knowledge) (t : Typed) (to : CType) (span : Span) (next : core.Expression → Verdict A)
    → converted t to span (λ v. bounds_met f t to span (next v)) ≡ passing (fitted f None t to span) next
fitted_then f (Value type null value place) to span next = fits_then f None (Value type null value place) to span next
fitted_then f (AStruct number place) to span next = refl
