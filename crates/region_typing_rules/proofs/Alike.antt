-- States between which a flow can't tell.
use Rattle.std.proofs.Common.{◌≡◌, ℕ, ◌<◌, ℤ, ◌+ℤ◌, Bool, false, List, length, Option, Some, None, refl, sym, ◌∙◌, ap, subst}
use Rattle.std.specs.Prelude.{slice_get}
use Rattle.std.proofs.lemmas.Option.{slice_get_within}
use Rattle.bounds_exprs.specs.declared.term.Term.{Term}
use Rattle.bounds_exprs.specs.Values.{number as variable_number}
use Rattle.pointer_modes.specs.Types.{CType, Int, Char, Structure}
use Rattle.bounds_flow.specs.Flows.{Knowledge}
use Rattle.bounds_flow.specs.Conditions.{IsFlow}
use Rattle.bounds_flow_meaning.specs.Holding.{HaveTypes, IsInt, numbers_in, number_held, types_of}
use Rattle.bounds_flow_meaning.proofs.AllSteps.{flows_hold}
use Rattle.ckc_core.specs.States.{State, Grows, shapes}
use Rattle.region_typing_rules.specs.KnownIsSo.{IsAlike, HoldsAlike, FitsAlike, HasLocals}
use Rattle.region_typing_rules.proofs.Keeping.{IsAfter}
use Rattle.region_typing_rules.proofs.Moving.{IsMovedTo}
use Rattle.region_typing_rules.proofs.Terms.{IsFormedTerm, IsNumberOf}

pub alike_here : (n : ℕ) (s : State) → IsAlike n s s
alike_here n s = record { blocks = refl; same = refl; types = λ h. h; tracked = λ x low other. refl }

pub alike_on : (n : ℕ) (r s t : State) → IsAlike n r s → IsAlike n s t → IsAlike n r t
alike_on n r s t a b = record {
  blocks = b.blocks ∙ a.blocks;
  same = b.same ∙ a.same;
  types = λ h. b.types (a.types h);
  tracked = λ x low other. b.tracked x low (λ c. other (subst (λ ts. slice_get ts x ≡ Some Char) a.same c)) ∙ a.tracked x low other;
}

pub types_alike : (structs : List Structure) (n : ℕ) (f : Knowledge) (s : State) → HoldsAlike structs n f s → HaveTypes s.locals
types_alike structs n f s h = (h s (alike_here n s)).met.types

pub has_after : (types : List CType) (s t : State) → IsAfter s t → HasLocals types s → HasLocals types t
has_after types s t after has x c e = subst (λ ls. slice_get (types_of ls) x ≡ Some c) (sym after.1) (has x c e)

pub has_same : (types : List CType) (s t : State) → types_of t.locals ≡ types_of s.locals → HasLocals types s → HasLocals types t
has_same types s t same has x c e = subst (λ ts. slice_get ts x ≡ Some c) (sym same) (has x c e)

pub has_alike : {n : ℕ} (types : List CType) (s t : State) → IsAlike n s t → HasLocals types s → HasLocals types t
has_alike types s t alike has = has_same types s t alike.same has

-- ---- where only variables changed that a flow can't tell

-- of which a flow may speak
abbrev pub IsTracked : ℕ → State → ℕ → Type 0
IsTracked n s x = (x < n) × (slice_get (types_of s.locals) x ≡ Some Char → ⊥)

-- the state before, with the locals of one that is alike behind it
abbrev earlier : State → State → State
earlier s w = record s { locals = w.locals }

earlier_alike : (may : ℕ → Bool) (n : ℕ) (s t w : State) → IsMovedTo may s t → ((x : ℕ) → IsTracked n s x → may x ≡ false) → IsAlike n t w → IsAlike n s (earlier s w)
earlier_alike may n s t w moved spared alike = record {
  blocks = refl;
  same = alike.same ∙ moved.same;
  types = λ h. alike.types (moved.types h);
  tracked = λ x low other. alike.tracked x low (λ c. other (subst (λ ts. slice_get ts x ≡ Some Char) moved.same c)) ∙ moved.others x (spared x (low, other));
}

grown_alike : (may : ℕ → Bool) (n : ℕ) (s t w : State) → IsMovedTo may s t → IsAlike n t w → Grows (shapes s.blocks) (shapes w.blocks)
grown_alike may n s t w moved alike = subst (λ b. Grows (shapes s.blocks) (shapes b)) (sym alike.blocks) moved.grown

module _ (structs : List Structure) (n : ℕ) (f : Knowledge) (flow : IsFlow f) where
  pub holds_moved : (may : ℕ → Bool) (s t : State) → IsMovedTo may s t → ((x : ℕ) → IsTracked n s x → may x ≡ false) → HoldsAlike structs n f s → HoldsAlike structs n f t
  holds_moved may s t moved spared h w alike =
      (flows_hold structs f flow).grow (earlier s w) w (grown_alike may n s t w moved alike) refl (h (earlier s w) (earlier_alike may n s t w moved spared alike))

  pub fits_moved : (may : ℕ → Bool) (s t : State) → IsMovedTo may s t → ((x : ℕ) → IsTracked n s x → may x ≡ false) → FitsAlike structs n f s → FitsAlike structs n f t
  fits_moved may s t moved spared h w alike =
      (flows_hold structs f flow).grow_between (earlier s w) w (grown_alike may n s t w moved alike) refl (h (earlier s w) (earlier_alike may n s t w moved spared alike))

pub after_moved : (s t : State) → IsAfter s t → IsMovedTo (λ x. false) s t
after_moved s t after = record {
  grown = after.0;
  same = ap types_of after.1;
  types = λ h. subst HaveTypes (sym after.1) h;
  others = λ x e. ap (λ ls. slice_get ls x) after.1;
}

pub holds_after : (structs : List Structure) (n : ℕ) (f : Knowledge) (s t : State) → IsFlow f → IsAfter s t → HoldsAlike structs n f s → HoldsAlike structs n f t
holds_after structs n f s t flow after h = holds_moved structs n f flow (λ x. false) s t (after_moved s t after) (λ x tracked. refl) h

pub fits_after : (structs : List Structure) (n : ℕ) (f : Knowledge) (s t : State) → IsFlow f → IsAfter s t → FitsAlike structs n f s → FitsAlike structs n f t
fits_after structs n f s t flow after h = fits_moved structs n f flow (λ x. false) s t (after_moved s t after) (λ x tracked. refl) h

-- ---- terms over alike states

other_than_int : (o : Option CType) → o ≡ Some Int → o ≡ Some Char → ⊥
other_than_int o p q = cc

pub int_alike : (types : List CType) (s t : State) → HasLocals types s → IsAlike (length types) s t → (x : ℕ) → slice_get types x ≡ Some Int → slice_get t.locals x ≡ slice_get s.locals x
int_alike types s t has alike x int = alike.tracked x (slice_get_within types x Int int) (λ c. other_than_int (slice_get (types_of s.locals) x) (has x Int int) c)

variable_alike : (types : List CType) (s t : State) → HasLocals types s → IsAlike (length types) s t → (o : Option ℕ) → IsInt types o → variable_number (numbers_in t.locals) o ≡ variable_number (numbers_in s.locals) o
variable_alike types s t has alike None int = refl
variable_alike types s t has alike (Some x) int = ap number_held (int_alike types s t has alike x int)

pub number_alike : (types : List CType) (s t : State) → HasLocals types s → IsAlike (length types) s t → (o : Option Term) (z : ℤ) → ((t : Term) → o ≡ Some t → IsFormedTerm types t) → IsNumberOf s.locals o z → IsNumberOf t.locals o z
number_alike types s t has alike o z formed is a e = is a e ∙ ap (λ y. y +ℤ a.plus) (sym (variable_alike types s t has alike a.var (formed a e).int))
