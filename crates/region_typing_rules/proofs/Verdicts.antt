-- What verdicts promise of the values that they pass on.
use Rattle.std.proofs.Common.{◌≡◌, ℕ, zero, suc, ◌≤◌, Bool, true, false, List, [], ◌∷◌, ◌++◌, length, Option, Some, None, refl, subst, arith}
use Rattle.std.specs.Prelude.{slice_get, not, ◌||◌, is_some}
use Rattle.ckc_text.specs.declared.code.Code.{Code}
use Rattle.ckc_text.specs.declared.place.Span.{Span}
use Rattle.ckc_text.specs.declared.code.Code.TheVariants.{E13, E17, E18, E19}
use Rattle.bounds_exprs.specs.declared.term.Term.{Term}
use Rattle.bounds_flow.specs.Flows.{Knowledge}
use Rattle.pointer_modes.specs.Types.{CType}
use Rattle.ckc_core.specs.Core as core
use Rattle.ckc_core.specs.Meaning.{bounds_of}
use Rattle.region_typing_rules.specs.Verdicts.{Verdict, Passes, Stops, passing, needs}
use Rattle.region_typing_rules.specs.Types.{converts}
use Rattle.region_typing_rules.specs.Scopes.{WrittenBounds, bounds_in}
use Rattle.region_typing_rules.specs.Operands.{Typed, Value, AStruct, converted, with_elements, is_single_value, lacks_bounds, without_ptr, asked_of, meets, bounds_met}
use Rattle.region_typing_rules.specs.Calls.{argument_meets, arguments_met}

-- what is so of the value where no rule is broken
abbrev pub Promises : {A : Type 0} → (A → Type 0) → Verdict A → Type 0
Promises P (Passes value) = P value
Promises P (Stops stop) = Unit {0}

pub passing_promises : {A B : Type 0} (P : A → Type 0) (Q : B → Type 0) (v : Verdict A) (next : A → Verdict B) → Promises P v → ((x : A) → P x → Promises Q (next x)) → Promises Q (passing v next)
passing_promises P Q (Passes value) next h more = more value h
passing_promises P Q (Stops stop) next h more = tt

pub needs_promises : {A : Type 0} (Q : A → Type 0) (test : Bool) (code : Code) (span : Span) (next : Verdict A) → (test ≡ true → Promises Q next) → Promises Q (needs test code span next)
needs_promises Q true code span next h = h refl
needs_promises Q false code span next h = tt

-- what is converted, and only that it converts is asked
pub convertible_promises : {A : Type 0} (Q : A → Type 0) (a : Typed) (to : CType) (span : Span) (next : Verdict A) → Promises Q next → Promises Q (converted a to span (λ v. next))
convertible_promises Q (Value type null value place) to span next h = needs_promises Q (converts type null to) E13 span next (λ yes. h)
convertible_promises Q (AStruct number place) to span next h = tt

pub anything_promised : {A : Type 0} (v : Verdict A) → Promises (λ (x : A). Unit {0}) v
anything_promised (Passes value) = tt
anything_promised (Stops stop) = tt

pub always_promised : {A P : Type 0} (v : Verdict A) → P → Promises (λ (x : A). P) v
always_promised (Passes value) h = h
always_promised (Stops stop) h = tt

-- what passes is what is passed on, and what is promised of it is so
pub passed_is : {A : Type 0} (v : Verdict A) → Promises (λ (x : A). v ≡ Passes x) v
passed_is (Passes value) = refl
passed_is (Stops stop) = tt

pub promise_kept : {A : Type 0} (P : A → Type 0) (v : Verdict A) (x : A) → Promises P v → v ≡ Passes x → P x
promise_kept P v x h e = subst (Promises P) e h

-- two promises at once, and one that is kept later
pub both_promise : {A : Type 0} (P Q : A → Type 0) (v : Verdict A) → Promises P v → Promises Q v → Promises (λ (x : A). P x × Q x) v
both_promise P Q (Passes value) p q = (p, q)
both_promise P Q (Stops stop) p q = tt

pub later_promises : {A : Type 0} (K : Type 0) (P : A → Type 0) (v : Verdict A) → (K → Promises P v) → Promises (λ (x : A). K → P x) v
later_promises K P (Passes value) h = h
later_promises K P (Stops stop) h = tt

-- each element of the first list stands at its place in the second one
abbrev pub Extends : {X : Type 0} → List X → List X → Type 0
Extends {X = X} xs ys = (k : ℕ) (x : X) → slice_get xs k ≡ Some x → slice_get ys k ≡ Some x

pub extends_append : {X : Type 0} (xs ys : List X) → Extends xs (xs ++ ys)
extends_append [] ys k x h = absurd (cc)
extends_append (z ∷ xs) ys zero x h = h
extends_append (z ∷ xs) ys (suc k) x h = extends_append xs ys k x h

pub extends_length : {X : Type 0} (xs ys : List X) → Extends xs ys → length xs ≤ length ys
extends_length [] ys h = omega arith
extends_length (x ∷ xs) [] h = let q = h 0 x refl in absurd (cc)
extends_length (x ∷ xs) (y ∷ ys) h = let rest = extends_length xs ys (λ k z e. h (suc k) z e) in omega (arith, rest)

pub extends_last : {X : Type 0} (xs : List X) (x : X) → slice_get (xs ++ x ∷ []) (length xs) ≡ Some x
extends_last [] x = refl
extends_last (y ∷ xs) x = extends_last xs x

pub promised_so : {A : Type 0} (P Q : A → Type 0) (v : Verdict A) → Promises P v → ((x : A) → P x → Q x) → Promises Q v
promised_so P Q (Passes value) h more = more value h
promised_so P Q (Stops stop) h more = tt

-- a promise under each premise
pub all_promised : {A K : Type 0} (P : K → A → Type 0) (v : Verdict A) → ((k : K) → Promises (P k) v) → Promises (λ (x : A). (k : K) → P k x) v
all_promised P (Passes value) h = h
all_promised P (Stops stop) h = tt

-- ---- rules that ask for bounds, and give none

pub elements_promise : {A : Type 0} (Q : A → Type 0) (value : core.Expression) (span : Span) (next : Verdict A) → Promises Q next → Promises Q (with_elements value span next)
elements_promise Q value span next h = needs_promises Q (is_some (bounds_of value)) E18 span next (λ yes. h)

pub apart_promises : {A : Type 0} (Q : A → Type 0) (a b : Typed) (span : Span) (next : Verdict A) → Promises Q next → Promises Q (without_ptr a b span next)
apart_promises Q a b span next h =
    needs_promises Q (not (is_single_value a || is_single_value b)) E19 span _ (λ yes. needs_promises Q (not (lacks_bounds a || lacks_bounds b)) E18 span next (λ known. h))

pub met_promises : {A : Type 0} (Q : A → Type 0) (f : Knowledge) (t : Typed) (to : CType) (span : Span) (next : Verdict A) → Promises Q next → Promises Q (bounds_met f t to span next)
met_promises Q f (Value type null value place) to span next h = needs_promises Q (null || meets f value (asked_of type to)) E17 span next (λ yes. h)
met_promises Q f (AStruct number place) to span next h = h

pub all_met_promise : {A : Type 0} (Q : A → Type 0) (f : Knowledge) (terms : List (Option Term)) (pointers : List (Option ℕ)) (ts : List (Typed × Span)) (types : List CType) (bounds : List WrittenBounds) (next : Verdict A) → Promises Q next
    → Promises Q (arguments_met f terms pointers ts types bounds next)
all_met_promise Q f terms pointers [] types bounds next h = h
all_met_promise Q f terms pointers (t ∷ ts) [] bounds next h = h
all_met_promise Q f terms pointers (t ∷ ts) (type ∷ types) [] next h =
    needs_promises Q (argument_meets f terms pointers t.0 type None) E17 t.1 _ (λ yes. all_met_promise Q f terms pointers ts types [] next h)
all_met_promise Q f terms pointers (t ∷ ts) (type ∷ types) (b ∷ bounds) next h =
    needs_promises Q (argument_meets f terms pointers t.0 type (bounds_in b)) E17 t.1 _ (λ yes. all_met_promise Q f terms pointers ts types bounds next h)
