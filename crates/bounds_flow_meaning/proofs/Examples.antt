-- Worked examples.
use Rattle.std.proofs.Common.{ℕ, zero, suc, ◌+◌, ◌*◌, ◌<◌, ◌≡◌, ℤ, pos, negsuc, true, false, List, [], ◌∷◌, Option, Some, None, refl, sym, subst, arith}
use Rattle.std.proofs.lemmas.Int.{ints as int_rules}
use Rattle.std.proofs.lemmas.Option.{same_Some}
use Rattle.std.specs.Prelude.{slice_get, int_le, int_lt}
use Rattle.bounds_exprs.specs.declared.term.Bounds.{Bounds}
use Rattle.pointer_modes.specs.Types.{Int}
use Rattle.act_words.specs.World.{World}
use Rattle.bounds_flow.specs.Examples.{count_n, plus, start}
use Rattle.bounds_flow.specs.Conditions.{AreBoundsBelow, IsFlow}
use Rattle.bounds_flow.specs.Flows.{Knowledge, at_entry, entered, held_at, number_assigned, settled}
use Rattle.bounds_flow.specs.Settling.{Meets, finding}
use Rattle.bounds_flow.proofs.FlowSteps.{are_kept}
use Rattle.ckc_core.specs.declared.program.Site.{Site}
use Rattle.ckc_core.proofs.Elements.{of_element}
use Rattle.ckc_core.specs.States.{Number, At, Local, Shape, State, has_type, shapes, type_at}
use Rattle.ckc_core.specs.Bounds.{Ends, ends_at}
use Rattle.ckc_core.specs.Pointers.{lies_below}
use Rattle.bounds_flow_meaning.specs.Holding.{Fits, HaveTypes, Holds, IsValid, at_node, types_of}
use Rattle.bounds_flow_meaning.specs.Laws.{MayDeclare}
use Rattle.bounds_flow_meaning.specs.Rows.{AreElements, IsPlace, LeadsOn, Slot}
use Rattle.bounds_flow_meaning.specs.Examples.{CountsFit, RaisedCountsHold, UpToThree, three_ints, holding, ints}
use Rattle.bounds_flow_meaning.proofs.AllSteps.{flows_hold}
use Rattle.bounds_flow_meaning.proofs.Steps.{enter_fits, entries_fit}
use Rattle.bounds_flow_meaning.proofs.Sums.{less_of}
use Rattle.bounds_flow_meaning.proofs.Validity.{both_true}

pub up_to_three : UpToThree
up_to_three w site = (refl, refl, refl)

one_more : (f : Knowledge) (x : ℕ) (declared : Option Bounds) → AreBoundsBelow f.vars declared → IsFlow f → IsFlow (entered x declared f)
one_more f x declared below flow = (are_kept.steps f flow).enter x declared below

start_is : IsFlow (start count_n)
start_is =
    one_more (entered 2 (Some count_n) (entered 1 None (entered 0 None (at_entry 4)))) 3 None tt
    (one_more (entered 1 None (entered 0 None (at_entry 4))) 2 (Some count_n) (record { lo = tt; hi = omega arith })
    (one_more (entered 0 None (at_entry 4)) 1 None tt (one_more (at_entry 4) 0 None tt (are_kept.entry 4 (omega arith)))))

-- p is the one variable with declared bounds
start_fits : (s : State) → HaveTypes s.locals → MayDeclare [] (types_of s.locals) 2 (Some count_n) → ((l : Local) → slice_get s.locals 2 ≡ Some l → IsValid [] (Some count_n) l s) → Fits [] (start count_n) s
start_fits s types may valid =
    enter_fits [] (entered 2 (Some count_n) (entered 1 None (entered 0 None (at_entry 4)))) 3 None s none (λ l e. tt)
    (enter_fits [] (entered 1 None (entered 0 None (at_entry 4))) 2 (Some count_n) s may valid
    (enter_fits [] (entered 0 None (at_entry 4)) 1 None s none (λ l e. tt) (enter_fits [] (at_entry 4) 0 None s none (λ l e. tt) (entries_fit [] 4 s types))))
  where
    none : {x : ℕ} → MayDeclare [] (types_of s.locals) x None
    none = record { ints = tt; size = λ t e. tt }

may_count : (w : World) (n : ℤ) → MayDeclare [] (types_of (three_ints w n).locals) 2 (Some count_n)
may_count w n = record { ints = record { lo = tt; hi = refl }; size = λ t e q u based there. absurd (cc) }

three_types : (w : World) → HaveTypes (three_ints w (pos 3)).locals
three_types w x l h = of_element (λ (l : Local). has_type l.type l.value ≡ true) (three_ints w (pos 3)).locals x l (refl, (refl, (refl, (refl, tt)))) h

-- at each of the three ints one stands, and at no other place between the ends
abbrev shapes_of_three : World → List Shape
shapes_of_three w = shapes (three_ints w (pos 3)).blocks

int_at : (w : World) (k : ℕ) → k < 3 → IsPlace [] (shapes_of_three w) Int 0 (k * 4)
int_at w k lt = record { shape = three_shape; found = refl; row = record { stands = record { there = omega arith; each = each k lt; inside = λ n slot e. refl; unsealed = refl }; room = omega arith } }
  where
    three_shape : Shape
    three_shape = record { types = Int ∷ Int ∷ Int ∷ []; strides = 4 ∷ 4 ∷ 4 ∷ []; zero_ended = false; is_sealed = false }

    typed : (k : ℕ) → k < 3 → type_at three_shape (k * 4 + 0) ≡ Some Int
    typed zero lt = refl
    typed (suc zero) lt = refl
    typed (suc (suc zero)) lt = refl
    typed (suc (suc (suc k))) lt = absurd (omega arith)

    each : (k : ℕ) → k < 3 → (j : ℕ) (slot : Slot) → slice_get (record { type = Int; offset = 0 } ∷ []) j ≡ Some slot → type_at three_shape (k * 4 + slot.offset) ≡ Some slot.type
    each k lt zero slot h = subst (λ (x : Slot). type_at three_shape (k * 4 + x.offset) ≡ Some x.type) (same_Some (record { type = Int; offset = 0 }) slot h) (typed k lt)
    each k lt (suc j) slot h = absurd (cc)

abbrev three_ends : Ends
three_ends = record { low = pos 0; high = pos 12; size = 4 }

three_elements : (w : World) → AreElements [] (shapes_of_three w) Int 0 0 three_ends
three_elements w (pos k) place step lies =
    let is : place ≡ k * 4 = omega (arith, int_rules, step) in
    let below : place < 12 = below_end place lies in
    subst (λ place. IsPlace [] (shapes_of_three w) Int 0 place) (sym is) (int_at w k (omega (arith, is, below)))
  where
    below_end : (place : ℕ) → lies_below three_ends (pos place) ≡ true → place < 12
    below_end place h = less_of place 12 (pos 12) (both_true (int_le (pos 0) (pos place)) (int_lt (pos place) (pos 12)) h).1 (omega (arith, int_rules))
three_elements w (negsuc k) place step lies = absurd (omega (arith, int_rules, step))

three_leads : (w : World) (site : Site) (block byte : ℕ) (e : Ends) → At 0 0 ≡ At block byte → ends_at (at_node count_n 4 false site) (three_ints w (pos 3)).locals block byte ≡ Some e
    → LeadsOn [] (shapes_of_three w) ints block byte e
three_leads w site zero zero e same are = subst (λ e. LeadsOn [] (shapes_of_three w) ints 0 0 e) (same_Some three_ends e are) (three_elements w)
three_leads w site zero (suc byte) e same are = absurd (cc)
three_leads w site (suc block) byte e same are = absurd (cc)

three_fit : (w : World) → Fits [] (start count_n) (three_ints w (pos 3))
three_fit w = start_fits (three_ints w (pos 3)) (three_types w) (may_count w (pos 3)) (λ l e. subst (λ l. IsValid [] (Some count_n) l (three_ints w (pos 3))) (same_Some (holding ints (At 0 0)) l e) (record { passes = λ site. refl; leads = three_leads w }))

four_dont : (w : World) → Fits [] (start count_n) (three_ints w (pos 4)) → ⊥
four_dont w h = let valid = (h.declared refl 2 (holding ints (At 0 0)) refl).passes (record { place = record { line = 0; col = 0 } }) in cc

abbrev lowered : Knowledge
lowered = number_assigned 0 (Some (plus 0 (negsuc 0))) (start count_n)

lowered_holds : (w : World) → Holds [] lowered (three_ints w (pos 2))
lowered_holds w =
    (flows_hold [] (start count_n) start_is).assign_int 0 (Some (plus 0 (negsuc 0))) (three_ints w (pos 3)) (holding Int (Number (pos 3))) (pos 2) (omega arith) (omega arith) refl refl refl (three_fit w).holds

all_meet : (p : ℕ) → p < 4 → finding lowered.facts (held_at lowered.held p) ≡ Meets
all_meet zero lt = refl
all_meet (suc zero) lt = refl
all_meet (suc (suc zero)) lt = refl
all_meet (suc (suc (suc zero))) lt = refl
all_meet (suc (suc (suc (suc p)))) lt = absurd (omega arith)

lowered_fits : (w : World) → Fits [] (settled lowered) (three_ints w (pos 2))
lowered_fits w =
    let flow = (are_kept.steps (start count_n) start_is).assign_int 0 (Some (plus 0 (negsuc 0))) (omega arith) (omega arith) in
    (flows_hold [] lowered flow).settle (three_ints w (pos 2)) all_meet (lowered_holds w)

pub counts_fit : CountsFit
counts_fit w = (three_fit w, four_dont w, lowered_holds w, lowered_fits w)

pub raised_counts_hold : RaisedCountsHold
raised_counts_hold w =
    (flows_hold [] (start count_n) start_is).assign_int 0 (Some (plus 0 (pos 1))) (three_ints w (pos 3)) (holding Int (Number (pos 3))) (pos 4) (omega arith) (omega arith) refl refl refl (three_fit w).holds
