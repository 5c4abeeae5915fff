-- Changes of all pointers leave one for each variable, whose bounds speak of these variables.
use Rattle.std.proofs.Common.{ℕ, zero, suc, ◌<◌, ◌≡◌, ◌++◌, take, drop, arith, Bool, List, [], ◌∷◌, length, map, fold, get_or, set, inl, inr, refl, ap, sym, subst, ◌∙◌}
use Rattle.std.specs.List.{All}
use Rattle.std.proofs.lemmas.Bool.{cases_lt}
use Rattle.std.proofs.lemmas.List.{get_or_past, length-map, length-set, with_items_is}
use Rattle.std.specs.Vec.{with_items}
use Rattle.std.specs.declared.vec.Vec.{Vec}
use Rattle.std.proofs.lemmas.List.Elements.{All-cons, All-head, All-tail, All-get_or, All-map, All-set, All-weaker}
use Rattle.bounds_flow.specs.declared.held.Held.{Held}
use Rattle.bounds_flow.specs.declared.changes.Change.{Change}
use Rattle.bounds_flow.specs.Pointers.{joined_over, joined_with, known_not_null, maybe_null, no_pointer}
use Rattle.bounds_flow.specs.Flows.{change_at, held_at, joined_held, rejoined_held}
use Rattle.bounds_flow.specs.Conditions.{AreOfVariables, IsHeldBelow}
use Rattle.bounds_flow.specs.Changes.{changed}
use Rattle.bounds_flow.proofs.Pointers.{changed_below, joined_below}

-- a pointer of a list, or none past its end
pub held_below : (vars : ℕ) (held : List Held) (p : ℕ) → All (IsHeldBelow vars) held → IsHeldBelow vars (held_at held p)
held_below vars held p all =
    elim (cases_lt p (length held)) [
      | inl lt ↦ All-get_or (IsHeldBelow vars) held p no_pointer lt all
      | inr ge ↦ subst (IsHeldBelow vars) (sym (get_or_past held p no_pointer ge)) (record { declared = tt; bounds = tt })
    ]

pub mapped : (vars : ℕ) (held : List Held) (assigned since : List Bool) (change : Change) → AreOfVariables vars held assigned → AreOfVariables vars (map (changed since change) held) assigned
mapped vars held assigned since change is = record {
  pointers = length-map held (changed since change) ∙ is.pointers;
  numbers = is.numbers;
  below = All-map (IsHeldBelow vars) (changed since change) held
      (All-weaker (IsHeldBelow vars) (λ h. IsHeldBelow vars (changed since change h)) (changed_below vars since change) held is.below);
}

pub placed : (vars : ℕ) (held : List Held) (assigned : List Bool) (p : ℕ) (h : Held) → AreOfVariables vars held assigned → IsHeldBelow vars h → AreOfVariables vars (set held p h) assigned
placed vars held assigned p h is below = record {
  pointers = length-set held p h ∙ is.pointers;
  numbers = is.numbers;
  below = All-set (IsHeldBelow vars) held p h below is.below;
}

pub renumbered : (vars : ℕ) (held : List Held) (assigned after : List Bool) → AreOfVariables vars held assigned → length after ≡ length assigned → AreOfVariables vars held after
renumbered vars held assigned after is e = record { pointers = is.pointers; numbers = e ∙ is.numbers; below = is.below }

pub none_below : (vars : ℕ) → IsHeldBelow vars no_pointer
none_below vars = record { declared = tt; bounds = tt }

pub forgotten : (vars : ℕ) (held : List Held) (assigned : List Bool) (ps : List ℕ) → AreOfVariables vars held assigned
    → AreOfVariables vars (fold (λ held p. change_at p maybe_null held) held ps) assigned
forgotten vars held assigned [] is = is
forgotten vars held assigned (p ∷ ps) is =
    let h = held_below vars held p is.below in
    forgotten vars _ assigned ps (placed vars held assigned p _ is (record { declared = h.declared; bounds = h.bounds }))

pub known : (vars : ℕ) (held : List Held) (assigned : List Bool) (p : ℕ) → AreOfVariables vars held assigned → AreOfVariables vars (change_at p known_not_null held) assigned
known vars held assigned p is =
    let h = held_below vars held p is.below in
    placed vars held assigned p _ is (record { declared = h.declared; bounds = h.bounds })

joined_all : (vars : ℕ) (held others : List Held) → All (IsHeldBelow vars) held → All (IsHeldBelow vars) (joined_held held others)
joined_all vars [] others all = all
joined_all vars (h ∷ held) [] all = all
joined_all vars (h ∷ held) (k ∷ others) all =
    let first = All-head (IsHeldBelow vars) h held all in
    All-cons (IsHeldBelow vars) _ _ (joined_below vars h.declared h k first.declared first) (joined_all vars held others (All-tail (IsHeldBelow vars) h held all))

length-joined : (held others : List Held) → length (joined_held held others) ≡ length held
length-joined [] others = refl
length-joined (h ∷ held) [] = refl
length-joined (h ∷ held) (k ∷ others) = ap suc (length-joined held others)

pub met_of : (vars : ℕ) (held others : List Held) (assigned : List Bool) → AreOfVariables vars held assigned → AreOfVariables vars (joined_held held others) assigned
met_of vars held others assigned is = record { pointers = length-joined held others ∙ is.pointers; numbers = is.numbers; below = joined_all vars held others is.below }

rejoined_all : (vars : ℕ) (before held others : List Held) → All (IsHeldBelow vars) before → All (IsHeldBelow vars) held → All (IsHeldBelow vars) (rejoined_held before held others)
rejoined_all vars [] held others was all = was
rejoined_all vars (b ∷ before) [] others was all = all
rejoined_all vars (b ∷ before) (h ∷ held) [] was all = all
rejoined_all vars (b ∷ before) (h ∷ held) (k ∷ others) was all =
    let P = IsHeldBelow vars in
    let first = joined_below vars b.bounds h k (All-head P b before was).bounds (All-head P h held all) in
    All-cons P _ _ first (rejoined_all vars before held others (All-tail P b before was) (All-tail P h held all))

length-rejoined : (before held others : List Held) → length before ≡ length held → length (rejoined_held before held others) ≡ length held
length-rejoined [] held others e = e
length-rejoined (b ∷ before) [] others e = refl
length-rejoined (b ∷ before) (h ∷ held) [] e = refl
length-rejoined (b ∷ before) (h ∷ held) (k ∷ others) e = ap suc (length-rejoined before held others (omega (arith, e)))

pub rejoined_of : (vars : ℕ) (before held others : List Held) (since assigned : List Bool) → AreOfVariables vars before since → AreOfVariables vars held assigned
    → AreOfVariables vars (rejoined_held before held others) assigned
rejoined_of vars before held others since assigned was is = record {
  pointers = length-rejoined before held others (was.pointers ∙ sym is.pointers) ∙ is.pointers;
  numbers = is.numbers;
  below = rejoined_all vars before held others was.below is.below;
}

-- ---- loops

pub join_more : (i : ℕ) (held others : List Held) → i < length held → i < length others
    → set (joined_held (take i held) (take i others) ++ drop i held) i (joined_with (get_or (joined_held (take i held) (take i others) ++ drop i held) i no_pointer) (get_or others i no_pointer))
    ≡ joined_held (take (suc i) held) (take (suc i) others) ++ drop (suc i) held
join_more i [] others lt lu = absurd (omega arith)
join_more i (h ∷ held) [] lt lu = absurd (omega arith)
join_more zero (h ∷ held) (k ∷ others) lt lu = refl
join_more (suc i) (h ∷ held) (k ∷ others) lt lu = ap (λ l. joined_with h k ∷ l) (join_more i held others (omega arith) (omega arith))

pub rejoin_more : (i : ℕ) (before held others : List Held) → i < length before → i < length held → i < length others
    → set (rejoined_held (take i before) (take i held) (take i others) ++ drop i held) i
    (joined_over (get_or before i no_pointer).bounds (get_or (rejoined_held (take i before) (take i held) (take i others) ++ drop i held) i no_pointer) (get_or others i no_pointer))
    ≡ rejoined_held (take (suc i) before) (take (suc i) held) (take (suc i) others) ++ drop (suc i) held
rejoin_more i [] held others lb lt lu = absurd (omega arith)
rejoin_more i (b ∷ before) [] others lb lt lu = absurd (omega arith)
rejoin_more i (b ∷ before) (h ∷ held) [] lb lt lu = absurd (omega arith)
rejoin_more zero (b ∷ before) (h ∷ held) (k ∷ others) lb lt lu = refl
rejoin_more (suc i) (b ∷ before) (h ∷ held) (k ∷ others) lb lt lu =
    ap (λ l. joined_over b.bounds h k ∷ l) (rejoin_more i before held others (omega arith) (omega arith) (omega arith))

-- an item is the same wherever the list doesn't end before it
pub read_again : {X : Type 0} (xs : List X) (i : ℕ) (d : X) → get_or xs i d ≡ get_or xs i (get_or xs i d)
read_again [] i d = refl
read_again (x ∷ xs) zero d = refl
read_again (x ∷ xs) (suc i) d = read_again xs i d

-- ---- after a pass over a `Vec`

pub passed : (vars : ℕ) (held before after : List Held) (assigned since : List Bool) (change : Change) → AreOfVariables vars held assigned → before ≡ held
    → after ≡ map (changed since change) before → AreOfVariables vars after assigned
passed vars held before after assigned since change is e made =
    let P : List Held → Type 0 = λ l. AreOfVariables vars l assigned in
    subst P (sym (made ∙ ap (λ l. map (changed since change) l) e)) (mapped vars held assigned since change is)

pub refilled_is : {Z : Type 0} (vars : ℕ) (v : Vec Held Z) (after : List Held) (assigned : List Bool) → AreOfVariables vars v.items assigned → AreOfVariables vars after assigned
    → (with_items v after).items ≡ after
refilled_is vars v after assigned is now = with_items_is v after (now.pointers ∙ (sym is.pointers ∙ sym v.ok.0))

pub refilled : {Z : Type 0} (vars : ℕ) (v : Vec Held Z) (after : List Held) (assigned : List Bool) → AreOfVariables vars v.items assigned → AreOfVariables vars after assigned
    → AreOfVariables vars (with_items v after).items assigned
refilled vars v after assigned is now =
    let P : List Held → Type 0 = λ l. AreOfVariables vars l assigned in
    subst P (sym (refilled_is vars v after assigned is now)) now

pub recounted : (vars after : ℕ) (held : List Held) (assigned : List Bool) → after ≡ vars → AreOfVariables vars held assigned → AreOfVariables after held assigned
recounted vars after held assigned e is = subst (λ n. AreOfVariables n held assigned) (sym e) is

-- the same items of a `Vec` of which each has changed to one of as many
pub filled_length : {Z : Type 0} (vars : ℕ) (v : Vec Bool Z) (after : List Bool) → length v.items ≡ vars → length after ≡ vars → length (with_items v after).items ≡ vars
filled_length vars v after e f = ap length (with_items_is v after (f ∙ (sym e ∙ sym v.ok.0))) ∙ f
