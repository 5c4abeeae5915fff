-- The bounds of parameters.
use Rattle.std.proofs.Common.{◌≡◌, ℕ, suc, ◌+◌, ◌<◌, ◌≤◌, Bool, true, false, ◌||◌, List, [], ◌∷◌, ◌++◌, length, map, drop, take, get_or, reverse, is_some, is_none, Option, Some, None, refl, ap, sym, ◌∙◌, add-one, arith, append_assoc}
use Rattle.std.proofs.lemmas.List.{reverse-append, map-append, take-append-drop}
use Rattle.std.proofs.lemmas.List.Elements.{All-push}
use Rattle.ckc_text.specs.declared.place.Span.{Span}
use Rattle.ckc_text.specs.declared.code.Code.TheVariants.{E16}
use Rattle.ckc_tree.specs.Expressions as e
use Rattle.ckc_tree.specs.Items.{Member}
use Rattle.bounds_exprs.specs.declared.term.Bounds.{Bounds}
use Rattle.bounds_flow.specs.Conditions.{AreBoundsBelow}
use Rattle.bounds_flow.specs.Flows.{Knowledge, entered}
use Rattle.subsumption.specs.Facts.{IsBelow}
use Rattle.pointer_modes.specs.Types.{CType, ctype}
use Rattle.region_typing_rules.specs.Scopes.{Scope, Visible, WrittenBounds, bounds_in}
use Rattle.region_typing_rules.specs.Knowing.{knowing}
use Rattle.region_typing_rules.specs.Verdicts.{Verdict, Passes, Stops, passing, needs}
use Rattle.region_typing_rules.specs.DeclaredBounds.{declared_bounds}
use Rattle.region_typing_rules.specs.Items.{types_ahead, seen_parameters, among_parameters, with_bounds, type_of_result, bounds_of_result}
use Rattle.pointer_modes.specs.declared.ctype.CType as code_type
use Rattle.region_typing_scope.specs.declared.visible.Visible as code_visible
use Rattle.region_typing_scope.specs.Views.{visible}
use Rattle.region_typing_scope.proofs.Steps.{parts_at, no_parts}
use Rattle.region_typing.specs.declared.prototype.TypedParameter.{TypedParameter}
use Rattle.region_typing.specs.declared.parameters.Among.{Among}
use Rattle.region_typing.specs.Items.{bounds_written, result_written}
use Rattle.region_typing.specs.Parameters.{parameter, AreOver, any_bounds, IsAmong}

-- ---- the names of parameters

pub map_reversed : {A B : Type 0} (f : A → B) (xs : List A) → map f (reverse xs) ≡ reverse (map f xs)
map_reversed f [] = refl
map_reversed f (x ∷ xs) =
    ap (map f) (reverse-append (x ∷ []) xs) ∙ map-append f (reverse xs) (x ∷ []) ∙ ap (λ ys. ys ++ f x ∷ []) (map_reversed f xs) ∙ sym (reverse-append (f x ∷ []) (map f xs))

-- a name more
pub seen_more : (ps : List Member) (p : Member) (rest : List Member) (local next : ℕ) (all seen new : List Visible) → ps ≡ p ∷ rest → next ≡ local + 1 → new ≡ seen ++ record { name = p.name.number; local = local } ∷ []
    → all ≡ seen ++ seen_parameters local ps → all ≡ new ++ seen_parameters next rest
seen_more ps p rest local next all seen new is behind more so_far =
    so_far
    ∙ ap (λ qs. seen ++ seen_parameters local qs) is
    ∙ sym (append_assoc seen (record { name = p.name.number; local = local } ∷ []) (seen_parameters (suc local) rest))
    ∙ ap (λ vs. vs ++ seen_parameters (suc local) rest) (sym more)
    ∙ ap (λ n. new ++ seen_parameters n rest) (sym (behind ∙ add-one local))

-- ---- whether bounds are written

pub or_true : (a b : Bool) → b ≡ true → (a || b) ≡ true
or_true true b h = refl
or_true false b h = h

bounds_behind : (front ps : List Member) → any_bounds ps ≡ true → any_bounds (front ++ ps) ≡ true
bounds_behind [] ps h = h
bounds_behind (p ∷ front) ps h = or_true (is_some p.bounds) _ (bounds_behind front ps h)

-- they are for one where they are for this one
pub member_bounds : {X : Type 0} (view : X → Member) (xs : List X) (k : ℕ) (x : X) → k < length xs → x ≡ get_or xs k x → is_some (view x).bounds ≡ true → any_bounds (map view xs) ≡ true
member_bounds view xs k x less is some =
    let later : any_bounds (map view (drop k xs)) ≡ true = rw (parts_at view xs k x less is, some) refl in
    let all : map view xs ≡ map view (take k xs) ++ map view (drop k xs) = ap (map view) (sym (take-append-drop k xs)) ∙ map-append view (take k xs) (drop k xs) in
    rw all (bounds_behind (map view (take k xs)) (map view (drop k xs)) later)

-- those from one on have bounds where all have
pub later_bounds : (ps : List Member) (all : Bool) (p : Member) → all ≡ any_bounds (p ∷ ps) → is_some p.bounds ≡ false → all ≡ any_bounds ps
later_bounds ps all p is none = is ∙ rw none refl

pub count_ahead : (g : Scope) (ps : List Member) → length (types_ahead g ps) ≡ length ps
count_ahead g [] = refl
count_ahead g (p ∷ ps) = ap suc (count_ahead g ps)

-- ---- what is written for bounds, in a place that is the one of all parameters where bounds are written

pub written_among : (g h : Scope) (t : CType) (local : ℕ) (o : Option e.Bounds) → (is_some o ≡ true → g ≡ h) → bounds_written g t local o ≡ bounds_written h t local o
written_among g h t local None same = refl
written_among g h t local (Some b) same = ap (λ k. bounds_written k t local (Some b)) (same refl)

-- the place of all parameters
pub place_among : (g : Scope) (all : List Member) (a : Among) (types : List code_type.CType) (names : List code_visible.Visible) → types ≡ a.types.items → names ≡ a.visible.items → IsAmong g all a
    → record g { locals = map ctype types; visible = reverse (map visible names) } ≡ among_parameters g all
place_among g all a types names same same' is =
    ap (λ ts. record g { locals = ts; visible = reverse (map visible names) }) (ap (map ctype) same ∙ is.types)
    ∙ ap (λ vs. record g { locals = types_ahead g all; visible = vs }) (ap (λ vs. reverse (map visible vs)) same' ∙ is.names)

-- ---- bounds that speak of so many parameters alone

below_more : (m n : ℕ) (o : Option ℕ) → m ≤ n → IsBelow m o → IsBelow n o
below_more m n None more h = tt
below_more m n (Some x) more h = omega (arith, h)

pub bounds_below_more : (m n : ℕ) (o : Option Bounds) → m ≤ n → AreBoundsBelow m o → AreBoundsBelow n o
bounds_below_more m n None more h = tt
bounds_below_more m n (Some b) more h = record { lo = below_more m n b.lo.var more h.lo; hi = below_more m n b.hi.var more h.hi }

pub over_more : (m n : ℕ) (ps : List TypedParameter) → m ≤ n → AreOver m ps → AreOver n ps
over_more m n ps more h = λ k d less. bounds_below_more m n (bounds_in (get_or ps k d).bounds) more (h k d less)

pub over_pushed : (n : ℕ) (ps new : List TypedParameter) (p : TypedParameter) → new ≡ ps ++ p ∷ [] → AreBoundsBelow n (bounds_in p.bounds) → AreOver n ps → AreOver n new
over_pushed n ps new p is below h = rw is (All-push (λ (q : TypedParameter). AreBoundsBelow n (bounds_in q.bounds)) ps p h below)

-- ---- bounds that are declared for the first locals

pub bounds_more : (ps : List TypedParameter) (k : ℕ) (p : TypedParameter) (f h : Knowledge) → k < length ps → p ≡ get_or ps k p → h ≡ entered k (bounds_in p.bounds) f
    → with_bounds k (map parameter (drop k ps)) f ≡ with_bounds (k + 1) (map parameter (drop (k + 1) ps)) h
bounds_more ps k p f h less is known =
    ap (λ qs. with_bounds k qs f) (parts_at parameter ps k p less is)
    ∙ ap (λ n. with_bounds n (map parameter (drop (k + 1) ps)) (entered k (bounds_in p.bounds) f)) (sym (add-one k))
    ∙ ap (λ j. with_bounds (k + 1) (map parameter (drop (k + 1) ps)) j) (sym known)

pub bounds_all : (ps : List TypedParameter) (k : ℕ) (f : Knowledge) → length ps ≤ k → with_bounds k (map parameter (drop k ps)) f ≡ f
bounds_all ps k f end = ap (λ qs. with_bounds k qs f) (no_parts parameter ps k end)

-- only what is known changes
pub known_alone : (a b g : Scope) (f : Knowledge) → b ≡ knowing f a → a ≡ knowing a.flow g → b ≡ knowing b.flow g
known_alone a b g f known same =
    let flow : b.flow ≡ f = ap (λ (h : Scope). h.flow) known in
    known ∙ ap (knowing f) same ∙ ap (λ h. knowing h g) (sym flow)

-- ---- what is written for the bounds of a result

kept_so : (c : Bool) (b : Bounds) (span : Span) → ◌≡◌ {A = Verdict WrittenBounds} (needs c E16 span (Passes (Some (Some b)))) (passing (needs c E16 span (Passes (Some b))) (λ kept. Passes (Some kept)))
kept_so true b span = refl
kept_so false b span = refl

-- in the place of all parameters it is that of the result
pub result_in_place : (g : Scope) (all : List Member) (result : Option CType) (written : Option e.Bounds) → result_written (among_parameters g all) result (length all) written ≡ bounds_of_result g all result written
result_in_place g all result None = refl
result_in_place g all result (Some text) = by (declared_bounds (among_parameters g all) (type_of_result result) (length all) (Some text)) refl
  where
    by : (v : Verdict (Option Bounds)) → declared_bounds (among_parameters g all) (type_of_result result) (length all) (Some text) ≡ v → result_written (among_parameters g all) result (length all) (Some text) ≡ bounds_of_result g all result (Some text)
    by (Stops stop) h = rw h refl
    by (Passes None) h = rw h refl
    by (Passes (Some b)) h = rw h (kept_so (is_none b.base) b (e.bounds_span text))

-- where there is one
pub result_among : (g h : Scope) (all : List Member) (result : Option CType) (number : ℕ) (written : Option e.Bounds) → (is_some written ≡ true → h ≡ among_parameters g all) → number ≡ length all → result_written h result number written ≡ bounds_of_result g all result written
result_among g h all result number None there count = refl
result_among g h all result number (Some text) there count =
    ap (λ k. result_written k result number (Some text)) (there refl) ∙ ap (λ n. result_written (among_parameters g all) result n (Some text)) count ∙ result_in_place g all result (Some text)
