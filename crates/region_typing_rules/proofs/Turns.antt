-- What is known behind a loop is so: its head fits each turn, which agrees with the state before the loop on what the loop
-- doesn't assign.
use Rattle.std.proofs.Common.{◌≡◌, ℕ, zero, suc, ◌+◌, ◌<◌, ◌≤◌, Bool, true, false, cond, List, [], ◌∷◌, length, replicate, Option, Some, refl, sym, ◌∙◌, ap, subst, arith, ◌⊎◌, inl, inr}
use Rattle.std.specs.Prelude.{slice_get, slice_index_or}
use Rattle.std.specs.List.{AllByRecursion}
use Rattle.std.proofs.lemmas.List.Elements.{All-from_recursion}
use Rattle.ckc_tree.specs.Statements.{Assignment, Statement}
use Rattle.pointer_modes.specs.Types.{CType, Int, Char, Struct, Pointer, Structure}
use Rattle.act_words.specs.Touches.{spend_tick}
use Rattle.bounds_flow.specs.Flows.{Knowledge, at_head}
use Rattle.bounds_flow_meaning.specs.Holding.{AreDeclared, Fits, HaveTypes, IsValid, types_of}
use Rattle.bounds_flow_meaning.specs.Laws.{ChangesOnly, IsAmong}
use Rattle.bounds_flow_meaning.proofs.AllSteps.{flows_hold}
use Rattle.bounds_flow_meaning.proofs.Beside.{flows_stay_alike}
use Rattle.ckc_core.specs.Outcome.{Gives, and_then}
use Rattle.ckc_core.specs.Core as core
use Rattle.ckc_core.specs.States.{Value, Local, State}
use Rattle.ckc_core.specs.Steps.{Result, Flow, Next, Broke, Continued, Returned, truth, asked, behind_turn, choose, is_char, on_next}
use Rattle.ckc_core.specs.Meaning.{Knot, Setting, effect, value}
use Rattle.region_typing_rules.specs.Scopes.{Scope}
use Rattle.region_typing_rules.specs.Readings.{told}
use Rattle.region_typing_rules.specs.Knowing.{assigned_in, numbers_marked, step_marked, marked, at_loop, when}
use Rattle.region_typing_rules.specs.Statements.{behind_block, behind_loop, before_step, in_loop}
use Rattle.region_typing_rules.specs.KnownIsSo.{WhereGiven, IsAlike, FitsAlike, IsKnown, IsOnWay, IsSo, HasLocals, declared_at, IsOutside}
use Rattle.region_typing_rules.proofs.Verdicts.{Extends, extends_length}
use Rattle.region_typing_rules.proofs.Keeping.{IsAfter}
use Rattle.region_typing_rules.proofs.Moving.{AssignsOnly, IsMovedTo, moved_on, moved_after, effect_moves, knots_move}
use Rattle.region_typing_rules.proofs.Alike.{alike_here, fits_after}
use Rattle.region_typing_rules.proofs.RightNodes.{right_typed}
use Rattle.region_typing_rules.proofs.Told.{told_fits}
use Rattle.region_typing_rules.proofs.Given.{declared_alike}
use Rattle.region_typing_rules.proofs.Between.{IsBetween, AreBetween, between_more, outside_beside, outside_here, told_beside, between_told, between_same}
use Rattle.region_typing_rules.specs.Typed.{Frame, HasType, IsScalar}
use Rattle.region_typing_rules.proofs.Worlds.{Anything, tick_answers}
use Rattle.region_typing_rules.proofs.Sure.{sure_both, sure_further}
use Rattle.region_typing_rules.proofs.Goes.{EndsAs, Goes, IsKept, IsNext, OfType, Runs, asked_runs, lowered_runs, raised_runs, runs_both, runs_on, runs_then}
use Rattle.region_typing_rules.proofs.Soundness.{typed_goes}
use Rattle.region_typing_rules.proofs.Declaring.{IsAt, Knots, few_vars, has_of, running, ticking}
use Rattle.region_typing_rules.proofs.Ways.{IsWalk, walk_declared, below_or_beyond, fits_further, way_further, on_first, on_others, walk_block, walk_head, walk_tracked, block_outside, known_block}

-- ---- the locals before a loop, with those of a later state that a flow can't tell

char_is : (t : CType) → is_char t ≡ false → t ≡ Char → ⊥
char_is Int e q = absurd (cc)
char_is Char e q = absurd (cc)
char_is (Struct n) e q = absurd (cc)
char_is (Pointer m k t) e q = absurd (cc)

abbrev mixed : ℕ → List Local → List Local → List Local
mixed zero ls ms = ms
mixed (suc n) [] ms = ms
mixed (suc n) (a ∷ ls) [] = []
mixed (suc n) (a ∷ ls) (b ∷ ms) = cond (is_char a.type) b a ∷ mixed n ls ms

same_head : {X : Type 0} (x y : X) (xs ys : List X) → x ∷ xs ≡ y ∷ ys → x ≡ y
same_head x y xs ys e = cc

same_tail : {X : Type 0} (x y : X) (xs ys : List X) → x ∷ xs ≡ y ∷ ys → xs ≡ ys
same_tail x y xs ys e = cc

same_Some : {X : Type 0} (x y : X) → Some x ≡ Some y → x ≡ y
same_Some x y e = cc

chosen_type : (test : Bool) (a b : Local) → b.type ≡ a.type → (cond test b a).type ≡ b.type
chosen_type true a b e = refl
chosen_type false a b e = sym e

mixed_types : (n : ℕ) (ls ms : List Local) → types_of ms ≡ types_of ls → types_of (mixed n ls ms) ≡ types_of ms
mixed_types zero ls ms e = refl
mixed_types (suc n) [] ms e = refl
mixed_types (suc n) (a ∷ ls) [] e = refl
mixed_types (suc n) (a ∷ ls) (b ∷ ms) e =
    ap (λ t. t ∷ types_of (mixed n ls ms)) (chosen_type (is_char a.type) a b (same_head b.type a.type (types_of ms) (types_of ls) e)) ∙ ap (λ ts. b.type ∷ ts) (mixed_types n ls ms (same_tail b.type a.type (types_of ms) (types_of ls) e))

-- each is that of the one list, or of the other where it is tracked
abbrev IsMixed : ℕ → List Local → List Local → ℕ → Type 0
IsMixed n ls ms y = (slice_get (mixed n ls ms) y ≡ slice_get ms y) ⊎ ((y < n) × ((slice_get (types_of ls) y ≡ Some Char → ⊥) × (slice_get (mixed n ls ms) y ≡ slice_get ls y)))

chosen_mixed : (n : ℕ) (a b : Local) (ls ms : List Local) (test : Bool) → is_char a.type ≡ test → (slice_get (cond test b a ∷ mixed n ls ms) 0 ≡ Some b) ⊎ ((0 < suc n) × ((Some a.type ≡ Some Char → ⊥) × (slice_get (cond test b a ∷ mixed n ls ms) 0 ≡ Some a)))
chosen_mixed n a b ls ms true e = inl refl
chosen_mixed n a b ls ms false e = inr (omega arith, (λ q. char_is a.type e (same_Some a.type Char q), refl))

later_mixed : (n : ℕ) (a b : Local) (ls ms : List Local) (y : ℕ) → IsMixed n ls ms y → IsMixed (suc n) (a ∷ ls) (b ∷ ms) (suc y)
later_mixed n a b ls ms y h = elim h [ inl q ↦ inl q | inr q ↦ inr (let low = q.0 in omega (arith, low), q.1) ]

mixed_is : (n : ℕ) (ls ms : List Local) (y : ℕ) → IsMixed n ls ms y
mixed_is zero ls ms y = inl refl
mixed_is (suc n) [] ms y = inl refl
mixed_is (suc n) (a ∷ ls) [] y = inl refl
mixed_is (suc n) (a ∷ ls) (b ∷ ms) zero = chosen_mixed n a b ls ms (is_char a.type) refl
mixed_is (suc n) (a ∷ ls) (b ∷ ms) (suc y) = later_mixed n a b ls ms y (mixed_is n ls ms y)

chosen_first : (a b : Local) (test : Bool) → is_char a.type ≡ test → (Some a.type ≡ Some Char → ⊥) → Some (cond test b a) ≡ Some a
chosen_first a b true e other = absurd (other (ap Some (is_char_type a.type e)))
  where
    is_char_type : (t : CType) → is_char t ≡ true → t ≡ Char
    is_char_type Int q = absurd (cc)
    is_char_type Char q = refl
    is_char_type (Struct n) q = absurd (cc)
    is_char_type (Pointer m k t) q = absurd (cc)
chosen_first a b false e other = refl

mixed_tracked : (n : ℕ) (ls ms : List Local) (y : ℕ) → types_of ms ≡ types_of ls → y < n → (slice_get (types_of ls) y ≡ Some Char → ⊥) → slice_get (mixed n ls ms) y ≡ slice_get ls y
mixed_tracked zero ls ms y e low other = absurd (omega (arith, low))
mixed_tracked (suc n) [] [] y e low other = refl
mixed_tracked (suc n) [] (b ∷ ms) y e low other = absurd (cc)
mixed_tracked (suc n) (a ∷ ls) [] y e low other = absurd (cc)
mixed_tracked (suc n) (a ∷ ls) (b ∷ ms) zero e low other = chosen_first a b (is_char a.type) refl other
mixed_tracked (suc n) (a ∷ ls) (b ∷ ms) (suc y) e low other = mixed_tracked n ls ms y (same_tail b.type a.type (types_of ms) (types_of ls) e) (omega (arith, low)) other

-- ---- marks, and the numbers of those that have one

abbrev mark_of : List Bool → ℕ → Bool
mark_of marks y = slice_index_or marks y true

among_from : (k : ℕ) (marks : List Bool) (y : ℕ) → y < length marks → mark_of marks y ≡ true → IsAmong (numbers_marked k marks) (k + y)
among_from k [] y low e = absurd (omega (arith, low))
among_from k (true ∷ marks) zero low e = inl (omega arith)
among_from k (false ∷ marks) zero low e = absurd (cc)
among_from k (true ∷ marks) (suc y) low e = inr (subst (IsAmong (numbers_marked (suc k) marks)) (let q : suc k + y ≡ k + suc y = omega arith in q) (among_from (suc k) marks y (omega (arith, low)) e))
among_from k (false ∷ marks) (suc y) low e = subst (IsAmong (numbers_marked (suc k) marks)) (let q : suc k + y ≡ k + suc y = omega arith in q) (among_from (suc k) marks y (omega (arith, low)) e)

numbers_low : (k vars : ℕ) (marks : List Bool) → k + length marks ≤ vars → AllByRecursion (λ x. x < vars) (numbers_marked k marks)
numbers_low k vars [] low = tt
numbers_low k vars (true ∷ marks) low = (omega (arith, low), numbers_low (suc k) vars marks (omega (arith, low)))
numbers_low k vars (false ∷ marks) low = numbers_low (suc k) vars marks (omega (arith, low))

-- ---- the head of a loop

module _ (structs : List Structure) (vars : ℕ) (g : Scope) (w : IsWalk vars g) (marks : List Bool) (many : length marks ≡ length g.locals) where
  abbrev pub may : ℕ → Bool
  may y = mark_of marks y

  abbrev changed : List ℕ
  changed = numbers_marked 0 marks

  spared : (y : ℕ) → y < length g.locals → (IsAmong changed y → ⊥) → may y ≡ false
  spared y low none = by (may y) refl
    where
      by : (test : Bool) → may y ≡ test → may y ≡ false
      by true e = absurd (none (subst (IsAmong changed) (let q : 0 + y ≡ y = omega arith in q) (among_from 0 marks y (omega (arith, low, many)) e)))
      by false e = e

  module _ (s u v : State) (h : IsKnown structs g s) (moved : IsMovedTo may s u) (alike : IsAlike (length g.locals) u v) where
    abbrev mix : State
    mix = record s { locals = mixed (length g.locals) s.locals v.locals }

    types_same : types_of v.locals ≡ types_of s.locals
    types_same = alike.same ∙ moved.same

    good : HaveTypes s.locals
    good = (h s (alike_here (length g.locals) s)).holds.met.types

    good_behind : HaveTypes v.locals
    good_behind = alike.types (moved.types good)

    mix_good : HaveTypes mix.locals
    mix_good y l e = elim (mixed_is (length g.locals) s.locals v.locals y) [
      | inl q ↦ good_behind y l (sym q ∙ e)
      | inr q ↦ good y l (sym q.1.1 ∙ e)
    ]

    mix_alike : IsAlike (length g.locals) s mix
    mix_alike = record {
      blocks = refl;
      same = mixed_types (length g.locals) s.locals v.locals types_same ∙ types_same;
      types = λ _. mix_good;
      tracked = λ y low other. mixed_tracked (length g.locals) s.locals v.locals y types_same low other;
    }

    unchanged : (y : ℕ) → (IsAmong changed y → ⊥) → slice_get v.locals y ≡ slice_get mix.locals y
    unchanged y none = elim (mixed_is (length g.locals) s.locals v.locals y) [
      | inl q ↦ sym q
      | inr q ↦ alike.tracked y q.0 (λ c. q.1.0 (subst (λ ts. slice_get ts y ≡ Some Char) moved.same c)) ∙ (moved.others y (spared y q.0 none) ∙ sym q.1.1)
    ]

    only : ChangesOnly changed mix v
    only = record { types = good_behind; same = sym (mixed_types (length g.locals) s.locals v.locals types_same); others = unchanged }

    head_at : AreDeclared structs g.flow.held v → Fits structs (at_head changed g.flow) v
    head_at declared =
        let few = w.few in let size = w.between.size in
        (flows_hold structs g.flow w.between.flow).enter_loop changed mix v (All-from_recursion (λ x. x < g.flow.vars) changed (numbers_low 0 g.flow.vars marks (omega (arith, few, size, many)))) only declared w.between.settled (h mix mix_alike)

  -- where in the state of the turn each pointer is valid with its declared bounds
  pub head_known : (s u : State) → IsKnown structs g s → IsMovedTo may s u → HasLocals g.locals u → AreDeclared structs g.flow.held u → FitsAlike structs (length g.locals) (at_head changed g.flow) u
  head_known s u h moved has declared v alike = head_at s u v h moved alike (declared_alike structs g.structs g.locals u v has alike g.flow.held (walk_declared vars g w) declared)

  -- a flow in which the same bounds are declared says so
  pub declared_so : (f : Knowledge) (u : State) → f.bundled ≡ false → ((p : ℕ) → p < length g.locals → declared_at f p ≡ declared_at g.flow p) → Fits structs f u → AreDeclared structs g.flow.held u
  declared_so f u apart same h p l e = elim (below_or_beyond p (length g.locals)) [
    | inl low ↦ subst (λ o. IsValid structs o l u) (same p low) (h.declared apart p l e)
    | inr far ↦ subst (λ o. IsValid structs o l u) (sym (w.beyond p far)) tt
  ]

-- ---- turns

-- behind the tick of a turn
module _ (frame : Frame) (types : List CType) (all_scalar : AllByRecursion IsScalar types) (vars budget sandbox trusted : ℕ) where
  abbrev structs' : List Structure
  structs' = frame.structs

  abbrev K : ℕ → Knot
  K n = ticking frame types all_scalar vars budget sandbox trusted n

  abbrev here : Setting
  here = running frame types all_scalar vars budget sandbox trusted

  abbrev AllKnots : ℕ → Type 0
  AllKnots n = Knots frame types all_scalar vars budget sandbox trusted n

  abbrev Stands : ℕ → ℕ → Scope → State → Type 0
  Stands n low g s = IsAt frame types all_scalar vars budget sandbox trusted n low g s

  abbrev Reached : Scope → Type 0
  Reached g = Extends g.locals types

  -- how a statement ends, and what is known there
  abbrev pub EndsIn : Scope → Scope → Flow → State → Type 0
  EndsIn g h flow t = EndsAs frame g.result g.result_bounds g.in_loop flow t × IsSo structs' h flow t

  pub chosen_runs : (n low : ℕ) (Q : Flow → State → Type 0) (test : Bool) (first second : Result Flow) → (test ≡ true → Runs frame budget n low types Q first) → (test ≡ false → Runs frame budget n low types Q second) → Runs frame budget n low types Q (choose test first second)
  chosen_runs n low Q true first second h k = h refl
  chosen_runs n low Q false first second h k = k refl

  -- what a condition comes to, and what it tells
  pub tested_goes : (n low : ℕ) → AllKnots n → (g : Scope) (w : IsWalk vars g) → Reached g → (c : core.Expression) (t : CType) → HasType frame types g c t → (s : State) → Stands n low g s
      → Goes frame budget n low types s (λ v u. FitsAlike structs' (length g.locals) (told g.locals c (truth v) g.flow) u) (value true here (K n) c s)
  tested_goes n low knots g w reaches c t typed s at =
      sure_further (λ v u. (OfType frame t v u × IsAfter s u × IsKept frame budget n low types u) × (IsAfter s u × FitsAlike structs' (length g.locals) (told g.locals c (truth v) g.flow) u))
      (λ v u. FitsAlike structs' (length g.locals) (told g.locals c (truth v) g.flow) u × IsAfter s u × IsKept frame budget n low types u) (value true here (K n) c s)
      (sure_both (λ v u. OfType frame t v u × IsAfter s u × IsKept frame budget n low types u) (λ v u. IsAfter s u × FitsAlike structs' (length g.locals) (told g.locals c (truth v) g.flow) u) (value true here (K n) c s)
      (typed_goes frame budget n sandbox trusted (K n) (knots n (omega arith)) low types g w.between.flow (walk_tracked vars g w) reaches typed s (at.known, at.kept))
      (told_fits true here (K n) (knots_move true here n).calls structs' g.locals c g.flow w.between.flow (few_vars frame types all_scalar vars budget sandbox trusted g w) (right_typed frame types typed) s (has_of frame types all_scalar vars budget sandbox trusted n low g s reaches at.kept) at.kept.zeros at.known))
      (λ v u x. (x.1.1, x.0.1, x.0.2))

  module _ (g : Scope) (walk : IsWalk vars g) (body : Statement) (step : Option Assignment) (many : length (step_marked g.visible step (marked (length g.locals) g.visible body (replicate (length g.locals) false))) ≡ length g.locals)
      (c : core.Expression) (ct : CType) (x y : core.Statement) (inside last : Scope) (inside_walk : IsWalk vars inside) (last_walk : IsWalk vars last)
      (inside_more : Extends g.locals inside.locals) (last_more : Extends inside.locals last.locals) (last_breaks : last.breaks ≡ inside.breaks)
      (structs_same : g.structs ≡ last.structs) (inside_at : inside.outside ≡ length g.locals) (last_at : last.outside ≡ length g.locals)
      (inside_same : (p : ℕ) → p < length g.locals → declared_at inside.flow p ≡ declared_at g.flow p) (last_same : (p : ℕ) → p < length g.locals → declared_at last.flow p ≡ declared_at g.flow p) where
    abbrev head : Scope
    head = at_loop body step g

    abbrev marks : List Bool
    marks = step_marked g.visible step (marked (length g.locals) g.visible body (replicate (length g.locals) false))

    abbrev changes : ℕ → Bool
    changes = may structs' vars g walk marks many

    module _ (x_only : AssignsOnly changes x) (y_only : AssignsOnly changes y) (reaches : Reached last) (c_typed : HasType frame types head c ct)
        (x_runs : (n : ℕ) → AllKnots n → (low : ℕ) (s : State) → Stands n low (in_loop (when c true head)) s → Runs frame budget n low types (λ flow t. EndsAs frame g.result g.result_bounds true flow t × IsSo structs' inside flow t) (effect true here (K n) x s))
        (y_runs : (n : ℕ) → AllKnots n → (low : ℕ) (s : State) → Stands n low (before_step g inside) s → Runs frame budget n low types (λ flow t. IsNext flow t × IsKnown structs' last t) (effect true here (K n) y s)) where
      abbrev Q : Flow → State → Type 0
      Q = EndsIn g (behind_loop g head c last)

      all_more : Extends g.locals last.locals
      all_more k t e = last_more k t (inside_more k t e)

      head_reaches : Extends head.locals types
      head_reaches k t e = reaches k t (all_more k t e)

      le_inside : length g.locals ≤ length inside.locals
      le_inside = extends_length g.locals inside.locals inside_more

      le_last : length inside.locals ≤ length last.locals
      le_last = extends_length inside.locals last.locals last_more

      le_all : length g.locals ≤ length last.locals
      le_all = let a = le_inside in let b = le_last in omega (arith, a, b)

      head_walk : IsWalk vars head
      head_walk = walk_head vars body step g walk

      out_between : IsBetween last.structs last.locals vars (told g.locals c false head.flow)
      out_between =
          subst (λ known. IsBetween known last.locals vars (told g.locals c false head.flow)) structs_same
          (between_more g.locals last.locals vars (told g.locals c false head.flow) all_more (between_told g.locals vars c false head.flow walk.few head_walk.between))

      -- outside of the loop the same bounds are declared on each way
      out_outside : IsOutside (length g.locals) g.flow (told g.locals c false head.flow)
      out_outside =
          outside_beside (length g.locals) g.flow head.flow (told g.locals c false head.flow) (told_beside g.locals vars c false head.flow walk.few head_walk.between)
          (outside_beside (length g.locals) g.flow g.flow head.flow ((flows_stay_alike.0 g.flow).enter_loop (assigned_in g body step)) (outside_here (length g.locals) g.flow walk.beyond))

      ways_of : (a : Scope) (o : Option Knowledge) → a.outside ≡ length g.locals → ((p : ℕ) → p < length g.locals → declared_at a.flow p ≡ declared_at g.flow p) → AreBetween a.structs a.locals vars a.outside a.flow o → AreBetween a.structs a.locals vars (length g.locals) g.flow o
      ways_of a o at same h = between_same a.structs a.locals vars (length g.locals) a.flow g.flow o (λ p low. sym (same p low)) (subst (λ n. AreBetween a.structs a.locals vars n a.flow o) at h)

      -- out of the loop, by its condition
      leaves : (t : State) → FitsAlike structs' (length g.locals) (told g.locals c false head.flow) t → Q Next t
      leaves t h = (
        tt,
        on_first structs' vars (length last.locals) t last.structs last.locals (length g.locals) g.flow (told g.locals c false head.flow) last.breaks out_between out_outside (ways_of last last.breaks last_at last_same last_walk.breaks)
            (fits_further structs' (length g.locals) (length last.locals) (told g.locals c false head.flow) t le_all h),
      )

      -- and by a `break`
      breaks_out : (t : State) → IsOnWay structs' (length inside.locals) inside.breaks t → Q Next t
      breaks_out t h = (
        tt,
        on_others structs' vars (length last.locals) t last.structs last.locals (length g.locals) g.flow (told g.locals c false head.flow) last.breaks out_between out_outside (ways_of last last.breaks last_at last_same last_walk.breaks)
            (subst (λ o. IsOnWay structs' (length last.locals) o t) (sym last_breaks) (way_further structs' (length inside.locals) (length last.locals) inside.breaks t le_last h)),
      )

      -- behind the body the locals inside of it have left their scopes
      block_between : IsBetween inside.structs inside.locals vars (behind_block g inside).flow
      block_between = (walk_block vars g inside le_inside (let at = inside_at in omega (arith, at)) inside_walk).between

      block_out : IsOutside (length g.locals) g.flow (behind_block g inside).flow
      block_out =
          let out = block_outside vars g inside le_inside inside_walk in
          record { within = λ p low. out.within p low ∙ inside_same p low; beyond = out.beyond }

      -- on to the step, behind the body or by a `continue`
      steps_on : (t : State) → IsKnown structs' inside t → IsKnown structs' (before_step g inside) t
      steps_on t h =
          on_first structs' vars (length inside.locals) t inside.structs inside.locals (length g.locals) g.flow (behind_block g inside).flow inside.continues block_between block_out (ways_of inside inside.continues inside_at inside_same inside_walk.continues)
          (known_block structs' vars g inside inside_walk le_inside t h)

      continues_on : (t : State) → IsOnWay structs' (length inside.locals) inside.continues t → IsKnown structs' (before_step g inside) t
      continues_on t h =
          on_others structs' vars (length inside.locals) t inside.structs inside.locals (length g.locals) g.flow (behind_block g inside).flow inside.continues block_between block_out (ways_of inside inside.continues inside_at inside_same inside_walk.continues) h

      -- further turns, from states that agree with this one on what the loop doesn't assign
      abbrev Turns : ℕ → State → Type 0
      Turns n s = (low : ℕ) (t : State) → suc budget ≤ low + n → IsMovedTo changes s t → AreDeclared structs' g.flow.held t → IsKept frame budget n low types t → Runs frame budget n low types Q ((K n).turn c x y t)

      moves : (n : ℕ) (z : core.Statement) (s : State) → AssignsOnly changes z → WhereGiven (λ (flow : Flow) (t : State). IsMovedTo changes s t) (effect true here (K n) z s)
      moves n z s only = effect_moves true here (K n) (knots_move true here n) changes z s only

      step_on : (n low : ℕ) (s t : State) → AllKnots n → suc budget ≤ low + n → Turns n s → IsMovedTo changes s t → Stands n low (before_step g inside) t
          → Runs frame budget n low types Q (and_then (effect true here (K n) y t) (on_next ((K n).turn c x y)))
      step_on n low s t knots enough turns moved at =
          runs_then frame budget n low types (λ flow u. (IsNext flow u × IsKnown structs' last u) × IsMovedTo changes t u) Q (effect true here (K n) y t) (on_next ((K n).turn c x y))
          (runs_both frame budget n low types (λ flow u. IsNext flow u × IsKnown structs' last u) (λ flow u. IsMovedTo changes t u) (effect true here (K n) y t) (y_runs n knots low t at) (moves n y t y_only))
          (λ flow u k kept. subst (λ flow. Runs frame budget n low types Q (on_next ((K n).turn c x y) flow u)) (sym k.0.0) (turns low u enough (moved_on changes s t u moved k.1) (declared_so structs' vars g walk marks many last.flow u last_walk.between.settled.apart last_same (k.0.1 u (alike_here (length last.locals) u))) kept))

      body_on : (n low : ℕ) (s t : State) → AllKnots n → suc budget ≤ low + n → Turns n s → IsMovedTo changes s t → Stands n low (in_loop (when c true head)) t
          → Runs frame budget n low types Q (and_then (effect true here (K n) x t) (behind_turn (λ u. and_then (effect true here (K n) y u) (on_next ((K n).turn c x y)))))
      body_on n low s t knots enough turns moved at =
          runs_then frame budget n low types (λ flow u. (EndsAs frame g.result g.result_bounds true flow u × IsSo structs' inside flow u) × IsMovedTo changes t u) Q (effect true here (K n) x t) _
          (runs_both frame budget n low types (λ flow u. EndsAs frame g.result g.result_bounds true flow u × IsSo structs' inside flow u) (λ flow u. IsMovedTo changes t u) (effect true here (K n) x t) (x_runs n knots low t at) (moves n x t x_only)) by
        where
          by : (flow : Flow) (u : State) → (EndsAs frame g.result g.result_bounds true flow u × IsSo structs' inside flow u) × IsMovedTo changes t u → IsKept frame budget n low types u
              → Runs frame budget n low types Q (behind_turn (λ u. and_then (effect true here (K n) y u) (on_next ((K n).turn c x y))) flow u)
          by Next u k kept = step_on n low s u knots enough turns (moved_on changes s t u moved k.1) (record { kept = kept; known = steps_on u k.0.1 })
          by Broke u k kept = (breaks_out u k.0.1, kept)
          by Continued u k kept = step_on n low s u knots enough turns (moved_on changes s t u moved k.1) (record { kept = kept; known = continues_on u k.0.1 })
          by (Returned v) u k kept = ((k.0.0, tt), kept)

      -- one turn, where further ones are so
      turn_on : (n low : ℕ) (s t : State) → AllKnots n → Turns n s → IsKnown structs' g s → IsMovedTo changes s t → AreDeclared structs' g.flow.held t → IsKept frame budget n low types t → Runs frame budget n low types Q (effect true here (K n) (core.Loop c x y) t)
      turn_on n low s t knots turns known moved declared kept =
          runs_on frame budget n low types t (λ v u. FitsAlike structs' (length g.locals) (told g.locals c (truth v) head.flow) u) Q (value true here (K n) c t) _
          (tested_goes n low knots head head_walk head_reaches c ct c_typed t (record { kept = kept; known = head_known structs' vars g walk marks many s t known moved (has_of frame types all_scalar vars budget sandbox trusted n low g t head_reaches kept) declared })) by
        where
          true_flow : IsBetween g.structs g.locals vars (told g.locals c true head.flow)
          true_flow = between_told g.locals vars c true head.flow walk.few head_walk.between

          by : (v : Value) (u : State) → IsAfter t u → FitsAlike structs' (length g.locals) (told g.locals c (truth v) head.flow) u → IsKept frame budget n low types u
              → Runs frame budget n low types Q (choose (truth v) (asked (spend_tick budget u.world) u (λ _ r. and_then (effect true here (K n) x r) (behind_turn (λ u. and_then (effect true here (K n) y u) (on_next ((K n).turn c x y)))))) (Gives Next u))
          by v u after k u_kept =
              chosen_runs n low Q (truth v) _ (Gives Next u)
              (λ e. lowered_runs frame budget n low types Q _ u_kept.enough
              (asked_runs frame budget n low (suc low) types Anything Q (spend_tick budget u.world) u _ (tick_answers budget low u.world u_kept.world) (let few = u_kept.enough in omega arith) u_kept
              (λ _ r later _ r_kept. body_on n (suc low) s r knots (let few = u_kept.enough in omega arith) turns
              (moved_on changes s u r (moved_on changes s t u moved (moved_after changes t u after)) (moved_after changes u r later))
              (record { kept = r_kept; known = fits_after structs' (length g.locals) (told g.locals c true head.flow) u r true_flow.flow later (subst (λ b. FitsAlike structs' (length g.locals) (told g.locals c b head.flow) u) e k) }))))
              (λ e. (leaves u (subst (λ b. FitsAlike structs' (length g.locals) (told g.locals c b head.flow) u) e k), u_kept))

      pub loop_on : (n low : ℕ) (s t : State) → AllKnots n → IsKnown structs' g s → IsMovedTo changes s t → AreDeclared structs' g.flow.held t → IsKept frame budget n low types t → Runs frame budget n low types Q (effect true here (K n) (core.Loop c x y) t)
      loop_on zero low s t knots known moved declared kept = turn_on zero low s t knots (λ low' u few moved' declared' kept'. let w = kept'.world in absurd (omega (arith, few, w.2, w.3))) known moved declared kept
      loop_on (suc n) low s t knots known moved declared kept =
          turn_on (suc n) low s t knots
          (λ low' u few moved' declared' kept'. raised_runs frame budget (suc n) n low' types Q (effect true here (K n) (core.Loop c x y) u) kept'.enough
          (loop_on n low' s u (λ m le. knots m (omega (arith, le))) known moved' declared' (record { grown = kept'.grown; cells = kept'.cells; locals = kept'.locals; world = kept'.world; enough = omega (arith, few); held = kept'.held; zeros = kept'.zeros; short = kept'.short })))
          known moved declared kept
