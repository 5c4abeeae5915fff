-- Scopes of a walk stay such ones, and what is known at one is so at others.
use Rattle.std.proofs.Common.{◌≡◌, ℕ, zero, suc, ◌+◌, ◌-◌, ◌<◌, ◌≤◌, Bool, true, false, List, [], ◌∷◌, ◌++◌, length, Option, Some, None, refl, sym, ◌∙◌, subst, arith, ◌⊎◌, inl, inr}
use Rattle.std.specs.Prelude.{nat_lt}
use Rattle.std.proofs.lemmas.Bool.Decides.{nat_tests}
use Rattle.std.proofs.lemmas.List.{length-append}
use Rattle.ckc_tree.specs.Statements.{Assignment, Statement}
use Rattle.bounds_exprs.specs.declared.term.Bounds.{Bounds}
use Rattle.pointer_modes.specs.Types.{CType, Int, Structure}
use Rattle.bounds_flow.specs.Flows.{Knowledge, left, cut_off, met}
use Rattle.bounds_flow.specs.Conditions.{AreBoundsBelow}
use Rattle.bounds_flow_meaning.specs.Holding.{AreInts, IsInt}
use Rattle.bounds_flow_meaning.specs.Laws.{AreBeside}
use Rattle.bounds_flow_meaning.proofs.AllSteps.{flows_hold}
use Rattle.bounds_flow_meaning.proofs.Beside.{flows_stay_alike}
use Rattle.ckc_core.specs.Core as core
use Rattle.ckc_core.specs.States.{State}
use Rattle.ckc_core.specs.Steps.{Flow, Next, Broke, Continued, Returned}
use Rattle.region_typing_rules.specs.Scopes.{Scope}
use Rattle.region_typing_rules.specs.Readings.{told}
use Rattle.region_typing_rules.specs.Knowing.{without_locals, knowing, when, cut, with_way, way_out, broken, continued, with_others, at_loop, assigned_in}
use Rattle.region_typing_rules.specs.Statements.{with_local, behind_block, behind_loop, before_step, meeting, in_loop}
use Rattle.region_typing_rules.specs.KnownIsSo.{IsAlike, FitsAlike, IsKnown, IsOnWay, IsSo, declared_at, IsOutside, IsDeclared, HasLocals}
use Rattle.region_typing_rules.proofs.Verdicts.{Extends, extends_append, extends_length}
use Rattle.region_typing_rules.proofs.Between.{IsBetween, AreBetween, MayStand, between_more, ways_more, outside_beside, outside_here, beside_of, told_beside, between_told, between_cut, between_head, between_met, met_beside, between_entered, between_without, entered_below, entered_beyond, entered_outside, without_outside, between_way, between_others, between_same}

-- ---- longer lists of locals

pub has_before : (xs ys : List CType) (s : State) → Extends xs ys → HasLocals ys s → HasLocals xs s
has_before xs ys s h has x t e = has x t (h x t e)

alike_before : (n m : ℕ) (s t : State) → n ≤ m → IsAlike m s t → IsAlike n s t
alike_before n m s t le alike = record { blocks = alike.blocks; same = alike.same; types = alike.types; tracked = λ x low other. alike.tracked x (omega (arith, le, low)) other }

pub fits_further : (structs : List Structure) (n m : ℕ) (f : Knowledge) (s : State) → n ≤ m → FitsAlike structs n f s → FitsAlike structs m f s
fits_further structs n m f s le h t alike = h t (alike_before n m s t le alike)

pub way_further : (structs : List Structure) (n m : ℕ) (o : Option Knowledge) (s : State) → n ≤ m → IsOnWay structs n o s → IsOnWay structs m o s
way_further structs n m None s le h = h
way_further structs n m (Some f) s le h = fits_further structs n m f s le h

-- ---- ways that meet

module _ (structs : List Structure) (vars n : ℕ) (s : State) where
  pub fits_first : {known : List Structure} {types : List CType} (f g : Knowledge) → IsBetween known types vars f → IsBetween known types vars g → AreBeside f g → FitsAlike structs n f s → FitsAlike structs n (met f g) s
  fits_first f g a b beside h t alike = (flows_hold structs f a.flow).join_first g t b.flow beside a.settled (h t alike)

  pub fits_second : {known : List Structure} {types : List CType} (f g : Knowledge) → IsBetween known types vars f → IsBetween known types vars g → AreBeside f g → FitsAlike structs n g s → FitsAlike structs n (met f g) s
  fits_second f g a b beside h t alike = (flows_hold structs f a.flow).join_second g t b.flow beside a.settled b.settled (h t alike)

  pub fits_left : {known : List Structure} {types : List CType} (local count : ℕ) (f : Knowledge) → IsBetween known types vars f → local + count ≤ vars → FitsAlike structs n f s → FitsAlike structs n (without_locals local count f) s
  fits_left local zero f a low h = h
  fits_left local (suc count) f a low h =
      fits_left (suc local) count (left local f) (between_without vars local 1 f a) (omega (arith, low)) (λ t alike. (flows_hold structs f a.flow).leave local t (let size = a.size in omega (arith, low, size)) a.settled (h t alike))

  module _ (known : List Structure) (types : List CType) (out : ℕ) (f : Knowledge) where
    -- a way more
    pub on_way_here : (h : Knowledge) (o : Option Knowledge) → IsBetween known types vars h → IsOutside out f h → AreBetween known types vars out f o → FitsAlike structs n h s → FitsAlike structs n (with_way h o) s
    on_way_here h None a at b k = k
    on_way_here h (Some before) a at b k = fits_second before h b.0 a (beside_of vars out f before h b.0 a b.1 at) k

    pub on_way_before : (h : Knowledge) (o : Option Knowledge) → IsBetween known types vars h → IsOutside out f h → AreBetween known types vars out f o → IsOnWay structs n o s → IsOnWay structs n (Some (with_way h o)) s
    on_way_before h None a at b k = absurd k
    on_way_before h (Some before) a at b k = fits_first before h b.0 a (beside_of vars out f before h b.0 a b.1 at) k

    -- where others meet a way
    pub on_first : (h : Knowledge) (o : Option Knowledge) → IsBetween known types vars h → IsOutside out f h → AreBetween known types vars out f o → FitsAlike structs n h s → FitsAlike structs n (with_others o h) s
    on_first h None a at b k = k
    on_first h (Some others) a at b k = fits_first h others a b.0 (beside_of vars out f h others a b.0 at b.1) k

    pub on_others : (h : Knowledge) (o : Option Knowledge) → IsBetween known types vars h → IsOutside out f h → AreBetween known types vars out f o → IsOnWay structs n o s → FitsAlike structs n (with_others o h) s
    on_others h None a at b k = absurd k
    on_others h (Some others) a at b k = fits_second h others a b.0 (beside_of vars out f h others a b.0 at b.1) k

-- ---- declared bounds

pub int_extends : (ts us : List CType) → Extends ts us → (o : Option ℕ) → IsInt ts o → IsInt us o
int_extends ts us more None h = tt
int_extends ts us more (Some x) h = more x Int h

ints_extends : (ts us : List CType) (b : Bounds) → Extends ts us → AreInts ts b → AreInts us b
ints_extends ts us b more ints = record { lo = int_extends ts us more b.lo.var ints.lo; hi = int_extends ts us more b.hi.var ints.hi }

same_declared : (a b : Option Bounds) (P : Bounds → Type 0) → a ≡ b → ((d : Bounds) → b ≡ Some d → P d) → (d : Bounds) → a ≡ Some d → P d
same_declared a b P e h d q = h d (sym e ∙ q)

none_declared : (o : Option Bounds) (P : Type 0) (d : Bounds) → o ≡ None → o ≡ Some d → P
none_declared o P d none e = absurd (let q : None ≡ Some d = sym none ∙ e in cc)

pub below_or_beyond : (p n : ℕ) → (p < n) ⊎ (n ≤ p)
below_or_beyond p n = decided (nat_lt p n) refl
  where
    decided : (test : Bool) → nat_lt p n ≡ test → (p < n) ⊎ (n ≤ p)
    decided true e = inl (grind (arith, nat_tests))
    decided false e = inr (grind (arith, nat_tests))

-- ---- scopes

-- what a walk inside a function knows, whose flows have so many variables: a flow with a variable for each local, and others beside
-- it at the ways out of the innermost loop and to its next turn. The bounds of the function's result speak of `int` locals
pub record IsWalk (vars : ℕ) (g : Scope) : Type 0 where
  pub between : IsBetween g.structs g.locals vars g.flow
  pub few : length g.locals ≤ vars
  pub beyond : (p : ℕ) → length g.locals ≤ p → declared_at g.flow p ≡ None
  pub result : (b : Bounds) → g.result_bounds ≡ Some b → AreInts g.locals b
  pub outside : g.outside ≤ length g.locals
  pub breaks : AreBetween g.structs g.locals vars g.outside g.flow g.breaks
  pub continues : AreBetween g.structs g.locals vars g.outside g.flow g.continues

pub walk_declared : (vars : ℕ) (g : Scope) → IsWalk vars g → (p : ℕ) (b : Bounds) → declared_at g.flow p ≡ Some b → IsDeclared g.structs g.locals p b
walk_declared vars g w p b e = ((w.between.bounds p).declared b e).0

-- another flow in which the same bounds are declared
pub walk_knowing : (vars : ℕ) (f : Knowledge) (g : Scope) → IsBetween g.structs g.locals vars f → AreBeside g.flow f → IsWalk vars g → IsWalk vars (knowing f g)
walk_knowing vars f g a beside w = record {
  between = a;
  few = w.few;
  beyond = λ p far. beside.declared p ∙ w.beyond p far;
  result = w.result;
  outside = w.outside;
  breaks = between_same g.structs g.locals vars g.outside g.flow f g.breaks (λ p low. beside.declared p) w.breaks;
  continues = between_same g.structs g.locals vars g.outside g.flow f g.continues (λ p low. beside.declared p) w.continues;
}

-- a flow between statements speaks of each local
pub walk_tracked : (vars : ℕ) (g : Scope) → IsWalk vars g → length g.locals ≤ g.flow.vars
walk_tracked vars g w = let few = w.few in let size = w.between.size in omega (arith, few, size)

pub walk_when : (vars : ℕ) (c : core.Expression) (truth : Bool) (g : Scope) → IsWalk vars g → IsWalk vars (when c truth g)
walk_when vars c truth g w = walk_knowing vars (told g.locals c truth g.flow) g (between_told g.locals vars c truth g.flow w.few w.between) (told_beside g.locals vars c truth g.flow w.few w.between) w

pub walk_cut : (vars : ℕ) (g : Scope) → IsWalk vars g → IsWalk vars (cut g)
walk_cut vars g w = walk_knowing vars (cut_off g.flow) g (between_cut vars g.flow w.between) (flows_stay_alike.0 g.flow).cut w

-- the way out of a loop, on which the locals inside of it have left their scopes
pub way_out_between : (vars : ℕ) (g : Scope) → IsWalk vars g → IsBetween g.structs g.locals vars (way_out g)
way_out_between vars g w = between_without vars g.outside (length g.locals - g.outside) g.flow w.between

pub way_out_outside : (vars : ℕ) (g : Scope) → IsWalk vars g → IsOutside g.outside g.flow (way_out g)
way_out_outside vars g w = without_outside (length g.locals) g.outside g.flow g.flow w.outside w.beyond (λ p low. refl)

pub walk_broken : (vars : ℕ) (g : Scope) → IsWalk vars g → IsWalk vars (broken g)
walk_broken vars g w =
    let c = walk_cut vars g w in
    record {
      between = c.between;
      few = c.few;
      beyond = c.beyond;
      result = c.result;
      outside = c.outside;
      breaks = between_same g.structs g.locals vars g.outside g.flow (cut_off g.flow) (Some (with_way (way_out g) g.breaks)) (λ p low. refl)
          (between_way g.structs g.locals vars g.outside g.flow (way_out g) g.breaks (way_out_between vars g w) (way_out_outside vars g w) w.breaks);
      continues = c.continues;
    }

pub walk_continued : (vars : ℕ) (g : Scope) → IsWalk vars g → IsWalk vars (continued g)
walk_continued vars g w =
    let c = walk_cut vars g w in
    record {
      between = c.between;
      few = c.few;
      beyond = c.beyond;
      result = c.result;
      outside = c.outside;
      breaks = c.breaks;
      continues = between_same g.structs g.locals vars g.outside g.flow (cut_off g.flow) (Some (with_way (way_out g) g.continues)) (λ p low. refl)
          (between_way g.structs g.locals vars g.outside g.flow (way_out g) g.continues (way_out_between vars g w) (way_out_outside vars g w) w.continues);
    }

-- what is declared in the one scope for its locals is so in the other, which stands in the same loop
pub record Declares (g h : Scope) : Type 0 where
  pub same : (p : ℕ) → p < length g.locals → declared_at h.flow p ≡ declared_at g.flow p
  pub loop : h.outside ≡ g.outside
  pub structs : g.structs ≡ h.structs

pub declares_here : (g : Scope) → Declares g g
declares_here g = record { same = λ p low. refl; loop = refl; structs = refl }

-- another flow in which the same bounds are declared
pub declares_knowing : (f : Knowledge) (g : Scope) → AreBeside g.flow f → Declares g (knowing f g)
declares_knowing f g beside = record { same = λ p low. beside.declared p; loop = refl; structs = refl }

pub declares_on : (g h k : Scope) → length g.locals ≤ length h.locals → Declares g h → Declares h k → Declares g k
declares_on g h k le a b = record { same = λ p low. b.same p (omega (arith, low, le)) ∙ a.same p low; loop = b.loop ∙ a.loop; structs = a.structs ∙ b.structs }

-- behind a block, what is declared for the locals outside of it is as it was inside
pub block_outside : (vars : ℕ) (g inside : Scope) → length g.locals ≤ length inside.locals → IsWalk vars inside → IsOutside (length g.locals) inside.flow (behind_block g inside).flow
block_outside vars g inside le w = without_outside (length inside.locals) (length g.locals) inside.flow inside.flow le w.beyond (λ p low. refl)

pub walk_block : (vars : ℕ) (g inside : Scope) → length g.locals ≤ length inside.locals → inside.outside ≤ length g.locals → IsWalk vars inside → IsWalk vars (behind_block g inside)
walk_block vars g inside le at w =
    let out = block_outside vars g inside le w in
    record {
      between = between_without vars (length g.locals) (length inside.locals - length g.locals) inside.flow w.between;
      few = w.few;
      beyond = λ p far. out.beyond p (omega (arith, far, le));
      result = w.result;
      outside = w.outside;
      breaks = between_same inside.structs inside.locals vars inside.outside inside.flow (behind_block g inside).flow inside.breaks (λ p low. out.within p (omega (arith, low, at))) w.breaks;
      continues = between_same inside.structs inside.locals vars inside.outside inside.flow (behind_block g inside).flow inside.continues (λ p low. out.within p (omega (arith, low, at))) w.continues;
    }

-- before the step of a loop, whose body stands outside of which there are as many locals as before it
pub walk_step : (vars : ℕ) (g inside : Scope) → length g.locals ≤ length inside.locals → inside.outside ≡ length g.locals → IsWalk vars inside → IsWalk vars (before_step g inside)
walk_step vars g inside le at w =
    let block = walk_block vars g inside le (omega (arith, at)) w in
    let out = block_outside vars g inside le w in
    let here = outside_here inside.outside (behind_block g inside).flow (λ p far. out.beyond p (omega (arith, far, at))) in
    let others = between_others inside.structs inside.locals vars inside.outside (behind_block g inside).flow (behind_block g inside).flow inside.continues block.between here block.continues in
    walk_knowing vars (with_others inside.continues (behind_block g inside).flow) (behind_block g inside) others.0 (beside_of vars inside.outside (behind_block g inside).flow (behind_block g inside).flow _ block.between others.0 here others.1) block

-- behind a loop
pub walk_behind : (vars : ℕ) (g head : Scope) (c : core.Expression) (inside : Scope) → g.structs ≡ inside.structs → Extends g.locals inside.locals → inside.outside ≡ length g.locals → AreBeside g.flow head.flow
    → ((p : ℕ) → p < length g.locals → declared_at inside.flow p ≡ declared_at g.flow p) → length g.locals ≤ vars → IsWalk vars g → IsBetween g.structs g.locals vars head.flow → IsWalk vars inside → IsWalk vars (behind_loop g head c inside)
walk_behind vars g head c inside structs more at beside same few w h i =
    let le = extends_length g.locals inside.locals more in
    let no = told g.locals c false head.flow in
    let no_between = subst (λ known. IsBetween known inside.locals vars no) structs (between_more g.locals inside.locals vars no more (between_told g.locals vars c false head.flow few h)) in
    let told_same = told_beside g.locals vars c false head.flow few h in
    let g_out = outside_here (length g.locals) g.flow w.beyond in
    let no_out = outside_beside (length g.locals) g.flow head.flow no told_same (outside_beside (length g.locals) g.flow g.flow head.flow beside g_out) in
    let breaks = between_same inside.structs inside.locals vars (length g.locals) inside.flow g.flow inside.breaks (λ p low. sym (same p low)) (subst (λ n. AreBetween inside.structs inside.locals vars n inside.flow inside.breaks) at i.breaks) in
    let others = between_others inside.structs inside.locals vars (length g.locals) g.flow no inside.breaks no_between no_out breaks in
    let out_few = w.outside in
    record {
      between = others.0;
      few = i.few;
      beyond = λ p far. others.1.beyond p (omega (arith, far, le));
      result = i.result;
      outside = omega (arith, out_few, le);
      breaks = between_same inside.structs inside.locals vars g.outside g.flow (with_others inside.breaks no) g.breaks (λ p low. others.1.within p (omega (arith, low, out_few)))
          (subst (λ known. AreBetween known inside.locals vars g.outside g.flow g.breaks) structs (ways_more g.structs g.locals inside.locals vars g.outside g.flow g.breaks more w.breaks));
      continues = between_same inside.structs inside.locals vars g.outside g.flow (with_others inside.breaks no) g.continues (λ p low. others.1.within p (omega (arith, low, out_few)))
          (subst (λ known. AreBetween known inside.locals vars g.outside g.flow g.continues) structs (ways_more g.structs g.locals inside.locals vars g.outside g.flow g.continues more w.continues));
    }

pub walk_meeting : (vars : ℕ) (f : Knowledge) (g : Scope) → IsBetween g.structs g.locals vars f → AreBeside g.flow f → IsWalk vars g → IsWalk vars (meeting f g)
walk_meeting vars f g a beside w =
    let back : AreBeside f g.flow = record { vars = sym beside.vars; declared = λ p. sym (beside.declared p) } in
    let m = met_beside vars f g.flow a w.between in
    walk_knowing vars (met f g.flow) g (between_met vars f g.flow a w.between) (record { vars = m.vars ∙ beside.vars; declared = λ p. m.declared p ∙ beside.declared p }) w

pub walk_head : (vars : ℕ) (body : Statement) (step : Option Assignment) (g : Scope) → IsWalk vars g → IsWalk vars (at_loop body step g)
walk_head vars body step g w =
    let beside = (flows_stay_alike.0 g.flow).enter_loop (assigned_in g body step) in
    record { between = between_head vars (assigned_in g body step) g.flow w.between; few = w.few; beyond = λ p far. beside.declared p ∙ w.beyond p far; result = w.result; outside = omega arith; breaks = tt; continues = tt }

pub walk_in_loop : (vars : ℕ) (g : Scope) → IsWalk vars g → IsWalk vars (in_loop g)
walk_in_loop vars g w = record { between = w.between; few = w.few; beyond = w.beyond; result = w.result; outside = w.outside; breaks = w.breaks; continues = w.continues }

-- bounds that may be declared for the local that comes next
pub record MayCome (vars : ℕ) (structs : List Structure) (types : List CType) (t : CType) (declared : Option Bounds) : Type 0 where
  pub below : AreBoundsBelow vars declared
  pub formed : (b : Bounds) → declared ≡ Some b → MayStand structs (types ++ t ∷ []) (length types) b

pub none_comes : (vars : ℕ) (structs : List Structure) (types : List CType) (t : CType) → MayCome vars structs types t None
none_comes vars structs types t = record { below = tt; formed = λ b e. absurd (cc) }

pub walk_local : (vars name : ℕ) (t : CType) (declared : Option Bounds) (g : Scope) → MayCome vars g.structs g.locals t declared → IsWalk vars g → length (with_local name t declared g).locals ≤ vars → IsWalk vars (with_local name t declared g)
walk_local vars name t declared g may w few =
    let longer = length-append g.locals (t ∷ []) in
    let at = w.outside in
    record {
      between = between_entered vars (length g.locals) declared g.flow may.below may.formed (between_more g.locals (g.locals ++ t ∷ []) vars g.flow (extends_append g.locals (t ∷ [])) w.between);
      few = few;
      beyond = λ p far. entered_beyond (length g.locals) declared g.flow w.beyond p (omega (arith, far, longer));
      result = λ b e. ints_extends g.locals (g.locals ++ t ∷ []) b (extends_append g.locals (t ∷ [])) (w.result b e);
      outside = omega (arith, at, longer);
      breaks = local_ways g.breaks w.breaks;
      continues = local_ways g.continues w.continues;
    }
  where
    local_ways : (o : Option Knowledge) → AreBetween g.structs g.locals vars g.outside g.flow o → AreBetween g.structs (with_local name t declared g).locals vars g.outside (with_local name t declared g).flow o
    local_ways None b = tt
    local_ways (Some h) b = (between_more g.locals (g.locals ++ t ∷ []) vars h (extends_append g.locals (t ∷ [])) b.0, entered_outside (length g.locals) g.outside declared g.flow h w.outside b.1)

-- whichever of its locals are arrays
pub walk_arrays : (vars : ℕ) (arrays : List ℕ) (g : Scope) → IsWalk vars g → IsWalk vars (record g { arrays = arrays })
walk_arrays vars arrays g w = record { between = w.between; few = w.few; beyond = w.beyond; result = w.result; outside = w.outside; breaks = w.breaks; continues = w.continues }

pub declares_arrays : (arrays : List ℕ) (g h : Scope) → Declares g h → Declares g (record h { arrays = arrays })
declares_arrays arrays g h d = record { same = d.same; loop = d.loop; structs = d.structs }

pub declares_local : (name : ℕ) (t : CType) (declared : Option Bounds) (g : Scope) → Declares g (with_local name t declared g)
declares_local name t declared g = record { same = λ p low. entered_below (length g.locals) declared g.flow p low; loop = refl; structs = refl }

-- ---- what is declared behind them

pub beside_sym : (f g : Knowledge) → AreBeside f g → AreBeside g f
beside_sym f g b = record { vars = sym b.vars; declared = λ p. sym (b.declared p) }

-- where two ways met, the same is declared as on the second
pub met_behind : {known : List Structure} {types : List CType} (vars : ℕ) (f g : Knowledge) → IsBetween known types vars f → IsBetween known types vars g → AreBeside f g → AreBeside g (met f g)
met_behind vars f g a b beside = let m = met_beside vars f g a b in record { vars = m.vars ∙ sym beside.vars; declared = λ p. m.declared p ∙ sym (beside.declared p) }

pub block_outside_of : (vars : ℕ) (g inside : Scope) → length g.locals ≤ length inside.locals → Declares g inside → IsWalk vars inside → IsOutside (length g.locals) g.flow (behind_block g inside).flow
block_outside_of vars g inside le keeps w =
    let out = block_outside vars g inside le w in
    record { within = λ p low. out.within p low ∙ keeps.same p low; beyond = out.beyond }

pub block_declares : (vars : ℕ) (g inside : Scope) → length g.locals ≤ length inside.locals → Declares g inside → IsWalk vars inside → Declares g (behind_block g inside)
block_declares vars g inside le keeps w = record { same = (block_outside_of vars g inside le keeps w).within; loop = keeps.loop; structs = keeps.structs }

-- a turn of a loop begins
pub declares_turn : (head : Scope) (c : core.Expression) {vars : ℕ} → IsWalk vars head → Declares head (in_loop (when c true head))
declares_turn head c {vars} w = record { same = λ p low. (told_beside head.locals vars c true head.flow w.few w.between).declared p; loop = refl; structs = refl }

-- and its step, where the head of the loop has the locals before it
pub step_keeps : (vars : ℕ) (g head inside : Scope) → length g.locals ≤ length inside.locals → head.locals ≡ g.locals → inside.outside ≡ length g.locals → Declares head inside → IsWalk vars inside → Declares head (before_step g inside)
step_keeps vars g head inside le same at keeps w = record {
  same = λ p low.
      let low_g : p < length g.locals = subst (λ ls. p < length ls) same low in
      let block = walk_block vars g inside le (omega (arith, at)) w in
      let out = block_outside vars g inside le w in
      let here = outside_here inside.outside (behind_block g inside).flow (λ p far. out.beyond p (omega (arith, far, at))) in
      let others = between_others inside.structs inside.locals vars inside.outside (behind_block g inside).flow (behind_block g inside).flow inside.continues block.between here block.continues in
      others.1.within p (omega (arith, low_g, at)) ∙ (out.within p low_g ∙ keeps.same p low);
  loop = keeps.loop;
  structs = keeps.structs;
}

-- behind a loop
pub loop_same : (vars : ℕ) (g head : Scope) (c : core.Expression) (inside : Scope) → g.structs ≡ inside.structs → Extends g.locals inside.locals → inside.outside ≡ length g.locals → AreBeside g.flow head.flow
    → ((p : ℕ) → p < length g.locals → declared_at inside.flow p ≡ declared_at g.flow p) → length g.locals ≤ vars → IsWalk vars g → IsBetween g.structs g.locals vars head.flow → IsWalk vars inside → (p : ℕ) → p < length g.locals
    → declared_at (behind_loop g head c inside).flow p ≡ declared_at g.flow p
loop_same vars g head c inside structs more at beside same few w h i p low =
    let no = told g.locals c false head.flow in
    let no_between = subst (λ known. IsBetween known inside.locals vars no) structs (between_more g.locals inside.locals vars no more (between_told g.locals vars c false head.flow few h)) in
    let told_same = told_beside g.locals vars c false head.flow few h in
    let no_out = outside_beside (length g.locals) g.flow head.flow no told_same (outside_beside (length g.locals) g.flow g.flow head.flow beside (outside_here (length g.locals) g.flow w.beyond)) in
    let breaks = between_same inside.structs inside.locals vars (length g.locals) inside.flow g.flow inside.breaks (λ p low. sym (same p low)) (subst (λ n. AreBetween inside.structs inside.locals vars n inside.flow inside.breaks) at i.breaks) in
    (between_others inside.structs inside.locals vars (length g.locals) g.flow no inside.breaks no_between no_out breaks).1.within p low

-- ---- how a statement ends, behind a block

module _ (structs : List Structure) (vars : ℕ) (g inside : Scope) (w : IsWalk vars inside) (le : length g.locals ≤ length inside.locals) where
  -- the locals that leave their scopes are among the variables
  pub leaving_low : length g.locals + (length inside.locals - length g.locals) ≤ vars
  leaving_low = let few = w.few in omega (arith, le, few)

  pub known_block : (s : State) → IsKnown structs inside s → IsKnown structs (behind_block g inside) s
  known_block s h = fits_left structs vars (length inside.locals) s (length g.locals) (length inside.locals - length g.locals) inside.flow w.between leaving_low h

  pub so_block : (flow : Flow) (s : State) → IsSo structs inside flow s → IsSo structs (behind_block g inside) flow s
  so_block Next s h = known_block s h
  so_block Broke s h = h
  so_block Continued s h = h
  so_block (Returned v) s h = h

-- the way out of a loop is so of a state
pub known_out : (structs : List Structure) (vars : ℕ) (g : Scope) → IsWalk vars g → (s : State) → IsKnown structs g s → FitsAlike structs (length g.locals) (way_out g) s
known_out structs vars g w s h =
    let few = w.few in let at = w.outside in
    fits_left structs vars (length g.locals) s g.outside (length g.locals - g.outside) g.flow w.between (omega (arith, few, at)) h

-- where another way meets the one behind it
pub so_meeting : (structs : List Structure) (vars : ℕ) (f : Knowledge) (g : Scope) → IsBetween g.structs g.locals vars f → AreBeside f g.flow → IsWalk vars g → (flow : Flow) (s : State) → IsSo structs g flow s → IsSo structs (meeting f g) flow s
so_meeting structs vars f g a beside w Next s h = fits_second structs vars (length g.locals) s f g.flow a w.between beside h
so_meeting structs vars f g a beside w Broke s h = h
so_meeting structs vars f g a beside w Continued s h = h
so_meeting structs vars f g a beside w (Returned v) s h = h
