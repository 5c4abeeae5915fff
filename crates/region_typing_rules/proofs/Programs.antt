-- The audited run of a program that has types ends, and so does the run: calls and turns by their number of ticks, and the start.
use Rattle.std.proofs.Common.{◌≡◌, ℕ, zero, suc, ◌+◌, ◌<◌, ◌≤◌, Bool, true, false, ℤ, List, [], ◌∷◌, map, take, length, replicate, Option, Some, None, refl, sym, ap, ◌∙◌, subst, arith}
use Rattle.std.specs.Prelude.{◌==◌, ◌||◌, IsTrue, All, nat_le, slice_get}
use Rattle.std.proofs.lemmas.Bool.Decides.{nat_tests}
use Rattle.std.specs.List.{AllByRecursion}
use Rattle.std.proofs.lemmas.List.Elements.{recursion_from_All}
use Rattle.flat_bytes.specs.Blocks.{first_offset}
use Rattle.act_words.specs.declared.ending.Ending.{Ending}
use Rattle.act_words.specs.declared.ending.Ending.TheVariants.{Exit}
use Rattle.act_words.specs.declared.settings.Settings.{Settings}
use Rattle.act_words.specs.Acts.{Act, IsAct}
use Rattle.act_words.specs.Checks.{is_word_number}
use Rattle.ckc_core.specs.Outcome.{Gives, Ends, Stuck, Unsound, Short, and_then}
use Rattle.act_words.specs.World.{new_world}
use Rattle.act_words.specs.Touches.{Crossed, until_return}
use Rattle.pointer_modes.specs.Types.{CType, Int, Char, Struct, Pointer, Structure}
use Rattle.ckc_core.specs.Core as core
use Rattle.ckc_core.specs.States.{Value, Number, Null, At, Local, Grows, Shape, State, in_world, initial_value, object_block, shapes}
use Rattle.ckc_core.specs.Programs.{Initial, Variable, open_variable, parted}
use Rattle.ckc_core.specs.Audits.{Agrees}
use Rattle.ckc_core.specs.Steps.{Result, crossed, Flow, Next, Broke, Continued, Returned, parameters_of, fits_result, answer_if, answer, default_result, locals_for, back, exit, initial}
use Rattle.ckc_core.specs.Meaning.{Setting, knot, body_if, body_of, effects, meaning, audited_meaning}
use Rattle.region_typing_rules.specs.Typed.{Frame, AreOfResult, HasResultBounds, IsScalarResult, IsInitial}
use Rattle.region_typing_rules.specs.Items.{names}
use Rattle.bounds_exprs.specs.Changes.{is_named}
use Rattle.bounds_exprs.specs.Terms.{is_var}
use Rattle.ckc_core.specs.Bounds.{base_byte, term_value}
use Rattle.bounds_flow_meaning.specs.Holding.{IsInt, IsValid, target_size}
use Rattle.bounds_flow_meaning.proofs.Validity.{alike_here as local_alike, carried, null_valid, stay_ends}
use Rattle.std.proofs.lemmas.Option.{slice_get_within}
use Rattle.std.proofs.lemmas.List.{length-take-le}
use Rattle.region_typing_rules.specs.NeverStuck.{NeverUnsound, NeverStuck, AlwaysEnds}
use Rattle.ckc_core.proofs.Numbers.{IsNumber}
use Rattle.ckc_core.proofs.Audits.{changes_nothing}
use Rattle.region_typing_rules.proofs.BoundedObjects.{held_at_start, held_same}
use Rattle.region_typing_rules.proofs.Values.{grows_here, value_grown, value_typed, zero_typed, HaveLocals, values_fit, locals_typed, locals_grown, HoldsValues}
use Rattle.region_typing_rules.proofs.Worlds.{Crosses, until_crosses}
use Rattle.region_typing_rules.proofs.Goes.{shaped, OfType, OfTypes, HasResult, IsReply, IsAnswer, IsResult, EndsAs, IsKept, IsKnot, Goes, Runs, goes_further, runs_both, runs_then}
use Rattle.region_typing_rules.proofs.Safe.{AreSafe, IsSafe, IsSafeProgram, KnotsUpTo, safe_at, safe_there, setting_of}
use Rattle.region_typing_rules.proofs.Calls.{AreEntered, entered_later}
use Rattle.bounds_exprs.specs.declared.term.Bounds.{Bounds}
use Rattle.pointer_modes.specs.declared.ctype.Mode.{Mode}
use Rattle.pointer_modes.specs.declared.ctype.Kind.{Kind}
use Rattle.pointer_modes.specs.declared.ctype.Kind.TheVariants as kinds
use Rattle.region_typing_rules.proofs.Keeping.{Grown}
use Rattle.region_typing_rules.proofs.Moving.{IsMovedTo, all_of_them, effects_move, knots_move}
use Rattle.region_typing_rules.proofs.Terms.{so_further, so_on}
use Rattle.region_typing_rules.specs.KnownIsSo.{WhereGiven}
use Rattle.region_typing_rules.proofs.LastZeros.{zeros_start, short_start}

-- what is so of each where a value is given
so_all : {A X : Type 0} (P : X → A → State → Type 0) (o : Result A) → ((x : X) → WhereGiven (P x) o) → WhereGiven (λ v s. (x : X) → P x v s) o
so_all P (Gives v s) h = h
so_all P (Ends ending s) h = tt
so_all P (Stuck site s) h = tt
so_all P (Unsound site s) h = tt
so_all P Short h = tt

so_where : {A : Type 0} (P : A → State → Type 0) (X Y : Type 0) (o : Result A) → (X → Y → WhereGiven P o) → WhereGiven (λ v s. X → Y → P v s) o
so_where P X Y (Gives v s) h = h
so_where P X Y (Ends ending s) h = tt
so_where P X Y (Stuck site s) h = tt
so_where P X Y (Unsound site s) h = tt
so_where P X Y Short h = tt

module _ (g : Frame) (budget : ℕ) where
  default_typed : (s : State) (result : Option CType) → IsScalarResult result → IsAnswer g result (default_result result) s
  default_typed s None h = tt
  default_typed s (Some t) h = zero_typed g.structs (shaped s) t h

  answer_fits : (s : State) (result : Option CType) (v : Option Value) → IsAnswer g result v s → fits_result result v ≡ true
  answer_fits s None None h = refl
  answer_fits s None (Some v) h = absurd h
  answer_fits s (Some t) None h = absurd h
  answer_fits s (Some t) (Some v) h = value_typed g.structs (shaped s) t v h

  -- a pointer is valid with bounds of a result where the locals that they name are as they were
  moved_valid : (types' : List CType) (m : Mode) (kind : Kind) (t : CType) (b : Bounds) (v : Value) (s : State) (ls : List Local) → AreOfResult types' (Some (Pointer m kind t)) b → ((x : ℕ) → is_named x b ≡ true → x < length types' → slice_get s.locals x ≡ slice_get ls x)
      → IsValid g.structs (Some b) (record { type = Pointer m kind t; value = v }) s → IsValid g.structs (Some b) (record { type = Pointer m kind t; value = v }) (record s { locals = ls })
  moved_valid types' m kind t b v s ls it same h =
      let l : Local = record { type = Pointer m kind t; value = v } in
      carried g.structs b b l l s (record s { locals = ls }) (grows_here (shaped s)) (local_alike l)
      (stay_ends (target_size g.structs l.type) b b s.locals ls (λ block byte. ap (λ o. base_byte o ls block byte) it.base ∙ sym (ap (λ o. base_byte o s.locals block byte) it.base))
      (same_term b.lo.var b.lo.plus it.ints.lo (λ x e. named_low x b e)) (same_term b.hi.var b.hi.plus it.ints.hi (λ x e. named_high x b e))) h
    where
      named_low : (x : ℕ) (b : Bounds) → b.lo.var ≡ Some x → is_named x b ≡ true
      named_low x b e = let self : (x == x) ≡ true = grind (arith, nat_tests) in rw (e, self) refl

      named_high : (x : ℕ) (b : Bounds) → b.hi.var ≡ Some x → is_named x b ≡ true
      named_high x b e = let self : (x == x) ≡ true = grind (arith, nat_tests) in rw (e, self) (last (is_var x b.lo.var))
        where
          last : (test : Bool) → (test || true) ≡ true
          last true = refl
          last false = refl

      same_term : (var : Option ℕ) (plus : ℤ) → IsInt types' var → ((x : ℕ) → var ≡ Some x → is_named x b ≡ true) → term_value (record { var = var; plus = plus }) ls ≡ term_value (record { var = var; plus = plus }) s.locals
      same_term None plus int named = refl
      same_term (Some x) plus int named = let e = same x (named x refl) (slice_get_within types' x Int int) in rw e refl

  -- and so is the result
  moved_result : (types' : List CType) (result : Option CType) (r : Option Bounds) (v : Option Value) (s : State) (ls : List Local) → HasResultBounds types' result r → ((x : ℕ) → names r x ≡ true → x < length types' → slice_get s.locals x ≡ slice_get ls x) → HasResult g.structs result r v s → HasResult g.structs result r v (record s { locals = ls })
  moved_result types' None r v s ls sound same h = tt
  moved_result types' (Some Int) r v s ls sound same h = tt
  moved_result types' (Some Char) r v s ls sound same h = tt
  moved_result types' (Some (Struct number)) r v s ls sound same h = tt
  moved_result types' (Some (Pointer m kinds.One t)) r v s ls sound same h = tt
  moved_result types' (Some (Pointer m kinds.Nt t)) None v s ls sound same h = tt
  moved_result types' (Some (Pointer m kinds.Nt t)) (Some b) None s ls sound same h = tt
  moved_result types' (Some (Pointer m kinds.Nt t)) (Some b) (Some v) s ls sound same h = moved_valid types' m kinds.Nt t b v s ls (sound b refl) same h
  moved_result types' (Some (Pointer m kinds.Array t)) None v s ls sound same h = tt
  moved_result types' (Some (Pointer m kinds.Array t)) (Some b) None s ls sound same h = tt
  moved_result types' (Some (Pointer m kinds.Array t)) (Some b) (Some v) s ls sound same h = moved_valid types' m kinds.Array t b v s ls (sound b refl) same h

  -- null is valid with any
  default_result_so : (result : Option CType) (r : Option Bounds) (s : State) → HasResult g.structs result r (default_result result) s
  default_result_so None r s = tt
  default_result_so (Some Int) r s = tt
  default_result_so (Some Char) r s = tt
  default_result_so (Some (Struct number)) r s = tt
  default_result_so (Some (Pointer m kinds.One t)) r s = tt
  default_result_so (Some (Pointer m kinds.Nt t)) None s = tt
  default_result_so (Some (Pointer m kinds.Nt t)) (Some b) s = null_valid g.structs (Some b) (record { type = Pointer m kinds.Nt t; value = Null }) s refl
  default_result_so (Some (Pointer m kinds.Array t)) None s = tt
  default_result_so (Some (Pointer m kinds.Array t)) (Some b) s = null_valid g.structs (Some b) (record { type = Pointer m kinds.Array t; value = Null }) s refl

  -- the locals that the bounds of a result name are as they were
  abbrev AreKept : Option Bounds → (parameters : ℕ) → List Local → State → Type 0
  AreKept r parameters ls t = (x : ℕ) → names r x ≡ true → x < parameters → slice_get t.locals x ≡ slice_get ls x

  abbrev IsLeft : Option CType → Option Bounds → List Local → Option Value → State → Type 0
  IsLeft result r ls v t = IsAnswer g result v t × HasResult g.structs result r v (record t { locals = ls })

  -- how a body ends is what its function answers
  answer_runs : (n low : ℕ) (types : List CType) (parameters : List CType) (result : Option CType) (r : Option Bounds) (ls : List Local) → IsScalarResult result → HasResultBounds parameters result r → (flow : Flow) (s : State) → EndsAs g result r false flow s → AreKept r (length parameters) ls s → IsKept g budget n low types s
      → Runs g budget n low types (IsLeft result r ls) (answer result flow s)
  answer_runs n low types parameters result r ls scalar sound Next s ok same kept = ((default_typed s result scalar, default_result_so result r (record s { locals = ls })), kept)
  answer_runs n low types parameters result r ls scalar sound Broke s ok same kept = absurd (cc)
  answer_runs n low types parameters result r ls scalar sound Continued s ok same kept = absurd (cc)
  answer_runs n low types parameters result r ls scalar sound (Returned v) s ok same kept =
      subst (λ yes. Runs g budget n low types (IsLeft result r ls) (answer_if yes v s)) (sym (answer_fits s result v ok.0)) ((ok.0, moved_result parameters result r v s ls sound same ok.1), kept)

  -- back in the function that called, where blocks were only added
  back_goes : (n m low : ℕ) (types inner : List CType) (result : Option CType) (r : Option Bounds) (ls : List Local) (s u : State) (o : Result (Option Value)) → budget ≤ low + n → HaveLocals g.structs (shaped s) types s.locals → u.blocks ≡ s.blocks → Runs g budget m low inner (IsLeft result r ls) o → Grown u o
      → Goes g budget n low types s (IsLeft result r ls) (and_then o (back s))
  back_goes n m low types inner result r ls s u (Gives v t) enough locals same h grown =
      let more : Grows (shaped s) (shaped t) = subst (λ b. Grows (shapes b) (shaped t)) same grown in
      ((answer_back result v t h.0.0, result_back result r v t h.0.1), (more, refl), record { grown = h.1.grown; cells = h.1.cells; locals = locals_grown g.structs (shaped s) (shaped t) more types s.locals locals; world = h.1.world; enough = enough; held = held_same g t (record t { locals = s.locals; depth = s.depth }) refl h.1.held; zeros = h.1.zeros; short = h.1.short })
    where
      answer_back : (result : Option CType) (v : Option Value) (t : State) → IsAnswer g result v t → IsAnswer g result v (record t { locals = s.locals; depth = s.depth })
      answer_back None None t h = tt
      answer_back None (Some v) t h = h
      answer_back (Some c) None t h = h
      answer_back (Some c) (Some v) t h = h

      valid_back : (m : Mode) (kind : Kind) (c : CType) (b : Bounds) (v : Value) (t : State) → IsValid g.structs (Some b) (record { type = Pointer m kind c; value = v }) (record t { locals = ls })
          → IsValid g.structs (Some b) (record { type = Pointer m kind c; value = v }) (record t { locals = ls; depth = s.depth })
      valid_back m kind c b v t h =
          let l : Local = record { type = Pointer m kind c; value = v } in
          carried g.structs b b l l (record t { locals = ls }) (record t { locals = ls; depth = s.depth }) (grows_here (shaped t)) (local_alike l) (stay_ends (target_size g.structs l.type) b b ls ls (λ block byte. refl) refl refl) h

      result_back : (result : Option CType) (r : Option Bounds) (v : Option Value) (t : State) → HasResult g.structs result r v (record t { locals = ls }) → HasResult g.structs result r v (record t { locals = ls; depth = s.depth })
      result_back None r v t h = tt
      result_back (Some Int) r v t h = tt
      result_back (Some Char) r v t h = tt
      result_back (Some (Struct number)) r v t h = tt
      result_back (Some (Pointer m kinds.One c)) r v t h = tt
      result_back (Some (Pointer m kinds.Nt c)) None v t h = tt
      result_back (Some (Pointer m kinds.Nt c)) (Some b) None t h = tt
      result_back (Some (Pointer m kinds.Nt c)) (Some b) (Some v) t h = valid_back m kinds.Nt c b v t h
      result_back (Some (Pointer m kinds.Array c)) None v t h = tt
      result_back (Some (Pointer m kinds.Array c)) (Some b) None t h = tt
      result_back (Some (Pointer m kinds.Array c)) (Some b) (Some v) t h = valid_back m kinds.Array c b v t h
  back_goes n m low types inner result r ls s u (Ends ending t) enough locals same h grown = tt
  back_goes n m low types inner result r ls s u (Stuck site t) enough locals same h grown = h
  back_goes n m low types inner result r ls s u (Unsound site t) enough locals same h grown = h
  back_goes n m low types inner result r ls s u Short enough locals same h grown = h

  -- what the sandbox's turn comes to
  crossed_goes : (n low : ℕ) (types : List CType) (s : State) (x : Crossed) → Crosses budget low x → IsKept g budget n low types s → Goes g budget n low types s IsReply (crossed x s)
  crossed_goes n low types s (Crossed.Returned word w) h kept = (h.0, (grows_here (shaped s), refl), record { grown = kept.grown; cells = kept.cells; locals = kept.locals; world = h.1; enough = kept.enough; held = held_same g s (in_world w s) refl kept.held; zeros = kept.zeros; short = kept.short })
  crossed_goes n low types s (Crossed.Called fun words w) h kept = tt
  crossed_goes n low types s (Crossed.Over ending w) h kept = tt

  module _ (sandbox trusted : ℕ) (functions : AreSafe g g.program.functions g.bounds g.result_bounds) where
    abbrev setting : Setting
    setting = setting_of g budget sandbox trusted

    -- the body of a function, with knots that are enough for it
    body_goes : (n m : ℕ) → KnotsUpTo g budget sandbox trusted m → (low : ℕ) (types : List CType) (function : ℕ) (f : core.Function) (bs : List (Option Bounds)) (r : Option Bounds) (vs : List Value) (s : State) → slice_get g.program.functions function ≡ Some f → slice_get g.bounds function ≡ Some bs
        → slice_get g.result_bounds function ≡ Some r → OfTypes g (parameters_of f) vs s → AreEntered g.structs bs (record s { locals = locals_for f.locals vs }) → budget ≤ low + m → IsKept g budget n low types s
        → Goes g budget n low types s (IsResult g budget n f.result r f.locals vs) (body_of true setting (knot true setting m) (slice_get g.program.functions function) vs s)
    body_goes n m knots low types function f bs r vs s found known told h begun enough kept =
        let it = safe_at g g.program.functions g.bounds g.result_bounds function f bs r functions found known told in
        let ls = locals_for f.locals vs in
        let inside : State = record s { locals = ls; depth = s.depth + 1 } in
        let inside_kept : IsKept g budget m low f.locals inside = record { grown = kept.grown; cells = kept.cells; locals = locals_typed g.structs (shaped s) f.locals f.parameters vs it.typed.locals h; world = kept.world; enough = enough; held = held_same g s inside refl kept.held; zeros = kept.zeros; short = kept.short } in
        let run = effects true setting (knot true setting m) f.body inside in
        subst (λ o. Goes g budget n low types s (IsResult g budget n f.result r f.locals vs) (body_of true setting (knot true setting m) o vs s)) (sym found)
        (subst (λ yes. Goes g budget n low types s (IsResult g budget n f.result r f.locals vs) (body_if true yes setting (knot true setting m) f vs s)) (sym (values_fit g.structs (shaped s) (parameters_of f) vs h))
        (back_goes n m low types f.locals f.result r ls s inside (and_then run (answer f.result)) kept.enough kept.locals refl
        (runs_then g budget m low f.locals (λ flow t. EndsAs g f.result r false flow t × AreKept r (length (parameters_of f)) ls t) (IsLeft f.result r ls) run (answer f.result)
        (runs_both g budget m low f.locals (EndsAs g f.result r false) (λ flow t. AreKept r (length (parameters_of f)) ls t) run
        (it.runs budget sandbox trusted m knots low inside inside_kept (entered_later g.structs bs (record s { locals = ls }) inside (grows_here (shaped s)) refl begun)) (all_kept f r it m inside))
        (λ flow t ok t_kept. answer_runs m low f.locals (parameters_of f) f.result r ls it.typed.result it.sound flow t ok.0 ok.1 t_kept))
        (so_on (λ flow t. Grows (shaped inside) (shaped t)) (λ v t. Grows (shaped inside) (shaped t)) run (answer f.result) (body_grows m f.body inside) (λ flow t grown. answer_grows f.result inside flow t grown))))
      where
        all_kept : (f : core.Function) (r : Option Bounds) {bs : List (Option Bounds)} → IsSafe g bs r f → (m : ℕ) (s : State) → WhereGiven (λ (flow : Flow) (t : State). AreKept r (length (parameters_of f)) s.locals t) (effects true setting (knot true setting m) f.body s)
        all_kept f r it m s = so_all (λ x flow t. names r x ≡ true → x < length (parameters_of f) → slice_get t.locals x ≡ slice_get s.locals x) (effects true setting (knot true setting m) f.body s)
            (λ x. so_where (λ flow t. slice_get t.locals x ≡ slice_get s.locals x) (names r x ≡ true) (x < length (parameters_of f)) (effects true setting (knot true setting m) f.body s)
            (λ named low. it.keeps budget sandbox trusted m x named (let few = length-take-le f.parameters f.locals it.typed.parameters in omega (arith, low, few)) s))

        body_grows : (m : ℕ) (xs : core.Statements) (s : State) → WhereGiven (λ (flow : Flow) (t : State). Grows (shaped s) (shaped t)) (effects true setting (knot true setting m) xs s)
        body_grows m xs s =
            so_further (λ (flow : Flow) (t : State). IsMovedTo (λ y. true) s t) (λ (flow : Flow) (t : State). Grows (shaped s) (shaped t)) (effects true setting (knot true setting m) xs s)
            (effects_move true setting (knot true setting m) (knots_move true setting m) (λ y. true) xs s (all_of_them true setting xs)) (λ flow t moved. moved.grown)

        answer_grows : (result : Option CType) (r : State) (flow : Flow) (t : State) → Grows (shaped r) (shaped t) → WhereGiven (λ (v : Option Value) (u : State). Grows (shaped r) (shaped u)) (answer result flow t)
        answer_grows result r Next t grown = grown
        answer_grows result r Broke t grown = tt
        answer_grows result r Continued t grown = tt
        answer_grows result r (Returned v) t grown = by (fits_result result v)
          where
            by : (test : Bool) → WhereGiven (λ (v : Option Value) (u : State). Grows (shaped r) (shaped u)) (answer_if test v t)
            by true = grown
            by false = tt

    -- no call comes where no tick is left
    first_knot : IsKnot g budget zero (knot true setting zero)
    first_knot = record {
      call = λ low types function f vs s found bs known r told h begun few kept. let w = kept.world in absurd (omega (arith, few, w.2, w.3));
      sandbox = λ low types s few kept. let w = kept.world in absurd (omega (arith, few, w.2, w.3));
      keeps = (knots_move true setting zero).calls;
    }

    next_knot : (m : ℕ) → KnotsUpTo g budget sandbox trusted m → IsKnot g budget (suc m) (knot true setting (suc m))
    next_knot m below = record {
      call = λ low types function f vs s found bs known r told h begun few kept. body_goes (suc m) m below low types function f bs r vs s found known told h begun (omega (arith, few)) kept;
      sandbox = λ low types s few kept. crossed_goes (suc m) low types s (until_return s.world.acts s.world) (until_crosses budget low s.world.acts kept.world.0 s.world kept.world) kept;
      keeps = (knots_move true setting (suc m)).calls;
    }

    knots : (n : ℕ) → KnotsUpTo g budget sandbox trusted n
    knots zero m le = let same : zero ≡ m = omega (arith, le) in subst (λ m. IsKnot g budget m (knot true setting m)) same first_knot
    knots (suc n) m le = by (nat_le m n) refl (λ less. knots n m less) (next_knot n (λ k less. knots n k less))
      where
        by : (test : Bool) → nat_le m n ≡ test → (m ≤ n → IsKnot g budget m (knot true setting m)) → IsKnot g budget (suc n) (knot true setting (suc n)) → IsKnot g budget m (knot true setting m)
        by true e lower last = lower (grind (arith, nat_tests))
        by false e lower last = let more : n < m = grind (arith, nat_tests) in let same : suc n ≡ m = omega (arith, le, more) in subst (λ m. IsKnot g budget m (knot true setting m)) same last

  -- a run that goes on to its exit ends
  run_ends : (n low : ℕ) (types : List CType) (r : State) (result : Option CType) (o : Result (Option Value)) → result ≡ Some Int → Goes g budget n low types r (IsAnswer g result) o → (ending : Ending) × (s : State) × (and_then o exit ≡ Ends ending s)
  run_ends n low types r None o e h = absurd (cc)
  run_ends n low types r (Some t) (Gives None s) e h = absurd h.0
  run_ends n low types r (Some t) (Gives (Some v) s) e h = let int : t ≡ Int = cc in number_ends v s (subst (λ x. OfType g x v s) int h.0)
    where
      number_ends : (v : Value) (s : State) → OfType g Int v s → (ending : Ending) × (u : State) × (exit (Some v) s ≡ Ends ending u)
      number_ends (Number z) s typed = (Exit z, s, refl)
      number_ends Null s typed = absurd typed
      number_ends (At block byte) s typed = absurd typed
  run_ends n low types r (Some t) (Ends ending s) e h = (ending, s, refl)
  run_ends n low types r (Some t) (Stuck site s) e h = absurd h
  run_ends n low types r (Some t) (Unsound site s) e h = absurd h
  run_ends n low types r (Some t) Short e h = absurd h

-- the variables before the run, among blocks of any shapes
module _ (structs : List Structure) (b : List Shape) where
  start_cells : (is : List Initial) → AllByRecursion (IsInitial structs) is → HoldsValues structs b (object_block (open_variable is))
  start_cells [] all = tt
  start_cells (i ∷ is) all = (value_grown structs [] b (b, refl) i.type (initial_value i.type i.number) all.0, start_cells is all.1)

  start_blocks : (objects : List Variable) → AllByRecursion (λ (v : Variable). AllByRecursion (IsInitial structs) v.cells) objects → AllByRecursion (HoldsValues structs b) (map object_block objects)
  start_blocks [] all = tt
  start_blocks (v ∷ objects) all = (start_cells v.cells all.0, start_blocks objects all.1)

nothing_there : (x : ℕ) (c : CType) → slice_get [] x ≡ Some c → ⊥
nothing_there x c h = absurd (cc)

-- the audited run of what has types ends
abbrev AuditEnds : core.Core → Settings → List ℤ → List Act → Type 0
AuditEnds program settings inputs acts = (ending : Ending) × (s : State) × (audited_meaning program settings inputs acts ≡ Ends ending s)

audit_ends : (program : core.Core) → IsSafeProgram (parted program) → (settings : Settings) (inputs : List ℤ) (acts : List Act) → All (λ z. IsTrue (is_word_number z)) inputs → All IsAct acts → AuditEnds program settings inputs acts
audit_ends program is settings inputs acts words all =
    let types = is.typed in
    let g : Frame = record { program = parted program; structs = types.structs; bounds = types.bounds; result_bounds = types.result_bounds; object_bounds = types.object_bounds } in
    let n = settings.budget in
    let f = types.main in
    let start = initial (parted program) (new_world (replicate settings.sandbox 0) first_offset inputs acts) in
    let kept : IsKept g n n 0 [] start = record {
      grown = grows_here (shaped start);
      cells = start_blocks types.structs (shaped start) program.objects types.objects;
      locals = tt;
      world = (recursion_from_All IsAct acts all, recursion_from_All IsNumber inputs words, omega arith, omega arith);
      enough = omega arith;
      held = held_at_start g start refl;
      zeros = zeros_start program.objects types.zeros;
      short = short_start program.objects types.zeros;
    } in
    let none : parameters_of f.0 ≡ [] = ap (λ k. take k f.0.locals) f.2 in
    run_ends g n n 0 [] start f.0.result _ f.3
    (let it = safe_there g g.program.functions g.bounds g.result_bounds program.main f.0 is.functions f.1 in
    goes_further g n n 0 [] start (IsResult g n n f.0.result it.r f.0.locals []) (IsAnswer g f.0.result) (body_of true (setting_of g n settings.sandbox settings.trusted) (knot true (setting_of g n settings.sandbox settings.trusted) n) (slice_get g.program.functions program.main) [] start)
    (body_goes g n settings.sandbox settings.trusted is.functions n n (knots g n settings.sandbox settings.trusted is.functions n) 0 [] program.main f.0 it.bs it.r [] start f.1 it.known it.told (subst (λ ts. OfTypes g ts [] start) (sym none) tt)
    (λ x b l is_bound there. let row = it.safe.rows x b is_bound in absurd (let at : slice_get [] x ≡ Some (Pointer row.0 row.1 row.2) = subst (λ ts. slice_get ts x ≡ Some (Pointer row.0 row.1 row.2)) none row.3 in nothing_there x (Pointer row.0 row.1 row.2) at))
    (omega arith) kept) (λ v s h. h.0))

pub never_unsound : (program : core.Core) → IsSafeProgram (parted program) → NeverUnsound program
never_unsound program is settings inputs acts words all site s unsound = let ends = audit_ends program is settings inputs acts words all in absurd (cc)

pub never_stuck : (program : core.Core) → IsSafeProgram (parted program) → NeverStuck program
never_stuck program is settings inputs acts words all site s stuck = let ends = audit_ends program is settings inputs acts words all in absurd (cc)

-- so the run without the audit ends too, and as this one
pub always_ends : (program : core.Core) → IsSafeProgram (parted program) → AlwaysEnds program
always_ends program is settings inputs acts words all =
    let ends = audit_ends program is settings inputs acts words all in
    let same : Agrees (Ends ends.0 ends.1) (meaning program settings inputs acts) = subst (λ o. Agrees o (meaning program settings inputs acts)) ends.2 (changes_nothing program settings inputs acts) in
    (ends.0, ends.1, same, ends.2)
