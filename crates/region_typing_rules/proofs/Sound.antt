-- What is known behind a statement is so.
use Rattle.std.specs.Prelude.{◌||◌, not, slice_index_or}
use Rattle.std.proofs.lemmas.List.{length-replicate}
use Rattle.ckc_text.specs.declared.code.Code.TheVariants.{E15, E17, E30}
use Rattle.ckc_tree.specs.Statements as s
use Rattle.ckc_tree.specs.Statements.{Assignment, Statement, Statements}
use Rattle.pointer_modes.specs.Types.{Structure}
use Rattle.bounds_flow.specs.Flows.{Knowledge, cut_off, met}
use Rattle.bounds_flow_meaning.specs.Laws.{AreBeside}
use Rattle.bounds_flow_meaning.proofs.Beside.{flows_stay_alike}
use Rattle.ckc_core.specs.Outcome.{Gives}
use Rattle.ckc_core.specs.Core as core
use Rattle.ckc_core.specs.States.{State}
use Rattle.ckc_core.specs.Steps.{Result, Flow, Next, Broke, Continued, Returned, truth, on_next}
use Rattle.bounds_exprs.specs.declared.term.Bounds.{Bounds}
use Rattle.region_typing_rules.specs.Verdicts.{Verdict, Passes, Stops}
use Rattle.region_typing_rules.specs.Scopes.{Scope}
use Rattle.region_typing_rules.specs.Readings.{told}
use Rattle.region_typing_rules.specs.Knowing.{assigned_in, hidden_by, when, cut, way_out, broken, continued, at_loop, marked, step_marked}
use Rattle.region_typing_rules.specs.Statements.{Walked, both, behind_block, behind_branch, at_alternative, behind_both, behind_loop, before_step, in_loop, is_unchecked, condition, optional_condition, optional_step, first_part, alone, return, declaration, assigning, bundle, statement, statements}
use Rattle.region_typing_rules.proofs.Keeping.{IsAfter}
use Rattle.region_typing_rules.proofs.Moving.{IsMovedTo, moved_here, effect_moves, knots_move}
use Rattle.region_typing_rules.proofs.RightNodes.{right_typed}
use Rattle.region_typing_rules.proofs.Told.{told_fits}
use Rattle.region_typing_rules.proofs.Between.{IsBetween, between_more, beside_of, between_told, between_without, outside_beside, outside_here, told_beside}
use Rattle.region_typing_rules.proofs.Sources.{IsFreshCall, call_typed_fresh}
use Rattle.region_typing_rules.proofs.Ways.{IsWalk, Declares, walk_tracked, beside_sym, block_declares, block_outside_of, declares_here, declares_knowing, declares_on, declares_turn, fits_further, way_further, fits_first, known_out, loop_same, met_behind, on_way_here, on_way_before, step_keeps, way_out_between, way_out_outside, walk_knowing, walk_when, walk_cut, walk_broken, walk_continued, walk_block, walk_meeting, walk_head, walk_in_loop, walk_step, walk_behind, so_block, so_meeting, known_block}
use Rattle.std.proofs.Common.{◌≡◌, ℕ, ◌-◌, ◌<◌, ◌≤◌, Bool, true, false, List, [], length, replicate, Option, Some, None, refl, sym, ◌∙◌, subst, arith}
use Rattle.std.specs.List.{AllByRecursion}
use Rattle.ckc_text.specs.declared.place.Span.{Span}
use Rattle.ckc_tree.specs.Expressions.{Expression}
use Rattle.pointer_modes.specs.Types.{CType}
use Rattle.ckc_core.specs.States.{Value}
use Rattle.ckc_core.specs.Meaning.{Knot, Setting, effect, effects, knot, value as value_of}
use Rattle.region_typing_rules.specs.Operands.{Places, Typed, Called, Gives as GivesValue, GivesNothing}
use Rattle.region_typing_rules.specs.Expressions.{call_typed, typed as typed_at}
use Rattle.region_typing_rules.specs.Statements.{meets_declared, returned, returned_nothing}
use Rattle.region_typing_rules.specs.KnownIsSo.{declared_at, FitsAlike, IsKnown, IsOnWay, ChangesMarked, MarkedAlone}
use Rattle.region_typing_rules.specs.ConditionsAreSo.{ConditionsAreSo}
use Rattle.region_typing_rules.specs.Typed as typed
use Rattle.region_typing_rules.specs.Typed.{Frame, HasType, IsReturned, IsScalar, IsSimple, IsStatement}
use Rattle.region_typing_rules.proofs.Verdicts.{Promises, passing_promises, needs_promises, both_promise, later_promises, promised_so, Extends, extends_length}
use Rattle.region_typing_rules.proofs.Knowledge.{KnowsFile, Knows}
use Rattle.region_typing_rules.proofs.Growth.{Grows, GrowsTo, alternative_grows, behind_grows, file_known, first_grows, grows_further, head_grows, optional_grows, statement_grows, step_grows, when_grows}
use Rattle.region_typing_rules.proofs.Operands.{Fits, FitsCall}
use Rattle.region_typing_rules.proofs.Conversions.{result_asked, result_type_met, so_converted}
use Rattle.region_typing_rules.proofs.Expressions.{call_promises, typed_promises}
use Rattle.region_typing_rules.proofs.Statements.{AreIn, IsIn, IsScalarValue, alone_typed, condition_promises, in_loop_known, optional_promises, simple_any, statement_from, statements_from}
use Rattle.region_typing_rules.proofs.Goes.{EndsAs, HasResult, IsAnswer, IsKept, IsNext, OfType, Runs, runs_both, runs_further, runs_on, runs_then}
use Rattle.region_typing_rules.proofs.Soundness.{returned_goes, simple_runs}
use Rattle.region_typing_rules.proofs.Terms.{so_further}
use Rattle.region_typing_rules.proofs.Alike.{alike_here, fits_moved}
use Rattle.region_typing_rules.proofs.Assigns.{IsPlain}
use Rattle.region_typing_rules.proofs.Marking.{IsMarked, call_only, covers_before, hidden_here, marked_within, statement_marked, step_marked_so, step_within}
use Rattle.region_typing_rules.proofs.Declaring.{GoesOn, IsAt, Knots, assigning_goes, bundle_goes, declaration_goes, first_goes, knows_here, nothing_goes, running, step_goes, ticking}
use Rattle.region_typing_rules.proofs.Turns.{EndsIn, chosen_runs, loop_on, tested_goes}

module _ (frame : Frame) (types : List CType) (all_scalar : AllByRecursion IsScalar types) (vars budget sandbox trusted : ℕ) where
  abbrev structs : List Structure
  structs = frame.structs

  abbrev K : ℕ → Knot
  K n = ticking frame types all_scalar vars budget sandbox trusted n

  abbrev setting : Setting
  setting = running frame types all_scalar vars budget sandbox trusted

  abbrev Calls : ℕ → Type 0
  Calls n = Knots frame types all_scalar vars budget sandbox trusted n

  abbrev Stands : ℕ → ℕ → Scope → State → Type 0
  Stands n low g s = IsAt frame types all_scalar vars budget sandbox trusted n low g s

  abbrev Reached : Scope → Type 0
  Reached g = Extends g.locals types

  abbrev Ending : Scope → Scope → Flow → State → Type 0
  Ending g h = EndsIn frame types all_scalar vars budget sandbox trusted g h

  -- what the walk promises of a statement, or of what its meaning is: ways out of a loop only become more, it has types, and a run of it
  -- is never stuck, and ends where what is known is so
  pub record Promise (g h : Scope) (IsTyped : Type 0) (run : ℕ → State → Result Flow) : Type 0 where
    pub walk : IsWalk vars h
    pub more : Extends g.locals h.locals
    pub keeps : Declares g h
    pub breaks : (n : ℕ) (t : State) → IsOnWay structs n g.breaks t → IsOnWay structs n h.breaks t
    pub continues : (n : ℕ) (t : State) → IsOnWay structs n g.continues t → IsOnWay structs n h.continues t
    pub typed : Reached h → IsTyped
    pub runs : Reached h → (n : ℕ) → Calls n → (low : ℕ) (s : State) → Stands n low g s → Runs frame budget n low types (Ending g h) (run n s)

  abbrev pub IsSound : Scope → Walked → Type 0
  IsSound g w = Promise g w.1 (IsIn frame types all_scalar g w.0) (λ n s. effect true setting (K n) w.0 s)

  abbrev pub AreSound : Scope → core.Statements × Scope → Type 0
  AreSound g w = Promise g w.1 (AreIn frame types all_scalar g w.0) (λ n s. effects true setting (K n) w.0 s)

  abbrev Going : Scope → Walked → Type 0
  Going g w = GoesOn frame types all_scalar vars budget sandbox trusted g w

  goes_sound : (g : Scope) (w : Walked) → Going g w → IsSound g w
  goes_sound g w h = record {
    walk = h.walk;
    more = h.more;
    keeps = h.keeps;
    breaks = λ n t k. subst (λ o. IsOnWay structs n o t) (sym h.breaks) k;
    continues = λ n t k. subst (λ o. IsOnWay structs n o t) (sym h.continues) k;
    typed = λ reaches. h.typed reaches g.result g.result_bounds g.in_loop;
    runs = λ reaches n calls low s at.
        runs_further frame budget n low types (λ flow t. IsNext flow t × IsKnown structs w.1 t) (Ending g w.1) (effect true setting (K n) w.0 s) (h.runs reaches n calls low s at) (λ flow t k. subst (λ flow. Ending g w.1 flow t) (sym k.0) (tt, k.1));
  }

  goes_promised : (g : Scope) (v : Verdict Walked) → Promises (Going g) v → Promises (IsSound g) v
  goes_promised g (Passes w) h = goes_sound g w h
  goes_promised g (Stops stop) h = tt

  -- what ends as in a scope behind ends as in the one before
  ends_before : (a b : Scope) → Grows a b → (flow : Flow) (t : State) → EndsAs frame b.result b.result_bounds b.in_loop flow t → EndsAs frame a.result a.result_bounds a.in_loop flow t
  ends_before a b h flow t k = subst (λ r. EndsAs frame r a.result_bounds a.in_loop flow t) (sym h.result) (subst (λ r. EndsAs frame b.result r a.in_loop flow t) (sym h.asked) (subst (λ l. EndsAs frame b.result b.result_bounds l flow t) (sym h.loop) k))

  -- ---- in a row

  then_sound : (g : Scope) (x : Walked) (y : core.Statements × Scope) → Grows g x.1 → IsSound g x → AreSound x.1 y → AreSound g (core.Then x.0 y.0, y.1)
  then_sound g x y grows a b = record {
    walk = b.walk;
    more = λ k t e. b.more k t (a.more k t e);
    keeps = declares_on g x.1 y.1 (extends_length g.locals x.1.locals a.more) a.keeps b.keeps;
    breaks = λ n t h. b.breaks n t (a.breaks n t h);
    continues = λ n t h. b.continues n t (a.continues n t h);
    typed = λ reaches. typed.then_more (a.typed (before reaches)) (statements_from frame types all_scalar g x.1 y.0 grows (b.typed reaches));
    runs = λ reaches n calls low s at.
        runs_then frame budget n low types (Ending g x.1) (Ending g y.1) (effect true setting (K n) x.0 s) (on_next (effects true setting (K n) y.0)) (a.runs (before reaches) n calls low s at) (by reaches n calls low);
  }
    where
      before : Reached y.1 → Reached x.1
      before reaches k t e = reaches k t (b.more k t e)

      le : length x.1.locals ≤ length y.1.locals
      le = extends_length x.1.locals y.1.locals b.more

      by : Reached y.1 → (n : ℕ) → Calls n → (low : ℕ) (flow : Flow) (t : State) → Ending g x.1 flow t → IsKept frame budget n low types t → Runs frame budget n low types (Ending g y.1) (on_next (effects true setting (K n) y.0) flow t)
      by reaches n calls low Next t h kept =
          runs_further frame budget n low types (Ending x.1 y.1) (Ending g y.1) (effects true setting (K n) y.0 t) (b.runs reaches n calls low t (record { kept = kept; known = h.1 })) (λ flow u k. (ends_before g x.1 grows flow u k.0, k.1))
      by reaches n calls low Broke t h kept = ((h.0, b.breaks (length y.1.locals) t (way_further structs (length x.1.locals) (length y.1.locals) x.1.breaks t le h.1)), kept)
      by reaches n calls low Continued t h kept = ((h.0, b.continues (length y.1.locals) t (way_further structs (length x.1.locals) (length y.1.locals) x.1.continues t le h.1)), kept)
      by reaches n calls low (Returned v) t h kept = ((h.0, tt), kept)

  block_walk : (g : Scope) → IsWalk vars g → (inside : Scope) → Extends g.locals inside.locals → Declares g inside → IsWalk vars inside → IsWalk vars (behind_block g inside)
  block_walk g w inside more keeps h = let low = w.outside in let same = keeps.loop in walk_block vars g inside (extends_length g.locals inside.locals more) (omega (arith, low, same)) h

  block_sound : (g : Scope) → IsWalk vars g → (w : core.Statements × Scope) → AreSound g w → IsSound g (core.Block w.0, behind_block g w.1)
  block_sound g start w h = record {
    walk = block_walk g start w.1 h.more h.keeps h.walk;
    more = h.more;
    keeps = block_declares vars g w.1 (extends_length g.locals w.1.locals h.more) h.keeps h.walk;
    breaks = h.breaks;
    continues = h.continues;
    typed = λ reaches. typed.block (h.typed reaches);
    runs = λ reaches n calls low s at.
        runs_further frame budget n low types (Ending g w.1) (Ending g (behind_block g w.1)) (effects true setting (K n) w.0 s) (h.runs reaches n calls low s at)
        (λ flow t k. (k.0, so_block structs vars g w.1 h.walk (extends_length g.locals w.1.locals h.more) flow t k.1));
  }

  -- ---- branches

  -- where a condition came out false, among the locals behind a branch
  no_later : (g : Scope) → IsWalk vars g → (c : core.Expression) (x : Scope) → Extends g.locals x.locals → Declares g x → IsBetween x.structs x.locals vars (told g.locals c false g.flow)
  no_later g w c x more keeps =
      subst (λ known. IsBetween known x.locals vars (told g.locals c false g.flow)) keeps.structs
      (between_more g.locals x.locals vars (told g.locals c false g.flow) more (between_told g.locals vars c false g.flow w.few w.between))

  -- what is declared at the end of a branch, and where it wasn't taken
  untaken_beside : (g : Scope) (w : IsWalk vars g) (c : core.Expression) (x : Scope) → Extends g.locals x.locals → Declares g x → IsWalk vars x → AreBeside (told g.locals c false g.flow) (behind_block g x).flow
  untaken_beside g w c x more keeps h =
      let le = extends_length g.locals x.locals more in
      let told_out = outside_beside (length g.locals) g.flow g.flow (told g.locals c false g.flow) (told_beside g.locals vars c false g.flow w.few w.between) (outside_here (length g.locals) g.flow w.beyond) in
      beside_of vars (length g.locals) g.flow (told g.locals c false g.flow) (behind_block g x).flow (no_later g w c x more keeps)
      (between_without vars (length g.locals) (length x.locals - length g.locals) x.flow h.between) told_out (block_outside_of vars g x le keeps h)

  module _ (g : Scope) (w : IsWalk vars g) (c : core.Expression) where
    abbrev Told : Value → State → Type 0
    Told v t = FitsAlike structs (length g.locals) (told g.locals c (truth v) g.flow) t

    abbrev no : Knowledge
    no = told g.locals c false g.flow

    branch_sound : (x : Walked) → (Reached g → IsScalarValue frame types all_scalar g c) → IsSound (when c true g) x → IsSound g (core.If c x.0 core.Nothing, behind_branch g c x.1)
    branch_sound x tested h = record {
      walk = walk_meeting vars no (behind_block g x.1) no_between beside_back block;
      more = h.more;
      keeps = declares_on g (behind_block g x.1) (behind_branch g c x.1) le (block_declares vars g x.1 le keeps h.walk) (declares_knowing (met no (behind_block g x.1).flow) (behind_block g x.1) (met_behind vars no (behind_block g x.1).flow no_between block.between beside));
      breaks = h.breaks;
      continues = h.continues;
      typed = λ reaches. typed.choice (tested (before reaches)).typed (h.typed reaches) (typed.simple {here = g} typed.nothing);
      runs = λ reaches n calls low s at.
          runs_on frame budget n low types s Told Q (value_of true setting (K n) c s) _ (tested_goes frame types all_scalar vars budget sandbox trusted n low calls g w (before reaches) c (tested (before reaches)).type (tested (before reaches)).typed s at)
          (λ v t after q kept. chosen_runs frame types all_scalar vars budget sandbox trusted n low Q (truth v) _ (Gives Next t)
          (λ e. runs_further frame budget n low types (Ending (when c true g) x.1) Q (effect true setting (K n) x.0 t)
          (h.runs reaches n calls low t (record { kept = kept; known = subst (λ b. FitsAlike structs (length g.locals) (told g.locals c b g.flow) t) e q }))
          (λ flow u r. (r.0, so_meeting structs vars no (behind_block g x.1) no_between beside block flow u (so_block structs vars g x.1 h.walk le flow u r.1))))
          (λ e. (
            (
              tt,
              fits_first structs vars (length x.1.locals) t no (behind_block g x.1).flow no_between block.between beside
                  (fits_further structs (length g.locals) (length x.1.locals) no t le (subst (λ b. FitsAlike structs (length g.locals) (told g.locals c b g.flow) t) e q)),
            ),
            kept,
          )));
    }
      where
        before : Reached x.1 → Reached g
        before reaches k t e = reaches k t (h.more k t e)

        le : length g.locals ≤ length x.1.locals
        le = extends_length g.locals x.1.locals h.more

        keeps : Declares g x.1
        keeps = declares_on g (when c true g) x.1 (omega arith) (declares_knowing (told g.locals c true g.flow) g (told_beside g.locals vars c true g.flow w.few w.between)) h.keeps

        no_between : IsBetween x.1.structs x.1.locals vars (told g.locals c false g.flow)
        no_between = no_later g w c x.1 h.more keeps

        block : IsWalk vars (behind_block g x.1)
        block = block_walk g w x.1 h.more keeps h.walk

        beside : AreBeside no (behind_block g x.1).flow
        beside = untaken_beside g w c x.1 h.more keeps h.walk

        beside_back : AreBeside (behind_block g x.1).flow no
        beside_back = beside_sym no (behind_block g x.1).flow beside

        Q : Flow → State → Type 0
        Q flow t = Ending g (behind_branch g c x.1) flow t

    branches_sound : (x y : Walked) → Grows g (at_alternative g c x.1) → (Reached g → IsScalarValue frame types all_scalar g c) → IsSound (when c true g) x → IsSound (at_alternative g c x.1) y → IsSound g (core.If c x.0 y.0, behind_both g x.1 y.1)
    branches_sound x y grows tested h k = record {
      walk = walk_meeting vars first.flow (behind_block first y.1) first_later beside_back second;
      more = λ i t e. k.more i t (h.more i t e);
      keeps = declares_on g (behind_block first y.1) (behind_both g x.1 y.1) le_all (declares_on g first (behind_block first y.1) le g_first first_second) (declares_knowing (met first.flow (behind_block first y.1).flow) (behind_block first y.1) (met_behind vars first.flow (behind_block first y.1).flow first_later second.between beside));
      breaks = λ n t q. k.breaks n t (h.breaks n t q);
      continues = λ n t q. k.continues n t (h.continues n t q);
      typed = λ reaches. typed.choice (tested (before (middle reaches))).typed (h.typed (middle reaches)) (statement_from frame types all_scalar g (at_alternative g c x.1) y.0 grows (k.typed reaches));
      runs = λ reaches n calls low s at.
          runs_on frame budget n low types s Told Q (value_of true setting (K n) c s) _ (tested_goes frame types all_scalar vars budget sandbox trusted n low calls g w (before (middle reaches)) c (tested (before (middle reaches))).type (tested (before (middle reaches))).typed s at)
          (λ v t after q kept. chosen_runs frame types all_scalar vars budget sandbox trusted n low Q (truth v) _ _
          (λ e. runs_further frame budget n low types (Ending (when c true g) x.1) Q (effect true setting (K n) x.0 t)
          (h.runs (middle reaches) n calls low t (record { kept = kept; known = subst (λ b. FitsAlike structs (length g.locals) (told g.locals c b g.flow) t) e q })) first_ends)
          (λ e. runs_further frame budget n low types (Ending (at_alternative g c x.1) y.1) Q (effect true setting (K n) y.0 t)
          (k.runs reaches n calls low t (record { kept = kept; known = fits_further structs (length g.locals) (length x.1.locals) _ t le (subst (λ b. FitsAlike structs (length g.locals) (told g.locals c b g.flow) t) e q) }))
          (λ flow u r. (ends_before g (at_alternative g c x.1) grows flow u r.0, so_meeting structs vars first.flow (behind_block first y.1) first_later beside second flow u (so_block structs vars first y.1 k.walk le' flow u r.1)))));
    }
      where
        middle : Reached y.1 → Reached x.1
        middle reaches i t e = reaches i t (k.more i t e)

        before : Reached x.1 → Reached g
        before reaches i t e = reaches i t (h.more i t e)

        first : Scope
        first = behind_block g x.1

        x_keeps : Declares g x.1
        x_keeps = declares_on g (when c true g) x.1 (omega arith) (declares_knowing (told g.locals c true g.flow) g (told_beside g.locals vars c true g.flow w.few w.between)) h.keeps

        first_walk : IsWalk vars (behind_block g x.1)
        first_walk = block_walk g w x.1 h.more x_keeps h.walk

        le : length g.locals ≤ length x.1.locals
        le = extends_length g.locals x.1.locals h.more

        le' : length x.1.locals ≤ length y.1.locals
        le' = extends_length x.1.locals y.1.locals k.more

        le_all : length g.locals ≤ length y.1.locals
        le_all = let a = le in let b = le' in omega (arith, a, b)

        g_first : Declares g (behind_block g x.1)
        g_first = block_declares vars g x.1 le x_keeps h.walk

        -- the alternative begins where the condition came out false, among the locals behind the first branch
        alternative_beside : AreBeside first.flow (at_alternative g c x.1).flow
        alternative_beside = beside_sym (told g.locals c false g.flow) first.flow (untaken_beside g w c x.1 h.more x_keeps h.walk)

        first_declares : Declares first y.1
        first_declares = declares_on first (at_alternative g c x.1) y.1 (omega arith) (declares_knowing (told g.locals c false g.flow) first alternative_beside) k.keeps

        second : IsWalk vars (behind_block first y.1)
        second = block_walk first first_walk y.1 k.more first_declares k.walk

        first_second : Declares first (behind_block first y.1)
        first_second = block_declares vars first y.1 le' first_declares k.walk

        -- among the locals behind the second branch
        first_later : IsBetween y.1.structs y.1.locals vars (behind_block g x.1).flow
        first_later = subst (λ known. IsBetween known y.1.locals vars (behind_block g x.1).flow) first_declares.structs (between_more x.1.locals y.1.locals vars (behind_block g x.1).flow k.more first_walk.between)

        -- behind both branches the same bounds are declared
        beside : AreBeside first.flow (behind_block first y.1).flow
        beside =
            beside_of vars (length first.locals) first.flow first.flow (behind_block first y.1).flow first_later second.between (outside_here (length first.locals) first.flow first_walk.beyond)
            (block_outside_of vars first y.1 le' first_declares k.walk)

        beside_back : AreBeside (behind_block first y.1).flow first.flow
        beside_back = beside_sym first.flow (behind_block first y.1).flow beside

        Q : Flow → State → Type 0
        Q flow t = Ending g (behind_both g x.1 y.1) flow t

        first_ends : (flow : Flow) (u : State) → Ending (when c true g) x.1 flow u → Ending g (behind_both g x.1 y.1) flow u
        first_ends Next u r = (
          tt,
          fits_first structs vars (length y.1.locals) u first.flow (behind_block first y.1).flow first_later second.between beside
              (fits_further structs (length x.1.locals) (length y.1.locals) first.flow u le' (known_block structs vars g x.1 h.walk le u r.1)),
        )
        first_ends Broke u r = (r.0, k.breaks (length y.1.locals) u (way_further structs (length x.1.locals) (length y.1.locals) x.1.breaks u le' r.1))
        first_ends Continued u r = (r.0, k.continues (length y.1.locals) u (way_further structs (length x.1.locals) (length y.1.locals) x.1.continues u le' r.1))
        first_ends (Returned v) u r = (r.0, tt)

  -- ---- loops

  marks_many : (g : Scope) (body : Statement) (step : Option Assignment) → length (step_marked g.visible step (marked (length g.locals) g.visible body (replicate (length g.locals) false))) ≡ length g.locals
  marks_many g body step =
      (step_within g.visible step (marked (length g.locals) g.visible body (replicate (length g.locals) false))).many
      ∙ ((marked_within (length g.locals) g.visible body (replicate (length g.locals) false)).many ∙ length-replicate (length g.locals) false)

  module _ (g : Scope) (w : IsWalk vars g) (body : Statement) (step : Option Assignment) (c : core.Expression) where
    abbrev turn : Scope
    turn = in_loop (when c true (at_loop body step g))

    turn_walk : IsWalk vars (in_loop (when c true (at_loop body step g)))
    turn_walk = walk_in_loop vars (when c true (at_loop body step g)) (walk_when vars c true (at_loop body step g) (walk_head vars body step g w))

    loop_sound : (x y : Walked) → (Reached (at_loop body step g) → IsScalarValue frame types all_scalar (at_loop body step g) c) → IsSound turn x → Going (before_step g x.1) y
        → IsMarked (length g.locals) (hidden_by (length g.locals) body g.visible) (marked (length g.locals) g.visible body) x → IsMarked (length g.locals) g.visible (step_marked g.visible step) y
        → IsSound g (core.Loop c x.0 y.0, behind_loop g (at_loop body step g) c y.1)
    loop_sound x y tested h k x_marks y_marks = record {
      walk = walk_behind vars g (at_loop body step g) c y.1 y_keeps.structs (λ i t e. k.more i t (h.more i t e)) y_keeps.loop head_beside last_same w.few w head_walk.between k.walk;
      more = λ i t e. k.more i t (h.more i t e);
      keeps = record { same = λ p low. behind_same p low; loop = refl; structs = y_keeps.structs };
      breaks = λ n t q. q;
      continues = λ n t q. q;
      typed = λ reaches. typed.repeat (tested (before reaches)).typed (h.typed (middle reaches)) (k.typed reaches g.result g.result_bounds false);
      runs = λ reaches n calls low s at.
          loop_on frame types all_scalar vars budget sandbox trusted g w body step (marks_many g body step) c (tested (before reaches)).type x.0 y.0 x.1 y.1 h.walk k.walk h.more k.more k.breaks y_keeps.structs x_keeps.loop y_keeps.loop inside_same last_same
          (x_marks.only (λ y. slice_index_or marks y true) none (length-replicate (length g.locals) false) (covers_before (λ y. slice_index_or marks y true) behind marks (step_within g.visible step behind) (λ i e. e)))
          (y_marks.only (λ y. slice_index_or marks y true) behind ((marked_within (length g.locals) g.visible body none).many ∙ length-replicate (length g.locals) false) (λ i e. e))
          reaches (tested (before reaches)).typed (λ m calls' low' t at'. h.runs (middle reaches) m calls' low' t at') (λ m calls' low' t at'. k.runs reaches m calls' low' t at')
          n low s s calls at.known (moved_here (λ y. slice_index_or marks y true) s) ((at.known s (alike_here (length g.locals) s)).declared w.between.settled.apart) at.kept;
    }
      where
        middle : Reached y.1 → Reached x.1
        middle reaches i t e = reaches i t (k.more i t e)

        before : Reached y.1 → Reached (at_loop body step g)
        before reaches i t e = reaches i t (k.more i t (h.more i t e))

        head_walk : IsWalk vars (at_loop body step g)
        head_walk = walk_head vars body step g w

        head_beside : AreBeside g.flow (at_loop body step g).flow
        head_beside = (flows_stay_alike.0 g.flow).enter_loop (assigned_in g body step)

        le : length g.locals ≤ length x.1.locals
        le = extends_length g.locals x.1.locals h.more

        -- what the body declares, against the head of the loop
        x_keeps : Declares (at_loop body step g) x.1
        x_keeps = declares_on (at_loop body step g) turn x.1 (omega arith) (declares_turn (at_loop body step g) c head_walk) h.keeps

        inside_same : (p : ℕ) → p < length g.locals → declared_at x.1.flow p ≡ declared_at g.flow p
        inside_same p low = x_keeps.same p low ∙ head_beside.declared p

        step_declares : Declares (at_loop body step g) (before_step g x.1)
        step_declares = step_keeps vars g (at_loop body step g) x.1 le refl x_keeps.loop x_keeps h.walk

        y_keeps : Declares (at_loop body step g) y.1
        y_keeps = declares_on (at_loop body step g) (before_step g x.1) y.1 le step_declares k.keeps

        last_same : (p : ℕ) → p < length g.locals → declared_at y.1.flow p ≡ declared_at g.flow p
        last_same p low = y_keeps.same p low ∙ head_beside.declared p

        behind_same : (p : ℕ) → p < length g.locals → declared_at (behind_loop g (at_loop body step g) c y.1).flow p ≡ declared_at g.flow p
        behind_same p low = loop_same vars g (at_loop body step g) c y.1 y_keeps.structs (λ i t e. k.more i t (h.more i t e)) y_keeps.loop head_beside last_same w.few w head_walk.between k.walk p low

        none : List Bool
        none = replicate (length g.locals) false

        behind : List Bool
        behind = marked (length g.locals) g.visible body (replicate (length g.locals) false)

        marks : List Bool
        marks = step_marked g.visible step (marked (length g.locals) g.visible body (replicate (length g.locals) false))

  -- ---- calls, returns and jumps

  alone_plain : (g : Scope) (c : Called) → IsFreshCall c → IsPlain [] (alone c)
  alone_plain g (GivesValue type value) h = tt
  alone_plain g (GivesNothing call) h = h

  call_goes : (g : Scope) → IsWalk vars g → (c : Called) → IsFreshCall c → (Reached g → IsSimple frame types g (alone c)) → Going g (alone c, g)
  call_goes g w c h simple = record {
    walk = w;
    breaks = refl;
    continues = refl;
    more = λ k t e. e;
    keeps = declares_here g;
    typed = λ reaches. simple_any frame types all_scalar g (alone c) (simple reaches);
    runs = λ reaches n calls low s at.
        runs_further frame budget n low types (λ flow t. IsNext flow t × IsMovedTo (λ y. false) s t) (λ flow t. IsNext flow t × IsKnown structs g t) (effect true setting (K n) (alone c) s)
        (runs_both frame budget n low types IsNext (λ (flow : Flow) (t : State). IsMovedTo (λ y. false) s t) (effect true setting (K n) (alone c) s)
        (simple_runs frame budget n sandbox trusted (K n) (calls n (omega arith)) low types g w.between.flow (walk_tracked vars g w) reaches (simple reaches) s (at.known, at.kept))
        (effect_moves true setting (K n) (knots_move true setting n) (λ y. false) (alone c) s (call_only (λ y. false) (alone c) (alone_plain g c h))))
        (λ flow t q. (q.0, fits_moved structs (length g.locals) g.flow w.between.flow (λ y. false) s t q.1 (λ y tracked. refl) at.known));
  }

  -- a statement that returns what its function does
  pub data IsReturnFrom (g : Scope) : core.Statement → Type 0 where
    gives : {e : core.Expression} {t : CType} → g.result ≡ Some t → HasType frame types g e t → IsReturned frame.structs g e t g.result_bounds → IsReturnFrom g (core.Return e)
    gives_nothing : g.result ≡ None → IsReturnFrom g core.ReturnNothing

  abbrev IsReturnIn : Scope → core.Statement → Type 0
  IsReturnIn g x = Reached g → IsReturnFrom g x

  return_typed : (g : Scope) {x : core.Statement} → IsReturnFrom g x → IsIn frame types all_scalar g x
  return_typed g (gives declared h asked) = typed.returned declared h asked
  return_typed g (gives_nothing declared) = typed.returned_nothing declared

  returns : (g : Scope) (w : IsWalk vars g) {x : core.Statement} → IsReturnFrom g x → Reached g → (n : ℕ) → Calls n → (low : ℕ) (s : State) → Stands n low g s → Runs frame budget n low types (Ending g (cut g)) (effect true setting (K n) x s)
  returns g w (gives {e = e} {t = t} declared h asked) reaches n calls low s at =
      runs_on frame budget n low types s (λ v u. OfType frame t v u × HasResult frame.structs (Some t) g.result_bounds (Some v) u) (Ending g (cut g)) (value_of true setting (K n) e s) _ (returned_goes frame budget n sandbox trusted (K n) (calls n (omega arith)) low types g w.between.flow (walk_tracked vars g w) reaches t g.result_bounds h asked s (at.known, at.kept))
      (λ v u _ x kept. ((subst (λ r. IsAnswer frame r (Some v) u × HasResult frame.structs r g.result_bounds (Some v) u) (sym declared) x, tt), kept))
  returns g w (gives_nothing declared) reaches n calls low s at = ((subst (λ r. IsAnswer frame r None s × HasResult frame.structs r g.result_bounds None s) (sym declared) (tt, tt), tt), at.kept)

  return_sound : (g : Scope) → IsWalk vars g → (x : core.Statement) → IsReturnIn g x → IsSound g (x, cut g)
  return_sound g w x h = record {
    walk = walk_cut vars g w;
    more = λ k t e. e;
    keeps = declares_knowing (cut_off g.flow) g (flows_stay_alike.0 g.flow).cut;
    breaks = λ n t q. q;
    continues = λ n t q. q;
    typed = λ reaches. return_typed g (h reaches);
    runs = λ reaches n calls low s at. returns g w (h reaches) reaches n calls low s at;
  }

  break_sound : (g : Scope) → IsWalk vars g → g.in_loop ≡ true → IsSound g (core.Break, broken g)
  break_sound g w loops = record {
    walk = walk_broken vars g w;
    more = λ k t e. e;
    keeps = record { same = λ p low. refl; loop = refl; structs = refl };
    breaks = λ n t q. on_way_before structs vars n t g.structs g.locals g.outside g.flow (way_out g) g.breaks (way_out_between vars g w) (way_out_outside vars g w) w.breaks q;
    continues = λ n t q. q;
    typed = λ reaches. subst (λ l. IsStatement frame types g.result g.result_bounds l core.Break) (sym loops) typed.broken;
    runs = λ reaches n calls low s at. ((loops, on_way_here structs vars (length g.locals) s g.structs g.locals g.outside g.flow (way_out g) g.breaks (way_out_between vars g w) (way_out_outside vars g w) w.breaks (known_out structs vars g w s at.known)), at.kept);
  }

  continue_sound : (g : Scope) → IsWalk vars g → g.in_loop ≡ true → IsSound g (core.Continue, continued g)
  continue_sound g w loops = record {
    walk = walk_continued vars g w;
    more = λ k t e. e;
    keeps = record { same = λ p low. refl; loop = refl; structs = refl };
    breaks = λ n t q. q;
    continues = λ n t q. on_way_before structs vars n t g.structs g.locals g.outside g.flow (way_out g) g.continues (way_out_between vars g w) (way_out_outside vars g w) w.continues q;
    typed = λ reaches. subst (λ l. IsStatement frame types g.result g.result_bounds l core.Continue) (sym loops) typed.continued;
    runs = λ reaches n calls low s at. ((loops, on_way_here structs vars (length g.locals) s g.structs g.locals g.outside g.flow (way_out g) g.continues (way_out_between vars g w) (way_out_outside vars g w) w.continues (known_out structs vars g w s at.known)), at.kept);
  }

  none_sound : (g : Scope) → IsWalk vars g → AreSound g (core.NoMore, g)
  none_sound g w = record { walk = w; more = λ k t e. e; keeps = declares_here g; breaks = λ n t q. q; continues = λ n t q. q; typed = λ reaches. typed.no_more; runs = λ reaches n calls low s at. ((tt, at.known), at.kept) }

  both_sound : (g : Scope) → IsWalk vars g → (x y : Walked) → Grows g x.1 → Grows x.1 y.1 → IsSound g x → IsSound x.1 y → IsSound g (both x.0 y.0, behind_block g y.1)
  both_sound g w x y gx gy a b = block_sound g w (core.Then x.0 (core.Then y.0 core.NoMore), y.1) (then_sound g x (core.Then y.0 core.NoMore, y.1) gx a (then_sound x.1 y (core.NoMore, y.1) gy b (none_sound y.1 b.walk)))

  -- ---- the walk

  -- where the alternative begins
  alternative_walk : (g : Scope) (w : IsWalk vars g) (c : core.Expression) (x : Walked) → IsSound (when c true g) x → IsWalk vars (at_alternative g c x.1)
  alternative_walk g w c x h =
      let keeps = declares_on g (when c true g) x.1 (omega arith) (declares_knowing (told g.locals c true g.flow) g (told_beside g.locals vars c true g.flow w.few w.between)) h.keeps in
      walk_knowing vars (told g.locals c false g.flow) (behind_block g x.1) (no_later g w c x.1 h.more keeps)
      (beside_sym (told g.locals c false g.flow) (behind_block g x.1).flow (untaken_beside g w c x.1 h.more keeps h.walk)) (block_walk g w x.1 h.more keeps h.walk)

  -- and the step of a loop
  stepped : (g : Scope) (w : IsWalk vars g) (body : Statement) (step : Option Assignment) (c : core.Expression) (x : Walked) → IsSound (in_loop (when c true (at_loop body step g))) x → IsWalk vars (before_step g x.1)
  stepped g w body step c x h = walk_step vars g x.1 (extends_length g.locals x.1.locals h.more) h.keeps.loop h.walk

  -- a condition, where the locals are reached
  condition_typed : (at : Places) (g : Scope) → IsWalk vars g → KnowsFile frame g → (x : Expression) → Promises (λ (e : core.Expression). Reached g → IsScalarValue frame types all_scalar g e) (condition at g x)
  condition_typed at g w file x = later_promises (Reached g) (IsScalarValue frame types all_scalar g) (condition at g x) (λ reaches. condition_promises frame types all_scalar at g (knows_here frame types all_scalar vars budget sandbox trusted g w file reaches) x)

  optional_typed : (at : Places) (g : Scope) → IsWalk vars g → KnowsFile frame g → (o : Option Expression) → Promises (λ (e : core.Expression). Reached g → IsScalarValue frame types all_scalar g e) (optional_condition at g o)
  optional_typed at g w file o = later_promises (Reached g) (IsScalarValue frame types all_scalar g) (optional_condition at g o) (λ reaches. optional_promises frame types all_scalar at g (knows_here frame types all_scalar vars budget sandbox trusted g w file reaches) o)

  headed : (g : Scope) → KnowsFile frame g → (body : Statement) (step : Option Assignment) → KnowsFile frame (at_loop body step g)
  headed g file body step = file_known frame g (at_loop body step g) (head_grows body step g) file

  turned_known : (g : Scope) → KnowsFile frame g → (body : Statement) (step : Option Assignment) (c : core.Expression) → KnowsFile frame (in_loop (when c true (at_loop body step g)))
  turned_known g file body step c = in_loop_known frame (when c true (at_loop body step g)) (file_known frame (at_loop body step g) (when c true (at_loop body step g)) (when_grows c true (at_loop body step g)) (headed g file body step))

  -- a return, where the locals are reached
  returned_in : (g : Scope) (t : Typed) (o : Option CType) (r : Option Bounds) (span : Span) → g.result ≡ o → g.result_bounds ≡ r → Reached g → Knows frame types g → Fits frame types g t → Promises (IsReturnFrom g) (returned g.flow o r t span)
  returned_in g t None r span e q reaches knows h = tt
  returned_in g t (Some type) r span e q reaches knows h =
      so_converted frame types g knows (IsReturnFrom g) t type span _ h (λ v is typed. needs_promises (IsReturnFrom g) (meets_declared g.flow r t type) E17 span (Passes (core.Return v))
      (λ met. gives e (typed (result_type_met frame types g knows r t type met)) (subst (IsReturned frame.structs g v type) (sym q) (result_asked frame types g knows r t type v (λ b i. knows.result b (q ∙ i)) h is met))))

  nothing_in : (g : Scope) (o : Option CType) (span : Span) → g.result ≡ o → Promises (IsReturnFrom g) (returned_nothing o span)
  nothing_in g None span e = gives_nothing e
  nothing_in g (Some type) span e = tt

  return_in : (at : Places) (g : Scope) → IsWalk vars g → KnowsFile frame g → (o : Option Expression) (span : Span) → Promises (IsReturnIn g) (return at g o span)
  return_in at g w file None span = later_promises (Reached g) (IsReturnFrom g) (return at g None span) (λ reaches. nothing_in g g.result span refl)
  return_in at g w file (Some x) span =
      later_promises (Reached g) (IsReturnFrom g) (return at g (Some x) span)
      (λ reaches. let knows = knows_here frame types all_scalar vars budget sandbox trusted g w file reaches in
      passing_promises (Fits frame types g) (IsReturnFrom g) (typed_at at g x) _ (typed_promises frame types g knows at x) (λ t h. returned_in g t g.result g.result_bounds span refl refl reaches knows h))

  mutual
    pub statement_sound : (at : Places) (g : Scope) (x : Statement) → IsWalk vars g → KnowsFile frame g → Promises (IsSound g) (statement at g x)
    statement_sound at g (s.Block mark inner span) w file =
        passing_promises (AreSound g) (IsSound g) (statements at g inner) _ (statements_sound at g inner w file) (λ v h. needs_promises (IsSound g) (not (is_unchecked mark || g.is_off)) E15 span _ (λ on. block_sound g w v h))
    statement_sound at g (s.Bundle assignments span) w file = goes_promised g (bundle at g assignments span) (bundle_goes frame types all_scalar vars budget sandbox trusted at g w file assignments span)
    statement_sound at g (s.Declare d span) w file = goes_promised g (declaration at g d) (declaration_goes frame types all_scalar vars budget sandbox trusted at g w file d)
    statement_sound at g (s.Assign a span) w file = goes_promised g (assigning at g a) (assigning_goes frame types all_scalar vars budget sandbox trusted at g w file a)
    statement_sound at g (s.CallAlone call span) w file =
        passing_promises (λ (c : Called). IsFreshCall c × (Reached g → IsSimple frame types g (alone c))) (IsSound g) (call_typed at g call) _
        (both_promise IsFreshCall (λ (c : Called). Reached g → IsSimple frame types g (alone c)) (call_typed at g call) (call_typed_fresh at g call)
        (later_promises (Reached g) (λ (c : Called). IsSimple frame types g (alone c)) (call_typed at g call)
        (λ reaches. promised_so (FitsCall frame types g) (λ (c : Called). IsSimple frame types g (alone c)) (call_typed at g call) (call_promises frame types g (knows_here frame types all_scalar vars budget sandbox trusted g w file reaches) at call)
        (λ c h. alone_typed frame types all_scalar g c h))))
        (λ c h. goes_sound g (alone c, g) (call_goes g w c h.0 h.1))
    statement_sound at g (s.Empty span) w file = goes_sound g (core.Nothing, g) (nothing_goes frame types all_scalar vars budget sandbox trusted g w)
    statement_sound at g (s.If test consequent span) w file =
        passing_promises (λ (e : core.Expression). Reached g → IsScalarValue frame types all_scalar g e) (IsSound g) (condition at g test) _ (condition_typed at g w file test)
        (λ c tested. passing_promises (IsSound (when c true g)) (IsSound g) (statement at (when c true g) consequent) _
        (statement_sound at (when c true g) consequent (walk_when vars c true g w) (file_known frame g (when c true g) (when_grows c true g) file)) (λ x h. branch_sound g w c x tested h))
    statement_sound at g (s.IfElse test consequent alternative span) w file =
        passing_promises (λ (e : core.Expression). Reached g → IsScalarValue frame types all_scalar g e) (IsSound g) (condition at g test) _ (condition_typed at g w file test)
        (λ c tested. passing_promises (λ (x : Walked). GrowsTo (when c true g) x × IsSound (when c true g) x) (IsSound g) (statement at (when c true g) consequent) _
        (both_promise (GrowsTo (when c true g)) (IsSound (when c true g)) (statement at (when c true g) consequent) (statement_grows at (when c true g) consequent)
        (statement_sound at (when c true g) consequent (walk_when vars c true g w) (file_known frame g (when c true g) (when_grows c true g) file)))
        (λ x h. let grows = alternative_grows g c x.1 h.0 in
        passing_promises (IsSound (at_alternative g c x.1)) (IsSound g) (statement at (at_alternative g c x.1) alternative) _
        (statement_sound at (at_alternative g c x.1) alternative (alternative_walk g w c x h.1)
        (file_known frame g (at_alternative g c x.1) grows file))
        (λ y k. branches_sound g w c x y grows tested h.1 k)))
    statement_sound at g (s.While test body span) w file =
        passing_promises (λ (e : core.Expression). Reached (at_loop body None g) → IsScalarValue frame types all_scalar (at_loop body None g) e) (IsSound g) (condition at (at_loop body None g) test) _
        (condition_typed at (at_loop body None g) (walk_head vars body None g w) (headed g file body None) test)
        (λ c tested. let turned = in_loop (when c true (at_loop body None g)) in
        passing_promises (λ (x : Walked). IsSound turned x × IsMarked (length g.locals) (hidden_by (length g.locals) body g.visible) (marked (length g.locals) g.visible body) x) (IsSound g) (statement at turned body) _
        (both_promise (IsSound turned) (IsMarked (length g.locals) (hidden_by (length g.locals) body g.visible) (marked (length g.locals) g.visible body)) (statement at turned body)
        (statement_sound at turned body (turn_walk g w body None c) (turned_known g file body None c)) (statement_marked at turned body (length g.locals) g.visible (hidden_here (length g.locals) g.visible) (omega arith)))
        (λ x h. loop_sound g w body None c x (core.Nothing, before_step g x.1) tested h.0 (nothing_goes frame types all_scalar vars budget sandbox trusted (before_step g x.1) (stepped g w body None c x h.0)) h.1
        (step_marked_so at (before_step g x.1) None (length g.locals) g.visible (hidden_here (length g.locals) g.visible) (extends_length g.locals x.1.locals h.0.more))))
    statement_sound at g (s.For initial test step body span) w file =
        passing_promises (λ (first : Walked). GrowsTo g first × Going g first) (IsSound g) (first_part at g initial) _
        (both_promise (GrowsTo g) (Going g) (first_part at g initial) (first_grows at g initial) (first_goes frame types all_scalar vars budget sandbox trusted at g w file initial))
        (λ first i. let known = file_known frame g first.1 i.0 file in
        passing_promises (λ (e : core.Expression). Reached (at_loop body step first.1) → IsScalarValue frame types all_scalar (at_loop body step first.1) e) (IsSound g) (optional_condition at (at_loop body step first.1) test) _
        (optional_typed at (at_loop body step first.1) (walk_head vars body step first.1 i.1.walk) (headed first.1 known body step) test)
        (λ c tested. let turned = in_loop (when c true (at_loop body step first.1)) in
        passing_promises (λ (x : Walked). GrowsTo turned x × (IsSound turned x × IsMarked (length first.1.locals) (hidden_by (length first.1.locals) body first.1.visible) (marked (length first.1.locals) first.1.visible body) x)) (IsSound g) (statement at turned body) _
        (both_promise (GrowsTo turned) (λ (x : Walked). IsSound turned x × IsMarked (length first.1.locals) (hidden_by (length first.1.locals) body first.1.visible) (marked (length first.1.locals) first.1.visible body) x) (statement at turned body) (statement_grows at turned body)
        (both_promise (IsSound turned) (IsMarked (length first.1.locals) (hidden_by (length first.1.locals) body first.1.visible) (marked (length first.1.locals) first.1.visible body)) (statement at turned body)
        (statement_sound at turned body (turn_walk first.1 i.1.walk body step c) (turned_known first.1 known body step c)) (statement_marked at turned body (length first.1.locals) first.1.visible (hidden_here (length first.1.locals) first.1.visible) (omega arith))))
        (λ x h. let last = before_step first.1 x.1 in
        passing_promises (λ (y : Walked). GrowsTo last y × (Going last y × IsMarked (length first.1.locals) first.1.visible (step_marked first.1.visible step) y)) (IsSound g) (optional_step at last step) _
        (both_promise (GrowsTo last) (λ (y : Walked). Going last y × IsMarked (length first.1.locals) first.1.visible (step_marked first.1.visible step) y) (optional_step at last step) (optional_grows at last step)
        (both_promise (Going last) (IsMarked (length first.1.locals) first.1.visible (step_marked first.1.visible step)) (optional_step at last step)
        (step_goes frame types all_scalar vars budget sandbox trusted at last (stepped first.1 i.1.walk body step c x h.1.0) (file_known frame first.1 last (step_grows first.1 body step c x.1 h.0) known) step)
        (step_marked_so at last step (length first.1.locals) first.1.visible (hidden_here (length first.1.locals) first.1.visible) (extends_length first.1.locals x.1.locals h.1.0.more))))
        (λ y k. both_sound g w first (core.Loop c x.0 y.0, behind_loop first.1 (at_loop body step first.1) c y.1) i.0
        (behind_grows first.1 body step c y.1 (grows_further first.1 last y.1 (step_grows first.1 body step c x.1 h.0) k.0))
        (goes_sound g first i.1) (loop_sound first.1 i.1.walk body step c x y tested h.1.0 k.1.0 h.1.1 k.1.1)))))
    statement_sound at g (s.Return value span) w file = passing_promises (IsReturnIn g) (IsSound g) (return at g value span) _ (return_in at g w file value span) (λ x h. return_sound g w x h)
    statement_sound at g (s.Break span) w file = needs_promises (IsSound g) g.in_loop E30 span _ (λ loops. break_sound g w loops)
    statement_sound at g (s.Continue span) w file = needs_promises (IsSound g) g.in_loop E30 span _ (λ loops. continue_sound g w loops)

    pub statements_sound : (at : Places) (g : Scope) (xs : Statements) → IsWalk vars g → KnowsFile frame g → Promises (AreSound g) (statements at g xs)
    statements_sound at g s.NoMore w file = none_sound g w
    statements_sound at g (s.Then first others) w file =
        passing_promises (λ (x : Walked). GrowsTo g x × IsSound g x) (AreSound g) (statement at g first) _
        (both_promise (GrowsTo g) (IsSound g) (statement at g first) (statement_grows at g first) (statement_sound at g first w file))
        (λ x h. passing_promises (AreSound x.1) (AreSound g) (statements at x.1 others) _ (statements_sound at x.1 others h.1.walk (file_known frame g x.1 h.0 file)) (λ y k. then_sound g x y h.0 h.1 k))

pub conditions_are_so : ConditionsAreSo
conditions_are_so frame types g c t h flow few audited setting ticks s has zeros known =
    so_further (λ v t. IsAfter s t × FitsAlike frame.structs (length g.locals) (told g.locals c (truth v) g.flow) t) (λ v t. IsKnown frame.structs (when c (truth v) g) t) (value_of audited setting (knot audited setting ticks) c s)
    (told_fits audited setting (knot audited setting ticks) (knots_move audited setting ticks).calls frame.structs g.locals c g.flow flow few (right_typed frame types h) s has zeros known) (λ v t k. k.1)

pub marked_alone : MarkedAlone
marked_alone at g x w e audited setting ticks s =
    let many = length g.locals in
    let marks = marked many g.visible x (replicate many false) in
    let is = subst (Promises (IsMarked many (hidden_by many x g.visible) (marked many g.visible x))) e (statement_marked at g x many g.visible (hidden_here many g.visible) (omega arith)) in
    so_further (λ (flow : Flow) (t : State). IsMovedTo (λ y. slice_index_or marks y true) s t) (λ (flow : Flow) (t : State). ChangesMarked marks s t) (effect audited setting (knot audited setting ticks) w.0 s)
    (effect_moves audited setting (knot audited setting ticks) (knots_move audited setting ticks) (λ y. slice_index_or marks y true) w.0 s (is.only (λ y. slice_index_or marks y true) (replicate many false) (length-replicate many false) (λ y h. h)))
    (λ flow t k. record { grown = k.grown; same = k.same; others = k.others })
