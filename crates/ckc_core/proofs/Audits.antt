-- The audit changes nothing where it finds nothing: an induction over the ticks, and over the tree.
use Rattle.std.proofs.Common.{ℕ, zero, suc, ◌+◌, Bool, true, false, List, [], length, replicate, Option, Some, None, refl, sym, ap, subst}
use Rattle.std.specs.Prelude.{◌==◌, slice_get}
use Rattle.flat_bytes.specs.Blocks.{first_offset}
use Rattle.act_words.specs.declared.settings.Settings.{Settings}
use Rattle.act_words.specs.Acts.{Passed}
use Rattle.act_words.specs.World.{new_world}
use Rattle.act_words.specs.Touches.{Asked, Got, Ended, spend_tick, enter_call, next_input, touch, until_return}
use Rattle.ckc_core.specs.declared.program.Site.{Site}
use Rattle.ckc_core.specs.declared.program.Callee.{Callee}
use Rattle.ckc_core.specs.declared.program.Callee.TheVariants as callees
use Rattle.ckc_core.specs.declared.program.PointerBounds.{PointerBounds}
use Rattle.ckc_core.specs.Outcome.{Gives, Ends, Stuck, Unsound, Short, and_then}
use Rattle.ckc_core.specs.Programs.{Import, ProgramOf, parted}
use Rattle.ckc_core.specs.Core as core
use Rattle.ckc_core.specs.States.{Value, State, in_world}
use Rattle.ckc_core.specs.Bounds.{with_ends, is_valid}
use Rattle.ckc_core.specs.Steps.{Result, Flow, Next, Broke, Continued, Returned, setting_of, given, variable_at, load_at, pointer_to, truth, same_place, test_given, arithmetic_of, compared, negated, complemented, low_byte_of, words_of, reply_as, back, passed, cross, cross_if, call_tainted, crossed, fit, parameters_of, takes, enter_if, called, result_given, choose, store_at, set_local, kept_if, is_char, printed, put, on_next, behind_turn, no_result, answer, locals_for, exit, initial, asked}
use Rattle.ckc_core.specs.Pointers.{number_given, ordered, not_null, allocated}
use Rattle.ckc_core.specs.Meaning.{Knot, Setting, sound_if, audit, site_of, bounds_of, cast_to, number_of, place_from, pointed, reached, storable, length_of, summed, target_of, value, values, place, effect, effects, body_if, body_of, knot, run_from}
use Rattle.ckc_core.specs.Audits.{Agrees, AuditChangesNothing}

same : {A : Type 0} (o : Result A) → Agrees o o
same (Gives v s) = refl
same (Ends ending s) = refl
same (Stuck site s) = refl
same (Unsound site s) = tt
same Short = refl

on : {A B : Type 0} (o o' : Result A) (next next' : A → State → Result B) → Agrees o o' → ((v : A) (s : State) → Agrees (next v s) (next' v s)) → Agrees (and_then o next) (and_then o' next')
on (Gives v s) o' next next' h more = subst (λ x. Agrees (next v s) (and_then x next')) (sym h) (more v s)
on (Ends ending s) o' next next' h more = ap (λ x. and_then x next') h
on (Stuck site s) o' next next' h more = ap (λ x. and_then x next') h
on (Unsound site s) o' next next' h more = tt
on Short o' next next' h more = ap (λ x. and_then x next') h

asked_on : {A B : Type 0} (o : Asked A) (s : State) (next next' : A → State → Result B) → ((v : A) (t : State) → Agrees (next v t) (next' v t)) → Agrees (asked o s next) (asked o s next')
asked_on (Got v w) s next next' more = more v (in_world w s)
asked_on (Ended ending w) s next next' more = refl

chosen : {A : Type 0} (test : Bool) (a a' b b' : Result A) → Agrees a a' → Agrees b b' → Agrees (choose test a b) (choose test a' b')
chosen true a a' b b' h i = h
chosen false a a' b b' h i = i

next_on : (rest rest' : State → Result Flow) (flow : Flow) (s : State) → Agrees (rest s) (rest' s) → Agrees (on_next rest flow s) (on_next rest' flow s)
next_on rest rest' Next s h = h
next_on rest rest' Broke s h = refl
next_on rest rest' Continued s h = refl
next_on rest rest' (Returned v) s h = refl

turned_on : (further further' : State → Result Flow) (flow : Flow) (s : State) → Agrees (further s) (further' s) → Agrees (behind_turn further flow s) (behind_turn further' flow s)
turned_on further further' Next s h = h
turned_on further further' Continued s h = h
turned_on further further' Broke s h = refl
turned_on further further' (Returned v) s h = refl

-- ---- pointers

sound_on : (test : Bool) (site : Site) (v : Value) (s : State) → Agrees (sound_if test site v s) (Gives v s)
sound_on true site v s = refl
sound_on false site v s = tt

audited_on : (bounds : Option PointerBounds) (v : Value) (s : State) → Agrees (audit true bounds v s) (audit false bounds v s)
audited_on None v s = refl
audited_on (Some p) v s = sound_on (is_valid p v s) p.site v s

module _ (program : ProgramOf core.Statements) (settings : Settings) where
  abbrev g : Setting
  g = setting_of program settings

  -- calls, further turns and the sandbox's turn follow
  pub record Agree (k k' : Knot) : Type 0 where
    pub call : (function : ℕ) (vs : List Value) (s : State) → Agrees (k.call function vs s) (k'.call function vs s)
    pub turn : (e : core.Expression) (x y : core.Statement) (s : State) → Agrees (k.turn e x y s) (k'.turn e x y s)
    pub sandbox : (s : State) → Agrees (k.sandbox s) (k'.sandbox s)

  module _ (k k' : Knot) (agree : Agree k k') where
    -- ---- calls

    passed_on : (i : Import) (site : Site) (s : State) → Agrees (passed k i site s) (passed k' i site s)
    passed_on i site s =
        let inside : State = record s { depth = s.depth + 1 } in
        on (and_then (k.sandbox inside) (back s)) (and_then (k'.sandbox inside) (back s)) (reply_as i.result site) (reply_as i.result site)
        (on (k.sandbox inside) (k'.sandbox inside) (back s) (back s) (agree.sandbox inside) (λ word t. same (back s word t)))
        (λ word t. same (reply_as i.result site word t))

    cross_on : (import : ℕ) (i : Import) (site : Site) (o : Option (List ℕ)) (s : State) → Agrees (cross g k import i site o s) (cross g k' import i site o s)
    cross_on import i site None s = refl
    cross_on import i site (Some words) s =
        asked_on (spend_tick settings.budget s.world) s _ _ (λ _ t. asked_on (enter_call t.depth t.world) t _ _
        (λ _ u. asked_on (touch (Passed import words) u.world) u _ _ (λ _ v. passed_on i site v)))

    crossed_on : (test : Bool) (import : ℕ) (i : Import) (site : Site) (vs : List Value) (s : State) → Agrees (cross_if test g k import i site vs s) (cross_if test g k' import i site vs s)
    crossed_on true import i site vs s = cross_on import i site (words_of vs) s
    crossed_on false import i site vs s = refl

    tainted_on : (import : ℕ) (o : Option Import) (site : Site) (vs : List Value) (s : State) → Agrees (call_tainted g k import o site vs s) (call_tainted g k' import o site vs s)
    tainted_on import None site vs s = refl
    tainted_on import (Some i) site vs s = crossed_on (i.parameters == length vs) import i site vs s

    entered_on : (test : Bool) (function : ℕ) (vs : List Value) (s : State) → Agrees (enter_if test g k function vs s) (enter_if test g k' function vs s)
    entered_on false function vs s = refl
    entered_on true function vs s =
        asked_on (spend_tick settings.budget s.world) s _ _ (λ _ t. asked_on (enter_call t.depth t.world) t _ _ (λ _ u. agree.call function vs u))

    called_on : (callee : Callee) (vs : List Value) (s : State) → Agrees (called g k callee vs s) (called g k' callee vs s)
    called_on (callees.Trusted function) vs s = entered_on (takes (slice_get program.functions function) vs) function vs s
    called_on (callees.Tainted import site) vs s = tainted_on import (slice_get program.imports import) site vs s

    -- ---- expressions

    mutual
      value_on : (e : core.Expression) (s : State) → Agrees (value true g k e s) (value false g k' e s)
      value_on (core.Number z) s = same (value true g k (core.Number z) s)
      value_on core.Null s = refl
      value_on (core.Local i bounds) s =
          on (given (slice_get s.locals i) s) (given (slice_get s.locals i) s) (audit true bounds) (audit false bounds) (same (given (slice_get s.locals i) s)) (λ v t. audited_on bounds v t)
      value_on (core.Load type p bounds) s =
          on (and_then (place true g k p s) (load_at type (site_of p))) (and_then (place false g k' p s) (load_at type (site_of p))) (audit true bounds) (audit false bounds)
          (on (place true g k p s) (place false g k' p s) (load_at type (site_of p)) (load_at type (site_of p)) (place_on p s) (λ at t. same (load_at type (site_of p) at t)))
          (λ v t. audited_on bounds v t)
      value_on (core.AddressOf p bounds) s =
          on (and_then (place true g k p s) pointer_to) (and_then (place false g k' p s) pointer_to) (audit true bounds) (audit false bounds)
          (on (place true g k p s) (place false g k' p s) pointer_to pointer_to (place_on p s) (λ at t. refl)) (λ v t. audited_on bounds v t)
      value_on (core.Negate operand site) s =
          on (value true g k operand s) (value false g k' operand s) (negated site) (negated site) (value_on operand s) (λ v t. same (negated site v t))
      value_on (core.Complement operand) s =
          on (value true g k operand s) (value false g k' operand s) complemented complemented (value_on operand s) (λ v t. same (complemented v t))
      value_on (core.Not operand) s = on (value true g k operand s) (value false g k' operand s) _ _ (value_on operand s) (λ v t. refl)
      value_on (core.Arithmetic operator left right site) s =
          on (value true g k left s) (value false g k' left s) _ _ (value_on left s)
          (λ a t. on (value true g k right t) (value false g k' right t) (arithmetic_of operator site a) (arithmetic_of operator site a) (value_on right t) (λ b u. same (arithmetic_of operator site a b u)))
      value_on (core.Compare comparison left right) s =
          on (value true g k left s) (value false g k' left s) _ _ (value_on left s)
          (λ a t. on (value true g k right t) (value false g k' right t) (compared comparison a) (compared comparison a) (value_on right t) (λ b u. same (compared comparison a b u)))
      value_on (core.Same left right) s =
          on (value true g k left s) (value false g k' left s) _ _ (value_on left s)
          (λ a t. on (value true g k right t) (value false g k' right t) _ _ (value_on right t) (λ b u. same (test_given (same_place a b) u)))
      value_on (core.AndAlso left right) s =
          on (value true g k left s) (value false g k' left s) _ _ (value_on left s)
          (λ a t. chosen (truth a) _ _ _ _ (on (value true g k right t) (value false g k' right t) _ _ (value_on right t) (λ b u. refl)) refl)
      value_on (core.OrElse left right) s =
          on (value true g k left s) (value false g k' left s) _ _ (value_on left s)
          (λ a t. chosen (truth a) _ _ _ _ refl (on (value true g k right t) (value false g k' right t) _ _ (value_on right t) (λ b u. refl)))
      value_on (core.LowByte operand) s =
          on (value true g k operand s) (value false g k' operand s) low_byte_of low_byte_of (value_on operand s) (λ v t. same (low_byte_of v t))
      value_on (core.Call callee arguments bounds) s =
          on (values true g k arguments s) (values false g k' arguments s) _ _ (values_on arguments s)
          (λ vs t. on (and_then (called g k callee vs t) result_given) (and_then (called g k' callee vs t) result_given) (audit true bounds) (audit false bounds)
          (on (called g k callee vs t) (called g k' callee vs t) result_given result_given (called_on callee vs t) (λ v u. same (result_given v u)))
          (λ v u. audited_on bounds v u))
      value_on core.NextInput s = asked_on (next_input s.world) s _ _ (λ z t. refl)
      value_on (core.Sum pointer direction number site bounds) s =
          on _ _ (audit true bounds) (audit false bounds)
          (on (value true g k pointer s) (value false g k' pointer s) _ _ (value_on pointer s)
          (λ v t. on (and_then (value true g k number t) (number_given (Some site))) (and_then (value false g k' number t) (number_given (Some site))) _ _
          (on (value true g k number t) (value false g k' number t) (number_given (Some site)) (number_given (Some site)) (value_on number t) (λ w u. same (number_given (Some site) w u)))
          (λ n u. same (summed direction site n v (with_ends (bounds_of pointer) v t.locals).ends u))))
          (λ v t. audited_on bounds v t)
      value_on (core.Order comparison left right site) s =
          on (value true g k left s) (value false g k' left s) _ _ (value_on left s)
          (λ a t. on (value true g k right t) (value false g k' right t) _ _ (value_on right t)
          (λ b u. same (and_then (not_null site a u) (λ _ w. and_then (not_null site b w) (λ _ x. ordered comparison (Some site) a b x)))))
      value_on (core.Allocate count element terminator bounds) s =
          on _ _ (audit true bounds) (audit false bounds)
          (on (and_then (value true g k count s) (number_given None)) (and_then (value false g k' count s) (number_given None)) (allocated settings.trusted terminator element) (allocated settings.trusted terminator element)
          (on (value true g k count s) (value false g k' count s) (number_given None) (number_given None) (value_on count s) (λ v t. same (number_given None v t)))
          (λ z t. same (allocated settings.trusted terminator element z t)))
          (λ v t. audited_on bounds v t)
      value_on (core.Length pointer site) s =
          on (value true g k pointer s) (value false g k' pointer s) _ _ (value_on pointer s)
          (λ v t. same (length_of settings.budget site v (with_ends (bounds_of pointer) v t.locals).ends t))
      value_on (core.Cast pointer bounds) s =
          on _ _ (audit true bounds) (audit false bounds)
          (on (value true g k pointer s) (value false g k' pointer s) _ _ (value_on pointer s)
          (λ v t. same (cast_to bounds (with_ends (bounds_of pointer) v t.locals) t)))
          (λ v t. audited_on bounds v t)

      values_on : (es : core.Arguments) (s : State) → Agrees (values true g k es s) (values false g k' es s)
      values_on core.Done s = refl
      values_on (core.More first rest) s =
          on (value true g k first s) (value false g k' first s) _ _ (value_on first s)
          (λ v t. on (values true g k rest t) (values false g k' rest t) _ _ (values_on rest t) (λ vs u. refl))

      place_on : (p : core.Place) (s : State) → Agrees (place true g k p s) (place false g k' p s)
      place_on (core.Direct object offset) s = same (variable_at g object offset s)
      place_on (core.Through pointer index offset site) s =
          on (value true g k pointer s) (value false g k' pointer s) _ _ (value_on pointer s)
          (λ v t. on (number_of true g k index t) (number_of false g k' index t) _ _ (index_on index t)
          (λ n u. same (reached index offset site (record { pointer = with_ends (bounds_of pointer) v t.locals; number = n }) u)))

      index_on : (index : core.Index) (s : State) → Agrees (number_of true g k index s) (number_of false g k' index s)
      index_on core.First s = refl
      index_on (core.Element number terminated) s =
          on (value true g k number s) (value false g k' number s) (number_given None) (number_given None) (value_on number s) (λ v t. same (number_given None v t))

    -- ---- statements

    target_on : (p : core.Place) (s : State) → Agrees (target_of true g k p s) (target_of false g k' p s)
    target_on (core.Direct object offset) s = same (target_of true g k (core.Direct object offset) s)
    target_on (core.Through pointer index offset site) s =
        on (pointed true g k pointer s) (pointed false g k' pointer s) _ _
        (on (value true g k pointer s) (value false g k' pointer s) _ _ (value_on pointer s) (λ v t. refl))
        (λ p t. on (number_of true g k index t) (number_of false g k' index t) _ _ (index_on index t) (λ n u. refl))

    mutual
      effect_on : (x : core.Statement) (s : State) → Agrees (effect true g k x s) (effect false g k' x s)
      effect_on core.Nothing s = refl
      effect_on (core.SetLocal local e) s =
          on (value true g k e s) (value false g k' e s) (set_local local) (set_local local) (value_on e s) (λ v t. same (set_local local v t))
      effect_on (core.Store type p e) s =
          on (target_of true g k p s) (target_of false g k' p s) _ _ (target_on p s)
          (λ q t. on (value true g k e t) (value false g k' e t) _ _ (value_on e t)
          (λ v u. same (and_then (place_from p q u) (λ at w. and_then (storable p q v w) (λ _ x. store_at type (site_of p) at v x)))))
      effect_on (core.UpdateLocal char local operator e site) s =
          on (given (slice_get s.locals local) s) (given (slice_get s.locals local) s) _ _ (same (given (slice_get s.locals local) s))
          (λ old t. on (value true g k e t) (value false g k' e t) _ _ (value_on e t)
          (λ v u. same (and_then (arithmetic_of operator site old v u) (λ new w. and_then (kept_if char new w) (set_local local)))))
      effect_on (core.Update type p operator e site) s =
          on (target_of true g k p s) (target_of false g k' p s) _ _ (target_on p s)
          (λ q t. on (place_from p q t) (place_from p q t) _ _ (same (place_from p q t))
          (λ at u. on (load_at type (Some site) at u) (load_at type (Some site) at u) _ _ (same (load_at type (Some site) at u))
          (λ old w. on (value true g k e w) (value false g k' e w) _ _ (value_on e w)
          (λ v x. same (and_then (arithmetic_of operator site old v x) (λ new y. and_then (kept_if (is_char type) new y)
          (λ kept z. and_then (storable p q kept z) (λ _ last. store_at type (Some site) at kept last))))))))
      effect_on (core.Evaluate e) s = on (value true g k e s) (value false g k' e s) _ _ (value_on e s) (λ v t. refl)
      effect_on (core.CallAlone callee arguments) s =
          on (values true g k arguments s) (values false g k' arguments s) _ _ (values_on arguments s)
          (λ vs t. on (called g k callee vs t) (called g k' callee vs t) no_result no_result (called_on callee vs t) (λ v u. same (no_result v u)))
      effect_on (core.Print e) s = on (value true g k e s) (value false g k' e s) printed printed (value_on e s) (λ v t. same (printed v t))
      effect_on (core.PutByte e) s = on (value true g k e s) (value false g k' e s) put put (value_on e s) (λ v t. same (put v t))
      effect_on (core.Block xs) s = effects_on xs s
      effect_on (core.If condition consequent alternative) s =
          on (value true g k condition s) (value false g k' condition s) _ _ (value_on condition s)
          (λ v t. chosen (truth v) _ _ _ _ (effect_on consequent t) (effect_on alternative t))
      effect_on (core.Loop condition body step) s =
          on (value true g k condition s) (value false g k' condition s) _ _ (value_on condition s)
          (λ v t. chosen (truth v) _ _ _ _
          (asked_on (spend_tick settings.budget t.world) t _ _
          (λ _ u. on (effect true g k body u) (effect false g k' body u) _ _ (effect_on body u)
          (λ flow w. turned_on _ _ flow w
          (on (effect true g k step w) (effect false g k' step w) _ _ (effect_on step w)
          (λ flow' x. next_on (k.turn condition body step) (k'.turn condition body step) flow' x (agree.turn condition body step x))))))
          refl)
      effect_on (core.Return e) s = on (value true g k e s) (value false g k' e s) _ _ (value_on e s) (λ v t. refl)
      effect_on core.ReturnNothing s = refl
      effect_on core.Break s = refl
      effect_on core.Continue s = refl

      effects_on : (xs : core.Statements) (s : State) → Agrees (effects true g k xs s) (effects false g k' xs s)
      effects_on core.NoMore s = refl
      effects_on (core.Then first others) s =
          on (effect true g k first s) (effect false g k' first s) _ _ (effect_on first s)
          (λ flow t. next_on (effects true g k others) (effects false g k' others) flow t (effects_on others t))

    -- ---- functions

    body_on_if : (test : Bool) (f : core.Function) (vs : List Value) (s : State) → Agrees (body_if true test g k f vs s) (body_if false test g k' f vs s)
    body_on_if false f vs s = refl
    body_on_if true f vs s =
        let inside : State = record s { locals = locals_for f.locals vs; depth = s.depth + 1 } in
        on (and_then (effects true g k f.body inside) (answer f.result)) (and_then (effects false g k' f.body inside) (answer f.result)) (back s) (back s)
        (on (effects true g k f.body inside) (effects false g k' f.body inside) (answer f.result) (answer f.result) (effects_on f.body inside) (λ flow t. same (answer f.result flow t)))
        (λ v t. same (back s v t))

    body_on : (o : Option core.Function) (vs : List Value) (s : State) → Agrees (body_of true g k o vs s) (body_of false g k' o vs s)
    body_on None vs s = refl
    body_on (Some f) vs s = body_on_if (fit (parameters_of f) vs) f vs s

  knots : (n : ℕ) → Agree (knot true g n) (knot false g n)
  knots zero = record { call = λ function vs s. refl; turn = λ e x y s. refl; sandbox = λ s. refl }
  knots (suc n) =
      record {
        call = λ function vs s. body_on _ _ (knots n) (slice_get program.functions function) vs s;
        turn = λ e x y s. effect_on _ _ (knots n) (core.Loop e x y) s;
        sandbox = λ s. same (crossed (until_return s.world.acts s.world) s);
      }

  run_on : (s : State) → Agrees (run_from true g s) (run_from false g s)
  run_on s =
      on (body_of true g (knot true g settings.budget) (slice_get program.functions program.main) [] s) _ exit exit
      (body_on _ _ (knots settings.budget) (slice_get program.functions program.main) [] s) (λ v t. same (exit v t))

pub changes_nothing : (program : core.Core) → AuditChangesNothing program
changes_nothing program settings inputs acts = run_on (parted program) settings (initial (parted program) (new_world (replicate settings.sandbox 0) first_offset inputs acts))
