-- A program with its checks inserted does what it means: an induction over the ticks, and over the tree.
use Rattle.std.proofs.Common.{◌≡◌, ℕ, ℤ, zero, suc, ◌+◌, Bool, true, false, List, [], ◌∷◌, map, length, replicate, Option, Some, None, refl, sym, ap, ◌∙◌, subst}
use Rattle.std.specs.Prelude.{◌==◌, slice_get, option_map, pos}
use Rattle.flat_bytes.specs.Blocks.{first_offset}
use Rattle.act_words.specs.declared.settings.Settings.{Settings}
use Rattle.act_words.specs.Acts.{Passed}
use Rattle.act_words.specs.World.{new_world}
use Rattle.act_words.specs.Touches.{spend_tick, enter_call, next_input, touch, until_return}
use Rattle.ckc_core.specs.declared.program.Site.{Site}
use Rattle.pointer_modes.specs.Types.{CType}
use Rattle.ckc_core.specs.declared.program.Callee.{Callee}
use Rattle.act_words.specs.declared.operator.Operator.{Operator}
use Rattle.ckc_core.specs.declared.program.Callee.TheVariants as callees
use Rattle.ckc_core.specs.Outcome.{Gives, Ends, Stuck, Unsound, Short, and_then}
use Rattle.ckc_core.specs.Programs.{Import, ProgramOf, parted}
use Rattle.ckc_core.specs.Core as core
use Rattle.ckc_core.specs.States.{Value, At, Local, State, cell_at}
use Rattle.ckc_core.specs.Bounds.{Pointed, with_ends}
use Rattle.ckc_core.specs.Steps.{Result, Flow, store_at, setting_of, given, place_at, variable_at, load_at, pointer_to, truth, same_place, test_given, arithmetic_of, compared, negated, complemented, low_byte_of, words_of, reply_as, back, passed, cross, cross_if, call_tainted, crossed, fit, parameters_of, takes, enter_if, called, result_given, set_local, kept_if, is_char, printed, put, no_result, answer, locals_for, exit, initial}
use Rattle.ckc_core.specs.Meaning as meaning
use Rattle.ckc_core.specs.Meaning.{audit, site_of, bounds_of, without_ends, place_from, pointed, reached, Target, cast_to, summed}
use Rattle.ckc_core.specs.Pointers.{number_given, allocated}
use Rattle.check_insertion.specs.ErasedMeaning as erased
use Rattle.check_insertion.specs.Erased as erased_language
use Rattle.check_insertion.specs.Insert as insert
use Rattle.check_insertion.specs.Insert.{access_checks, with_checks}
use Rattle.check_insertion.specs.Keeps.{Follows, KeepsMeaning}
use Rattle.check_insertion.proofs.Following.{FollowsBy, same, on, on_with, on_by, flat, given_on, number_kept, asked_on, chosen, next_on, turned_on, audit_on, reached_on, storable_on, length_on, summed_on, ordered_on, cast_on, load_on, store_on}
use Rattle.ckc_core.proofs.Locals.{Keeps, CallsKeep, back_keeps, value_keeps, index_keeps, cell_keeps, reached_keeps, arithmetic_keeps, kept_keeps}

-- a function of the core, with its checks
pub function_there : (fs : List core.Function) (n : ℕ) → slice_get (map insert.function fs) n ≡ option_map insert.function (slice_get fs n)
function_there [] n = refl
function_there (f ∷ fs) zero = refl
function_there (f ∷ fs) (suc n) = function_there fs n

takes_same : (o : Option core.Function) (vs : List Value) → takes (option_map insert.function o) vs ≡ takes o vs
takes_same None vs = refl
takes_same (Some f) vs = refl

module _ (audited : Bool) (program : ProgramOf core.Statements) (settings : Settings) where
  abbrev g : meaning.Setting
  g = setting_of program settings

  abbrev g' : erased.Setting
  g' = setting_of (with_checks program) settings

  -- calls, further turns and the sandbox's turn follow
  pub record Follow (k : meaning.Knot) (k' : erased.Knot) : Type 0 where
    pub call : (function : ℕ) (vs : List Value) (s : State) → Follows (k.call function vs s) (k'.call function vs s)
    pub keeps : CallsKeep k
    pub turn : (e : core.Expression) (x y : core.Statement) (s : State) → Follows (k.turn e x y s) (k'.turn (insert.expression e) (insert.statement x) (insert.statement y) s)
    pub sandbox : (s : State) → Follows (k.sandbox s) (k'.sandbox s)

  module _ (k : meaning.Knot) (k' : erased.Knot) (follow : Follow k k') where
    -- ---- calls

    passed_on : (i : Import) (site : Site) (s : State) → Follows (passed k i site s) (passed k' i site s)
    passed_on i site s =
        let inside : State = record s { depth = s.depth + 1 } in
        on (and_then (k.sandbox inside) (back s)) (and_then (k'.sandbox inside) (back s)) (reply_as i.result site) (reply_as i.result site)
        (on (k.sandbox inside) (k'.sandbox inside) (back s) (back s) (follow.sandbox inside) (λ word t. same (back s word t)))
        (λ word t. same (reply_as i.result site word t))

    cross_on : (import : ℕ) (i : Import) (site : Site) (o : Option (List ℕ)) (s : State) → Follows (cross g k import i site o s) (cross g' k' import i site o s)
    cross_on import i site None s = tt
    cross_on import i site (Some words) s =
        asked_on (spend_tick settings.budget s.world) s _ _ (λ _ t. asked_on (enter_call t.depth t.world) t _ _
        (λ _ u. asked_on (touch (Passed import words) u.world) u _ _ (λ _ v. passed_on i site v)))

    crossed_on : (test : Bool) (import : ℕ) (i : Import) (site : Site) (vs : List Value) (s : State) → Follows (cross_if test g k import i site vs s) (cross_if test g' k' import i site vs s)
    crossed_on true import i site vs s = cross_on import i site (words_of vs) s
    crossed_on false import i site vs s = tt

    tainted_on : (import : ℕ) (o : Option Import) (site : Site) (vs : List Value) (s : State) → Follows (call_tainted g k import o site vs s) (call_tainted g' k' import o site vs s)
    tainted_on import None site vs s = tt
    tainted_on import (Some i) site vs s = crossed_on (i.parameters == length vs) import i site vs s

    entered_on : (test : Bool) (function : ℕ) (vs : List Value) (s : State) → Follows (enter_if test g k function vs s) (enter_if test g' k' function vs s)
    entered_on false function vs s = tt
    entered_on true function vs s =
        asked_on (spend_tick settings.budget s.world) s _ _ (λ _ t. asked_on (enter_call t.depth t.world) t _ _ (λ _ u. follow.call function vs u))

    called_on : (callee : Callee) (vs : List Value) (s : State) → Follows (called g k callee vs s) (called g' k' callee vs s)
    called_on (callees.Trusted function) vs s =
        let there_too = ap (λ o. takes o vs) (function_there program.functions function) ∙ takes_same (slice_get program.functions function) vs in
        subst (λ test. Follows (called g k (callees.Trusted function) vs s) (enter_if test g' k' function vs s)) (sym there_too)
        (entered_on (takes (slice_get program.functions function) vs) function vs s)
    called_on (callees.Tainted import site) vs s = tainted_on import (slice_get program.imports import) site vs s

    -- ---- expressions

    mutual
      value_on : (e : core.Expression) (s : State) → Follows (meaning.value audited g k e s) (erased.value g' k' (insert.expression e) s)
      value_on (core.Number z) s = same (meaning.value audited g k (core.Number z) s)
      value_on core.Null s = refl
      value_on (core.Local i bounds) s = audit_on audited bounds (given (slice_get s.locals i) s) (given (slice_get s.locals i) s) (same (given (slice_get s.locals i) s))
      value_on (core.Load type p bounds) s =
          audit_on audited bounds (and_then (meaning.place audited g k p s) (load_at type (site_of p))) (erased.value g' k' (insert.expression (core.Load type p bounds)) s)
          (on (meaning.place audited g k p s) (erased.place g' k' (insert.place p) s) (load_at type (site_of p)) (load_at type None) (place_on p s) (λ at t. load_on type (site_of p) None at t))
      value_on (core.AddressOf p bounds) s =
          audit_on audited bounds (and_then (meaning.place audited g k p s) pointer_to) (erased.value g' k' (insert.expression (core.AddressOf p bounds)) s)
          (on (meaning.place audited g k p s) (erased.place g' k' (insert.place p) s) pointer_to pointer_to (place_on p s) (λ at t. refl))
      value_on (core.Negate operand site) s =
          on (meaning.value audited g k operand s) (erased.value g' k' (insert.expression operand) s) (negated site) (negated site) (value_on operand s) (λ v t. same (negated site v t))
      value_on (core.Complement operand) s =
          on (meaning.value audited g k operand s) (erased.value g' k' (insert.expression operand) s) complemented complemented (value_on operand s) (λ v t. same (complemented v t))
      value_on (core.Not operand) s = on (meaning.value audited g k operand s) (erased.value g' k' (insert.expression operand) s) _ _ (value_on operand s) (λ v t. refl)
      value_on (core.Arithmetic operator left right site) s =
          on (meaning.value audited g k left s) (erased.value g' k' (insert.expression left) s) _ _ (value_on left s)
          (λ a t. on (meaning.value audited g k right t) (erased.value g' k' (insert.expression right) t) (arithmetic_of operator site a) (arithmetic_of operator site a) (value_on right t) (λ b u. same (arithmetic_of operator site a b u)))
      value_on (core.Compare comparison left right) s =
          on (meaning.value audited g k left s) (erased.value g' k' (insert.expression left) s) _ _ (value_on left s)
          (λ a t. on (meaning.value audited g k right t) (erased.value g' k' (insert.expression right) t) (compared comparison a) (compared comparison a) (value_on right t) (λ b u. same (compared comparison a b u)))
      value_on (core.Same left right) s =
          on (meaning.value audited g k left s) (erased.value g' k' (insert.expression left) s) _ _ (value_on left s)
          (λ a t. on (meaning.value audited g k right t) (erased.value g' k' (insert.expression right) t) _ _ (value_on right t) (λ b u. same (test_given (same_place a b) u)))
      value_on (core.AndAlso left right) s =
          on (meaning.value audited g k left s) (erased.value g' k' (insert.expression left) s) _ _ (value_on left s)
          (λ a t. chosen (truth a) _ _ _ _ (on (meaning.value audited g k right t) (erased.value g' k' (insert.expression right) t) _ _ (value_on right t) (λ b u. refl)) refl)
      value_on (core.OrElse left right) s =
          on (meaning.value audited g k left s) (erased.value g' k' (insert.expression left) s) _ _ (value_on left s)
          (λ a t. chosen (truth a) _ _ _ _ refl (on (meaning.value audited g k right t) (erased.value g' k' (insert.expression right) t) _ _ (value_on right t) (λ b u. refl)))
      value_on (core.LowByte operand) s =
          on (meaning.value audited g k operand s) (erased.value g' k' (insert.expression operand) s) low_byte_of low_byte_of (value_on operand s) (λ v t. same (low_byte_of v t))
      value_on (core.Call callee arguments bounds) s =
          on (meaning.values audited g k arguments s) (erased.values g' k' (insert.arguments_of arguments) s) _ _ (values_on arguments s)
          (λ vs t. audit_on audited bounds (and_then (called g k callee vs t) result_given) (and_then (called g' k' callee vs t) result_given)
          (on (called g k callee vs t) (called g' k' callee vs t) result_given result_given (called_on callee vs t) (λ v u. same (result_given v u))))
      value_on core.NextInput s = asked_on (next_input s.world) s _ _ (λ z t. refl)
      value_on (core.Sum pointer direction number site bounds) s =
          audit_on audited bounds _ (erased.value g' k' (insert.expression (core.Sum pointer direction number site bounds)) s)
          (on (meaning.value audited g k pointer s) (erased.value g' k' (insert.expression pointer) s) _ _ (value_on pointer s)
          (λ v t. on_with (and_then (meaning.value audited g k number t) (number_given (Some site))) (and_then (erased.value g' k' (insert.expression number) t) (number_given None)) _ _ t.locals
          (on (meaning.value audited g k number t) (erased.value g' k' (insert.expression number) t) (number_given (Some site)) (number_given None) (value_on number t) (λ w u. given_on site w u))
          (number_kept (Some site) t.locals (meaning.value audited g k number t) (value_keeps audited g k follow.keeps t.locals number t refl))
          (λ n u kept. summed_on (bounds_of pointer) direction site n v t.locals u kept)))
      value_on (core.Order comparison left right site) s =
          on (meaning.value audited g k left s) (erased.value g' k' (insert.expression left) s) _ _ (value_on left s)
          (λ a t. on (meaning.value audited g k right t) (erased.value g' k' (insert.expression right) t) _ _ (value_on right t) (λ b u. ordered_on comparison site a b u))
      value_on (core.Allocate count element terminator bounds) s =
          audit_on audited bounds _ (erased.value g' k' (insert.expression (core.Allocate count element terminator bounds)) s)
          (on (and_then (meaning.value audited g k count s) (number_given None)) (and_then (erased.value g' k' (insert.expression count) s) (number_given None)) _ _
          (on (meaning.value audited g k count s) (erased.value g' k' (insert.expression count) s) (number_given None) (number_given None) (value_on count s) (λ v t. same (number_given None v t)))
          (λ z t. same (allocated settings.trusted terminator element z t)))
      value_on (core.Length pointer site) s =
          on (meaning.value audited g k pointer s) (erased.value g' k' (insert.expression pointer) s) _ _ (value_on pointer s)
          (λ v t. length_on (bounds_of pointer) settings.budget site v t)
      value_on (core.Cast pointer bounds) s =
          audit_on audited bounds _ (erased.value g' k' (insert.expression (core.Cast pointer bounds)) s)
          (on (meaning.value audited g k pointer s) (erased.value g' k' (insert.expression pointer) s) _ _ (value_on pointer s) (λ v t. cast_on (bounds_of pointer) bounds v t))

      values_on : (es : core.Arguments) (s : State) → Follows (meaning.values audited g k es s) (erased.values g' k' (insert.arguments_of es) s)
      values_on core.Done s = refl
      values_on (core.More first rest) s =
          on (meaning.value audited g k first s) (erased.value g' k' (insert.expression first) s) _ _ (value_on first s)
          (λ v t. on (meaning.values audited g k rest t) (erased.values g' k' (insert.arguments_of rest) t) _ _ (values_on rest t) (λ vs u. refl))

      place_on : (p : core.Place) (s : State) → Follows (meaning.place audited g k p s) (erased.place g' k' (insert.place p) s)
      place_on (core.Direct object offset) s = same (variable_at g object offset s)
      place_on (core.Through pointer which offset site) s =
          on (meaning.value audited g k pointer s) (erased.value g' k' (insert.expression pointer) s) _ _ (value_on pointer s)
          (λ v t. on_with (meaning.number_of audited g k which t) (erased.number_of g' k' (insert.index (insert.size_of (bounds_of pointer)) which) t) _ _ t.locals (index_on (insert.size_of (bounds_of pointer)) which t) (index_keeps audited g k follow.keeps t.locals which t refl)
          (λ n u kept. reached_on which (bounds_of pointer) offset site v n t.locals u kept))

      index_on : (size : ℕ) (which : core.Index) (s : State) → Follows (meaning.number_of audited g k which s) (erased.number_of g' k' (insert.index size which) s)
      index_on size core.First s = refl
      index_on size (core.Element number terminated) s =
          on (meaning.value audited g k number s) (erased.value g' k' (insert.expression number) s) (number_given None) (number_given None) (value_on number s) (λ v t. same (number_given None v t))

    -- ---- statements

    abbrev bare : Target → erased.Target
    bare t = record { pointer = t.pointer.value; number = t.number }

    variable_on : (o : Result (ℕ × ℕ)) → FollowsBy bare (and_then o (λ place t. Gives (without_ends place) t)) (and_then o (λ place t. Gives (record { pointer = At place.0 place.1; number = pos 0 }) t))
    variable_on (Gives place t) = refl
    variable_on (Ends ending t) = refl
    variable_on (Stuck site t) = tt
    variable_on (Unsound site t) = tt
    variable_on Short = refl

    -- what follows the pointer and the index of an access follows what they are with its checks inserted
    through_on : (pointer : core.Expression) (which : core.Index) (offset : ℕ) (site : Site) (rest : Target → State → Result Flow) (rest' : erased.Target → State → Result Flow) (s : State)
        → ((v : Value) (n : ℤ) (ls : List Local) (t : State) → t.locals ≡ ls → Follows (rest (record { pointer = with_ends (bounds_of pointer) v ls; number = n }) t) (rest' (record { pointer = v; number = n }) t))
        → Follows (and_then (meaning.target_of audited g k (core.Through pointer which offset site) s) rest) (and_then (erased.target_of g' k' (insert.place (core.Through pointer which offset site)) s) rest')
    through_on pointer which offset site rest rest' s follows =
        let size : ℕ = insert.size_of (bounds_of pointer) in
        let target : Pointed → State → Result Target =
        λ q t. and_then (meaning.number_of audited g k which t) (λ n u. Gives (record { pointer = q; number = n }) u) in
        let target' : Value → State → Result erased.Target =
        λ v t. and_then (erased.number_of g' k' (insert.index size which) t) (λ n u. Gives (record { pointer = v; number = n }) u) in
        let left = flat (meaning.pointed audited g k pointer s) target rest
        ∙ flat (meaning.value audited g k pointer s) (λ v t. Gives (with_ends (bounds_of pointer) v t.locals) t) (λ q t. and_then (target q t) rest) in
        let right = flat (erased.value g' k' (insert.expression pointer) s) target' rest' in
        subst (λ o. Follows o (and_then (erased.target_of g' k' (insert.place (core.Through pointer which offset site)) s) rest')) (sym left)
        (subst (λ o. Follows (and_then (meaning.value audited g k pointer s) (λ v t. and_then (target (with_ends (bounds_of pointer) v t.locals) t) rest)) o) (sym right)
        (on (meaning.value audited g k pointer s) (erased.value g' k' (insert.expression pointer) s) _ _ (value_on pointer s)
        (λ v t.
        subst (λ o. Follows o (and_then (target' v t) rest')) (sym (flat (meaning.number_of audited g k which t) (λ n u. Gives (record { pointer = with_ends (bounds_of pointer) v t.locals; number = n }) u) rest))
        (subst (λ o. Follows (and_then (meaning.number_of audited g k which t) (λ n u. rest (record { pointer = with_ends (bounds_of pointer) v t.locals; number = n }) u)) o)
        (sym (flat (erased.number_of g' k' (insert.index size which) t) (λ n u. Gives (record { pointer = v; number = n }) u) rest'))
        (on_with (meaning.number_of audited g k which t) (erased.number_of g' k' (insert.index size which) t) _ _ t.locals (index_on size which t) (index_keeps audited g k follow.keeps t.locals which t refl)
        (λ n u kept. follows v n t.locals u kept))))))

    -- a store, whose checks come behind its value
    store_through_on : (type : CType) (pointer : core.Expression) (which : core.Index) (offset : ℕ) (site : Site) (e : core.Expression) (s : State)
        → Follows (meaning.effect audited g k (core.Store type (core.Through pointer which offset site) e) s) (erased.effect g' k' (insert.statement (core.Store type (core.Through pointer which offset site) e)) s)
    store_through_on type pointer which offset site e s =
        through_on pointer which offset site _ _ s
        (λ v n ls u kept. on_with (meaning.value audited g k e u) (erased.value g' k' (insert.expression e) u) _ _ ls (value_on e u) (value_keeps audited g k follow.keeps ls e u kept)
        (λ w x x_kept. on_with _ _ _ _ ls (reached_on which (bounds_of pointer) offset site v n ls x x_kept) (reached_keeps ls x x_kept which offset site (record { pointer = with_ends (bounds_of pointer) v ls; number = n }))
        (λ at y y_kept. on _ _ _ _ (storable_on which (bounds_of pointer) site v n w ls y y_kept) (λ _ z. store_on type (Some site) None at w z))))

    -- an update, whose checks come before it
    update_through_on : (type : CType) (pointer : core.Expression) (which : core.Index) (offset : ℕ) (place_site : Site) (operator : Operator) (e : core.Expression) (site : Site) (s : State)
        → Follows (meaning.effect audited g k (core.Update type (core.Through pointer which offset place_site) operator e site) s)
        (erased.effect g' k' (insert.statement (core.Update type (core.Through pointer which offset place_site) operator e site)) s)
    update_through_on type pointer which offset place_site operator e site s =
        through_on pointer which offset place_site _ _ s
        (λ v n ls t kept. on_with _ _ _ _ ls (reached_on which (bounds_of pointer) offset place_site v n ls t kept) (reached_keeps ls t kept which offset place_site (record { pointer = with_ends (bounds_of pointer) v ls; number = n }))
        (λ at u u_kept. on_with (load_at type (Some site) at u) (load_at type None at u) _ _ ls (load_on type (Some site) None at u) (cell_keeps ls u u_kept type (Some site) (cell_at u.blocks at.0 at.1))
        (λ old w w_kept. on_with (meaning.value audited g k e w) (erased.value g' k' (insert.expression e) w) _ _ ls (value_on e w) (value_keeps audited g k follow.keeps ls e w w_kept)
        (λ a x x_kept. on_with (arithmetic_of operator site old a x) (arithmetic_of operator site old a x) _ _ ls (same (arithmetic_of operator site old a x)) (arithmetic_keeps ls x x_kept operator site old a)
        (λ new y y_kept. on_with (kept_if (is_char type) new y) (kept_if (is_char type) new y) _ _ ls (same (kept_if (is_char type) new y)) (kept_keeps ls y y_kept (is_char type) new)
        (λ last z z_kept. on _ _ _ _ (storable_on which (bounds_of pointer) place_site v n last ls z z_kept) (λ _ l. store_on type (Some site) None at last l)))))))

    mutual
      effect_on : (x : core.Statement) (s : State) → Follows (meaning.effect audited g k x s) (erased.effect g' k' (insert.statement x) s)
      effect_on core.Nothing s = refl
      effect_on (core.SetLocal local e) s =
          on (meaning.value audited g k e s) (erased.value g' k' (insert.expression e) s) (set_local local) (set_local local) (value_on e s) (λ v t. same (set_local local v t))
      effect_on (core.Store type (core.Direct object offset) e) s =
          on_by bare (meaning.target_of audited g k (core.Direct object offset) s) (erased.target_of g' k' (erased_language.Direct object offset) s) _ _ (variable_on (variable_at g object offset s))
          (λ q t. on (meaning.value audited g k e t) (erased.value g' k' (insert.expression e) t) _ _ (value_on e t)
          (λ v u. on (place_at None object offset u) (place_at None object offset u) _ _ (same (place_at None object offset u)) (λ at w. same (store_at type None at v w))))
      effect_on (core.Store type (core.Through pointer which offset site) e) s = store_through_on type pointer which offset site e s
      effect_on (core.UpdateLocal char local operator e site) s =
          on (given (slice_get s.locals local) s) (given (slice_get s.locals local) s) _ _ (same (given (slice_get s.locals local) s))
          (λ old t. on (meaning.value audited g k e t) (erased.value g' k' (insert.expression e) t) _ _ (value_on e t)
          (λ v u. same (and_then (arithmetic_of operator site old v u) (λ new w. and_then (kept_if char new w) (set_local local)))))
      effect_on (core.Update type (core.Direct object offset) operator e site) s =
          on_by bare (meaning.target_of audited g k (core.Direct object offset) s) (erased.target_of g' k' (erased_language.Direct object offset) s) _ _ (variable_on (variable_at g object offset s))
          (λ q t. on (place_at None object offset t) (place_at None object offset t) _ _ (same (place_at None object offset t))
          (λ at u. on (load_at type (Some site) at u) (load_at type None at u) _ _ (load_on type (Some site) None at u)
          (λ old w. on (meaning.value audited g k e w) (erased.value g' k' (insert.expression e) w) _ _ (value_on e w)
          (λ v x. on (arithmetic_of operator site old v x) (arithmetic_of operator site old v x) _ _ (same (arithmetic_of operator site old v x))
          (λ new y. on (kept_if (is_char type) new y) (kept_if (is_char type) new y) _ _ (same (kept_if (is_char type) new y)) (λ last z. store_on type (Some site) None at last z))))))
      effect_on (core.Update type (core.Through pointer which offset place_site) operator e site) s = update_through_on type pointer which offset place_site operator e site s
      effect_on (core.Evaluate e) s = on (meaning.value audited g k e s) (erased.value g' k' (insert.expression e) s) _ _ (value_on e s) (λ v t. refl)
      effect_on (core.CallAlone callee arguments) s =
          on (meaning.values audited g k arguments s) (erased.values g' k' (insert.arguments_of arguments) s) _ _ (values_on arguments s)
          (λ vs t. on (called g k callee vs t) (called g' k' callee vs t) no_result no_result (called_on callee vs t) (λ v u. same (no_result v u)))
      effect_on (core.Print e) s = on (meaning.value audited g k e s) (erased.value g' k' (insert.expression e) s) printed printed (value_on e s) (λ v t. same (printed v t))
      effect_on (core.PutByte e) s = on (meaning.value audited g k e s) (erased.value g' k' (insert.expression e) s) put put (value_on e s) (λ v t. same (put v t))
      effect_on (core.Block xs) s = effects_on xs s
      effect_on (core.If condition consequent alternative) s =
          on (meaning.value audited g k condition s) (erased.value g' k' (insert.expression condition) s) _ _ (value_on condition s)
          (λ v t. chosen (truth v) _ _ _ _ (effect_on consequent t) (effect_on alternative t))
      effect_on (core.Loop condition body step) s =
          on (meaning.value audited g k condition s) (erased.value g' k' (insert.expression condition) s) _ _ (value_on condition s)
          (λ v t. chosen (truth v) _ _ _ _
          (asked_on (spend_tick settings.budget t.world) t _ _
          (λ _ u. on (meaning.effect audited g k body u) (erased.effect g' k' (insert.statement body) u) _ _ (effect_on body u)
          (λ flow w. turned_on _ _ flow w
          (on (meaning.effect audited g k step w) (erased.effect g' k' (insert.statement step) w) _ _ (effect_on step w)
          (λ flow' x. next_on (k.turn condition body step) (k'.turn (insert.expression condition) (insert.statement body) (insert.statement step)) flow' x (follow.turn condition body step x))))))
          refl)
      effect_on (core.Return e) s = on (meaning.value audited g k e s) (erased.value g' k' (insert.expression e) s) _ _ (value_on e s) (λ v t. refl)
      effect_on core.ReturnNothing s = refl
      effect_on core.Break s = refl
      effect_on core.Continue s = refl

      effects_on : (xs : core.Statements) (s : State) → Follows (meaning.effects audited g k xs s) (erased.effects g' k' (insert.statements xs) s)
      effects_on core.NoMore s = refl
      effects_on (core.Then first others) s =
          on (meaning.effect audited g k first s) (erased.effect g' k' (insert.statement first) s) _ _ (effect_on first s)
          (λ flow t. next_on (meaning.effects audited g k others) (erased.effects g' k' (insert.statements others)) flow t (effects_on others t))

    -- ---- functions

    body_on_if : (test : Bool) (f : core.Function) (vs : List Value) (s : State) → Follows (meaning.body_if audited test g k f vs s) (erased.body_if test g' k' (insert.function f) vs s)
    body_on_if false f vs s = tt
    body_on_if true f vs s =
        let inside : State = record s { locals = locals_for f.locals vs; depth = s.depth + 1 } in
        on (and_then (meaning.effects audited g k f.body inside) (answer f.result)) (and_then (erased.effects g' k' (insert.statements f.body) inside) (answer f.result)) (back s) (back s)
        (on (meaning.effects audited g k f.body inside) (erased.effects g' k' (insert.statements f.body) inside) (answer f.result) (answer f.result) (effects_on f.body inside) (λ flow t. same (answer f.result flow t)))
        (λ v t. same (back s v t))

    body_on_option : (o : Option core.Function) (vs : List Value) (s : State) → Follows (meaning.body_of audited g k o vs s) (erased.body_of g' k' (option_map insert.function o) vs s)
    body_on_option None vs s = tt
    body_on_option (Some f) vs s = body_on_if (fit (parameters_of f) vs) f vs s

    body_on : (function : ℕ) (vs : List Value) (s : State) → Follows (meaning.body_of audited g k (slice_get program.functions function) vs s) (erased.body_of g' k' (slice_get (map insert.function program.functions) function) vs s)
    body_on function vs s =
        subst (λ o. Follows (meaning.body_of audited g k (slice_get program.functions function) vs s) (erased.body_of g' k' o vs s)) (sym (function_there program.functions function))
        (body_on_option (slice_get program.functions function) vs s)

  -- a call is over among the locals of the function that called
  body_keeps_if : (k : meaning.Knot) (test : Bool) (f : core.Function) (vs : List Value) (s : State) → Keeps s.locals (meaning.body_if audited test g k f vs s)
  body_keeps_if k true f vs s = back_keeps s _
  body_keeps_if k false f vs s = tt

  body_keeps : (k : meaning.Knot) (o : Option core.Function) (vs : List Value) (s : State) → Keeps s.locals (meaning.body_of audited g k o vs s)
  body_keeps k None vs s = tt
  body_keeps k (Some f) vs s = body_keeps_if k (fit (parameters_of f) vs) f vs s

  knots : (n : ℕ) → Follow (meaning.knot audited g n) (erased.knot g' n)
  knots zero = record { call = λ function vs s. refl; keeps = λ function vs s. tt; turn = λ e x y s. refl; sandbox = λ s. refl }
  knots (suc n) =
      record {
        call = λ function vs s. body_on _ _ (knots n) function vs s;
        keeps = λ function vs s. body_keeps (meaning.knot audited g n) (slice_get program.functions function) vs s;
        turn = λ e x y s. effect_on _ _ (knots n) (core.Loop e x y) s;
        sandbox = λ s. same (crossed (until_return s.world.acts s.world) s);
      }

  run_on : (s : State) → Follows (meaning.run_from audited g s) (erased.run_from g' s)
  run_on s =
      on (meaning.body_of audited g (meaning.knot audited g settings.budget) (slice_get program.functions program.main) [] s) _ exit exit
      (body_on _ _ (knots settings.budget) program.main [] s) (λ v t. same (exit v t))

pub keeps_meaning : (program : core.Core) → KeepsMeaning program
keeps_meaning program audited settings inputs acts =
    run_on audited (parted program) settings (initial (parted program) (new_world (replicate settings.sandbox 0) first_offset inputs acts))
