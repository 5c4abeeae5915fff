-- What has types is never stuck and never unsound: expressions and simple statements, where what is known in their scope is so.
use Rattle.std.proofs.Common.{◌≡◌, ◌+ℤ◌, ◌*ℤ◌, ℕ, ◌≤◌, Bool, true, false, ℤ, List, ◌∷◌, map, length, Option, Some, None, refl, sym, ap, ◌∙◌, subst, arith, inl, inr}
use Rattle.std.specs.Prelude.{slice_set, ◌&&◌, not, slice_get, pos}
use Rattle.std.specs.List.{AllByRecursion}
use Rattle.std.proofs.lemmas.Int.{ints}
use Rattle.std.proofs.lemmas.Bool.{and_from}
use Rattle.ckc_core.specs.Outcome.{Gives, and_then}
use Rattle.act_words.specs.Checks.{is_word_number}
use Rattle.pointer_modes.specs.Layout.{size_of}
use Rattle.act_words.specs.Touches.{next_input}
use Rattle.ckc_core.specs.declared.program.Site.{Site}
use Rattle.act_words.specs.declared.operator.Operator.{Operator}
use Rattle.pointer_modes.specs.declared.ctype.Mode.{Mode}
use Rattle.pointer_modes.specs.declared.ctype.Mode.TheVariants as modes
use Rattle.pointer_modes.specs.declared.ctype.Kind.{Kind}
use Rattle.pointer_modes.specs.declared.ctype.Kind.TheVariants as kinds
use Rattle.pointer_modes.specs.Types.{CType, Int, Char, Struct, Pointer}
use Rattle.ckc_core.specs.Core as core
use Rattle.ckc_core.specs.States.{Value, Number, Null, At, Local, Grows, State, shape, shapes, stored, same_type, has_type, object_block}
use Rattle.ckc_core.specs.declared.program.PointerBounds.{PointerBounds}
use Rattle.ckc_core.specs.declared.program.Terminator.TheVariants as terminators
use Rattle.ckc_core.specs.declared.program.Direction.{Direction}
use Rattle.ckc_core.specs.declared.program.Direction.TheVariants as directions
use Rattle.bounds_exprs.specs.declared.term.Bounds.{Bounds}
use Rattle.ckc_core.specs.Bounds.{Pointed, with_ends}
use Rattle.ckc_core.specs.Pointers.{number_given, distance, lies_below}
use Rattle.ckc_core.specs.Steps.{Result, Flow, given, place_if, place_at, variable_at, load_at, pointer_to, truth, arithmetic_of, compared, negated, complemented, low_byte_of, asked, leaves_zero, store_if, store_over, store_at, set_if, set_over, set_local, kept_if, is_char, printed, put, no_result, called, is_zero}
use Rattle.ckc_core.specs.Meaning.{Knot, audit, bounds_of, cast_to, site_of, Target, element, element_within, summed, without_ends, value, values, place, target_of, effect, end_kept, length_of}
use Rattle.region_typing_rules.specs.Types.{Counts, is_number}
use Rattle.region_typing_rules.specs.Scopes.{Scope}
use Rattle.region_typing_rules.specs.Knowing.{when}
use Rattle.region_typing_rules.specs.Operands.{one_element}
use Rattle.bounds_flow_meaning.specs.Laws.{IsMoved}
use Rattle.bounds_flow_meaning.specs.Holding.{target_size}
use Rattle.region_typing_rules.specs.Readings.{Behind, behind_local, constant, is_pointer_type, toward}
use Rattle.region_typing_rules.specs.KnownIsSo.{WhereGiven, IsKnown}
use Rattle.region_typing_rules.specs.Typed as typed
use Rattle.bounds_flow.specs.Conditions.{IsFlow}
use Rattle.bounds_flow_meaning.specs.Holding.{IsValid, at_node}
use Rattle.bounds_flow_meaning.specs.Rows.{IsEndedPlace}
use Rattle.bounds_flow_meaning.proofs.Rows.{place_grown, ended_grown}
use Rattle.bounds_flow_meaning.proofs.Validity.{times_plus}
use Rattle.region_typing_rules.specs.Typed.{IsAsked, IsBoundedObject, Frame, HasBounds, HasValue, IsReturned, terms_of, HasElements, HasType, HaveTypes, HasPlace, IsSimple, IsScalar, IsNodeOf, HasAccess}
use Rattle.ckc_core.proofs.Numbers.{IsNumber}
use Rattle.region_typing_rules.proofs.Worlds.{next_answers}
use Rattle.region_typing_rules.proofs.BoundedObjects.{HoldBounds, bounded_cell, held_elsewhere, held_here, held_same, shape_there, bounded_inside}
use Rattle.region_typing_rules.proofs.Values.{HasCell, same_refl, grows_on, at_cell, zero_left, shapes_stored, scalar_cell, value_grown, value_typed, value_widened, value_number, HaveLocals, local_there, locals_set, HoldsValues, cell_typed, stored_typed, place_inside, zero_stored}
use Rattle.region_typing_rules.proofs.Validity.{same_pointer}
use Rattle.region_typing_rules.proofs.Verdicts.{Extends}
use Rattle.region_typing_rules.proofs.Sure.{sure_further, sure_both, sure_given}
use Rattle.region_typing_rules.proofs.Keeping.{IsAfter, after_here}
use Rattle.region_typing_rules.proofs.Terms.{so_always, so_further, so_on, audited_so}
use Rattle.region_typing_rules.proofs.Alike.{alike_here}
use Rattle.region_typing_rules.proofs.Given.{AreGiven, given_weaker}
use Rattle.region_typing_rules.proofs.Assigns.{IsBehind, IsGivenTo, stays}
use Rattle.region_typing_rules.proofs.Calls.{ArePassed, asked_valid, given_there, passed_later}
use Rattle.region_typing_rules.proofs.Elements.{pointing, sum_size, array_valid}
use Rattle.region_typing_rules.proofs.EndedRows.{valid_as_array, finds_one, valid_as_single, value_as, valid_as, ended_cell, below_or_at, place_before_zero, row_start, row_valid}
use Rattle.std.specs.Ordering.{int_eq}
use Rattle.region_typing_rules.proofs.LastZeros.{zeros_stored, AreShort, array_row, ended_row_new}
use Rattle.region_typing_rules.proofs.Goes.{Goes, HasResult, IsAccessed, IsBounded, IsKept, IsKnot, IsNext, IsPlaced, OfNode, OfType, OfTypes, Runs, asked_goes, base_of, further_parts, goes_further, goes_on, has_locals, local_parts, runs_of, runs_on, shaped}
use Rattle.region_typing_rules.proofs.Accesses.{IsAimed, IsUpTo, accessed_goes, aimed_later, arithmetic_goes, audited_goes, bounded_goes, bounded_load, bounded_place, byte_goes, byte_number_goes, compared_goes, complemented_goes, direct_goes, element_goes, element_member_goes, first_goes, given_goes, length_goes, load_goes, member_goes, negated_goes, nothing_back, number_goes, object_there, pointed_goes, same_goes, start_goes, test_goes, upper_goes, variable_goes, widened_goes}
use Rattle.region_typing_rules.proofs.RightNodes.{right_typed}
use Rattle.region_typing_rules.proofs.CallsGo.{IsBack}
use Rattle.region_typing_rules.proofs.Operations.{GivenTo, IsArgument, IsCast, IsHere, IsLocalOf, IsSummed, aimed_goes, allocate_given, allocate_goes, answered, array_bounded, array_given, as_kind, as_row, based_there, behind, bounded_given, call_given, call_goes, cell_audited, cell_given, cast_given, cast_step, chosen_goes, flow_told, forced, given_by_kind, given_none, given_stays, here_later, known_too, local_given_by, local_read, none_bounded, number_goes_on, ordered_goes, passed_so, plain_bounded, plainly_given, row_bounded, row_given, same_value, setting, single_bounded, single_unbased, sum_bounded, sum_given, sum_goes, sum_typed, told_too, tracked_told, truth_goes, typed_alone, typed_given, unbounded_goes, with_given, with_none}

module _ (g : Frame) (budget ticks : ℕ) where
  module _ (sandbox trusted : ℕ) (k : Knot) (is : IsKnot g budget ticks k) where
    module _ (low : ℕ) (types : List CType) where
      mutual
        pub value_goes : (here : Scope) (flow : IsFlow here.flow) (tracked : length here.locals ≤ here.flow.vars) (reaches : Extends here.locals types) {e : core.Expression} {t : CType} → HasType g types here e t → (s : State) → IsHere g budget ticks sandbox trusted k is low types here flow reaches s → Goes g budget ticks low types s (OfNode g e t) (value true (setting g budget ticks sandbox trusted k is) k e s)
        value_goes here flow tracked reaches (typed.word {z = z} fits) s h = with_none g budget ticks sandbox trusted k is low types here flow reaches (core.Number z) Int s (λ v u _. tt) (number_goes g budget ticks low types s z (is_word_number z) refl fits h.1)
        value_goes here flow tracked reaches (typed.byte {z = z} fits) s h =
            with_none g budget ticks sandbox trusted k is low types here flow reaches (core.Number z) Char s (λ v u _. tt) (byte_number_goes g budget ticks low types s z (is_word_number z) (value_widened g.structs (shaped s) (Number z) fits) fits h.1)
        value_goes here flow tracked reaches (typed.null {mode = m} {kind = d} {t = t}) s h = with_none g budget ticks sandbox trusted k is low types here flow reaches core.Null (Pointer m d t) s (λ v u _. none_bounded g budget ticks sandbox trusted k is (Pointer m d t) v u) (tt, after_here s, h.1)
        value_goes here flow tracked reaches (typed.local {k = i} {t = t} {b = b} e bounds) s h =
            with_none g budget ticks sandbox trusted k is low types here flow reaches (core.Local i b) t s (plain_bounded g budget ticks sandbox trusted k is t b bounds) (audited_goes g budget ticks low types s t b (given (slice_get s.locals i) s) bounds (given_goes g budget ticks low types s i t h.1 (reaches i t e)))
        value_goes here flow tracked reaches (typed.bounded {k = i} {mode = m} {kind = kind} {t = t} {p = p} e size limited named force) s h =
            let l = local_there g.structs (shaped s) types s.locals i (Pointer m kind t) h.1.locals (reaches i (Pointer m kind t) e) in
            subst (λ o. Goes g budget ticks low types s (OfNode g (core.Local i (Some p)) (Pointer m kind t)) (and_then (given o s) (audit true (Some p)))) (sym l.1)
            (bounded_goes g budget ticks low types s m kind t (Some p) l.0.value size l.3 (subst (λ c. IsValid g.structs (Some p.bounds) (record { type = c; value = l.0.value }) s) l.2 (force s h.0 l.0 l.1).0) h.1)
        value_goes here flow tracked reaches (typed.widened {e = e} h) s here' = with_none g budget ticks sandbox trusted k is low types here flow reaches e Int s (λ v u _. tt) (widened_goes g budget ticks low types s (value true (setting g budget ticks sandbox trusted k is) k e s) (typed_alone g budget ticks sandbox trusted k is low types here flow reaches e Char s (value_goes here flow tracked reaches h s here')))
        value_goes here flow tracked reaches (typed.single {e = e} {mode = m} {kind = kind} {t = t} {p = p} h elements leads) s here' =
            goes_further g budget ticks low types s (λ v u. OfNode g e (Pointer m kind t) v u × IsKnown g.structs here u) (OfNode g e (Pointer m kinds.One t)) (value true (setting g budget ticks sandbox trusted k is) k e s)
            (known_too g budget ticks sandbox trusted k is low types here flow reaches s (OfNode g e (Pointer m kind t)) (value true (setting g budget ticks sandbox trusted k is) k e s) here' (value_goes here flow tracked reaches h s here'))
            (λ v u x. (finds_one g.structs m kind t u elements.some v x.0.0 (leads u x.1 (pointing (Pointer m kind t) v) (subst (λ b. IsBounded g (Pointer m kind t) b v u) elements.bounds x.0.1)) p.site, single_bounded g budget ticks sandbox trusted k is low types here flow reaches m kind t (bounds_of e) v u x.0.0 x.0.1))
        value_goes here flow tracked reaches (typed.row {e = e} {mode = m} {t = t} h bounds) s here' = as_row g budget ticks sandbox trusted k is low types here flow reaches m kinds.One t e s (value_goes here flow tracked reaches h s here') (λ v u typed valid. row_bounded g budget ticks sandbox trusted k is low types here flow reaches m t (bounds_of e) bounds v u typed)
        value_goes here flow tracked reaches (typed.ended_row {e = e} {mode = m} {t = t} h) s here' = as_row g budget ticks sandbox trusted k is low types here flow reaches m kinds.Nt t e s (value_goes here flow tracked reaches h s here') (λ v u typed valid. array_bounded g budget ticks sandbox trusted k is low types here flow reaches m t (bounds_of e) v u typed valid)
        value_goes here flow tracked reaches (typed.load {t = t} {p = p} {b = b} scalar h bounds) s here' =
            cell_audited g budget ticks sandbox trusted k is low types here flow reaches t b bounds (and_then (place true (setting g budget ticks sandbox trusted k is) k p s) (load_at t (site_of p))) s
            (goes_on g budget ticks low types s (IsAccessed g t) (OfType g t) (place true (setting g budget ticks sandbox trusted k is) k p s) (load_at t (site_of p)) (access_goes here flow tracked reaches h s here') (λ at u _ accessed u_kept. accessed_goes g budget ticks low types u t (site_of p) at scalar accessed u_kept))
        value_goes here flow tracked reaches (typed.bounded_object {object = object} {mode = m} {kind = kind} {t = t} {p = p} is size) s here' =
            let c = bounded_cell g object m kind t p.bounds is s here'.1.grown in
            let at = at_cell s.blocks object 0 (Pointer m kind t) c in
            subst (λ o. Goes g budget ticks low types s (OfNode g (core.Load (Pointer m kind t) (core.Direct object 0) (Some p)) (Pointer m kind t)) (and_then o (audit true (Some p)))) (sym (bounded_load g budget ticks low types s object m kind t p.bounds is here'.1))
            (bounded_goes g budget ticks low types s m kind t (Some p) c.cell.value size (cell_typed g.structs (shaped s) s.blocks object 0 (Pointer m kind t) c here'.1.cells) (here'.1.held object m kind t p.bounds is c.cell at) here'.1)
        value_goes here flow tracked reaches (typed.address_of {mode = m} {t = t} {p = p} {b = b} h bounds) s here' =
            with_none g budget ticks sandbox trusted k is low types here flow reaches (core.AddressOf p b) (Pointer m kinds.One t) s (plain_bounded g budget ticks sandbox trusted k is (Pointer m kinds.One t) b bounds)
            (audited_goes g budget ticks low types s (Pointer m kinds.One t) b (and_then (place true (setting g budget ticks sandbox trusted k is) k p s) pointer_to) bounds
            (goes_on g budget ticks low types s (IsPlaced g t) (OfType g (Pointer m kinds.One t)) (place true (setting g budget ticks sandbox trusted k is) k p s) pointer_to (place_goes here flow tracked reaches h s here') (λ at u _ placed u_kept. (placed, after_here u, u_kept))))
        value_goes here flow tracked reaches (typed.array {object = object} {n = n} {t = t} {p = p} {v = variable} found some few rows bounds size) s here' =
            goes_on g budget ticks low types s (λ (v : Value) (u : State). v ≡ At object 0) (OfNode g (core.AddressOf (core.Direct object 0) (Some p)) (Pointer modes.Checked kinds.Array t)) (and_then (variable_at (setting g budget ticks sandbox trusted k is) object 0 s) pointer_to) (audit true (Some p))
            (goes_on g budget ticks low types s (λ (at : ℕ × ℕ) (u : State). at ≡ (object, 0)) (λ (v : Value) (u : State). v ≡ At object 0) (variable_at (setting g budget ticks sandbox trusted k is) object 0 s) pointer_to (first_goes g budget ticks low types s t object n variable found some rows here'.1)
            (λ at u _ same u_kept. (ap (λ (at : ℕ × ℕ). At at.0 at.1) same, after_here u, u_kept)))
            (λ v u _ same u_kept. subst (λ v. Goes g budget ticks low types u (OfNode g (core.AddressOf (core.Direct object 0) (Some p)) (Pointer modes.Checked kinds.Array t)) (audit true (Some p) v u)) (sym same)
            (bounded_goes g budget ticks low types u modes.Checked kinds.Array t (Some p) (At object 0) size tt
            (array_valid g.structs modes.Checked t n object (shape (object_block variable)) u (object_there g budget ticks low types u object variable found u_kept) some rows p bounds) u_kept))
        value_goes here flow tracked reaches (typed.ended_array {object = object} {n = n} {t = t} {p = p} {v = variable} found few row bounds size) s here' =
            goes_on g budget ticks low types s (λ (v : Value) (u : State). v ≡ At object 0) (OfNode g (core.AddressOf (core.Direct object 0) (Some p)) (Pointer modes.Checked kinds.Nt t)) (and_then (variable_at (setting g budget ticks sandbox trusted k is) object 0 s) pointer_to) (audit true (Some p))
            (goes_on g budget ticks low types s (λ (at : ℕ × ℕ) (u : State). at ≡ (object, 0)) (λ (v : Value) (u : State). v ≡ At object 0) (variable_at (setting g budget ticks sandbox trusted k is) object 0 s) pointer_to (start_goes g budget ticks low types s t object n variable found row here'.1)
            (λ at u _ same u_kept. (ap (λ (at : ℕ × ℕ). At at.0 at.1) same, after_here u, u_kept)))
            (λ v u _ same u_kept. subst (λ v. Goes g budget ticks low types u (OfNode g (core.AddressOf (core.Direct object 0) (Some p)) (Pointer modes.Checked kinds.Nt t)) (audit true (Some p) v u)) (sym same)
            (let there = object_there g budget ticks low types u object variable found u_kept in
            bounded_goes g budget ticks low types u modes.Checked kinds.Nt t (Some p) (At object 0) size (row.number, row_start g.structs modes.Checked t n object (shape (object_block variable)) u there row false (λ inner. absurd (cc)))
            (row_valid g.structs modes.Checked t n object (shape (object_block variable)) u there row p bounds) u_kept))
        value_goes here flow tracked reaches (typed.sum {e = e} {i = i} {mode = m} {kind = kind} {t = t} {direction = direction} {site = site} {p = p} {b = b} counts h elements hi bounds) s here' =
            goes_on g budget ticks low types s (IsSummed g budget ticks sandbox trusted k is low types here flow reaches e i m kind t direction p (GivenTo g budget ticks sandbox trusted k is low types here flow reaches e m kind t)) (OfNode g (core.Sum e direction i site b) (Pointer m kind t)) _ (audit true b)
            (sum_goes g budget ticks sandbox trusted k is low types here flow reaches e i m kind t direction p site elements (GivenTo g budget ticks sandbox trusted k is low types here flow reaches e m kind t) s counts here' (given_stays g budget ticks sandbox trusted k is low types here flow reaches e m kind t) (with_given g budget ticks sandbox trusted k is low types here flow reaches e m kind t s (value_goes here flow tracked reaches h s here') (given_so here flow tracked reaches h m kind t refl s here' (value_goes here flow tracked reaches h s here'))) (λ u stands. typed_alone g budget ticks sandbox trusted k is low types here flow reaches i Int u (value_goes here flow tracked reaches hi u stands)))
            (λ x y _ summed y_kept. bounded_goes g budget ticks low types y m kind t b x (sum_size g.structs (Pointer m kind t) here.locals e direction i p b bounds elements.node) (sum_typed g budget ticks sandbox trusted k is low types here flow reaches direction x y summed) (sum_bounded g budget ticks sandbox trusted k is low types here flow reaches e i m kind t direction site p b elements.bounds bounds x y summed) y_kept)
        value_goes here flow tracked reaches (typed.order {comparison = comparison} {a = a} {b = b} {mode = m} {mode' = m'} {kind = kind} {kind' = kind'} {t = t} {t' = t'} {k = q} {site = site} ha from hb to) s here' =
            with_none g budget ticks sandbox trusted k is low types here flow reaches (core.Order comparison a b site) Int s (λ v u _. tt)
            (goes_on g budget ticks low types s (λ v u. OfNode g a (Pointer m kind t) v u × GivenTo g budget ticks sandbox trusted k is low types here flow reaches a m kind t v u) (OfType g Int) (value true (setting g budget ticks sandbox trusted k is) k a s) _ (with_given g budget ticks sandbox trusted k is low types here flow reaches a m kind t s (value_goes here flow tracked reaches ha s here') (given_so here flow tracked reaches ha m kind t refl s here' (value_goes here flow tracked reaches ha s here')))
            (λ v u after first u_kept. goes_on g budget ticks low types u (λ w x. OfNode g b (Pointer m' kind' t') w x × GivenTo g budget ticks sandbox trusted k is low types here flow reaches b m' kind' t' w x) (OfType g Int) (value true (setting g budget ticks sandbox trusted k is) k b u) _
            (with_given g budget ticks sandbox trusted k is low types here flow reaches b m' kind' t' u (value_goes here flow tracked reaches hb u (here_later g budget ticks sandbox trusted k is low types here flow reaches s u after here' u_kept)) (given_so here flow tracked reaches hb m' kind' t' refl u (here_later g budget ticks sandbox trusted k is low types here flow reaches s u after here' u_kept) (value_goes here flow tracked reaches hb u (here_later g budget ticks sandbox trusted k is low types here flow reaches s u after here' u_kept))))
            (λ w x later second x_kept. ordered_goes g budget ticks sandbox trusted k is low types here flow reaches m m' kind kind' t t' comparison site from.bounds to.bounds q from.base to.base v w x (value_grown g.structs (shaped u) (shaped x) later.0 (Pointer m kind t) v first.0.0) second.0.0
            (based_there g budget ticks sandbox trusted k is low types here flow reaches a (Pointer m kind t) v x (given_stays g budget ticks sandbox trusted k is low types here flow reaches a m kind t v u x later first.1 x (alike_here (length here.locals) x)).1 from.bounds from.based)
            (based_there g budget ticks sandbox trusted k is low types here flow reaches b (Pointer m' kind' t') w x (second.1 x (alike_here (length here.locals) x)).1 to.bounds to.based) x_kept)))
        value_goes here flow tracked reaches (typed.negate {e = e} {site = site} h) s here' =
            with_none g budget ticks sandbox trusted k is low types here flow reaches (core.Negate e site) Int s (λ v u _. tt) (goes_on g budget ticks low types s (OfType g Int) (OfType g Int) (value true (setting g budget ticks sandbox trusted k is) k e s) (negated site) (typed_alone g budget ticks sandbox trusted k is low types here flow reaches e Int s (value_goes here flow tracked reaches h s here')) (λ v u _ typed u_kept. negated_goes g budget ticks low types u site v typed u_kept))
        value_goes here flow tracked reaches (typed.complement {e = e} h) s here' =
            with_none g budget ticks sandbox trusted k is low types here flow reaches (core.Complement e) Int s (λ v u _. tt) (goes_on g budget ticks low types s (OfType g Int) (OfType g Int) (value true (setting g budget ticks sandbox trusted k is) k e s) complemented (typed_alone g budget ticks sandbox trusted k is low types here flow reaches e Int s (value_goes here flow tracked reaches h s here')) (λ v u _ typed u_kept. complemented_goes g budget ticks low types u v typed u_kept))
        value_goes here flow tracked reaches (typed.inverse {e = e} {t = t} h) s here' =
            with_none g budget ticks sandbox trusted k is low types here flow reaches (core.Not e) Int s (λ v u _. tt) (goes_on g budget ticks low types s (OfType g t) (OfType g Int) (value true (setting g budget ticks sandbox trusted k is) k e s) _ (typed_alone g budget ticks sandbox trusted k is low types here flow reaches e t s (value_goes here flow tracked reaches h s here')) (λ v u _ typed u_kept. test_goes g budget ticks low types u (not (truth v)) u_kept))
        value_goes here flow tracked reaches (typed.arithmetic {operator = operator} {a = a} {b = b} {site = site} ha hb) s here' =
            with_none g budget ticks sandbox trusted k is low types here flow reaches (core.Arithmetic operator a b site) Int s (λ v u _. tt)
            (goes_on g budget ticks low types s (OfType g Int) (OfType g Int) (value true (setting g budget ticks sandbox trusted k is) k a s) _ (typed_alone g budget ticks sandbox trusted k is low types here flow reaches a Int s (value_goes here flow tracked reaches ha s here'))
            (λ v u after typed u_kept. behind g budget ticks sandbox trusted k is low types here flow reaches Int Int (OfType g Int) u v (value true (setting g budget ticks sandbox trusted k is) k b u) (arithmetic_of operator site v) typed (typed_alone g budget ticks sandbox trusted k is low types here flow reaches b Int u (value_goes here flow tracked reaches hb u (here_later g budget ticks sandbox trusted k is low types here flow reaches s u after here' u_kept)))
            (λ w x typed typed' x_kept. arithmetic_goes g budget ticks low types x operator site v w typed typed' x_kept)))
        value_goes here flow tracked reaches (typed.compare {comparison = comparison} {a = a} {b = b} ha hb) s here' =
            with_none g budget ticks sandbox trusted k is low types here flow reaches (core.Compare comparison a b) Int s (λ v u _. tt)
            (goes_on g budget ticks low types s (OfType g Int) (OfType g Int) (value true (setting g budget ticks sandbox trusted k is) k a s) _ (typed_alone g budget ticks sandbox trusted k is low types here flow reaches a Int s (value_goes here flow tracked reaches ha s here'))
            (λ v u after typed u_kept. behind g budget ticks sandbox trusted k is low types here flow reaches Int Int (OfType g Int) u v (value true (setting g budget ticks sandbox trusted k is) k b u) (compared comparison v) typed (typed_alone g budget ticks sandbox trusted k is low types here flow reaches b Int u (value_goes here flow tracked reaches hb u (here_later g budget ticks sandbox trusted k is low types here flow reaches s u after here' u_kept)))
            (λ w x typed typed' x_kept. compared_goes g budget ticks low types x comparison v w typed typed' x_kept)))
        value_goes here flow tracked reaches (typed.same {mode = m} {mode' = m'} {kind = d} {kind' = d'} {t = t} {t' = t'} {a = a} {b = b} ha hb) s here' =
            with_none g budget ticks sandbox trusted k is low types here flow reaches (core.Same a b) Int s (λ v u _. tt)
            (goes_on g budget ticks low types s (OfType g (Pointer m d t)) (OfType g Int) (value true (setting g budget ticks sandbox trusted k is) k a s) _ (typed_alone g budget ticks sandbox trusted k is low types here flow reaches a (Pointer m d t) s (value_goes here flow tracked reaches ha s here'))
            (λ v u after typed u_kept. behind g budget ticks sandbox trusted k is low types here flow reaches (Pointer m d t) (Pointer m' d' t') (OfType g Int) u v (value true (setting g budget ticks sandbox trusted k is) k b u) _ typed (typed_alone g budget ticks sandbox trusted k is low types here flow reaches b (Pointer m' d' t') u (value_goes here flow tracked reaches hb u (here_later g budget ticks sandbox trusted k is low types here flow reaches s u after here' u_kept)))
            (λ w x typed typed' x_kept. same_goes g budget ticks low types x m m' d d' t t' v w typed typed' x_kept)))
        value_goes here flow tracked reaches (typed.both {a = a} {b = b} {t = t} {t' = t'} ha hb) s here' =
            with_none g budget ticks sandbox trusted k is low types here flow reaches (core.AndAlso a b) Int s (λ v u _. tt)
            (goes_on g budget ticks low types s (λ v u. OfType g t v u × IsKnown g.structs (when a (truth v) here) u) (OfType g Int) (value true (setting g budget ticks sandbox trusted k is) k a s) _ (told_too g budget ticks sandbox trusted k is low types here flow reaches tracked a t (right_typed g types ha) s here' (typed_alone g budget ticks sandbox trusted k is low types here flow reaches a t s (value_goes here flow tracked reaches ha s here')))
            (λ v u after x u_kept. chosen_goes g budget ticks sandbox trusted k is low types u (OfType g Int) (truth v) _ _
            (λ came. truth_goes g budget ticks sandbox trusted k is low types u t' (value true (setting g budget ticks sandbox trusted k is) k b u) (typed_alone g budget ticks sandbox trusted k is low types (when a true here) (flow_told g budget ticks sandbox trusted k is low types here flow reaches tracked a true) reaches b t' u
            (value_goes (when a true here) (flow_told g budget ticks sandbox trusted k is low types here flow reaches tracked a true) (tracked_told g budget ticks sandbox trusted k is low types here flow reaches tracked a true) reaches hb u (subst (λ c. IsKnown g.structs (when a c here) u) came x.1, u_kept))))
            (λ came. test_goes g budget ticks low types u false u_kept)))
        value_goes here flow tracked reaches (typed.either {a = a} {b = b} {t = t} {t' = t'} ha hb) s here' =
            with_none g budget ticks sandbox trusted k is low types here flow reaches (core.OrElse a b) Int s (λ v u _. tt)
            (goes_on g budget ticks low types s (λ v u. OfType g t v u × IsKnown g.structs (when a (truth v) here) u) (OfType g Int) (value true (setting g budget ticks sandbox trusted k is) k a s) _ (told_too g budget ticks sandbox trusted k is low types here flow reaches tracked a t (right_typed g types ha) s here' (typed_alone g budget ticks sandbox trusted k is low types here flow reaches a t s (value_goes here flow tracked reaches ha s here')))
            (λ v u after x u_kept. chosen_goes g budget ticks sandbox trusted k is low types u (OfType g Int) (truth v) _ _
            (λ came. test_goes g budget ticks low types u true u_kept)
            (λ came. truth_goes g budget ticks sandbox trusted k is low types u t' (value true (setting g budget ticks sandbox trusted k is) k b u) (typed_alone g budget ticks sandbox trusted k is low types (when a false here) (flow_told g budget ticks sandbox trusted k is low types here flow reaches tracked a false) reaches b t' u
            (value_goes (when a false here) (flow_told g budget ticks sandbox trusted k is low types here flow reaches tracked a false) (tracked_told g budget ticks sandbox trusted k is low types here flow reaches tracked a false) reaches hb u (subst (λ c. IsKnown g.structs (when a c here) u) came x.1, u_kept))))))
        value_goes here flow tracked reaches (typed.low_byte {e = e} h) s here' =
            with_none g budget ticks sandbox trusted k is low types here flow reaches (core.LowByte e) Char s (λ v u _. tt) (goes_on g budget ticks low types s (OfType g Int) (OfType g Char) (value true (setting g budget ticks sandbox trusted k is) k e s) low_byte_of (typed_alone g budget ticks sandbox trusted k is low types here flow reaches e Int s (value_goes here flow tracked reaches h s here')) (λ v u _ typed u_kept. byte_goes g budget ticks low types u v typed u_kept))
        value_goes here flow tracked reaches (typed.call {callee = callee} {ts = ts} {bs = bs} {r = r} {arguments = arguments} {t = t} {b = b} known h asked bounds) s here' = call_goes g budget ticks sandbox trusted k is low types here flow reaches callee arguments ts bs t r b known bounds asked s here' (values_go here flow tracked reaches h s here')
        value_goes here flow tracked reaches (typed.allocate {count = count} {t = t} {element = element} {b = b} h fresh bounds) s here' =
            allocate_goes g budget ticks sandbox trusted k is low types here flow reaches count kinds.Array t element terminators.Absent refl b (array_row g.structs t element fresh.size fresh.cells fresh.initial) bounds s here' (typed_alone g budget ticks sandbox trusted k is low types here flow reaches count Int s (value_goes here flow tracked reaches h s here'))
        value_goes here flow tracked reaches (typed.allocate_ended {count = count} {terminator = terminator} {t = t} {element = element} {b = b} h ended fresh bounds) s here' =
            allocate_goes g budget ticks sandbox trusted k is low types here flow reaches count kinds.Nt t element terminator ended b (ended_row_new g.structs t element fresh) bounds s here' (typed_alone g budget ticks sandbox trusted k is low types here flow reaches count Int s (value_goes here flow tracked reaches h s here'))
        value_goes here flow tracked reaches (typed.byte_count {mode = m} {e = e} {p = p} {site = site} h elements) s here' =
            with_none g budget ticks sandbox trusted k is low types here flow reaches (core.Length e site) Int s (λ v u _. tt)
            (goes_on g budget ticks low types s (λ v u. IsAimed g budget ticks low types m kinds.Nt Char p elements.node (with_ends (bounds_of e) v u.locals) u × IsLocalOf g budget ticks sandbox trusted k is low types here flow reaches e m kinds.Nt Char v u) (OfType g Int) (value true (setting g budget ticks sandbox trusted k is) k e s) _
            (aimed_goes g budget ticks sandbox trusted k is low types here flow reaches e m kinds.Nt Char p s elements here' (value_goes here flow tracked reaches h s here'))
            (λ v u _ aimed u_kept. subst (λ w. Goes g budget ticks low types u (OfType g Int) (length_of budget site w (with_ends (bounds_of e) v u.locals).ends u)) (same_value g budget ticks sandbox trusted k is low types here flow reaches (bounds_of e) v u)
            (length_goes g budget ticks low types m p elements.node site (with_ends (bounds_of e) v u.locals) u aimed.0 u_kept)))
        value_goes here flow tracked reaches (typed.cast {e = e} {mode = m} {kind = kind} {kind' = kind'} {t = t} {p = p} {q = q} h elements counts within size limited ints bases) s here' =
            goes_on g budget ticks low types s (IsCast g budget ticks sandbox trusted k is low types here flow reaches e m kind t q) (OfNode g (core.Cast e (Some q)) (Pointer m kind' t)) (and_then (value true (setting g budget ticks sandbox trusted k is) k e s) (λ v u. cast_to (Some q) (with_ends (bounds_of e) v u.locals) u)) (audit true (Some q))
            (cast_step g budget ticks sandbox trusted k is low types here flow reaches e m kind t p q elements.node size.size ints bases elements.bounds s here'
            (with_given g budget ticks sandbox trusted k is low types here flow reaches e m kind t s (value_goes here flow tracked reaches h s here') (given_so here flow tracked reaches h m kind t refl s here' (value_goes here flow tracked reaches h s here'))))
            (λ v u _ x u_kept. bounded_goes g budget ticks low types u m kind' t (Some q) v size (value_as g.structs (shaped u) m kind kind' t counts v x.0) (valid_as g.structs m kind kind' t counts u q.bounds v x.0 x.1.0) u_kept)
        value_goes here flow tracked reaches (typed.cast_single {e = e} {kind = kind} {t = t} {p = p} {b = b} h elements within bounds) s here' =
            with_none g budget ticks sandbox trusted k is low types here flow reaches (core.Cast e b) (Pointer modes.Checked kinds.One t) s (plain_bounded g budget ticks sandbox trusted k is (Pointer modes.Checked kinds.One t) b bounds)
            (audited_goes g budget ticks low types s (Pointer modes.Checked kinds.One t) b (and_then (value true (setting g budget ticks sandbox trusted k is) k e s) (λ v u. cast_to b (with_ends (bounds_of e) v u.locals) u)) bounds
            (subst (λ b. Goes g budget ticks low types s (OfType g (Pointer modes.Checked kinds.One t)) (and_then (value true (setting g budget ticks sandbox trusted k is) k e s) (λ v u. cast_to b (with_ends (bounds_of e) v u.locals) u))) (sym bounds.1)
            (goes_further g budget ticks low types s (IsCast g budget ticks sandbox trusted k is low types here flow reaches e modes.Checked kind t (at_node one_element (size_of g.structs t) false bounds.0)) (OfType g (Pointer modes.Checked kinds.One t)) (and_then (value true (setting g budget ticks sandbox trusted k is) k e s) (λ v u. cast_to (Some (at_node one_element (size_of g.structs t) false bounds.0)) (with_ends (bounds_of e) v u.locals) u))
            (cast_step g budget ticks sandbox trusted k is low types here flow reaches e modes.Checked kind t p (at_node one_element (size_of g.structs t) false bounds.0) elements.node refl (record { lo = tt; hi = tt }) (λ i at. absurd (cc)) elements.bounds s here'
            (with_given g budget ticks sandbox trusted k is low types here flow reaches e modes.Checked kind t s (value_goes here flow tracked reaches h s here') (given_so here flow tracked reaches h modes.Checked kind t refl s here' (value_goes here flow tracked reaches h s here'))))
            (λ v u x. finds_one g.structs modes.Checked kind t u elements.some v x.0 x.1.0 bounds.0))))
        value_goes here flow tracked reaches (typed.cast_unbounded {e = e} {mode = m} {kind = kind} {kind' = kind'} {t = t} h elements counts) s here' =
            unbounded_goes g budget ticks sandbox trusted k is low types here flow reaches e m kind kind' t counts s (typed_alone g budget ticks sandbox trusted k is low types here flow reaches e (Pointer m kind t) s (value_goes here flow tracked reaches h s here'))
        value_goes here flow tracked reaches typed.next_input s here' =
            with_none g budget ticks sandbox trusted k is low types here flow reaches core.NextInput Int s (λ v u _. tt)
            (asked_goes g budget ticks low low types IsNumber (OfType g Int) (next_input s.world) s _ (next_answers budget low s.world here'.1.world) here'.1.enough here'.1 (λ z u _ fits u_kept. (fits, after_here u, u_kept)))

        -- a pointer is valid with its bounds, and with those from its base
        pub given_so : (here : Scope) (flow : IsFlow here.flow) (tracked : length here.locals ≤ here.flow.vars) (reaches : Extends here.locals types) {e : core.Expression} {c : CType} → HasType g types here e c → (m : Mode) (d : Kind) (t : CType) → c ≡ Pointer m d t → (s : State) → IsHere g budget ticks sandbox trusted k is low types here flow reaches s → Goes g budget ticks low types s (OfNode g e c) (value true (setting g budget ticks sandbox trusted k is) k e s) → WhereGiven (GivenTo g budget ticks sandbox trusted k is low types here flow reaches e m d t) (value true (setting g budget ticks sandbox trusted k is) k e s)
        given_so here flow tracked reaches (typed.word fits) m d t same s h goes = absurd (cc)
        given_so here flow tracked reaches (typed.byte fits) m d t same s h goes = absurd (cc)
        given_so here flow tracked reaches typed.null m d t same s h goes = given_none g budget ticks sandbox trusted k is low types here flow reaches core.Null m d t s refl refl
        given_so here flow tracked reaches (typed.local {k = i} {t = c} {b = b} e bounds) m d t same s h goes =
            typed_given g budget ticks sandbox trusted k is low types here flow reaches i b m d t s h (e ∙ ap Some same) (subst (λ c. Goes g budget ticks low types s (OfNode g (core.Local i b) c) (value true (setting g budget ticks sandbox trusted k is) k (core.Local i b) s)) same goes)
            (subst (λ c. HasBounds g.structs c b) same bounds)
        given_so here flow tracked reaches (typed.bounded {k = i} {mode = m'} {kind = kind} {t = t'} {p = p} e size limited named force) m d t same s h goes =
            local_given_by g budget ticks sandbox trusted k is low types here flow reaches i (Some p) m d t s h (e ∙ ap Some same) (subst (λ c. Goes g budget ticks low types s (OfNode g (core.Local i (Some p)) c) (value true (setting g budget ticks sandbox trusted k is) k (core.Local i (Some p)) s)) same goes)
            (λ v u w l known typed there type value. forced g budget ticks sandbox trusted k is low types here flow reaches m d t v w l type value p.bounds (force w known l there))
        given_so here flow tracked reaches (typed.widened h) m d t same s here' goes = absurd (cc)
        given_so here flow tracked reaches (typed.single {e = e} {mode = m'} {kind = kind} {t = t'} h elements leads) m d t same s here' goes =
            as_kind g budget ticks sandbox trusted k is low types here flow reaches e m' kind kinds.One t' s (λ v w typed b h. valid_as_single g.structs m' kind t' w b v typed h) (value_goes here flow tracked reaches h s here')
            (given_so here flow tracked reaches h m' kind t' refl s here' (value_goes here flow tracked reaches h s here')) (Pointer m d t) same
        given_so here flow tracked reaches (typed.row {e = e} {mode = m'} {t = t'} h bounds) m d t same s here' goes =
            as_kind g budget ticks sandbox trusted k is low types here flow reaches e m' kinds.One kinds.Array t' s (λ v w typed b h. record { passes = h.passes; leads = h.leads }) (value_goes here flow tracked reaches h s here')
            (given_so here flow tracked reaches h m' kinds.One t' refl s here' (value_goes here flow tracked reaches h s here')) (Pointer m d t) same
        given_so here flow tracked reaches (typed.ended_row {e = e} {mode = m'} {t = t'} h) m d t same s here' goes =
            as_kind g budget ticks sandbox trusted k is low types here flow reaches e m' kinds.Nt kinds.Array t' s (λ v w typed b h. valid_as_array g.structs m' t' w b v typed h) (value_goes here flow tracked reaches h s here')
            (given_so here flow tracked reaches h m' kinds.Nt t' refl s here' (value_goes here flow tracked reaches h s here')) (Pointer m d t) same
        given_so here flow tracked reaches (typed.load {t = c} {p = p} {b = b} scalar h bounds) m d t same s here' goes =
            cell_given g budget ticks sandbox trusted k is low types here flow reaches p c b bounds m d t same s goes
        given_so here flow tracked reaches (typed.bounded_object {object = object} {mode = m'} {kind = kind} {t = t'} {p = p} declared size) m d t same s here' goes =
            let e = core.Load (Pointer m' kind t') (core.Direct object 0) (Some p) in
            subst (λ c. WhereGiven (AreGiven g.structs (length here.locals) c e) (value true (setting g budget ticks sandbox trusted k is) k e s)) same
            (so_further (λ v u. OfNode g e (Pointer m' kind t') v u × IsAfter s u × IsKept g budget ticks low types u) (GivenTo g budget ticks sandbox trusted k is low types here flow reaches e m' kind t') (value true (setting g budget ticks sandbox trusted k is) k e s)
            (sure_given (λ v u. OfNode g e (Pointer m' kind t') v u × IsAfter s u × IsKept g budget ticks low types u) (value true (setting g budget ticks sandbox trusted k is) k e s) goes)
            (λ v u x. bounded_given g budget ticks sandbox trusted k is low types here flow reaches object m' kind t' p declared v u x.0.1))
        given_so here flow tracked reaches (typed.address_of {mode = m'} {t = t'} {p = p} {b = b} h bounds) m d t same s here' goes =
            plainly_given g budget ticks sandbox trusted k is low types here flow reaches (core.AddressOf p b) m d t s (subst (λ c. HasBounds g.structs c b) same bounds) refl (subst (λ x. Goes g budget ticks low types s (OfNode g (core.AddressOf p b) x) (value true (setting g budget ticks sandbox trusted k is) k (core.AddressOf p b) s)) same goes)
        given_so here flow tracked reaches (typed.array {object = object} {n = n} {t = t'} {p = p} {v = variable} found some few rows bounds size) m d t same s here' goes =
            subst (λ c. WhereGiven (AreGiven g.structs (length here.locals) c (core.AddressOf (core.Direct object 0) (Some p))) (value true (setting g budget ticks sandbox trusted k is) k (core.AddressOf (core.Direct object 0) (Some p)) s)) same
            (so_on (λ (v : Value) (u : State). (v ≡ At object 0) × IsAfter s u × IsKept g budget ticks low types u) (GivenTo g budget ticks sandbox trusted k is low types here flow reaches (core.AddressOf (core.Direct object 0) (Some p)) modes.Checked kinds.Array t') (and_then (variable_at (setting g budget ticks sandbox trusted k is) object 0 s) pointer_to) (audit true (Some p))
            (sure_given (λ (v : Value) (u : State). (v ≡ At object 0) × IsAfter s u × IsKept g budget ticks low types u) (and_then (variable_at (setting g budget ticks sandbox trusted k is) object 0 s) pointer_to)
            (goes_on g budget ticks low types s (λ (at : ℕ × ℕ) (u : State). at ≡ (object, 0)) (λ (v : Value) (u : State). v ≡ At object 0) (variable_at (setting g budget ticks sandbox trusted k is) object 0 s) pointer_to (first_goes g budget ticks low types s t' object n variable found some rows here'.1)
            (λ at u _ at_start u_kept. (ap (λ (at : ℕ × ℕ). At at.0 at.1) at_start, after_here u, u_kept))))
            (λ v u x. audited_so (GivenTo g budget ticks sandbox trusted k is low types here flow reaches (core.AddressOf (core.Direct object 0) (Some p)) modes.Checked kinds.Array t') true (Some p) v u
            (array_given g budget ticks sandbox trusted k is low types here flow reaches modes.Checked t' n object variable p some rows bounds v u x.0 (object_there g budget ticks low types u object variable found x.2))))
        given_so here flow tracked reaches (typed.ended_array {object = object} {n = n} {t = t'} {p = p} {v = variable} found few row bounds size) m d t same s here' goes =
            subst (λ c. WhereGiven (AreGiven g.structs (length here.locals) c (core.AddressOf (core.Direct object 0) (Some p))) (value true (setting g budget ticks sandbox trusted k is) k (core.AddressOf (core.Direct object 0) (Some p)) s)) same
            (so_on (λ (v : Value) (u : State). (v ≡ At object 0) × IsAfter s u × IsKept g budget ticks low types u) (GivenTo g budget ticks sandbox trusted k is low types here flow reaches (core.AddressOf (core.Direct object 0) (Some p)) modes.Checked kinds.Nt t') (and_then (variable_at (setting g budget ticks sandbox trusted k is) object 0 s) pointer_to) (audit true (Some p))
            (sure_given (λ (v : Value) (u : State). (v ≡ At object 0) × IsAfter s u × IsKept g budget ticks low types u) (and_then (variable_at (setting g budget ticks sandbox trusted k is) object 0 s) pointer_to)
            (goes_on g budget ticks low types s (λ (at : ℕ × ℕ) (u : State). at ≡ (object, 0)) (λ (v : Value) (u : State). v ≡ At object 0) (variable_at (setting g budget ticks sandbox trusted k is) object 0 s) pointer_to (start_goes g budget ticks low types s t' object n variable found row here'.1)
            (λ at u _ at_start u_kept. (ap (λ (at : ℕ × ℕ). At at.0 at.1) at_start, after_here u, u_kept))))
            (λ v u x. audited_so (GivenTo g budget ticks sandbox trusted k is low types here flow reaches (core.AddressOf (core.Direct object 0) (Some p)) modes.Checked kinds.Nt t') true (Some p) v u
            (row_given g budget ticks sandbox trusted k is low types here flow reaches t' n object variable p row bounds v u x.0 (object_there g budget ticks low types u object variable found x.2))))
        given_so here flow tracked reaches (typed.sum {e = e} {i = i} {mode = m'} {kind = kind} {t = t'} {direction = direction} {site = site} {p = p} {b = b} counts h elements hi bounds) m d t same s here' goes =
            subst (λ c. WhereGiven (AreGiven g.structs (length here.locals) c (core.Sum e direction i site b)) (value true (setting g budget ticks sandbox trusted k is) k (core.Sum e direction i site b) s)) same
            (so_on (λ x y. IsSummed g budget ticks sandbox trusted k is low types here flow reaches e i m' kind t' direction p (GivenTo g budget ticks sandbox trusted k is low types here flow reaches e m' kind t') x y × IsAfter s y × IsKept g budget ticks low types y) (GivenTo g budget ticks sandbox trusted k is low types here flow reaches (core.Sum e direction i site b) m' kind t') _ (audit true b)
            (sure_given (λ x y. IsSummed g budget ticks sandbox trusted k is low types here flow reaches e i m' kind t' direction p (GivenTo g budget ticks sandbox trusted k is low types here flow reaches e m' kind t') x y × IsAfter s y × IsKept g budget ticks low types y) _
            (sum_goes g budget ticks sandbox trusted k is low types here flow reaches e i m' kind t' direction p site elements (GivenTo g budget ticks sandbox trusted k is low types here flow reaches e m' kind t') s counts here' (given_stays g budget ticks sandbox trusted k is low types here flow reaches e m' kind t') (with_given g budget ticks sandbox trusted k is low types here flow reaches e m' kind t' s (value_goes here flow tracked reaches h s here') (given_so here flow tracked reaches h m' kind t' refl s here' (value_goes here flow tracked reaches h s here'))) (λ u stands. typed_alone g budget ticks sandbox trusted k is low types here flow reaches i Int u (value_goes here flow tracked reaches hi u stands))))
            (λ x y summed. audited_so (GivenTo g budget ticks sandbox trusted k is low types here flow reaches (core.Sum e direction i site b) m' kind t') true b x y (sum_given g budget ticks sandbox trusted k is low types here flow reaches e i m' kind t' direction site p b elements.bounds bounds x y summed.0)))
        given_so here flow tracked reaches (typed.negate h) m d t same s here' goes = absurd (cc)
        given_so here flow tracked reaches (typed.complement h) m d t same s here' goes = absurd (cc)
        given_so here flow tracked reaches (typed.inverse h) m d t same s here' goes = absurd (cc)
        given_so here flow tracked reaches (typed.arithmetic ha hb) m d t same s here' goes = absurd (cc)
        given_so here flow tracked reaches (typed.compare ha hb) m d t same s here' goes = absurd (cc)
        given_so here flow tracked reaches (typed.same ha hb) m d t same s here' goes = absurd (cc)
        given_so here flow tracked reaches (typed.order ha from hb to) m d t same s here' goes = absurd (cc)
        given_so here flow tracked reaches (typed.both ha hb) m d t same s here' goes = absurd (cc)
        given_so here flow tracked reaches (typed.either ha hb) m d t same s here' goes = absurd (cc)
        given_so here flow tracked reaches (typed.low_byte h) m d t same s here' goes = absurd (cc)
        given_so here flow tracked reaches (typed.byte_count h elements) m d t same s here' goes = absurd (cc)
        given_so here flow tracked reaches (typed.call {callee = callee} {ts = ts} {r = r} {arguments = arguments} {t = c} {b = b} known h asked bounds) m d t same s here' goes = call_given g budget ticks sandbox trusted k is low types here flow reaches callee arguments ts c r b bounds m d t same s here' goes
        given_so here flow tracked reaches typed.next_input m d t same s here' goes = absurd (cc)
        given_so here flow tracked reaches (typed.allocate {count = count} {t = t'} {element = element} {b = b} h fresh bounds) m d t same s here' goes =
            subst (λ c. WhereGiven (AreGiven g.structs (length here.locals) c (core.Allocate count element terminators.Absent b)) (value true (setting g budget ticks sandbox trusted k is) k (core.Allocate count element terminators.Absent b) s)) same
            (allocate_given g budget ticks sandbox trusted k is low types here flow reaches count kinds.Array t' element terminators.Absent b bounds s goes)
        given_so here flow tracked reaches (typed.allocate_ended {count = count} {terminator = terminator} {t = t'} {element = element} {b = b} h ended fresh bounds) m d t same s here' goes =
            subst (λ c. WhereGiven (AreGiven g.structs (length here.locals) c (core.Allocate count element terminator b)) (value true (setting g budget ticks sandbox trusted k is) k (core.Allocate count element terminator b) s)) same
            (allocate_given g budget ticks sandbox trusted k is low types here flow reaches count kinds.Nt t' element terminator b bounds s goes)
        given_so here flow tracked reaches (typed.cast {e = e} {mode = m'} {kind = kind} {kind' = kind'} {t = t'} {p = p} {q = q} h elements counts within size limited ints bases) m d t same s here' goes =
            subst (λ c. WhereGiven (AreGiven g.structs (length here.locals) c (core.Cast e (Some q))) (value true (setting g budget ticks sandbox trusted k is) k (core.Cast e (Some q)) s)) same
            (so_on (λ v u. IsCast g budget ticks sandbox trusted k is low types here flow reaches e m' kind t' q v u × IsAfter s u × IsKept g budget ticks low types u) (GivenTo g budget ticks sandbox trusted k is low types here flow reaches (core.Cast e (Some q)) m' kind' t') (and_then (value true (setting g budget ticks sandbox trusted k is) k e s) (λ v u. cast_to (Some q) (with_ends (bounds_of e) v u.locals) u)) (audit true (Some q))
            (sure_given (λ v u. IsCast g budget ticks sandbox trusted k is low types here flow reaches e m' kind t' q v u × IsAfter s u × IsKept g budget ticks low types u) (and_then (value true (setting g budget ticks sandbox trusted k is) k e s) (λ v u. cast_to (Some q) (with_ends (bounds_of e) v u.locals) u))
            (cast_step g budget ticks sandbox trusted k is low types here flow reaches e m' kind t' p q elements.node size.size ints bases elements.bounds s here'
            (with_given g budget ticks sandbox trusted k is low types here flow reaches e m' kind t' s (value_goes here flow tracked reaches h s here') (given_so here flow tracked reaches h m' kind t' refl s here' (value_goes here flow tracked reaches h s here')))))
            (λ v u x. audited_so (GivenTo g budget ticks sandbox trusted k is low types here flow reaches (core.Cast e (Some q)) m' kind' t') true (Some q) v u
            (given_weaker g.structs m' kind kind' t' (length here.locals) (core.Cast e (Some q)) v u
            (λ w alike b h. valid_as g.structs m' kind kind' t' counts w b v (subst (λ y. HasValue g.structs (shapes y) (Pointer m' kind t') v) (sym alike.blocks) x.0.0) h)
            (cast_given g budget ticks sandbox trusted k is low types here flow reaches e m' kind t' p q elements.node size.size ints bases v u (here_later g budget ticks sandbox trusted k is low types here flow reaches s u x.1 here' x.2) x.0))))
        given_so here flow tracked reaches (typed.cast_single {e = e} {kind = kind} {t = t'} {p = p} {b = b} h elements within bounds) m d t same s here' goes =
            plainly_given g budget ticks sandbox trusted k is low types here flow reaches (core.Cast e b) m d t s (subst (λ c. HasBounds g.structs c b) same bounds) (single_unbased g budget ticks sandbox trusted k is low types here flow reaches t' b bounds) (subst (λ x. Goes g budget ticks low types s (OfNode g (core.Cast e b) x) (value true (setting g budget ticks sandbox trusted k is) k (core.Cast e b) s)) same goes)
        given_so here flow tracked reaches (typed.cast_unbounded {e = e} {kind = kind} h elements counts) m d t same s here' goes = given_none g budget ticks sandbox trusted k is low types here flow reaches (core.Cast e None) m d t s refl refl

        pub values_go : (here : Scope) (flow : IsFlow here.flow) (tracked : length here.locals ≤ here.flow.vars) (reaches : Extends here.locals types) {arguments : core.Arguments} {ts : List CType} → HaveTypes g types here arguments ts → (s : State) → IsHere g budget ticks sandbox trusted k is low types here flow reaches s
            → Goes g budget ticks low types s (λ vs u. OfTypes g ts vs u × ArePassed g.structs (length here.locals) here.locals ts arguments vs u) (values true (setting g budget ticks sandbox trusted k is) k arguments s)
        values_go here flow tracked reaches typed.done s h = ((tt, tt), after_here s, h.1)
        values_go here flow tracked reaches (typed.more {e = e} {rest = rest} {t = t} {ts = ts} h hs) s here' =
            goes_on g budget ticks low types s (IsArgument g budget ticks sandbox trusted k is low types here flow reaches e t) (λ vs u. OfTypes g (t ∷ ts) vs u × ArePassed g.structs (length here.locals) here.locals (t ∷ ts) (core.More e rest) vs u) (value true (setting g budget ticks sandbox trusted k is) k e s) _
            (passed_so g budget ticks sandbox trusted k is low types here flow reaches e t s here' (typed_alone g budget ticks sandbox trusted k is low types here flow reaches e t s (value_goes here flow tracked reaches h s here')) (given_by_kind g budget ticks sandbox trusted k is low types here flow reaches e t s (λ m kind c same. given_so here flow tracked reaches h m kind c same s here' (value_goes here flow tracked reaches h s here'))))
            (λ v u after x u_kept. goes_on g budget ticks low types u (λ vs w. OfTypes g ts vs w × ArePassed g.structs (length here.locals) here.locals ts rest vs w)
            (λ vs w. OfTypes g (t ∷ ts) vs w × ArePassed g.structs (length here.locals) here.locals (t ∷ ts) (core.More e rest) vs w) (values true (setting g budget ticks sandbox trusted k is) k rest u) _ (values_go here flow tracked reaches hs u (here_later g budget ticks sandbox trusted k is low types here flow reaches s u after here' u_kept))
            (λ vs w grown y w_kept. (((value_grown g.structs (shaped u) (shaped w) grown.0 t v x.0, y.0), (passed_later g.structs (length here.locals) here.locals t e v u w grown x.1, y.1)), after_here w, w_kept)))

        -- where a cell is read or written
        pub access_goes : (here : Scope) (flow : IsFlow here.flow) (tracked : length here.locals ≤ here.flow.vars) (reaches : Extends here.locals types) {p : core.Place} {t : CType} → HasAccess g types here p t → (s : State) → IsHere g budget ticks sandbox trusted k is low types here flow reaches s → Goes g budget ticks low types s (IsAccessed g t) (place true (setting g budget ticks sandbox trusted k is) k p s)
        access_goes here flow tracked reaches {p = p} {t = t} (typed.at_place h) s here' =
            goes_further g budget ticks low types s (IsPlaced g t) (IsAccessed g t) (place true (setting g budget ticks sandbox trusted k is) k p s) (place_goes here flow tracked reaches h s here') (λ at u placed. inl placed)
        access_goes here flow tracked reaches (typed.ended {mode = m} {e = e} {i = i} {t = t} {p = p} {site = site} h elements hi) s here' =
            goes_on g budget ticks low types s (λ v u. IsAimed g budget ticks low types m kinds.Nt t p elements.node (with_ends (bounds_of e) v u.locals) u × IsLocalOf g budget ticks sandbox trusted k is low types here flow reaches e m kinds.Nt t v u) (IsAccessed g t) (value true (setting g budget ticks sandbox trusted k is) k e s) _ (aimed_goes g budget ticks sandbox trusted k is low types here flow reaches e m kinds.Nt t p s elements here' (value_goes here flow tracked reaches h s here'))
            (λ v u after aimed u_kept. goes_on g budget ticks low types u (λ (z : ℤ) (w : State). Unit {0}) (IsAccessed g t) (and_then (value true (setting g budget ticks sandbox trusted k is) k i u) (number_given None)) _
            (number_goes_on g budget ticks sandbox trusted k is low types here flow reaches i u None (typed_alone g budget ticks sandbox trusted k is low types here flow reaches i Int u (value_goes here flow tracked reaches hi u (here_later g budget ticks sandbox trusted k is low types here flow reaches s u after here' u_kept))))
            (λ z w later _ w_kept.
            let q = with_ends (bounds_of e) v u.locals in
            goes_further g budget ticks low types w (IsUpTo g budget ticks low types m kinds.Nt t p elements.node q z) (IsAccessed g t) (element_within true 0 site z q.value q.ends w)
            (upper_goes g budget ticks low types m t p elements.node w site z q (aimed_later g budget ticks low types m kinds.Nt t p elements.node q u w later aimed.0) w_kept) (λ at x there. inr (lies_below there.ends (pos at.1), there.place))))

        pub place_goes : (here : Scope) (flow : IsFlow here.flow) (tracked : length here.locals ≤ here.flow.vars) (reaches : Extends here.locals types) {p : core.Place} {t : CType} → HasPlace g types here p t → (s : State) → IsHere g budget ticks sandbox trusted k is low types here flow reaches s → Goes g budget ticks low types s (IsPlaced g t) (place true (setting g budget ticks sandbox trusted k is) k p s)
        place_goes here flow tracked reaches (typed.direct {object = object} {offset = offset} {t = t} {v = variable} found row) s h = variable_goes g budget ticks low types s t object offset variable found row h.1
        place_goes here flow tracked reaches (typed.pointed {mode = m} {e = e} {t = t} {site = site} h) s here' =
            goes_on g budget ticks low types s (OfType g (Pointer m kinds.One t)) (IsPlaced g t) (value true (setting g budget ticks sandbox trusted k is) k e s) _ (typed_alone g budget ticks sandbox trusted k is low types here flow reaches e (Pointer m kinds.One t) s (value_goes here flow tracked reaches h s here'))
            (λ v u _ typed u_kept. pointed_goes g budget ticks low types u m t site _ (same_pointer (λ v. OfType g (Pointer m kinds.One t) v u) (bounds_of e) v u typed) u_kept)
        place_goes here flow tracked reaches (typed.member {mode = m} {e = e} {n = number} {offset = offset} {t = t} {site = site} slot h found scalar) s here' =
            goes_on g budget ticks low types s (OfType g (Pointer m kinds.One (Struct number))) (IsPlaced g t) (value true (setting g budget ticks sandbox trusted k is) k e s) _ (typed_alone g budget ticks sandbox trusted k is low types here flow reaches e (Pointer m kinds.One (Struct number)) s (value_goes here flow tracked reaches h s here'))
            (λ v u _ typed u_kept. member_goes g budget ticks low types u m number slot offset t site _ found scalar (same_pointer (λ v. OfType g (Pointer m kinds.One (Struct number)) v u) (bounds_of e) v u typed) u_kept)
        place_goes here flow tracked reaches (typed.element {mode = m} {kind = kind} {e = e} {i = i} {t = t} {p = p} {site = site} h elements hi) s here' =
            goes_on g budget ticks low types s (λ v u. IsAimed g budget ticks low types m kind t p elements.node (with_ends (bounds_of e) v u.locals) u × IsLocalOf g budget ticks sandbox trusted k is low types here flow reaches e m kind t v u) (IsPlaced g t) (value true (setting g budget ticks sandbox trusted k is) k e s) _ (aimed_goes g budget ticks sandbox trusted k is low types here flow reaches e m kind t p s elements here' (value_goes here flow tracked reaches h s here'))
            (λ v u after aimed u_kept. goes_on g budget ticks low types u (λ (z : ℤ) (w : State). Unit {0}) (IsPlaced g t) (and_then (value true (setting g budget ticks sandbox trusted k is) k i u) (number_given None)) _
            (number_goes_on g budget ticks sandbox trusted k is low types here flow reaches i u None (typed_alone g budget ticks sandbox trusted k is low types here flow reaches i Int u (value_goes here flow tracked reaches hi u (here_later g budget ticks sandbox trusted k is low types here flow reaches s u after here' u_kept))))
            (λ z w later _ w_kept. element_goes g budget ticks low types m kind t p elements.node w site z (with_ends (bounds_of e) v u.locals) (aimed_later g budget ticks low types m kind t p elements.node (with_ends (bounds_of e) v u.locals) u w later aimed.0) w_kept))
        place_goes here flow tracked reaches (typed.element_member {mode = m} {kind = kind} {e = e} {i = i} {n = number} {offset = offset} {t = t} {p = p} {site = site} slot h elements hi found scalar) s here' =
            goes_on g budget ticks low types s (λ v u. IsAimed g budget ticks low types m kind (Struct number) p elements.node (with_ends (bounds_of e) v u.locals) u × IsLocalOf g budget ticks sandbox trusted k is low types here flow reaches e m kind (Struct number) v u) (IsPlaced g t) (value true (setting g budget ticks sandbox trusted k is) k e s) _ (aimed_goes g budget ticks sandbox trusted k is low types here flow reaches e m kind (Struct number) p s elements here' (value_goes here flow tracked reaches h s here'))
            (λ v u after aimed u_kept. goes_on g budget ticks low types u (λ (z : ℤ) (w : State). Unit {0}) (IsPlaced g t) (and_then (value true (setting g budget ticks sandbox trusted k is) k i u) (number_given None)) _
            (number_goes_on g budget ticks sandbox trusted k is low types here flow reaches i u None (typed_alone g budget ticks sandbox trusted k is low types here flow reaches i Int u (value_goes here flow tracked reaches hi u (here_later g budget ticks sandbox trusted k is low types here flow reaches s u after here' u_kept))))
            (λ z w later _ w_kept. element_member_goes g budget ticks low types m kind number slot offset t p elements.node found scalar w site z (with_ends (bounds_of e) v u.locals)
            (aimed_later g budget ticks low types m kind (Struct number) p elements.node (with_ends (bounds_of e) v u.locals) u w later aimed.0) w_kept))

    -- ---- moved pointers

    moved_further : (size : ℕ) (a c : ℤ) (o : Value) (block byte place : ℕ) → IsMoved size a o (At block byte) → pos place ≡ pos byte +ℤ (c *ℤ pos size) → IsMoved size (a +ℤ c) o (At block place)
    moved_further size a c (Number z) block byte place h step = tt
    moved_further size a c Null block byte place h step = tt
    moved_further size a c (At other from) block byte place h step =
        let same : block ≡ other = first_same block byte other h.0 h.1 in
        let at : byte ≡ h.0 = second_same block byte other h.0 h.1 in
        let before = h.2 in
        let both = times_plus a c size in
        (place, ap (λ b. At b place) same, omega (arith, ints, step, at, before, both))
      where
        first_same : (a b c d : ℕ) → At a b ≡ At c d → a ≡ c
        first_same a b c d q = cc

        second_same : (a b c d : ℕ) → At a b ≡ At c d → b ≡ d
        second_same a b c d q = cc

    module _ (low : ℕ) (types : List CType) (here : Scope) (flow : IsFlow here.flow) (tracked : length here.locals ≤ here.flow.vars) (reaches : Extends here.locals types) where
      behind_later : (e : core.Expression) (v : Value) (u w : State) → IsAfter u w → IsBehind g.structs here.locals e v u → IsBehind g.structs here.locals e v w
      behind_later e v u w after h b is l there = h b is l (subst (λ ls. slice_get ls b.local ≡ Some l) after.1 there)

      local_behind : (i : ℕ) (c : Option PointerBounds) (s : State) → WhereGiven (IsBehind g.structs here.locals (core.Local i c)) (value true (setting g budget ticks sandbox trusted k is) k (core.Local i c) s)
      local_behind i c s =
          so_further (λ (v : Value) (u : State). (l : Local) → slice_get u.locals i ≡ Some l → l.value ≡ v) (IsBehind g.structs here.locals (core.Local i c)) (value true (setting g budget ticks sandbox trusted k is) k (core.Local i c) s) (local_read g budget ticks sandbox trusted k is low types here flow reaches i c s)
          (λ v u read b is l there.
          let at = local_parts here.locals i b (is_pointer_type (slice_get here.locals i)) is in
          subst (λ z. IsMoved (target_size g.structs l.type) z l.value v) (sym at.1)
          (subst (λ v. IsMoved (target_size g.structs l.type) (pos 0) l.value v) (read l (subst (λ x. slice_get u.locals x ≡ Some l) at.0 there)) (stays (target_size g.structs l.type) l.value)))

      -- an expression of another form
      nowhere : (e : core.Expression) (s : State) → ((b : Behind) → behind_local here.locals e ≡ Some b → ⊥) → WhereGiven (IsBehind g.structs here.locals e) (value true (setting g budget ticks sandbox trusted k is) k e s)
      nowhere e s none = so_always (IsBehind g.structs here.locals e) (value true (setting g budget ticks sandbox trusted k is) k e s) (λ v u b is. absurd (none b is))

      sum_behind : {e i : core.Expression} {m : Mode} {kind : Kind} {t : CType} {direction : Direction} {p : PointerBounds} → HasType g types here e (Pointer m kind t) → (site : Site) (c : Option PointerBounds) (x : Value) (y : State)
          → IsSummed g budget ticks sandbox trusted k is low types here flow reaches e i m kind t direction p (IsBehind g.structs here.locals e) x y → IsKept g budget ticks low types y → IsBehind g.structs here.locals (core.Sum e direction i site c) x y
      sum_behind {e = e} {i = i} {m = m} {kind = kind} {t = t} {direction = direction} h site c x y summed kept b is l there =
          let f = further_parts direction (constant here.locals i) (behind_local here.locals e) b is in
          let base = base_of g types here reaches h f.before f.there m kind t refl in
          let held = local_there g.structs (shaped y) types y.locals f.before.local (Pointer m base.0 t) kept.locals base.1 in
          let at : slice_get y.locals f.before.local ≡ Some l = subst (λ k. slice_get y.locals k ≡ Some l) f.local there in
          let type : l.type ≡ Pointer m base.0 t = ap (λ (l : Local). l.type) (same_local l held.0 (sym at ∙ held.1)) ∙ held.2 in
          let size : target_size g.structs l.type ≡ size_of g.structs t = ap (target_size g.structs) type in
          let before : IsMoved (target_size g.structs l.type) f.before.elements l.value (At summed.sum.block summed.sum.byte) = subst (λ v. IsMoved (target_size g.structs l.type) f.before.elements l.value v) summed.sum.before (summed.other f.before f.there l at) in
          let step : pos summed.sum.place ≡ pos summed.sum.byte +ℤ (toward direction f.constant *ℤ pos (target_size g.structs l.type)) =
          summed.sum.step ∙ (ap (λ z. pos summed.sum.byte +ℤ (toward direction z *ℤ pos (size_of g.structs t))) (summed.constant f.constant f.is) ∙ ap (λ n. pos summed.sum.byte +ℤ (toward direction f.constant *ℤ pos n)) (sym size)) in
          subst (λ z. IsMoved (target_size g.structs l.type) z l.value x) (sym f.elements)
          (subst (λ v. IsMoved (target_size g.structs l.type) (f.before.elements +ℤ toward direction f.constant) l.value v) (sym summed.sum.behind)
          (moved_further (target_size g.structs l.type) f.before.elements (toward direction f.constant) l.value summed.sum.block summed.sum.byte summed.sum.place before step))
        where
          same_local : (a b : Local) → Some a ≡ Some b → a ≡ b
          same_local a b q = cc

      pub behind_so : {e : core.Expression} {t : CType} → HasType g types here e t → (s : State) → IsHere g budget ticks sandbox trusted k is low types here flow reaches s → WhereGiven (IsBehind g.structs here.locals e) (value true (setting g budget ticks sandbox trusted k is) k e s)
      behind_so (typed.word {z = z} fits) s h = nowhere (core.Number z) s (λ b is. absurd (cc))
      behind_so (typed.byte {z = z} fits) s h = nowhere (core.Number z) s (λ b is. absurd (cc))
      behind_so typed.null s h = nowhere core.Null s (λ b is. absurd (cc))
      behind_so (typed.local {k = i} {b = b} e bounds) s h = local_behind i b s
      behind_so (typed.bounded {k = i} {kind = kind} {p = p} e size limited named force) s h = local_behind i (Some p) s
      behind_so (typed.widened h) s here' = behind_so h s here'
      behind_so (typed.single h elements leads) s here' = behind_so h s here'
      behind_so (typed.row h bounds) s here' = behind_so h s here'
      behind_so (typed.ended_row h) s here' = behind_so h s here'
      behind_so (typed.load {t = t} {p = p} {b = b} scalar hp bounds) s h = nowhere (core.Load t p b) s (λ b is. absurd (cc))
      behind_so (typed.bounded_object {object = object} {mode = m} {kind = kind} {t = t} {p = p} is size) s h = nowhere (core.Load (Pointer m kind t) (core.Direct object 0) (Some p)) s (λ b from. absurd (cc))
      behind_so (typed.address_of {p = p} {b = b} hp bounds) s h = nowhere (core.AddressOf p b) s (λ b is. absurd (cc))
      behind_so (typed.ended_array {object = object} {p = p} found few row bounds size) s h = nowhere (core.AddressOf (core.Direct object 0) (Some p)) s (λ b is. absurd (cc))
      behind_so (typed.array {object = object} {p = p} found some few rows bounds size) s h = nowhere (core.AddressOf (core.Direct object 0) (Some p)) s (λ b is. absurd (cc))
      behind_so (typed.sum {e = e} {i = i} {mode = m} {kind = kind} {t = t} {direction = direction} {site = site} {p = p} {b = b} counts h elements hi bounds) s here' =
          so_on (λ x y. IsSummed g budget ticks sandbox trusted k is low types here flow reaches e i m kind t direction p X x y × IsAfter s y × IsKept g budget ticks low types y) (IsBehind g.structs here.locals (core.Sum e direction i site b)) inner (audit true b)
          (sure_given (λ x y. IsSummed g budget ticks sandbox trusted k is low types here flow reaches e i m kind t direction p X x y × IsAfter s y × IsKept g budget ticks low types y) inner
          (sum_goes g budget ticks sandbox trusted k is low types here flow reaches e i m kind t direction p site elements X s counts here' (behind_later e)
          (sure_further (λ v u. (OfNode g e (Pointer m kind t) v u × IsAfter s u × IsKept g budget ticks low types u) × X v u) (λ v u. (OfNode g e (Pointer m kind t) v u × X v u) × IsAfter s u × IsKept g budget ticks low types u) (value true (setting g budget ticks sandbox trusted k is) k e s)
          (sure_both (λ v u. OfNode g e (Pointer m kind t) v u × IsAfter s u × IsKept g budget ticks low types u) X (value true (setting g budget ticks sandbox trusted k is) k e s) (value_goes low types here flow tracked reaches h s here') (behind_so h s here')) (λ v u x. ((x.0.0, x.1), x.0.1, x.0.2)))
          (λ u stands. typed_alone g budget ticks sandbox trusted k is low types here flow reaches i Int u (value_goes low types here flow tracked reaches hi u stands))))
          (λ x y summed. audited_so (IsBehind g.structs here.locals (core.Sum e direction i site b)) true b x y (sum_behind h site b x y summed.0 summed.2))
        where
          X : Value → State → Type 0
          X = IsBehind g.structs here.locals e

          inner : Result Value
          inner = and_then (value true (setting g budget ticks sandbox trusted k is) k e s) (λ v u. and_then (and_then (value true (setting g budget ticks sandbox trusted k is) k i u) (number_given (Some site))) (λ z w. summed direction site z v (with_ends (bounds_of e) v u.locals).ends w))
      behind_so (typed.negate {e = e} {site = site} he) s h = nowhere (core.Negate e site) s (λ b is. absurd (cc))
      behind_so (typed.complement {e = e} he) s h = nowhere (core.Complement e) s (λ b is. absurd (cc))
      behind_so (typed.inverse {e = e} he) s h = nowhere (core.Not e) s (λ b is. absurd (cc))
      behind_so (typed.arithmetic {operator = operator} {a = a} {b = c} {site = site} ha hb) s h = nowhere (core.Arithmetic operator a c site) s (λ b is. absurd (cc))
      behind_so (typed.compare {comparison = comparison} {a = a} {b = c} ha hb) s h = nowhere (core.Compare comparison a c) s (λ b is. absurd (cc))
      behind_so (typed.same {a = a} {b = c} ha hb) s h = nowhere (core.Same a c) s (λ b is. absurd (cc))
      behind_so (typed.order {comparison = comparison} {a = a} {b = c} {site = site} ha from hb to) s h = nowhere (core.Order comparison a c site) s (λ b is. absurd (cc))
      behind_so (typed.both {a = a} {b = c} ha hb) s h = nowhere (core.AndAlso a c) s (λ b is. absurd (cc))
      behind_so (typed.either {a = a} {b = c} ha hb) s h = nowhere (core.OrElse a c) s (λ b is. absurd (cc))
      behind_so (typed.low_byte {e = e} he) s h = nowhere (core.LowByte e) s (λ b is. absurd (cc))
      behind_so (typed.byte_count {e = e} {site = site} he elements) s h = nowhere (core.Length e site) s (λ b is. absurd (cc))
      behind_so (typed.call {callee = callee} {arguments = arguments} {b = c} known ha asked bounds) s h = nowhere (core.Call callee arguments c) s (λ b is. absurd (cc))
      behind_so typed.next_input s h = nowhere core.NextInput s (λ b is. absurd (cc))
      behind_so (typed.allocate {count = count} {element = element} {b = c} hn fresh bounds) s h = nowhere (core.Allocate count element terminators.Absent c) s (λ b is. absurd (cc))
      behind_so (typed.allocate_ended {count = count} {terminator = terminator} {element = element} {b = c} hn ended fresh bounds) s h = nowhere (core.Allocate count element terminator c) s (λ b is. absurd (cc))
      behind_so (typed.cast {e = e} {q = q} he elements counts within size limited ints bases) s h = nowhere (core.Cast e (Some q)) s (λ b is. absurd (cc))
      behind_so (typed.cast_single {e = e} {b = c} he elements within bounds) s h = nowhere (core.Cast e c) s (λ b is. absurd (cc))
      behind_so (typed.cast_unbounded {e = e} he elements counts) s h = nowhere (core.Cast e None) s (λ b is. absurd (cc))

      pub given_to_so : {e : core.Expression} (c : CType) → HasType g types here e c → (s : State) → IsHere g budget ticks sandbox trusted k is low types here flow reaches s → WhereGiven (IsGivenTo g.structs (length here.locals) c e) (value true (setting g budget ticks sandbox trusted k is) k e s)
      given_to_so {e = e} c h s here' = given_by_kind g budget ticks sandbox trusted k is low types here flow reaches e c s (λ m kind t same. given_so low types here flow tracked reaches h m kind t same s here' (value_goes low types here flow tracked reaches h s here'))

    -- ---- stores

    number_scalar : (t : CType) → is_number t ≡ true → IsScalar t
    number_scalar Int h = refl
    number_scalar Char h = refl
    number_scalar (Struct number) h = absurd (cc)
    number_scalar (Pointer m d t) h = absurd (cc)

    module _ (low : ℕ) (types : List CType) where
      set_goes : (s : State) (i : ℕ) (t : CType) (v : Value) → slice_get types i ≡ Some t → OfType g t v s → IsKept g budget ticks low types s → Runs g budget ticks low types IsNext (set_local i v s)
      set_goes s i t v e typed kept =
          let l = local_there g.structs (shaped s) types s.locals i t kept.locals e in
          let test : has_type l.0.type v ≡ true = ap (λ x. has_type x v) l.2 ∙ value_typed g.structs (shaped s) t v typed in
          let new : Local = record l.0 { value = v } in
          subst (λ o. Runs g budget ticks low types IsNext (set_over o i v s)) (sym l.1)
          (subst (λ yes. Runs g budget ticks low types IsNext (set_if yes l.0 i v s)) (sym test)
          (refl, record { grown = kept.grown; cells = kept.cells; locals = locals_set g.structs (shaped s) types s.locals i t new kept.locals e l.2 typed; world = kept.world; enough = kept.enough; held = held_same g s (record s { locals = slice_set s.locals i new }) refl kept.held; zeros = kept.zeros; short = kept.short }))

      -- a store into a cell of its type, behind which file-level pointers are valid
      cell_store : (s : State) (t : CType) (site : Option Site) (at : ℕ × ℕ) (v : Value) (c : HasCell s.blocks at.0 at.1 t) → leaves_zero (slice_get s.blocks at.0) at.1 v ≡ true → OfType g t v s → HoldBounds g (record s { blocks = stored s.blocks at.0 at.1 v }) → IsKept g budget ticks low types s
          → Runs g budget ticks low types IsNext (store_at t site at v s)
      cell_store s t site at v c leaves typed held kept =
          let same : shapes (stored s.blocks at.0 at.1 v) ≡ shaped s = shapes_stored s.blocks at.0 at.1 t c v in
          let after = sym same in
          let fits = and_from (has_type t v) (leaves_zero (slice_get s.blocks at.0) at.1 v) (value_typed g.structs (shaped s) t v typed) leaves in
          let test = and_from (same_type t c.cell.type) (has_type t v && leaves_zero (slice_get s.blocks at.0) at.1 v) (ap (same_type t) c.typed ∙ same_refl t) fits in
          let cells = stored_typed g.structs (shaped s) s.blocks at.0 at.1 t c kept.cells v typed in
          subst (λ o. Runs g budget ticks low types IsNext (store_over o t site v at.0 at.1 s)) (sym (at_cell s.blocks at.0 at.1 t c))
          (subst (λ yes. Runs g budget ticks low types IsNext (store_if yes site at.0 at.1 v s)) (sym test) (
            refl,
            record {
              grown = subst (λ b. Grows (shapes (map object_block g.program.objects)) b) after kept.grown;
              cells = subst (λ b. AllByRecursion (HoldsValues g.structs b) (stored s.blocks at.0 at.1 v)) after cells;
              locals = subst (λ b. HaveLocals g.structs b types s.locals) after kept.locals;
              world = kept.world;
              enough = kept.enough;
              held = held;
              zeros = zeros_stored s.blocks at.0 at.1 t c v leaves kept.zeros;
              short = subst AreShort after kept.short;
            },
          ))

      store_goes : (s : State) (t : CType) (site : Option Site) (at : ℕ × ℕ) (v : Value) → IsScalar t → IsPlaced g t at s → OfType g t v s → IsKept g budget ticks low types s → Runs g budget ticks low types IsNext (store_at t site at v s)
      store_goes s t site at v scalar placed typed kept =
          let c = scalar_cell g.structs s.blocks t at.0 at.1 scalar placed in
          cell_store s t site at v c (zero_left s.blocks at.0 at.1 t c placed.shape placed.found (place_inside g.structs (shaped s) t at.0 at.1 scalar placed) v) typed
          (held_elsewhere g s kept.grown at.0 at.1 t c v placed.shape placed.found placed.row.stands.unsealed kept.held) kept

      -- one to a file-level pointer with the bounds that are declared for it
      bounded_store : (s : State) (object : ℕ) (m : Mode) (kind : Kind) (t : CType) (b : Bounds) (v : Value) → IsBoundedObject g object m kind t b → OfType g (Pointer m kind t) v s → IsValid g.structs (Some b) (pointing (Pointer m kind t) v) s → IsKept g budget ticks low types s
          → Runs g budget ticks low types IsNext (and_then (place_at None object 0 s) (λ at u. store_at (Pointer m kind t) None at v u))
      bounded_store s object m kind t b v is typed valid kept =
          let c = bounded_cell g object m kind t b is s kept.grown in
          let there : place_at None object 0 s ≡ Gives (object, 0) s = ap (λ o. place_if o None object 0 s) (at_cell s.blocks object 0 (Pointer m kind t) c) in
          subst (λ o. Runs g budget ticks low types IsNext (and_then o (λ at u. store_at (Pointer m kind t) None at v u))) (sym there)
          (cell_store s (Pointer m kind t) None (object, 0) v c
          (zero_left s.blocks object 0 (Pointer m kind t) c (shape (object_block is.variable)) (shape_there g object m kind t b is s kept.grown) (bounded_inside g object m kind t b is) v) typed (held_here g s kept.grown object m kind t b is v valid kept.held) kept)

      kept_goes : (s : State) (t : CType) (char : Bool) (v : Value) → is_number t ≡ true → is_char t ≡ char → OfType g Int v s → IsKept g budget ticks low types s → Goes g budget ticks low types s (OfType g t) (kept_if char v s)
      kept_goes s Int true v h e typed kept = absurd (cc)
      kept_goes s Int false v h e typed kept = (typed, after_here s, kept)
      kept_goes s Char true v h e typed kept = byte_goes g budget ticks low types s v typed kept
      kept_goes s Char false v h e typed kept = absurd (cc)
      kept_goes s (Struct number) char v h e typed kept = absurd (cc)
      kept_goes s (Pointer m d t) char v h e typed kept = absurd (cc)

      -- the new value of an update, at a place that was worked out before
      kept_store : (s : State) (t : CType) (site : Option Site) (at : ℕ × ℕ) (v : Value) → is_number t ≡ true → IsPlaced g t at s → OfType g Int v s → IsKept g budget ticks low types s → Runs g budget ticks low types IsNext (and_then (kept_if (is_char t) v s) (store_at t site at))
      kept_store s t site at v number placed typed kept =
          runs_on g budget ticks low types s (OfType g t) IsNext (kept_if (is_char t) v s) (store_at t site at) (kept_goes s t (is_char t) v number refl typed kept)
          (λ last u grown last_typed u_kept. store_goes u t site at last (number_scalar t number) (place_grown g.structs (shaped s) (shaped u) grown.0 t at.0 at.1 placed) last_typed u_kept)

      -- behind the place of a value that was worked out before
      placed_store : (s : State) (t : CType) (site : Option Site) (v : Value) (o : Result (ℕ × ℕ)) → IsScalar t → OfType g t v s → Goes g budget ticks low types s (IsPlaced g t) o → Runs g budget ticks low types IsNext (and_then o (λ at u. store_at t site at v u))
      placed_store s t site v o scalar typed h =
          runs_on g budget ticks low types s (IsPlaced g t) IsNext o _ h (λ at u grown placed u_kept. store_goes u t site at v scalar placed (value_grown g.structs (shaped s) (shaped u) grown.0 t v typed) u_kept)

      printed_goes : (s : State) (v : Value) → OfType g Int v s → IsKept g budget ticks low types s → Runs g budget ticks low types IsNext (printed v s)
      printed_goes s (Number z) h kept = (refl, record { grown = kept.grown; cells = kept.cells; locals = kept.locals; world = kept.world; enough = kept.enough; held = held_same g s _ refl kept.held; zeros = kept.zeros; short = kept.short })
      printed_goes s Null h kept = absurd h
      printed_goes s (At block byte) h kept = absurd h

      put_goes : (s : State) (v : Value) → OfType g Int v s → IsKept g budget ticks low types s → Runs g budget ticks low types IsNext (put v s)
      put_goes s (Number z) h kept = (refl, record { grown = kept.grown; cells = kept.cells; locals = kept.locals; world = kept.world; enough = kept.enough; held = held_same g s _ refl kept.held; zeros = kept.zeros; short = kept.short })
      put_goes s Null h kept = absurd h
      put_goes s (At block byte) h kept = absurd h

      module _ (here : Scope) (flow : IsFlow here.flow) (tracked : length here.locals ≤ here.flow.vars) (reaches : Extends here.locals types) where
        abbrev Stands : State → Type 0
        Stands s = IsHere g budget ticks sandbox trusted k is low types here flow reaches s

        standing_later : (s u : State) → IsAfter s u → Stands s → IsKept g budget ticks low types u → Stands u
        standing_later s u after h kept = here_later g budget ticks sandbox trusted k is low types here flow reaches s u after h kept

        -- a value of a type
        pub typed_goes : {e : core.Expression} {t : CType} → HasType g types here e t → (s : State) → Stands s → Goes g budget ticks low types s (OfType g t) (value true (setting g budget ticks sandbox trusted k is) k e s)
        typed_goes {e = e} {t = t} h s stands = typed_alone g budget ticks sandbox trusted k is low types here flow reaches e t s (value_goes low types here flow tracked reaches h s stands)

        -- a pointer is asked for bounds
        asked_goes_on : {e : core.Expression} (m : Mode) (kind : Kind) (t : CType) (b : Bounds) → Counts kind → HasType g types here e (Pointer m kind t) → IsAsked g.structs here e b → (s : State) → Stands s
            → Goes g budget ticks low types s (λ v u. OfType g (Pointer m kind t) v u × IsValid g.structs (Some b) (pointing (Pointer m kind t) v) u) (value true (setting g budget ticks sandbox trusted k is) k e s)
        asked_goes_on {e = e} m kind t b counts h asked s stands =
            let c = Pointer m kind t in
            sure_further (λ v u. IsArgument g budget ticks sandbox trusted k is low types here flow reaches e c v u × IsAfter s u × IsKept g budget ticks low types u) (λ v u. (OfType g c v u × IsValid g.structs (Some b) (pointing c v) u) × IsAfter s u × IsKept g budget ticks low types u) (value true (setting g budget ticks sandbox trusted k is) k e s)
            (passed_so g budget ticks sandbox trusted k is low types here flow reaches e c s stands (typed_goes h s stands) (given_by_kind g budget ticks sandbox trusted k is low types here flow reaches e c s (λ m' kind t' same. given_so low types here flow tracked reaches h m' kind t' same s stands (value_goes low types here flow tracked reaches h s stands))))
            (λ v u x. let at = standing_later s u x.1 stands x.2 in
            ((x.0.0, asked_valid g.structs here u at.0 (has_locals g.structs (shaped u) here.locals types u.locals reaches x.2.locals) m kind t e v b asked x.0.1.null (given_there g.structs (length here.locals) m kind t e v u counts x.0.1.given u (alike_here (length here.locals) u))), x.1, x.2))

        -- a value that is returned, with the bounds that are declared for the result
        pub returned_goes : {e : core.Expression} (t : CType) (bounds : Option Bounds) → HasType g types here e t → IsReturned g.structs here e t bounds → (s : State) → Stands s → Goes g budget ticks low types s (λ v u. OfType g t v u × HasResult g.structs (Some t) bounds (Some v) u) (value true (setting g budget ticks sandbox trusted k is) k e s)
        returned_goes {e = e} Int bounds h asked s stands = goes_further g budget ticks low types s (OfType g Int) (λ v u. OfType g Int v u × HasResult g.structs (Some Int) bounds (Some v) u) (value true (setting g budget ticks sandbox trusted k is) k e s) (typed_goes h s stands) (λ v u typed. (typed, tt))
        returned_goes {e = e} Char bounds h asked s stands = goes_further g budget ticks low types s (OfType g Char) (λ v u. OfType g Char v u × HasResult g.structs (Some Char) bounds (Some v) u) (value true (setting g budget ticks sandbox trusted k is) k e s) (typed_goes h s stands) (λ v u typed. (typed, tt))
        returned_goes {e = e} (Struct number) bounds h asked s stands = goes_further g budget ticks low types s (OfType g (Struct number)) (λ v u. OfType g (Struct number) v u × HasResult g.structs (Some (Struct number)) bounds (Some v) u) (value true (setting g budget ticks sandbox trusted k is) k e s) (typed_goes h s stands) (λ v u typed. (typed, tt))
        returned_goes {e = e} (Pointer m kinds.One t) bounds h asked s stands = goes_further g budget ticks low types s (OfType g (Pointer m kinds.One t)) (λ v u. OfType g (Pointer m kinds.One t) v u × HasResult g.structs (Some (Pointer m kinds.One t)) bounds (Some v) u) (value true (setting g budget ticks sandbox trusted k is) k e s) (typed_goes h s stands) (λ v u typed. (typed, tt))
        returned_goes {e = e} (Pointer m kinds.Nt t) None h asked s stands = goes_further g budget ticks low types s (OfType g (Pointer m kinds.Nt t)) (λ v u. OfType g (Pointer m kinds.Nt t) v u × Unit {0}) (value true (setting g budget ticks sandbox trusted k is) k e s) (typed_goes h s stands) (λ v u typed. (typed, tt))
        returned_goes {e = e} (Pointer m kinds.Nt t) (Some b) h asked s stands = asked_goes_on m kinds.Nt t b tt h asked s stands
        returned_goes {e = e} (Pointer m kinds.Array t) None h asked s stands = goes_further g budget ticks low types s (OfType g (Pointer m kinds.Array t)) (λ v u. OfType g (Pointer m kinds.Array t) v u × Unit {0}) (value true (setting g budget ticks sandbox trusted k is) k e s) (typed_goes h s stands) (λ v u typed. (typed, tt))
        returned_goes {e = e} (Pointer m kinds.Array t) (Some b) h asked s stands = asked_goes_on m kinds.Array t b tt h asked s stands

        -- and then a step
        value_then : {e : core.Expression} {t : CType} (next : Value → State → Result Flow) → HasType g types here e t → (s : State) → Stands s → ((v : Value) (u : State) → IsAfter s u → OfType g t v u → IsKept g budget ticks low types u → Runs g budget ticks low types IsNext (next v u))
            → Runs g budget ticks low types IsNext (and_then (value true (setting g budget ticks sandbox trusted k is) k e s) next)
        value_then {e = e} {t = t} next h s stands more = runs_on g budget ticks low types s (OfType g t) IsNext (value true (setting g budget ticks sandbox trusted k is) k e s) next (typed_goes h s stands) more

        -- a pointer to one value, as a store takes it
        single_target : (m : Mode) (t : CType) (p : core.Expression) (s : State) → Goes g budget ticks low types s (OfType g (Pointer m kinds.One t)) (value true (setting g budget ticks sandbox trusted k is) k p s)
            → Goes g budget ticks low types s (λ (q : Target) (u : State). OfType g (Pointer m kinds.One t) q.pointer.value u) (and_then (and_then (value true (setting g budget ticks sandbox trusted k is) k p s) (λ v u. Gives (with_ends (bounds_of p) v u.locals) u)) (λ q u. Gives (record { pointer = q; number = pos 0 }) u))
        single_target m t p s h =
            goes_on g budget ticks low types s (λ (q : Pointed) (u : State). OfType g (Pointer m kinds.One t) q.value u) (λ (q : Target) (u : State). OfType g (Pointer m kinds.One t) q.pointer.value u) (and_then (value true (setting g budget ticks sandbox trusted k is) k p s) (λ v u. Gives (with_ends (bounds_of p) v u.locals) u)) _
            (goes_on g budget ticks low types s (OfType g (Pointer m kinds.One t)) (λ (q : Pointed) (u : State). OfType g (Pointer m kinds.One t) q.value u) (value true (setting g budget ticks sandbox trusted k is) k p s) _ h
            (λ v u _ typed kept. (same_pointer (λ v. OfType g (Pointer m kinds.One t) v u) (bounds_of p) v u typed, after_here u, kept)))
            (λ q u _ typed kept. (typed, after_here u, kept))

        -- and one to elements, with the number of one
        element_target : (m : Mode) (kind : Kind) (t : CType) (p i : core.Expression) (b : PointerBounds) (elements : HasElements g.structs p (Pointer m kind t) b) (s : State) → HasType g types here p (Pointer m kind t) → HasType g types here i Int → Stands s
            → Goes g budget ticks low types s (λ (q : Target) (u : State). IsAimed g budget ticks low types m kind t b elements.node q.pointer u)
            (and_then (and_then (value true (setting g budget ticks sandbox trusted k is) k p s) (λ v u. Gives (with_ends (bounds_of p) v u.locals) u)) (λ q u. and_then (and_then (value true (setting g budget ticks sandbox trusted k is) k i u) (number_given None)) (λ n w. Gives (record { pointer = q; number = n }) w)))
        element_target m kind t p i b elements s hp hi stands =
            goes_on g budget ticks low types s (λ (q : Pointed) (u : State). IsAimed g budget ticks low types m kind t b elements.node q u) (λ (q : Target) (u : State). IsAimed g budget ticks low types m kind t b elements.node q.pointer u) (and_then (value true (setting g budget ticks sandbox trusted k is) k p s) (λ v u. Gives (with_ends (bounds_of p) v u.locals) u)) _
            (goes_on g budget ticks low types s (λ v u. IsAimed g budget ticks low types m kind t b elements.node (with_ends (bounds_of p) v u.locals) u × IsLocalOf g budget ticks sandbox trusted k is low types here flow reaches p m kind t v u) (λ (q : Pointed) (u : State). IsAimed g budget ticks low types m kind t b elements.node q u) (value true (setting g budget ticks sandbox trusted k is) k p s) _
            (aimed_goes g budget ticks sandbox trusted k is low types here flow reaches p m kind t b s elements stands (value_goes low types here flow tracked reaches hp s stands))
            (λ v u _ aimed kept. (aimed.0, after_here u, kept)))
            (λ q u after aimed u_kept. goes_on g budget ticks low types u (λ (z : ℤ) (w : State). Unit {0}) (λ (q : Target) (w : State). IsAimed g budget ticks low types m kind t b elements.node q.pointer w) (and_then (value true (setting g budget ticks sandbox trusted k is) k i u) (number_given None)) _
            (number_goes_on g budget ticks sandbox trusted k is low types here flow reaches i u None (typed_goes hi u (standing_later s u after stands u_kept)))
            (λ z w later _ w_kept. (aimed_later g budget ticks low types m kind t b elements.node q u w later aimed, after_here w, w_kept)))

        -- a place whose pointer was worked out before the value
        pointed_store : {p : core.Place} {t : CType} → HasPlace g types here p t → IsScalar t → {e : core.Expression} → HasType g types here e t → (s : State) → Stands s → Runs g budget ticks low types IsNext (effect true (setting g budget ticks sandbox trusted k is) k (core.Store t p e) s)
        pointed_store {t = t} (typed.direct {object = object} {offset = offset} {v = variable} found row) scalar {e = e} h s stands =
            runs_on g budget ticks low types s (λ (q : Target) (u : State). Unit {0}) IsNext (target_of true (setting g budget ticks sandbox trusted k is) k (core.Direct object offset) s) _
            (goes_on g budget ticks low types s (IsPlaced g t) (λ (q : Target) (u : State). Unit {0}) (variable_at (setting g budget ticks sandbox trusted k is) object offset s) (λ at u. Gives (without_ends at) u) (variable_goes g budget ticks low types s t object offset variable found row stands.1) (λ at u _ placed u_kept. (tt, after_here u, u_kept)))
            (λ q u after _ u_kept. value_then _ h u (standing_later s u after stands u_kept)
            (λ v w _ typed w_kept. placed_store w t None v (place_at None object offset w) scalar typed (direct_goes g budget ticks low types w t object offset variable found row w_kept)))
        pointed_store {t = t} (typed.pointed {mode = m} {e = p} {site = site} hp) scalar {e = e} h s stands =
            runs_on g budget ticks low types s (λ (q : Target) (u : State). OfType g (Pointer m kinds.One t) q.pointer.value u) IsNext (target_of true (setting g budget ticks sandbox trusted k is) k (core.Through p core.First 0 site) s) _ (single_target m t p s (typed_goes hp s stands))
            (λ q u after pointer u_kept. value_then _ h u (standing_later s u after stands u_kept)
            (λ v w later typed w_kept. placed_store w t (Some site) v (element 0 site q.pointer.value w) scalar typed (pointed_goes g budget ticks low types w m t site q.pointer.value (value_grown g.structs (shaped u) (shaped w) later.0 (Pointer m kinds.One t) q.pointer.value pointer) w_kept)))
        pointed_store {t = t} (typed.member {mode = m} {e = p} {n = number} {offset = offset} {site = site} slot hp found scalar') scalar {e = e} h s stands =
            runs_on g budget ticks low types s (λ (q : Target) (u : State). OfType g (Pointer m kinds.One (Struct number)) q.pointer.value u) IsNext (target_of true (setting g budget ticks sandbox trusted k is) k (core.Through p core.First offset site) s) _ (single_target m (Struct number) p s (typed_goes hp s stands))
            (λ q u after pointer u_kept. value_then _ h u (standing_later s u after stands u_kept)
            (λ v w later typed w_kept. placed_store w t (Some site) v (element offset site q.pointer.value w) scalar typed
            (member_goes g budget ticks low types w m number slot offset t site q.pointer.value found scalar (value_grown g.structs (shaped u) (shaped w) later.0 (Pointer m kinds.One (Struct number)) q.pointer.value pointer) w_kept)))
        pointed_store {t = t} (typed.element {mode = m} {kind = kind} {e = p} {i = i} {p = b} {site = site} hp elements hi) scalar {e = e} h s stands =
            runs_on g budget ticks low types s (λ (q : Target) (u : State). IsAimed g budget ticks low types m kind t b elements.node q.pointer u) IsNext (target_of true (setting g budget ticks sandbox trusted k is) k (core.Through p (core.Element i false) 0 site) s) _ (element_target m kind t p i b elements s hp hi stands)
            (λ q u after aimed u_kept. value_then _ h u (standing_later s u after stands u_kept)
            (λ v w later typed w_kept. placed_store w t (Some site) v (element_within false 0 site q.number q.pointer.value q.pointer.ends w) scalar typed
            (element_goes g budget ticks low types m kind t b elements.node w site q.number q.pointer (aimed_later g budget ticks low types m kind t b elements.node q.pointer u w later aimed) w_kept)))
        pointed_store {t = t} (typed.element_member {mode = m} {kind = kind} {e = p} {i = i} {n = number} {offset = offset} {p = b} {site = site} slot hp elements hi found scalar') scalar {e = e} h s stands =
            runs_on g budget ticks low types s (λ (q : Target) (u : State). IsAimed g budget ticks low types m kind (Struct number) b elements.node q.pointer u) IsNext (target_of true (setting g budget ticks sandbox trusted k is) k (core.Through p (core.Element i false) offset site) s) _ (element_target m kind (Struct number) p i b elements s hp hi stands)
            (λ q u after aimed u_kept. value_then _ h u (standing_later s u after stands u_kept)
            (λ v w later typed w_kept. placed_store w t (Some site) v (element_within false offset site q.number q.pointer.value q.pointer.ends w) scalar typed
            (element_member_goes g budget ticks low types m kind number slot offset t b elements.node found scalar w site q.number q.pointer (aimed_later g budget ticks low types m kind (Struct number) b elements.node q.pointer u w later aimed) w_kept)))

        -- what an update does at its place
        abbrev UpdatesAt : CType → Operator → core.Expression → Site → ℕ × ℕ → State → Result Flow
        UpdatesAt t operator e site at r =
            and_then (load_at t (Some site) at r) (λ old u. and_then (value true (setting g budget ticks sandbox trusted k is) k e u) (λ v w. and_then (arithmetic_of operator site old v w)
            (λ new x. and_then (kept_if (is_char t) new x) (λ last y. store_at t (Some site) at last y))))

        updates_at : {t : CType} → is_number t ≡ true → (operator : Operator) {e : core.Expression} → HasType g types here e Int → (site : Site) (at : ℕ × ℕ) (r : State) → Stands r → IsPlaced g t at r
            → Runs g budget ticks low types IsNext (UpdatesAt t operator e site at r)
        updates_at {t = t} number operator {e = e} h site at r stands placed =
            runs_on g budget ticks low types r (OfType g t) IsNext (load_at t (Some site) at r) _ (load_goes g budget ticks low types r t (Some site) at (number_scalar t number) placed stands.1)
            (λ old u to_u old_typed u_kept. value_then _ h u (standing_later r u to_u stands u_kept)
            (λ v w to_w typed w_kept. runs_on g budget ticks low types w (OfType g Int) IsNext (arithmetic_of operator site old v w) _
            (arithmetic_goes g budget ticks low types w operator site old v (value_number g.structs (shaped w) t old number (value_grown g.structs (shaped u) (shaped w) to_w.0 t old old_typed)) typed w_kept)
            (λ new x to_x new_typed x_kept.
            let grown = grows_on (shaped r) (shaped w) (shaped x) (grows_on (shaped r) (shaped u) (shaped w) to_u.0 to_w.0) to_x.0 in
            kept_store x t (Some site) at new number (place_grown g.structs (shaped r) (shaped x) grown t at.0 at.1 placed) new_typed x_kept)))

        -- an update whose pointer was worked out before
        update_runs : {p : core.Place} {t : CType} → is_number t ≡ true → HasPlace g types here p t → (operator : Operator) {e : core.Expression} → HasType g types here e Int → (site : Site) (s : State) → Stands s
            → Runs g budget ticks low types IsNext (effect true (setting g budget ticks sandbox trusted k is) k (core.Update t p operator e site) s)
        update_runs {t = t} number (typed.direct {object = object} {offset = offset} {v = variable} found row) operator {e = e} h at s stands =
            runs_on g budget ticks low types s (λ (q : Target) (u : State). Unit {0}) IsNext (target_of true (setting g budget ticks sandbox trusted k is) k (core.Direct object offset) s) _
            (goes_on g budget ticks low types s (IsPlaced g t) (λ (q : Target) (u : State). Unit {0}) (variable_at (setting g budget ticks sandbox trusted k is) object offset s) (λ at u. Gives (without_ends at) u) (variable_goes g budget ticks low types s t object offset variable found row stands.1) (λ at u _ placed u_kept. (tt, after_here u, u_kept)))
            (λ q u after _ u_kept. runs_on g budget ticks low types u (IsPlaced g t) IsNext (place_at None object offset u) _ (direct_goes g budget ticks low types u t object offset variable found row u_kept)
            (λ place w later placed w_kept. updates_at number operator h at place w (standing_later u w later (standing_later s u after stands u_kept) w_kept) placed))
        update_runs {t = t} number (typed.pointed {mode = m} {e = p} {site = site} hp) operator {e = e} h at s stands =
            runs_on g budget ticks low types s (λ (q : Target) (u : State). OfType g (Pointer m kinds.One t) q.pointer.value u) IsNext (target_of true (setting g budget ticks sandbox trusted k is) k (core.Through p core.First 0 site) s) _ (single_target m t p s (typed_goes hp s stands))
            (λ q u after pointer u_kept. runs_on g budget ticks low types u (IsPlaced g t) IsNext (element 0 site q.pointer.value u) _ (pointed_goes g budget ticks low types u m t site q.pointer.value pointer u_kept)
            (λ place w later placed w_kept. updates_at number operator h at place w (standing_later u w later (standing_later s u after stands u_kept) w_kept) placed))
        update_runs {t = t} number (typed.member {mode = m} {e = p} {n = struct} {offset = offset} {site = site} slot hp found scalar) operator {e = e} h at s stands =
            runs_on g budget ticks low types s (λ (q : Target) (u : State). OfType g (Pointer m kinds.One (Struct struct)) q.pointer.value u) IsNext (target_of true (setting g budget ticks sandbox trusted k is) k (core.Through p core.First offset site) s) _ (single_target m (Struct struct) p s (typed_goes hp s stands))
            (λ q u after pointer u_kept. runs_on g budget ticks low types u (IsPlaced g t) IsNext (element offset site q.pointer.value u) _ (member_goes g budget ticks low types u m struct slot offset t site q.pointer.value found scalar pointer u_kept)
            (λ place w later placed w_kept. updates_at number operator h at place w (standing_later u w later (standing_later s u after stands u_kept) w_kept) placed))
        update_runs {t = t} number (typed.element {mode = m} {kind = kind} {e = p} {i = i} {p = b} {site = site} hp elements hi) operator {e = e} h at s stands =
            runs_on g budget ticks low types s (λ (q : Target) (u : State). IsAimed g budget ticks low types m kind t b elements.node q.pointer u) IsNext (target_of true (setting g budget ticks sandbox trusted k is) k (core.Through p (core.Element i false) 0 site) s) _ (element_target m kind t p i b elements s hp hi stands)
            (λ q u after aimed u_kept. runs_on g budget ticks low types u (IsPlaced g t) IsNext (element_within false 0 site q.number q.pointer.value q.pointer.ends u) _ (element_goes g budget ticks low types m kind t b elements.node u site q.number q.pointer aimed u_kept)
            (λ place w later placed w_kept. updates_at number operator h at place w (standing_later u w later (standing_later s u after stands u_kept) w_kept) placed))
        update_runs {t = t} number (typed.element_member {mode = m} {kind = kind} {e = p} {i = i} {n = struct} {offset = offset} {p = b} {site = site} slot hp elements hi found scalar) operator {e = e} h at s stands =
            runs_on g budget ticks low types s (λ (q : Target) (u : State). IsAimed g budget ticks low types m kind (Struct struct) b elements.node q.pointer u) IsNext (target_of true (setting g budget ticks sandbox trusted k is) k (core.Through p (core.Element i false) offset site) s) _ (element_target m kind (Struct struct) p i b elements s hp hi stands)
            (λ q u after aimed u_kept. runs_on g budget ticks low types u (IsPlaced g t) IsNext (element_within false offset site q.number q.pointer.value q.pointer.ends u) _ (element_member_goes g budget ticks low types m kind struct slot offset t b elements.node found scalar u site q.number q.pointer aimed u_kept)
            (λ place w later placed w_kept. updates_at number operator h at place w (standing_later u w later (standing_later s u after stands u_kept) w_kept) placed))

        -- at the upper end of a null-terminated pointer nothing but 0 is stored
        end_store : (m : Mode) (t : CType) (b : PointerBounds) (size : IsNodeOf g.structs (Pointer m kinds.Nt t) b) (site : Site) (q : Pointed) (z : ℤ) (at : ℕ × ℕ) (v : Value) (s : State) (w : Option Site) → IsUpTo g budget ticks low types m kinds.Nt t b size q z at s → OfType g t v s → IsKept g budget ticks low types s
            → Runs g budget ticks low types IsNext (and_then (end_kept site z v q.value q.ends s) (λ (_ : Unit {0}) (x : State). store_at t w at v x))
        end_store m t b size site q z at v s w there typed kept =
            subst (λ p. Runs g budget ticks low types IsNext (and_then (end_kept site z v p q.ends s) (λ (_ : Unit {0}) (x : State). store_at t w at v x))) (sym there.pointer)
            (subst (λ o. Runs g budget ticks low types IsNext (and_then (end_kept site z v (At at.0 there.byte) o s) (λ (_ : Unit {0}) (x : State). store_at t w at v x))) (sym there.own)
            (by (is_zero v) (int_eq (pos there.byte +ℤ distance directions.Forward there.ends.size z) there.ends.high) refl refl))
          where
            zero_store : is_zero v ≡ true → Runs g budget ticks low types IsNext (store_at t w at v s)
            zero_store is =
                let c = ended_cell g.structs s.blocks t at.0 at.1 (lies_below there.ends (pos at.1)) there.place in
                cell_store s t w at v c (zero_stored s.blocks at.0 at.1 t c v is) typed
                (held_elsewhere g s kept.grown at.0 at.1 t c v there.place.shape there.place.found there.place.unsealed kept.held) kept

            below_store : int_eq (pos there.byte +ℤ distance directions.Forward there.ends.size z) there.ends.high ≡ false → Runs g budget ticks low types IsNext (store_at t w at v s)
            below_store other =
                let not_at : int_eq (pos at.1) there.ends.high ≡ false = subst (λ x. int_eq x there.ends.high ≡ false) there.is other in
                let below = below_or_at there.ends (pos at.1) there.lies not_at in
                store_goes s t w at v (number_scalar t there.number)
                (place_before_zero g.structs (shaped s) t at.0 at.1 there.number (subst (λ inside. IsEndedPlace g.structs (shaped s) t at.0 at.1 inside) below there.place)) typed kept

            by : (none same : Bool) → is_zero v ≡ none → int_eq (pos there.byte +ℤ distance directions.Forward there.ends.size z) there.ends.high ≡ same
                → Runs g budget ticks low types IsNext (and_then (end_kept site z v (At at.0 there.byte) (Some there.ends) s) (λ (_ : Unit {0}) (x : State). store_at t w at v x))
            by true same is other = rw is (zero_store is)
            by false true is other = rw (is, other) tt
            by false false is other = rw (is, other) (below_store other)

        -- where blocks were added
        up_to_later : (m : Mode) (t : CType) (b : PointerBounds) (size : IsNodeOf g.structs (Pointer m kinds.Nt t) b) (q : Pointed) (z : ℤ) (at : ℕ × ℕ) (s u : State) → Grows (shaped s) (shaped u) → IsUpTo g budget ticks low types m kinds.Nt t b size q z at s → IsUpTo g budget ticks low types m kinds.Nt t b size q z at u
        up_to_later m t b size q z at s u grows h =
            record { byte = h.byte; ends = h.ends; pointer = h.pointer; own = h.own; is = h.is; lies = h.lies; number = h.number; place = ended_grown g.structs (shaped s) (shaped u) grows t at.0 at.1 (lies_below h.ends (pos at.1)) h.place }

        accessed_store : {p : core.Place} {t : CType} → HasAccess g types here p t → IsScalar t → {e : core.Expression} → HasType g types here e t → (s : State) → Stands s → Runs g budget ticks low types IsNext (effect true (setting g budget ticks sandbox trusted k is) k (core.Store t p e) s)
        accessed_store (typed.at_place place) scalar h s stands = pointed_store place scalar h s stands
        accessed_store {t = t} (typed.ended {mode = m} {e = p} {i = i} {p = b} {site = site} hp elements hi) scalar {e = e} h s stands =
            runs_on g budget ticks low types s (λ (q : Target) (u : State). IsAimed g budget ticks low types m kinds.Nt t b elements.node q.pointer u) IsNext (target_of true (setting g budget ticks sandbox trusted k is) k (core.Through p (core.Element i true) 0 site) s) _ (element_target m kinds.Nt t p i b elements s hp hi stands)
            (λ q u after aimed u_kept. value_then _ h u (standing_later s u after stands u_kept)
            (λ v w later typed w_kept. runs_on g budget ticks low types w (IsUpTo g budget ticks low types m kinds.Nt t b elements.node q.pointer q.number) IsNext (element_within true 0 site q.number q.pointer.value q.pointer.ends w) _
            (upper_goes g budget ticks low types m t b elements.node w site q.number q.pointer (aimed_later g budget ticks low types m kinds.Nt t b elements.node q.pointer u w later aimed) w_kept)
            (λ at x grown there x_kept. end_store m t b elements.node site q.pointer q.number at v x (Some site) there (value_grown g.structs (shaped w) (shaped x) grown.0 t v typed) x_kept)))

        accessed_update : {p : core.Place} {t : CType} → is_number t ≡ true → HasAccess g types here p t → (operator : Operator) {e : core.Expression} → HasType g types here e Int → (site : Site) (s : State) → Stands s
            → Runs g budget ticks low types IsNext (effect true (setting g budget ticks sandbox trusted k is) k (core.Update t p operator e site) s)
        accessed_update number (typed.at_place place) operator h at s stands = update_runs number place operator h at s stands
        accessed_update {t = t} number (typed.ended {mode = m} {e = p} {i = i} {p = b} {site = site} hp elements hi) operator {e = e} h at s stands =
            runs_on g budget ticks low types s (λ (q : Target) (u : State). IsAimed g budget ticks low types m kinds.Nt t b elements.node q.pointer u) IsNext (target_of true (setting g budget ticks sandbox trusted k is) k (core.Through p (core.Element i true) 0 site) s) _ (element_target m kinds.Nt t p i b elements s hp hi stands)
            (λ q u after aimed u_kept. runs_on g budget ticks low types u (IsUpTo g budget ticks low types m kinds.Nt t b elements.node q.pointer q.number) IsNext (element_within true 0 site q.number q.pointer.value q.pointer.ends u) _
            (upper_goes g budget ticks low types m t b elements.node u site q.number q.pointer aimed u_kept)
            (λ place r to_r there r_kept.
            let r_stands = standing_later u r to_r (standing_later s u after stands u_kept) r_kept in
            runs_on g budget ticks low types r (OfType g t) IsNext (load_at t (Some at) place r) _ (accessed_goes g budget ticks low types r t (Some at) place (number_scalar t number) (inr (lies_below there.ends (pos place.1), there.place)) r_kept)
            (λ old x to_x old_typed x_kept. value_then _ h x (standing_later r x to_x r_stands x_kept)
            (λ v w to_w typed w_kept. runs_on g budget ticks low types w (OfType g Int) IsNext (arithmetic_of operator at old v w) _
            (arithmetic_goes g budget ticks low types w operator at old v (value_number g.structs (shaped w) t old number (value_grown g.structs (shaped x) (shaped w) to_w.0 t old old_typed)) typed w_kept)
            (λ new y to_y new_typed y_kept. runs_on g budget ticks low types y (OfType g t) IsNext (kept_if (is_char t) new y) _ (kept_goes y t (is_char t) new number refl new_typed y_kept)
            (λ last last_state to_last last_typed last_kept.
            let grown = grows_on (shaped r) (shaped y) (shaped last_state) (grows_on (shaped r) (shaped w) (shaped y) (grows_on (shaped r) (shaped x) (shaped w) to_x.0 to_w.0) to_y.0) to_last.0 in
            end_store m t b elements.node site q.pointer q.number place last last_state (Some at) (up_to_later m t b elements.node q.pointer q.number place r last_state grown there) last_typed last_kept))))))

        -- ---- simple statements

        pub simple_runs : {x : core.Statement} → IsSimple g types here x → (s : State) → Stands s → Runs g budget ticks low types IsNext (effect true (setting g budget ticks sandbox trusted k is) k x s)
        simple_runs typed.nothing s stands = (refl, stands.1)
        simple_runs (typed.set_local {k = i} {t = t} {e = e} found h) s stands = value_then (set_local i) h s stands (λ v u _ typed u_kept. set_goes u i t v found typed u_kept)
        simple_runs (typed.store {t = t} scalar place h) s stands = accessed_store place scalar h s stands
        simple_runs (typed.store_bounded {object = object} {mode = m} {kind = kind} {t = t} {b = b} {e = e} counts declared h asked) s stands =
            let c = Pointer m kind t in
            runs_on g budget ticks low types s (λ (q : Target) (u : State). Unit {0}) IsNext (target_of true (setting g budget ticks sandbox trusted k is) k (core.Direct object 0) s) _
            (subst (λ o. Goes g budget ticks low types s (λ (q : Target) (u : State). Unit {0}) (and_then o (λ at u. Gives (without_ends at) u))) (sym (bounded_place g budget ticks low types s object m kind t b declared stands.1)) (tt, after_here s, stands.1))
            (λ q u after _ u_kept. runs_on g budget ticks low types u (λ v w. OfType g c v w × IsValid g.structs (Some b) (pointing c v) w) IsNext (value true (setting g budget ticks sandbox trusted k is) k e u) _ (asked_goes_on m kind t b counts h asked u (standing_later s u after stands u_kept))
            (λ v w _ x w_kept. bounded_store w object m kind t b v declared x.0 x.1 w_kept))
        simple_runs (typed.update_local {char = char} {k = i} {t = t} {operator = operator} {e = e} {site = site} found number is_char h) s stands =
            runs_on g budget ticks low types s (OfType g t) IsNext (given (slice_get s.locals i) s) _ (given_goes g budget ticks low types s i t stands.1 found)
            (λ old u after old_typed u_kept. value_then _ h u (standing_later s u after stands u_kept)
            (λ v w later typed w_kept. runs_on g budget ticks low types w (OfType g Int) IsNext (arithmetic_of operator site old v w) _
            (arithmetic_goes g budget ticks low types w operator site old v (value_number g.structs (shaped w) t old number (value_grown g.structs (shaped u) (shaped w) later.0 t old old_typed)) typed w_kept)
            (λ new x _ new_typed x_kept. runs_on g budget ticks low types x (OfType g t) IsNext (kept_if char new x) (set_local i) (kept_goes x t char new number is_char new_typed x_kept)
            (λ last y _ last_typed y_kept. set_goes y i t last found last_typed y_kept))))
        simple_runs (typed.update {t = t} {p = p} {operator = operator} {e = e} {site = site} number hp h) s stands =
            accessed_update number hp operator h site s stands
        simple_runs (typed.evaluate {e = e} {t = t} h) s stands = value_then _ h s stands (λ v u _ typed u_kept. (refl, u_kept))
        simple_runs (typed.call_alone {callee = callee} {ts = ts} {r = r} {arguments = arguments} known h asked) s stands =
            runs_on g budget ticks low types s (λ vs u. OfTypes g ts vs u × ArePassed g.structs (length here.locals) here.locals ts arguments vs u) IsNext (values true (setting g budget ticks sandbox trusted k is) k arguments s) _ (values_go low types here flow tracked reaches h s stands)
            (λ vs u after x u_kept. runs_on g budget ticks low types u (IsBack g budget ticks sandbox trusted k is types (terms_of here.locals arguments ts) None r) IsNext (called (setting g budget ticks sandbox trusted k is) k callee vs u) no_result (answered g budget ticks sandbox trusted k is low types here flow reaches s stands known arguments asked vs u after x u_kept)
            (λ v w _ back w_kept. runs_of g budget ticks low types w IsNext (no_result v w) (nothing_back g budget ticks low types w v back.0 w_kept)))
        simple_runs (typed.print {e = e} h) s stands = value_then printed h s stands (λ v u _ typed u_kept. printed_goes u v typed u_kept)
        simple_runs (typed.put_byte {e = e} h) s stands = value_then put h s stands (λ v u _ typed u_kept. put_goes u v typed u_kept)
