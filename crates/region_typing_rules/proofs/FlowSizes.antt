-- A flow speaks of as many variables behind each step as before it.
use Rattle.std.proofs.Common.{◌≡◌, ℕ, zero, suc, Bool, true, false, not, List, length, Option, Some, None, refl, ◌∙◌, pos}
use Rattle.std.specs.Prelude.{◌-◌, slice_get, cond}
use Rattle.ckc_text.specs.declared.place.Span.{Span}
use Rattle.bounds_exprs.specs.declared.term.Term.{Term}
use Rattle.act_words.specs.declared.operator.Comparison.{Comparison}
use Rattle.subsumption.specs.ClosedTables.{joined}
use Rattle.bounds_flow.specs.Flows.{Knowledge, left, measured_by, met, number_assigned, rejoined, rejoined_held}
use Rattle.bounds_flow.specs.Settling.{Finding, Meets, WasLost, Falls}
use Rattle.pointer_modes.specs.Types.{CType, Int, Char, Struct, Pointer}
use Rattle.ckc_core.specs.declared.program.Direction.TheVariants as directions
use Rattle.ckc_core.specs.Core as core
use Rattle.region_typing_rules.specs.Verdicts.{picked}
use Rattle.region_typing_rules.specs.Scopes.{Scope}
use Rattle.region_typing_rules.specs.Readings.{compared, pointer_local, is_null, null_told, same_told, is_ended_local, element_told, elements_told, place_told, term, told}
use Rattle.region_typing_rules.specs.Knowing.{measured_local, count_assigned, value_assigned, assigned_by, first_found, settled_as, settling, without_locals, outside_of, with_others}
use Rattle.region_typing_rules.proofs.Verdicts.{Promises}

compared_size : (c : Comparison) (a b : Option Term) (truth : Bool) (f : Knowledge) → (compared c a b truth f).vars ≡ f.vars
compared_size c None b truth f = refl
compared_size c (Some a) None truth f = refl
compared_size c (Some a) (Some b) truth f = refl

null_told_size : (o : Option ℕ) (truth : Bool) (f : Knowledge) → (null_told o truth f).vars ≡ f.vars
null_told_size None truth f = refl
null_told_size (Some local) true f = refl
null_told_size (Some local) false f = refl

one_of_size : (test : Bool) (f g : Knowledge) (n : ℕ) → f.vars ≡ n → g.vars ≡ n → (picked test f g).vars ≡ n
one_of_size true f g n h h' = h
one_of_size false f g n h h' = h'

same_told_size : (types : List CType) (left right : core.Expression) (truth : Bool) (f : Knowledge) → (same_told types left right truth f).vars ≡ f.vars
same_told_size types left right truth f =
    one_of_size (is_null right) (null_told (pointer_local types left) (not truth) f) _ f.vars (null_told_size (pointer_local types left) (not truth) f)
    (one_of_size (is_null left) (null_told (pointer_local types right) (not truth) f) f f.vars (null_told_size (pointer_local types right) (not truth) f) refl)

element_told_size : (test : Bool) (local : ℕ) (index : Option Term) (f : Knowledge) → (element_told test local index f).vars ≡ f.vars
element_told_size false local index f = refl
element_told_size true local None f = refl
element_told_size true local (Some index) f = refl

elements_told_size : (types : List CType) (pointer number : core.Expression) (f : Knowledge) → (elements_told types pointer number f).vars ≡ f.vars
elements_told_size types (core.Local local bounds) number f = element_told_size (is_ended_local (slice_get types local)) local (term types number) f
elements_told_size types (core.Sum (core.Local local bounds) directions.Forward elements site own) (core.Number (pos ℕ.zero)) f =
    element_told_size (is_ended_local (slice_get types local)) local (term types elements) f
elements_told_size types _ number f = refl

place_told_size : (types : List CType) (p : core.Place) (f : Knowledge) → (place_told types p f).vars ≡ f.vars
place_told_size types (core.Through pointer (core.Element number true) offset site) f = elements_told_size types pointer number f
place_told_size types _ f = refl

-- where two ways through one expression meet
rejoined_size : (before f g : Knowledge) (n : ℕ) → f.vars ≡ n → (rejoined before f g).vars ≡ n
rejoined_size before f g n h = by before.bundled
  where
    by : (inside : Bool) → (cond inside (record f { facts = joined f.vars f.facts g.facts; held = rejoined_held before.held f.held g.held }) (met f g)).vars ≡ n
    by true = h
    by false = h

-- behind a condition
pub told_size : (types : List CType) (c : core.Expression) (truth : Bool) (f : Knowledge) → (told types c truth f).vars ≡ f.vars
told_size types (core.Number number) truth f = refl
told_size types core.Null truth f = refl
told_size types (core.Local local bounds) truth f = null_told_size (pointer_local types (core.Local local bounds)) truth f
told_size types (core.Load type place bounds) true f = place_told_size types place f
told_size types (core.Load type place bounds) false f = refl
told_size types (core.AddressOf place bounds) truth f = refl
told_size types (core.Negate operand site) truth f = refl
told_size types (core.Complement operand) truth f = refl
told_size types (core.Not operand) truth f = told_size types operand (not truth) f
told_size types (core.Arithmetic operator left right site) truth f = refl
told_size types (core.Compare comparison left right) truth f = compared_size comparison (term types left) (term types right) truth f
told_size types (core.Same left right) truth f = same_told_size types left right truth f
told_size types (core.AndAlso left right) true f = told_size types right true (told types left true f) ∙ told_size types left true f
told_size types (core.AndAlso left right) false f = rejoined_size f (told types left false f) (told types right false (told types left true f)) f.vars (told_size types left false f)
told_size types (core.OrElse left right) true f = rejoined_size f (told types left true f) (told types right true (told types left false f)) f.vars (told_size types left true f)
told_size types (core.OrElse left right) false f = told_size types right false (told types left false f) ∙ told_size types left false f
told_size types (core.LowByte operand) truth f = refl
told_size types (core.Call callee arguments bounds) truth f = refl
told_size types core.NextInput truth f = refl
told_size types (core.Sum pointer direction number site bounds) truth f = refl
told_size types (core.Order comparison left right site) truth f = refl
told_size types (core.Allocate count element terminator bounds) truth f = refl
told_size types (core.Length pointer site) truth f = refl
told_size types (core.Cast pointer bounds) truth f = refl

either_size : (test : Bool) (f g : Knowledge) (n : ℕ) → f.vars ≡ n → g.vars ≡ n → (cond test f g).vars ≡ n
either_size true f g n h h' = h
either_size false f g n h h' = h'

count_assigned_size : (local : ℕ) (pointer : Option ℕ) (to : Option Term) (f : Knowledge) → (count_assigned local pointer to f).vars ≡ f.vars
count_assigned_size local None to f = refl
count_assigned_size local (Some pointer) to f = either_size _ (measured_by local pointer (number_assigned local None f)) (number_assigned local None f) f.vars refl refl

value_assigned_size : (t : Option CType) (types : List CType) (local : ℕ) (value : core.Expression) (f : Knowledge) → (value_assigned t types local value f).vars ≡ f.vars
value_assigned_size None types local value f = refl
value_assigned_size (Some Int) types local value f = count_assigned_size local (measured_local types value) (term types value) f
value_assigned_size (Some Char) types local value f = refl
value_assigned_size (Some (Struct number)) types local value f = refl
value_assigned_size (Some (Pointer mode kind target)) types local value f = refl

-- behind an assignment
pub assigned_size : (types : List CType) (x : core.Statement) (f : Knowledge) → (assigned_by types x f).vars ≡ f.vars
assigned_size types core.Nothing f = refl
assigned_size types (core.SetLocal local value) f = value_assigned_size (slice_get types local) types local value f
assigned_size types (core.Store type place value) f = refl
assigned_size types (core.UpdateLocal char local operator value site) f =
    value_assigned_size (slice_get types local) types local (core.Arithmetic operator (core.Local local None) value site) f
assigned_size types (core.Update type place operator value site) f = refl
assigned_size types (core.Evaluate value) f = refl
assigned_size types (core.CallAlone callee arguments) f = refl
assigned_size types (core.Print value) f = refl
assigned_size types (core.PutByte value) f = refl
assigned_size types (core.Block statements) f = refl
assigned_size types (core.If condition consequent alternative) f = refl
assigned_size types (core.Loop condition body step) f = refl
assigned_size types (core.Return value) f = refl
assigned_size types core.ReturnNothing f = refl
assigned_size types core.Break f = refl
assigned_size types core.Continue f = refl

settled_as_size : (found : Finding) (f : Knowledge) (span : Span) → Promises (λ (k : Knowledge). k.vars ≡ f.vars) (settled_as found f span)
settled_as_size Meets f span = refl
settled_as_size WasLost f span = tt
settled_as_size (Falls asked) f span = tt

-- behind a settling
pub settling_size : (f : Knowledge) (span : Span) → Promises (λ (k : Knowledge). k.vars ≡ f.vars) (settling f span)
settling_size f span = settled_as_size (first_found f.facts f.held) f span

without_size : (local count : ℕ) (f : Knowledge) → (without_locals local count f).vars ≡ f.vars
without_size local zero f = refl
without_size local (suc count) f = without_size (suc local) count (left local f)

-- where locals left their scopes
pub outside_size : (local : ℕ) (g : Scope) (f : Knowledge) → (outside_of local g f).vars ≡ f.vars
outside_size local g f = without_size local (length g.locals - local) f

-- where other ways met one
pub others_size : (others : Option Knowledge) (f : Knowledge) → (with_others others f).vars ≡ f.vars
others_size None f = refl
others_size (Some o) f = refl
