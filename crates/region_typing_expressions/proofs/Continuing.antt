-- Rules that go on with the value of an operand.
use Rattle.std.proofs.Common.{◌≡◌, ℕ, Bool, true, false, not, ◌&&◌, ◌||◌, List, [], ◌∷◌, Option, Some, None, refl, arith}
use Rattle.bounds_exprs.specs.declared.term.Term.{Term}
use Rattle.std.specs.Prelude.{is_none, is_some}
use Rattle.ckc_text.specs.declared.place.Span.{Span}
use Rattle.ckc_text.specs.declared.code.Code.TheVariants.{E13, E17, E18, E19}
use Rattle.pointer_modes.specs.declared.ctype.Mode.TheVariants as modes
use Rattle.pointer_modes.specs.declared.ctype.Kind.TheVariants as kinds
use Rattle.pointer_modes.specs.Types.{CType, Int, Char, Struct, Pointer}
use Rattle.ckc_core.specs.declared.program.Site.{Site}
use Rattle.ckc_core.specs.Meaning.{bounds_of}
use Rattle.ckc_core.specs.Core as core
use Rattle.bounds_flow.specs.Flows.{Knowledge}
use Rattle.ckc_core.specs.declared.program.Direction.{Direction}
use Rattle.region_typing_rules.specs.Verdicts.{Verdict, Passes, Stops, passing, needs, picked}
use Rattle.region_typing_rules.specs.Scopes.{Scope, Signature, WrittenBounds, bounds_in}
use Rattle.region_typing_rules.specs.Types.{converts, is_number, is_single, is_row}
use Rattle.region_typing_rules.specs.Operands.{Places, Typed, Value, AStruct, ForNothing, ForArray, For, Gives, GivesNothing, number_of, scalar_of, two_numbers, two_scalars, converted, site_at}
use Rattle.region_typing_rules.specs.Calls.{first_of, writes, is_text, text_pointer, length_typed, measures}
use Rattle.region_typing_rules.specs.Operands.{is_single_value, lacks_bounds}
use Rattle.region_typing_rules.specs.Calls.{argument_meets, arguments_as, arguments_met, call_of, declared_callee, pointers_for, terms_for}
use Rattle.region_typing_rules.specs.Statements.{declared_for, updated, set_to, store}
use Rattle.region_typing_expressions.specs.ArgumentBounds.{first_unmet, first_unmet_of, result_bounds_of, unless_unmet}
use Rattle.region_typing_expressions.specs.Calls.{only_argument, only_number, converted_call}
use Rattle.region_typing_expressions.specs.Targets.{target_of, updated_target}
use Rattle.region_typing_scope.specs.Entailing.{fitted}
use Rattle.region_typing_scope.specs.Operands.{operand_of}
use Rattle.region_typing_scope.proofs.Entailing.{needs_then, converted_then, fits_then}

pub number_then : {A : Type 0} (t : Typed) (span : Span) (next : core.Expression → Verdict A) → number_of t span next ≡ passing (number_of t span Passes) next
number_then (Value type null value place) span next = needs_then (is_number type) _ span value next
number_then (AStruct struct place) span next = refl

pub two_numbers_then : {A : Type 0} (a b : Typed) (span : Span) (next : core.Expression → core.Expression → Verdict A)
    → two_numbers a b span next ≡ passing (number_of a span Passes) (λ v. passing (number_of b span Passes) (λ w. next v w))
two_numbers_then (Value type null value place) b span next =
    rw (number_then b span (next value)) (needs_then (is_number type) _ span value (λ v. passing (number_of b span Passes) (next v)))
two_numbers_then (AStruct struct place) b span next = refl

pub two_scalars_then : {A : Type 0} (a b : Typed) (span : Span) (next : core.Expression → core.Expression → Verdict A)
    → two_scalars a b span next ≡ passing (scalar_of a span Passes) (λ v. passing (scalar_of b span Passes) (λ w. next v w))
two_scalars_then (Value type null value place) (Value other zero second at) span next = refl
two_scalars_then (Value type null value place) (AStruct struct at) span next = refl
two_scalars_then (AStruct struct place) b span next = refl

update_value : {A : Type 0} (right : Typed) (span : Span) (single unbounded scalar : Bool) (next : core.Expression → Verdict A)
    → needs (not single) E19 span (needs (not unbounded) E18 span (needs scalar E13 span (number_of right span next)))
    ≡ passing (needs (not single) E19 span (needs (not unbounded) E18 span (needs scalar E13 span (Passes tt)))) (λ (u : Unit {0}). passing (number_of right span Passes) next)
update_value right span true unbounded scalar next = refl
update_value right span false true scalar next = refl
update_value right span false false true next = number_then right span next
update_value right span false false false next = refl

-- an update as one of its target
pub updated_parts : (at : Places) (s : Scope) (direction : Direction) (left right : Typed) (span : Span)
    → updated at s direction left right span ≡ passing (target_of left span) (λ t. updated_target s direction t right (site_at at span) span)
updated_parts at s direction (Value type zero value ForNothing) right span = refl
updated_parts at s direction (Value type zero value ForArray) right span = refl
updated_parts at s direction (Value Int zero value (For place)) right span = update_value right span (is_single_value right) (lacks_bounds right) true _
updated_parts at s direction (Value Char zero value (For place)) right span = update_value right span (is_single_value right) (lacks_bounds right) true _
updated_parts at s direction (Value (Struct n) zero value (For place)) right span = update_value right span (is_single_value right) (lacks_bounds right) false _
updated_parts at s direction (Value (Pointer mode kind target) zero value (For place)) right span =
    let t : CType = Pointer mode kind target in
    update_value right span (is_single t || is_single_value right) ((is_row t && is_none (bounds_of value)) || lacks_bounds right) true _
updated_parts at s direction (AStruct struct place) right span = refl

one_value : {B : Type 0} (v : Verdict core.Expression) (next : core.Arguments → Verdict B) → passing (passing v (λ x. passing (Passes core.Done) (λ others. Passes (core.More x others)))) next ≡ passing v (λ x. next (core.More x core.Done))
one_value (Passes x) next = refl
one_value (Stops stop) next = refl

-- a predefined function that takes a number
pub writes_parts : (of : core.Expression → core.Statement) (arguments : List (Typed × Span)) (span : Span) → writes of arguments span ≡ passing (only_number arguments span) (λ v. Passes (GivesNothing (of v)))
writes_parts of [] span = refl
writes_parts of (a ∷ []) span = rw (converted_then a.0 Int a.1) (one_value (converted a.0 Int a.1 Passes) (λ values. Passes (GivesNothing (first_of of values))))
writes_parts of (a ∷ b ∷ others) span = grind arith

-- the length of the only argument
pub measures_parts : (arguments : List (Typed × Span)) (site : Site) (span : Span)
    → measures arguments site span ≡ passing (only_argument arguments span) (λ a. converted a.0 text_pointer a.1 (λ v. length_typed a.0 site span))
measures_parts [] site span = refl
measures_parts (a ∷ []) site span = refl
measures_parts (a ∷ b ∷ others) site span = grind arith

-- what converts to a text
text_converts : (type : CType) (null : Bool) → converts type null text_pointer ≡ (null || is_text type)
text_converts Int null = refl
text_converts Char null = refl
text_converts (Struct number) null = refl
text_converts (Pointer modes.Checked kinds.One target) true = refl
text_converts (Pointer modes.Checked kinds.One Int) false = refl
text_converts (Pointer modes.Checked kinds.One Char) false = refl
text_converts (Pointer modes.Checked kinds.One (Struct number)) false = refl
text_converts (Pointer modes.Checked kinds.One (Pointer mode kind target)) false = refl
text_converts (Pointer modes.Checked kinds.Array target) true = refl
text_converts (Pointer modes.Checked kinds.Array Int) false = refl
text_converts (Pointer modes.Checked kinds.Array Char) false = refl
text_converts (Pointer modes.Checked kinds.Array (Struct number)) false = refl
text_converts (Pointer modes.Checked kinds.Array (Pointer mode kind target)) false = refl
text_converts (Pointer modes.Checked kinds.Nt target) true = refl
text_converts (Pointer modes.Checked kinds.Nt Int) false = refl
text_converts (Pointer modes.Checked kinds.Nt Char) false = refl
text_converts (Pointer modes.Checked kinds.Nt (Struct number)) false = refl
text_converts (Pointer modes.Checked kinds.Nt (Pointer mode kind target)) false = refl
text_converts (Pointer modes.Tainted kind target) null = refl
text_converts (Pointer modes.Raw kind target) null = refl

-- the length of a text, by what it is as a value
pub length_parts : (t : Typed) (at : Span) (site : Site) (span : Span) → converted t text_pointer at (λ v. length_typed t site span)
    ≡ passing (operand_of t at) (λ o. passing (needs (o.zero || is_text o.type) E13 at (Passes tt)) (λ (u : Unit {0}).
    passing (needs (is_text o.type && is_some (bounds_of o.value)) E13 span (Passes tt)) (λ (u : Unit {0}). Passes (Gives Int (core.Length o.value site)))))
length_parts (Value type null value place) at site span = rw (text_converts type null, needs_then (is_text type && is_some (bounds_of value)) E13 span tt (λ (u : Unit {0}). Passes (Gives Int (core.Length value site))))
    (needs_then (null || is_text type) E13 at tt (λ (u : Unit {0}). passing (needs (is_text type && is_some (bounds_of value)) E13 span (Passes tt)) (λ (u : Unit {0}). Passes (Gives Int (core.Length value site)))))
length_parts (AStruct struct place) at site span = refl

-- a store as one of its target
pub set_parts : (f : Knowledge) (left right : Typed) (span : Span) → set_to f left right span ≡ passing (target_of left span) (λ t. passing (fitted f (declared_for t.place t.type) right t.type span) (λ value. Passes (store t.place t.type value)))
set_parts f (Value type null value ForNothing) right span = refl
set_parts f (Value type null value ForArray) right span = refl
set_parts f (Value type null value (For place)) right span = fits_then f (declared_for place type) right type span _
set_parts f (AStruct struct place) right span = refl

-- ---- arguments whose bounds are met

one_met : {A : Type 0} (b : Bool) (span : Span) (all : Verdict A) (unmet : Option Span) (next : Verdict A) → all ≡ passing (unless_unmet unmet) (λ (u : Unit {0}). next)
    → needs b E17 span all ≡ passing (unless_unmet (picked b unmet (Some span))) (λ (u : Unit {0}). next)
one_met true span all unmet next others = others
one_met false span all unmet next others = refl

met_then : {A : Type 0} (f : Knowledge) (terms : List (Option Term)) (pointers : List (Option ℕ)) (arguments : List (Typed × Span)) (types : List CType) (bounds : List WrittenBounds) (next : Verdict A)
    → arguments_met f terms pointers arguments types bounds next ≡ passing (unless_unmet (first_unmet f terms pointers arguments types bounds)) (λ (u : Unit {0}). next)
met_then f terms pointers [] types bounds next = refl
met_then f terms pointers (a ∷ arguments) [] bounds next = refl
met_then f terms pointers (a ∷ arguments) (type ∷ types) [] next = one_met (argument_meets f terms pointers a.0 type None) a.1 _ _ next (met_then f terms pointers arguments types [] next)
met_then f terms pointers (a ∷ arguments) (type ∷ types) (b ∷ bounds) next = one_met (argument_meets f terms pointers a.0 type (bounds_in b)) a.1 _ _ next (met_then f terms pointers arguments types bounds next)

values_met : {A B : Type 0} (f : Knowledge) (terms : List (Option Term)) (pointers : List (Option ℕ)) (arguments : List (Typed × Span)) (types : List CType) (bounds : List WrittenBounds) (v : Verdict A) (next : A → Verdict B)
    → passing v (λ values. arguments_met f terms pointers arguments types bounds (next values)) ≡ passing v (λ values. passing (unless_unmet (first_unmet f terms pointers arguments types bounds)) (λ (u : Unit {0}). next values))
values_met f terms pointers arguments types bounds (Passes values) next = met_then f terms pointers arguments types bounds (next values)
values_met f terms pointers arguments types bounds (Stops stop) next = refl

-- a call whose arguments convert, and whose bounds are met
pub converted_parts : (s : Scope) (f : Signature) (arguments : List (Typed × Span)) (site : Site) → converted_call s f arguments site
    ≡ passing (arguments_as arguments f.parameters) (λ values. passing (unless_unmet (first_unmet_of s f arguments)) (λ (u : Unit {0}). Passes (call_of s.structs f.result (result_bounds_of s f arguments) (declared_callee s f site) values site)))
converted_parts s f arguments site =
    values_met s.flow (terms_for s.locals arguments f.parameters) (pointers_for s.locals arguments) arguments f.parameters f.bounds (arguments_as arguments f.parameters) (λ values. Passes (call_of s.structs f.result (result_bounds_of s f arguments) (declared_callee s f site) values site))
