-- Behind an item no function is walked, where none was before it.
use Rattle.std.proofs.Common.{◌≡◌, ℕ, true, not, ◌&&◌, ◌||◌, nat_lt, List, [], ◌∷◌, ◌++◌, length, is_some, Option, Some, None, ap}
use Rattle.ckc_text.specs.declared.place.Span.{Span}
use Rattle.ckc_text.specs.declared.code.Code.TheVariants.{E08, E10, E13, E15, E27}
use Rattle.ckc_tree.specs.Types.{TypeTree, type_span}
use Rattle.ckc_tree.specs.Items as i
use Rattle.ckc_tree.specs.Items.{Item}
use Rattle.ckc_tree.specs.Statements.{Declarator}
use Rattle.ckc_tree.specs.Texts.{body_texts}
use Rattle.pointer_modes.specs.Types as types
use Rattle.pointer_modes.specs.Types.{CType}
use Rattle.ckc_core.specs.Programs.{Initial}
use Rattle.region_typing_rules.specs.Verdicts.{Verdict, Passes, picked}
use Rattle.region_typing_rules.specs.Scopes.{Scope, Signature, WrittenBounds, function_named}
use Rattle.region_typing_rules.specs.Types.{base_type, may_lead_to, without_stars}
use Rattle.region_typing_rules.specs.Operands.{Places}
use Rattle.region_typing_rules.specs.Calls.{is_tainted}
use Rattle.region_typing_rules.specs.Statements.{length_of, is_ended_array, array_kind, is_unchecked, statements}
use Rattle.region_typing_rules.specs.Items.{Parameter, Walk, WalkedVariable, is_struct, member_types, scalar_members, with_struct, member_names, structure, object_bounds, variable_of, variable_scope, room_for, room_for_first, initializer, variables, object_cells, with_objects, global, listed, parameter_types, result_type, agrees, all_scalar, scalar_result, with_function, inside, with_texts, body_scope, function_body, is_defined, function_rules, signature_of, function, is_off, item, bounds_of_result, first_changed_in, without_change}
use Rattle.region_typing_rules.proofs.Verdicts.{Promises, passing_promises, needs_promises, anything_promised}
use Rattle.region_typing.specs.Items.{Outside}

abbrev OutsideBehind : Walk → Type 0
OutsideBehind w = Outside w.scope

scalars_promise : {A : Type 0} (P : A → Type 0) (ms : List types.Member) (next : Verdict A) → Promises P next → Promises P (scalar_members ms next)
scalars_promise P [] next h = h
scalars_promise P (m ∷ ms) next h = needs_promises P (not (is_struct m.ctype)) E27 m.span _ (λ _. scalars_promise P ms next h)

structure_outside : (w : Walk) (d : i.Structure) → Outside w.scope → Promises OutsideBehind (structure w d)
structure_outside w d o =
    needs_promises OutsideBehind (nat_lt (length w.scope.structs) 4096) E08 d.span _
    (λ _. passing_promises (λ (ms : List types.Member). Unit {0}) OutsideBehind (member_types (with_struct d.tag.number (member_names d.members) d.tainted [] w.scope) d.members []) _ (anything_promised (member_types (with_struct d.tag.number (member_names d.members) d.tainted [] w.scope) d.members []))
    (λ ms _. scalars_promise OutsideBehind ms _ (needs_promises OutsideBehind (not w.scope.is_off) E15 d.span _ (λ _. ap (with_struct d.tag.number (member_names d.members) d.tainted ms) o))))

abbrev OutsideBoth : Walk × List WalkedVariable → Type 0
OutsideBoth x = Outside x.0.scope

variables_outside : (at : Places) (w : Walk) (base : TypeTree) (t : CType) (span : Span) (ds : List Declarator) (done : List WalkedVariable) → Outside w.scope → Promises OutsideBoth (variables at w base t span ds done)
variables_outside at w base t span [] done o = o
variables_outside at w base t span (d ∷ ds) done o =
    passing_promises (λ (n : ℕ). Unit {0}) OutsideBoth (room_for w base span d) _ (anything_promised (room_for w base span d))
    (λ taken _. passing_promises (λ (u : CType). Unit {0}) OutsideBoth (without_stars base d.stars t) _ (anything_promised (without_stars base d.stars t))
    (λ u _. needs_promises OutsideBoth (may_lead_to (array_kind (is_ended_array d)) u) E13 (type_span base) _
    (λ _. passing_promises (λ (b : WrittenBounds). Unit {0}) OutsideBoth (object_bounds w.scope d u) _ (anything_promised (object_bounds w.scope d u))
    (λ b _.
    let g = variable_scope taken d u b in
    passing_promises (λ _. Unit {0}) OutsideBoth (initializer at (g w.scope) d.initializer) _ (anything_promised (initializer at (g w.scope) d.initializer))
    (λ initial _. variables_outside at (record w { scope = g w.scope; taken = taken }) base t span ds (done ++ record { type = u; length = length_of d; ended = is_ended_array d; bounds = b; initial = initial } ∷ []) (ap g o))))))

objects_outside : (w : Walk) (span : Span) (vs : List WalkedVariable) → Outside w.scope → Promises OutsideBehind (with_objects w span vs)
objects_outside w span [] o = o
objects_outside w span (v ∷ vs) o =
    passing_promises (λ (cells : List Initial). Unit {0}) OutsideBehind (object_cells w.scope.given w.scope.structs v.type v.length v.ended v.initial span) _ (anything_promised (object_cells w.scope.given w.scope.structs v.type v.length v.ended v.initial span))
    (λ cells _. needs_promises OutsideBehind (nat_lt 0 (length cells)) E10 span _ (λ _. objects_outside (record w { objects = w.objects ++ variable_of v.ended v.bounds cells ∷ [] }) span vs o))

global_outside : (at : Places) (w : Walk) (d : i.Global) → Outside w.scope → Promises OutsideBehind (global at w d)
global_outside at w d o =
    passing_promises (λ (n : ℕ). Unit {0}) OutsideBehind (room_for_first w d d.declarators) _ (anything_promised (room_for_first w d d.declarators))
    (λ taken _. passing_promises (λ (t : CType). Unit {0}) OutsideBehind (base_type w.scope d.base) _ (anything_promised (base_type w.scope d.base))
    (λ t _. passing_promises OutsideBoth OutsideBehind (variables at w d.base t d.span d.declarators []) _ (variables_outside at w d.base t d.span d.declarators [] o)
    (λ x h. passing_promises OutsideBehind OutsideBehind (with_objects x.0 d.span x.1) _ (objects_outside x.0 d.span x.1 h)
    (λ v h'. needs_promises OutsideBehind (not v.scope.is_off) E15 d.span _ (λ _. h')))))

known_outside : (known : Option Signature) (f : Signature) (g : Scope) → Outside g → Outside (with_function known f g)
known_outside None f g o = ap (with_function None f) o
known_outside (Some before) f g o = o

-- no function is walked behind a declaration
pub declared_outside : (known : Option Signature) (f : Signature) (g h : Scope) → h ≡ with_function known f g → Outside g → Outside h
declared_outside known f g h is o = rw is (known_outside known f g o)

-- nor where the strings of a body are known
pub texts_outside : (w : Walk) (body : i.Body) → Outside w.scope → Outside (body_scope w body)
texts_outside w body o = ap (with_texts w.taken (body_texts body)) o

body_outside : (at : Places) (w : Walk) (f : Signature) (ps : List Parameter) (body : Option i.Body) → Outside w.scope → Promises OutsideBehind (function_body at w f ps body)
body_outside at w f ps None o = o
body_outside at w f ps (Some body) o =
    let walked = statements at (inside f ps body.statements (body_scope w body)) body.statements in
    passing_promises (λ _. Unit {0}) OutsideBehind walked _ (anything_promised walked)
    (λ x _. needs_promises OutsideBehind (not (is_unchecked body.mark || w.scope.is_off)) E15 body.span _ (λ _. texts_outside w body o))

change_outside : (changed : Option Span) (next : Verdict Walk) → Promises OutsideBehind next → Promises OutsideBehind (without_change changed next)
change_outside None next h = h
change_outside (Some at) next h = tt

rules_outside : (all : List Item) (d : i.Function) (f : Signature) (known : Option Signature) (changed : Option Span) (w : Walk) → Outside w.scope → Promises OutsideBehind (function_rules all d f known changed w)
rules_outside all d f known changed w o =
    needs_promises OutsideBehind (agrees known f && (all_scalar f.parameters && scalar_result f.result)) E13 d.span _
    (λ _. needs_promises OutsideBehind (picked (is_tainted d.kind) true (is_defined all d.name.number)) E10 d.span _
    (λ _. change_outside changed _
    (needs_promises OutsideBehind (not (is_unchecked d.mark)) E15 d.span _ (λ _. needs_promises OutsideBehind (not w.scope.is_off) E15 d.span _ (λ _. o)))))

function_outside : (at : Places) (all : List Item) (w : Walk) (d : i.Function) → Outside w.scope → Promises OutsideBehind (function at all w d)
function_outside at all w d o =
    let known = function_named w.scope.functions d.name.number in
    needs_promises OutsideBehind (is_some known || nat_lt (length w.scope.functions) 4096) E08 d.span _
    (λ _. passing_promises (λ (t : Option CType). Unit {0}) OutsideBehind (result_type w.scope d.result d.stars) _ (anything_promised (result_type w.scope d.result d.stars))
    (λ t _. passing_promises (λ (ps : List Parameter). Unit {0}) OutsideBehind (parameter_types w.scope (listed d.parameters) (listed d.parameters) []) _ (anything_promised (parameter_types w.scope (listed d.parameters) (listed d.parameters) []))
    (λ ps _. passing_promises (λ (b : WrittenBounds). Unit {0}) OutsideBehind (bounds_of_result w.scope (listed d.parameters) t d.bounds) _ (anything_promised (bounds_of_result w.scope (listed d.parameters) t d.bounds))
    (λ b _. passing_promises OutsideBehind OutsideBehind (function_body at (record w { scope = with_function known (signature_of d t ps b) w.scope }) (signature_of d t ps b) ps d.body) _
    (body_outside at (record w { scope = with_function known (signature_of d t ps b) w.scope }) (signature_of d t ps b) ps d.body (known_outside known (signature_of d t ps b) w.scope o))
    (λ x h. rules_outside all d (signature_of d t ps b) known (first_changed_in (with_function known (signature_of d t ps b) w.scope) (signature_of d t ps b) ps d.body) x h)))))

item_outside : (at : Places) (all : List Item) (w : Walk) (x : Item) → Outside w.scope → Promises OutsideBehind (item at all w x)
item_outside at all w (i.RegionItem region span) o = ap (λ (g : Scope). record g { is_off = is_off region }) o
item_outside at all w (i.StructureItem d) o = structure_outside w d o
item_outside at all w (i.GlobalItem d) o = global_outside at w d o
item_outside at all w (i.FunctionItem d) o = function_outside at all w d o

-- no function is walked behind an item that breaks no rule
pub stays_outside : (at : Places) (all : List Item) (w v : Walk) (x : Item) → Outside w.scope → item at all w x ≡ Passes v → Outside v.scope
stays_outside at all w v x o is = let kept = item_outside at all w x o in rw is at kept
