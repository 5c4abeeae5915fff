-- A walk leads to as many file-level variables as the items declare.
use Rattle.std.proofs.Common.{◌≡◌, ℕ, suc, ◌+◌, ◌<◌, ◌≤◌, Bool, true, false, List, [], ◌∷◌, ◌++◌, length, Option, Some, None, refl, arith}
use Rattle.std.specs.Prelude.{nat_lt, not, is_some, ◌&&◌, ◌||◌}
use Rattle.std.proofs.lemmas.Bool.{ltb-true}
use Rattle.std.proofs.lemmas.List.{length-append}
use Rattle.ckc_text.specs.declared.place.Span.{Span}
use Rattle.ckc_text.specs.declared.code.Code.TheVariants.{E08, E10, E13, E15, E27}
use Rattle.ckc_tree.specs.Types.{TypeTree, type_span}
use Rattle.ckc_tree.specs.Statements.{Declarator}
use Rattle.ckc_tree.specs.Items as i
use Rattle.ckc_tree.specs.Items.{Item}
use Rattle.pointer_modes.specs.Types as types
use Rattle.pointer_modes.specs.Types.{CType}
use Rattle.region_typing_rules.specs.Verdicts.{Verdict, Passes, picked}
use Rattle.region_typing_rules.specs.Scopes.{Scope, Signature, FileVariable, function_named}
use Rattle.region_typing_rules.specs.Types.{may_lead_to, base_type, without_stars}
use Rattle.region_typing_rules.specs.Operands.{Places}
use Rattle.region_typing_rules.specs.Calls.{is_tainted}
use Rattle.region_typing_rules.specs.Statements.{array_kind, is_ended_array, is_unchecked, length_of, statements}
use Rattle.region_typing_rules.specs.Items.{Walk, Parameter, WalkedVariable, agrees, all_scalar, body_scope, bounds_of_result, function, function_body, function_rules, global, in_checked_region, initializer, inside, is_defined, is_struct, item, items, limited, listed, member_names, member_types, object_bounds, object_cells, parameter_types, result_type, room_for, room_for_first, scalar_members, scalar_result, signature_of, first_changed_in, structure, variable_of, variable_scope, variables, variables_declared, with_function, with_objects, with_struct}
use Rattle.region_typing_rules.proofs.Verdicts.{Promises, always_promised, needs_promises, passing_promises, promised_so}
use Rattle.region_typing_rules.proofs.Kept.{passing_any}

-- so many variables are declared, and no more than a program may have
abbrev pub IsCounted : ℕ → Walk → Type 0
IsCounted n w = (length w.scope.variables ≡ n) × (n ≤ 4096)

in_region : (n : ℕ) (g : Scope) (span : Span) (w : Walk) → IsCounted n w → Promises (IsCounted n) (in_checked_region g span w)
in_region n g span w h = needs_promises (IsCounted n) (not g.is_off) E15 span (Passes w) (λ on. h)

-- ---- structs

members_counted : (n : ℕ) (members : List types.Member) (next : Verdict Walk) → Promises (IsCounted n) next → Promises (IsCounted n) (scalar_members members next)
members_counted n [] next h = h
members_counted n (m ∷ members) next h = needs_promises (IsCounted n) (not (is_struct m.ctype)) E27 m.span (scalar_members members next) (λ e. members_counted n members next h)

structure_counted : (n : ℕ) (w : Walk) (d : i.Structure) → IsCounted n w → Promises (IsCounted n) (structure w d)
structure_counted n w d h =
    needs_promises (IsCounted n) (nat_lt (length w.scope.structs) 4096) E08 d.span _
    (λ few. passing_any (IsCounted n) (member_types (with_struct d.tag.number (member_names d.members) d.tainted [] w.scope) d.members []) _
    (λ ms. members_counted n ms _ (in_region n w.scope d.span _ h)))

-- ---- variables

room_low : (w : Walk) (base : TypeTree) (span : Span) (d : Declarator) → Promises (λ (taken : ℕ). length w.scope.variables < 4096) (room_for w base span d)
room_low w base span d =
    needs_promises (λ (taken : ℕ). length w.scope.variables < 4096) (nat_lt (length w.scope.variables) 4096) E08 span _
    (λ few. always_promised _ (ltb-true (length w.scope.variables) 4096 few))

variables_counted : (at : Places) (n : ℕ) (w : Walk) (base : TypeTree) (type : CType) (span : Span) (ds : List Declarator) (done : List WalkedVariable) → IsCounted n w
    → Promises (λ (x : Walk × List WalkedVariable). IsCounted (n + length ds) x.0) (variables at w base type span ds done)
variables_counted at n w base type span [] done h = (omega (arith, h.0), omega (arith, h.1))
variables_counted at n w base type span (d ∷ ds) done h =
    let Q : Walk × List WalkedVariable → Type 0 = λ x. IsCounted (n + length (d ∷ ds)) x.0 in
    passing_promises (λ (taken : ℕ). length w.scope.variables < 4096) Q (room_for w base span d) _ (room_low w base span d)
    (λ taken low. passing_any Q (without_stars base d.stars type) _
    (λ t. needs_promises Q (may_lead_to (array_kind (is_ended_array d)) t) E13 (type_span base) _
    (λ may. passing_any Q (object_bounds w.scope d t) _
    (λ bounds. passing_any Q (initializer at (variable_scope taken d t bounds w.scope) d.initializer) _
    (λ initial. (let v : FileVariable = record { name = d.name.number; type = t; length = length_of d; ended = is_ended_array d; bounds = bounds } in
    let more = length-append w.scope.variables (v ∷ []) in
    promised_so (λ (x : Walk × List WalkedVariable). IsCounted (suc n + length ds) x.0) Q
    (variables at (record w { scope = variable_scope taken d t bounds w.scope; taken = taken }) base type span ds _)
    (variables_counted at (suc n) (record w { scope = variable_scope taken d t bounds w.scope; taken = taken }) base type span ds _ (omega (arith, h.0, more), omega (arith, h.0, low)))
    (λ x counted. (omega (arith, counted.0), omega (arith, counted.1)))))))))

objects_counted : (n : ℕ) (w : Walk) (span : Span) (walked : List WalkedVariable) → IsCounted n w → Promises (IsCounted n) (with_objects w span walked)
objects_counted n w span [] h = h
objects_counted n w span (v ∷ vs) h =
    passing_any (IsCounted n) (object_cells w.scope.given w.scope.structs v.type v.length v.ended v.initial span) _
    (λ cells. needs_promises (IsCounted n) (nat_lt 0 (length cells)) E10 span _ (λ some. objects_counted n (record w { objects = w.objects ++ variable_of v.ended v.bounds cells ∷ [] }) span vs h))

global_counted : (at : Places) (n : ℕ) (w : Walk) (d : i.Global) → IsCounted n w → Promises (IsCounted (n + length d.declarators)) (global at w d)
global_counted at n w d h =
    let Q : Walk → Type 0 = IsCounted (n + length d.declarators) in
    passing_any Q (room_for_first w d d.declarators) _
    (λ taken. passing_any Q (base_type w.scope d.base) _
    (λ type. passing_promises (λ (x : Walk × List WalkedVariable). IsCounted (n + length d.declarators) x.0) Q (variables at w d.base type d.span d.declarators []) _
    (variables_counted at n w d.base type d.span d.declarators [] h)
    (λ x counted. passing_promises Q Q (with_objects x.0 d.span x.1) _ (objects_counted (n + length d.declarators) x.0 d.span x.1 counted)
    (λ v last. in_region (n + length d.declarators) v.scope d.span v last))))

-- ---- functions

rules_counted : (n : ℕ) (all : List Item) (d : i.Function) (f : Signature) (known : Option Signature) (changed : Option Span) (w : Walk) → IsCounted n w → Promises (IsCounted n) (function_rules all d f known changed w)
rules_counted n all d f known (Some span) w h =
    needs_promises (IsCounted n) (agrees known f && (all_scalar f.parameters && scalar_result f.result)) E13 d.span _
    (λ e. needs_promises (IsCounted n) (picked (is_tainted d.kind) true (is_defined all d.name.number)) E10 d.span _ (λ e'. tt))
rules_counted n all d f known None w h =
    needs_promises (IsCounted n) (agrees known f && (all_scalar f.parameters && scalar_result f.result)) E13 d.span _
    (λ e. needs_promises (IsCounted n) (picked (is_tainted d.kind) true (is_defined all d.name.number)) E10 d.span _
    (λ e'. needs_promises (IsCounted n) (not (is_unchecked d.mark)) E15 d.span _ (λ e''. in_region n w.scope d.span w h)))

body_counted : (at : Places) (n : ℕ) (w : Walk) (f : Signature) (ps : List Parameter) (body : Option i.Body) → IsCounted n w → Promises (IsCounted n) (function_body at w f ps body)
body_counted at n w f ps None h = h
body_counted at n w f ps (Some body) h =
    passing_any (IsCounted n) (statements at (inside f ps body.statements (body_scope w body)) body.statements) _
    (λ x. needs_promises (IsCounted n) (not (is_unchecked body.mark || w.scope.is_off)) E15 body.span _ (λ on. h))

function_counted : (at : Places) (all : List Item) (n : ℕ) (w : Walk) (d : i.Function) → IsCounted n w → Promises (IsCounted n) (function at all w d)
function_counted at all n w d h =
    let Q : Walk → Type 0 = IsCounted n in
    let known = function_named w.scope.functions d.name.number in
    needs_promises Q (is_some known || nat_lt (length w.scope.functions) 4096) E08 d.span _
    (λ room. passing_any Q (result_type w.scope d.result d.stars) _
    (λ result. passing_any Q (parameter_types w.scope (listed d.parameters) (listed d.parameters) []) _
    (λ parameters. passing_any Q (bounds_of_result w.scope (listed d.parameters) result d.bounds) _
    (λ bounds. (let f : Signature = signature_of d result parameters bounds in
    let v : Walk = record w { scope = with_function known f w.scope } in
    passing_promises Q Q (function_body at v f parameters d.body) _ (body_counted at n v f parameters d.body (with_counted known f h))
    (λ x counted. rules_counted n all d f known (first_changed_in v.scope f parameters d.body) x counted))))))
  where
    with_counted : (known : Option Signature) (f : Signature) → IsCounted n w → IsCounted n (record w { scope = with_function known f w.scope })
    with_counted None f h = h
    with_counted (Some before) f h = h

-- ---- items

abbrev declared_by : Item → ℕ
declared_by x = variables_declared (x ∷ [])

item_counted : (at : Places) (all : List Item) (n : ℕ) (w : Walk) (x : Item) → IsCounted n w → Promises (IsCounted (n + declared_by x)) (item at all w x)
item_counted at all n w (i.RegionItem region span) h = (omega (arith, h.0), omega (arith, h.1))
item_counted at all n w (i.StructureItem d) h = promised_so (IsCounted n) (IsCounted (n + 0)) (structure w d) (structure_counted n w d h) (λ v c. (omega (arith, c.0), omega (arith, c.1)))
item_counted at all n w (i.GlobalItem g) h =
    promised_so (IsCounted (n + length g.declarators)) (IsCounted (n + (length g.declarators + 0))) (global at w g) (global_counted at n w g h) (λ v c. (omega (arith, c.0), omega (arith, c.1)))
item_counted at all n w (i.FunctionItem d) h = promised_so (IsCounted n) (IsCounted (n + 0)) (function at all w d) (function_counted at all n w d h) (λ v c. (omega (arith, c.0), omega (arith, c.1)))

one_by_one : (x : Item) (xs : List Item) → variables_declared (x ∷ xs) ≡ declared_by x + variables_declared xs
one_by_one (i.RegionItem region span) xs = omega arith
one_by_one (i.StructureItem d) xs = omega arith
one_by_one (i.GlobalItem g) xs = omega arith
one_by_one (i.FunctionItem d) xs = omega arith

pub items_counted : (at : Places) (all : List Item) (n : ℕ) (w : Walk) (xs : List Item) → IsCounted n w → Promises (IsCounted (n + variables_declared xs)) (items at all w xs)
items_counted at all n w [] h = (omega (arith, h.0), omega (arith, h.1))
items_counted at all n w (x ∷ xs) h =
    passing_promises (IsCounted (n + declared_by x)) (IsCounted (n + variables_declared (x ∷ xs))) (item at all w x) _ (item_counted at all n w x h)
    (λ v c. promised_so (IsCounted (n + declared_by x + variables_declared xs)) (IsCounted (n + variables_declared (x ∷ xs))) (items at all v xs) (items_counted at all (n + declared_by x) v xs c)
    (λ u d. let parts = one_by_one x xs in (omega (arith, d.0, parts), omega (arith, d.1, parts))))

-- where no more are declared than there may be, all of them are counted
pub limited_is : (n : ℕ) → n ≤ 4096 → limited 4096 n ≡ n
limited_is n few = by (nat_lt 4096 n) refl
  where
    by : (test : Bool) → nat_lt 4096 n ≡ test → picked test 4096 n ≡ n
    by true e = absurd (let more = ltb-true 4096 n e in omega (arith, few, more))
    by false e = refl
