-- What the walk over a program keeps, where it is said of the functions and the bodies that are known.
use Rattle.std.proofs.Common.{◌≡◌, ℕ, Bool, true, List, [], ◌∷◌, ◌++◌, length, Option, Some, None}
use Rattle.std.specs.Prelude.{nat_lt, not, is_some, ◌&&◌, ◌||◌}
use Rattle.ckc_text.specs.declared.code.Code.TheVariants.{E08, E10, E13, E15, E27, E29}
use Rattle.ckc_text.specs.declared.place.Span.{Span}
use Rattle.ckc_tree.specs.Types.{TypeTree, type_span}
use Rattle.ckc_tree.specs.Statements.{Declarator}
use Rattle.ckc_tree.specs.Items as i
use Rattle.ckc_tree.specs.Items.{Item}
use Rattle.pointer_modes.specs.Types as types
use Rattle.pointer_modes.specs.Types.{CType}
use Rattle.ckc_core.specs.Programs.{Initial}
use Rattle.region_typing_rules.specs.Verdicts.{Verdict, Passes, Stops, passing, needs, breaks, picked}
use Rattle.region_typing_rules.specs.Scopes.{Scope, Signature, WrittenBounds, function_named}
use Rattle.region_typing_rules.specs.Operands.{Places}
use Rattle.region_typing_rules.specs.Calls.{is_tainted}
use Rattle.region_typing_rules.specs.Statements.{is_unchecked, length_of, array_kind, is_ended_array, array_element}
use Rattle.region_typing_rules.specs.Types.{may_lead_to, base_type, without_stars}
use Rattle.region_typing_rules.specs.Items.{variable_scope, Defined, Parameter, Walk, Walked, WalkedVariable, in_checked_region, is_struct, member_types, member_names, with_struct, scalar_members, structure, initializer, object_cells, variables, object_bounds, variable_of, room_for, room_for_first, with_objects, global, listed, parameter_types, bounds_of_result, first_changed_in, result_type, with_function, function_body, agrees, all_scalar, scalar_result, is_defined, function_rules, signature_of, function}
use Rattle.region_typing_rules.proofs.Verdicts.{Promises, passing_promises, needs_promises}

-- whatever is passed on
pub passing_any : {A B : Type 0} (Q : B → Type 0) (v : Verdict A) (next : A → Verdict B) → ((x : A) → Promises Q (next x)) → Promises Q (passing v next)
passing_any Q (Passes value) next more = more value
passing_any Q (Stops stop) next more = tt

-- what is said of the functions and of the bodies
module _ (P : List Signature → List Defined → Type 0) where
  abbrev pub Keeps : Walk → Type 0
  Keeps w = P w.scope.functions w.bodies

  -- ---- structs and variables leave both

  in_region : (g : Scope) (span : Span) (w : Walk) → Keeps w → Promises Keeps (in_checked_region g span w)
  in_region g span w h = needs_promises Keeps (not g.is_off) E15 span (Passes w) (λ e. h)

  members_kept : (members : List types.Member) (next : Verdict Walk) → Promises Keeps next → Promises Keeps (scalar_members members next)
  members_kept [] next h = h
  members_kept (m ∷ members) next h = needs_promises Keeps (not (is_struct m.ctype)) E27 m.span (scalar_members members next) (λ e. members_kept members next h)

  abbrev with_members : Walk → i.Structure → List types.Member → Walk
  with_members w d members = record w { scope = with_struct d.tag.number (member_names d.members) d.tainted members w.scope }

  abbrev behind_members : Walk → i.Structure → List types.Member → Verdict Walk
  behind_members w d members = scalar_members members (in_checked_region w.scope d.span (with_members w d members))

  pub structure_kept : (w : Walk) (d : i.Structure) → Keeps w → Promises Keeps (structure w d)
  structure_kept w d h =
      let members = member_types (with_struct d.tag.number (member_names d.members) d.tainted [] w.scope) d.members [] in
      needs_promises Keeps (nat_lt (length w.scope.structs) 4096) E08 d.span (passing members (behind_members w d)) (λ e.
      passing_any Keeps members (behind_members w d) (λ ms. members_kept ms (in_checked_region w.scope d.span (with_members w d ms)) (in_region w.scope d.span (with_members w d ms) h)))

  abbrev KeepsFirst : Walk × List WalkedVariable → Type 0
  KeepsFirst x = Keeps x.0

  abbrev with_one : Walk → Declarator → ℕ → CType → WrittenBounds → Walk
  with_one w d taken t bounds = record w { scope = variable_scope taken d t bounds w.scope; taken = taken }

  abbrev behind_initial : Places → Walk → TypeTree → CType → Span → Declarator → List Declarator → List WalkedVariable → ℕ → CType → WrittenBounds → Walked → Verdict (Walk × List WalkedVariable)
  behind_initial at w base type span d ds done taken t bounds initial = variables at (with_one w d taken t bounds) base type span ds (done ++ record { type = t; length = length_of d; ended = is_ended_array d; bounds = bounds; initial = initial } ∷ [])

  abbrev behind_declared : Places → Walk → TypeTree → CType → Span → Declarator → List Declarator → List WalkedVariable → ℕ → CType → WrittenBounds → Verdict (Walk × List WalkedVariable)
  behind_declared at w base type span d ds done taken t bounds = passing (initializer at (variable_scope taken d t bounds w.scope) d.initializer) (behind_initial at w base type span d ds done taken t bounds)

  abbrev behind_type : Places → Walk → TypeTree → CType → Span → Declarator → List Declarator → List WalkedVariable → ℕ → CType → Verdict (Walk × List WalkedVariable)
  behind_type at w base type span d ds done taken t = array_element (is_ended_array d) t base (passing (object_bounds w.scope d t) (behind_declared at w base type span d ds done taken t))

  abbrev behind_room : Places → Walk → TypeTree → CType → Span → Declarator → List Declarator → List WalkedVariable → ℕ → Verdict (Walk × List WalkedVariable)
  behind_room at w base type span d ds done taken = passing (without_stars base d.stars type) (behind_type at w base type span d ds done taken)

  variables_kept : (at : Places) (w : Walk) (base : TypeTree) (type : CType) (span : Span) (ds : List Declarator) (done : List WalkedVariable) → Keeps w → Promises KeepsFirst (variables at w base type span ds done)
  variables_kept at w base type span [] done h = h
  variables_kept at w base type span (d ∷ ds) done h =
      passing_any KeepsFirst (room_for w base span d) (behind_room at w base type span d ds done) (λ taken.
      passing_any KeepsFirst (without_stars base d.stars type) (behind_type at w base type span d ds done taken) (λ t.
      needs_promises KeepsFirst (may_lead_to (array_kind (is_ended_array d)) t) E13 (type_span base) (passing (object_bounds w.scope d t) (behind_declared at w base type span d ds done taken t)) (λ ends.
      passing_any KeepsFirst (object_bounds w.scope d t) (behind_declared at w base type span d ds done taken t) (λ bounds.
      passing_any KeepsFirst (initializer at (variable_scope taken d t bounds w.scope) d.initializer) (behind_initial at w base type span d ds done taken t bounds) (λ initial.
      variables_kept at (with_one w d taken t bounds) base type span ds (done ++ record { type = t; length = length_of d; ended = is_ended_array d; bounds = bounds; initial = initial } ∷ []) h)))))

  abbrev behind_cells : Walk → Span → (ended : Bool) → WrittenBounds → List WalkedVariable → List Initial → Verdict Walk
  behind_cells w span ended bounds vs cells = needs (nat_lt 0 (length cells)) E10 span (with_objects (record w { objects = w.objects ++ variable_of ended bounds cells ∷ [] }) span vs)

  objects_kept : (w : Walk) (span : Span) (vs : List WalkedVariable) → Keeps w → Promises Keeps (with_objects w span vs)
  objects_kept w span [] h = h
  objects_kept w span (v ∷ vs) h =
      passing_any Keeps (object_cells w.scope.given w.scope.structs v.type v.length v.ended v.initial span) (behind_cells w span v.ended v.bounds vs) (λ cells.
      needs_promises Keeps (nat_lt 0 (length cells)) E10 span (with_objects (record w { objects = w.objects ++ variable_of v.ended v.bounds cells ∷ [] }) span vs) (λ e. objects_kept (record w { objects = w.objects ++ variable_of v.ended v.bounds cells ∷ [] }) span vs h))

  abbrev behind_objects : i.Global → Walk → Verdict Walk
  behind_objects g v = in_checked_region v.scope g.span v

  abbrev behind_variables : i.Global → Walk × List WalkedVariable → Verdict Walk
  behind_variables g x = passing (with_objects x.0 g.span x.1) (behind_objects g)

  abbrev behind_base : Places → Walk → i.Global → CType → Verdict Walk
  behind_base at w g type = passing (variables at w g.base type g.span g.declarators []) (behind_variables g)

  abbrev behind_limits : Places → Walk → i.Global → ℕ → Verdict Walk
  behind_limits at w g taken = passing (base_type w.scope g.base) (behind_base at w g)

  pub global_kept : (at : Places) (w : Walk) (g : i.Global) → Keeps w → Promises Keeps (global at w g)
  global_kept at w g h =
      passing_any Keeps (room_for_first w g g.declarators) (behind_limits at w g) (λ taken.
      passing_any Keeps (base_type w.scope g.base) (behind_base at w g) (λ type.
      passing_promises KeepsFirst Keeps (variables at w g.base type g.span g.declarators []) (behind_variables g) (variables_kept at w g.base type g.span g.declarators [] h) (λ x few.
      passing_promises Keeps Keeps (with_objects x.0 g.span x.1) (behind_objects g) (objects_kept x.0 g.span x.1 few) (λ v more. in_region v.scope g.span v more))))

  -- ---- functions

  rules_kept : (all : List Item) (d : i.Function) (f : Signature) (known : Option Signature) (changed : Option Span) (w : Walk) → Keeps w → Promises Keeps (function_rules all d f known changed w)
  rules_kept all d f known (Some span) w h =
      needs_promises Keeps (agrees known f && (all_scalar f.parameters && scalar_result f.result)) E13 d.span (needs (picked (is_tainted d.kind) true (is_defined all d.name.number)) E10 d.span (breaks E29 span)) (λ e.
      needs_promises Keeps (picked (is_tainted d.kind) true (is_defined all d.name.number)) E10 d.span (breaks E29 span) (λ e'. tt))
  rules_kept all d f known None w h =
      let checked = in_checked_region w.scope d.span w in
      needs_promises Keeps (agrees known f && (all_scalar f.parameters && scalar_result f.result)) E13 d.span (needs (picked (is_tainted d.kind) true (is_defined all d.name.number)) E10 d.span (needs (not (is_unchecked d.mark)) E15 d.span checked)) (λ e.
      needs_promises Keeps (picked (is_tainted d.kind) true (is_defined all d.name.number)) E10 d.span (needs (not (is_unchecked d.mark)) E15 d.span checked) (λ e'.
      needs_promises Keeps (not (is_unchecked d.mark)) E15 d.span checked (λ e''. in_region w.scope d.span w h)))

  abbrev declared_in : Walk → i.Function → Option CType → List Parameter → WrittenBounds → Walk
  declared_in w d result parameters bounds = record w { scope = with_function (function_named w.scope.functions d.name.number) (signature_of d result parameters bounds) w.scope }

  abbrev behind_bounds : Places → List Item → Walk → i.Function → Option CType → List Parameter → WrittenBounds → Verdict Walk
  behind_bounds at all w d result parameters bounds =
      let f = signature_of d result parameters bounds in
      passing (function_body at (declared_in w d result parameters bounds) f parameters d.body) (function_rules all d f (function_named w.scope.functions d.name.number) (first_changed_in (declared_in w d result parameters bounds).scope f parameters d.body))

  abbrev behind_parameters : Places → List Item → Walk → i.Function → Option CType → List Parameter → Verdict Walk
  behind_parameters at all w d result parameters =
      passing (bounds_of_result w.scope (listed d.parameters) result d.bounds) (behind_bounds at all w d result parameters)

  abbrev behind_result : Places → List Item → Walk → i.Function → Option CType → Verdict Walk
  behind_result at all w d result = passing (parameter_types w.scope (listed d.parameters) (listed d.parameters) []) (behind_parameters at all w d result)

  pub function_kept : (at : Places) (all : List Item) (w : Walk) (d : i.Function)
      → ((f : Signature) → (is_some (function_named w.scope.functions d.name.number) || nat_lt (length w.scope.functions) 4096) ≡ true → P (with_function (function_named w.scope.functions d.name.number) f w.scope).functions w.bodies)
      → ((v : Walk) (f : Signature) (parameters : List Parameter) → Keeps v → Promises Keeps (function_body at v f parameters d.body))
      → Promises Keeps (function at all w d)
  function_kept at all w d declares defines =
      let known = function_named w.scope.functions d.name.number in
      needs_promises Keeps (is_some known || nat_lt (length w.scope.functions) 4096) E08 d.span (passing (result_type w.scope d.result d.stars) (behind_result at all w d)) (λ room.
      passing_any Keeps (result_type w.scope d.result d.stars) (behind_result at all w d) (λ result.
      passing_any Keeps (parameter_types w.scope (listed d.parameters) (listed d.parameters) []) (behind_parameters at all w d result) (λ parameters.
      passing_any Keeps (bounds_of_result w.scope (listed d.parameters) result d.bounds) (behind_bounds at all w d result parameters) (λ bounds.
      let f = signature_of d result parameters bounds in
      let changed = first_changed_in (declared_in w d result parameters bounds).scope f parameters d.body in
      passing_promises Keeps Keeps (function_body at (declared_in w d result parameters bounds) f parameters d.body) (function_rules all d f known changed)
      (defines (declared_in w d result parameters bounds) f parameters (declares f room)) (λ v kept. rules_kept all d f known changed v kept)))))
