-- Inside: what is known behind an item, as the code holds it, and steps of the walks over items.
use Rattle.std.specs.Prelude.{◌≡◌, ℕ, Bool, true, false, not, ◌&&◌, List, [], ◌∷◌, ◌++◌, length, map, nat_lt, Option, Some, None, is_none}
use Rattle.ckc_text.specs.declared.place.Span.{Span}
use Rattle.ckc_text.specs.declared.code.Code.TheVariants.{E08, E10, E13, E15, E16}
use Rattle.ckc_tree.specs.Types.{TypeTree, type_span}
use Rattle.ckc_tree.specs.Expressions.{Bounds, bounds_span}
use Rattle.bounds_exprs.specs.declared.term.Bounds.{Bounds as Ends}
use Rattle.ckc_tree.specs.Items as i
use Rattle.ckc_tree.specs.Statements.{Initializer, Declarator, Statements}
use Rattle.pointer_modes.specs.Types as types
use Rattle.pointer_modes.specs.Types.{CType}
use Rattle.ckc_core.specs.Core as core
use Rattle.ckc_core.specs.Core.{object, function}
use Rattle.region_typing_rules.specs.Verdicts.{Verdict, Passes, passing, needs, picked}
use Rattle.region_typing_rules.specs.Scopes.{Scope, Signature, WrittenBounds, bounds_in, function_named}
use Rattle.region_typing_rules.specs.Types.{type_named, without_stars}
use Rattle.region_typing_rules.specs.Operands.{Places}
use Rattle.region_typing_rules.specs.Calls.{is_tainted}
use Rattle.region_typing_rules.specs.DeclaredBounds.{declared_bounds}
use Rattle.region_typing_rules.specs.Statements.{length_of, is_ended_array, array_element, statements, is_unchecked}
use Rattle.region_typing_rules.specs.Items.{Parameter, Defined, Walk, among_parameters, declared_as, object_bounds, variable_of, variable_scope}
use Rattle.region_typing_rules.specs.Items.{room_for, initializer, inside, core_function, function_body}
use Rattle.region_typing_rules.specs.Items.{parameter_types, type_of_result, bounds_of_result, names, first_changed_in, without_change}
use Rattle.region_typing_rules.specs.KeptParameters.{all_changed}
use Rattle.region_typing_rules.specs.Items.{with_function, agrees, all_scalar, scalar_result, is_defined, in_checked_region}
use Rattle.region_typing_scope.specs.Views.{scope}
use Rattle.bounds_flow.specs.Flows.{at_entry}
use Rattle.region_typing.specs.declared.walk as code
use Rattle.region_typing.specs.declared.globals.WalkedVariable as code_variable
use Rattle.region_typing.specs.Initials.{Judged, judged, judged_as, judged_cells}

abbrev pub defined : code.Defined.Defined → Defined
defined d = record { name = d.name; function = function d.function }

abbrev pub walk : code.Walk.Walk → Walk
walk w = record { scope = scope w.scope; objects = map object w.objects.items; taken = w.taken; bodies = map defined w.bodies.items }

-- no function is walked
abbrev pub Outside : Scope → Type 0
Outside g =
    g ≡ record g {
      locals = [];
      arrays = [];
      visible = [];
      result = None;
      result_bounds = None;
      in_loop = false;
      outside = 0;
      flow = at_entry 0;
      breaks = None;
      continues = None;
    }

-- a member more (E08)
abbrev pub one_member : Scope → i.Member → List types.Member → Verdict (List types.Member)
one_member g m done =
    needs (nat_lt (length done) 64) E08 (type_span m.type.base)
    (passing (type_named g m.type) (λ t. Passes (done ++ record { name = m.name.name; ctype = t; span = m.span } ∷ [])))

-- what is declared for the bounds of a parameter of a type, by its number
abbrev pub bounds_written : Scope → CType → ℕ → Option Bounds → Verdict WrittenBounds
bounds_written g t local written = passing (declared_bounds g t local written) (λ b. Passes (declared_as written b))

-- a parameter more (E08), among all
abbrev pub one_parameter : Scope → List i.Member → i.Member → List Parameter → Verdict (List Parameter)
one_parameter g all p done =
    needs (nat_lt (length done) 16) E08 (type_span p.type.base)
    (passing (type_named g p.type) (λ t. passing (bounds_written (among_parameters g all) t (length done) p.bounds) (λ b.
    Passes (done ++ record { name = p.name.number; type = t; bounds = b } ∷ []))))

-- bounds that count from no pointer
abbrev pub has_no_base : Option Ends → Bool
has_no_base None = true
has_no_base (Some b) = is_none b.base

-- what is declared for the bounds of the result of a function, which has this number (E16)
abbrev pub result_written : Scope → Option CType → ℕ → Option Bounds → Verdict WrittenBounds
result_written g result number None =
    passing (declared_bounds g (type_of_result result) number None) (λ b. Passes (declared_as {A = Bounds} None b))
result_written g result number (Some text) =
    passing (declared_bounds g (type_of_result result) number (Some text)) (λ b. needs (has_no_base b) E16 (bounds_span text) (Passes (Some b)))

-- parameters, and what is declared for the bounds of the result over them
abbrev pub heading_of : Scope → List i.Member → Option CType → Option Bounds → Verdict (List Parameter × WrittenBounds)
heading_of g all result bounds = passing (parameter_types g all all []) (λ ps. passing (bounds_of_result g all result bounds) (λ b. Passes (ps, b)))

-- a variable of a type with what it is initialised with
pub record JudgedVariable : Type 0 where
  pub type : CType
  pub length : Option ℕ
  pub ended : Bool
  pub bounds : WrittenBounds
  pub initial : Judged

abbrev pub judged_variable : CType → code_variable.WalkedVariable → JudgedVariable
judged_variable t v = record { type = t; length = v.count; ended = v.ended; bounds = v.bounds; initial = judged v.initial }

-- a variable more, with the bytes that are taken then, and the strings of what it is initialised with
abbrev pub with_one : (taken : ℕ) → Declarator → CType → WrittenBounds → Walk → Walk
with_one taken d t bounds w = record w { scope = variable_scope taken d t bounds w.scope; taken = taken }

-- what a variable is initialised with, where it is known
abbrev pub judged_initializer : Places → Scope → Option Initializer → Verdict Judged
judged_initializer at g written = passing (initializer at g written) (λ x. Passes (judged_as g.given x))

-- one variable of a declaration
abbrev pub one_variable : Places → Walk → TypeTree → CType → Span → Declarator → Verdict (Walk × JudgedVariable)
one_variable at w base type span d =
    passing (room_for w base span d) (λ taken. passing (without_stars base d.stars type) (λ t.
    array_element (is_ended_array d) t base
    (passing (object_bounds w.scope d t) (λ bounds.
    passing (judged_initializer at (variable_scope taken d t bounds w.scope) d.initializer) (λ initial.
    Passes (with_one taken d t bounds w, record { type = t; length = length_of d; ended = is_ended_array d; bounds = bounds; initial = initial }))))))

-- the variables of a declaration
abbrev pub judged_variables : Places → TypeTree → CType → Span → List Declarator → Walk × List JudgedVariable → Verdict (Walk × List JudgedVariable)
judged_variables at base type span [] x = Passes x
judged_variables at base type span (d ∷ ds) x =
    passing (one_variable at x.0 base type span d) (λ y. judged_variables at base type span ds (y.0, x.1 ++ y.1 ∷ []))

-- the cells of a variable more
abbrev pub one_object : Span → JudgedVariable → Walk → Verdict Walk
one_object span v w = passing (judged_cells w.scope.structs v.type v.length v.ended v.initial span)
    (λ cells. needs (nat_lt 0 (length cells)) E10 span (Passes (record w { objects = w.objects ++ variable_of v.ended v.bounds cells ∷ [] })))

abbrev pub judged_objects : Span → List JudgedVariable → Walk → Verdict Walk
judged_objects span [] w = Passes w
judged_objects span (v ∷ vs) w = passing (one_object span v w) (λ x. judged_objects span vs x)

-- the core of a function with a body, whose locals are gone behind it
abbrev pub body_core : Places → Scope → Signature → List Parameter → Statements → Verdict (core.Function × Scope)
body_core at g f parameters body = passing (statements at (inside f parameters body g) body) (λ x. Passes (core_function f parameters x.0 x.1, g))

-- where a body first assigns a parameter that the bounds of its function's result name
abbrev pub changed_in : Scope → Signature → List Parameter → Statements → Option Span
changed_in g f parameters body =
    all_changed (names (bounds_in f.result_bounds)) (length (inside f parameters body g).locals) (inside f parameters body g).visible body

-- what is asked of a function whose body was walked (E13, E10, E29, E15)
abbrev pub kept_rules : List i.Item → i.Function → Bool → Option Span → Scope → Verdict (Unit {0})
kept_rules all d fits changed g =
    needs fits E13 d.span
    (needs (picked (is_tainted d.kind) true (is_defined all d.name.number)) E10 d.span
    (without_change changed
    (needs (not (is_unchecked d.mark)) E15 d.span (in_checked_region g d.span tt))))

-- what is asked of a function behind its declaration
abbrev pub behind_declaration : Places → List i.Item → Walk → i.Function → Signature × List Parameter → Verdict Walk
behind_declaration at all w d x =
    passing (function_body at (record w { scope = with_function (function_named w.scope.functions x.0.name) x.0 w.scope }) x.0 x.1 d.body) (λ v.
    passing (kept_rules all d (agrees (function_named w.scope.functions x.0.name) x.0
    && (all_scalar x.0.parameters && scalar_result x.0.result))
    (first_changed_in (with_function (function_named w.scope.functions x.0.name) x.0 w.scope) x.0 x.1 d.body) v.scope) (λ u. Passes v))
