-- Functions with their bodies.
use Rattle.std.proofs.Common.{◌≡◌, ℕ, ◌+◌, ◌<◌, ◌≤◌, drop, get_or, Bool, true, false, not, ◌&&◌, ◌||◌, nat_lt, List, [], ◌∷◌, ◌++◌, length, map, is_some, Option, Some, None, Result, Ok, Err, refl, ap, sym, ◌∙◌, subst, arith}
use Rattle.std.specs.Option.{option_map}
use Rattle.std.specs.Result.{IsErrAnd}
use Rattle.std.proofs.lemmas.Bool.Decides.{nat_tests}
use Rattle.std.proofs.lemmas.Result.{err_from_is_err_and}
use Rattle.std.proofs.lemmas.List.{length-map, length-append, map-append}
use Rattle.ckc_text.specs.declared.place.Span.{Span}
use Rattle.ckc_text.specs.declared.code.Code.TheVariants.{E08, E10, E13, E15}
use Rattle.region_typing_scope.specs.declared.refusals.CheckError.{CheckError}
use Rattle.region_typing_scope.specs.declared.refusals.CheckError.TheVariants.{Source, Unnamed, NoMemory}
use Rattle.ckc_tree.specs.Items as i
use Rattle.ckc_tree.specs.Items.{Item}
use Rattle.ckc_tree.specs.Statements.{Statements}
use Rattle.pointer_modes.specs.declared.ctype.CType as code_type
use Rattle.pointer_modes.specs.Types.{CType, ctype}
use Rattle.ckc_core.specs.declared.program.Function as code_function
use Rattle.ckc_core.specs.declared.program.Stmt.{Stmt}
use Rattle.ckc_core.specs.Core as core
use Rattle.region_typing_rules.specs.Verdicts.{Stop, Broken, Nameless, Verdict, Passes, Stops, passing, needs, picked}
use Rattle.region_typing_rules.specs.Scopes.{Scope, Signature, Visible, WrittenBounds, bounds_in, function_named}
use Rattle.region_typing_rules.specs.Operands.{Places}
use Rattle.region_typing_rules.specs.Calls.{is_tainted}
use Rattle.region_typing_rules.specs.Statements.{statements, is_unchecked, with_local}
use Rattle.bounds_flow.specs.Flows.{Knowledge, at_entry}
use Rattle.region_typing_rules.specs.Knowing.{all_declared, knowing}
use Rattle.region_typing_rules.specs.Items.{Parameter, Walk, with_parameters, with_bounds, variables_in, inside, core_function, body_scope, function_body, listed, parameter_types, result_type, signature_of, agrees, all_scalar, scalar_result, with_function, is_defined, function_rules, function, bounds_of_result, first_changed_in, without_change}
use Rattle.region_typing_scope.specs.declared.scope as code
use Rattle.region_typing_scope.specs.declared.signature.Signature as code_signature
use Rattle.region_typing_scope.specs.Views.{scope, signature}
use Rattle.region_typing.specs.Parameters.{parameter}
use Rattle.region_typing_scope.specs.Answering.{Answers, answers_so}
use Rattle.region_typing_scope.specs.Locals.{Grows}
use Rattle.region_typing_statements.specs.Walks.{Walks}
use Rattle.region_typing.specs.declared.prototype as code_prototype
use Rattle.region_typing.specs.declared.walk as code_walk
use Rattle.region_typing.specs.Items.{defined, Outside, body_core, heading_of, kept_rules, behind_declaration}
use Rattle.region_typing.specs.Signatures.{declared_function}
use Rattle.region_typing_statements.proofs.Verdicts.{same_behind, in_parts}
use Rattle.region_typing_scope.proofs.Steps.{parts_at, no_parts}

-- ---- a function is entered

limited_so : (limit n : ℕ) (test : Bool) → nat_lt limit n ≡ test → (picked test limit n ≤ limit) × ((k : ℕ) → k ≤ limit → k ≤ n → k ≤ picked test limit n)
limited_so limit n true e = (omega arith, λ k h h'. h)
limited_so limit n false e = (grind (arith, nat_tests), λ k h h'. h')

-- its flow has 256 variables at most
pub few_variables : (n : ℕ) (body : Statements) → variables_in n body ≤ 256
few_variables n body = (limited_so 256 (n + all_declared body) (nat_lt 256 (n + all_declared body)) refl).0

-- and one for each parameter
pub for_parameters : (n : ℕ) (body : Statements) → n ≤ 16 → n ≤ variables_in n body
for_parameters n body few = (limited_so 256 (n + all_declared body) (nat_lt 256 (n + all_declared body)) refl).1 n (omega arith) (omega arith)

-- what is known where its body begins
pub entered : (f : Signature) (ps : List code_prototype.TypedParameter.TypedParameter) (body : Statements) (n : ℕ) (g mid with_locals with_bounds_too new : Scope) → n ≡ variables_in (length ps) body
    → mid ≡ record g { locals = []; arrays = []; visible = []; result = f.result; result_bounds = None; in_loop = false; outside = 0; flow = at_entry n; breaks = None; continues = None } → with_locals ≡ with_parameters (map parameter ps) mid
    → with_bounds_too ≡ knowing (with_bounds 0 (map parameter ps) with_locals.flow) with_locals → new ≡ record with_bounds_too { result_bounds = bounds_in f.result_bounds } → new ≡ inside f (map parameter ps) body g
entered f ps body n g mid with_locals with_bounds_too new count start added bounded is =
    let all : n ≡ variables_in (length (map parameter ps)) body = count ∙ ap (λ (k : ℕ). variables_in k body) (sym (length-map ps parameter)) in
    is
    ∙ ap (λ (h : Scope). record h { result_bounds = bounds_in f.result_bounds }) bounded
    ∙ ap (λ (h : Scope). record (knowing (with_bounds 0 (map parameter ps) h.flow) h) { result_bounds = bounds_in f.result_bounds })
    (added ∙ ap (with_parameters (map parameter ps)) (start ∙ ap (λ (k : ℕ). record g { locals = []; arrays = []; visible = []; result = f.result; result_bounds = None; in_loop = false; outside = 0; flow = at_entry k; breaks = None; continues = None }) all))

-- ---- a function is left

-- parameters are added to the locals alone
pub record Added (g h : Scope) : Type 0 where
  pub types : List CType
  pub names : List Visible
  pub flow : Knowledge
  pub same : h ≡ record g { locals = types; visible = names; flow = flow }

parameters_added : (ps : List Parameter) (g : Scope) → Added g (with_parameters ps g)
parameters_added [] g = record { types = g.locals; names = g.visible; flow = g.flow; same = refl }
parameters_added (p ∷ ps) g = let rest = parameters_added ps (with_local p.name p.type None g) in record { types = rest.types; names = rest.names; flow = rest.flow; same = rest.same }

-- a scope in which no function is walked
abbrev pub left_scope : Scope → Scope
left_scope g = record g { locals = []; arrays = []; visible = []; result = None; result_bounds = None; in_loop = false; outside = 0; flow = at_entry 0; breaks = None; continues = None }

-- what was known before a function is known behind it
pub left_function : (f : Signature) (ps : List Parameter) (body : Statements) (old entered walked new : code.Scope.Scope) → Outside (scope old) → scope entered ≡ inside f ps body (scope old) → Grows entered walked → scope new ≡ left_scope (scope walked) → scope new ≡ scope old
left_function f ps body old entered walked new outside inside_is grows known =
    let start : Scope = record (scope old) { locals = []; arrays = []; visible = []; result = f.result; result_bounds = None; in_loop = false; outside = 0; flow = at_entry (variables_in (length ps) body); breaks = None; continues = None } in
    let added = parameters_added ps start in
    known
    ∙ ap left_scope (grows.file ∙ ap (λ (g : Scope). record g { locals = grows.types; arrays = grows.arrays; visible = grows.names; in_loop = grows.loop; outside = grows.outside; flow = grows.flow; breaks = grows.breaks; continues = grows.continues }) (inside_is ∙ ap (λ (h : Scope). record (knowing (with_bounds 0 ps (with_parameters ps start).flow) h) { result_bounds = bounds_in f.result_bounds }) added.same))
    ∙ sym outside

-- the core of a function whose statements break no rule
pub body_built : (at : Places) (f : Signature) (ps : List Parameter) (body : Statements) (xs : core.Statements) (b : core.Function) (old entered walked new : code.Scope.Scope) → scope entered ≡ inside f ps body (scope old) → scope new ≡ scope old
    → statements at (scope entered) body ≡ Passes (xs, scope walked) → b ≡ core_function f ps xs (scope walked) → body_core at (scope old) f ps body ≡ Passes (b, scope new)
body_built at f ps body xs b old entered walked new inside_is same passes b_is =
    ap (λ g. passing (statements at g body) (λ x. Passes (core_function f ps x.0 x.1, scope old))) (sym inside_is) ∙ rw (passes, same, b_is) refl

-- a body whose strings are known, behind which its function is left
pub function_body_parts : (at : Places) (w : Walk) (f : Signature) (ps : List Parameter) (b : i.Body) (v : Walk) → v ≡ record w { scope = body_scope w b }
    → function_body at w f ps (Some b) ≡ passing (body_core at v.scope f ps b.statements) (λ x. needs (not (is_unchecked b.mark || w.scope.is_off)) E15 b.span (Passes (record v { bodies = v.bodies ++ record { name = f.name; function = x.0 } ∷ [] })))
function_body_parts at w f ps b v known =
    sym (in_parts (statements at (inside f ps b.statements (body_scope w b)) b.statements) (λ x. Passes (core_function f ps x.0 x.1, body_scope w b)) (behind (record w { scope = body_scope w b })))
    ∙ ap (λ (u : Walk). passing (body_core at u.scope f ps b.statements) (behind u)) (sym known)
  where
    behind : Walk → core.Function × Scope → Verdict Walk
    behind u x = needs (not (is_unchecked b.mark || w.scope.is_off)) E15 b.span (Passes (record u { bodies = u.bodies ++ record { name = f.name; function = x.0 } ∷ [] }))

-- ---- a declaration, its body, and its rules

declared_on : {B : Type 0} (v : Verdict (Option CType)) (w : Verdict (List Parameter)) (u : Option CType → Verdict WrittenBounds) (of : Option CType → List Parameter → WrittenBounds → Signature) (next : Signature × List Parameter → Verdict B)
    → passing v (λ r. passing w (λ ps. passing (u r) (λ b. next (of r ps b, ps)))) ≡ passing (passing v (λ r. passing (passing {B = List Parameter × WrittenBounds} w (λ ps. passing (u r) (λ b. Passes (ps, b)))) (λ h. Passes (of r h.0 h.1, h.0)))) next
declared_on (Stops stop) w u of next = refl
declared_on (Passes r) (Stops stop) u of next = refl
declared_on (Passes r) (Passes ps) u of next = by (u r)
  where
    by : (o : Verdict WrittenBounds) → passing o (λ b. next (of r ps b, ps)) ≡ passing (passing (passing {B = List Parameter × WrittenBounds} o (λ b. Passes (ps, b))) (λ h. Passes (of r h.0 h.1, h.0))) next
    by (Passes b) = refl
    by (Stops stop) = refl

rules_parts : (fits body : Bool) (changed : Option Span) (marked on : Bool) (span : Span) (w : Walk)
    → needs fits E13 span (needs body E10 span (without_change changed (needs marked E15 span (needs on E15 span (Passes w))))) ≡ passing (needs fits E13 span (needs body E10 span (without_change changed (needs marked E15 span (needs on E15 span (Passes tt)))))) (λ (x : Unit {0}). Passes w)
rules_parts false body changed marked on span w = refl
rules_parts true false changed marked on span w = refl
rules_parts true true (Some at) marked on span w = refl
rules_parts true true None false on span w = refl
rules_parts true true None true false span w = refl
rules_parts true true None true true span w = refl

-- where a declared function changes what the bounds of its result name
abbrev pub declared_changed : Scope → i.Function → ℕ → Signature × List Parameter → Option Span
declared_changed g d name x = first_changed_in (with_function (function_named g.functions name) x.0 g) x.0 x.1 d.body

-- whether its declaration agrees with the first one, and has scalars
abbrev pub declared_fits : Scope → ℕ → Signature × List Parameter → Bool
declared_fits g name x = agrees (function_named g.functions name) x.0 && (all_scalar x.0.parameters && scalar_result x.0.result)

-- a function by its declaration, its body and its rules
pub function_parts : (at : Places) (all : List Item) (w : Walk) (d : i.Function)
    → function at all w d
    ≡ needs (is_some (function_named w.scope.functions d.name.number) || nat_lt (length w.scope.functions) 4096) E08 d.span
    (passing (declared_function w.scope d) (λ x. passing (function_body at (record w { scope = with_function (function_named w.scope.functions d.name.number) x.0 w.scope }) x.0 x.1 d.body)
    (λ v. passing (kept_rules all d (declared_fits w.scope d.name.number x) (declared_changed w.scope d d.name.number x) v.scope) (λ u. Passes v))))
function_parts at all w d =
    let known = function_named w.scope.functions d.name.number in
    let here = λ (x : Signature × List Parameter). function_body at (record w { scope = with_function known x.0 w.scope }) x.0 x.1 d.body in
    let asked = λ (x : Signature × List Parameter) (v : Walk). function_rules all d x.0 known (declared_changed w.scope d d.name.number x) v in
    let kept = λ (x : Signature × List Parameter) (v : Walk). passing (kept_rules all d (declared_fits w.scope d.name.number x) (declared_changed w.scope d d.name.number x) v.scope) (λ u. Passes v) in
    ap (λ v. needs (is_some known || nat_lt (length w.scope.functions) 4096) E08 d.span v)
    (declared_on (result_type w.scope d.result d.stars) (parameter_types w.scope (listed d.parameters) (listed d.parameters) []) (λ r. bounds_of_result w.scope (listed d.parameters) r d.bounds) (λ r ps b. signature_of d r ps b) (λ x. passing (here x) (asked x))
    ∙ same_behind (declared_function w.scope d) (λ x. passing (here x) (asked x)) (λ x. passing (here x) (kept x))
    (λ x. same_behind (here x) (asked x) (kept x)
    (λ v. rules_parts (declared_fits w.scope d.name.number x) (picked (is_tainted d.kind) true (is_defined all d.name.number)) (declared_changed w.scope d d.name.number x) (not (is_unchecked d.mark)) (not v.scope.is_off) d.span v)))

named_so : (v : Verdict (Option CType)) (w : Option CType → Verdict (List Parameter × WrittenBounds)) (of : Option CType → List Parameter → WrittenBounds → Signature) (name : ℕ) (x : Signature × List Parameter)
    → ((r : Option CType) (ps : List Parameter) (b : WrittenBounds) → (of r ps b).name ≡ name) → passing v (λ r. passing (w r) (λ h. Passes (of r h.0 h.1, h.0))) ≡ Passes x → x.0.name ≡ name
named_so (Stops stop) w of name x named is = absurd (cc)
named_so (Passes r) w of name x named is = by (w r) is
  where
    by : (o : Verdict (List Parameter × WrittenBounds)) → passing {B = Signature × List Parameter} o (λ h. Passes (of r h.0 h.1, h.0)) ≡ Passes x → x.0.name ≡ name
    by (Stops stop) same = absurd (cc)
    by (Passes h) same = let both : (of r h.0 h.1, h.0) ≡ x = cc in ap (λ (y : Signature × List Parameter). y.0.name) (sym both) ∙ named r h.0 h.1

-- a declared function has the name that is written
pub declared_name : (g : Scope) (d : i.Function) (x : Signature × List Parameter) → declared_function g d ≡ Passes x → x.0.name ≡ d.name.number
declared_name g d x is = named_so (result_type g d.result d.stars) (λ r. heading_of g (listed d.parameters) r d.bounds) (λ r ps b. signature_of d r ps b) d.name.number x (λ r ps b. refl) is

-- a body in which a rule is broken
broken_body : (at : Places) (f : Signature) (ps : List Parameter) (body : Statements) (g : Scope) (h : Scope) (stop : Stop) → h ≡ inside f ps body g → statements at h body ≡ Stops stop → body_core at g f ps body ≡ Stops stop
broken_body at f ps body g h stop is breaks = ap (λ k. passing (statements at k body) (λ x. Passes (core_function f ps x.0 x.1, g))) (sym is) ∙ rw breaks refl

body_refused_so : {C D : Type 0} (view : C → core.Statements) (view' : D → core.Function × Scope) (at : Places) (f : Signature) (ps : List Parameter) (body : Statements) (old entered mid : code.Scope.Scope) (e : CheckError) → scope entered ≡ inside f ps body (scope old) → Walks view (statements at (scope entered) body) entered (Err e) mid → Answers view' (body_core at (scope old) f ps body) (Err e)
body_refused_so view view' at f ps body old entered mid (Source fault) is first = record { so = broken_body at f ps body (scope old) (scope entered) (Broken fault) is first.so }
body_refused_so view view' at f ps body old entered mid Unnamed is first = record { so = broken_body at f ps body (scope old) (scope entered) Nameless is first.so }
body_refused_so view view' at f ps body old entered mid NoMemory is first = record { so = tt }

pub body_refused : {C D : Type 0} {view : C → core.Statements} {view' : D → core.Function × Scope} {mid : code.Scope.Scope} {e : CheckError} (at : Places) (f : Signature) (ps : List Parameter) (body : Statements) (old entered : code.Scope.Scope) (r : Result D CheckError) → scope entered ≡ inside f ps body (scope old) → IsErrAnd r (λ y. y ≡ e) → Walks view (statements at (scope entered) body) entered (Err e) mid → Answers view' (body_core at (scope old) f ps body) r
body_refused {view = view} {view' = view'} {mid = mid} {e = e} at f ps body old entered r is err first =
    let p = err_from_is_err_and r err in
    rw (p.1, p.2) (body_refused_so view view' at f ps body old entered mid e is first)

-- the core of a function, as it is put together
pub core_built : (f heading : code_signature.Signature) (ps : List code_prototype.TypedParameter.TypedParameter) (n : ℕ) → n ≡ length ps → (locals : List code_type.CType) (g : Scope) → map ctype locals ≡ g.locals → (xs : List Stmt) (c : code_function.Function) → signature heading ≡ signature f → core.function c ≡ record { name = heading.text; parameters = n; locals = map ctype locals; result = option_map ctype heading.result; body = core.statements_of xs }
    → core.function c ≡ core_function (signature f) (map parameter ps) (core.statements_of xs) g
core_built f heading ps n count locals g are xs c same is =
    is
    ∙ ap (λ (s : Signature). record { name = s.text; parameters = n; locals = map ctype locals; result = s.result; body = core.statements_of xs }) same
    ∙ ap (λ ts. record { name = f.text; parameters = n; locals = ts; result = option_map ctype f.result; body = core.statements_of xs }) are
    ∙ ap (λ k. record { name = f.text; parameters = k; locals = g.locals; result = option_map ctype f.result; body = core.statements_of xs }) (count ∙ sym (length-map ps parameter))

-- ---- parameters as locals

pub parameter_added : (ps : List code_prototype.TypedParameter.TypedParameter) (k : ℕ) (p : code_prototype.TypedParameter.TypedParameter) (g h : Scope) → k < length ps → p ≡ get_or ps k p → h ≡ with_local p.name (ctype p.ctype) None g → with_parameters (map parameter (drop k ps)) g ≡ with_parameters (map parameter (drop (k + 1) ps)) h
parameter_added ps k p g h less is known = ap (λ qs. with_parameters qs g) (parts_at parameter ps k p less is) ∙ ap (λ j. with_parameters (map parameter (drop (k + 1) ps)) j) (sym known)

pub parameters_all : (ps : List code_prototype.TypedParameter.TypedParameter) (k : ℕ) (g : Scope) → length ps ≤ k → with_parameters (map parameter (drop k ps)) g ≡ g
parameters_all ps k g end = ap (λ qs. with_parameters qs g) (no_parts parameter ps k end)

pub local_counted : (p : Parameter) (a b : code.Scope.Scope) (k : ℕ) → scope b ≡ with_local p.name p.type None (scope a) → length a.locals.items ≡ k → length b.locals.items ≡ k + 1
local_counted p a b k known count =
    sym (length-map b.locals.items ctype) ∙ ap (λ (g : Scope). length g.locals) known ∙ length-append (map ctype a.locals.items) (p.type ∷ []) ∙ ap (λ n. n + 1) (length-map a.locals.items ctype ∙ count)

-- ---- a body more

scope_of_core : (v : Verdict (core.Statements × Scope)) (f : Signature) (ps : List Parameter) (g : Scope) (b : core.Function) (h : Scope) → passing {B = core.Function × Scope} v (λ x. Passes (core_function f ps x.0 x.1, g)) ≡ Passes (b, h) → h ≡ g
scope_of_core (Passes x) f ps g b h is = let same : (core_function f ps x.0 x.1, g) ≡ (b, h) = cc in sym (ap (λ (p : core.Function × Scope). p.1) same)
scope_of_core (Stops stop) f ps g b h is = absurd (cc)

pub scope_kept : (at : Places) (g : Scope) (f : Signature) (ps : List Parameter) (body : Statements) (b : core.Function) (h : Scope) → body_core at g f ps body ≡ Passes (b, h) → h ≡ g
scope_kept at g f ps body b h is = scope_of_core (statements at (inside f ps body g) body) f ps g b h is

pub bodies_more : (w : Walk) (g : Scope) (bs new : List code_walk.Defined.Defined) (b : code_walk.Defined.Defined) → g ≡ w.scope → new ≡ bs ++ b ∷ [] → ◌≡◌ {A = Verdict Walk} (Passes (record w { bodies = map defined bs ++ defined b ∷ [] })) (Passes (record w { scope = g; bodies = map defined new }))
bodies_more w g bs new b same are =
    ap (λ ys. Passes (record w { bodies = ys })) (sym (ap (map defined) are ∙ map-append defined bs (b ∷ []))) ∙ ap (λ h. Passes (record w { scope = h; bodies = map defined new })) (sym same)

-- ---- a function, step by step

kept_last_so : {B : Type 0} (new : B) (v : Verdict (Unit {0})) (r : Result (Unit {0}) CheckError) → Answers {C = Unit {0}} (λ x. x) v r → answers_so {C = Unit {0}} (λ u. new) (passing v (λ u. Passes new)) r
kept_last_so new v (Ok u) first = rw first.so refl
kept_last_so new v (Err (Source fault)) first = rw first.so refl
kept_last_so new v (Err Unnamed) first = rw first.so refl
kept_last_so new v (Err NoMemory) first = tt

pub kept_last : {B : Type 0} (new : B) (v : Verdict (Unit {0})) (r : Result (Unit {0}) CheckError) → Answers {C = Unit {0}} (λ x. x) v r → Answers {C = Unit {0}} (λ u. new) (passing v (λ u. Passes new)) r
kept_last new v r first = record { so = kept_last_so new v r first }

-- neither a function nor its region is unchecked
pub checked_once : (unchecked off : Bool) (span : Span) → needs {A = Unit {0}} (not unchecked) E15 span (needs (not off) E15 span (Passes tt)) ≡ needs {A = Unit {0}} (not (unchecked || off)) E15 span (Passes tt)
checked_once true off span = refl
checked_once false off span = refl

-- behind a declaration, by the name that is written
pub function_walk : {new : Walk} {r : Result (Unit {0}) CheckError} (at : Places) (all : List Item) (w : Walk) (d : i.Function) (x : Signature × List Parameter) → declared_function w.scope d ≡ Passes x → Answers {C = Unit {0}} (λ u. new) (behind_declaration at all w d x) r
    → Answers {C = Unit {0}} (λ u. new) (passing (declared_function w.scope d) (λ y. passing (function_body at (record w { scope = with_function (function_named w.scope.functions d.name.number) y.0 w.scope }) y.0 y.1 d.body) (λ v. passing (kept_rules all d (declared_fits w.scope d.name.number y) (declared_changed w.scope d d.name.number y) v.scope) (λ u. Passes v)))) r
function_walk {new = new} {r = r} at all w d x first rest =
    let named = declared_name w.scope d x first in
    rw first
    (subst (λ name. Answers {C = Unit {0}} (λ u. new) (passing (function_body at (record w { scope = with_function (function_named w.scope.functions name) x.0 w.scope }) x.0 x.1 d.body) (λ v. passing (kept_rules all d (declared_fits w.scope name x) (declared_changed w.scope d name x) v.scope) (λ u. Passes v))) r) named rest)

-- the scope behind a declaration, and what its body changes
pub behind_scope : {new : Walk} {r : Result (Unit {0}) CheckError} (at : Places) (all : List Item) (w : Walk) (d : i.Function) (x : Signature × List Parameter) (mid : Scope) → mid ≡ with_function (function_named w.scope.functions x.0.name) x.0 w.scope
    → Answers {C = Unit {0}} (λ u. new) (passing (function_body at (record w { scope = mid }) x.0 x.1 d.body) (λ v. passing (kept_rules all d (declared_fits w.scope x.0.name x) (first_changed_in mid x.0 x.1 d.body) v.scope) (λ u. Passes v))) r
    → Answers {C = Unit {0}} (λ u. new) (behind_declaration at all w d x) r
behind_scope {new = new} {r = r} at all w d x mid known rest =
    subst (λ (g : Scope). Answers {C = Unit {0}} (λ u. new) (passing (function_body at (record w { scope = g }) x.0 x.1 d.body) (λ v. passing (kept_rules all d (declared_fits w.scope x.0.name x) (first_changed_in g x.0 x.1 d.body) v.scope) (λ u. Passes v))) r) known rest

pub room_left : (o : Option Signature) (b : Bool) → (is_some o || b) ≡ true → o ≡ None → b ≡ true
room_left None b some none = some
room_left (Some f) b some none = absurd (cc)
