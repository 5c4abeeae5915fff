-- What stays of a scope behind a statement, and what is added to it.
use Rattle.std.proofs.Common.{◌≡◌, ℕ, ◌<◌, ◌≤◌, ◌++◌, Bool, true, false, List, [], ◌∷◌, length, Option, Some, None, refl, sym, ◌∙◌, subst, arith}
use Rattle.std.specs.Prelude.{◌==◌, slice_get, nat_lt, not, ◌||◌}
use Rattle.std.specs.List.{AllByRecursion}
use Rattle.std.proofs.lemmas.Bool.{ltb-true}
use Rattle.std.proofs.lemmas.List.{length-append}
use Rattle.ckc_text.specs.declared.place.Span.{Span}
use Rattle.ckc_text.specs.declared.code.Code.TheVariants.{E08, E13, E15, E30, E21}
use Rattle.ckc_tree.specs.Types.{TypeTree, type_span}
use Rattle.ckc_tree.specs.Statements as s
use Rattle.ckc_tree.specs.Statements.{Assignment, Declarator, Declaration, ForInitial, Statement, Statements}
use Rattle.pointer_modes.specs.Types.{CType, Member, Structure, members_of}
use Rattle.ckc_core.specs.Core as core
use Rattle.region_typing_rules.specs.Verdicts.{Verdict, Passes, Stops, passing}
use Rattle.region_typing_rules.specs.Scopes.{Scope, Signature, FileVariable, function_named}
use Rattle.region_typing_rules.specs.Types.{is_scalar, base_type}
use Rattle.region_typing_rules.specs.Operands.{Places, site_at}
use Rattle.region_typing_rules.specs.Calls.{is_import, side_number}
use Rattle.region_typing_rules.specs.Expressions.{call_typed}
use Rattle.bounds_flow.specs.Flows.{Knowledge, cut_off, in_bundle}
use Rattle.bounds_exprs.specs.declared.term.Bounds.{Bounds}
use Rattle.region_typing_rules.specs.DeclaredBounds.{declared_bounds, row_of}
use Rattle.region_typing_rules.specs.Readings.{told}
use Rattle.region_typing_rules.specs.Knowing.{assigned_by, settling, knowing, when, cut, broken, continued, at_loop}
use Rattle.region_typing_rules.specs.Cells.{is_length}
use Rattle.region_typing_rules.specs.Statements.{Walked, both, assignment, assigning, initialised, zero_value, with_local, first_value, declared, bounded_local, declarator, declarators, declaration, behind_block, behind_branch, at_alternative, behind_both, behind_loop, before_step, in_loop, is_unchecked, condition, optional_condition, optional_step, first_part, return, statement, statements, with_array, before_end, row_type, first_length, assignments, bundle, are_locals}
use Rattle.region_typing_rules.specs.Typed.{Frame, IsScalar}
use Rattle.region_typing_rules.proofs.Verdicts.{Promises, passing_promises, needs_promises, anything_promised, later_promises, Extends, extends_append}
use Rattle.region_typing_rules.proofs.Known.{IsKnown, IsClosed, base_known}
use Rattle.region_typing_rules.proofs.Knowledge.{HoldsTexts, IsTrusted, IsTainted, IsVariable, KnowsFile}
use Rattle.region_typing_rules.proofs.FlowSizes.{told_size, assigned_size, settling_size, outside_size, others_size}
use Rattle.region_typing_rules.proofs.Memory.{may_lead}
use Rattle.region_typing_rules.proofs.LocalArrays.{memory_of, settled_array, declarator_promises}
use Rattle.region_typing_rules.proofs.Assigning.{assignments_promise}

-- what stands at file level stays, and so do the result and the loop; locals are added, which are scalars
pub record Grows (before after : Scope) : Type 0 where
  pub tags : before.tags ≡ after.tags
  pub structs : before.structs ≡ after.structs
  pub functions : before.functions ≡ after.functions
  pub variables : before.variables ≡ after.variables
  pub strings : before.strings ≡ after.strings
  pub result : before.result ≡ after.result
  pub asked : before.result_bounds ≡ after.result_bounds
  pub loop : before.in_loop ≡ after.in_loop
  pub locals : Extends before.locals after.locals
  pub scalars : AllByRecursion IsScalar before.locals → AllByRecursion IsScalar after.locals
  pub size : before.flow.vars ≡ after.flow.vars
  pub few : length before.locals ≤ before.flow.vars → length after.locals ≤ after.flow.vars
  pub closed : IsClosed before → IsClosed after

pub stays : (g : Scope) → Grows g g
stays g = record { tags = refl; structs = refl; functions = refl; variables = refl; strings = refl; result = refl; asked = refl; loop = refl; locals = λ k x h. h; scalars = λ h. h; size = refl; few = λ h. h; closed = λ h. h }

pub grows_further : (a b c : Scope) → Grows a b → Grows b c → Grows a c
grows_further a b c h h' = record {
  tags = h.tags ∙ h'.tags;
  structs = h.structs ∙ h'.structs;
  functions = h.functions ∙ h'.functions;
  variables = h.variables ∙ h'.variables;
  strings = h.strings ∙ h'.strings;
  result = h.result ∙ h'.result;
  asked = h.asked ∙ h'.asked;
  loop = h.loop ∙ h'.loop;
  locals = λ k x e. h'.locals k x (h.locals k x e);
  scalars = λ all. h'.scalars (h.scalars all);
  size = h.size ∙ h'.size;
  few = λ n. h'.few (h.few n);
  closed = λ c. h'.closed (h.closed c);
}

-- where something else is known of as many variables
pub knowing_grows : (f : Knowledge) (g : Scope) → f.vars ≡ g.flow.vars → Grows g (knowing f g)
knowing_grows f g e = record { tags = refl; structs = refl; functions = refl; variables = refl; strings = refl; result = refl; asked = refl; loop = refl; locals = λ k x h. h; scalars = λ h. h; size = sym e; few = λ h. subst (λ n. length g.locals ≤ n) (sym e) h; closed = λ h. h }

-- behind something that grew, where something else is known
pub knows_further : (f : Knowledge) (g h : Scope) → f.vars ≡ g.flow.vars → Grows g h → Grows g (knowing f h)
knows_further f g h e grown = grows_further g h (knowing f h) grown (knowing_grows f h (e ∙ grown.size))

-- from a scope in which something else is known
pub grows_from : (f : Knowledge) (g h : Scope) → f.vars ≡ g.flow.vars → Grows (knowing f g) h → Grows g h
grows_from f g h e grown = grows_further g (knowing f g) h (knowing_grows f g e) grown

pub when_grows : (c : core.Expression) (truth : Bool) (g : Scope) → Grows g (when c truth g)
when_grows c truth g = knowing_grows (told g.locals c truth g.flow) g (told_size g.locals c truth g.flow)

pub cut_grows : (g : Scope) → Grows g (cut g)
cut_grows g = knowing_grows (cut_off g.flow) g refl

pub broken_grows : (g : Scope) → Grows g (broken g)
broken_grows g = record { tags = refl; structs = refl; functions = refl; variables = refl; strings = refl; result = refl; asked = refl; loop = refl; locals = λ k x h. h; scalars = λ h. h; size = refl; few = λ h. h; closed = λ h. h }

pub continued_grows : (g : Scope) → Grows g (continued g)
continued_grows g = record { tags = refl; structs = refl; functions = refl; variables = refl; strings = refl; result = refl; asked = refl; loop = refl; locals = λ k x h. h; scalars = λ h. h; size = refl; few = λ h. h; closed = λ h. h }

pub head_grows : (body : Statement) (step : Option Assignment) (g : Scope) → Grows g (at_loop body step g)
head_grows body step g = record { tags = refl; structs = refl; functions = refl; variables = refl; strings = refl; result = refl; asked = refl; loop = refl; locals = λ k x h. h; scalars = λ h. h; size = refl; few = λ h. h; closed = λ h. h }

-- what is known of the file is known behind it
pub file_known : (g : Frame) (a b : Scope) → Grows a b → KnowsFile g a → KnowsFile g b
file_known g a b h k =
    record {
      structs = subst (λ x. Extends x g.structs) h.structs k.structs;
      closed = h.closed k.closed;
      few_members = subst (λ x. (n : ℕ) → length (members_of x n) ≤ 64) h.structs k.few_members;
      scalar_members = subst (λ x. (n : ℕ) → AllByRecursion (λ (m : Member). IsScalar m.ctype) (members_of x n)) h.structs k.scalar_members;
      variables = subst (λ vs. (n : ℕ) (v : FileVariable) → slice_get vs n ≡ Some v → IsVariable g v v.length n) h.variables k.variables;
      texts = subst (HoldsTexts g) h.strings k.texts;
      trusted = subst (λ fs. (name : ℕ) (f : Signature) → function_named fs name ≡ Some f → is_import f ≡ false → IsTrusted g (side_number false fs f.name 0) f) h.functions k.trusted;
      tainted = subst (λ fs. (name : ℕ) (f : Signature) → function_named fs name ≡ Some f → is_import f ≡ true → IsTainted g (side_number true fs f.name 0) f) h.functions k.tainted;
    }

-- ---- locals

scalars_append : (ts : List CType) (t : CType) → IsScalar t → AllByRecursion IsScalar ts → AllByRecursion IsScalar (ts ++ t ∷ [])
scalars_append [] t h all = (h, tt)
scalars_append (u ∷ ts) t h all = (all.0, scalars_append ts t h all.1)

known_append : (structs : List Structure) (ts : List CType) (t : CType) → IsKnown structs t → AllByRecursion (IsKnown structs) ts → AllByRecursion (IsKnown structs) (ts ++ t ∷ [])
known_append structs [] t h all = (h, tt)
known_append structs (u ∷ ts) t h all = (all.0, known_append structs ts t h all.1)

pub local_closed : (name : ℕ) (t : CType) (b : Option Bounds) (g : Scope) → IsKnown g.structs t → IsClosed g → IsClosed (with_local name t b g)
local_closed name t b g h c = record { tagged = c.tagged; of_members = c.of_members; of_functions = c.of_functions; of_results = c.of_results; of_variables = c.of_variables; of_locals = known_append g.structs g.locals t h c.of_locals }

-- a type that a scope knows, where each of its tags has a struct
abbrev pub IsNamedIn : Scope → CType → Type 0
IsNamedIn g t = length g.tags ≤ length g.structs → IsKnown g.structs t

pub named_further : (a b : Scope) (t : CType) → Grows a b → IsNamedIn a t → IsNamedIn b t
named_further a b t h named few =
    let before : length a.tags ≤ length a.structs = rw (h.tags, h.structs) few in
    subst (λ x. IsKnown x t) h.structs (named before)

pub local_grows : (name : ℕ) (t : CType) (b : Option Bounds) (g : Scope) → IsScalar t → length g.locals < g.flow.vars → IsNamedIn g t → Grows g (with_local name t b g)
local_grows name t b g h low named = record { size = refl; tags = refl; structs = refl; functions = refl; variables = refl; strings = refl; result = refl; asked = refl; loop = refl; locals = extends_append g.locals (t ∷ []); scalars = scalars_append g.locals t h; few = λ n. omega (arith, length-append g.locals (t ∷ [])); closed = λ c. local_closed name t b g (named c.tagged) c }

-- whichever of its locals are arrays
pub closed_arrays : (arrays : List ℕ) (g : Scope) → IsClosed g → IsClosed (record g { arrays = arrays })
closed_arrays arrays g c = record { tagged = c.tagged; of_members = c.of_members; of_functions = c.of_functions; of_results = c.of_results; of_variables = c.of_variables; of_locals = c.of_locals }

arrays_grow : (arrays : List ℕ) (g h : Scope) → Grows g h → Grows g (record h { arrays = arrays })
arrays_grow arrays g h grown = record { tags = grown.tags; structs = grown.structs; functions = grown.functions; variables = grown.variables; strings = grown.strings; result = grown.result; asked = grown.asked; loop = grown.loop; locals = grown.locals; scalars = grown.scalars; size = grown.size; few = grown.few; closed = λ c. closed_arrays arrays h (grown.closed c) }

-- behind a block
pub block_grows : (g inside : Scope) → Grows g inside → Grows g (behind_block g inside)
block_grows g inside h =
    let size = outside_size (length g.locals) inside inside.flow in
    record { tags = h.tags; structs = h.structs; functions = h.functions; variables = h.variables; strings = h.strings; result = h.result; asked = h.asked; loop = refl; locals = h.locals; scalars = h.scalars; size = h.size ∙ sym size; few = λ n. subst (λ v. length inside.locals ≤ v) (sym size) (h.few n); closed = h.closed }

-- behind the body of a loop, which isn't in it
pub loop_grows : (g inside : Scope) → Grows (in_loop g) inside → Grows g (behind_block g inside)
loop_grows g inside h =
    let size = outside_size (length g.locals) inside inside.flow in
    record { tags = h.tags; structs = h.structs; functions = h.functions; variables = h.variables; strings = h.strings; result = h.result; asked = h.asked; loop = refl; locals = h.locals; scalars = h.scalars; size = h.size ∙ sym size; few = λ n. subst (λ v. length inside.locals ≤ v) (sym size) (h.few n); closed = h.closed }

-- behind branches
pub branch_grows : (g : Scope) (c : core.Expression) (inside : Scope) → Grows (when c true g) inside → Grows g (behind_branch g c inside)
branch_grows g c inside h =
    let grown = block_grows g inside (grows_further g (when c true g) inside (when_grows c true g) h) in
    knows_further _ g (behind_block g inside) (told_size g.locals c false g.flow) grown

pub alternative_grows : (g : Scope) (c : core.Expression) (inside : Scope) → Grows (when c true g) inside → Grows g (at_alternative g c inside)
alternative_grows g c inside h =
    let grown = block_grows g inside (grows_further g (when c true g) inside (when_grows c true g) h) in
    knows_further (told g.locals c false g.flow) g (behind_block g inside) (told_size g.locals c false g.flow) grown

pub both_grow : (g first second : Scope) → Grows g first → Grows (behind_block g first) second → Grows g (behind_both g first second)
both_grow g first second h h' =
    let between = behind_block g first in
    let more = block_grows g first h in
    let last = behind_block between second in
    knows_further (behind_both g first second).flow g last (sym more.size) (grows_further g between last more (block_grows between second h'))

-- behind a loop whose body and head grew, and before its step
pub turns_grow : (g : Scope) (body : Statement) (step : Option Assignment) (c : core.Expression) (inside : Scope) → Grows (in_loop (when c true (at_loop body step g))) inside → Grows g (behind_block g inside)
turns_grow g body step c inside h =
    let head = at_loop body step g in
    let grown = loop_grows (when c true head) inside h in
    let whole = grows_further g head _ (head_grows body step g) (grows_further head (when c true head) _ (when_grows c true head) grown) in
    record { tags = whole.tags; structs = whole.structs; functions = whole.functions; variables = whole.variables; strings = whole.strings; result = whole.result; asked = whole.asked; loop = refl; locals = whole.locals; scalars = whole.scalars; size = whole.size; few = whole.few; closed = whole.closed }

pub behind_grows : (g : Scope) (body : Statement) (step : Option Assignment) (c : core.Expression) (inside : Scope) → Grows g inside → Grows g (behind_loop g (at_loop body step g) c inside)
behind_grows g body step c inside h =
    let head = at_loop body step g in
    let size = others_size inside.breaks (told g.locals c false head.flow) ∙ told_size g.locals c false head.flow in
    record { tags = h.tags; structs = h.structs; functions = h.functions; variables = h.variables; strings = h.strings; result = h.result; asked = h.asked; loop = refl; locals = h.locals; scalars = h.scalars; size = sym size; few = λ n. subst (λ v. length inside.locals ≤ v) (sym h.size ∙ sym size) (h.few n); closed = h.closed }

pub step_grows : (g : Scope) (body : Statement) (step : Option Assignment) (c : core.Expression) (inside : Scope) → Grows (in_loop (when c true (at_loop body step g))) inside → Grows g (before_step g inside)
step_grows g body step c inside h =
    let whole = turns_grow g body step c inside h in
    knows_further _ g (behind_block g inside) (others_size inside.continues (behind_block g inside).flow ∙ sym whole.size) whole

abbrev pub GrowsTo : {A : Type 0} → Scope → A × Scope → Type 0
GrowsTo g w = Grows g w.1

-- behind a settling
settled_grows : (g : Scope) (x : core.Statement) (f : Knowledge) (span : Span) → f.vars ≡ g.flow.vars → Promises (GrowsTo {A = core.Statement} g) (passing (settling f span) (λ k. Passes (x, knowing k g)))
settled_grows g x f span e =
    passing_promises (λ (k : Knowledge). k.vars ≡ f.vars) (GrowsTo {A = core.Statement} g) (settling f span) _ (settling_size f span) (λ k size. knowing_grows k g (size ∙ e))

pub assigning_grows : (at : Places) (g : Scope) (a : s.Assignment) → Promises (GrowsTo {A = core.Statement} g) (assigning at g a)
assigning_grows at g a =
    passing_promises (λ (x : core.Statement). Unit {0}) (GrowsTo {A = core.Statement} g) (assignment at g a) _ (anything_promised (assignment at g a))
    (λ x _. settled_grows g x (assigned_by g.locals x g.flow) (s.assignment_span a) (assigned_size g.locals x g.flow))

bundle_grows : (at : Places) (g : Scope) (written : List s.Assignment) (span : Span) → Promises (GrowsTo {A = core.Statement} g) (bundle at g written span)
bundle_grows at g written span =
    passing_promises (λ (w : core.Statements × Knowledge). w.1.vars ≡ g.flow.vars) (GrowsTo {A = core.Statement} g) (assignments at (knowing (in_bundle g.flow) g) written) _
    (assignments_promise (λ f a x. Unit {0}) (λ f written w. w.1.vars ≡ f.vars) at g (λ f a. anything_promised (assignment at (knowing f g) a)) (λ f. refl) (λ f a written x rest q p. p ∙ assigned_size g.locals x f) (in_bundle g.flow) written)
    (λ w e. needs_promises (GrowsTo {A = core.Statement} g) (are_locals g.visible written) E21 span _ (λ locals. settled_grows g (core.Block w.0) w.1 span e))

pub optional_grows : (at : Places) (g : Scope) (step : Option Assignment) → Promises (GrowsTo {A = core.Statement} g) (optional_step at g step)
optional_grows at g None = stays g
optional_grows at g (Some a) = assigning_grows at g a

further_promised : (g h : Scope) (v : Verdict Walked) → Grows g h → Promises (GrowsTo {A = core.Statement} h) v → Promises (GrowsTo {A = core.Statement} g) v
further_promised g h (Passes w) grown more = grows_further g h w.1 grown more
further_promised g h (Stops stop) grown more = tt

declared_grows : (g h : Scope) (written : Option s.Initializer) (t : CType) (local : ℕ) (span : Span) (initial : core.Statement) → Grows g h → Promises (GrowsTo {A = core.Statement} g) (declared h written t local span initial)
declared_grows g h written t local span initial grown =
    further_promised g h (declared h written t local span initial) grown
    (settled_grows h (both (core.SetLocal local (zero_value t)) initial) (assigned_by h.locals (first_value written initial local t) h.flow) span (assigned_size h.locals (first_value written initial local t) h.flow))

bounded_local_grows : (at : Places) (g : Scope) (d : Declarator) (t : CType) (span : Span) (b : Option Bounds) → length g.locals < g.flow.vars → IsNamedIn g t → Promises (GrowsTo {A = core.Statement} g) (bounded_local at g d t span b)
bounded_local_grows at g d t span b few named =
    let inner = with_local d.name.number t b g in
    passing_promises (λ (x : core.Statement). Unit {0}) (GrowsTo {A = core.Statement} g) (initialised at inner d.initializer t (length g.locals) span) _ (anything_promised (initialised at inner d.initializer t (length g.locals) span))
    (λ initial _. needs_promises (GrowsTo {A = core.Statement} g) (is_scalar t) E13 span _ (λ scalar.
    declared_grows g inner d.initializer t (length g.locals) span initial (local_grows d.name.number t b g scalar few named)))

array_grows : (at : Places) (g : Scope) (d : Declarator) (t : CType) (count : ℕ) (ended : Bool) (span : Span) → length g.locals < g.flow.vars → IsNamedIn g (row_type ended t)
    → Promises (GrowsTo {A = core.Statement} g) (settled_array (with_array d.name.number t count ended g) (length g.locals) (memory_of (with_array d.name.number t count ended g) ended t count (site_at at span)) span)
array_grows at g d t count ended span few named =
    let inner = with_array d.name.number t count ended g in
    let memory = memory_of inner ended t count (site_at at span) in
    let set = core.SetLocal (length g.locals) memory in
    let bounds = Some (row_of (before_end ended count)) in
    further_promised g inner (settled_array inner (length g.locals) memory span)
    (arrays_grow inner.arrays g (with_local d.name.number (row_type ended t) bounds g) (local_grows d.name.number (row_type ended t) bounds g refl few named))
    (settled_grows inner (both (core.SetLocal (length g.locals) core.Null) set) (assigned_by inner.locals set inner.flow) span (assigned_size inner.locals set inner.flow))

pub declarator_grows : (at : Places) (g : Scope) (base : TypeTree) (type : CType) (span : Span) (d : Declarator) → IsNamedIn g type → Promises (GrowsTo {A = core.Statement} g) (declarator at g base type span d)
declarator_grows at g base type span d named =
    declarator_promises (GrowsTo {A = core.Statement} g) (IsNamedIn g) at g base type span d (λ few. needs_promises (IsNamedIn g) (d.stars == 0) E15 (type_span base) (Passes type) (λ none. named))
    (λ few t named_t. passing_promises (λ (b : Option Bounds). Unit {0}) (GrowsTo {A = core.Statement} g) (declared_bounds (with_local d.name.number t None g) t (length g.locals) d.bounds) _
    (anything_promised (declared_bounds (with_local d.name.number t None g) t (length g.locals) d.bounds))
    (λ b _. bounded_local_grows at g d t span b (ltb-true (length g.locals) g.flow.vars few) named_t))
    (λ few t named_t count here counted ended may. array_grows at g d t count ended span (ltb-true (length g.locals) g.flow.vars few) (λ tagged. (may_lead g.structs t ended may, named_t tagged)))

pub declarators_grow : (at : Places) (g : Scope) (base : TypeTree) (type : CType) (span : Span) (ds : List Declarator) → IsNamedIn g type → Promises (GrowsTo {A = core.Statement} g) (declarators at g base type span ds)
declarators_grow at g base type span [] named = stays g
declarators_grow at g base type span (d ∷ ds) named =
    passing_promises (GrowsTo {A = core.Statement} g) (GrowsTo {A = core.Statement} g) (declarator at g base type span d) _ (declarator_grows at g base type span d named)
    (λ first h. passing_promises (GrowsTo {A = core.Statement} first.1) (GrowsTo {A = core.Statement} g) (declarators at first.1 base type span ds) _ (declarators_grow at first.1 base type span ds (named_further g first.1 type h named)) (λ rest h'. grows_further g first.1 rest.1 h h'))

pub base_named : (g : Scope) (base : TypeTree) → Promises (IsNamedIn g) (base_type g base)
base_named g base = later_promises (length g.tags ≤ length g.structs) (IsKnown g.structs) (base_type g base) (λ few. base_known g few base)

pub declaration_grows : (at : Places) (g : Scope) (d : Declaration) → Promises (GrowsTo {A = core.Statement} g) (declaration at g d)
declaration_grows at g d =
    needs_promises (GrowsTo {A = core.Statement} g) (nat_lt (length g.locals) g.flow.vars) E08 d.span _
    (λ few. needs_promises (GrowsTo {A = core.Statement} g) (is_length (first_length d.declarators)) E08 d.span _
    (λ fits. passing_promises (IsNamedIn g) (GrowsTo {A = core.Statement} g) (base_type g d.base) _ (base_named g d.base) (λ type named. declarators_grow at g d.base type d.span d.declarators named)))

pub first_grows : (at : Places) (g : Scope) (initial : ForInitial) → Promises (GrowsTo {A = core.Statement} g) (first_part at g initial)
first_grows at g s.Nothing = stays g
first_grows at g (s.Declares d) = declaration_grows at g d
first_grows at g (s.Assigns a) = assigning_grows at g a

-- behind a verdict of which nothing is asked
after : {A : Type 0} (g : Scope) (v : Verdict A) (next : A → Verdict Walked) → ((x : A) → Promises (GrowsTo {A = core.Statement} g) (next x)) → Promises (GrowsTo {A = core.Statement} g) (passing v next)
after {A = A} g v next h = passing_promises (λ (x : A). Unit {0}) (GrowsTo {A = core.Statement} g) v next (anything_promised v) (λ x _. h x)

mutual
  pub statement_grows : (at : Places) (g : Scope) (x : Statement) → Promises (GrowsTo {A = core.Statement} g) (statement at g x)
  statement_grows at g (s.Block mark inner span) =
      passing_promises (GrowsTo {A = core.Statements} g) (GrowsTo {A = core.Statement} g) (statements at g inner) _ (statements_grow at g inner)
      (λ w h. needs_promises (GrowsTo {A = core.Statement} g) (not (is_unchecked mark || g.is_off)) E15 span _ (λ on. block_grows g w.1 h))
  statement_grows at g (s.Bundle assignments span) = bundle_grows at g assignments span
  statement_grows at g (s.Declare d span) = declaration_grows at g d
  statement_grows at g (s.Assign a span) = assigning_grows at g a
  statement_grows at g (s.CallAlone call span) = after g (call_typed at g call) _ (λ x. stays g)
  statement_grows at g (s.Empty span) = stays g
  statement_grows at g (s.If test consequent span) =
      after g (condition at g test) _
      (λ c. let yes = when c true g in
      passing_promises (GrowsTo {A = core.Statement} yes) (GrowsTo {A = core.Statement} g) (statement at yes consequent) _ (statement_grows at yes consequent)
      (λ x h. branch_grows g c x.1 h))
  statement_grows at g (s.IfElse test consequent alternative span) =
      after g (condition at g test) _
      (λ c. let yes = when c true g in
      passing_promises (GrowsTo {A = core.Statement} yes) (GrowsTo {A = core.Statement} g) (statement at yes consequent) _ (statement_grows at yes consequent)
      (λ x h. let no = at_alternative g c x.1 in
      let first = grows_further g yes x.1 (when_grows c true g) h in
      passing_promises (GrowsTo {A = core.Statement} no) (GrowsTo {A = core.Statement} g) (statement at no alternative) _ (statement_grows at no alternative)
      (λ y h'. both_grow g x.1 y.1 first (grows_from no.flow (behind_block g x.1) y.1 (told_size g.locals c false g.flow ∙ (block_grows g x.1 first).size) h'))))
  statement_grows at g (s.While test body span) =
      after g (condition at (at_loop body None g) test) _
      (λ c. let turn = in_loop (when c true (at_loop body None g)) in
      passing_promises (GrowsTo {A = core.Statement} turn) (GrowsTo {A = core.Statement} g) (statement at turn body) _ (statement_grows at turn body)
      (λ x h. behind_grows g body None c (behind_block g x.1) (turns_grow g body None c x.1 h)))
  statement_grows at g (s.For initial test step body span) =
      passing_promises (GrowsTo {A = core.Statement} g) (GrowsTo {A = core.Statement} g) (first_part at g initial) _ (first_grows at g initial)
      (λ first h. after g (optional_condition at (at_loop body step first.1) test) _
      (λ c. let turn = in_loop (when c true (at_loop body step first.1)) in
      passing_promises (GrowsTo {A = core.Statement} turn) (GrowsTo {A = core.Statement} g) (statement at turn body) _ (statement_grows at turn body)
      (λ x h'. let last = before_step first.1 x.1 in
      passing_promises (GrowsTo {A = core.Statement} last) (GrowsTo {A = core.Statement} g) (optional_step at last step) _ (optional_grows at last step)
      (λ y h''. let behind = behind_loop first.1 (at_loop body step first.1) c y.1 in
      let turned = grows_further first.1 last y.1 (step_grows first.1 body step c x.1 h') h'' in
      block_grows g behind (grows_further g first.1 behind h (behind_grows first.1 body step c y.1 turned))))))
  statement_grows at g (s.Return value span) = after g (return at g value span) _ (λ x. cut_grows g)
  statement_grows at g (s.Break span) = needs_promises (GrowsTo {A = core.Statement} g) g.in_loop E30 span _ (λ yes. broken_grows g)
  statement_grows at g (s.Continue span) = needs_promises (GrowsTo {A = core.Statement} g) g.in_loop E30 span _ (λ yes. continued_grows g)

  pub statements_grow : (at : Places) (g : Scope) (xs : Statements) → Promises (GrowsTo {A = core.Statements} g) (statements at g xs)
  statements_grow at g s.NoMore = stays g
  statements_grow at g (s.Then first others) =
      passing_promises (GrowsTo {A = core.Statement} g) (GrowsTo {A = core.Statements} g) (statement at g first) _ (statement_grows at g first)
      (λ x h. passing_promises (GrowsTo {A = core.Statements} x.1) (GrowsTo {A = core.Statements} g) (statements at x.1 others) _ (statements_grow at x.1 others) (λ y h'. grows_further g x.1 y.1 h h'))
