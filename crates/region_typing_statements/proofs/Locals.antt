-- Declared locals.
use Rattle.std.proofs.Common.{◌≡◌, ℕ, ◌<◌, Bool, map, drop, get_or, nat_lt, List, [], ◌∷◌, ◌++◌, length, Option, None, Some, Result, Box, Global, ap, sym, subst, ◌∙◌}
use Rattle.std.specs.Option.{option_map}
use Rattle.std.proofs.lemmas.List.{length-map}
use Rattle.ckc_text.specs.declared.place.Span.{Span}
use Rattle.region_typing_scope.specs.declared.refusals.CheckError.{CheckError}
use Rattle.bounds_exprs.specs.declared.term.Bounds.{Bounds}
use Rattle.ckc_tree.specs.Types.{TypeTree}
use Rattle.ckc_tree.specs.Expressions as written
use Rattle.ckc_tree.specs.declared.stmt.ArrayForm.{ArrayForm}
use Rattle.ckc_tree.specs.declared.stmt.Declarator as code_declarator
use Rattle.ckc_tree.specs.Statements.{Initializer, Declarator, declarator as declarator_tree}
use Rattle.pointer_modes.specs.Types.{CType, ctype}
use Rattle.ckc_core.specs.declared.program.Stmt.{Stmt}
use Rattle.ckc_core.specs.Core as core
use Rattle.region_typing_scope.specs.OnHeap.{statement, typed}
use Rattle.region_typing_rules.specs.Verdicts.{Verdict, Passes, passing}
use Rattle.region_typing_rules.specs.Scopes.{Scope}
use Rattle.region_typing_rules.specs.Operands.{Places}
use Rattle.region_typing_rules.specs.DeclaredBounds.{declared_bounds}
use Rattle.region_typing_rules.specs.Statements.{both, zero_value, with_local, first_value, bounded_local, few_locals, local_of, is_ended_array, row_type, with_array, made_array, array_in, array_local, declarator, declarators}
use Rattle.region_typing_scope.specs.declared.scope as code
use Rattle.region_typing_scope.specs.declared.typed.Typed.{Typed}
use Rattle.region_typing_scope.specs.declared.visible as visible_code
use Rattle.region_typing_scope.specs.Views.{scope}
use Rattle.region_typing_scope.specs.Answering.{Answers}
use Rattle.region_typing_scope.specs.Locals.{Grows}
use Rattle.region_typing_statements.specs.Walks.{Walks, chosen, from_zero}
use Rattle.region_typing_scope.proofs.Steps.{parts_at}
use Rattle.region_typing_statements.proofs.Walking.{from_more, array_more}

answered_as : {A C : Type 0} (view : C → A) (v w : Verdict A) (r : Result C CheckError) → v ≡ w → Answers view w r → Answers view v r
answered_as view v w r is answer = rw is answer

-- a local that became visible, without bounds
pub local_added : (name : ℕ) (t u : CType) (old mid : code.Scope.Scope) → scope mid ≡ with_local name u None (scope old) → u ≡ t → scope mid ≡ with_local name t None (scope old)
local_added name t u old mid known same = known ∙ ap (λ (v : CType). with_local name v None (scope old)) same

-- the bounds that are declared for it
pub bounds_declared : (name : ℕ) (t : CType) (local : ℕ) (text : Option written.Bounds) (old mid : code.Scope.Scope) (r : Result (Option Bounds) CheckError) → scope mid ≡ with_local name t None (scope old) → local ≡ length old.locals.items
    → Answers (λ (b : Option Bounds). b) (declared_bounds (scope mid) t local text) r → Answers (λ (b : Option Bounds). b) (declared_bounds (with_local name t None (scope old)) t (length (scope old).locals) text) r
bounds_declared name t local text old mid r here number answer =
    let last : local ≡ length (scope old).locals = number ∙ sym (length-map old.locals.items ctype) in
    let by_number = λ (n : ℕ). declared_bounds (with_local name t None (scope old)) t n text in
    let by_scope = λ (g : Scope). declared_bounds g t local text in
    answered_as (λ (b : Option Bounds). b) (by_number (length (scope old).locals)) (by_scope (scope mid)) r (ap by_number (sym last) ∙ ap by_scope (sym here)) answer

-- what it is at first, where it has them
pub local_declared : (at : Places) (d : Declarator) (t : CType) (bounds : Option Bounds) (local : ℕ) (span : Span) (old mid new : code.Scope.Scope) (r : Result (Box Stmt Global) CheckError) → scope mid ≡ with_local d.name.number t bounds (scope old) → local ≡ length old.locals.items → Grows old mid
    → Walks statement (from_zero at (scope mid) d.initializer t local span) mid r new → Walks statement (bounded_local at (scope old) d t span bounds) old r new
local_declared at d t bounds local span old mid new r here number more walk =
    let last : local ≡ length (scope old).locals = number ∙ sym (length-map old.locals.items ctype) in
    let by_number = λ (n : ℕ). from_zero at (with_local d.name.number t bounds (scope old)) d.initializer t n span in
    let by_scope = λ (g : Scope). from_zero at g d.initializer t local span in
    from_more statement (bounded_local at (scope old) d t span bounds) (by_scope (scope mid)) old mid new r (ap by_number (sym last) ∙ ap by_scope (sym here)) more walk

-- a local array, whose elements are made where it is visible
pub array_added : (at : Places) (d : Declarator) (t : CType) (count local : ℕ) (ended : Bool) (span : Span) (old mid new : code.Scope.Scope) (r : Result (Box Stmt Global) CheckError)
    → scope mid ≡ with_array d.name.number t count ended (scope old) → local ≡ length old.locals.items
    → ((v : visible_code.Visible.Visible) × (mid.visible.items ≡ old.visible.items ++ v ∷ [])) → Walks statement (array_in at (scope mid) local d t count ended span) mid r new
    → Walks statement (array_in at (with_array d.name.number t count ended (scope old)) (length (scope old).locals) d t count ended span) old r new
array_added at d t count local ended span old mid new r here number seen walk =
    let last : local ≡ length (scope old).locals = number ∙ sym (length-map old.locals.items ctype) in
    let by_number = λ (n : ℕ). array_in at (with_array d.name.number t count ended (scope old)) n d t count ended span in
    let by_scope = λ (g : Scope). array_in at g local d t count ended span in
    from_more statement (by_number (length (scope old).locals)) (by_scope (scope mid)) old mid new r (ap by_number (sym last) ∙ ap by_scope (sym here)) (array_more d.name.number t count ended old mid here seen) walk

-- what becomes an array of them, as a pointer to the first
pub made_row : (local : ℕ) (memory : Box Typed Global) (u t : CType) (ended : Bool) (span : Span) (old new : code.Scope.Scope) (r : Result (Box Stmt Global) CheckError) → u ≡ row_type ended t
    → Walks statement (made_array (scope old) local (typed memory) u span) old r new → Walks statement (made_array (scope old) local (typed memory) (row_type ended t) span) old r new
made_row local memory u t ended span old new r is walk = subst (λ v. Walks statement (made_array (scope old) local (typed memory) v span) old r new) is walk

-- a declarator with the form of an array declares one
pub array_declared : (at : Places) (base : TypeTree) (t : CType) (span : Span) (d : Declarator) (form : ArrayForm) (old new : code.Scope.Scope) (r : Result (Box Stmt Global) CheckError) → d.array ≡ Some form
    → Walks statement (few_locals (scope old) span (array_local at (scope old) base t span d form.length (is_ended_array d))) old r new → Walks statement (declarator at (scope old) base t span d) old r new
array_declared at base t span d form old new r is walk =
    let by_form = λ (o : Option ArrayForm). local_of at (scope old) base t span d (option_map (λ (a : ArrayForm). a.length) o) in
    subst (λ v. Walks statement (few_locals (scope old) span v) old r new) (sym (ap by_form is)) walk

-- few locals, as the code counts them
pub few_counted : (g : code.Scope.Scope) → nat_lt (length g.locals.items) g.flow.vars ≡ nat_lt (length (scope g).locals) (scope g).flow.vars
few_counted g = ap (λ k. nat_lt k g.flow.vars) (sym (length-map g.locals.items ctype))

-- the first of several declarators
pub declarators_walk : {r : Result (Box Stmt Global) CheckError} {old new : code.Scope.Scope} (at : Places) (base : TypeTree) (t : CType) (span : Span) (ds : List code_declarator.Declarator) (first : code_declarator.Declarator) → 0 < length ds → first ≡ get_or ds 0 first
    → Walks statement (passing {B = core.Statement × Scope} (declarator at (scope old) base t span (declarator_tree first)) (λ x. passing {B = core.Statement × Scope} (declarators at x.1 base t span (map declarator_tree (drop 1 ds))) (λ rest. Passes (both x.0 rest.0, rest.1)))) old r new
    → Walks statement (declarators at (scope old) base t span (map declarator_tree ds)) old r new
declarators_walk at base t span ds first some is walk = rw (parts_at declarator_tree ds 0 first some is) walk

-- what a local is given last
pub last_is : (o : Option Initializer) (initial first : Box Stmt Global) (last : Stmt) (local : ℕ) (t : CType) → last ≡ chosen o initial.value first.value → statement first ≡ core.SetLocal local (zero_value t) → core.statement last ≡ first_value o (statement initial) local t
last_is None initial first last local t is zero = ap core.statement is ∙ zero
last_is (Some w) initial first last local t is zero = ap core.statement is
