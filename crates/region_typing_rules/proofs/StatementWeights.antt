-- The statements of a core have few nodes, by how many the tree has that they come from.
use Rattle.std.proofs.Common.{◌≡◌, ℕ, ◌+◌, ◌*◌, ◌<◌, ◌≤◌, Bool, true, List, [], ◌∷◌, length, Option, Some, None, refl, arith}
use Rattle.std.specs.Prelude.{nat_lt, not, ◌||◌, option_map}
use Rattle.ckc_text.specs.declared.place.Span.{Span}
use Rattle.ckc_text.specs.declared.code.Code.TheVariants.{E08, E13, E15, E17, E18, E30}
use Rattle.ckc_tree.specs.declared.stmt.StoreOperator.{StoreOperator}
use Rattle.ckc_tree.specs.declared.stmt.StoreOperator.TheVariants as stores
use Rattle.ckc_tree.specs.Types.{TypeTree}
use Rattle.ckc_tree.specs.Expressions.{Expression, expression_span}
use Rattle.ckc_tree.specs.Statements as trees
use Rattle.ckc_tree.specs.Statements.{Initializer, Declarator, Declaration, Assignment, ForInitial, Statement, Statements}
use Rattle.ckc_tree.specs.Weights as tree
use Rattle.bounds_flow.specs.Flows.{Knowledge, in_bundle}
use Rattle.pointer_modes.specs.Types.{CType, Int, Char, Struct, Pointer}
use Rattle.ckc_core.specs.declared.program.Site.{Site}
use Rattle.act_words.specs.declared.operator.Operator.{Operator}
use Rattle.bounds_exprs.specs.declared.term.Bounds.{Bounds}
use Rattle.ckc_core.specs.declared.program.Direction.{Direction}
use Rattle.ckc_core.specs.declared.program.Direction.TheVariants as directions
use Rattle.ckc_core.specs.Core as core
use Rattle.ckc_core.specs.Weights.{expression_weight, statement_weight, statements_weight}
use Rattle.region_typing_rules.specs.Verdicts.{Verdict, Passes, breaks}
use Rattle.region_typing_rules.specs.Scopes.{Scope}
use Rattle.region_typing_rules.specs.Types.{is_scalar, without_stars, base_type}
use Rattle.region_typing_rules.specs.Operands.{Places, Typed, Value, AStruct, Called, Gives, GivesNothing, Lvalue, OfLocal, OfCell, OfBounded, OfUnknown, ForNothing, ForArray, For, site_at, meets, sum_node, operator_along}
use Rattle.region_typing_rules.specs.Expressions.{typed, call_typed}
use Rattle.region_typing_rules.specs.Cells.{is_length}
use Rattle.region_typing_rules.specs.Statements.{Walked, store, update, assigned, set_to, declared_for, moved, updated_as, updated, stored, step_of, one, assignment, zero_value, with_local, initialised, bounded_local, declarator, declarators, declaration, at_alternative, before_step, in_loop, is_unchecked, condition, optional_condition, optional_step, first_part, alone, meets_declared, returned, returned_nothing, return, statement, statements, with_array, both, length_of, first_length}
use Rattle.region_typing_rules.specs.DeclaredBounds.{unwritten_bounds, declared_bounds}
use Rattle.region_typing_rules.specs.Knowing.{when, at_loop, assigned_by, knowing}
use Rattle.region_typing_rules.proofs.Assigning.{assigning_promises, declared_promises, settled_promises, assignments_promise, bundle_promises}
use Rattle.region_typing_rules.proofs.Verdicts.{Promises, passing_promises, needs_promises, anything_promised, promised_so, apart_promises, met_promises}
use Rattle.region_typing_rules.proofs.Weights.{Light, LightPlace, LightCall, IsLight, node_there, number_of_light, scalar_of_light, two_light, converted_light, typed_light, call_typed_light}
use Rattle.region_typing_rules.proofs.LocalArrays.{declarator_promises, memory_of, settled_array}
use Rattle.ckc_tree.specs.declared.stmt.ArrayForm.{ArrayForm}

abbrev IsLightStatement : ℕ → core.Statement → Type 0
IsLightStatement n x = statement_weight x ≤ n

abbrev BecomesLight : ℕ → Walked → Type 0
BecomesLight n w = statement_weight w.0 ≤ n

-- ---- assignments

assigned_light : (Q : core.Statement → Type 0) (n : ℕ) (target : Typed) (span : Span) (next : CType → Lvalue → Verdict core.Statement) → Light n target → ((type : CType) (place : Lvalue) → LightPlace n (For place) → Promises Q (next type place)) → Promises Q (assigned target span next)
assigned_light Q n (Value type zero value ForNothing) span next h more = tt
assigned_light Q n (Value type zero value ForArray) span next h more = tt
assigned_light Q n (Value type zero value (For place)) span next h more = more type place h.1
assigned_light Q n (AStruct number place) span next h more = tt

store_light : (n m : ℕ) (place : Lvalue) (type : CType) (value : core.Expression) → LightPlace n (For place) → IsLight (m + 1) value → IsLightStatement (n + m + 1) (store place type value)
store_light n m (OfLocal k) type value h light = omega arith
store_light n m (OfCell p) type value h light = omega arith
store_light n m (OfBounded k b) type value h light = omega arith
store_light n m (OfUnknown k) type value h light = omega arith

update_light : (n m : ℕ) (place : Lvalue) (type : CType) (operator : Operator) (value : core.Expression) (site : Site) → LightPlace n (For place) → IsLight m value → IsLightStatement (n + m + 1) (update place type operator value site)
update_light n m (OfLocal k) type operator value site h light = omega arith
update_light n m (OfCell (core.Direct object offset)) type operator value site h light = omega arith
update_light n m (OfCell (core.Through pointer index offset before)) type operator value site h light = omega arith
update_light n m (OfBounded k b) type operator value site h light = omega arith
update_light n m (OfUnknown k) type operator value site h light = omega arith

set_light : (n m : ℕ) (f : Knowledge) (target right : Typed) (span : Span) → 2 ≤ m → Light n target → Light m right → Promises (IsLightStatement (n + m + 1)) (set_to f target right span)
set_light n m f target right span two ht hr =
    assigned_light (IsLightStatement (n + m + 1)) n target span _ ht
    (λ type place h. converted_light (IsLightStatement (n + m + 1)) m right type span _ two hr (λ v light. needs_promises (IsLightStatement (n + m + 1)) (meets_declared f (declared_for place type) right type) E17 span _ (λ met. store_light n m place type v h light)))

-- a sum of a pointer has fewer nodes than an update would have that is as heavy
moved_light : (n m : ℕ) (f : Knowledge) (place : Lvalue) (type : CType) (sum : core.Expression) (span : Span) → expression_weight sum < n + m → Promises (IsLightStatement (n + m + 1)) (moved f place type sum span)
moved_light n m f (OfLocal k) type sum span h = omega arith
moved_light n m f (OfCell p) type sum span h = needs_promises (IsLightStatement (n + m + 1)) (meets f sum (unwritten_bounds type)) E17 span (breaks E18 span) (λ met. tt)
moved_light n m f (OfBounded k b) type sum span h = needs_promises (IsLightStatement (n + m + 1)) (meets f sum (Some b)) E17 span _ (λ met. omega arith)
moved_light n m f (OfUnknown k) type sum span h = tt

updated_as_light : (n m : ℕ) (g : Scope) (direction : Direction) (type : CType) (place : Lvalue) (target right : Typed) (site : Site) (span : Span) → LightPlace n (For place) → Light n target → Light m right
    → Promises (IsLightStatement (n + m + 1)) (updated_as g direction type place target right site span)
updated_as_light n m g direction (Pointer mode kind t) place (Value u zero pointer old) right site span h ht hr =
    let light = ht.0 in
    number_of_light (IsLightStatement (n + m + 1)) m right span (λ v. moved g.flow place (Pointer mode kind t) (core.Sum pointer direction v site (sum_node g.locals direction pointer v site)) span) hr
    (λ v light'. moved_light n m g.flow place (Pointer mode kind t) (core.Sum pointer direction v site (sum_node g.locals direction pointer v site)) span (omega arith))
updated_as_light n m g direction (Pointer mode kind t) place (AStruct k old) right site span h ht hr = tt
updated_as_light n m g direction Int place target right site span h ht hr =
    two_light (IsLightStatement (n + m + 1)) n m target right span (λ old v. Passes (update place Int (operator_along direction) v site)) ht hr
    (λ old v light light'. update_light n m place Int (operator_along direction) v site h light')
updated_as_light n m g direction Char place target right site span h ht hr =
    two_light (IsLightStatement (n + m + 1)) n m target right span (λ old v. Passes (update place Char (operator_along direction) v site)) ht hr
    (λ old v light light'. update_light n m place Char (operator_along direction) v site h light')
updated_as_light n m g direction (Struct k) place target right site span h ht hr =
    two_light (IsLightStatement (n + m + 1)) n m target right span (λ old v. Passes (update place (Struct k) (operator_along direction) v site)) ht hr
    (λ old v light light'. update_light n m place (Struct k) (operator_along direction) v site h light')

updated_light : (n m : ℕ) (at : Places) (g : Scope) (direction : Direction) (target right : Typed) (span : Span) → Light n target → Light m right → Promises (IsLightStatement (n + m + 1)) (updated at g direction target right span)
updated_light n m at g direction target right span ht hr =
    assigned_light (IsLightStatement (n + m + 1)) n target span _ ht
    (λ type place h. apart_promises (IsLightStatement (n + m + 1)) target right span _
    (updated_as_light n m g direction type place target right (site_at at span) span h ht hr))

stored_light : (n m : ℕ) (at : Places) (g : Scope) (operator : StoreOperator) (target right : Typed) (span : Span) → 2 ≤ m → Light n target → Light m right → Promises (IsLightStatement (n + m + 1)) (stored at g operator target right span)
stored_light n m at g stores.Set target right span two ht hr = set_light n m g.flow target right span two ht hr
stored_light n m at g stores.Add target right span two ht hr = updated_light n m at g directions.Forward target right span ht hr
stored_light n m at g stores.Subtract target right span two ht hr = updated_light n m at g directions.Backward target right span ht hr

zero_light : (t : CType) → expression_weight (zero_value t) ≡ 1
zero_light Int = omega arith
zero_light Char = omega arith
zero_light (Struct n) = omega arith
zero_light (Pointer m k t) = omega arith

alone_light : (n : ℕ) (c : Called) → LightCall n c → IsLightStatement n (alone c)
alone_light n (Gives type value) h = omega arith
alone_light n (GivesNothing call) h = omega arith

module _ (at : Places) where
  assignment_light : (s : Scope) (a : Assignment) → Promises (IsLightStatement (5 * tree.assignment_weight a)) (assignment at s a)
  assignment_light s (trees.Store operator target value span) =
      let n = 5 * tree.expression_weight target in
      let m = 5 * tree.expression_weight value in
      let all = 5 * tree.assignment_weight (trees.Store operator target value span) in
      passing_promises (Light n) (IsLightStatement all) (typed at s target) _ (typed_light at s target)
      (λ a ha. passing_promises (Light m) (IsLightStatement all) (typed at s value) _ (typed_light at s value)
      (λ b hb. promised_so (IsLightStatement (n + m + 1)) (IsLightStatement all) (stored at s operator a b span) (stored_light n m at s operator a b span (omega (arith, node_there value)) ha hb) (λ x light. omega arith)))
  assignment_light s (trees.Step operator side target span) =
      let n = 5 * tree.expression_weight target in
      let all = 5 * tree.assignment_weight (trees.Step operator side target span) in
      passing_promises (Light n) (IsLightStatement all) (typed at s target) _ (typed_light at s target)
      (λ a ha. promised_so (IsLightStatement (n + 2 + 1)) (IsLightStatement all) (updated at s (step_of operator) a one span) (updated_light n 2 at s (step_of operator) a one span ha (omega arith, tt)) (λ x light. omega arith))

  condition_light : (s : Scope) (x : Expression) → Promises (IsLight (5 * tree.expression_weight x)) (condition at s x)
  condition_light s x =
      let n = 5 * tree.expression_weight x in
      passing_promises (Light n) (IsLight n) (typed at s x) _ (typed_light at s x) (λ t light. scalar_of_light (IsLight n) n t (expression_span x) Passes light (λ v light'. light'))

  optional_light : (s : Scope) (o : Option Expression) → Promises (IsLight (5 * tree.optional_expression_weight o + 2)) (optional_condition at s o)
  optional_light s None = omega arith
  optional_light s (Some x) = promised_so (IsLight (5 * tree.expression_weight x)) (IsLight (5 * tree.expression_weight x + 2)) (condition at s x) (condition_light s x) (λ v light. omega arith)

  step_light : (s : Scope) (o : Option Assignment) → Promises (BecomesLight (5 * tree.optional_assignment_weight o + 1)) (optional_step at s o)
  step_light s None = omega arith
  step_light s (Some a) = assigning_promises (IsLightStatement (5 * tree.assignment_weight a)) (BecomesLight (5 * tree.assignment_weight a + 1)) at s a (assignment_light s a) (λ x k light. omega arith)

  -- ---- locals

  initialised_light : (s : Scope) (o : Option Initializer) (t : CType) (k : ℕ) (span : Span) → Promises (IsLightStatement (5 * tree.optional_initializer_weight o + 1)) (initialised at s o t k span)
  initialised_light s None t k span = omega arith
  initialised_light s (Some (trees.Value value)) t k span =
      let n = 5 * tree.expression_weight value in
      passing_promises (Light n) (IsLightStatement (n + 1)) (typed at s value) _ (typed_light at s value)
      (λ x light. converted_light (IsLightStatement (n + 1)) n x t span _ (omega (arith, node_there value)) light (λ v light'. met_promises (IsLightStatement (n + 1)) s.flow x t span _ (omega arith)))
  initialised_light s (Some (trees.Constants constants list)) t k span = tt

  array_one : (o : Option ArrayForm) (count : ℕ) → option_map (λ (a : ArrayForm). a.length) o ≡ Some count → tree.optional_array_weight o ≡ 1
  array_one None count h = absurd (cc)
  array_one (Some array) count h = refl

  -- with one node to spare
  abbrev IsSpare : Declarator → Walked → Type 0
  IsSpare d w = statement_weight w.0 < 5 * tree.declarator_weight d

  bounded_local_light : (s : Scope) (d : Declarator) (t : CType) (span : Span) (b : Option Bounds) → Promises (IsSpare d) (bounded_local at s d t span b)
  bounded_local_light s d t span b =
      let n = 5 * tree.optional_initializer_weight d.initializer + 1 in
      let inner = with_local d.name.number t b s in
      passing_promises (IsLightStatement n) (IsSpare d) (initialised at inner d.initializer t (length s.locals) span) _ (initialised_light inner d.initializer t (length s.locals) span)
      (λ initial light. needs_promises (IsSpare d) (is_scalar t) E13 span _
      (λ scalar. declared_promises (IsSpare d) inner d.initializer t (length s.locals) span initial (λ k. omega (arith, zero_light t))))

  -- what makes it an array is a node too
  array_light : (s : Scope) (d : Declarator) (t : CType) (count : ℕ) (ended : Bool) (span : Span) → length_of d ≡ Some count
      → Promises (IsSpare d) (settled_array (with_array d.name.number t count ended s) (length s.locals) (memory_of (with_array d.name.number t count ended s) ended t count (site_at at span)) span)
  array_light s d t count ended span here =
      let one = array_one d.array count here in
      let inner = with_array d.name.number t count ended s in
      let set = core.SetLocal (length s.locals) (memory_of inner ended t count (site_at at span)) in
      settled_promises (IsSpare d) (both (core.SetLocal (length s.locals) core.Null) set) inner (assigned_by inner.locals set inner.flow) span (λ k. omega arith)

  declarator_light : (s : Scope) (base : TypeTree) (type : CType) (span : Span) (d : Declarator) → Promises (IsSpare d) (declarator at s base type span d)
  declarator_light s base type span d =
      declarator_promises (IsSpare d) (λ (t : CType). Unit {0}) at s base type span d (λ low. anything_promised (without_stars base d.stars type))
      (λ low t _. passing_promises (λ (b : Option Bounds). Unit {0}) (IsSpare d) (declared_bounds (with_local d.name.number t None s) t (length s.locals) d.bounds) _
      (anything_promised (declared_bounds (with_local d.name.number t None s) t (length s.locals) d.bounds)) (λ b _. bounded_local_light s d t span b))
      (λ low t _ count here counted ended may. array_light s d t count ended span here)

  declarators_light : (s : Scope) (base : TypeTree) (type : CType) (span : Span) (ds : List Declarator) → Promises (BecomesLight (5 * tree.declarators_weight ds + 1)) (declarators at s base type span ds)
  declarators_light s base type span [] = omega arith
  declarators_light s base type span (d ∷ ds) =
      let all = 5 * tree.declarators_weight (d ∷ ds) + 1 in
      passing_promises (IsSpare d) (BecomesLight all) (declarator at s base type span d) _ (declarator_light s base type span d)
      (λ first hf. passing_promises (BecomesLight (5 * tree.declarators_weight ds + 1)) (BecomesLight all) (declarators at first.1 base type span ds) _ (declarators_light first.1 base type span ds) (λ rest light. omega arith))

  declaration_light : (s : Scope) (d : Declaration) → Promises (BecomesLight (5 * tree.declaration_weight d)) (declaration at s d)
  declaration_light s d =
      let all = 5 * tree.declaration_weight d in
      needs_promises (BecomesLight all) (nat_lt (length s.locals) s.flow.vars) E08 d.span _
      (λ room. needs_promises (BecomesLight all) (is_length (first_length d.declarators)) E08 d.span _
      (λ fits. passing_promises (λ (t : CType). Unit {0}) (BecomesLight all) (base_type s d.base) _ (anything_promised (base_type s d.base))
      (λ type _. promised_so (BecomesLight (5 * tree.declarators_weight d.declarators + 1)) (BecomesLight all) (declarators at s d.base type d.span d.declarators) (declarators_light s d.base type d.span d.declarators) (λ w light. omega arith))))

  first_light : (s : Scope) (initial : ForInitial) → Promises (BecomesLight (5 * tree.for_initial_weight initial + 1)) (first_part at s initial)
  first_light s trees.Nothing = omega arith
  first_light s (trees.Declares d) = promised_so (BecomesLight (5 * tree.declaration_weight d)) (BecomesLight (5 * tree.declaration_weight d + 1)) (declaration at s d) (declaration_light s d) (λ w light. omega arith)
  first_light s (trees.Assigns a) =
      assigning_promises (IsLightStatement (5 * tree.assignment_weight a)) (BecomesLight (5 * tree.assignment_weight a + 1)) at s a (assignment_light s a) (λ x k light. omega arith)

  -- ---- results

  returned_light : (n : ℕ) (f : Knowledge) (o : Option CType) (b : Option Bounds) (t : Typed) (span : Span) → 2 ≤ n → Light n t → Promises (IsLightStatement (n + 1)) (returned f o b t span)
  returned_light n f None b t span two h = tt
  returned_light n f (Some type) b t span two h = converted_light (IsLightStatement (n + 1)) n t type span _ two h (λ v light. needs_promises (IsLightStatement (n + 1)) (meets_declared f b t type) E17 span _ (λ met. omega arith))

  nothing_light : (o : Option CType) (span : Span) → Promises (IsLightStatement 5) (returned_nothing o span)
  nothing_light None span = omega arith
  nothing_light (Some type) span = tt

  return_light : (s : Scope) (o : Option Expression) (span : Span) → Promises (IsLightStatement (5 * tree.optional_expression_weight o + 5)) (return at s o span)
  return_light s None span = nothing_light s.result span
  return_light s (Some x) span =
      let n = 5 * tree.expression_weight x in
      passing_promises (Light n) (IsLightStatement (n + 5)) (typed at s x) _ (typed_light at s x)
      (λ t light. promised_so (IsLightStatement (n + 1)) (IsLightStatement (n + 5)) (returned s.flow s.result s.result_bounds t span) (returned_light n s.flow s.result s.result_bounds t span (omega (arith, node_there x)) light) (λ v light'. omega arith))

  -- ---- statements

  abbrev AreLight : Statements → core.Statements × Scope → Type 0
  AreLight xs w = statements_weight w.0 ≤ 5 * tree.statements_weight xs

  abbrev LightAssignments : List Assignment → core.Statements × Knowledge → Type 0
  LightAssignments written w = statements_weight w.0 ≤ 5 * tree.assignments_weight written

  mutual
    pub statement_light : (s : Scope) (x : Statement) → Promises (BecomesLight (5 * tree.statement_weight x)) (statement at s x)
    statement_light s (trees.Block mark inner span) =
        let all = 5 * tree.statement_weight (trees.Block mark inner span) in
        passing_promises (AreLight inner) (BecomesLight all) (statements at s inner) _ (statements_light s inner)
        (λ w light. needs_promises (BecomesLight all) (not (is_unchecked mark || s.is_off)) E15 span _ (λ on. omega arith))
    statement_light s (trees.Bundle written span) =
        let all = 5 * tree.statement_weight (trees.Bundle written span) in
        bundle_promises (LightAssignments written) (BecomesLight all) at s written span
        (assignments_promise (λ f a x. IsLightStatement (5 * tree.assignment_weight a) x) (λ f written w. LightAssignments written w) at s (λ f a. assignment_light (knowing f s) a) (λ f. omega arith)
        (λ f a written x rest light others. omega (arith, light, others)) (in_bundle s.flow) written)
        (λ w k light. omega (arith, light))
    statement_light s (trees.Declare d span) = declaration_light s d
    statement_light s (trees.Assign a span) =
        let all = 5 * tree.assignment_weight a in
        assigning_promises (IsLightStatement all) (BecomesLight all) at s a (assignment_light s a) (λ x k light. light)
    statement_light s (trees.CallAlone call span) =
        let n = 5 * tree.expression_weight call in
        passing_promises (LightCall n) (BecomesLight (5 * tree.statement_weight (trees.CallAlone call span))) (call_typed at s call) _ (call_typed_light at s call) (λ c light. let it = alone_light n c light in omega arith)
    statement_light s (trees.Empty span) = omega arith
    statement_light s (trees.If test consequent span) =
        let all = 5 * tree.statement_weight (trees.If test consequent span) in
        passing_promises (IsLight (5 * tree.expression_weight test)) (BecomesLight all) (condition at s test) _ (condition_light s test)
        (λ c light. passing_promises (BecomesLight (5 * tree.statement_weight consequent)) (BecomesLight all) (statement at (when c true s) consequent) _ (statement_light (when c true s) consequent) (λ x light'. omega arith))
    statement_light s (trees.IfElse test consequent alternative span) =
        let all = 5 * tree.statement_weight (trees.IfElse test consequent alternative span) in
        passing_promises (IsLight (5 * tree.expression_weight test)) (BecomesLight all) (condition at s test) _ (condition_light s test)
        (λ c light. passing_promises (BecomesLight (5 * tree.statement_weight consequent)) (BecomesLight all) (statement at (when c true s) consequent) _ (statement_light (when c true s) consequent)
        (λ x light'. passing_promises (BecomesLight (5 * tree.statement_weight alternative)) (BecomesLight all) (statement at (at_alternative s c x.1) alternative) _ (statement_light (at_alternative s c x.1) alternative) (λ y light''. omega arith)))
    statement_light s (trees.While test body span) =
        let all = 5 * tree.statement_weight (trees.While test body span) in
        let head = at_loop body None s in
        passing_promises (IsLight (5 * tree.expression_weight test)) (BecomesLight all) (condition at head test) _ (condition_light head test)
        (λ c light. passing_promises (BecomesLight (5 * tree.statement_weight body)) (BecomesLight all) (statement at (in_loop (when c true head)) body) _ (statement_light (in_loop (when c true head)) body) (λ x light'. omega arith))
    statement_light s (trees.For initial test step body span) =
        let all = 5 * tree.statement_weight (trees.For initial test step body span) in
        passing_promises (BecomesLight (5 * tree.for_initial_weight initial + 1)) (BecomesLight all) (first_part at s initial) _ (first_light s initial)
        (λ first hf. let head = at_loop body step first.1 in
        passing_promises (IsLight (5 * tree.optional_expression_weight test + 2)) (BecomesLight all) (optional_condition at head test) _ (optional_light head test)
        (λ c light. passing_promises (BecomesLight (5 * tree.statement_weight body)) (BecomesLight all) (statement at (in_loop (when c true head)) body) _ (statement_light (in_loop (when c true head)) body)
        (λ x hx. passing_promises (BecomesLight (5 * tree.optional_assignment_weight step + 1)) (BecomesLight all) (optional_step at (before_step first.1 x.1) step) _ (step_light (before_step first.1 x.1) step)
        (λ y light'. omega arith))))
    statement_light s (trees.Return value span) =
        let n = 5 * tree.optional_expression_weight value + 5 in
        passing_promises (IsLightStatement n) (BecomesLight (5 * tree.statement_weight (trees.Return value span))) (return at s value span) _ (return_light s value span) (λ x light. omega arith)
    statement_light s (trees.Break span) = needs_promises (BecomesLight 5) s.in_loop E30 span _ (λ yes. omega arith)
    statement_light s (trees.Continue span) = needs_promises (BecomesLight 5) s.in_loop E30 span _ (λ yes. omega arith)

    pub statements_light : (s : Scope) (xs : Statements) → Promises (λ (w : core.Statements × Scope). statements_weight w.0 ≤ 5 * tree.statements_weight xs) (statements at s xs)
    statements_light s trees.NoMore = omega arith
    statements_light s (trees.Then first others) =
        passing_promises (BecomesLight (5 * tree.statement_weight first)) (AreLight (trees.Then first others)) (statement at s first) _ (statement_light s first)
        (λ x light. passing_promises (AreLight others) (AreLight (trees.Then first others)) (statements at x.1 others) _ (statements_light x.1 others) (λ y light'. omega arith))
