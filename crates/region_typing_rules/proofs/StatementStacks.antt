-- The statements of a core take few words of the stack, by the height of the tree that they come from.
use Rattle.std.proofs.Common.{ℕ, ◌+◌, ◌*◌, ◌≤◌, true, List, [], ◌∷◌, length, Option, Some, None, subst, arith, false, max}
use Rattle.std.specs.Prelude.{nat_lt, not, ◌||◌}
use Rattle.std.specs.List.{AllByRecursion}
use Rattle.ckc_core.specs.Meaning.{bounds_of}
use Rattle.ckc_core.specs.declared.program.PointerBounds.{PointerBounds}
use Rattle.bounds_flow.specs.Flows.{Knowledge, in_bundle}
use Rattle.ckc_text.specs.declared.place.Span.{Span}
use Rattle.ckc_text.specs.declared.code.Code.TheVariants.{E08, E13, E15, E17, E18, E30}
use Rattle.ckc_tree.specs.declared.stmt.StoreOperator.{StoreOperator}
use Rattle.ckc_tree.specs.declared.stmt.StoreOperator.TheVariants as stores
use Rattle.ckc_tree.specs.Types.{TypeTree}
use Rattle.ckc_tree.specs.Expressions.{Expression, expression_span}
use Rattle.ckc_tree.specs.Statements as trees
use Rattle.ckc_tree.specs.Statements.{Initializer, Declarator, Declaration, Assignment, assignment_span, ForInitial, Statement, Statements}
use Rattle.ckc_tree.specs.Heights.{◌beside◌, type_reach, expression_reach, optional_expression_reach, optional_bounds_reach, optional_initializer_reach, declarator_reach, declarators_reach, declared_reach, assigned_reach, optional_assignment_reach, for_initial_reach, statement_reach, statements_reach, assignment_reach, assignments_reach}
use Rattle.pointer_modes.specs.Types.{CType, Int, Char, Struct, Pointer}
use Rattle.ckc_core.specs.declared.program.Site.{Site}
use Rattle.act_words.specs.declared.operator.Operator.{Operator}
use Rattle.bounds_exprs.specs.declared.term.Bounds.{Bounds}
use Rattle.ckc_core.specs.declared.program.Direction.{Direction}
use Rattle.ckc_core.specs.declared.program.Direction.TheVariants as directions
use Rattle.ckc_core.specs.Core as core
use Rattle.ckc_core.specs.Stacks.{expression_stack, statement_stack, statements_stack, element_stack, index_stack}
use Rattle.region_typing_rules.specs.Verdicts.{Verdict, Passes, breaks}
use Rattle.region_typing_rules.specs.Scopes.{Scope}
use Rattle.region_typing_rules.specs.Types.{is_scalar, without_stars, base_type}
use Rattle.region_typing_rules.specs.Operands.{Places, Typed, Value, AStruct, Called, Gives, GivesNothing, Lvalue, OfLocal, OfCell, OfBounded, OfUnknown, ForNothing, ForArray, For, site_at, meets, sum_node, operator_along}
use Rattle.region_typing_rules.specs.Expressions.{typed, call_typed}
use Rattle.region_typing_rules.specs.Cells.{is_length}
use Rattle.region_typing_rules.specs.Statements.{Walked, store, update, assigned, set_to, declared_for, moved, updated_as, updated, stored, step_of, one, assignment, assigning, zero_value, with_local, initialised, bounded_local, declarator, declarators, declaration, at_alternative, before_step, in_loop, is_unchecked, condition, optional_condition, optional_step, first_part, alone, meets_declared, returned, returned_nothing, return, statement, statements, with_array, both, first_length, assignments}
use Rattle.region_typing_rules.specs.DeclaredBounds.{unwritten_bounds, declared_bounds}
use Rattle.region_typing_rules.specs.Knowing.{when, at_loop, assigned_by, knowing}
use Rattle.region_typing_rules.proofs.Assigning.{assigning_promises, declared_promises, settled_promises, bundle_promises}
use Rattle.region_typing_rules.proofs.Verdicts.{Promises, passing_promises, needs_promises, anything_promised, promised_so, both_promise, apart_promises, met_promises}
use Rattle.region_typing_rules.proofs.Growth.{Grows, GrowsTo, IsNamedIn, named_further, base_named, alternative_grows, step_grows, declarator_grows, first_grows, statement_grows}
use Rattle.region_typing_rules.proofs.Stacks.{beside_first, beside_second, around_higher, Low, LowPlace, LowCall, IsLow, HasFew, some_reach, number_of_low, scalar_of_low, two_low, converted_low, typed_low, call_typed_low}
use Rattle.region_typing_rules.proofs.LocalArrays.{memory_of, declarator_promises}

abbrev pub IsLowStatement : ℕ → core.Statement → Type 0
IsLowStatement n x = statement_stack x ≤ n

-- ---- assignments, whose parts take n words, and which take two more

assigned_low : (Q : core.Statement → Type 0) (n : ℕ) (target : Typed) (span : Span) (next : CType → Lvalue → Verdict core.Statement) → Low n target → ((type : CType) (place : Lvalue) → LowPlace n (For place) → Promises Q (next type place)) → Promises Q (assigned target span next)
assigned_low Q n (Value type zero value ForNothing) span next h more = tt
assigned_low Q n (Value type zero value ForArray) span next h more = tt
assigned_low Q n (Value type zero value (For place)) span next h more = more type place h.1
assigned_low Q n (AStruct number place) span next h more = tt

store_low : (n : ℕ) (place : Lvalue) (type : CType) (value : core.Expression) → LowPlace n (For place) → IsLow n value → IsLowStatement (n + 3) (store place type value)
store_low n (OfLocal k) type value h low = omega arith
store_low n (OfCell (core.Direct object offset)) type value h low = omega arith
store_low n (OfCell (core.Through pointer core.First offset site)) type value h low = omega arith
store_low n (OfCell (core.Through pointer (core.Element number terminated) offset site)) type value h low = omega arith
store_low n (OfBounded k b) type value h low = omega arith
store_low n (OfUnknown k) type value h low = omega arith

element_low : (b : Option PointerBounds) (index : core.Index) (value n : ℕ) → index_stack index ≤ n → value ≤ n → element_stack b index value ≤ n + 3
element_low b core.First value n h low = omega arith
element_low b (core.Element number false) value n h low = omega arith
element_low None (core.Element number true) value n h low = omega arith
element_low (Some b) (core.Element number true) value n h low = omega arith

update_low : (n : ℕ) (place : Lvalue) (type : CType) (operator : Operator) (value : core.Expression) (site : Site) → LowPlace n (For place) → IsLow n value → IsLowStatement (n + 3) (update place type operator value site)
update_low n (OfLocal k) type operator value site h low = omega arith
update_low n (OfCell (core.Direct object offset)) type operator value site h low = omega arith
update_low n (OfCell (core.Through pointer index offset before)) type operator value site h low =
    let place : max (expression_stack pointer) (index_stack index) ≤ n = omega arith in
    let element = element_low (bounds_of pointer) index (expression_stack value) n (omega (arith, place)) low in
    omega (arith, element)
update_low n (OfBounded k b) type operator value site h low = omega arith
update_low n (OfUnknown k) type operator value site h low = omega arith

set_low : (n : ℕ) (f : Knowledge) (target right : Typed) (span : Span) → 1 ≤ n → Low n target → Low n right → Promises (IsLowStatement (n + 3)) (set_to f target right span)
set_low n f target right span least ht hr =
    assigned_low (IsLowStatement (n + 3)) n target span _ ht
    (λ type place h. converted_low (IsLowStatement (n + 3)) n right type span _ least hr (λ v low. needs_promises (IsLowStatement (n + 3)) (meets_declared f (declared_for place type) right type) E17 span _ (λ met. store_low n place type v h low)))

-- a sum checks itself with six words
moved_low : (n : ℕ) (f : Knowledge) (place : Lvalue) (type : CType) (sum : core.Expression) (span : Span) → expression_stack sum ≤ n + 1 → Promises (IsLowStatement (n + 3)) (moved f place type sum span)
moved_low n f (OfLocal k) type sum span h = omega arith
moved_low n f (OfCell p) type sum span h = needs_promises (IsLowStatement (n + 3)) (meets f sum (unwritten_bounds type)) E17 span (breaks E18 span) (λ met. tt)
moved_low n f (OfBounded k b) type sum span h = needs_promises (IsLowStatement (n + 3)) (meets f sum (Some b)) E17 span _ (λ met. omega arith)
moved_low n f (OfUnknown k) type sum span h = tt

updated_as_low : (n : ℕ) (g : Scope) (direction : Direction) (type : CType) (place : Lvalue) (target right : Typed) (site : Site) (span : Span) → 5 ≤ n → LowPlace n (For place) → Low n target → Low n right
    → Promises (IsLowStatement (n + 3)) (updated_as g direction type place target right site span)
updated_as_low n g direction (Pointer mode kind t) place (Value u zero pointer old) right site span five h ht hr =
    let low = ht.0 in
    number_of_low (IsLowStatement (n + 3)) n right span (λ v. moved g.flow place (Pointer mode kind t) (core.Sum pointer direction v site (sum_node g.locals direction pointer v site)) span) hr
    (λ v low'. moved_low n g.flow place (Pointer mode kind t) (core.Sum pointer direction v site (sum_node g.locals direction pointer v site)) span (omega arith))
updated_as_low n g direction (Pointer mode kind t) place (AStruct k old) right site span five h ht hr = tt
updated_as_low n g direction Int place target right site span five h ht hr =
    two_low (IsLowStatement (n + 3)) n target right span (λ old v. Passes (update place Int (operator_along direction) v site)) ht hr (λ old v low low'. update_low n place Int (operator_along direction) v site h low')
updated_as_low n g direction Char place target right site span five h ht hr =
    two_low (IsLowStatement (n + 3)) n target right span (λ old v. Passes (update place Char (operator_along direction) v site)) ht hr (λ old v low low'. update_low n place Char (operator_along direction) v site h low')
updated_as_low n g direction (Struct k) place target right site span five h ht hr =
    two_low (IsLowStatement (n + 3)) n target right span (λ old v. Passes (update place (Struct k) (operator_along direction) v site)) ht hr
    (λ old v low low'. update_low n place (Struct k) (operator_along direction) v site h low')

updated_low : (n : ℕ) (at : Places) (g : Scope) (direction : Direction) (target right : Typed) (span : Span) → 5 ≤ n → Low n target → Low n right → Promises (IsLowStatement (n + 3)) (updated at g direction target right span)
updated_low n at g direction target right span five ht hr =
    assigned_low (IsLowStatement (n + 3)) n target span _ ht
    (λ type place h. apart_promises (IsLowStatement (n + 3)) target right span _ (updated_as_low n g direction type place target right (site_at at span) span five h ht hr))

stored_low : (n : ℕ) (at : Places) (g : Scope) (operator : StoreOperator) (target right : Typed) (span : Span) → 5 ≤ n → Low n target → Low n right → Promises (IsLowStatement (n + 3)) (stored at g operator target right span)
stored_low n at g stores.Set target right span five ht hr = set_low n g.flow target right span (omega arith) ht hr
stored_low n at g stores.Add target right span five ht hr = updated_low n at g directions.Forward target right span five ht hr
stored_low n at g stores.Subtract target right span five ht hr = updated_low n at g directions.Backward target right span five ht hr

zero_low : (t : CType) → expression_stack (zero_value t) ≤ 1
zero_low Int = omega arith
zero_low Char = omega arith
zero_low (Struct n) = omega arith
zero_low (Pointer m k t) = omega arith

alone_low : (n : ℕ) (c : Called) → LowCall n c → IsLowStatement n (alone c)
alone_low n (Gives type value) h = h
alone_low n (GivesNothing call) h = h

abbrev pub HaveFew : Scope → Type 0
HaveFew s = AllByRecursion HasFew s.functions

few_later : (a b : Scope) → Grows a b → HaveFew a → HaveFew b
few_later a b h few = subst (AllByRecursion HasFew) h.functions few

module _ (at : Places) where
  assignment_low : (s : Scope) → HaveFew s → (a : Assignment) (n : ℕ) → 17 * (assigned_reach a).height + 4 ≤ n → Promises (IsLowStatement n) (assignment at s a)
  assignment_low s few (trees.Store operator target value span) n h =
      let one = beside_first (expression_reach target) (expression_reach value) in
      let two = beside_second (expression_reach target) (expression_reach value) in
      let m = 17 * (assigned_reach (trees.Store operator target value span)).height + 1 in
      passing_promises (Low m) (IsLowStatement n) (typed at s target) _ (typed_low s few at target m (omega arith))
      (λ a ha. passing_promises (Low m) (IsLowStatement n) (typed at s value) _ (typed_low s few at value m (omega arith))
      (λ b hb. promised_so (IsLowStatement (m + 3)) (IsLowStatement n) (stored at s operator a b span) (stored_low m at s operator a b span (omega (arith, some_reach target)) ha hb) (λ x low. omega arith)))
  assignment_low s few (trees.Step operator side target span) n h =
      let m = 17 * (expression_reach target).height + 1 in
      passing_promises (Low m) (IsLowStatement n) (typed at s target) _ (typed_low s few at target m (omega arith))
      (λ a ha. promised_so (IsLowStatement (m + 3)) (IsLowStatement n) (updated at s (step_of operator) a one span) (updated_low m at s (step_of operator) a one span (omega (arith, some_reach target)) ha (omega arith, tt)) (λ x low. omega arith))

  condition_low : (s : Scope) → HaveFew s → (x : Expression) (n : ℕ) → 17 * (expression_reach x).height ≤ n → Promises (IsLow n) (condition at s x)
  condition_low s few x n h = passing_promises (Low n) (IsLow n) (typed at s x) _ (typed_low s few at x n h) (λ t low. scalar_of_low (IsLow n) n t (expression_span x) Passes low (λ v low'. low'))

  optional_low : (s : Scope) → HaveFew s → (o : Option Expression) (n : ℕ) → 17 * (optional_expression_reach o).height + 1 ≤ n → Promises (IsLow n) (optional_condition at s o)
  optional_low s few None n h = omega arith
  optional_low s few (Some x) n h = condition_low s few x n (omega arith)

  abbrev pub BecomesLow : ℕ → Walked → Type 0
  BecomesLow n w = IsLowStatement n w.0

  assigning_low : (s : Scope) → HaveFew s → (a : Assignment) (n : ℕ) → 17 * (assigned_reach a).height + 4 ≤ n → Promises (BecomesLow n) (assigning at s a)
  assigning_low s few a n h = assigning_promises (IsLowStatement n) (BecomesLow n) at s a (assignment_low s few a n h) (λ x k low. low)

  step_low : (s : Scope) → HaveFew s → (o : Option Assignment) (n : ℕ) → 17 * (optional_assignment_reach o).height ≤ n → Promises (BecomesLow n) (optional_step at s o)
  step_low s few None n h = omega arith
  step_low s few (Some a) n h = let higher = around_higher (assignment_span a).from (assigned_reach a) in assigning_low s few a n (omega arith)

  -- ---- locals

  initialised_low : (s : Scope) → HaveFew s → (o : Option Initializer) (t : CType) (k : ℕ) (span : Span) (n : ℕ) → 17 * (optional_initializer_reach o).height + 1 ≤ n → Promises (IsLowStatement n) (initialised at s o t k span)
  initialised_low s few None t k span n h = omega arith
  initialised_low s few (Some (trees.Value value)) t k span n h =
      passing_promises (Low n) (IsLowStatement n) (typed at s value) _ (typed_low s few at value n (omega arith)) (λ x low. converted_low (IsLowStatement n) n x t span _ (omega arith) low (λ v low'. met_promises (IsLowStatement n) s.flow x t span _ low'))
  initialised_low s few (Some (trees.Constants constants list)) t k span n h = tt

  bounded_local_low : (s : Scope) → HaveFew s → (d : Declarator) (t : CType) (span : Span) (b : Option Bounds) (n : ℕ) → 17 * (declarator_reach d).height + 1 ≤ n → Promises (BecomesLow n) (bounded_local at s d t span b)
  bounded_local_low s few d t span b n h =
      let two = beside_second (optional_bounds_reach d.bounds) (optional_initializer_reach d.initializer) in
      let inner = with_local d.name.number t b s in
      passing_promises (IsLowStatement n) (BecomesLow n) (initialised at inner d.initializer t (length s.locals) span) _ (initialised_low inner few d.initializer t (length s.locals) span n (omega arith))
      (λ initial low'. needs_promises (BecomesLow n) (is_scalar t) E13 span _
      (λ scalar. declared_promises (BecomesLow n) inner d.initializer t (length s.locals) span initial (λ k. omega (arith, zero_low t))))

  declarator_low : (s : Scope) → HaveFew s → (base : TypeTree) (type : CType) (span : Span) (d : Declarator) (n : ℕ) → 17 * (declarator_reach d).height + 1 ≤ n → Promises (BecomesLow n) (declarator at s base type span d)
  declarator_low s few base type span d n h =
      declarator_promises (BecomesLow n) (λ (t : CType). Unit {0}) at s base type span d (λ low. anything_promised (without_stars base d.stars type))
      (λ low t _. passing_promises (λ (b : Option Bounds). Unit {0}) (BecomesLow n) (declared_bounds (with_local d.name.number t None s) t (length s.locals) d.bounds) _
      (anything_promised (declared_bounds (with_local d.name.number t None s) t (length s.locals) d.bounds)) (λ b _. bounded_local_low s few d t span b n h))
      (λ low t _ count here counted ended may.
      let inner = with_array d.name.number t count ended s in
      let set = core.SetLocal (length s.locals) (memory_of inner ended t count (site_at at span)) in
      settled_promises (BecomesLow n) (both (core.SetLocal (length s.locals) core.Null) set) inner (assigned_by inner.locals set inner.flow) span (λ k. omega arith))

  declarators_low : (s : Scope) → HaveFew s → (base : TypeTree) (type : CType) (span : Span) (ds : List Declarator) (n : ℕ) → IsNamedIn s type → 17 * (declarators_reach ds).height + 1 ≤ n → Promises (BecomesLow n) (declarators at s base type span ds)
  declarators_low s few base type span [] n named h = omega arith
  declarators_low s few base type span (d ∷ ds) n named h =
      let one = beside_first (declarator_reach d) (declarators_reach ds) in
      let two = beside_second (declarator_reach d) (declarators_reach ds) in
      passing_promises (λ (w : Walked). GrowsTo s w × BecomesLow n w) (BecomesLow n) (declarator at s base type span d) _
      (both_promise (GrowsTo s) (BecomesLow n) (declarator at s base type span d) (declarator_grows at s base type span d named) (declarator_low s few base type span d n (omega arith)))
      (λ first hf. passing_promises (BecomesLow n) (BecomesLow n) (declarators at first.1 base type span ds) _ (declarators_low first.1 (few_later s first.1 hf.0 few) base type span ds n (named_further s first.1 type hf.0 named) (omega arith)) (λ rest low. let low' = hf.1 in omega arith))

  declaration_low : (s : Scope) → HaveFew s → (d : Declaration) (n : ℕ) → 17 * (declared_reach d).height + 1 ≤ n → Promises (BecomesLow n) (declaration at s d)
  declaration_low s few d n h =
      let two = beside_second (type_reach d.base) (declarators_reach d.declarators) in
      needs_promises (BecomesLow n) (nat_lt (length s.locals) s.flow.vars) E08 d.span _
      (λ room. needs_promises (BecomesLow n) (is_length (first_length d.declarators)) E08 d.span _
      (λ fits. passing_promises (IsNamedIn s) (BecomesLow n) (base_type s d.base) _ (base_named s d.base) (λ type named. declarators_low s few d.base type d.span d.declarators n named (omega arith))))

  first_low : (s : Scope) → HaveFew s → (initial : ForInitial) (n : ℕ) → 17 * (for_initial_reach initial).height ≤ n → Promises (BecomesLow n) (first_part at s initial)
  first_low s few trees.Nothing n h = omega arith
  first_low s few (trees.Declares d) n h = let higher = around_higher d.span.from (declared_reach d) in declaration_low s few d n (omega arith)
  first_low s few (trees.Assigns a) n h =
      let higher = around_higher (assignment_span a).from (assigned_reach a) in
      assigning_low s few a n (omega arith)

  -- ---- results

  returned_low : (n : ℕ) (f : Knowledge) (o : Option CType) (b : Option Bounds) (t : Typed) (span : Span) → 1 ≤ n → Low n t → Promises (IsLowStatement n) (returned f o b t span)
  returned_low n f None b t span least h = tt
  returned_low n f (Some type) b t span least h = converted_low (IsLowStatement n) n t type span _ least h (λ v low. needs_promises (IsLowStatement n) (meets_declared f b t type) E17 span _ (λ met. low))

  nothing_low : (n : ℕ) (o : Option CType) (span : Span) → Promises (IsLowStatement n) (returned_nothing o span)
  nothing_low n None span = omega arith
  nothing_low n (Some type) span = tt

  return_low : (s : Scope) → HaveFew s → (o : Option Expression) (span : Span) (n : ℕ) → 17 * (optional_expression_reach o).height + 1 ≤ n → Promises (IsLowStatement n) (return at s o span)
  return_low s few None span n h = nothing_low n s.result span
  return_low s few (Some x) span n h = passing_promises (Low n) (IsLowStatement n) (typed at s x) _ (typed_low s few at x n (omega arith)) (λ t low. returned_low n s.flow s.result s.result_bounds t span (omega arith) low)

  -- ---- statements

  -- assignments in a bundle
  assignments_low : (s : Scope) → HaveFew s → (n : ℕ) (f : Knowledge) (written : List Assignment) → 17 * (assignments_reach written).height ≤ n → Promises (λ (w : core.Statements × Knowledge). statements_stack w.0 ≤ n) (assignments at (knowing f s) written)
  assignments_low s few n f [] h = omega arith
  assignments_low s few n f (a ∷ written) h =
      let one = beside_first (assignment_reach a) (assignments_reach written) in
      let two = beside_second (assignment_reach a) (assignments_reach written) in
      let higher = around_higher (assignment_span a).from (assigned_reach a) in
      let Low : core.Statements × Knowledge → Type 0 = λ w. statements_stack w.0 ≤ n in
      passing_promises (IsLowStatement n) Low (assignment at (knowing f s) a) _ (assignment_low (knowing f s) few a n (omega arith))
      (λ x low. passing_promises Low Low (assignments at (knowing (assigned_by s.locals x f) s) written) _ (assignments_low s few n (assigned_by s.locals x f) written (omega arith)) (λ rest low'. omega arith))

  mutual
    pub statement_low : (s : Scope) → HaveFew s → (x : Statement) (n : ℕ) → 17 * (statement_reach x).height ≤ n → Promises (BecomesLow n) (statement at s x)
    statement_low s few (trees.Block mark inner span) n h =
        let higher = around_higher span.from (statements_reach inner) in
        passing_promises (λ (w : core.Statements × Scope). statements_stack w.0 ≤ n) (BecomesLow n) (statements at s inner) _ (statements_low s few inner n (omega arith))
        (λ w low. needs_promises (BecomesLow n) (not (is_unchecked mark || s.is_off)) E15 span _ (λ on. low))
    statement_low s few (trees.Bundle written span) n h =
        let higher = around_higher span.from (assignments_reach written) in
        bundle_promises (λ (w : core.Statements × Knowledge). statements_stack w.0 ≤ n) (BecomesLow n) at s written span
        (assignments_low s few n (in_bundle s.flow) written (omega arith)) (λ w k low. low)
    statement_low s few (trees.Declare d span) n h = let higher = around_higher span.from (declared_reach d) in declaration_low s few d n (omega arith)
    statement_low s few (trees.Assign a span) n h =
        let higher = around_higher span.from (assigned_reach a) in
        assigning_low s few a n (omega arith)
    statement_low s few (trees.CallAlone call span) n h =
        let higher = around_higher span.from (expression_reach call) in
        passing_promises (LowCall n) (BecomesLow n) (call_typed at s call) _ (call_typed_low s few at call n (omega arith)) (λ c low. alone_low n c low)
    statement_low s few (trees.Empty span) n h = omega arith
    statement_low s few (trees.If test consequent span) n h =
        let parts = expression_reach test beside statement_reach consequent in
        let higher = around_higher span.from parts in
        let one = beside_first (expression_reach test) (statement_reach consequent) in
        let two = beside_second (expression_reach test) (statement_reach consequent) in
        passing_promises (IsLow n) (BecomesLow n) (condition at s test) _ (condition_low s few test n (omega arith))
        (λ c low. passing_promises (BecomesLow n) (BecomesLow n) (statement at (when c true s) consequent) _ (statement_low (when c true s) few consequent n (omega arith)) (λ x low'. omega arith))
    statement_low s few (trees.IfElse test consequent alternative span) n h =
        let a = expression_reach test in
        let b = statement_reach consequent in
        let c' = statement_reach alternative in
        let higher = around_higher span.from (a beside b beside c') in
        let one = beside_first a b in
        let two = beside_second a b in
        let three = beside_first (a beside b) c' in
        let four = beside_second (a beside b) c' in
        passing_promises (IsLow n) (BecomesLow n) (condition at s test) _ (condition_low s few test n (omega arith))
        (λ c low. let yes = when c true s in
        passing_promises (λ (w : Walked). GrowsTo yes w × BecomesLow n w) (BecomesLow n) (statement at yes consequent) _
        (both_promise (GrowsTo yes) (BecomesLow n) (statement at yes consequent) (statement_grows at yes consequent) (statement_low yes few consequent n (omega arith)))
        (λ x hx. let no = at_alternative s c x.1 in
        passing_promises (BecomesLow n) (BecomesLow n) (statement at no alternative) _ (statement_low no (few_later s no (alternative_grows s c x.1 hx.0) few) alternative n (omega arith))
        (λ y low'. let low'' = hx.1 in omega arith)))
    statement_low s few (trees.While test body span) n h =
        let higher = around_higher span.from (expression_reach test beside statement_reach body) in
        let one = beside_first (expression_reach test) (statement_reach body) in
        let two = beside_second (expression_reach test) (statement_reach body) in
        let head = at_loop body None s in
        passing_promises (IsLow n) (BecomesLow n) (condition at head test) _ (condition_low head few test n (omega arith))
        (λ c low. let turn = in_loop (when c true head) in
        passing_promises (BecomesLow n) (BecomesLow n) (statement at turn body) _ (statement_low turn few body n (omega arith)) (λ x low'. omega arith))
    statement_low s few (trees.For initial test step body span) n h =
        let a = for_initial_reach initial in
        let b = optional_expression_reach test in
        let c' = optional_assignment_reach step in
        let d = statement_reach body in
        let higher = around_higher span.from (a beside b beside c' beside d) in
        let one = beside_first a b in
        let two = beside_second a b in
        let three = beside_first (a beside b) c' in
        let four = beside_second (a beside b) c' in
        let five = beside_first (a beside b beside c') d in
        let six = beside_second (a beside b beside c') d in
        passing_promises (λ (w : Walked). GrowsTo s w × BecomesLow n w) (BecomesLow n) (first_part at s initial) _
        (both_promise (GrowsTo s) (BecomesLow n) (first_part at s initial) (first_grows at s initial) (first_low s few initial n (omega arith)))
        (λ first hf.
        let few' = few_later s first.1 hf.0 few in
        let head = at_loop body step first.1 in
        passing_promises (IsLow n) (BecomesLow n) (optional_condition at head test) _ (optional_low head few' test n (omega arith))
        (λ c low. let turn = in_loop (when c true head) in
        passing_promises (λ (w : Walked). GrowsTo turn w × BecomesLow n w) (BecomesLow n) (statement at turn body) _
        (both_promise (GrowsTo turn) (BecomesLow n) (statement at turn body) (statement_grows at turn body) (statement_low turn few' body n (omega arith)))
        (λ x hx. let last = before_step first.1 x.1 in
        passing_promises (BecomesLow n) (BecomesLow n) (optional_step at last step) _ (step_low last (few_later first.1 last (step_grows first.1 body step c x.1 hx.0) few') step n (omega arith))
        (λ y low'. let l = hf.1 in let l' = hx.1 in omega arith))))
    statement_low s few (trees.Return value span) n h =
        let higher = around_higher span.from (optional_expression_reach value) in
        passing_promises (IsLowStatement n) (BecomesLow n) (return at s value span) _ (return_low s few value span n (omega arith)) (λ x low. low)
    statement_low s few (trees.Break span) n h = needs_promises (BecomesLow n) s.in_loop E30 span _ (λ yes. omega arith)
    statement_low s few (trees.Continue span) n h = needs_promises (BecomesLow n) s.in_loop E30 span _ (λ yes. omega arith)

    pub statements_low : (s : Scope) → HaveFew s → (xs : Statements) (n : ℕ) → 17 * (statements_reach xs).height ≤ n → Promises (λ (w : core.Statements × Scope). statements_stack w.0 ≤ n) (statements at s xs)
    statements_low s few trees.NoMore n h = omega arith
    statements_low s few (trees.Then first others) n h =
        let one = beside_first (statement_reach first) (statements_reach others) in
        let two = beside_second (statement_reach first) (statements_reach others) in
        passing_promises (λ (w : Walked). GrowsTo s w × BecomesLow n w) (λ (w : core.Statements × Scope). statements_stack w.0 ≤ n) (statement at s first) _
        (both_promise (GrowsTo s) (BecomesLow n) (statement at s first) (statement_grows at s first) (statement_low s few first n (omega arith)))
        (λ x hx. passing_promises (λ (w : core.Statements × Scope). statements_stack w.0 ≤ n) (λ (w : core.Statements × Scope). statements_stack w.0 ≤ n) (statements at x.1 others) _ (statements_low x.1 (few_later s x.1 hx.0 few) others n (omega arith))
        (λ y low. let low' = hx.1 in omega arith))
