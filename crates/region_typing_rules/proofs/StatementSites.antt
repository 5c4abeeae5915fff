-- The sites of the statements of a core are starts of expressions, assignments and declarations of the tree that they come from.
use Rattle.std.proofs.Common.{◌≡◌, inl, inr, ℕ, Bool, true, false, List, [], ◌∷◌, ◌++◌, length, Option, Some, None, refl, ap, ◌∙◌, subst}
use Rattle.std.specs.Prelude.{◌==◌, nat_lt, not, ◌||◌}
use Rattle.std.specs.List.{AllByRecursion}
use Rattle.ckc_text.specs.declared.place.Span.{Span}
use Rattle.ckc_text.specs.declared.code.Code.TheVariants.{E08, E13, E15, E17, E18, E30}
use Rattle.act_words.specs.declared.operator.Operator.{Operator}
use Rattle.ckc_tree.specs.declared.stmt.StoreOperator.{StoreOperator}
use Rattle.ckc_tree.specs.declared.stmt.StoreOperator.TheVariants as stores
use Rattle.ckc_tree.specs.Types.{TypeTree}
use Rattle.ckc_tree.specs.Expressions.{Expression, expression_span}
use Rattle.ckc_tree.specs.Statements as trees
use Rattle.ckc_tree.specs.Statements.{Initializer, Declarator, Declaration, Assignment, ForInitial, Statement, Statements}
use Rattle.ckc_tree.specs.Items as i
use Rattle.ckc_tree.specs.Items.{Item, Tree}
use Rattle.bounds_flow.specs.Flows.{Knowledge, in_bundle}
use Rattle.pointer_modes.specs.Types.{CType, Int, Char, Struct, Pointer}
use Rattle.bounds_exprs.specs.declared.term.Bounds.{Bounds}
use Rattle.ckc_core.specs.declared.program.Direction.{Direction}
use Rattle.ckc_core.specs.declared.program.Direction.TheVariants as directions
use Rattle.ckc_core.specs.declared.program.Site.{Site}
use Rattle.ckc_core.specs.Core as core
use Rattle.ckc_core.specs.Core.{Core, Parted}
use Rattle.ckc_core.specs.Programs.{parted}
use Rattle.ckc_core.specs.Sites.{ExpressionSites, StatementSites, StatementsSites, FunctionSites}
use Rattle.region_typing_rules.specs.Verdicts.{Verdict, Passes, Stops, breaks, passing, picked}
use Rattle.region_typing_rules.specs.Scopes.{Scope, Signature}
use Rattle.region_typing_rules.specs.Types.{is_scalar, without_stars, base_type}
use Rattle.region_typing_rules.specs.Operands.{Places, Typed, Value, AStruct, Called, Gives, GivesNothing, Lvalue, OfLocal, OfCell, OfBounded, OfUnknown, ForNothing, ForArray, For, site_at, meets, sum_node, operator_along}
use Rattle.region_typing_rules.specs.Calls.{is_import}
use Rattle.region_typing_rules.specs.Expressions.{typed, call_typed}
use Rattle.region_typing_rules.specs.Cells.{is_length}
use Rattle.region_typing_rules.specs.CheckPlaces.{InExpression, InInitializer, InOptional, InOneOf, InDeclarator, InDeclaration, InAssignment, InInitial, InStatement, InStatements, InBody, InItem}
use Rattle.region_typing_rules.specs.Statements.{Walked, store, update, assigned, set_to, declared_for, moved, updated_as, updated, stored, step_of, one, assignment, assigning, assignments, zero_value, with_local, initialised, bounded_local, declarator, declarators, declaration, at_alternative, before_step, in_loop, is_unchecked, is_checked, condition, optional_condition, optional_step, first_part, alone, meets_declared, returned, returned_nothing, return, statement, statements, with_array, both, first_length}
use Rattle.region_typing_rules.specs.DeclaredBounds.{unwritten_bounds, declared_bounds}
use Rattle.region_typing_rules.specs.Items.{body_scope, Defined, Parameter, Walk, inside, core_function, function_body, item, items}
use Rattle.region_typing_rules.specs.Cores.{body_of, small_core}
use Rattle.region_typing_rules.specs.Knowing.{when, at_loop, assigned_by, knowing}
use Rattle.region_typing_rules.proofs.Assigning.{assigning_promises, declared_promises, settled_promises, bundle_promises}
use Rattle.region_typing_rules.proofs.Kept.{structure_kept, global_kept, function_kept}
use Rattle.region_typing_rules.proofs.LocalArrays.{declarator_promises, memory_of, settled_array}
use Rattle.region_typing_rules.proofs.Sides.{core_is, trusted_functions, sides_parted}
use Rattle.region_typing_rules.proofs.Sites.{LvalueSites, TypedSites, CalledSites, number_of_sites, scalar_of_sites, two_sites, converted_sites, typed_sites, call_typed_sites, at_site_sites, row_sites}
use Rattle.region_typing_rules.proofs.Verdicts.{Promises, passing_promises, needs_promises, anything_promised, apart_promises, met_promises}
use Rattle.region_typing_rules.proofs.Walks.{all_append}

module _ (P : Site → Type 0) where
  abbrev WalkedSites : Walked → Type 0
  WalkedSites w = StatementSites P w.0

  -- ---- assignments

  assigned_sites : (target : Typed) (span : Span) (next : CType → Lvalue → Verdict core.Statement) → TypedSites P target → ((type : CType) (place : Lvalue) → LvalueSites P place → Promises (StatementSites P) (next type place)) → Promises (StatementSites P) (assigned target span next)
  assigned_sites (Value type zero value ForNothing) span next h more = tt
  assigned_sites (Value type zero value ForArray) span next h more = tt
  assigned_sites (Value type zero value (For place)) span next h more = more type place h.1
  assigned_sites (AStruct number place) span next h more = tt

  store_sites : (place : Lvalue) (type : CType) (value : core.Expression) → LvalueSites P place → ExpressionSites P value → StatementSites P (store place type value)
  store_sites (OfLocal k) type value hp h = h
  store_sites (OfCell p) type value hp h = (hp, h)
  store_sites (OfBounded k b) type value hp h = (tt, h)
  store_sites (OfUnknown k) type value hp h = (tt, h)

  update_sites : (place : Lvalue) (type : CType) (operator : Operator) (value : core.Expression) (site : Site) → P site → LvalueSites P place → ExpressionSites P value → StatementSites P (update place type operator value site)
  update_sites (OfLocal k) type operator value site hs hp h = (h, hs)
  update_sites (OfCell (core.Direct object offset)) type operator value site hs hp h = (tt, h, hs)
  update_sites (OfCell (core.Through pointer index offset before)) type operator value site hs hp h = ((hp.0, hp.1, hs), h, hs)
  update_sites (OfBounded k b) type operator value site hs hp h = (tt, h, hs)
  update_sites (OfUnknown k) type operator value site hs hp h = (tt, h, hs)

  set_sites : (f : Knowledge) (target right : Typed) (span : Span) → TypedSites P target → TypedSites P right → Promises (StatementSites P) (set_to f target right span)
  set_sites f target right span ht hr =
      assigned_sites target span _ ht
      (λ type place hp. converted_sites P (StatementSites P) right type span _ hr
      (λ v h. needs_promises (StatementSites P) (meets_declared f (declared_for place type) right type) E17 span _ (λ met. store_sites place type v hp h)))

  moved_sites : (f : Knowledge) (place : Lvalue) (type : CType) (sum : core.Expression) (span : Span) → ExpressionSites P sum → Promises (StatementSites P) (moved f place type sum span)
  moved_sites f (OfLocal k) type sum span h = h
  moved_sites f (OfCell p) type sum span h = needs_promises (StatementSites P) (meets f sum (unwritten_bounds type)) E17 span (breaks E18 span) (λ met. tt)
  moved_sites f (OfBounded k b) type sum span h = needs_promises (StatementSites P) (meets f sum (Some b)) E17 span _ (λ met. (tt, h))
  moved_sites f (OfUnknown k) type sum span h = tt

  updated_as_sites : (g : Scope) (direction : Direction) (type : CType) (place : Lvalue) (target right : Typed) (site : Site) (span : Span) → P site → LvalueSites P place → TypedSites P target → TypedSites P right
      → Promises (StatementSites P) (updated_as g direction type place target right site span)
  updated_as_sites g direction (Pointer mode kind t) place (Value u zero pointer old) right site span hs hp ht hr =
      let hpointer = ht.0 in
      number_of_sites P (StatementSites P) right span (λ v. moved g.flow place (Pointer mode kind t) (core.Sum pointer direction v site (sum_node g.locals direction pointer v site)) span) hr
      (λ v h. moved_sites g.flow place (Pointer mode kind t) (core.Sum pointer direction v site (sum_node g.locals direction pointer v site)) span (hpointer, h, hs, at_site_sites P site _ _ hs))
  updated_as_sites g direction (Pointer mode kind t) place (AStruct k old) right site span hs hp ht hr = tt
  updated_as_sites g direction Int place target right site span hs hp ht hr =
      two_sites P (StatementSites P) target right span (λ old v. Passes (update place Int (operator_along direction) v site)) ht hr (λ old v ho h. update_sites place Int (operator_along direction) v site hs hp h)
  updated_as_sites g direction Char place target right site span hs hp ht hr =
      two_sites P (StatementSites P) target right span (λ old v. Passes (update place Char (operator_along direction) v site)) ht hr (λ old v ho h. update_sites place Char (operator_along direction) v site hs hp h)
  updated_as_sites g direction (Struct k) place target right site span hs hp ht hr =
      two_sites P (StatementSites P) target right span (λ old v. Passes (update place (Struct k) (operator_along direction) v site)) ht hr (λ old v ho h. update_sites place (Struct k) (operator_along direction) v site hs hp h)

  updated_sites : (at : Places) (g : Scope) (direction : Direction) (target right : Typed) (span : Span) → P (site_at at span) → TypedSites P target → TypedSites P right → Promises (StatementSites P) (updated at g direction target right span)
  updated_sites at g direction target right span hs ht hr =
      assigned_sites target span _ ht
      (λ type place hp. apart_promises (StatementSites P) target right span _ (updated_as_sites g direction type place target right (site_at at span) span hs hp ht hr))

  stored_sites : (at : Places) (g : Scope) (operator : StoreOperator) (target right : Typed) (span : Span) → P (site_at at span) → TypedSites P target → TypedSites P right → Promises (StatementSites P) (stored at g operator target right span)
  stored_sites at g stores.Set target right span hs ht hr = set_sites g.flow target right span ht hr
  stored_sites at g stores.Add target right span hs ht hr = updated_sites at g directions.Forward target right span hs ht hr
  stored_sites at g stores.Subtract target right span hs ht hr = updated_sites at g directions.Backward target right span hs ht hr

  zero_sites : (t : CType) → ExpressionSites P (zero_value t)
  zero_sites Int = tt
  zero_sites Char = tt
  zero_sites (Struct n) = tt
  zero_sites (Pointer m k t) = tt

  alone_sites : (c : Called) → CalledSites P c → StatementSites P (alone c)
  alone_sites (Gives type value) h = h
  alone_sites (GivesNothing call) h = h

  module _ (at : Places) where
    -- this holds of the starts of all spans that are among these
    abbrev pub Covered : (Span → Type 0) → Type 0
    Covered In = (span : Span) → In span → P (site_at at span)

    assignment_sites : (s : Scope) (a : Assignment) → Covered (λ x. InAssignment x a) → Promises (StatementSites P) (assignment at s a)
    assignment_sites s (trees.Store operator target value span) all =
        passing_promises (TypedSites P) (StatementSites P) (typed at s target) _ (typed_sites P at s target (λ x h. all x (inr (inl h))))
        (λ a ha. passing_promises (TypedSites P) (StatementSites P) (typed at s value) _ (typed_sites P at s value (λ x h. all x (inr (inr h))))
        (λ b hb. stored_sites at s operator a b span (all span (inl refl)) ha hb))
    assignment_sites s (trees.Step operator side target span) all =
        passing_promises (TypedSites P) (StatementSites P) (typed at s target) _ (typed_sites P at s target (λ x h. all x (inr h)))
        (λ a ha. updated_sites at s (step_of operator) a one span (all span (inl refl)) ha (tt, tt))

    assigning_sites : (s : Scope) (a : Assignment) → Covered (λ x. InAssignment x a) → Promises WalkedSites (assigning at s a)
    assigning_sites s a all = assigning_promises (StatementSites P) WalkedSites at s a (assignment_sites s a all) (λ x k h. h)

    condition_sites : (s : Scope) (x : Expression) → Covered (λ y. InExpression y x) → Promises (ExpressionSites P) (condition at s x)
    condition_sites s x all = passing_promises (TypedSites P) (ExpressionSites P) (typed at s x) _ (typed_sites P at s x all) (λ t h. scalar_of_sites P (ExpressionSites P) t (expression_span x) Passes h (λ v hv. hv))

    optional_sites : (s : Scope) (o : Option Expression) → Covered (λ x. InOptional InExpression x o) → Promises (ExpressionSites P) (optional_condition at s o)
    optional_sites s None all = tt
    optional_sites s (Some x) all = condition_sites s x all

    step_sites : (s : Scope) (o : Option Assignment) → Covered (λ x. InOptional InAssignment x o) → Promises WalkedSites (optional_step at s o)
    step_sites s None all = tt
    step_sites s (Some a) all = assigning_sites s a all

    -- ---- locals

    initialised_sites : (s : Scope) (o : Option Initializer) (t : CType) (k : ℕ) (span : Span) → Covered (λ x. InOptional InInitializer x o) → Promises (StatementSites P) (initialised at s o t k span)
    initialised_sites s None t k span all = tt
    initialised_sites s (Some (trees.Value value)) t k span all =
        passing_promises (TypedSites P) (StatementSites P) (typed at s value) _ (typed_sites P at s value all)
        (λ x h. converted_sites P (StatementSites P) x t span _ h (λ v hv. met_promises (StatementSites P) s.flow x t span _ hv))
    initialised_sites s (Some (trees.Constants constants list)) t k span all = tt

    both_sites : (x y : core.Statement) → StatementSites P x → StatementSites P y → StatementSites P (both x y)
    both_sites x y hx hy = (hx, (hy, tt))

    bounded_local_sites : (s : Scope) (d : Declarator) (t : CType) (span : Span) (b : Option Bounds) → Covered (λ x. InDeclarator x d) → Promises WalkedSites (bounded_local at s d t span b)
    bounded_local_sites s d t span b all =
        let inner = with_local d.name.number t b s in
        passing_promises (StatementSites P) WalkedSites (initialised at inner d.initializer t (length s.locals) span) _ (initialised_sites inner d.initializer t (length s.locals) span all)
        (λ initial h. needs_promises WalkedSites (is_scalar t) E13 span _
        (λ scalar. declared_promises WalkedSites inner d.initializer t (length s.locals) span initial (λ k. both_sites (core.SetLocal (length s.locals) (zero_value t)) initial (zero_sites t) h)))

    array_sites : (s : Scope) (d : Declarator) (t : CType) (count : ℕ) (ended : Bool) (span : Span) → P (site_at at span)
        → Promises WalkedSites (settled_array (with_array d.name.number t count ended s) (length s.locals) (memory_of (with_array d.name.number t count ended s) ended t count (site_at at span)) span)
    array_sites s d t count ended span hs =
        let inner = with_array d.name.number t count ended s in
        let set = core.SetLocal (length s.locals) (memory_of inner ended t count (site_at at span)) in
        settled_promises WalkedSites (both (core.SetLocal (length s.locals) core.Null) set) inner (assigned_by inner.locals set inner.flow) span
        (λ k. both_sites (core.SetLocal (length s.locals) core.Null) set tt (tt, row_sites P inner.structs t ended _ (site_at at span) hs))

    declarator_sites : (s : Scope) (base : TypeTree) (type : CType) (span : Span) (d : Declarator) → P (site_at at span) → Covered (λ x. InDeclarator x d) → Promises WalkedSites (declarator at s base type span d)
    declarator_sites s base type span d hs all =
        declarator_promises WalkedSites (λ (t : CType). Unit {0}) at s base type span d (λ low. anything_promised (without_stars base d.stars type))
        (λ low t _. passing_promises (λ (b : Option Bounds). Unit {0}) WalkedSites (declared_bounds (with_local d.name.number t None s) t (length s.locals) d.bounds) _
        (anything_promised (declared_bounds (with_local d.name.number t None s) t (length s.locals) d.bounds)) (λ b _. bounded_local_sites s d t span b all))
        (λ low t _ count here counted ended may. array_sites s d t count ended span hs)

    declarators_sites : (s : Scope) (base : TypeTree) (type : CType) (span : Span) (ds : List Declarator) → P (site_at at span) → Covered (λ x. InOneOf InDeclarator x ds) → Promises WalkedSites (declarators at s base type span ds)
    declarators_sites s base type span [] hs all = tt
    declarators_sites s base type span (d ∷ ds) hs all =
        passing_promises WalkedSites WalkedSites (declarator at s base type span d) _ (declarator_sites s base type span d hs (λ x h. all x (inl h)))
        (λ first hf. passing_promises WalkedSites WalkedSites (declarators at first.1 base type span ds) _ (declarators_sites first.1 base type span ds hs (λ x h. all x (inr h))) (λ rest h. both_sites first.0 rest.0 hf h))

    declaration_sites : (s : Scope) (d : Declaration) → Covered (λ x. InDeclaration x d) → Promises WalkedSites (declaration at s d)
    declaration_sites s d all =
        needs_promises WalkedSites (nat_lt (length s.locals) s.flow.vars) E08 d.span _
        (λ room. needs_promises WalkedSites (is_length (first_length d.declarators)) E08 d.span _
        (λ fits. passing_promises (λ (t : CType). Unit {0}) WalkedSites (base_type s d.base) _ (anything_promised (base_type s d.base))
        (λ type _. declarators_sites s d.base type d.span d.declarators (all d.span (inl refl)) (λ x h. all x (inr h)))))

    first_sites : (s : Scope) (initial : ForInitial) → Covered (λ x. InInitial x initial) → Promises WalkedSites (first_part at s initial)
    first_sites s trees.Nothing all = tt
    first_sites s (trees.Declares d) all = declaration_sites s d all
    first_sites s (trees.Assigns a) all = assigning_sites s a all

    -- ---- results

    returned_sites : (f : Knowledge) (o : Option CType) (b : Option Bounds) (t : Typed) (span : Span) → TypedSites P t → Promises (StatementSites P) (returned f o b t span)
    returned_sites f None b t span h = tt
    returned_sites f (Some type) b t span h = converted_sites P (StatementSites P) t type span _ h (λ v hv. needs_promises (StatementSites P) (meets_declared f b t type) E17 span _ (λ met. hv))

    nothing_sites : (o : Option CType) (span : Span) → Promises (StatementSites P) (returned_nothing o span)
    nothing_sites None span = tt
    nothing_sites (Some type) span = tt

    return_sites : (s : Scope) (o : Option Expression) (span : Span) → Covered (λ x. InOptional InExpression x o) → Promises (StatementSites P) (return at s o span)
    return_sites s None span all = nothing_sites s.result span
    return_sites s (Some x) span all = passing_promises (TypedSites P) (StatementSites P) (typed at s x) _ (typed_sites P at s x all) (λ t h. returned_sites s.flow s.result s.result_bounds t span h)

    -- ---- statements

    abbrev pub AreSited : core.Statements × Scope → Type 0
    AreSited w = StatementsSites P w.0

    abbrev SitedAssignments : core.Statements × Knowledge → Type 0
    SitedAssignments w = StatementsSites P w.0

    bundled_sites : (s : Scope) (written : List Assignment) → Covered (λ x. InOneOf InAssignment x written) → (f : Knowledge) → Promises SitedAssignments (assignments at (knowing f s) written)
    bundled_sites s [] all f = tt
    bundled_sites s (a ∷ written) all f =
        passing_promises (StatementSites P) SitedAssignments (assignment at (knowing f s) a) _ (assignment_sites (knowing f s) a (λ x h. all x (inl h)))
        (λ x hx. passing_promises SitedAssignments SitedAssignments (assignments at (knowing (assigned_by s.locals x f) s) written) _ (bundled_sites s written (λ y h. all y (inr h)) (assigned_by s.locals x f)) (λ rest h. (hx, h)))

    mutual
      pub statement_sites : (s : Scope) (x : Statement) → Covered (λ y. InStatement y x) → Promises WalkedSites (statement at s x)
      statement_sites s (trees.Block mark inner span) all =
          passing_promises AreSited WalkedSites (statements at s inner) _ (statements_sites s inner all)
          (λ w h. needs_promises WalkedSites (not (is_unchecked mark || s.is_off)) E15 span _ (λ on. h))
      statement_sites s (trees.Bundle written span) all = bundle_promises SitedAssignments WalkedSites at s written span (bundled_sites s written all (in_bundle s.flow)) (λ w k h. h)
      statement_sites s (trees.Declare d span) all = declaration_sites s d all
      statement_sites s (trees.Assign a span) all = assigning_sites s a all
      statement_sites s (trees.CallAlone call span) all = passing_promises (CalledSites P) WalkedSites (call_typed at s call) _ (call_typed_sites P at s call all) (λ c h. alone_sites c h)
      statement_sites s (trees.Empty span) all = tt
      statement_sites s (trees.If test consequent span) all =
          passing_promises (ExpressionSites P) WalkedSites (condition at s test) _ (condition_sites s test (λ x h. all x (inl h)))
          (λ c hc. passing_promises WalkedSites WalkedSites (statement at (when c true s) consequent) _ (statement_sites (when c true s) consequent (λ x h. all x (inr h))) (λ x hx. (hc, hx, tt)))
      statement_sites s (trees.IfElse test consequent alternative span) all =
          passing_promises (ExpressionSites P) WalkedSites (condition at s test) _ (condition_sites s test (λ x h. all x (inl h)))
          (λ c hc. passing_promises WalkedSites WalkedSites (statement at (when c true s) consequent) _ (statement_sites (when c true s) consequent (λ x h. all x (inr (inl h))))
          (λ x hx. passing_promises WalkedSites WalkedSites (statement at (at_alternative s c x.1) alternative) _ (statement_sites (at_alternative s c x.1) alternative (λ y h. all y (inr (inr h)))) (λ y hy. (hc, hx, hy))))
      statement_sites s (trees.While test body span) all =
          let head = at_loop body None s in
          passing_promises (ExpressionSites P) WalkedSites (condition at head test) _ (condition_sites head test (λ x h. all x (inl h)))
          (λ c hc. passing_promises WalkedSites WalkedSites (statement at (in_loop (when c true head)) body) _ (statement_sites (in_loop (when c true head)) body (λ x h. all x (inr h))) (λ x hx. (hc, hx, tt)))
      statement_sites s (trees.For initial test step body span) all =
          passing_promises WalkedSites WalkedSites (first_part at s initial) _ (first_sites s initial (λ x h. all x (inl h)))
          (λ first hf. let head = at_loop body step first.1 in
          passing_promises (ExpressionSites P) WalkedSites (optional_condition at head test) _ (optional_sites head test (λ x h. all x (inr (inl h))))
          (λ c hc. passing_promises WalkedSites WalkedSites (statement at (in_loop (when c true head)) body) _ (statement_sites (in_loop (when c true head)) body (λ x h. all x (inr (inr (inr h)))))
          (λ x hx. passing_promises WalkedSites WalkedSites (optional_step at (before_step first.1 x.1) step) _ (step_sites (before_step first.1 x.1) step (λ y h. all y (inr (inr (inl h)))))
          (λ y hy. both_sites first.0 (core.Loop c x.0 y.0) hf (hc, hx, hy)))))
      statement_sites s (trees.Return value span) all = passing_promises (StatementSites P) WalkedSites (return at s value span) _ (return_sites s value span all) (λ x h. h)
      statement_sites s (trees.Break span) all = needs_promises WalkedSites s.in_loop E30 span _ (λ yes. tt)
      statement_sites s (trees.Continue span) all = needs_promises WalkedSites s.in_loop E30 span _ (λ yes. tt)

      pub statements_sites : (s : Scope) (xs : Statements) → Covered (λ y. InStatements y xs) → Promises AreSited (statements at s xs)
      statements_sites s trees.NoMore all = tt
      statements_sites s (trees.Then first others) all =
          passing_promises WalkedSites AreSited (statement at s first) _ (statement_sites s first (λ x h. all x (inl h)))
          (λ x hx. passing_promises AreSited AreSited (statements at x.1 others) _ (statements_sites x.1 others (λ y h. all y (inr h))) (λ y hy. (hx, hy)))

    -- ---- functions and programs

    abbrev HasSites : Defined → Type 0
    HasSites b = FunctionSites P b.function

    abbrev AreBodies : List Signature → List Defined → Type 0
    AreBodies functions bodies = AllByRecursion HasSites bodies

    abbrev WalkSites : Walk → Type 0
    WalkSites w = AllByRecursion HasSites w.bodies

    abbrev behind_body : Walk → Signature → List Parameter → i.Body → core.Statements × Scope → Verdict Walk
    behind_body w f parameters body x = is_checked w.scope body.mark body.span (Passes (record w { scope = body_scope w body; bodies = w.bodies ++ record { name = f.name; function = core_function f parameters x.0 x.1 } ∷ [] }))

    body_sites : (w : Walk) (f : Signature) (parameters : List Parameter) (body : Option i.Body) → Covered (λ x. InOptional InBody x body) → WalkSites w → Promises WalkSites (function_body at w f parameters body)
    body_sites w f parameters None all h = h
    body_sites w f parameters (Some body) all h =
        passing_promises AreSited WalkSites (statements at (inside f parameters body.statements (body_scope w body)) body.statements) (behind_body w f parameters body)
        (statements_sites (inside f parameters body.statements (body_scope w body)) body.statements all)
        (λ x hx. needs_promises WalkSites (not (is_unchecked body.mark || w.scope.is_off)) E15 body.span (Passes (record w { scope = body_scope w body; bodies = w.bodies ++ record { name = f.name; function = core_function f parameters x.0 x.1 } ∷ [] }))
        (λ e. all_append HasSites w.bodies (record { name = f.name; function = core_function f parameters x.0 x.1 }) h hx))

    item_sites : (whole : List Item) (w : Walk) (x : Item) → Covered (λ y. InItem y x) → WalkSites w → Promises WalkSites (item at whole w x)
    item_sites whole w (i.RegionItem region span) all h = h
    item_sites whole w (i.StructureItem d) all h = structure_kept AreBodies w d h
    item_sites whole w (i.GlobalItem g) all h = global_kept AreBodies at w g h
    item_sites whole w (i.FunctionItem d) all h = function_kept AreBodies at whole w d (λ f room. h) (λ v f parameters sited. body_sites v f parameters d.body all sited)

    pub items_sites : (whole : List Item) (w : Walk) (xs : List Item) → Covered (λ y. InOneOf InItem y xs) → WalkSites w → Promises WalkSites (items at whole w xs)
    items_sites whole w [] all h = h
    items_sites whole w (x ∷ xs) all h =
        passing_promises WalkSites WalkSites (item at whole w x) (λ v. items at whole v xs) (item_sites whole w x (λ y k. all y (inl k)) h) (λ v k. items_sites whole v xs (λ y l. all y (inr l)) k)

    body_of_sites : (bodies : List Defined) (f : Signature) → AllByRecursion HasSites bodies → FunctionSites P (body_of bodies f)
    body_of_sites [] f all = tt
    body_of_sites (b ∷ bodies) f all = chosen (f.name == b.name) all.0 (body_of_sites bodies f all.1)
      where
        chosen : (test : Bool) → FunctionSites P b.function → FunctionSites P (body_of bodies f) → FunctionSites P (picked test b.function (body_of bodies f))
        chosen true h again = h
        chosen false h again = again

    functions_sites : (bodies : List Defined) (functions : List Signature) → AllByRecursion HasSites bodies → AllByRecursion (FunctionSites P) (trusted_functions bodies functions)
    functions_sites bodies [] all = tt
    functions_sites bodies (f ∷ functions) all = chosen (is_import f) (body_of_sites bodies f all) (functions_sites bodies functions all)
      where
        chosen : (test : Bool) → FunctionSites P (body_of bodies f) → AllByRecursion (FunctionSites P) (trusted_functions bodies functions) → AllByRecursion (FunctionSites P) (picked test (trusted_functions bodies functions) (body_of bodies f ∷ trusted_functions bodies functions))
        chosen true h rest = rest
        chosen false h rest = (h, rest)

    pub walked_sites : (entry : ℕ) (span : Span) (v : Verdict Walk) (c : Core) → Promises WalkSites v → passing v (small_core entry span) ≡ Passes c → AllByRecursion (FunctionSites P) (parted c).functions
    walked_sites entry span (Passes w) c h e =
        let same = (core_is entry span w c e).same in
        subst (λ (x : Parted). AllByRecursion (FunctionSites P) x.functions) (sides_parted entry w ∙ ap parted same) (functions_sites w.bodies w.scope.functions h)
    walked_sites entry span (Stops stop) c h e = absurd (cc)
