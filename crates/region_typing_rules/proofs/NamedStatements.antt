-- In a statement each name stands for something, and the scopes behind it agree again.
use Rattle.std.proofs.Common.{◌≡◌, ℕ, Bool, true, false, List, [], ◌∷◌, ◌++◌, map, length, Option, Some, None, refl, sym, subst}
use Rattle.std.specs.Prelude.{◌&&◌, ◌||◌, not, nat_lt, flat_map, Ok}
use Rattle.std.specs.List.{list_all}
use Rattle.std.specs.Option.{option_map}
use Rattle.std.proofs.lemmas.Bool.{and_parts}
use Rattle.ckc_text.specs.declared.place.Span.{Span}
use Rattle.ckc_text.specs.declared.code.Code.TheVariants.{E08, E13, E15, E30, E21}
use Rattle.ckc_tree.specs.Types.{TypeTree, type_span}
use Rattle.ckc_tree.specs.Expressions.{Expression, expression_span}
use Rattle.ckc_tree.specs.Statements as s
use Rattle.ckc_tree.specs.Statements.{Initializer, Declarator, Declaration, Assignment, ForInitial, Statement, Statements}
use Rattle.ckc_tree.specs.Numbers.{Numbers, number_type, number_expression, number_bounds, number_initializer, number_declarator, number_declaration, number_assignment, number_initial, number_statement, number_statements}
use Rattle.built_forms.specs.Built.{built_bounds, built_expression, optional, built_initializer, built_declarator, built_declaration, built_assignment, built_initial, built_statement, built_statements}
use Rattle.ckc_names_rules.specs.Mentions.{type_mentions, expression_mentions, bounds_mentions, optional_mentions, initializer_mentions, declarator_mentions, declaration_mentions, assignment_mentions, for_initial_mentions, in_block, statement_mentions, statements_mentions}
use Rattle.ckc_names_rules.specs.Scopes.{Variable, Scopes, standing_for, all_mentioned}
use Rattle.pointer_modes.specs.Types.{CType, Int}
use Rattle.ckc_core.specs.Core as core
use Rattle.region_typing_rules.specs.Verdicts.{Passes}
use Rattle.region_typing_rules.specs.Scopes.{Scope}
use Rattle.region_typing_rules.specs.Types.{is_scalar, may_lead_to, without_stars, base_type}
use Rattle.region_typing_rules.specs.Operands.{Places, site_at}
use Rattle.region_typing_rules.specs.Expressions.{typed, call_typed}
use Rattle.bounds_exprs.specs.declared.term.Bounds.{Bounds}
use Rattle.bounds_flow.specs.Flows.{Knowledge, in_bundle}
use Rattle.region_typing_rules.specs.DeclaredBounds.{declared_bounds, row_of}
use Rattle.bounds_flow.specs.Settling.{Finding, Meets, WasLost, Falls}
use Rattle.region_typing_rules.specs.Readings.{told}
use Rattle.region_typing_rules.specs.Knowing.{assigned_by, first_found, settled_as, settling, knowing, when, cut, broken, continued, at_loop}
use Rattle.region_typing_rules.specs.Statements.{array_kind, is_ended_array, before_end, array_memory, step_of, one, assignment, assigning, with_local, initialised, first_value, bounded_local, declarator, declarators, declaration, behind_block, behind_branch, behind_both, behind_loop, before_step, in_loop, is_unchecked, condition, optional_condition, optional_step, first_part, return, statement, statements, length_of, local_of, row_type, with_array, array_bounds, without_initial, array_in, first_length, assignments, bundle, are_locals}
use Rattle.region_typing_rules.proofs.NamedVerdicts.{IsNamed, AllNamed, Any, passing_named, then_named, needs_named, scalar_named, met_named, converted_named, updated_named, stored_named, returned_named, nothing_named, memory_named, converted_so}
use Rattle.region_typing_rules.proofs.NamedMentions.{AreFound, mentioned_append, quiet_front, quiet_all, found_append, type_quiet, expression_quiet, bounds_quiet, optional_quiet, initializer_quiet, assignment_quiet, declared_front, opened, block_mentioned, block_front, for_mentions, for_keeps, statement_keeps, statements_keep, assignments_quiet}
use Rattle.region_typing_rules.proofs.NamedScopes.{Agrees, opened_agrees, loop_agrees, flow_agrees, flow_later, from_flow, Later, later_same, later_further, later_block, later_loop, later_local, behind_agrees, local_agrees, found_tags, base_named, stars_named, arrays_agree, later_arrays}
use Rattle.region_typing_rules.proofs.NamedExpressions.{typed_named, call_named}
use Rattle.region_typing_rules.proofs.NamedBounds.{bounds_named}
use Rattle.region_typing_rules.specs.Cells.{is_length}

-- the scopes of naming agree with these, which are those before with locals entered
pub record IsBehind (of : Numbers) (m : Scopes) (g after : Scope) : Type 0 where
  pub agrees : Agrees of m after
  pub later : Later g after

abbrev pub Behind : {A : Type 0} → Numbers → Scopes → Scope → A × Scope → Type 0
Behind of m g w = IsBehind of m g w.1

behind_same : (of : Numbers) → (n m : Scopes) (g : Scope) → m ≡ n → Agrees of n g → IsBehind of m g g
behind_same of n m g same h = record { agrees = subst (λ k. Agrees of k g) (sym same) h; later = later_same g }

behind_block_is : (of : Numbers) → (n m : Scopes) (g after : Scope) → m ≡ n → Agrees of n g → Later g after → IsBehind of m g (behind_block g after)
behind_block_is of n m g after same h later = record { agrees = subst (λ k. Agrees of k (behind_block g after)) (sym same) (behind_agrees of n g after h later); later = later_block g after later }

behind_further : (of : Numbers) → (m : Scopes) (a b c : Scope) → Later a b → IsBehind of m b c → IsBehind of m a c
behind_further of m a b c h h' = record { agrees = h'.agrees; later = later_further a b c h h'.later }

behind_flow : (of : Numbers) → (m : Scopes) (g after : Scope) (k : ℕ) (f : Knowledge) (b c : Option Knowledge) → IsBehind of m g after → IsBehind of m g (record after { outside = k; flow = f; breaks = b; continues = c })
behind_flow of m g after k f b c h = record { agrees = flow_agrees of m after k f b c h.agrees; later = flow_later g after k f b c h.later }

-- a settling speaks of no name
found_named : (found : Finding) (f : Knowledge) (span : Span) → AllNamed (settled_as found f span)
found_named Meets f span = tt
found_named WasLost f span = tt
found_named (Falls asked) f span = tt

settling_named : (f : Knowledge) (span : Span) → AllNamed (settling f span)
settling_named f span = found_named (first_found f.facts f.held) f span

module _ (of : Numbers) (at : Places) where
  -- ---- assignments and conditions

  assignment_named : (n : Scopes) (g : Scope) → Agrees of n g → (a : Assignment) → built_assignment a ≡ true → AreFound n (assignment_mentions a) → AllNamed (assignment at g (number_assignment of a))
  assignment_named n g agrees (s.Store operator target value span) built found =
      let parts = and_parts (built_expression target) (built_expression value) built in
      let both = found_append n (expression_mentions target) (expression_mentions value) found in
      then_named Any (typed at g (number_expression of target)) _ (typed_named of at n g agrees target parts.0 both.0)
      (λ a. then_named Any (typed at g (number_expression of value)) _ (typed_named of at n g agrees value parts.1 both.1) (λ b. stored_named at g operator a b span))
  assignment_named n g agrees (s.Step operator side target span) built found =
      then_named Any (typed at g (number_expression of target)) _ (typed_named of at n g agrees target built found) (λ a. updated_named at g (step_of operator) a one span)

  -- an assignment, with what is known behind it
  assigning_named : (n m : Scopes) (g : Scope) → m ≡ n → Agrees of n g → (a : Assignment) → built_assignment a ≡ true → AreFound n (assignment_mentions a) → IsNamed (Behind {A = core.Statement} of m g) (assigning at g (number_assignment of a))
  assigning_named n m g same agrees a built found =
      then_named (Behind {A = core.Statement} of m g) (assignment at g (number_assignment of a)) _ (assignment_named n g agrees a built found)
      (λ x. then_named (Behind {A = core.Statement} of m g) (settling (assigned_by g.locals x g.flow) (s.assignment_span (number_assignment of a))) _ (settling_named (assigned_by g.locals x g.flow) (s.assignment_span (number_assignment of a)))
      (λ f. behind_flow of m g g g.outside f g.breaks g.continues (behind_same of n m g same agrees)))

  -- assignments in a bundle
  assignments_named : (n : Scopes) (g : Scope) → Agrees of n g → (f : Knowledge) (written : List Assignment) → list_all built_assignment written ≡ true → AreFound n (flat_map assignment_mentions written) → AllNamed (assignments at (knowing f g) (map (number_assignment of) written))
  assignments_named n g agrees f [] built found = tt
  assignments_named n g agrees f (a ∷ written) built found =
      let parts = and_parts (built_assignment a) (list_all built_assignment written) built in
      let both = found_append n (assignment_mentions a) (flat_map assignment_mentions written) found in
      let here = flow_agrees of n g g.outside f g.breaks g.continues agrees in
      then_named Any (assignment at (knowing f g) (number_assignment of a)) _ (assignment_named n (knowing f g) here a parts.0 both.0)
      (λ x. then_named Any (assignments at (knowing (assigned_by g.locals x f) g) (map (number_assignment of) written)) _ (assignments_named n g agrees (assigned_by g.locals x f) written parts.1 both.1) (λ rest. tt))

  bundle_named : (n m : Scopes) (g : Scope) → m ≡ n → Agrees of n g → (written : List Assignment) (span : Span) → list_all built_assignment written ≡ true → AreFound n (flat_map assignment_mentions written)
      → IsNamed (Behind {A = core.Statement} of m g) (bundle at g (map (number_assignment of) written) span)
  bundle_named n m g same agrees written span built found =
      then_named (Behind {A = core.Statement} of m g) (assignments at (knowing (in_bundle g.flow) g) (map (number_assignment of) written)) _ (assignments_named n g agrees (in_bundle g.flow) written built found)
      (λ w. needs_named (Behind {A = core.Statement} of m g) (are_locals g.visible (map (number_assignment of) written)) E21 span _
      (then_named (Behind {A = core.Statement} of m g) (settling w.1 span) _ (settling_named w.1 span) (λ f. behind_flow of m g g g.outside f g.breaks g.continues (behind_same of n m g same agrees))))

  condition_named : (n : Scopes) (g : Scope) → Agrees of n g → (x : Expression) → built_expression x ≡ true → AreFound n (expression_mentions x) → AllNamed (condition at g (number_expression of x))
  condition_named n g agrees x built found = then_named Any (typed at g (number_expression of x)) _ (typed_named of at n g agrees x built found) (λ t. scalar_named t (expression_span (number_expression of x)) Passes (λ v. tt))

  optional_condition_named : (n : Scopes) (g : Scope) → Agrees of n g → (o : Option Expression) → optional built_expression o ≡ true → AreFound n (optional_mentions expression_mentions o) → AllNamed (optional_condition at g (option_map (number_expression of) o))
  optional_condition_named n g agrees None built found = tt
  optional_condition_named n g agrees (Some x) built found = condition_named n g agrees x built found

  step_named : (n : Scopes) (g : Scope) → Agrees of n g → (o : Option Assignment) → optional built_assignment o ≡ true → AreFound n (optional_mentions assignment_mentions o) → IsNamed (Behind {A = core.Statement} of n g) (optional_step at g (option_map (number_assignment of) o))
  step_named n g agrees None built found = behind_same of n n g refl agrees
  step_named n g agrees (Some a) built found = assigning_named n n g refl agrees a built found

  return_named : (n : Scopes) (g : Scope) → Agrees of n g → (o : Option Expression) (span : Span) → optional built_expression o ≡ true → AreFound n (optional_mentions expression_mentions o) → AllNamed (return at g (option_map (number_expression of) o) span)
  return_named n g agrees None span built found = nothing_named g.result span
  return_named n g agrees (Some x) span built found = then_named Any (typed at g (number_expression of x)) _ (typed_named of at n g agrees x built found) (λ t. returned_named g.flow g.result g.result_bounds t span)

  -- ---- declarations

  initialised_named : (n : Scopes) (g : Scope) → Agrees of n g → (o : Option Initializer) (type : CType) (local : ℕ) (span : Span) → optional built_initializer o ≡ true → AreFound n (optional_mentions initializer_mentions o)
      → AllNamed (initialised at g (option_map (number_initializer of) o) type local span)
  initialised_named n g agrees None type local span built found = tt
  initialised_named n g agrees (Some (s.Value value)) type local span built found = then_named Any (typed at g (number_expression of value)) _ (typed_named of at n g agrees value built found) (λ t. converted_named t type span _ (λ v. met_named g.flow t type span _ tt))
  initialised_named n g agrees (Some (s.Constants constants list)) type local span built found = tt

  bounded_local_named : (m : Scopes) (g : Scope) (d : Declarator) (t : CType) (span : Span) (b : Option Bounds) → Agrees of m (with_local (of d.name.name) t b g) → optional built_initializer d.initializer ≡ true
      → AreFound m (optional_mentions initializer_mentions d.initializer) → IsNamed (Behind {A = core.Statement} of m g) (bounded_local at g (number_declarator of d) t span b)
  bounded_local_named m g d t span b now built found =
      let inside = with_local (of d.name.name) t b g in
      then_named (Behind {A = core.Statement} of m g) (initialised at inside (option_map (number_initializer of) d.initializer) t (length g.locals) span) _
      (initialised_named m inside now d.initializer t (length g.locals) span built found)
      (λ x. needs_named (Behind {A = core.Statement} of m g) (is_scalar t) E13 span _
      (let value = assigned_by inside.locals (first_value (option_map (number_initializer of) d.initializer) x (length g.locals) t) inside.flow in
      then_named (Behind {A = core.Statement} of m g) (settling value span) _ (settling_named value span)
      (λ f. behind_flow of m g inside inside.outside f g.breaks g.continues (record { agrees = now; later = later_local (of d.name.name) t b g }))))

  -- an array takes no initial value
  without_initial_named : (n : Scopes) (g : Scope) → Agrees of n g → (o : Option Initializer) (span : Span) → optional built_initializer o ≡ true → AreFound n (optional_mentions initializer_mentions o)
      → AllNamed (without_initial at g (option_map (number_initializer of) o) span)
  without_initial_named n g agrees None span built found = tt
  without_initial_named n g agrees (Some (s.Value value)) span built found = then_named Any (typed at g (number_expression of value)) _ (typed_named of at n g agrees value built found) (λ t. tt)
  without_initial_named n g agrees (Some (s.Constants constants list)) span built found = tt

  array_named : (inner m : Scopes) (g : Scope) (d : Declarator) (t : CType) (count : ℕ) (ended : Bool) (span : Span) → m ≡ inner → Agrees of inner (with_array (of d.name.name) t count ended g) → AreFound inner (optional_mentions bounds_mentions d.bounds)
      → optional built_initializer d.initializer ≡ true → AreFound inner (optional_mentions initializer_mentions d.initializer)
      → IsNamed (Behind {A = core.Statement} of m g) (array_in at (with_array (of d.name.name) t count ended g) (length g.locals) (number_declarator of d) t count ended span)
  array_named inner m g d t count ended span same now bounds built initial =
      let inside = with_array (of d.name.name) t count ended g in
      then_named (Behind {A = core.Statement} of m g) (array_bounds inside (option_map (number_bounds of) d.bounds)) _ (bounds_named of inner inside now.tag Int (length inside.locals) d.bounds bounds)
      (λ b. then_named (Behind {A = core.Statement} of m g) (without_initial at inside (option_map (number_initializer of) d.initializer) span) _ (without_initial_named inner inside now d.initializer span built initial)
      (λ u. then_named (Behind {A = core.Statement} of m g) (array_memory inside ended t count (site_at at span) span) _ (memory_named inside ended t count (site_at at span) span)
      (λ memory. converted_so (Behind {A = core.Statement} of m g) memory (row_type ended t) span _
      (λ v. let value = assigned_by inside.locals (core.SetLocal (length g.locals) v) inside.flow in
      then_named (Behind {A = core.Statement} of m g) (settling value span) _ (settling_named value span)
      (λ f. behind_flow of m g inside inside.outside f g.breaks g.continues
      (record { agrees = subst (λ k. Agrees of k inside) (sym same) now; later = later_arrays g (with_local (of d.name.name) (row_type ended t) (Some (row_of (before_end ended count))) g) inside.arrays (later_local (of d.name.name) (row_type ended t) (Some (row_of (before_end ended count))) g) }))))))

  declarator_named : (n m : Scopes) (g : Scope) (base : TypeTree) (type : CType) (span : Span) (d : Declarator) → Agrees of n g → built_declarator d ≡ true → all_mentioned (declarator_mentions d) n ≡ Ok m
      → IsNamed (Behind {A = core.Statement} of m g) (declarator at g base type span (number_declarator of d))
  declarator_named n m g base type span d agrees built h =
      let inner = standing_for d.name Variable n in
      let bounds = optional_mentions bounds_mentions d.bounds in
      let initial = optional_mentions initializer_mentions d.initializer in
      let behind = quiet_front bounds initial (optional_quiet bounds_mentions bounds_quiet d.bounds) inner m (declared_front d.name (bounds ++ initial) n m h) in
      let last = quiet_all initial (optional_quiet initializer_mentions initializer_quiet d.initializer) inner m behind.1 in
      let forms = (and_parts (optional built_bounds d.bounds) (optional built_initializer d.initializer) built).1 in
      let ended = is_ended_array d in
      needs_named (Behind {A = core.Statement} of m g) (nat_lt (length g.locals) g.flow.vars) E08 span _
      (elim (length_of d) as (λ o. IsNamed (Behind {A = core.Statement} of m g) (local_of at g base type span (number_declarator of d) o)) [
        | Some count ↦ needs_named (Behind {A = core.Statement} of m g) (is_length (Some count)) E08 span _
            (then_named (Behind {A = core.Statement} of m g) (without_stars base d.stars type) _ (stars_named base d.stars type)
            (λ t. needs_named (Behind {A = core.Statement} of m g) (may_lead_to (array_kind ended) t) E13 (type_span base) _
            (array_named inner m g d t count ended span last.1
            (arrays_agree of inner (with_local (of d.name.name) (row_type ended t) (Some (row_of (before_end ended count))) g) (length g.locals ∷ g.arrays) (local_agrees of d.name (row_type ended t) (Some (row_of (before_end ended count))) n g agrees)) behind.0 forms last.0)))
        | None ↦ then_named (Behind {A = core.Statement} of m g) (without_stars base d.stars type) _ (stars_named base d.stars type)
            (λ t. then_named (Behind {A = core.Statement} of m g) (declared_bounds (with_local (of d.name.name) t None g) t (length g.locals) (option_map (number_bounds of) d.bounds)) _
            (bounds_named of inner (with_local (of d.name.name) t None g) (local_agrees of d.name t None n g agrees).tag t (length g.locals) d.bounds behind.0)
            (λ b. bounded_local_named m g d t span b (subst (λ k. Agrees of k (with_local (of d.name.name) t b g)) (sym last.1) (local_agrees of d.name t b n g agrees)) forms
            (subst (λ k. AreFound k initial) (sym last.1) last.0)))
      ])

  declarators_named : (n m : Scopes) (g : Scope) (base : TypeTree) (type : CType) (span : Span) (ds : List Declarator) → Agrees of n g → list_all built_declarator ds ≡ true → all_mentioned (flat_map declarator_mentions ds) n ≡ Ok m
      → IsNamed (Behind {A = core.Statement} of m g) (declarators at g base type span (map (number_declarator of) ds))
  declarators_named n m g base type span [] agrees built h = behind_same of n m g (quiet_all [] tt n m h).1 agrees
  declarators_named n m g base type span (d ∷ ds) agrees built h =
      let parts = and_parts (built_declarator d) (list_all built_declarator ds) built in
      let split = mentioned_append (declarator_mentions d) (flat_map declarator_mentions ds) n m h in
      passing_named (Behind {A = core.Statement} of split.0 g) (Behind {A = core.Statement} of m g) (declarator at g base type span (number_declarator of d)) _ (declarator_named n split.0 g base type span d agrees parts.0 split.1)
      (λ first b. passing_named (Behind {A = core.Statement} of m first.1) (Behind {A = core.Statement} of m g) (declarators at first.1 base type span (map (number_declarator of) ds)) _
      (declarators_named split.0 m first.1 base type span ds b.agrees parts.1 split.2) (λ rest b'. behind_further of m g first.1 rest.1 b.later b'))

  declaration_named : (n m : Scopes) (g : Scope) (d : Declaration) → Agrees of n g → built_declaration d ≡ true → all_mentioned (declaration_mentions d) n ≡ Ok m → IsNamed (Behind {A = core.Statement} of m g) (declaration at g (number_declaration of d))
  declaration_named n m g d agrees built h =
      let front = quiet_front (type_mentions d.base) (flat_map declarator_mentions d.declarators) (type_quiet d.base) n m h in
      needs_named (Behind {A = core.Statement} of m g) (nat_lt (length g.locals) g.flow.vars) E08 d.span _
      (needs_named (Behind {A = core.Statement} of m g) (is_length (first_length (number_declaration of d).declarators)) E08 d.span _
      (then_named (Behind {A = core.Statement} of m g) (base_type g (number_type of d.base)) _ (base_named of n.tags g agrees.tag d.base (found_tags n d.base front.0))
      (λ type. declarators_named n m g (number_type of d.base) type d.span d.declarators agrees (and_parts _ _ built).1 front.1)))

  first_named : (n m : Scopes) (g : Scope) (x : ForInitial) → Agrees of n g → built_initial x ≡ true → all_mentioned (for_initial_mentions x) n ≡ Ok m → IsNamed (Behind {A = core.Statement} of m g) (first_part at g (number_initial of x))
  first_named n m g s.Nothing agrees built h = behind_same of n m g (quiet_all [] tt n m h).1 agrees
  first_named n m g (s.Declares d) agrees built h = declaration_named n m g d agrees built h
  first_named n m g (s.Assigns a) agrees built h =
      let all = quiet_all (assignment_mentions a) (assignment_quiet a) n m h in
      assigning_named n m g all.1 agrees a built all.0

  -- ---- statements

  -- the block of a for, behind its first part: the condition and the step are found where that ends, and the body is a block
  pub record ForParts (k : Scopes) (test : Option Expression) (step : Option Assignment) (body : Statement) : Type 0 where
    pub test_found : AreFound k (optional_mentions expression_mentions test)
    pub step_found : AreFound k (optional_mentions assignment_mentions step)
    pub inside : Scopes
    pub body_is : all_mentioned (statement_mentions body) (opened k) ≡ Ok inside

  for_parts : (k l : Scopes) (test : Option Expression) (step : Option Assignment) (body : Statement)
      → all_mentioned (optional_mentions expression_mentions test ++ (optional_mentions assignment_mentions step ++ in_block (statement_mentions body))) k ≡ Ok l → ForParts k test step body
  for_parts k l test step body h =
      let first = quiet_front (optional_mentions expression_mentions test) _ (optional_quiet expression_mentions expression_quiet test) k l h in
      let second = quiet_front (optional_mentions assignment_mentions step) _ (optional_quiet assignment_mentions assignment_quiet step) k l first.1 in
      let inner = block_mentioned (statement_mentions body) (statement_keeps body) k l second.1 in
      record { test_found = first.0; step_found = second.0; inside = inner.0; body_is = inner.1 }

  mutual
    pub statement_named : (x : Statement) (n m : Scopes) (g : Scope) → Agrees of n g → built_statement x ≡ true → all_mentioned (statement_mentions x) n ≡ Ok m → IsNamed (Behind {A = core.Statement} of m g) (statement at g (number_statement of x))
    statement_named (s.Block mark inner span) n m g agrees built h =
        let block = block_mentioned (statements_mentions inner) (statements_keep inner) n m h in
        passing_named (Behind {A = core.Statements} of block.0 g) (Behind {A = core.Statement} of m g) (statements at g (number_statements of inner)) _ (statements_named inner (opened n) block.0 g (opened_agrees of n g agrees) built block.1)
        (λ w b. needs_named (Behind {A = core.Statement} of m g) (not (is_unchecked mark || g.is_off)) E15 span _ (behind_block_is of n m g w.1 block.2 agrees b.later))
    statement_named (s.Bundle written span) n m g agrees built h =
        let all = quiet_all (flat_map assignment_mentions written) (assignments_quiet written) n m h in
        bundle_named n m g all.1 agrees written span built all.0
    statement_named (s.Declare d span) n m g agrees built h = declaration_named n m g d agrees built h
    statement_named (s.Assign a span) n m g agrees built h =
        let all = quiet_all (assignment_mentions a) (assignment_quiet a) n m h in
        assigning_named n m g all.1 agrees a built all.0
    statement_named (s.CallAlone call span) n m g agrees built h =
        let all = quiet_all (expression_mentions call) (expression_quiet call) n m h in
        then_named (Behind {A = core.Statement} of m g) (call_typed at g (number_expression of call)) _ (call_named of at n g agrees call built all.0) (λ c. behind_same of n m g all.1 agrees)
    statement_named (s.Empty span) n m g agrees built h = behind_same of n m g (quiet_all [] tt n m h).1 agrees
    statement_named (s.If test consequent span) n m g agrees built h =
        let parts = and_parts (built_expression test) (built_statement consequent) built in
        let front = quiet_front (expression_mentions test) _ (expression_quiet test) n m h in
        let block = block_mentioned (statement_mentions consequent) (statement_keeps consequent) n m front.1 in
        then_named (Behind {A = core.Statement} of m g) (condition at g (number_expression of test)) _ (condition_named n g agrees test parts.0 front.0)
        (λ c. let yes = told g.locals c true g.flow in
        let inside = knowing yes g in
        passing_named (Behind {A = core.Statement} of block.0 inside) (Behind {A = core.Statement} of m g) (statement at inside (number_statement of consequent)) _
        (statement_named consequent (opened n) block.0 inside (opened_agrees of n inside (flow_agrees of n g g.outside yes g.breaks g.continues agrees)) parts.1 block.1)
        (λ x b. let behind = behind_block g x.1 in
        behind_flow of m g behind behind.outside (behind_branch g c x.1).flow behind.breaks behind.continues (behind_block_is of n m g x.1 block.2 agrees (from_flow g x.1 g.outside yes g.breaks g.continues b.later))))
    statement_named (s.IfElse test consequent alternative span) n m g agrees built h =
        let parts = and_parts (built_expression test) (built_statement consequent && built_statement alternative) built in
        let both = and_parts (built_statement consequent) (built_statement alternative) parts.1 in
        let front = quiet_front (expression_mentions test) _ (expression_quiet test) n m h in
        let first = block_front (statement_mentions consequent) (in_block (statement_mentions alternative)) (statement_keeps consequent) n m front.1 in
        let second = block_mentioned (statement_mentions alternative) (statement_keeps alternative) n m first.2 in
        then_named (Behind {A = core.Statement} of m g) (condition at g (number_expression of test)) _ (condition_named n g agrees test parts.0 front.0)
        (λ c. let yes = told g.locals c true g.flow in
        let inside = knowing yes g in
        passing_named (Behind {A = core.Statement} of first.0 inside) (Behind {A = core.Statement} of m g) (statement at inside (number_statement of consequent)) _
        (statement_named consequent (opened n) first.0 inside (opened_agrees of n inside (flow_agrees of n g g.outside yes g.breaks g.continues agrees)) both.0 first.1)
        (λ x b. let behind = behind_block g x.1 in
        let no = told g.locals c false g.flow in
        let between = knowing no behind in
        let later = from_flow g x.1 g.outside yes g.breaks g.continues b.later in
        let now = flow_agrees of n behind behind.outside no behind.breaks behind.continues (behind_agrees of n g x.1 agrees later) in
        passing_named (Behind {A = core.Statement} of second.0 between) (Behind {A = core.Statement} of m g) (statement at between (number_statement of alternative)) _
        (statement_named alternative (opened n) second.0 between (opened_agrees of n between now) both.1 second.1)
        (λ y b'. let last = behind_block behind y.1 in
        behind_flow of m g last last.outside (behind_both g x.1 y.1).flow last.breaks last.continues
        (behind_further of m g behind last (later_block g x.1 later)
        (behind_block_is of n m behind y.1 second.2 (behind_agrees of n g x.1 agrees later) (from_flow behind y.1 behind.outside no behind.breaks behind.continues b'.later))))))
    statement_named (s.While test body span) n m g agrees built h =
        let parts = and_parts (built_expression test) (built_statement body) built in
        let front = quiet_front (expression_mentions test) _ (expression_quiet test) n m h in
        let block = block_mentioned (statement_mentions body) (statement_keeps body) n m front.1 in
        let head = at_loop (number_statement of body) None g in
        let headed = flow_agrees of n g head.outside head.flow None None agrees in
        then_named (Behind {A = core.Statement} of m g) (condition at head (number_expression of test)) _ (condition_named n head headed test parts.0 front.0)
        (λ c. let turn = when c true head in
        let turned = flow_agrees of n g turn.outside turn.flow None None agrees in
        passing_named (Behind {A = core.Statement} of block.0 (in_loop turn)) (Behind {A = core.Statement} of m g) (statement at (in_loop turn) (number_statement of body)) _
        (statement_named body (opened n) block.0 (in_loop turn) (opened_agrees of n (in_loop turn) (loop_agrees of n turn turned)) parts.1 block.1)
        (λ x b. behind_flow of m g (behind_block g x.1) g.outside (behind_loop g head c x.1).flow g.breaks g.continues
        (behind_block_is of n m g x.1 block.2 agrees (from_flow g x.1 turn.outside turn.flow None None (later_loop turn x.1 b.later)))))
    statement_named (s.For initial test step body span) n m g agrees built h =
        let forms = and_parts (built_initial initial) (optional built_expression test && (optional built_assignment step && built_statement body)) built in
        let more = and_parts (optional built_expression test) (optional built_assignment step && built_statement body) forms.1 in
        let rest = and_parts (optional built_assignment step) (built_statement body) more.1 in
        let block = block_mentioned (for_mentions initial test step (statement_mentions body)) (for_keeps initial test step (statement_mentions body) (statement_keeps body)) n m h in
        let split = mentioned_append (for_initial_mentions initial) _ (opened n) block.0 block.1 in
        let parts = for_parts split.0 block.0 test step body split.2 in
        passing_named (Behind {A = core.Statement} of split.0 g) (Behind {A = core.Statement} of m g) (first_part at g (number_initial of initial)) _ (first_named (opened n) split.0 g initial (opened_agrees of n g agrees) forms.0 split.1)
        (λ first b. let head = at_loop (number_statement of body) (option_map (number_assignment of) step) first.1 in
        let headed = flow_agrees of split.0 first.1 head.outside head.flow None None b.agrees in
        then_named (Behind {A = core.Statement} of m g) (optional_condition at head (option_map (number_expression of) test)) _ (optional_condition_named split.0 head headed test more.0 parts.test_found)
        (λ c. let turn = when c true head in
        let turned = flow_agrees of split.0 first.1 turn.outside turn.flow None None b.agrees in
        passing_named (Behind {A = core.Statement} of parts.inside (in_loop turn)) (Behind {A = core.Statement} of m g) (statement at (in_loop turn) (number_statement of body)) _
        (statement_named body (opened split.0) parts.inside (in_loop turn) (opened_agrees of split.0 (in_loop turn) (loop_agrees of split.0 turn turned)) rest.1 parts.body_is)
        (λ x b'. (let later = from_flow first.1 x.1 turn.outside turn.flow None None (later_loop turn x.1 b'.later) in
        let ended = behind_block first.1 x.1 in
        let last = before_step first.1 x.1 in
        let lasts = flow_later first.1 ended ended.outside last.flow ended.breaks ended.continues (later_block first.1 x.1 later) in
        passing_named (Behind {A = core.Statement} of split.0 last) (Behind {A = core.Statement} of m g) (optional_step at last (option_map (number_assignment of) step)) _
        (step_named split.0 last (flow_agrees of split.0 ended ended.outside last.flow ended.breaks ended.continues (behind_agrees of split.0 first.1 x.1 b.agrees later)) step rest.0 parts.step_found)
        (λ y b''. let loop = behind_loop first.1 head c y.1 in
        let over = later_block first.1 y.1 (later_further first.1 last y.1 lasts b''.later) in
        behind_block_is of n m g loop block.2 agrees
        (later_further g first.1 loop b.later (flow_later first.1 (behind_block first.1 y.1) first.1.outside loop.flow first.1.breaks first.1.continues over)))))))
    statement_named (s.Return value span) n m g agrees built h =
        let all = quiet_all (optional_mentions expression_mentions value) (optional_quiet expression_mentions expression_quiet value) n m h in
        then_named (Behind {A = core.Statement} of m g) (return at g (option_map (number_expression of) value) span) _ (return_named n g agrees value span built all.0) (λ x. behind_flow of m g g g.outside (cut g).flow g.breaks g.continues (behind_same of n m g all.1 agrees))
    statement_named (s.Break span) n m g agrees built h =
        needs_named (Behind {A = core.Statement} of m g) g.in_loop E30 span _
        (behind_flow of m g g g.outside (broken g).flow (broken g).breaks (broken g).continues (behind_same of n m g (quiet_all [] tt n m h).1 agrees))
    statement_named (s.Continue span) n m g agrees built h =
        needs_named (Behind {A = core.Statement} of m g) g.in_loop E30 span _
        (behind_flow of m g g g.outside (continued g).flow (continued g).breaks (continued g).continues (behind_same of n m g (quiet_all [] tt n m h).1 agrees))

    pub statements_named : (xs : Statements) (n m : Scopes) (g : Scope) → Agrees of n g → built_statements xs ≡ true → all_mentioned (statements_mentions xs) n ≡ Ok m → IsNamed (Behind {A = core.Statements} of m g) (statements at g (number_statements of xs))
    statements_named s.NoMore n m g agrees built h = behind_same of n m g (quiet_all [] tt n m h).1 agrees
    statements_named (s.Then first others) n m g agrees built h =
        let parts = and_parts (built_statement first) (built_statements others) built in
        let split = mentioned_append (statement_mentions first) (statements_mentions others) n m h in
        passing_named (Behind {A = core.Statement} of split.0 g) (Behind {A = core.Statements} of m g) (statement at g (number_statement of first)) _ (statement_named first n split.0 g agrees parts.0 split.1)
        (λ x b. passing_named (Behind {A = core.Statements} of m x.1) (Behind {A = core.Statements} of m g) (statements at x.1 (number_statements of others)) _ (statements_named others split.0 m x.1 b.agrees parts.1 split.2)
        (λ y b'. behind_further of m g x.1 y.1 b.later b'))
