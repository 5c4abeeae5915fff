-- Where the run of a program that breaks no rule ends with a check, the place that it names is the start of a node of its tree.
use Rattle.std.proofs.Common.{◌⊎◌, inl, inr, List, [], ◌∷◌, map, Option, Some, None, refl, subst}
use Rattle.std.specs.Option.{option_map}
use Rattle.std.specs.List.{AllByRecursion}
use Rattle.ckc_text.specs.declared.place.Span.{Span}
use Rattle.ckc_tree.specs.Expressions as e
use Rattle.ckc_tree.specs.Expressions.{Expression, Expressions}
use Rattle.ckc_tree.specs.Statements as s
use Rattle.ckc_tree.specs.Statements.{Initializer, Declarator, Declaration, Assignment, ForInitial, Statement, Statements}
use Rattle.ckc_tree.specs.Items as i
use Rattle.ckc_tree.specs.Items.{Body, Item, Tree}
use Rattle.ckc_tree.specs.Numbers.{Numbers, number_expression, number_expressions, number_initializer, number_declarator, number_declaration, number_assignment, number_initial, number_statement, number_statements, number_body, number_item}
use Rattle.ckc_core.specs.declared.program.Site.{Site}
use Rattle.ckc_core.specs.Core.{Core}
use Rattle.ckc_core.specs.Programs.{parted}
use Rattle.ckc_core.specs.Sites.{FunctionSites}
use Rattle.ckc_core.specs.Steps.{setting_of}
use Rattle.ckc_core.proofs.FailedChecks.{failed_checks}
use Rattle.ckc_core.proofs.Sites.{fails_sites}
use Rattle.ckc_names_rules.specs.Given.{main, number_in, given_in}
use Rattle.ckc_names_rules.specs.Naming.{named_of}
use Rattle.region_typing_rules.specs.CheckPlaces.{InExpression, InExpressions, InOptional, InOneOf, InInitializer, InDeclarator, InDeclaration, InAssignment, InInitial, InStatement, InStatements, InBody, InItem, StartsNode, ChecksAreNamed}
use Rattle.region_typing_rules.specs.Items.{variables_declared, start, walked}
use Rattle.region_typing_rules.specs.NeverStuck.{HasCore}
use Rattle.region_typing_rules.specs.Operands.{Places}
use Rattle.region_typing_rules.proofs.StatementSites.{items_sites, walked_sites}

-- ---- numbers of names change no span

either : {A B C D : Type 0} → (A → C) → (B → D) → A ⊎ B → C ⊎ D
either f g (inl a) = inl (f a)
either f g (inr b) = inr (g b)

module _ (of : Numbers) (x : Span) where
  mutual
    expression_in : (y : Expression) → InExpression x (number_expression of y) → InExpression x y
    expression_in (e.Number value span) h = h
    expression_in (e.Character value span) h = h
    expression_in (e.Text bytes span) h = h
    expression_in (e.Name name) h = h
    expression_in (e.Call callee arguments span) h = either (λ k. k) (λ k. expressions_in arguments k) h
    expression_in (e.SizeOf type span) h = h
    expression_in (e.Cast word type operand span) h = either (λ k. k) (λ k. expression_in operand k) h
    expression_in (e.BoundedCast word type operand bounds span) h = either (λ k. k) (λ k. expression_in operand k) h
    expression_in (e.Malloc word type size span) h = either (λ k. k) (λ k. expression_in size k) h
    expression_in (e.Calloc word type count size span) h = either (λ k. k) (λ k. either (λ l. expression_in count l) (λ l. expression_in size l) k) h
    expression_in (e.Index base index span) h = either (λ k. k) (λ k. either (λ l. expression_in base l) (λ l. expression_in index l) k) h
    expression_in (e.Dot base member span) h = either (λ k. k) (λ k. expression_in base k) h
    expression_in (e.Arrow base member span) h = either (λ k. k) (λ k. expression_in base k) h
    expression_in (e.Unary operator operand span) h = either (λ k. k) (λ k. expression_in operand k) h
    expression_in (e.Binary operator left right span) h = either (λ k. k) (λ k. either (λ l. expression_in left l) (λ l. expression_in right l) k) h

    expressions_in : (ys : Expressions) → InExpressions x (number_expressions of ys) → InExpressions x ys
    expressions_in e.NoMore h = h
    expressions_in (e.Then first others) h = either (λ k. expression_in first k) (λ k. expressions_in others k) h

  optional_expression_in : (o : Option Expression) → InOptional InExpression x (option_map (number_expression of) o) → InOptional InExpression x o
  optional_expression_in None h = h
  optional_expression_in (Some y) h = expression_in y h

  initializer_in : (o : Option Initializer) → InOptional InInitializer x (option_map (number_initializer of) o) → InOptional InInitializer x o
  initializer_in None h = h
  initializer_in (Some (s.Value value)) h = expression_in value h
  initializer_in (Some (s.Constants constants span)) h = h

  declarators_in : (ds : List Declarator) → InOneOf InDeclarator x (map (number_declarator of) ds) → InOneOf InDeclarator x ds
  declarators_in [] h = h
  declarators_in (d ∷ ds) h = either (λ k. initializer_in d.initializer k) (λ k. declarators_in ds k) h

  declaration_in : (d : Declaration) → InDeclaration x (number_declaration of d) → InDeclaration x d
  declaration_in d h = either (λ k. k) (λ k. declarators_in d.declarators k) h

  assignment_in : (a : Assignment) → InAssignment x (number_assignment of a) → InAssignment x a
  assignment_in (s.Store operator target value span) h = either (λ k. k) (λ k. either (λ l. expression_in target l) (λ l. expression_in value l) k) h
  assignment_in (s.Step operator side target span) h = either (λ k. k) (λ k. expression_in target k) h

  assignments_in : (list : List Assignment) → InOneOf InAssignment x (map (number_assignment of) list) → InOneOf InAssignment x list
  assignments_in [] h = h
  assignments_in (a ∷ list) h = either (λ k. assignment_in a k) (λ k. assignments_in list k) h

  optional_assignment_in : (o : Option Assignment) → InOptional InAssignment x (option_map (number_assignment of) o) → InOptional InAssignment x o
  optional_assignment_in None h = h
  optional_assignment_in (Some a) h = assignment_in a h

  initial_in : (y : ForInitial) → InInitial x (number_initial of y) → InInitial x y
  initial_in s.Nothing h = h
  initial_in (s.Declares d) h = declaration_in d h
  initial_in (s.Assigns a) h = assignment_in a h

  mutual
    statement_in : (y : Statement) → InStatement x (number_statement of y) → InStatement x y
    statement_in (s.Block mark inner span) h = statements_in inner h
    statement_in (s.Bundle assignments span) h = assignments_in assignments h
    statement_in (s.Declare d span) h = declaration_in d h
    statement_in (s.Assign a span) h = assignment_in a h
    statement_in (s.CallAlone call span) h = expression_in call h
    statement_in (s.Empty span) h = h
    statement_in (s.If test consequent span) h = either (λ k. expression_in test k) (λ k. statement_in consequent k) h
    statement_in (s.IfElse test consequent alternative span) h =
        either (λ k. expression_in test k) (λ k. either (λ l. statement_in consequent l) (λ l. statement_in alternative l) k) h
    statement_in (s.While test body span) h = either (λ k. expression_in test k) (λ k. statement_in body k) h
    statement_in (s.For initial test step body span) h =
        either (λ k. initial_in initial k) (λ k. either (λ l. optional_expression_in test l) (λ l. either (λ m. optional_assignment_in step m) (λ m. statement_in body m) l) k) h
    statement_in (s.Return value span) h = optional_expression_in value h
    statement_in (s.Break span) h = h
    statement_in (s.Continue span) h = h

    statements_in : (ys : Statements) → InStatements x (number_statements of ys) → InStatements x ys
    statements_in s.NoMore h = h
    statements_in (s.Then first others) h = either (λ k. statement_in first k) (λ k. statements_in others k) h

  body_in : (o : Option Body) → InOptional InBody x (option_map (number_body of) o) → InOptional InBody x o
  body_in None h = h
  body_in (Some b) h = statements_in b.statements h

  item_in : (y : Item) → InItem x (number_item of y) → InItem x y
  item_in (i.RegionItem region span) h = h
  item_in (i.StructureItem d) h = h
  item_in (i.GlobalItem g) h = h
  item_in (i.FunctionItem f) h = body_in f.body h

  items_in : (ys : List Item) → InOneOf InItem x (map (number_item of) ys) → InOneOf InItem x ys
  items_in [] h = h
  items_in (y ∷ ys) h = either (λ k. item_in y k) (λ k. items_in ys k) h

-- ---- the sites of a core

sites_start : (at : Places) (t : Tree) (c : Core) → HasCore at t c → AllByRecursion (FunctionSites (λ site. StartsNode at t site.place)) (parted c).functions
sites_start at t c h =
    let n = named_of t in
    let P = λ (site : Site). StartsNode at t site.place in
    walked_sites P at (number_in n.names main) n.tree.span (walked at n) c
    (items_sites P at n.tree.items (start (given_in n.names) (variables_declared n.tree.items)) n.tree.items (λ span there. (span, items_in (number_in n.names) span t.items there, refl)) tt) h.rules

pub checks_named : (at : Places) (t : Tree) (c : Core) → HasCore at t c → ChecksAreNamed at t c
checks_named at t c h settings inputs acts code place s ends =
    let fails = failed_checks c settings inputs acts code place s ends in
    let named = fails_sites (λ (site : Site). StartsNode at t site.place) (setting_of (parted c) settings) (sites_start at t c h) fails.fails tt in
    (fails, subst (StartsNode at t) fails.place_is named)
