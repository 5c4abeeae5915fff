-- The tokens of a declaration, an assignment or a statement begin one at each token, and no higher.
use Rattle.std.proofs.Common.{ℕ, List, Option}
use Rattle.ckc_text.specs.declared.place.Span.{Span}
use Rattle.ckc_lexer.specs.declared.token.Token.{Token}
use Rattle.ckc_tree.specs.declared.stmt.ArrayForm.{ArrayForm}
use Rattle.ckc_tree.specs.declared.stmt.SignedConstant.{SignedConstant}
use Rattle.ckc_tree.specs.Expressions.{Expression, Bounds}
use Rattle.ckc_tree.specs.Statements.{Initializer, Declarator, Declaration, Assignment, ForInitial, Statement, Statements}
use Rattle.ckc_tree.specs.Heights.{Reach, around, optional_bounds_reach, optional_expression_reach, optional_initializer_reach, optional_assignment_reach, declarator_reach, declarators_reach, declared_reach, assignment_reach, assignments_reach, for_initial_reach, statement_reach, statements_reach}
use Rattle.ckc_parser_grammar.specs.StatementGrammar as g
use Rattle.ckc_parser_grammar.specs.StatementGrammar.{SpellsOptionalBounds, SpellsOptionalArray, SpellsSigned, SpellsConstants, SpellsOptionalInitializer, SpellsDeclarator, SpellsDeclarators, SpellsDeclaration, SpellsAssignment, SpellsAssignments, SpellsForInitial, SpellsForCondition, SpellsForStep, SpellsStatement, SpellsStatements}
use Rattle.ckc_parser_grammar.specs.ExpressionBeginnings as expressions
use Rattle.ckc_parser_grammar.specs.StatementBeginnings as b
use Rattle.ckc_parser_grammar.specs.StatementBeginnings.{BeginsOptionalBounds, BeginsOptionalArray, BeginsSigned, BeginsConstants, BeginsOptionalInitializer, BeginsDeclarator, BeginsDeclarators, BeginsDeclaration, BeginsAssignment, BeginsAssignments, BeginsForInitial, BeginsForCondition, BeginsForStep, BeginsStatement, BeginsStatements}
use Rattle.ckc_parser_grammar.proofs.Paths.{same, least, deep, one, grow, along, begun_low, begun_none, begun_within, Fact, fact, Path, here, next, on, past, part, led, led_shorter, begun_path}
use Rattle.ckc_parser_grammar.proofs.TypePaths.{stars_path, begun_stars, type_path, begun_type}
use Rattle.ckc_parser_grammar.proofs.ExpressionPaths.{no_binary, binary_path, unary_path, call_path, bounds_path, begun_binary, begun_unary, begun_call, begun_bounds}

-- ---- declarations

pub optional_bounds_path : {x : Option Bounds} {o p : Span} {ts r : List Token} → SpellsOptionalBounds o ts x p r → Path (Fact (BeginsOptionalBounds ts) (optional_bounds_reach x)) ts r
optional_bounds_path (g.absent f) = here (fact b.nothing least)
optional_bounds_path (g.present d) = next (fact b.nothing least) (part (λ us a. fact (b.bounds a.begins) a.low) (bounds_path d))

pub begun_optional_bounds : {ts r : List Token} {q : Reach} → BeginsOptionalBounds ts r q → Path (Fact (BeginsOptionalBounds ts) q) ts r
begun_optional_bounds b.nothing = here (fact b.nothing least)
begun_optional_bounds (b.bounds d) = next (fact b.nothing least) (part (λ us a. fact (b.bounds a.begins) a.low) (begun_bounds d))

array_path : {x : Option ArrayForm} {o p : Span} {ts r : List Token} → SpellsOptionalArray o ts x p r → Path (BeginsOptionalArray ts) ts r
array_path (g.absent f) = here b.nothing
array_path (g.present w) = next b.nothing (next (b.word w) (next (b.bracket w) (next (b.length w) (here (b.array w)))))

begun_array : {ts r : List Token} → BeginsOptionalArray ts r → Path (BeginsOptionalArray ts) ts r
begun_array b.nothing = here b.nothing
begun_array (b.word w) = next b.nothing (here (b.word w))
begun_array (b.bracket w) = next b.nothing (next (b.word w) (here (b.bracket w)))
begun_array (b.length w) = next b.nothing (next (b.word w) (next (b.bracket w) (here (b.length w))))
begun_array (b.array w) = next b.nothing (next (b.word w) (next (b.bracket w) (next (b.length w) (here (b.array w)))))

pub signed_path : {x : SignedConstant} {ts r : List Token} → SpellsSigned ts x r → Path (BeginsSigned ts) ts r
signed_path (g.plain c) = next b.nothing (here (b.signed (g.plain c)))
signed_path (g.minus c) = next b.nothing (next b.minus (here (b.signed (g.minus c))))

begun_signed : {ts r : List Token} → BeginsSigned ts r → Path (BeginsSigned ts) ts r
begun_signed b.nothing = here b.nothing
begun_signed b.minus = next b.nothing (here b.minus)
begun_signed (b.signed d) = signed_path d

constants_path : {x : List SignedConstant} {t : Span} {ts r : List Token} → SpellsConstants ts x t r → Path (BeginsConstants ts) ts r
constants_path (g.one d) = past (part (λ us a. b.first a) (signed_path d)) (here (b.last d))
constants_path (g.more d m) = past (part (λ us a. b.first a) (signed_path d)) (part (λ us a. b.others d a) (constants_path m))

begun_constants : {ts r : List Token} → BeginsConstants ts r → Path (BeginsConstants ts) ts r
begun_constants (b.first d) = part (λ us a. b.first a) (begun_signed d)
begun_constants (b.last d) = past (part (λ us a. b.first a) (signed_path d)) (here (b.last d))
begun_constants (b.others d m) = past (part (λ us a. b.first a) (signed_path d)) (part (λ us a. b.others d a) (begun_constants m))

initializer_path : {x : Option Initializer} {o p : Span} {ts r : List Token} → SpellsOptionalInitializer o ts x p r → Path (Fact (BeginsOptionalInitializer ts) (optional_initializer_reach x)) ts r
initializer_path (g.absent f) = here (fact b.nothing least)
initializer_path (g.value d) = next (fact b.nothing least) (part (λ us a. fact (b.value a.begins) a.low) (binary_path d))
initializer_path (g.constants d) = next (fact b.nothing least) (next (fact (b.value (no_binary 10)) least) (part (λ us a. fact (b.constants a) least) (constants_path d)))

begun_initializer : {ts r : List Token} {q : Reach} → BeginsOptionalInitializer ts r q → Path (Fact (BeginsOptionalInitializer ts) q) ts r
begun_initializer b.nothing = here (fact b.nothing least)
begun_initializer (b.value d) = next (fact b.nothing least) (part (λ us a. fact (b.value a.begins) a.low) (begun_binary d))
begun_initializer (b.constants d) = next (fact b.nothing least) (next (fact (b.value (no_binary 10)) least) (part (λ us a. fact (b.constants a) least) (begun_constants d)))

pub declarator_path : {x : Declarator} {ts r : List Token} → SpellsDeclarator ts x r → Path (Fact (BeginsDeclarator ts) (declarator_reach x)) ts r
declarator_path (g.declarator st a c i) =
    past (part (λ us f. fact (b.stars f) least) (stars_path st))
    (on (part (λ us f. fact (b.array st f) least) (array_path a))
    (on (part (λ us f. fact (b.bounds st a f.begins) (grow _ f.low)) (optional_bounds_path c))
    (part (λ us f. fact (b.initializer st a c f.begins) (along _ f.low)) (initializer_path i))))

begun_declarator : {ts r : List Token} {q : Reach} → BeginsDeclarator ts r q → Path (Fact (BeginsDeclarator ts) q) ts r
begun_declarator (b.stars st) = part (λ us f. fact (b.stars f) least) (begun_stars st)
begun_declarator (b.array st a) = past (part (λ us f. fact (b.stars f) least) (stars_path st)) (part (λ us f. fact (b.array st f) least) (begun_array a))
begun_declarator (b.bounds st a c) =
    past (part (λ us f. fact (b.stars f) least) (stars_path st))
    (on (part (λ us f. fact (b.array st f) least) (array_path a))
    (part (λ us f. fact (b.bounds st a f.begins) f.low) (begun_optional_bounds c)))
begun_declarator (b.initializer st a c i) =
    past (part (λ us f. fact (b.stars f) least) (stars_path st))
    (on (part (λ us f. fact (b.array st f) least) (array_path a))
    (on (part (λ us f. fact (b.bounds st a f.begins) (grow _ f.low)) (optional_bounds_path c))
    (part (λ us f. fact (b.initializer st a c f.begins) (along _ f.low)) (begun_initializer i))))

pub declarators_path : {x : List Declarator} {w : Span} {ts r : List Token} → SpellsDeclarators ts x w r → Path (Fact (BeginsDeclarators ts) (declarators_reach x)) ts r
declarators_path (g.one d f) = part (λ us a. fact (b.first a.begins) (grow _ a.low)) (declarator_path d)
declarators_path (g.more d m) = past (part (λ us a. fact (b.first a.begins) (grow _ a.low)) (declarator_path d)) (part (λ us a. fact (b.others d a.begins) (along _ a.low)) (declarators_path m))

pub begun_declarators : {ts r : List Token} {q : Reach} → BeginsDeclarators ts r q → Path (Fact (BeginsDeclarators ts) q) ts r
begun_declarators (b.first d) = part (λ us a. fact (b.first a.begins) a.low) (begun_declarator d)
begun_declarators (b.others d m) = past (part (λ us a. fact (b.first a.begins) (grow _ a.low)) (declarator_path d)) (part (λ us a. fact (b.others d a.begins) (along _ a.low)) (begun_declarators m))

pub declaration_path : {x : Declaration} (start : ℕ) {ts r : List Token} → SpellsDeclaration ts x r → Path (Fact (BeginsDeclaration ts) (around start (declared_reach x))) ts r
declaration_path start (g.declaration {ts} t d) =
    on (part (λ us a. fact (b.base a.begins) (begun_low ts us _ (grow _ a.low))) (type_path t))
    (part (λ us a. fact (b.declarators t a.begins) (deep _ _ (along _ a.low))) (declarators_path d))

begun_declaration : {ts r : List Token} {q : Reach} → BeginsDeclaration ts r q → Path (Fact (BeginsDeclaration ts) q) ts r
begun_declaration (b.base t) = begun_path (λ us p a. b.base a) (begun_type t)
begun_declaration (b.declarators {ts} t d) =
    on (part (λ us a. fact (b.base a.begins) (begun_low ts us _ (grow _ a.low))) (type_path t))
    (part (λ us a. fact (b.declarators t a.begins) (deep _ _ (along _ a.low))) (begun_declarators d))

-- ---- assignments

no_assignment : {ts : List Token} {high : Reach} → Fact (BeginsAssignment ts) high ts
no_assignment {ts} = fact (b.target (expressions.primary expressions.nothing)) (begun_none ts)

pub assignment_path : {x : Assignment} {ts r : List Token} → SpellsAssignment ts x r → Path (Fact (BeginsAssignment ts) (assignment_reach x)) ts r
assignment_path (g.store {ts} d w e) =
    past (part (λ us a. fact (b.target a.begins) (begun_low ts us _ (grow _ a.low))) (unary_path d))
    (part (λ us a. fact (b.value d w a.begins) (deep _ _ (along _ a.low))) (binary_path e))
assignment_path (g.after {ts} d w) = past (part (λ us a. fact (b.target a.begins) (begun_low ts us _ a.low)) (unary_path d)) (here (fact (b.after d w) same))
assignment_path (g.before w d) = next no_assignment (part (λ us a. fact (b.before w a.begins) (deep _ _ a.low)) (unary_path d))

begun_assignment : {ts r : List Token} {q : Reach} → BeginsAssignment ts r q → Path (Fact (BeginsAssignment ts) q) ts r
begun_assignment (b.target d) = begun_path (λ us p a. b.target a) (begun_unary d)
begun_assignment (b.value {ts} d w e) =
    past (part (λ us a. fact (b.target a.begins) (begun_low ts us _ (grow _ a.low))) (unary_path d))
    (part (λ us a. fact (b.value d w a.begins) (deep _ _ (along _ a.low))) (begun_binary e))
begun_assignment (b.after d w) = assignment_path (g.after d w)
begun_assignment (b.before w d) = next no_assignment (part (λ us a. fact (b.before w a.begins) (deep _ _ a.low)) (begun_unary d))

no_assignments : {ts : List Token} {high : Reach} → Fact (BeginsAssignments ts) high ts
no_assignments {ts} = fact (b.first (b.target (expressions.primary expressions.nothing))) (begun_none ts)

pub assignments_path : {x : List Assignment} {t : Span} {ts r : List Token} → SpellsAssignments ts x t r → Path (Fact (BeginsAssignments ts) (assignments_reach x)) ts r
assignments_path g.none = next no_assignments (here (fact b.none same))
assignments_path (g.more d m) = past (part (λ us a. fact (b.first a.begins) (grow _ a.low)) (assignment_path d)) (part (λ us a. fact (b.others d a.begins) (along _ a.low)) (assignments_path m))

begun_assignments : {ts r : List Token} {q : Reach} → BeginsAssignments ts r q → Path (Fact (BeginsAssignments ts) q) ts r
begun_assignments b.none = assignments_path g.none
begun_assignments (b.first d) = part (λ us a. fact (b.first a.begins) a.low) (begun_assignment d)
begun_assignments (b.others d m) = past (part (λ us a. fact (b.first a.begins) (grow _ a.low)) (assignment_path d)) (part (λ us a. fact (b.others d a.begins) (along _ a.low)) (begun_assignments m))

-- ---- the head of a for. What begins with a part begins the whole, and the path goes on behind the mark that ends it

initial_path : {At : List Token → Type 0} {x : ForInitial} {ts us r : List Token} → ((vs : List Token) → Fact (BeginsForInitial ts) (for_initial_reach x) vs → At vs) → SpellsForInitial ts x us → Path At us r → Path At ts r
initial_path {ts} go g.nothing p = next (go _ (fact (b.assigns (b.target (expressions.primary expressions.nothing))) (begun_none ts))) p
initial_path go (g.declares d) p = past (part (λ us a. go us (fact (b.declares a.begins) a.low)) (declaration_path _ d)) p
initial_path go (g.assigns d) p = past (part (λ us a. go us (fact (b.assigns a.begins) a.low)) (assignment_path d)) p

condition_path : {At : List Token → Type 0} {x : Option Expression} {ts us r : List Token} → ((vs : List Token) → Fact (BeginsForCondition ts) (optional_expression_reach x) vs → At vs) → SpellsForCondition ts x us → Path At us r → Path At ts r
condition_path go g.absent p = next (go _ (fact (b.present (no_binary 10)) least)) p
condition_path go (g.present d) p = past (part (λ us a. go us (fact (b.present a.begins) a.low)) (binary_path d)) p

step_path : {At : List Token → Type 0} {x : Option Assignment} {ts us r : List Token} → ((vs : List Token) → Fact (BeginsForStep ts) (optional_assignment_reach x) vs → At vs) → SpellsForStep ts x us → Path At us r → Path At ts r
step_path {ts} go g.absent p = next (go _ (fact (b.present (b.target (expressions.primary expressions.nothing))) (begun_none ts))) p
step_path go (g.present d) p = past (part (λ us a. go us (fact (b.present a.begins) a.low)) (assignment_path d)) p

begun_initial : {ts r : List Token} {q : Reach} → BeginsForInitial ts r q → Path (Fact (BeginsForInitial ts) q) ts r
begun_initial (b.declares d) = part (λ us a. fact (b.declares a.begins) a.low) (begun_declaration d)
begun_initial (b.assigns d) = part (λ us a. fact (b.assigns a.begins) a.low) (begun_assignment d)

begun_condition : {ts r : List Token} {q : Reach} → BeginsForCondition ts r q → Path (Fact (BeginsForCondition ts) q) ts r
begun_condition (b.present d) = part (λ us a. fact (b.present a.begins) a.low) (begun_binary d)

begun_step : {ts r : List Token} {q : Reach} → BeginsForStep ts r q → Path (Fact (BeginsForStep ts) q) ts r
begun_step (b.present d) = part (λ us a. fact (b.present a.begins) a.low) (begun_assignment d)

-- ---- statements

none : {ts : List Token} {high : Reach} → Fact (BeginsStatement ts) high ts
none = fact b.nothing least

mutual
  pub statement_path : {x : Statement} {ts r : List Token} → SpellsStatement ts x r → Path (Fact (BeginsStatement ts) (statement_reach x)) ts r
  statement_path (g.block d) = next none (part (λ us a. fact (b.block a.begins) (deep _ _ a.low)) (statements_path d))
  statement_path (g.marked_block w d) = next none (next (fact (b.mark w) (one _ _)) (part (λ us a. fact (b.marked_block w a.begins) (deep _ _ a.low)) (statements_path d)))
  statement_path (g.bundle d) = next none (next (fact b.bundle_word (one _ _)) (part (λ us a. fact (b.bundle a.begins) (deep _ _ a.low)) (assignments_path d)))
  statement_path (g.declare d) = past (part (λ us a. fact (b.declaration a.begins) a.low) (declaration_path _ d)) (here (fact (b.declare d) same))
  statement_path (g.assign d) = past (part (λ us a. fact (b.assignment a.begins) a.low) (assignment_path d)) (here (fact (b.assign d) same))
  statement_path (g.call {ts} d) = past (led none (λ us a. fact (b.call_begun a.begins) (begun_low ts us _ a.low)) (call_path d)) (here (fact (b.call d) same))
  statement_path g.empty = next none (here (fact b.empty same))
  statement_path (g.if c d f) =
      next none (next (fact b.if_word (one _ _))
      (past (part (λ us a. fact (b.if_condition a.begins) (deep _ _ (grow _ a.low))) (binary_path c))
      (part (λ us a. fact (b.if_consequent c a.begins) (deep _ _ (along _ a.low))) (statement_path d))))
  statement_path (g.if_else c d e) =
      next none (next (fact b.if_word (one _ _))
      (past (part (λ us a. fact (b.if_condition a.begins) (deep _ _ (grow _ (grow _ a.low)))) (binary_path c))
      (past (part (λ us a. fact (b.if_consequent c a.begins) (deep _ _ (grow _ (along _ a.low)))) (statement_path d))
      (part (λ us a. fact (b.if_alternative c d a.begins) (deep _ _ (along _ a.low))) (statement_path e)))))
  statement_path (g.while c d) =
      next none (next (fact b.while_word (one _ _))
      (past (part (λ us a. fact (b.while_condition a.begins) (deep _ _ (grow _ a.low))) (binary_path c))
      (part (λ us a. fact (b.while_body c a.begins) (deep _ _ (along _ a.low))) (statement_path d))))
  statement_path (g.for i c s d) =
      next none (next (fact b.for_word (one _ _))
      (initial_path (λ us a. fact (b.for_initial a.begins) (deep _ _ (grow _ (grow _ (grow _ a.low))))) i
      (condition_path (λ us a. fact (b.for_condition i a.begins) (deep _ _ (grow _ (grow _ (along _ a.low))))) c
      (step_path (λ us a. fact (b.for_step i c a.begins) (deep _ _ (grow _ (along _ a.low)))) s
      (part (λ us a. fact (b.for_body i c s a.begins) (deep _ _ (along _ a.low))) (statement_path d))))))
  statement_path g.return_nothing = next none (next (fact (b.return_value (no_binary 10)) same) (here (fact b.return_nothing same)))
  statement_path (g.return d) = next none (past (part (λ us a. fact (b.return_value a.begins) (deep _ _ a.low)) (binary_path d)) (here (fact (b.return d) same)))
  statement_path g.break = next none (next (fact b.break_word same) (here (fact b.break same)))
  statement_path g.continue = next none (next (fact b.continue_word same) (here (fact b.continue same)))

  pub statements_path : {x : Statements} {t : Span} {ts r : List Token} → SpellsStatements ts x t r → Path (Fact (BeginsStatements ts) (statements_reach x)) ts r
  statements_path g.none = next (fact (b.first b.nothing) least) (here (fact b.none same))
  statements_path (g.more d m) =
      on (part (λ us a. fact (b.first a.begins) (grow _ a.low)) (statement_path d))
      (part (λ us a. fact (b.others d a.begins) (along _ a.low)) (statements_path m))

mutual
  begun_statement : {ts r : List Token} {q : Reach} → BeginsStatement ts r q → Path (Fact (BeginsStatement ts) q) ts r
  begun_statement b.nothing = here none
  begun_statement (b.block d) = next none (part (λ us a. fact (b.block a.begins) (deep _ _ a.low)) (begun_statements d))
  begun_statement (b.mark w) = next none (here (fact (b.mark w) same))
  begun_statement (b.marked_block w d) = next none (next (fact (b.mark w) (one _ _)) (part (λ us a. fact (b.marked_block w a.begins) (deep _ _ a.low)) (begun_statements d)))
  begun_statement b.bundle_word = next none (here (fact b.bundle_word same))
  begun_statement (b.bundle d) = next none (next (fact b.bundle_word (one _ _)) (part (λ us a. fact (b.bundle a.begins) (deep _ _ a.low)) (begun_assignments d)))
  begun_statement (b.declaration d) = part (λ us a. fact (b.declaration a.begins) a.low) (begun_declaration d)
  begun_statement (b.declare d) = statement_path (g.declare d)
  begun_statement (b.assignment d) = part (λ us a. fact (b.assignment a.begins) a.low) (begun_assignment d)
  begun_statement (b.assign d) = statement_path (g.assign d)
  begun_statement (b.call_begun {ts} {rest = r} d) = led none (λ us a. fact (b.call_begun a.begins) (begun_within ts us r (led_shorter (begun_call d)) a.low)) (begun_call d)
  begun_statement (b.call d) = statement_path (g.call d)
  begun_statement b.empty = statement_path g.empty
  begun_statement b.if_word = next none (here (fact b.if_word same))
  begun_statement (b.if_condition c) = next none (next (fact b.if_word (one _ _)) (part (λ us a. fact (b.if_condition a.begins) (deep _ _ a.low)) (begun_binary c)))
  begun_statement (b.if_consequent c d) =
      next none (next (fact b.if_word (one _ _))
      (past (part (λ us a. fact (b.if_condition a.begins) (deep _ _ (grow _ a.low))) (binary_path c))
      (part (λ us a. fact (b.if_consequent c a.begins) (deep _ _ (along _ a.low))) (begun_statement d))))
  begun_statement (b.if_alternative c d e) =
      next none (next (fact b.if_word (one _ _))
      (past (part (λ us a. fact (b.if_condition a.begins) (deep _ _ (grow _ (grow _ a.low)))) (binary_path c))
      (past (part (λ us a. fact (b.if_consequent c a.begins) (deep _ _ (grow _ (along _ a.low)))) (statement_path d))
      (part (λ us a. fact (b.if_alternative c d a.begins) (deep _ _ (along _ a.low))) (begun_statement e)))))
  begun_statement b.while_word = next none (here (fact b.while_word same))
  begun_statement (b.while_condition c) = next none (next (fact b.while_word (one _ _)) (part (λ us a. fact (b.while_condition a.begins) (deep _ _ a.low)) (begun_binary c)))
  begun_statement (b.while_body c d) =
      next none (next (fact b.while_word (one _ _))
      (past (part (λ us a. fact (b.while_condition a.begins) (deep _ _ (grow _ a.low))) (binary_path c))
      (part (λ us a. fact (b.while_body c a.begins) (deep _ _ (along _ a.low))) (begun_statement d))))
  begun_statement b.for_word = next none (here (fact b.for_word same))
  begun_statement (b.for_initial i) = next none (next (fact b.for_word (one _ _)) (part (λ us a. fact (b.for_initial a.begins) (deep _ _ a.low)) (begun_initial i)))
  begun_statement (b.for_condition i c) =
      next none (next (fact b.for_word (one _ _))
      (initial_path (λ us a. fact (b.for_initial a.begins) (deep _ _ (grow _ a.low))) i
      (part (λ us a. fact (b.for_condition i a.begins) (deep _ _ (along _ a.low))) (begun_condition c))))
  begun_statement (b.for_step i c s) =
      next none (next (fact b.for_word (one _ _))
      (initial_path (λ us a. fact (b.for_initial a.begins) (deep _ _ (grow _ (grow _ a.low)))) i
      (condition_path (λ us a. fact (b.for_condition i a.begins) (deep _ _ (grow _ (along _ a.low)))) c
      (part (λ us a. fact (b.for_step i c a.begins) (deep _ _ (along _ a.low))) (begun_step s)))))
  begun_statement (b.for_body i c s d) =
      next none (next (fact b.for_word (one _ _))
      (initial_path (λ us a. fact (b.for_initial a.begins) (deep _ _ (grow _ (grow _ (grow _ a.low))))) i
      (condition_path (λ us a. fact (b.for_condition i a.begins) (deep _ _ (grow _ (grow _ (along _ a.low))))) c
      (step_path (λ us a. fact (b.for_step i c a.begins) (deep _ _ (grow _ (along _ a.low)))) s
      (part (λ us a. fact (b.for_body i c s a.begins) (deep _ _ (along _ a.low))) (begun_statement d))))))
  begun_statement (b.return_value d) = next none (part (λ us a. fact (b.return_value a.begins) (deep _ _ a.low)) (begun_binary d))
  begun_statement b.return_nothing = statement_path g.return_nothing
  begun_statement (b.return d) = statement_path (g.return d)
  begun_statement b.break_word = next none (here (fact b.break_word same))
  begun_statement b.break = statement_path g.break
  begun_statement b.continue_word = next none (here (fact b.continue_word same))
  begun_statement b.continue = statement_path g.continue

  pub begun_statements : {ts r : List Token} {q : Reach} → BeginsStatements ts r q → Path (Fact (BeginsStatements ts) q) ts r
  begun_statements b.none = statements_path g.none
  begun_statements (b.first d) = part (λ us a. fact (b.first a.begins) a.low) (begun_statement d)
  begun_statements (b.others d m) =
      on (part (λ us a. fact (b.first a.begins) (grow _ a.low)) (statement_path d))
      (part (λ us a. fact (b.others d a.begins) (along _ a.low)) (begun_statements m))
