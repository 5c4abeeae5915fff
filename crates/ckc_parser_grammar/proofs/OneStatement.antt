-- Tokens that begin with a statement begin with one statement.
use Rattle.std.proofs.Common.{◌≡◌, ℕ, true, false, List, [], ◌∷◌, Option, Some, None, refl, sym, ap, subst, ◌∙◌, arith}
use Rattle.std.specs.Option.{is_some}
use Rattle.ckc_text.specs.declared.place.Span.{Span}
use Rattle.ckc_lexer.specs.declared.token.Token.{Token}
use Rattle.ckc_lexer.specs.declared.token.TokenKind.{TokenKind}
use Rattle.ckc_lexer.specs.declared.keyword.Keyword.TheVariants as keywords
use Rattle.ckc_lexer.specs.declared.token.TokenKind.TheVariants as kinds
use Rattle.ckc_tree.specs.declared.stmt.ArrayForm.{ArrayForm}
use Rattle.ckc_tree.specs.declared.stmt.SignedConstant.{SignedConstant}
use Rattle.ckc_tree.specs.declared.stmt.StepOperator.{StepOperator}
use Rattle.ckc_tree.specs.Expressions.{Expression, Bounds}
use Rattle.ckc_tree.specs.Statements as trees
use Rattle.ckc_tree.specs.Statements.{Initializer, Declarator, Declaration, Assignment, assignment_span, ForInitial, Statement, statement_span, Statements}
use Rattle.ckc_parser_grammar.specs.Tokens.{token, join, from_first, store_operator_of, step_operator_of, next_is, comma, else_word}
use Rattle.ckc_parser_grammar.specs.ExpressionGrammar as expressions
use Rattle.ckc_parser_grammar.specs.ExpressionGrammar.{SpellsUnary, SpellsCall}
use Rattle.ckc_parser_grammar.specs.StatementGrammar as g
use Rattle.ckc_parser_grammar.specs.StatementGrammar.{SpellsOptionalBounds, SpellsOptionalArray, SpellsSigned, SpellsConstants, SpellsOptionalInitializer, SpellsDeclarator, SpellsDeclarators, SpellsDeclaration, SpellsAssignment, SpellsAssignments, SpellsForInitial, SpellsForCondition, SpellsForStep, SpellsStatement, SpellsStatements}
use Rattle.ckc_parser_grammar.proofs.OneType.{Same, first_span, rest_of, stars_same, type_same}
use Rattle.ckc_parser_grammar.proofs.Heads.{starts, unary_starts, class}
use Rattle.ckc_parser_grammar.proofs.OneExpression.{Read, SameRead, first_kind, behind, form, typed, after, move_binary, binary_same, unary_same, call_same, bounds_same}
use Rattle.ckc_parser_grammar.proofs.Roles.{assignment_role, role_of, statement_role, statement_starts, initial_role_of, initial_role}
use Rattle.ckc_parser_grammar.proofs.OneMeaning.{same_word, says_nothing, each_step_operator, store_step}

abbrev pub first_name : List Token → List ℕ
first_name [] = []
first_name (t ∷ ts) = elim t.kind [ kinds.Name x ↦ x | _ ↦ [] ]

pub stands : {A : Type 0} {a b : A} {o p : Span} {r q : List Token} → SameRead a o r b p q → o ≡ p
stands {A} same = ap (λ (x : Read A). x.1) same

-- a part that ends the whole so far
longer : {A B : Type 0} {e e' : A} {p p' : Span} {r r' : List Token} (make : A → B) (o : Span) → SameRead e p r e' p' r' → SameRead (make e) (join o p) r (make e') (join o p') r'
longer {A} {B} make o same = ap {A = Read A} {B = Read B} (λ x. (make x.0, join o x.1, x.2)) same

pub optional_bounds_same : {o p p' : Span} {ts r r' : List Token} {b b' : Option Bounds} → SpellsOptionalBounds o ts b p r → SpellsOptionalBounds o ts b' p' r' → SameRead b p r b' p' r'
optional_bounds_same (g.absent f) (g.absent f') = refl
optional_bounds_same (g.absent f) (g.present d) = absurd cc
optional_bounds_same (g.present d) (g.absent f) = absurd cc
optional_bounds_same (g.present {o} d) (g.present d') = longer (λ b. Some b) o (bounds_same d d')

array_same : {o p p' : Span} {ts r r' : List Token} {b b' : Option ArrayForm} → SpellsOptionalArray o ts b p r → SpellsOptionalArray o ts b' p' r' → SameRead b p r b' p' r'
array_same (g.absent f) (g.absent f') = refl
array_same (g.absent f) (g.present w) = let h : true ≡ false = sym (ap is_some w) ∙ f in absurd cc
array_same (g.present w) (g.absent f) = let h : true ≡ false = sym (ap is_some w) ∙ f in absurd cc
array_same (g.present w) (g.present w') = rw (same_word w w') refl

signed_same : {ts r r' : List Token} {c c' : SignedConstant} → SpellsSigned ts c r → SpellsSigned ts c' r' → Same c r c' r'
signed_same (g.plain c) (g.plain c') = rw (same_word c c') refl
signed_same (g.plain c) (g.minus c') = says_nothing c
signed_same (g.minus c) (g.plain c') = says_nothing c'
signed_same (g.minus c) (g.minus c') = rw (same_word c c') refl

ends_apart : {us vs : List Token} {s t : Span} {c c' : SignedConstant} → Same c (token kinds.CloseBrace s ∷ us) c' (token kinds.Comma t ∷ vs) → ⊥
ends_apart same =
    let h : kinds.CloseBrace ≡ kinds.Comma = ap first_kind (after same) in
    absurd cc

move_constants : {us ts r : List Token} {cs : List SignedConstant} {t : Span} → us ≡ ts → SpellsConstants ts cs t r → SpellsConstants us cs t r
move_constants {r} {cs} {t} same d = subst (λ (x : List Token). SpellsConstants x cs t r) (sym same) d

constants_same : {ts r r' : List Token} {cs cs' : List SignedConstant} {t t' : Span} → SpellsConstants ts cs t r → SpellsConstants ts cs' t' r' → SameRead cs t r cs' t' r'
constants_same (g.one d) (g.one d') = ap (λ (x : SignedConstant × List Token). (x.0 ∷ [], first_span x.1, rest_of x.1)) (signed_same d d')
constants_same (g.one d) (g.more d' m') = absurd (ends_apart (signed_same d d'))
constants_same (g.more d m) (g.one d') = absurd (ends_apart (sym (signed_same d d')))
constants_same (g.more d m) (g.more {signed} d' m') =
    let first_is = signed_same d d' in
    rw (typed first_is) (ap (λ (x : Read (List SignedConstant)). (signed ∷ x.0, x.1, x.2)) (constants_same m (move_constants (ap rest_of (after first_is)) m')))

initializer_same : {o p p' : Span} {ts r r' : List Token} {b b' : Option Initializer} → SpellsOptionalInitializer o ts b p r → SpellsOptionalInitializer o ts b' p' r' → SameRead b p r b' p' r'
initializer_same (g.absent f) (g.absent f') = refl
initializer_same (g.absent f) (g.value d) = absurd cc
initializer_same (g.absent f) (g.constants d) = absurd cc
initializer_same (g.value d) (g.absent f) = absurd cc
initializer_same (g.constants d) (g.absent f) = absurd cc
initializer_same (g.value {o} d) (g.value d') = longer (λ e. Some (trees.Value e)) o (binary_same d d')
initializer_same (g.value d) (g.constants m) = absurd (omega (arith, starts d))
initializer_same (g.constants m) (g.value d) = absurd (omega (arith, starts d))
initializer_same (g.constants {p} {o} m) (g.constants m') = ap (λ (x : Read (List SignedConstant)). (Some (trees.Constants x.0 (join p x.1)), join o x.1, x.2)) (constants_same m m')

pub declarator_same : {ts r r' : List Token} {d d' : Declarator} → SpellsDeclarator ts d r → SpellsDeclarator ts d' r' → Same d r d' r'
declarator_same (g.declarator {ts} st a b i) (g.declarator {p = p'} {q = q'} {w = w'} {vs = vs'} {ws = ws'} {rest = rest'} {written = written'} {array = array'} {initializer = initializer'} st' a' b' i') =
    let name_is = stars_same st st' in
    let array_is = array_same a (subst (λ (x : ℕ × List Token). SpellsOptionalArray (from_first ts (first_span x.1)) (rest_of x.1) array' p' vs') (sym name_is) a') in
    let bounds_is = optional_bounds_same b (subst (λ (x : Read (Option ArrayForm)). SpellsOptionalBounds x.1 x.2 written' q' ws') (sym array_is) b') in
    let initializer_is = initializer_same i (subst (λ (x : Read (Option Bounds)). SpellsOptionalInitializer x.1 x.2 initializer' w' rest') (sym bounds_is) i') in
    rw (typed name_is, ap first_name (after name_is), ap first_span (after name_is), form array_is, form bounds_is, form initializer_is, stands initializer_is, behind initializer_is) refl

declarators_same : {ts r r' : List Token} {ds ds' : List Declarator} {w w' : Span} → SpellsDeclarators ts ds w r → SpellsDeclarators ts ds' w' r' → SameRead ds w r ds' w' r'
declarators_same (g.one d f) (g.one d' f') = ap (λ (x : Declarator × List Token). (x.0 ∷ [], x.0.span, x.1)) (declarator_same d d')
declarators_same (g.one d f) (g.more d' m) = let h : true ≡ false = ap (next_is comma) (sym (after (declarator_same d d'))) ∙ f in absurd cc
declarators_same (g.more d m) (g.one d' f) = let h : true ≡ false = ap (next_is comma) (after (declarator_same d d')) ∙ f in absurd cc
declarators_same (g.more d m) (g.more {w = w'} {rest = rest'} {declarator} {declarators} d' m') =
    let first_is = declarator_same d d' in
    rw (typed first_is) (ap (λ (x : Read (List Declarator)). (declarator ∷ x.0, x.1, x.2)) (declarators_same m (subst (λ (x : List Token). SpellsDeclarators x declarators w' rest') (sym (ap rest_of (after first_is))) m')))

move_declarators : {us ts r : List Token} {ds : List Declarator} {w : Span} → us ≡ ts → SpellsDeclarators ts ds w r → SpellsDeclarators us ds w r
move_declarators {r} {ds} {w} same d = subst (λ (x : List Token). SpellsDeclarators x ds w r) (sym same) d

pub declarators_from : {us ts r r' : List Token} {ds ds' : List Declarator} {w w' : Span} → us ≡ ts → SpellsDeclarators us ds w r → SpellsDeclarators ts ds' w' r' → SameRead ds w r ds' w' r'
declarators_from same d d' = declarators_same d (move_declarators same d')

declaration_same : {ts r r' : List Token} {d d' : Declaration} → SpellsDeclaration ts d r → SpellsDeclaration ts d' r' → Same d r d' r'
declaration_same (g.declaration t d) (g.declaration t' d') =
    let base_is = type_same t t' in
    let declared_is = declarators_from (after base_is) d d' in
    rw (typed base_is, form declared_is, stands declared_is, behind declared_is) refl

-- ---- assignments

-- a step operator starts no expression
step_class : {k : TokenKind} {w : StepOperator} {s o : Span} {ts r : List Token} {e : Expression} → step_operator_of k ≡ Some w → SpellsUnary (token k s ∷ ts) e o r → ⊥
step_class {k} w d = absurd (omega (arith, unary_starts d, each_step_operator (λ k. class k ≡ 0) k w refl refl))

assignment_same : {ts r r' : List Token} {a a' : Assignment} → SpellsAssignment ts a r → SpellsAssignment ts a' r' → Same a r a' r'
assignment_same (g.store {store_operator} d w e) (g.store d' w' e') =
    let target_is = unary_same d d' in
    let word_is = same_word (subst (λ (x : TokenKind). store_operator_of x ≡ Some store_operator) (ap first_kind (behind target_is)) w) w' in
    let value_is = binary_same e (move_binary (ap rest_of (behind target_is)) e') in
    rw (word_is, form target_is, stands target_is, form value_is, stands value_is, behind value_is) refl
assignment_same (g.store {store_operator} d w e) (g.after {k} d' w') = absurd (store_step k (subst (λ (x : TokenKind). store_operator_of x ≡ Some store_operator) (ap first_kind (behind (unary_same d d'))) w) w')
assignment_same (g.after {k} d w) (g.store {store_operator} d' w' e') = absurd (store_step k (subst (λ (x : TokenKind). store_operator_of x ≡ Some store_operator) (sym (ap first_kind (behind (unary_same d d')))) w') w)
assignment_same (g.store d w e) (g.before w' d') = absurd (step_class w' d)
assignment_same (g.before w d) (g.store d' w' e') = absurd (step_class w d')
assignment_same (g.after d w) (g.before w' d') = absurd (step_class w' d)
assignment_same (g.before w d) (g.after d' w') = absurd (step_class w d')
assignment_same (g.after {step_operator} d w) (g.after d' w') =
    let target_is = unary_same d d' in
    let word_is = same_word (subst (λ (x : TokenKind). step_operator_of x ≡ Some step_operator) (ap first_kind (behind target_is)) w) w' in
    rw (word_is, form target_is, stands target_is, ap first_span (behind target_is), ap rest_of (behind target_is)) refl
assignment_same (g.before {s} w d) (g.before w' d') =
    let target_is = unary_same d d' in
    rw (same_word w w', form target_is, stands target_is, behind target_is) refl

move_assignments : {us ts r : List Token} {list : List Assignment} {t : Span} → us ≡ ts → SpellsAssignments ts list t r → SpellsAssignments us list t r
move_assignments {r} {list} {t} same d = subst (λ (x : List Token). SpellsAssignments x list t r) (sym same) d

assignments_same : {ts r r' : List Token} {list list' : List Assignment} {t t' : Span} → SpellsAssignments ts list t r → SpellsAssignments ts list' t' r' → SameRead list t r list' t' r'
assignments_same g.none g.none = refl
assignments_same g.none (g.more d m) = absurd (omega (arith, assignment_role d))
assignments_same (g.more d m) g.none = absurd (omega (arith, assignment_role d))
assignments_same (g.more d m) (g.more {assignment} d' m') =
    let first_is = assignment_same d d' in
    rw (typed first_is) (ap (λ (x : Read (List Assignment)). (assignment ∷ x.0, x.1, x.2)) (assignments_same m (move_assignments (ap rest_of (after first_is)) m')))

-- ---- the head of a for

one_initial : {ts r r' : List Token} {i i' : ForInitial} (d : SpellsForInitial ts i r) (d' : SpellsForInitial ts i' r') → initial_role_of d ≡ initial_role_of d'
one_initial d d' = sym (initial_role d) ∙ initial_role d'

initial_same : {ts r r' : List Token} {i i' : ForInitial} → SpellsForInitial ts i r → SpellsForInitial ts i' r' → Same i r i' r'
initial_same g.nothing g.nothing = refl
initial_same (g.declares d) (g.declares d') = ap (λ (x : Declaration × List Token). (trees.Declares x.0, rest_of x.1)) (declaration_same d d')
initial_same (g.assigns d) (g.assigns d') = ap (λ (x : Assignment × List Token). (trees.Assigns x.0, rest_of x.1)) (assignment_same d d')
initial_same d d' = absurd (omega (arith, one_initial d d'))

condition_same : {ts r r' : List Token} {i i' : Option Expression} → SpellsForCondition ts i r → SpellsForCondition ts i' r' → Same i r i' r'
condition_same g.absent g.absent = refl
condition_same g.absent (g.present d) = absurd (omega (arith, starts d))
condition_same (g.present d) g.absent = absurd (omega (arith, starts d))
condition_same (g.present d) (g.present d') = ap (λ (x : Read Expression). (Some x.0, rest_of x.2)) (binary_same d d')

step_same : {ts r r' : List Token} {i i' : Option Assignment} → SpellsForStep ts i r → SpellsForStep ts i' r' → Same i r i' r'
step_same g.absent g.absent = refl
step_same g.absent (g.present d) = absurd (omega (arith, assignment_role d))
step_same (g.present d) g.absent = absurd (omega (arith, assignment_role d))
step_same (g.present d) (g.present d') = ap (λ (x : Assignment × List Token). (Some x.0, rest_of x.1)) (assignment_same d d')

-- the head of a for, which its body follows
pub record Head : Type 0 where
  pub initial : ForInitial
  pub condition : Option Expression
  pub step : Option Assignment

head_same : {ts us vs r us' vs' r' : List Token} {i i' : ForInitial} {c c' : Option Expression} {a a' : Option Assignment}
    → SpellsForInitial ts i us → SpellsForCondition us c vs → SpellsForStep vs a r → SpellsForInitial ts i' us' → SpellsForCondition us' c' vs' → SpellsForStep vs' a' r'
    → Same {A = Head} (record { initial = i; condition = c; step = a }) r (record { initial = i'; condition = c'; step = a' }) r'
head_same {vs'} {r'} {c'} {a'} i c a i' d' e' =
    let initial_is = initial_same i i' in
    let condition_is = condition_same c (subst (λ (x : List Token). SpellsForCondition x c' vs') (sym (after initial_is)) d') in
    let step_is = step_same a (subst (λ (x : List Token). SpellsForStep x a' r') (sym (after condition_is)) e') in
    rw (typed initial_is, typed condition_is, typed step_is, after step_is) refl

-- ---- statements

not_called : {ts r r' : List Token} {a : Assignment} {c : Expression} {o t : Span} → SpellsAssignment ts a r' → SpellsCall ts c o (token kinds.Semicolon t ∷ r) → ⊥
not_called (g.store {store_operator} d w e) c =
    let target_is = unary_same (expressions.postfix (expressions.called c) (expressions.unselected refl)) d in
    says_nothing (subst (λ (x : TokenKind). store_operator_of x ≡ Some store_operator) (sym (ap first_kind (behind target_is))) w)
not_called (g.after {step_operator} d w) c =
    let target_is = unary_same (expressions.postfix (expressions.called c) (expressions.unselected refl)) d in
    says_nothing (subst (λ (x : TokenKind). step_operator_of x ≡ Some step_operator) (sym (ap first_kind (behind target_is))) w)
not_called (g.before w d) (expressions.call a) = says_nothing w

one_role : {ts r r' : List Token} {s s' : Statement} (d : SpellsStatement ts s r) (d' : SpellsStatement ts s' r') → role_of d ≡ role_of d'
one_role d d' = sym (statement_role d) ∙ statement_role d'

move_statement : {us ts r : List Token} {s : Statement} → us ≡ ts → SpellsStatement ts s r → SpellsStatement us s r
move_statement {r} {s} same d = subst (λ (x : List Token). SpellsStatement x s r) (sym same) d

pub move_statements : {us ts r : List Token} {ss : Statements} {t : Span} → us ≡ ts → SpellsStatements ts ss t r → SpellsStatements us ss t r
move_statements {r} {ss} {t} same d = subst (λ (x : List Token). SpellsStatements x ss t r) (sym same) d

no_else : {c c' : Statement} {r r' : List Token} {w : Span} → next_is else_word r ≡ false → Same c r c' (token (kinds.Keyword keywords.Else) w ∷ r') → ⊥
no_else f same =
    let h : true ≡ false = ap (next_is else_word) (sym (after same)) ∙ f in
    absurd cc

-- a statement that another one ends
around_body : (make : Statement → Span → Statement) (s : Span) {b b' : Statement} {r r' : List Token} → Same b r b' r'
    → Same (make b (join s (statement_span b))) r (make b' (join s (statement_span b'))) r'
around_body make s same = ap (λ (x : Statement × List Token). (make x.0 (join s (statement_span x.0)), x.1)) same

mutual
  pub statement_same : {ts r r' : List Token} {s s' : Statement} → SpellsStatement ts s r → SpellsStatement ts s' r' → Same s r s' r'
  statement_same (g.block {s} d) (g.block d') = ap (λ (x : Read Statements). (trees.Block None x.0 (join s x.1), x.2)) (statements_same d d')
  statement_same (g.marked_block {s} w d) (g.marked_block {mark} w' d') = rw (same_word w w') (ap (λ (x : Read Statements). (trees.Block (Some mark) x.0 (join s x.1), x.2)) (statements_same d d'))
  statement_same (g.bundle {s} d) (g.bundle d') = ap (λ (x : Read (List Assignment)). (trees.Bundle x.0 (join s x.1), x.2)) (assignments_same d d')
  statement_same (g.declare d) (g.declare d') = ap (λ (x : Declaration × List Token). (trees.Declare x.0 (join x.0.span (first_span x.1)), rest_of x.1)) (declaration_same d d')
  statement_same (g.assign d) (g.assign d') = ap (λ (x : Assignment × List Token). (trees.Assign x.0 (join (assignment_span x.0) (first_span x.1)), rest_of x.1)) (assignment_same d d')
  statement_same (g.assign d) (g.call c) = absurd (not_called d c)
  statement_same (g.call c) (g.assign d) = absurd (not_called d c)
  statement_same (g.call d) (g.call d') = ap (λ (x : Read Expression). (trees.CallAlone x.0 (join x.1 (first_span x.2)), rest_of x.2)) (call_same d d')
  statement_same g.empty g.empty = refl
  statement_same (g.if {s} c d f) (g.if {condition} c' d' f') =
      let condition_is = binary_same c c' in
      rw (form condition_is) (around_body (λ b span. trees.If condition b span) s (statement_same d (move_statement (ap rest_of (behind condition_is)) d')))
  statement_same (g.if c d f) (g.if_else c' d' e') = absurd (no_else f (statement_same d (move_statement (ap rest_of (behind (binary_same c c'))) d')))
  statement_same (g.if_else c d e) (g.if c' d' f) = absurd (no_else f (sym (statement_same d (move_statement (ap rest_of (behind (binary_same c c'))) d'))))
  statement_same (g.if_else {s} c d e) (g.if_else {condition} {consequent} c' d' e') =
      let condition_is = binary_same c c' in
      let consequent_is = statement_same d (move_statement (ap rest_of (behind condition_is)) d') in
      rw (form condition_is, typed consequent_is) (around_body (λ b span. trees.IfElse condition consequent b span) s (statement_same e (move_statement (ap rest_of (after consequent_is)) e')))
  statement_same (g.while {s} c d) (g.while {condition} c' d') =
      let condition_is = binary_same c c' in
      rw (form condition_is) (around_body (λ b span. trees.While condition b span) s (statement_same d (move_statement (ap rest_of (behind condition_is)) d')))
  statement_same (g.for {s} i c a d) (g.for {initial} {optional} {step} i' c' a' d') =
      let head_is = head_same i c a i' c' a' in
      rw (ap (λ (x : Head × List Token). x.0.initial) head_is, ap (λ (x : Head × List Token). x.0.condition) head_is, ap (λ (x : Head × List Token). x.0.step) head_is)
      (around_body (λ b span. trees.For initial optional step b span) s (statement_same d (move_statement (after head_is) d')))
  statement_same g.return_nothing g.return_nothing = refl
  statement_same g.return_nothing (g.return d) = absurd (omega (arith, starts d))
  statement_same (g.return d) g.return_nothing = absurd (omega (arith, starts d))
  statement_same (g.return {s} d) (g.return d') = ap (λ (x : Read Expression). (trees.Return (Some x.0) (join s (first_span x.2)), rest_of x.2)) (binary_same d d')
  statement_same g.break g.break = refl
  statement_same g.continue g.continue = refl
  statement_same d d' = absurd (omega (arith, one_role d d'))

  pub statements_same : {ts r r' : List Token} {ss ss' : Statements} {t t' : Span} → SpellsStatements ts ss t r → SpellsStatements ts ss' t' r' → SameRead ss t r ss' t' r'
  statements_same g.none g.none = refl
  statements_same g.none (g.more d m) = absurd (omega (arith, statement_starts d))
  statements_same (g.more d m) g.none = absurd (omega (arith, statement_starts d))
  statements_same (g.more d m) (g.more {statement} d' m') =
      let first_is = statement_same d d' in
      rw (typed first_is) (ap (λ (x : Read Statements). (trees.Then statement x.0, x.1, x.2)) (statements_same m (move_statements (after first_is) m')))
