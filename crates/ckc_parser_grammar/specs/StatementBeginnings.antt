-- Which tokens begin a declaration, an assignment or a statement, and the nodes that they have put.
use Rattle.std.specs.Prelude.{◌≡◌, ℕ, List, ◌∷◌, Option, Some}
use Rattle.ckc_text.specs.declared.place.Span.{Span}
use Rattle.ckc_lexer.specs.declared.token.Token.{Token}
use Rattle.ckc_lexer.specs.declared.token.TokenKind.{TokenKind}
use Rattle.ckc_lexer.specs.declared.keyword.Keyword.TheVariants as keywords
use Rattle.ckc_lexer.specs.declared.token.TokenKind.TheVariants as kinds
use Rattle.ckc_tree.specs.declared.stmt.Mark.{Mark}
use Rattle.ckc_tree.specs.declared.stmt.ArrayForm.{ArrayForm}
use Rattle.ckc_tree.specs.declared.stmt.ArrayKind.{ArrayKind}
use Rattle.ckc_tree.specs.declared.stmt.SignedConstant.{SignedConstant}
use Rattle.ckc_tree.specs.declared.stmt.StoreOperator.{StoreOperator}
use Rattle.ckc_tree.specs.declared.stmt.StepOperator.{StepOperator}
use Rattle.ckc_tree.specs.Types.{TypeTree, type_span}
use Rattle.ckc_tree.specs.Expressions.{Expression, Bounds}
use Rattle.ckc_tree.specs.Statements.{Declarator, Declaration, Assignment, ForInitial, Statement}
use Rattle.ckc_tree.specs.Heights.{Reach, nowhere, node, around, ◌beside◌, type_reach, expression_reach, optional_bounds_reach}
use Rattle.ckc_tree.specs.Heights.{optional_expression_reach, optional_assignment_reach, declarator_reach, declared_reach, assignment_reach}
use Rattle.ckc_tree.specs.Heights.{for_initial_reach, statement_reach}
use Rattle.ckc_parser_grammar.specs.Tokens.{token, from_first, mark_of, array_kind_of, store_operator_of, step_operator_of}
use Rattle.ckc_parser_grammar.specs.TypeGrammar.{SpellsStars, SpellsType}
use Rattle.ckc_parser_grammar.specs.ExpressionGrammar.{SpellsUnary, SpellsCall, SpellsExpression}
use Rattle.ckc_parser_grammar.specs.StatementGrammar.{SpellsOptionalBounds, SpellsOptionalArray, SpellsSigned, SpellsDeclarator, SpellsDeclaration}
use Rattle.ckc_parser_grammar.specs.StatementGrammar.{SpellsAssignment, SpellsForInitial, SpellsForCondition, SpellsForStep, SpellsStatement}
use Rattle.ckc_parser_grammar.specs.TypeBeginnings.{begun, BeginsStars, BeginsType}
use Rattle.ckc_parser_grammar.specs.ExpressionBeginnings.{BeginsUnary, BeginsCall, BeginsBounds, BeginsExpression}

pub data BeginsOptionalBounds : List Token → List Token → Reach → Type 0 where
  nothing : {ts : List Token} → BeginsOptionalBounds ts ts nowhere
  bounds : {s : Span} {ts rest : List Token} {r : Reach} → BeginsBounds ts rest r → BeginsOptionalBounds (token kinds.Colon s ∷ ts) rest r

pub data BeginsOptionalArray : List Token → List Token → Type 0 where
  nothing : {ts : List Token} → BeginsOptionalArray ts ts
  word : {k : TokenKind} {s : Span} {rest : List Token} {kind : ArrayKind} → array_kind_of k ≡ Some kind → BeginsOptionalArray (token k s ∷ rest) rest
  bracket : {k : TokenKind} {s p : Span} {rest : List Token} {kind : ArrayKind} → array_kind_of k ≡ Some kind
      → BeginsOptionalArray (token k s ∷ token kinds.OpenBracket p ∷ rest) rest
  length : {n : ℕ} {k : TokenKind} {s p q : Span} {rest : List Token} {kind : ArrayKind} → array_kind_of k ≡ Some kind
      → BeginsOptionalArray (token k s ∷ token kinds.OpenBracket p ∷ token (kinds.Number n) q ∷ rest) rest
  array : {n : ℕ} {k : TokenKind} {s t p q : Span} {rest : List Token} {kind : ArrayKind} → array_kind_of k ≡ Some kind
      → BeginsOptionalArray (token k s ∷ token kinds.OpenBracket p ∷ token (kinds.Number n) q ∷ token kinds.CloseBracket t ∷ rest) rest

pub data BeginsSigned : List Token → List Token → Type 0 where
  nothing : {ts : List Token} → BeginsSigned ts ts
  minus : {s : Span} {rest : List Token} → BeginsSigned (token kinds.Minus s ∷ rest) rest
  signed : {ts rest : List Token} {signed : SignedConstant} → SpellsSigned ts signed rest → BeginsSigned ts rest

pub data BeginsConstants : List Token → List Token → Type 0 where
  first : {ts rest : List Token} → BeginsSigned ts rest → BeginsConstants ts rest
  last : {t : Span} {ts rest : List Token} {signed : SignedConstant} → SpellsSigned ts signed (token kinds.CloseBrace t ∷ rest) → BeginsConstants ts rest
  others : {s : Span} {ts us rest : List Token} {signed : SignedConstant} → SpellsSigned ts signed (token kinds.Comma s ∷ us) → BeginsConstants us rest
      → BeginsConstants ts rest

pub data BeginsOptionalInitializer : List Token → List Token → Reach → Type 0 where
  nothing : {ts : List Token} → BeginsOptionalInitializer ts ts nowhere
  value : {s : Span} {ts rest : List Token} {r : Reach} → BeginsExpression ts rest r → BeginsOptionalInitializer (token kinds.Equal s ∷ ts) rest r
  constants : {s p : Span} {ts rest : List Token} → BeginsConstants ts rest
      → BeginsOptionalInitializer (token kinds.Equal s ∷ token kinds.OpenBrace p ∷ ts) rest nowhere

pub data BeginsDeclarator : List Token → List Token → Reach → Type 0 where
  stars : {ts rest : List Token} → BeginsStars ts rest → BeginsDeclarator ts rest nowhere
  array : {n : ℕ} {x : List ℕ} {s : Span} {ts us rest : List Token} → SpellsStars ts n (token (kinds.Name x) s ∷ us) → BeginsOptionalArray us rest
      → BeginsDeclarator ts rest nowhere
  bounds : {n : ℕ} {x : List ℕ} {s p : Span} {ts us vs rest : List Token} {array : Option ArrayForm} {r : Reach}
      → SpellsStars ts n (token (kinds.Name x) s ∷ us) → SpellsOptionalArray (from_first ts s) us array p vs → BeginsOptionalBounds vs rest r
      → BeginsDeclarator ts rest r
  initializer : {n : ℕ} {x : List ℕ} {s p q : Span} {ts us vs ws rest : List Token} {written : Option Bounds} {array : Option ArrayForm} {r : Reach}
      → SpellsStars ts n (token (kinds.Name x) s ∷ us) → SpellsOptionalArray (from_first ts s) us array p vs → SpellsOptionalBounds p vs written q ws
      → BeginsOptionalInitializer ws rest r → BeginsDeclarator ts rest (optional_bounds_reach written beside r)

pub data BeginsDeclarators : List Token → List Token → Reach → Type 0 where
  first : {ts rest : List Token} {r : Reach} → BeginsDeclarator ts rest r → BeginsDeclarators ts rest r
  others : {s : Span} {ts us rest : List Token} {declarator : Declarator} {r : Reach} → SpellsDeclarator ts declarator (token kinds.Comma s ∷ us)
      → BeginsDeclarators us rest r → BeginsDeclarators ts rest (declarator_reach declarator beside r)

-- a declaration among statements, which is a node
pub data BeginsDeclaration : List Token → List Token → Reach → Type 0 where
  base : {ts rest : List Token} {r : Reach} → BeginsType ts rest r → BeginsDeclaration ts rest (begun ts rest r)
  declarators : {ts us rest : List Token} {base : TypeTree} {r : Reach} → SpellsType ts base us → BeginsDeclarators us rest r
      → BeginsDeclaration ts rest (around (type_span base).from (type_reach base beside r))

-- an assignment, which is a node
pub data BeginsAssignment : List Token → List Token → Reach → Type 0 where
  target : {ts rest : List Token} {r : Reach} → BeginsUnary ts rest r → BeginsAssignment ts rest (begun ts rest r)
  value : {k : TokenKind} {s o : Span} {ts us rest : List Token} {target : Expression} {store_operator : StoreOperator} {r : Reach}
      → SpellsUnary ts target o (token k s ∷ us) → store_operator_of k ≡ Some store_operator → BeginsExpression us rest r
      → BeginsAssignment ts rest (around o.from (expression_reach target beside r))
  after : {k : TokenKind} {s o : Span} {ts rest : List Token} {target : Expression} {step_operator : StepOperator} → SpellsUnary ts target o (token k s ∷ rest)
      → step_operator_of k ≡ Some step_operator → BeginsAssignment ts rest (around o.from (expression_reach target))
  before : {k : TokenKind} {s : Span} {ts rest : List Token} {step_operator : StepOperator} {r : Reach} → step_operator_of k ≡ Some step_operator
      → BeginsUnary ts rest r → BeginsAssignment (token k s ∷ ts) rest (around s.from r)

pub data BeginsAssignments : List Token → List Token → Reach → Type 0 where
  none : {t : Span} {rest : List Token} → BeginsAssignments (token kinds.CloseBrace t ∷ rest) rest nowhere
  first : {ts rest : List Token} {r : Reach} → BeginsAssignment ts rest r → BeginsAssignments ts rest r
  others : {s : Span} {ts us rest : List Token} {assignment : Assignment} {r : Reach} → SpellsAssignment ts assignment (token kinds.Semicolon s ∷ us)
      → BeginsAssignments us rest r → BeginsAssignments ts rest (assignment_reach assignment beside r)

-- ---- the head of a for. A mark that ends a part is read where the next part begins

pub data BeginsForInitial : List Token → List Token → Reach → Type 0 where
  declares : {ts rest : List Token} {r : Reach} → BeginsDeclaration ts rest r → BeginsForInitial ts rest r
  assigns : {ts rest : List Token} {r : Reach} → BeginsAssignment ts rest r → BeginsForInitial ts rest r

pub data BeginsForCondition : List Token → List Token → Reach → Type 0 where
  present : {ts rest : List Token} {r : Reach} → BeginsExpression ts rest r → BeginsForCondition ts rest r

pub data BeginsForStep : List Token → List Token → Reach → Type 0 where
  present : {ts rest : List Token} {r : Reach} → BeginsAssignment ts rest r → BeginsForStep ts rest r

-- ---- statements

mutual
  pub data BeginsStatement : List Token → List Token → Reach → Type 0 where
    nothing : {ts : List Token} → BeginsStatement ts ts nowhere
    block : {s : Span} {ts rest : List Token} {r : Reach} → BeginsStatements ts rest r → BeginsStatement (token kinds.OpenBrace s ∷ ts) rest (around s.from r)
    mark : {k : TokenKind} {s : Span} {rest : List Token} {mark : Mark} → mark_of k ≡ Some mark → BeginsStatement (token k s ∷ rest) rest (node s.from)
    marked_block : {k : TokenKind} {s p : Span} {ts rest : List Token} {mark : Mark} {r : Reach} → mark_of k ≡ Some mark → BeginsStatements ts rest r
        → BeginsStatement (token k s ∷ token kinds.OpenBrace p ∷ ts) rest (around s.from r)
    bundle_word : {s : Span} {rest : List Token} → BeginsStatement (token (kinds.Keyword keywords.Bundled) s ∷ rest) rest (node s.from)
    bundle : {s p : Span} {ts rest : List Token} {r : Reach} → BeginsAssignments ts rest r
        → BeginsStatement (token (kinds.Keyword keywords.Bundled) s ∷ token kinds.OpenBrace p ∷ ts) rest (around s.from r)
    declaration : {ts rest : List Token} {r : Reach} → BeginsDeclaration ts rest r → BeginsStatement ts rest r
    declare : {t : Span} {ts rest : List Token} {declaration : Declaration} → SpellsDeclaration ts declaration (token kinds.Semicolon t ∷ rest)
        → BeginsStatement ts rest (around declaration.span.from (declared_reach declaration))
    assignment : {ts rest : List Token} {r : Reach} → BeginsAssignment ts rest r → BeginsStatement ts rest r
    assign : {t : Span} {ts rest : List Token} {assignment : Assignment} → SpellsAssignment ts assignment (token kinds.Semicolon t ∷ rest)
        → BeginsStatement ts rest (assignment_reach assignment)
    call_begun : {ts rest : List Token} {r : Reach} → BeginsCall ts rest r → BeginsStatement ts rest (begun ts rest r)
    call : {t o : Span} {ts rest : List Token} {call : Expression} → SpellsCall ts call o (token kinds.Semicolon t ∷ rest)
        → BeginsStatement ts rest (around o.from (expression_reach call))
    empty : {t : Span} {rest : List Token} → BeginsStatement (token kinds.Semicolon t ∷ rest) rest (node t.from)
    if_word : {s : Span} {rest : List Token} → BeginsStatement (token (kinds.Keyword keywords.If) s ∷ rest) rest (node s.from)
    if_condition : {s p : Span} {ts rest : List Token} {r : Reach} → BeginsExpression ts rest r
        → BeginsStatement (token (kinds.Keyword keywords.If) s ∷ token kinds.OpenParen p ∷ ts) rest (around s.from r)
    if_consequent : {s p q o : Span} {ts us rest : List Token} {condition : Expression} {r : Reach}
        → SpellsExpression ts condition o (token kinds.CloseParen q ∷ us) → BeginsStatement us rest r
        → BeginsStatement (token (kinds.Keyword keywords.If) s ∷ token kinds.OpenParen p ∷ ts) rest (around s.from (expression_reach condition beside r))
    if_alternative : {s p q o w : Span} {ts us vs rest : List Token} {condition : Expression} {consequent : Statement} {r : Reach}
        → SpellsExpression ts condition o (token kinds.CloseParen q ∷ us) → SpellsStatement us consequent (token (kinds.Keyword keywords.Else) w ∷ vs)
        → BeginsStatement vs rest r
        → BeginsStatement (token (kinds.Keyword keywords.If) s ∷ token kinds.OpenParen p
        ∷ ts) rest (around s.from (expression_reach condition beside statement_reach consequent beside r))
    while_word : {s : Span} {rest : List Token} → BeginsStatement (token (kinds.Keyword keywords.While) s ∷ rest) rest (node s.from)
    while_condition : {s p : Span} {ts rest : List Token} {r : Reach} → BeginsExpression ts rest r
        → BeginsStatement (token (kinds.Keyword keywords.While) s ∷ token kinds.OpenParen p ∷ ts) rest (around s.from r)
    while_body : {s p q o : Span} {ts us rest : List Token} {condition : Expression} {r : Reach}
        → SpellsExpression ts condition o (token kinds.CloseParen q ∷ us) → BeginsStatement us rest r
        → BeginsStatement (token (kinds.Keyword keywords.While) s ∷ token kinds.OpenParen p ∷ ts) rest (around s.from (expression_reach condition beside r))
    for_word : {s : Span} {rest : List Token} → BeginsStatement (token (kinds.Keyword keywords.For) s ∷ rest) rest (node s.from)
    for_initial : {s p : Span} {ts rest : List Token} {r : Reach} → BeginsForInitial ts rest r
        → BeginsStatement (token (kinds.Keyword keywords.For) s ∷ token kinds.OpenParen p ∷ ts) rest (around s.from r)
    for_condition : {s p : Span} {ts us rest : List Token} {initial : ForInitial} {r : Reach} → SpellsForInitial ts initial us → BeginsForCondition us rest r
        → BeginsStatement (token (kinds.Keyword keywords.For) s ∷ token kinds.OpenParen p ∷ ts) rest (around s.from (for_initial_reach initial beside r))
    for_step : {s p : Span} {ts us vs rest : List Token} {initial : ForInitial} {optional : Option Expression} {r : Reach} → SpellsForInitial ts initial us
        → SpellsForCondition us optional vs → BeginsForStep vs rest r → BeginsStatement (token (kinds.Keyword keywords.For) s ∷ token kinds.OpenParen p
        ∷ ts) rest (around s.from (for_initial_reach initial beside optional_expression_reach optional beside r))
    for_body : {s p : Span} {ts us vs ws rest : List Token} {initial : ForInitial} {optional : Option Expression} {step : Option Assignment} {r : Reach}
        → SpellsForInitial ts initial us → SpellsForCondition us optional vs → SpellsForStep vs step ws → BeginsStatement ws rest r
        → BeginsStatement (token (kinds.Keyword keywords.For) s ∷ token kinds.OpenParen p
        ∷ ts) rest (around s.from (for_initial_reach initial beside optional_expression_reach optional beside optional_assignment_reach step beside r))
    return_value : {s : Span} {ts rest : List Token} {r : Reach} → BeginsExpression ts rest r
        → BeginsStatement (token (kinds.Keyword keywords.Return) s ∷ ts) rest (around s.from r)
    return_nothing : {s t : Span} {rest : List Token}
        → BeginsStatement (token (kinds.Keyword keywords.Return) s ∷ token kinds.Semicolon t ∷ rest) rest (node s.from)
    return : {s t o : Span} {ts rest : List Token} {e : Expression} → SpellsExpression ts e o (token kinds.Semicolon t ∷ rest)
        → BeginsStatement (token (kinds.Keyword keywords.Return) s ∷ ts) rest (around s.from (expression_reach e))
    break_word : {s : Span} {rest : List Token} → BeginsStatement (token (kinds.Keyword keywords.Break) s ∷ rest) rest (node s.from)
    break : {s t : Span} {rest : List Token} → BeginsStatement (token (kinds.Keyword keywords.Break) s ∷ token kinds.Semicolon t ∷ rest) rest (node s.from)
    continue_word : {s : Span} {rest : List Token} → BeginsStatement (token (kinds.Keyword keywords.Continue) s ∷ rest) rest (node s.from)
    continue : {s t : Span} {rest : List Token}
        → BeginsStatement (token (kinds.Keyword keywords.Continue) s ∷ token kinds.Semicolon t ∷ rest) rest (node s.from)

  pub data BeginsStatements : List Token → List Token → Reach → Type 0 where
    none : {t : Span} {rest : List Token} → BeginsStatements (token kinds.CloseBrace t ∷ rest) rest nowhere
    first : {ts rest : List Token} {r : Reach} → BeginsStatement ts rest r → BeginsStatements ts rest r
    others : {ts mid rest : List Token} {statement : Statement} {r : Reach} → SpellsStatement ts statement mid → BeginsStatements mid rest r
        → BeginsStatements ts rest (statement_reach statement beside r)
