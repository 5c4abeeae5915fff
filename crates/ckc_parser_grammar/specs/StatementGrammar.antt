-- The grammar of declarations and statements: which tokens spell which statement.
--
--     decl     = stars NAME [array] [':' bounds] ['=' init]
--     array    = ('_Checked' | '_Nt_checked') '[' NUMBER ']'
--     init     = expr | '{' signed (',' signed)* '}'
--     signed   = ['-'] (NUMBER | CHAR)
--     mark     = '_Checked' | '_Unchecked'
--     block    = '{' stmt* '}'
--     stmt     = [mark] block | '_Bundled' '{' (assign ';')* '}'
--              | type decl (',' decl)* ';' | assign ';' | call ';' | ';'
--              | 'if' '(' expr ')' stmt ['else' stmt]
--              | 'while' '(' expr ')' stmt
--              | 'for' '(' [type decl (',' decl)* | assign] ';' [expr] ';' [assign] ')' stmt
--              | 'return' [expr] ';' | 'break' ';' | 'continue' ';'
--     assign   = unary ('=' | '+=' | '-=') expr | unary ('++' | '--') | ('++' | '--') unary
use Rattle.std.specs.Prelude.{◌≡◌, ℕ, true, false, List, [], ◌∷◌, Option, Some, None}
use Rattle.ckc_text.specs.declared.place.Span.{Span}
use Rattle.ckc_lexer.specs.declared.token.Token.{Token}
use Rattle.ckc_lexer.specs.declared.token.TokenKind.{TokenKind}
use Rattle.ckc_lexer.specs.declared.keyword.Keyword.TheVariants as keywords
use Rattle.ckc_lexer.specs.declared.token.TokenKind.TheVariants as kinds
use Rattle.ckc_tree.specs.declared.stmt.Mark.{Mark}
use Rattle.ckc_tree.specs.declared.stmt.ArrayForm.{ArrayForm}
use Rattle.ckc_tree.specs.declared.stmt.ArrayKind.{ArrayKind}
use Rattle.ckc_tree.specs.declared.stmt.Constant.{Constant}
use Rattle.ckc_tree.specs.declared.stmt.SignedConstant.{SignedConstant}
use Rattle.ckc_tree.specs.declared.stmt.StoreOperator.{StoreOperator}
use Rattle.ckc_tree.specs.declared.stmt.StepOperator.{StepOperator}
use Rattle.ckc_tree.specs.declared.stmt.StepSide.TheVariants.{Before, After}
use Rattle.ckc_tree.specs.Types.{TypeTree, type_span}
use Rattle.ckc_tree.specs.Expressions.{Expression, Bounds}
use Rattle.ckc_tree.specs.Statements.{Initializer, Value, Constants, Declarator, Declaration, Assignment, assignment_span, Store, Step, ForInitial}
use Rattle.ckc_tree.specs.Statements.{Nothing, Declares, Assigns, Statement, statement_span, Block, Bundle, Declare, Assign, CallAlone, Empty, If}
use Rattle.ckc_tree.specs.Statements.{IfElse, While, For, Return, Break, Continue, Statements, NoMore, Then}
use Rattle.ckc_parser_grammar.specs.Tokens.{token, join, identifier, from_first, mark_of, array_kind_of, constant_of, store_operator_of}
use Rattle.ckc_parser_grammar.specs.Tokens.{step_operator_of, next_is}
use Rattle.ckc_parser_grammar.specs.Tokens.{colon, equal, comma, array_word, else_word}
use Rattle.ckc_parser_grammar.specs.TypeGrammar.{SpellsStars, SpellsType}
use Rattle.ckc_parser_grammar.specs.ExpressionGrammar.{SpellsUnary, SpellsCall, SpellsBounds, SpellsExpression}

-- ---- declarations. A part that may be left out is left out where its first token doesn't stand here. A family of such a
-- part has the bytes of the whole so far, and those with the part.

pub data SpellsOptionalBounds : Span → List Token → Option Bounds → Span → List Token → Type 0 where
  absent : {o : Span} {rest : List Token} → next_is colon rest ≡ false → SpellsOptionalBounds o rest None o rest
  present : {s o w : Span} {ts rest : List Token} {bounds : Bounds} → SpellsBounds ts bounds w rest
      → SpellsOptionalBounds o (token kinds.Colon s ∷ ts) (Some bounds) (join o w) rest

pub data SpellsOptionalArray : Span → List Token → Option ArrayForm → Span → List Token → Type 0 where
  absent : {o : Span} {rest : List Token} → next_is array_word rest ≡ false → SpellsOptionalArray o rest None o rest
  present : {n : ℕ} {k : TokenKind} {s t p q o : Span} {rest : List Token} {kind : ArrayKind} → array_kind_of k ≡ Some kind
      → SpellsOptionalArray o (token k s ∷ token kinds.OpenBracket p ∷ token (kinds.Number n) q ∷ token kinds.CloseBracket t
      ∷ rest) (Some (record { kind = kind; length = n; span = join s t })) (join o t) rest

pub data SpellsSigned : List Token → SignedConstant → List Token → Type 0 where
  plain : {k : TokenKind} {s : Span} {rest : List Token} {value_of : Constant} → constant_of k ≡ Some value_of
      → SpellsSigned (token k s ∷ rest) (record { negative = false; constant = value_of; span = s }) rest
  minus : {k : TokenKind} {s t : Span} {rest : List Token} {value_of : Constant} → constant_of k ≡ Some value_of
      → SpellsSigned (token kinds.Minus s ∷ token k t ∷ rest) (record { negative = true; constant = value_of; span = join s t }) rest

-- at least one constant, and the brace behind them
pub data SpellsConstants : List Token → List SignedConstant → Span → List Token → Type 0 where
  one : {t : Span} {ts rest : List Token} {signed : SignedConstant} → SpellsSigned ts signed (token kinds.CloseBrace t ∷ rest)
      → SpellsConstants ts (signed ∷ []) t rest
  more : {s t : Span} {ts us rest : List Token} {signed : SignedConstant} {constants : List SignedConstant} → SpellsSigned ts signed (token kinds.Comma s ∷ us)
      → SpellsConstants us constants t rest → SpellsConstants ts (signed ∷ constants) t rest

pub data SpellsOptionalInitializer : Span → List Token → Option Initializer → Span → List Token → Type 0 where
  absent : {o : Span} {rest : List Token} → next_is equal rest ≡ false → SpellsOptionalInitializer o rest None o rest
  value : {s o w : Span} {ts rest : List Token} {e : Expression} → SpellsExpression ts e w rest
      → SpellsOptionalInitializer o (token kinds.Equal s ∷ ts) (Some (Value e)) (join o w) rest
  constants : {s t p o : Span} {ts rest : List Token} {constants : List SignedConstant} → SpellsConstants ts constants t rest
      → SpellsOptionalInitializer o (token kinds.Equal s ∷ token kinds.OpenBrace p ∷ ts) (Some (Constants constants (join p t))) (join o t) rest

pub data SpellsDeclarator : List Token → Declarator → List Token → Type 0 where
  declarator : {n : ℕ} {x : List ℕ} {s p q w : Span} {ts us vs ws rest : List Token} {written : Option Bounds} {array : Option ArrayForm}
      {initializer : Option Initializer} → SpellsStars ts n (token (kinds.Name x) s ∷ us) → SpellsOptionalArray (from_first ts s) us array p vs
      → SpellsOptionalBounds p vs written q ws → SpellsOptionalInitializer q ws initializer w rest
      → SpellsDeclarator ts (record { stars = n; name = identifier x s; array = array; bounds = written; initializer = initializer; span = w }) rest

-- at least one declarator, and all that stand here; the span is that of the last
pub data SpellsDeclarators : List Token → List Declarator → Span → List Token → Type 0 where
  one : {ts rest : List Token} {declarator : Declarator} → SpellsDeclarator ts declarator rest → next_is comma rest ≡ false
      → SpellsDeclarators ts (declarator ∷ []) declarator.span rest
  more : {s w : Span} {ts us rest : List Token} {declarator : Declarator} {declarators : List Declarator}
      → SpellsDeclarator ts declarator (token kinds.Comma s ∷ us) → SpellsDeclarators us declarators w rest
      → SpellsDeclarators ts (declarator ∷ declarators) w rest

pub data SpellsDeclaration : List Token → Declaration → List Token → Type 0 where
  declaration : {w : Span} {ts us rest : List Token} {base : TypeTree} {declarators : List Declarator} → SpellsType ts base us
      → SpellsDeclarators us declarators w rest → SpellsDeclaration ts (record { base = base; declarators = declarators; span = join (type_span base) w }) rest

-- ---- assignments

pub data SpellsAssignment : List Token → Assignment → List Token → Type 0 where
  store : {k : TokenKind} {s o w : Span} {ts us rest : List Token} {e target : Expression} {store_operator : StoreOperator}
      → SpellsUnary ts target o (token k s ∷ us) → store_operator_of k ≡ Some store_operator → SpellsExpression us e w rest
      → SpellsAssignment ts (Store store_operator target e (join o w)) rest
  after : {k : TokenKind} {s o : Span} {ts rest : List Token} {target : Expression} {step_operator : StepOperator} → SpellsUnary ts target o (token k s ∷ rest)
      → step_operator_of k ≡ Some step_operator → SpellsAssignment ts (Step step_operator After target (join o s)) rest
  before : {k : TokenKind} {s o : Span} {ts rest : List Token} {target : Expression} {step_operator : StepOperator} → step_operator_of k ≡ Some step_operator
      → SpellsUnary ts target o rest → SpellsAssignment (token k s ∷ ts) (Step step_operator Before target (join s o)) rest

-- assignments with a semicolon behind each, and the brace behind them
pub data SpellsAssignments : List Token → List Assignment → Span → List Token → Type 0 where
  none : {t : Span} {rest : List Token} → SpellsAssignments (token kinds.CloseBrace t ∷ rest) [] t rest
  more : {s t : Span} {ts us rest : List Token} {assignment : Assignment} {assignments : List Assignment}
      → SpellsAssignment ts assignment (token kinds.Semicolon s ∷ us) → SpellsAssignments us assignments t rest
      → SpellsAssignments ts (assignment ∷ assignments) t rest

-- ---- the head of a for: each part with the mark behind it

pub data SpellsForInitial : List Token → ForInitial → List Token → Type 0 where
  nothing : {s : Span} {rest : List Token} → SpellsForInitial (token kinds.Semicolon s ∷ rest) Nothing rest
  declares : {s : Span} {ts rest : List Token} {declaration : Declaration} → SpellsDeclaration ts declaration (token kinds.Semicolon s ∷ rest)
      → SpellsForInitial ts (Declares declaration) rest
  assigns : {s : Span} {ts rest : List Token} {assignment : Assignment} → SpellsAssignment ts assignment (token kinds.Semicolon s ∷ rest)
      → SpellsForInitial ts (Assigns assignment) rest

pub data SpellsForCondition : List Token → Option Expression → List Token → Type 0 where
  absent : {s : Span} {rest : List Token} → SpellsForCondition (token kinds.Semicolon s ∷ rest) None rest
  present : {s o : Span} {ts rest : List Token} {e : Expression} → SpellsExpression ts e o (token kinds.Semicolon s ∷ rest)
      → SpellsForCondition ts (Some e) rest

pub data SpellsForStep : List Token → Option Assignment → List Token → Type 0 where
  absent : {s : Span} {rest : List Token} → SpellsForStep (token kinds.CloseParen s ∷ rest) None rest
  present : {s : Span} {ts rest : List Token} {assignment : Assignment} → SpellsAssignment ts assignment (token kinds.CloseParen s ∷ rest)
      → SpellsForStep ts (Some assignment) rest

-- ---- statements. An if without else isn't followed by one, so an else belongs to the nearest if.

mutual
  pub data SpellsStatement : List Token → Statement → List Token → Type 0 where
    block : {s t : Span} {ts rest : List Token} {statements : Statements} → SpellsStatements ts statements t rest
        → SpellsStatement (token kinds.OpenBrace s ∷ ts) (Block None statements (join s t)) rest
    marked_block : {k : TokenKind} {s t p : Span} {ts rest : List Token} {statements : Statements} {mark : Mark} → mark_of k ≡ Some mark
        → SpellsStatements ts statements t rest → SpellsStatement (token k s ∷ token kinds.OpenBrace p ∷ ts) (Block (Some mark) statements (join s t)) rest
    bundle : {s t p : Span} {ts rest : List Token} {assignments : List Assignment} → SpellsAssignments ts assignments t rest
        → SpellsStatement (token (kinds.Keyword keywords.Bundled) s ∷ token kinds.OpenBrace p ∷ ts) (Bundle assignments (join s t)) rest
    declare : {t : Span} {ts rest : List Token} {declaration : Declaration} → SpellsDeclaration ts declaration (token kinds.Semicolon t ∷ rest)
        → SpellsStatement ts (Declare declaration (join declaration.span t)) rest
    assign : {t : Span} {ts rest : List Token} {assignment : Assignment} → SpellsAssignment ts assignment (token kinds.Semicolon t ∷ rest)
        → SpellsStatement ts (Assign assignment (join (assignment_span assignment) t)) rest
    call : {t o : Span} {ts rest : List Token} {call : Expression} → SpellsCall ts call o (token kinds.Semicolon t ∷ rest)
        → SpellsStatement ts (CallAlone call (join o t)) rest
    empty : {t : Span} {rest : List Token} → SpellsStatement (token kinds.Semicolon t ∷ rest) (Empty t) rest
    if : {s p q o : Span} {ts us rest : List Token} {condition : Expression} {consequent : Statement}
        → SpellsExpression ts condition o (token kinds.CloseParen q ∷ us) → SpellsStatement us consequent rest → next_is else_word rest ≡ false
        → SpellsStatement (token (kinds.Keyword keywords.If) s ∷ token kinds.OpenParen p
        ∷ ts) (If condition consequent (join s (statement_span consequent))) rest
    if_else : {s p q o w : Span} {ts us vs rest : List Token} {condition : Expression} {consequent alternative : Statement}
        → SpellsExpression ts condition o (token kinds.CloseParen q ∷ us) → SpellsStatement us consequent (token (kinds.Keyword keywords.Else) w ∷ vs)
        → SpellsStatement vs alternative rest → SpellsStatement (token (kinds.Keyword keywords.If) s ∷ token kinds.OpenParen p
        ∷ ts) (IfElse condition consequent alternative (join s (statement_span alternative))) rest
    while : {s p q o : Span} {ts us rest : List Token} {condition : Expression} {body_statement : Statement}
        → SpellsExpression ts condition o (token kinds.CloseParen q ∷ us) → SpellsStatement us body_statement rest
        → SpellsStatement (token (kinds.Keyword keywords.While) s ∷ token kinds.OpenParen p
        ∷ ts) (While condition body_statement (join s (statement_span body_statement))) rest
    for : {s p : Span} {ts us vs ws rest : List Token} {initial : ForInitial} {optional : Option Expression} {step : Option Assignment}
        {body_statement : Statement} → SpellsForInitial ts initial us → SpellsForCondition us optional vs → SpellsForStep vs step ws
        → SpellsStatement ws body_statement rest → SpellsStatement (token (kinds.Keyword keywords.For) s ∷ token kinds.OpenParen p
        ∷ ts) (For initial optional step body_statement (join s (statement_span body_statement))) rest
    return_nothing : {s t : Span} {rest : List Token}
        → SpellsStatement (token (kinds.Keyword keywords.Return) s ∷ token kinds.Semicolon t ∷ rest) (Return None (join s t)) rest
    return : {s t o : Span} {ts rest : List Token} {e : Expression} → SpellsExpression ts e o (token kinds.Semicolon t ∷ rest)
        → SpellsStatement (token (kinds.Keyword keywords.Return) s ∷ ts) (Return (Some e) (join s t)) rest
    break : {s t : Span} {rest : List Token} → SpellsStatement (token (kinds.Keyword keywords.Break) s ∷ token kinds.Semicolon t ∷ rest) (Break (join s t)) rest
    continue : {s t : Span} {rest : List Token}
        → SpellsStatement (token (kinds.Keyword keywords.Continue) s ∷ token kinds.Semicolon t ∷ rest) (Continue (join s t)) rest

  -- statements, and the brace behind them
  pub data SpellsStatements : List Token → Statements → Span → List Token → Type 0 where
    none : {t : Span} {rest : List Token} → SpellsStatements (token kinds.CloseBrace t ∷ rest) NoMore t rest
    more : {t : Span} {ts mid rest : List Token} {statement : Statement} {statements : Statements} → SpellsStatement ts statement mid
        → SpellsStatements mid statements t rest → SpellsStatements ts (Then statement statements) t rest
