-- Inside: where reading a declaration or a statement fails, with so many nodes around it. One case for each part that can
-- fail: those before it are spelled, and no node so far is too deep.
use Rattle.std.specs.Prelude.{◌≡◌, ◌≤◌, ◌<◌, ◌&&◌, ◌||◌, ℕ, suc, Bool, true, false, List, ◌∷◌, Option, Some}
use Rattle.std.specs.Option.{is_some}
use Rattle.ckc_text.specs.declared.place.Span.{Span}
use Rattle.ckc_lexer.specs.declared.token.Token.{Token}
use Rattle.ckc_lexer.specs.declared.token.TokenKind.{TokenKind}
use Rattle.ckc_lexer.specs.declared.keyword.Keyword.TheVariants as keywords
use Rattle.ckc_lexer.specs.declared.token.TokenKind.TheVariants as kinds
use Rattle.ckc_tree.specs.declared.stmt.Mark.{Mark}
use Rattle.ckc_tree.specs.declared.stmt.ArrayForm.{ArrayForm}
use Rattle.ckc_tree.specs.declared.stmt.ArrayKind.{ArrayKind}
use Rattle.ckc_tree.specs.declared.stmt.SignedConstant.{SignedConstant}
use Rattle.ckc_tree.specs.declared.stmt.StoreOperator.{StoreOperator}
use Rattle.ckc_tree.specs.declared.stmt.StepOperator.{StepOperator}
use Rattle.ckc_tree.specs.Types.{TypeTree}
use Rattle.ckc_tree.specs.Expressions.{Expression, Call, Bounds}
use Rattle.ckc_tree.specs.Statements.{Declarator, Declaration, Assignment, ForInitial, Statement}
use Rattle.ckc_tree.specs.Heights.{around, type_reach, expression_reach, optional_bounds_reach, declarator_reach, declared_reach, assignment_reach}
use Rattle.ckc_tree.specs.Heights.{for_initial_reach, optional_expression_reach, optional_assignment_reach, statement_reach}
use Rattle.ckc_parser_grammar.specs.Tokens.{token, from_first, mark_of, array_kind_of, number_of, constant_of, store_operator_of, step_operator_of}
use Rattle.ckc_parser_grammar.specs.Tokens.{mark_word, next_is, open_paren}
use Rattle.ckc_parser_grammar.specs.TypeGrammar.{SpellsStars, SpellsType}
use Rattle.ckc_parser_grammar.specs.ExpressionGrammar.{SpellsUnary, SpellsExpression}
use Rattle.ckc_parser_grammar.specs.StatementGrammar.{SpellsOptionalBounds, SpellsOptionalArray, SpellsSigned, SpellsDeclarator, SpellsDeclaration}
use Rattle.ckc_parser_grammar.specs.StatementGrammar.{SpellsAssignment, SpellsForInitial, SpellsForCondition, SpellsForStep, SpellsStatement}
use Rattle.ckc_parser_grammar.specs.Failures.{Failure, unexpected, too_deep, no_memory, IsLow}
use Rattle.ckc_parser_grammar.specs.StuckTypes.{type_word, name_token, StuckType}
use Rattle.ckc_parser_grammar.specs.StuckExpressions.{unary_word, close_paren, close_bracket, StuckUnary, StuckBounds, StuckExpression}

-- ---- marks and words that stand alone

abbrev pub open_bracket : TokenKind → Bool
open_bracket kinds.OpenBracket = true
open_bracket _ = false

abbrev pub open_brace : TokenKind → Bool
open_brace kinds.OpenBrace = true
open_brace _ = false

abbrev pub close_brace : TokenKind → Bool
close_brace kinds.CloseBrace = true
close_brace _ = false

abbrev pub semicolon : TokenKind → Bool
semicolon kinds.Semicolon = true
semicolon _ = false

abbrev pub number_token : TokenKind → Bool
number_token kind = is_some (number_of kind)

abbrev pub constant_token : TokenKind → Bool
constant_token kind = is_some (constant_of kind)

abbrev pub minus : TokenKind → Bool
minus kinds.Minus = true
minus _ = false

abbrev pub minus_or_constant : TokenKind → Bool
minus_or_constant kind = minus kind || constant_token kind

abbrev pub comma_or_brace : TokenKind → Bool
comma_or_brace kinds.Comma = true
comma_or_brace kinds.CloseBrace = true
comma_or_brace _ = false

abbrev pub step_word : TokenKind → Bool
step_word kind = is_some (step_operator_of kind)

abbrev pub store_word : TokenKind → Bool
store_word kind = is_some (store_operator_of kind)

-- what stands behind the target of an assignment
abbrev pub assign_word : TokenKind → Bool
assign_word kind = store_word kind || step_word kind

-- the first token of an assignment
abbrev pub assignment_word : TokenKind → Bool
assignment_word kind = step_word kind || unary_word kind

-- the first token of a statement that is none of a type, an expression or an assignment
abbrev pub plain_word : TokenKind → Bool
plain_word kinds.OpenBrace = true
plain_word (kinds.Keyword keywords.Bundled) = true
plain_word kinds.Semicolon = true
plain_word (kinds.Keyword keywords.If) = true
plain_word (kinds.Keyword keywords.While) = true
plain_word (kinds.Keyword keywords.For) = true
plain_word (kinds.Keyword keywords.Return) = true
plain_word (kinds.Keyword keywords.Break) = true
plain_word (kinds.Keyword keywords.Continue) = true
plain_word kind = mark_word kind

-- the first token of a statement
abbrev pub statement_word : TokenKind → Bool
statement_word kind = plain_word kind || (type_word kind || assignment_word kind)

-- a call that a semicolon follows
abbrev pub is_call : Expression → Bool
is_call (Call callee arguments span) = true
is_call _ = false

abbrev pub is_call_alone : Expression → List Token → Bool
is_call_alone target rest = is_call target && next_is semicolon rest

-- ---- declarations

pub data StuckOptionalBounds : ℕ → List Token → Failure → Type 0 where
  no_room : {d : ℕ} {ts : List Token} → StuckOptionalBounds d ts no_memory
  bounds : {d : ℕ} {s : Span} {ts : List Token} {f : Failure} → StuckBounds d ts f → StuckOptionalBounds d (token kinds.Colon s ∷ ts) f

pub data StuckOptionalArray : List Token → Failure → Type 0 where
  opens : {k : TokenKind} {s : Span} {rest : List Token} {kind : ArrayKind} → array_kind_of k ≡ Some kind → next_is open_bracket rest ≡ false
      → StuckOptionalArray (token k s ∷ rest) (unexpected rest)
  length : {k : TokenKind} {s p : Span} {rest : List Token} {kind : ArrayKind} → array_kind_of k ≡ Some kind → next_is number_token rest ≡ false
      → StuckOptionalArray (token k s ∷ token kinds.OpenBracket p ∷ rest) (unexpected rest)
  close : {n : ℕ} {k : TokenKind} {s p q : Span} {rest : List Token} {kind : ArrayKind} → array_kind_of k ≡ Some kind → next_is close_bracket rest ≡ false
      → StuckOptionalArray (token k s ∷ token kinds.OpenBracket p ∷ token (kinds.Number n) q ∷ rest) (unexpected rest)

pub data StuckSigned : List Token → Failure → Type 0 where
  no_constant : {ts : List Token} → next_is minus_or_constant ts ≡ false → StuckSigned ts (unexpected ts)
  behind_minus : {s : Span} {rest : List Token} → next_is constant_token rest ≡ false → StuckSigned (token kinds.Minus s ∷ rest) (unexpected rest)

pub data StuckConstants : List Token → Failure → Type 0 where
  no_room : {ts : List Token} → StuckConstants ts no_memory
  first : {ts : List Token} {f : Failure} → StuckSigned ts f → StuckConstants ts f
  end : {ts rest : List Token} {signed : SignedConstant} → SpellsSigned ts signed rest → next_is comma_or_brace rest ≡ false
      → StuckConstants ts (unexpected rest)
  others : {s : Span} {ts us : List Token} {signed : SignedConstant} {f : Failure} → SpellsSigned ts signed (token kinds.Comma s ∷ us) → StuckConstants us f
      → StuckConstants ts f

pub data StuckOptionalInitializer : ℕ → List Token → Failure → Type 0 where
  no_room : {d : ℕ} {ts : List Token} → StuckOptionalInitializer d ts no_memory
  value : {d : ℕ} {s : Span} {ts : List Token} {f : Failure} → next_is open_brace ts ≡ false → StuckExpression d ts f
      → StuckOptionalInitializer d (token kinds.Equal s ∷ ts) f
  constants : {d : ℕ} {s p : Span} {ts : List Token} {f : Failure} → StuckConstants ts f
      → StuckOptionalInitializer d (token kinds.Equal s ∷ token kinds.OpenBrace p ∷ ts) f

pub data StuckDeclarator : ℕ → List Token → Failure → Type 0 where
  no_room : {d : ℕ} {ts : List Token} → StuckDeclarator d ts no_memory
  name : {d n : ℕ} {ts rest : List Token} → SpellsStars ts n rest → next_is name_token rest ≡ false → StuckDeclarator d ts (unexpected rest)
  array : {d n : ℕ} {x : List ℕ} {s : Span} {ts us : List Token} {f : Failure} → SpellsStars ts n (token (kinds.Name x) s ∷ us) → StuckOptionalArray us f
      → StuckDeclarator d ts f
  bounds : {d n : ℕ} {x : List ℕ} {s p : Span} {ts us vs : List Token} {array : Option ArrayForm} {f : Failure}
      → SpellsStars ts n (token (kinds.Name x) s ∷ us) → SpellsOptionalArray (from_first ts s) us array p vs → StuckOptionalBounds d vs f
      → StuckDeclarator d ts f
  initializer : {d n : ℕ} {x : List ℕ} {s p q : Span} {ts us vs ws : List Token} {written : Option Bounds} {array : Option ArrayForm} {f : Failure}
      → SpellsStars ts n (token (kinds.Name x) s ∷ us) → SpellsOptionalArray (from_first ts s) us array p vs → SpellsOptionalBounds p vs written q ws
      → IsLow d (optional_bounds_reach written)
      → StuckOptionalInitializer d ws f → StuckDeclarator d ts f

pub data StuckDeclarators : ℕ → List Token → Failure → Type 0 where
  no_room : {d : ℕ} {ts : List Token} → StuckDeclarators d ts no_memory
  first : {d : ℕ} {ts : List Token} {f : Failure} → StuckDeclarator d ts f → StuckDeclarators d ts f
  others : {d : ℕ} {s : Span} {ts us : List Token} {declarator : Declarator} {f : Failure} → SpellsDeclarator ts declarator (token kinds.Comma s ∷ us)
      → IsLow d (declarator_reach declarator) → StuckDeclarators d us f → StuckDeclarators d ts f

-- a declaration among statements, which is a node
pub data StuckDeclaration : ℕ → List Token → Failure → Type 0 where
  no_room : {d : ℕ} {ts : List Token} → StuckDeclaration d ts no_memory
  no_type : {d : ℕ} {ts : List Token} → next_is type_word ts ≡ false → StuckDeclaration d ts (unexpected ts)
  deep : {d : ℕ} {k : TokenKind} {s : Span} {rest : List Token} → type_word k ≡ true → 200 ≤ d → StuckDeclaration d (token k s ∷ rest) (too_deep s.from)
  base : {d : ℕ} {ts : List Token} {f : Failure} → d < 200 → next_is type_word ts ≡ true → StuckType (suc d) ts f → StuckDeclaration d ts f
  declarators : {d : ℕ} {ts us : List Token} {base : TypeTree} {f : Failure} → d < 200 → SpellsType ts base us → IsLow (suc d) (type_reach base)
      → StuckDeclarators (suc d) us f → StuckDeclaration d ts f

-- ---- assignments

-- an assignment, which is a node
pub data StuckAssignment : ℕ → List Token → Failure → Type 0 where
  no_room : {d : ℕ} {ts : List Token} → StuckAssignment d ts no_memory
  no_assignment : {d : ℕ} {ts : List Token} → next_is assignment_word ts ≡ false → StuckAssignment d ts (unexpected ts)
  deep : {d : ℕ} {k : TokenKind} {s : Span} {rest : List Token} → assignment_word k ≡ true → 200 ≤ d → StuckAssignment d (token k s ∷ rest) (too_deep s.from)
  before : {d : ℕ} {k : TokenKind} {s : Span} {ts : List Token} {step_operator : StepOperator} {f : Failure} → d < 200 → step_operator_of k ≡ Some step_operator
      → StuckUnary (suc d) ts f → StuckAssignment d (token k s ∷ ts) f
  target : {d : ℕ} {ts : List Token} {f : Failure} → d < 200 → next_is unary_word ts ≡ true → StuckUnary (suc d) ts f → StuckAssignment d ts f
  operator : {d : ℕ} {o : Span} {ts rest : List Token} {target : Expression} → SpellsUnary ts target o rest → IsLow (suc d) (expression_reach target)
      → next_is assign_word rest ≡ false → StuckAssignment d ts (unexpected rest)
  value : {d : ℕ} {k : TokenKind} {s o : Span} {ts us : List Token} {target : Expression} {store_operator : StoreOperator} {f : Failure} → d < 200
      → SpellsUnary ts target o (token k s ∷ us) → IsLow (suc d) (expression_reach target) → store_operator_of k ≡ Some store_operator
      → StuckExpression (suc d) us f
      → StuckAssignment d ts f

-- the assignments of a bundle, and the brace behind them
pub data StuckAssignments : ℕ → List Token → Failure → Type 0 where
  no_room : {d : ℕ} {ts : List Token} → StuckAssignments d ts no_memory
  first : {d : ℕ} {ts : List Token} {f : Failure} → next_is close_brace ts ≡ false → StuckAssignment d ts f → StuckAssignments d ts f
  end : {d : ℕ} {ts rest : List Token} {assignment : Assignment} → SpellsAssignment ts assignment rest → IsLow d (assignment_reach assignment)
      → next_is semicolon rest ≡ false → StuckAssignments d ts (unexpected rest)
  others : {d : ℕ} {s : Span} {ts us : List Token} {assignment : Assignment} {f : Failure} → SpellsAssignment ts assignment (token kinds.Semicolon s ∷ us)
      → IsLow d (assignment_reach assignment) → StuckAssignments d us f → StuckAssignments d ts f

-- ---- the head of a for, each part with its mark

pub data StuckForInitial : ℕ → List Token → Failure → Type 0 where
  no_room : {d : ℕ} {ts : List Token} → StuckForInitial d ts no_memory
  declares : {d : ℕ} {ts : List Token} {f : Failure} → next_is semicolon ts ≡ false → next_is type_word ts ≡ true → StuckDeclaration d ts f
      → StuckForInitial d ts f
  declares_end : {d : ℕ} {ts rest : List Token} {declaration : Declaration} → SpellsDeclaration ts declaration rest
      → IsLow d (around declaration.span.from (declared_reach declaration)) → next_is semicolon rest ≡ false → StuckForInitial d ts (unexpected rest)
  assigns : {d : ℕ} {ts : List Token} {f : Failure} → next_is semicolon ts ≡ false → next_is type_word ts ≡ false → StuckAssignment d ts f
      → StuckForInitial d ts f
  assigns_end : {d : ℕ} {ts rest : List Token} {assignment : Assignment} → SpellsAssignment ts assignment rest → IsLow d (assignment_reach assignment)
      → next_is semicolon rest ≡ false → StuckForInitial d ts (unexpected rest)

-- a condition of a for, or a value of a return, and the semicolon
pub data StuckForCondition : ℕ → List Token → Failure → Type 0 where
  no_room : {d : ℕ} {ts : List Token} → StuckForCondition d ts no_memory
  present : {d : ℕ} {ts : List Token} {f : Failure} → next_is semicolon ts ≡ false → StuckExpression d ts f → StuckForCondition d ts f
  end : {d : ℕ} {o : Span} {ts rest : List Token} {e : Expression} → SpellsExpression ts e o rest → IsLow d (expression_reach e)
      → next_is semicolon rest ≡ false → StuckForCondition d ts (unexpected rest)

pub data StuckForStep : ℕ → List Token → Failure → Type 0 where
  no_room : {d : ℕ} {ts : List Token} → StuckForStep d ts no_memory
  present : {d : ℕ} {ts : List Token} {f : Failure} → next_is close_paren ts ≡ false → StuckAssignment d ts f → StuckForStep d ts f
  end : {d : ℕ} {ts rest : List Token} {assignment : Assignment} → SpellsAssignment ts assignment rest → IsLow d (assignment_reach assignment)
      → next_is close_paren rest ≡ false → StuckForStep d ts (unexpected rest)

-- the condition of an if or a while, with its parentheses
pub data StuckCondition : ℕ → List Token → Failure → Type 0 where
  no_room : {d : ℕ} {ts : List Token} → StuckCondition d ts no_memory
  opens : {d : ℕ} {ts : List Token} → next_is open_paren ts ≡ false → StuckCondition d ts (unexpected ts)
  inside : {d : ℕ} {s : Span} {ts : List Token} {f : Failure} → StuckExpression d ts f → StuckCondition d (token kinds.OpenParen s ∷ ts) f
  close : {d : ℕ} {s o : Span} {ts rest : List Token} {e : Expression} → SpellsExpression ts e o rest → IsLow d (expression_reach e)
      → next_is close_paren rest ≡ false → StuckCondition d (token kinds.OpenParen s ∷ ts) (unexpected rest)

-- ---- statements

mutual
  pub data StuckStatement : ℕ → List Token → Failure → Type 0 where
    statement_no_room : {d : ℕ} {ts : List Token} → StuckStatement d ts no_memory
    no_statement : {d : ℕ} {ts : List Token} → next_is statement_word ts ≡ false → StuckStatement d ts (unexpected ts)
    deep : {d : ℕ} {k : TokenKind} {s : Span} {rest : List Token} → statement_word k ≡ true → 200 ≤ d → StuckStatement d (token k s ∷ rest) (too_deep s.from)
    block : {d : ℕ} {s : Span} {ts : List Token} {f : Failure} → d < 200 → StuckStatements (suc d) ts f → StuckStatement d (token kinds.OpenBrace s ∷ ts) f
    mark : {d : ℕ} {k : TokenKind} {s : Span} {rest : List Token} {mark : Mark} → d < 200 → mark_of k ≡ Some mark → next_is open_brace rest ≡ false
        → StuckStatement d (token k s ∷ rest) (unexpected rest)
    marked_block : {d : ℕ} {k : TokenKind} {s p : Span} {ts : List Token} {mark : Mark} {f : Failure} → d < 200 → mark_of k ≡ Some mark
        → StuckStatements (suc d) ts f
        → StuckStatement d (token k s ∷ token kinds.OpenBrace p ∷ ts) f
    bundle_open : {d : ℕ} {s : Span} {rest : List Token} → d < 200 → next_is open_brace rest ≡ false
        → StuckStatement d (token (kinds.Keyword keywords.Bundled) s ∷ rest) (unexpected rest)
    bundle : {d : ℕ} {s p : Span} {ts : List Token} {f : Failure} → d < 200 → StuckAssignments (suc d) ts f
        → StuckStatement d (token (kinds.Keyword keywords.Bundled) s ∷ token kinds.OpenBrace p ∷ ts) f
    declaration : {d : ℕ} {ts : List Token} {f : Failure} → next_is type_word ts ≡ true → StuckDeclaration d ts f → StuckStatement d ts f
    declare_end : {d : ℕ} {ts rest : List Token} {declaration : Declaration} → SpellsDeclaration ts declaration rest
        → IsLow d (around declaration.span.from (declared_reach declaration)) → next_is semicolon rest ≡ false → StuckStatement d ts (unexpected rest)
    assignment : {d : ℕ} {ts : List Token} {f : Failure} → next_is assignment_word ts ≡ true → next_is name_token ts ≡ false → StuckAssignment d ts f
        → StuckStatement d ts f
    assign_end : {d : ℕ} {ts rest : List Token} {assignment : Assignment} → SpellsAssignment ts assignment rest → IsLow d (assignment_reach assignment)
        → next_is semicolon rest ≡ false → StuckStatement d ts (unexpected rest)
    -- what begins with a name is an assignment or a call; only a call alone ends before a semicolon
    named : {d : ℕ} {ts : List Token} {f : Failure} → d < 200 → next_is name_token ts ≡ true → StuckUnary (suc d) ts f → StuckStatement d ts f
    named_end : {d : ℕ} {o : Span} {ts rest : List Token} {target : Expression} → next_is name_token ts ≡ true → SpellsUnary ts target o rest
        → IsLow (suc d) (expression_reach target) → next_is assign_word rest ≡ false → is_call_alone target rest ≡ false → StuckStatement d ts (unexpected rest)
    named_value : {d : ℕ} {k : TokenKind} {s o : Span} {ts us : List Token} {target : Expression} {store_operator : StoreOperator} {f : Failure} → d < 200
        → next_is name_token ts ≡ true → SpellsUnary ts target o (token k s ∷ us) → IsLow (suc d) (expression_reach target)
        → store_operator_of k ≡ Some store_operator
        → StuckExpression (suc d) us f
        → StuckStatement d ts f
    if_condition : {d : ℕ} {s : Span} {ts : List Token} {f : Failure} → d < 200 → StuckCondition (suc d) ts f
        → StuckStatement d (token (kinds.Keyword keywords.If) s ∷ ts) f
    if_consequent : {d : ℕ} {s p q o : Span} {ts us : List Token} {condition : Expression} {f : Failure} → d < 200
        → SpellsExpression ts condition o (token kinds.CloseParen q ∷ us) → IsLow (suc d) (expression_reach condition) → StuckStatement (suc d) us f
        → StuckStatement d (token (kinds.Keyword keywords.If) s ∷ token kinds.OpenParen p ∷ ts) f
    if_alternative : {d : ℕ} {s p q o w : Span} {ts us vs : List Token} {condition : Expression} {consequent : Statement} {f : Failure} → d < 200
        → SpellsExpression ts condition o (token kinds.CloseParen q ∷ us) → IsLow (suc d) (expression_reach condition)
        → SpellsStatement us consequent (token (kinds.Keyword keywords.Else) w ∷ vs) → IsLow (suc d) (statement_reach consequent)
        → StuckStatement (suc d) vs f → StuckStatement d (token (kinds.Keyword keywords.If) s ∷ token kinds.OpenParen p ∷ ts) f
    while_condition : {d : ℕ} {s : Span} {ts : List Token} {f : Failure} → d < 200 → StuckCondition (suc d) ts f
        → StuckStatement d (token (kinds.Keyword keywords.While) s ∷ ts) f
    while_body : {d : ℕ} {s p q o : Span} {ts us : List Token} {condition : Expression} {f : Failure} → d < 200
        → SpellsExpression ts condition o (token kinds.CloseParen q ∷ us) → IsLow (suc d) (expression_reach condition) → StuckStatement (suc d) us f
        → StuckStatement d (token (kinds.Keyword keywords.While) s ∷ token kinds.OpenParen p ∷ ts) f
    for_open : {d : ℕ} {s : Span} {rest : List Token} → d < 200 → next_is open_paren rest ≡ false
        → StuckStatement d (token (kinds.Keyword keywords.For) s ∷ rest) (unexpected rest)
    for_initial : {d : ℕ} {s p : Span} {ts : List Token} {f : Failure} → d < 200 → StuckForInitial (suc d) ts f
        → StuckStatement d (token (kinds.Keyword keywords.For) s ∷ token kinds.OpenParen p ∷ ts) f
    for_condition : {d : ℕ} {s p : Span} {ts us : List Token} {initial : ForInitial} {f : Failure} → d < 200 → SpellsForInitial ts initial us
        → IsLow (suc d) (for_initial_reach initial) → StuckForCondition (suc d) us f
        → StuckStatement d (token (kinds.Keyword keywords.For) s ∷ token kinds.OpenParen p ∷ ts) f
    for_step : {d : ℕ} {s p : Span} {ts us vs : List Token} {initial : ForInitial} {optional : Option Expression} {f : Failure} → d < 200
        → SpellsForInitial ts initial us → IsLow (suc d) (for_initial_reach initial) → SpellsForCondition us optional vs
        → IsLow (suc d) (optional_expression_reach optional) → StuckForStep (suc d) vs f
        → StuckStatement d (token (kinds.Keyword keywords.For) s ∷ token kinds.OpenParen p ∷ ts) f
    for_body : {d : ℕ} {s p : Span} {ts us vs ws : List Token} {initial : ForInitial} {optional : Option Expression} {step : Option Assignment} {f : Failure}
        → d < 200 → SpellsForInitial ts initial us → IsLow (suc d) (for_initial_reach initial) → SpellsForCondition us optional vs
        → IsLow (suc d) (optional_expression_reach optional)
        → SpellsForStep vs step ws → IsLow (suc d) (optional_assignment_reach step) → StuckStatement (suc d) ws f
        → StuckStatement d (token (kinds.Keyword keywords.For) s ∷ token kinds.OpenParen p ∷ ts) f
    return : {d : ℕ} {s : Span} {ts : List Token} {f : Failure} → d < 200 → StuckForCondition (suc d) ts f
        → StuckStatement d (token (kinds.Keyword keywords.Return) s ∷ ts) f
    break : {d : ℕ} {s : Span} {rest : List Token} → d < 200 → next_is semicolon rest ≡ false
        → StuckStatement d (token (kinds.Keyword keywords.Break) s ∷ rest) (unexpected rest)
    continue : {d : ℕ} {s : Span} {rest : List Token} → d < 200 → next_is semicolon rest ≡ false
        → StuckStatement d (token (kinds.Keyword keywords.Continue) s ∷ rest) (unexpected rest)

  pub data StuckStatements : ℕ → List Token → Failure → Type 0 where
    statements_no_room : {d : ℕ} {ts : List Token} → StuckStatements d ts no_memory
    first : {d : ℕ} {ts : List Token} {f : Failure} → next_is close_brace ts ≡ false → StuckStatement d ts f → StuckStatements d ts f
    others : {d : ℕ} {ts mid : List Token} {statement : Statement} {f : Failure} → SpellsStatement ts statement mid → IsLow d (statement_reach statement)
        → StuckStatements d mid f → StuckStatements d ts f
