-- Inside: what the functions that read declarations, statements and items answer, in the code's types.
use Rattle.std.specs.Prelude.{◌≡◌, ℕ, suc, Bool, true, false, List, ◌∷◌, Option, Some, None}
use Rattle.ckc_text.specs.declared.place.Span.{Span}
use Rattle.ckc_lexer.specs.declared.token.Token.{Token}
use Rattle.ckc_lexer.specs.declared.token.TokenKind.{TokenKind}
use Rattle.ckc_lexer.specs.declared.keyword.Keyword.TheVariants as keywords
use Rattle.ckc_lexer.specs.declared.token.TokenKind.TheVariants as kinds
use Rattle.ckc_tree.specs.declared.stmt.StoreOperator.{StoreOperator}
use Rattle.ckc_tree.specs.declared.stmt.StepOperator.{StepOperator}
use Rattle.ckc_tree.specs.declared.stmt.StepSide.TheVariants.{After}
use Rattle.ckc_tree.specs.Expressions.{Expression}
use Rattle.ckc_tree.specs.Statements.{Assignment, Store, Step, ForInitial, Statement, Break, Continue}
use Rattle.ckc_tree.specs.Heights.{for_initial_reach, optional_expression_reach, optional_assignment_reach}
use Rattle.ckc_parser_grammar.specs.Tokens.{token, join, store_operator_of, step_operator_of, next_is}
use Rattle.ckc_parser_grammar.specs.ExpressionGrammar.{SpellsExpression}
use Rattle.ckc_parser_grammar.specs.StatementGrammar.{SpellsForInitial, SpellsForCondition, SpellsForStep}
use Rattle.ckc_parser_grammar.specs.Failures.{Failure, unexpected, no_memory, IsLow}
use Rattle.ckc_parser_grammar.specs.StuckExpressions.{StuckExpression}
use Rattle.ckc_parser_grammar.specs.StuckStatements.{assign_word, is_call, is_call_alone}

-- ---- what stands behind the target of an assignment

pub data SpellsAssigned : Expression → Span → List Token → Assignment → List Token → Type 0 where
  store : {k : TokenKind} {s o w : Span} {us rest : List Token} {e target : Expression} {store_operator : StoreOperator}
      → store_operator_of k ≡ Some store_operator
      → SpellsExpression us e w rest → SpellsAssigned target o (token k s ∷ us) (Store store_operator target e (join o w)) rest
  after : {k : TokenKind} {s o : Span} {rest : List Token} {target : Expression} {step_operator : StepOperator} → step_operator_of k ≡ Some step_operator
      → SpellsAssigned target o (token k s ∷ rest) (Step step_operator After target (join o s)) rest

pub data StuckAssigned : ℕ → List Token → Failure → Type 0 where
  no_room : {d : ℕ} {ts : List Token} → StuckAssigned d ts no_memory
  operator : {d : ℕ} {rest : List Token} → next_is assign_word rest ≡ false → StuckAssigned d rest (unexpected rest)
  value : {d : ℕ} {k : TokenKind} {s : Span} {us : List Token} {store_operator : StoreOperator} {f : Failure} → store_operator_of k ≡ Some store_operator
      → StuckExpression (suc d) us f → StuckAssigned d (token k s ∷ us) f

-- ---- parts of statements

-- the condition of an if or a while, with its parentheses
pub data SpellsCondition : List Token → Expression → List Token → Type 0 where
  condition : {p q o : Span} {ts rest : List Token} {e : Expression} → SpellsExpression ts e o (token kinds.CloseParen q ∷ rest)
      → SpellsCondition (token kinds.OpenParen p ∷ ts) e rest

-- an expression or none, and the semicolon with its span
pub data SpellsEnd : List Token → Option Expression → Span → List Token → Type 0 where
  absent : {s : Span} {rest : List Token} → SpellsEnd (token kinds.Semicolon s ∷ rest) None s rest
  present : {s o : Span} {ts rest : List Token} {e : Expression} → SpellsExpression ts e o (token kinds.Semicolon s ∷ rest) → SpellsEnd ts (Some e) s rest

-- a call, and the semicolon behind it
pub record IsCallEnd (target : Expression) (end : Span) (ts rest : List Token) : Type 0 where
  pub call : is_call target ≡ true
  pub at : ts ≡ token kinds.Semicolon end ∷ rest

-- the semicolon behind a call, where it stands next; nothing is taken else
abbrev pub EndsCall : Expression → List Token → Option Span → List Token → Type 0
EndsCall target ts None rest = (rest ≡ ts) × (is_call_alone target ts ≡ false)
EndsCall target ts (Some end) rest = IsCallEnd target end ts rest

-- the word `break`, or `continue`
abbrev pub jump_word : Bool → TokenKind
jump_word true = kinds.Keyword keywords.Break
jump_word false = kinds.Keyword keywords.Continue

-- the statement that such a word begins
abbrev pub jump : Bool → Span → Statement
jump true span = Break span
jump false span = Continue span

-- what stands in the parentheses of a for, with so many nodes around the for
pub record IsForHead (depth : ℕ) (ts : List Token) (initial : ForInitial) (condition : Option Expression) (step : Option Assignment)
    (rest : List Token) : Type 0 where
  pub opening : Span
  pub first : List Token
  pub second : List Token
  pub third : List Token
  pub opened : ts ≡ token kinds.OpenParen opening ∷ first
  pub begun : SpellsForInitial first initial second
  pub begun_low : IsLow (suc depth) (for_initial_reach initial)
  pub tested : SpellsForCondition second condition third
  pub tested_low : IsLow (suc depth) (optional_expression_reach condition)
  pub stepped : SpellsForStep third step rest
  pub stepped_low : IsLow (suc depth) (optional_assignment_reach step)
