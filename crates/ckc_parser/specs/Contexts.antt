-- Inside: forms that wait for their last operand, and what reading an operand of theirs leads to. Parentheses nest without
-- a limit, so the parser keeps these forms in a list, the last first; here the list has a meaning.
use Rattle.std.specs.Prelude.{◌≡◌, ◌≤◌, ◌<◌, ◌-◌, ℕ, suc, Bool, true, false, nat_le, List, [], ◌∷◌, Option, Some, None}
use Rattle.ckc_text.specs.declared.place.Span.{Span}
use Rattle.ckc_lexer.specs.declared.token.Token.{Token}
use Rattle.ckc_lexer.specs.declared.token.TokenKind.TheVariants as kinds
use Rattle.ckc_tree.specs.declared.expr.UnaryOperator.{UnaryOperator}
use Rattle.ckc_tree.specs.declared.expr.BinaryOperator.{BinaryOperator}
use Rattle.ckc_tree.specs.Expressions.{Expression, Unary, Binary, expression}
use Rattle.ckc_tree.specs.Heights.{expression_reach}
use Rattle.ckc_parser.specs.declared.expressions.Around.{Around}
use Rattle.ckc_parser.specs.declared.expressions.Pending.{Pending}
use Rattle.ckc_parser.specs.declared.expressions.Pending.TheVariants as forms
use Rattle.ckc_parser_grammar.specs.Tokens.{token, join, operator_at, level, next_is}
use Rattle.ckc_parser_grammar.specs.ExpressionGrammar.{SpellsBinary, SpellsTail, SpellsSelectors}
use Rattle.ckc_parser_grammar.specs.Failures.{Failure, unexpected, IsLow}
use Rattle.ckc_parser_grammar.specs.StuckExpressions.{close_paren, StuckBinary, StuckTail, StuckSelectors}

-- a form that waits for its last operand
pub data Frame : Type 0 where
  InParens : (start : Span) → Frame
  OperandOf : (operator : UnaryOperator) (start : Span) → Frame
  RightOf : (operator : BinaryOperator) (left : Expression) (outer : Span) → Frame

-- the form that a value of the code's type stands for
abbrev pub frame : Pending → Frame
frame (forms.Paren start) = InParens start
frame (forms.Unary operator start) = OperandOf operator start
frame (forms.Binary operator left) = RightOf operator (expression left.expr.value) left.outer

abbrev pub onto : List Frame → List Pending → List Frame
onto outer [] = outer
onto outer (p ∷ ps) = onto (frame p ∷ outer) ps

-- the forms that wait, the last first
abbrev pub waiting : List Pending → List Frame
waiting ps = onto [] ps

-- the loosest level of an operator that belongs to the operand that is read next; outside all forms it is given
abbrev pub limit : ℕ → List Frame → ℕ
limit loosest [] = loosest
limit loosest (InParens start ∷ p) = 10
limit loosest (OperandOf operator start ∷ p) = 0
limit loosest (RightOf operator left outer ∷ p) = level operator - 1

-- the nodes around the operand that is read next; outside all forms they are given
abbrev pub depth_in : ℕ → List Frame → ℕ
depth_in depth [] = depth
depth_in depth (InParens start ∷ p) = depth_in depth p
depth_in depth (OperandOf operator start ∷ p) = suc (depth_in depth p)
depth_in depth (RightOf operator left outer ∷ p) = suc (depth_in depth p)

-- operators bind no looser than where they stand allows, and no node so far is too deep
abbrev pub Fits : ℕ → ℕ → List Frame → Type 0
Fits loosest depth [] = (loosest ≤ 10) × (depth ≤ 200)
Fits loosest depth (InParens start ∷ p) = Fits loosest depth p
Fits loosest depth (OperandOf operator start ∷ p) = (depth_in depth p < 200) × Fits loosest depth p
Fits loosest depth (RightOf operator left outer ∷ p) =
    (level operator ≤ limit loosest p) × (IsLow (suc (depth_in depth p)) (expression_reach left) × Fits loosest depth p)

-- the level of the operator that stands next, and 11 where none does
abbrev pub looseness : Option (BinaryOperator × List Token) → ℕ
looseness None = 11
looseness (Some found) = level found.0

abbrev pub looser_at : List Token → ℕ
looser_at ts = looseness (operator_at ts)

-- the form that waits last takes an operand that an operator of this level follows
abbrev pub takes_before : List Frame → ℕ → Bool
takes_before [] looser = false
takes_before (InParens start ∷ p) looser = false
takes_before (OperandOf operator start ∷ p) looser = true
takes_before (RightOf operator left outer ∷ p) looser = nat_le (level operator) looser

-- where the parenthesis starts that waits last
abbrev pub paren_start : List Frame → Option Span
paren_start (InParens start ∷ p) = Some start
paren_start _ = None

-- from an expression of a level to one of a looser level, by the operators of the levels between
pub data Climbs : ℕ → ℕ → Expression → Span → List Token → Expression → Span → List Token → Type 0 where
  there : {n : ℕ} {o : Span} {ts : List Token} {e : Expression} → Climbs n n e o ts e o ts
  up : {n m : ℕ} {o p w : Span} {ts mid rest : List Token} {e higher whole : Expression} → SpellsTail n e o ts higher p mid
      → Climbs (suc n) m higher p mid whole w rest → Climbs n m e o ts whole w rest

pub data StuckClimb : ℕ → ℕ → Expression → Span → ℕ → List Token → Failure → Type 0 where
  stuck_here : {n m d : ℕ} {o : Span} {ts : List Token} {e : Expression} {f : Failure} → n < m → StuckTail n e o d ts f → StuckClimb n m e o d ts f
  stuck_above : {n m d : ℕ} {o p : Span} {ts mid : List Token} {e higher : Expression} {f : Failure} → SpellsTail n e o ts higher p mid
      → IsLow d (expression_reach higher) → StuckClimb (suc n) m higher p d mid f → StuckClimb n m e o d ts f

-- Each way on from an expression of level n to one of level m leads to a complete form, and where one fails the whole fails
-- so, with d nodes around it.
pub record Goes (Complete : Expression → Span → List Token → Type 0) (Fails : Failure → Type 0) (d n m : ℕ) (e : Expression) (o : Span)
    (ts : List Token) : Type 0 where
  pub goes : {w : Span} {whole : Expression} {rest : List Token} → Climbs n m e o ts whole w rest → IsLow d (expression_reach whole) → Complete whole w rest
  pub fails : {f : Failure} → StuckClimb n m e o d ts f → Fails f

-- the same from an expression that selectors may follow
pub record Selects (Complete : Expression → Span → List Token → Type 0) (Fails : Failure → Type 0) (d m : ℕ) (e : Expression) (o : Span)
    (ts : List Token) : Type 0 where
  pub selects : {w : Span} {whole : Expression} {rest : List Token} → SpellsSelectors e o ts whole w rest → IsLow d (expression_reach whole)
      → Goes Complete Fails d 0 m whole w rest
  pub fails : {f : Failure} → StuckSelectors e o d ts f → Fails f

-- the same from an expression that a parenthesis has to follow
pub record Closes (Complete : Expression → Span → List Token → Type 0) (Fails : Failure → Type 0) (d m : ℕ) (start : Span) (e : Expression)
    (ts : List Token) : Type 0 where
  pub closed : {t : Span} {rest : List Token} → ts ≡ token kinds.CloseParen t ∷ rest → Selects Complete Fails d m e (join start t) rest
  pub unclosed : next_is close_paren ts ≡ false → Fails (unexpected ts)

-- an expression that is read from these tokens: with how many nodes around it, and its loosest level
pub record Base : Type 0 where
  pub loosest : ℕ
  pub depth : ℕ
  pub tokens : List Token

abbrev pub Fails : Base → Failure → Type 0
Fails b f = StuckBinary b.loosest b.depth b.tokens f

-- The last operand of the forms that wait is read, with these tokens left, and each way on leads to the expression.
abbrev pub Completes : Base → List Frame → Expression → Span → List Token → Type 0
Completes b [] e o ts = SpellsBinary b.loosest b.tokens e o ts
Completes b (InParens start ∷ p) e o ts = Closes (Completes b p) (Fails b) (depth_in b.depth p) (limit b.loosest p) start e ts
Completes b (OperandOf operator start ∷ p) e o ts =
    Goes (Completes b p) (Fails b) (depth_in b.depth p) 0 (limit b.loosest p) (Unary operator e (join start o)) (join start o) ts
Completes b (RightOf operator left outer ∷ p) e o ts =
    Goes (Completes b p) (Fails b) (depth_in b.depth p) (level operator - 1) (limit b.loosest p) (Binary operator left e (join outer o)) (join outer o) ts

-- each operand of the forms that wait completes them, and where reading one fails the whole fails so
pub record Needs (b : Base) (p : List Frame) (ts : List Token) : Type 0 where
  pub spelled : {o : Span} {rest : List Token} {e : Expression} → SpellsBinary (limit b.loosest p) ts e o rest
      → IsLow (depth_in b.depth p) (expression_reach e) → Completes b p e o rest
  pub stuck : {f : Failure} → StuckBinary (limit b.loosest p) (depth_in b.depth p) ts f → Fails b f

abbrev pub GoesIn : Base → List Frame → ℕ → Expression → Span → List Token → Type 0
GoesIn b p n e o ts = Goes (Completes b p) (Fails b) (depth_in b.depth p) n (limit b.loosest p) e o ts

-- ---- the same of the code's types

-- what the parser keeps are the forms that wait inside this expression
pub record IsAround (b : Base) (a : Around) : Type 0 where
  pub loosest : a.loosest ≡ b.loosest
  pub depth : a.depth ≡ depth_in b.depth (waiting a.pending.items)
  pub fits : Fits b.loosest b.depth (waiting a.pending.items)

-- an operand of the forms that wait is to be read from these tokens
pub record NeedsOperand (b : Base) (a : Around) (ts : List Token) : Type 0 where
  pub around : IsAround b a
  pub needs : Needs b (waiting a.pending.items) ts

-- an operand is read but for its selectors
pub record HasOperand (b : Base) (a : Around) (e : Expression) (o : Span) (ts : List Token) : Type 0 where
  pub around : IsAround b a
  pub low : IsLow a.depth (expression_reach e)
  pub selects : Selects (Completes b (waiting a.pending.items)) (Fails b) (depth_in b.depth (waiting a.pending.items))
      (limit b.loosest (waiting a.pending.items)) e o ts

-- an expression is read that binds tighter than an operator of this level
pub record HasTight (b : Base) (a : Around) (looser : ℕ) (e : Expression) (o : Span) (ts : List Token) : Type 0 where
  pub around : IsAround b a
  pub low : IsLow a.depth (expression_reach e)
  pub tightness : ℕ
  pub tight : tightness < looser
  pub within : tightness ≤ limit b.loosest (waiting a.pending.items)
  pub way : GoesIn b (waiting a.pending.items) tightness e o ts

-- the next operator takes the expression that was read, or that is the whole
pub record HasWhole (b : Base) (a : Around) (e : Expression) (o : Span) (ts : List Token) : Type 0 where
  pub read : HasTight b a (looser_at ts) e o ts
  pub ends : limit b.loosest (waiting a.pending.items) < looser_at ts → waiting a.pending.items ≡ []
