-- Inside: what the functions answer that read an expression around its smallest parts.
use Rattle.std.specs.Prelude.{◌≡◌, ◌≤◌, ◌<◌, ℕ, Bool, true, false, List, ◌∷◌, length, Option, Some, None, Result, Ok, Err}
use Rattle.ckc_text.specs.declared.place.Span.{Span}
use Rattle.ckc_lexer.specs.declared.token.Token.{Token}
use Rattle.ckc_tree.specs.declared.expr.BinaryOperator.{BinaryOperator}
use Rattle.ckc_tree.specs.Expressions.{Expression, Unary, Binary, expression}
use Rattle.ckc_parser.specs.declared.expressions.Around.{Around}
use Rattle.ckc_parser.specs.declared.expressions.Pending.{Pending}
use Rattle.ckc_parser.specs.declared.expressions.Pending.TheVariants as forms
use Rattle.ckc_parser.specs.declared.operand.Operand.{Operand}
use Rattle.ckc_parser_grammar.specs.declared.stuck.Stuck.{Stuck}
use Rattle.ckc_parser_grammar.specs.Tokens.{join, operator_at, level, next_is}
use Rattle.ckc_parser_grammar.specs.StuckExpressions.{prefix_word}
use Rattle.ckc_parser_grammar.specs.Answers.{failure}
use Rattle.ckc_parser.specs.Contexts.{Frame, InParens, OperandOf, RightOf, waiting, looser_at, Base, Fails, NeedsOperand, HasWhole}

-- taking one operator or parenthesis before an operand, where one stands next
abbrev pub IsPrefix : Base → Around → Result Bool Stuck → List Token → Type 0
IsPrefix b a (Ok true) rest = NeedsOperand b a rest
IsPrefix b a (Ok false) rest = NeedsOperand b a rest × (next_is prefix_word rest ≡ false)
IsPrefix b a (Err e) rest = Fails b (failure e rest)

-- tokens are taken, where it is said that one was
abbrev pub IsShorter : List Token → Bool → List Token → Type 0
IsShorter ts true rest = length rest < length ts
IsShorter ts false rest = length rest ≤ length ts

-- taking all of them
abbrev pub IsPrefixed : Base → Around → Result (Unit {0}) Stuck → List Token → Type 0
IsPrefixed b a (Ok done) rest = NeedsOperand b a rest × (next_is prefix_word rest ≡ false)
IsPrefixed b a (Err e) rest = Fails b (failure e rest)

-- reading what stands behind an operand, up to an operator that takes it or to the end
abbrev pub IsRead : Base → Around → Result Operand Stuck → List Token → Type 0
IsRead b a (Ok found) rest = HasWhole b a (expression found.expr.value) found.outer rest
IsRead b a (Err e) rest = Fails b (failure e rest)

-- taking the operator that stands next, of this level or a tighter one
abbrev pub IsNextOperator : ℕ → List Token → Option BinaryOperator → List Token → Type 0
IsNextOperator limit ts None rest = (rest ≡ ts) × (limit ≤ 10 → limit < looser_at ts)
IsNextOperator limit ts (Some operator) rest = (operator_at ts ≡ Some (operator, rest)) × (level operator ≤ limit)

-- letting an operand wait as the left one of the operator before these tokens
abbrev pub IsWaiting : Base → Around → List Token → Result (Unit {0}) Stuck → Type 0
IsWaiting b a us (Ok done) = NeedsOperand b a us
IsWaiting b a us (Err e) = Fails b (failure e us)

-- taking away the form that waits last, and giving the operand this outer span
pub record IsUnwrapped (old new : Around) (operand : Operand) (outer : Span) (result : Operand) : Type 0 where
  pub left : (f : Frame) (p : List Frame) → waiting old.pending.items ≡ f ∷ p → waiting new.pending.items ≡ p
  pub depth : new.depth ≡ old.depth
  pub loosest : new.loosest ≡ old.loosest
  pub same : expression result.expr.value ≡ expression operand.expr.value
  pub outer_is : result.outer ≡ outer

-- the left operand that waits has no more nodes one inside the other than a tree
abbrev pub IsSmall : Pending → Type 0
IsSmall (forms.Paren start) = Unit {0}
IsSmall (forms.Unary operator start) = Unit {0}
IsSmall (forms.Binary operator left) = left.reach.height ≤ 200

-- the form that waited, with its last operand
abbrev pub Applies : Frame → Expression → Span → Expression → Span → Type 0
Applies (InParens start) e o whole w = (whole ≡ e) × (w ≡ o)
Applies (OperandOf operator start) e o whole w = (whole ≡ Unary operator e (join start o)) × (w ≡ join start o)
Applies (RightOf operator left outer) e o whole w = (whole ≡ Binary operator left e (join outer o)) × (w ≡ join outer o)
