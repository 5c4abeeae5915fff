-- What reading an operand leads to, step by step.
use Rattle.std.proofs.Common.{◌≡◌, ℕ, zero, suc, ◌+◌, ◌-◌, ◌<◌, ◌≤◌, false, List, [], ◌∷◌, Option, Some, None, refl, ap, subst, arith}
use Rattle.std.proofs.lemmas.Bool.Decides.{nat_tests}
use Rattle.std.proofs.lemmas.Option.{none-some}
use Rattle.ckc_text.specs.declared.place.Span.{Span}
use Rattle.ckc_lexer.specs.declared.token.Token.{Token}
use Rattle.ckc_lexer.specs.declared.token.TokenKind.{TokenKind}
use Rattle.ckc_lexer.specs.declared.token.TokenKind.TheVariants as kinds
use Rattle.ckc_tree.specs.declared.expr.UnaryOperator.{UnaryOperator}
use Rattle.ckc_tree.specs.declared.expr.BinaryOperator.{BinaryOperator}
use Rattle.ckc_tree.specs.declared.expr.BinaryOperator.TheVariants as binary
use Rattle.ckc_tree.specs.Expressions.{Expression, Binary}
use Rattle.ckc_tree.specs.Heights.{expression_reach}
use Rattle.ckc_parser_grammar.specs.Tokens.{token, join, unary_operator_of, operator_at, level, has_operator}
use Rattle.ckc_parser_grammar.specs.ExpressionGrammar as g
use Rattle.ckc_parser_grammar.specs.ExpressionGrammar.{SpellsBinary, SpellsUnary, SpellsPrimary}
use Rattle.ckc_parser_grammar.specs.Failures.{Failure, too_deep, IsLow}
use Rattle.ckc_parser_grammar.specs.StuckExpressions as s
use Rattle.ckc_parser_grammar.specs.StuckExpressions.{StuckBinary, StuckUnary}
use Rattle.ckc_parser.specs.Contexts.{Frame, InParens, OperandOf, RightOf, limit, depth_in, Fits, looseness, looser_at, Climbs, there, up, StuckClimb, stuck_here, stuck_above, Selects, Base, Fails, Completes, Needs, GoesIn}
use Rattle.ckc_parser_grammar.proofs.Readings.{low_around}

-- ---- levels

pub level_positive : (operator : BinaryOperator) → 0 < level operator
level_positive binary.Or = omega arith
level_positive binary.And = omega arith
level_positive binary.BitOr = omega arith
level_positive binary.BitXor = omega arith
level_positive binary.BitAnd = omega arith
level_positive binary.Equal = omega arith
level_positive binary.NotEqual = omega arith
level_positive binary.Less = omega arith
level_positive binary.LessEqual = omega arith
level_positive binary.Greater = omega arith
level_positive binary.GreaterEqual = omega arith
level_positive binary.ShiftLeft = omega arith
level_positive binary.ShiftRight = omega arith
level_positive binary.Add = omega arith
level_positive binary.Subtract = omega arith
level_positive binary.Multiply = omega arith
level_positive binary.Divide = omega arith
level_positive binary.Remainder = omega arith

level_below : (operator : BinaryOperator) → level operator ≡ suc (level operator - 1)
level_below operator = omega (arith, level_positive operator)

level_ten : (operator : BinaryOperator) → level operator ≤ 10
level_ten binary.Or = omega arith
level_ten binary.And = omega arith
level_ten binary.BitOr = omega arith
level_ten binary.BitXor = omega arith
level_ten binary.BitAnd = omega arith
level_ten binary.Equal = omega arith
level_ten binary.NotEqual = omega arith
level_ten binary.Less = omega arith
level_ten binary.LessEqual = omega arith
level_ten binary.Greater = omega arith
level_ten binary.GreaterEqual = omega arith
level_ten binary.ShiftLeft = omega arith
level_ten binary.ShiftRight = omega arith
level_ten binary.Add = omega arith
level_ten binary.Subtract = omega arith
level_ten binary.Multiply = omega arith
level_ten binary.Divide = omega arith
level_ten binary.Remainder = omega arith

pub limit_ten : (loosest d : ℕ) (p : List Frame) → Fits loosest d p → limit loosest p ≤ 10
limit_ten loosest d [] fits = fits.0
limit_ten loosest d (InParens start ∷ p) fits = omega arith
limit_ten loosest d (OperandOf operator start ∷ p) fits = omega arith
limit_ten loosest d (RightOf operator left outer ∷ p) fits = omega (arith, level_ten operator)

pub depth_low : (loosest d : ℕ) (p : List Frame) → Fits loosest d p → depth_in d p ≤ 200
depth_low loosest d [] fits = fits.1
depth_low loosest d (InParens start ∷ p) fits = depth_low loosest d p fits
depth_low loosest d (OperandOf operator start ∷ p) fits = omega (arith, fits.0)
depth_low loosest d (RightOf operator left outer ∷ p) fits = omega (arith, fits.1.0)

-- no operator of a tighter level stands next
none_tighter : (ts : List Token) (i : ℕ) → i < looser_at ts → has_operator i ts ≡ false
none_tighter ts i less = by_operator (operator_at ts) refl less
  where
    by_operator : (found : Option (BinaryOperator × List Token)) → operator_at ts ≡ found → i < looseness found → has_operator i ts ≡ false
    by_operator None e less = rw e refl
    by_operator (Some found) e less = rw e (grind (arith, nat_tests))

-- ---- climbing

-- past levels of which no operator stands next
past : {m : ℕ} {o w : Span} {ts rest : List Token} {e whole : Expression} (j n : ℕ) → n + j < looser_at ts → Climbs (n + j) m e o ts whole w rest → Climbs n m e o ts whole w rest
past {m} {o} {w} {ts} {rest} {e} {whole} zero n less c = let same : n + zero ≡ n = omega arith in subst (λ (k : ℕ). Climbs k m e o ts whole w rest) same c
past {m} {o} {w} {ts} {rest} {e} {whole} (suc j) n less c =
    let moved : n + suc j ≡ suc n + j = omega arith in
    let below : suc n < looser_at ts = omega arith in
    up (g.level_done (none_tighter ts (suc n) below)) (past j (suc n) (omega arith) (subst (λ (k : ℕ). Climbs k m e o ts whole w rest) moved c))

stuck_past : {m d : ℕ} {o : Span} {ts : List Token} {e : Expression} {f : Failure} (j n : ℕ) → n + j < looser_at ts → IsLow d (expression_reach e) → StuckClimb (n + j) m e o d ts f → StuckClimb n m e o d ts f
stuck_past {m} {d} {o} {ts} {e} {f} zero n less low c = let same : n + zero ≡ n = omega arith in subst (λ (k : ℕ). StuckClimb k m e o d ts f) same c
stuck_past {m} {d} {o} {ts} {e} {f} (suc j) n less low c =
    let moved : n + suc j ≡ suc n + j = omega arith in
    let below : suc n < looser_at ts = omega arith in
    stuck_above (g.level_done (none_tighter ts (suc n) below)) low (stuck_past j (suc n) (omega arith) low (subst (λ (k : ℕ). StuckClimb k m e o d ts f) moved c))

-- an expression of a level and the climb from it are one of a looser level
climbed : {n m : ℕ} {o w : Span} {start ts rest : List Token} {e whole : Expression} → SpellsBinary n start e o ts → Climbs n m e o ts whole w rest → SpellsBinary m start whole w rest
climbed spelled there = spelled
climbed spelled (up tail c) = climbed (g.operators spelled tail) c

lifted : {d : ℕ} {ts : List Token} {f : Failure} (j n : ℕ) → StuckBinary n d ts f → StuckBinary (n + j) d ts f
lifted {d} {ts} {f} zero n stuck = let same : n ≡ n + zero = omega arith in subst (λ (k : ℕ). StuckBinary k d ts f) same stuck
lifted {d} {ts} {f} (suc j) n stuck = let moved : suc n + j ≡ n + suc j = omega arith in subst (λ (k : ℕ). StuckBinary k d ts f) moved (lifted j (suc n) (s.first stuck))

stuck_at : {n d : ℕ} (m : ℕ) {ts : List Token} {f : Failure} → n ≤ m → StuckBinary n d ts f → StuckBinary m d ts f
stuck_at {n} {d} m {ts} {f} within stuck = let same : n + (m - n) ≡ m = omega arith in subst (λ (k : ℕ). StuckBinary k d ts f) same (lifted (m - n) n stuck)

climb_fails : {n m d : ℕ} {o : Span} {start ts : List Token} {e : Expression} {f : Failure} → SpellsBinary n start e o ts → IsLow d (expression_reach e) → StuckClimb n m e o d ts f → StuckBinary m d start f
climb_fails {m} spelled low (stuck_here less tail) = stuck_at m less (s.operators spelled low tail)
climb_fails spelled low (stuck_above tail higher c) = climb_fails (g.operators spelled tail) higher c

-- ---- operands

pub unary_spelled : {o : Span} {ts rest : List Token} {e : Expression} → SpellsBinary zero ts e o rest → SpellsUnary ts e o rest
unary_spelled (g.operand u) = u

pub unary_stuck : {d : ℕ} {ts : List Token} {f : Failure} → StuckBinary zero d ts f → StuckUnary d ts f
unary_stuck s.binary_no_room = s.unary_no_room
unary_stuck (s.operand u) = u

-- an operand without binary operators goes on
needs_unary : {b : Base} {p : List Frame} {o : Span} {ts rest : List Token} {e : Expression} → Needs b p ts → SpellsUnary ts e o rest → IsLow (depth_in b.depth p) (expression_reach e) → GoesIn b p 0 e o rest
needs_unary needs u low = record {
  goes = λ c whole. needs.spelled (climbed (g.operand u) c) whole;
  fails = λ c. needs.stuck (climb_fails (g.operand u) low c);
}

pub needs_fails : {b : Base} {p : List Frame} {ts : List Token} {f : Failure} → Needs b p ts → StuckUnary (depth_in b.depth p) ts f → Fails b f
needs_fails {b} {p} needs u = needs.stuck (stuck_at (limit b.loosest p) (omega arith) (s.operand u))

pub needs_first : (b : Base) → Needs b [] b.tokens
needs_first b = record { spelled = λ d low. d; stuck = λ d. d }

-- selectors behind what was read go on
pub needs_primary : {b : Base} {p : List Frame} {o : Span} {ts rest : List Token} {e : Expression} → Needs b p ts → SpellsPrimary ts e o rest → IsLow (depth_in b.depth p) (expression_reach e)
    → Selects (Completes b p) (Fails b) (depth_in b.depth p) (limit b.loosest p) e o rest
needs_primary needs primary low = record {
  selects = λ d whole. needs_unary needs (g.postfix primary d) whole;
  fails = λ d. needs_fails needs (s.selectors primary low d);
}

pub needs_parens : {b : Base} {p : List Frame} {start : Span} {ts : List Token} → Needs b p (token kinds.OpenParen start ∷ ts) → Needs b (InParens start ∷ p) ts
needs_parens {b} {p} {start} {ts} needs = record { spelled = λ d low. closes d low; stuck = λ d. needs_fails needs (s.primary (s.inside d)) }
  where
    closes : {o : Span} {rest : List Token} {e : Expression} → SpellsBinary 10 ts e o rest → IsLow (depth_in b.depth p) (expression_reach e) → Completes b (InParens start ∷ p) e o rest
    closes {o} {rest} {e} d low = record {
      closed = λ is. needs_primary needs (g.parentheses (subst (λ (us : List Token). SpellsBinary 10 ts e o us) is d)) low;
      unclosed = λ h. needs_fails needs (s.primary (s.primary_close d low h));
    }

pub needs_operand : {b : Base} {p : List Frame} {k : TokenKind} {operator : UnaryOperator} {start : Span} {ts : List Token} → unary_operator_of k ≡ Some operator → depth_in b.depth p < 200 → Needs b p (token k start ∷ ts) → Needs b (OperandOf operator start ∷ p) ts
needs_operand is less needs = record {
  spelled = λ d low. needs_unary needs (g.operator is (unary_spelled d)) (low_around _ _ _ less low);
  stuck = λ d. needs_fails needs (s.operator is less (unary_stuck d));
}

-- ---- operators

-- the climb to the limit past operators that don't stand here
pub finished : {b : Base} {n : ℕ} {o : Span} {ts : List Token} {e : Expression} (p : List Frame) → GoesIn b p n e o ts → n ≤ limit b.loosest p → limit b.loosest p < looser_at ts → IsLow (depth_in b.depth p) (expression_reach e) → Completes b p e o ts
finished {b} {n} {o} {ts} {e} p way within none low =
    let same : limit b.loosest p ≡ n + (limit b.loosest p - n) = omega arith in
    way.goes (past (limit b.loosest p - n) n (omega arith) (subst (λ (k : ℕ). Climbs k (limit b.loosest p) e o ts e o ts) same there)) low

-- an operator makes what was read its left operand
turned : {n m : ℕ} {q o w : Span} {ts us mid rest : List Token} {left right whole : Expression} {operator : BinaryOperator} → operator_at ts ≡ Some (operator, us) → level operator ≡ suc n → n < m → SpellsBinary n us right q mid
    → Climbs n m (Binary operator left right (join o q)) (join o q) mid whole w rest → Climbs n m left o ts whole w rest
turned found is below d there = absurd (omega (arith, below))
turned found is below d (up tail c) = up (g.level_more found is d tail) c

stuck_turned : {n m d : ℕ} {q o : Span} {ts us mid : List Token} {left right : Expression} {operator : BinaryOperator} {f : Failure} → operator_at ts ≡ Some (operator, us) → level operator ≡ suc n → d + (expression_reach left).height < 200
    → SpellsBinary n us right q mid → IsLow (suc d) (expression_reach right) → StuckClimb n m (Binary operator left right (join o q)) (join o q) d mid f → StuckClimb n m left o d ts f
stuck_turned found is room d low (stuck_here less tail) = stuck_here less (s.further found is room d low tail)
stuck_turned found is room d low (stuck_above tail higher c) = stuck_above (g.level_more found is d tail) higher c

-- the climb up to the level below that of the operator that stands next
to_operator : {n m : ℕ} {o w : Span} {ts us rest : List Token} {e whole : Expression} {operator : BinaryOperator} → operator_at ts ≡ Some (operator, us) → n < level operator → Climbs (level operator - 1) m e o ts whole w rest → Climbs n m e o ts whole w rest
to_operator {n} {m} {o} {w} {ts} {us} {rest} {e} {whole} {operator} found tight c =
    let same : level operator - 1 ≡ n + (level operator - 1 - n) = omega arith in
    let is : looser_at ts ≡ level operator = ap looseness found in
    past (level operator - 1 - n) n (omega (arith, level_positive operator)) (subst (λ (k : ℕ). Climbs k m e o ts whole w rest) same c)

stuck_to_operator : {n m d : ℕ} {o : Span} {ts us : List Token} {e : Expression} {operator : BinaryOperator} {f : Failure} → operator_at ts ≡ Some (operator, us) → n < level operator → IsLow d (expression_reach e) → StuckClimb (level operator - 1) m e o d ts f
    → StuckClimb n m e o d ts f
stuck_to_operator {n} {m} {d} {o} {ts} {us} {e} {operator} {f} found tight low c =
    let same : level operator - 1 ≡ n + (level operator - 1 - n) = omega arith in
    let is : looser_at ts ≡ level operator = ap looseness found in
    stuck_past (level operator - 1 - n) n (omega (arith, level_positive operator)) low (subst (λ (k : ℕ). StuckClimb k m e o d ts f) same c)

-- an operator of a level up to the limit makes what was read its left operand
pub needs_right : {b : Base} {p : List Frame} {n : ℕ} {o : Span} {ts us : List Token} {left : Expression} {operator : BinaryOperator} → GoesIn b p n left o ts → operator_at ts ≡ Some (operator, us) → n < level operator → level operator ≤ limit b.loosest p
    → depth_in b.depth p + (expression_reach left).height < 200 → Needs b (RightOf operator left o ∷ p) us
needs_right {b} {p} {n} {o} {ts} {us} {left} {operator} way found tight within room =
    let is : level operator ≡ suc (level operator - 1) = level_below operator in
    let below : level operator - 1 < limit b.loosest p = omega (arith, level_positive operator) in
    let low : IsLow (depth_in b.depth p) (expression_reach left) = omega arith in
    record {
      spelled = λ d right. record {
        goes = λ c whole. way.goes (to_operator found tight (turned found is below d c)) whole;
        fails = λ c. way.fails (stuck_to_operator found tight low (stuck_turned found is room d right c));
      };
      stuck = λ d. way.fails (stuck_to_operator found tight low (stuck_here below (s.right found is room d)));
    }

pub right_too_deep : (b : Base) (p : List Frame) {n : ℕ} {o : Span} {ts us : List Token} {left : Expression} {operator : BinaryOperator} → GoesIn b p n left o ts → operator_at ts ≡ Some (operator, us) → n < level operator → level operator ≤ limit b.loosest p
    → IsLow (depth_in b.depth p) (expression_reach left) → 200 ≤ depth_in b.depth p + (expression_reach left).height → Fails b (too_deep (expression_reach left).start)
right_too_deep b p {ts = []} way found tight within low deep = absurd (none-some _ found)
right_too_deep b p {ts = t ∷ ts} {operator} way found tight within low deep =
    let is : level operator ≡ suc (level operator - 1) = level_below operator in
    let below : level operator - 1 < limit b.loosest p = omega (arith, level_positive operator) in
    way.fails (stuck_to_operator found tight low (stuck_here below (s.tail_deep found is deep)))
