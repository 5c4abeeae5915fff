-- The spans of an expression that is spelled stand in order.
use Rattle.std.proofs.Common.{◌≡◌, ℕ, Bool, true, false, nat_eq, List, [], ◌∷◌, Option, Some, None, subst, arith}
use Rattle.std.proofs.lemmas.Option.{same_Some, none-some}
use Rattle.ckc_text.specs.declared.place.Span.{Span}
use Rattle.ckc_lexer.specs.declared.token.Token.{Token}
use Rattle.ckc_lexer.specs.declared.token.TokenKind.{TokenKind}
use Rattle.ckc_lexer.specs.declared.token.TokenKind.TheVariants as kinds
use Rattle.ckc_tree.specs.declared.expr.BinaryOperator.{BinaryOperator}
use Rattle.ckc_tree.specs.Expressions.{Expression, expression_span, Expressions, Bounds, bounds_span}
use Rattle.ckc_tree.specs.Placement.{ExpressionPlaced, expressions_spans, ExpressionsPlaced, BoundsPlaced}
use Rattle.ckc_parser_grammar.specs.Tokens.{operator_of, operator_at, operator_with, with_rest, behind_greater, greater_or_shift, right_shift}
use Rattle.ckc_parser_grammar.specs.ExpressionGrammar as g
use Rattle.ckc_parser_grammar.specs.ExpressionGrammar.{SpellsBinary, SpellsTail, SpellsUnary, SpellsSelectors, SpellsPrimary, SpellsCall, SpellsArguments, SpellsMoreArguments, SpellsBounds}
use Rattle.ckc_parser_grammar.proofs.TokenOrder.{Runs, first, on, follow, skip, sooner, Read, Within, Part, bare, bare_leaf}
use Rattle.ckc_parser_grammar.proofs.PlacedType.{type_name_read, angled_read}

-- ---- the tokens behind an operator

-- an operator and the tokens behind it
abbrev Found : Type 0
Found = BinaryOperator × List Token

found_rest : {from end : ℕ} {ts us : List Token} {w w' : BinaryOperator} → ◌≡◌ {A = Option Found} (Some (w, ts)) (Some (w', us)) → Runs from ts end → Runs from us end
found_rest {from} {end} {us} {w'} same h = subst (λ (x : Found). Runs from x.1 end) (same_Some _ (w', us) same) h

mark_rest : {from end : ℕ} (ts : List Token) {us : List Token} {w : BinaryOperator} (o : Option BinaryOperator) → with_rest ts o ≡ Some (w, us) → Runs from ts end → Runs from us end
mark_rest ts None same h = absurd (none-some _ same)
mark_rest ts (Some x) same h = found_rest same h

shift_rest : {from end : ℕ} {ts behind us : List Token} {w : BinaryOperator} (touches : Bool) → right_shift touches ts behind ≡ Some (w, us) → Runs from ts end → Runs from behind end → Runs from us end
shift_rest true same h k = found_rest same k
shift_rest false same h k = found_rest same h

second_rest : {from end : ℕ} (to start : ℕ) {ts behind us : List Token} {w : BinaryOperator} (k : TokenKind) → greater_or_shift to ts behind k start ≡ Some (w, us) → Runs from ts end → Runs from behind end → Runs from us end
second_rest to start kinds.Greater same h r = shift_rest (nat_eq to start) same h r
second_rest to start _ same h r = found_rest same h

greater_rest : {from end : ℕ} (to : ℕ) (ts : List Token) {us : List Token} {w : BinaryOperator} → behind_greater to ts ≡ Some (w, us) → Runs from ts end → Runs from us end
greater_rest to [] same h = found_rest same h
greater_rest to (t ∷ ts) same h = second_rest to t.span.from t.kind same h (skip h)

kind_rest : {from end : ℕ} (span : Span) (ts : List Token) {us : List Token} {w : BinaryOperator} (k : TokenKind) → operator_with span ts k ≡ Some (w, us) → Runs from ts end → Runs from us end
kind_rest span ts kinds.Greater same h = greater_rest span.to ts same h
kind_rest span ts k same h = mark_rest ts (operator_of k) same h

operator_rest : {from end : ℕ} (ts : List Token) {us : List Token} {w : BinaryOperator} → operator_at ts ≡ Some (w, us) → Runs from ts end → Runs from us end
operator_rest [] same h = absurd (none-some _ same)
operator_rest (t ∷ ts) same h = kind_rest t.span ts t.kind same (skip h)

-- ---- expressions

-- an expression on these bytes, with the parentheses around it
abbrev pub ExpressionRead : ℕ → Span → Expression → List Token → ℕ → Type 0
ExpressionRead from o e rest end = Read from o (Within o (expression_span e) (ExpressionPlaced e)) rest end

mutual
  pub binary_read : {n from end : ℕ} {ts rest : List Token} {e : Expression} {o : Span} → SpellsBinary n ts e o rest → Runs from ts end → ExpressionRead from o e rest end
  binary_read (g.operand d) h = unary_read d h
  binary_read (g.operators d u) h = tail_read u (binary_read d h)

  tail_read : {n from end : ℕ} {ts rest : List Token} {e whole : Expression} {o w : Span} → SpellsTail n e o ts whole w rest → ExpressionRead from o e ts end → ExpressionRead from w whole rest end
  tail_read (g.level_done f) x = x
  tail_read (g.level_more {ts} found l d u) x =
      let left = x.placed in
      let y = binary_read d (operator_rest ts found x.on) in
      let right = y.placed in
      tail_read u (bare x.after (omega (arith, x, y)) (omega (arith, left, y, right), left.placed, right.placed) y.on)

  pub unary_read : {from end : ℕ} {ts rest : List Token} {e : Expression} {o : Span} → SpellsUnary ts e o rest → Runs from ts end → ExpressionRead from o e rest end
  unary_read (g.operator w d) h =
      let x = unary_read d (follow h) in
      let operand = x.placed in
      bare (first h).after (omega (arith, x)) (omega (arith, x, operand), operand.placed) x.on
  unary_read (g.postfix p s) h = selectors_read s (primary_read p h)

  selectors_read : {from end : ℕ} {ts rest : List Token} {e whole : Expression} {o w : Span} → SpellsSelectors e o ts whole w rest → ExpressionRead from o e ts end → ExpressionRead from w whole rest end
  selectors_read (g.unselected f) x = x
  selectors_read (g.index d s) x =
      let base = x.placed in
      let y = binary_read d (skip x.on) in
      let index = y.placed in
      let t = first y.on in
      selectors_read s (bare x.after (omega (arith, x, y, t)) (omega (arith, base, y, index, t), base.placed, index.placed) (on y.on))
  selectors_read (g.dot s) x =
      let base = x.placed in
      let name = skip x.on in
      let t = first name in
      selectors_read s (bare x.after (omega (arith, x, t)) (omega (arith, base, t), base.placed) (on name))
  selectors_read (g.arrow s) x =
      let base = x.placed in
      let name = skip x.on in
      let t = first name in
      selectors_read s (bare x.after (omega (arith, x, t)) (omega (arith, base, t), base.placed) (on name))

  primary_read : {from end : ℕ} {ts rest : List Token} {e : Expression} {o : Span} → SpellsPrimary ts e o rest → Runs from ts end → ExpressionRead from o e rest end
  primary_read g.number h = bare_leaf (first h) (on h)
  primary_read g.character h = bare_leaf (first h) (on h)
  primary_read g.text h = bare_leaf (first h) (on h)
  primary_read (g.name f) h = bare_leaf (first h) (on h)
  primary_read (g.called d) h = call_read d h
  primary_read (g.parentheses d) h =
      let x = binary_read d (follow h) in
      let inner = x.placed in
      let t = first x.on in
      record { after = (first h).after; some = omega (arith, x, t); placed = record { begins = omega (arith, x, inner); some = inner.some; ends = omega (arith, inner, t); placed = inner.placed }; on = on x.on }
  primary_read (g.size_of d) h =
      let x = type_name_read d (skip (follow h)) in
      let t = first x.on in
      bare (first h).after (omega (arith, x, t)) (omega (arith, x, t), x.placed) (on x.on)
  primary_read (g.cast w a d) h =
      let x = angled_read a (follow h) in
      let y = binary_read d x.on in
      let operand = y.placed in
      let t = first y.on in
      bare (first h).after (omega (arith, x, y, t)) (omega (arith, x, y, operand, t), x.placed, operand.placed) (on y.on)
  primary_read (g.bounded_cast w a d b) h =
      let x = angled_read a (follow h) in
      let y = binary_read d x.on in
      let operand = y.placed in
      let z = bounds_read b (skip y.on) in
      let bounds = z.placed in
      let t = first z.on in
      bare (first h).after (omega (arith, x, y, z, t)) (omega (arith, x, y, operand, z, bounds, t), x.placed, operand.placed, bounds.placed) (on z.on)
  primary_read (g.malloc w a d) h =
      let x = angled_read a (follow h) in
      let y = binary_read d x.on in
      let size = y.placed in
      let t = first y.on in
      bare (first h).after (omega (arith, x, y, t)) (omega (arith, x, y, size, t), x.placed, size.placed) (on y.on)
  primary_read (g.calloc w a d b) h =
      let x = angled_read a (follow h) in
      let y = binary_read d x.on in
      let count = y.placed in
      let z = binary_read b (skip y.on) in
      let size = z.placed in
      let t = first z.on in
      bare (first h).after (omega (arith, x, y, z, t)) (omega (arith, x, y, count, z, size, t), x.placed, count.placed, size.placed) (on z.on)

  pub call_read : {from end : ℕ} {ts rest : List Token} {e : Expression} {o : Span} → SpellsCall ts e o rest → Runs from ts end → ExpressionRead from o e rest end
  call_read (g.call a) h =
      let s = first h in
      let x = arguments_read a (skip (on h)) in
      bare s.after (omega (arith, s, x)) ((omega arith, s.some, x.order), x.placed) x.on

  arguments_read : {from end : ℕ} {ts rest : List Token} {es : Expressions} {t : Span} → SpellsArguments ts es t rest → Runs from ts end → Part from (expressions_spans es) t.to (ExpressionsPlaced es) rest end
  arguments_read g.no_argument h =
      let t = first h in
      record { more = omega (arith, t); order = omega (arith, t); placed = tt; on = on h }
  arguments_read (g.argument {e} d m) h = more_read e m (binary_read d h)

  more_read : {from end : ℕ} {ts rest : List Token} (e : Expression) {es : Expressions} {o t : Span} → SpellsMoreArguments ts es t rest → ExpressionRead from o e ts end
      → Part from (expression_span e ∷ expressions_spans es) t.to (ExpressionPlaced e × ExpressionsPlaced es) rest end
  more_read e g.no_other x =
      let last = x.placed in
      let t = first x.on in
      record { more = omega (arith, x, t); order = omega (arith, x, last, t); placed = (last.placed, tt); on = on x.on }
  more_read e (g.other {t} {e = next} {others} d m) x =
      let one = x.placed in
      let y = more_read next m (binary_read d (skip x.on)) in
      record { more = omega (arith, x, y); order = (omega (arith, x, one), one.some, sooner (expression_span next ∷ expressions_spans others) t.to one.ends y.order); placed = (one.placed, y.placed); on = y.on }

  pub bounds_read : {from end : ℕ} {ts rest : List Token} {b : Bounds} {o : Span} → SpellsBounds ts b o rest → Runs from ts end → Read from o (Within o (bounds_span b) (BoundsPlaced b)) rest end
  bounds_read (g.count n d) h =
      let x = binary_read d (skip (follow h)) in
      let count = x.placed in
      let t = first x.on in
      bare (first h).after (omega (arith, x, t)) (omega (arith, x, count, t), count.placed) (on x.on)
  bounds_read (g.byte_count n d) h =
      let x = binary_read d (skip (follow h)) in
      let count = x.placed in
      let t = first x.on in
      bare (first h).after (omega (arith, x, t)) (omega (arith, x, count, t), count.placed) (on x.on)
  bounds_read (g.unknown n m) h =
      let close = skip (skip (follow h)) in
      let t = first close in
      bare (first h).after (omega (arith, t)) (omega (arith, t)) (on close)
  bounds_read (g.range n d e) h =
      let x = binary_read d (skip (follow h)) in
      let low = x.placed in
      let y = binary_read e (skip x.on) in
      let high = y.placed in
      let t = first y.on in
      bare (first h).after (omega (arith, x, y, t)) (omega (arith, x, low, y, high, t), low.placed, high.placed) (on y.on)
