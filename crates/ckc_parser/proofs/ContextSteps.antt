-- What the parser keeps around an operand, step by step.
use Rattle.std.proofs.Common.{◌≡◌, ℕ, suc, ◌+◌, ◌-◌, ◌<◌, ◌≤◌, true, false, List, [], ◌∷◌, length, Option, Some, None, Result, Ok, Err, refl, sym, ap, subst, ◌∙◌, arith}
use Rattle.std.proofs.lemmas.Bool.Decides.{nat_tests}
use Rattle.std.proofs.lemmas.Option.{same_Some, none-some}
use Rattle.ckc_text.specs.declared.place.Span.{Span}
use Rattle.ckc_lexer.specs.declared.token.Token.{Token}
use Rattle.ckc_lexer.specs.declared.token.TokenKind.TheVariants as kinds
use Rattle.ckc_tree.specs.declared.expr.BinaryOperator.{BinaryOperator}
use Rattle.ckc_tree.specs.Expressions.{Expression, expression}
use Rattle.ckc_tree.specs.Heights.{Reach, expression_reach, ◌beside◌}
use Rattle.ckc_parser_grammar.specs.declared.stuck.Stuck.{Stuck}
use Rattle.ckc_parser.specs.declared.operand.Operand.{Operand}
use Rattle.ckc_parser.specs.declared.expressions.Around.{Around}
use Rattle.ckc_parser.specs.declared.expressions.Pending.{Pending}
use Rattle.ckc_parser.specs.declared.expressions.Pending.TheVariants as forms
use Rattle.ckc_parser_grammar.specs.Tokens as words
use Rattle.ckc_parser_grammar.specs.Tokens.{token, join, unary_operator_of, operator_at, level, next_is}
use Rattle.ckc_parser_grammar.specs.ExpressionGrammar.{SpellsBinary, SpellsPrimary, SpellsSelectors}
use Rattle.ckc_parser_grammar.specs.Failures.{Failure, unexpected, too_deep, IsLow}
use Rattle.ckc_parser_grammar.specs.Answers.{Reads}
use Rattle.ckc_parser_grammar.specs.StuckExpressions as s
use Rattle.ckc_parser_grammar.specs.StuckExpressions.{primary_word, prefix_word, unary_word, close_paren, StuckBinary, StuckUnary, StuckSelectors}
use Rattle.ckc_parser.specs.Readings.{IsBinary, IsUnary, FailsPrimary, no_primary, in_primary}
use Rattle.ckc_parser.specs.Contexts.{Frame, frame, InParens, OperandOf, RightOf, waiting, limit, depth_in, Fits, looseness, looser_at, takes_before, paren_start, Selects, Closes, Base, Fails, Completes, Needs, GoesIn, IsAround, NeedsOperand, HasOperand, HasTight, HasWhole}
use Rattle.ckc_parser.specs.ContextAnswers.{Applies, IsSmall, IsUnwrapped}
use Rattle.ckc_parser_grammar.proofs.Readings.{low_around}
use Rattle.ckc_parser_grammar.proofs.ExpressionPaths.{Marks, mark, shift, marks_at}
use Rattle.ckc_parser.proofs.Contexts.{level_positive, limit_ten, depth_low, unary_spelled, unary_stuck, needs_primary, needs_fails, needs_right, right_too_deep, finished}
use Rattle.ckc_parser_grammar.proofs.Paths.{low_beside}

pub no_prefix_word : {rest : List Token} (ts : List Token) (t : Token) → ts ≡ t ∷ rest → next_is words.open_paren ts ≡ false → None ≡ unary_operator_of t.kind → next_is prefix_word ts ≡ false
no_prefix_word ts t is other none = rw is (rw (rw is at other, ← none) refl)

-- an operator takes tokens
marks_shorter : {ts us : List Token} {operator : BinaryOperator} → Marks ts operator us → length us < length ts
marks_shorter mark = omega arith
marks_shorter shift = omega arith

pub operator_shorter : {us : List Token} {operator : BinaryOperator} (ts : List Token) → operator_at ts ≡ Some (operator, us) → length us < length ts
operator_shorter ts found = marks_shorter (marks_at ts found)

-- ---- the operand that is needed

pub needs_in : (b : Base) (a : Around) (ts : List Token) (p : List Frame) → waiting a.pending.items ≡ p → a.loosest ≡ b.loosest → a.depth ≡ depth_in b.depth p → Fits b.loosest b.depth p → Needs b p ts → NeedsOperand b a ts
needs_in b a ts p e loosest depth fits needs = record {
  around = record { loosest = loosest; depth = rw e depth; fits = rw e fits };
  needs = rw e needs;
}

pub depth_fits : {b : Base} {a : Around} → IsAround b a → a.depth ≤ 200
depth_fits {b} {a} is = rw is.depth (depth_low b.loosest b.depth (waiting a.pending.items) is.fits)

no_unary_next : (ts : List Token) → next_is prefix_word ts ≡ false → next_is primary_word ts ≡ false → next_is unary_word ts ≡ false
no_unary_next [] h p = refl
no_unary_next (t ∷ ts) h p = rw (h, p) refl

pub primary_fails : {b : Base} {a : Around} {ts : List Token} {f : Failure} → NeedsOperand b a ts → next_is prefix_word ts ≡ false → FailsPrimary a.depth ts f → Fails b f
primary_fails {ts} needs h (no_primary p) = needs_fails needs.needs (s.no_expression (no_unary_next ts h p))
primary_fails needs h (in_primary stuck) = needs_fails needs.needs (s.primary (rw needs.around.depth at stuck))

pub primary_read : {b : Base} {a : Around} {o : Span} {ts rest : List Token} {e : Expression} → NeedsOperand b a ts → SpellsPrimary ts e o rest → IsLow a.depth (expression_reach e) → HasOperand b a e o rest
primary_read needs d low = record { around = needs.around; low = low; selects = needs_primary needs.needs d (rw needs.around.depth at low) }

-- ---- the expression that is read

looser_positive : (ts : List Token) → 0 < looser_at ts
looser_positive ts = by_operator (operator_at ts)
  where
    by_operator : (found : Option (BinaryOperator × List Token)) → 0 < looseness found
    by_operator None = omega arith
    by_operator (Some found) = level_positive found.0

pub selectors_fail : {b : Base} {a : Around} {o : Span} {ts : List Token} {e : Expression} {f : Failure} → HasOperand b a e o ts → StuckSelectors e o a.depth ts f → Fails b f
selectors_fail has stuck = has.selects.fails (rw has.around.depth at stuck)

pub selectors_read : {b : Base} {a : Around} {o w : Span} {ts rest : List Token} {e whole : Expression} {looser : ℕ} → HasOperand b a e o ts → looser ≡ looser_at rest → SpellsSelectors e o ts whole w rest → IsLow a.depth (expression_reach whole) → HasTight b a looser whole w rest
selectors_read {rest} has at d low = record {
  around = has.around;
  low = low;
  tightness = 0;
  tight = rw at (looser_positive rest);
  within = omega arith;
  way = has.selects.selects d (rw has.around.depth at low);
}

-- ---- giving an expression to the form that waits last

record Steps (b : Base) (f : Frame) (p : List Frame) (e : Expression) : Type 0 where
  pub depth : depth_in b.depth (f ∷ p) ≡ suc (depth_in b.depth p)
  pub fits : Fits b.loosest b.depth p
  pub low : IsLow (depth_in b.depth p) (expression_reach e)

steps : {b : Base} {whole : Expression} (e : Expression) (o w : Span) (f : Frame) (p : List Frame) (looser : ℕ) → takes_before (f ∷ p) looser ≡ true → Fits b.loosest b.depth (f ∷ p) → IsLow (depth_in b.depth (f ∷ p)) (expression_reach e) → Applies f e o whole w → Steps b f p whole
steps e o w (InParens start) p looser takes fits low is = absurd cc
steps e o w (OperandOf operator start) p looser takes fits low is = record { depth = refl; fits = fits.1; low = rw is.0 (low_around _ _ (expression_reach e) fits.0 low) }
steps e o w (RightOf operator left outer) p looser takes fits low is = record {
  depth = refl;
  fits = fits.1.1;
  low = rw is.0 (low_around _ _ (expression_reach left beside expression_reach e) (omega (arith, fits.1.0)) (low_beside _ (expression_reach left) (expression_reach e) fits.1.0 low));
}

record GoesTight (b : Base) (p : List Frame) (looser : ℕ) (e : Expression) (o : Span) (ts : List Token) : Type 0 where
  pub tightness : ℕ
  pub tight : tightness < looser
  pub within : tightness ≤ limit b.loosest p
  pub way : GoesIn b p tightness e o ts

goes_tight : {b : Base} {n : ℕ} {o w : Span} {ts : List Token} {e whole : Expression} (f : Frame) (p : List Frame) (looser : ℕ) → takes_before (f ∷ p) looser ≡ true → Fits b.loosest b.depth (f ∷ p) → IsLow (depth_in b.depth (f ∷ p)) (expression_reach e)
    → looser ≡ looser_at ts → n < looser → n ≤ limit b.loosest (f ∷ p) → GoesIn b (f ∷ p) n e o ts → Applies f e o whole w → GoesTight b p looser whole w ts
goes_tight (InParens start) p looser takes fits low at tight within way is = absurd cc
goes_tight {b} (OperandOf operator start) p looser takes fits low at tight within way is = record {
  tightness = 0;
  tight = omega arith;
  within = omega arith;
  way = rw (is.0, is.1) (finished (OperandOf operator start ∷ p) way within (omega arith) low);
}
goes_tight {b} (RightOf operator left outer) p looser takes fits low at tight within way is =
    let binds : level operator ≤ looser = grind (arith, nat_tests) in
    record {
      tightness = level operator - 1;
      tight = omega (arith, level_positive operator);
      within = omega (arith, fits.0);
      way = rw (is.0, is.1) (finished (RightOf operator left outer ∷ p) way within (omega (arith, level_positive operator)) low);
    }

-- the same of what the parser keeps, before and after
pub reduces_around : {b : Base} {a a' : Around} (x : Pending) (looser : ℕ) (e whole : Expression) (o w : Span) → IsAround b a → IsLow a.depth (expression_reach e) → waiting a.pending.items ≡ frame x ∷ waiting a'.pending.items → takes_before (waiting a.pending.items) looser ≡ true
    → Applies (frame x) e o whole w → a'.depth ≡ a.depth - 1 → a'.loosest ≡ a.loosest → IsAround b a' × IsLow a'.depth (expression_reach whole)
reduces_around {b} {a} {a'} x looser e whole o w is_around low top takes is depth loosest =
    let fits : Fits b.loosest b.depth (frame x ∷ waiting a'.pending.items) = rw top at is_around.fits in
    let inside : IsLow (depth_in b.depth (frame x ∷ waiting a'.pending.items)) (expression_reach e) = rw (is_around.depth, top) at low in
    let step : Steps b (frame x) (waiting a'.pending.items) whole = steps e o w (frame x) (waiting a'.pending.items) looser (rw top at takes) fits inside is in
    let deep : a.depth ≡ depth_in b.depth (frame x ∷ waiting a'.pending.items) = rw top at is_around.depth in
    let same : a'.depth ≡ depth_in b.depth (waiting a'.pending.items) = omega (arith, step.depth) in
    (record { loosest = loosest ∙ is_around.loosest; depth = same; fits = step.fits }, rw same step.low)

pub reduces_tight : {b : Base} {a a' : Around} {ts : List Token} (x : Pending) (looser : ℕ) (e whole : Expression) (o w : Span) → looser ≡ looser_at ts → HasTight b a looser e o ts → waiting a.pending.items ≡ frame x ∷ waiting a'.pending.items
    → takes_before (waiting a.pending.items) looser ≡ true → Applies (frame x) e o whole w → a'.depth ≡ a.depth - 1 → a'.loosest ≡ a.loosest → HasTight b a' looser whole w ts
reduces_tight {b} {a} {a'} {ts} x looser e whole o w at has top takes is depth loosest =
    let now : IsAround b a' × IsLow a'.depth (expression_reach whole) = reduces_around x looser e whole o w has.around has.low top takes is depth loosest in
    let fits : Fits b.loosest b.depth (frame x ∷ waiting a'.pending.items) = rw top at has.around.fits in
    let inside : IsLow (depth_in b.depth (frame x ∷ waiting a'.pending.items)) (expression_reach e) = rw (has.around.depth, top) at has.low in
    let within : has.tightness ≤ limit b.loosest (frame x ∷ waiting a'.pending.items) = rw top at has.within in
    let way : GoesIn b (frame x ∷ waiting a'.pending.items) has.tightness e o ts = rw top at has.way in
    let goes : GoesTight b (waiting a'.pending.items) looser whole w ts = goes_tight (frame x) (waiting a'.pending.items) looser (rw top at takes) fits inside at has.tight within way is in
    record { around = now.0; low = now.1; tightness = goes.tightness; tight = goes.tight; within = goes.within; way = goes.way }

pub is_small : (loosest d : ℕ) (x : Pending) (p : List Frame) → Fits loosest d (frame x ∷ p) → IsSmall x
is_small loosest d (forms.Paren start) p fits = tt
is_small loosest d (forms.Unary operator start) p fits = tt
is_small loosest d (forms.Binary operator left) p fits = let height : left.reach.height ≡ (expression_reach (expression left.expr.value)).height = ap (λ (r : Reach). r.height) left.exact in omega (arith, fits.1.0)

-- ---- what the expression is for

pub right_waits : {b : Base} {a : Around} {o : Span} {ts us : List Token} {e : Expression} {operator : BinaryOperator} → HasTight b a (level operator) e o ts → operator_at ts ≡ Some (operator, us) → level operator ≤ limit a.loosest (waiting a.pending.items) → a.depth + (expression_reach e).height < 200
    → Needs b (RightOf operator e o ∷ waiting a.pending.items) us
right_waits has found within room = needs_right has.way found has.tight (rw has.around.loosest at within) (rw has.around.depth at room)

pub right_deep : {b : Base} {a : Around} {o : Span} {ts us : List Token} {e : Expression} {operator : BinaryOperator} → HasTight b a (level operator) e o ts → operator_at ts ≡ Some (operator, us) → level operator ≤ limit a.loosest (waiting a.pending.items) → 200 ≤ a.depth + (expression_reach e).height
    → Fails b (too_deep (expression_reach e).start)
right_deep has found within deep = right_too_deep _ _ has.way found has.tight (rw has.around.loosest at within) (rw has.around.depth at has.low) (rw has.around.depth at deep)

parens : (p : List Frame) (start : Span) → paren_start p ≡ Some start → (q : List Frame) × (p ≡ InParens start ∷ q)
parens [] start e = absurd (none-some _ e)
parens (InParens other ∷ q) start e = (q, ap (λ (x : Span). InParens x ∷ q) (same_Some _ _ e))
parens (OperandOf operator other ∷ q) start e = absurd (none-some _ e)
parens (RightOf operator left outer ∷ q) start e = absurd (none-some _ e)

closes : {b : Base} {a : Around} {start o : Span} {looser : ℕ} {ts : List Token} {e : Expression} {q : List Frame} → HasTight b a looser e o ts → looser ≡ looser_at ts → waiting a.pending.items ≡ InParens start ∷ q → 10 < looser
    → Closes (Completes b q) (Fails b) (depth_in b.depth q) (limit b.loosest q) start e ts
closes {b} {a} {start} {o} {looser} {ts} {e} {q} has at is none =
    let within : has.tightness ≤ limit b.loosest (InParens start ∷ q) = rw is at has.within in
    let way : GoesIn b (InParens start ∷ q) has.tightness e o ts = rw is at has.way in
    let low : IsLow (depth_in b.depth (InParens start ∷ q)) (expression_reach e) = rw (has.around.depth, is) at has.low in
    finished (InParens start ∷ q) way within (rw at at none) low

pub unclosed : {b : Base} {a : Around} {start o : Span} {looser : ℕ} {ts : List Token} {e : Expression} → HasTight b a looser e o ts → looser ≡ looser_at ts → paren_start (waiting a.pending.items) ≡ Some start → 10 < looser → next_is close_paren ts ≡ false → Fails b (unexpected ts)
unclosed {a} {start} has at is none next = let inside = parens (waiting a.pending.items) start is in (closes has at inside.1 none).unclosed next

pub closed_again : {b : Base} {a a' : Around} {start t outer o : Span} {looser : ℕ} {ts rest : List Token} (x y : Operand) → HasTight b a looser (expression x.expr.value) o ts → looser ≡ looser_at ts → paren_start (waiting a.pending.items) ≡ Some start → 10 < looser
    → ts ≡ token kinds.CloseParen t ∷ rest → outer ≡ join start t → IsUnwrapped a a' x outer y → HasOperand b a' (expression y.expr.value) y.outer rest
closed_again {b} {a} {a'} {start} {t} {outer} {o} {looser} {ts} {rest} x y has at is none closing span left =
    let inside = parens (waiting a.pending.items) start is in
    let q : List Frame = inside.0 in
    let now : waiting a'.pending.items ≡ q = left.left (InParens start) q inside.1 in
    let selects : Selects (Completes b q) (Fails b) (depth_in b.depth q) (limit b.loosest q) (expression x.expr.value) (join start t) rest = (closes has at inside.1 none).closed closing in
    let depth : a.depth ≡ depth_in b.depth (InParens start ∷ q) = rw inside.1 at has.around.depth in
    let fits : Fits b.loosest b.depth (InParens start ∷ q) = rw inside.1 at has.around.fits in
    record {
      around = record { loosest = left.loosest ∙ has.around.loosest; depth = rw (left.depth, now) depth; fits = rw now fits };
      low = rw (left.depth, left.same) has.low;
      selects = rw (now, left.same, left.outer_is, span) selects;
    }

pub some_wait : (ps : List Pending) (start : Span) → paren_start (waiting ps) ≡ Some start → 0 < length ps
some_wait [] start e = absurd (none-some _ e)
some_wait (x ∷ ps) start e = omega arith

ends_loose : (loosest looser : ℕ) (p : List Frame) → takes_before p looser ≡ false → looser ≤ 10 → limit loosest p < looser → p ≡ []
ends_loose loosest looser [] takes ten less = refl
ends_loose loosest looser (InParens start ∷ p) takes ten less = absurd (omega arith)
ends_loose loosest looser (OperandOf operator start ∷ p) takes ten less = absurd cc
ends_loose loosest looser (RightOf operator left outer ∷ p) takes ten less = let binds : level operator ≤ looser = omega arith in absurd (grind (arith, nat_tests))

ends_outside : (loosest looser : ℕ) (p : List Frame) → takes_before p looser ≡ false → paren_start p ≡ None → limit loosest p < looser → p ≡ []
ends_outside loosest looser [] takes none less = refl
ends_outside loosest looser (InParens start ∷ p) takes none less = absurd (none-some _ (sym none))
ends_outside loosest looser (OperandOf operator start ∷ p) takes none less = absurd cc
ends_outside loosest looser (RightOf operator left outer ∷ p) takes none less = let binds : level operator ≤ looser = omega arith in absurd (grind (arith, nat_tests))

pub whole_before : {b : Base} {a : Around} {o : Span} {looser : ℕ} {ts : List Token} {e : Expression} → HasTight b a looser e o ts → looser ≡ looser_at ts → takes_before (waiting a.pending.items) looser ≡ false → looser ≤ 10 → HasWhole b a e o ts
whole_before {b} {a} {o} {looser} {ts} {e} has at takes ten = record { read = subst (λ (n : ℕ). HasTight b a n e o ts) at has; ends = λ less. ends_loose b.loosest looser (waiting a.pending.items) takes ten (rw at less) }

pub whole_outside : {b : Base} {a : Around} {o : Span} {looser : ℕ} {ts : List Token} {e : Expression} → HasTight b a looser e o ts → looser ≡ looser_at ts → takes_before (waiting a.pending.items) looser ≡ false → paren_start (waiting a.pending.items) ≡ None → HasWhole b a e o ts
whole_outside {b} {a} {o} {looser} {ts} {e} has at takes none = record { read = subst (λ (n : ℕ). HasTight b a n e o ts) at has; ends = λ less. ends_outside b.loosest looser (waiting a.pending.items) takes none (rw at less) }

-- the whole expression, where no form waits
pub whole_read : {b : Base} {a : Around} {o : Span} {ts : List Token} {e : Expression} → HasWhole b a e o ts → (limit a.loosest (waiting a.pending.items) ≤ 10 → limit a.loosest (waiting a.pending.items) < looser_at ts) → SpellsBinary b.loosest b.tokens e o ts × IsLow b.depth (expression_reach e)
whole_read {b} {a} {o} {ts} {e} whole none =
    let ten : limit b.loosest (waiting a.pending.items) ≤ 10 = limit_ten b.loosest b.depth (waiting a.pending.items) whole.read.around.fits in
    let less : limit b.loosest (waiting a.pending.items) < looser_at ts = (rw whole.read.around.loosest at none) ten in
    let is = whole.ends less in
    let low : IsLow b.depth (expression_reach e) = rw (whole.read.around.depth, is) at whole.read.low in
    let way : GoesIn b [] whole.read.tightness e o ts = rw is at whole.read.way in
    let within : whole.read.tightness ≤ limit b.loosest [] = rw is at whole.read.within in
    let outside : limit b.loosest [] < looser_at ts = rw is at less in
    (finished [] way within outside low, low)

pub tight_before : {b : Base} {a : Around} {o : Span} {ts us : List Token} {e : Expression} {operator : BinaryOperator} → HasWhole b a e o ts → operator_at ts ≡ Some (operator, us) → HasTight b a (level operator) e o ts
tight_before {b} {a} {o} {ts} {us} {e} {operator} whole found = subst (λ (n : ℕ). HasTight b a n e o ts) (ap looseness found) whole.read

-- an expression without binary operators
pub unary_reads : (d : ℕ) (ts rest : List Token) (r : Result Operand Stuck) → Reads (λ x us. IsBinary 0 d ts (expression x.expr.value) x.outer us) (StuckBinary 0 d ts) r rest → Reads (λ x us. IsUnary d ts (expression x.expr.value) x.outer us) (StuckUnary d ts) r rest
unary_reads d ts rest (Ok found) read = (unary_spelled read.0, read.1)
unary_reads d ts rest (Err e) stuck = unary_stuck stuck
