-- What goes on with an expression so far: an index or a member, and an operator with its right operand.
use Rattle.std.proofs.Common.{◌≡◌, ◌<◌, ℕ, suc, length, nat_eq, Bool, true, false, List, [], ◌∷◌, Option, Some, None, refl, ap, subst, arith}
use Rattle.ckc_text.specs.declared.place.Span.{Span}
use Rattle.ckc_lexer.specs.declared.token.Token.{Token}
use Rattle.ckc_lexer.specs.declared.token.TokenKind.{TokenKind}
use Rattle.ckc_lexer.specs.declared.token.TokenKind.TheVariants as kinds
use Rattle.ckc_tree.specs.declared.expr.BinaryOperator.{BinaryOperator}
use Rattle.ckc_tree.specs.declared.expr.BinaryOperator.TheVariants.{Greater, ShiftRight}
use Rattle.ckc_tree.specs.Expressions as trees
use Rattle.ckc_tree.specs.Expressions.{Expression}
use Rattle.ckc_tree.specs.Heights.{Reach, nowhere, around, ◌beside◌, expression_reach}
use Rattle.ckc_parser_grammar.specs.Tokens.{token, join, identifier, operator_at, right_shift, greater_or_shift, level}
use Rattle.ckc_parser_grammar.specs.ExpressionGrammar.{SpellsBinary}
use Rattle.ckc_parser_grammar.specs.ExpressionBeginnings.{BeginsBinary}
use Rattle.ckc_parser_grammar.proofs.OneExpression.{found_same, binary_same, move_binary, behind, typed, after}
use Rattle.ckc_parser_grammar.proofs.ExpressionPaths.{Marks, mark, shift, marks_at}
use Rattle.ckc_parser_grammar.proofs.OneType.{first_span, rest_of}
use Rattle.ckc_parser_grammar.proofs.Forms.{◌ends◌, all, later, end_length, end_trans, ExactBelow, ExactValueBelow, move}

-- an expression, and the bytes that it stands on with the parentheses around it
abbrev pub Value : Type 0
Value = Expression × Span

abbrev pub reach : Value → Reach
reach v = expression_reach v.0

pub data BinaryS (n : ℕ) : List Token → List Token → Reach → Type 0 where
  binary : {e : Expression} {o : Span} {ts m : List Token} → SpellsBinary n ts e o m → BinaryS n ts m (expression_reach e)

-- ---- an index or a member

pub data Selected (v : Value) : Value → List Token → List Token → Type 0 where
  index : {i : Expression} {p s t : Span} {ts mid : List Token} → SpellsBinary 10 ts i p (token kinds.CloseBracket t ∷ mid) → Selected v (trees.Index v.0 i (join v.1 t), join v.1 t) (token kinds.OpenBracket s ∷ ts) mid
  dot : {x : List ℕ} {s t : Span} {mid : List Token} → Selected v (trees.Dot v.0 (identifier x t) (join v.1 t), join v.1 t) (token kinds.Dot s ∷ token (kinds.Name x) t ∷ mid) mid
  arrow : {x : List ℕ} {s t : Span} {mid : List Token} → Selected v (trees.Arrow v.0 (identifier x t) (join v.1 t), join v.1 t) (token kinds.Arrow s ∷ token (kinds.Name x) t ∷ mid) mid

pub data Selecting (v : Value) : List Token → List Token → Reach → Type 0 where
  unselected : {ts : List Token} → Selecting v ts ts (reach v)
  index : {s : Span} {ts rest : List Token} {r : Reach} → BeginsBinary 10 ts rest r → Selecting v (token kinds.OpenBracket s ∷ ts) rest (around v.1.from (reach v beside r))
  indexed : {i : Expression} {p s t : Span} {ts rest : List Token} → SpellsBinary 10 ts i p (token kinds.CloseBracket t ∷ rest) → Selecting v (token kinds.OpenBracket s ∷ ts) rest (around v.1.from (reach v beside expression_reach i))
  dot : {s : Span} {rest : List Token} → Selecting v (token kinds.Dot s ∷ rest) rest (around v.1.from (reach v))
  dotted : {x : List ℕ} {s t : Span} {rest : List Token} → Selecting v (token kinds.Dot s ∷ token (kinds.Name x) t ∷ rest) rest (around v.1.from (reach v))
  arrow : {s : Span} {rest : List Token} → Selecting v (token kinds.Arrow s ∷ rest) rest (around v.1.from (reach v))
  pointed : {x : List ℕ} {s t : Span} {rest : List Token} → Selecting v (token kinds.Arrow s ∷ token (kinds.Name x) t ∷ rest) rest (around v.1.from (reach v))

pub selected_below : {n : ℕ} {v : Value} → ExactBelow n nowhere (BinaryS 10) (BeginsBinary 10) → ExactValueBelow (suc n) (reach v) reach (Selected v) (Selecting v)
selected_below {n} {v} e = record { one = one; spelled = spelled; longest = longest; whole = whole; nothing = nothing; ended = ended; shrinks = shrinks }
  where
    inner : {ts mid : List Token} {i : Expression} {p : Span} → length ts < n → SpellsBinary 10 ts i p mid → mid ends ts
    inner less d = e.ended less (e.spelled less (binary d))

    one : {a b : Value} {ts m m' : List Token} → length ts < suc n → Selected v a ts m → Selected v b ts m' → ◌≡◌ {A = Value × List Token} (a, m) (b, m')
    one less (index d) (index d') = ap (λ (x : Expression × Span × List Token). ((trees.Index v.0 x.0 (join v.1 (first_span x.2)), join v.1 (first_span x.2)), rest_of x.2)) (binary_same d d')
    one less dot dot = refl
    one less arrow arrow = refl

    spelled : {a : Value} {ts m : List Token} → length ts < suc n → Selected v a ts m → Selecting v ts m (reach a)
    spelled less (index d) = indexed d
    spelled less dot = dotted
    spelled less arrow = pointed

    ended : {ts rest : List Token} {q : Reach} → length ts < suc n → Selecting v ts rest q → rest ends ts
    ended less unselected = all
    ended less (index c) = later (e.ended (omega (arith, less)) c)
    ended less (indexed d) = later (end_trans (later all) (inner (omega (arith, less)) d))
    ended less dot = later all
    ended less dotted = later (later all)
    ended less arrow = later all
    ended less pointed = later (later all)

    longest : {a : Value} {ts m rest : List Token} {q : Reach} → length ts < suc n → Selected v a ts m → Selecting v ts rest q → m ends rest
    longest less a unselected = ended less (spelled less a)
    longest less (index d) (index c) = end_trans (later all) (e.longest (omega (arith, less)) (binary d) c)
    longest less (index {mid} d) (indexed d') = subst (λ (x : List Token). mid ends x) (ap rest_of (behind (binary_same d d'))) all
    longest less dot dot = later all
    longest less dot dotted = all
    longest less arrow arrow = later all
    longest less arrow pointed = all

    whole : {a : Value} {ts m rest : List Token} {q : Reach} → length ts < suc n → Selected v a ts m → Selecting v ts rest q → rest ≡ m → q ≡ reach a
    whole less (index d) unselected is = absurd (omega (arith, end_length (inner (omega (arith, less)) d), ap length is))
    whole less (index d) (index c) is = absurd (omega (arith, end_length (e.longest (omega (arith, less)) (binary d) c), ap length is))
    whole less (index d) (indexed d') is = ap (λ (x : Expression × Span × List Token). around v.1.from (reach v beside expression_reach x.0)) (binary_same d' d)
    whole less dot unselected is = absurd (omega (arith, ap length is))
    whole less dot dot is = refl
    whole less dot dotted is = refl
    whole less arrow unselected is = absurd (omega (arith, ap length is))
    whole less arrow arrow is = refl
    whole less arrow pointed is = refl

    nothing : {ts rest : List Token} {q : Reach} → length ts < suc n → Selecting v ts rest q → rest ≡ ts → q ≡ reach v
    nothing less unselected is = refl
    nothing less (index c) is = absurd (omega (arith, end_length (e.ended (omega (arith, less)) c), ap length is))
    nothing less (indexed d) is = absurd (omega (arith, end_length (inner (omega (arith, less)) d), ap length is))
    nothing less dot is = absurd (omega (arith, ap length is))
    nothing less dotted is = absurd (omega (arith, ap length is))
    nothing less arrow is = absurd (omega (arith, ap length is))
    nothing less pointed is = absurd (omega (arith, ap length is))

    shrinks : {a : Value} {ts m : List Token} → length ts < suc n → Selected v a ts m → length m < length ts
    shrinks less (index d) = omega (arith, end_length (inner (omega (arith, less)) d))
    shrinks less dot = omega arith
    shrinks less arrow = omega arith

-- ---- an operator with its right operand

pub data Operated (n : ℕ) (v : Value) : Value → List Token → List Token → Type 0 where
  operated : {w : BinaryOperator} {e : Expression} {p : Span} {ts us mid : List Token} → operator_at ts ≡ Some (w, us) → level w ≡ suc n → SpellsBinary n us e p mid → Operated n v (trees.Binary w v.0 e (join v.1 p), join v.1 p) ts mid

pub data Operating (n : ℕ) (v : Value) : List Token → List Token → Reach → Type 0 where
  alone : {ts : List Token} → Operating n v ts ts (reach v)
  half : {s : Span} {us rest : List Token} → operator_at (token kinds.Greater s ∷ rest) ≡ Some (ShiftRight, us) → level ShiftRight ≡ suc n → Operating n v (token kinds.Greater s ∷ rest) rest (around v.1.from (reach v))
  right : {w : BinaryOperator} {ts us rest : List Token} {r : Reach} → operator_at ts ≡ Some (w, us) → level w ≡ suc n → BeginsBinary n us rest r → Operating n v ts rest (around v.1.from (reach v beside r))

pub operator_ends : {w : BinaryOperator} {ts us : List Token} → Marks ts w us → us ends ts
operator_ends mark = later all
operator_ends shift = later (later all)

pub operator_shrinks : {w : BinaryOperator} {ts us : List Token} → Marks ts w us → length us < length ts
operator_shrinks mark = omega arith
operator_shrinks shift = omega arith

-- what stands behind an operator that is found
abbrev rest_found : Option (BinaryOperator × List Token) → List Token
rest_found None = []
rest_found (Some found) = found.1

pub behind_half : {w : BinaryOperator} {t : Token} {rest us : List Token} → Marks (t ∷ rest) w us → us ends rest
behind_half mark = all
behind_half shift = later all

abbrev operator_found : Option (BinaryOperator × List Token) → BinaryOperator
operator_found None = ShiftRight
operator_found (Some found) = found.0

no_shift : {ts us : List Token} {A : Type 0} → ◌≡◌ {A = Option (BinaryOperator × List Token)} (Some (Greater, ts)) (Some (ShiftRight, us)) → A
no_shift found = let same : Greater ≡ ShiftRight = ap operator_found found in absurd cc

-- both marks of a right shift are read
touch_shrinks : (b : Bool) (t : Token) (ts us : List Token) → right_shift b (t ∷ ts) ts ≡ Some (ShiftRight, us) → length us < length (t ∷ ts)
touch_shrinks true t ts us found =
    let same : ts ≡ us = ap rest_found found in
    omega (arith, ap length same)
touch_shrinks false t ts us found = no_shift found

next_shrinks : (k : TokenKind) (to from : ℕ) (t : Token) (ts us : List Token) → greater_or_shift to (t ∷ ts) ts k from ≡ Some (ShiftRight, us) → length us < length (t ∷ ts)
next_shrinks kinds.Greater to from t ts us found = touch_shrinks (nat_eq to from) t ts us found
next_shrinks _ to from t ts us found = no_shift found

half_shrinks : (s : Span) (rest us : List Token) → operator_at (token kinds.Greater s ∷ rest) ≡ Some (ShiftRight, us) → length us < length rest
half_shrinks s [] us found = no_shift found
half_shrinks s (t ∷ ts) us found = next_shrinks t.kind s.to t.span.from t ts us found

pub operated_below : {m n : ℕ} {v : Value} → ExactBelow m nowhere (BinaryS n) (BeginsBinary n) → ExactValueBelow (suc m) (reach v) reach (Operated n v) (Operating n v)
operated_below {m} {n} {v} e = record { one = one; spelled = spelled; longest = longest; whole = whole; nothing = nothing; ended = ended; shrinks = shrinks }
  where
    short : {w : BinaryOperator} (ts : List Token) {us : List Token} → length ts < suc m → operator_at ts ≡ Some (w, us) → length us < m
    short ts less found = omega (arith, less, operator_shrinks (marks_at ts found))

    inner : {us mid : List Token} {i : Expression} {p : Span} → length us < m → SpellsBinary n us i p mid → mid ends us
    inner less d = e.ended less (e.spelled less (binary d))

    one_from : {w w' : BinaryOperator} {us us' mid mid' : List Token} {i i' : Expression} {p p' : Span} → ◌≡◌ {A = BinaryOperator × List Token} (w, us) (w', us') → SpellsBinary n us i p mid → SpellsBinary n us' i' p' mid'
        → ◌≡◌ {A = Value × List Token} ((trees.Binary w v.0 i (join v.1 p), join v.1 p), mid) ((trees.Binary w' v.0 i' (join v.1 p'), join v.1 p'), mid')
    one_from {w'} found d d' =
        let same = binary_same d (move_binary (after found) d') in
        rw (typed found) (ap (λ (x : Expression × Span × List Token). ((trees.Binary w' v.0 x.0 (join v.1 x.1), join v.1 x.1), x.2)) same)

    one : {a b : Value} {ts k k' : List Token} → length ts < suc m → Operated n v a ts k → Operated n v b ts k' → ◌≡◌ {A = Value × List Token} (a, k) (b, k')
    one {ts} less (operated f l d) (operated f' l' d') = one_from (found_same ts f f') d d'

    spelled : {a : Value} {ts k : List Token} → length ts < suc m → Operated n v a ts k → Operating n v ts k (reach a)
    spelled less (operated f l d) = right f l (e.spelled (short _ less f) (binary d))

    ended : {ts rest : List Token} {q : Reach} → length ts < suc m → Operating n v ts rest q → rest ends ts
    ended less alone = all
    ended less (half f l) = later all
    ended less (right {ts} f l c) = end_trans (e.ended (short _ less f) c) (operator_ends (marks_at ts f))

    longest_half : {w : BinaryOperator} (t : Token) {us mid : List Token} (rest : List Token) {i : Expression} {p : Span} → length us < m → operator_at (t ∷ rest) ≡ Some (w, us) → SpellsBinary n us i p mid → mid ends rest
    longest_half t rest less f d = end_trans (inner less d) (behind_half (marks_at (t ∷ rest) f))

    longest : {a : Value} {ts k rest : List Token} {q : Reach} → length ts < suc m → Operated n v a ts k → Operating n v ts rest q → k ends rest
    longest less a alone = ended less (spelled less a)
    longest {rest} less (operated f l d) (half {s} f' l') = longest_half (token kinds.Greater s) rest (short (token kinds.Greater s ∷ rest) less f) f d
    longest {ts} less (operated f l d) (right f' l' c) = e.longest (short ts less f) (binary d) (move (BeginsBinary n) (after (found_same ts f f')) c)

    whole : {a : Value} {ts k rest : List Token} {q : Reach} → length ts < suc m → Operated n v a ts k → Operating n v ts rest q → rest ≡ k → q ≡ reach a
    whole {ts} less (operated f l d) alone is = absurd (omega (arith, end_length (inner (short ts less f) d), operator_shrinks (marks_at ts f), ap length is))
    whole {rest} less (operated f l d) (half {s} f' l') is =
        let same = after (found_same (token kinds.Greater s ∷ rest) f f') in
        absurd (omega (arith, end_length (inner (short (token kinds.Greater s ∷ rest) less f) d), half_shrinks s rest _ f', ap length same, ap length is))
    whole {ts} less (operated f l d) (right f' l' c) is =
        ap (λ (x : Reach). around v.1.from (reach v beside x)) (e.whole (short ts less f) (binary d) (move (BeginsBinary n) (after (found_same ts f f')) c) is)

    nothing : {ts rest : List Token} {q : Reach} → length ts < suc m → Operating n v ts rest q → rest ≡ ts → q ≡ reach v
    nothing less alone is = refl
    nothing less (half f l) is = absurd (omega (arith, ap length is))
    nothing less (right {ts} f l c) is = absurd (omega (arith, end_length (e.ended (short ts less f) c), operator_shrinks (marks_at ts f), ap length is))

    shrinks : {a : Value} {ts k : List Token} → length ts < suc m → Operated n v a ts k → length k < length ts
    shrinks {ts} less (operated f l d) = omega (arith, end_length (inner (short ts less f) d), operator_shrinks (marks_at ts f))
