-- Expressions and bounds as forms that are built of others: reading them goes one way.
use Rattle.std.proofs.Common.{◌≡◌, ◌≤◌, ◌<◌, ℕ, zero, suc, length, Bool, true, false, List, [], ◌∷◌, Some, refl, ap, arith, sym, true≢false}
use Rattle.std.specs.Option.{is_some}
use Rattle.std.proofs.lemmas.Bool.{eq-eqb}
use Rattle.ckc_text.specs.declared.place.Span.{Span}
use Rattle.ckc_lexer.specs.declared.token.Token.{Token}
use Rattle.ckc_lexer.specs.declared.token.TokenKind.{TokenKind}
use Rattle.ckc_lexer.specs.declared.token.TokenKind.TheVariants as kinds
use Rattle.ckc_tree.specs.declared.expr.UnaryOperator.{UnaryOperator}
use Rattle.ckc_tree.specs.declared.expr.BinaryOperator.{BinaryOperator}
use Rattle.ckc_tree.specs.Expressions as trees
use Rattle.ckc_tree.specs.Expressions.{Expression}
use Rattle.ckc_tree.specs.Heights.{Reach, nowhere, around, ◌beside◌, type_reach, expression_reach, expressions_reach, bounds_reach}
use Rattle.ckc_parser_grammar.specs.Tokens as words
use Rattle.ckc_parser_grammar.specs.Tokens.{token, next_is, comma, selector, operator_at, level, has_operator, unary_operator_of}
use Rattle.ckc_parser_grammar.specs.ExpressionGrammar as g
use Rattle.ckc_parser_grammar.specs.ExpressionGrammar.{SpellsBinary, SpellsTail, SpellsUnary, SpellsSelectors, SpellsPrimary}
use Rattle.ckc_parser_grammar.specs.ExpressionBeginnings as b
use Rattle.ckc_parser_grammar.specs.ExpressionBeginnings.{BeginsBinary, BeginsTail, BeginsUnary, BeginsSelectors, BeginsPrimary, BeginsArguments, BeginsBounds}
use Rattle.ckc_parser_grammar.specs.StuckExpressions.{close_paren}
use Rattle.ckc_parser_grammar.proofs.Heads.{class, class_at, primary_class, cast_class, malloc_class, calloc_class, class_low, unary_class, starts}
use Rattle.ckc_parser_grammar.proofs.OneExpression.{binary_same, unary_same, primary_same}
use Rattle.ckc_parser_grammar.proofs.Paths.{around_height}
use Rattle.ckc_parser_grammar.proofs.Whole.{binary_begins, unary_begins, selectors_begin}
use Rattle.ckc_parser_grammar.proofs.ExpressionPaths.{no_binary}
use Rattle.ckc_parser_grammar.proofs.Forms.{◌ends◌, all, later, end_length, Is, it, ExactBelow, Exact, exact_on_all, none_below, ExactValueBelow, ExactValue, value_on_all, within, SeqS, SeqB, seq, in_first, in_second, seq_exact, AfterS, AfterB, not_yet, after, after_exact, NodeS, node_exact, DoneS, done, done_exact, EitherS, yes, no, either_exact, ChainS, ChainB, chain, in_link, behind_link, chain_exact, HeadS, HeadB, none_yet, headed, head_exact, OneHead, same_exact, StaysS, stays, stays_exact}
use Rattle.ckc_parser_grammar.proofs.Forms as forms
use Rattle.ckc_parser_grammar.proofs.ExpressionLinks as links
use Rattle.ckc_parser_grammar.proofs.ExpressionLinks.{Value, reach, BinaryS, binary, Selected, Selecting, selected_below, Operated, operated, Operating, operated_below}
use Rattle.ckc_parser_grammar.proofs.PrimaryForms as primaries
use Rattle.ckc_parser_grammar.proofs.PrimaryForms.{PrimaryS, primary, ArgumentsS, arguments, MoreS, MoreB, nothing_more, BoundsS, more_begin, arguments_begin, with_nothing}
use Rattle.ckc_parser_grammar.proofs.BuiltBounds.{bounds_below}
use Rattle.ckc_parser_grammar.proofs.OneMeaning.{some_word}

pub data UnaryS : List Token → List Token → Reach → Type 0 where
  unary : {e : Expression} {o : Span} {ts m : List Token} → SpellsUnary ts e o m → UnaryS ts m (expression_reach e)

-- ---- values

pub data PrimaryValue : Value → List Token → List Token → Type 0 where
  of_primary : {e : Expression} {o : Span} {ts m : List Token} → SpellsPrimary ts e o m → PrimaryValue (e, o) ts m

pub data BinaryValue (n : ℕ) : Value → List Token → List Token → Type 0 where
  of_binary : {e : Expression} {o : Span} {ts m : List Token} → SpellsBinary n ts e o m → BinaryValue n (e, o) ts m

pub data UnaryValue : Value → List Token → List Token → Type 0 where
  of_unary : {e : Expression} {o : Span} {ts m : List Token} → SpellsUnary ts e o m → UnaryValue (e, o) ts m

around_some : (start : ℕ) (r : Reach) → 1 ≤ (around start r).height
around_some start r = omega (arith, around_height start r)

-- an expression is a node
pub some_node : (e : Expression) → 1 ≤ (expression_reach e).height
some_node (trees.Number v s) = omega arith
some_node (trees.Character v s) = omega arith
some_node (trees.Text v s) = omega arith
some_node (trees.Name x) = omega arith
some_node (trees.Call f es s) = around_some s.from (expressions_reach es)
some_node (trees.SizeOf t s) = around_some s.from (type_reach t.base)
some_node (trees.Cast w t e s) = around_some s.from (type_reach t.base beside expression_reach e)
some_node (trees.BoundedCast w t e x s) = around_some s.from (type_reach t.base beside expression_reach e beside bounds_reach x)
some_node (trees.Malloc w t e s) = around_some s.from (type_reach t.base beside expression_reach e)
some_node (trees.Calloc w t e i s) = around_some s.from (type_reach t.base beside expression_reach e beside expression_reach i)
some_node (trees.Index e i s) = around_some s.from (expression_reach e beside expression_reach i)
some_node (trees.Dot e x s) = around_some s.from (expression_reach e)
some_node (trees.Arrow e x s) = around_some s.from (expression_reach e)
some_node (trees.Unary w e s) = around_some s.from (expression_reach e)
some_node (trees.Binary w e i s) = around_some s.from (expression_reach e beside expression_reach i)

-- expressions are values where their spellings are one and exact
value_below : {n : ℕ} {S : Value → List Token → List Token → Type 0} {X B : List Token → List Token → Reach → Type 0} → ExactBelow n nowhere X B
    → ((v : Value) (ts m : List Token) → S v ts m → X ts m (reach v)) → ((v w : Value) (ts m m' : List Token) → S v ts m → S w ts m' → ◌≡◌ {A = Value × List Token} (v, m) (w, m')) → ExactValueBelow n nowhere reach S B
value_below {n} {S} {X} {B} e to only = record { one = λ less a a'. only _ _ _ _ _ a a'; spelled = λ less a. e.spelled less (to _ _ _ a); longest = λ less a c. e.longest less (to _ _ _ a) c; whole = λ less a c same. e.whole less (to _ _ _ a) c same; nothing = λ less c. e.nothing less c; ended = λ less c. e.ended less c; shrinks = shrinks }
  where
    by_end : (v : Value) {ts m : List Token} → m ends ts → (m ≡ ts → reach v ≡ nowhere) → length m < length ts
    by_end v all none = absurd (omega (arith, some_node v.0, ap (λ (x : Reach). x.height) (none refl)))
    by_end v (later end) none = omega (arith, end_length end)

    shrinks : {v : Value} {ts m : List Token} → length ts < n → S v ts m → length m < length ts
    shrinks {v} {ts} {m} less a = let begun = e.spelled less (to v ts m a) in by_end v (e.ended less begun) (e.nothing less begun)

pair_of : {e e' : Expression} {o o' : Span} {m m' : List Token} → ◌≡◌ {A = Expression × Span × List Token} (e, o, m) (e', o', m') → ◌≡◌ {A = Value × List Token} ((e, o), m) ((e', o'), m')
pair_of same = ap (λ (x : Expression × Span × List Token). ((x.0, x.1), x.2)) same

primary_value : {n : ℕ} → ExactBelow n nowhere PrimaryS BeginsPrimary → ExactValueBelow n nowhere reach PrimaryValue BeginsPrimary
primary_value e = value_below e to only
  where
    to : (v : Value) (ts m : List Token) → PrimaryValue v ts m → PrimaryS ts m (reach v)
    to v ts m (of_primary d) = primary d

    only : (v w : Value) (ts m m' : List Token) → PrimaryValue v ts m → PrimaryValue w ts m' → ◌≡◌ {A = Value × List Token} (v, m) (w, m')
    only v w ts m m' (of_primary d) (of_primary d') = pair_of (primary_same d d')

binary_value : {n k : ℕ} → ExactBelow n nowhere (BinaryS k) (BeginsBinary k) → ExactValueBelow n nowhere reach (BinaryValue k) (BeginsBinary k)
binary_value {k} e = value_below e to only
  where
    to : (v : Value) (ts m : List Token) → BinaryValue k v ts m → BinaryS k ts m (reach v)
    to v ts m (of_binary d) = binary d

    only : (v w : Value) (ts m m' : List Token) → BinaryValue k v ts m → BinaryValue k w ts m' → ◌≡◌ {A = Value × List Token} (v, m) (w, m')
    only v w ts m m' (of_binary d) (of_binary d') = pair_of (binary_same d d')

unary_value : {n : ℕ} → ExactBelow n nowhere UnaryS BeginsUnary → ExactValueBelow n nowhere reach UnaryValue BeginsUnary
unary_value e = value_below e to only
  where
    to : (v : Value) (ts m : List Token) → UnaryValue v ts m → UnaryS ts m (reach v)
    to v ts m (of_unary d) = unary d

    only : (v w : Value) (ts m m' : List Token) → UnaryValue v ts m → UnaryValue w ts m' → ◌≡◌ {A = Value × List Token} (v, m) (w, m')
    only v w ts m m' (of_unary d) (of_unary d') = pair_of (unary_same d d')

-- ---- arguments

abbrev pub NextArgumentS : List Token → List Token → Reach → Type 0
NextArgumentS = EitherS (next_is comma) (AfterS (Is kinds.Comma) (SeqS (BinaryS 10) MoreS)) (AfterS (Is kinds.CloseParen) DoneS)

abbrev pub NextArgumentB : List Token → List Token → Reach → Type 0
NextArgumentB = EitherS (next_is comma) (AfterB (Is kinds.Comma) (SeqB (BinaryS 10) (BeginsBinary 10) MoreB)) (AfterB (Is kinds.CloseParen) DoneS)

pub more_to : (ts m : List Token) (r : Reach) → MoreS ts m r → NextArgumentS ts m r
more_to ts m r (primaries.more g.no_other) = no refl (after it done)
more_to ts m r (primaries.more (g.other d l)) = yes refl (after it (seq (binary d) (primaries.more l)))

more_begins : (ts m : List Token) (r : Reach) → MoreS ts m r → MoreB ts m r
more_begins ts m r (primaries.more l) = primaries.more (more_begin l)

pub more_into : (ts rest : List Token) (q : Reach) → MoreB ts rest q → NextArgumentB ts rest q
more_into ts rest q nothing_more = by_test (next_is comma ts) refl
  where
    by_test : (so : Bool) → next_is comma ts ≡ so → NextArgumentB ts ts nowhere
    by_test true so = yes so not_yet
    by_test false so = no so not_yet
more_into ts rest q (primaries.more b.no_other) = no refl (after it done)
more_into ts rest q (primaries.more (b.other c)) = yes refl (after it (in_first c))
more_into ts rest q (primaries.more (b.still_others d c)) = yes refl (after it (in_second (binary d) (primaries.more c)))

pub more_from : (ts rest : List Token) (q : Reach) → NextArgumentB ts rest q → MoreB ts rest q
more_from ts rest q (yes f not_yet) = nothing_more
more_from ts rest q (yes f (after it (in_first c))) = primaries.more (b.other c)
more_from ts rest q (yes f (after {s} it (in_second (binary {e} d) nothing_more))) = with_nothing (λ x. MoreB ts rest x) (expression_reach e) (primaries.more (b.other (binary_begins d)))
more_from ts rest q (yes f (after it (in_second (binary d) (primaries.more c)))) = primaries.more (b.still_others d c)
more_from ts rest q (no f not_yet) = nothing_more
more_from ts rest q (no f (after it done)) = primaries.more b.no_other

abbrev pub ArgumentListS : List Token → List Token → Reach → Type 0
ArgumentListS = EitherS (next_is close_paren) (AfterS (Is kinds.CloseParen) DoneS) (SeqS (BinaryS 10) MoreS)

abbrev pub ArgumentListB : List Token → List Token → Reach → Type 0
ArgumentListB = EitherS (next_is close_paren) (AfterB (Is kinds.CloseParen) DoneS) (SeqB (BinaryS 10) (BeginsBinary 10) MoreB)

-- a token that starts no expression begins one with nothing read
pub class_some : {k : TokenKind} {h : primaries.Head} → primaries.IsHead k h → (1 ≤ class k) × (class k ≤ 9)
class_some primaries.number = (omega arith, omega arith)
class_some primaries.character = (omega arith, omega arith)
class_some primaries.text = (omega arith, omega arith)
class_some primaries.name = (omega arith, omega arith)
class_some primaries.paren = (omega arith, omega arith)
class_some primaries.sizeof = (omega arith, omega arith)
class_some (primaries.cast {k} w) = (omega (arith, cast_class k w), omega (arith, cast_class k w))
class_some (primaries.malloc {k} w) = (omega (arith, malloc_class k w), omega (arith, malloc_class k w))
class_some (primaries.calloc {k} w) = (omega (arith, calloc_class k w), omega (arith, calloc_class k w))

pub data Untouched (ts : List Token) : List Token → Reach → Type 0 where
  untouched : Untouched ts ts nowhere

primary_untouched : {ts rest : List Token} {q : Reach} → HeadB primaries.IsHead primaries.BehindB ts rest q → class_at ts ≡ 0 → Untouched ts rest q
primary_untouched none_yet none = untouched
primary_untouched (headed i c) none = absurd (omega (arith, none, (class_some i).0))

unary_untouched : {ts rest : List Token} {q : Reach} → BeginsUnary ts rest q → class_at ts ≡ 0 → Untouched ts rest q
unary_untouched (b.operator {k} w c) none = absurd (omega (arith, none, unary_class k w))
unary_untouched (b.primary c) none = primary_untouched (primaries.into_b _ _ _ c) none
unary_untouched (b.selectors p c) none = absurd (omega (arith, none, primary_class p, (class_low p).0))

pub binary_untouched : {n : ℕ} {ts rest : List Token} {q : Reach} → BeginsBinary n ts rest q → class_at ts ≡ 0 → Untouched ts rest q
binary_untouched (b.operand c) none = unary_untouched c none
binary_untouched (b.first c) none = binary_untouched c none
binary_untouched (b.operators d c) none = absurd (omega (arith, none, starts d))

no_class : (ts : List Token) → next_is close_paren ts ≡ true → class_at ts ≡ 0
no_class [] so = absurd cc
no_class (t ∷ ts) so = by_kind t.kind so
  where
    by_kind : (k : TokenKind) → close_paren k ≡ true → class k ≡ 0
    by_kind kinds.CloseParen so = refl
    by_kind _ so = absurd (true≢false (sym so))

pub no_paren : {n : ℕ} {ts m : List Token} {e : Expression} {o : Span} → SpellsBinary n ts e o m → next_is close_paren ts ≡ false
no_paren {ts} d = by_test (next_is close_paren ts) refl
  where
    by_test : (so : Bool) → next_is close_paren ts ≡ so → next_is close_paren ts ≡ false
    by_test true so = absurd (omega (arith, starts d, no_class ts so))
    by_test false so = so

pub arguments_to : (ts m : List Token) (r : Reach) → ArgumentsS ts m r → ArgumentListS ts m r
arguments_to ts m r (arguments g.no_argument) = yes refl (after it done)
arguments_to ts m r (arguments (g.argument d l)) = no (no_paren d) (seq (binary d) (primaries.more l))

arguments_begins : (ts m : List Token) (r : Reach) → ArgumentsS ts m r → BeginsArguments ts m r
arguments_begins ts m r (arguments l) = arguments_begin l

pub arguments_into : (ts rest : List Token) (q : Reach) → BeginsArguments ts rest q → ArgumentListB ts rest q
arguments_into ts rest q (b.argument c) = by_test (next_is close_paren ts) refl
  where
    at_paren : {us : List Token} {p : Reach} → Untouched ts us p → next_is close_paren ts ≡ true → ArgumentListB ts us p
    at_paren untouched so = yes so not_yet

    by_test : (so : Bool) → next_is close_paren ts ≡ so → ArgumentListB ts rest q
    by_test true so = at_paren (binary_untouched c (no_class ts so)) so
    by_test false so = no so (in_first c)
arguments_into ts rest q b.no_argument = yes refl (after it done)
arguments_into ts rest q (b.others d c) = no (no_paren d) (in_second (binary d) (primaries.more c))

pub arguments_from : (ts rest : List Token) (q : Reach) → ArgumentListB ts rest q → BeginsArguments ts rest q
arguments_from ts rest q (yes f not_yet) = b.argument (no_binary 10)
arguments_from ts rest q (yes f (after it done)) = b.no_argument
arguments_from ts rest q (no f (in_first c)) = b.argument c
arguments_from ts rest q (no f (in_second (binary {e} d) nothing_more)) = with_nothing (λ x. BeginsArguments ts rest x) (expression_reach e) (b.argument (binary_begins d))
arguments_from ts rest q (no f (in_second (binary d) (primaries.more c))) = b.others d c

-- ---- selectors

pub data SelectorsS (v : Value) : List Token → List Token → Reach → Type 0 where
  selectors : {e : Expression} {o : Span} {ts m : List Token} → SpellsSelectors v.0 v.1 ts e o m → SelectorsS v ts m (expression_reach e)

abbrev pub SelectorsB : Value → List Token → List Token → Reach → Type 0
SelectorsB v = BeginsSelectors v.0 v.1

abbrev pub SelectS : Value → List Token → List Token → Reach → Type 0
SelectS v = EitherS (next_is selector) (ChainS (Selected v) SelectorsS) (StaysS (reach v))

abbrev pub SelectB : Value → List Token → List Token → Reach → Type 0
SelectB v = EitherS (next_is selector) (ChainB (Selected v) (Selecting v) SelectorsB) (StaysS (reach v))

pub select_to : (v : Value) (ts m : List Token) (r : Reach) → SelectorsS v ts m r → SelectS v ts m r
select_to v ts m r (selectors (g.unselected f)) = no f stays
select_to v ts m r (selectors (g.index d s)) = yes refl (chain (links.index d) (selectors s))
select_to v ts m r (selectors (g.dot s)) = yes refl (chain links.dot (selectors s))
select_to v ts m r (selectors (g.arrow s)) = yes refl (chain links.arrow (selectors s))

select_begins : (v : Value) (ts m : List Token) (r : Reach) → SelectorsS v ts m r → SelectorsB v ts m r
select_begins v ts m r (selectors s) = selectors_begin s

pub select_into : (v : Value) (ts rest : List Token) (q : Reach) → SelectorsB v ts rest q → SelectB v ts rest q
select_into v ts rest q b.unselected = by_test (next_is selector ts) refl
  where
    by_test : (so : Bool) → next_is selector ts ≡ so → SelectB v ts ts (reach v)
    by_test true so = yes so (in_link links.unselected)
    by_test false so = no so stays
select_into v ts rest q (b.index c) = yes refl (in_link (links.index c))
select_into v ts rest q (b.indexed d c) = yes refl (behind_link (links.index d) c)
select_into v ts rest q b.dot = yes refl (in_link links.dot)
select_into v ts rest q (b.dotted c) = yes refl (behind_link links.dot c)
select_into v ts rest q b.arrow = yes refl (in_link links.arrow)
select_into v ts rest q (b.pointed c) = yes refl (behind_link links.arrow c)

pub select_from : (v : Value) (ts rest : List Token) (q : Reach) → SelectB v ts rest q → SelectorsB v ts rest q
select_from v ts rest q (yes f (in_link links.unselected)) = b.unselected
select_from v ts rest q (yes f (in_link (links.index c))) = b.index c
select_from v ts rest q (yes f (in_link (links.indexed d))) = b.indexed d b.unselected
select_from v ts rest q (yes f (in_link links.dot)) = b.dot
select_from v ts rest q (yes f (in_link links.dotted)) = b.dotted b.unselected
select_from v ts rest q (yes f (in_link links.arrow)) = b.arrow
select_from v ts rest q (yes f (in_link links.pointed)) = b.pointed b.unselected
select_from v ts rest q (yes f (behind_link (links.index d) c)) = b.indexed d c
select_from v ts rest q (yes f (behind_link links.dot c)) = b.dotted c
select_from v ts rest q (yes f (behind_link links.arrow c)) = b.pointed c
select_from v ts rest q (no f stays) = b.unselected

-- ---- operators of a level

pub data TailS (n : ℕ) (v : Value) : List Token → List Token → Reach → Type 0 where
  tail : {e : Expression} {o : Span} {ts m : List Token} → SpellsTail n v.0 v.1 ts e o m → TailS n v ts m (expression_reach e)

pub data TailB (n : ℕ) (v : Value) : List Token → List Token → Reach → Type 0 where
  no_tail : {ts : List Token} → TailB n v ts ts (reach v)
  tail : {ts rest : List Token} {q : Reach} → BeginsTail n v.0 v.1 ts rest q → TailB n v ts rest q

abbrev pub OperatorsS : ℕ → Value → List Token → List Token → Reach → Type 0
OperatorsS n v = EitherS (has_operator (suc n)) (ChainS (Operated n v) (TailS n)) (StaysS (reach v))

abbrev pub OperatorsB : ℕ → Value → List Token → List Token → Reach → Type 0
OperatorsB n v = EitherS (has_operator (suc n)) (ChainB (Operated n v) (Operating n v) (TailB n)) (StaysS (reach v))

pub has : {n : ℕ} (ts : List Token) {us : List Token} {w : BinaryOperator} → operator_at ts ≡ Some (w, us) → level w ≡ suc n → has_operator (suc n) ts ≡ true
has {n} ts {w} found same = rw found (eq-eqb (level w) (suc n) same)

pub tail_to : (n : ℕ) (v : Value) (ts m : List Token) (r : Reach) → TailS n v ts m r → OperatorsS n v ts m r
tail_to n v ts m r (tail (g.level_done f)) = no f stays
tail_to n v ts m r (tail (g.level_more f l d t)) = yes (has ts f l) (chain (operated f l d) (tail t))

pub tail_into : (n : ℕ) (v : Value) (ts rest : List Token) (q : Reach) → TailB n v ts rest q → OperatorsB n v ts rest q
tail_into n v ts rest q no_tail = by_test (has_operator (suc n) ts) refl
  where
    by_test : (so : Bool) → has_operator (suc n) ts ≡ so → OperatorsB n v ts ts (reach v)
    by_test true so = yes so (in_link links.alone)
    by_test false so = no so stays
tail_into n v ts rest q (tail (b.right f l c)) = yes (has ts f l) (in_link (links.right f l c))
tail_into n v ts rest q (tail (b.half {s} f l)) = yes (has (token kinds.Greater s ∷ rest) f l) (in_link (links.half f l))
tail_into n v ts rest q (tail (b.further f l d c)) = yes (has ts f l) (behind_link (operated f l d) (tail c))

-- an operator with its right operand, and a beginning of what goes on with both
further_tail : (n : ℕ) (v : Value) (ts : List Token) {w : BinaryOperator} {us mid rest : List Token} {e : Expression} {p : Span} {q : Reach} → operator_at ts ≡ Some (w, us) → level w ≡ suc n → SpellsBinary n us e p mid → TailB n (trees.Binary w v.0 e (words.join v.1 p), words.join v.1 p) mid rest q → TailB n v ts rest q
further_tail n v ts f l d no_tail = tail (b.right f l (binary_begins d))
further_tail n v ts f l d (tail c) = tail (b.further f l d c)

pub tail_from : (n : ℕ) (v : Value) (ts rest : List Token) (q : Reach) → OperatorsB n v ts rest q → TailB n v ts rest q
tail_from n v ts rest q (yes h (in_link links.alone)) = no_tail
tail_from n v ts rest q (yes h (in_link (links.half f l))) = tail (b.half f l)
tail_from n v ts rest q (yes h (in_link (links.right f l c))) = tail (b.right f l c)
tail_from n v ts rest q (yes h (behind_link (operated f l d) c)) = further_tail n v ts f l d c
tail_from n v ts rest q (no h stays) = no_tail

tail_begin : {n : ℕ} (v : Value) {ts m : List Token} {e : Expression} {o : Span} → SpellsTail n v.0 v.1 ts e o m → TailB n v ts m (expression_reach e)
tail_begin v (g.level_done f) = no_tail
tail_begin {n} v {ts} (g.level_more {p} {right} {binary_operator = w} f l d t) = further_tail n v ts f l d (tail_begin (trees.Binary w v.0 right (words.join v.1 p), words.join v.1 p) t)

tail_begins : (n : ℕ) (v : Value) (ts m : List Token) (r : Reach) → TailS n v ts m r → TailB n v ts m r
tail_begins n v ts m r (tail t) = tail_begin v t

-- ---- operators before an operand

abbrev pub operator_word : TokenKind → Bool
operator_word kind = is_some (unary_operator_of kind)

pub data Only : Type 0 where
  only : Only

pub data IsOperator : TokenKind → Only → Type 0 where
  operator : {k : TokenKind} {w : UnaryOperator} → unary_operator_of k ≡ Some w → IsOperator k only

pub one_operator : OneHead IsOperator
one_operator k only only i i' = refl

word_class : (k : TokenKind) → operator_word k ≡ true → class k ≡ 10
word_class k so = unary_class k (some_word (unary_operator_of k) so).1

words_class : (ts : List Token) → next_is operator_word ts ≡ true → class_at ts ≡ 10
words_class [] so = absurd cc
words_class (t ∷ ts) so = word_class t.kind so

-- tokens that no operator starts
pub no_word : (ts : List Token) → class_at ts ≤ 9 → next_is operator_word ts ≡ false
no_word ts low = by_test (next_is operator_word ts) refl
  where
    by_test : (so : Bool) → next_is operator_word ts ≡ so → next_is operator_word ts ≡ false
    by_test true so = absurd (omega (arith, low, words_class ts so))
    by_test false so = so

pub no_primary_word : {ts m : List Token} {e : Expression} {o : Span} → SpellsPrimary ts e o m → next_is operator_word ts ≡ false
no_primary_word {ts} p = no_word ts (omega (arith, primary_class p, (class_low p).1))

abbrev pub PrefixedS : List Token → List Token → Reach → Type 0
PrefixedS = EitherS (next_is operator_word) (HeadS IsOperator (λ h start. NodeS start UnaryS)) (ChainS PrimaryValue SelectorsS)

abbrev pub PrefixedB : List Token → List Token → Reach → Type 0
PrefixedB = EitherS (next_is operator_word) (HeadB IsOperator (λ h start. NodeS start BeginsUnary)) (ChainB PrimaryValue BeginsPrimary SelectorsB)

pub unary_to : (ts m : List Token) (r : Reach) → UnaryS ts m r → PrefixedS ts m r
unary_to ts m r (unary (g.operator w d)) = yes (ap is_some w) (headed (operator w) (forms.node (unary d)))
unary_to ts m r (unary (g.postfix p s)) = no (no_primary_word p) (chain (of_primary p) (selectors s))

unary_begin : (ts m : List Token) (r : Reach) → UnaryS ts m r → BeginsUnary ts m r
unary_begin ts m r (unary d) = unary_begins d

primary_prefixed : {ts rest : List Token} {q : Reach} → BeginsPrimary ts rest q → HeadB primaries.IsHead primaries.BehindB ts rest q → PrefixedB ts rest q
primary_prefixed {ts} c none_yet = by_test (next_is operator_word ts) refl
  where
    by_test : (so : Bool) → next_is operator_word ts ≡ so → PrefixedB ts ts nowhere
    by_test true so = yes so none_yet
    by_test false so = no so (in_link b.nothing)
primary_prefixed {ts} c (headed i x) = no (no_word ts (omega (arith, (class_some i).1))) (in_link c)

pub unary_into : (ts rest : List Token) (q : Reach) → BeginsUnary ts rest q → PrefixedB ts rest q
unary_into ts rest q (b.operator w c) = yes (ap is_some w) (headed (operator w) (forms.node c))
unary_into ts rest q (b.primary c) = primary_prefixed c (primaries.into_b ts rest q c)
unary_into ts rest q (b.selectors p c) = no (no_primary_word p) (behind_link (of_primary p) c)

pub unary_from : (ts rest : List Token) (q : Reach) → PrefixedB ts rest q → BeginsUnary ts rest q
unary_from ts rest q (yes f none_yet) = b.primary b.nothing
unary_from ts rest q (yes f (headed (operator w) (forms.node c))) = b.operator w c
unary_from ts rest q (no f (in_link c)) = b.primary c
unary_from ts rest q (no f (behind_link (of_primary p) c)) = b.selectors p c

-- ---- operators of all levels

pub zero_to : (ts m : List Token) (r : Reach) → BinaryS zero ts m r → UnaryS ts m r
zero_to ts m r (binary (g.operand d)) = unary d

binary_begin : (n : ℕ) (ts m : List Token) (r : Reach) → BinaryS n ts m r → BeginsBinary n ts m r
binary_begin n ts m r (binary d) = binary_begins d

pub zero_into : (ts rest : List Token) (q : Reach) → BeginsBinary zero ts rest q → BeginsUnary ts rest q
zero_into ts rest q (b.operand c) = c

abbrev pub LevelS : ℕ → List Token → List Token → Reach → Type 0
LevelS n = ChainS (BinaryValue n) (TailS n)

abbrev pub LevelB : ℕ → List Token → List Token → Reach → Type 0
LevelB n = ChainB (BinaryValue n) (BeginsBinary n) (TailB n)

pub level_to : (n : ℕ) (ts m : List Token) (r : Reach) → BinaryS (suc n) ts m r → LevelS n ts m r
level_to n ts m r (binary (g.operators d t)) = chain (of_binary d) (tail t)

pub level_into : (n : ℕ) (ts rest : List Token) (q : Reach) → BeginsBinary (suc n) ts rest q → LevelB n ts rest q
level_into n ts rest q (b.first c) = in_link c
level_into n ts rest q (b.operators d c) = behind_link (of_binary d) (tail c)

behind_value : (n : ℕ) {ts mid rest : List Token} {e : Expression} {o : Span} {q : Reach} → SpellsBinary n ts e o mid → TailB n (e, o) mid rest q → BeginsBinary (suc n) ts rest q
behind_value n d no_tail = b.first (binary_begins d)
behind_value n d (tail c) = b.operators d c

pub level_from : (n : ℕ) (ts rest : List Token) (q : Reach) → LevelB n ts rest q → BeginsBinary (suc n) ts rest q
level_from n ts rest q (in_link c) = b.first c
level_from n ts rest q (behind_link (of_binary d) c) = behind_value n d c

-- ---- all together, by the length of the tokens

record Below (n : ℕ) : Type 0 where
  at_level : (k : ℕ) → ExactBelow n nowhere (BinaryS k) (BeginsBinary k)
  at_unary : ExactBelow n nowhere UnaryS BeginsUnary
  at_more : ExactBelow n nowhere MoreS MoreB
  at_arguments : ExactBelow n nowhere ArgumentsS BeginsArguments
  at_bounds : ExactBelow n nowhere BoundsS BeginsBounds
  at_selectors : (v : Value) → ExactBelow n (reach v) (SelectorsS v) (SelectorsB v)
  at_tail : (k : ℕ) (v : Value) → ExactBelow n (reach v) (TailS k v) (TailB k v)

primary_below : {n : ℕ} → Below n → ExactBelow (suc n) nowhere PrimaryS BeginsPrimary
primary_below x = same_exact (head_exact primaries.one_head (primaries.behind_below (x.at_level 10) x.at_arguments x.at_bounds)) primaries.to_s primaries.primary_begins primaries.into_b

unary_below : {n : ℕ} → Below n → ExactBelow (suc n) nowhere UnaryS BeginsUnary
unary_below x = same_exact (either_exact (head_exact one_operator (λ h start. node_exact x.at_unary)) (chain_exact (primary_value (primary_below x)) x.at_selectors)) unary_to unary_begin unary_into

level_below : {n : ℕ} → Below n → (k : ℕ) → ExactBelow (suc n) nowhere (BinaryS k) (BeginsBinary k)
level_below x zero = same_exact (unary_below x) zero_to (binary_begin zero) zero_into
level_below x (suc k) = same_exact (chain_exact (binary_value (level_below x k)) (x.at_tail k)) (level_to k) (binary_begin (suc k)) (level_into k)

more_below : {n : ℕ} → Below n → ExactBelow (suc n) nowhere MoreS MoreB
more_below x = same_exact (either_exact (after_exact (seq_exact (x.at_level 10) x.at_more)) (after_exact done_exact)) more_to more_begins more_into

longer : {n : ℕ} → Below n → Below (suc n)
longer x = record {
  at_level = level_below x;
  at_unary = unary_below x;
  at_more = more_below x;
  at_arguments = same_exact (either_exact (after_exact done_exact) (seq_exact (level_below x 10) (more_below x))) arguments_to arguments_begins arguments_into;
  at_bounds = bounds_below (x.at_level 10);
  at_selectors = λ v. same_exact (either_exact (chain_exact (selected_below (x.at_level 10)) x.at_selectors) stays_exact) (select_to v) (select_begins v) (select_into v);
  at_tail = λ k v. same_exact (either_exact (chain_exact (operated_below (x.at_level k)) (x.at_tail k)) stays_exact) (tail_to k v) (tail_begins k v) (tail_into k v);
}

all_below : (n : ℕ) → Below n
all_below zero = record { at_level = λ k. none_below; at_unary = none_below; at_more = none_below; at_arguments = none_below; at_bounds = none_below; at_selectors = λ v. none_below; at_tail = λ k v. none_below }
all_below (suc n) = longer (all_below n)

-- ---- what they are on all lists

pub binary_exact : (n : ℕ) → Exact nowhere (BinaryS n) (BeginsBinary n)
binary_exact n = exact_on_all (λ m. (all_below m).at_level n)

pub unary_exact : Exact nowhere UnaryS BeginsUnary
unary_exact = exact_on_all (λ n. (all_below n).at_unary)

pub more_exact : Exact nowhere MoreS MoreB
more_exact = exact_on_all (λ n. (all_below n).at_more)

pub arguments_exact : Exact nowhere ArgumentsS BeginsArguments
arguments_exact = exact_on_all (λ n. (all_below n).at_arguments)

pub bounds_exact : Exact nowhere BoundsS BeginsBounds
bounds_exact = exact_on_all (λ n. (all_below n).at_bounds)

pub selectors_exact : (v : Value) → Exact (reach v) (SelectorsS v) (SelectorsB v)
selectors_exact v = exact_on_all (λ n. (all_below n).at_selectors v)

pub tail_exact : (n : ℕ) (v : Value) → Exact (reach v) (TailS n v) (TailB n v)
tail_exact n v = exact_on_all (λ m. (all_below m).at_tail n v)

pub primary_exact : Exact nowhere PrimaryS BeginsPrimary
primary_exact = exact_on_all (λ n. within (primary_below (all_below n)))

pub primary_value_exact : ExactValue nowhere reach PrimaryValue BeginsPrimary
primary_value_exact = value_on_all (λ n. primary_value (within (primary_below (all_below n))))

pub unary_value_exact : ExactValue nowhere reach UnaryValue BeginsUnary
unary_value_exact = value_on_all (λ n. unary_value ((all_below n).at_unary))

pub binary_value_exact : (n : ℕ) → ExactValue nowhere reach (BinaryValue n) (BeginsBinary n)
binary_value_exact n = value_on_all (λ m. binary_value ((all_below m).at_level n))
