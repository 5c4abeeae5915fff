-- What is needed where bounds are stuck: the word `unknown` may be bounds of its own, or an expression.
use Rattle.std.proofs.Common.{◌≡◌, ◌≤◌, ◌<◌, ◌+◌, ◌⊎◌, inl, inr, ℕ, zero, suc, nat_lt, length, Bool, true, false, List, [], ◌∷◌, ◌&&◌, ◌||◌, codes, Option, Some, None, refl, sym, ap, subst, ◌∙◌, arith, true≢false}
use Rattle.std.specs.Str.{bytes_eq}
use Rattle.std.specs.Option.{is_some}
use Rattle.std.proofs.lemmas.Slice.Eq.{bytes_eq-Decides}
use Rattle.std.proofs.lemmas.Option.{none-some}
use Rattle.std.proofs.lemmas.Bool.{ne_eqb, ltb-true, ltb-false}
use Rattle.ckc_text.specs.declared.place.Span.{Span}
use Rattle.ckc_lexer.specs.declared.token.Token.{Token}
use Rattle.ckc_lexer.specs.declared.token.TokenKind.{TokenKind}
use Rattle.ckc_lexer.specs.declared.token.TokenKind.TheVariants as kinds
use Rattle.ckc_tree.specs.declared.expr.BinaryOperator.{BinaryOperator}
use Rattle.ckc_tree.specs.declared.expr.BinaryOperator.TheVariants as operators
use Rattle.ckc_tree.specs.Expressions as trees
use Rattle.ckc_tree.specs.Expressions.{Expression}
use Rattle.ckc_tree.specs.Heights.{Reach, nowhere, node, around, ◌beside◌, expression_reach}
use Rattle.ckc_parser_grammar.specs.Tokens.{token, identifier, next_is, open_paren, comma, selector, operator_at, operator_with, level, has_operator, is_of_level}
use Rattle.ckc_parser_grammar.specs.ExpressionGrammar as g
use Rattle.ckc_parser_grammar.specs.ExpressionGrammar.{SpellsBinary}
use Rattle.ckc_parser_grammar.specs.ExpressionBeginnings as b
use Rattle.ckc_parser_grammar.specs.ExpressionBeginnings.{BeginsBinary, BeginsTail, BeginsUnary, BeginsBounds}
use Rattle.ckc_parser_grammar.specs.Failures as failures
use Rattle.ckc_parser_grammar.specs.Failures.{Failure, IsLow}
use Rattle.ckc_parser_grammar.specs.StuckExpressions.{close_paren, bounds_word, unknown_word, is_unknown, goes_on, after_name}
use Rattle.ckc_parser_grammar.proofs.OneExpression.{first_kind, binary_same, behind}
use Rattle.ckc_parser_grammar.proofs.ExpressionPaths.{no_binary, Marks, mark, shift, marks_at}
use Rattle.ckc_parser_grammar.proofs.Forms.{◌ends◌, all, later, end_length, end_same, Is, it, Exact, exact_on_all, below, SeqS, SeqB, seq, in_first, in_second, seq_all, before_end, end, ended_all}
use Rattle.ckc_parser_grammar.proofs.Ahead.{never}
use Rattle.ckc_parser_grammar.proofs.Failing as failing
use Rattle.ckc_parser_grammar.proofs.Failing.{Fails, unexpected, too_deep, fails_first, fails_second, fails_before_end, fails_at_end, fails_at_first, fails_headed, fails_unheaded, fails_as}
use Rattle.ckc_parser_grammar.proofs.TypeForms.{paren_is}
use Rattle.ckc_parser_grammar.proofs.ExpressionLinks.{BinaryS, binary}
use Rattle.ckc_parser_grammar.proofs.PrimaryForms.{BoundsS}
use Rattle.ckc_parser_grammar.proofs.BuiltBounds as bounds
use Rattle.ckc_parser_grammar.proofs.BuiltBounds.{Head, IsHead, counted, ranged, BehindS, BehindB, CommaS, CommaB, PairS, PairB, RangeS, RangeB, unknown, word, range, range_below, name_spells}
use Rattle.ckc_parser_grammar.proofs.ExpressionForms.{binary_exact}
use Rattle.ckc_parser_grammar.proofs.SecondToken.{Second, name_second, binary_first, binary_second, binary_read}

-- ---- the words of bounds

pub same_bytes : (x y : List ℕ) → bytes_eq x y ≡ true → x ≡ y
same_bytes x y so = grind (arith, bytes_eq-Decides x y, so)

pub equal_bytes : (x y : List ℕ) → x ≡ y → bytes_eq x y ≡ true
equal_bytes x y same = grind (arith, bytes_eq-Decides x y, same)

pub record Worded (k : TokenKind) : Type 0 where
  pub head : Head
  pub is : IsHead k head

pub word_at : (k : TokenKind) → bounds_word k ≡ true → Worded k
word_at (kinds.Name x) so = by_first (bytes_eq x (codes "count")) refl
  where
    by_third : bytes_eq x (codes "bounds") ≡ true → Worded (kinds.Name x)
    by_third so = record { head = ranged; is = bounds.bounds (same_bytes x (codes "bounds") so) }

    by_second : (so : Bool) → bytes_eq x (codes "byte_count") ≡ so → bytes_eq x (codes "count") ≡ false → Worded (kinds.Name x)
    by_second true second first = record { head = counted; is = bounds.byte_count (same_bytes x (codes "byte_count") second) }
    by_second false second first = by_third (rw (first, second) at so)

    by_first : (so : Bool) → bytes_eq x (codes "count") ≡ so → Worded (kinds.Name x)
    by_first true first = record { head = counted; is = bounds.count (same_bytes x (codes "count") first) }
    by_first false first = by_second (bytes_eq x (codes "byte_count")) refl first
word_at _ so = absurd (true≢false (sym so))

pub head_word : {k : TokenKind} {h : Head} → IsHead k h → bounds_word k ≡ true
head_word (bounds.count same) = rw same refl
head_word (bounds.byte_count same) = rw same refl
head_word (bounds.bounds same) = rw same refl

pub no_word : (ts : List Token) → next_is bounds_word ts ≡ false → (k : TokenKind) (s : Span) (us : List Token) (h : Head) → ts ≡ token k s ∷ us → IsHead k h → ⊥
no_word ts none k s us h is i = never (head_word i) (subst (λ (x : List Token). next_is bounds_word x ≡ false) is none)

-- ---- bounds behind their word

bounds_behind : (h : Head) (start : ℕ) → Exact nowhere (BehindS h start) (BehindB h start)
bounds_behind h start = exact_on_all (λ n. bounds.behind_below (below (binary_exact 10)) h start)

pub worded_fails : {d : ℕ} {k : TokenKind} {s : Span} {h : Head} {ts : List Token} {f : Failure} → IsHead k h → Fails d (BehindS h s.from) (BehindB h s.from) ts f → Fails d BoundsS BeginsBounds (token k s ∷ ts) f
worded_fails {s} {h} i f = fails_as bounds.to_s bounds.into_b bounds.from_b (fails_headed bounds.one_head i (bounds_behind h s.from) f)

pub paren_fails : (h : Head) (start : ℕ) {d : ℕ} {rest : List Token} → d ≤ 200 → next_is open_paren rest ≡ false → Fails d (BehindS h start) (BehindB h start) rest (failures.unexpected rest)
paren_fails counted start low none = fails_at_first paren_is low none
paren_fails ranged start low none = fails_at_first paren_is low none

pub opened_fails : {d : ℕ} {k : TokenKind} {s : Span} {rest : List Token} → d ≤ 200 → bounds_word k ≡ true → next_is open_paren rest ≡ false → Fails d BoundsS BeginsBounds (token k s ∷ rest) (failures.unexpected rest)
opened_fails {k} {s} low so none = let w = word_at k so in worded_fails w.is (paren_fails w.head s.from low none)

pub unworded_fails : {d : ℕ} {ts : List Token} → d ≤ 200 → next_is bounds_word ts ≡ false → Fails d BoundsS BeginsBounds ts (failures.unexpected ts)
unworded_fails {ts} low none = fails_as bounds.to_s bounds.into_b bounds.from_b (fails_unheaded low (no_word ts none))

-- ---- two ends

pub range_exact : Exact nowhere RangeS RangeB
range_exact = exact_on_all (λ n. range_below (below (binary_exact 10)))

comma_exact : Exact nowhere CommaS CommaB
comma_exact = ended_all (binary_exact 10)

ends_exact : Exact nowhere (SeqS CommaS (BinaryS 10)) (SeqB CommaS CommaB (BeginsBinary 10))
ends_exact = seq_all comma_exact (binary_exact 10)

comma_is : (k : TokenKind) → Is kinds.Comma k → comma k ≡ true
comma_is k it = refl

close_is : (k : TokenKind) → Is kinds.CloseParen k → close_paren k ≡ true
close_is k it = refl

pub low_fails : {d : ℕ} {ts : List Token} {f : Failure} → Fails d (BinaryS 10) (BeginsBinary 10) ts f → Fails d PairS PairB ts f
low_fails x = fails_before_end ends_exact (fails_first comma_exact (binary_exact 10) (fails_before_end (binary_exact 10) x))

pub comma_fails : {d : ℕ} {o : Span} {ts rest : List Token} {e : Expression} → SpellsBinary 10 ts e o rest → IsLow d (expression_reach e) → next_is comma rest ≡ false → Fails d PairS PairB ts (failures.unexpected rest)
comma_fails e low none = fails_before_end ends_exact (fails_first comma_exact (binary_exact 10) (fails_at_end comma_is (binary_exact 10) (binary e) low none))

pub high_fails : {d : ℕ} {o q : Span} {ts us : List Token} {e : Expression} {f : Failure} → SpellsBinary 10 ts e o (token kinds.Comma q ∷ us) → IsLow d (expression_reach e) → Fails d (BinaryS 10) (BeginsBinary 10) us f → Fails d PairS PairB ts f
high_fails e low x = fails_before_end ends_exact (fails_second comma_exact (binary_exact 10) (end (binary e) it) low x)

pub close_fails : {d : ℕ} {o q w : Span} {ts us rest : List Token} {e i : Expression} → SpellsBinary 10 ts e o (token kinds.Comma q ∷ us) → SpellsBinary 10 us i w rest → IsLow d (expression_reach e beside expression_reach i) → next_is close_paren rest ≡ false → Fails d PairS PairB ts (failures.unexpected rest)
close_fails e i low none = fails_at_end close_is ends_exact (seq (end (binary e) it) (binary i)) low none

-- ---- where the word doesn't matter

-- a name is the beginning of an expression
name_begins : (n : ℕ) {y : List ℕ} {q : Span} {rest : List Token} → BeginsBinary n (token (kinds.Name y) q ∷ rest) rest (node q.from)
name_begins zero = b.operand (b.primary b.name)
name_begins (suc n) = b.first (name_begins n)

-- so it is one of two ends
name_pair : {y : List ℕ} {q : Span} {rest : List Token} → PairB (token (kinds.Name y) q ∷ rest) rest (node q.from)
name_pair = before_end (in_first (before_end (name_begins 10)))

pub is_word : {y : List ℕ} → y ≡ codes "unknown" → unknown_word (kinds.Name y) ≡ true
is_word same = rw same refl

unknown_is : {y : List ℕ} (q t : Span) (m : List Token) → y ≡ codes "unknown" → is_unknown (token (kinds.Name y) q ∷ token kinds.CloseParen t ∷ m) ≡ true
unknown_is q t m same = rw same refl

pub pair_fails : {d : ℕ} {ts : List Token} {f : Failure} → is_unknown ts ≡ false → (d < 200) ⊎ (next_is unknown_word ts ≡ false) → Fails d PairS PairB ts f → Fails d RangeS RangeB ts f
pair_fails other room failing.no_memory = failing.no_memory
pair_fails {d} {ts} other room (unexpected {at} begun low whole further) = unexpected (range begun) low (λ m q a. no_whole other whole a) (λ t rest q here c. no_further other further here c)
  where
    no_whole : {us m : List Token} {q : Reach} → is_unknown us ≡ false → ((m : List Token) (q : Reach) → PairS us m q → ⊥) → RangeS us m q → ⊥
    no_whole {m} other whole (unknown {q} {t} y) = never (unknown_is q t m y) other
    no_whole other whole (range a) = whole _ _ a

    no_further : {us rest : List Token} {t : Token} {q : Reach} → is_unknown us ≡ false → ((t : Token) (rest : List Token) (q : Reach) → at ≡ t ∷ rest → PairB us rest q → ⊥) → at ≡ t ∷ rest → RangeB us rest q → ⊥
    no_further other further here (word y) = further _ _ _ here name_pair
    no_further {rest} other further here (unknown {q} {t} y) = never (unknown_is q t rest y) other
    no_further other further here (range c) = further _ _ _ here c
pair_fails {d} {ts} other room (too_deep {behind = rest} {start} begun low deep at every) = too_deep (range begun) low (range deep) at (λ q c. each other room every c)
  where
    each : {us : List Token} {q : Reach} → is_unknown us ≡ false → (d < 200) ⊎ (next_is unknown_word us ≡ false) → ((q : Reach) → PairB us rest q → (200 < d + q.height) × (start ≤ q.start)) → RangeB us rest q → (200 < d + q.height) × (start ≤ q.start)
    each other (inl less) every (word {q = s} y) = absurd (omega (arith, less, (every (node s.from) name_pair).0))
    each other (inr none) every (word y) = never (is_word y) none
    each other room every (unknown {q} {t} y) = never (unknown_is q t rest y) other
    each other room every (range c) = every _ c

pub data UnknownTokens : List Token → Type 0 where
  known : {y : List ℕ} {s t : Span} {m : List Token} → y ≡ codes "unknown" → UnknownTokens (token (kinds.Name y) s ∷ token kinds.CloseParen t ∷ m)

pub and_true : (a c : Bool) → a && c ≡ true → (a ≡ true) × (c ≡ true)
and_true true c so = (refl, so)
and_true false c so = absurd cc

pub unknown_tokens : (ts : List Token) → is_unknown ts ≡ true → UnknownTokens ts
unknown_tokens [] so = absurd cc
unknown_tokens (t ∷ ts) so = by_kind t.kind t.span ts so
  where
    by_second : (y : List ℕ) (s : Span) (k : TokenKind) (p : Span) (m : List Token) → y ≡ codes "unknown" → close_paren k ≡ true → UnknownTokens (token (kinds.Name y) s ∷ token k p ∷ m)
    by_second y s kinds.CloseParen p m same so = known same
    by_second y s _ p m same so = absurd cc

    by_rest : (y : List ℕ) (s : Span) (us : List Token) → y ≡ codes "unknown" → next_is close_paren us ≡ true → UnknownTokens (token (kinds.Name y) s ∷ us)
    by_rest y s [] same so = absurd cc
    by_rest y s (u ∷ us) same so = by_second y s u.kind u.span us same so

    by_kind : (k : TokenKind) (s : Span) (us : List Token) → unknown_word k && next_is close_paren us ≡ true → UnknownTokens (token k s ∷ us)
    by_kind (kinds.Name y) s us so = let both = and_true (bytes_eq y (codes "unknown")) (next_is close_paren us) so in by_rest y s us (same_bytes y (codes "unknown") both.0) both.1
    by_kind _ s us so = absurd cc

pub no_unknown : (ts : List Token) → next_is unknown_word ts ≡ false → is_unknown ts ≡ false
no_unknown [] none = refl
no_unknown (t ∷ ts) none = rw none refl

-- what a comma follows is not that word and a parenthesis
pub not_unknown : {ts us : List Token} {e : Expression} {o q : Span} → SpellsBinary 10 ts e o (token kinds.Comma q ∷ us) → is_unknown ts ≡ false
not_unknown {ts} {us} {e = i} {o} {q} e = by_test (is_unknown ts) refl
  where
    no_tokens : {xs : List Token} → UnknownTokens xs → SpellsBinary 10 xs i o (token kinds.Comma q ∷ us) → is_unknown xs ≡ false
    no_tokens (known same) j = let h : kinds.CloseParen ≡ kinds.Comma = ap first_kind (behind (binary_same (name_spells 10) j)) in absurd cc

    by_test : (so : Bool) → is_unknown ts ≡ so → is_unknown ts ≡ false
    by_test true so = no_tokens (unknown_tokens ts so) e
    by_test false so = so

-- ---- where no node may stand, and the word may be bounds or not

none_before : {b : Bool} (c : Bool) → b || c ≡ false → b ≡ false
none_before {b} c none = by_test b none
  where
    by_test : (a : Bool) → a || c ≡ false → a ≡ false
    by_test true none = absurd cc
    by_test false none = refl

none_behind : (b : Bool) {c : Bool} → b || c ≡ false → c ≡ false
none_behind true none = absurd cc
none_behind false none = none

no_operator : (n : ℕ) (ts : List Token) → is_some (operator_at ts) ≡ false → has_operator n ts ≡ false
no_operator n ts none = by_operator (operator_at ts) none
  where
    by_operator : (o : Option (BinaryOperator × List Token)) → is_some o ≡ false → is_of_level n o ≡ false
    by_operator None none = refl
    by_operator (Some found) none = absurd cc

no_after : (ts : List Token) → next_is after_name ts ≡ false → (next_is open_paren ts ≡ false) × (next_is selector ts ≡ false) × (next_is comma ts ≡ false)
no_after [] none = (refl, refl, refl)
no_after (t ∷ ts) none = by_kind t.kind none
  where
    by_kind : (k : TokenKind) → after_name k ≡ false → (open_paren k ≡ false) × (selector k ≡ false) × (comma k ≡ false)
    by_kind kinds.Comma none = absurd cc
    by_kind kinds.OpenParen none = absurd cc
    by_kind kinds.OpenBracket none = absurd cc
    by_kind kinds.Dot none = absurd cc
    by_kind kinds.Arrow none = absurd cc
    by_kind _ none = (refl, refl, refl)

-- a name that nothing goes on with is an expression alone
alone : (n : ℕ) {y : List ℕ} {q : Span} (rest : List Token) → goes_on rest ≡ false → SpellsBinary n (token (kinds.Name y) q ∷ rest) (trees.Name (identifier y q)) q rest
alone zero rest none = let parts = no_after rest (none_behind (is_some (operator_at rest)) none) in g.operand (g.postfix (g.name parts.0) (g.unselected parts.1))
alone (suc n) rest none = g.operators (alone n rest none) (g.level_done (no_operator (suc n) rest (none_before (next_is after_name rest) none)))

pub word_fails : {d : ℕ} {y : List ℕ} {q : Span} {rest : List Token} → d ≤ 200 → y ≡ codes "unknown" → goes_on rest ≡ false → next_is close_paren rest ≡ false → Fails d RangeS RangeB (token (kinds.Name y) q ∷ rest) (failures.unexpected rest)
word_fails {d} {y} {q} {rest = at} low same none other = unexpected (word same) (omega (arith, low)) (λ m r a. no_whole other none a) (λ t rest r here c. no_further other none here c)
  where
    no_comma : {us vs : List Token} {i : Expression} {o p : Span} {A : Type 0} → goes_on us ≡ false → SpellsBinary 10 (token (kinds.Name y) q ∷ us) i o (token kinds.Comma p ∷ vs) → A
    no_comma {us} none i = never {b = next_is comma us} (ap (next_is comma) (behind (binary_same (alone 10 us none) i))) (no_after us (none_behind (is_some (operator_at us)) none)).2

    no_whole : {us m : List Token} {r : Reach} → next_is close_paren us ≡ false → goes_on us ≡ false → RangeS (token (kinds.Name y) q ∷ us) m r → ⊥
    no_whole other none (unknown z) = absurd cc
    no_whole other none (range (end (seq (end (binary i) it) j) k)) = no_comma none i

    no_further : {us rest : List Token} {t : Token} {r : Reach} → next_is close_paren us ≡ false → goes_on us ≡ false → us ≡ t ∷ rest → RangeB (token (kinds.Name y) q ∷ us) rest r → ⊥
    no_further other none here (word z) = absurd (omega (arith, ap length here))
    no_further other none here (unknown z) = absurd cc
    no_further {us} other none here (range (before_end (in_first (before_end c)))) = absurd (omega (arith, ap length here, end_length ((binary_exact 10).longest (binary (alone 10 us none)) c)))
    no_further other none here (range (before_end (in_first (end (binary i) it)))) = no_comma none i
    no_further other none here (range (before_end (in_second (end (binary i) it) c))) = no_comma none i
    no_further other none here (range (end (seq (end (binary i) it) j) k)) = no_comma none i

in_tail : {t : Token} {mid ts : List Token} → mid ends (t ∷ ts) → length mid < suc (length ts) → mid ends ts
in_tail all less = absurd (omega (arith, less))
in_tail (later e) less = e

-- an expression of the name alone, before the second token
first_alone : {y : List ℕ} {q s : Span} {k : TokenKind} {t : Token} {us mid : List Token} {e : Expression} {o : Span} → SpellsBinary 10 (token (kinds.Name y) q ∷ t ∷ us) e o (token k s ∷ mid) → mid ≡ us → expression_reach e ≡ node q.from
first_alone i is =
    let begun = (binary_exact 10).spelled (binary i) in
    binary_first 10 begun (end_same (in_tail ((binary_exact 10).ended begun) (binary_read i)) (omega (arith, ap length is)))

both_alone : {start : ℕ} (p r : Reach) → p ≡ node start → r ≡ nowhere → Second start (p beside r)
both_alone p r same none = rw (same, none) (record { high = omega arith; behind = omega arith })

-- whatever is read of a name and one token more, as one of two ends, has a node, and the deepest starts at the name or later
pair_second : {y : List ℕ} {q : Span} {t : Token} {us rest : List Token} {p : Reach} → PairB (token (kinds.Name y) q ∷ t ∷ us) rest p → rest ≡ us → Second q.from p
pair_second (before_end (in_first (before_end c))) is = binary_second 10 c is
pair_second (before_end (in_first (end (binary i) it))) is = name_second (first_alone i is)
pair_second {us} {rest} (before_end (in_second {mid} {q = r} (end (binary {e} i) it) c)) is =
    let here : rest ≡ mid = end_same ((binary_exact 10).ended c) (omega (arith, binary_read i, ap length is)) in
    both_alone (expression_reach e) r (first_alone i (sym here ∙ is)) ((binary_exact 10).nothing c here)
pair_second (end (seq (end (binary i) it) (binary j)) it) is = absurd (omega (arith, ap length is, binary_read i, binary_read j))

-- ---- what goes on with the word

raise : (j n : ℕ) {ts rest : List Token} {r : Reach} → n ≤ j → BeginsBinary n ts rest r → BeginsBinary j ts rest r
raise zero n {ts} {rest} {r} less c = subst (λ (k : ℕ). BeginsBinary k ts rest r) (omega (arith, less)) c
raise (suc j) n {ts} {rest} {r} less c = by_test (λ short. raise j n short c) (nat_lt n (suc j)) refl
  where
    by_test : (n ≤ j → BeginsBinary j ts rest r) → (so : Bool) → nat_lt n (suc j) ≡ so → BeginsBinary (suc j) ts rest r
    by_test lower true so = b.first (lower (omega (arith, ltb-true n (suc j) so)))
    by_test lower false so = subst (λ (k : ℕ). BeginsBinary k ts rest r) (omega (arith, less, ltb-false n (suc j) so)) c

-- an expression of the word and one token more
record Started (y : List ℕ) (q : Span) (t : Token) (us : List Token) : Type 0 where
  reach : Reach
  begun : PairB (token (kinds.Name y) q ∷ t ∷ us) us reach
  first : q.from ≡ reach.start

unary_started : {y : List ℕ} {q : Span} {t : Token} {us : List Token} {r : Reach} → q.from ≡ r.start → BeginsUnary (token (kinds.Name y) q ∷ t ∷ us) us r → Started y q t us
unary_started first c = record { reach = _; begun = before_end (in_first (before_end (raise 10 zero (omega arith) (b.operand c)))); first = first }

-- the levels up to the operator's, with the name alone
alone_below : (n : ℕ) {y : List ℕ} {q : Span} (rest : List Token) → next_is open_paren rest ≡ false → next_is selector rest ≡ false → ((k : ℕ) → k ≤ n → has_operator k rest ≡ false) → SpellsBinary n (token (kinds.Name y) q ∷ rest) (trees.Name (identifier y q)) q rest
alone_below zero rest paren select none = g.operand (g.postfix (g.name paren) (g.unselected select))
alone_below (suc n) rest paren select none = g.operators (alone_below n rest paren select (λ k less. none k (omega (arith, less)))) (g.level_done (none (suc n) (omega arith)))

operator_alone : {w : BinaryOperator} {us : List Token} (ts : List Token) → operator_at ts ≡ Some (w, us) → (next_is open_paren ts ≡ false) × (next_is selector ts ≡ false)
operator_alone [] found = absurd (none-some _ found)
operator_alone {w} {us} (t ∷ ts) found = by_kind t.kind found
  where
    by_kind : (k : TokenKind) → operator_with t.span ts k ≡ Some (w, us) → (open_paren k ≡ false) × (selector k ≡ false)
    by_kind kinds.OpenParen found = absurd (none-some _ found)
    by_kind kinds.OpenBracket found = absurd (none-some _ found)
    by_kind kinds.Dot found = absurd (none-some _ found)
    by_kind kinds.Arrow found = absurd (none-some _ found)
    by_kind _ found = (refl, refl)

no_lower : {w : BinaryOperator} {us : List Token} (n k : ℕ) (ts : List Token) → operator_at ts ≡ Some (w, us) → level w ≡ suc n → k ≤ n → has_operator k ts ≡ false
no_lower {w} n k ts found same less = rw found (ne_eqb (level w) k (λ is. omega (arith, is, same, less)))

level_within : (w : BinaryOperator) → (1 ≤ level w) × (level w ≤ 10)
level_within operators.Or = (omega arith, omega arith)
level_within _ = (omega arith, omega arith)

before : (n : ℕ) → 1 ≤ n → (k : ℕ) × (n ≡ suc k)
before zero some = absurd (omega (arith, some))
before (suc k) some = (k, refl)

operator_started : {y : List ℕ} {q : Span} {t : Token} {us vs : List Token} {w : BinaryOperator} → operator_at (t ∷ us) ≡ Some (w, vs) → Started y q t us
operator_started {y} {q} {t} {us} {vs} {w} found = by_level (before (level w) (level_within w).0)
  where
    parts : (next_is open_paren (t ∷ us) ≡ false) × (next_is selector (t ∷ us) ≡ false)
    parts = operator_alone (t ∷ us) found

    begun_of : (n : ℕ) → level w ≡ suc n → (r : Reach) → q.from ≡ r.start → BeginsTail n (trees.Name (identifier y q)) q (t ∷ us) us r → Started y q t us
    begun_of n same r first c = record { reach = r; begun = before_end (in_first (before_end (raise 10 (suc n) (omega (arith, same, (level_within w).1)) (b.operators (alone_below n (t ∷ us) parts.0 parts.1 (λ k less. no_lower n k (t ∷ us) found same less)) c)))); first = first }

    by_marks : {x : Token} {xs ys : List Token} {o : BinaryOperator} (n : ℕ) → Marks (x ∷ xs) o ys → operator_at (x ∷ xs) ≡ Some (o, ys) → level o ≡ suc n → (r : Reach) × BeginsTail n (trees.Name (identifier y q)) q (x ∷ xs) xs r × (q.from ≡ r.start)
    by_marks n mark f l = (_, b.right f l (no_binary n), refl)
    by_marks n shift f l = (_, b.half f l, refl)

    by_level : (k : ℕ) × (level w ≡ suc k) → Started y q t us
    by_level (n, same) = let c = by_marks n (marks_at (t ∷ us) found) found same in begun_of n same c.0 c.2 c.1

after_started : {y : List ℕ} {q : Span} (t : Token) {us : List Token} → next_is after_name (t ∷ us) ≡ true → Started y q t us
after_started {y} {q} t {us} so = by_kind t.kind so
  where
    by_kind : (k : TokenKind) → after_name k ≡ true → Started y q (token k t.span) us
    by_kind kinds.Comma so = record { reach = _; begun = before_end (in_first (end (binary (alone_below 10 (token kinds.Comma t.span ∷ us) refl refl (λ k less. refl))) it)); first = refl }
    by_kind kinds.OpenParen so = unary_started {r = node q.from} refl (b.primary (b.call (b.arguments (b.argument (no_binary 10)))))
    by_kind kinds.OpenBracket so = unary_started {r = around q.from (node q.from beside nowhere)} refl (b.selectors (g.name refl) (b.index (no_binary 10)))
    by_kind kinds.Dot so = unary_started {r = around q.from (node q.from)} refl (b.selectors (g.name refl) b.dot)
    by_kind kinds.Arrow so = unary_started {r = around q.from (node q.from)} refl (b.selectors (g.name refl) b.arrow)
    by_kind _ so = absurd (true≢false (sym so))

started : {y : List ℕ} {q : Span} {t : Token} {us : List Token} → goes_on (t ∷ us) ≡ true → Started y q t us
started {y} {q} {t} {us} so = by_operator (operator_at (t ∷ us)) refl
  where
    by_operator : (o : Option (BinaryOperator × List Token)) → operator_at (t ∷ us) ≡ o → Started y q t us
    by_operator None found = after_started t (rw found at so)
    by_operator (Some (w, vs)) found = operator_started found

pub word_deep : {d : ℕ} {y : List ℕ} {q : Span} {t : Token} {rest : List Token} → d ≤ 200 → 200 ≤ d → y ≡ codes "unknown" → goes_on (t ∷ rest) ≡ true → Fails d RangeS RangeB (token (kinds.Name y) q ∷ t ∷ rest) (failures.too_deep q.from)
word_deep {d} {y} {q} {t} {rest} low high same so =
    let s = started {y = y} {q = q} so in
    too_deep {p = nowhere} {r = s.reach} (word same) (omega (arith, low)) (range s.begun) s.first (λ r c. each so c refl)
  where
    each : {x : Token} {us ms : List Token} {r : Reach} → goes_on (x ∷ us) ≡ true → RangeB (token (kinds.Name y) q ∷ x ∷ us) ms r → ms ≡ us → (200 < d + r.height) × (q.from ≤ r.start)
    each so (word z) is = absurd (omega (arith, ap length is))
    each so (unknown z) is = absurd cc
    each so (range c) is = let two = pair_second c is in (omega (arith, high, two.high), two.behind)
