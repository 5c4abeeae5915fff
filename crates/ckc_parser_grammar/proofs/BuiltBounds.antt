-- Bounds as a form that is built of others, by their first word.
use Rattle.std.proofs.Common.{◌≡◌, ◌<◌, ℕ, zero, suc, length, List, ◌∷◌, codes, refl, sym, ap, subst, ◌∙◌, arith}
use Rattle.ckc_text.specs.declared.place.Span.{Span}
use Rattle.ckc_lexer.specs.declared.token.Token.{Token}
use Rattle.ckc_lexer.specs.declared.token.TokenKind.{TokenKind}
use Rattle.ckc_lexer.specs.declared.token.TokenKind.TheVariants as kinds
use Rattle.ckc_tree.specs.Expressions as trees
use Rattle.ckc_tree.specs.Heights.{Reach, nowhere, expression_reach}
use Rattle.ckc_parser_grammar.specs.Tokens.{token, identifier}
use Rattle.ckc_parser_grammar.specs.ExpressionGrammar as g
use Rattle.ckc_parser_grammar.specs.ExpressionGrammar.{SpellsBinary}
use Rattle.ckc_parser_grammar.specs.ExpressionBeginnings as b
use Rattle.ckc_parser_grammar.specs.ExpressionBeginnings.{BeginsBinary, BeginsBounds}
use Rattle.ckc_parser_grammar.proofs.OneExpression.{first_kind}
use Rattle.ckc_parser_grammar.proofs.ExpressionPaths.{no_binary}
use Rattle.ckc_parser_grammar.proofs.Forms.{◌ends◌, all, later, end_length, end_trans, Is, it, Read, ExactBelow, tokens_same, within, SeqS, SeqB, seq, in_first, in_second, seq_exact, EndedS, EndedB, before_end, end, ended_exact, AfterS, AfterB, not_yet, after, after_exact, HeadS, HeadB, none_yet, headed, head_exact, OneHead, same_exact}
use Rattle.ckc_parser_grammar.proofs.Paths.{beside_nowhere}
use Rattle.ckc_parser_grammar.proofs.ExpressionLinks.{BinaryS, binary}
use Rattle.ckc_parser_grammar.proofs.PrimaryForms.{BoundsS, written}

-- ---- two ends, or the word `unknown`

abbrev pub CommaS : List Token → List Token → Reach → Type 0
CommaS = EndedS (Is kinds.Comma) (BinaryS 10)

abbrev pub CommaB : List Token → List Token → Reach → Type 0
CommaB = EndedB (Is kinds.Comma) (BinaryS 10) (BeginsBinary 10)

abbrev pub PairS : List Token → List Token → Reach → Type 0
PairS = EndedS (Is kinds.CloseParen) (SeqS CommaS (BinaryS 10))

abbrev pub PairB : List Token → List Token → Reach → Type 0
PairB = EndedB (Is kinds.CloseParen) (SeqS CommaS (BinaryS 10)) (SeqB CommaS CommaB (BeginsBinary 10))

pub data RangeS : List Token → List Token → Reach → Type 0 where
  unknown : {y : List ℕ} {q t : Span} {m : List Token} → y ≡ codes "unknown" → RangeS (token (kinds.Name y) q ∷ token kinds.CloseParen t ∷ m) m nowhere
  range : {ts m : List Token} {r : Reach} → PairS ts m r → RangeS ts m r

-- the word may as well be an expression
pub data RangeB : List Token → List Token → Reach → Type 0 where
  word : {y : List ℕ} {q : Span} {rest : List Token} → y ≡ codes "unknown" → RangeB (token (kinds.Name y) q ∷ rest) rest nowhere
  unknown : {y : List ℕ} {q t : Span} {rest : List Token} → y ≡ codes "unknown" → RangeB (token (kinds.Name y) q ∷ token kinds.CloseParen t ∷ rest) rest nowhere
  range : {ts rest : List Token} {q : Reach} → PairB ts rest q → RangeB ts rest q

pub pair_below : {n : ℕ} → ExactBelow n nowhere (BinaryS 10) (BeginsBinary 10) → ExactBelow n nowhere PairS PairB
pair_below e = ended_exact (seq_exact (ended_exact e) e)

-- a name before a parenthesis is an expression up to there
pub name_spells : (n : ℕ) {y : List ℕ} {q t : Span} {m : List Token} → SpellsBinary n (token (kinds.Name y) q ∷ token kinds.CloseParen t ∷ m) (trees.Name (identifier y q)) q (token kinds.CloseParen t ∷ m)
name_spells zero = g.operand (g.postfix (g.name refl) (g.unselected refl))
name_spells (suc n) = g.operators (name_spells n) (g.level_done refl)

end_tail : {t u : Token} {m rest : List Token} → (t ∷ m) ends (u ∷ rest) → m ends rest
end_tail all = all
end_tail (later e) = end_trans (later all) e

pub range_below : {n : ℕ} → ExactBelow n nowhere (BinaryS 10) (BeginsBinary 10) → ExactBelow n nowhere RangeS RangeB
range_below {n} e = record { one = one; spelled = spelled; longest = longest; whole = whole; nothing = nothing; ended = ended }
  where
    p : ExactBelow n nowhere PairS PairB
    p = pair_below e

    not_comma : {y : List ℕ} {q t s : Span} {m us : List Token} {x : trees.Expression} {o : Span} {A : Type 0} → length (token (kinds.Name y) q ∷ token kinds.CloseParen t ∷ m) < n → SpellsBinary 10 (token (kinds.Name y) q ∷ token kinds.CloseParen t ∷ m) x o (token kinds.Comma s ∷ us) → A
    not_comma less d =
        let h : kinds.CloseParen ≡ kinds.Comma = ap first_kind (tokens_same (e.one less (binary (name_spells 10)) (binary d))) in
        absurd cc

    not_pair : {y : List ℕ} {q t : Span} {m m' : List Token} {r : Reach} {A : Type 0} → length (token (kinds.Name y) q ∷ token kinds.CloseParen t ∷ m) < n → PairS (token (kinds.Name y) q ∷ token kinds.CloseParen t ∷ m) m' r → A
    not_pair less (end (seq (end (binary d) it) x) i) = not_comma less d

    one : {ts m m' : List Token} {r r' : Reach} → length ts < n → RangeS ts m r → RangeS ts m' r' → ◌≡◌ {A = Read} (m, r) (m', r')
    one less (unknown y) (unknown y') = refl
    one less (unknown y) (range a) = not_pair less a
    one less (range a) (unknown y) = not_pair less a
    one less (range a) (range a') = p.one less a a'

    spelled : {ts m : List Token} {r : Reach} → length ts < n → RangeS ts m r → RangeB ts m r
    spelled less (unknown y) = unknown y
    spelled less (range a) = range (p.spelled less a)

    before_paren : {y : List ℕ} {q t : Span} {m rest : List Token} {r : Reach} → length (token (kinds.Name y) q ∷ token kinds.CloseParen t ∷ m) < n → PairB (token (kinds.Name y) q ∷ token kinds.CloseParen t ∷ m) rest r → (token kinds.CloseParen t ∷ m) ends rest
    before_paren less (before_end (in_first (before_end c))) = e.longest less (binary (name_spells 10)) c
    before_paren less (before_end (in_first (end (binary d) it))) = not_comma less d
    before_paren less (before_end (in_second (end (binary d) it) c)) = not_comma less d
    before_paren less (end (seq (end (binary d) it) x) i) = not_comma less d

    behind_first : {t : Token} {rest m : List Token} {r : Reach} → length (t ∷ rest) < n → PairS (t ∷ rest) m r → m ends rest
    behind_first less (end a i) = end_tail ((seq_exact (ended_exact e) e).ended less ((seq_exact (ended_exact e) e).spelled less a))

    longest : {ts m rest : List Token} {r q : Reach} → length ts < n → RangeS ts m r → RangeB ts rest q → m ends rest
    longest less (unknown y) (word y') = later all
    longest less (unknown y) (unknown y') = all
    longest less (unknown y) (range c) = end_trans (later all) (before_paren less c)
    longest less (range a) (word y) = behind_first less a
    longest less (range a) (unknown y) = not_pair less a
    longest less (range a) (range c) = p.longest less a c

    -- a comma and a parenthesis stand behind the first token
    more_than_first : {t : Token} {rest m : List Token} {r : Reach} → length (t ∷ rest) < n → PairS (t ∷ rest) m r → length m < length rest
    more_than_first less (end (seq (end a i) x) j) =
        let first = end_length (e.ended less (e.spelled less a)) in
        omega (arith, first, end_length (e.ended (omega (arith, less, first)) (e.spelled (omega (arith, less, first)) x)))

    whole : {ts m rest : List Token} {r q : Reach} → length ts < n → RangeS ts m r → RangeB ts rest q → rest ≡ m → q ≡ r
    whole less (unknown y) (word y') is = refl
    whole less (unknown y) (unknown y') is = refl
    whole less (unknown y) (range c) is = absurd (omega (arith, end_length (before_paren less c), ap length is))
    whole less (range a) (word y) is = absurd (omega (arith, more_than_first less a, ap length is))
    whole less (range a) (unknown y) is = not_pair less a
    whole less (range a) (range c) is = p.whole less a c is

    nothing : {ts rest : List Token} {q : Reach} → length ts < n → RangeB ts rest q → rest ≡ ts → q ≡ nowhere
    nothing less (word y) is = refl
    nothing less (unknown y) is = refl
    nothing less (range c) is = p.nothing less c is

    ended : {ts rest : List Token} {q : Reach} → length ts < n → RangeB ts rest q → rest ends ts
    ended less (word y) = later all
    ended less (unknown y) = later (later all)
    ended less (range c) = p.ended less c

-- ---- bounds, by their word

pub data Head : Type 0 where
  counted : Head
  ranged : Head

pub data IsHead : TokenKind → Head → Type 0 where
  count : {x : List ℕ} → x ≡ codes "count" → IsHead (kinds.Name x) counted
  byte_count : {x : List ℕ} → x ≡ codes "byte_count" → IsHead (kinds.Name x) counted
  bounds : {x : List ℕ} → x ≡ codes "bounds" → IsHead (kinds.Name x) ranged

not_both : {x : List ℕ} {A : Type 0} → x ≡ codes "count" → x ≡ codes "bounds" → A
not_both a c = let h : codes "count" ≡ codes "bounds" = sym a ∙ c in absurd cc

not_bytes : {x : List ℕ} {A : Type 0} → x ≡ codes "byte_count" → x ≡ codes "bounds" → A
not_bytes a c = let h : codes "byte_count" ≡ codes "bounds" = sym a ∙ c in absurd cc

pub one_head : OneHead IsHead
one_head k h i (count a) (count c) = refl
one_head k h i (count a) (byte_count c) = refl
one_head k h i (count a) (bounds c) = not_both a c
one_head k h i (byte_count a) (count c) = refl
one_head k h i (byte_count a) (byte_count c) = refl
one_head k h i (byte_count a) (bounds c) = not_bytes a c
one_head k h i (bounds a) (count c) = not_both c a
one_head k h i (bounds a) (byte_count c) = not_bytes c a
one_head k h i (bounds a) (bounds c) = refl

abbrev pub BehindS : Head → ℕ → List Token → List Token → Reach → Type 0
BehindS counted start = AfterS (Is kinds.OpenParen) (EndedS (Is kinds.CloseParen) (BinaryS 10))
BehindS ranged start = AfterS (Is kinds.OpenParen) RangeS

abbrev pub BehindB : Head → ℕ → List Token → List Token → Reach → Type 0
BehindB counted start = AfterB (Is kinds.OpenParen) (EndedB (Is kinds.CloseParen) (BinaryS 10) (BeginsBinary 10))
BehindB ranged start = AfterB (Is kinds.OpenParen) RangeB

pub behind_below : {n : ℕ} → ExactBelow n nowhere (BinaryS 10) (BeginsBinary 10) → (h : Head) (start : ℕ) → ExactBelow n nowhere (BehindS h start) (BehindB h start)
behind_below e counted start = within (after_exact (ended_exact e))
behind_below e ranged start = within (after_exact (range_below e))

pub to_s : (ts m : List Token) (r : Reach) → BoundsS ts m r → HeadS IsHead BehindS ts m r
to_s ts m r (written (g.count x d)) = headed (count x) (after it (end (binary d) it))
to_s ts m r (written (g.byte_count x d)) = headed (byte_count x) (after it (end (binary d) it))
to_s ts m r (written (g.unknown x y)) = headed (bounds x) (after it (unknown y))
to_s ts m r (written (g.range x d d')) = headed (bounds x) (after it (range (end (seq (end (binary d) it) (binary d')) it)))

bounds_begin : (ts m : List Token) (r : Reach) → BoundsS ts m r → BeginsBounds ts m r
bounds_begin ts m r (written (g.count x d)) = b.count x d
bounds_begin ts m r (written (g.byte_count x d)) = b.byte_count x d
bounds_begin ts m r (written (g.unknown x y)) = b.unknown x y
bounds_begin ts m r (written (g.range x d d')) = b.range x d d'

pub into_b : (ts rest : List Token) (q : Reach) → BeginsBounds ts rest q → HeadB IsHead BehindB ts rest q
into_b ts rest q b.no_bounds = none_yet
into_b ts rest q (b.count_word x) = headed (count x) not_yet
into_b ts rest q (b.count_begun x c) = headed (count x) (after it (before_end c))
into_b ts rest q (b.count x d) = headed (count x) (after it (end (binary d) it))
into_b ts rest q (b.byte_count_word x) = headed (byte_count x) not_yet
into_b ts rest q (b.byte_count_begun x c) = headed (byte_count x) (after it (before_end c))
into_b ts rest q (b.byte_count x d) = headed (byte_count x) (after it (end (binary d) it))
into_b ts rest q (b.bounds_word x) = headed (bounds x) not_yet
into_b ts rest q (b.unknown_word x y) = headed (bounds x) (after it (word y))
into_b ts rest q (b.unknown x y) = headed (bounds x) (after it (unknown y))
into_b ts rest q (b.low x c) = headed (bounds x) (after it (range (before_end (in_first (before_end c)))))
into_b ts rest q (b.high x d c) = headed (bounds x) (after it (range (before_end (in_second (end (binary d) it) c))))
into_b ts rest q (b.range x d d') = headed (bounds x) (after it (range (end (seq (end (binary d) it) (binary d')) it)))

pub from_b : (ts rest : List Token) (q : Reach) → HeadB IsHead BehindB ts rest q → BeginsBounds ts rest q
from_b ts rest q none_yet = b.no_bounds
from_b ts rest q (headed (count x) not_yet) = b.count_word x
from_b ts rest q (headed (count x) (after it (before_end c))) = b.count_begun x c
from_b ts rest q (headed (count x) (after it (end (binary d) it))) = b.count x d
from_b ts rest q (headed (byte_count x) not_yet) = b.byte_count_word x
from_b ts rest q (headed (byte_count x) (after it (before_end c))) = b.byte_count_begun x c
from_b ts rest q (headed (byte_count x) (after it (end (binary d) it))) = b.byte_count x d
from_b ts rest q (headed (bounds x) not_yet) = b.bounds_word x
from_b ts rest q (headed (bounds x) (after it (word y))) = b.unknown_word x y
from_b ts rest q (headed (bounds x) (after it (unknown y))) = b.unknown x y
from_b ts rest q (headed (bounds x) (after it (range (before_end (in_first (before_end c)))))) = b.low x c
from_b ts rest q (headed (bounds x) (after it (range (before_end (in_first (end (binary {e} d) it)))))) = subst (BeginsBounds ts rest) (beside_nowhere (expression_reach e)) (b.high x d (no_binary 10))
from_b ts rest q (headed (bounds x) (after it (range (before_end (in_second (end (binary d) it) c))))) = b.high x d c
from_b ts rest q (headed (bounds x) (after it (range (end (seq (end (binary d) it) (binary d')) it)))) = b.range x d d'

pub bounds_below : {n : ℕ} → ExactBelow n nowhere (BinaryS 10) (BeginsBinary 10) → ExactBelow (suc n) nowhere BoundsS BeginsBounds
bounds_below e = same_exact (head_exact one_head (behind_below e)) to_s bounds_begin into_b
