-- Each list of tokens is read as an expression or as bounds, or has a refusal.
use Rattle.std.proofs.Common.{◌≡◌, ◌≤◌, ◌<◌, ◌+◌, inl, inr, ℕ, zero, suc, length, Bool, true, false, List, [], ◌∷◌, Option, Some, None, refl, arith, sym, true≢false}
use Rattle.std.specs.Prelude.{codes}
use Rattle.std.proofs.lemmas.Bool.{eqb-true}
use Rattle.ckc_text.specs.declared.place.Span.{Span}
use Rattle.ckc_lexer.specs.declared.token.Token.{Token}
use Rattle.ckc_lexer.specs.declared.token.TokenKind.{TokenKind}
use Rattle.ckc_lexer.specs.declared.keyword.Keyword.TheVariants as keywords
use Rattle.ckc_lexer.specs.declared.token.TokenKind.TheVariants as kinds
use Rattle.ckc_tree.specs.declared.expr.UnaryOperator.{UnaryOperator}
use Rattle.ckc_tree.specs.declared.expr.BinaryOperator.{BinaryOperator}
use Rattle.ckc_tree.specs.declared.expr.CastWord.{CastWord}
use Rattle.ckc_tree.specs.declared.expr.MallocWord.{MallocWord}
use Rattle.ckc_tree.specs.declared.expr.CallocWord.{CallocWord}
use Rattle.ckc_tree.specs.Types.{TypeName}
use Rattle.ckc_tree.specs.Expressions.{Expression, Expressions, NoMore, Then, Number, Character, Text, Name, Call, SizeOf, Cast, BoundedCast, Malloc, Calloc, Index, Dot, Arrow, Unary, Binary, Bounds, Count, ByteCount, Unknown, Range}
use Rattle.ckc_tree.specs.Heights.{type_reach, expression_reach, expressions_reach, bounds_reach, ◌beside◌}
use Rattle.ckc_parser_grammar.specs.Tokens as words
use Rattle.ckc_parser_grammar.specs.Tokens.{token, join, identifier, unary_operator_of, cast_word_of, malloc_word_of, calloc_word_of, operator_at, level, is_of_level, has_operator, next_is, selector}
use Rattle.ckc_parser_grammar.specs.TypeGrammar.{SpellsAngled}
use Rattle.ckc_parser_grammar.specs.ExpressionGrammar as g
use Rattle.ckc_parser_grammar.specs.ExpressionGrammar.{SpellsBinary, SpellsTail, SpellsUnary, SpellsSelectors, SpellsPrimary, SpellsArguments, SpellsMoreArguments, SpellsBounds}
use Rattle.ckc_parser_grammar.specs.Failures.{Failure, IsLow}
use Rattle.ckc_parser_grammar.specs.StuckExpressions as stuck
use Rattle.ckc_parser_grammar.specs.StuckExpressions.{primary_word, unary_word, close_paren, close_bracket, comma_or_paren, bounds_word, unknown_word, is_unknown, goes_on, IsCountWord, StuckBinary, StuckTail, StuckUnary, StuckSelectors, StuckPrimary, StuckArguments, StuckMoreArguments, StuckBounds}
use Rattle.ckc_parser_grammar.proofs.Forms.{it}
use Rattle.ckc_parser_grammar.proofs.Paths.{low_around, low_beside}
use Rattle.ckc_parser_grammar.proofs.ExpressionPaths.{marks_at}
use Rattle.ckc_parser_grammar.proofs.ExpressionLinks.{operator_shrinks}
use Rattle.ckc_parser_grammar.proofs.BuiltBounds as heads
use Rattle.ckc_parser_grammar.proofs.BuiltBounds.{Head, IsHead}
use Rattle.ckc_parser_grammar.proofs.BoundsFails.{same_bytes, is_word, Worded, word_at, head_word, UnknownTokens, known, unknown_tokens}
use Rattle.ckc_parser_grammar.proofs.ExpressionFails.{low_in}
use Rattle.ckc_parser_grammar.proofs.FewNodes.{angled_takes, binary_takes, primary_takes}
use Rattle.ckc_parser_grammar.proofs.Reading.{Reading, read, refused, unexpected, too_deep, Next, here, other, next, Marks, marked, named, by_length, by_room, behind, ended}
use Rattle.ckc_parser_grammar.proofs.ReadTypes.{is_open_paren, type_name_read, angled_read}

-- ---- what is read

-- an expression and the bytes that it stands on
abbrev ReadsPlaced : ℕ → (Expression → Span → List Token → Type 0) → (Failure → Type 0) → Type 0
ReadsPlaced d Spells Stuck = Reading {X = Expression × Span} (λ x rest. Spells x.0 x.1 rest × IsLow d (expression_reach x.0)) Stuck

abbrev pub ReadsBinary : ℕ → ℕ → List Token → Type 0
ReadsBinary n d ts = ReadsPlaced d (SpellsBinary n ts) (StuckBinary n d ts)

abbrev ReadsTail : ℕ → ℕ → Expression → Span → List Token → Type 0
ReadsTail n d left o ts = ReadsPlaced d (SpellsTail n left o ts) (StuckTail n left o d ts)

abbrev pub ReadsUnary : ℕ → List Token → Type 0
ReadsUnary d ts = ReadsPlaced d (SpellsUnary ts) (StuckUnary d ts)

abbrev ReadsSelectors : ℕ → Expression → Span → List Token → Type 0
ReadsSelectors d e o ts = ReadsPlaced d (SpellsSelectors e o ts) (StuckSelectors e o d ts)

abbrev ReadsPrimary : ℕ → List Token → Type 0
ReadsPrimary d ts = ReadsPlaced d (SpellsPrimary ts) (StuckPrimary d ts)

abbrev ReadsListed : ℕ → (Expressions → Span → List Token → Type 0) → (Failure → Type 0) → Type 0
ReadsListed d Spells Stuck = Reading {X = Expressions × Span} (λ x rest. Spells x.0 x.1 rest × IsLow d (expressions_reach x.0)) Stuck

abbrev ReadsArguments : ℕ → List Token → Type 0
ReadsArguments d ts = ReadsListed d (SpellsArguments ts) (StuckArguments d ts)

abbrev ReadsMore : ℕ → List Token → Type 0
ReadsMore d ts = ReadsListed d (SpellsMoreArguments ts) (StuckMoreArguments d ts)

abbrev pub ReadsBounds : ℕ → List Token → Type 0
ReadsBounds d ts = Reading {X = Bounds × Span} (λ x rest. SpellsBounds ts x.0 x.1 rest × IsLow d (bounds_reach x.0)) (StuckBounds d ts)

-- expressions are read that stand in fewer tokens
abbrev Shorter : ℕ → Type 0
Shorter n = (us : List Token) → length us < n → (level d : ℕ) → ReadsBinary level d us

-- ---- marks and words

pub is_close_paren : Marks kinds.CloseParen close_paren
is_close_paren kinds.CloseParen so = it
is_close_paren _ so = absurd (true≢false (sym so))

pub is_close_bracket : Marks kinds.CloseBracket close_bracket
is_close_bracket kinds.CloseBracket so = it
is_close_bracket _ so = absurd (true≢false (sym so))

pub is_comma : Marks kinds.Comma words.comma
is_comma kinds.Comma so = it
is_comma _ so = absurd (true≢false (sym so))

pub data EndsArgument : TokenKind → Type 0 where
  comma : EndsArgument kinds.Comma
  paren : EndsArgument kinds.CloseParen

pub ends_argument : (k : TokenKind) → comma_or_paren k ≡ true → EndsArgument k
ends_argument kinds.Comma so = comma
ends_argument kinds.CloseParen so = paren
ends_argument _ so = absurd (true≢false (sym so))

data Selects : TokenKind → Type 0 where
  bracket : Selects kinds.OpenBracket
  dot : Selects kinds.Dot
  arrow : Selects kinds.Arrow

selects : (k : TokenKind) → selector k ≡ true → Selects k
selects kinds.OpenBracket so = bracket
selects kinds.Dot so = dot
selects kinds.Arrow so = arrow
selects _ so = absurd (true≢false (sym so))

-- ---- operators behind an expression

-- an operator of this level stands first
record OperatorAt (n : ℕ) (ts : List Token) : Type 0 where
  operator : BinaryOperator
  behind : List Token
  found : operator_at ts ≡ Some (operator, behind)
  level : level operator ≡ n

operator_here : (n : ℕ) (ts : List Token) → has_operator n ts ≡ true → OperatorAt n ts
operator_here n ts so = by (operator_at ts) refl so
  where
    by : (o : Option (BinaryOperator × List Token)) → operator_at ts ≡ o → is_of_level n o ≡ true → OperatorAt n ts
    by None is so = absurd cc
    by (Some found) is so = record { operator = found.0; behind = found.1; found = is; level = eqb-true (level found.0) n so }

-- what is read behind an expression so far, in fewer tokens
abbrev Onward : (Expression → Span → List Token → Type 0) → ℕ → ℕ → Type 0
Onward Reads d n = (us : List Token) → length us < n → (e : Expression) (o : Span) → IsLow d (expression_reach e) → Reads e o us

deep_tail : {n d : ℕ} {w : BinaryOperator} {us : List Token} (ts : List Token) (left : Expression) (o : Span) → operator_at ts ≡ Some (w, us) → level w ≡ suc n → 200 ≤ d + (expression_reach left).height → ReadsTail n d left o ts
deep_tail [] left o found same full = absurd cc
deep_tail (t ∷ ts) left o found same full = refused _ too_deep (stuck.tail_deep found same full)

operand : {m n d : ℕ} (ts : List Token) (left : Expression) (o : Span) → Shorter m → length ts ≤ m → Onward (ReadsTail n d) d (length ts) → OperatorAt (suc n) ts → d + (expression_reach left).height < 200 → ReadsTail n d left o ts
operand {n} {d} ts left o shorter less onward f room =
    behind (shorter f.behind (omega (arith, less, operator_shrinks (marks_at ts f.found))) n (suc d)) (λ _ x. stuck.right f.found f.level room x)
    (λ x mid r. behind (onward mid (omega (arith, operator_shrinks (marks_at ts f.found), binary_takes r.0)) (Binary f.operator left x.0 (join o x.1)) (join o x.1) (low_in d o.from (expression_reach left) (expression_reach x.0) room r.1))
    (λ _ y. stuck.further f.found f.level room r.0 r.1 y)
    (λ y rest q. read y rest (g.level_more f.found f.level r.0 q.0, q.1)))

tail_step : {m n d : ℕ} → Shorter m → (ts : List Token) → Onward (ReadsTail n d) d (length ts) → length ts ≤ m → (left : Expression) (o : Span) → IsLow d (expression_reach left) → ReadsTail n d left o ts
tail_step {n} {d} shorter ts onward less left o low = by (has_operator (suc n) ts) refl
  where
    at_operator : OperatorAt (suc n) ts → ReadsTail n d left o ts
    at_operator f = by_room (d + (expression_reach left).height) (λ room. operand ts left o shorter less onward f room) (λ full. deep_tail ts left o f.found f.level full)

    by : (b : Bool) → has_operator (suc n) ts ≡ b → ReadsTail n d left o ts
    by true so = at_operator (operator_here (suc n) ts so)
    by false none = read (left, o) ts (g.level_done none, low)

tail_read : {m : ℕ} → Shorter m → (n d : ℕ) (ts : List Token) → length ts ≤ m → (left : Expression) (o : Span) → IsLow d (expression_reach left) → ReadsTail n d left o ts
tail_read {m} shorter n d = by_length (λ ts. length ts ≤ m → (left : Expression) (o : Span) → IsLow d (expression_reach left) → ReadsTail n d left o ts) (λ ts again less. tail_step shorter ts (λ us short. again us short (omega (arith, short, less))) less)

-- ---- indices and members behind an expression

indexed : {m d : ℕ} {s : Span} (ts : List Token) (e : Expression) (o : Span) → Shorter m → length ts < m → Onward (ReadsSelectors d) d (suc (length ts)) → d + (expression_reach e).height < 200 → ReadsSelectors d e o (token kinds.OpenBracket s ∷ ts)
indexed {d} ts e o shorter less onward room =
    ended is_close_bracket (shorter ts less 10 (suc d)) (λ _ x. stuck.index room x) (λ x rest r none. stuck.selectors_close room r.0 r.1 none)
    (λ x t mid r. behind (onward mid (omega (arith, binary_takes r.0)) (Index e x.0 (join o t)) (join o t) (low_in d o.from (expression_reach e) (expression_reach x.0) room r.1))
    (λ _ y. stuck.indexed room r.0 r.1 y)
    (λ y rest q. read y rest (g.index r.0 q.0, q.1)))

dotted : {d : ℕ} {s : Span} (ts : List Token) (e : Expression) (o : Span) → Onward (ReadsSelectors d) d (suc (length ts)) → d + (expression_reach e).height < 200 → ReadsSelectors d e o (token kinds.Dot s ∷ ts)
dotted {d} {s} ts e o onward room = named (λ us. Onward (ReadsSelectors d) d (suc (length us)) → ReadsSelectors d e o (token kinds.Dot s ∷ us)) ts
    (λ us none _. refused _ unexpected (stuck.dot room none))
    (λ x t us all. behind (all us (omega arith) (Dot e (identifier x t) (join o t)) (join o t) (low_around d o.from (expression_reach e) (omega (arith, room)))) (λ _ y. stuck.dotted room y) (λ y rest q. read y rest (g.dot q.0, q.1)))
    onward

pointed : {d : ℕ} {s : Span} (ts : List Token) (e : Expression) (o : Span) → Onward (ReadsSelectors d) d (suc (length ts)) → d + (expression_reach e).height < 200 → ReadsSelectors d e o (token kinds.Arrow s ∷ ts)
pointed {d} {s} ts e o onward room = named (λ us. Onward (ReadsSelectors d) d (suc (length us)) → ReadsSelectors d e o (token kinds.Arrow s ∷ us)) ts
    (λ us none _. refused _ unexpected (stuck.arrow room none))
    (λ x t us all. behind (all us (omega arith) (Arrow e (identifier x t) (join o t)) (join o t) (low_around d o.from (expression_reach e) (omega (arith, room)))) (λ _ y. stuck.pointed room y) (λ y rest q. read y rest (g.arrow q.0, q.1)))
    onward

selectors_step : {m d : ℕ} → Shorter m → (ts : List Token) → Onward (ReadsSelectors d) d (length ts) → length ts ≤ m → (e : Expression) (o : Span) → IsLow d (expression_reach e) → ReadsSelectors d e o ts
selectors_step {m} {d} shorter ts onward less e o low = by (next (λ k so. so) ts) onward less
  where
    selected : {k : TokenKind} {s : Span} {ts : List Token} → Selects k → Onward (ReadsSelectors d) d (suc (length ts)) → length ts < m → d + (expression_reach e).height < 200 → ReadsSelectors d e o (token k s ∷ ts)
    selected {ts} bracket onward less room = indexed ts e o shorter less onward room
    selected {ts} dot onward less room = dotted ts e o onward room
    selected {ts} arrow onward less room = pointed ts e o onward room

    by : {ts : List Token} → Next (λ k. selector k ≡ true) selector ts → Onward (ReadsSelectors d) d (length ts) → length ts ≤ m → ReadsSelectors d e o ts
    by (here {k} so) onward less = by_room (d + (expression_reach e).height) (λ room. selected (selects k so) onward (omega (arith, less)) room) (λ full. refused _ too_deep (stuck.selectors_deep so full))
    by (other none) onward less = read (e, o) _ (g.unselected none, low)

selectors_read : {m : ℕ} → Shorter m → (d : ℕ) (ts : List Token) → length ts ≤ m → (e : Expression) (o : Span) → IsLow d (expression_reach e) → ReadsSelectors d e o ts
selectors_read {m} shorter d = by_length (λ ts. length ts ≤ m → (e : Expression) (o : Span) → IsLow d (expression_reach e) → ReadsSelectors d e o ts) (λ ts again less. selectors_step shorter ts (λ us short. again us short (omega (arith, short, less))) less)

-- ---- the arguments of a call

more_step : {m : ℕ} → Shorter m → {d : ℕ} → d ≤ 200 → (ts : List Token) → ((us : List Token) → length us < length ts → ReadsMore d us) → length ts ≤ m → ReadsMore d ts
more_step {m} shorter {d} high ts again less = by (next ends_argument ts) again less
  where
    by : {ts : List Token} → Next EndsArgument comma_or_paren ts → ((us : List Token) → length us < length ts → ReadsMore d us) → length ts ≤ m → ReadsMore d ts
    by (here {s} {rest} paren) again less = read (NoMore, s) rest (g.no_other, omega (arith, high))
    by (here {rest = us} comma) again less = behind (shorter us (omega (arith, less)) 10 d) (λ _ x. stuck.other x)
        (λ x mid r. behind (again mid (omega (arith, binary_takes r.0))) (λ _ y. stuck.still_others r.0 r.1 y)
        (λ y rest q. read (Then x.0 y.0, y.1) rest (g.other r.0 q.0, low_beside d (expression_reach x.0) (expressions_reach y.0) r.1 q.1)))
    by (other none) again less = refused _ unexpected (stuck.end none)

more_read : {m : ℕ} → Shorter m → {d : ℕ} → d ≤ 200 → (ts : List Token) → length ts ≤ m → ReadsMore d ts
more_read {m} shorter {d} high = by_length (λ ts. length ts ≤ m → ReadsMore d ts) (λ ts again less. more_step shorter high ts (λ us short. again us short (omega (arith, short, less))) less)

arguments_read : {m : ℕ} → Shorter m → {d : ℕ} → d ≤ 200 → (ts : List Token) → length ts < m → ReadsArguments d ts
arguments_read {m} shorter {d} high ts less = marked is_close_paren (λ us. length us < m → ReadsArguments d us) ts first (λ s us _. read (NoMore, s) us (g.no_argument, omega (arith, high))) less
  where
    first : (us : List Token) → next_is close_paren us ≡ false → length us < m → ReadsArguments d us
    first us none less = behind (shorter us less 10 d) (λ _ x. stuck.argument none x)
        (λ x mid r. behind (more_read shorter high mid (omega (arith, less, binary_takes r.0))) (λ _ y. stuck.others r.0 r.1 y)
        (λ y rest q. read (Then x.0 y.0, y.1) rest (g.argument r.0 q.0, low_beside d (expression_reach x.0) (expressions_reach y.0) r.1 q.1)))

-- ---- bounds

-- behind `count` or `byte_count` and a parenthesis
count_read : {m d : ℕ} {x : List ℕ} {s p : Span} → IsCountWord x → Shorter m → (ts : List Token) → length ts < m → ReadsBounds d (token (kinds.Name x) s ∷ token kinds.OpenParen p ∷ ts)
count_read {d} {x} {s} {p} is shorter ts less = ended is_close_paren (shorter ts less 10 d) (λ _ y. stuck.count is y) (λ e rest r none. stuck.count_close is r.0 r.1 none) (λ e t rest r. by is e t rest r.0 r.1)
  where
    by : IsCountWord x → (e : Expression × Span) (t : Span) (rest : List Token) → SpellsBinary 10 ts e.0 e.1 (token kinds.CloseParen t ∷ rest) → IsLow d (expression_reach e.0) → ReadsBounds d (token (kinds.Name x) s ∷ token kinds.OpenParen p ∷ ts)
    by (inl same) e t rest spelled low = read (Count e.0 (join s t), join s t) rest (g.count same spelled, low)
    by (inr same) e t rest spelled low = read (ByteCount e.0 (join s t), join s t) rest (g.byte_count same spelled, low)

-- behind `bounds` and a parenthesis, where no `unknown` that ends stands
range_read : {m d : ℕ} {x : List ℕ} {s p : Span} → x ≡ codes "bounds" → Shorter m → (ts : List Token) → length ts < m → is_unknown ts ≡ false
    → ((f : Failure) → StuckBinary 10 d ts f → StuckBounds d (token (kinds.Name x) s ∷ token kinds.OpenParen p ∷ ts) f) → ReadsBounds d (token (kinds.Name x) s ∷ token kinds.OpenParen p ∷ ts)
range_read {d} {s} same shorter ts less known_not fails = ended is_comma (shorter ts less 10 d) fails (λ low rest r none. stuck.comma same known_not r.0 r.1 none)
    (λ low q us r. ended is_close_paren (shorter us (omega (arith, less, binary_takes r.0)) 10 d) (λ _ y. stuck.high same r.0 r.1 y) (λ high rest h none. stuck.bounds_close same r.0 r.1 h.0 h.1 none)
    (λ high t rest h. read (Range low.0 high.0 (join s t), join s t) rest (g.range same r.0 h.0, low_beside d (expression_reach low.0) (expression_reach high.0) r.1 h.1)))

-- where no node may stand, and the word `unknown` stands that doesn't end
full_read : {d : ℕ} {x y : List ℕ} {s p q : Span} → x ≡ codes "bounds" → y ≡ codes "unknown" → 200 ≤ d → (ts : List Token) → next_is close_paren ts ≡ false → ReadsBounds d (token (kinds.Name x) s ∷ token kinds.OpenParen p ∷ token (kinds.Name y) q ∷ ts)
full_read {d} {x} {y} {s} {p} {q} same too full ts none = by ts (goes_on ts) refl none
  where
    by : (us : List Token) (b : Bool) → goes_on us ≡ b → next_is close_paren us ≡ false → ReadsBounds d (token (kinds.Name x) s ∷ token kinds.OpenParen p ∷ token (kinds.Name y) q ∷ us)
    by [] true so none = absurd cc
    by (t ∷ us) true so none = refused _ too_deep (stuck.unknown_deep same too full so)
    by us false so none = refused _ unexpected (stuck.unknown_end same too full so none)

data IsUnknown : TokenKind → Type 0 where
  word : {y : List ℕ} → y ≡ codes "unknown" → IsUnknown (kinds.Name y)

unknown_at : (k : TokenKind) → unknown_word k ≡ true → IsUnknown k
unknown_at (kinds.Name y) so = word (same_bytes y (codes "unknown") so)
unknown_at _ so = absurd (true≢false (sym so))

no_paren : {y : List ℕ} (q : Span) (ts : List Token) → y ≡ codes "unknown" → is_unknown (token (kinds.Name y) q ∷ ts) ≡ false → next_is close_paren ts ≡ false
no_paren q ts too none = rw (is_word too) at none

abbrev ReadsBehind : ℕ → List ℕ → Span → Span → List Token → Type 0
ReadsBehind d x s p ts = ReadsBounds d (token (kinds.Name x) s ∷ token kinds.OpenParen p ∷ ts)

ends_read : {m d : ℕ} {x : List ℕ} {s p : Span} → d ≤ 200 → x ≡ codes "bounds" → Shorter m → (ts : List Token) → length ts < m → ReadsBounds d (token (kinds.Name x) s ∷ token kinds.OpenParen p ∷ ts)
ends_read {m} {d} {x} {s} {p} high same shorter ts less = by (is_unknown ts) refl
  where
    alone : {us : List Token} → UnknownTokens us → ReadsBehind d x s p us
    alone (known {t} {m = rest} too) = read (Unknown (join s t), join s t) rest (g.unknown same too, omega (arith, high))

    in_full : {us : List Token} → 200 ≤ d → Next IsUnknown unknown_word us → length us < m → is_unknown us ≡ false → ReadsBehind d x s p us
    in_full full (other none) less not_alone = range_read same shorter _ less not_alone (λ _ y. stuck.low_in_full same none y)
    in_full full (here {s = q} {rest} (word too)) less not_alone = full_read same too full rest (no_paren q rest too not_alone)

    by : (b : Bool) → is_unknown ts ≡ b → ReadsBehind d x s p ts
    by true so = alone (unknown_tokens ts so)
    by false none = by_room d (λ room. range_read same shorter ts less none (λ _ y. stuck.low same none room y)) (λ full. in_full full (next unknown_at ts) less none)

bounds_read : {m d : ℕ} → d ≤ 200 → Shorter m → (ts : List Token) → length ts ≤ m → ReadsBounds d ts
bounds_read {m} {d} high shorter ts less = by (next word_at ts) less
  where
    worded : {k : TokenKind} {h : Head} {s p : Span} → IsHead k h → (us : List Token) → length us < m → ReadsBounds d (token k s ∷ token kinds.OpenParen p ∷ us)
    worded (heads.count same) us less = count_read (inl same) shorter us less
    worded (heads.byte_count same) us less = count_read (inr same) shorter us less
    worded (heads.bounds same) us less = ends_read high same shorter us less

    by : {ts : List Token} → Next Worded bounds_word ts → length ts ≤ m → ReadsBounds d ts
    by (other none) less = refused _ unexpected (stuck.no_bounds none)
    by (here {k} {s} {rest} w) less = marked is_open_paren (λ us. length us < m → ReadsBounds d (token k s ∷ us)) rest (λ us none _. refused _ unexpected (stuck.opens (head_word w.is) none)) (λ p us short. worded w.is us (omega (arith, short))) (omega (arith, less))

-- ---- casts and allocations

-- behind the word of a cast
cast_read : {m d : ℕ} {k : TokenKind} {s : Span} {w : CastWord} → cast_word_of k ≡ Some w → d < 200 → Shorter m → (ts : List Token) → length ts < m → ReadsPrimary d (token k s ∷ ts)
cast_read {m} {d} {k} {s} {w} is room shorter ts less = behind (angled_read ts (suc d)) (λ _ y. stuck.cast_type is room y)
    (λ type us a. behind (shorter us (omega (arith, less, angled_takes a.0)) 10 (suc d)) (λ _ y. stuck.cast_operand is room a.0 a.1 y)
    (λ x rest r. by type us a.0 a.1 x (next ends_argument rest) r.0 r.1))
  where
    bounded : (type : TypeName) (us : List Token) → SpellsAngled ts type us → IsLow (suc d) (type_reach type.base) → (x : Expression × Span) (p : Span) (vs : List Token) → SpellsBinary 10 us x.0 x.1 (token kinds.Comma p ∷ vs) → IsLow (suc d) (expression_reach x.0) → ReadsPrimary d (token k s ∷ ts)
    bounded type us a low x p vs e low' = ended is_close_paren (bounds_read (omega (arith, room)) shorter vs (omega (arith, less, angled_takes a, binary_takes e))) (λ _ y. stuck.cast_bounds is room a low e low' y) (λ b rest r none. stuck.cast_close is a low e low' r.0 r.1 none)
        (λ b t rest r. read (BoundedCast w type x.0 b.0 (join s t), join s t) rest (g.bounded_cast is a e r.0, low_around d s.from (type_reach type.base beside expression_reach x.0 beside bounds_reach b.0) (low_beside (suc d) (type_reach type.base beside expression_reach x.0) (bounds_reach b.0) (low_beside (suc d) (type_reach type.base) (expression_reach x.0) low low') r.1)))

    by : (type : TypeName) (us : List Token) → SpellsAngled ts type us → IsLow (suc d) (type_reach type.base) → (x : Expression × Span) {rest : List Token} → Next EndsArgument comma_or_paren rest → SpellsBinary 10 us x.0 x.1 rest → IsLow (suc d) (expression_reach x.0) → ReadsPrimary d (token k s ∷ ts)
    by type us a low x (here {s = t} {rest} paren) e low' = read (Cast w type x.0 (join s t), join s t) rest (g.cast is a e, low_around d s.from (type_reach type.base beside expression_reach x.0) (low_beside (suc d) (type_reach type.base) (expression_reach x.0) low low'))
    by type us a low x (here {s = p} {rest = vs} comma) e low' = bounded type us a low x p vs e low'
    by type us a low x (other none) e low' = refused _ unexpected (stuck.cast_end is a low e low' none)

-- behind `malloc` or `t_malloc`
malloc_read : {m d : ℕ} {k : TokenKind} {s : Span} {w : MallocWord} → malloc_word_of k ≡ Some w → d < 200 → Shorter m → (ts : List Token) → length ts < m → ReadsPrimary d (token k s ∷ ts)
malloc_read {d} {s} {w} is room shorter ts less = behind (angled_read ts (suc d)) (λ _ y. stuck.malloc_type is room y)
    (λ type us a. ended is_close_paren (shorter us (omega (arith, less, angled_takes a.0)) 10 (suc d)) (λ _ y. stuck.malloc_size is room a.0 a.1 y) (λ x rest r none. stuck.malloc_close is a.0 a.1 r.0 r.1 none)
    (λ x t rest r. read (Malloc w type x.0 (join s t), join s t) rest (g.malloc is a.0 r.0, low_around d s.from (type_reach type.base beside expression_reach x.0) (low_beside (suc d) (type_reach type.base) (expression_reach x.0) a.1 r.1))))

-- behind `calloc` or `nt_calloc`
calloc_read : {m d : ℕ} {k : TokenKind} {s : Span} {w : CallocWord} → calloc_word_of k ≡ Some w → d < 200 → Shorter m → (ts : List Token) → length ts < m → ReadsPrimary d (token k s ∷ ts)
calloc_read {d} {s} {w} is room shorter ts less = behind (angled_read ts (suc d)) (λ _ y. stuck.calloc_type is room y)
    (λ type us a. ended is_comma (shorter us (omega (arith, less, angled_takes a.0)) 10 (suc d)) (λ _ y. stuck.calloc_count is room a.0 a.1 y) (λ x rest r none. stuck.calloc_comma is a.0 a.1 r.0 r.1 none)
    (λ x p vs r. ended is_close_paren (shorter vs (omega (arith, less, angled_takes a.0, binary_takes r.0)) 10 (suc d)) (λ _ y. stuck.calloc_size is room a.0 a.1 r.0 r.1 y) (λ z rest q none. stuck.calloc_close is a.0 a.1 r.0 r.1 q.0 q.1 none)
    (λ z t rest q. read (Calloc w type x.0 z.0 (join s t), join s t) rest (g.calloc is a.0 r.0 q.0, low_around d s.from (type_reach type.base beside expression_reach x.0 beside expression_reach z.0) (low_beside (suc d) (type_reach type.base beside expression_reach x.0) (expression_reach z.0) (low_beside (suc d) (type_reach type.base) (expression_reach x.0) a.1 r.1) q.1)))))

-- ---- the smallest expressions

-- behind a name
name_read : {m d : ℕ} {x : List ℕ} {s : Span} → d < 200 → Shorter m → (ts : List Token) → length ts ≤ m → ReadsPrimary d (token (kinds.Name x) s ∷ ts)
name_read {m} {d} {x} {s} room shorter ts less = marked is_open_paren (λ us. length us ≤ m → ReadsPrimary d (token (kinds.Name x) s ∷ us)) ts
    (λ us none _. read (Name (identifier x s), s) us (g.name none, omega (arith, room)))
    (λ p us short. behind (arguments_read shorter (omega (arith, room)) us (omega (arith, short))) (λ _ y. stuck.arguments room y)
    (λ xs rest r. read (Call (identifier x s) xs.0 (join s xs.1), join s xs.1) rest (g.called (g.call r.0), low_around d s.from (expressions_reach xs.0) r.1)))
    less

-- behind `sizeof`
size_of_read : {d : ℕ} {s : Span} → d < 200 → (ts : List Token) → ReadsPrimary d (token (kinds.Keyword keywords.Sizeof) s ∷ ts)
size_of_read {d} {s} room ts = marked is_open_paren (λ us. ReadsPrimary d (token (kinds.Keyword keywords.Sizeof) s ∷ us)) ts (λ us none. refused _ unexpected (stuck.size_of_open room none))
    (λ p us. ended is_close_paren (type_name_read us (suc d)) (λ _ y. stuck.size_of_type room y) (λ type rest r none. stuck.size_of_close r.0 r.1 none)
    (λ type t rest r. read (SizeOf type (join s t), join s t) rest (g.size_of r.0, low_around d s.from (type_reach type.base) r.1)))

primary_read : {m d : ℕ} {s : Span} → d < 200 → Shorter m → (k : TokenKind) → primary_word k ≡ true → (ts : List Token) → length ts < m → ReadsPrimary d (token k s ∷ ts)
primary_read {s} room shorter (kinds.Number n) so ts less = read (Number n s, s) ts (g.number, omega (arith, room))
primary_read {s} room shorter (kinds.Character n) so ts less = read (Character n s, s) ts (g.character, omega (arith, room))
primary_read {s} room shorter (kinds.Text x) so ts less = read (Text x s, s) ts (g.text, omega (arith, room))
primary_read room shorter (kinds.Name x) so ts less = name_read room shorter ts (omega (arith, less))
primary_read room shorter (kinds.Keyword keywords.Sizeof) so ts less = size_of_read room ts
primary_read room shorter (kinds.Keyword keywords.DynamicBoundsCast) so ts less = cast_read refl room shorter ts less
primary_read room shorter (kinds.Keyword keywords.AssumeBoundsCast) so ts less = cast_read refl room shorter ts less
primary_read room shorter (kinds.Keyword keywords.Malloc) so ts less = malloc_read refl room shorter ts less
primary_read room shorter (kinds.Keyword keywords.TMalloc) so ts less = malloc_read refl room shorter ts less
primary_read room shorter (kinds.Keyword keywords.Calloc) so ts less = calloc_read refl room shorter ts less
primary_read room shorter (kinds.Keyword keywords.NtCalloc) so ts less = calloc_read refl room shorter ts less
primary_read room shorter _ so ts less = absurd cc

-- ---- operators before an operand, and what an operand is

data FirstWord : TokenKind → Type 0 where
  operator : {k : TokenKind} {w : UnaryOperator} → unary_operator_of k ≡ Some w → FirstWord k
  paren : FirstWord kinds.OpenParen
  primary : {k : TokenKind} → primary_word k ≡ true → FirstWord k

first_word : (k : TokenKind) → unary_word k ≡ true → FirstWord k
first_word kinds.Star so = operator refl
first_word kinds.Ampersand so = operator refl
first_word kinds.Minus so = operator refl
first_word kinds.Not so = operator refl
first_word kinds.Tilde so = operator refl
first_word kinds.OpenParen so = paren
first_word k so = primary so

postfix : {m d : ℕ} {ts : List Token} → Shorter m → length ts ≤ m → ReadsPrimary d ts → ReadsUnary d ts
postfix {d} shorter less p = behind p (λ _ y. stuck.primary y)
    (λ x mid r. behind (selectors_read shorter d mid (omega (arith, less, primary_takes r.0)) x.0 x.1 r.1) (λ _ y. stuck.selectors r.0 r.1 y) (λ y rest q. read y rest (g.postfix r.0 q.0, q.1)))

operated : {d : ℕ} {k : TokenKind} {s : Span} {ts : List Token} {w : UnaryOperator} → unary_operator_of k ≡ Some w → ReadsUnary (suc d) ts → ReadsUnary d (token k s ∷ ts)
operated {d} {s} {w} is inner = by_room d
    (λ room. behind inner (λ _ y. stuck.operator is room y) (λ x rest r. read (Unary w x.0 (join s x.1), join s x.1) rest (g.operator is r.0, low_around d s.from (expression_reach x.0) r.1)))
    (λ full. refused _ too_deep (stuck.deep_operator is full))

parenthesised : {m d : ℕ} {s : Span} → Shorter m → (ts : List Token) → length ts < m → ReadsPrimary d (token kinds.OpenParen s ∷ ts)
parenthesised {d} {s} shorter ts less = ended is_close_paren (shorter ts less 10 d) (λ _ y. stuck.inside y) (λ x rest r none. stuck.primary_close r.0 r.1 none) (λ x t rest r. read (x.0, join s t) rest (g.parentheses r.0, r.1))

unary_read : (ts : List Token) (d : ℕ) → Shorter (length ts) → ReadsUnary d ts
unary_read [] d shorter = refused _ unexpected (stuck.no_expression refl)
unary_read (t ∷ ts) d shorter = by (next first_word (t ∷ ts)) shorter (unary_read ts (suc d) (λ us less. shorter us (omega (arith, less))))
  where
    by : {t : Token} {ts : List Token} → Next FirstWord unary_word (t ∷ ts) → Shorter (suc (length ts)) → ReadsUnary (suc d) ts → ReadsUnary d (t ∷ ts)
    by (here (operator is)) shorter inner = operated is inner
    by (here {rest} paren) shorter inner = postfix shorter (omega arith) (parenthesised shorter rest (omega arith))
    by (here {k} {rest} (primary so)) shorter inner = by_room d (λ room. postfix shorter (omega arith) (primary_read room shorter k so rest (omega arith))) (λ full. refused _ too_deep (stuck.primary (stuck.primary_deep so full)))
    by (other none) shorter inner = refused _ unexpected (stuck.no_expression none)

-- ---- operators of all levels

level_read : (ts : List Token) → Shorter (length ts) → (n d : ℕ) → ReadsBinary n d ts
level_read ts shorter zero d = behind (unary_read ts d shorter) (λ _ y. stuck.operand y) (λ x rest r. read x rest (g.operand r.0, r.1))
level_read ts shorter (suc n) d = behind (level_read ts shorter n d) (λ _ y. stuck.first y)
    (λ x mid r. behind (tail_read shorter n d mid (omega (arith, binary_takes r.0)) x.0 x.1 r.1) (λ _ y. stuck.operators r.0 r.1 y) (λ y rest q. read y rest (g.operators r.0 q.0, q.1)))

pub binary_read : (ts : List Token) (n d : ℕ) → ReadsBinary n d ts
binary_read = by_length (λ ts. (n d : ℕ) → ReadsBinary n d ts) level_read

pub expression_read : (ts : List Token) (d : ℕ) → ReadsBinary 10 d ts
expression_read ts d = binary_read ts 10 d

pub target_read : (ts : List Token) (d : ℕ) → ReadsUnary d ts
target_read ts d = unary_read ts d (λ us less. binary_read us)

pub written_bounds_read : (ts : List Token) {d : ℕ} → d ≤ 200 → ReadsBounds d ts
written_bounds_read ts high = bounds_read {m = length ts} high (λ us less. binary_read us) ts (omega arith)
