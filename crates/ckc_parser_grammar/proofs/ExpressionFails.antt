-- Where reading an expression is stuck, it fails.
use Rattle.std.proofs.Common.{◌≡◌, ◌≤◌, ◌<◌, ◌+◌, ◌⊎◌, inl, inr, ℕ, suc, length, true, false, List, [], ◌∷◌, Some, refl, sym, ap, subst, ◌∙◌, arith, true≢false}
use Rattle.std.specs.Option.{is_some}
use Rattle.ckc_text.specs.declared.place.Span.{Span}
use Rattle.ckc_lexer.specs.declared.token.Token.{Token}
use Rattle.ckc_lexer.specs.declared.token.TokenKind.{TokenKind}
use Rattle.ckc_lexer.specs.declared.keyword.Keyword.TheVariants as keywords
use Rattle.ckc_lexer.specs.declared.token.TokenKind.TheVariants as kinds
use Rattle.ckc_tree.specs.declared.expr.BinaryOperator.{BinaryOperator}
use Rattle.ckc_tree.specs.Expressions.{Expression}
use Rattle.ckc_tree.specs.Heights.{Reach, nowhere, node, around, ◌beside◌, type_reach, expression_reach}
use Rattle.ckc_parser_grammar.specs.Tokens.{token, next_is, comma, selector, operator_at, level}
use Rattle.ckc_parser_grammar.specs.ExpressionGrammar.{SpellsBinary}
use Rattle.ckc_parser_grammar.specs.TypeBeginnings as tb
use Rattle.ckc_parser_grammar.specs.ExpressionBeginnings as b
use Rattle.ckc_parser_grammar.specs.ExpressionBeginnings.{BeginsBinary, BeginsUnary, BeginsPrimary, BeginsArguments, BeginsBounds}
use Rattle.ckc_parser_grammar.specs.Failures as failures
use Rattle.ckc_parser_grammar.specs.Failures.{Failure, IsLow}
use Rattle.ckc_parser_grammar.specs.StuckTypes.{name_token}
use Rattle.ckc_parser_grammar.specs.StuckExpressions as stuck
use Rattle.ckc_parser_grammar.specs.StuckExpressions.{primary_word, unary_word, close_paren, close_bracket, comma_or_paren, StuckBinary, StuckTail, StuckUnary, StuckSelectors, StuckPrimary, StuckArguments, StuckMoreArguments, StuckBounds}
use Rattle.ckc_parser_grammar.proofs.Heads.{class, class_at}
use Rattle.ckc_parser_grammar.proofs.OneExpression.{binary_same, behind, found_same, move_binary, after}
use Rattle.ckc_parser_grammar.proofs.Paths.{beside_nowhere, around_height, beside_height, low_around, low_beside}
use Rattle.ckc_parser_grammar.proofs.ExpressionPaths.{no_binary, Marks, mark, shift, marks_at}
use Rattle.ckc_parser_grammar.proofs.Forms.{all, end_length, Is, it, Exact, ExactValue, exact_on_all, value_on_all, value_within, below, move, SeqS, SeqB, seq, in_first, seq_all, EndedS, EndedB, before_end, end, ended_all, not_yet, node_all, no}
use Rattle.ckc_parser_grammar.proofs.Ahead.{never}
use Rattle.ckc_parser_grammar.proofs.Forms as forms
use Rattle.ckc_parser_grammar.proofs.Failing as failing
use Rattle.ckc_parser_grammar.proofs.Failing.{Fails, unexpected, too_deep, beside_higher, inner_start, deep_around, fails_first, fails_second, fails_before_end, fails_at_end, fails_after, fails_at_first, fails_node, fails_yes, fails_no, fails_in_link, fails_behind_link, fails_headed, fails_unheaded, fails_deep_head, fails_as}
use Rattle.ckc_parser_grammar.proofs.TypeForms.{named, angled, type_name_exact, type_name_fails, angled_exact, angled_fails, paren_is}
use Rattle.ckc_parser_grammar.proofs.ExpressionLinks as links
use Rattle.ckc_parser_grammar.proofs.ExpressionLinks.{Value, reach, BinaryS, binary, Selected, Selecting, selected_below, Operated, operated, Operating, operated_below, operator_shrinks}
use Rattle.ckc_parser_grammar.proofs.PrimaryForms as primaries
use Rattle.ckc_parser_grammar.proofs.PrimaryForms.{PrimaryS, primary, ArgumentsS, MoreS, MoreB, BoundsS, written, BehindS, BehindB, IsHead, TypedS, TypedB, CastEndS, CastEndB, cast_end_below, behind_below}
use Rattle.ckc_parser_grammar.proofs.BuiltBounds as bounds
use Rattle.ckc_parser_grammar.proofs.BoundsFails.{worded_fails, opened_fails, unworded_fails, range_exact, low_fails, comma_fails, high_fails, close_fails, pair_fails, not_unknown, no_unknown, word_fails, word_deep}
use Rattle.ckc_parser_grammar.proofs.ExpressionForms as whole
use Rattle.ckc_parser_grammar.proofs.ExpressionForms.{binary_exact, unary_exact, more_exact, arguments_exact, bounds_exact, selectors_exact, tail_exact, primary_value_exact, binary_value_exact, UnaryS, unary, PrimaryValue, of_primary, BinaryValue, of_binary, UnaryValue, of_unary, SelectorsS, SelectorsB, TailS, TailB, some_node, has, one_operator, no_primary_word}

-- ---- tokens that are told apart

close_is : (k : TokenKind) → Is kinds.CloseParen k → close_paren k ≡ true
close_is k it = refl

bracket_is : (k : TokenKind) → Is kinds.CloseBracket k → close_bracket k ≡ true
bracket_is k it = refl

comma_is : (k : TokenKind) → Is kinds.Comma k → comma k ≡ true
comma_is k it = refl

no_comma : (ts : List Token) → next_is comma_or_paren ts ≡ false → next_is comma ts ≡ false
no_comma [] none = refl
no_comma (t ∷ ts) none = by_kind t.kind none
  where
    by_kind : (k : TokenKind) → comma_or_paren k ≡ false → comma k ≡ false
    by_kind kinds.Comma none = absurd cc
    by_kind _ none = refl

no_close : (ts : List Token) → next_is comma_or_paren ts ≡ false → next_is close_paren ts ≡ false
no_close [] none = refl
no_close (t ∷ ts) none = by_kind t.kind none
  where
    by_kind : (k : TokenKind) → comma_or_paren k ≡ false → close_paren k ≡ false
    by_kind kinds.CloseParen none = absurd cc
    by_kind _ none = refl

-- ---- the parts, on all lists

typed_exact : Exact nowhere TypedS TypedB
typed_exact = seq_all angled_exact (binary_exact 10)

cast_end_exact : Exact nowhere CastEndS CastEndB
cast_end_exact = exact_on_all (λ n. cast_end_below (below bounds_exact))

behind_exact : (h : primaries.Head) (start : ℕ) → Exact (primaries.base h start) (BehindS h start) (BehindB h start)
behind_exact h start = exact_on_all (λ n. behind_below (below (binary_exact 10)) (below arguments_exact) (below bounds_exact) h start)

selected_exact : (v : Value) → ExactValue (reach v) reach (Selected v) (Selecting v)
selected_exact v = value_on_all (λ n. value_within (selected_below (below (binary_exact 10))))

operated_exact : (n : ℕ) (v : Value) → ExactValue (reach v) reach (Operated n v) (Operating n v)
operated_exact n v = value_on_all (λ m. value_within (operated_below (below (binary_exact n))))

-- a link of a chain, with the reach of what it leads to
abbrev Linked : {A : Type 0} → (A → Reach) → (A → List Token → List Token → Type 0) → List Token → List Token → Reach → Type 0
Linked {A} reach S us m r = (a : A) × S a us m × (r ≡ reach a)

-- ---- what stands beside an expression so far, in a node around both

pub low_in : (d start : ℕ) (p q : Reach) → d + p.height < 200 → IsLow (suc d) q → IsLow d (around start (p beside q))
low_in d start p q room low = low_around d start (p beside q) (omega (arith, room, low, (beside_height p q).2))

start_in : (start : ℕ) (p q : Reach) → p.height < q.height → q.start ≡ (around start (p beside q)).start
start_in start p q less =
    let higher = beside_higher p q less in
    sym (inner_start start (p beside q) (omega (arith, less, (beside_height p q).1)) ∙ ap (λ (x : Reach). x.start) higher)

deep_in : (d start : ℕ) (p q : Reach) {at : ℕ} → d + p.height < 200 → (200 < suc d + q.height) × (at ≤ q.start) → (200 < d + (around start (p beside q)).height) × (at ≤ (around start (p beside q)).start)
deep_in d start p q room deep =
    let higher = beside_higher p q (omega (arith, room, deep.0)) in
    rw higher (deep_around d start q deep (omega (arith, room)))

-- ---- an index or a member

index_fails : {d : ℕ} {v : Value} {s : Span} {ts : List Token} {f : Failure} → d + (reach v).height < 200 → Fails (suc d) (BinaryS 10) (BeginsBinary 10) ts f → Fails d (Linked reach (Selected v)) (Selecting v) (token kinds.OpenBracket s ∷ ts) f
index_fails room failing.no_memory = failing.no_memory
index_fails {d} {v} {s} {ts} room (unexpected {at} {r} begun low whole further) = unexpected (links.index begun) (low_in d v.1.from (reach v) r room low) no_whole no_further
  where
    no_whole : (m : List Token) (q : Reach) → Linked reach (Selected v) (token kinds.OpenBracket s ∷ ts) m q → ⊥
    no_whole m q (a, links.index i, same) = whole _ _ (binary i)

    no_further : (t : Token) (rest : List Token) (q : Reach) → at ≡ t ∷ rest → Selecting v (token kinds.OpenBracket s ∷ ts) rest q → ⊥
    no_further t rest q here links.unselected = absurd (omega (arith, ap length here, end_length ((binary_exact 10).ended begun)))
    no_further t rest q here (links.index c) = further t rest _ here c
    no_further t rest q here (links.indexed i) = whole _ _ (binary i)
index_fails {d} {v} {s} {ts} room (too_deep {behind = us} {p} {r} {start} begun low deep at every) =
    too_deep (links.index begun) (low_in d v.1.from (reach v) p room low) (links.index deep) (at ∙ start_in v.1.from (reach v) r (omega (arith, room, (every r deep).0))) each
  where
    index_only : {rest : List Token} {q : Reach} → length rest ≤ length us → Selecting v (token kinds.OpenBracket s ∷ ts) rest q → rest ≡ us → (200 < d + q.height) × (start ≤ q.start)
    index_only short links.unselected here = absurd (omega (arith, short, end_length ((binary_exact 10).ended begun)))
    index_only short (links.index {r = q'} c) here = deep_in d v.1.from (reach v) q' room (every q' (subst (λ (x : List Token). BeginsBinary 10 ts x q') here c))
    index_only short (links.indexed i) here = absurd (omega (arith, end_length ((binary_exact 10).longest (binary i) deep), ap length here))

    each : (q : Reach) → Selecting v (token kinds.OpenBracket s ∷ ts) us q → (200 < d + q.height) × (start ≤ q.start)
    each q c = index_only (omega arith) c refl

bracket_fails : {d : ℕ} {v : Value} {s p : Span} {ts rest : List Token} {i : Expression} → d + (reach v).height < 200 → SpellsBinary 10 ts i p rest → IsLow (suc d) (expression_reach i) → next_is close_bracket rest ≡ false → Fails d (Linked reach (Selected v)) (Selecting v) (token kinds.OpenBracket s ∷ ts) (failures.unexpected rest)
bracket_fails {d} {v} {s} {ts} {rest = at} {i} room e low other = unexpected (links.index ((binary_exact 10).spelled (binary e))) (low_in d v.1.from (reach v) (expression_reach i) room low) no_whole no_further
  where
    no_bracket : {j : Expression} {o t : Span} {m : List Token} → SpellsBinary 10 ts j o (token kinds.CloseBracket t ∷ m) → ⊥
    no_bracket j = never {b = next_is close_bracket at} (ap (next_is close_bracket) (behind (binary_same e j))) other

    no_whole : (m : List Token) (q : Reach) → Linked reach (Selected v) (token kinds.OpenBracket s ∷ ts) m q → ⊥
    no_whole m q (a, links.index j, same) = no_bracket j

    no_further : (t : Token) (rest : List Token) (q : Reach) → at ≡ t ∷ rest → Selecting v (token kinds.OpenBracket s ∷ ts) rest q → ⊥
    no_further t rest q here links.unselected = absurd (omega (arith, ap length here, end_length ((binary_exact 10).ended ((binary_exact 10).spelled (binary e)))))
    no_further t rest q here (links.index c) = absurd (omega (arith, ap length here, end_length ((binary_exact 10).longest (binary e) c)))
    no_further t rest q here (links.indexed j) = no_bracket j

dot_fails : {d : ℕ} {v : Value} {s : Span} {at : List Token} → d + (reach v).height < 200 → next_is name_token at ≡ false → Fails d (Linked reach (Selected v)) (Selecting v) (token kinds.Dot s ∷ at) (failures.unexpected at)
dot_fails {d} {v} {s} {at} room other = unexpected links.dot (low_around d v.1.from (reach v) (omega (arith, room))) (λ m q a. no_whole other a) (λ t rest q here c. no_further other here c)
  where
    no_whole : {us m : List Token} {q : Reach} → next_is name_token us ≡ false → Linked reach (Selected v) (token kinds.Dot s ∷ us) m q → ⊥
    no_whole none (a, links.dot, same) = absurd cc

    no_further : {us rest : List Token} {t : Token} {q : Reach} → next_is name_token us ≡ false → us ≡ t ∷ rest → Selecting v (token kinds.Dot s ∷ us) rest q → ⊥
    no_further none here links.unselected = absurd (omega (arith, ap length here))
    no_further none here links.dot = absurd (omega (arith, ap length here))
    no_further none here links.dotted = absurd cc

arrow_fails : {d : ℕ} {v : Value} {s : Span} {at : List Token} → d + (reach v).height < 200 → next_is name_token at ≡ false → Fails d (Linked reach (Selected v)) (Selecting v) (token kinds.Arrow s ∷ at) (failures.unexpected at)
arrow_fails {d} {v} {s} {at} room other = unexpected links.arrow (low_around d v.1.from (reach v) (omega (arith, room))) (λ m q a. no_whole other a) (λ t rest q here c. no_further other here c)
  where
    no_whole : {us m : List Token} {q : Reach} → next_is name_token us ≡ false → Linked reach (Selected v) (token kinds.Arrow s ∷ us) m q → ⊥
    no_whole none (a, links.arrow, same) = absurd cc

    no_further : {us rest : List Token} {t : Token} {q : Reach} → next_is name_token us ≡ false → us ≡ t ∷ rest → Selecting v (token kinds.Arrow s ∷ us) rest q → ⊥
    no_further none here links.unselected = absurd (omega (arith, ap length here))
    no_further none here links.arrow = absurd (omega (arith, ap length here))
    no_further none here links.pointed = absurd cc

-- an expression that no index and no member may make deeper
data Deepens (v : Value) (k : TokenKind) : Type 0 where
  index : k ≡ kinds.OpenBracket → Deepens v k
  dot : k ≡ kinds.Dot → Deepens v k
  arrow : k ≡ kinds.Arrow → Deepens v k

select_fails : {d : ℕ} {v : Value} {k : TokenKind} {s : Span} {ts : List Token} → IsLow d (reach v) → 200 ≤ d + (reach v).height → selector k ≡ true → Fails d (Linked reach (Selected v)) (Selecting v) (token k s ∷ ts) (failures.too_deep (reach v).start)
select_fails {d} {v} {k} {s} {ts} low high so = by_kind k so
  where
    deep : (q : Reach) → q ≡ reach v → (200 < d + (around v.1.from q).height) × ((reach v).start ≤ (around v.1.from q).start)
    deep q same = rw same (omega (arith, high, around_height v.1.from (reach v)), omega (arith, inner_start v.1.from (reach v) (some_node v.0)))

    index_deep : {us rest : List Token} {q : Reach} → length us ≤ length rest → Selecting v (token kinds.OpenBracket s ∷ us) rest q → rest ≡ us → (200 < d + q.height) × ((reach v).start ≤ q.start)
    index_deep short links.unselected here = absurd (omega (arith, ap length here))
    index_deep short (links.index {r} c) here = deep (reach v beside r) (ap (λ (x : Reach). reach v beside x) ((binary_exact 10).nothing c here) ∙ beside_nowhere (reach v))
    index_deep short (links.indexed i) here = absurd (omega (arith, short, end_length ((binary_exact 10).ended ((binary_exact 10).spelled (binary i)))))

    dot_deep : {us rest : List Token} {q : Reach} → Selecting v (token kinds.Dot s ∷ us) rest q → rest ≡ us → (200 < d + q.height) × ((reach v).start ≤ q.start)
    dot_deep links.unselected here = absurd (omega (arith, ap length here))
    dot_deep links.dot here = deep (reach v) refl
    dot_deep links.dotted here = absurd (omega (arith, ap length here))

    arrow_deep : {us rest : List Token} {q : Reach} → Selecting v (token kinds.Arrow s ∷ us) rest q → rest ≡ us → (200 < d + q.height) × ((reach v).start ≤ q.start)
    arrow_deep links.unselected here = absurd (omega (arith, ap length here))
    arrow_deep links.arrow here = deep (reach v) refl
    arrow_deep links.pointed here = absurd (omega (arith, ap length here))

    start_is : (reach v).start ≡ (around v.1.from (reach v)).start
    start_is = sym (inner_start v.1.from (reach v) (some_node v.0))

    by_kind : (j : TokenKind) → selector j ≡ true → Fails d (Linked reach (Selected v)) (Selecting v) (token j s ∷ ts) (failures.too_deep (reach v).start)
    by_kind kinds.OpenBracket so = too_deep links.unselected low (links.index (no_binary 10)) (start_is ∙ ap (λ (x : Reach). (around v.1.from x).start) (sym (beside_nowhere (reach v)))) (λ q c. index_deep (omega arith) c refl)
    by_kind kinds.Dot so = too_deep links.unselected low links.dot start_is (λ q c. dot_deep c refl)
    by_kind kinds.Arrow so = too_deep links.unselected low links.arrow start_is (λ q c. arrow_deep c refl)
    by_kind _ so = absurd (true≢false (sym so))

-- ---- an operator with its right operand

right_fails : {n d : ℕ} {v : Value} (ts : List Token) {us : List Token} {w : BinaryOperator} {f : Failure} → operator_at ts ≡ Some (w, us) → level w ≡ suc n → d + (reach v).height < 200 → Fails (suc d) (BinaryS n) (BeginsBinary n) us f → Fails d (Linked reach (Operated n v)) (Operating n v) ts f
right_fails ts found same room failing.no_memory = failing.no_memory
right_fails {n} {d} {v} ts {us} found same room (unexpected {at} {r} begun low whole further) = unexpected (links.right found same begun) (low_in d v.1.from (reach v) r room low) no_whole (λ t rest q here c. no_further t rest q refl here c)
  where
    short : length at ≤ length us
    short = end_length ((binary_exact n).ended begun)

    no_whole : (m : List Token) (q : Reach) → Linked reach (Operated n v) ts m q → ⊥
    no_whole m q (a, operated f l e, is) = whole _ _ (binary (move_binary (after (found_same ts found f)) e))

    no_further : {xs : List Token} (t : Token) (rest : List Token) (q : Reach) → xs ≡ ts → at ≡ t ∷ rest → Operating n v xs rest q → ⊥
    no_further t rest q is here links.alone = absurd (omega (arith, ap length here, ap length is, short, operator_shrinks (marks_at ts found)))
    no_further t rest q is here (links.half f l) = absurd (omega (arith, ap length here, ap length is, short, operator_shrinks (marks_at ts found)))
    no_further t rest q is here (links.right {w = o} {us = ys} f l c) = further t rest _ here (move (BeginsBinary n) (after (found_same ts found (subst (λ (x : List Token). operator_at x ≡ Some (o, ys)) is f))) c)
right_fails {n} {d} {v} ts {us} found same room (too_deep {behind = rest} {p} {r} {start} begun low deep at every) =
    too_deep (links.right found same begun) (low_in d v.1.from (reach v) p room low) (links.right found same deep) (at ∙ start_in v.1.from (reach v) r (omega (arith, room, (every r deep).0))) (λ q c. each q refl refl c)
  where
    short : suc (length rest) ≤ length us
    short = end_length ((binary_exact n).ended begun)

    each : {xs ms : List Token} (q : Reach) → xs ≡ ts → ms ≡ rest → Operating n v xs ms q → (200 < d + q.height) × (start ≤ q.start)
    each q is here links.alone = absurd (omega (arith, ap length here, ap length is, short, operator_shrinks (marks_at ts found)))
    each q is here (links.half f l) = absurd (omega (arith, ap length here, ap length is, short, operator_shrinks (marks_at ts found)))
    each q is here (links.right {w = o} {us = ys} {r = q'} f l c) =
        let moved = move (BeginsBinary n) (after (found_same ts found (subst (λ (x : List Token). operator_at x ≡ Some (o, ys)) is f))) c in
        deep_in d v.1.from (reach v) q' room (every q' (subst (λ (x : List Token). BeginsBinary n us x q') here moved))

-- an expression that no operator may make deeper
operate_fails : {n d : ℕ} {v : Value} {t : Token} {ts us : List Token} {w : BinaryOperator} → IsLow d (reach v) → 200 ≤ d + (reach v).height → operator_at (t ∷ ts) ≡ Some (w, us) → level w ≡ suc n → Fails d (Linked reach (Operated n v)) (Operating n v) (t ∷ ts) (failures.too_deep (reach v).start)
operate_fails {n} {d} {v} {t} {ts} {us} {w} low high found same =
    let first = by_marks (marks_at (t ∷ ts) found) found same in
    too_deep {r = first.0} links.alone low first.1 first.2 (λ q c. each q refl refl c)
  where
    deep : (q : Reach) → q ≡ reach v → (200 < d + (around v.1.from q).height) × ((reach v).start ≤ (around v.1.from q).start)
    deep q is = rw is (omega (arith, high, around_height v.1.from (reach v)), omega (arith, inner_start v.1.from (reach v) (some_node v.0)))

    start_is : (reach v).start ≡ (around v.1.from (reach v)).start
    start_is = sym (inner_start v.1.from (reach v) (some_node v.0))

    each : {xs ms : List Token} (q : Reach) → xs ≡ t ∷ ts → ms ≡ ts → Operating n v xs ms q → (200 < d + q.height) × ((reach v).start ≤ q.start)
    each q is here links.alone = absurd (omega (arith, ap length here, ap length is))
    each q is here (links.half f l) = deep (reach v) refl
    each {xs} {ms} q is here (links.right {us = ys} {r} f l c) =
        let end = (binary_exact n).ended c in
        let less = operator_shrinks (marks_at xs f) in
        let stays : ms ≡ ys = forms.end_same end (omega (arith, less, ap length is, ap length here)) in
        deep (reach v beside r) (ap (λ (x : Reach). reach v beside x) ((binary_exact n).nothing c stays) ∙ beside_nowhere (reach v))

    by_marks : {u : Token} {xs ys : List Token} {o : BinaryOperator} → Marks (u ∷ xs) o ys → operator_at (u ∷ xs) ≡ Some (o, ys) → level o ≡ suc n → (q : Reach) × Operating n v (u ∷ xs) xs q × ((reach v).start ≡ q.start)
    by_marks mark f l = (_, links.right f l (no_binary n), start_is ∙ ap (λ (x : Reach). (around v.1.from x).start) (sym (beside_nowhere (reach v))))
    by_marks shift f l = (_, links.half f l, start_is)

-- ---- the smallest expressions

head_fails : {d : ℕ} {k : TokenKind} {s : Span} {h : primaries.Head} {ts : List Token} {f : Failure} → IsHead k h → Fails d (BehindS h s.from) (BehindB h s.from) ts f → Fails d PrimaryS BeginsPrimary (token k s ∷ ts) f
head_fails {s} {h} i f = fails_as primaries.to_s primaries.into_b primaries.from_b (fails_headed primaries.one_head i (behind_exact h s.from) f)

-- a first token that makes a node
record Deep (k : TokenKind) : Type 0 where
  head : primaries.Head
  is : IsHead k head
  plain : (start : ℕ) → Exact (node start) (BehindS head start) (BehindB head start)
  begun : (start : ℕ) (ts : List Token) → BehindB head start ts ts (node start)

literal_deep : {k : TokenKind} → IsHead k primaries.literal → Deep k
literal_deep i = record { head = primaries.literal; is = i; plain = behind_exact primaries.literal; begun = λ start ts. forms.node forms.done }

cast_deep : {k : TokenKind} → IsHead k primaries.casting → Deep k
cast_deep i = record { head = primaries.casting; is = i; plain = behind_exact primaries.casting; begun = λ start ts. forms.node (in_first (in_first tb.nothing)) }

malloc_deep : {k : TokenKind} → IsHead k primaries.mallocs → Deep k
malloc_deep i = record { head = primaries.mallocs; is = i; plain = behind_exact primaries.mallocs; begun = λ start ts. forms.node (before_end (in_first tb.nothing)) }

calloc_deep : {k : TokenKind} → IsHead k primaries.callocs → Deep k
calloc_deep i = record { head = primaries.callocs; is = i; plain = behind_exact primaries.callocs; begun = λ start ts. forms.node (before_end (in_first (before_end (in_first tb.nothing)))) }

deep_at : (k : TokenKind) → primary_word k ≡ true → Deep k
deep_at (kinds.Number n) so = literal_deep primaries.number
deep_at (kinds.Character n) so = literal_deep primaries.character
deep_at (kinds.Text x) so = literal_deep primaries.text
deep_at (kinds.Name x) so = record { head = primaries.named_one; is = primaries.name; plain = behind_exact primaries.named_one; begun = λ start ts. forms.node (primaries.name_alone ts) }
deep_at (kinds.Keyword keywords.Sizeof) so = record { head = primaries.size; is = primaries.sizeof; plain = behind_exact primaries.size; begun = λ start ts. forms.node not_yet }
deep_at (kinds.Keyword keywords.DynamicBoundsCast) so = cast_deep (primaries.cast refl)
deep_at (kinds.Keyword keywords.AssumeBoundsCast) so = cast_deep (primaries.cast refl)
deep_at (kinds.Keyword keywords.Malloc) so = malloc_deep (primaries.malloc refl)
deep_at (kinds.Keyword keywords.TMalloc) so = malloc_deep (primaries.malloc refl)
deep_at (kinds.Keyword keywords.Calloc) so = calloc_deep (primaries.calloc refl)
deep_at (kinds.Keyword keywords.NtCalloc) so = calloc_deep (primaries.calloc refl)
deep_at _ so = absurd (true≢false (sym so))

primary_deep : {d : ℕ} {k : TokenKind} {s : Span} {ts : List Token} → d ≤ 200 → 200 ≤ d → Deep k → Fails d PrimaryS BeginsPrimary (token k s ∷ ts) (failures.too_deep s.from)
primary_deep {s} {ts} low high x = fails_as primaries.to_s primaries.into_b primaries.from_b (fails_deep_head primaries.one_head x.is low high (x.plain s.from) (x.begun s.from ts))

-- tokens on which the smallest expression is stuck start with no operator, but where memory runs out
stuck_class : {d : ℕ} {ts : List Token} {f : Failure} → StuckPrimary d ts f → (f ≡ failures.no_memory) ⊎ (class_at ts ≤ 9)
stuck_class stuck.primary_no_room = inl refl
stuck_class (stuck.primary_deep {k} so high) = inr (omega (arith, (whole.class_some (deep_at k so).is).1))
stuck_class (stuck.arguments room x) = inr (omega arith)
stuck_class (stuck.inside x) = inr (omega arith)
stuck_class (stuck.primary_close e low none) = inr (omega arith)
stuck_class (stuck.size_of_open room none) = inr (omega arith)
stuck_class (stuck.size_of_type room x) = inr (omega arith)
stuck_class (stuck.size_of_close t low none) = inr (omega arith)
stuck_class (stuck.cast_type {k} w room x) = inr (omega (arith, (whole.class_some (primaries.cast {k = k} w)).1))
stuck_class (stuck.cast_operand {k} w room t high x) = inr (omega (arith, (whole.class_some (primaries.cast {k = k} w)).1))
stuck_class (stuck.cast_end {k} w t high e low none) = inr (omega (arith, (whole.class_some (primaries.cast {k = k} w)).1))
stuck_class (stuck.cast_bounds {k} w room t high e low x) = inr (omega (arith, (whole.class_some (primaries.cast {k = k} w)).1))
stuck_class (stuck.cast_close {k} w t high e low x deep none) = inr (omega (arith, (whole.class_some (primaries.cast {k = k} w)).1))
stuck_class (stuck.malloc_type {k} w room x) = inr (omega (arith, (whole.class_some (primaries.malloc {k = k} w)).1))
stuck_class (stuck.malloc_size {k} w room t high x) = inr (omega (arith, (whole.class_some (primaries.malloc {k = k} w)).1))
stuck_class (stuck.malloc_close {k} w t high e low none) = inr (omega (arith, (whole.class_some (primaries.malloc {k = k} w)).1))
stuck_class (stuck.calloc_type {k} w room x) = inr (omega (arith, (whole.class_some (primaries.calloc {k = k} w)).1))
stuck_class (stuck.calloc_count {k} w room t high x) = inr (omega (arith, (whole.class_some (primaries.calloc {k = k} w)).1))
stuck_class (stuck.calloc_comma {k} w t high e low none) = inr (omega (arith, (whole.class_some (primaries.calloc {k = k} w)).1))
stuck_class (stuck.calloc_size {k} w room t high e low x) = inr (omega (arith, (whole.class_some (primaries.calloc {k = k} w)).1))
stuck_class (stuck.calloc_close {k} w t high e low i deep none) = inr (omega (arith, (whole.class_some (primaries.calloc {k = k} w)).1))

-- ---- forms that are one but for how they are said

value_fails : {d : ℕ} {S : Value → List Token → List Token → Type 0} {X B : List Token → List Token → Reach → Type 0} {ts : List Token} {f : Failure} → ((v : Value) (us m : List Token) → S v us m → X us m (reach v)) → Fails d X B ts f → Fails d (Linked reach S) B ts f
value_fails {S} {X} to f = fails_as linked (λ us rest q c. c) (λ us rest q c. c) f
  where
    linked : (us m : List Token) (r : Reach) → Linked reach S us m r → X us m r
    linked us m r (v, a, same) = subst (X us m) (sym same) (to v us m a)

primary_of : (v : Value) (us m : List Token) → PrimaryValue v us m → PrimaryS us m (reach v)
primary_of v us m (of_primary p) = primary p

binary_of : (n : ℕ) (v : Value) (us m : List Token) → BinaryValue n v us m → BinaryS n us m (reach v)
binary_of n v us m (of_binary d) = binary d

pub unary_of : (v : Value) (us m : List Token) → UnaryValue v us m → UnaryS us m (reach v)
unary_of v us m (of_unary d) = unary d

prefixed : {d : ℕ} {ts : List Token} {f : Failure} → Fails d whole.PrefixedS whole.PrefixedB ts f → Fails d UnaryS BeginsUnary ts f
prefixed x = fails_as whole.unary_to whole.unary_into whole.unary_from x

levelled : {d n : ℕ} {ts : List Token} {f : Failure} → Fails d (whole.LevelS n) (whole.LevelB n) ts f → Fails d (BinaryS (suc n)) (BeginsBinary (suc n)) ts f
levelled {n} x = fails_as (whole.level_to n) (whole.level_into n) (whole.level_from n) x

operating : {d n : ℕ} {v : Value} {ts : List Token} {f : Failure} → Fails d (whole.OperatorsS n v) (whole.OperatorsB n v) ts f → Fails d (TailS n v) (TailB n v) ts f
operating {n} {v} x = fails_as (whole.tail_to n v) (whole.tail_into n v) (whole.tail_from n v) x

selecting : {d : ℕ} {v : Value} {ts : List Token} {f : Failure} → Fails d (whole.SelectS v) (whole.SelectB v) ts f → Fails d (SelectorsS v) (SelectorsB v) ts f
selecting {v} x = fails_as (whole.select_to v) (whole.select_into v) (whole.select_from v) x

listing : {d : ℕ} {ts : List Token} {f : Failure} → Fails d whole.ArgumentListS whole.ArgumentListB ts f → Fails d ArgumentsS BeginsArguments ts f
listing x = fails_as whole.arguments_to whole.arguments_into whole.arguments_from x

going_on : {d : ℕ} {ts : List Token} {f : Failure} → Fails d whole.NextArgumentS whole.NextArgumentB ts f → Fails d MoreS MoreB ts f
going_on x = fails_as whole.more_to whole.more_into whole.more_from x

no_unary : (ts : List Token) → next_is unary_word ts ≡ false → class_at ts ≡ 0
no_unary [] none = refl
no_unary (t ∷ ts) none = by_kind t.kind none
  where
    by_kind : (k : TokenKind) → unary_word k ≡ false → class k ≡ 0
    by_kind (kinds.Number n) none = absurd cc
    by_kind (kinds.Character n) none = absurd cc
    by_kind (kinds.Text x) none = absurd cc
    by_kind (kinds.Name x) none = absurd cc
    by_kind kinds.OpenParen none = absurd cc
    by_kind (kinds.Keyword keywords.Sizeof) none = absurd cc
    by_kind (kinds.Keyword keywords.DynamicBoundsCast) none = absurd cc
    by_kind (kinds.Keyword keywords.AssumeBoundsCast) none = absurd cc
    by_kind (kinds.Keyword keywords.Malloc) none = absurd cc
    by_kind (kinds.Keyword keywords.TMalloc) none = absurd cc
    by_kind (kinds.Keyword keywords.Calloc) none = absurd cc
    by_kind (kinds.Keyword keywords.NtCalloc) none = absurd cc
    by_kind kinds.Star none = absurd cc
    by_kind kinds.Ampersand none = absurd cc
    by_kind kinds.Minus none = absurd cc
    by_kind kinds.Not none = absurd cc
    by_kind kinds.Tilde none = absurd cc
    by_kind _ none = refl

no_head : (ts : List Token) → class_at ts ≡ 0 → (k : TokenKind) (s : Span) (us : List Token) (h : primaries.Head) → ts ≡ token k s ∷ us → IsHead k h → ⊥
no_head ts none k s us h is i = absurd (omega (arith, none, ap class_at is, (whole.class_some i).0))

with_bounds : Exact nowhere (EndedS (Is kinds.CloseParen) BoundsS) (EndedB (Is kinds.CloseParen) BoundsS BeginsBounds)
with_bounds = ended_all bounds_exact

typed_comma : Exact nowhere (EndedS (Is kinds.Comma) TypedS) (EndedB (Is kinds.Comma) TypedS TypedB)
typed_comma = ended_all typed_exact

argument_then : Exact nowhere (SeqS (BinaryS 10) MoreS) (SeqB (BinaryS 10) (BeginsBinary 10) MoreB)
argument_then = seq_all (binary_exact 10) more_exact

from_primary : {d : ℕ} {ts : List Token} {f : Failure} → (f ≡ failures.no_memory) ⊎ (class_at ts ≤ 9) → Fails d PrimaryS BeginsPrimary ts f → Fails d UnaryS BeginsUnary ts f
from_primary {d} {ts} (inl same) x = subst (λ (y : Failure). Fails d UnaryS BeginsUnary ts y) (sym same) failing.no_memory
from_primary {ts} (inr plain) x = prefixed (fails_no (whole.no_word ts plain) (fails_in_link primary_value_exact selectors_exact (value_fails primary_of x)))

-- ---- where they are stuck

mutual
  pub binary_fails : {n d : ℕ} {ts : List Token} {f : Failure} → d ≤ 200 → StuckBinary n d ts f → Fails d (BinaryS n) (BeginsBinary n) ts f
  binary_fails low stuck.binary_no_room = failing.no_memory
  binary_fails low (stuck.operand x) = fails_as whole.zero_to whole.zero_into (λ ts rest q c. b.operand c) (unary_fails low x)
  binary_fails low (stuck.first {n} x) = levelled (fails_in_link (binary_value_exact n) (λ v. tail_exact n v) (value_fails (binary_of n) (binary_fails low x)))
  binary_fails low (stuck.operators {n} e high x) = levelled (fails_behind_link (binary_value_exact n) (λ v. tail_exact n v) (of_binary e) (tail_fails high x))

  tail_fails : {n d : ℕ} {e : Expression} {o : Span} {ts : List Token} {f : Failure} → IsLow d (expression_reach e) → StuckTail n e o d ts f → Fails d (TailS n (e, o)) (TailB n (e, o)) ts f
  tail_fails {n} {e} {o} low (stuck.tail_deep {t} {rest} found same high) = operating (fails_yes (has (t ∷ rest) found same) (fails_in_link (operated_exact n (e, o)) (λ v. tail_exact n v) (operate_fails low high found same)))
  tail_fails {n} {e} {o} {ts} low (stuck.right found same room x) = operating (fails_yes (has ts found same) (fails_in_link (operated_exact n (e, o)) (λ v. tail_exact n v) (right_fails ts found same room (binary_fails (omega (arith, room)) x))))
  tail_fails {n} {e} {o} {ts} low (stuck.further {p} {right} {binary_operator} found same room i high x) =
      operating (fails_yes (has ts found same) (fails_behind_link (operated_exact n (e, o)) (λ v. tail_exact n v) (operated found same i) (tail_fails (low_in _ o.from (expression_reach e) (expression_reach right) room high) x)))

  pub unary_fails : {d : ℕ} {ts : List Token} {f : Failure} → d ≤ 200 → StuckUnary d ts f → Fails d UnaryS BeginsUnary ts f
  unary_fails low stuck.unary_no_room = failing.no_memory
  unary_fails {ts} low (stuck.no_expression none) =
      let plain = no_unary ts none in
      prefixed (fails_no (whole.no_word ts (omega (arith, plain))) (fails_in_link primary_value_exact selectors_exact (value_fails primary_of (fails_as primaries.to_s primaries.into_b primaries.from_b (fails_unheaded low (no_head ts plain))))))
  unary_fails low (stuck.deep_operator w high) = prefixed (fails_yes (ap is_some w) (fails_deep_head one_operator (whole.operator w) low high (node_all unary_exact) (forms.node (b.primary b.nothing))))
  unary_fails low (stuck.operator w room x) = prefixed (fails_yes (ap is_some w) (fails_headed one_operator (whole.operator w) (node_all unary_exact) (fails_node room (unary_fails room x))))
  unary_fails low (stuck.primary x) = from_primary (stuck_class x) (primary_fails low x)
  unary_fails low (stuck.selectors p high x) = prefixed (fails_no (no_primary_word p) (fails_behind_link primary_value_exact selectors_exact (of_primary p) (selectors_fails high x)))

  selectors_fails : {d : ℕ} {e : Expression} {o : Span} {ts : List Token} {f : Failure} → IsLow d (expression_reach e) → StuckSelectors e o d ts f → Fails d (SelectorsS (e, o)) (SelectorsB (e, o)) ts f
  selectors_fails low stuck.selectors_no_room = failing.no_memory
  selectors_fails {e} {o} low (stuck.selectors_deep so high) = selecting (fails_yes so (fails_in_link (selected_exact (e, o)) selectors_exact (select_fails low high so)))
  selectors_fails {e} {o} low (stuck.index room x) = selecting (fails_yes refl (fails_in_link (selected_exact (e, o)) selectors_exact (index_fails room (binary_fails (omega (arith, room)) x))))
  selectors_fails {e} {o} low (stuck.selectors_close room i high none) = selecting (fails_yes refl (fails_in_link (selected_exact (e, o)) selectors_exact (bracket_fails room i high none)))
  selectors_fails {e} {o} low (stuck.indexed {index} room i high x) = selecting (fails_yes refl (fails_behind_link (selected_exact (e, o)) selectors_exact (links.index i) (selectors_fails (low_in _ o.from (expression_reach e) (expression_reach index) room high) x)))
  selectors_fails {e} {o} low (stuck.dot room none) = selecting (fails_yes refl (fails_in_link (selected_exact (e, o)) selectors_exact (dot_fails room none)))
  selectors_fails {e} {o} low (stuck.dotted room x) = selecting (fails_yes refl (fails_behind_link (selected_exact (e, o)) selectors_exact links.dot (selectors_fails (low_around _ o.from (expression_reach e) (omega (arith, room))) x)))
  selectors_fails {e} {o} low (stuck.arrow room none) = selecting (fails_yes refl (fails_in_link (selected_exact (e, o)) selectors_exact (arrow_fails room none)))
  selectors_fails {e} {o} low (stuck.pointed room x) = selecting (fails_yes refl (fails_behind_link (selected_exact (e, o)) selectors_exact links.arrow (selectors_fails (low_around _ o.from (expression_reach e) (omega (arith, room))) x)))

  primary_fails : {d : ℕ} {ts : List Token} {f : Failure} → d ≤ 200 → StuckPrimary d ts f → Fails d PrimaryS BeginsPrimary ts f
  primary_fails low stuck.primary_no_room = failing.no_memory
  primary_fails low (stuck.primary_deep {k} so high) = primary_deep low high (deep_at k so)
  primary_fails low (stuck.arguments room x) = head_fails primaries.name (fails_node room (fails_yes refl (fails_after it arguments_exact (arguments_fails room x))))
  primary_fails low (stuck.inside x) = head_fails primaries.paren (fails_before_end (binary_exact 10) (binary_fails low x))
  primary_fails low (stuck.primary_close e high none) = head_fails primaries.paren (fails_at_end close_is (binary_exact 10) (binary e) high none)
  primary_fails low (stuck.size_of_open room none) = head_fails primaries.sizeof (fails_node room (fails_at_first paren_is room none))
  primary_fails low (stuck.size_of_type room x) = head_fails primaries.sizeof (fails_node room (fails_after it (ended_all type_name_exact) (fails_before_end type_name_exact (type_name_fails room x))))
  primary_fails low (stuck.size_of_close t high none) = head_fails primaries.sizeof (fails_node (omega (arith, high)) (fails_after it (ended_all type_name_exact) (fails_at_end close_is type_name_exact (named t) high none)))
  primary_fails low (stuck.cast_type w room x) = head_fails (primaries.cast w) (fails_node room (fails_first typed_exact cast_end_exact (fails_first angled_exact (binary_exact 10) (angled_fails room x))))
  primary_fails low (stuck.cast_operand w room t high x) = head_fails (primaries.cast w) (fails_node room (fails_first typed_exact cast_end_exact (fails_second angled_exact (binary_exact 10) (angled t) high (binary_fails room x))))
  primary_fails low (stuck.cast_end {rest} {e} {type} w t high i deep none) =
      head_fails (primaries.cast w) (fails_node (omega (arith, high)) (fails_second typed_exact cast_end_exact (primaries.typed t i) (low_beside _ (type_reach type.base) (expression_reach e) high deep) (fails_no (no_comma rest none) (fails_at_first close_is (omega (arith, high)) (no_close rest none)))))
  primary_fails low (stuck.cast_bounds {e} {type} w room t high i deep x) =
      head_fails (primaries.cast w) (fails_node room (fails_second typed_exact cast_end_exact (primaries.typed t i) (low_beside _ (type_reach type.base) (expression_reach e) high deep) (fails_yes refl (fails_after it with_bounds (fails_before_end bounds_exact (bounds_fails room x))))))
  primary_fails low (stuck.cast_close {e} {type} w t high i deep x deeper none) =
      head_fails (primaries.cast w) (fails_node (omega (arith, high)) (fails_second typed_exact cast_end_exact (primaries.typed t i) (low_beside _ (type_reach type.base) (expression_reach e) high deep) (fails_yes refl (fails_after it with_bounds (fails_at_end close_is bounds_exact (written x) deeper none)))))
  primary_fails low (stuck.malloc_type w room x) = head_fails (primaries.malloc w) (fails_node room (fails_before_end typed_exact (fails_first angled_exact (binary_exact 10) (angled_fails room x))))
  primary_fails low (stuck.malloc_size w room t high x) = head_fails (primaries.malloc w) (fails_node room (fails_before_end typed_exact (fails_second angled_exact (binary_exact 10) (angled t) high (binary_fails room x))))
  primary_fails low (stuck.malloc_close {size} {type} w t high i deep none) =
      head_fails (primaries.malloc w) (fails_node (omega (arith, high)) (fails_at_end close_is typed_exact (primaries.typed t i) (low_beside _ (type_reach type.base) (expression_reach size) high deep) none))
  primary_fails low (stuck.calloc_type w room x) = head_fails (primaries.calloc w) (fails_node room (fails_before_end (seq_all typed_comma (binary_exact 10)) (fails_first typed_comma (binary_exact 10) (fails_before_end typed_exact (fails_first angled_exact (binary_exact 10) (angled_fails room x))))))
  primary_fails low (stuck.calloc_count w room t high x) =
      head_fails (primaries.calloc w) (fails_node room (fails_before_end (seq_all typed_comma (binary_exact 10)) (fails_first typed_comma (binary_exact 10) (fails_before_end typed_exact (fails_second angled_exact (binary_exact 10) (angled t) high (binary_fails room x))))))
  primary_fails low (stuck.calloc_comma {count} {type} w t high i deep none) =
      head_fails (primaries.calloc w) (fails_node (omega (arith, high)) (fails_before_end (seq_all typed_comma (binary_exact 10)) (fails_first typed_comma (binary_exact 10) (fails_at_end comma_is typed_exact (primaries.typed t i) (low_beside _ (type_reach type.base) (expression_reach count) high deep) none))))
  primary_fails low (stuck.calloc_size {count} {type} w room t high i deep x) =
      head_fails (primaries.calloc w) (fails_node room (fails_before_end (seq_all typed_comma (binary_exact 10)) (fails_second typed_comma (binary_exact 10) (end (primaries.typed t i) it) (low_beside _ (type_reach type.base) (expression_reach count) high deep) (binary_fails room x))))
  primary_fails low (stuck.calloc_close {size} {count} {type} w t high i deep j deeper none) =
      head_fails (primaries.calloc w) (fails_node (omega (arith, high)) (fails_at_end close_is (seq_all typed_comma (binary_exact 10)) (seq (end (primaries.typed t i) it) (binary j))
      (low_beside _ (type_reach type.base beside expression_reach count) (expression_reach size) (low_beside _ (type_reach type.base) (expression_reach count) high deep) deeper) none))

  arguments_fails : {d : ℕ} {ts : List Token} {f : Failure} → d ≤ 200 → StuckArguments d ts f → Fails d ArgumentsS BeginsArguments ts f
  arguments_fails low stuck.arguments_no_room = failing.no_memory
  arguments_fails low (stuck.argument none x) = listing (fails_no none (fails_first (binary_exact 10) more_exact (binary_fails low x)))
  arguments_fails low (stuck.others e high x) = listing (fails_no (whole.no_paren e) (fails_second (binary_exact 10) more_exact (binary e) high (more_fails low x)))

  more_fails : {d : ℕ} {ts : List Token} {f : Failure} → d ≤ 200 → StuckMoreArguments d ts f → Fails d MoreS MoreB ts f
  more_fails low stuck.more_no_room = failing.no_memory
  more_fails {ts} low (stuck.end none) = going_on (fails_no (no_comma ts none) (fails_at_first close_is low (no_close ts none)))
  more_fails low (stuck.other x) = going_on (fails_yes refl (fails_after it argument_then (fails_first (binary_exact 10) more_exact (binary_fails low x))))
  more_fails low (stuck.still_others e high x) = going_on (fails_yes refl (fails_after it argument_then (fails_second (binary_exact 10) more_exact (binary e) high (more_fails low x))))

  pub bounds_fails : {d : ℕ} {ts : List Token} {f : Failure} → d ≤ 200 → StuckBounds d ts f → Fails d BoundsS BeginsBounds ts f
  bounds_fails low stuck.bounds_no_room = failing.no_memory
  bounds_fails low (stuck.no_bounds none) = unworded_fails low none
  bounds_fails low (stuck.opens so none) = opened_fails low so none
  bounds_fails low (stuck.count (inl same) x) = worded_fails (bounds.count same) (fails_after it (ended_all (binary_exact 10)) (fails_before_end (binary_exact 10) (binary_fails low x)))
  bounds_fails low (stuck.count (inr same) x) = worded_fails (bounds.byte_count same) (fails_after it (ended_all (binary_exact 10)) (fails_before_end (binary_exact 10) (binary_fails low x)))
  bounds_fails low (stuck.count_close (inl same) e high none) = worded_fails (bounds.count same) (fails_after it (ended_all (binary_exact 10)) (fails_at_end close_is (binary_exact 10) (binary e) high none))
  bounds_fails low (stuck.count_close (inr same) e high none) = worded_fails (bounds.byte_count same) (fails_after it (ended_all (binary_exact 10)) (fails_at_end close_is (binary_exact 10) (binary e) high none))
  bounds_fails low (stuck.low same other room x) = worded_fails (bounds.bounds same) (fails_after it range_exact (pair_fails other (inl room) (low_fails (binary_fails low x))))
  bounds_fails low (stuck.low_in_full {ts} same none x) = worded_fails (bounds.bounds same) (fails_after it range_exact (pair_fails (no_unknown ts none) (inr none) (low_fails (binary_fails low x))))
  bounds_fails low (stuck.unknown_deep same word high so) = worded_fails (bounds.bounds same) (fails_after it range_exact (word_deep low high word so))
  bounds_fails low (stuck.unknown_end same word high none other) = worded_fails (bounds.bounds same) (fails_after it range_exact (word_fails low word none other))
  bounds_fails low (stuck.comma {low = e} same other i high none) = worded_fails (bounds.bounds same) (fails_after it range_exact (pair_fails other (inl (omega (arith, high, some_node e))) (comma_fails i high none)))
  bounds_fails low (stuck.high {low = e} same i high x) = worded_fails (bounds.bounds same) (fails_after it range_exact (pair_fails (not_unknown i) (inl (omega (arith, high, some_node e))) (high_fails i high (binary_fails low x))))
  bounds_fails low (stuck.bounds_close {low = e} {high = e'} same i high j deep none) =
      worded_fails (bounds.bounds same) (fails_after it range_exact (pair_fails (not_unknown i) (inl (omega (arith, high, some_node e))) (close_fails i j (low_beside _ (expression_reach e) (expression_reach e') high deep) none)))
