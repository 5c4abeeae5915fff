-- The tokens with which types and expressions start, and the nodes that the first of them puts.
use Rattle.std.proofs.Common.{◌≡◌, ◌≤◌, ◌<◌, ◌⊎◌, inl, inr, ℕ, length, true, false, List, ◌∷◌, refl, ap, ◌∙◌, arith, Some}
use Rattle.ckc_text.specs.declared.place.Span.{Span}
use Rattle.ckc_lexer.specs.declared.token.Token.{Token}
use Rattle.ckc_lexer.specs.declared.token.TokenKind.{TokenKind}
use Rattle.ckc_lexer.specs.declared.keyword.Keyword.TheVariants as keywords
use Rattle.ckc_lexer.specs.declared.token.TokenKind.TheVariants as kinds
use Rattle.ckc_tree.specs.declared.expr.UnaryOperator.{UnaryOperator}
use Rattle.ckc_tree.specs.declared.expr.CastWord.{CastWord}
use Rattle.ckc_tree.specs.declared.expr.MallocWord.{MallocWord}
use Rattle.ckc_tree.specs.declared.expr.CallocWord.{CallocWord}
use Rattle.ckc_tree.specs.Types as t
use Rattle.ckc_tree.specs.Types.{TypeTree, TypeName}
use Rattle.ckc_tree.specs.Expressions as e
use Rattle.ckc_tree.specs.Expressions.{Expression}
use Rattle.ckc_tree.specs.Heights.{Reach, nowhere, around, type_reach, expression_reach}
use Rattle.ckc_parser_grammar.specs.Tokens.{token, next_is, pointer_word_of, unary_operator_of, cast_word_of, malloc_word_of, calloc_word_of}
use Rattle.ckc_parser_grammar.specs.TypeGrammar as tg
use Rattle.ckc_parser_grammar.specs.TypeGrammar.{SpellsType, SpellsTypeName, SpellsAngled}
use Rattle.ckc_parser_grammar.specs.TypeBeginnings as tb
use Rattle.ckc_parser_grammar.specs.TypeBeginnings.{BeginsType}
use Rattle.ckc_parser_grammar.specs.ExpressionGrammar as g
use Rattle.ckc_parser_grammar.specs.ExpressionGrammar.{SpellsBinary, SpellsUnary, SpellsPrimary, SpellsCall, SpellsArguments, SpellsMoreArguments, SpellsBounds}
use Rattle.ckc_parser_grammar.specs.ExpressionBeginnings as b
use Rattle.ckc_parser_grammar.specs.ExpressionBeginnings.{BeginsBinary, BeginsUnary, BeginsSelectors, BeginsPrimary, BeginsCall, BeginsArguments, BeginsMoreArguments}
use Rattle.ckc_parser_grammar.specs.StuckTypes.{type_word, name_token}
use Rattle.ckc_parser_grammar.specs.StuckExpressions.{unary_word}
use Rattle.ckc_parser_grammar.proofs.Paths.{around_height}
use Rattle.ckc_parser_grammar.proofs.ExpressionPaths.{no_binary}
use Rattle.ckc_parser_grammar.proofs.Forms.{end_length, end_same, Exact}
use Rattle.ckc_parser_grammar.proofs.Ahead.{never}
use Rattle.ckc_parser_grammar.proofs.TypeForms as tf
use Rattle.ckc_parser_grammar.proofs.TypeForms.{TypeS, type_exact, type_name_exact, angled_exact}
use Rattle.ckc_parser_grammar.proofs.ExpressionLinks.{binary}
use Rattle.ckc_parser_grammar.proofs.PrimaryForms.{written}
use Rattle.ckc_parser_grammar.proofs.ExpressionForms.{some_node, unary, binary_exact, unary_exact, bounds_exact}
use Rattle.ckc_parser_grammar.proofs.MoreForms.{Starts, PutsFirst, takes, shrinks}
use Rattle.ckc_parser_grammar.proofs.OneMeaning.{some_word, each_unary_operator, each_cast_word, each_malloc_word, each_calloc_word, pointer_is}

-- with no token read there is no node
pub unread : {S B : List Token → List Token → Reach → Type 0} {ts rest : List Token} {q : Reach} → Exact nowhere S B → B ts rest q → length rest ≡ length ts → q ≡ nowhere
unread e c same = e.nothing c (end_same (e.ended c) (omega (arith, same)))

-- ---- heights

pub type_high : (x : TypeTree) → 0 < (type_reach x).height
type_high (t.IntType s) = omega arith
type_high (t.CharType s) = omega arith
type_high (t.StructType x s) = omega arith
type_high (t.PointerType w element n s) = omega (arith, around_height s.from (type_reach element))

-- ---- types

type_none : {ts rest : List Token} {q : Reach} → BeginsType ts rest q → next_is type_word ts ≡ false → rest ≡ ts
type_none tb.nothing so = refl
type_none tb.int so = absurd cc
type_none tb.char so = absurd cc
type_none tb.struct_word so = absurd cc
type_none tb.struct so = absurd cc
type_none (tb.pointer_word {k} w) so = never (pointer_is k w) so
type_none (tb.element {k} w c) so = never (pointer_is k w) so
type_none (tb.stars {k} w d c) so = never (pointer_is k w) so
type_none (tb.pointer {k} w d c) so = never (pointer_is k w) so

pub type_starts : Starts type_word BeginsType
type_starts = record { none = type_none; here = λ ts. tb.nothing }

pub type_at : {ts m : List Token} {x : TypeTree} → SpellsType ts x m → next_is type_word ts ≡ true
type_at tg.int = refl
type_at tg.char = refl
type_at tg.struct = refl
type_at (tg.pointer {k} w d e) = pointer_is k w

pub type_shorter : (ts m : List Token) (r : Reach) → TypeS ts m r → length m < length ts
type_shorter ts m r (tf.type {t = x} d) = shrinks type_exact (tf.type d) (type_high x)

type_one : {k : TokenKind} {s : Span} {rest : List Token} → type_word k ≡ true → (r : Reach) × BeginsType (token k s ∷ rest) rest r
type_one {k = kinds.Keyword keywords.Int} so = (_, tb.int)
type_one {k = kinds.Keyword keywords.Char} so = (_, tb.char)
type_one {k = kinds.Keyword keywords.Struct} so = (_, tb.struct_word)
type_one {k} so = (_, tb.pointer_word (some_word (pointer_word_of k) so).1)

type_start : {t : Token} {ts rest : List Token} {r : Reach} → BeginsType (t ∷ ts) rest r → length rest ≡ length ts → (r.height ≡ 0) ⊎ (r.start ≡ t.span.from)
type_start tb.nothing same = inl refl
type_start tb.int same = inr refl
type_start tb.char same = inr refl
type_start tb.struct_word same = inr refl
type_start tb.struct same = inr refl
type_start (tb.pointer_word w) same = inr refl
type_start (tb.element w c) same = absurd (omega (arith, same, end_length (type_exact.ended c)))
type_start (tb.stars {ts} {mid} {rest} w d c) same = absurd (omega (arith, same, end_length (tf.with_stars.ended (tf.with_stars_b d c))))
type_start (tb.pointer w d c) same = absurd (omega (arith, same, end_length (tf.with_stars.ended (tf.with_stars.spelled (tf.with_stars_s d c)))))

pub type_first : PutsFirst type_word BeginsType
type_first = record { one = type_one; start = type_start }

-- ---- expressions

operator_is : (k : TokenKind) {w : UnaryOperator} → unary_operator_of k ≡ Some w → unary_word k ≡ true
operator_is k w = each_unary_operator (λ k. unary_word k ≡ true) k w refl refl refl refl refl

cast_is : (k : TokenKind) {w : CastWord} → cast_word_of k ≡ Some w → unary_word k ≡ true
cast_is k w = each_cast_word (λ k. unary_word k ≡ true) k w refl refl

malloc_is : (k : TokenKind) {w : MallocWord} → malloc_word_of k ≡ Some w → unary_word k ≡ true
malloc_is k w = each_malloc_word (λ k. unary_word k ≡ true) k w refl refl

calloc_is : (k : TokenKind) {w : CallocWord} → calloc_word_of k ≡ Some w → unary_word k ≡ true
calloc_is k w = each_calloc_word (λ k. unary_word k ≡ true) k w refl refl

pub call_at : {ts m : List Token} {x : Expression} {o : Span} → SpellsCall ts x o m → next_is name_token ts ≡ true
call_at (g.call a) = refl

call_word_at : {ts m : List Token} {x : Expression} {o : Span} → SpellsCall ts x o m → next_is unary_word ts ≡ true
call_word_at (g.call a) = refl

primary_at : {ts m : List Token} {x : Expression} {o : Span} → SpellsPrimary ts x o m → next_is unary_word ts ≡ true
primary_at g.number = refl
primary_at g.character = refl
primary_at g.text = refl
primary_at (g.name f) = refl
primary_at (g.called d) = call_word_at d
primary_at (g.parentheses d) = refl
primary_at (g.size_of d) = refl
primary_at (g.cast {k} w a d) = cast_is k w
primary_at (g.bounded_cast {k} w a d c) = cast_is k w
primary_at (g.malloc {k} w a d) = malloc_is k w
primary_at (g.calloc {k} w a d c) = calloc_is k w

pub unary_at : {ts m : List Token} {x : Expression} {o : Span} → SpellsUnary ts x o m → next_is unary_word ts ≡ true
unary_at (g.operator {k} w d) = operator_is k w
unary_at (g.postfix p s) = primary_at p

pub binary_at : {n : ℕ} {ts m : List Token} {x : Expression} {o : Span} → SpellsBinary n ts x o m → next_is unary_word ts ≡ true
binary_at (g.operand d) = unary_at d
binary_at (g.operators d t) = binary_at d

call_none : {ts rest : List Token} {q : Reach} → BeginsCall ts rest q → next_is unary_word ts ≡ false → rest ≡ ts
call_none b.callee so = absurd cc
call_none (b.arguments c) so = absurd cc

pub call_begun_at : {ts rest : List Token} {q : Reach} → BeginsCall ts rest q → next_is name_token ts ≡ true
call_begun_at b.callee = refl
call_begun_at (b.arguments c) = refl

primary_none : {ts rest : List Token} {q : Reach} → BeginsPrimary ts rest q → next_is unary_word ts ≡ false → rest ≡ ts
primary_none b.nothing so = refl
primary_none b.number so = absurd cc
primary_none b.character so = absurd cc
primary_none b.text so = absurd cc
primary_none b.name so = absurd cc
primary_none (b.call c) so = call_none c so
primary_none (b.inside c) so = absurd cc
primary_none (b.parentheses d) so = absurd cc
primary_none b.size_of_word so = absurd cc
primary_none (b.size_of_type c) so = absurd cc
primary_none (b.size_of d) so = absurd cc
primary_none (b.cast_type {k} w c) so = never (cast_is k w) so
primary_none (b.cast_operand {k} w a c) so = never (cast_is k w) so
primary_none (b.cast {k} w a d) so = never (cast_is k w) so
primary_none (b.cast_bounds {k} w a d c) so = never (cast_is k w) so
primary_none (b.bounded_cast {k} w a d c) so = never (cast_is k w) so
primary_none (b.malloc_type {k} w c) so = never (malloc_is k w) so
primary_none (b.malloc_size {k} w a c) so = never (malloc_is k w) so
primary_none (b.malloc {k} w a d) so = never (malloc_is k w) so
primary_none (b.calloc_type {k} w c) so = never (calloc_is k w) so
primary_none (b.calloc_count {k} w a c) so = never (calloc_is k w) so
primary_none (b.calloc_size {k} w a d c) so = never (calloc_is k w) so
primary_none (b.calloc {k} w a d c) so = never (calloc_is k w) so

unary_none : {ts rest : List Token} {q : Reach} → BeginsUnary ts rest q → next_is unary_word ts ≡ false → rest ≡ ts
unary_none (b.operator {k} w c) so = never (operator_is k w) so
unary_none (b.primary c) so = primary_none c so
unary_none (b.selectors p c) so = never (primary_at p) so

pub unary_starts : Starts unary_word BeginsUnary
unary_starts = record { none = unary_none; here = λ ts. b.primary b.nothing }

binary_none : {n : ℕ} {ts rest : List Token} {q : Reach} → BeginsBinary n ts rest q → next_is unary_word ts ≡ false → rest ≡ ts
binary_none (b.operand c) so = unary_none c so
binary_none (b.first c) so = binary_none c so
binary_none (b.operators d c) so = never (binary_at d) so

pub binary_starts : {n : ℕ} → Starts unary_word (BeginsBinary n)
binary_starts {n} = record { none = binary_none; here = λ ts. no_binary n }

pub unary_shorter : {ts m : List Token} {x : Expression} {o : Span} → SpellsUnary ts x o m → length m < length ts
unary_shorter {x} d = shrinks unary_exact (unary d) (some_node x)

primary_shorter : {ts m : List Token} {x : Expression} {o : Span} → SpellsPrimary ts x o m → length m < length ts
primary_shorter {x} p = takes unary_exact (b.selectors p b.unselected) (some_node x)

pub binary_shorter : {n : ℕ} {ts m : List Token} {x : Expression} {o : Span} → SpellsBinary n ts x o m → length m < length ts
binary_shorter {n} {x} d = shrinks (binary_exact n) (binary d) (some_node x)

-- ---- the first token of an expression

binary_ends : {n : ℕ} {ts rest : List Token} {q : Reach} → BeginsBinary n ts rest q → length rest ≤ length ts
binary_ends {n} c = end_length ((binary_exact n).ended c)

more_ends : {ts rest : List Token} {q : Reach} → BeginsMoreArguments ts rest q → length rest ≤ length ts
more_ends b.no_other = omega arith
more_ends (b.other c) = omega (arith, binary_ends c)
more_ends (b.still_others d c) = omega (arith, binary_shorter d, more_ends c)

arguments_end : {ts rest : List Token} {q : Reach} → BeginsArguments ts rest q → length rest ≤ length ts
arguments_end (b.argument c) = binary_ends c
arguments_end b.no_argument = omega arith
arguments_end (b.others d c) = omega (arith, binary_shorter d, more_ends c)

selectors_within : {x : Expression} {o : Span} {ts rest : List Token} {q : Reach} → BeginsSelectors x o ts rest q → length rest ≤ length ts
selectors_within b.unselected = omega arith
selectors_within (b.index c) = omega (arith, binary_ends c)
selectors_within (b.indexed d c) = omega (arith, binary_shorter d, selectors_within c)
selectors_within b.dot = omega arith
selectors_within (b.dotted c) = omega (arith, selectors_within c)
selectors_within b.arrow = omega arith
selectors_within (b.pointed c) = omega (arith, selectors_within c)

-- where no selector is read
unselected : {x : Expression} {o : Span} {ts rest : List Token} {q : Reach} → BeginsSelectors x o ts rest q → length ts ≤ length rest → q ≡ expression_reach x
unselected b.unselected short = refl
unselected (b.index c) short = absurd (omega (arith, short, binary_ends c))
unselected (b.indexed d c) short = absurd (omega (arith, short, binary_shorter d, selectors_within c))
unselected b.dot short = absurd (omega (arith, short))
unselected (b.dotted c) short = absurd (omega (arith, short, selectors_within c))
unselected b.arrow short = absurd (omega (arith, short))
unselected (b.pointed c) short = absurd (omega (arith, short, selectors_within c))

name_ends : {ts m : List Token} {x : TypeName} → SpellsTypeName ts x m → length m ≤ length ts
name_ends d = end_length (type_name_exact.ended (type_name_exact.spelled (tf.named d)))

angled_shorter : {ts m : List Token} {x : TypeName} → SpellsAngled ts x m → length m < length ts
angled_shorter (tg.angled d) = omega (arith, name_ends d)

bounds_end : {ts m : List Token} {x : e.Bounds} {o : Span} → SpellsBounds ts x o m → length m ≤ length ts
bounds_end d = end_length (bounds_exact.ended (bounds_exact.spelled (written d)))

-- a node around nothing
starts_at : {s : ℕ} {q : Reach} → q ≡ nowhere → (around s q).start ≡ s
starts_at {s} same = ap (λ (x : Reach). (around s x).start) same

call_start : {t : Token} {ts rest : List Token} {r : Reach} → BeginsCall (t ∷ ts) rest r → length rest ≡ length ts → (r.height ≡ 0) ⊎ (r.start ≡ t.span.from)
call_start b.callee same = inr refl
call_start (b.arguments c) same = absurd (omega (arith, same, arguments_end c))

primary_start : {t : Token} {ts rest : List Token} {r : Reach} → BeginsPrimary (t ∷ ts) rest r → length rest ≡ length ts → (r.height ≡ 0) ⊎ (r.start ≡ t.span.from)
primary_start b.nothing same = inl refl
primary_start b.number same = inr refl
primary_start b.character same = inr refl
primary_start b.text same = inr refl
primary_start b.name same = inr refl
primary_start (b.call c) same = call_start c same
primary_start (b.inside c) same = inl (ap (λ (x : Reach). x.height) (unread (binary_exact 10) c same))
primary_start (b.parentheses d) same = absurd (omega (arith, same, binary_shorter d))
primary_start b.size_of_word same = inr refl
primary_start (b.size_of_type c) same = absurd (omega (arith, same, end_length (type_name_exact.ended c)))
primary_start (b.size_of d) same = absurd (omega (arith, same, name_ends d))
primary_start (b.cast_type w c) same = inr (starts_at (unread angled_exact c same))
primary_start (b.cast_operand w a c) same = absurd (omega (arith, same, angled_shorter a, binary_ends c))
primary_start (b.cast w a d) same = absurd (omega (arith, same, angled_shorter a, binary_shorter d))
primary_start (b.cast_bounds w a d c) same = absurd (omega (arith, same, angled_shorter a, binary_shorter d, end_length (bounds_exact.ended c)))
primary_start (b.bounded_cast w a d c) same = absurd (omega (arith, same, angled_shorter a, binary_shorter d, bounds_end c))
primary_start (b.malloc_type w c) same = inr (starts_at (unread angled_exact c same))
primary_start (b.malloc_size w a c) same = absurd (omega (arith, same, angled_shorter a, binary_ends c))
primary_start (b.malloc w a d) same = absurd (omega (arith, same, angled_shorter a, binary_shorter d))
primary_start (b.calloc_type w c) same = inr (starts_at (unread angled_exact c same))
primary_start (b.calloc_count w a c) same = absurd (omega (arith, same, angled_shorter a, binary_ends c))
primary_start (b.calloc_size w a d c) same = absurd (omega (arith, same, angled_shorter a, binary_shorter d, binary_ends c))
primary_start (b.calloc w a d c) same = absurd (omega (arith, same, angled_shorter a, binary_shorter d, binary_shorter c))

more_shorter : {ts m : List Token} {x : e.Expressions} {o : Span} → SpellsMoreArguments ts x o m → length m < length ts
more_shorter g.no_other = omega arith
more_shorter (g.other d m) = omega (arith, binary_shorter d, more_shorter m)

arguments_shorter : {ts m : List Token} {x : e.Expressions} {o : Span} → SpellsArguments ts x o m → length m < length ts
arguments_shorter g.no_argument = omega arith
arguments_shorter (g.argument d m) = omega (arith, binary_shorter d, more_shorter m)

call_single : {t : Token} {ts m : List Token} {x : Expression} {o : Span} → SpellsCall (t ∷ ts) x o m → length m ≡ length ts → ⊥
call_single (g.call a) same = absurd (omega (arith, same, arguments_shorter a))

-- an expression of one token
single_start : {t : Token} {ts m : List Token} {x : Expression} {o : Span} → SpellsPrimary (t ∷ ts) x o m → length m ≡ length ts → (expression_reach x).start ≡ t.span.from
single_start g.number same = refl
single_start g.character same = refl
single_start g.text same = refl
single_start (g.name f) same = refl
single_start (g.called d) same = absurd (call_single d same)
single_start (g.parentheses d) same = absurd (omega (arith, same, binary_shorter d))
single_start (g.size_of d) same = absurd (omega (arith, same, name_ends d))
single_start (g.cast w a d) same = absurd (omega (arith, same, angled_shorter a, binary_shorter d))
single_start (g.bounded_cast w a d c) same = absurd (omega (arith, same, angled_shorter a, binary_shorter d, bounds_end c))
single_start (g.malloc w a d) same = absurd (omega (arith, same, angled_shorter a, binary_shorter d))
single_start (g.calloc w a d c) same = absurd (omega (arith, same, angled_shorter a, binary_shorter d, binary_shorter c))

unary_start : {t : Token} {ts rest : List Token} {r : Reach} → BeginsUnary (t ∷ ts) rest r → length rest ≡ length ts → (r.height ≡ 0) ⊎ (r.start ≡ t.span.from)
unary_start (b.operator w c) same = inr (starts_at (unread unary_exact c same))
unary_start (b.primary c) same = primary_start c same
unary_start (b.selectors {mid} p c) same =
    let short = primary_shorter p in
    let within = selectors_within c in
    inr (ap (λ (x : Reach). x.start) (unselected c (omega (arith, same, short))) ∙ single_start p (omega (arith, same, short, within)))

unary_one : {k : TokenKind} {s : Span} {rest : List Token} → unary_word k ≡ true → (r : Reach) × BeginsUnary (token k s ∷ rest) rest r
unary_one {k = kinds.Star} so = (_, b.operator refl (b.primary b.nothing))
unary_one {k = kinds.Ampersand} so = (_, b.operator refl (b.primary b.nothing))
unary_one {k = kinds.Minus} so = (_, b.operator refl (b.primary b.nothing))
unary_one {k = kinds.Not} so = (_, b.operator refl (b.primary b.nothing))
unary_one {k = kinds.Tilde} so = (_, b.operator refl (b.primary b.nothing))
unary_one {k = kinds.OpenParen} so = (_, b.primary (b.inside (no_binary 10)))
unary_one {k = kinds.Number n} so = (_, b.primary b.number)
unary_one {k = kinds.Character n} so = (_, b.primary b.character)
unary_one {k = kinds.Text x} so = (_, b.primary b.text)
unary_one {k = kinds.Name x} so = (_, b.primary b.name)
unary_one {k = kinds.Keyword keywords.Sizeof} so = (_, b.primary b.size_of_word)
unary_one {k = kinds.Keyword keywords.DynamicBoundsCast} so = (_, b.primary (b.cast_type refl tb.nothing))
unary_one {k = kinds.Keyword keywords.AssumeBoundsCast} so = (_, b.primary (b.cast_type refl tb.nothing))
unary_one {k = kinds.Keyword keywords.Malloc} so = (_, b.primary (b.malloc_type refl tb.nothing))
unary_one {k = kinds.Keyword keywords.TMalloc} so = (_, b.primary (b.malloc_type refl tb.nothing))
unary_one {k = kinds.Keyword keywords.Calloc} so = (_, b.primary (b.calloc_type refl tb.nothing))
unary_one {k = kinds.Keyword keywords.NtCalloc} so = (_, b.primary (b.calloc_type refl tb.nothing))
unary_one {k = _} so = absurd cc

pub unary_first : PutsFirst unary_word BeginsUnary
unary_first = record { one = unary_one; start = unary_start }
