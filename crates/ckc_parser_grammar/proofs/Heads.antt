-- The token with which an expression starts.
use Rattle.std.proofs.Common.{◌≡◌, ℕ, ◌≤◌, List, [], ◌∷◌, refl, arith, Some}
use Rattle.ckc_text.specs.declared.place.Span.{Span}
use Rattle.ckc_lexer.specs.declared.token.Token.{Token}
use Rattle.ckc_lexer.specs.declared.token.TokenKind.{TokenKind}
use Rattle.ckc_lexer.specs.declared.keyword.Keyword.TheVariants as keywords
use Rattle.ckc_lexer.specs.declared.token.TokenKind.TheVariants as kinds
use Rattle.ckc_tree.specs.declared.expr.UnaryOperator.{UnaryOperator}
use Rattle.ckc_tree.specs.declared.expr.CastWord.{CastWord}
use Rattle.ckc_tree.specs.declared.expr.MallocWord.{MallocWord}
use Rattle.ckc_tree.specs.declared.expr.CallocWord.{CallocWord}
use Rattle.ckc_tree.specs.Expressions.{Expression}
use Rattle.ckc_parser_grammar.specs.Tokens.{token, unary_operator_of, cast_word_of, malloc_word_of, calloc_word_of}
use Rattle.ckc_parser_grammar.specs.ExpressionGrammar as grammar
use Rattle.ckc_parser_grammar.specs.ExpressionGrammar.{SpellsBinary, SpellsUnary, SpellsPrimary, SpellsCall}
use Rattle.ckc_parser_grammar.proofs.OneMeaning.{each_unary_operator, each_cast_word, each_malloc_word, each_calloc_word}

-- which of the smallest expressions a token starts: 0 for none, and 10 for an operator before an operand
abbrev pub class : TokenKind → ℕ
class (kinds.Number n) = 1
class (kinds.Character n) = 2
class (kinds.Text x) = 3
class (kinds.Name x) = 4
class kinds.OpenParen = 5
class (kinds.Keyword keywords.Sizeof) = 6
class (kinds.Keyword keywords.DynamicBoundsCast) = 7
class (kinds.Keyword keywords.AssumeBoundsCast) = 7
class (kinds.Keyword keywords.Malloc) = 8
class (kinds.Keyword keywords.TMalloc) = 8
class (kinds.Keyword keywords.Calloc) = 9
class (kinds.Keyword keywords.NtCalloc) = 9
class kinds.Star = 10
class kinds.Ampersand = 10
class kinds.Minus = 10
class kinds.Not = 10
class kinds.Tilde = 10
class _ = 0

abbrev pub class_at : List Token → ℕ
class_at [] = 0
class_at (t ∷ ts) = class t.kind

abbrev pub class_of : {ts r : List Token} {e : Expression} {o : Span} → SpellsPrimary ts e o r → ℕ
class_of grammar.number = 1
class_of grammar.character = 2
class_of grammar.text = 3
class_of (grammar.name f) = 4
class_of (grammar.called d) = 4
class_of (grammar.parentheses d) = 5
class_of (grammar.size_of d) = 6
class_of (grammar.cast w a d) = 7
class_of (grammar.bounded_cast w a d b) = 7
class_of (grammar.malloc w a d) = 8
class_of (grammar.calloc w a d b) = 9

pub cast_class : (k : TokenKind) {w : CastWord} → cast_word_of k ≡ Some w → class k ≡ 7
cast_class k w = each_cast_word (λ k. class k ≡ 7) k w refl refl

pub malloc_class : (k : TokenKind) {w : MallocWord} → malloc_word_of k ≡ Some w → class k ≡ 8
malloc_class k w = each_malloc_word (λ k. class k ≡ 8) k w refl refl

pub calloc_class : (k : TokenKind) {w : CallocWord} → calloc_word_of k ≡ Some w → class k ≡ 9
calloc_class k w = each_calloc_word (λ k. class k ≡ 9) k w refl refl

pub unary_class : (k : TokenKind) {w : UnaryOperator} → unary_operator_of k ≡ Some w → class k ≡ 10
unary_class k w = each_unary_operator (λ k. class k ≡ 10) k w refl refl refl refl refl

call_class : {ts r : List Token} {e : Expression} {o : Span} → SpellsCall ts e o r → class_at ts ≡ 4
call_class (grammar.call a) = refl

pub primary_class : {ts r : List Token} {e : Expression} {o : Span} (d : SpellsPrimary ts e o r) → class_at ts ≡ class_of d
primary_class grammar.number = refl
primary_class grammar.character = refl
primary_class grammar.text = refl
primary_class (grammar.name f) = refl
primary_class (grammar.called d) = call_class d
primary_class (grammar.parentheses d) = refl
primary_class (grammar.size_of d) = refl
primary_class (grammar.cast {k} w a d) = cast_class k w
primary_class (grammar.bounded_cast {k} w a d b) = cast_class k w
primary_class (grammar.malloc {k} w a d) = malloc_class k w
primary_class (grammar.calloc {k} w a d b) = calloc_class k w

pub class_low : {ts r : List Token} {e : Expression} {o : Span} (d : SpellsPrimary ts e o r) → (1 ≤ class_of d) × (class_of d ≤ 9)
class_low grammar.number = (omega arith, omega arith)
class_low grammar.character = (omega arith, omega arith)
class_low grammar.text = (omega arith, omega arith)
class_low (grammar.name f) = (omega arith, omega arith)
class_low (grammar.called d) = (omega arith, omega arith)
class_low (grammar.parentheses d) = (omega arith, omega arith)
class_low (grammar.size_of d) = (omega arith, omega arith)
class_low (grammar.cast w a d) = (omega arith, omega arith)
class_low (grammar.bounded_cast w a d b) = (omega arith, omega arith)
class_low (grammar.malloc w a d) = (omega arith, omega arith)
class_low (grammar.calloc w a d b) = (omega arith, omega arith)

pub not_primary : {k : TokenKind} {w : UnaryOperator} {s o : Span} {ts r : List Token} {e : Expression} → unary_operator_of k ≡ Some w → SpellsPrimary (token k s ∷ ts) e o r → ⊥
not_primary {k} w d = absurd (omega (arith, unary_class k w, primary_class d, (class_low d).1))

pub unary_starts : {ts r : List Token} {e : Expression} {o : Span} → SpellsUnary ts e o r → 1 ≤ class_at ts
unary_starts (grammar.operator {k} w d) = omega (arith, unary_class k w)
unary_starts (grammar.postfix p s) = omega (arith, primary_class p, (class_low p).0)

pub starts : {n : ℕ} {ts r : List Token} {e : Expression} {o : Span} → SpellsBinary n ts e o r → 1 ≤ class_at ts
starts (grammar.operand d) = unary_starts d
starts (grammar.operators d t) = starts d
