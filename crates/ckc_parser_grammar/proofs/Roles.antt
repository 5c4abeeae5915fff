-- The token with which a statement starts.
use Rattle.std.proofs.Common.{◌≡◌, ℕ, ◌≤◌, List, [], ◌∷◌, refl, arith, Some}
use Rattle.ckc_text.specs.declared.place.Span.{Span}
use Rattle.ckc_lexer.specs.declared.token.Token.{Token}
use Rattle.ckc_lexer.specs.declared.token.TokenKind.{TokenKind}
use Rattle.ckc_lexer.specs.declared.keyword.Keyword.TheVariants as keywords
use Rattle.ckc_lexer.specs.declared.token.TokenKind.TheVariants as kinds
use Rattle.ckc_tree.specs.declared.type_form.PointerWord.{PointerWord}
use Rattle.ckc_tree.specs.declared.expr.UnaryOperator.{UnaryOperator}
use Rattle.ckc_tree.specs.declared.expr.CastWord.{CastWord}
use Rattle.ckc_tree.specs.declared.expr.MallocWord.{MallocWord}
use Rattle.ckc_tree.specs.declared.expr.CallocWord.{CallocWord}
use Rattle.ckc_tree.specs.declared.stmt.Mark.{Mark}
use Rattle.ckc_tree.specs.declared.stmt.StepOperator.{StepOperator}
use Rattle.ckc_tree.specs.Types.{TypeTree}
use Rattle.ckc_tree.specs.Expressions.{Expression}
use Rattle.ckc_tree.specs.Statements.{Declaration, Assignment, Statement, ForInitial}
use Rattle.ckc_parser_grammar.specs.Tokens.{pointer_word_of, unary_operator_of, cast_word_of, malloc_word_of, calloc_word_of, mark_of, step_operator_of}
use Rattle.ckc_parser_grammar.specs.TypeGrammar as types
use Rattle.ckc_parser_grammar.specs.TypeGrammar.{SpellsType}
use Rattle.ckc_parser_grammar.specs.ExpressionGrammar as grammar
use Rattle.ckc_parser_grammar.specs.ExpressionGrammar.{SpellsUnary, SpellsPrimary, SpellsCall}
use Rattle.ckc_parser_grammar.specs.StatementGrammar as g
use Rattle.ckc_parser_grammar.specs.StatementGrammar.{SpellsDeclaration, SpellsAssignment, SpellsStatement, SpellsForInitial}
use Rattle.ckc_parser_grammar.proofs.OneMeaning.{each_pointer_word, each_unary_operator, each_cast_word, each_malloc_word, each_calloc_word, each_mark, each_step_operator}

-- which statement a token starts: 0 for none, 1 for a declaration, 2 for an assignment or a call
abbrev pub role : TokenKind → ℕ
role (kinds.Keyword keywords.Int) = 1
role (kinds.Keyword keywords.Char) = 1
role (kinds.Keyword keywords.Struct) = 1
role (kinds.Keyword keywords.Ptr) = 1
role (kinds.Keyword keywords.ArrayPtr) = 1
role (kinds.Keyword keywords.NtArrayPtr) = 1
role (kinds.Keyword keywords.TPtr) = 1
role (kinds.Keyword keywords.TArrayPtr) = 1
role (kinds.Keyword keywords.TNtArrayPtr) = 1
role (kinds.Number n) = 2
role (kinds.Character n) = 2
role (kinds.Text x) = 2
role (kinds.Name x) = 2
role kinds.OpenParen = 2
role (kinds.Keyword keywords.Sizeof) = 2
role (kinds.Keyword keywords.DynamicBoundsCast) = 2
role (kinds.Keyword keywords.AssumeBoundsCast) = 2
role (kinds.Keyword keywords.Malloc) = 2
role (kinds.Keyword keywords.TMalloc) = 2
role (kinds.Keyword keywords.Calloc) = 2
role (kinds.Keyword keywords.NtCalloc) = 2
role kinds.Star = 2
role kinds.Ampersand = 2
role kinds.Minus = 2
role kinds.Not = 2
role kinds.Tilde = 2
role kinds.PlusPlus = 2
role kinds.MinusMinus = 2
role kinds.OpenBrace = 3
role (kinds.Keyword keywords.Checked) = 4
role (kinds.Keyword keywords.Unchecked) = 4
role (kinds.Keyword keywords.Bundled) = 5
role kinds.Semicolon = 6
role (kinds.Keyword keywords.If) = 7
role (kinds.Keyword keywords.While) = 8
role (kinds.Keyword keywords.For) = 9
role (kinds.Keyword keywords.Return) = 10
role (kinds.Keyword keywords.Break) = 11
role (kinds.Keyword keywords.Continue) = 12
role _ = 0

abbrev pub role_at : List Token → ℕ
role_at [] = 0
role_at (t ∷ ts) = role t.kind

pointer_role : (k : TokenKind) {w : PointerWord} → pointer_word_of k ≡ Some w → role k ≡ 1
pointer_role k w = each_pointer_word (λ k. role k ≡ 1) k w refl refl refl refl refl refl

pub type_role : {ts r : List Token} {t : TypeTree} → SpellsType ts t r → role_at ts ≡ 1
type_role types.int = refl
type_role types.char = refl
type_role types.struct = refl
type_role (types.pointer {k} w d e) = pointer_role k w

operator_role : (k : TokenKind) {w : UnaryOperator} → unary_operator_of k ≡ Some w → role k ≡ 2
operator_role k w = each_unary_operator (λ k. role k ≡ 2) k w refl refl refl refl refl

cast_role : (k : TokenKind) {w : CastWord} → cast_word_of k ≡ Some w → role k ≡ 2
cast_role k w = each_cast_word (λ k. role k ≡ 2) k w refl refl

malloc_role : (k : TokenKind) {w : MallocWord} → malloc_word_of k ≡ Some w → role k ≡ 2
malloc_role k w = each_malloc_word (λ k. role k ≡ 2) k w refl refl

calloc_role : (k : TokenKind) {w : CallocWord} → calloc_word_of k ≡ Some w → role k ≡ 2
calloc_role k w = each_calloc_word (λ k. role k ≡ 2) k w refl refl

pub mark_role : (k : TokenKind) {w : Mark} → mark_of k ≡ Some w → role k ≡ 4
mark_role k w = each_mark (λ k. role k ≡ 4) k w refl refl

step_role : (k : TokenKind) {w : StepOperator} → step_operator_of k ≡ Some w → role k ≡ 2
step_role k w = each_step_operator (λ k. role k ≡ 2) k w refl refl

call_role : {ts r : List Token} {e : Expression} {o : Span} → SpellsCall ts e o r → role_at ts ≡ 2
call_role (grammar.call a) = refl

primary_role : {ts r : List Token} {e : Expression} {o : Span} → SpellsPrimary ts e o r → role_at ts ≡ 2
primary_role grammar.number = refl
primary_role grammar.character = refl
primary_role grammar.text = refl
primary_role (grammar.name f) = refl
primary_role (grammar.called d) = call_role d
primary_role (grammar.parentheses d) = refl
primary_role (grammar.size_of d) = refl
primary_role (grammar.cast {k} w a d) = cast_role k w
primary_role (grammar.bounded_cast {k} w a d b) = cast_role k w
primary_role (grammar.malloc {k} w a d) = malloc_role k w
primary_role (grammar.calloc {k} w a d b) = calloc_role k w

unary_role : {ts r : List Token} {e : Expression} {o : Span} → SpellsUnary ts e o r → role_at ts ≡ 2
unary_role (grammar.operator {k} w d) = operator_role k w
unary_role (grammar.postfix p s) = primary_role p

declaration_role : {ts r : List Token} {d : Declaration} → SpellsDeclaration ts d r → role_at ts ≡ 1
declaration_role (g.declaration t d) = type_role t

pub assignment_role : {ts r : List Token} {a : Assignment} → SpellsAssignment ts a r → role_at ts ≡ 2
assignment_role (g.store d w e) = unary_role d
assignment_role (g.after d w) = unary_role d
assignment_role (g.before {k} w d) = step_role k w

abbrev pub role_of : {ts r : List Token} {s : Statement} → SpellsStatement ts s r → ℕ
role_of (g.block d) = 3
role_of (g.marked_block w d) = 4
role_of (g.bundle d) = 5
role_of (g.declare d) = 1
role_of (g.assign d) = 2
role_of (g.call d) = 2
role_of g.empty = 6
role_of (g.if c d f) = 7
role_of (g.if_else c d e) = 7
role_of (g.while c d) = 8
role_of (g.for i c s d) = 9
role_of g.return_nothing = 10
role_of (g.return d) = 10
role_of g.break = 11
role_of g.continue = 12

pub statement_role : {ts r : List Token} {s : Statement} (d : SpellsStatement ts s r) → role_at ts ≡ role_of d
statement_role (g.block d) = refl
statement_role (g.marked_block {k} w d) = mark_role k w
statement_role (g.bundle d) = refl
statement_role (g.declare d) = declaration_role d
statement_role (g.assign d) = assignment_role d
statement_role (g.call d) = call_role d
statement_role g.empty = refl
statement_role (g.if c d f) = refl
statement_role (g.if_else c d e) = refl
statement_role (g.while c d) = refl
statement_role (g.for i c s d) = refl
statement_role g.return_nothing = refl
statement_role (g.return d) = refl
statement_role g.break = refl
statement_role g.continue = refl

role_positive : {ts r : List Token} {s : Statement} (d : SpellsStatement ts s r) → 1 ≤ role_of d
role_positive (g.block d) = omega arith
role_positive (g.marked_block w d) = omega arith
role_positive (g.bundle d) = omega arith
role_positive (g.declare d) = omega arith
role_positive (g.assign d) = omega arith
role_positive (g.call d) = omega arith
role_positive g.empty = omega arith
role_positive (g.if c d f) = omega arith
role_positive (g.if_else c d e) = omega arith
role_positive (g.while c d) = omega arith
role_positive (g.for i c s d) = omega arith
role_positive g.return_nothing = omega arith
role_positive (g.return d) = omega arith
role_positive g.break = omega arith
role_positive g.continue = omega arith

pub statement_starts : {ts r : List Token} {s : Statement} → SpellsStatement ts s r → 1 ≤ role_at ts
statement_starts d = omega (arith, statement_role d, role_positive d)

abbrev pub initial_role_of : {ts r : List Token} {i : ForInitial} → SpellsForInitial ts i r → ℕ
initial_role_of g.nothing = 6
initial_role_of (g.declares d) = 1
initial_role_of (g.assigns d) = 2

pub initial_role : {ts r : List Token} {i : ForInitial} (d : SpellsForInitial ts i r) → role_at ts ≡ initial_role_of d
initial_role g.nothing = refl
initial_role (g.declares d) = declaration_role d
initial_role (g.assigns d) = assignment_role d
