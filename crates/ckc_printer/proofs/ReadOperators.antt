-- The signs of operators are read as the operators, and their levels as those of an expression.
use Rattle.std.proofs.Common.{◌≡◌, ℕ, zero, suc, ◌+◌, ◌-◌, ◌<◌, ◌≤◌, Bool, true, false, List, [], ◌∷◌, Option, Some, None, refl, ap, subst, arith}
use Rattle.std.proofs.lemmas.Bool.{ne_eqb, eq-eqb}
use Rattle.ckc_text.specs.declared.place.Span.{Span}
use Rattle.ckc_lexer.specs.declared.token.Token.{Token}
use Rattle.ckc_lexer.specs.declared.token.TokenKind.{TokenKind}
use Rattle.ckc_lexer.specs.declared.token.TokenKind.TheVariants as kinds
use Rattle.ckc_tree.specs.declared.expr.UnaryOperator.{UnaryOperator}
use Rattle.ckc_tree.specs.declared.expr.UnaryOperator.TheVariants as unary
use Rattle.ckc_tree.specs.declared.expr.BinaryOperator.{BinaryOperator}
use Rattle.ckc_tree.specs.declared.expr.BinaryOperator.TheVariants as binary
use Rattle.ckc_tree.specs.declared.expr.CastWord.{CastWord}
use Rattle.ckc_tree.specs.declared.expr.CastWord.TheVariants as casts
use Rattle.ckc_tree.specs.declared.expr.MallocWord.{MallocWord}
use Rattle.ckc_tree.specs.declared.expr.MallocWord.TheVariants as mallocs
use Rattle.ckc_tree.specs.declared.expr.CallocWord.{CallocWord}
use Rattle.ckc_tree.specs.declared.expr.CallocWord.TheVariants as callocs
use Rattle.ckc_tree.specs.Expressions.{Expression, Binary}
use Rattle.ckc_parser_grammar.specs.Tokens.{token, join, unary_operator_of, cast_word_of, malloc_word_of, calloc_word_of, level, operator_of, operator_at, operator_with, with_rest, behind_greater, greater_or_shift, right_shift, has_operator, open_paren, selector}
use Rattle.ckc_parser_grammar.specs.ExpressionGrammar as g
use Rattle.ckc_parser_grammar.specs.ExpressionGrammar.{SpellsBinary, SpellsUnary}
use Rattle.ckc_printer.specs.Pieces.{Sign, One, RightShift}
use Rattle.ckc_printer.specs.ExpressionPieces.{unary_kind, binary_sign, cast_kind, malloc_kind, calloc_kind}
use Rattle.ckc_printer.specs.ReadingBack.{Behind, AreSigns, none, one, shift}
use Rattle.ckc_printer.proofs.SignedTokens.{first_is}

-- ---- words

pub unary_word : (w : UnaryOperator) → unary_operator_of (unary_kind w) ≡ Some w
unary_word unary.Deref = refl
unary_word unary.AddressOf = refl
unary_word unary.Negate = refl
unary_word unary.Not = refl
unary_word unary.Complement = refl

pub cast_word : (w : CastWord) → cast_word_of (cast_kind w) ≡ Some w
cast_word casts.Dynamic = refl
cast_word casts.Assume = refl

pub malloc_word : (w : MallocWord) → malloc_word_of (malloc_kind w) ≡ Some w
malloc_word mallocs.Malloc = refl
malloc_word mallocs.TMalloc = refl

pub calloc_word : (w : CallocWord) → calloc_word_of (calloc_kind w) ≡ Some w
calloc_word callocs.Calloc = refl
calloc_word callocs.NtCalloc = refl

-- ---- the operator that stands first

second_mark : (to from : ℕ) (ts behind : List Token) (k : TokenKind) → to < from → greater_or_shift to ts behind k from ≡ Some (binary.Greater, ts)
second_mark to from ts behind kinds.Greater h = ap (λ b. right_shift b ts behind) (ne_eqb to from (λ e. omega arith))
second_mark to from ts behind _ h = refl

greater_alone : (to : ℕ) (ts : List Token) → Behind to ts → behind_greater to ts ≡ Some (binary.Greater, ts)
greater_alone to [] h = refl
greater_alone to (t ∷ ts) h = second_mark to t.span.from (t ∷ ts) ts t.kind h

-- an operator with the tokens behind it, which are these signs
pub record ReadOperator (operator : BinaryOperator) (more : List Sign) (ts : List Token) : Type 0 where
  pub rest : List Token
  pub found : operator_at ts ≡ Some (operator, rest)
  pub on : AreSigns more rest

read_mark : (w : BinaryOperator) (k : TokenKind) (more : List Sign) (ts : List Token) → ((s : Span) (us : List Token) → Behind s.to us → operator_at (token k s ∷ us) ≡ Some (w, us)) → AreSigns (One k ∷ more) ts → ReadOperator w more ts
read_mark w k more ts is (one {s} {ts = us} b h) = record { rest = us; found = is s us b; on = h }

read_shift : (more : List Sign) (ts : List Token) → AreSigns (RightShift ∷ more) ts → ReadOperator binary.ShiftRight more ts
read_shift more ts (shift {s} {t} {ts = us} e b h) = record { rest = us; found = ap (λ b. right_shift b (token kinds.Greater t ∷ us) us) (eq-eqb s.to t.from e); on = h }

pub read_operator : (w : BinaryOperator) (more : List Sign) (ts : List Token) → AreSigns (binary_sign w ∷ more) ts → ReadOperator w more ts
read_operator binary.Greater more ts h = read_mark _ _ more ts (λ s us b. greater_alone s.to us b) h
read_operator binary.ShiftRight more ts h = read_shift more ts h
read_operator w more ts h = read_mark _ _ more ts (λ s us b. refl) h

pub no_paren : (w : BinaryOperator) (more : List Sign) → first_is open_paren (binary_sign w ∷ more) ≡ false
no_paren w more = elim w as (λ w. first_is open_paren (binary_sign w ∷ more) ≡ false) [ binary.Or ↦ refl | _ ↦ refl ]

pub no_selector : (w : BinaryOperator) (more : List Sign) → first_is selector (binary_sign w ∷ more) ≡ false
no_selector w more = elim w as (λ w. first_is selector (binary_sign w ∷ more) ≡ false) [ binary.Or ↦ refl | _ ↦ refl ]

-- ---- no operator stands first

abbrev is_some : {A : Type 0} → Option A → Bool
is_some None = false
is_some (Some x) = true

abbrev pub operator_mark : TokenKind → Bool
operator_mark k = is_some (operator_of k)

mark_none : (ts : List Token) (o : Option BinaryOperator) → is_some o ≡ false → with_rest ts o ≡ None
mark_none ts None h = refl
mark_none ts (Some w) h = absurd cc

kind_none : (s : Span) (ts : List Token) (k : TokenKind) → operator_mark k ≡ false → operator_with s ts k ≡ None
kind_none s ts kinds.Greater h = absurd cc
kind_none s ts k h = mark_none ts (operator_of k) h

pub no_operator : {signs : List Sign} {ts : List Token} → first_is operator_mark signs ≡ false → AreSigns signs ts → operator_at ts ≡ None
no_operator f none = refl
no_operator f (one {k} {s} {ts} b h) = kind_none s ts k f
no_operator f (shift e b h) = absurd cc

-- ---- levels

no_level : (n : ℕ) (ts : List Token) → operator_at ts ≡ None → has_operator n ts ≡ false
no_level n ts f = rw f refl

other_level : (n : ℕ) (ts : List Token) {us : List Token} {w : BinaryOperator} → operator_at ts ≡ Some (w, us) → (level w ≡ n → ⊥) → has_operator n ts ≡ false
other_level n ts {w} found other = rw found (ne_eqb (level w) n other)

-- an expression with operators of at most one level has none of the levels above it, where none stands behind it
raised : (d : ℕ) {m n : ℕ} {ts rest : List Token} {e : Expression} {o : Span} → d + m ≡ n → operator_at rest ≡ None → SpellsBinary m ts e o rest → SpellsBinary n ts e o rest
raised zero {m} {n} {ts} {rest} {e} {o} same f d = let h : m ≡ n = omega arith in subst (λ (n : ℕ). SpellsBinary n ts e o rest) h d
raised (suc d) {m} {rest} same f x = raised d {m = suc m} (omega arith) f (g.operators x (g.level_done (no_level (suc m) rest f)))

pub alone : {ts rest : List Token} {e : Expression} {o : Span} (n : ℕ) → operator_at rest ≡ None → SpellsUnary ts e o rest → SpellsBinary n ts e o rest
alone n f d = raised n (omega arith) f (g.operand d)

-- the left operand of an operator
before : (n : ℕ) {ts rest us : List Token} {e : Expression} {o : Span} {w : BinaryOperator} → n < level w → operator_at rest ≡ Some (w, us) → SpellsUnary ts e o rest → SpellsBinary n ts e o rest
before zero low f d = g.operand d
before (suc n) {rest} {w} low f d = g.operators (before n (omega arith) f d) (g.level_done (other_level (suc n) rest f (λ e. omega arith)))

level_range : (w : BinaryOperator) → (level w ≡ suc (level w - 1)) × (level w ≤ 10)
level_range w = elim w as (λ w. (level w ≡ suc (level w - 1)) × (level w ≤ 10)) [ binary.Or ↦ (refl, omega arith) | _ ↦ (refl, omega arith) ]

-- an operator between two operands without operators outside parentheses
pub between : {w : BinaryOperator} {ts mid us rest : List Token} {left right : Expression} {o p : Span} → SpellsUnary ts left o mid → operator_at mid ≡ Some (w, us) → SpellsUnary us right p rest → operator_at rest ≡ None
    → SpellsBinary 10 ts (Binary w left right (join o p)) (join o p) rest
between {w} {rest} x found y f =
    let n = level w - 1 in
    let range = level_range w in
    let whole = g.operators (before n (omega arith) found x) (g.level_more found range.0 (alone n f y) (g.level_done (no_level (suc n) rest f))) in
    raised (9 - n) (omega arith) f whole
