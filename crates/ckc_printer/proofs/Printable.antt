-- What is printed of types and expressions that tokens spell can be read as tokens, since these are.
use Rattle.std.proofs.Common.{◌≡◌, ℕ, zero, suc, Bool, true, false, nat_eq, List, [], ◌∷◌, ◌++◌, Option, Some, None, subst}
use Rattle.std.specs.List.{AllByRecursion}
use Rattle.std.proofs.lemmas.Option.{same_Some, none-some}
use Rattle.ckc_text.specs.declared.place.Span.{Span}
use Rattle.ckc_lexer.specs.declared.token.Token.{Token}
use Rattle.ckc_lexer.specs.declared.token.TokenKind.{TokenKind}
use Rattle.ckc_lexer.specs.declared.token.TokenKind.TheVariants as kinds
use Rattle.ckc_tree.specs.declared.type_form.PointerMode.{PointerMode}
use Rattle.ckc_tree.specs.declared.type_form.PointerMode.TheVariants.{Checked, Tainted}
use Rattle.ckc_tree.specs.declared.type_form.PointerKind.{PointerKind}
use Rattle.ckc_tree.specs.declared.type_form.PointerKind.TheVariants as counts
use Rattle.ckc_tree.specs.declared.expr.UnaryOperator.{UnaryOperator}
use Rattle.ckc_tree.specs.declared.expr.UnaryOperator.TheVariants as unary
use Rattle.ckc_tree.specs.declared.expr.BinaryOperator.{BinaryOperator}
use Rattle.ckc_tree.specs.declared.expr.BinaryOperator.TheVariants as binary
use Rattle.ckc_tree.specs.declared.expr.CastWord.{CastWord}
use Rattle.ckc_tree.specs.declared.expr.CastWord.TheVariants as casts
use Rattle.ckc_tree.specs.declared.expr.MallocWord.{MallocWord}
use Rattle.ckc_tree.specs.declared.expr.MallocWord.TheVariants as mallocs
use Rattle.ckc_tree.specs.declared.expr.CallocWord.{CallocWord}
use Rattle.ckc_tree.specs.declared.expr.CallocWord.TheVariants as callocs
use Rattle.ckc_tree.specs.Types.{TypeTree, TypeName}
use Rattle.ckc_tree.specs.Expressions.{Expression, Expressions, Bounds}
use Rattle.ckc_parser_grammar.specs.Tokens.{operator_of, operator_at, operator_with, with_rest, behind_greater, greater_or_shift, right_shift}
use Rattle.ckc_parser_grammar.specs.TypeGrammar as t
use Rattle.ckc_parser_grammar.specs.TypeGrammar.{SpellsStars, SpellsType, SpellsTypeName, SpellsAngled}
use Rattle.ckc_parser_grammar.specs.ExpressionGrammar as g
use Rattle.ckc_parser_grammar.specs.ExpressionGrammar.{SpellsBinary, SpellsTail, SpellsUnary, SpellsSelectors, SpellsPrimary, SpellsCall, SpellsArguments, SpellsMoreArguments, SpellsBounds}
use Rattle.ckc_printer.specs.Pieces.{Sign, One, around}
use Rattle.ckc_printer.specs.TypePieces.{word_kind, stars_pieces, type_pieces, type_name_pieces, angled_pieces}
use Rattle.ckc_printer.specs.ExpressionPieces.{unary_kind, binary_sign, cast_kind, malloc_kind, calloc_kind, is_compound, is_binary, expression_pieces, arguments_pieces, more_pieces, bounds_pieces, operand_pieces, target_pieces}
use Rattle.ckc_printer.specs.ReadingBack.{IsFreeName, IsLexical, CanSign}

-- these tokens can be spelled
abbrev pub Lexical : List Token → Type 0
Lexical ts = AllByRecursion (λ t. IsLexical t.kind) ts

-- these signs can be printed
pub record Printable (signs : List Sign) : Type 0 where
  pub all : AllByRecursion CanSign signs

-- the signs of what was spelled up to these tokens
abbrev pub Can : List Sign → List Token → Type 0
Can signs rest = Printable signs × Lexical rest

pub nothing : Printable []
nothing = record { all = tt }

pub first : {sign : Sign} {signs : List Sign} → CanSign sign → Printable signs → Printable (sign ∷ signs)
first c p = record { all = (c, p.all) }

all_joined : (a b : List Sign) → AllByRecursion CanSign a → AllByRecursion CanSign b → AllByRecursion CanSign (a ++ b)
all_joined [] b h k = k
all_joined (sign ∷ a) b h k = (h.0, all_joined a b h.1 k)

pub joined : {a b : List Sign} → Printable a → Printable b → Printable (a ++ b)
joined {a} {b} p q = record { all = all_joined a b p.all q.all }

around_can : (wanted : Bool) {signs : List Sign} → Printable signs → Printable (around wanted signs)
around_can false p = p
around_can true p = first tt (joined p (first tt nothing))

operand_can : (e : Expression) → Printable (expression_pieces e) → Printable (operand_pieces e)
operand_can e p = around_can (is_compound e) p

pub target_can : (e : Expression) → Printable (expression_pieces e) → Printable (target_pieces e)
target_can e p = around_can (is_binary e) p

-- ---- types

pub stars_can : (n : ℕ) → Printable (stars_pieces n)
stars_can zero = nothing
stars_can (suc n) = first tt (stars_can n)

pub stars_on : {n : ℕ} {ts rest : List Token} → SpellsStars ts n rest → Lexical ts → Lexical rest
stars_on (t.none f) h = h
stars_on (t.more d) h = stars_on d h.1

pointer_can : (mode : PointerMode) (kind : PointerKind) → CanSign (One (word_kind mode kind))
pointer_can Checked counts.One = tt
pointer_can Checked counts.Array = tt
pointer_can Checked counts.NullTerminated = tt
pointer_can Tainted counts.One = tt
pointer_can Tainted counts.Array = tt
pointer_can Tainted counts.NullTerminated = tt

pub type_can : {type : TypeTree} {ts rest : List Token} → SpellsType ts type rest → Lexical ts → Can (type_pieces type) rest
type_can t.int h = (first tt nothing, h.1)
type_can t.char h = (first tt nothing, h.1)
type_can t.struct h = (first tt (first h.1.0 nothing), h.1.1)
type_can (t.pointer {n} {word} w d st) h =
    let x = type_can d h.1.1 in
    (first (pointer_can word.mode word.kind) (first tt (joined x.0 (joined (stars_can n) (first tt nothing)))), (stars_on st x.1).1)

pub type_name_can : {type : TypeName} {ts rest : List Token} → SpellsTypeName ts type rest → Lexical ts → Can (type_name_pieces type) rest
type_name_can (t.type_name {n} d st) h =
    let x = type_can d h in
    (joined x.0 (stars_can n), stars_on st x.1)

angled_can : {type : TypeName} {ts rest : List Token} → SpellsAngled ts type rest → Lexical ts → Can (angled_pieces type) rest
angled_can (t.angled d) h =
    let x = type_name_can d h.1 in
    (first tt (joined x.0 (first tt nothing)), x.1.1.1)

-- ---- words and operators

unary_can : (w : UnaryOperator) → CanSign (One (unary_kind w))
unary_can unary.Deref = tt
unary_can unary.AddressOf = tt
unary_can unary.Negate = tt
unary_can unary.Not = tt
unary_can unary.Complement = tt

binary_can : (w : BinaryOperator) → CanSign (binary_sign w)
binary_can w = elim w as (λ w. CanSign (binary_sign w)) [ binary.Or ↦ tt | _ ↦ tt ]

cast_can : (w : CastWord) → CanSign (One (cast_kind w))
cast_can casts.Dynamic = tt
cast_can casts.Assume = tt

malloc_can : (w : MallocWord) → CanSign (One (malloc_kind w))
malloc_can mallocs.Malloc = tt
malloc_can mallocs.TMalloc = tt

calloc_can : (w : CallocWord) → CanSign (One (calloc_kind w))
calloc_can callocs.Calloc = tt
calloc_can callocs.NtCalloc = tt

-- ---- the tokens behind an operator

abbrev Found : Type 0
Found = BinaryOperator × List Token

found_on : {ts us : List Token} {w w' : BinaryOperator} → ◌≡◌ {A = Option Found} (Some (w, ts)) (Some (w', us)) → Lexical ts → Lexical us
found_on {us} {w'} same h = subst (λ (x : Found). Lexical x.1) (same_Some _ (w', us) same) h

mark_on : (ts : List Token) {us : List Token} {w : BinaryOperator} (o : Option BinaryOperator) → with_rest ts o ≡ Some (w, us) → Lexical ts → Lexical us
mark_on ts None same h = absurd (none-some _ same)
mark_on ts (Some x) same h = found_on same h

shift_on : (ts behind : List Token) {us : List Token} {w : BinaryOperator} (touches : Bool) → right_shift touches ts behind ≡ Some (w, us) → Lexical ts → Lexical behind → Lexical us
shift_on ts behind true same h k = found_on same k
shift_on ts behind false same h k = found_on same h

second_on : (to from : ℕ) (ts behind : List Token) {us : List Token} {w : BinaryOperator} (k : TokenKind) → greater_or_shift to ts behind k from ≡ Some (w, us) → Lexical ts → Lexical behind → Lexical us
second_on to from ts behind kinds.Greater same h r = shift_on ts behind (nat_eq to from) same h r
second_on to from ts behind _ same h r = found_on same h

greater_on : (to : ℕ) (ts : List Token) {us : List Token} {w : BinaryOperator} → behind_greater to ts ≡ Some (w, us) → Lexical ts → Lexical us
greater_on to [] same h = found_on same h
greater_on to (t ∷ ts) same h = second_on to t.span.from (t ∷ ts) ts t.kind same h h.1

kind_on : (span : Span) (ts : List Token) {us : List Token} {w : BinaryOperator} (k : TokenKind) → operator_with span ts k ≡ Some (w, us) → Lexical ts → Lexical us
kind_on span ts kinds.Greater same h = greater_on span.to ts same h
kind_on span ts k same h = mark_on ts (operator_of k) same h

operator_on : (ts : List Token) {us : List Token} {w : BinaryOperator} → operator_at ts ≡ Some (w, us) → Lexical ts → Lexical us
operator_on [] same h = absurd (none-some _ same)
operator_on (t ∷ ts) same h = kind_on t.span ts t.kind same h.1

-- ---- expressions

mutual
  pub expression_can : {n : ℕ} {ts rest : List Token} {e : Expression} {o : Span} → SpellsBinary n ts e o rest → Lexical ts → Can (expression_pieces e) rest
  expression_can (g.operand d) h = unary_expression_can d h
  expression_can (g.operators d u) h = tail_can u (expression_can d h)

  tail_can : {n : ℕ} {ts rest : List Token} {e whole : Expression} {o w : Span} → SpellsTail n e o ts whole w rest → Can (expression_pieces e) ts → Can (expression_pieces whole) rest
  tail_can (g.level_done f) x = x
  tail_can (g.level_more {ts} {left} {right} {binary_operator} found l d u) x =
      let y = expression_can d (operator_on ts found x.1) in
      tail_can u (joined (operand_can left x.0) (first (binary_can binary_operator) (operand_can right y.0)), y.1)

  pub unary_expression_can : {ts rest : List Token} {e : Expression} {o : Span} → SpellsUnary ts e o rest → Lexical ts → Can (expression_pieces e) rest
  unary_expression_can (g.operator {e} {unary_operator} w d) h =
      let x = unary_expression_can d h.1 in
      (first (unary_can unary_operator) (operand_can e x.0), x.1)
  unary_expression_can (g.postfix p s) h = selectors_can s (primary_can p h)

  selectors_can : {ts rest : List Token} {e whole : Expression} {o w : Span} → SpellsSelectors e o ts whole w rest → Can (expression_pieces e) ts → Can (expression_pieces whole) rest
  selectors_can (g.unselected f) x = x
  selectors_can (g.index {e} d s) x =
      let y = expression_can d x.1.1 in
      selectors_can s (joined (operand_can e x.0) (first tt (joined y.0 (first tt nothing))), y.1.1)
  selectors_can (g.dot {e} s) x = selectors_can s (joined (operand_can e x.0) (first tt (first x.1.1.0 nothing)), x.1.1.1)
  selectors_can (g.arrow {e} s) x = selectors_can s (joined (operand_can e x.0) (first tt (first x.1.1.0 nothing)), x.1.1.1)

  primary_can : {ts rest : List Token} {e : Expression} {o : Span} → SpellsPrimary ts e o rest → Lexical ts → Can (expression_pieces e) rest
  primary_can g.number h = (first h.0 nothing, h.1)
  primary_can g.character h = (first h.0 nothing, h.1)
  primary_can g.text h = (first h.0 nothing, h.1)
  primary_can (g.name f) h = (first h.0 nothing, h.1)
  primary_can (g.called d) h = call_can d h
  primary_can (g.parentheses d) h =
      let x = expression_can d h.1 in
      (x.0, x.1.1)
  primary_can (g.size_of d) h =
      let x = type_name_can d h.1.1 in
      (first tt (first tt (joined x.0 (first tt nothing))), x.1.1)
  primary_can (g.cast {cast} w a d) h =
      let x = angled_can a h.1 in
      let y = expression_can d x.1 in
      (first (cast_can cast) (joined x.0 (first tt (joined y.0 (first tt nothing)))), y.1.1)
  primary_can (g.bounded_cast {cast} w a d b) h =
      let x = angled_can a h.1 in
      let y = expression_can d x.1 in
      let z = bounds_can b y.1.1 in
      (first (cast_can cast) (joined x.0 (first tt (joined y.0 (first tt (joined z.0 (first tt nothing)))))), z.1.1)
  primary_can (g.malloc {malloc_word} w a d) h =
      let x = angled_can a h.1 in
      let y = expression_can d x.1 in
      (first (malloc_can malloc_word) (joined x.0 (first tt (joined y.0 (first tt nothing)))), y.1.1)
  primary_can (g.calloc {calloc_word} w a d s) h =
      let x = angled_can a h.1 in
      let y = expression_can d x.1 in
      let z = expression_can s y.1.1 in
      (first (calloc_can calloc_word) (joined x.0 (first tt (joined y.0 (first tt (joined z.0 (first tt nothing)))))), z.1.1)

  pub call_can : {ts rest : List Token} {e : Expression} {o : Span} → SpellsCall ts e o rest → Lexical ts → Can (expression_pieces e) rest
  call_can (g.call a) h =
      let x = arguments_can a h.1.1 in
      (first h.0 (first tt (joined x.0 (first tt nothing))), x.1)

  arguments_can : {ts rest : List Token} {es : Expressions} {t : Span} → SpellsArguments ts es t rest → Lexical ts → Can (arguments_pieces es) rest
  arguments_can g.no_argument h = (nothing, h.1)
  arguments_can (g.argument d m) h =
      let x = expression_can d h in
      let y = more_can m x.1 in
      (joined x.0 y.0, y.1)

  more_can : {ts rest : List Token} {es : Expressions} {t : Span} → SpellsMoreArguments ts es t rest → Lexical ts → Can (more_pieces es) rest
  more_can g.no_other h = (nothing, h.1)
  more_can (g.other d m) h =
      let x = expression_can d h.1 in
      let y = more_can m x.1 in
      (first tt (joined x.0 y.0), y.1)

  pub bounds_can : {ts rest : List Token} {b : Bounds} {o : Span} → SpellsBounds ts b o rest → Lexical ts → Can (bounds_pieces b) rest
  bounds_can (g.count is d) h =
      let x = expression_can d h.1.1 in
      (first (subst (λ (x : List ℕ). IsFreeName x) is h.0) (first tt (joined x.0 (first tt nothing))), x.1.1)
  bounds_can (g.byte_count is d) h =
      let x = expression_can d h.1.1 in
      (first (subst (λ (x : List ℕ). IsFreeName x) is h.0) (first tt (joined x.0 (first tt nothing))), x.1.1)
  bounds_can (g.unknown is word_is) h = (first (subst (λ (x : List ℕ). IsFreeName x) is h.0) (first tt (first (subst (λ (x : List ℕ). IsFreeName x) word_is h.1.1.0) (first tt nothing))), h.1.1.1.1)
  bounds_can (g.range is d e) h =
      let x = expression_can d h.1.1 in
      let y = expression_can e x.1.1 in
      (first (subst (λ (x : List ℕ). IsFreeName x) is h.0) (first tt (joined x.0 (first tt (joined y.0 (first tt nothing))))), y.1.1)
