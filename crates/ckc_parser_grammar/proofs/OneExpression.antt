-- Tokens that begin with an expression begin with one expression.
use Rattle.std.proofs.Common.{◌≡◌, ℕ, suc, true, false, nat_eq, List, [], ◌∷◌, Some, refl, sym, ap, subst, ◌∙◌, arith}
use Rattle.std.proofs.lemmas.Bool.{eq-eqb}
use Rattle.std.proofs.lemmas.Option.{same_Some, none-some}
use Rattle.ckc_text.specs.declared.place.Span.{Span}
use Rattle.ckc_lexer.specs.declared.token.Token.{Token}
use Rattle.ckc_lexer.specs.declared.token.TokenKind.{TokenKind}
use Rattle.ckc_lexer.specs.declared.token.TokenKind.TheVariants as kinds
use Rattle.ckc_tree.specs.declared.expr.UnaryOperator.{UnaryOperator}
use Rattle.ckc_tree.specs.declared.expr.BinaryOperator.{BinaryOperator}
use Rattle.ckc_tree.specs.Types.{TypeName}
use Rattle.ckc_tree.specs.Expressions as trees
use Rattle.ckc_tree.specs.Expressions.{Expression, Expressions, Bounds}
use Rattle.ckc_parser_grammar.specs.Tokens.{token, join, identifier, operator_at, level, has_operator}
use Rattle.ckc_parser_grammar.specs.ExpressionGrammar as g
use Rattle.ckc_parser_grammar.specs.ExpressionGrammar.{SpellsBinary, SpellsTail, SpellsUnary, SpellsSelectors, SpellsPrimary, SpellsCall, SpellsArguments, SpellsMoreArguments, SpellsBounds}
use Rattle.ckc_parser_grammar.proofs.OneType.{first_span, rest_of, type_name_same, angled_same}
use Rattle.ckc_parser_grammar.proofs.Heads.{class_at, class_of, primary_class, unary_class, not_primary, starts}
use Rattle.ckc_parser_grammar.proofs.OneMeaning.{same_word}

-- what is read, the bytes that it stands on, and the tokens behind it
abbrev pub Read : Type 0 → Type 0
Read A = A × Span × List Token

-- what is read is one form
abbrev pub SameRead : {A : Type 0} → A → Span → List Token → A → Span → List Token → Type 0
SameRead {A} a o r b p q = ◌≡◌ {A = Read A} (a, o, r) (b, p, q)

abbrev pub first_kind : List Token → TokenKind
first_kind [] = kinds.Semicolon
first_kind (t ∷ ts) = t.kind

-- ---- the second of two readings, from where the first ended

pub move_binary : {n : ℕ} {ts us r : List Token} {e : Expression} {o : Span} → us ≡ ts → SpellsBinary n ts e o r → SpellsBinary n us e o r
move_binary {n} {r} {e} {o} same d = subst (λ (x : List Token). SpellsBinary n x e o r) (sym same) d

move_tail : {n : ℕ} {e e' whole : Expression} {o o' w : Span} {ts ts' r : List Token} → SameRead e o ts e' o' ts' → SpellsTail n e' o' ts' whole w r → SpellsTail n e o ts whole w r
move_tail {n} {whole} {w} {r} same d = subst (λ (x : Read Expression). SpellsTail n x.0 x.1 x.2 whole w r) (sym same) d

move_selectors : {e e' whole : Expression} {o o' w : Span} {ts ts' r : List Token} → SameRead e o ts e' o' ts' → SpellsSelectors e' o' ts' whole w r → SpellsSelectors e o ts whole w r
move_selectors {whole} {w} {r} same d = subst (λ (x : Read Expression). SpellsSelectors x.0 x.1 x.2 whole w r) (sym same) d

move_more : {ts ts' r : List Token} {es : Expressions} {t : Span} → ts ≡ ts' → SpellsMoreArguments ts' es t r → SpellsMoreArguments ts es t r
move_more {r} {es} {t} same d = subst (λ (x : List Token). SpellsMoreArguments x es t r) (sym same) d

move_bounds : {ts ts' r : List Token} {b : Bounds} {t : Span} → ts ≡ ts' → SpellsBounds ts' b t r → SpellsBounds ts b t r
move_bounds {r} {b} {t} same d = subst (λ (x : List Token). SpellsBounds x b t r) (sym same) d

pub behind : {A : Type 0} {a b : A} {o p : Span} {r q : List Token} → SameRead a o r b p q → r ≡ q
behind {A} same = ap (λ (x : Read A). x.2) same

pub form : {A : Type 0} {a b : A} {o p : Span} {r q : List Token} → SameRead a o r b p q → a ≡ b
form {A} same = ap (λ (x : Read A). x.0) same

-- ---- operators

pub found_same : (ts : List Token) {w w' : BinaryOperator} {us us' : List Token} → operator_at ts ≡ Some (w, us) → operator_at ts ≡ Some (w', us') → ◌≡◌ {A = BinaryOperator × List Token} (w, us) (w', us')
found_same ts {w'} {us'} e e' = same_Some _ (w', us') (sym e ∙ e')

no_level : {n : ℕ} (ts : List Token) {us : List Token} {w : BinaryOperator} → has_operator (suc n) ts ≡ false → operator_at ts ≡ Some (w, us) → level w ≡ suc n → ⊥
no_level {n} ts {w} none e same =
    let f : nat_eq (level w) (suc n) ≡ false = rw e at none in
    let h : false ≡ true = sym f ∙ eq-eqb (level w) (suc n) same in
    absurd cc

move_longer : {n : ℕ} (left : Expression) (o : Span) {w w' : BinaryOperator} {us us' : List Token} {right right' whole : Expression} {p p' q : Span} {mid mid' r : List Token}
    → ◌≡◌ {A = BinaryOperator × List Token} (w, us) (w', us') → SameRead right p mid right' p' mid' → SpellsTail n (trees.Binary w' left right' (join o p')) (join o p') mid' whole q r
    → SpellsTail n (trees.Binary w left right (join o p)) (join o p) mid whole q r
move_longer {n} left o {w} {right'} {whole} {p'} {q} {mid'} {r} found same d =
    subst (λ (x : Read Expression). SpellsTail n (trees.Binary w left x.0 (join o x.1)) (join o x.1) x.2 whole q r) (sym same)
    (subst (λ (x : BinaryOperator × List Token). SpellsTail n (trees.Binary x.0 left right' (join o p')) (join o p') mid' whole q r) (sym found) d)

-- ---- forms from their parts

unary_of : (s : Span) {w w' : UnaryOperator} {e e' : Expression} {o o' : Span} {r r' : List Token} → w ≡ w' → SameRead e o r e' o' r'
    → SameRead (trees.Unary w e (join s o)) (join s o) r (trees.Unary w' e' (join s o')) (join s o') r'
unary_of s {w'} word same =
    rw word (ap (λ (x : Read Expression). (trees.Unary w' x.0 (join s x.1), join s x.1, x.2)) same)

index_of : (base : Expression) (o : Span) {e e' : Expression} {p p' t t' : Span} {r r' : List Token} → SameRead e p (token kinds.CloseBracket t ∷ r) e' p' (token kinds.CloseBracket t' ∷ r')
    → SameRead (trees.Index base e (join o t)) (join o t) r (trees.Index base e' (join o t')) (join o t') r'
index_of base o same = ap (λ (x : Read Expression). (trees.Index base x.0 (join o (first_span x.2)), join o (first_span x.2), rest_of x.2)) same

-- a form whose last part a token of this kind ends
pub within : {A B : Type 0} {e e' : B} {p p' t t' : Span} {r r' : List Token} {k : TokenKind} (make : B → Span → A) (s : Span) → SameRead e p (token k t ∷ r) e' p' (token k t' ∷ r')
    → SameRead (make e (join s t)) (join s t) r (make e' (join s t')) (join s t') r'
within {A} {B} make s same = ap {A = Read B} {B = Read A} (λ x. (make x.0 (join s (first_span x.2)), join s (first_span x.2), rest_of x.2)) same

pub typed : {A : Type 0} {a b : A} {us us' : List Token} → ◌≡◌ {A = A × List Token} (a, us) (b, us') → a ≡ b
typed {A} same = ap (λ (x : A × List Token). x.0) same

pub after : {A : Type 0} {a b : A} {us us' : List Token} → ◌≡◌ {A = A × List Token} (a, us) (b, us') → us ≡ us'
after {A} same = ap (λ (x : A × List Token). x.1) same

not_end : {e e' : Expression} {p p' t t' : Span} {r r' : List Token} → SameRead e p (token kinds.CloseParen t ∷ r) e' p' (token kinds.Comma t' ∷ r') → ⊥
not_end same =
    let h : kinds.CloseParen ≡ kinds.Comma = ap (λ (x : Read Expression). first_kind x.2) same in
    absurd cc

-- ---- the name before a parenthesis that ends

name_rest : {ts r rest : List Token} {e : Expression} {o q t : Span} {y : List ℕ} → SpellsPrimary ts e o r → ts ≡ token (kinds.Name y) q ∷ token kinds.CloseParen t ∷ rest → r ≡ token kinds.CloseParen t ∷ rest
name_rest (g.name f) same = ap rest_of same
name_rest {rest} {t} (g.called (g.call a)) same =
    let h : kinds.OpenParen ≡ kinds.CloseParen = ap (λ (x : List Token). first_kind (rest_of x)) same in
    absurd cc
name_rest d same = absurd (omega (arith, primary_class d, ap class_at same))

selectors_rest : {ts r rest : List Token} {e whole : Expression} {o w t : Span} → SpellsSelectors e o ts whole w r → ts ≡ token kinds.CloseParen t ∷ rest → r ≡ token kinds.CloseParen t ∷ rest
selectors_rest (g.unselected f) same = same
selectors_rest (g.index d s) same = let h : kinds.OpenBracket ≡ kinds.CloseParen = ap first_kind same in absurd cc
selectors_rest (g.dot s) same = let h : kinds.Dot ≡ kinds.CloseParen = ap first_kind same in absurd cc
selectors_rest (g.arrow s) same = let h : kinds.Arrow ≡ kinds.CloseParen = ap first_kind same in absurd cc

tail_rest : {n : ℕ} {ts r rest : List Token} {e whole : Expression} {o w t : Span} → SpellsTail n e o ts whole w r → ts ≡ token kinds.CloseParen t ∷ rest → r ≡ token kinds.CloseParen t ∷ rest
tail_rest (g.level_done f) same = same
tail_rest (g.level_more {ts} found l d u) same = absurd (none-some _ (ap operator_at (sym same) ∙ found))

unary_rest : {ts r rest : List Token} {e : Expression} {o q t : Span} {y : List ℕ} → SpellsUnary ts e o r → ts ≡ token (kinds.Name y) q ∷ token kinds.CloseParen t ∷ rest → r ≡ token kinds.CloseParen t ∷ rest
unary_rest (g.operator {k} w d) same = absurd (omega (arith, unary_class k w, ap class_at same))
unary_rest (g.postfix p s) same = selectors_rest s (name_rest p same)

binary_rest : {n : ℕ} {ts r rest : List Token} {e : Expression} {o q t : Span} {y : List ℕ} → SpellsBinary n ts e o r → ts ≡ token (kinds.Name y) q ∷ token kinds.CloseParen t ∷ rest → r ≡ token kinds.CloseParen t ∷ rest
binary_rest (g.operand d) same = unary_rest d same
binary_rest (g.operators d u) same = tail_rest u (binary_rest d same)

not_range : {rest us : List Token} {e : Expression} {o q t p : Span} {y : List ℕ} → SpellsBinary 10 (token (kinds.Name y) q ∷ token kinds.CloseParen t ∷ rest) e o (token kinds.Comma p ∷ us) → ⊥
not_range d =
    let h : kinds.Comma ≡ kinds.CloseParen = ap first_kind (binary_rest d refl) in
    absurd cc

-- ---- two readings are one

not_expression : {n : ℕ} {ts r : List Token} {e : Expression} {o t : Span} → SpellsBinary n (token kinds.CloseParen t ∷ ts) e o r → ⊥
not_expression d = absurd (omega (arith, starts d))

one_class : {ts r r' : List Token} {e e' : Expression} {o o' : Span} (d : SpellsPrimary ts e o r) (d' : SpellsPrimary ts e' o' r') → class_of d ≡ class_of d'
one_class d d' = sym (primary_class d) ∙ primary_class d'

mutual
  pub binary_same : {n : ℕ} {ts r r' : List Token} {e e' : Expression} {o o' : Span} → SpellsBinary n ts e o r → SpellsBinary n ts e' o' r' → SameRead e o r e' o' r'
  binary_same (g.operand d) (g.operand d') = unary_same d d'
  binary_same (g.operators d u) (g.operators d' u') = tail_same u (move_tail (binary_same d d') u')

  pub tail_same : {n : ℕ} {ts r r' : List Token} {left whole whole' : Expression} {o w w' : Span} → SpellsTail n left o ts whole w r → SpellsTail n left o ts whole' w' r' → SameRead whole w r whole' w' r'
  tail_same (g.level_done f) (g.level_done f') = refl
  tail_same (g.level_done {rest} f) (g.level_more e l d u) = absurd (no_level rest f e l)
  tail_same (g.level_more {ts} e l d u) (g.level_done f) = absurd (no_level ts f e l)
  tail_same (g.level_more {o} {ts} {left} e l d u) (g.level_more e' l' d' u') =
      let found = found_same ts e e' in
      tail_same u (move_longer left o found (binary_same d (move_binary (after found) d')) u')

  pub unary_same : {ts r r' : List Token} {e e' : Expression} {o o' : Span} → SpellsUnary ts e o r → SpellsUnary ts e' o' r' → SameRead e o r e' o' r'
  unary_same (g.operator {s} w d) (g.operator w' d') = unary_of s (same_word w w') (unary_same d d')
  unary_same (g.operator w d) (g.postfix p s) = absurd (not_primary w p)
  unary_same (g.postfix p s) (g.operator w d) = absurd (not_primary w p)
  unary_same (g.postfix p s) (g.postfix p' s') = selectors_same s (move_selectors (primary_same p p') s')

  pub selectors_same : {ts r r' : List Token} {e whole whole' : Expression} {o w w' : Span} → SpellsSelectors e o ts whole w r → SpellsSelectors e o ts whole' w' r' → SameRead whole w r whole' w' r'
  selectors_same (g.unselected f) (g.unselected f') = refl
  selectors_same (g.unselected f) (g.index d s) = absurd cc
  selectors_same (g.unselected f) (g.dot s) = absurd cc
  selectors_same (g.unselected f) (g.arrow s) = absurd cc
  selectors_same (g.index d s) (g.unselected f) = absurd cc
  selectors_same (g.dot s) (g.unselected f) = absurd cc
  selectors_same (g.arrow s) (g.unselected f) = absurd cc
  selectors_same (g.index {o} {e} d s) (g.index d' s') = selectors_same s (move_selectors (index_of e o (binary_same d d')) s')
  selectors_same (g.dot s) (g.dot s') = selectors_same s s'
  selectors_same (g.arrow s) (g.arrow s') = selectors_same s s'

  pub primary_same : {ts r r' : List Token} {e e' : Expression} {o o' : Span} → SpellsPrimary ts e o r → SpellsPrimary ts e' o' r' → SameRead e o r e' o' r'
  primary_same g.number g.number = refl
  primary_same g.character g.character = refl
  primary_same g.text g.text = refl
  primary_same (g.name f) (g.name f') = refl
  primary_same (g.name f) (g.called (g.call a)) = absurd cc
  primary_same (g.called (g.call a)) (g.name f) = absurd cc
  primary_same (g.called d) (g.called d') = call_same d d'
  primary_same (g.parentheses {s} d) (g.parentheses d') = within (λ e span. e) s (binary_same d d')
  primary_same (g.size_of {s} d) (g.size_of d') =
      ap (λ (x : TypeName × List Token). (trees.SizeOf x.0 (join s (first_span x.1)), join s (first_span x.1), rest_of x.1)) (type_name_same d d')
  primary_same (g.cast {s} w a d) (g.cast {type} {cast} w' a' d') =
      let type_is = angled_same a a' in
      rw (same_word w w', typed type_is) (within (λ e span. trees.Cast cast type e span) s (binary_same d (move_binary (after type_is) d')))
  primary_same (g.cast w a d) (g.bounded_cast w' a' d' b') = absurd (not_end (binary_same d (move_binary (after (angled_same a a')) d')))
  primary_same (g.bounded_cast w a d b) (g.cast w' a' d') = absurd (not_end (sym (binary_same d (move_binary (after (angled_same a a')) d'))))
  primary_same (g.bounded_cast {s} w a d b) (g.bounded_cast {e} {type} {cast} w' a' d' b') =
      let type_is = angled_same a a' in
      let operand_is = binary_same d (move_binary (after type_is) d') in
      rw (same_word w w', typed type_is, form operand_is) (within (λ bounds span. trees.BoundedCast cast type e bounds span) s (bounds_same b (move_bounds (ap rest_of (behind operand_is)) b')))
  primary_same (g.malloc {s} w a d) (g.malloc {type} {malloc_word = word} w' a' d') =
      let type_is = angled_same a a' in
      rw (same_word w w', typed type_is) (within (λ e span. trees.Malloc word type e span) s (binary_same d (move_binary (after type_is) d')))
  primary_same (g.calloc {s} w a d b) (g.calloc {count} {type} {calloc_word = word} w' a' d' b') =
      let type_is = angled_same a a' in
      let count_is = binary_same d (move_binary (after type_is) d') in
      rw (same_word w w', typed type_is, form count_is) (within (λ e span. trees.Calloc word type count e span) s (binary_same b (move_binary (ap rest_of (behind count_is)) b')))
  primary_same d d' = absurd (omega (arith, one_class d d'))

  pub call_same : {ts r r' : List Token} {e e' : Expression} {o o' : Span} → SpellsCall ts e o r → SpellsCall ts e' o' r' → SameRead e o r e' o' r'
  call_same (g.call {x} {s} a) (g.call a') = ap (λ (y : Read Expressions). (trees.Call (identifier x s) y.0 (join s y.1), join s y.1, y.2)) (arguments_same a a')

  pub arguments_same : {ts r r' : List Token} {e e' : Expressions} {o o' : Span} → SpellsArguments ts e o r → SpellsArguments ts e' o' r' → SameRead e o r e' o' r'
  arguments_same g.no_argument g.no_argument = refl
  arguments_same g.no_argument (g.argument d m) = absurd (not_expression d)
  arguments_same (g.argument d m) g.no_argument = absurd (not_expression d)
  arguments_same (g.argument d m) (g.argument {e} d' m') =
      let first_is = binary_same d d' in
      rw (form first_is) (ap (λ (y : Read Expressions). (trees.Then e y.0, y.1, y.2)) (more_same m (move_more (behind first_is) m')))

  pub more_same : {ts r r' : List Token} {e e' : Expressions} {o o' : Span} → SpellsMoreArguments ts e o r → SpellsMoreArguments ts e' o' r' → SameRead e o r e' o' r'
  more_same g.no_other g.no_other = refl
  more_same (g.other d m) (g.other {e} d' m') =
      let first_is = binary_same d d' in
      rw (form first_is) (ap (λ (y : Read Expressions). (trees.Then e y.0, y.1, y.2)) (more_same m (move_more (behind first_is) m')))

  pub bounds_same : {ts r r' : List Token} {b b' : Bounds} {o o' : Span} → SpellsBounds ts b o r → SpellsBounds ts b' o' r' → SameRead b o r b' o' r'
  bounds_same (g.count {s} x d) (g.count x' d') = within (λ e span. trees.Count e span) s (binary_same d d')
  bounds_same (g.byte_count {s} x d) (g.byte_count x' d') = within (λ e span. trees.ByteCount e span) s (binary_same d d')
  bounds_same (g.unknown x y) (g.unknown x' y') = refl
  bounds_same (g.range {s} x d h) (g.range {low} x' d' h') =
      let low_is = binary_same d d' in
      rw (form low_is) (within (λ e span. trees.Range low e span) s (binary_same h (move_binary (ap rest_of (behind low_is)) h')))
  bounds_same (g.unknown x y) (g.range x' d h) = absurd (not_range d)
  bounds_same (g.range x d h) (g.unknown x' y) = absurd (not_range d)
  bounds_same (g.count x d) (g.byte_count x' d') = absurd cc
  bounds_same (g.count x d) (g.unknown x' y') = absurd cc
  bounds_same (g.count x d) (g.range x' d' h') = absurd cc
  bounds_same (g.byte_count x d) (g.count x' d') = absurd cc
  bounds_same (g.byte_count x d) (g.unknown x' y') = absurd cc
  bounds_same (g.byte_count x d) (g.range x' d' h') = absurd cc
  bounds_same (g.unknown x y) (g.count x' d') = absurd cc
  bounds_same (g.unknown x y) (g.byte_count x' d') = absurd cc
  bounds_same (g.range x d h) (g.count x' d') = absurd cc
  bounds_same (g.range x d h) (g.byte_count x' d') = absurd cc
