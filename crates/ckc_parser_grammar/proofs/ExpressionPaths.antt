-- The tokens of an expression or bounds begin one at each token, and no higher.
use Rattle.std.proofs.Common.{◌≡◌, ℕ, zero, suc, true, false, nat_eq, Bool, List, [], ◌∷◌, Option, Some, None, subst}
use Rattle.std.proofs.lemmas.Option.{same_Some, none-some}
use Rattle.ckc_text.specs.declared.place.Span.{Span}
use Rattle.ckc_lexer.specs.declared.token.Token.{Token}
use Rattle.ckc_lexer.specs.declared.token.TokenKind.{TokenKind}
use Rattle.ckc_lexer.specs.declared.token.TokenKind.TheVariants as kinds
use Rattle.ckc_tree.specs.declared.expr.BinaryOperator.{BinaryOperator}
use Rattle.ckc_tree.specs.declared.expr.BinaryOperator.TheVariants.{ShiftRight}
use Rattle.ckc_tree.specs.Expressions.{Expression, Expressions, Bounds}
use Rattle.ckc_tree.specs.Heights.{Reach, nowhere, around, expression_reach, expressions_reach, bounds_reach}
use Rattle.ckc_parser_grammar.specs.Tokens.{token, operator_of, operator_at, with_rest, right_shift, greater_or_shift, level}
use Rattle.ckc_parser_grammar.specs.ExpressionGrammar as g
use Rattle.ckc_parser_grammar.specs.ExpressionGrammar.{SpellsBinary, SpellsTail, SpellsUnary, SpellsSelectors, SpellsPrimary, SpellsCall, SpellsArguments, SpellsMoreArguments, SpellsBounds}
use Rattle.ckc_parser_grammar.specs.ExpressionBeginnings as b
use Rattle.ckc_parser_grammar.specs.ExpressionBeginnings.{BeginsBinary, BeginsTail, BeginsUnary, BeginsSelectors, BeginsPrimary, BeginsCall, BeginsArguments, BeginsMoreArguments, BeginsBounds}
use Rattle.ckc_parser_grammar.proofs.Whole.{binary_begins}
use Rattle.ckc_parser_grammar.proofs.Paths.{Low, same, trans, least, up, deep, one, grow, along, Fact, fact, Path, Behind, behind, here, next, on, past, part, led}
use Rattle.ckc_parser_grammar.proofs.TypePaths.{type_name_path, begun_type_name, angled_path, begun_angled}

-- ---- operators

-- one mark, or the two of a right shift
pub data Marks : List Token → BinaryOperator → List Token → Type 0 where
  mark : {t : Token} {us : List Token} {w : BinaryOperator} → Marks (t ∷ us) w us
  shift : {s t : Span} {us : List Token} → Marks (token kinds.Greater s ∷ token kinds.Greater t ∷ us) ShiftRight us

abbrev Found : Type 0
Found = BinaryOperator × List Token

marks_from : {ts us vs : List Token} {w v : BinaryOperator} → Marks ts w us → ◌≡◌ {A = Option Found} (Some (w, us)) (Some (v, vs)) → Marks ts v vs
marks_from {ts} {vs} {v} m same = subst (λ (x : Found). Marks ts x.0 x.1) (same_Some _ (v, vs) same) m

marks_of : {us vs : List Token} {v : BinaryOperator} (t : Token) (o : Option BinaryOperator) → with_rest us o ≡ Some (v, vs) → Marks (t ∷ us) v vs
marks_of t None same = absurd (none-some _ same)
marks_of t (Some w) same = marks_from mark same

marks_touching : {us vs : List Token} {v : BinaryOperator} (s t : Span) (touches : Bool) → right_shift touches (token kinds.Greater t ∷ us) us ≡ Some (v, vs) → Marks (token kinds.Greater s ∷ token kinds.Greater t ∷ us) v vs
marks_touching s t true same = marks_from shift same
marks_touching s t false same = marks_from mark same

marks_second : {us vs : List Token} {v : BinaryOperator} (s t : Span) (k : TokenKind) → greater_or_shift s.to (token k t ∷ us) us k t.from ≡ Some (v, vs) → Marks (token kinds.Greater s ∷ token k t ∷ us) v vs
marks_second s t kinds.Greater same = marks_touching s t (nat_eq s.to t.from) same
marks_second s t k same = marks_from mark same

marks_first : {us vs : List Token} {v : BinaryOperator} (s : Span) (k : TokenKind) → operator_at (token k s ∷ us) ≡ Some (v, vs) → Marks (token k s ∷ us) v vs
marks_first {us = []} s kinds.Greater same = marks_from mark same
marks_first {us = t ∷ ts} s kinds.Greater same = marks_second s t.span t.kind same
marks_first s k same = marks_of (token k s) (operator_of k) same

pub marks_at : {us : List Token} {w : BinaryOperator} (ts : List Token) → operator_at ts ≡ Some (w, us) → Marks ts w us
marks_at [] found = absurd (none-some _ found)
marks_at (t ∷ ts) found = marks_first t.span t.kind found

-- ---- what stands behind an expression makes it no lower

pub tail_grows : {n : ℕ} {x whole : Expression} {o w : Span} {ts r : List Token} → SpellsTail n x o ts whole w r → Low (expression_reach x) (expression_reach whole)
tail_grows (g.level_done f) = same
tail_grows (g.level_more f l d t) = trans (up _ (grow _ same)) (tail_grows t)

begun_tail_grows : {n : ℕ} {x : Expression} {o : Span} {ts r : List Token} {q : Reach} → BeginsTail n x o ts r q → Low (expression_reach x) q
begun_tail_grows (b.right f l d) = up _ (grow _ same)
begun_tail_grows (b.half f l) = up _ same
begun_tail_grows (b.further f l d t) = trans (up _ (grow _ same)) (begun_tail_grows t)

selectors_grow : {x whole : Expression} {o w : Span} {ts r : List Token} → SpellsSelectors x o ts whole w r → Low (expression_reach x) (expression_reach whole)
selectors_grow (g.unselected f) = same
selectors_grow (g.index d s) = trans (up _ (grow _ same)) (selectors_grow s)
selectors_grow (g.dot s) = trans (up _ same) (selectors_grow s)
selectors_grow (g.arrow s) = trans (up _ same) (selectors_grow s)

begun_selectors_grow : {x : Expression} {o : Span} {ts r : List Token} {q : Reach} → BeginsSelectors x o ts r q → Low (expression_reach x) q
begun_selectors_grow b.unselected = same
begun_selectors_grow (b.index d) = up _ (grow _ same)
begun_selectors_grow (b.indexed d s) = trans (up _ (grow _ same)) (begun_selectors_grow s)
begun_selectors_grow b.dot = up _ same
begun_selectors_grow (b.dotted s) = trans (up _ same) (begun_selectors_grow s)
begun_selectors_grow b.arrow = up _ same
begun_selectors_grow (b.pointed s) = trans (up _ same) (begun_selectors_grow s)

-- ---- nothing read yet

pub no_binary : (n : ℕ) {ts : List Token} → BeginsBinary n ts ts nowhere
no_binary zero = b.operand (b.primary b.nothing)
no_binary (suc n) = b.first (no_binary n)

none : {ts : List Token} {high : Reach} → Fact (BeginsPrimary ts) high ts
none = fact b.nothing least

-- over an operator, whose left operand begins at the start
across : {n : ℕ} {x : Expression} {o : Span} {start ts us r : List Token} {w : BinaryOperator} {high : Reach} → operator_at ts ≡ Some (w, us) → level w ≡ suc n → Marks ts w us
    → BeginsBinary (suc n) start ts (expression_reach x) → ((vs : List Token) (q : Reach) → BeginsTail n x o ts vs q → BeginsBinary (suc n) start vs q) → Low (around o.from (expression_reach x)) high
    → Path (Fact (BeginsBinary (suc n) start) high) us r → Path (Fact (BeginsBinary (suc n) start) high) ts r
across f l mark so go low p = next (fact so (trans (up _ same) low)) p
across f l shift so go low p = next (fact so (trans (up _ same) low)) (next (fact (go _ _ (b.half f l)) low) p)

-- ---- what is spelled

mutual
  pub binary_path : {n : ℕ} {x : Expression} {o : Span} {ts r : List Token} → SpellsBinary n ts x o r → Path (Fact (BeginsBinary n ts) (expression_reach x)) ts r
  binary_path (g.operand d) = part (λ us a. fact (b.operand a.begins) a.low) (unary_path d)
  binary_path (g.operators {ts} d t) =
      on (part (λ us a. fact (b.first a.begins) (trans a.low (tail_grows t))) (binary_path d))
      (tail_path ts (b.first (binary_begins d)) (λ us q c. b.operators d c) t)

  tail_path : {n : ℕ} {x whole : Expression} {o w : Span} {ts r : List Token} (start : List Token) → BeginsBinary (suc n) start ts (expression_reach x) → ((us : List Token) (q : Reach) → BeginsTail n x o ts us q → BeginsBinary (suc n) start us q)
      → SpellsTail n x o ts whole w r → Path (Fact (BeginsBinary (suc n) start) (expression_reach whole)) ts r
  tail_path start so go (g.level_done f) = here (fact so same)
  tail_path start so go (g.level_more {ts} f l d t) =
      on (across f l (marks_at ts f) so go (trans (deep _ _ (grow _ same)) (tail_grows t)) (part (λ us a. fact (go _ _ (b.right f l a.begins)) (trans (deep _ _ (along _ a.low)) (tail_grows t))) (binary_path d)))
      (tail_path start (go _ _ (b.right f l (binary_begins d))) (λ us q c. go us q (b.further f l d c)) t)

  pub unary_path : {x : Expression} {o : Span} {ts r : List Token} → SpellsUnary ts x o r → Path (Fact (BeginsUnary ts) (expression_reach x)) ts r
  unary_path (g.operator w d) = next (fact (b.primary b.nothing) least) (part (λ us a. fact (b.operator w a.begins) (deep _ _ a.low)) (unary_path d))
  unary_path (g.postfix {ts} p s) =
      on (part (λ us a. fact (b.primary a.begins) (trans a.low (selectors_grow s))) (primary_path p))
      (selectors_path ts (λ us q c. b.selectors p c) s)

  selectors_path : {x whole : Expression} {o w : Span} {ts r : List Token} (start : List Token) → ((us : List Token) (q : Reach) → BeginsSelectors x o ts us q → BeginsUnary start us q)
      → SpellsSelectors x o ts whole w r → Path (Fact (BeginsUnary start) (expression_reach whole)) ts r
  selectors_path start go (g.unselected f) = here (fact (go _ _ b.unselected) same)
  selectors_path start go (g.index d s) =
      next (fact (go _ _ b.unselected) (trans (up _ (grow _ same)) (selectors_grow s)))
      (past (part (λ us a. fact (go _ _ (b.index a.begins)) (trans (deep _ _ (along _ a.low)) (selectors_grow s))) (binary_path d))
      (selectors_path start (λ us q c. go us q (b.indexed d c)) s))
  selectors_path start go (g.dot s) =
      next (fact (go _ _ b.unselected) (trans (up _ same) (selectors_grow s))) (next (fact (go _ _ b.dot) (selectors_grow s)) (selectors_path start (λ us q c. go us q (b.dotted c)) s))
  selectors_path start go (g.arrow s) =
      next (fact (go _ _ b.unselected) (trans (up _ same) (selectors_grow s))) (next (fact (go _ _ b.arrow) (selectors_grow s)) (selectors_path start (λ us q c. go us q (b.pointed c)) s))

  pub primary_path : {x : Expression} {o : Span} {ts r : List Token} → SpellsPrimary ts x o r → Path (Fact (BeginsPrimary ts) (expression_reach x)) ts r
  primary_path g.number = next none (here (fact b.number same))
  primary_path g.character = next none (here (fact b.character same))
  primary_path g.text = next none (here (fact b.text same))
  primary_path (g.name f) = next none (here (fact b.name same))
  primary_path (g.called d) = led none (λ us a. fact (b.call a.begins) a.low) (call_path d)
  primary_path (g.parentheses d) = next none (past (part (λ us a. fact (b.inside a.begins) a.low) (binary_path d)) (here (fact (b.parentheses d) same)))
  primary_path (g.size_of d) = next none (next (fact b.size_of_word (one _ _)) (past (part (λ us a. fact (b.size_of_type a.begins) (deep _ _ a.low)) (type_name_path d)) (here (fact (b.size_of d) same))))
  primary_path (g.cast w t d) =
      next none (on (part (λ us a. fact (b.cast_type w a.begins) (deep _ _ (grow _ a.low))) (angled_path t))
      (past (part (λ us a. fact (b.cast_operand w t a.begins) (deep _ _ (along _ a.low))) (binary_path d)) (here (fact (b.cast w t d) same))))
  primary_path (g.bounded_cast w t d c) =
      next none (on (part (λ us a. fact (b.cast_type w a.begins) (deep _ _ (grow _ (grow _ a.low)))) (angled_path t))
      (past (part (λ us a. fact (b.cast_operand w t a.begins) (deep _ _ (grow _ (along _ a.low)))) (binary_path d))
      (past (part (λ us a. fact (b.cast_bounds w t d a.begins) (deep _ _ (along _ a.low))) (bounds_path c)) (here (fact (b.bounded_cast w t d c) same)))))
  primary_path (g.malloc w t d) =
      next none (on (part (λ us a. fact (b.malloc_type w a.begins) (deep _ _ (grow _ a.low))) (angled_path t))
      (past (part (λ us a. fact (b.malloc_size w t a.begins) (deep _ _ (along _ a.low))) (binary_path d)) (here (fact (b.malloc w t d) same))))
  primary_path (g.calloc w t d c) =
      next none (on (part (λ us a. fact (b.calloc_type w a.begins) (deep _ _ (grow _ (grow _ a.low)))) (angled_path t))
      (past (part (λ us a. fact (b.calloc_count w t a.begins) (deep _ _ (grow _ (along _ a.low)))) (binary_path d))
      (past (part (λ us a. fact (b.calloc_size w t d a.begins) (deep _ _ (along _ a.low))) (binary_path c)) (here (fact (b.calloc w t d c) same)))))

  -- without a token no call begins
  pub call_path : {x : Expression} {o : Span} {ts r : List Token} → SpellsCall ts x o r → Behind (Fact (BeginsCall ts) (expression_reach x)) ts r
  call_path (g.call d) = behind (next (fact b.callee (one _ _)) (part (λ us a. fact (b.arguments a.begins) (deep _ _ a.low)) (arguments_path d)))

  arguments_path : {x : Expressions} {t : Span} {ts r : List Token} → SpellsArguments ts x t r → Path (Fact (BeginsArguments ts) (expressions_reach x)) ts r
  arguments_path g.no_argument = next (fact (b.argument (no_binary 10)) least) (here (fact b.no_argument same))
  arguments_path (g.argument d m) =
      on (part (λ us a. fact (b.argument a.begins) (grow _ a.low)) (binary_path d))
      (led (fact (b.argument (binary_begins d)) (grow _ same)) (λ us a. fact (b.others d a.begins) (along _ a.low)) (more_path m))

  more_path : {x : Expressions} {t : Span} {ts r : List Token} → SpellsMoreArguments ts x t r → Behind (Fact (BeginsMoreArguments ts) (expressions_reach x)) ts r
  more_path g.no_other = behind (here (fact b.no_other same))
  more_path (g.other d m) =
      behind (on (part (λ us a. fact (b.other a.begins) (grow _ a.low)) (binary_path d))
      (led (fact (b.other (binary_begins d)) (grow _ same)) (λ us a. fact (b.still_others d a.begins) (along _ a.low)) (more_path m)))

  pub bounds_path : {x : Bounds} {o : Span} {ts r : List Token} → SpellsBounds ts x o r → Path (Fact (BeginsBounds ts) (bounds_reach x)) ts r
  bounds_path (g.count x d) =
      next (fact b.no_bounds least) (next (fact (b.count_word x) least)
      (past (part (λ us a. fact (b.count_begun x a.begins) a.low) (binary_path d)) (here (fact (b.count x d) same))))
  bounds_path (g.byte_count x d) =
      next (fact b.no_bounds least) (next (fact (b.byte_count_word x) least)
      (past (part (λ us a. fact (b.byte_count_begun x a.begins) a.low) (binary_path d)) (here (fact (b.byte_count x d) same))))
  bounds_path (g.unknown x y) =
      next (fact b.no_bounds least) (next (fact (b.bounds_word x) least) (next (fact (b.low x (no_binary 10)) least)
      (next (fact (b.unknown_word x y) least) (here (fact (b.unknown x y) least)))))
  bounds_path (g.range x d h) =
      next (fact b.no_bounds least) (next (fact (b.bounds_word x) least)
      (past (part (λ us a. fact (b.low x a.begins) (grow _ a.low)) (binary_path d))
      (past (part (λ us a. fact (b.high x d a.begins) (along _ a.low)) (binary_path h)) (here (fact (b.range x d h) same)))))

-- ---- what begins

mutual
  pub begun_binary : {n : ℕ} {ts r : List Token} {q : Reach} → BeginsBinary n ts r q → Path (Fact (BeginsBinary n ts) q) ts r
  begun_binary (b.operand d) = part (λ us a. fact (b.operand a.begins) a.low) (begun_unary d)
  begun_binary (b.first d) = part (λ us a. fact (b.first a.begins) a.low) (begun_binary d)
  begun_binary (b.operators {ts} d t) =
      on (part (λ us a. fact (b.first a.begins) (trans a.low (begun_tail_grows t))) (binary_path d))
      (begun_tail ts (b.first (binary_begins d)) (λ us q c. b.operators d c) t)

  begun_tail : {n : ℕ} {x : Expression} {o : Span} {q : Reach} {ts r : List Token} (start : List Token) → BeginsBinary (suc n) start ts (expression_reach x) → ((us : List Token) (p : Reach) → BeginsTail n x o ts us p → BeginsBinary (suc n) start us p)
      → BeginsTail n x o ts r q → Path (Fact (BeginsBinary (suc n) start) q) ts r
  begun_tail start so go (b.right {ts} f l d) =
      across f l (marks_at ts f) so go (deep _ _ (grow _ same)) (part (λ us a. fact (go _ _ (b.right f l a.begins)) (deep _ _ (along _ a.low))) (begun_binary d))
  begun_tail start so go (b.half f l) = next (fact so (up _ same)) (here (fact (go _ _ (b.half f l)) same))
  begun_tail start so go (b.further {ts} f l d t) =
      on (across f l (marks_at ts f) so go (trans (deep _ _ (grow _ same)) (begun_tail_grows t)) (part (λ us a. fact (go _ _ (b.right f l a.begins)) (trans (deep _ _ (along _ a.low)) (begun_tail_grows t))) (binary_path d)))
      (begun_tail start (go _ _ (b.right f l (binary_begins d))) (λ us q c. go us q (b.further f l d c)) t)

  pub begun_unary : {ts r : List Token} {q : Reach} → BeginsUnary ts r q → Path (Fact (BeginsUnary ts) q) ts r
  begun_unary (b.operator w d) = next (fact (b.primary b.nothing) least) (part (λ us a. fact (b.operator w a.begins) (deep _ _ a.low)) (begun_unary d))
  begun_unary (b.primary d) = part (λ us a. fact (b.primary a.begins) a.low) (begun_primary d)
  begun_unary (b.selectors {ts} p s) =
      on (part (λ us a. fact (b.primary a.begins) (trans a.low (begun_selectors_grow s))) (primary_path p))
      (begun_selectors ts (λ us q c. b.selectors p c) s)

  begun_selectors : {x : Expression} {o : Span} {q : Reach} {ts r : List Token} (start : List Token) → ((us : List Token) (p : Reach) → BeginsSelectors x o ts us p → BeginsUnary start us p)
      → BeginsSelectors x o ts r q → Path (Fact (BeginsUnary start) q) ts r
  begun_selectors start go b.unselected = here (fact (go _ _ b.unselected) same)
  begun_selectors start go (b.index d) =
      next (fact (go _ _ b.unselected) (up _ (grow _ same))) (part (λ us a. fact (go _ _ (b.index a.begins)) (deep _ _ (along _ a.low))) (begun_binary d))
  begun_selectors start go (b.indexed d s) =
      next (fact (go _ _ b.unselected) (trans (up _ (grow _ same)) (begun_selectors_grow s)))
      (past (part (λ us a. fact (go _ _ (b.index a.begins)) (trans (deep _ _ (along _ a.low)) (begun_selectors_grow s))) (binary_path d))
      (begun_selectors start (λ us q c. go us q (b.indexed d c)) s))
  begun_selectors start go b.dot = next (fact (go _ _ b.unselected) (up _ same)) (here (fact (go _ _ b.dot) same))
  begun_selectors start go (b.dotted s) =
      next (fact (go _ _ b.unselected) (trans (up _ same) (begun_selectors_grow s))) (next (fact (go _ _ b.dot) (begun_selectors_grow s)) (begun_selectors start (λ us q c. go us q (b.dotted c)) s))
  begun_selectors start go b.arrow = next (fact (go _ _ b.unselected) (up _ same)) (here (fact (go _ _ b.arrow) same))
  begun_selectors start go (b.pointed s) =
      next (fact (go _ _ b.unselected) (trans (up _ same) (begun_selectors_grow s))) (next (fact (go _ _ b.arrow) (begun_selectors_grow s)) (begun_selectors start (λ us q c. go us q (b.pointed c)) s))

  pub begun_primary : {ts r : List Token} {q : Reach} → BeginsPrimary ts r q → Path (Fact (BeginsPrimary ts) q) ts r
  begun_primary b.nothing = here none
  begun_primary b.number = primary_path g.number
  begun_primary b.character = primary_path g.character
  begun_primary b.text = primary_path g.text
  begun_primary b.name = next none (here (fact b.name same))
  begun_primary (b.call d) = led none (λ us a. fact (b.call a.begins) a.low) (begun_call d)
  begun_primary (b.inside d) = next none (part (λ us a. fact (b.inside a.begins) a.low) (begun_binary d))
  begun_primary (b.parentheses d) = primary_path (g.parentheses d)
  begun_primary b.size_of_word = next none (here (fact b.size_of_word same))
  begun_primary (b.size_of_type d) = next none (next (fact b.size_of_word (one _ _)) (part (λ us a. fact (b.size_of_type a.begins) (deep _ _ a.low)) (begun_type_name d)))
  begun_primary (b.size_of d) = primary_path (g.size_of d)
  begun_primary (b.cast_type w t) = next none (part (λ us a. fact (b.cast_type w a.begins) (deep _ _ a.low)) (begun_angled t))
  begun_primary (b.cast_operand w t d) =
      next none (on (part (λ us a. fact (b.cast_type w a.begins) (deep _ _ (grow _ a.low))) (angled_path t))
      (part (λ us a. fact (b.cast_operand w t a.begins) (deep _ _ (along _ a.low))) (begun_binary d)))
  begun_primary (b.cast w t d) = primary_path (g.cast w t d)
  begun_primary (b.cast_bounds w t d c) =
      next none (on (part (λ us a. fact (b.cast_type w a.begins) (deep _ _ (grow _ (grow _ a.low)))) (angled_path t))
      (past (part (λ us a. fact (b.cast_operand w t a.begins) (deep _ _ (grow _ (along _ a.low)))) (binary_path d))
      (part (λ us a. fact (b.cast_bounds w t d a.begins) (deep _ _ (along _ a.low))) (begun_bounds c))))
  begun_primary (b.bounded_cast w t d c) = primary_path (g.bounded_cast w t d c)
  begun_primary (b.malloc_type w t) = next none (part (λ us a. fact (b.malloc_type w a.begins) (deep _ _ a.low)) (begun_angled t))
  begun_primary (b.malloc_size w t d) =
      next none (on (part (λ us a. fact (b.malloc_type w a.begins) (deep _ _ (grow _ a.low))) (angled_path t))
      (part (λ us a. fact (b.malloc_size w t a.begins) (deep _ _ (along _ a.low))) (begun_binary d)))
  begun_primary (b.malloc w t d) = primary_path (g.malloc w t d)
  begun_primary (b.calloc_type w t) = next none (part (λ us a. fact (b.calloc_type w a.begins) (deep _ _ a.low)) (begun_angled t))
  begun_primary (b.calloc_count w t d) =
      next none (on (part (λ us a. fact (b.calloc_type w a.begins) (deep _ _ (grow _ a.low))) (angled_path t))
      (part (λ us a. fact (b.calloc_count w t a.begins) (deep _ _ (along _ a.low))) (begun_binary d)))
  begun_primary (b.calloc_size w t d c) =
      next none (on (part (λ us a. fact (b.calloc_type w a.begins) (deep _ _ (grow _ (grow _ a.low)))) (angled_path t))
      (past (part (λ us a. fact (b.calloc_count w t a.begins) (deep _ _ (grow _ (along _ a.low)))) (binary_path d))
      (part (λ us a. fact (b.calloc_size w t d a.begins) (deep _ _ (along _ a.low))) (begun_binary c))))
  begun_primary (b.calloc w t d c) = primary_path (g.calloc w t d c)

  pub begun_call : {ts r : List Token} {q : Reach} → BeginsCall ts r q → Behind (Fact (BeginsCall ts) q) ts r
  begun_call b.callee = behind (here (fact b.callee same))
  begun_call (b.arguments d) = behind (next (fact b.callee (one _ _)) (part (λ us a. fact (b.arguments a.begins) (deep _ _ a.low)) (begun_arguments d)))

  begun_arguments : {ts r : List Token} {q : Reach} → BeginsArguments ts r q → Path (Fact (BeginsArguments ts) q) ts r
  begun_arguments (b.argument d) = part (λ us a. fact (b.argument a.begins) a.low) (begun_binary d)
  begun_arguments b.no_argument = arguments_path g.no_argument
  begun_arguments (b.others d m) =
      on (part (λ us a. fact (b.argument a.begins) (grow _ a.low)) (binary_path d))
      (led (fact (b.argument (binary_begins d)) (grow _ same)) (λ us a. fact (b.others d a.begins) (along _ a.low)) (begun_more m))

  begun_more : {ts r : List Token} {q : Reach} → BeginsMoreArguments ts r q → Behind (Fact (BeginsMoreArguments ts) q) ts r
  begun_more b.no_other = more_path g.no_other
  begun_more (b.other d) = behind (part (λ us a. fact (b.other a.begins) a.low) (begun_binary d))
  begun_more (b.still_others d m) =
      behind (on (part (λ us a. fact (b.other a.begins) (grow _ a.low)) (binary_path d))
      (led (fact (b.other (binary_begins d)) (grow _ same)) (λ us a. fact (b.still_others d a.begins) (along _ a.low)) (begun_more m)))

  pub begun_bounds : {ts r : List Token} {q : Reach} → BeginsBounds ts r q → Path (Fact (BeginsBounds ts) q) ts r
  begun_bounds b.no_bounds = here (fact b.no_bounds least)
  begun_bounds (b.count_word x) = next (fact b.no_bounds least) (here (fact (b.count_word x) least))
  begun_bounds (b.count_begun x d) =
      next (fact b.no_bounds least) (next (fact (b.count_word x) least) (part (λ us a. fact (b.count_begun x a.begins) a.low) (begun_binary d)))
  begun_bounds (b.count x d) = bounds_path (g.count x d)
  begun_bounds (b.byte_count_word x) = next (fact b.no_bounds least) (here (fact (b.byte_count_word x) least))
  begun_bounds (b.byte_count_begun x d) =
      next (fact b.no_bounds least) (next (fact (b.byte_count_word x) least) (part (λ us a. fact (b.byte_count_begun x a.begins) a.low) (begun_binary d)))
  begun_bounds (b.byte_count x d) = bounds_path (g.byte_count x d)
  begun_bounds (b.bounds_word x) = next (fact b.no_bounds least) (here (fact (b.bounds_word x) least))
  begun_bounds (b.unknown_word x y) =
      next (fact b.no_bounds least) (next (fact (b.bounds_word x) least) (next (fact (b.low x (no_binary 10)) least) (here (fact (b.unknown_word x y) least))))
  begun_bounds (b.unknown x y) = bounds_path (g.unknown x y)
  begun_bounds (b.low x d) =
      next (fact b.no_bounds least) (next (fact (b.bounds_word x) least) (part (λ us a. fact (b.low x a.begins) a.low) (begun_binary d)))
  begun_bounds (b.high x d h) =
      next (fact b.no_bounds least) (next (fact (b.bounds_word x) least)
      (past (part (λ us a. fact (b.low x a.begins) (grow _ a.low)) (binary_path d))
      (part (λ us a. fact (b.high x d a.begins) (along _ a.low)) (begun_binary h))))
  begun_bounds (b.range x d h) = bounds_path (g.range x d h)
