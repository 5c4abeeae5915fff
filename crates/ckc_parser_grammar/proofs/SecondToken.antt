-- Expressions of which a name and one more token are read: the name is the first of their nodes, and no deeper node
-- stands elsewhere.
use Rattle.std.proofs.Common.{◌≡◌, ◌≤◌, ◌<◌, ℕ, zero, suc, length, List, ◌∷◌, refl, sym, ap, subst, ◌∙◌, arith}
use Rattle.ckc_text.specs.declared.place.Span.{Span}
use Rattle.ckc_lexer.specs.declared.token.Token.{Token}
use Rattle.ckc_lexer.specs.declared.token.TokenKind.TheVariants as kinds
use Rattle.ckc_tree.specs.Expressions as trees
use Rattle.ckc_tree.specs.Expressions.{Expression}
use Rattle.ckc_tree.specs.Heights.{Reach, nowhere, node, around, ◌beside◌, expression_reach}
use Rattle.ckc_parser_grammar.specs.Tokens.{token, join, identifier}
use Rattle.ckc_parser_grammar.specs.ExpressionGrammar.{SpellsBinary, SpellsPrimary}
use Rattle.ckc_parser_grammar.specs.ExpressionBeginnings as b
use Rattle.ckc_parser_grammar.specs.ExpressionBeginnings.{BeginsBinary, BeginsUnary, BeginsSelectors, BeginsPrimary}
use Rattle.ckc_parser_grammar.proofs.ExpressionPaths.{marks_at}
use Rattle.ckc_parser_grammar.proofs.Forms.{◌ends◌, all, later, end_length, end_same, yes, no, HeadB, none_yet, headed, not_yet, after, stays}
use Rattle.ckc_parser_grammar.proofs.Forms as forms
use Rattle.ckc_parser_grammar.proofs.ExpressionLinks.{binary, operator_shrinks}
use Rattle.ckc_parser_grammar.proofs.PrimaryForms as primaries
use Rattle.ckc_parser_grammar.proofs.PrimaryForms.{primary}
use Rattle.ckc_parser_grammar.proofs.ExpressionForms as whole
use Rattle.ckc_parser_grammar.proofs.ExpressionForms.{binary_exact, arguments_exact, selectors_exact, tail_exact, primary_exact, some_node}
use Rattle.ckc_parser_grammar.proofs.OneMeaning.{says_nothing}

-- ---- with the name alone read

primary_first : {y : List ℕ} {q : Span} {us rest : List Token} {p : Reach} → HeadB primaries.IsHead primaries.BehindB (token (kinds.Name y) q ∷ us) rest p → rest ≡ us → p ≡ node q.from
primary_first none_yet is = absurd (omega (arith, ap length is))
primary_first (headed primaries.name (forms.node (yes f not_yet))) is = refl
primary_first (headed primaries.name (forms.node (yes f (after k c)))) is = absurd (omega (arith, ap length is, end_length (arguments_exact.ended c)))
primary_first (headed primaries.name (forms.node (no f forms.done))) is = refl
primary_first (headed (primaries.cast w) c) is = says_nothing w
primary_first (headed (primaries.malloc w) c) is = says_nothing w
primary_first (headed (primaries.calloc w) c) is = says_nothing w

-- what has a node is read over a token at least
some_read : {X B : List Token → List Token → Reach → Type 0} {ts m : List Token} {r : Reach} → forms.Exact nowhere X B → X ts m r → 1 ≤ r.height → length m < length ts
some_read {X} {B} {ts} {m} {r} e a some = by_end (e.ended (e.spelled a)) (e.nothing (e.spelled a))
  where
    by_end : {ts m : List Token} → m ends ts → (m ≡ ts → r ≡ nowhere) → length m < length ts
    by_end all none = absurd (omega (arith, some, ap (λ (x : Reach). x.height) (none refl)))
    by_end (later end) none = omega (arith, end_length end)

primary_read : {ts mid : List Token} {e : Expression} {o : Span} → SpellsPrimary ts e o mid → length mid < length ts
primary_read {e} p = some_read primary_exact (primary p) (some_node e)

pub binary_read : {n : ℕ} {ts mid : List Token} {e : Expression} {o : Span} → SpellsBinary n ts e o mid → length mid < length ts
binary_read {n} {e} d = some_read (binary_exact n) (binary d) (some_node e)

-- of two tokens that end here, the first is read
same_rest : {mid us rest : List Token} → length mid < suc (length us) → rest ends mid → rest ≡ us → rest ≡ mid
same_rest less end is = end_same end (omega (arith, less, ap length is))

unary_first : {y : List ℕ} {q : Span} {us rest : List Token} {p : Reach} → BeginsUnary (token (kinds.Name y) q ∷ us) rest p → rest ≡ us → p ≡ node q.from
unary_first (b.operator w c) is = says_nothing w
unary_first (b.primary c) is = primary_first (primaries.into_b _ _ _ c) is
unary_first {us} (b.selectors {o} {mid} {e} p c) is =
    let same = same_rest (primary_read p) ((selectors_exact (e, o)).ended c) is in
    (selectors_exact (e, o)).nothing c same ∙ primary_first (primaries.into_b _ mid _ (primary_exact.spelled (primary p))) (sym same ∙ is)

pub binary_first : (n : ℕ) {y : List ℕ} {q : Span} {us rest : List Token} {p : Reach} → BeginsBinary n (token (kinds.Name y) q ∷ us) rest p → rest ≡ us → p ≡ node q.from
binary_first zero (b.operand c) is = unary_first c is
binary_first (suc n) (b.first c) is = binary_first n c is
binary_first (suc n) (b.operators {o} {mid} {e} d c) is =
    let same = same_rest (binary_read d) ((tail_exact n (e, o)).ended (whole.tail c)) is in
    (tail_exact n (e, o)).nothing (whole.tail c) same ∙ binary_first n ((binary_exact n).spelled (binary d)) (sym same ∙ is)

-- ---- with one more token read

-- a node at least, and the first of the deepest starts here or later
pub record Second (start : ℕ) (p : Reach) : Type 0 where
  pub high : 1 ≤ p.height
  pub behind : start ≤ p.start

pub name_second : {start : ℕ} {p : Reach} → p ≡ node start → Second start p
name_second same = rw same (record { high = omega arith; behind = omega arith })

around_second : (start at : ℕ) (p : Reach) → p ≡ node at → Second at (around start p)
around_second start at p same = rw same (record { high = omega arith; behind = omega arith })

with_second : (start at : ℕ) (p q : Reach) → p ≡ node at → q ≡ nowhere → Second at (around start (p beside q))
with_second start at p q same none = rw (same, none) (record { high = omega arith; behind = omega arith })

primary_second : {y : List ℕ} {q : Span} {t : Token} {us rest : List Token} {p : Reach} → HeadB primaries.IsHead primaries.BehindB (token (kinds.Name y) q ∷ t ∷ us) rest p → rest ≡ us → Second q.from p
primary_second none_yet is = absurd (omega (arith, ap length is))
primary_second (headed primaries.name (forms.node (yes f not_yet))) is = absurd (omega (arith, ap length is))
primary_second {q} (headed primaries.name (forms.node (yes f (after k c)))) is = name_second (ap (λ (x : Reach). around q.from x) (arguments_exact.nothing c is))
primary_second (headed primaries.name (forms.node (no f forms.done))) is = absurd (omega (arith, ap length is))
primary_second (headed (primaries.cast w) c) is = says_nothing w
primary_second (headed (primaries.malloc w) c) is = says_nothing w
primary_second (headed (primaries.calloc w) c) is = says_nothing w

-- behind a name that is read
selectors_second : {e : Expression} {o : Span} {start : ℕ} {t : Token} {mid us rest : List Token} {p : Reach} → expression_reach e ≡ node start → BeginsSelectors e o mid rest p → mid ≡ t ∷ us → rest ≡ us → Second start p
selectors_second same b.unselected at is = absurd (omega (arith, ap length at, ap length is))
selectors_second {e} {o} {start} same (b.index {r} c) at is = with_second o.from start (expression_reach e) r same ((binary_exact 10).nothing c (is ∙ sym (ap forms.tail at)))
selectors_second {e} {o} same (b.indexed {t} {index} d c) at is = absurd (omega (arith, ap length at, ap length is, binary_read d, end_length ((selectors_exact (trees.Index e index (join o t), join o t)).ended c)))
selectors_second {e} {o} {start} same b.dot at is = around_second o.from start (expression_reach e) same
selectors_second {e} {o} same (b.dotted {x} {t} c) at is = absurd (omega (arith, ap length at, ap length is, end_length ((selectors_exact (trees.Dot e (identifier x t) (join o t), join o t)).ended c)))
selectors_second {e} {o} {start} same b.arrow at is = around_second o.from start (expression_reach e) same
selectors_second {e} {o} same (b.pointed {x} {t} c) at is = absurd (omega (arith, ap length at, ap length is, end_length ((selectors_exact (trees.Arrow e (identifier x t) (join o t), join o t)).ended c)))

-- where the form before ends: behind both tokens, or between them
between : {A : Type 0} {t u : Token} {mid us rest : List Token} → mid ends (t ∷ u ∷ us) → length mid < suc (suc (length us)) → rest ends mid → rest ≡ us → (mid ≡ us → A) → (mid ≡ u ∷ us → A) → A
between all less end is both first = absurd (omega (arith, less))
between (later all) less end is both first = first refl
between {us} {rest} (later (later e)) less end is both first = both (end_same e (omega (arith, ap length is, end_length end)))

unary_second : {y : List ℕ} {q : Span} {t : Token} {us rest : List Token} {p : Reach} → BeginsUnary (token (kinds.Name y) q ∷ t ∷ us) rest p → rest ≡ us → Second q.from p
unary_second (b.operator w c) is = says_nothing w
unary_second (b.primary c) is = primary_second (primaries.into_b _ _ _ c) is
unary_second {y} {q} {t} {us} {rest} {p} (b.selectors {o} {mid} {e} pr c) is =
    between (primary_exact.ended begun) (primary_read pr) ((selectors_exact (e, o)).ended c) is
    (λ here. subst (Second q.from) (sym ((selectors_exact (e, o)).nothing c (is ∙ sym here))) (primary_second (primaries.into_b _ mid _ begun) here))
    (λ here. selectors_second (primary_first (primaries.into_b _ mid _ begun) here) c here is)
  where
    begun : BeginsPrimary (token (kinds.Name y) q ∷ t ∷ us) mid (expression_reach e)
    begun = primary_exact.spelled (primary pr)

-- behind an expression of a level
tail_second : {n : ℕ} {e : Expression} {o : Span} {start : ℕ} {t : Token} {mid us rest : List Token} {p : Reach} → expression_reach e ≡ node start → b.BeginsTail n e o mid rest p → mid ≡ t ∷ us → rest ≡ us → Second start p
tail_second {e} {o} {start} same (b.half f l) at is = around_second o.from start (expression_reach e) same
tail_second {n} {e} {o} {start} {us} {rest} same (b.right {ts} {us = vs} {r} f l c) at is =
    let stays : rest ≡ vs = end_same ((binary_exact n).ended c) (omega (arith, operator_shrinks (marks_at ts f), ap length at, ap length is)) in
    with_second o.from start (expression_reach e) r same ((binary_exact n).nothing c stays)
tail_second {n} {e} {o} same (b.further {p} {ts} {right} {binary_operator} f l d c) at is = absurd (omega (arith, operator_shrinks (marks_at ts f), binary_read d, end_length ((tail_exact n (trees.Binary binary_operator e right (join o p), join o p)).ended (whole.tail c)), ap length at, ap length is))

pub binary_second : (n : ℕ) {y : List ℕ} {q : Span} {t : Token} {us rest : List Token} {p : Reach} → BeginsBinary n (token (kinds.Name y) q ∷ t ∷ us) rest p → rest ≡ us → Second q.from p
binary_second zero (b.operand c) is = unary_second c is
binary_second (suc n) (b.first c) is = binary_second n c is
binary_second (suc n) {q} (b.operators {o} {mid} {e} d c) is =
    between ((binary_exact n).ended ((binary_exact n).spelled (binary d))) (binary_read d) ((tail_exact n (e, o)).ended (whole.tail c)) is
    (λ here. subst (Second q.from) (sym ((tail_exact n (e, o)).nothing (whole.tail c) (is ∙ sym here))) (binary_second n ((binary_exact n).spelled (binary d)) here))
    (λ here. tail_second (binary_first n ((binary_exact n).spelled (binary d)) here) c here is)
