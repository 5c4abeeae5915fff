-- Statements that are an assignment or a call, as forms that are built of others: reading them goes one way, and where they
-- are stuck they fail. What begins with a name is read as an expression first; what it is says how it goes on.
use Rattle.std.proofs.Common.{◌≡◌, ◌≤◌, ◌<◌, ◌&&◌, ◌⊎◌, inl, inr, ℕ, suc, length, Bool, true, false, List, [], ◌∷◌, refl, sym, ap, subst, ◌∙◌, arith, Some, true≢false}
use Rattle.ckc_text.specs.declared.place.Span.{Span}
use Rattle.ckc_lexer.specs.declared.token.Token.{Token}
use Rattle.ckc_lexer.specs.declared.token.TokenKind.{TokenKind}
use Rattle.ckc_lexer.specs.declared.token.TokenKind.TheVariants as kinds
use Rattle.ckc_tree.specs.declared.stmt.StoreOperator.{StoreOperator}
use Rattle.ckc_tree.specs.declared.stmt.StepOperator.{StepOperator}
use Rattle.ckc_tree.specs.Expressions.{Expression}
use Rattle.ckc_tree.specs.Statements.{Assignment}
use Rattle.ckc_tree.specs.Heights.{Reach, nowhere, around, ◌beside◌, expression_reach, assignment_reach}
use Rattle.ckc_parser_grammar.specs.Tokens.{token, next_is, store_operator_of, step_operator_of}
use Rattle.ckc_parser_grammar.specs.ExpressionGrammar as eg
use Rattle.ckc_parser_grammar.specs.ExpressionGrammar.{SpellsUnary, SpellsCall}
use Rattle.ckc_parser_grammar.specs.StatementGrammar as g
use Rattle.ckc_parser_grammar.specs.StatementGrammar.{SpellsAssignment}
use Rattle.ckc_parser_grammar.specs.TypeBeginnings.{begun}
use Rattle.ckc_parser_grammar.specs.ExpressionBeginnings as eb
use Rattle.ckc_parser_grammar.specs.ExpressionBeginnings.{BeginsBinary, BeginsUnary, BeginsCall}
use Rattle.ckc_parser_grammar.specs.StatementBeginnings as b
use Rattle.ckc_parser_grammar.specs.StatementBeginnings.{BeginsAssignment}
use Rattle.ckc_parser_grammar.specs.Failures as failures
use Rattle.ckc_parser_grammar.specs.Failures.{Failure, IsLow}
use Rattle.ckc_parser_grammar.specs.StuckTypes.{name_token}
use Rattle.ckc_parser_grammar.specs.StuckExpressions.{unary_word, StuckUnary, StuckExpression}
use Rattle.ckc_parser_grammar.specs.StuckStatements as stuck
use Rattle.ckc_parser_grammar.specs.StuckStatements.{semicolon, assign_word, assignment_word, is_call, is_call_alone, StuckAssignment}
use Rattle.ckc_parser_grammar.proofs.Paths.{beside_nowhere, around_height, beside_height}
use Rattle.ckc_parser_grammar.proofs.Whole.{unary_begins}
use Rattle.ckc_parser_grammar.proofs.Forms.{end_same, Is, it, Exact, ended_all, after_all, either_all, same_all, done_all, chain_all, EndedS, EndedB, before_end, end, AfterS, AfterB, not_yet, after, EitherS, yes, no, ChainS, ChainB, chain, in_link, behind_link, DoneS, done, HeadS, HeadB, none_yet, headed, OneHead}
use Rattle.ckc_parser_grammar.proofs.Ahead.{never, call_of}
use Rattle.ckc_parser_grammar.proofs.Failing.{Fails, fails_before_end, fails_at_end, fails_at_first, fails_as, fails_headed, fails_unheaded, fails_yes, fails_no, fails_in_link, fails_behind_link}
use Rattle.ckc_parser_grammar.proofs.ExpressionLinks.{BinaryS, binary}
use Rattle.ckc_parser_grammar.proofs.ExpressionForms.{some_node, UnaryS, UnaryValue, unary, of_unary, binary_exact, unary_value_exact}
use Rattle.ckc_parser_grammar.proofs.ExpressionFails.{binary_fails, unary_fails}
use Rattle.ckc_parser_grammar.proofs.MoreForms.{head_all, Starts, PutsFirst, by_next, SideS, side, side_all, fails_side, fails_fewer, PutS, put, put_all, put_node, fails_put, fails_put_deep, beside_high, reach_is}
use Rattle.ckc_parser_grammar.proofs.Starting.{unary_starts, unary_shorter, unary_first, call_at, call_begun_at}
use Rattle.ckc_parser_grammar.proofs.HeadForms.{semicolon_is}
use Rattle.ckc_parser_grammar.proofs.AssignmentForms.{assigned, ClosedS, ClosedB, closed_exact, unary_assigns, assignment_exact, assignment_starts, assignment_at, assignment_fails}
use Rattle.ckc_parser_grammar.proofs.OneMeaning.{says_nothing, each_store_operator, each_step_operator, store_step}

-- an assignment or a call, with its semicolon
pub data SimpleS : List Token → List Token → Reach → Type 0 where
  assign : {x : Assignment} {t : Span} {ts m : List Token} → SpellsAssignment ts x (token kinds.Semicolon t ∷ m) → SimpleS ts m (assignment_reach x)
  call : {x : Expression} {t o : Span} {ts m : List Token} → SpellsCall ts x o (token kinds.Semicolon t ∷ m) → SimpleS ts m (around o.from (expression_reach x))

pub data SimpleB : List Token → List Token → Reach → Type 0 where
  assignment : {ts rest : List Token} {q : Reach} → BeginsAssignment ts rest q → SimpleB ts rest q
  call_begun : {ts rest : List Token} {q : Reach} → BeginsCall ts rest q → SimpleB ts rest (begun ts rest q)
  in_whole : {ts m : List Token} {r : Reach} → SimpleS ts m r → SimpleB ts m r

-- what stands behind an expression that begins with a name
data Named : Type 0 where
  stores : Named
  steps : Named
  calls : Named

data IsNamed (c : Bool) : TokenKind → Named → Type 0 where
  store : {k : TokenKind} {w : StoreOperator} → store_operator_of k ≡ Some w → IsNamed c k stores
  step : {k : TokenKind} {w : StepOperator} → step_operator_of k ≡ Some w → IsNamed c k steps
  alone : c ≡ true → IsNamed c kinds.Semicolon calls

one_named : {c : Bool} → OneHead (IsNamed c)
one_named k h i (store w) (store v) = refl
one_named k h i (store w) (step v) = store_step k w v
one_named k h i (store w) (alone v) = says_nothing w
one_named k h i (step w) (store v) = store_step k v w
one_named k h i (step w) (step v) = refl
one_named k h i (step w) (alone v) = says_nothing w
one_named k h i (alone w) (store v) = says_nothing v
one_named k h i (alone w) (step v) = says_nothing v
one_named k h i (alone w) (alone v) = refl

abbrev NamedBehindS : Named → ℕ → List Token → List Token → Reach → Type 0
NamedBehindS stores start = EndedS (Is kinds.Semicolon) (BinaryS 10)
NamedBehindS steps start = AfterS (Is kinds.Semicolon) DoneS
NamedBehindS calls start = DoneS

abbrev NamedBehindB : Named → ℕ → List Token → List Token → Reach → Type 0
NamedBehindB stores start = EndedB (Is kinds.Semicolon) (BinaryS 10) (BeginsBinary 10)
NamedBehindB steps start = AfterB (Is kinds.Semicolon) DoneS
NamedBehindB calls start = DoneS

named_behind : (h : Named) (start : ℕ) → Exact nowhere (NamedBehindS h start) (NamedBehindB h start)
named_behind stores start = ended_all (binary_exact 10)
named_behind steps start = after_all done_all
named_behind calls start = done_all

abbrev GoesS : Expression × Span → List Token → List Token → Reach → Type 0
GoesS x = SideS (expression_reach x.0) (HeadS (IsNamed (is_call x.0)) NamedBehindS)

abbrev GoesB : Expression × Span → List Token → List Token → Reach → Type 0
GoesB x = SideS (expression_reach x.0) (HeadB (IsNamed (is_call x.0)) NamedBehindB)

goes_exact : (x : Expression × Span) → Exact (expression_reach x.0) (GoesS x) (GoesB x)
goes_exact x = side_all (head_all {base = λ h start. nowhere} one_named named_behind)

abbrev LinkS : List Token → List Token → Reach → Type 0
LinkS = ChainS UnaryValue GoesS

abbrev LinkB : List Token → List Token → Reach → Type 0
LinkB = ChainB UnaryValue BeginsUnary GoesB

value_shorter : (x : Expression × Span) (ts m : List Token) → UnaryValue x ts m → length m < length ts
value_shorter x ts m (of_unary d) = unary_shorter d

link_exact : Exact nowhere LinkS LinkB
link_exact = chain_all value_shorter unary_value_exact goes_exact

abbrev FormS : List Token → List Token → Reach → Type 0
FormS = EitherS (next_is name_token) (PutS LinkS) ClosedS

abbrev FormB : List Token → List Token → Reach → Type 0
FormB = EitherS (next_is name_token) (PutS LinkB) ClosedB

form_exact : Exact nowhere FormS FormB
form_exact = either_all (put_all link_exact) closed_exact

-- the node of what goes on
link_node : {ts us rest : List Token} {x : Expression} {o : Span} {r : Reach} (start : ℕ) → SpellsUnary ts x o us → HeadB (IsNamed (is_call x)) NamedBehindB us rest r → begun ts rest (expression_reach x beside r) ≡ around start (expression_reach x beside r)
link_node {x} {o} {r} start d c = put_node link_exact start (behind_link {a = (x, o)} (of_unary d) (side c)) (beside_high (expression_reach x) r (some_node x))

bare_node : {ts us rest : List Token} {x : Expression} {o : Span} (start : ℕ) → SpellsUnary ts x o us → HeadB (IsNamed (is_call x)) NamedBehindB us rest nowhere → begun ts rest (expression_reach x beside nowhere) ≡ around start (expression_reach x)
bare_node {x} start d c = link_node start d c ∙ ap (around start) (beside_nowhere (expression_reach x))

name_step : (k : TokenKind) {w : StepOperator} {A : Type 0} → step_operator_of k ≡ Some w → name_token k ≡ true → A
name_step k w so = never so (each_step_operator (λ k. name_token k ≡ false) k w refl refl)

call_is : {x : Expression} {o : Span} {ts m : List Token} → SpellsCall ts x o m → is_call x ≡ true
call_is (eg.call a) = refl

-- a call as an expression that no selector follows
call_unary : {x : Expression} {o t : Span} {ts m : List Token} → SpellsCall ts x o (token kinds.Semicolon t ∷ m) → SpellsUnary ts x o (token kinds.Semicolon t ∷ m)
call_unary d = eg.postfix (eg.called d) (eg.unselected refl)

-- ---- the built form

named_to : {x : Assignment} {t : Span} {ts m : List Token} → next_is name_token ts ≡ true → SpellsAssignment ts x (token kinds.Semicolon t ∷ m) → PutS LinkS ts m (assignment_reach x)
named_to so (g.store {o} d w e) = reach_is (PutS LinkS) (link_node o.from d (headed (store w) (end (binary e) it))) (put (chain (of_unary d) (side (headed (store w) (end (binary e) it)))))
named_to so (g.after {o} d w) = reach_is (PutS LinkS) (bare_node o.from d (headed (step w) (after it done))) (put (chain (of_unary d) (side (headed (step w) (after it done)))))
named_to so (g.before {k} w d) = name_step k w so

simple_to : (ts m : List Token) (r : Reach) → SimpleS ts m r → FormS ts m r
simple_to ts m r (assign d) = by_next name_token ts (λ so. yes so (named_to so d)) (λ so. no so (end (assigned d) it))
simple_to ts m r (call {o} d) = yes (call_at d) (reach_is (PutS LinkS) (bare_node o.from (call_unary d) (headed (alone (call_is d)) done)) (put (chain (of_unary (call_unary d)) (side (headed (alone (call_is d)) done)))))

named_into : {ts rest : List Token} {q : Reach} → next_is name_token ts ≡ true → BeginsAssignment ts rest q → PutS LinkB ts rest q
named_into so (b.target c) = put (in_link c)
named_into so (b.value {o} d w c) = reach_is (PutS LinkB) (link_node o.from d (headed (store w) (before_end c))) (put (behind_link (of_unary d) (side (headed (store w) (before_end c)))))
named_into so (b.after {o} d w) = reach_is (PutS LinkB) (bare_node o.from d (headed (step w) not_yet)) (put (behind_link (of_unary d) (side (headed (step w) not_yet))))
named_into so (b.before {k} w c) = name_step k w so

simple_into : (ts rest : List Token) (q : Reach) → SimpleB ts rest q → FormB ts rest q
simple_into ts rest q (assignment c) = by_next name_token ts (λ so. yes so (named_into so c)) (λ so. no so (before_end c))
simple_into ts rest q (call_begun c) = yes (call_begun_at c) (put (in_link (eb.primary (eb.call c))))
simple_into ts rest q (in_whole a) = form_exact.spelled (simple_to ts rest q a)

goes_from : {ts mid rest : List Token} → next_is name_token ts ≡ true → (x : Expression) (o : Span) {r : Reach} → SpellsUnary ts x o mid → GoesB (x, o) mid rest r → SimpleB ts rest (begun ts rest r)
goes_from {ts} {mid} {rest} so x o d (side none_yet) = reach_is SimpleB (ap (begun ts rest) (sym (beside_nowhere (expression_reach x)))) (assignment (b.target (unary_begins d)))
goes_from so x o d (side (headed (store w) (before_end c))) = reach_is SimpleB (sym (link_node o.from d (headed (store w) (before_end c)))) (assignment (b.value d w c))
goes_from so x o d (side (headed (store w) (end (binary e) it))) = reach_is SimpleB (sym (link_node o.from d (headed (store w) (end (binary e) it)))) (in_whole (assign (g.store d w e)))
goes_from so x o d (side (headed (step w) not_yet)) = reach_is SimpleB (sym (bare_node o.from d (headed (step w) not_yet))) (assignment (b.after d w))
goes_from so x o d (side (headed (step w) (after it done))) = reach_is SimpleB (sym (bare_node o.from d (headed (step w) (after it done)))) (in_whole (assign (g.after d w)))
goes_from so x o d (side (headed (alone is) done)) = reach_is SimpleB (sym (bare_node o.from d (headed (alone is) done))) (in_whole (call (call_of so d is)))

simple_from : (ts rest : List Token) (q : Reach) → FormB ts rest q → SimpleB ts rest q
simple_from ts rest q (no so (before_end c)) = assignment c
simple_from ts rest q (no so (end (assigned d) it)) = in_whole (assign d)
simple_from ts rest q (yes so (put (in_link c))) = assignment (b.target c)
simple_from ts rest q (yes so (put (behind_link {a = x} (of_unary d) c))) = goes_from so x.0 x.1 d c

pub simple_exact : Exact nowhere SimpleS SimpleB
simple_exact = same_all form_exact simple_to (λ ts m r a. in_whole a) simple_into

-- ---- what starts it

name_unary : (ts : List Token) → next_is name_token ts ≡ true → next_is unary_word ts ≡ true
name_unary [] so = absurd cc
name_unary (t ∷ ts) so = by_kind t.kind so
  where
    by_kind : (k : TokenKind) → name_token k ≡ true → unary_word k ≡ true
    by_kind (kinds.Name x) so = refl
    by_kind _ so = absurd (true≢false (sym so))

pub name_assigns : (ts : List Token) → next_is name_token ts ≡ true → next_is assignment_word ts ≡ true
name_assigns ts so = unary_assigns ts (name_unary ts so)

pub simple_at : {ts m : List Token} {r : Reach} → SimpleS ts m r → next_is assignment_word ts ≡ true
simple_at (assign d) = assignment_at d
simple_at {ts} (call d) = name_assigns ts (call_at d)

pub simple_starts : Starts assignment_word SimpleB
simple_starts = record { none = none; here = λ ts. assignment (assignment_starts.here ts) }
  where
    none : {ts rest : List Token} {q : Reach} → SimpleB ts rest q → next_is assignment_word ts ≡ false → rest ≡ ts
    none (assignment c) so = assignment_starts.none c so
    none {ts} (call_begun c) so = never (name_assigns ts (call_begun_at c)) so
    none (in_whole a) so = never (simple_at a) so

-- ---- the first token

link_first : PutsFirst unary_word LinkB
link_first = record { one = one; start = start }
  where
    one : {k : TokenKind} {s : Span} {rest : List Token} → unary_word k ≡ true → (r : Reach) × LinkB (token k s ∷ rest) rest r
    one so = let found = unary_first.one so in (found.0, in_link found.1)

    goes : {t : Token} {ts mid rest : List Token} {r : Reach} → (x : Expression) (o : Span) → SpellsUnary (t ∷ ts) x o mid → GoesB (x, o) mid rest r → length rest ≡ length ts → (r.height ≡ 0) ⊎ (r.start ≡ t.span.from)
    goes {t} {ts} {mid} {rest} {r} x o d c same =
        let long : length mid ≤ length ts = omega (arith, unary_shorter d) in
        let here : rest ≡ mid = end_same ((goes_exact (x, o)).ended c) (omega (arith, same, long)) in
        let base : r ≡ expression_reach x = (goes_exact (x, o)).nothing c here in
        rw base (unary_first.start (unary_begins d) (ap length (sym here) ∙ same))

    start : {t : Token} {ts rest : List Token} {r : Reach} → LinkB (t ∷ ts) rest r → length rest ≡ length ts → (r.height ≡ 0) ⊎ (r.start ≡ t.span.from)
    start (in_link c) same = unary_first.start c same
    start (behind_link {a = x} (of_unary d) c) same = goes x.0 x.1 d c same

-- ---- where it is stuck

form_fails : {d : ℕ} {ts : List Token} {f : Failure} → Fails d FormS FormB ts f → Fails d SimpleS SimpleB ts f
form_fails f = fails_as simple_to simple_into simple_from f

pub simple_deep : {d : ℕ} {k : TokenKind} {s : Span} {ts : List Token} → d ≤ 200 → assignment_word k ≡ true → 200 ≤ d → Fails d SimpleS SimpleB (token k s ∷ ts) (failures.too_deep s.from)
simple_deep {d} {k} {s} {ts} low so deep = form_fails (by_next name_token (token k s ∷ ts) (λ is. fails_yes is (fails_put_deep link_exact link_first (in_link (unary_starts.here _)) low (name_unary (token k s ∷ ts) is) deep)) (λ is. fails_no is (fails_before_end assignment_exact (assignment_fails low (stuck.deep so deep)))))

pub other_fails : {d : ℕ} {ts : List Token} {f : Failure} → d ≤ 200 → next_is name_token ts ≡ false → StuckAssignment d ts f → Fails d SimpleS SimpleB ts f
other_fails low none f = form_fails (fails_no none (fails_before_end assignment_exact (assignment_fails low f)))

-- behind an expression that begins with a name
behind_fails : {d : ℕ} {o : Span} {ts us : List Token} {x : Expression} {f : Failure} → d < 200 → next_is name_token ts ≡ true → SpellsUnary ts x o us → IsLow (suc d) (expression_reach x) → Fails (suc d) (HeadS (IsNamed (is_call x)) NamedBehindS) (HeadB (IsNamed (is_call x)) NamedBehindB) us f → Fails d SimpleS SimpleB ts f
behind_fails {o} {x} some so d high f = form_fails (fails_yes so (fails_put link_exact some (fails_behind_link {value = (x, o)} unary_value_exact goes_exact (of_unary d) (fails_side high f))))

pub named_fails : {d : ℕ} {ts : List Token} {f : Failure} → d < 200 → next_is name_token ts ≡ true → StuckUnary (suc d) ts f → Fails d SimpleS SimpleB ts f
named_fails {d} {ts} some so f = form_fails (fails_yes so (fails_put link_exact some (fails_in_link unary_value_exact goes_exact (fails_fewer to (unary_fails (omega (arith, some)) f)))))
  where
    to : (m : List Token) (r : Reach) → (x : Expression × Span) × UnaryValue x ts m × (r ≡ expression_reach x.0) → UnaryS ts m r
    to m r (x, a, same) = value x a same
      where
        value : (x : Expression × Span) → UnaryValue x ts m → r ≡ expression_reach x.0 → UnaryS ts m r
        value x (of_unary d) same = reach_is UnaryS (sym same) (unary d)

assign_is : {c : Bool} {k : TokenKind} {h : Named} → IsNamed c k h → (assign_word k ≡ true) ⊎ ((c ≡ true) × (semicolon k ≡ true))
assign_is (store {k} w) = inl (each_store_operator (λ k. assign_word k ≡ true) k w refl refl refl)
assign_is (step {k} w) = inl (each_step_operator (λ k. assign_word k ≡ true) k w refl refl)
assign_is (alone so) = inr (so, refl)

both_true : (a c : Bool) → a ≡ true → c ≡ true → a && c ≡ true
both_true true c so is = is
both_true false c so is = absurd cc

no_named : (x : Expression) (ts : List Token) → next_is assign_word ts ≡ false → is_call_alone x ts ≡ false → (k : TokenKind) (s : Span) (us : List Token) (h : Named) → ts ≡ token k s ∷ us → IsNamed (is_call x) k h → ⊥
no_named x ts none other k s us h same i =
    elim (assign_is i) [
      | inl so ↦ never so (subst (λ (y : List Token). next_is assign_word y ≡ false) same none)
      | inr so ↦ never (both_true (is_call x) (semicolon k) so.0 so.1) (subst (λ (y : List Token). is_call_alone x y ≡ false) same other)
    ]

pub named_end_fails : {d : ℕ} {o : Span} {ts rest : List Token} {x : Expression} → next_is name_token ts ≡ true → SpellsUnary ts x o rest → IsLow (suc d) (expression_reach x) → next_is assign_word rest ≡ false → is_call_alone x rest ≡ false → Fails d SimpleS SimpleB ts (failures.unexpected rest)
named_end_fails so d high none other = behind_fails (omega (arith, high)) so d high (fails_unheaded (omega (arith, high)) (no_named _ _ none other))

pub named_value_fails : {d : ℕ} {k : TokenKind} {s o : Span} {ts us : List Token} {x : Expression} {w : StoreOperator} {f : Failure} → d < 200 → next_is name_token ts ≡ true → SpellsUnary ts x o (token k s ∷ us) → IsLow (suc d) (expression_reach x) → store_operator_of k ≡ Some w → StuckExpression (suc d) us f → Fails d SimpleS SimpleB ts f
named_value_fails {s} some so d high w f = behind_fails some so d high (fails_headed one_named (store w) (named_behind stores s.from) (fails_before_end (binary_exact 10) (binary_fails (omega (arith, some)) f)))

-- behind a whole assignment
end_fails : {d : ℕ} {ts rest : List Token} {x : Assignment} → next_is name_token ts ≡ true → SpellsAssignment ts x rest → IsLow d (assignment_reach x) → next_is semicolon rest ≡ false → Fails d SimpleS SimpleB ts (failures.unexpected rest)
end_fails so (g.store {s} {o} {e} {target} d w v) high none =
    let parts = beside_height (expression_reach target) (expression_reach e) in
    let node = around_height o.from (expression_reach target beside expression_reach e) in
    behind_fails (omega (arith, high, node)) so d (omega (arith, high, node, parts.0)) (fails_headed one_named (store w) (named_behind stores s.from) (fails_at_end semicolon_is (binary_exact 10) (binary v) (omega (arith, high, node, parts.1)) none))
end_fails so (g.after {s} {o} {target} d w) high none =
    let node = around_height o.from (expression_reach target) in
    behind_fails (omega (arith, high, node)) so d (omega (arith, high, node)) (fails_headed one_named (step w) (named_behind steps s.from) (fails_at_first semicolon_is (omega (arith, high, node)) none))
end_fails so (g.before {k} w d) high none = name_step k w so

pub assign_end_fails : {d : ℕ} {ts rest : List Token} {x : Assignment} → SpellsAssignment ts x rest → IsLow d (assignment_reach x) → next_is semicolon rest ≡ false → Fails d SimpleS SimpleB ts (failures.unexpected rest)
assign_end_fails {ts} d high none = by_next name_token ts (λ so. end_fails so d high none) (λ so. form_fails (fails_no so (fails_at_end semicolon_is assignment_exact (assigned d) high none)))
