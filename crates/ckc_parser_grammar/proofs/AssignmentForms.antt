-- Assignments as forms that are built of others: reading them goes one way, and where they are stuck they fail.
use Rattle.std.proofs.Common.{◌≡◌, ◌≤◌, ◌<◌, ◌||◌, ◌⊎◌, inl, ℕ, zero, suc, length, Bool, true, false, List, [], ◌∷◌, refl, sym, ap, subst, ◌∙◌, arith, Some, true≢false}
use Rattle.std.specs.Option.{is_some}
use Rattle.ckc_text.specs.declared.place.Span.{Span}
use Rattle.ckc_lexer.specs.declared.token.Token.{Token}
use Rattle.ckc_lexer.specs.declared.token.TokenKind.{TokenKind}
use Rattle.ckc_lexer.specs.declared.token.TokenKind.TheVariants as kinds
use Rattle.ckc_tree.specs.declared.stmt.StoreOperator.{StoreOperator}
use Rattle.ckc_tree.specs.declared.stmt.StepOperator.{StepOperator}
use Rattle.ckc_tree.specs.Expressions.{Expression}
use Rattle.ckc_tree.specs.Statements.{Assignment, assignment_span}
use Rattle.ckc_tree.specs.Heights.{Reach, nowhere, around, ◌beside◌, expression_reach, assigned_reach, assignment_reach, assignments_reach}
use Rattle.ckc_parser_grammar.specs.Tokens.{token, next_is, store_operator_of, step_operator_of}
use Rattle.ckc_parser_grammar.specs.ExpressionGrammar.{SpellsUnary}
use Rattle.ckc_parser_grammar.specs.StatementGrammar as g
use Rattle.ckc_parser_grammar.specs.StatementGrammar.{SpellsAssignment, SpellsAssignments}
use Rattle.ckc_parser_grammar.specs.TypeBeginnings.{begun}
use Rattle.ckc_parser_grammar.specs.ExpressionBeginnings.{BeginsBinary, BeginsUnary}
use Rattle.ckc_parser_grammar.specs.StatementBeginnings as b
use Rattle.ckc_parser_grammar.specs.StatementBeginnings.{BeginsAssignment, BeginsAssignments}
use Rattle.ckc_parser_grammar.specs.Failures.{Failure}
use Rattle.ckc_parser_grammar.specs.StuckExpressions.{unary_word}
use Rattle.ckc_parser_grammar.specs.StuckStatements as stuck
use Rattle.ckc_parser_grammar.specs.StuckStatements.{semicolon, close_brace, step_word, assign_word, assignment_word, StuckAssignment, StuckAssignments}
use Rattle.ckc_parser_grammar.proofs.Paths.{beside_nowhere, around_height}
use Rattle.ckc_parser_grammar.proofs.Whole.{unary_begins}
use Rattle.ckc_parser_grammar.proofs.Forms.{end_length, Is, it, ExactBelow, Exact, exact_on_all, none_below, below, seq_all, ended_all, after_all, either_exact, either_all, same_all, done_all, after_exact, done_exact, SeqS, SeqB, seq, in_first, in_second, EndedS, EndedB, before_end, end, AfterS, AfterB, not_yet, after, EitherS, yes, no, DoneS, done, HeadS, HeadB, none_yet, headed, OneHead, same_exact}
use Rattle.ckc_parser_grammar.proofs.Ahead.{never}
use Rattle.ckc_parser_grammar.proofs.Failing as failing
use Rattle.ckc_parser_grammar.proofs.Failing.{Fails, fails_first, fails_second, fails_before_end, fails_at_end, fails_after, fails_as, fails_headed, fails_unheaded, fails_yes, fails_no}
use Rattle.ckc_parser_grammar.proofs.ExpressionLinks.{BinaryS, binary}
use Rattle.ckc_parser_grammar.proofs.ExpressionForms.{some_node, UnaryS, unary, binary_exact, unary_exact}
use Rattle.ckc_parser_grammar.proofs.ExpressionFails.{binary_fails, unary_fails}
use Rattle.ckc_parser_grammar.proofs.MoreForms.{is_it, head_all, Starts, PutsFirst, Apart, next_apart, or_right, starts_whole, fails_unstarted, list_exact, PutS, put, put_all, put_node, fails_put, fails_put_deep, seq_first, begun_node, begun_nothing, beside_high, reach_is}
use Rattle.ckc_parser_grammar.proofs.Starting.{unary_starts, unary_at, unary_shorter, unary_first, unread}
use Rattle.ckc_parser_grammar.proofs.OneMeaning.{store_step, each_store_operator, each_step_operator}

-- ---- one assignment, which is a node

pub data AssignmentS : List Token → List Token → Reach → Type 0 where
  assigned : {x : Assignment} {ts m : List Token} → SpellsAssignment ts x m → AssignmentS ts m (assignment_reach x)

pub data IsStep : TokenKind → Type 0 where
  step : {k : TokenKind} {w : StepOperator} → step_operator_of k ≡ Some w → IsStep k

-- what stands behind a target
pub data Assign : Type 0 where
  stores : Assign
  steps : Assign

pub data IsAssign : TokenKind → Assign → Type 0 where
  store : {k : TokenKind} {w : StoreOperator} → store_operator_of k ≡ Some w → IsAssign k stores
  step : {k : TokenKind} {w : StepOperator} → step_operator_of k ≡ Some w → IsAssign k steps

one_assign : OneHead IsAssign
one_assign k h i (store w) (store v) = refl
one_assign k h i (store w) (step v) = store_step k w v
one_assign k h i (step w) (store v) = store_step k v w
one_assign k h i (step w) (step v) = refl

abbrev AssignBehindS : Assign → ℕ → List Token → List Token → Reach → Type 0
AssignBehindS stores start = BinaryS 10
AssignBehindS steps start = DoneS

abbrev AssignBehindB : Assign → ℕ → List Token → List Token → Reach → Type 0
AssignBehindB stores start = BeginsBinary 10
AssignBehindB steps start = DoneS

assign_behind : (h : Assign) (start : ℕ) → Exact nowhere (AssignBehindS h start) (AssignBehindB h start)
assign_behind stores start = binary_exact 10
assign_behind steps start = done_all

operator_exact : Exact nowhere (HeadS IsAssign AssignBehindS) (HeadB IsAssign AssignBehindB)
operator_exact = head_all {base = λ h start. nowhere} one_assign assign_behind

abbrev TargetS : List Token → List Token → Reach → Type 0
TargetS = SeqS UnaryS (HeadS IsAssign AssignBehindS)

abbrev TargetB : List Token → List Token → Reach → Type 0
TargetB = SeqB UnaryS BeginsUnary (HeadB IsAssign AssignBehindB)

abbrev AssignedS : List Token → List Token → Reach → Type 0
AssignedS = EitherS (next_is step_word) (AfterS IsStep UnaryS) TargetS

abbrev AssignedB : List Token → List Token → Reach → Type 0
AssignedB = EitherS (next_is step_word) (AfterB IsStep BeginsUnary) TargetB

target_exact : Exact nowhere TargetS TargetB
target_exact = seq_all unary_exact operator_exact

assigned_exact : Exact nowhere AssignedS AssignedB
assigned_exact = either_all (after_all unary_exact) target_exact

step_apart : Apart step_word unary_word
step_apart kinds.PlusPlus so = refl
step_apart kinds.MinusMinus so = refl
step_apart _ so = absurd (true≢false (sym so))

unary_apart : Apart unary_word step_word
unary_apart kinds.PlusPlus so = absurd cc
unary_apart kinds.MinusMinus so = absurd cc
unary_apart _ so = refl

no_step : {ts m : List Token} {x : Expression} {o : Span} → SpellsUnary ts x o m → next_is step_word ts ≡ false
no_step {ts} d = next_apart unary_apart ts (unary_at d)

target_into : (ts rest : List Token) (q : Reach) → BeginsUnary ts rest q → AssignedB ts rest q
target_into = or_right unary_exact step_apart unary_starts (λ ts. not_yet) (λ ts rest q c. in_first c)

-- the node of an assignment
target_node : {ts us rest : List Token} {x : Expression} {o : Span} {r : Reach} (start : ℕ) → SpellsUnary ts x o us → HeadB IsAssign AssignBehindB us rest r → begun ts rest (expression_reach x beside r) ≡ around start (expression_reach x beside r)
target_node {x} {r} start d c = put_node target_exact start (in_second (unary d) c) (beside_high (expression_reach x) r (some_node x))

step_node : (k : TokenKind) (s : Span) {ts rest : List Token} {r : Reach} → BeginsUnary ts rest r → begun (token k s ∷ ts) rest r ≡ around s.from r
step_node k s {ts} {rest} {r} c = begun_node (token k s ∷ ts) rest r (omega (arith, end_length (unary_exact.ended c)))

after_node : {k : TokenKind} {s o : Span} {ts rest : List Token} {x : Expression} {w : StepOperator} → SpellsUnary ts x o (token k s ∷ rest) → step_operator_of k ≡ Some w → begun ts rest (expression_reach x beside nowhere) ≡ around o.from (expression_reach x)
after_node {o} {x} d w = target_node o.from d (headed (step w) done) ∙ ap (around o.from) (beside_nowhere (expression_reach x))

assignment_to : (ts m : List Token) (r : Reach) → AssignmentS ts m r → PutS AssignedS ts m r
assignment_to ts m r (assigned (g.store {o} d w e)) = reach_is (PutS AssignedS) (target_node o.from d (headed (store w) ((binary_exact 10).spelled (binary e)))) (put (no (no_step d) (seq (unary d) (headed (store w) (binary e)))))
assignment_to ts m r (assigned (g.after d w)) = reach_is (PutS AssignedS) (after_node d w) (put (no (no_step d) (seq (unary d) (headed (step w) done))))
assignment_to ts m r (assigned (g.before {k} {s} w d)) = reach_is (PutS AssignedS) (step_node k s (unary_begins d)) (put (yes (ap is_some w) (after (step w) (unary d))))

assignment_begin : (ts m : List Token) (r : Reach) → AssignmentS ts m r → BeginsAssignment ts m r
assignment_begin ts m r (assigned (g.store d w e)) = b.value d w ((binary_exact 10).spelled (binary e))
assignment_begin ts m r (assigned (g.after d w)) = b.after d w
assignment_begin ts m r (assigned (g.before w d)) = b.before w (unary_begins d)

assignment_into : (ts rest : List Token) (q : Reach) → BeginsAssignment ts rest q → PutS AssignedB ts rest q
assignment_into ts rest q (b.target c) = put (target_into _ _ _ c)
assignment_into ts rest q (b.value {o} d w c) = reach_is (PutS AssignedB) (target_node o.from d (headed (store w) c)) (put (no (no_step d) (in_second (unary d) (headed (store w) c))))
assignment_into ts rest q (b.after d w) = reach_is (PutS AssignedB) (after_node d w) (put (no (no_step d) (in_second (unary d) (headed (step w) done))))
assignment_into ts rest q (b.before {k} {s} w c) = reach_is (PutS AssignedB) (step_node k s c) (put (yes (ap is_some w) (after (step w) c)))

assignment_from : (ts rest : List Token) (q : Reach) → PutS AssignedB ts rest q → BeginsAssignment ts rest q
assignment_from ts rest q (put (yes so not_yet)) = b.target (unary_starts.here ts)
assignment_from ts rest q (put (yes so (after {k} {s} (step w) c))) = reach_is BeginsAssignment (sym (step_node k s c)) (b.before w c)
assignment_from ts rest q (put (no so (in_first c))) = b.target c
assignment_from ts rest q (put (no so (in_second (unary {e = x} d) none_yet))) = reach_is BeginsAssignment (ap (begun ts rest) (sym (beside_nowhere (expression_reach x)))) (b.target (unary_begins d))
assignment_from ts rest q (put (no so (in_second (unary {o} d) (headed (store w) c)))) = reach_is BeginsAssignment (sym (target_node o.from d (headed (store w) c))) (b.value d w c)
assignment_from ts rest q (put (no so (in_second (unary d) (headed (step w) done)))) = reach_is BeginsAssignment (sym (after_node d w)) (b.after d w)

pub assignment_exact : Exact nowhere AssignmentS BeginsAssignment
assignment_exact = same_all (put_all assigned_exact) assignment_to assignment_begin assignment_into

pub either_false : (a c : Bool) → a || c ≡ false → (a ≡ false) × (c ≡ false)
either_false true c none = absurd cc
either_false false c none = (refl, none)

pub no_unary : (ts : List Token) → next_is assignment_word ts ≡ false → next_is unary_word ts ≡ false
no_unary [] none = refl
no_unary (t ∷ ts) none = (either_false (step_word t.kind) (unary_word t.kind) none).1

step_assigns : (k : TokenKind) → step_word k ≡ true → assignment_word k ≡ true
step_assigns kinds.PlusPlus so = refl
step_assigns kinds.MinusMinus so = refl
step_assigns _ so = absurd (true≢false (sym so))

pub either_true : (a c : Bool) → c ≡ true → a || c ≡ true
either_true true c so = refl
either_true false c so = so

pub unary_assigns : (ts : List Token) → next_is unary_word ts ≡ true → next_is assignment_word ts ≡ true
unary_assigns [] so = absurd cc
unary_assigns (t ∷ ts) so = either_true (step_word t.kind) (unary_word t.kind) so

assignment_none : {ts rest : List Token} {q : Reach} → BeginsAssignment ts rest q → next_is assignment_word ts ≡ false → rest ≡ ts
assignment_none {ts} (b.target c) so = unary_starts.none c (no_unary ts so)
assignment_none {ts} (b.value d w c) so = never (unary_assigns ts (unary_at d)) so
assignment_none {ts} (b.after d w) so = never (unary_assigns ts (unary_at d)) so
assignment_none (b.before {k} w c) so = never (step_assigns k (ap is_some w)) so

pub assignment_starts : Starts assignment_word BeginsAssignment
assignment_starts = record { none = assignment_none; here = λ ts. reach_is BeginsAssignment (begun_nothing ts nowhere) (b.target (unary_starts.here ts)) }

pub assignment_high : (ts m : List Token) (r : Reach) → AssignmentS ts m r → 0 < r.height
assignment_high ts m r (assigned {x} d) = omega (arith, around_height (assignment_span x).from (assigned_reach x))

pub assignment_at : {ts m : List Token} {x : Assignment} → SpellsAssignment ts x m → next_is assignment_word ts ≡ true
assignment_at d = starts_whole assignment_exact assignment_starts (assigned d) (assignment_high _ _ _ (assigned d))

-- ---- the first token of an assignment

unary_s_shorter : (ts m : List Token) (r : Reach) → UnaryS ts m r → length m < length ts
unary_s_shorter ts m r (unary d) = unary_shorter d

target_first : PutsFirst unary_word TargetB
target_first = seq_first unary_exact operator_exact unary_s_shorter unary_first

step_one : {k : TokenKind} {s : Span} {rest : List Token} → step_word k ≡ true → (r : Reach) × AssignedB (token k s ∷ rest) rest r
step_one {k = kinds.PlusPlus} so = (_, yes refl (after (step refl) (unary_starts.here _)))
step_one {k = kinds.MinusMinus} so = (_, yes refl (after (step refl) (unary_starts.here _)))
step_one {k = _} so = absurd cc

assigned_one : {k : TokenKind} {s : Span} {rest : List Token} → assignment_word k ≡ true → (r : Reach) × AssignedB (token k s ∷ rest) rest r
assigned_one {k} {s} {rest} so = by_test (step_word k) refl
  where
    by_test : (c : Bool) → step_word k ≡ c → (r : Reach) × AssignedB (token k s ∷ rest) rest r
    by_test true is = step_one is
    by_test false is = let found = target_first.one {s = s} {rest = rest} (rw is at so) in (found.0, no is found.1)

assigned_start : {t : Token} {ts rest : List Token} {r : Reach} → AssignedB (t ∷ ts) rest r → length rest ≡ length ts → (r.height ≡ 0) ⊎ (r.start ≡ t.span.from)
assigned_start (yes so not_yet) same = absurd (omega (arith, same))
assigned_start (yes so (after w c)) same = inl (ap (λ (x : Reach). x.height) (unread unary_exact c same))
assigned_start (no so c) same = target_first.start c same

assigned_first : PutsFirst assignment_word AssignedB
assigned_first = record { one = assigned_one; start = assigned_start }

-- ---- where assignments are stuck

assign_is : {k : TokenKind} {h : Assign} → IsAssign k h → assign_word k ≡ true
assign_is (store {k} w) = each_store_operator (λ k. assign_word k ≡ true) k w refl refl refl
assign_is (step {k} w) = each_step_operator (λ k. assign_word k ≡ true) k w refl refl

no_assign : (ts : List Token) → next_is assign_word ts ≡ false → (k : TokenKind) (s : Span) (us : List Token) (h : Assign) → ts ≡ token k s ∷ us → IsAssign k h → ⊥
no_assign ts none k s us h is i = never (assign_is i) (subst (λ (x : List Token). next_is assign_word x ≡ false) is none)

put_fails : {d : ℕ} {ts : List Token} {f : Failure} → d < 200 → Fails (suc d) AssignedS AssignedB ts f → Fails d AssignmentS BeginsAssignment ts f
put_fails some f = fails_as assignment_to assignment_into assignment_from (fails_put assigned_exact some f)

pub assignment_fails : {d : ℕ} {ts : List Token} {f : Failure} → d ≤ 200 → StuckAssignment d ts f → Fails d AssignmentS BeginsAssignment ts f
assignment_fails low stuck.no_room = failing.no_memory
assignment_fails low (stuck.no_assignment none) = fails_unstarted assignment_exact assignment_starts (assignment_high _) low none
assignment_fails low (stuck.deep {k} so deep) = fails_as assignment_to assignment_into assignment_from (fails_put_deep assigned_exact assigned_first (target_into _ _ _ (unary_starts.here _)) low so deep)
assignment_fails low (stuck.before some w f) = put_fails some (fails_yes (ap is_some w) (fails_after (step w) unary_exact (unary_fails (omega (arith, some)) f)))
assignment_fails {ts} low (stuck.target some so f) = put_fails some (fails_no (next_apart unary_apart ts so) (fails_first unary_exact operator_exact (unary_fails (omega (arith, some)) f)))
assignment_fails low (stuck.operator d high none) = put_fails (omega (arith, high)) (fails_no (no_step d) (fails_second unary_exact operator_exact (unary d) high (fails_unheaded (omega (arith, high)) (no_assign _ none))))
assignment_fails low (stuck.value {s} some d high w f) = put_fails some (fails_no (no_step d) (fails_second unary_exact operator_exact (unary d) high (fails_headed one_assign (store w) (assign_behind stores s.from) (binary_fails (omega (arith, some)) f))))

-- ---- the assignments of a bundle

pub data AssignmentsS : List Token → List Token → Reach → Type 0 where
  bundled : {x : List Assignment} {t : Span} {ts m : List Token} → SpellsAssignments ts x t m → AssignmentsS ts m (assignments_reach x)

-- an assignment and its semicolon
abbrev pub ClosedS : List Token → List Token → Reach → Type 0
ClosedS = EndedS (Is kinds.Semicolon) AssignmentS

abbrev pub ClosedB : List Token → List Token → Reach → Type 0
ClosedB = EndedB (Is kinds.Semicolon) AssignmentS BeginsAssignment

pub closed_exact : Exact nowhere ClosedS ClosedB
closed_exact = ended_all assignment_exact

abbrev BundleS : List Token → List Token → Reach → Type 0
BundleS = EitherS (next_is close_brace) (AfterS (Is kinds.CloseBrace) DoneS) (SeqS ClosedS AssignmentsS)

abbrev BundleB : List Token → List Token → Reach → Type 0
BundleB = EitherS (next_is close_brace) (AfterB (Is kinds.CloseBrace) DoneS) (SeqB ClosedS ClosedB BeginsAssignments)

brace_apart : Apart close_brace assignment_word
brace_apart kinds.CloseBrace so = refl
brace_apart _ so = absurd (true≢false (sym so))

word_apart : Apart assignment_word close_brace
word_apart kinds.CloseBrace so = absurd cc
word_apart _ so = refl

no_brace : {ts m : List Token} {x : Assignment} → SpellsAssignment ts x m → next_is close_brace ts ≡ false
no_brace {ts} d = next_apart word_apart ts (assignment_at d)

assignments_to : (ts m : List Token) (r : Reach) → AssignmentsS ts m r → BundleS ts m r
assignments_to ts m r (bundled g.none) = yes refl (after it done)
assignments_to ts m r (bundled (g.more d l)) = no (no_brace d) (seq (end (assigned d) it) (bundled l))

assignments_spelled : {x : List Assignment} {t : Span} {ts m : List Token} → SpellsAssignments ts x t m → BeginsAssignments ts m (assignments_reach x)
assignments_spelled g.none = b.none
assignments_spelled (g.more d l) = b.others d (assignments_spelled l)

assignments_begin : (ts m : List Token) (r : Reach) → AssignmentsS ts m r → BeginsAssignments ts m r
assignments_begin ts m r (bundled d) = assignments_spelled d

assignments_into : (ts rest : List Token) (q : Reach) → BeginsAssignments ts rest q → BundleB ts rest q
assignments_into ts rest q b.none = yes refl (after it done)
assignments_into ts rest q (b.first c) = or_right assignment_exact brace_apart assignment_starts (λ us. not_yet) (λ us vs p c. in_first (before_end c)) ts rest q c
assignments_into ts rest q (b.others d c) = no (no_brace d) (in_second (end (assigned d) it) c)

pub no_assignments : (ts : List Token) → BeginsAssignments ts ts nowhere
no_assignments ts = b.first (assignment_starts.here ts)

assignments_from : (ts rest : List Token) (q : Reach) → BundleB ts rest q → BeginsAssignments ts rest q
assignments_from ts rest q (yes so not_yet) = no_assignments ts
assignments_from ts rest q (yes so (after it done)) = b.none
assignments_from ts rest q (no so (in_first (before_end c))) = b.first c
assignments_from ts rest q (no so (in_first (end (assigned {x} d) it))) = reach_is BeginsAssignments (beside_nowhere (assignment_reach x)) (b.others d (no_assignments rest))
assignments_from ts rest q (no so (in_second (end (assigned d) it) c)) = b.others d c

closed_high : (ts m : List Token) (r : Reach) → ClosedS ts m r → 0 < r.height
closed_high ts m r (end a t) = assignment_high _ _ _ a

assignments_below : (n : ℕ) → ExactBelow n nowhere AssignmentsS BeginsAssignments
assignments_below zero = none_below
assignments_below (suc n) = same_exact (either_exact (after_exact done_exact) (list_exact closed_high (below closed_exact) (assignments_below n))) assignments_to assignments_begin assignments_into

pub assignments_exact : Exact nowhere AssignmentsS BeginsAssignments
assignments_exact = exact_on_all assignments_below

pub assignments_fails : {d : ℕ} {ts : List Token} {f : Failure} → d ≤ 200 → StuckAssignments d ts f → Fails d AssignmentsS BeginsAssignments ts f
assignments_fails low stuck.no_room = failing.no_memory
assignments_fails low (stuck.first none f) = fails_as assignments_to assignments_into assignments_from (fails_no none (fails_first closed_exact assignments_exact (fails_before_end assignment_exact (assignment_fails low f))))
assignments_fails low (stuck.end d high none) = fails_as assignments_to assignments_into assignments_from (fails_no (no_brace d) (fails_first closed_exact assignments_exact (fails_at_end (is_it semicolon refl) assignment_exact (assigned d) high none)))
assignments_fails low (stuck.others d high f) = fails_as assignments_to assignments_into assignments_from (fails_no (no_brace d) (fails_second closed_exact assignments_exact (end (assigned d) it) high (assignments_fails low f)))
