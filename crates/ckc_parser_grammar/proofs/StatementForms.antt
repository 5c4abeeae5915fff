-- Statements as forms that are built of others: reading them goes one way.
use Rattle.std.proofs.Common.{◌≡◌, ◌<◌, ◌||◌, ℕ, zero, suc, Bool, true, false, List, [], ◌∷◌, refl, sym, ap, ◌∙◌, arith, Some, true≢false}
use Rattle.ckc_text.specs.declared.place.Span.{Span}
use Rattle.ckc_lexer.specs.declared.token.Token.{Token}
use Rattle.ckc_lexer.specs.declared.token.TokenKind.{TokenKind}
use Rattle.ckc_lexer.specs.declared.keyword.Keyword.TheVariants as keywords
use Rattle.ckc_lexer.specs.declared.token.TokenKind.TheVariants as kinds
use Rattle.ckc_tree.specs.declared.stmt.Mark.{Mark}
use Rattle.ckc_tree.specs.Expressions.{Expression}
use Rattle.ckc_tree.specs.Statements as s
use Rattle.ckc_tree.specs.Statements.{Statement, Statements}
use Rattle.ckc_tree.specs.Heights.{Reach, nowhere, node, around, ◌beside◌, expression_reach, declared_reach, assigned_reach, assignments_reach, for_initial_reach, optional_expression_reach, optional_assignment_reach, statement_reach, statements_reach}
use Rattle.ckc_parser_grammar.specs.Tokens as words
use Rattle.ckc_parser_grammar.specs.Tokens.{token, next_is, mark_of}
use Rattle.ckc_parser_grammar.specs.ExpressionGrammar.{SpellsExpression}
use Rattle.ckc_parser_grammar.specs.StatementGrammar as g
use Rattle.ckc_parser_grammar.specs.StatementGrammar.{SpellsStatement, SpellsStatements}
use Rattle.ckc_parser_grammar.specs.StatementBeginnings as b
use Rattle.ckc_parser_grammar.specs.StatementBeginnings.{BeginsDeclaration, BeginsAssignments, BeginsStatement, BeginsStatements}
use Rattle.ckc_parser_grammar.specs.StuckTypes.{type_word}
use Rattle.ckc_parser_grammar.specs.StuckStatements.{close_brace, plain_word, assignment_word, statement_word}
use Rattle.ckc_parser_grammar.proofs.Paths.{beside_nowhere, around_height}
use Rattle.ckc_parser_grammar.proofs.Whole.{statement_begins, statements_begin}
use Rattle.ckc_parser_grammar.proofs.Forms.{Is, it, ExactBelow, Exact, exact_on_all, none_below, within, below, seq_exact, after_exact, node_exact, done_exact, either_exact, ended_all, after_all, done_all, head_exact, same_exact, SeqS, SeqB, seq, in_first, in_second, EndedS, EndedB, before_end, end, AfterS, AfterB, not_yet, after, NodeS, EitherS, yes, no, DoneS, done, HeadS, HeadB, none_yet, headed, OneHead}
use Rattle.ckc_parser_grammar.proofs.Ahead.{never}
use Rattle.ckc_parser_grammar.proofs.Forms as forms
use Rattle.ckc_parser_grammar.proofs.ExpressionLinks.{binary}
use Rattle.ckc_parser_grammar.proofs.MoreForms.{is_it, Starts, Apart, next_apart, by_next, nothing_read, or_left, or_right, OptionalS, absent, present, optional_exact, list_exact, so_far, in_whole, reach_is, beside_assoc}
use Rattle.ckc_parser_grammar.proofs.Starting.{binary_starts}
use Rattle.ckc_parser_grammar.proofs.DeclarationForms.{DeclarationS, declaration, declaration_exact, declaration_starts}
use Rattle.ckc_parser_grammar.proofs.AssignmentForms.{AssignmentsS, bundled, assignments_exact, assignment_starts, either_false, either_true}
use Rattle.ckc_parser_grammar.proofs.HeadForms.{turned, type_assignment, declaration_at, ForInitialS, initial, InitialB, initial_exact, ForConditionS, tested, TestedB, for_condition_exact, ForStepS, stepped, SteppedB, step_exact, ConditionS, ConditionB, condition_exact}
use Rattle.ckc_parser_grammar.proofs.SimpleForms as simple
use Rattle.ckc_parser_grammar.proofs.SimpleForms.{SimpleS, SimpleB, assign, call, assignment, call_begun, simple_exact, simple_starts, simple_at}
use Rattle.ckc_parser_grammar.proofs.OneMeaning.{each_mark}

pub data StatementS : List Token → List Token → Reach → Type 0 where
  stated : {x : Statement} {ts m : List Token} → SpellsStatement ts x m → StatementS ts m (statement_reach x)

pub data StatementsS : List Token → List Token → Reach → Type 0 where
  listed : {x : Statements} {t : Span} {ts m : List Token} → SpellsStatements ts x t m → StatementsS ts m (statements_reach x)

-- ---- statements by their first word

pub data Plain : Type 0 where
  blocks : Plain
  marks : Plain
  bundles : Plain
  empties : Plain
  ifs : Plain
  whiles : Plain
  fors : Plain
  returns : Plain
  leaves : Plain

pub data IsPlain : TokenKind → Plain → Type 0 where
  block : IsPlain kinds.OpenBrace blocks
  mark : {k : TokenKind} {w : Mark} → mark_of k ≡ Some w → IsPlain k marks
  bundle : IsPlain (kinds.Keyword keywords.Bundled) bundles
  empty : IsPlain kinds.Semicolon empties
  if : IsPlain (kinds.Keyword keywords.If) ifs
  while : IsPlain (kinds.Keyword keywords.While) whiles
  for : IsPlain (kinds.Keyword keywords.For) fors
  return : IsPlain (kinds.Keyword keywords.Return) returns
  break : IsPlain (kinds.Keyword keywords.Break) leaves
  continue : IsPlain (kinds.Keyword keywords.Continue) leaves

-- the form that a token begins
plain_of : TokenKind → Plain
plain_of kinds.OpenBrace = blocks
plain_of (kinds.Keyword keywords.Checked) = marks
plain_of (kinds.Keyword keywords.Unchecked) = marks
plain_of (kinds.Keyword keywords.Bundled) = bundles
plain_of kinds.Semicolon = empties
plain_of (kinds.Keyword keywords.If) = ifs
plain_of (kinds.Keyword keywords.While) = whiles
plain_of (kinds.Keyword keywords.For) = fors
plain_of (kinds.Keyword keywords.Return) = returns
plain_of _ = leaves

plain_is_of : {k : TokenKind} {h : Plain} → IsPlain k h → h ≡ plain_of k
unfolding plain_of
plain_is_of block = refl
plain_is_of (mark {k} w) = each_mark (λ k. marks ≡ plain_of k) k w refl refl
plain_is_of bundle = refl
plain_is_of empty = refl
plain_is_of if = refl
plain_is_of while = refl
plain_is_of for = refl
plain_is_of return = refl
plain_is_of break = refl
plain_is_of continue = refl

pub one_plain : OneHead IsPlain
one_plain k h i p q = plain_is_of p ∙ sym (plain_is_of q)

abbrev pub ElseS : List Token → List Token → Reach → Type 0
ElseS = OptionalS (Is (kinds.Keyword keywords.Else)) words.else_word StatementS

abbrev pub ElseB : List Token → List Token → Reach → Type 0
ElseB = AfterB (Is (kinds.Keyword keywords.Else)) BeginsStatement

abbrev pub BranchesS : List Token → List Token → Reach → Type 0
BranchesS = SeqS StatementS ElseS

abbrev pub BranchesB : List Token → List Token → Reach → Type 0
BranchesB = SeqB StatementS BeginsStatement ElseB

abbrev pub SteppingS : List Token → List Token → Reach → Type 0
SteppingS = SeqS ForStepS StatementS

abbrev pub SteppingB : List Token → List Token → Reach → Type 0
SteppingB = SeqB ForStepS SteppedB BeginsStatement

abbrev pub TestingS : List Token → List Token → Reach → Type 0
TestingS = SeqS ForConditionS SteppingS

abbrev pub TestingB : List Token → List Token → Reach → Type 0
TestingB = SeqB ForConditionS TestedB SteppingB

abbrev pub LoopS : List Token → List Token → Reach → Type 0
LoopS = SeqS ForInitialS TestingS

abbrev pub LoopB : List Token → List Token → Reach → Type 0
LoopB = SeqB ForInitialS InitialB TestingB

-- what stands in the node behind a first word
abbrev pub InnerS : Plain → List Token → List Token → Reach → Type 0
InnerS blocks = StatementsS
InnerS marks = AfterS (Is kinds.OpenBrace) StatementsS
InnerS bundles = AfterS (Is kinds.OpenBrace) AssignmentsS
InnerS empties = DoneS
InnerS ifs = SeqS ConditionS BranchesS
InnerS whiles = SeqS ConditionS StatementS
InnerS fors = AfterS (Is kinds.OpenParen) LoopS
InnerS returns = ForConditionS
InnerS leaves = AfterS (Is kinds.Semicolon) DoneS

abbrev pub InnerB : Plain → List Token → List Token → Reach → Type 0
InnerB blocks = BeginsStatements
InnerB marks = AfterB (Is kinds.OpenBrace) BeginsStatements
InnerB bundles = AfterB (Is kinds.OpenBrace) BeginsAssignments
InnerB empties = DoneS
InnerB ifs = SeqB ConditionS ConditionB BranchesB
InnerB whiles = SeqB ConditionS ConditionB BeginsStatement
InnerB fors = AfterB (Is kinds.OpenParen) LoopB
InnerB returns = TestedB
InnerB leaves = AfterB (Is kinds.Semicolon) DoneS

abbrev pub PlainS : Plain → ℕ → List Token → List Token → Reach → Type 0
PlainS h start = NodeS start (InnerS h)

abbrev pub PlainB : Plain → ℕ → List Token → List Token → Reach → Type 0
PlainB h start = NodeS start (InnerB h)

-- a declaration with its semicolon
abbrev pub DeclaredS : List Token → List Token → Reach → Type 0
DeclaredS = EndedS (Is kinds.Semicolon) DeclarationS

abbrev pub DeclaredB : List Token → List Token → Reach → Type 0
DeclaredB = EndedB (Is kinds.Semicolon) DeclarationS BeginsDeclaration

abbrev pub OtherS : List Token → List Token → Reach → Type 0
OtherS = EitherS (next_is type_word) DeclaredS SimpleS

abbrev pub OtherB : List Token → List Token → Reach → Type 0
OtherB = EitherS (next_is type_word) DeclaredB SimpleB

abbrev pub FormS : List Token → List Token → Reach → Type 0
FormS = EitherS (next_is plain_word) (HeadS IsPlain PlainS) OtherS

abbrev pub FormB : List Token → List Token → Reach → Type 0
FormB = EitherS (next_is plain_word) (HeadB IsPlain PlainB) OtherB

-- ---- what starts a statement

pub plain_type : Apart plain_word type_word
plain_type (kinds.Keyword keywords.Checked) so = refl
plain_type (kinds.Keyword keywords.Unchecked) so = refl
plain_type kinds.OpenBrace so = refl
plain_type (kinds.Keyword keywords.Bundled) so = refl
plain_type kinds.Semicolon so = refl
plain_type (kinds.Keyword keywords.If) so = refl
plain_type (kinds.Keyword keywords.While) so = refl
plain_type (kinds.Keyword keywords.For) so = refl
plain_type (kinds.Keyword keywords.Return) so = refl
plain_type (kinds.Keyword keywords.Break) so = refl
plain_type (kinds.Keyword keywords.Continue) so = refl
plain_type _ so = absurd (true≢false (sym so))

pub plain_assignment : Apart plain_word assignment_word
plain_assignment (kinds.Keyword keywords.Checked) so = refl
plain_assignment (kinds.Keyword keywords.Unchecked) so = refl
plain_assignment kinds.OpenBrace so = refl
plain_assignment (kinds.Keyword keywords.Bundled) so = refl
plain_assignment kinds.Semicolon so = refl
plain_assignment (kinds.Keyword keywords.If) so = refl
plain_assignment (kinds.Keyword keywords.While) so = refl
plain_assignment (kinds.Keyword keywords.For) so = refl
plain_assignment (kinds.Keyword keywords.Return) so = refl
plain_assignment (kinds.Keyword keywords.Break) so = refl
plain_assignment (kinds.Keyword keywords.Continue) so = refl
plain_assignment _ so = absurd (true≢false (sym so))

pub mark_plain : (k : TokenKind) {w : Mark} → mark_of k ≡ Some w → plain_word k ≡ true
mark_plain k w = each_mark (λ k. plain_word k ≡ true) k w refl refl

-- ---- from statements to the built form

declared_to : {ts m : List Token} {r : Reach} → next_is type_word ts ≡ true → DeclaredS ts m r → FormS ts m r
declared_to {ts} so a = no (next_apart (turned plain_type) ts so) (yes so a)

pub simple_form : {ts m : List Token} {r : Reach} → SimpleS ts m r → FormS ts m r
simple_form {ts} a = no (next_apart (turned plain_assignment) ts (simple_at a)) (no (next_apart (turned type_assignment) ts (simple_at a)) a)

-- the condition of an if or a while
pub in_parens : {p q o : Span} {ts us : List Token} {x : Expression} → SpellsExpression ts x o (token kinds.CloseParen q ∷ us) → ConditionS (token kinds.OpenParen p ∷ ts) us (expression_reach x)
in_parens d = after it (end (binary d) it)

-- four reaches side by side
pub four : (p q r t : Reach) → p beside (q beside (r beside t)) ≡ p beside q beside r beside t
four p q r t = sym (beside_assoc (p beside q) r t ∙ beside_assoc p q (r beside t))

pub statement_to : (ts m : List Token) (r : Reach) → StatementS ts m r → FormS ts m r
statement_to ts m r (stated (g.block d)) = yes refl (headed block (forms.node (listed d)))
statement_to ts m r (stated (g.marked_block {k} w d)) = yes (mark_plain k w) (headed (mark w) (forms.node (after it (listed d))))
statement_to ts m r (stated (g.bundle d)) = yes refl (headed bundle (forms.node (after it (bundled d))))
statement_to ts m r (stated (g.declare d)) = declared_to (declaration_at d) (end (declaration d) it)
statement_to ts m r (stated (g.assign d)) = simple_form (assign d)
statement_to ts m r (stated (g.call d)) = simple_form (call d)
statement_to ts m r (stated g.empty) = yes refl (headed empty (forms.node done))
statement_to ts m r (stated (g.if {condition} {consequent} c d f)) = yes refl (headed if (forms.node (reach_is (InnerS ifs) (ap (λ (x : Reach). expression_reach condition beside x) (beside_nowhere (statement_reach consequent))) (seq (in_parens c) (seq (stated d) (absent f))))))
statement_to ts m r (stated (g.if_else {condition} {consequent} {alternative} c d e)) = yes refl (headed if (forms.node (reach_is (InnerS ifs) (sym (beside_assoc (expression_reach condition) (statement_reach consequent) (statement_reach alternative))) (seq (in_parens c) (seq (stated d) (present it (stated e)))))))
statement_to ts m r (stated (g.while c d)) = yes refl (headed while (forms.node (seq (in_parens c) (stated d))))
statement_to ts m r (stated (g.for {initial = i} {optional = c} {step = a} {body_statement = x} f t p d)) = yes refl (headed for (forms.node (after it (reach_is LoopS (four (for_initial_reach i) (optional_expression_reach c) (optional_assignment_reach a) (statement_reach x)) (seq (initial f) (seq (tested t) (seq (stepped p) (stated d))))))))
statement_to ts m r (stated g.return_nothing) = yes refl (headed return (forms.node (tested g.absent)))
statement_to ts m r (stated (g.return d)) = yes refl (headed return (forms.node (tested (g.present d))))
statement_to ts m r (stated g.break) = yes refl (headed break (forms.node (after it done)))
statement_to ts m r (stated g.continue) = yes refl (headed continue (forms.node (after it done)))

-- ---- between beginnings and the built form

statement_begin : (ts m : List Token) (r : Reach) → StatementS ts m r → BeginsStatement ts m r
statement_begin ts m r (stated d) = statement_begins d

declaration_into : (ts rest : List Token) (q : Reach) → BeginsDeclaration ts rest q → FormB ts rest q
declaration_into = or_right declaration_exact plain_type declaration_starts (λ ts. none_yet) (or_left declaration_exact declaration_starts simple_starts.here (λ ts rest q c. before_end c))

simple_into : (ts rest : List Token) (q : Reach) → SimpleB ts rest q → FormB ts rest q
simple_into = or_right simple_exact plain_assignment simple_starts (λ ts. none_yet) (or_right simple_exact type_assignment simple_starts (λ ts. before_end (declaration_starts.here ts)) (λ ts rest q c. c))

pub statement_into : (ts rest : List Token) (q : Reach) → BeginsStatement ts rest q → FormB ts rest q
statement_into ts rest q b.nothing = declaration_into _ _ _ (declaration_starts.here ts)
statement_into ts rest q (b.block c) = yes refl (headed block (forms.node c))
statement_into ts rest q (b.mark {k} w) = yes (mark_plain k w) (headed (mark w) (forms.node not_yet))
statement_into ts rest q (b.marked_block {k} w c) = yes (mark_plain k w) (headed (mark w) (forms.node (after it c)))
statement_into ts rest q b.bundle_word = yes refl (headed bundle (forms.node not_yet))
statement_into ts rest q (b.bundle c) = yes refl (headed bundle (forms.node (after it c)))
statement_into ts rest q (b.declaration c) = declaration_into _ _ _ c
statement_into ts rest q (b.declare d) = no (next_apart (turned plain_type) ts (declaration_at d)) (yes (declaration_at d) (end (declaration d) it))
statement_into ts rest q (b.assignment c) = simple_into _ _ _ (assignment c)
statement_into ts rest q (b.assign d) = simple_into _ _ _ (simple.in_whole (assign d))
statement_into ts rest q (b.call_begun c) = simple_into _ _ _ (call_begun c)
statement_into ts rest q (b.call d) = simple_into _ _ _ (simple.in_whole (call d))
statement_into ts rest q b.empty = yes refl (headed empty (forms.node done))
statement_into ts rest q b.if_word = yes refl (headed if (forms.node (in_first not_yet)))
statement_into ts rest q (b.if_condition c) = yes refl (headed if (forms.node (in_first (after it (before_end c)))))
statement_into ts rest q (b.if_consequent d c) = yes refl (headed if (forms.node (in_second (in_parens d) (in_first c))))
statement_into ts rest q (b.if_alternative {condition} {consequent} {r} d e c) = yes refl (headed if (forms.node (reach_is (InnerB ifs) (sym (beside_assoc (expression_reach condition) (statement_reach consequent) r)) (in_second (in_parens d) (in_second (stated e) (after it c))))))
statement_into ts rest q b.while_word = yes refl (headed while (forms.node (in_first not_yet)))
statement_into ts rest q (b.while_condition c) = yes refl (headed while (forms.node (in_first (after it (before_end c)))))
statement_into ts rest q (b.while_body d c) = yes refl (headed while (forms.node (in_second (in_parens d) c)))
statement_into ts rest q b.for_word = yes refl (headed for (forms.node not_yet))
statement_into ts rest q (b.for_initial c) = yes refl (headed for (forms.node (after it (in_first (so_far c)))))
statement_into ts rest q (b.for_condition d c) = yes refl (headed for (forms.node (after it (in_second (initial d) (in_first (so_far c))))))
statement_into ts rest q (b.for_step {initial = i} {optional = x} {r} d t c) = yes refl (headed for (forms.node (after it (reach_is LoopB (sym (beside_assoc (for_initial_reach i) (optional_expression_reach x) r)) (in_second (initial d) (in_second (tested t) (in_first (so_far c))))))))
statement_into ts rest q (b.for_body {initial = i} {optional = x} {step = y} {r} d t a c) = yes refl (headed for (forms.node (after it (reach_is LoopB (four (for_initial_reach i) (optional_expression_reach x) (optional_assignment_reach y) r) (in_second (initial d) (in_second (tested t) (in_second (stepped a) c)))))))
statement_into ts rest q (b.return_value c) = yes refl (headed return (forms.node (so_far (b.present c))))
statement_into ts rest q b.return_nothing = yes refl (headed return (forms.node (in_whole (tested g.absent))))
statement_into ts rest q (b.return d) = yes refl (headed return (forms.node (in_whole (tested (g.present d)))))
statement_into ts rest q b.break_word = yes refl (headed break (forms.node not_yet))
statement_into ts rest q b.break = yes refl (headed break (forms.node (after it done)))
statement_into ts rest q b.continue_word = yes refl (headed continue (forms.node not_yet))
statement_into ts rest q b.continue = yes refl (headed continue (forms.node (after it done)))

if_from : {ts rest : List Token} {q : Reach} (s : Span) → InnerB ifs ts rest q → BeginsStatement (token (kinds.Keyword keywords.If) s ∷ ts) rest (around s.from q)
if_from s (in_first not_yet) = b.if_word
if_from s (in_first (after it (before_end c))) = b.if_condition c
if_from {rest} s (in_first (after it (end (binary {e} d) it))) = reach_is BeginsStatement (ap (around s.from) (beside_nowhere (expression_reach e))) (b.if_consequent d (b.nothing {ts = rest}))
if_from s (in_second (after it (end (binary d) it)) (in_first c)) = b.if_consequent d c
if_from s (in_second (after it (end (binary {e} d) it)) (in_second (stated {x} st) not_yet)) = reach_is BeginsStatement (ap (λ (y : Reach). around s.from (expression_reach e beside y)) (sym (beside_nowhere (statement_reach x)))) (b.if_consequent d (statement_begins st))
if_from s (in_second (after it (end (binary {e} d) it)) (in_second {q} (stated {x} st) (after it c))) = reach_is BeginsStatement (ap (around s.from) (beside_assoc (expression_reach e) (statement_reach x) _)) (b.if_alternative d st c)

while_from : {ts rest : List Token} {q : Reach} (s : Span) → InnerB whiles ts rest q → BeginsStatement (token (kinds.Keyword keywords.While) s ∷ ts) rest (around s.from q)
while_from s (in_first not_yet) = b.while_word
while_from s (in_first (after it (before_end c))) = b.while_condition c
while_from {rest} s (in_first (after it (end (binary {e} d) it))) = reach_is BeginsStatement (ap (around s.from) (beside_nowhere (expression_reach e))) (b.while_body d (b.nothing {ts = rest}))
while_from s (in_second (after it (end (binary d) it)) c) = b.while_body d c

for_from : {ts rest : List Token} {q : Reach} (s : Span) → InnerB fors ts rest q → BeginsStatement (token (kinds.Keyword keywords.For) s ∷ ts) rest (around s.from q)
for_from s not_yet = b.for_word
for_from s (after it (in_first (so_far c))) = b.for_initial c
for_from {rest} s (after it (in_first (in_whole (initial {x} d)))) = reach_is BeginsStatement (ap (around s.from) (beside_nowhere (for_initial_reach x))) (b.for_condition d (b.present (binary_starts.here rest)))
for_from s (after it (in_second (initial d) (in_first (so_far c)))) = b.for_condition d c
for_from {rest} s (after it (in_second (initial {x} d) (in_first (in_whole (tested {x = y} t))))) = reach_is BeginsStatement (ap (around s.from) (beside_nowhere (for_initial_reach x beside optional_expression_reach y))) (b.for_step d t (b.present (assignment_starts.here rest)))
for_from s (after it (in_second (initial {x} d) (in_second (tested {x = y} t) (in_first (so_far c))))) = reach_is BeginsStatement (ap (around s.from) (beside_assoc (for_initial_reach x) (optional_expression_reach y) _)) (b.for_step d t c)
for_from {rest} s (after it (in_second (initial {x} d) (in_second (tested {x = y} t) (in_first (in_whole (stepped {x = z} a)))))) = reach_is BeginsStatement (ap (around s.from) (beside_nowhere (for_initial_reach x beside optional_expression_reach y beside optional_assignment_reach z) ∙ beside_assoc (for_initial_reach x) (optional_expression_reach y) (optional_assignment_reach z))) (b.for_body d t a (b.nothing {ts = rest}))
for_from s (after it (in_second (initial {x} d) (in_second (tested {x = y} t) (in_second (stepped {x = z} a) c)))) = reach_is BeginsStatement (ap (around s.from) (sym (four (for_initial_reach x) (optional_expression_reach y) (optional_assignment_reach z) _))) (b.for_body d t a c)

return_from : {ts rest : List Token} {q : Reach} (s : Span) → InnerB returns ts rest q → BeginsStatement (token (kinds.Keyword keywords.Return) s ∷ ts) rest (around s.from q)
return_from s (so_far (b.present c)) = b.return_value c
return_from s (in_whole (tested g.absent)) = b.return_nothing
return_from s (in_whole (tested (g.present d))) = b.return d

plain_from : (ts rest : List Token) (q : Reach) → HeadB IsPlain PlainB ts rest q → BeginsStatement ts rest q
plain_from ts rest q none_yet = b.nothing
plain_from ts rest q (headed block (forms.node c)) = b.block c
plain_from ts rest q (headed (mark w) (forms.node not_yet)) = b.mark w
plain_from ts rest q (headed (mark w) (forms.node (after it c))) = b.marked_block w c
plain_from ts rest q (headed bundle (forms.node not_yet)) = b.bundle_word
plain_from ts rest q (headed bundle (forms.node (after it c))) = b.bundle c
plain_from ts rest q (headed empty (forms.node done)) = b.empty
plain_from ts rest q (headed {s} if (forms.node c)) = if_from s c
plain_from ts rest q (headed {s} while (forms.node c)) = while_from s c
plain_from ts rest q (headed {s} for (forms.node c)) = for_from s c
plain_from ts rest q (headed {s} return (forms.node c)) = return_from s c
plain_from ts rest q (headed break (forms.node not_yet)) = b.break_word
plain_from ts rest q (headed break (forms.node (after it done))) = b.break
plain_from ts rest q (headed continue (forms.node not_yet)) = b.continue_word
plain_from ts rest q (headed continue (forms.node (after it done))) = b.continue

simple_from : (ts rest : List Token) (q : Reach) → SimpleB ts rest q → BeginsStatement ts rest q
simple_from ts rest q (assignment c) = b.assignment c
simple_from ts rest q (call_begun c) = b.call_begun c
simple_from ts rest q (simple.in_whole (assign d)) = b.assign d
simple_from ts rest q (simple.in_whole (call d)) = b.call d

pub statement_from : (ts rest : List Token) (q : Reach) → FormB ts rest q → BeginsStatement ts rest q
statement_from ts rest q (yes so c) = plain_from ts rest q c
statement_from ts rest q (no so (yes is (before_end c))) = b.declaration c
statement_from ts rest q (no so (yes is (end (declaration d) it))) = b.declare d
statement_from ts rest q (no so (no is c)) = simple_from ts rest q c

-- ---- reading goes one way

high_of : (x : Statement) → 0 < (statement_reach x).height
high_of (s.Block m l w) = omega (arith, around_height w.from (statements_reach l))
high_of (s.Bundle l w) = omega (arith, around_height w.from (assignments_reach l))
high_of (s.Declare d w) = omega (arith, around_height w.from (declared_reach d))
high_of (s.Assign a w) = omega (arith, around_height w.from (assigned_reach a))
high_of (s.CallAlone e w) = omega (arith, around_height w.from (expression_reach e))
high_of (s.Empty w) = omega arith
high_of (s.If c x w) = omega (arith, around_height w.from (expression_reach c beside statement_reach x))
high_of (s.IfElse c x y w) = omega (arith, around_height w.from (expression_reach c beside statement_reach x beside statement_reach y))
high_of (s.While c x w) = omega (arith, around_height w.from (expression_reach c beside statement_reach x))
high_of (s.For i c a x w) = omega (arith, around_height w.from (for_initial_reach i beside optional_expression_reach c beside optional_assignment_reach a beside statement_reach x))
high_of (s.Return e w) = omega (arith, around_height w.from (optional_expression_reach e))
high_of (s.Break w) = omega arith
high_of (s.Continue w) = omega arith

pub statement_high : (ts m : List Token) (r : Reach) → StatementS ts m r → 0 < r.height
statement_high ts m r (stated {x} d) = high_of x

pub else_is : (k : TokenKind) → Is (kinds.Keyword keywords.Else) k → words.else_word k ≡ true
else_is = is_it words.else_word refl

inner_below : {n : ℕ} → ExactBelow n nowhere StatementS BeginsStatement → ExactBelow n nowhere StatementsS BeginsStatements → (h : Plain) → ExactBelow n nowhere (InnerS h) (InnerB h)
inner_below e l blocks = l
inner_below e l marks = within (after_exact l)
inner_below e l bundles = below (after_all assignments_exact)
inner_below e l empties = done_exact
inner_below e l ifs = seq_exact (below condition_exact) (seq_exact e (within (optional_exact else_is e)))
inner_below e l whiles = seq_exact (below condition_exact) e
inner_below e l fors = within (after_exact (seq_exact (below initial_exact) (seq_exact (below for_condition_exact) (seq_exact (below step_exact) e))))
inner_below e l returns = below for_condition_exact
inner_below e l leaves = below (after_all done_all)

statement_within : {n : ℕ} → ExactBelow n nowhere StatementS BeginsStatement → ExactBelow n nowhere StatementsS BeginsStatements → ExactBelow (suc n) nowhere StatementS BeginsStatement
statement_within e l = same_exact (either_exact (head_exact {base = λ h start. node start} one_plain (λ h start. node_exact (inner_below e l h))) (either_exact (below (ended_all declaration_exact)) (below simple_exact))) statement_to statement_begin statement_into

-- ---- statements, and the brace behind them

abbrev pub ListS : List Token → List Token → Reach → Type 0
ListS = EitherS (next_is close_brace) (AfterS (Is kinds.CloseBrace) DoneS) (SeqS StatementS StatementsS)

abbrev pub ListB : List Token → List Token → Reach → Type 0
ListB = EitherS (next_is close_brace) (AfterB (Is kinds.CloseBrace) DoneS) (SeqB StatementS BeginsStatement BeginsStatements)

brace_apart : Apart close_brace statement_word
brace_apart kinds.CloseBrace so = refl
brace_apart _ so = absurd (true≢false (sym so))

either_first : (a c : Bool) → a ≡ true → a || c ≡ true
either_first true c so = refl
either_first false c so = absurd cc

pub plain_states : (ts : List Token) → next_is plain_word ts ≡ true → next_is statement_word ts ≡ true
plain_states [] so = absurd cc
plain_states (t ∷ ts) so = either_first (plain_word t.kind) (type_word t.kind || assignment_word t.kind) so

pub type_states : (ts : List Token) → next_is type_word ts ≡ true → next_is statement_word ts ≡ true
type_states [] so = absurd cc
type_states (t ∷ ts) so = either_true (plain_word t.kind) (type_word t.kind || assignment_word t.kind) (either_first (type_word t.kind) (assignment_word t.kind) so)

no_assignment : (ts : List Token) → next_is statement_word ts ≡ false → next_is assignment_word ts ≡ false
no_assignment [] none = refl
no_assignment (t ∷ ts) none = (either_false (type_word t.kind) (assignment_word t.kind) (either_false (plain_word t.kind) (type_word t.kind || assignment_word t.kind) none).1).1

assigns_state : (ts : List Token) → next_is assignment_word ts ≡ true → next_is statement_word ts ≡ true
assigns_state [] so = absurd cc
assigns_state (t ∷ ts) so = either_true (plain_word t.kind) (type_word t.kind || assignment_word t.kind) (either_true (type_word t.kind) (assignment_word t.kind) so)

form_at : {ts m : List Token} {r : Reach} → FormS ts m r → next_is statement_word ts ≡ true
form_at {ts} (yes so a) = plain_states ts so
form_at {ts} (no so (yes is a)) = type_states ts is
form_at {ts} (no so (no is a)) = assigns_state ts (simple_at a)

form_nothing : {ts rest : List Token} {q : Reach} → FormB ts rest q → next_is statement_word ts ≡ false → (rest ≡ ts) × (q ≡ nowhere)
form_nothing {ts} (yes so c) none = never (plain_states ts so) none
form_nothing {ts} (no so (yes is c)) none = never (type_states ts is) none
form_nothing {ts} (no so (no is c)) none = let same = simple_starts.none c (no_assignment ts none) in (same, simple_exact.nothing c same)

pub no_brace : {ts m : List Token} {x : Statement} → SpellsStatement ts x m → next_is close_brace ts ≡ false
no_brace {ts} d = next_apart (turned brace_apart) ts (form_at (statement_to _ _ _ (stated d)))

pub list_to : (ts m : List Token) (r : Reach) → StatementsS ts m r → ListS ts m r
list_to ts m r (listed g.none) = yes refl (after it done)
list_to ts m r (listed (g.more d l)) = no (no_brace d) (seq (stated d) (listed l))

list_begin : (ts m : List Token) (r : Reach) → StatementsS ts m r → BeginsStatements ts m r
list_begin ts m r (listed d) = statements_begin d

first_into : {ts rest : List Token} {q : Reach} → BeginsStatement ts rest q → ListB ts rest q
first_into {ts} {rest} {q} c = by_next close_brace ts (λ so. let none = form_nothing (statement_into ts rest q c) (next_apart brace_apart ts so) in yes so (nothing_read (AfterB (Is kinds.CloseBrace) DoneS) none.0 none.1 not_yet)) (λ so. no so (in_first c))

pub list_into : (ts rest : List Token) (q : Reach) → BeginsStatements ts rest q → ListB ts rest q
list_into ts rest q b.none = yes refl (after it done)
list_into ts rest q (b.first c) = first_into c
list_into ts rest q (b.others d c) = no (no_brace d) (in_second (stated d) c)

pub list_from : (ts rest : List Token) (q : Reach) → ListB ts rest q → BeginsStatements ts rest q
list_from ts rest q (yes so not_yet) = b.first b.nothing
list_from ts rest q (yes so (after it done)) = b.none
list_from ts rest q (no so (in_first c)) = b.first c
list_from ts rest q (no so (in_second (stated d) c)) = b.others d c

record BothBelow (n : ℕ) : Type 0 where
  statement : ExactBelow n nowhere StatementS BeginsStatement
  statements : ExactBelow n nowhere StatementsS BeginsStatements

both_below : (n : ℕ) → BothBelow n
both_below zero = record { statement = none_below; statements = none_below }
both_below (suc n) =
    let inner = both_below n in
    let one = statement_within inner.statement inner.statements in
    record { statement = one; statements = same_exact (either_exact (after_exact done_exact) (list_exact statement_high one inner.statements)) list_to list_begin list_into }

pub statement_exact : Exact nowhere StatementS BeginsStatement
statement_exact = exact_on_all (λ n. (both_below n).statement)

pub statements_exact : Exact nowhere StatementsS BeginsStatements
statements_exact = exact_on_all (λ n. (both_below n).statements)

pub statement_starts : Starts statement_word BeginsStatement
statement_starts = record { none = λ {ts} {rest} {q} c so. (form_nothing (statement_into ts rest q c) so).0; here = λ ts. b.nothing }

pub inner_exact : (h : Plain) → Exact nowhere (InnerS h) (InnerB h)
inner_exact h = exact_on_all (λ n. inner_below (below statement_exact) (below statements_exact) h)
