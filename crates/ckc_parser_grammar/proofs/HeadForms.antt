-- The heads of statements as forms that are built of others: reading them goes one way, and where they are stuck they fail.
-- A mark that ends a part is read where the next part begins, so the whole parts are added to their beginnings.
use Rattle.std.proofs.Common.{◌≡◌, ◌≤◌, ℕ, Bool, true, false, List, Option, refl, sym, ◌∙◌, true≢false}
use Rattle.ckc_lexer.specs.declared.token.Token.{Token}
use Rattle.ckc_lexer.specs.declared.token.TokenKind.{TokenKind}
use Rattle.ckc_lexer.specs.declared.keyword.Keyword.TheVariants as keywords
use Rattle.ckc_lexer.specs.declared.token.TokenKind.TheVariants as kinds
use Rattle.ckc_tree.specs.Expressions.{Expression}
use Rattle.ckc_tree.specs.Statements.{Declaration, Assignment, ForInitial}
use Rattle.ckc_tree.specs.Heights.{Reach, nowhere, for_initial_reach, optional_expression_reach, optional_assignment_reach}
use Rattle.ckc_parser_grammar.specs.Tokens.{next_is, open_paren}
use Rattle.ckc_parser_grammar.specs.StatementGrammar as g
use Rattle.ckc_parser_grammar.specs.StatementGrammar.{SpellsDeclaration, SpellsForInitial, SpellsForCondition, SpellsForStep}
use Rattle.ckc_parser_grammar.specs.ExpressionBeginnings.{BeginsBinary}
use Rattle.ckc_parser_grammar.specs.StatementBeginnings as b
use Rattle.ckc_parser_grammar.specs.StatementBeginnings.{BeginsDeclaration, BeginsAssignment, BeginsForInitial, BeginsForCondition, BeginsForStep}
use Rattle.ckc_parser_grammar.specs.Failures.{Failure}
use Rattle.ckc_parser_grammar.specs.StuckTypes.{type_word}
use Rattle.ckc_parser_grammar.specs.StuckExpressions.{unary_word, close_paren}
use Rattle.ckc_parser_grammar.specs.StuckStatements as stuck
use Rattle.ckc_parser_grammar.specs.StuckStatements.{semicolon, assignment_word, StuckForInitial, StuckForCondition, StuckForStep, StuckCondition}
use Rattle.ckc_parser_grammar.proofs.Forms.{Is, it, Exact, ended_all, after_all, either_all, same_all, done_all, EndedS, EndedB, before_end, end, AfterS, AfterB, not_yet, after, EitherS, yes, no, DoneS, done}
use Rattle.ckc_parser_grammar.proofs.Failing as failing
use Rattle.ckc_parser_grammar.proofs.Failing.{Fails, fails_before_end, fails_at_end, fails_after, fails_at_first, fails_as, fails_yes, fails_no}
use Rattle.ckc_parser_grammar.proofs.ExpressionLinks.{BinaryS, binary}
use Rattle.ckc_parser_grammar.proofs.ExpressionForms.{binary_exact}
use Rattle.ckc_parser_grammar.proofs.ExpressionFails.{binary_fails}
use Rattle.ckc_parser_grammar.proofs.MoreForms.{is_it, Apart, next_apart, or_left, or_right, starts_whole, WithS, so_far, in_whole}
use Rattle.ckc_parser_grammar.proofs.Starting.{binary_starts, binary_at}
use Rattle.ckc_parser_grammar.proofs.DeclarationForms.{DeclarationS, declaration, declaration_exact, declaration_starts, declaration_high, declaration_fails}
use Rattle.ckc_parser_grammar.proofs.AssignmentForms.{AssignmentS, assigned, assignment_exact, assignment_starts, assignment_at, assignment_fails}

-- ---- tests that no token meets both of

pub semicolon_type : Apart semicolon type_word
semicolon_type kinds.Semicolon so = refl
semicolon_type _ so = absurd (true≢false (sym so))

pub semicolon_assignment : Apart semicolon assignment_word
semicolon_assignment kinds.Semicolon so = refl
semicolon_assignment _ so = absurd (true≢false (sym so))

pub type_assignment : Apart type_word assignment_word
type_assignment (kinds.Keyword keywords.Int) so = refl
type_assignment (kinds.Keyword keywords.Char) so = refl
type_assignment (kinds.Keyword keywords.Struct) so = refl
type_assignment (kinds.Keyword keywords.Ptr) so = refl
type_assignment (kinds.Keyword keywords.ArrayPtr) so = refl
type_assignment (kinds.Keyword keywords.NtArrayPtr) so = refl
type_assignment (kinds.Keyword keywords.TPtr) so = refl
type_assignment (kinds.Keyword keywords.TArrayPtr) so = refl
type_assignment (kinds.Keyword keywords.TNtArrayPtr) so = refl
type_assignment _ so = absurd (true≢false (sym so))

-- of two tests that no token meets both of, the second keeps off the first
pub turned : {is other : TokenKind → Bool} → Apart is other → Apart other is
turned {is} {other} apart k so = by_test (is k) refl
  where
    by_test : (c : Bool) → is k ≡ c → is k ≡ false
    by_test true meets = let h : true ≡ false = sym so ∙ apart k meets in absurd cc
    by_test false meets = meets

pub declaration_at : {ts m : List Token} {x : Declaration} → SpellsDeclaration ts x m → next_is type_word ts ≡ true
declaration_at d = starts_whole declaration_exact declaration_starts (declaration d) (declaration_high _ _ _ (declaration d))

-- ---- the first part of the head of a for

pub data ForInitialS : List Token → List Token → Reach → Type 0 where
  initial : {x : ForInitial} {ts m : List Token} → SpellsForInitial ts x m → ForInitialS ts m (for_initial_reach x)

abbrev pub InitialB : List Token → List Token → Reach → Type 0
InitialB = WithS ForInitialS BeginsForInitial

abbrev MarkedS : (List Token → List Token → Reach → Type 0) → List Token → List Token → Reach → Type 0
MarkedS S = EitherS (next_is semicolon) (AfterS (Is kinds.Semicolon) DoneS) S

abbrev MarkedB : (List Token → List Token → Reach → Type 0) → List Token → List Token → Reach → Type 0
MarkedB B = EitherS (next_is semicolon) (AfterB (Is kinds.Semicolon) DoneS) B

abbrev DeclaredS : List Token → List Token → Reach → Type 0
DeclaredS = EndedS (Is kinds.Semicolon) DeclarationS

abbrev DeclaredB : List Token → List Token → Reach → Type 0
DeclaredB = EndedB (Is kinds.Semicolon) DeclarationS BeginsDeclaration

abbrev AssignedS : List Token → List Token → Reach → Type 0
AssignedS = EndedS (Is kinds.Semicolon) AssignmentS

abbrev AssignedB : List Token → List Token → Reach → Type 0
AssignedB = EndedB (Is kinds.Semicolon) AssignmentS BeginsAssignment

abbrev ChosenS : List Token → List Token → Reach → Type 0
ChosenS = EitherS (next_is type_word) DeclaredS AssignedS

abbrev ChosenB : List Token → List Token → Reach → Type 0
ChosenB = EitherS (next_is type_word) DeclaredB AssignedB

chosen_exact : Exact nowhere ChosenS ChosenB
chosen_exact = either_all (ended_all declaration_exact) (ended_all assignment_exact)

marked_exact : Exact nowhere (MarkedS ChosenS) (MarkedB ChosenB)
marked_exact = either_all (after_all done_all) chosen_exact

initial_to : (ts m : List Token) (r : Reach) → ForInitialS ts m r → MarkedS ChosenS ts m r
initial_to ts m r (initial g.nothing) = yes refl (after it done)
initial_to ts m r (initial (g.declares d)) = no (next_apart (turned semicolon_type) ts (declaration_at d)) (yes (declaration_at d) (end (declaration d) it))
initial_to ts m r (initial (g.assigns d)) = no (next_apart (turned semicolon_assignment) ts (assignment_at d)) (no (next_apart (turned type_assignment) ts (assignment_at d)) (end (assigned d) it))

initial_declares : (ts rest : List Token) (q : Reach) → BeginsDeclaration ts rest q → ChosenB ts rest q
initial_declares = or_left declaration_exact declaration_starts (λ ts. before_end (assignment_starts.here ts)) (λ ts rest q c. before_end c)

initial_assigns : (ts rest : List Token) (q : Reach) → BeginsAssignment ts rest q → ChosenB ts rest q
initial_assigns = or_right assignment_exact type_assignment assignment_starts (λ ts. before_end (declaration_starts.here ts)) (λ ts rest q c. before_end c)

initial_into : (ts rest : List Token) (q : Reach) → InitialB ts rest q → MarkedB ChosenB ts rest q
initial_into ts rest q (so_far (b.declares c)) = or_right declaration_exact semicolon_type declaration_starts (λ us. not_yet) initial_declares ts rest q c
initial_into ts rest q (so_far (b.assigns c)) = or_right assignment_exact semicolon_assignment assignment_starts (λ us. not_yet) initial_assigns ts rest q c
initial_into ts rest q (in_whole a) = marked_exact.spelled (initial_to _ _ _ a)

initial_from : (ts rest : List Token) (q : Reach) → MarkedB ChosenB ts rest q → InitialB ts rest q
initial_from ts rest q (yes so not_yet) = so_far (b.declares (declaration_starts.here ts))
initial_from ts rest q (yes so (after it done)) = in_whole (initial g.nothing)
initial_from ts rest q (no so (yes is (before_end c))) = so_far (b.declares c)
initial_from ts rest q (no so (yes is (end (declaration d) it))) = in_whole (initial (g.declares d))
initial_from ts rest q (no so (no is (before_end c))) = so_far (b.assigns c)
initial_from ts rest q (no so (no is (end (assigned d) it))) = in_whole (initial (g.assigns d))

pub initial_exact : Exact nowhere ForInitialS InitialB
initial_exact = same_all marked_exact initial_to (λ ts m r a. in_whole a) initial_into

pub semicolon_is : (k : TokenKind) → Is kinds.Semicolon k → semicolon k ≡ true
semicolon_is = is_it semicolon refl

pub initial_fails : {d : ℕ} {ts : List Token} {f : Failure} → d ≤ 200 → StuckForInitial d ts f → Fails d ForInitialS InitialB ts f
initial_fails low stuck.no_room = failing.no_memory
initial_fails low (stuck.declares none so f) = fails_as initial_to initial_into initial_from (fails_no none (fails_yes so (fails_before_end declaration_exact (declaration_fails low f))))
initial_fails {ts} low (stuck.declares_end d high none) = fails_as initial_to initial_into initial_from (fails_no (next_apart (turned semicolon_type) ts (declaration_at d)) (fails_yes (declaration_at d) (fails_at_end semicolon_is declaration_exact (declaration d) high none)))
initial_fails low (stuck.assigns none so f) = fails_as initial_to initial_into initial_from (fails_no none (fails_no so (fails_before_end assignment_exact (assignment_fails low f))))
initial_fails {ts} low (stuck.assigns_end d high none) = fails_as initial_to initial_into initial_from (fails_no (next_apart (turned semicolon_assignment) ts (assignment_at d)) (fails_no (next_apart (turned type_assignment) ts (assignment_at d)) (fails_at_end semicolon_is assignment_exact (assigned d) high none)))

-- ---- the condition of a for, or the value of a return

pub data ForConditionS : List Token → List Token → Reach → Type 0 where
  tested : {x : Option Expression} {ts m : List Token} → SpellsForCondition ts x m → ForConditionS ts m (optional_expression_reach x)

abbrev pub TestedB : List Token → List Token → Reach → Type 0
TestedB = WithS ForConditionS BeginsForCondition

abbrev ValueS : List Token → List Token → Reach → Type 0
ValueS = EndedS (Is kinds.Semicolon) (BinaryS 10)

abbrev ValueB : List Token → List Token → Reach → Type 0
ValueB = EndedB (Is kinds.Semicolon) (BinaryS 10) (BeginsBinary 10)

semicolon_unary : Apart semicolon unary_word
semicolon_unary kinds.Semicolon so = refl
semicolon_unary _ so = absurd (true≢false (sym so))

condition_exact_marked : Exact nowhere (MarkedS ValueS) (MarkedB ValueB)
condition_exact_marked = either_all (after_all done_all) (ended_all (binary_exact 10))

condition_to : (ts m : List Token) (r : Reach) → ForConditionS ts m r → MarkedS ValueS ts m r
condition_to ts m r (tested g.absent) = yes refl (after it done)
condition_to ts m r (tested (g.present d)) = no (next_apart (turned semicolon_unary) ts (binary_at d)) (end (binary d) it)

condition_into : (ts rest : List Token) (q : Reach) → TestedB ts rest q → MarkedB ValueB ts rest q
condition_into ts rest q (so_far (b.present c)) = or_right (binary_exact 10) semicolon_unary binary_starts (λ us. not_yet) (λ us vs p e. before_end e) ts rest q c
condition_into ts rest q (in_whole a) = condition_exact_marked.spelled (condition_to _ _ _ a)

condition_from : (ts rest : List Token) (q : Reach) → MarkedB ValueB ts rest q → TestedB ts rest q
condition_from ts rest q (yes so not_yet) = so_far (b.present (binary_starts.here ts))
condition_from ts rest q (yes so (after it done)) = in_whole (tested g.absent)
condition_from ts rest q (no so (before_end c)) = so_far (b.present c)
condition_from ts rest q (no so (end (binary d) it)) = in_whole (tested (g.present d))

pub for_condition_exact : Exact nowhere ForConditionS TestedB
for_condition_exact = same_all condition_exact_marked condition_to (λ ts m r a. in_whole a) condition_into

pub for_condition_fails : {d : ℕ} {ts : List Token} {f : Failure} → d ≤ 200 → StuckForCondition d ts f → Fails d ForConditionS TestedB ts f
for_condition_fails low stuck.no_room = failing.no_memory
for_condition_fails low (stuck.present none f) = fails_as condition_to condition_into condition_from (fails_no none (fails_before_end (binary_exact 10) (binary_fails low f)))
for_condition_fails {ts} low (stuck.end d high none) = fails_as condition_to condition_into condition_from (fails_no (next_apart (turned semicolon_unary) ts (binary_at d)) (fails_at_end semicolon_is (binary_exact 10) (binary d) high none))

-- ---- the last part of the head of a for

pub data ForStepS : List Token → List Token → Reach → Type 0 where
  stepped : {x : Option Assignment} {ts m : List Token} → SpellsForStep ts x m → ForStepS ts m (optional_assignment_reach x)

abbrev pub SteppedB : List Token → List Token → Reach → Type 0
SteppedB = WithS ForStepS BeginsForStep

abbrev StepS : List Token → List Token → Reach → Type 0
StepS = EitherS (next_is close_paren) (AfterS (Is kinds.CloseParen) DoneS) (EndedS (Is kinds.CloseParen) AssignmentS)

abbrev StepB : List Token → List Token → Reach → Type 0
StepB = EitherS (next_is close_paren) (AfterB (Is kinds.CloseParen) DoneS) (EndedB (Is kinds.CloseParen) AssignmentS BeginsAssignment)

paren_assignment : Apart close_paren assignment_word
paren_assignment kinds.CloseParen so = refl
paren_assignment _ so = absurd (true≢false (sym so))

step_exact_marked : Exact nowhere StepS StepB
step_exact_marked = either_all (after_all done_all) (ended_all assignment_exact)

step_to : (ts m : List Token) (r : Reach) → ForStepS ts m r → StepS ts m r
step_to ts m r (stepped g.absent) = yes refl (after it done)
step_to ts m r (stepped (g.present d)) = no (next_apart (turned paren_assignment) ts (assignment_at d)) (end (assigned d) it)

step_into : (ts rest : List Token) (q : Reach) → SteppedB ts rest q → StepB ts rest q
step_into ts rest q (so_far (b.present c)) = or_right assignment_exact paren_assignment assignment_starts (λ us. not_yet) (λ us vs p e. before_end e) ts rest q c
step_into ts rest q (in_whole a) = step_exact_marked.spelled (step_to _ _ _ a)

step_from : (ts rest : List Token) (q : Reach) → StepB ts rest q → SteppedB ts rest q
step_from ts rest q (yes so not_yet) = so_far (b.present (assignment_starts.here ts))
step_from ts rest q (yes so (after it done)) = in_whole (stepped g.absent)
step_from ts rest q (no so (before_end c)) = so_far (b.present c)
step_from ts rest q (no so (end (assigned d) it)) = in_whole (stepped (g.present d))

pub step_exact : Exact nowhere ForStepS SteppedB
step_exact = same_all step_exact_marked step_to (λ ts m r a. in_whole a) step_into

pub step_fails : {d : ℕ} {ts : List Token} {f : Failure} → d ≤ 200 → StuckForStep d ts f → Fails d ForStepS SteppedB ts f
step_fails low stuck.no_room = failing.no_memory
step_fails low (stuck.present none f) = fails_as step_to step_into step_from (fails_no none (fails_before_end assignment_exact (assignment_fails low f)))
step_fails {ts} low (stuck.end d high none) = fails_as step_to step_into step_from (fails_no (next_apart (turned paren_assignment) ts (assignment_at d)) (fails_at_end (is_it close_paren refl) assignment_exact (assigned d) high none))

-- ---- the condition of an if or a while, with its parentheses

abbrev pub ConditionS : List Token → List Token → Reach → Type 0
ConditionS = AfterS (Is kinds.OpenParen) (EndedS (Is kinds.CloseParen) (BinaryS 10))

abbrev pub ConditionB : List Token → List Token → Reach → Type 0
ConditionB = AfterB (Is kinds.OpenParen) (EndedB (Is kinds.CloseParen) (BinaryS 10) (BeginsBinary 10))

inside_exact : Exact nowhere (EndedS (Is kinds.CloseParen) (BinaryS 10)) (EndedB (Is kinds.CloseParen) (BinaryS 10) (BeginsBinary 10))
inside_exact = ended_all (binary_exact 10)

pub condition_exact : Exact nowhere ConditionS ConditionB
condition_exact = after_all inside_exact

pub condition_fails : {d : ℕ} {ts : List Token} {f : Failure} → d ≤ 200 → StuckCondition d ts f → Fails d ConditionS ConditionB ts f
condition_fails low stuck.no_room = failing.no_memory
condition_fails low (stuck.opens none) = fails_at_first (is_it open_paren refl) low none
condition_fails low (stuck.inside f) = fails_after it inside_exact (fails_before_end (binary_exact 10) (binary_fails low f))
condition_fails low (stuck.close d high none) = fails_after it inside_exact (fails_at_end (is_it close_paren refl) (binary_exact 10) (binary d) high none)
