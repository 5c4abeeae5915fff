-- Where statements are stuck, they fail.
use Rattle.std.proofs.Common.{◌≡◌, ◌≤◌, ◌<◌, ◌||◌, ℕ, suc, Bool, true, false, List, ◌∷◌, refl, arith, sym, true≢false}
use Rattle.ckc_text.specs.declared.place.Span.{Span}
use Rattle.ckc_lexer.specs.declared.token.Token.{Token}
use Rattle.ckc_lexer.specs.declared.token.TokenKind.{TokenKind}
use Rattle.ckc_lexer.specs.declared.keyword.Keyword.TheVariants as keywords
use Rattle.ckc_lexer.specs.declared.token.TokenKind.TheVariants as kinds
use Rattle.ckc_tree.specs.Heights.{nowhere}
use Rattle.ckc_parser_grammar.specs.Tokens.{token, next_is, open_paren}
use Rattle.ckc_parser_grammar.specs.StatementBeginnings as b
use Rattle.ckc_parser_grammar.specs.StatementBeginnings.{BeginsStatement, BeginsStatements}
use Rattle.ckc_parser_grammar.specs.Failures as failures
use Rattle.ckc_parser_grammar.specs.Failures.{Failure}
use Rattle.ckc_parser_grammar.specs.StuckTypes.{type_word}
use Rattle.ckc_parser_grammar.specs.StuckStatements as stuck
use Rattle.ckc_parser_grammar.specs.StuckStatements.{open_brace, plain_word, assignment_word, statement_word, StuckStatement, StuckStatements}
use Rattle.ckc_parser_grammar.proofs.Forms.{Is, it, Exact, seq_all, node_all, in_first, not_yet, done}
use Rattle.ckc_parser_grammar.proofs.Forms as forms
use Rattle.ckc_parser_grammar.proofs.Failing as failing
use Rattle.ckc_parser_grammar.proofs.Failing.{Fails, fails_first, fails_second, fails_before_end, fails_at_end, fails_after, fails_at_first, fails_as, fails_node, fails_headed, fails_deep_head, fails_yes, fails_no}
use Rattle.ckc_parser_grammar.proofs.MoreForms.{is_it, next_apart, by_next, optional_all, fails_present, fails_unstarted, so_far}
use Rattle.ckc_parser_grammar.proofs.Starting.{binary_starts}
use Rattle.ckc_parser_grammar.proofs.DeclarationForms.{declaration, declaration_exact, declaration_fails}
use Rattle.ckc_parser_grammar.proofs.AssignmentForms.{assignment_at, assignments_exact, assignments_fails}
use Rattle.ckc_parser_grammar.proofs.HeadForms.{semicolon_is, turned, type_assignment, declaration_at, initial, initial_exact, initial_fails, tested, for_condition_exact, for_condition_fails, stepped, step_exact, step_fails, condition_exact, condition_fails}
use Rattle.ckc_parser_grammar.proofs.SimpleForms.{SimpleS, SimpleB, name_assigns, simple_deep, other_fails, named_fails, named_end_fails, named_value_fails, assign_end_fails}
use Rattle.ckc_parser_grammar.proofs.StatementForms.{StatementS, StatementsS, stated, Plain, IsPlain, block, mark, bundle, empty, if, while, for, return, break, continue, blocks, marks, bundles, empties, ifs, whiles, fors, returns, leaves, one_plain, FormS, FormB, DeclaredS, DeclaredB, InnerS, InnerB, ElseS, ElseB, BranchesS, BranchesB, SteppingS, SteppingB, TestingS, TestingB, LoopS, LoopB, ListS, ListB, statement_to, statement_into, statement_from, list_to, list_into, list_from, plain_type, plain_assignment, mark_plain, no_brace, in_parens, else_is, statement_high, inner_exact, statement_exact, statements_exact, statement_starts}

statement_as : {d : ℕ} {ts : List Token} {f : Failure} → Fails d FormS FormB ts f → Fails d StatementS BeginsStatement ts f
statement_as f = fails_as statement_to statement_into statement_from f

list_as : {d : ℕ} {ts : List Token} {f : Failure} → Fails d ListS ListB ts f → Fails d StatementsS BeginsStatements ts f
list_as f = fails_as list_to list_into list_from f

-- ---- behind a first word

plain_is : {k : TokenKind} {h : Plain} → IsPlain k h → plain_word k ≡ true
plain_is block = refl
plain_is (mark {k} w) = mark_plain k w
plain_is bundle = refl
plain_is empty = refl
plain_is if = refl
plain_is while = refl
plain_is for = refl
plain_is return = refl
plain_is break = refl
plain_is continue = refl

pub record PlainAt (k : TokenKind) : Type 0 where
  pub plain : Plain
  pub is : IsPlain k plain

pub plain_at : (k : TokenKind) → plain_word k ≡ true → PlainAt k
plain_at (kinds.Keyword keywords.Checked) so = record { plain = marks; is = mark refl }
plain_at (kinds.Keyword keywords.Unchecked) so = record { plain = marks; is = mark refl }
plain_at kinds.OpenBrace so = record { plain = blocks; is = block }
plain_at (kinds.Keyword keywords.Bundled) so = record { plain = bundles; is = bundle }
plain_at kinds.Semicolon so = record { plain = empties; is = empty }
plain_at (kinds.Keyword keywords.If) so = record { plain = ifs; is = if }
plain_at (kinds.Keyword keywords.While) so = record { plain = whiles; is = while }
plain_at (kinds.Keyword keywords.For) so = record { plain = fors; is = for }
plain_at (kinds.Keyword keywords.Return) so = record { plain = returns; is = return }
plain_at (kinds.Keyword keywords.Break) so = record { plain = leaves; is = break }
plain_at (kinds.Keyword keywords.Continue) so = record { plain = leaves; is = continue }
plain_at _ so = absurd (true≢false (sym so))

inner_here : (h : Plain) (ts : List Token) → InnerB h ts ts nowhere
inner_here blocks ts = b.first b.nothing
inner_here marks ts = not_yet
inner_here bundles ts = not_yet
inner_here empties ts = done
inner_here ifs ts = in_first not_yet
inner_here whiles ts = in_first not_yet
inner_here fors ts = not_yet
inner_here returns ts = so_far (b.present (binary_starts.here ts))
inner_here leaves ts = not_yet

plain_fails : {d : ℕ} {k : TokenKind} {s : Span} {h : Plain} {ts : List Token} {f : Failure} → IsPlain k h → d < 200 → Fails (suc d) (InnerS h) (InnerB h) ts f → Fails d StatementS BeginsStatement (token k s ∷ ts) f
plain_fails {h} i some f = statement_as (fails_yes (plain_is i) (fails_headed one_plain i (node_all (inner_exact h)) (fails_node some f)))

plain_deep : {d : ℕ} {k : TokenKind} {s : Span} {ts : List Token} → d ≤ 200 → 200 ≤ d → PlainAt k → Fails d StatementS BeginsStatement (token k s ∷ ts) (failures.too_deep s.from)
plain_deep {ts} low deep p = statement_as (fails_yes (plain_is p.is) (fails_deep_head one_plain p.is low deep (node_all (inner_exact p.plain)) (forms.node (inner_here p.plain ts))))

-- ---- declarations, assignments and calls

declared_fails : {d : ℕ} {ts : List Token} {f : Failure} → next_is type_word ts ≡ true → Fails d DeclaredS DeclaredB ts f → Fails d StatementS BeginsStatement ts f
declared_fails {ts} so f = statement_as (fails_no (next_apart (turned plain_type) ts so) (fails_yes so f))

simple_fails : {d : ℕ} {ts : List Token} {f : Failure} → next_is assignment_word ts ≡ true → Fails d SimpleS SimpleB ts f → Fails d StatementS BeginsStatement ts f
simple_fails {ts} so f = statement_as (fails_no (next_apart (turned plain_assignment) ts so) (fails_no (next_apart (turned type_assignment) ts so) f))

pub either_other : (a c : Bool) → a || c ≡ true → a ≡ false → c ≡ true
either_other true c so none = absurd cc
either_other false c so none = so

statement_deep : {d : ℕ} {k : TokenKind} {s : Span} {ts : List Token} → d ≤ 200 → statement_word k ≡ true → 200 ≤ d → Fails d StatementS BeginsStatement (token k s ∷ ts) (failures.too_deep s.from)
statement_deep {d} {k} {s} {ts} low so deep = by_next plain_word (token k s ∷ ts) (λ is. plain_deep low deep (plain_at k is)) (λ none. others (either_other (plain_word k) (type_word k || assignment_word k) so none))
  where
    others : type_word k || assignment_word k ≡ true → Fails d StatementS BeginsStatement (token k s ∷ ts) (failures.too_deep s.from)
    others so = by_next type_word (token k s ∷ ts) (λ is. declared_fails is (fails_before_end declaration_exact (declaration_fails low (stuck.deep is deep)))) (λ none. let is = either_other (type_word k) (assignment_word k) so none in simple_fails is (simple_deep low is deep))

-- ---- where statements are stuck

else_exact : Exact nowhere ElseS ElseB
else_exact = optional_all else_is statement_exact

branches_exact : Exact nowhere BranchesS BranchesB
branches_exact = seq_all statement_exact else_exact

stepping_exact : Exact nowhere SteppingS SteppingB
stepping_exact = seq_all step_exact statement_exact

testing_exact : Exact nowhere TestingS TestingB
testing_exact = seq_all for_condition_exact stepping_exact

loop_exact : Exact nowhere LoopS LoopB
loop_exact = seq_all initial_exact testing_exact

brace_is : (k : TokenKind) → Is kinds.OpenBrace k → open_brace k ≡ true
brace_is = is_it open_brace refl

paren_is : (k : TokenKind) → Is kinds.OpenParen k → open_paren k ≡ true
paren_is = is_it open_paren refl

-- inside the head of a for, and behind it
loop_fails : {d : ℕ} {s p : Span} {ts : List Token} {f : Failure} → d < 200 → Fails (suc d) LoopS LoopB ts f → Fails d StatementS BeginsStatement (token (kinds.Keyword keywords.For) s ∷ token kinds.OpenParen p ∷ ts) f
loop_fails some f = plain_fails for some (fails_after it loop_exact f)

mutual
  pub statement_fails : {d : ℕ} {ts : List Token} {f : Failure} → d ≤ 200 → StuckStatement d ts f → Fails d StatementS BeginsStatement ts f
  statement_fails low stuck.statement_no_room = failing.no_memory
  statement_fails low (stuck.no_statement none) = fails_unstarted statement_exact statement_starts (statement_high _) low none
  statement_fails low (stuck.deep so deep) = statement_deep low so deep
  statement_fails low (stuck.block some f) = plain_fails block some (statements_fails (omega (arith, some)) f)
  statement_fails low (stuck.mark some w none) = plain_fails (mark w) some (fails_at_first brace_is (omega (arith, some)) none)
  statement_fails low (stuck.marked_block some w f) = plain_fails (mark w) some (fails_after it statements_exact (statements_fails (omega (arith, some)) f))
  statement_fails low (stuck.bundle_open some none) = plain_fails bundle some (fails_at_first brace_is (omega (arith, some)) none)
  statement_fails low (stuck.bundle some f) = plain_fails bundle some (fails_after it assignments_exact (assignments_fails (omega (arith, some)) f))
  statement_fails low (stuck.declaration so f) = declared_fails so (fails_before_end declaration_exact (declaration_fails low f))
  statement_fails low (stuck.declare_end d high none) = declared_fails (declaration_at d) (fails_at_end semicolon_is declaration_exact (declaration d) high none)
  statement_fails low (stuck.assignment so none f) = simple_fails so (other_fails low none f)
  statement_fails low (stuck.assign_end d high none) = simple_fails (assignment_at d) (assign_end_fails d high none)
  statement_fails {ts} low (stuck.named some so f) = simple_fails (name_assigns ts so) (named_fails some so f)
  statement_fails {ts} low (stuck.named_end so d high none other) = simple_fails (name_assigns ts so) (named_end_fails so d high none other)
  statement_fails {ts} low (stuck.named_value some so d high w f) = simple_fails (name_assigns ts so) (named_value_fails some so d high w f)
  statement_fails low (stuck.if_condition some f) = plain_fails if some (fails_first condition_exact branches_exact (condition_fails (omega (arith, some)) f))
  statement_fails low (stuck.if_consequent some c high f) = plain_fails if some (fails_second condition_exact branches_exact (in_parens c) high (fails_first statement_exact else_exact (statement_fails (omega (arith, some)) f)))
  statement_fails low (stuck.if_alternative some c high d high' f) = plain_fails if some (fails_second condition_exact branches_exact (in_parens c) high (fails_second statement_exact else_exact (stated d) high' (fails_present else_is it statement_exact (statement_fails (omega (arith, some)) f))))
  statement_fails low (stuck.while_condition some f) = plain_fails while some (fails_first condition_exact statement_exact (condition_fails (omega (arith, some)) f))
  statement_fails low (stuck.while_body some c high f) = plain_fails while some (fails_second condition_exact statement_exact (in_parens c) high (statement_fails (omega (arith, some)) f))
  statement_fails low (stuck.for_open some none) = plain_fails for some (fails_at_first paren_is (omega (arith, some)) none)
  statement_fails low (stuck.for_initial some f) = loop_fails some (fails_first initial_exact testing_exact (initial_fails (omega (arith, some)) f))
  statement_fails low (stuck.for_condition some d high f) = loop_fails some (fails_second initial_exact testing_exact (initial d) high (fails_first for_condition_exact stepping_exact (for_condition_fails (omega (arith, some)) f)))
  statement_fails low (stuck.for_step some d high t high' f) = loop_fails some (fails_second initial_exact testing_exact (initial d) high (fails_second for_condition_exact stepping_exact (tested t) high' (fails_first step_exact statement_exact (step_fails (omega (arith, some)) f))))
  statement_fails low (stuck.for_body some d high t high' a high'' f) = loop_fails some (fails_second initial_exact testing_exact (initial d) high (fails_second for_condition_exact stepping_exact (tested t) high' (fails_second step_exact statement_exact (stepped a) high'' (statement_fails (omega (arith, some)) f))))
  statement_fails low (stuck.return some f) = plain_fails return some (for_condition_fails (omega (arith, some)) f)
  statement_fails low (stuck.break some none) = plain_fails break some (fails_at_first semicolon_is (omega (arith, some)) none)
  statement_fails low (stuck.continue some none) = plain_fails continue some (fails_at_first semicolon_is (omega (arith, some)) none)

  pub statements_fails : {d : ℕ} {ts : List Token} {f : Failure} → d ≤ 200 → StuckStatements d ts f → Fails d StatementsS BeginsStatements ts f
  statements_fails low stuck.statements_no_room = failing.no_memory
  statements_fails low (stuck.first none f) = list_as (fails_no none (fails_first statement_exact statements_exact (statement_fails low f)))
  statements_fails low (stuck.others d high f) = list_as (fails_no (no_brace d) (fails_second statement_exact statements_exact (stated d) high (statements_fails low f)))
