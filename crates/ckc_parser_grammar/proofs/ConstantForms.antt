-- Lists of constants as forms that are built of others: reading them goes one way, and where they are stuck they fail.
use Rattle.std.proofs.Common.{◌≡◌, ◌≤◌, ℕ, zero, suc, true, false, List, ◌∷◌, refl, subst, ap, Some}
use Rattle.std.specs.Option.{is_some}
use Rattle.ckc_text.specs.declared.place.Span.{Span}
use Rattle.ckc_lexer.specs.declared.token.Token.{Token}
use Rattle.ckc_lexer.specs.declared.token.TokenKind.{TokenKind}
use Rattle.ckc_lexer.specs.declared.token.TokenKind.TheVariants as kinds
use Rattle.ckc_tree.specs.declared.stmt.Constant.{Constant}
use Rattle.ckc_tree.specs.declared.stmt.SignedConstant.{SignedConstant}
use Rattle.ckc_tree.specs.Heights.{Reach, nowhere}
use Rattle.ckc_parser_grammar.specs.Tokens.{token, next_is, constant_of}
use Rattle.ckc_parser_grammar.specs.StatementGrammar as g
use Rattle.ckc_parser_grammar.specs.StatementGrammar.{SpellsSigned, SpellsConstants}
use Rattle.ckc_parser_grammar.specs.StatementBeginnings as b
use Rattle.ckc_parser_grammar.specs.StatementBeginnings.{BeginsSigned, BeginsConstants}
use Rattle.ckc_parser_grammar.specs.Failures.{Failure}
use Rattle.ckc_parser_grammar.specs.StuckStatements as stuck
use Rattle.ckc_parser_grammar.specs.StuckStatements.{constant_token, minus_or_constant, comma_or_brace, StuckSigned, StuckConstants}
use Rattle.ckc_parser_grammar.proofs.Forms.{ExactBelow, Exact, exact_on_all, none_below, below, after_all, same_all, done_all, AfterS, AfterB, not_yet, after, DoneS, done, HeadS, HeadB, none_yet, headed, head_exact, OneHead, same_exact}
use Rattle.ckc_parser_grammar.proofs.Ahead.{never}
use Rattle.ckc_parser_grammar.proofs.Failing as failing
use Rattle.ckc_parser_grammar.proofs.Failing.{Fails, fails_at_first, fails_as, fails_headed, fails_unheaded}
use Rattle.ckc_parser_grammar.proofs.MoreForms.{head_all, LeadS, LeadB, lead, in_lead, behind_lead, lead_exact, fails_in_lead, fails_behind_lead}
use Rattle.ckc_parser_grammar.proofs.OneMeaning.{says_nothing, each_constant}

-- ---- one constant with its sign

pub data SignedS : List Token → List Token → Reach → Type 0 where
  signed : {x : SignedConstant} {ts m : List Token} → SpellsSigned ts x m → SignedS ts m nowhere

pub data SignedB : List Token → List Token → Reach → Type 0 where
  signed : {ts rest : List Token} → BeginsSigned ts rest → SignedB ts rest nowhere

data Sign : Type 0 where
  unsigned : Sign
  negated : Sign

data IsConstant : TokenKind → Type 0 where
  constant : {k : TokenKind} {c : Constant} → constant_of k ≡ Some c → IsConstant k

data IsSign : TokenKind → Sign → Type 0 where
  constant : {k : TokenKind} {c : Constant} → constant_of k ≡ Some c → IsSign k unsigned
  minus : IsSign kinds.Minus negated

one_sign : OneHead IsSign
one_sign k h i (constant c) (constant c') = refl
one_sign k h i (constant c) minus = says_nothing c
one_sign k h i minus (constant c) = says_nothing c
one_sign k h i minus minus = refl

abbrev SignBehindS : Sign → ℕ → List Token → List Token → Reach → Type 0
SignBehindS unsigned start = DoneS
SignBehindS negated start = AfterS IsConstant DoneS

abbrev SignBehindB : Sign → ℕ → List Token → List Token → Reach → Type 0
SignBehindB unsigned start = DoneS
SignBehindB negated start = AfterB IsConstant DoneS

sign_behind_exact : (h : Sign) (start : ℕ) → Exact nowhere (SignBehindS h start) (SignBehindB h start)
sign_behind_exact unsigned start = done_all
sign_behind_exact negated start = after_all done_all

signed_to : (ts m : List Token) (r : Reach) → SignedS ts m r → HeadS IsSign SignBehindS ts m r
signed_to ts m r (signed (g.plain c)) = headed (constant c) done
signed_to ts m r (signed (g.minus c)) = headed minus (after (constant c) done)

signed_begin : (ts m : List Token) (r : Reach) → SignedS ts m r → SignedB ts m r
signed_begin ts m r (signed d) = signed (b.signed d)

signed_into : (ts rest : List Token) (q : Reach) → SignedB ts rest q → HeadB IsSign SignBehindB ts rest q
signed_into ts rest q (signed b.nothing) = none_yet
signed_into ts rest q (signed b.minus) = headed minus not_yet
signed_into ts rest q (signed (b.signed (g.plain c))) = headed (constant c) done
signed_into ts rest q (signed (b.signed (g.minus c))) = headed minus (after (constant c) done)

signed_from : (ts rest : List Token) (q : Reach) → HeadB IsSign SignBehindB ts rest q → SignedB ts rest q
signed_from ts rest q none_yet = signed b.nothing
signed_from ts rest q (headed (constant c) done) = signed (b.signed (g.plain c))
signed_from ts rest q (headed minus not_yet) = signed b.minus
signed_from ts rest q (headed minus (after (constant c) done)) = signed (b.signed (g.minus c))

pub signed_exact : Exact nowhere SignedS SignedB
signed_exact = same_all (head_all {base = λ h start. nowhere} one_sign sign_behind_exact) signed_to signed_begin signed_into

constant_is : (k : TokenKind) → IsConstant k → constant_token k ≡ true
constant_is k (constant c) = ap is_some c

sign_is : {k : TokenKind} {h : Sign} → IsSign k h → minus_or_constant k ≡ true
sign_is (constant {k} c) = each_constant (λ k. minus_or_constant k ≡ true) k c (λ n. refl) (λ n. refl)
sign_is minus = refl

no_sign : (ts : List Token) → next_is minus_or_constant ts ≡ false → (k : TokenKind) (s : Span) (us : List Token) (h : Sign) → ts ≡ token k s ∷ us → IsSign k h → ⊥
no_sign ts none k s us h is i = never (sign_is i) (subst (λ (x : List Token). next_is minus_or_constant x ≡ false) is none)

pub signed_fails : {d : ℕ} {ts : List Token} {f : Failure} → d ≤ 200 → StuckSigned ts f → Fails d SignedS SignedB ts f
signed_fails low (stuck.no_constant none) = fails_as signed_to signed_into signed_from (fails_unheaded low (no_sign _ none))
signed_fails low (stuck.behind_minus {s} none) = fails_as signed_to signed_into signed_from (fails_headed one_sign minus (sign_behind_exact negated s.from) (fails_at_first constant_is low none))

-- ---- constants, and the brace behind them

pub data ConstantsS : List Token → List Token → Reach → Type 0 where
  listed : {x : List SignedConstant} {t : Span} {ts m : List Token} → SpellsConstants ts x t m → ConstantsS ts m nowhere

pub data ConstantsB : List Token → List Token → Reach → Type 0 where
  listed : {ts rest : List Token} → BeginsConstants ts rest → ConstantsB ts rest nowhere

-- what stands behind an element of a list
data Behind : Type 0 where
  last : Behind
  others : Behind

data IsBehind : TokenKind → Behind → Type 0 where
  close : IsBehind kinds.CloseBrace last
  comma : IsBehind kinds.Comma others

one_behind : OneHead IsBehind
one_behind k h i close close = refl
one_behind k h i comma comma = refl

abbrev ListS : Behind → ℕ → List Token → List Token → Reach → Type 0
ListS last start = DoneS
ListS others start = ConstantsS

abbrev ListB : Behind → ℕ → List Token → List Token → Reach → Type 0
ListB last start = DoneS
ListB others start = ConstantsB

constants_to : (ts m : List Token) (r : Reach) → ConstantsS ts m r → LeadS SignedS (HeadS IsBehind ListS) ts m r
constants_to ts m r (listed (g.one d)) = lead (signed d) (headed close done)
constants_to ts m r (listed (g.more d l)) = lead (signed d) (headed comma (listed l))

pub spelled_begin : {x : List SignedConstant} {t : Span} {ts m : List Token} → SpellsConstants ts x t m → BeginsConstants ts m
spelled_begin (g.one d) = b.last d
spelled_begin (g.more d l) = b.others d (spelled_begin l)

constants_begin : (ts m : List Token) (r : Reach) → ConstantsS ts m r → ConstantsB ts m r
constants_begin ts m r (listed d) = listed (spelled_begin d)

constants_into : (ts rest : List Token) (q : Reach) → ConstantsB ts rest q → LeadB SignedS SignedB (HeadB IsBehind ListB) ts rest q
constants_into ts rest q (listed (b.first c)) = in_lead (signed c)
constants_into ts rest q (listed (b.last d)) = behind_lead (signed d) (headed close done)
constants_into ts rest q (listed (b.others d c)) = behind_lead (signed d) (headed comma (listed c))

constants_from : (ts rest : List Token) (q : Reach) → LeadB SignedS SignedB (HeadB IsBehind ListB) ts rest q → ConstantsB ts rest q
constants_from ts rest q (in_lead (signed c)) = listed (b.first c)
constants_from ts rest q (behind_lead (signed d) none_yet) = listed (b.first (b.signed d))
constants_from ts rest q (behind_lead (signed d) (headed close done)) = listed (b.last d)
constants_from ts rest q (behind_lead (signed d) (headed comma (listed c))) = listed (b.others d c)

list_below : {n : ℕ} → ExactBelow n nowhere ConstantsS ConstantsB → (h : Behind) (start : ℕ) → ExactBelow n nowhere (ListS h start) (ListB h start)
list_below e last start = below done_all
list_below e others start = e

constants_below : (n : ℕ) → ExactBelow n nowhere ConstantsS ConstantsB
constants_below zero = none_below
constants_below (suc n) = same_exact (lead_exact (below signed_exact) (head_exact {base = λ h start. nowhere} one_behind (list_below (constants_below n)))) constants_to constants_begin constants_into

pub constants_exact : Exact nowhere ConstantsS ConstantsB
constants_exact = exact_on_all constants_below

list_exact : (h : Behind) (start : ℕ) → Exact nowhere (ListS h start) (ListB h start)
list_exact last start = done_all
list_exact others start = constants_exact

behind_exact : Exact nowhere (HeadS IsBehind ListS) (HeadB IsBehind ListB)
behind_exact = head_all {base = λ h start. nowhere} one_behind list_exact

behind_is : {k : TokenKind} {h : Behind} → IsBehind k h → comma_or_brace k ≡ true
behind_is close = refl
behind_is comma = refl

no_behind : (ts : List Token) → next_is comma_or_brace ts ≡ false → (k : TokenKind) (s : Span) (us : List Token) (h : Behind) → ts ≡ token k s ∷ us → IsBehind k h → ⊥
no_behind ts none k s us h is i = never (behind_is i) (subst (λ (x : List Token). next_is comma_or_brace x ≡ false) is none)

pub constants_fails : {d : ℕ} {ts : List Token} {f : Failure} → d ≤ 200 → StuckConstants ts f → Fails d ConstantsS ConstantsB ts f
constants_fails low stuck.no_room = failing.no_memory
constants_fails low (stuck.first f) = fails_as constants_to constants_into constants_from (fails_in_lead signed_exact behind_exact (signed_fails low f))
constants_fails low (stuck.end d none) = fails_as constants_to constants_into constants_from (fails_behind_lead signed_exact behind_exact (signed d) (fails_unheaded low (no_behind _ none)))
constants_fails low (stuck.others {s} d f) = fails_as constants_to constants_into constants_from (fails_behind_lead signed_exact behind_exact (signed d) (fails_headed one_behind comma (list_exact others s.from) (constants_fails low f)))
