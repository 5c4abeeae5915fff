-- Members, parameters and bodies as forms that are built of others: reading them goes one way, and where they are stuck
-- they fail.
use Rattle.std.proofs.Common.{◌≡◌, ◌≤◌, ◌<◌, ℕ, zero, suc, length, Bool, true, false, List, [], ◌∷◌, Option, refl, sym, subst, arith, ap, Some, true≢false}
use Rattle.std.specs.Option.{is_some}
use Rattle.ckc_text.specs.declared.place.Span.{Span}
use Rattle.ckc_lexer.specs.declared.token.Token.{Token}
use Rattle.ckc_lexer.specs.declared.token.TokenKind.{TokenKind}
use Rattle.ckc_lexer.specs.declared.keyword.Keyword.TheVariants as keywords
use Rattle.ckc_lexer.specs.declared.token.TokenKind.TheVariants as kinds
use Rattle.ckc_tree.specs.declared.identifier.Identifier.{Identifier}
use Rattle.ckc_tree.specs.declared.stmt.Mark.{Mark}
use Rattle.ckc_tree.specs.Types.{TypeName}
use Rattle.ckc_tree.specs.Expressions.{Bounds}
use Rattle.ckc_tree.specs.Items.{Member, Parameters, Body}
use Rattle.ckc_tree.specs.Heights.{Reach, nowhere, node, around, ◌beside◌, type_reach, optional_bounds_reach, members_reach, parameters_reach, optional_body_reach}
use Rattle.ckc_parser_grammar.specs.Tokens.{token, next_is, start_of, mark_of, mark_word}
use Rattle.ckc_parser_grammar.specs.TypeGrammar as tg
use Rattle.ckc_parser_grammar.specs.TypeBeginnings as tb
use Rattle.ckc_parser_grammar.specs.TypeBeginnings.{begun}
use Rattle.ckc_parser_grammar.specs.ItemGrammar as g
use Rattle.ckc_parser_grammar.specs.ItemGrammar.{SpellsMember, SpellsMembers, SpellsListed, SpellsParameters, SpellsBody}
use Rattle.ckc_parser_grammar.specs.StatementBeginnings as sb
use Rattle.ckc_parser_grammar.specs.StatementBeginnings.{BeginsOptionalBounds, BeginsStatements}
use Rattle.ckc_parser_grammar.specs.ItemBeginnings as b
use Rattle.ckc_parser_grammar.specs.ItemBeginnings.{BeginsMember, BeginsMembers, BeginsListed, BeginsParameters, BeginsBody}
use Rattle.ckc_parser_grammar.specs.Failures.{Failure, IsLow}
use Rattle.ckc_parser_grammar.specs.StuckTypes.{type_word}
use Rattle.ckc_parser_grammar.specs.StuckExpressions.{close_paren, comma_or_paren}
use Rattle.ckc_parser_grammar.specs.StuckStatements.{semicolon, open_brace, close_brace}
use Rattle.ckc_parser_grammar.specs.StuckItems as stuck
use Rattle.ckc_parser_grammar.specs.StuckItems.{void_word, body_word, IsLowMember, StuckMember, StuckMembers, StuckListed, StuckParameters, StuckBody}
use Rattle.ckc_parser_grammar.proofs.Forms.{end_length, Is, it, IsName, name, ExactBelow, Exact, exact_on_all, none_below, within, below, seq_exact, seq_all, ended_all, after_all, after_exact, done_exact, done_all, either_exact, either_all, same_all, same_exact, head_exact, SeqS, SeqB, seq, in_first, in_second, EndedS, EndedB, before_end, end, AfterS, AfterB, not_yet, after, EitherS, yes, no, DoneS, done, HeadS, HeadB, none_yet, headed, OneHead}
use Rattle.ckc_parser_grammar.proofs.Ahead.{never}
use Rattle.ckc_parser_grammar.proofs.Failing as failing
use Rattle.ckc_parser_grammar.proofs.Failing.{Fails, fails_first, fails_second, fails_before_end, fails_at_end, fails_after, fails_at_first, fails_as, fails_headed, fails_unheaded, fails_yes, fails_no}
use Rattle.ckc_parser_grammar.proofs.Paths.{beside_nowhere, low_beside}
use Rattle.ckc_parser_grammar.proofs.TypeForms.{TypeNameS, named, type_name_exact, type_name_fails}
use Rattle.ckc_parser_grammar.proofs.MoreForms.{is_it, head_all, Starts, Apart, next_apart, by_next, nothing_read, or_right, list_exact, WithS, so_far, in_whole, PutS, put, put_all, fails_put, begun_node, begun_nothing, beside_high, reach_is}
use Rattle.ckc_parser_grammar.proofs.Starting.{type_high, type_starts, type_at}
use Rattle.ckc_parser_grammar.proofs.DeclarationForms.{name_is, OptionalBoundsS, bounded, optional_bounds_exact, optional_bounds_fails}
use Rattle.ckc_parser_grammar.proofs.HeadForms.{turned}
use Rattle.ckc_parser_grammar.proofs.StatementForms.{StatementsS, listed, statements_exact}
use Rattle.ckc_parser_grammar.proofs.StatementFailing.{statements_fails}
use Rattle.ckc_parser_grammar.proofs.OneMeaning.{each_mark}

-- ---- what members and parameters have in common

pub data MemberS : List Token → List Token → Reach → Type 0 where
  member : {t : TypeName} {n : Identifier} {w : Option Bounds} {o : Span} {ts m : List Token} → SpellsMember ts t n w o m → MemberS ts m (type_reach t.base beside optional_bounds_reach w)

abbrev NamedS : List Token → List Token → Reach → Type 0
NamedS = EndedS IsName TypeNameS

abbrev NamedB : List Token → List Token → Reach → Type 0
NamedB = EndedB IsName TypeNameS tb.BeginsTypeName

named_exact : Exact nowhere NamedS NamedB
named_exact = ended_all type_name_exact

member_to : (ts m : List Token) (r : Reach) → MemberS ts m r → SeqS NamedS OptionalBoundsS ts m r
member_to ts m r (member (g.member d w)) = seq (end (named d) name) (bounded w)

member_begin : (ts m : List Token) (r : Reach) → MemberS ts m r → BeginsMember ts m r
member_begin ts m r (member (g.member d w)) = b.bounds d (optional_bounds_exact.spelled (bounded w))

member_into : (ts rest : List Token) (q : Reach) → BeginsMember ts rest q → SeqB NamedS NamedB BeginsOptionalBounds ts rest q
member_into ts rest q (b.type c) = in_first (before_end c)
member_into ts rest q (b.bounds d c) = in_second (end (named d) name) c

member_from : (ts rest : List Token) (q : Reach) → SeqB NamedS NamedB BeginsOptionalBounds ts rest q → BeginsMember ts rest q
member_from ts rest q (in_first (before_end c)) = b.type c
member_from ts rest q (in_first (end (named {t} d) name)) = reach_is BeginsMember (beside_nowhere (type_reach t.base)) (b.bounds d (sb.nothing {ts = rest}))
member_from ts rest q (in_second (end (named d) name) c) = b.bounds d c

pub member_exact : Exact nowhere MemberS BeginsMember
member_exact = same_all (seq_all named_exact optional_bounds_exact) member_to member_begin member_into

pub zero_low : 0 ≤ 200
zero_low = omega arith

pub member_fails : {ts : List Token} {f : Failure} → StuckMember ts f → Fails 0 MemberS BeginsMember ts f
member_fails stuck.no_room = failing.no_memory
member_fails (stuck.typed f) = fails_as member_to member_into member_from (fails_first named_exact optional_bounds_exact (fails_before_end type_name_exact (type_name_fails zero_low f)))
member_fails (stuck.name d high none) = fails_as member_to member_into member_from (fails_first named_exact optional_bounds_exact (fails_at_end name_is type_name_exact (named d) high none))
member_fails (stuck.bounds d high f) = fails_as member_to member_into member_from (fails_second named_exact optional_bounds_exact (end (named d) name) high (optional_bounds_fails zero_low f))

member_at : {t : TypeName} {n : Identifier} {w : Option Bounds} {o : Span} {ts m : List Token} → SpellsMember ts t n w o m → next_is type_word ts ≡ true
member_at (g.member (tg.type_name d st) w) = type_at d

member_none : {ts rest : List Token} {q : Reach} → BeginsMember ts rest q → next_is type_word ts ≡ false → rest ≡ ts
member_none (b.type (tb.base c)) so = type_starts.none c so
member_none (b.type (tb.stars d c)) so = never (type_at d) so
member_none (b.bounds (tg.type_name d st) c) so = never (type_at d) so

pub no_member : (ts : List Token) → BeginsMember ts ts nowhere
no_member ts = b.type (tb.base tb.nothing)

pub low_member : (t : TypeName) (w : Option Bounds) → IsLowMember t w → IsLow 0 (type_reach t.base beside optional_bounds_reach w)
low_member t w low = low_beside 0 (type_reach t.base) (optional_bounds_reach w) low.0 low.1

-- ---- members, and the brace behind them

pub data MembersS : List Token → List Token → Reach → Type 0 where
  members : {x : List Member} {ts m : List Token} → SpellsMembers ts x m → MembersS ts m (members_reach x)

abbrev ClosedS : List Token → List Token → Reach → Type 0
ClosedS = EndedS (Is kinds.Semicolon) MemberS

abbrev ClosedB : List Token → List Token → Reach → Type 0
ClosedB = EndedB (Is kinds.Semicolon) MemberS BeginsMember

abbrev OthersS : List Token → List Token → Reach → Type 0
OthersS = EitherS (next_is close_brace) (AfterS (Is kinds.CloseBrace) DoneS) MembersS

abbrev OthersB : List Token → List Token → Reach → Type 0
OthersB = EitherS (next_is close_brace) (AfterB (Is kinds.CloseBrace) DoneS) BeginsMembers

brace_type : Apart close_brace type_word
brace_type kinds.CloseBrace so = refl
brace_type _ so = absurd (true≢false (sym so))

members_at : {x : List Member} {ts m : List Token} → SpellsMembers ts x m → next_is type_word ts ≡ true
members_at (g.one d) = member_at d
members_at (g.more d l) = member_at d

members_nothing : {ts rest : List Token} {q : Reach} → BeginsMembers ts rest q → next_is type_word ts ≡ false → (rest ≡ ts) × (q ≡ nowhere)
members_nothing (b.first c) so = let same = member_none c so in (same, member_exact.nothing c same)
members_nothing (b.others d c) so = never (member_at d) so
members_nothing (b.last d) so = never (member_at d) so

closed_exact : Exact nowhere ClosedS ClosedB
closed_exact = ended_all member_exact

members_to : (ts m : List Token) (r : Reach) → MembersS ts m r → SeqS ClosedS OthersS ts m r
members_to ts m r (members (g.one d)) = seq (end (member d) it) (yes refl (after it done))
members_to ts m r (members (g.more {us} d l)) = seq (end (member d) it) (no (next_apart (turned brace_type) us (members_at l)) (members l))

members_spelled : {x : List Member} {ts m : List Token} → SpellsMembers ts x m → BeginsMembers ts m (members_reach x)
members_spelled (g.one {written = w} {type = t} d) = reach_is BeginsMembers (sym (beside_nowhere (type_reach t.base beside optional_bounds_reach w))) (b.last d)
members_spelled (g.more d l) = b.others d (members_spelled l)

members_begin : (ts m : List Token) (r : Reach) → MembersS ts m r → BeginsMembers ts m r
members_begin ts m r (members d) = members_spelled d

others_into : {ts rest : List Token} {q : Reach} → BeginsMembers ts rest q → OthersB ts rest q
others_into {ts} c = by_next close_brace ts (λ so. let none = members_nothing c (next_apart brace_type ts so) in yes so (nothing_read (AfterB (Is kinds.CloseBrace) DoneS) none.0 none.1 not_yet)) (λ so. no so c)

members_into : (ts rest : List Token) (q : Reach) → BeginsMembers ts rest q → SeqB ClosedS ClosedB OthersB ts rest q
members_into ts rest q (b.first c) = in_first (before_end c)
members_into ts rest q (b.others d c) = in_second (end (member d) it) (others_into c)
members_into ts rest q (b.last {written = w} {type = t} d) = reach_is (SeqB ClosedS ClosedB OthersB) (beside_nowhere (type_reach t.base beside optional_bounds_reach w)) (in_second (end (member d) it) (yes refl (after it done)))

pub no_members : (ts : List Token) → BeginsMembers ts ts nowhere
no_members ts = b.first (no_member ts)

members_from : (ts rest : List Token) (q : Reach) → SeqB ClosedS ClosedB OthersB ts rest q → BeginsMembers ts rest q
members_from ts rest q (in_first (before_end c)) = b.first c
members_from ts rest q (in_first (end (member {t} {w} d) it)) = reach_is BeginsMembers (beside_nowhere (type_reach t.base beside optional_bounds_reach w)) (b.others d (no_members rest))
members_from ts rest q (in_second (end (member d) it) (yes so not_yet)) = b.others d (no_members rest)
members_from ts rest q (in_second (end (member {t} {w} d) it) (yes so (after it done))) = reach_is BeginsMembers (sym (beside_nowhere (type_reach t.base beside optional_bounds_reach w))) (b.last d)
members_from ts rest q (in_second (end (member d) it) (no so c)) = b.others d c

member_high : (ts m : List Token) (r : Reach) → MemberS ts m r → 0 < r.height
member_high ts m r (member {t} {w} d) = beside_high (type_reach t.base) (optional_bounds_reach w) (type_high t.base)

closed_high : (ts m : List Token) (r : Reach) → ClosedS ts m r → 0 < r.height
closed_high ts m r (end a t) = member_high _ _ _ a

members_below : (n : ℕ) → ExactBelow n nowhere MembersS BeginsMembers
members_below zero = none_below
members_below (suc n) = same_exact (list_exact closed_high (below closed_exact) (either_exact (within (after_exact done_exact)) (members_below n))) members_to members_begin members_into

pub members_exact : Exact nowhere MembersS BeginsMembers
members_exact = exact_on_all members_below

others_exact : Exact nowhere OthersS OthersB
others_exact = either_all (after_all done_all) members_exact

pub members_fails : {ts : List Token} {f : Failure} → StuckMembers ts f → Fails 0 MembersS BeginsMembers ts f
members_fails stuck.no_room = failing.no_memory
members_fails (stuck.first f) = fails_as members_to members_into members_from (fails_first closed_exact others_exact (fails_before_end member_exact (member_fails f)))
members_fails (stuck.end {written = w} {type = t} d low none) = fails_as members_to members_into members_from (fails_first closed_exact others_exact (fails_at_end (is_it semicolon refl) member_exact (member d) (low_member t w low) none))
members_fails (stuck.others {written = w} {type = t} d low none f) = fails_as members_to members_into members_from (fails_second closed_exact others_exact (end (member d) it) (low_member t w low) (fails_no none (members_fails f)))

-- ---- parameters, and the parenthesis behind them

pub data ListedS : List Token → List Token → Reach → Type 0 where
  parameters : {x : List Member} {t : Span} {ts m : List Token} → SpellsListed ts x t m → ListedS ts m (members_reach x)

abbrev pub ListedB : List Token → List Token → Reach → Type 0
ListedB = WithS ListedS BeginsListed

data Behind : Type 0 where
  last : Behind
  others : Behind

data IsBehind : TokenKind → Behind → Type 0 where
  close : IsBehind kinds.CloseParen last
  comma : IsBehind kinds.Comma others

one_behind : OneHead IsBehind
one_behind k h i close close = refl
one_behind k h i comma comma = refl

abbrev NextS : Behind → ℕ → List Token → List Token → Reach → Type 0
NextS last start = DoneS
NextS others start = ListedS

abbrev NextB : Behind → ℕ → List Token → List Token → Reach → Type 0
NextB last start = DoneS
NextB others start = ListedB

abbrev RowS : List Token → List Token → Reach → Type 0
RowS = SeqS MemberS (HeadS IsBehind NextS)

abbrev RowB : List Token → List Token → Reach → Type 0
RowB = SeqB MemberS BeginsMember (HeadB IsBehind NextB)

listed_to : (ts m : List Token) (r : Reach) → ListedS ts m r → RowS ts m r
listed_to ts m r (parameters (g.one d)) = seq (member d) (headed close done)
listed_to ts m r (parameters (g.more d l)) = seq (member d) (headed comma (parameters l))

listed_into : (ts rest : List Token) (q : Reach) → ListedB ts rest q → RowB ts rest q
listed_into ts rest q (so_far (b.first c)) = in_first c
listed_into ts rest q (so_far (b.others d c)) = in_second (member d) (headed comma (so_far c))
listed_into ts rest q (in_whole (parameters (g.one d))) = in_second (member d) (headed close done)
listed_into ts rest q (in_whole (parameters (g.more d l))) = in_second (member d) (headed comma (in_whole (parameters l)))

listed_from : (ts rest : List Token) (q : Reach) → RowB ts rest q → ListedB ts rest q
listed_from ts rest q (in_first c) = so_far (b.first c)
listed_from ts rest q (in_second (member {t} {w} d) none_yet) = so_far (reach_is BeginsListed (sym (beside_nowhere (type_reach t.base beside optional_bounds_reach w))) (b.first (member_exact.spelled (member d))))
listed_from ts rest q (in_second (member d) (headed close done)) = in_whole (parameters (g.one d))
listed_from ts rest q (in_second (member d) (headed comma (so_far c))) = so_far (b.others d c)
listed_from ts rest q (in_second (member d) (headed comma (in_whole (parameters l)))) = in_whole (parameters (g.more d l))

next_below : {n : ℕ} → ExactBelow n nowhere ListedS ListedB → (h : Behind) (start : ℕ) → ExactBelow n nowhere (NextS h start) (NextB h start)
next_below e last start = done_exact
next_below e others start = e

listed_below : (n : ℕ) → ExactBelow n nowhere ListedS ListedB
listed_below zero = none_below
listed_below (suc n) = same_exact (seq_exact (below member_exact) (head_exact {base = λ h start. nowhere} one_behind (next_below (listed_below n)))) listed_to (λ ts m r a. in_whole a) listed_into

pub listed_exact : Exact nowhere ListedS ListedB
listed_exact = exact_on_all listed_below

next_each : (h : Behind) (start : ℕ) → Exact nowhere (NextS h start) (NextB h start)
next_each last start = done_all
next_each others start = listed_exact

next_exact : Exact nowhere (HeadS IsBehind NextS) (HeadB IsBehind NextB)
next_exact = head_all {base = λ h start. nowhere} one_behind next_each

behind_is : {k : TokenKind} {h : Behind} → IsBehind k h → comma_or_paren k ≡ true
behind_is close = refl
behind_is comma = refl

no_behind : (ts : List Token) → next_is comma_or_paren ts ≡ false → (k : TokenKind) (s : Span) (us : List Token) (h : Behind) → ts ≡ token k s ∷ us → IsBehind k h → ⊥
no_behind ts none k s us h is i = never (behind_is i) (subst (λ (x : List Token). next_is comma_or_paren x ≡ false) is none)

pub listed_fails : {ts : List Token} {f : Failure} → StuckListed ts f → Fails 0 ListedS ListedB ts f
listed_fails stuck.no_room = failing.no_memory
listed_fails (stuck.first f) = fails_as listed_to listed_into listed_from (fails_first member_exact next_exact (member_fails f))
listed_fails (stuck.end {written = w} {type = t} d low none) = fails_as listed_to listed_into listed_from (fails_second member_exact next_exact (member d) (low_member t w low) (fails_unheaded zero_low (no_behind _ none)))
listed_fails (stuck.others {p} {written = w} {type = t} d low f) = fails_as listed_to listed_into listed_from (fails_second member_exact next_exact (member d) (low_member t w low) (fails_headed one_behind comma (next_each others p.from) (listed_fails f)))

pub data ParametersS : List Token → List Token → Reach → Type 0 where
  taken : {x : Parameters} {t : Span} {ts m : List Token} → SpellsParameters ts x t m → ParametersS ts m (parameters_reach x)

abbrev pub ParametersB : List Token → List Token → Reach → Type 0
ParametersB = WithS ParametersS BeginsParameters

abbrev VoidS : List Token → List Token → Reach → Type 0
VoidS = AfterS (Is (kinds.Keyword keywords.Void)) (AfterS (Is kinds.CloseParen) DoneS)

abbrev VoidB : List Token → List Token → Reach → Type 0
VoidB = AfterB (Is (kinds.Keyword keywords.Void)) (AfterB (Is kinds.CloseParen) DoneS)

abbrev SomeS : List Token → List Token → Reach → Type 0
SomeS = EitherS (next_is void_word) VoidS ListedS

abbrev SomeB : List Token → List Token → Reach → Type 0
SomeB = EitherS (next_is void_word) VoidB ListedB

abbrev TakenS : List Token → List Token → Reach → Type 0
TakenS = EitherS (next_is close_paren) (AfterS (Is kinds.CloseParen) DoneS) SomeS

abbrev TakenB : List Token → List Token → Reach → Type 0
TakenB = EitherS (next_is close_paren) (AfterB (Is kinds.CloseParen) DoneS) SomeB

paren_type : Apart close_paren type_word
paren_type kinds.CloseParen so = refl
paren_type _ so = absurd (true≢false (sym so))

pub void_type : Apart void_word type_word
void_type (kinds.Keyword keywords.Void) so = refl
void_type _ so = absurd (true≢false (sym so))

listed_at : {x : List Member} {t : Span} {ts m : List Token} → SpellsListed ts x t m → next_is type_word ts ≡ true
listed_at (g.one d) = member_at d
listed_at (g.more d l) = member_at d

listed_starts : Starts type_word ListedB
listed_starts = record { none = none; here = λ ts. so_far (b.first (no_member ts)) }
  where
    none : {ts rest : List Token} {q : Reach} → ListedB ts rest q → next_is type_word ts ≡ false → rest ≡ ts
    none (so_far (b.first c)) so = member_none c so
    none (so_far (b.others d c)) so = never (member_at d) so
    none (in_whole (parameters d)) so = never (listed_at d) so

some_exact : Exact nowhere SomeS SomeB
some_exact = either_all (after_all (after_all done_all)) listed_exact

taken_exact : Exact nowhere TakenS TakenB
taken_exact = either_all (after_all done_all) some_exact

parameters_to : (ts m : List Token) (r : Reach) → ParametersS ts m r → TakenS ts m r
parameters_to ts m r (taken g.nothing) = yes refl (after it done)
parameters_to ts m r (taken g.void) = no refl (yes refl (after it (after it done)))
parameters_to ts m r (taken (g.listed d)) = no (next_apart (turned paren_type) ts (listed_at d)) (no (next_apart (turned void_type) ts (listed_at d)) (parameters d))

parameters_into : (ts rest : List Token) (q : Reach) → ParametersB ts rest q → TakenB ts rest q
parameters_into ts rest q (so_far b.void) = no refl (yes refl (after it not_yet))
parameters_into ts rest q (so_far (b.listed c)) = or_right listed_exact paren_type listed_starts (λ us. not_yet) (or_right listed_exact void_type listed_starts (λ us. not_yet) (λ us vs p e. e)) ts rest q (so_far c)
parameters_into ts rest q (in_whole a) = taken_exact.spelled (parameters_to ts rest q a)

parameters_from : (ts rest : List Token) (q : Reach) → TakenB ts rest q → ParametersB ts rest q
parameters_from ts rest q (yes so not_yet) = so_far (b.listed (b.first (no_member ts)))
parameters_from ts rest q (yes so (after it done)) = in_whole (taken g.nothing)
parameters_from ts rest q (no so (yes is not_yet)) = so_far (b.listed (b.first (no_member ts)))
parameters_from ts rest q (no so (yes is (after it not_yet))) = so_far b.void
parameters_from ts rest q (no so (yes is (after it (after it done)))) = in_whole (taken g.void)
parameters_from ts rest q (no so (no is (so_far c))) = so_far (b.listed c)
parameters_from ts rest q (no so (no is (in_whole (parameters d)))) = in_whole (taken (g.listed d))

pub parameters_exact : Exact nowhere ParametersS ParametersB
parameters_exact = same_all taken_exact parameters_to (λ ts m r a. in_whole a) parameters_into

pub parameters_fails : {ts : List Token} {f : Failure} → StuckParameters ts f → Fails 0 ParametersS ParametersB ts f
parameters_fails (stuck.void none) = fails_as parameters_to parameters_into parameters_from (fails_no refl (fails_yes refl (fails_after it (after_all done_all) (fails_at_first (is_it close_paren refl) zero_low none))))
parameters_fails (stuck.listed none other f) = fails_as parameters_to parameters_into parameters_from (fails_no none (fails_no other (listed_fails f)))

-- ---- what ends a function

pub data BodyS : List Token → List Token → Reach → Type 0 where
  body : {x : Option Body} {t : Span} {ts m : List Token} → SpellsBody ts x t m → BodyS ts m (optional_body_reach x)

pub data IsMarked : TokenKind → Type 0 where
  mark : {k : TokenKind} {w : Mark} → mark_of k ≡ Some w → IsMarked k

mark_semicolon : (k : TokenKind) {w : Mark} → mark_of k ≡ Some w → semicolon k ≡ false
mark_semicolon k w = each_mark (λ k. semicolon k ≡ false) k w refl refl

abbrev BlockS : List Token → List Token → Reach → Type 0
BlockS = AfterS (Is kinds.OpenBrace) StatementsS

abbrev BlockB : List Token → List Token → Reach → Type 0
BlockB = AfterB (Is kinds.OpenBrace) BeginsStatements

abbrev MarkedS : List Token → List Token → Reach → Type 0
MarkedS = EitherS (next_is mark_word) (AfterS IsMarked BlockS) BlockS

abbrev MarkedB : List Token → List Token → Reach → Type 0
MarkedB = EitherS (next_is mark_word) (AfterB IsMarked BlockB) BlockB

abbrev FormS : List Token → List Token → Reach → Type 0
FormS = EitherS (next_is semicolon) (AfterS (Is kinds.Semicolon) DoneS) (PutS MarkedS)

abbrev FormB : List Token → List Token → Reach → Type 0
FormB = EitherS (next_is semicolon) (AfterB (Is kinds.Semicolon) DoneS) (PutS MarkedB)

block_exact : Exact nowhere BlockS BlockB
block_exact = after_all statements_exact

marked_exact : Exact nowhere MarkedS MarkedB
marked_exact = either_all (after_all block_exact) block_exact

form_exact : Exact nowhere FormS FormB
form_exact = either_all (after_all done_all) (put_all marked_exact)

block_ends : {ts rest : List Token} {q : Reach} → BeginsStatements ts rest q → length rest ≤ length ts
block_ends c = end_length (statements_exact.ended c)

-- the node of a body, some tokens in
block_node : (s : Span) {us rest : List Token} {q : Reach} → BeginsStatements us rest q → begun (token kinds.OpenBrace s ∷ us) rest q ≡ around s.from q
block_node s {us} {rest} {q} c = begun_node (token kinds.OpenBrace s ∷ us) rest q (omega (arith, block_ends c))

mark_node : (k : TokenKind) (s p : Span) {us rest : List Token} {q : Reach} → BeginsStatements us rest q → begun (token k s ∷ token kinds.OpenBrace p ∷ us) rest q ≡ around s.from q
mark_node k s p {us} {rest} {q} c = begun_node (token k s ∷ token kinds.OpenBrace p ∷ us) rest q (omega (arith, block_ends c))

word_node : (k : TokenKind) (s : Span) (rest : List Token) → begun (token k s ∷ rest) rest nowhere ≡ node s.from
word_node k s rest = begun_node (token k s ∷ rest) rest nowhere (omega arith)

block_into : {ts us rest : List Token} {q : Reach} {s : Span} {w : Option Mark} → g.SpellsOptionalMark ts w (token kinds.OpenBrace s ∷ us) → BeginsStatements us rest q → FormB ts rest (around (start_of ts) q)
block_into {s} (g.absent f) c = no refl (reach_is (PutS MarkedB) (block_node s c) (put (no refl (after it c))))
block_into {s = p} (g.present {k} {s} w) c = no (mark_semicolon k w) (reach_is (PutS MarkedB) (mark_node k s p c) (put (yes (ap is_some w) (after (mark w) (after it c)))))

body_to : (ts m : List Token) (r : Reach) → BodyS ts m r → FormS ts m r
body_to ts m r (body g.absent) = yes refl (after it done)
body_to ts m r (body (g.present {s} (g.absent f) d)) = no refl (reach_is (PutS MarkedS) (block_node s (statements_exact.spelled (listed d))) (put (no refl (after it (listed d)))))
body_to ts m r (body (g.present {s = p} (g.present {k} {s} w) d)) = no (mark_semicolon k w) (reach_is (PutS MarkedS) (mark_node k s p (statements_exact.spelled (listed d))) (put (yes (ap is_some w) (after (mark w) (after it (listed d))))))

body_begin : (ts m : List Token) (r : Reach) → BodyS ts m r → BeginsBody ts m r
body_begin ts m r (body g.absent) = b.absent
body_begin ts m r (body (g.present w d)) = b.statements w (statements_exact.spelled (listed d))

form_here : (ts : List Token) → FormB ts ts nowhere
form_here ts = by_next semicolon ts (λ so. yes so not_yet) (λ so. no so (reach_is (PutS MarkedB) (begun_nothing ts nowhere) (put (by_next mark_word ts (λ is. yes is not_yet) (λ is. no is not_yet)))))

body_into : (ts rest : List Token) (q : Reach) → BeginsBody ts rest q → FormB ts rest q
body_into ts rest q b.nothing = form_here ts
body_into ts rest q b.absent = yes refl (after it done)
body_into ts rest q (b.mark {k} {s} w) = no (mark_semicolon k w) (reach_is (PutS MarkedB) (word_node k s rest) (put (yes (ap is_some w) (after (mark w) not_yet))))
body_into ts rest q (b.statements w c) = block_into w c

body_from : (ts rest : List Token) (q : Reach) → FormB ts rest q → BeginsBody ts rest q
body_from ts rest q (yes so not_yet) = b.nothing
body_from ts rest q (yes so (after it done)) = b.absent
body_from ts rest q (no so (put (yes is not_yet))) = reach_is BeginsBody (sym (begun_nothing ts nowhere)) b.nothing
body_from ts rest q (no so (put (yes is (after {k} {s} (mark w) not_yet)))) = reach_is BeginsBody (sym (word_node k s rest)) (b.mark w)
body_from ts rest q (no so (put (yes is (after {k} {s} (mark w) (after {s = p} it c))))) = reach_is BeginsBody (sym (mark_node k s p c)) (b.statements (g.present w) c)
body_from ts rest q (no so (put (no is not_yet))) = reach_is BeginsBody (sym (begun_nothing ts nowhere)) b.nothing
body_from ts rest q (no so (put (no is (after {s} it c)))) = reach_is BeginsBody (sym (block_node s c)) (b.statements (g.absent refl) c)

pub body_exact : Exact nowhere BodyS BeginsBody
body_exact = same_all form_exact body_to body_begin body_into

-- what no such token is it is none of fewer
implied : {is other : TokenKind → Bool} → ((k : TokenKind) → is k ≡ true → other k ≡ true) → (ts : List Token) → next_is other ts ≡ false → next_is is ts ≡ false
implied fewer [] none = refl
implied {is} fewer (t ∷ ts) none = by_next is (t ∷ ts) (λ so. never (fewer t.kind so) none) (λ so. so)

semicolon_body : (k : TokenKind) → semicolon k ≡ true → body_word k ≡ true
semicolon_body kinds.Semicolon so = refl
semicolon_body _ so = absurd (true≢false (sym so))

brace_body : (k : TokenKind) → open_brace k ≡ true → body_word k ≡ true
brace_body kinds.OpenBrace so = refl
brace_body _ so = absurd (true≢false (sym so))

mark_body : (k : TokenKind) → mark_word k ≡ true → body_word k ≡ true
mark_body (kinds.Keyword keywords.Checked) so = refl
mark_body (kinds.Keyword keywords.Unchecked) so = refl
mark_body _ so = absurd (true≢false (sym so))

pub body_fails : {ts : List Token} {f : Failure} → StuckBody ts f → Fails 0 BodyS BeginsBody ts f
body_fails {ts} (stuck.no_body none) = fails_as body_to body_into body_from (fails_no (implied semicolon_body ts none) (fails_put marked_exact (omega arith) (fails_no (implied mark_body ts none) (fails_at_first (is_it open_brace refl) (omega arith) (implied brace_body ts none)))))
body_fails (stuck.mark {k} w none) = fails_as body_to body_into body_from (fails_no (mark_semicolon k w) (fails_put marked_exact (omega arith) (fails_yes (ap is_some w) (fails_after (mark w) block_exact (fails_at_first (is_it open_brace refl) (omega arith) none)))))
body_fails (stuck.statements (g.absent f) x) = fails_as body_to body_into body_from (fails_no refl (fails_put marked_exact (omega arith) (fails_no refl (fails_after it statements_exact (statements_fails (omega arith) x)))))
body_fails (stuck.statements (g.present {k} w) x) = fails_as body_to body_into body_from (fails_no (mark_semicolon k w) (fails_put marked_exact (omega arith) (fails_yes (ap is_some w) (fails_after (mark w) block_exact (fails_after it statements_exact (statements_fails (omega arith) x))))))
