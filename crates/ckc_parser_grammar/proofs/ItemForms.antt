-- Items as forms that are built of others: structures, variables and functions, each for itself. They share their first
-- tokens, so a beginning of an item is one of any of them.
use Rattle.std.proofs.Common.{◌≡◌, Bool, true, List, ◌∷◌, Option, refl, sym, ap, subst, Some}
use Rattle.std.specs.Option.{is_some}
use Rattle.ckc_text.specs.declared.place.Span.{Span}
use Rattle.ckc_lexer.specs.declared.token.Token.{Token}
use Rattle.ckc_lexer.specs.declared.token.TokenKind.{TokenKind}
use Rattle.ckc_lexer.specs.declared.keyword.Keyword.TheVariants as keywords
use Rattle.ckc_lexer.specs.declared.token.TokenKind.TheVariants as kinds
use Rattle.ckc_lexer.specs.declared.token.CheckedScope.{CheckedScope}
use Rattle.ckc_tree.specs.declared.stmt.Mark.{Mark}
use Rattle.ckc_tree.specs.declared.item.FunctionKind.{FunctionKind}
use Rattle.ckc_tree.specs.Items.{ResultForm, Item}
use Rattle.ckc_tree.specs.Heights.{Reach, nowhere, ◌beside◌, optional_bounds_reach, parameters_reach, result_reach, item_reach}
use Rattle.ckc_parser_grammar.specs.Tokens.{token, next_is, from_first, mark_of, mark_word}
use Rattle.ckc_parser_grammar.specs.TypeBeginnings as tb
use Rattle.ckc_parser_grammar.specs.TypeBeginnings.{BeginsType}
use Rattle.ckc_parser_grammar.specs.StatementBeginnings as sb
use Rattle.ckc_parser_grammar.specs.StatementBeginnings.{BeginsOptionalBounds, BeginsDeclarators}
use Rattle.ckc_parser_grammar.specs.ItemGrammar as g
use Rattle.ckc_parser_grammar.specs.ItemGrammar.{SpellsTainted, SpellsKind, SpellsOptionalMark, SpellsResult, SpellsItem}
use Rattle.ckc_parser_grammar.specs.ItemBeginnings as b
use Rattle.ckc_parser_grammar.specs.ItemBeginnings.{BeginsMembers, BeginsBody, BeginsItem}
use Rattle.ckc_parser_grammar.specs.StuckItems.{void_word}
use Rattle.ckc_parser_grammar.proofs.OneItem.{tainted_same, kind_same}
use Rattle.ckc_parser_grammar.proofs.Forms.{◌ends◌, all, later, Is, it, IsName, name, Read, Exact, seq_all, ended_all, after_all, done_all, either_all, same_all, SeqS, SeqB, seq, in_first, in_second, EndedS, EndedB, before_end, end, AfterS, AfterB, not_yet, after, EitherS, yes, no, DoneS, done}
use Rattle.ckc_parser_grammar.proofs.Paths.{beside_nowhere}
use Rattle.ckc_parser_grammar.proofs.TypeForms.{StarsS, StarsB, stars, stars_exact, TypeS, type, type_exact}
use Rattle.ckc_parser_grammar.proofs.MoreForms.{next_apart, or_right, OptionalS, absent, present, optional_all, LeadS, LeadB, lead, in_lead, behind_lead, lead_all, so_far, in_whole, reach_is, beside_assoc}
use Rattle.ckc_parser_grammar.proofs.Starting.{type_starts, type_at}
use Rattle.ckc_parser_grammar.proofs.DeclarationForms.{DeclaratorsS, declarators, declarators_exact, OptionalBoundsS, bounded, bounds_at, optional_bounds_exact}
use Rattle.ckc_parser_grammar.proofs.HeadForms.{turned}
use Rattle.ckc_parser_grammar.proofs.StatementForms.{four}
use Rattle.ckc_parser_grammar.proofs.MemberForms.{void_type, MembersS, members, members_exact, no_member, ParametersS, taken, ParametersB, parameters_exact, BodyS, body, body_exact, IsMarked, mark}

-- ---- words before an item, of which none is left to read once they are known

pub data TaintedS : List Token → List Token → Reach → Type 0 where
  tainted : {x : Bool} {ts m : List Token} → SpellsTainted ts x m → TaintedS ts m nowhere

pub data KindS : List Token → List Token → Reach → Type 0 where
  kinded : {x : FunctionKind} {ts m : List Token} → SpellsKind ts x m → KindS ts m nowhere

tainted_ends : {x : Bool} {ts m : List Token} → SpellsTainted ts x m → m ends ts
tainted_ends (g.absent f) = all
tainted_ends g.present = later all

kind_ends : {x : FunctionKind} {ts m : List Token} → SpellsKind ts x m → m ends ts
kind_ends (g.trusted f) = all
kind_ends g.tainted = later all
kind_ends g.callback = later all

tainted_rest : {x y : Bool} {ts m n : List Token} → SpellsTainted ts x m → SpellsTainted ts y n → m ≡ n
tainted_rest d e = ap (λ (x : Bool × List Token). x.1) (tainted_same d e)

kind_rest : {x y : FunctionKind} {ts m n : List Token} → SpellsKind ts x m → SpellsKind ts y n → m ≡ n
kind_rest d e = ap (λ (x : FunctionKind × List Token). x.1) (kind_same d e)

pub tainted_exact : Exact nowhere TaintedS TaintedS
tainted_exact = record { one = one; spelled = λ a. a; longest = longest; whole = whole; nothing = nothing; ended = ended }
  where
    one : {ts m m' : List Token} {r r' : Reach} → TaintedS ts m r → TaintedS ts m' r' → ◌≡◌ {A = Read} (m, r) (m', r')
    one (tainted d) (tainted e) = ap (λ (x : List Token). (x, nowhere)) (tainted_rest d e)

    longest : {ts m rest : List Token} {r q : Reach} → TaintedS ts m r → TaintedS ts rest q → m ends rest
    longest {m} (tainted d) (tainted e) = subst (λ (x : List Token). m ends x) (tainted_rest d e) all

    whole : {ts m rest : List Token} {r q : Reach} → TaintedS ts m r → TaintedS ts rest q → rest ≡ m → q ≡ r
    whole (tainted d) (tainted e) same = refl

    nothing : {ts rest : List Token} {q : Reach} → TaintedS ts rest q → rest ≡ ts → q ≡ nowhere
    nothing (tainted d) same = refl

    ended : {ts rest : List Token} {q : Reach} → TaintedS ts rest q → rest ends ts
    ended (tainted d) = tainted_ends d

pub kind_exact : Exact nowhere KindS KindS
kind_exact = record { one = one; spelled = λ a. a; longest = longest; whole = whole; nothing = nothing; ended = ended }
  where
    one : {ts m m' : List Token} {r r' : Reach} → KindS ts m r → KindS ts m' r' → ◌≡◌ {A = Read} (m, r) (m', r')
    one (kinded d) (kinded e) = ap (λ (x : List Token). (x, nowhere)) (kind_rest d e)

    longest : {ts m rest : List Token} {r q : Reach} → KindS ts m r → KindS ts rest q → m ends rest
    longest {m} (kinded d) (kinded e) = subst (λ (x : List Token). m ends x) (kind_rest d e) all

    whole : {ts m rest : List Token} {r q : Reach} → KindS ts m r → KindS ts rest q → rest ≡ m → q ≡ r
    whole (kinded d) (kinded e) same = refl

    nothing : {ts rest : List Token} {q : Reach} → KindS ts rest q → rest ≡ ts → q ≡ nowhere
    nothing (kinded d) same = refl

    ended : {ts rest : List Token} {q : Reach} → KindS ts rest q → rest ends ts
    ended (kinded d) = kind_ends d

pub data MarkS : List Token → List Token → Reach → Type 0 where
  marked : {x : Option Mark} {ts m : List Token} → SpellsOptionalMark ts x m → MarkS ts m nowhere

pub data MarkB : List Token → List Token → Reach → Type 0 where
  unmarked : {ts : List Token} → MarkB ts ts nowhere
  word : {k : TokenKind} {s : Span} {rest : List Token} {w : Mark} → mark_of k ≡ Some w → MarkB (token k s ∷ rest) rest nowhere

mark_is : (k : TokenKind) → IsMarked k → mark_word k ≡ true
mark_is k (mark w) = ap is_some w

mark_to : (ts m : List Token) (r : Reach) → MarkS ts m r → OptionalS IsMarked mark_word DoneS ts m r
mark_to ts m r (marked (g.absent f)) = absent f
mark_to ts m r (marked (g.present w)) = present (mark w) done

mark_begin : (ts m : List Token) (r : Reach) → MarkS ts m r → MarkB ts m r
mark_begin ts m r (marked (g.absent f)) = unmarked
mark_begin ts m r (marked (g.present w)) = word w

mark_into : (ts rest : List Token) (q : Reach) → MarkB ts rest q → AfterB IsMarked DoneS ts rest q
mark_into ts rest q unmarked = not_yet
mark_into ts rest q (word w) = after (mark w) done

pub mark_exact : Exact nowhere MarkS MarkB
mark_exact = same_all (optional_all mark_is done_all) mark_to mark_begin mark_into

-- ---- the result of a function

pub data ResultS : List Token → List Token → Reach → Type 0 where
  returned : {x : ResultForm} {ts m : List Token} → SpellsResult ts x m → ResultS ts m (result_reach x)

pub data ResultB : List Token → List Token → Reach → Type 0 where
  void : {s : Span} {rest : List Token} → ResultB (token (kinds.Keyword keywords.Void) s ∷ rest) rest nowhere
  value : {ts rest : List Token} {q : Reach} → BeginsType ts rest q → ResultB ts rest q

abbrev GivenS : List Token → List Token → Reach → Type 0
GivenS = EitherS (next_is void_word) (AfterS (Is (kinds.Keyword keywords.Void)) DoneS) TypeS

abbrev GivenB : List Token → List Token → Reach → Type 0
GivenB = EitherS (next_is void_word) (AfterB (Is (kinds.Keyword keywords.Void)) DoneS) BeginsType

result_to : (ts m : List Token) (r : Reach) → ResultS ts m r → GivenS ts m r
result_to ts m r (returned g.void) = yes refl (after it done)
result_to ts m r (returned (g.value d)) = no (next_apart (turned void_type) ts (type_at d)) (type d)

result_begin : (ts m : List Token) (r : Reach) → ResultS ts m r → ResultB ts m r
result_begin ts m r (returned g.void) = void
result_begin ts m r (returned (g.value d)) = value (type_exact.spelled (type d))

result_into : (ts rest : List Token) (q : Reach) → ResultB ts rest q → GivenB ts rest q
result_into ts rest q void = yes refl (after it done)
result_into ts rest q (value c) = or_right type_exact void_type type_starts (λ us. not_yet) (λ us vs p e. e) ts rest q c

pub result_exact : Exact nowhere ResultS ResultB
result_exact = same_all (either_all (after_all done_all) type_exact) result_to result_begin result_into

-- ---- functions

-- stars, a name and a parenthesis
abbrev pub OpenedS : List Token → List Token → Reach → Type 0
OpenedS = EndedS (Is kinds.OpenParen) (EndedS IsName StarsS)

abbrev pub OpenedB : List Token → List Token → Reach → Type 0
OpenedB = EndedB (Is kinds.OpenParen) (EndedS IsName StarsS) (EndedB IsName StarsS StarsB)

abbrev pub EndingS : List Token → List Token → Reach → Type 0
EndingS = SeqS OptionalBoundsS BodyS

abbrev pub EndingB : List Token → List Token → Reach → Type 0
EndingB = SeqB OptionalBoundsS BeginsOptionalBounds BeginsBody

-- what stands behind the parenthesis
abbrev pub InsideS : List Token → List Token → Reach → Type 0
InsideS = SeqS ParametersS EndingS

abbrev pub InsideB : List Token → List Token → Reach → Type 0
InsideB = SeqB ParametersS ParametersB EndingB

-- what stands behind the result
abbrev pub CalledS : List Token → List Token → Reach → Type 0
CalledS = LeadS OpenedS InsideS

abbrev pub CalledB : List Token → List Token → Reach → Type 0
CalledB = LeadB OpenedS OpenedB InsideB

-- the result and what stands behind it
abbrev pub GivingS : List Token → List Token → Reach → Type 0
GivingS = SeqS ResultS CalledS

abbrev pub GivingB : List Token → List Token → Reach → Type 0
GivingB = SeqB ResultS ResultB CalledB

abbrev pub FunctionS : List Token → List Token → Reach → Type 0
FunctionS = LeadS KindS (LeadS MarkS GivingS)

abbrev pub FunctionB : List Token → List Token → Reach → Type 0
FunctionB = LeadB KindS KindS (LeadB MarkS MarkB GivingB)

pub opened_exact : Exact nowhere OpenedS OpenedB
opened_exact = ended_all (ended_all stars_exact)

pub ending_exact : Exact nowhere EndingS EndingB
ending_exact = seq_all optional_bounds_exact body_exact

pub inside_exact : Exact nowhere InsideS InsideB
inside_exact = seq_all parameters_exact ending_exact

pub called_exact : Exact nowhere CalledS CalledB
called_exact = lead_all opened_exact inside_exact

pub giving_exact : Exact nowhere GivingS GivingB
giving_exact = seq_all result_exact called_exact

pub function_exact : Exact nowhere FunctionS FunctionB
function_exact = lead_all kind_exact (lead_all mark_exact giving_exact)

-- a function from its beginnings
function_from : (tokens rest : List Token) (q : Reach) → FunctionB tokens rest q → BeginsItem tokens rest q
function_from tokens rest q (in_lead (kinded k)) = b.function_word k
function_from tokens rest q (behind_lead (kinded k) (in_lead unmarked)) = b.function_word k
function_from tokens rest q (behind_lead (kinded k) (in_lead (word w))) = b.function_mark k w
function_from tokens rest q (behind_lead (kinded k) (behind_lead (marked m) (in_first void))) = b.function_void k m
function_from tokens rest q (behind_lead (kinded k) (behind_lead (marked m) (in_first (value c)))) = b.function_type k m c
function_from tokens rest q (behind_lead (kinded k) (behind_lead (marked m) (in_second (returned {x} d) (in_lead (before_end (before_end (stars c))))))) = reach_is BeginsItem (sym (beside_nowhere (result_reach x))) (b.function_stars k m d c)
function_from tokens rest q (behind_lead (kinded k) (behind_lead (marked m) (in_second (returned {x} d) (in_lead (before_end (end (stars st) name)))))) = reach_is BeginsItem (sym (beside_nowhere (result_reach x))) (b.function_name k m d st)
function_from tokens rest q (behind_lead (kinded k) (behind_lead (marked m) (in_second (returned d) (in_lead (end (end (stars st) name) it))))) = b.function_parameters k m d st (b.listed (b.first (no_member rest)))
function_from tokens rest q (behind_lead (kinded k) (behind_lead (marked m) (in_second (returned d) (behind_lead (end (end (stars st) name) it) (in_first (so_far c)))))) = b.function_parameters k m d st c
function_from tokens rest q (behind_lead (kinded k) (behind_lead (marked m) (in_second (returned {x} d) (behind_lead (end (end (stars st) name) it) (in_first (in_whole (taken {x = y} p))))))) = reach_is BeginsItem (beside_nowhere (result_reach x beside parameters_reach y)) (b.function_bounds k m d st p (sb.nothing {ts = rest}))
function_from tokens rest q (behind_lead (kinded k) (behind_lead (marked m) (in_second (returned {x} d) (behind_lead (end (end (stars st) name) it) (in_second (taken {x = y} p) (in_first c)))))) = reach_is BeginsItem (beside_assoc (result_reach x) (parameters_reach y) _) (b.function_bounds k m d st p c)
function_from tokens rest q (behind_lead (kinded k) (behind_lead (marked m) (in_second (returned {x} d) (behind_lead (end (end (stars st) name) it) (in_second (taken {x = y} {t} p) (in_second (bounded {x = z} w) c)))))) = reach_is BeginsItem (sym (four (result_reach x) (parameters_reach y) (optional_bounds_reach z) _)) (b.function_body k m d st p (bounds_at (from_first tokens t) w).1 c)

-- ---- variables

-- what stands behind the type
abbrev pub VariablesS : List Token → List Token → Reach → Type 0
VariablesS = EndedS (Is kinds.Semicolon) DeclaratorsS

abbrev pub VariablesB : List Token → List Token → Reach → Type 0
VariablesB = EndedB (Is kinds.Semicolon) DeclaratorsS BeginsDeclarators

abbrev pub TypedS : List Token → List Token → Reach → Type 0
TypedS = SeqS TypeS VariablesS

abbrev pub TypedB : List Token → List Token → Reach → Type 0
TypedB = SeqB TypeS BeginsType VariablesB

abbrev pub GlobalS : List Token → List Token → Reach → Type 0
GlobalS = LeadS TaintedS TypedS

abbrev pub GlobalB : List Token → List Token → Reach → Type 0
GlobalB = LeadB TaintedS TaintedS TypedB

pub variables_exact : Exact nowhere VariablesS VariablesB
variables_exact = ended_all declarators_exact

pub typed_exact : Exact nowhere TypedS TypedB
typed_exact = seq_all type_exact variables_exact

pub global_exact : Exact nowhere GlobalS GlobalB
global_exact = lead_all tainted_exact typed_exact

global_from : (tokens rest : List Token) (q : Reach) → GlobalB tokens rest q → BeginsItem tokens rest q
global_from tokens rest q (in_lead (tainted t)) = b.global_type t tb.nothing
global_from tokens rest q (behind_lead (tainted t) (in_first c)) = b.global_type t c
global_from tokens rest q (behind_lead (tainted t) (in_second (type d) (before_end c))) = b.global_declarators t d c
global_from tokens rest q (behind_lead (tainted t) (in_second (type d) (end (declarators l) it))) = b.global t d l

-- ---- structures

-- what stands behind the brace
abbrev pub ClosedS : List Token → List Token → Reach → Type 0
ClosedS = EndedS (Is kinds.Semicolon) MembersS

abbrev pub ClosedB : List Token → List Token → Reach → Type 0
ClosedB = EndedB (Is kinds.Semicolon) MembersS BeginsMembers

abbrev pub TaggedS : List Token → List Token → Reach → Type 0
TaggedS = AfterS IsName (AfterS (Is kinds.OpenBrace) ClosedS)

abbrev pub TaggedB : List Token → List Token → Reach → Type 0
TaggedB = AfterB IsName (AfterB (Is kinds.OpenBrace) ClosedB)

abbrev pub StructureS : List Token → List Token → Reach → Type 0
StructureS = LeadS TaintedS (AfterS (Is (kinds.Keyword keywords.Struct)) TaggedS)

abbrev pub StructureB : List Token → List Token → Reach → Type 0
StructureB = LeadB TaintedS TaintedS (AfterB (Is (kinds.Keyword keywords.Struct)) TaggedB)

pub closed_exact : Exact nowhere ClosedS ClosedB
closed_exact = ended_all members_exact

pub structure_exact : Exact nowhere StructureS StructureB
structure_exact = lead_all tainted_exact (after_all (after_all (after_all closed_exact)))

structure_from : (tokens rest : List Token) (q : Reach) → StructureB tokens rest q → BeginsItem tokens rest q
structure_from tokens rest q (in_lead (tainted t)) = b.global_type t tb.nothing
structure_from tokens rest q (behind_lead (tainted t) not_yet) = b.global_type t tb.nothing
structure_from tokens rest q (behind_lead (tainted t) (after it not_yet)) = b.struct_word t
structure_from tokens rest q (behind_lead (tainted t) (after it (after name not_yet))) = b.struct_tag t
structure_from tokens rest q (behind_lead (tainted t) (after it (after name (after it (before_end c))))) = b.struct_members t c
structure_from tokens rest q (behind_lead (tainted t) (after it (after name (after it (end (members d) it))))) = b.structure t d

-- ---- items

pub data ItemS : List Token → List Token → Reach → Type 0 where
  item : {x : Item} {ts m : List Token} → SpellsItem ts x m → ItemS ts m (item_reach x)

pub data SortedS : List Token → List Token → Reach → Type 0 where
  region : {s : Span} {m : List Token} {x : CheckedScope} → SortedS (token (kinds.Scope x) s ∷ m) m nowhere
  structure : {ts m : List Token} {r : Reach} → StructureS ts m r → SortedS ts m r
  global : {ts m : List Token} {r : Reach} → GlobalS ts m r → SortedS ts m r
  function : {ts m : List Token} {r : Reach} → FunctionS ts m r → SortedS ts m r

pub data SortedB : List Token → List Token → Reach → Type 0 where
  region : {s : Span} {rest : List Token} {x : CheckedScope} → SortedB (token (kinds.Scope x) s ∷ rest) rest nowhere
  structure : {ts rest : List Token} {q : Reach} → StructureB ts rest q → SortedB ts rest q
  global : {ts rest : List Token} {q : Reach} → GlobalB ts rest q → SortedB ts rest q
  function : {ts rest : List Token} {q : Reach} → FunctionB ts rest q → SortedB ts rest q

pub item_to : (ts m : List Token) (r : Reach) → ItemS ts m r → SortedS ts m r
item_to ts m r (item (g.region w)) = region
item_to ts m r (item (g.structure t d)) = structure (lead (tainted t) (after it (after name (after it (end (members d) it)))))
item_to ts m r (item (g.global t d l)) = global (lead (tainted t) (seq (type d) (end (declarators l) it)))
item_to ts m r (item (g.function {written = z} {result = x} {parameters = y} k m' d st p w e)) =
    function (reach_is FunctionS (four (result_reach x) (parameters_reach y) (optional_bounds_reach z) _) (lead (kinded k) (lead (marked m') (seq (returned d) (lead (end (end (stars st) name) it) (seq (taken p) (seq (bounded w) (body e))))))))

pub item_into : (ts rest : List Token) (q : Reach) → BeginsItem ts rest q → SortedB ts rest q
item_into ts rest q b.region = region
item_into ts rest q (b.struct_word t) = structure (behind_lead (tainted t) (after it not_yet))
item_into ts rest q (b.struct_tag t) = structure (behind_lead (tainted t) (after it (after name not_yet)))
item_into ts rest q (b.struct_members t c) = structure (behind_lead (tainted t) (after it (after name (after it (before_end c)))))
item_into ts rest q (b.structure t d) = structure (behind_lead (tainted t) (after it (after name (after it (end (members d) it)))))
item_into ts rest q (b.global_type t c) = global (behind_lead (tainted t) (in_first c))
item_into ts rest q (b.global_declarators t d c) = global (behind_lead (tainted t) (in_second (type d) (before_end c)))
item_into ts rest q (b.global t d l) = global (behind_lead (tainted t) (in_second (type d) (end (declarators l) it)))
item_into ts rest q (b.function_word k) = function (in_lead (kinded k))
item_into ts rest q (b.function_mark k w) = function (behind_lead (kinded k) (in_lead (word w)))
item_into ts rest q (b.function_void k m) = function (behind_lead (kinded k) (behind_lead (marked m) (in_first void)))
item_into ts rest q (b.function_type k m c) = function (behind_lead (kinded k) (behind_lead (marked m) (in_first (value c))))
item_into ts rest q (b.function_stars {result = x} k m d c) = function (reach_is FunctionB (beside_nowhere (result_reach x)) (behind_lead (kinded k) (behind_lead (marked m) (in_second (returned d) (in_lead (before_end (before_end (stars c))))))))
item_into ts rest q (b.function_name {result = x} k m d st) = function (reach_is FunctionB (beside_nowhere (result_reach x)) (behind_lead (kinded k) (behind_lead (marked m) (in_second (returned d) (in_lead (before_end (end (stars st) name)))))))
item_into ts rest q (b.function_parameters k m d st c) = function (behind_lead (kinded k) (behind_lead (marked m) (in_second (returned d) (behind_lead (end (end (stars st) name) it) (in_first (so_far c))))))
item_into ts rest q (b.function_bounds {result = x} {parameters = y} {r} k m d st p c) = function (reach_is FunctionB (sym (beside_assoc (result_reach x) (parameters_reach y) r)) (behind_lead (kinded k) (behind_lead (marked m) (in_second (returned d) (behind_lead (end (end (stars st) name) it) (in_second (taken p) (in_first c)))))))
item_into ts rest q (b.function_body {written = z} {result = x} {parameters = y} {r} k m d st p w c) = function (reach_is FunctionB (four (result_reach x) (parameters_reach y) (optional_bounds_reach z) r) (behind_lead (kinded k) (behind_lead (marked m) (in_second (returned d) (behind_lead (end (end (stars st) name) it) (in_second (taken p) (in_second (bounded w) c)))))))

pub item_from : (ts rest : List Token) (q : Reach) → SortedB ts rest q → BeginsItem ts rest q
item_from ts rest q region = b.region
item_from ts rest q (structure c) = structure_from ts rest q c
item_from ts rest q (global c) = global_from ts rest q c
item_from ts rest q (function c) = function_from ts rest q c

pub sorted_ended : {ts rest : List Token} {q : Reach} → SortedB ts rest q → rest ends ts
sorted_ended region = later all
sorted_ended (structure c) = structure_exact.ended c
sorted_ended (global c) = global_exact.ended c
sorted_ended (function c) = function_exact.ended c

pub sorted_nothing : {ts rest : List Token} {q : Reach} → SortedB ts rest q → rest ≡ ts → q ≡ nowhere
sorted_nothing region same = refl
sorted_nothing (structure c) same = structure_exact.nothing c same
sorted_nothing (global c) same = global_exact.nothing c same
sorted_nothing (function c) same = function_exact.nothing c same
