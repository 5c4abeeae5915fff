-- Declarations as forms that are built of others: reading them goes one way, and where they are stuck they fail.
use Rattle.std.proofs.Common.{◌≡◌, ◌≤◌, ◌<◌, ℕ, zero, suc, true, false, List, ◌∷◌, Option, refl, sym, subst, arith, ap, Some, true≢false}
use Rattle.std.specs.Option.{is_some}
use Rattle.ckc_text.specs.declared.place.Span.{Span}
use Rattle.ckc_lexer.specs.declared.token.Token.{Token}
use Rattle.ckc_lexer.specs.declared.token.TokenKind.{TokenKind}
use Rattle.ckc_lexer.specs.declared.token.TokenKind.TheVariants as kinds
use Rattle.ckc_tree.specs.declared.stmt.ArrayForm.{ArrayForm}
use Rattle.ckc_tree.specs.declared.stmt.ArrayKind.{ArrayKind}
use Rattle.ckc_tree.specs.Types.{TypeTree, type_span}
use Rattle.ckc_tree.specs.Expressions.{Bounds}
use Rattle.ckc_tree.specs.Statements.{Initializer, Declarator, Declaration}
use Rattle.ckc_tree.specs.Heights.{Reach, nowhere, around, ◌beside◌, type_reach, optional_bounds_reach, optional_initializer_reach, declarator_reach, declarators_reach, declared_reach}
use Rattle.ckc_parser_grammar.specs.Tokens as words
use Rattle.ckc_parser_grammar.specs.Tokens.{token, next_is, from_first, array_kind_of}
use Rattle.ckc_parser_grammar.specs.TypeGrammar.{SpellsStars, SpellsType}
use Rattle.ckc_parser_grammar.specs.StatementGrammar as g
use Rattle.ckc_parser_grammar.specs.StatementGrammar.{SpellsOptionalBounds, SpellsOptionalArray, SpellsOptionalInitializer, SpellsDeclarator, SpellsDeclarators, SpellsDeclaration}
use Rattle.ckc_parser_grammar.specs.TypeBeginnings as tb
use Rattle.ckc_parser_grammar.specs.TypeBeginnings.{begun, BeginsType}
use Rattle.ckc_parser_grammar.specs.StatementBeginnings as b
use Rattle.ckc_parser_grammar.specs.StatementBeginnings.{BeginsOptionalBounds, BeginsOptionalArray, BeginsOptionalInitializer, BeginsDeclarator, BeginsDeclarators, BeginsDeclaration}
use Rattle.ckc_parser_grammar.specs.ExpressionBeginnings.{BeginsBinary, BeginsBounds}
use Rattle.ckc_parser_grammar.specs.Failures.{Failure}
use Rattle.ckc_parser_grammar.specs.StuckTypes.{name_token, type_word}
use Rattle.ckc_parser_grammar.specs.StuckExpressions.{unary_word, close_bracket}
use Rattle.ckc_parser_grammar.specs.StuckStatements as stuck
use Rattle.ckc_parser_grammar.specs.StuckStatements.{open_bracket, open_brace, number_token, StuckOptionalBounds, StuckOptionalArray, StuckOptionalInitializer, StuckDeclarator, StuckDeclarators, StuckDeclaration}
use Rattle.ckc_parser_grammar.proofs.Paths.{beside_nowhere, around_height}
use Rattle.ckc_parser_grammar.proofs.Forms.{Is, it, IsName, name, ExactBelow, Exact, exact_on_all, none_below, below, seq_all, ended_all, after_all, either_all, same_all, done_all, SeqS, SeqB, seq, in_first, in_second, seq_exact, EndedS, EndedB, before_end, end, AfterS, AfterB, not_yet, after, EitherS, yes, no, DoneS, done, same_exact}
use Rattle.ckc_parser_grammar.proofs.Ahead.{never}
use Rattle.ckc_parser_grammar.proofs.Failing as failing
use Rattle.ckc_parser_grammar.proofs.Failing.{Fails, fails_first, fails_second, fails_at_end, fails_after, fails_at_first, fails_as, fails_yes, fails_no}
use Rattle.ckc_parser_grammar.proofs.ConstantForms.{ConstantsS, ConstantsB, listed, spelled_begin, constants_exact, constants_fails}
use Rattle.ckc_parser_grammar.proofs.TypeForms.{StarsS, StarsB, stars, stars_exact, TypeS, type, type_exact, type_fails}
use Rattle.ckc_parser_grammar.proofs.ExpressionLinks.{BinaryS, binary}
use Rattle.ckc_parser_grammar.proofs.PrimaryForms.{BoundsS, written}
use Rattle.ckc_parser_grammar.proofs.ExpressionForms.{binary_exact, bounds_exact}
use Rattle.ckc_parser_grammar.proofs.ExpressionFails.{binary_fails, bounds_fails}
use Rattle.ckc_parser_grammar.proofs.MoreForms.{is_it, Starts, PutsFirst, Apart, next_apart, or_right, fails_unstarted, OptionalS, absent, present, optional_exact, optional_all, fails_present, LeadS, LeadB, lead, in_lead, behind_lead, lead_all, fails_in_lead, fails_behind_lead, PutS, put, put_all, fails_put, fails_put_deep, seq_first, put_node, beside_high, begun_nothing}
use Rattle.ckc_parser_grammar.proofs.Starting.{type_high, type_starts, type_at, type_shorter, type_first, binary_starts, binary_at}

-- ---- bounds that may be left out

pub data OptionalBoundsS : List Token → List Token → Reach → Type 0 where
  bounded : {x : Option Bounds} {o w : Span} {ts m : List Token} → SpellsOptionalBounds o ts x w m → OptionalBoundsS ts m (optional_bounds_reach x)

bounds_to : (ts m : List Token) (r : Reach) → OptionalBoundsS ts m r → OptionalS (Is kinds.Colon) words.colon BoundsS ts m r
bounds_to ts m r (bounded (g.absent f)) = absent f
bounds_to ts m r (bounded (g.present d)) = present it (written d)

bounds_begin : (ts m : List Token) (r : Reach) → OptionalBoundsS ts m r → BeginsOptionalBounds ts m r
bounds_begin ts m r (bounded (g.absent f)) = b.nothing
bounds_begin ts m r (bounded (g.present d)) = b.bounds (bounds_exact.spelled (written d))

bounds_into : (ts rest : List Token) (q : Reach) → BeginsOptionalBounds ts rest q → AfterB (Is kinds.Colon) BeginsBounds ts rest q
bounds_into ts rest q b.nothing = not_yet
bounds_into ts rest q (b.bounds c) = after it c

bounds_from : (ts rest : List Token) (q : Reach) → AfterB (Is kinds.Colon) BeginsBounds ts rest q → BeginsOptionalBounds ts rest q
bounds_from ts rest q not_yet = b.nothing
bounds_from ts rest q (after it c) = b.bounds c

colon_is : (k : TokenKind) → Is kinds.Colon k → words.colon k ≡ true
colon_is = is_it words.colon refl

pub optional_bounds_exact : Exact nowhere OptionalBoundsS BeginsOptionalBounds
optional_bounds_exact = same_all (optional_all colon_is bounds_exact) bounds_to bounds_begin bounds_into

pub optional_bounds_fails : {d : ℕ} {ts : List Token} {f : Failure} → d ≤ 200 → StuckOptionalBounds d ts f → Fails d OptionalBoundsS BeginsOptionalBounds ts f
optional_bounds_fails low stuck.no_room = failing.no_memory
optional_bounds_fails low (stuck.bounds f) = fails_as bounds_to bounds_into bounds_from (fails_present colon_is it bounds_exact (bounds_fails low f))

-- ---- the length of an array, which may be left out

pub data OptionalArrayS : List Token → List Token → Reach → Type 0 where
  arrayed : {x : Option ArrayForm} {o w : Span} {ts m : List Token} → SpellsOptionalArray o ts x w m → OptionalArrayS ts m nowhere

pub data OptionalArrayB : List Token → List Token → Reach → Type 0 where
  arrayed : {ts rest : List Token} → BeginsOptionalArray ts rest → OptionalArrayB ts rest nowhere

data IsArray : TokenKind → Type 0 where
  array : {k : TokenKind} {w : ArrayKind} → array_kind_of k ≡ Some w → IsArray k

data IsNumber : TokenKind → Type 0 where
  number : {n : ℕ} → IsNumber (kinds.Number n)

array_is : (k : TokenKind) → IsArray k → words.array_word k ≡ true
array_is k (array w) = ap is_some w

number_is : (k : TokenKind) → IsNumber k → number_token k ≡ true
number_is k number = refl

abbrev LengthS : List Token → List Token → Reach → Type 0
LengthS = AfterS (Is kinds.OpenBracket) (AfterS IsNumber (AfterS (Is kinds.CloseBracket) DoneS))

abbrev LengthB : List Token → List Token → Reach → Type 0
LengthB = AfterB (Is kinds.OpenBracket) (AfterB IsNumber (AfterB (Is kinds.CloseBracket) DoneS))

array_to : (ts m : List Token) (r : Reach) → OptionalArrayS ts m r → OptionalS IsArray words.array_word LengthS ts m r
array_to ts m r (arrayed (g.absent f)) = absent f
array_to ts m r (arrayed (g.present w)) = present (array w) (after it (after number (after it done)))

array_begin : (ts m : List Token) (r : Reach) → OptionalArrayS ts m r → OptionalArrayB ts m r
array_begin ts m r (arrayed (g.absent f)) = arrayed b.nothing
array_begin ts m r (arrayed (g.present w)) = arrayed (b.array w)

array_into : (ts rest : List Token) (q : Reach) → OptionalArrayB ts rest q → AfterB IsArray LengthB ts rest q
array_into ts rest q (arrayed b.nothing) = not_yet
array_into ts rest q (arrayed (b.word w)) = after (array w) not_yet
array_into ts rest q (arrayed (b.bracket w)) = after (array w) (after it not_yet)
array_into ts rest q (arrayed (b.length w)) = after (array w) (after it (after number not_yet))
array_into ts rest q (arrayed (b.array w)) = after (array w) (after it (after number (after it done)))

array_from : (ts rest : List Token) (q : Reach) → AfterB IsArray LengthB ts rest q → OptionalArrayB ts rest q
array_from ts rest q not_yet = arrayed b.nothing
array_from ts rest q (after (array w) not_yet) = arrayed (b.word w)
array_from ts rest q (after (array w) (after it not_yet)) = arrayed (b.bracket w)
array_from ts rest q (after (array w) (after it (after number not_yet))) = arrayed (b.length w)
array_from ts rest q (after (array w) (after it (after number (after it done)))) = arrayed (b.array w)

close_exact : Exact nowhere (AfterS (Is kinds.CloseBracket) DoneS) (AfterB (Is kinds.CloseBracket) DoneS)
close_exact = after_all done_all

length_exact : Exact nowhere LengthS LengthB
length_exact = after_all (after_all close_exact)

pub optional_array_exact : Exact nowhere OptionalArrayS OptionalArrayB
optional_array_exact = same_all (optional_all array_is length_exact) array_to array_begin array_into

behind_array : {d : ℕ} {k : TokenKind} {s : Span} {kind : ArrayKind} {ts : List Token} {f : Failure} → array_kind_of k ≡ Some kind → Fails d LengthS LengthB ts f → Fails d OptionalArrayS OptionalArrayB (token k s ∷ ts) f
behind_array w f = fails_as array_to array_into array_from (fails_present array_is (array w) length_exact f)

pub optional_array_fails : {d : ℕ} {ts : List Token} {f : Failure} → d ≤ 200 → StuckOptionalArray ts f → Fails d OptionalArrayS OptionalArrayB ts f
optional_array_fails low (stuck.opens w none) = behind_array w (fails_at_first (is_it open_bracket refl) low none)
optional_array_fails low (stuck.length w none) = behind_array w (fails_after it (after_all close_exact) (fails_at_first number_is low none))
optional_array_fails low (stuck.close w none) = behind_array w (fails_after it (after_all close_exact) (fails_after number close_exact (fails_at_first (is_it close_bracket refl) low none)))

-- ---- an initializer, which may be left out

pub data OptionalInitializerS : List Token → List Token → Reach → Type 0 where
  initialized : {x : Option Initializer} {o w : Span} {ts m : List Token} → SpellsOptionalInitializer o ts x w m → OptionalInitializerS ts m (optional_initializer_reach x)

abbrev ValueS : List Token → List Token → Reach → Type 0
ValueS = EitherS (next_is open_brace) (AfterS (Is kinds.OpenBrace) ConstantsS) (BinaryS 10)

abbrev ValueB : List Token → List Token → Reach → Type 0
ValueB = EitherS (next_is open_brace) (AfterB (Is kinds.OpenBrace) ConstantsB) (BeginsBinary 10)

brace_apart : Apart open_brace unary_word
brace_apart kinds.OpenBrace so = refl
brace_apart _ so = absurd (true≢false (sym so))

word_apart : Apart unary_word open_brace
word_apart kinds.OpenBrace so = absurd cc
word_apart _ so = refl

value_into : (ts rest : List Token) (q : Reach) → BeginsBinary 10 ts rest q → ValueB ts rest q
value_into = or_right (binary_exact 10) brace_apart binary_starts (λ ts. not_yet) (λ ts rest q c. c)

initializer_to : (ts m : List Token) (r : Reach) → OptionalInitializerS ts m r → OptionalS (Is kinds.Equal) words.equal ValueS ts m r
initializer_to ts m r (initialized (g.absent f)) = absent f
initializer_to ts m r (initialized (g.value {ts = us} d)) = present it (no (next_apart word_apart us (binary_at d)) (binary d))
initializer_to ts m r (initialized (g.constants d)) = present it (yes refl (after it (listed d)))

initializer_begin : (ts m : List Token) (r : Reach) → OptionalInitializerS ts m r → BeginsOptionalInitializer ts m r
initializer_begin ts m r (initialized (g.absent f)) = b.nothing
initializer_begin ts m r (initialized (g.value d)) = b.value ((binary_exact 10).spelled (binary d))
initializer_begin ts m r (initialized (g.constants d)) = b.constants (spelled_begin d)

initializer_into : (ts rest : List Token) (q : Reach) → BeginsOptionalInitializer ts rest q → AfterB (Is kinds.Equal) ValueB ts rest q
initializer_into ts rest q b.nothing = not_yet
initializer_into ts rest q (b.value c) = after it (value_into _ _ _ c)
initializer_into ts rest q (b.constants c) = after it (yes refl (after it (listed c)))

initializer_from : (ts rest : List Token) (q : Reach) → AfterB (Is kinds.Equal) ValueB ts rest q → BeginsOptionalInitializer ts rest q
initializer_from ts rest q not_yet = b.nothing
initializer_from ts rest q (after it (yes so not_yet)) = b.value (binary_starts.here _)
initializer_from ts rest q (after it (yes so (after it (listed c)))) = b.constants c
initializer_from ts rest q (after it (no so c)) = b.value c

equal_is : (k : TokenKind) → Is kinds.Equal k → words.equal k ≡ true
equal_is = is_it words.equal refl

value_exact : Exact nowhere ValueS ValueB
value_exact = either_all (after_all constants_exact) (binary_exact 10)

pub optional_initializer_exact : Exact nowhere OptionalInitializerS BeginsOptionalInitializer
optional_initializer_exact = same_all (optional_all equal_is value_exact) initializer_to initializer_begin initializer_into

pub optional_initializer_fails : {d : ℕ} {ts : List Token} {f : Failure} → d ≤ 200 → StuckOptionalInitializer d ts f → Fails d OptionalInitializerS BeginsOptionalInitializer ts f
optional_initializer_fails low stuck.no_room = failing.no_memory
optional_initializer_fails low (stuck.value none f) = fails_as initializer_to initializer_into initializer_from (fails_present equal_is it value_exact (fails_no none (binary_fails low f)))
optional_initializer_fails low (stuck.constants f) = fails_as initializer_to initializer_into initializer_from (fails_present equal_is it value_exact (fails_yes refl (fails_after it constants_exact (constants_fails low f))))

-- ---- declarators

pub data DeclaratorS : List Token → List Token → Reach → Type 0 where
  declared : {x : Declarator} {ts m : List Token} → SpellsDeclarator ts x m → DeclaratorS ts m (declarator_reach x)

-- stars and a name
abbrev NamedS : List Token → List Token → Reach → Type 0
NamedS = EndedS IsName StarsS

abbrev NamedB : List Token → List Token → Reach → Type 0
NamedB = EndedB IsName StarsS StarsB

abbrev RestS : List Token → List Token → Reach → Type 0
RestS = LeadS OptionalArrayS (SeqS OptionalBoundsS OptionalInitializerS)

abbrev RestB : List Token → List Token → Reach → Type 0
RestB = LeadB OptionalArrayS OptionalArrayB (SeqB OptionalBoundsS BeginsOptionalBounds BeginsOptionalInitializer)

pub named_exact : Exact nowhere NamedS NamedB
named_exact = ended_all stars_exact

tail_exact : Exact nowhere (SeqS OptionalBoundsS OptionalInitializerS) (SeqB OptionalBoundsS BeginsOptionalBounds BeginsOptionalInitializer)
tail_exact = seq_all optional_bounds_exact optional_initializer_exact

rest_exact : Exact nowhere RestS RestB
rest_exact = lead_all optional_array_exact tail_exact

declarator_to : (ts m : List Token) (r : Reach) → DeclaratorS ts m r → LeadS NamedS RestS ts m r
declarator_to ts m r (declared (g.declarator st a c i)) = lead (end (stars st) name) (lead (arrayed a) (seq (bounded c) (initialized i)))

declarator_begin : (ts m : List Token) (r : Reach) → DeclaratorS ts m r → BeginsDeclarator ts m r
declarator_begin ts m r (declared (g.declarator st a c i)) = b.initializer st a c (optional_initializer_exact.spelled (initialized i))

declarator_into : (ts rest : List Token) (q : Reach) → BeginsDeclarator ts rest q → LeadB NamedS NamedB RestB ts rest q
declarator_into ts rest q (b.stars c) = in_lead (before_end (stars c))
declarator_into ts rest q (b.array st c) = behind_lead (end (stars st) name) (in_lead (arrayed c))
declarator_into ts rest q (b.bounds st a c) = behind_lead (end (stars st) name) (behind_lead (arrayed a) (in_first c))
declarator_into ts rest q (b.initializer st a d c) = behind_lead (end (stars st) name) (behind_lead (arrayed a) (in_second (bounded d) c))

-- the same part behind another span
pub array_at : (p : Span) {x : Option ArrayForm} {o w : Span} {ts m : List Token} → SpellsOptionalArray o ts x w m → (q : Span) × SpellsOptionalArray p ts x q m
array_at p (g.absent f) = (p, g.absent f)
array_at p (g.present w) = (_, g.present w)

pub bounds_at : (p : Span) {x : Option Bounds} {o w : Span} {ts m : List Token} → SpellsOptionalBounds o ts x w m → (q : Span) × SpellsOptionalBounds p ts x q m
bounds_at p (g.absent f) = (p, g.absent f)
bounds_at p (g.present d) = (_, g.present d)

declarator_from : (ts rest : List Token) (q : Reach) → LeadB NamedS NamedB RestB ts rest q → BeginsDeclarator ts rest q
declarator_from ts rest q (in_lead (before_end (stars c))) = b.stars c
declarator_from ts rest q (in_lead (end (stars st) name)) = b.array st b.nothing
declarator_from ts rest q (behind_lead (end (stars st) name) (in_lead (arrayed c))) = b.array st c
declarator_from ts rest q (behind_lead (end {s} (stars st) name) (behind_lead (arrayed a) (in_first c))) = b.bounds st (array_at (from_first ts s) a).1 c
declarator_from ts rest q (behind_lead (end {s} (stars st) name) (behind_lead (arrayed a) (in_second (bounded d) c))) = let placed = array_at (from_first ts s) a in b.initializer st placed.1 (bounds_at placed.0 d).1 c

pub declarator_exact : Exact nowhere DeclaratorS BeginsDeclarator
declarator_exact = same_all (lead_all named_exact rest_exact) declarator_to declarator_begin declarator_into

behind_name : {d n : ℕ} {x : List ℕ} {s : Span} {ts us : List Token} {f : Failure} → SpellsStars ts n (token (kinds.Name x) s ∷ us) → Fails d RestS RestB us f → Fails d DeclaratorS BeginsDeclarator ts f
behind_name st f = fails_as declarator_to declarator_into declarator_from (fails_behind_lead named_exact rest_exact (end (stars st) name) f)

pub name_is : (k : TokenKind) → IsName k → name_token k ≡ true
name_is k name = refl

pub declarator_fails : {d : ℕ} {ts : List Token} {f : Failure} → d ≤ 200 → StuckDeclarator d ts f → Fails d DeclaratorS BeginsDeclarator ts f
declarator_fails low stuck.no_room = failing.no_memory
declarator_fails low (stuck.name st none) = fails_as declarator_to declarator_into declarator_from (fails_in_lead named_exact rest_exact (fails_at_end name_is stars_exact (stars st) (omega (arith, low)) none))
declarator_fails low (stuck.array st f) = behind_name st (fails_in_lead optional_array_exact tail_exact (optional_array_fails low f))
declarator_fails low (stuck.bounds st a f) = behind_name st (fails_behind_lead optional_array_exact tail_exact (arrayed a) (fails_first optional_bounds_exact optional_initializer_exact (optional_bounds_fails low f)))
declarator_fails low (stuck.initializer st a c high f) = behind_name st (fails_behind_lead optional_array_exact tail_exact (arrayed a) (fails_second optional_bounds_exact optional_initializer_exact (bounded c) high (optional_initializer_fails low f)))

pub data DeclaratorsS : List Token → List Token → Reach → Type 0 where
  declarators : {x : List Declarator} {w : Span} {ts m : List Token} → SpellsDeclarators ts x w m → DeclaratorsS ts m (declarators_reach x)

abbrev OthersS : List Token → List Token → Reach → Type 0
OthersS = OptionalS (Is kinds.Comma) words.comma DeclaratorsS

abbrev OthersB : List Token → List Token → Reach → Type 0
OthersB = AfterB (Is kinds.Comma) BeginsDeclarators

declarators_to : (ts m : List Token) (r : Reach) → DeclaratorsS ts m r → SeqS DeclaratorS OthersS ts m r
declarators_to ts m r (declarators (g.one d f)) = seq (declared d) (absent f)
declarators_to ts m r (declarators (g.more d l)) = seq (declared d) (present it (declarators l))

declarators_spelled : {x : List Declarator} {w : Span} {ts m : List Token} → SpellsDeclarators ts x w m → BeginsDeclarators ts m (declarators_reach x)
declarators_spelled {ts} {m} (g.one {declarator = x} d f) = subst (BeginsDeclarators ts m) (sym (beside_nowhere (declarator_reach x))) (b.first (declarator_exact.spelled (declared d)))
declarators_spelled (g.more d l) = b.others d (declarators_spelled l)

declarators_begin : (ts m : List Token) (r : Reach) → DeclaratorsS ts m r → BeginsDeclarators ts m r
declarators_begin ts m r (declarators d) = declarators_spelled d

declarators_into : (ts rest : List Token) (q : Reach) → BeginsDeclarators ts rest q → SeqB DeclaratorS BeginsDeclarator OthersB ts rest q
declarators_into ts rest q (b.first c) = in_first c
declarators_into ts rest q (b.others d c) = in_second (declared d) (after it c)

declarators_from : (ts rest : List Token) (q : Reach) → SeqB DeclaratorS BeginsDeclarator OthersB ts rest q → BeginsDeclarators ts rest q
declarators_from ts rest q (in_first c) = b.first c
declarators_from ts rest q (in_second (declared {x} d) not_yet) = subst (BeginsDeclarators ts rest) (sym (beside_nowhere (declarator_reach x))) (b.first (declarator_exact.spelled (declared d)))
declarators_from ts rest q (in_second (declared d) (after it c)) = b.others d c

comma_is : (k : TokenKind) → Is kinds.Comma k → words.comma k ≡ true
comma_is = is_it words.comma refl

declarators_below : (n : ℕ) → ExactBelow n nowhere DeclaratorsS BeginsDeclarators
declarators_below zero = none_below
declarators_below (suc n) = same_exact (seq_exact (below declarator_exact) (optional_exact comma_is (declarators_below n))) declarators_to declarators_begin declarators_into

pub declarators_exact : Exact nowhere DeclaratorsS BeginsDeclarators
declarators_exact = exact_on_all declarators_below

others_exact : Exact nowhere OthersS OthersB
others_exact = optional_all comma_is declarators_exact

pub declarators_fails : {d : ℕ} {ts : List Token} {f : Failure} → d ≤ 200 → StuckDeclarators d ts f → Fails d DeclaratorsS BeginsDeclarators ts f
declarators_fails low stuck.no_room = failing.no_memory
declarators_fails low (stuck.first f) = fails_as declarators_to declarators_into declarators_from (fails_first declarator_exact others_exact (declarator_fails low f))
declarators_fails low (stuck.others d high f) = fails_as declarators_to declarators_into declarators_from (fails_second declarator_exact others_exact (declared d) high (fails_present comma_is it declarators_exact (declarators_fails low f)))

-- ---- declarations, which are nodes

pub data DeclarationS : List Token → List Token → Reach → Type 0 where
  declaration : {x : Declaration} {ts m : List Token} → SpellsDeclaration ts x m → DeclarationS ts m (around x.span.from (declared_reach x))

abbrev TypedS : List Token → List Token → Reach → Type 0
TypedS = SeqS TypeS DeclaratorsS

abbrev TypedB : List Token → List Token → Reach → Type 0
TypedB = SeqB TypeS BeginsType BeginsDeclarators

pub typed_exact : Exact nowhere TypedS TypedB
typed_exact = seq_all type_exact declarators_exact

-- the node of a declaration
declared_node : {ts us rest : List Token} {x : TypeTree} {r : Reach} (start : ℕ) → SpellsType ts x us → BeginsDeclarators us rest r → begun ts rest (type_reach x beside r) ≡ around start (type_reach x beside r)
declared_node {x} {r} start d c = put_node typed_exact start (in_second (type d) c) (beside_high (type_reach x) r (type_high x))

declaration_to : (ts m : List Token) (r : Reach) → DeclarationS ts m r → PutS TypedS ts m r
declaration_to ts m r (declaration (g.declaration {base} d l)) = subst (PutS TypedS ts m) (declared_node (type_span base).from d (declarators_spelled l)) (put (seq (type d) (declarators l)))

declaration_begin : (ts m : List Token) (r : Reach) → DeclarationS ts m r → BeginsDeclaration ts m r
declaration_begin ts m r (declaration (g.declaration d l)) = b.declarators d (declarators_spelled l)

declaration_into : (ts rest : List Token) (q : Reach) → BeginsDeclaration ts rest q → PutS TypedB ts rest q
declaration_into ts rest q (b.base c) = put (in_first c)
declaration_into ts rest q (b.declarators {base} d c) = subst (PutS TypedB ts rest) (declared_node (type_span base).from d c) (put (in_second (type d) c))

declaration_from : (ts rest : List Token) (q : Reach) → PutS TypedB ts rest q → BeginsDeclaration ts rest q
declaration_from ts rest q (put (in_first c)) = b.base c
declaration_from ts rest q (put (in_second (type {t = base} d) c)) = subst (BeginsDeclaration ts rest) (sym (declared_node (type_span base).from d c)) (b.declarators d c)

pub declaration_exact : Exact nowhere DeclarationS BeginsDeclaration
declaration_exact = same_all (put_all typed_exact) declaration_to declaration_begin declaration_into

pub declaration_starts : Starts type_word BeginsDeclaration
declaration_starts = record { none = none; here = λ ts. subst (BeginsDeclaration ts ts) (begun_nothing ts nowhere) (b.base tb.nothing) }
  where
    none : {ts rest : List Token} {q : Reach} → BeginsDeclaration ts rest q → next_is type_word ts ≡ false → rest ≡ ts
    none (b.base c) so = type_starts.none c so
    none (b.declarators d c) so = never (type_at d) so

pub declaration_high : (ts m : List Token) (r : Reach) → DeclarationS ts m r → 0 < r.height
declaration_high ts m r (declaration {x} d) = omega (arith, around_height x.span.from (declared_reach x))

typed_first : PutsFirst type_word TypedB
typed_first = seq_first type_exact declarators_exact type_shorter type_first

pub declaration_fails : {d : ℕ} {ts : List Token} {f : Failure} → d ≤ 200 → StuckDeclaration d ts f → Fails d DeclarationS BeginsDeclaration ts f
declaration_fails low stuck.no_room = failing.no_memory
declaration_fails low (stuck.no_type none) = fails_unstarted declaration_exact declaration_starts (declaration_high _) low none
declaration_fails low (stuck.deep so deep) = fails_as declaration_to declaration_into declaration_from (fails_put_deep typed_exact typed_first (in_first tb.nothing) low so deep)
declaration_fails low (stuck.base some so f) = fails_as declaration_to declaration_into declaration_from (fails_put typed_exact some (fails_first type_exact declarators_exact (type_fails (omega (arith, some)) f)))
declaration_fails low (stuck.declarators some d high f) = fails_as declaration_to declaration_into declaration_from (fails_put typed_exact some (fails_second type_exact declarators_exact (type d) high (declarators_fails (omega (arith, some)) f)))
