-- Each list of tokens is read as a whole source, or has a refusal.
use Rattle.std.proofs.Common.{◌≡◌, ◌≤◌, ◌<◌, ◌⊎◌, inl, inr, ℕ, length, Bool, true, false, List, [], ◌∷◌, Option, Some, None, refl, arith, sym, true≢false}
use Rattle.ckc_text.specs.declared.fault.SourceFault.{SourceFault}
use Rattle.ckc_text.specs.declared.place.Span.{Span}
use Rattle.ckc_lexer.specs.declared.token.CheckedScope.{CheckedScope}
use Rattle.ckc_lexer.specs.declared.token.CheckedScope.TheVariants as scopes
use Rattle.ckc_lexer.specs.declared.token.Token.{Token}
use Rattle.ckc_lexer.specs.declared.token.TokenKind.{TokenKind}
use Rattle.ckc_lexer.specs.declared.keyword.Keyword.TheVariants as keywords
use Rattle.ckc_lexer.specs.declared.token.TokenKind.TheVariants as kinds
use Rattle.ckc_tree.specs.declared.identifier.Identifier.{Identifier}
use Rattle.ckc_tree.specs.declared.item.FunctionKind.{FunctionKind}
use Rattle.ckc_tree.specs.declared.item.FunctionKind.TheVariants.{Trusted, Tainted, Callback}
use Rattle.ckc_tree.specs.declared.item.Region.{Region}
use Rattle.ckc_tree.specs.declared.stmt.Mark.{Mark}
use Rattle.ckc_tree.specs.Types.{TypeTree, TypeName}
use Rattle.ckc_tree.specs.Expressions.{Bounds}
use Rattle.ckc_tree.specs.Items.{Member, ResultForm, Value, Parameters, Nothing, VoidAlone, Listed, Body, Item, RegionItem, StructureItem, GlobalItem, FunctionItem, Tree}
use Rattle.ckc_tree.specs.Heights.{◌beside◌, type_reach, optional_bounds_reach, statements_reach, declarators_reach, member_reach, members_reach, result_reach, parameters_reach, optional_body_reach, item_reach, items_reach}
use Rattle.ckc_tree.specs.Weights.{item_weight}
use Rattle.ckc_parser_grammar.specs.Tokens.{token, join, identifier, from_first, mark_of, next_is, mark_word, kind_word}
use Rattle.ckc_parser_grammar.specs.TypeGrammar.{SpellsStars, SpellsType, SpellsTypeName}
use Rattle.ckc_parser_grammar.specs.ItemGrammar as g
use Rattle.ckc_parser_grammar.specs.ItemGrammar.{SpellsTainted, SpellsKind, SpellsOptionalMark, SpellsMember, SpellsMembers, SpellsListed, SpellsParameters, SpellsResult, SpellsBody, SpellsRegion, SpellsItem, SpellsItems}
use Rattle.ckc_parser_grammar.specs.Parsing.{IsTree, IsFault}
use Rattle.ckc_parser_grammar.specs.Refusals.{FaultIs}
use Rattle.ckc_parser_grammar.specs.Failures.{Failure, IsLow}
use Rattle.ckc_parser_grammar.specs.StuckExpressions.{close_paren, comma_or_paren}
use Rattle.ckc_parser_grammar.specs.StuckStatements.{open_brace}
use Rattle.ckc_parser_grammar.specs.StuckItems as stuck
use Rattle.ckc_parser_grammar.specs.StuckItems.{void_word, scope_word, struct_word, body_word, is_name_before, is_structure, is_function, IsAlone, IsLowMember, StuckMember, StuckMembers, StuckListed, StuckParameters, StuckBody, StuckItem, StuckItems}
use Rattle.ckc_parser_grammar.proofs.Forms.{it}
use Rattle.ckc_parser_grammar.proofs.Ahead.{never, untainted, no_struct, no_name}
use Rattle.ckc_parser_grammar.proofs.Paths.{low_around, low_beside}
use Rattle.ckc_parser_grammar.proofs.MemberForms.{zero_low}
use Rattle.ckc_parser_grammar.proofs.ItemFailing.{Ahead, call, function_ahead}
use Rattle.ckc_parser_grammar.proofs.WholeForms.{stuck_is_fault}
use Rattle.ckc_parser_grammar.proofs.FewNodes.{member_takes, item_takes}
use Rattle.ckc_parser_grammar.proofs.Reading as readings
use Rattle.ckc_parser_grammar.proofs.Reading.{IsRefusal, Reading, read, refused, unexpected, Next, here, other, next, Marks, marked, named, by_length, behind, ended}
use Rattle.ckc_parser_grammar.proofs.ReadTypes.{is_open_paren, stars_read, type_read, type_name_read}
use Rattle.ckc_parser_grammar.proofs.ReadExpressions.{is_close_paren, EndsArgument, comma, paren, ends_argument}
use Rattle.ckc_parser_grammar.proofs.ReadDeclarations.{is_open_brace, is_close_brace, is_semicolon, optional_bounds_read, declarators_read}
use Rattle.ckc_parser_grammar.proofs.ReadStatements.{statements_read}
use Rattle.ckc_parser_grammar.proofs.OneMeaning.{some_word}

-- ---- words

is_void : Marks (kinds.Keyword keywords.Void) void_word
is_void (kinds.Keyword keywords.Void) so = it
is_void _ so = absurd (true≢false (sym so))

is_struct : Marks (kinds.Keyword keywords.Struct) struct_word
is_struct (kinds.Keyword keywords.Struct) so = it
is_struct _ so = absurd (true≢false (sym so))

data IsScope : TokenKind → Type 0 where
  scope : {c : CheckedScope} {r : Region} → SpellsRegion c r → IsScope (kinds.Scope c)

scope_at : (k : TokenKind) → scope_word k ≡ true → IsScope k
scope_at (kinds.Scope scopes.On) so = scope g.on
scope_at (kinds.Scope scopes.Off) so = scope g.off
scope_at _ so = absurd (true≢false (sym so))

mark_at : (k : TokenKind) → mark_word k ≡ true → (w : Mark) × (mark_of k ≡ Some w)
mark_at k so = some_word (mark_of k) so

data IsKindWord : TokenKind → Type 0 where
  tainted : IsKindWord (kinds.Keyword keywords.Tainted)
  callback : IsKindWord (kinds.Keyword keywords.Callback)

kind_word_at : (k : TokenKind) → kind_word k ≡ true → IsKindWord k
kind_word_at (kinds.Keyword keywords.Tainted) so = tainted
kind_word_at (kinds.Keyword keywords.Callback) so = callback
kind_word_at _ so = absurd (true≢false (sym so))

-- what ends a function or begins its body
data StartsBody : TokenKind → Type 0 where
  none : StartsBody kinds.Semicolon
  brace : StartsBody kinds.OpenBrace
  mark : {k : TokenKind} {w : Mark} → mark_of k ≡ Some w → StartsBody k

body_at : (k : TokenKind) → body_word k ≡ true → StartsBody k
body_at kinds.Semicolon so = none
body_at kinds.OpenBrace so = brace
body_at (kinds.Keyword keywords.Checked) so = mark refl
body_at (kinds.Keyword keywords.Unchecked) so = mark refl
body_at _ so = absurd (true≢false (sym so))

-- ---- members and parameters

abbrev ReadsMember : List Token → Type 0
ReadsMember ts = Reading {X = TypeName × Identifier × Option Bounds × Span} (λ x rest. SpellsMember ts x.0 x.1 x.2 x.3 rest × IsLowMember x.0 x.2) (StuckMember ts)

member_read : (ts : List Token) → ReadsMember ts
member_read ts = behind (type_name_read ts 0) (λ _ y. stuck.typed y)
    (λ x rest r. named (λ us. SpellsTypeName ts x us → ReadsMember ts) rest (λ us unnamed d. refused _ unexpected (stuck.name d r.1 unnamed))
    (λ n s us d. behind (optional_bounds_read zero_low (from_first ts s) us) (λ _ y. stuck.bounds d r.1 y) (λ b ws q. read (x, identifier n s, b.0, b.1) ws (g.member d q.0, (r.1, q.1)))) r.0)

-- a member with the bytes that it stands on
abbrev member_of : TypeName → Identifier → Option Bounds → Span → Member
member_of type name written span = record { type = type; name = name; bounds = written; span = span }

member_low : (m : Member) → IsLowMember m.type m.bounds → IsLow 0 (member_reach m)
member_low m low = low_beside 0 (type_reach m.type.base) (optional_bounds_reach m.bounds) low.0 low.1

members_low : (m : Member) (ms : List Member) → IsLowMember m.type m.bounds → IsLow 0 (members_reach ms) → IsLow 0 (members_reach (m ∷ ms))
members_low m ms low others = low_beside 0 (member_reach m) (members_reach ms) (member_low m low) others

abbrev ReadsMembers : List Token → Type 0
ReadsMembers ts = Reading {X = List Member} (λ x rest. SpellsMembers ts x rest × IsLow 0 (members_reach x)) (StuckMembers ts)

members_step : (ts : List Token) → ((us : List Token) → length us < length ts → ReadsMembers us) → ReadsMembers ts
members_step ts shorter = ended is_semicolon (member_read ts) (λ _ y. stuck.first y) (λ x rest r unended. stuck.end r.0 r.1 unended)
    (λ x t rest r. let m = member_of x.0 x.1 x.2 (join x.3 t) in
    marked is_close_brace (λ us. SpellsMember ts x.0 x.1 x.2 x.3 (token kinds.Semicolon t ∷ us) → ReadsMembers ts) rest
    (λ us more d. behind (shorter us (omega (arith, member_takes d))) (λ _ y. stuck.others d r.1 more y) (λ ms ws q. read (m ∷ ms) ws (g.more d q.0, members_low m ms r.1 q.1)))
    (λ p us d. read (m ∷ []) us (g.one d, members_low m [] r.1 zero_low)) r.0)

members_read : (ts : List Token) → ReadsMembers ts
members_read = by_length ReadsMembers members_step

abbrev ReadsListed : List Token → Type 0
ReadsListed ts = Reading {X = List Member × Span} (λ x rest. SpellsListed ts x.0 x.1 rest × IsLow 0 (members_reach x.0)) (StuckListed ts)

listed_step : (ts : List Token) → ((us : List Token) → length us < length ts → ReadsListed us) → ReadsListed ts
listed_step ts shorter = behind (member_read ts) (λ _ y. stuck.first y) (λ x rest r. by x.0 x.1 x.2 x.3 (next ends_argument rest) r.0 r.1)
  where
    by : (type : TypeName) (name : Identifier) (written : Option Bounds) (o : Span) {rest : List Token} → Next EndsArgument comma_or_paren rest → SpellsMember ts type name written o rest → IsLowMember type written → ReadsListed ts
    by type name written o (here {s = t} {rest} paren) d low = let m = member_of type name written o in read (m ∷ [], t) rest (g.one d, members_low m [] low zero_low)
    by type name written o (here {rest = us} comma) d low = let m = member_of type name written o in
        behind (shorter us (omega (arith, member_takes d))) (λ _ y. stuck.others d low y) (λ ms ws q. read (m ∷ ms.0, ms.1) ws (g.more d q.0, members_low m ms.0 low q.1))
    by type name written o (other neither) d low = refused _ unexpected (stuck.end d low neither)

listed_read : (ts : List Token) → ReadsListed ts
listed_read = by_length ReadsListed listed_step

abbrev ReadsParameters : List Token → Type 0
ReadsParameters ts = Reading {X = Parameters × Span} (λ x rest. SpellsParameters ts x.0 x.1 rest × IsLow 0 (parameters_reach x.0)) (StuckParameters ts)

parameters_read : (ts : List Token) → ReadsParameters ts
parameters_read ts = marked is_close_paren ReadsParameters ts some (λ t us. read (Nothing, t) us (g.nothing, zero_low))
  where
    some : (us : List Token) → next_is close_paren us ≡ false → ReadsParameters us
    some us unclosed = marked is_void (λ vs. next_is close_paren vs ≡ false → ReadsParameters vs) us
        (λ vs typed unclosed. behind (listed_read vs) (λ _ y. stuck.listed unclosed typed y) (λ ms rest r. read (Listed ms.0, ms.1) rest (g.listed r.0, r.1)))
        (λ s vs _. marked is_close_paren (λ ws. ReadsParameters (token (kinds.Keyword keywords.Void) s ∷ ws)) vs (λ ws unclosed. refused _ unexpected (stuck.void unclosed)) (λ t ws. read (VoidAlone, t) ws (g.void, zero_low)))
        unclosed

-- ---- bodies

abbrev ReadsBody : List Token → Type 0
ReadsBody ts = Reading {X = Option Body × Span} (λ x rest. SpellsBody ts x.0 x.1 rest × IsLow 0 (optional_body_reach x.0)) (StuckBody ts)

block_read : {s : Span} {ts us : List Token} {m : Option Mark} → SpellsOptionalMark ts m (token kinds.OpenBrace s ∷ us) → ReadsBody ts
block_read {ts} {us} {m} d = behind (statements_read {d = 1} (omega arith) us) (λ _ y. stuck.statements d y)
    (λ xs rest r. read (Some (record { mark = m; statements = xs.0; span = from_first ts xs.1 }), from_first ts xs.1) rest (g.present d r.0, low_around 0 (from_first ts xs.1).from (statements_reach xs.0) r.1))

body_read : (ts : List Token) → ReadsBody ts
body_read ts = by (next body_at ts)
  where
    by : {ts : List Token} → Next StartsBody body_word ts → ReadsBody ts
    by (here {s} {rest} none) = read (None, s) rest (g.absent, zero_low)
    by (here brace) = block_read (g.absent refl)
    by (here {k} {s} {rest} (mark is)) = marked is_open_brace (λ us. ReadsBody (token k s ∷ us)) rest (λ us other. refused _ unexpected (stuck.mark is other)) (λ p us. block_read (g.present is))
    by (other not) = refused _ unexpected (stuck.no_body not)

-- ---- words before an item, which are always read

record Kinded (ts : List Token) : Type 0 where
  kind : FunctionKind
  rest : List Token
  spelled : SpellsKind ts kind rest

kind_read : (ts : List Token) → Kinded ts
kind_read ts = by (next kind_word_at ts)
  where
    by : {ts : List Token} → Next IsKindWord kind_word ts → Kinded ts
    by (here tainted) = record { kind = Tainted; rest = _; spelled = g.tainted }
    by (here callback) = record { kind = Callback; rest = _; spelled = g.callback }
    by (other not) = record { kind = Trusted; rest = _; spelled = g.trusted not }

record Marked (ts : List Token) : Type 0 where
  mark : Option Mark
  rest : List Token
  spelled : SpellsOptionalMark ts mark rest

mark_read : (ts : List Token) → Marked ts
mark_read ts = by (next mark_at ts)
  where
    by : {ts : List Token} → Next (λ k. (w : Mark) × (mark_of k ≡ Some w)) mark_word ts → Marked ts
    by (here w) = record { mark = Some w.0; rest = _; spelled = g.present w.1 }
    by (other not) = record { mark = None; rest = _; spelled = g.absent not }

-- what stands behind these words: a function alone, or each item
data Side (tokens us : List Token) (k : FunctionKind) (m : Option Mark) : Type 0 where
  alone : ((result : ResultForm) → IsAlone k m result) → Side tokens us k m
  any : {b : Bool} → SpellsTainted tokens b us → Side tokens us k m

side : {tokens ts us : List Token} {k : FunctionKind} {m : Option Mark} → SpellsKind tokens k ts → SpellsOptionalMark ts m us → Side tokens us k m
side (g.trusted not) (g.absent f) = any (g.absent (untainted _ not))
side g.tainted (g.absent f) = any g.present
side g.callback (g.absent f) = alone (λ result. stuck.callback)
side d (g.present is) = alone (λ result. stuck.marked)

-- ---- items

abbrev ReadsItem : List Token → Type 0
ReadsItem ts = Reading {X = Item} (λ x rest. SpellsItem ts x rest × IsLow 0 (item_reach x)) (StuckItem ts)

-- behind the parenthesis that opens
function_read : {n : ℕ} {x : List ℕ} {s p : Span} {tokens ts us vs ws : List Token} {k : FunctionKind} {m : Option Mark} {result : ResultForm} → SpellsKind tokens k ts → SpellsOptionalMark ts m us → SpellsResult us result vs → IsLow 0 (result_reach result)
    → SpellsStars vs n (token (kinds.Name x) s ∷ token kinds.OpenParen p ∷ ws) → ReadsItem tokens
function_read {n} {x} {s} {tokens} {ws} {k} {m} {result} kd md d low stars = behind (parameters_read ws) (λ _ y. stuck.function_parameters kd md d low stars y)
    (λ ps xs r. behind (optional_bounds_read zero_low (from_first tokens ps.1) xs) (λ _ y. stuck.function_bounds kd md d low stars r.0 r.1 y)
    (λ b ys q. behind (body_read ys) (λ _ y. stuck.function_body kd md d low stars r.0 r.1 q.0 q.1 y)
    (λ bd rest t. read (FunctionItem (record { kind = k; mark = m; result = result; stars = n; name = identifier x s; parameters = ps.0; bounds = b.0; body = bd.0; span = from_first tokens bd.1 })) rest
    (g.function kd md d stars r.0 q.0 t.0, low_beside 0 (result_reach result beside parameters_reach ps.0 beside optional_bounds_reach b.0) (optional_body_reach bd.0) (low_beside 0 (result_reach result beside parameters_reach ps.0) (optional_bounds_reach b.0) (low_beside 0 (result_reach result) (parameters_reach ps.0) low r.1) q.1) t.1))))

-- behind the result of what is a function alone
alone_read : {tokens ts us vs : List Token} {k : FunctionKind} {m : Option Mark} {result : ResultForm} → IsAlone k m result → SpellsKind tokens k ts → SpellsOptionalMark ts m us → SpellsResult us result vs → IsLow 0 (result_reach result) → ReadsItem tokens
alone_read {tokens} {vs} is kd md d low = behind (stars_read vs) (λ _ y. absurd y)
    (λ n rest e. named (λ xs. SpellsStars vs n xs → ReadsItem tokens) rest (λ xs unnamed stars. refused _ unexpected (stuck.function_name kd md d low is stars unnamed))
    (λ x s xs e'. marked is_open_paren (λ ys. SpellsStars vs n (token (kinds.Name x) s ∷ ys) → ReadsItem tokens) xs (λ ys closed stars. refused _ unexpected (stuck.function_open kd md d low is stars closed)) (λ p ys stars. function_read kd md d low stars) e') e)

structure_read : {x : List ℕ} {s t p : Span} {tokens ts : List Token} {b : Bool} → SpellsTainted tokens b (token (kinds.Keyword keywords.Struct) s ∷ token (kinds.Name x) t ∷ token kinds.OpenBrace p ∷ ts) → ReadsItem tokens
structure_read {x} {t} {tokens} {ts} {b} d = ended is_semicolon (members_read ts) (λ _ y. stuck.members d y) (λ ms rest r not. stuck.structure_end d r.0 r.1 not)
    (λ ms q rest r. read (StructureItem (record { tainted = b; tag = identifier x t; members = ms; span = from_first tokens q })) rest (g.structure d r.0, r.1))

variables_read : {tokens ts us : List Token} {b : Bool} {base : TypeTree} → SpellsTainted tokens b ts → is_structure ts ≡ false → SpellsType ts base us → IsLow 0 (type_reach base) → is_function us ≡ false → ReadsItem tokens
variables_read {tokens} {us} {b} {base} t tag d low not = ended is_semicolon (declarators_read zero_low us) (λ _ y. stuck.variables t tag d low not y) (λ xs rest r end. stuck.variables_end t d low not r.0 r.1 end)
    (λ xs q rest r. read (GlobalItem (record { tainted = b; base = base; declarators = xs.0; span = from_first tokens q })) rest (g.global t d r.0, low_beside 0 (type_reach base) (declarators_reach xs.0) low r.1))

-- the word of a structure, its name and its brace
data Structure : List Token → Type 0 where
  structure : {x : List ℕ} {s t p : Span} {ts : List Token} → Structure (token (kinds.Keyword keywords.Struct) s ∷ token (kinds.Name x) t ∷ token kinds.OpenBrace p ∷ ts)

structure_at : (us : List Token) → is_structure us ≡ true → Structure us
structure_at us so = marked is_struct (λ vs. is_structure vs ≡ true → Structure vs) us (λ vs not so. never so (no_struct vs not))
    (λ s vs so. named (λ ws. is_name_before open_brace ws ≡ true → Structure (token (kinds.Keyword keywords.Struct) s ∷ ws)) vs (λ ws not so. never so (no_name open_brace ws not))
    (λ x t ws so. marked is_open_brace (λ xs. next_is open_brace xs ≡ true → Structure (token (kinds.Keyword keywords.Struct) s ∷ token (kinds.Name x) t ∷ xs)) ws (λ xs not so. never so not) (λ p xs so. structure) so) so) so

-- behind the words before it, where a type stands or is missing
typed_read : {tokens ts us : List Token} {k : FunctionKind} {m : Option Mark} {b : Bool} → next_is scope_word tokens ≡ false → SpellsKind tokens k ts → SpellsOptionalMark ts m us → next_is void_word us ≡ false → SpellsTainted tokens b us → is_structure us ≡ false → ReadsItem tokens
typed_read {tokens} {us} scoped kd md typed t tag = behind (type_read us 0) (λ _ y. stuck.result scoped kd md typed y) (λ x vs r. by x vs r.0 r.1 (is_function vs) refl)
  where
    called : (x : TypeTree) {vs : List Token} → SpellsType us x vs → IsLow 0 (type_reach x) → Ahead vs → ReadsItem tokens
    called x d low (call stars) = function_read kd md (g.value d) low stars

    by : (x : TypeTree) (vs : List Token) → SpellsType us x vs → IsLow 0 (type_reach x) → (is : Bool) → is_function vs ≡ is → ReadsItem tokens
    by x vs d low true so = called x d low (function_ahead vs so)
    by x vs d low false not = variables_read t tag d low not

-- behind the words before it, where no `void` stands
valued_read : {tokens ts us : List Token} {k : FunctionKind} {m : Option Mark} → next_is scope_word tokens ≡ false → SpellsKind tokens k ts → SpellsOptionalMark ts m us → next_is void_word us ≡ false → Side tokens us k m → ReadsItem tokens
valued_read {us} scoped kd md typed (alone is) = behind (type_read us 0) (λ _ y. stuck.result scoped kd md typed y) (λ x vs r. alone_read (is (Value x)) kd md (g.value r.0) r.1)
valued_read {tokens} {us} scoped kd md typed (any t) = by (is_structure us) refl
  where
    tagged : {vs : List Token} {b : Bool} → Structure vs → SpellsTainted tokens b vs → ReadsItem tokens
    tagged structure t = structure_read t

    by : (is : Bool) → is_structure us ≡ is → ReadsItem tokens
    by true so = tagged (structure_at us so) t
    by false not = typed_read scoped kd md typed t not

item_read : (tokens : List Token) → ReadsItem tokens
item_read tokens = by (next scope_at tokens)
  where
    worded : {tokens ts us : List Token} {k : FunctionKind} {m : Option Mark} → next_is scope_word tokens ≡ false → SpellsKind tokens k ts → SpellsOptionalMark ts m us → ReadsItem tokens
    worded {tokens} {ts} {us} {k} {m} scoped kd md = marked is_void (λ vs. SpellsOptionalMark ts m vs → ReadsItem tokens) us (λ vs typed d. valued_read scoped kd d typed (side kd d)) (λ s vs d. alone_read stuck.void kd d g.void zero_low) md

    by : {tokens : List Token} → Next IsScope scope_word tokens → ReadsItem tokens
    by (here {s} {rest} (scope {r} d)) = read (RegionItem r s) rest (g.region d, zero_low)
    by {tokens} (other not) = let kd = kind_read tokens in worded not kd.spelled (mark_read kd.rest).spelled

-- ---- the whole source

item_some : (x : Item) → 1 ≤ item_weight x
item_some (RegionItem region span) = omega arith
item_some (StructureItem x) = omega arith
item_some (GlobalItem x) = omega arith
item_some (FunctionItem x) = omega arith

abbrev ReadsItems : List Token → Type 0
ReadsItems ts = Reading {X = List Item} (λ x rest. SpellsItems ts x × IsLow 0 (items_reach x)) (StuckItems ts)

items_step : (ts : List Token) → ((us : List Token) → length us < length ts → ReadsItems us) → ReadsItems ts
items_step [] shorter = read [] [] (g.none, zero_low)
items_step (t ∷ ts) shorter = behind (item_read (t ∷ ts)) (λ _ y. stuck.first y)
    (λ x mid r. behind (shorter mid (omega (arith, item_takes r.0, item_some x))) (λ _ y. stuck.others r.0 r.1 y)
    (λ xs rest q. read (x ∷ xs) rest (g.more r.0 q.0, low_beside 0 (item_reach x) (items_reach xs) r.1 q.1)))

items_read : (ts : List Token) → ReadsItems ts
items_read = by_length ReadsItems items_step

fault_of : {length : ℕ} {tokens : List Token} {f : Failure} → IsRefusal f → FaultIs length tokens f → (fault : SourceFault) × IsFault length tokens fault
fault_of (readings.unexpected {at = []}) d = (_, d)
fault_of (readings.unexpected {at = t ∷ ts}) d = (_, d)
fault_of readings.too_deep d = (_, d)

pub tree_or_fault : (length : ℕ) (tokens : List Token) → ((t : Tree) × IsTree length tokens t) ⊎ ((f : SourceFault) × IsFault length tokens f)
tree_or_fault length tokens = by (items_read tokens)
  where
    by : ReadsItems tokens → ((t : Tree) × IsTree length tokens t) ⊎ ((f : SourceFault) × IsFault length tokens f)
    by (read xs rest d) = inl (_, record { spelled = g.program d.0; low = omega (arith, d.1) })
    by (refused f is d) = inr (fault_of is (stuck_is_fault length tokens f d))
