-- What stands at file level: from what was read before a part and what the part answered.
use Rattle.std.proofs.Common.{◌≡◌, ◌<◌, ◌≤◌, ℕ, length, Bool, false, List, [], ◌∷◌, Option, None, refl, ◌∙◌, arith}
use Rattle.ckc_text.specs.declared.place.Span.{Span}
use Rattle.ckc_lexer.specs.declared.token.Token.{Token}
use Rattle.ckc_lexer.specs.declared.token.TokenKind.{TokenKind}
use Rattle.ckc_lexer.specs.declared.keyword.Keyword.TheVariants as keywords
use Rattle.ckc_lexer.specs.declared.token.TokenKind.TheVariants as kinds
use Rattle.ckc_tree.specs.declared.identifier.Identifier.{Identifier}
use Rattle.ckc_tree.specs.declared.stmt.Mark.{Mark}
use Rattle.ckc_tree.specs.declared.item.Item as code
use Rattle.ckc_tree.specs.declared.item.FunctionKind.{FunctionKind}
use Rattle.ckc_tree.specs.Types.{TypeName}
use Rattle.ckc_tree.specs.Expressions.{Bounds}
use Rattle.ckc_tree.specs.Items.{Member, ResultForm, Void, Parameters, Body, Item}
use Rattle.ckc_tree.specs.Heights.{result_reach, member_reach}
use Rattle.ckc_parser_grammar.specs.Tokens as words
use Rattle.ckc_parser_grammar.specs.Tokens.{token, next_is, star, mark_word, open_paren}
use Rattle.ckc_parser_grammar.specs.TypeGrammar as types
use Rattle.ckc_parser_grammar.specs.TypeGrammar.{SpellsStars}
use Rattle.ckc_parser_grammar.specs.ItemGrammar as g
use Rattle.ckc_parser_grammar.specs.ItemGrammar.{SpellsTainted, SpellsKind, SpellsOptionalMark, SpellsMember, SpellsListed, SpellsParameters, SpellsResult, SpellsBody, SpellsItem}
use Rattle.ckc_parser_grammar.specs.Failures.{Failure, unexpected, IsLow}
use Rattle.ckc_parser_grammar.specs.StuckExpressions.{close_paren, comma_or_paren}
use Rattle.ckc_parser_grammar.specs.StuckStatements.{open_brace, semicolon}
use Rattle.ckc_parser_grammar.specs.StuckItems as stuck
use Rattle.ckc_parser_grammar.specs.StuckItems.{scope_word, body_word, is_name_before, is_function, IsAlone, IsLowMember, StuckBody, StuckItem, StuckItems}
use Rattle.ckc_parser.specs.ItemReadings as r
use Rattle.ckc_parser.specs.ItemReadings.{IsSide, IsLed, IsStructureHead, StuckNamed, StuckResult}
use Rattle.ckc_parser_grammar.proofs.Lists.{GoesOn, AreItems, ended}
use Rattle.ckc_parser_grammar.proofs.Paths.{low_beside, shorter}
use Rattle.ckc_parser_grammar.proofs.TypePaths.{type_path, type_name_path, stars_path}
use Rattle.ckc_parser_grammar.proofs.StatementPaths.{optional_bounds_path, declarators_path, statements_path}
use Rattle.ckc_parser_grammar.proofs.ItemPaths.{members_path}
use Rattle.ckc_parser_grammar.proofs.Ahead.{untainted, no_name}

-- ---- words before an item

pub is_led : {ts mid rest : List Token} {kind : FunctionKind} {mark : Option Mark} → next_is scope_word ts ≡ false → SpellsKind ts kind mid → SpellsOptionalMark mid mark rest → IsLed ts kind mark rest
is_led none k m = record { marked = _; no_scope = none; spelled_kind = k; spelled_mark = m }

of_side : {ts rest : List Token} {kind : FunctionKind} {tainted : Bool} → SpellsKind ts kind rest → IsSide kind tainted → SpellsTainted ts tainted rest
of_side (g.trusted none) r.trusted = g.absent (untainted _ none)
of_side g.tainted r.tainted = g.present
of_side g.callback side = elim side [ ]

pub is_tainted : {ts mid rest : List Token} {kind : FunctionKind} {tainted : Bool} → SpellsKind ts kind mid → SpellsOptionalMark mid None rest → IsSide kind tainted → SpellsTainted ts tainted rest
is_tainted k (g.absent none) side = of_side k side

-- ---- what is seen some tokens ahead

function_here : (ts : List Token) → next_is star ts ≡ false → is_function ts ≡ is_name_before open_paren ts
function_here [] none = refl
function_here (t ∷ ts) none = rw none refl

function_behind : {n : ℕ} {ts rest : List Token} → SpellsStars ts n rest → is_function ts ≡ is_name_before open_paren rest
function_behind (types.none none) = function_here _ none
function_behind (types.more d) = function_behind d

pub no_function : {ts : List Token} {f : Failure} → StuckNamed ts f → is_function ts ≡ false
no_function (r.name d none) = function_behind d ∙ no_name open_paren _ none
no_function (r.opens d none) = function_behind d ∙ none

pub structure_at : {x : List ℕ} {w s b : Span} {ts us vs rest : List Token} → ts ≡ token (kinds.Keyword keywords.Struct) w ∷ us → us ≡ token (kinds.Name x) s ∷ vs → vs ≡ token kinds.OpenBrace b ∷ rest → IsStructureHead x s ts rest
structure_at {w} {b} word name brace = record { word = w; brace = b; at = rw (word, name, brace) refl }

-- ---- functions

pub void_result : {s : Span} {ts rest : List Token} → ts ≡ token (kinds.Keyword keywords.Void) s ∷ rest → SpellsResult ts (Void s) rest
void_result at = rw at g.void

pub stuck_result : {ts rest : List Token} {kind : FunctionKind} {mark : Option Mark} {f : Failure} → IsLed ts kind mark rest → StuckResult rest f → StuckItem ts f
stuck_result led (r.value none fails) = stuck.result led.no_scope led.spelled_kind led.spelled_mark none fails

pub stuck_callee : {ts mid rest : List Token} {kind : FunctionKind} {mark : Option Mark} {result : ResultForm} {f : Failure} → IsLed ts kind mark mid → SpellsResult mid result rest → IsLow 0 (result_reach result) → IsAlone kind mark result → StuckNamed rest f → StuckItem ts f
stuck_callee led d low alone (r.name stars none) = stuck.function_name led.spelled_kind led.spelled_mark d low alone stars none
stuck_callee led d low alone (r.opens stars none) = stuck.function_open led.spelled_kind led.spelled_mark d low alone stars none

neither_comma : (k : TokenKind) → words.comma k ≡ false → close_paren k ≡ false → comma_or_paren k ≡ false
neither_comma kinds.Comma m c = m
neither_comma kinds.CloseParen m c = c
neither_comma k m c = refl

pub no_comma_or_paren : (ts : List Token) → next_is words.comma ts ≡ false → next_is close_paren ts ≡ false → next_is comma_or_paren ts ≡ false
no_comma_or_paren [] m c = refl
no_comma_or_paren (t ∷ ts) m c = neither_comma t.kind m c

-- ---- bodies

neither_body : (k : TokenKind) → semicolon k ≡ false → mark_word k ≡ false → open_brace k ≡ false → body_word k ≡ false
neither_body kinds.Semicolon s m b = s
neither_body kinds.OpenBrace s m b = b
neither_body k s m b = m

no_body_word : (ts : List Token) → next_is semicolon ts ≡ false → next_is mark_word ts ≡ false → next_is open_brace ts ≡ false → next_is body_word ts ≡ false
no_body_word [] s m o = refl
no_body_word (t ∷ ts) s m o = neither_body t.kind s m o

pub stuck_brace : {ts rest : List Token} {mark : Option Mark} → SpellsOptionalMark ts mark rest → next_is semicolon ts ≡ false → next_is open_brace rest ≡ false → StuckBody ts (unexpected rest)
stuck_brace (g.absent none) ends opens = stuck.no_body (no_body_word _ ends none opens)
stuck_brace (g.present w) ends opens = stuck.mark w opens

-- ---- members and parameters

pub low_member : (m : Member) → IsLowMember m.type m.bounds → IsLow 0 (member_reach m)
low_member m low = low_beside _ _ _ low.0 low.1

-- a parameter reads as a member does
pub low_parameter : (p m : Member) → p ≡ m → IsLowMember m.type m.bounds → IsLow 0 (member_reach p)
low_parameter p m same low = rw same (low_member m low)

pub member_shorter : {ts rest : List Token} {type : TypeName} {name : Identifier} {written : Option Bounds} {o : Span} → SpellsMember ts type name written o rest → length rest < length ts
member_shorter (g.member d b) = omega (arith, shorter (type_name_path d), shorter (optional_bounds_path b))

-- ---- how many tokens an item takes

tainted_shorter : {ts rest : List Token} {tainted : Bool} → SpellsTainted ts tainted rest → length rest ≤ length ts
tainted_shorter (g.absent none) = omega arith
tainted_shorter g.present = omega arith

kind_shorter : {ts rest : List Token} {kind : FunctionKind} → SpellsKind ts kind rest → length rest ≤ length ts
kind_shorter (g.trusted none) = omega arith
kind_shorter g.tainted = omega arith
kind_shorter g.callback = omega arith

mark_shorter : {ts rest : List Token} {mark : Option Mark} → SpellsOptionalMark ts mark rest → length rest ≤ length ts
mark_shorter (g.absent none) = omega arith
mark_shorter (g.present w) = omega arith

result_shorter : {ts rest : List Token} {result : ResultForm} → SpellsResult ts result rest → length rest ≤ length ts
result_shorter g.void = omega arith
result_shorter (g.value d) = omega (arith, shorter (type_path d))

listed_shorter : {ts rest : List Token} {members : List Member} {t : Span} → SpellsListed ts members t rest → length rest ≤ length ts
listed_shorter (g.one d) = omega (arith, member_shorter d)
listed_shorter (g.more d m) = omega (arith, member_shorter d, listed_shorter m)

parameters_shorter : {ts rest : List Token} {parameters : Parameters} {t : Span} → SpellsParameters ts parameters t rest → length rest ≤ length ts
parameters_shorter g.nothing = omega arith
parameters_shorter g.void = omega arith
parameters_shorter (g.listed d) = omega (arith, listed_shorter d)

body_shorter : {ts rest : List Token} {body : Option Body} {t : Span} → SpellsBody ts body t rest → length rest ≤ length ts
body_shorter g.absent = omega arith
body_shorter (g.present m d) = omega (arith, mark_shorter m, shorter (statements_path d))

pub item_shorter : {ts rest : List Token} {item : Item} → SpellsItem ts item rest → length rest < length ts
item_shorter (g.region d) = omega arith
item_shorter (g.structure t d) = omega (arith, tainted_shorter t, shorter (members_path d))
item_shorter (g.global t b d) = omega (arith, tainted_shorter t, shorter (type_path b), shorter (declarators_path d))
item_shorter (g.function k m r st p b body) = omega (arith, kind_shorter k, mark_shorter m, result_shorter r, shorter (stars_path st), parameters_shorter p, shorter (optional_bounds_path b), body_shorter body)

-- ---- the whole source

pub stuck_first : {t : Token} {ts rest : List Token} {f : Failure} → ts ≡ t ∷ rest → StuckItem ts f → StuckItems ts f
stuck_first {t} {rest} at fails = rw at (stuck.first {t = t} {ts = rest} (rw at at fails))

pub none_left : {ts : List Token} {items : List code.Item} (rest : List Token) (w : Span) → GoesOn AreItems StuckItems ts items rest → length rest ≡ 0 → AreItems ts items w rest
none_left [] w so_far none = ended {end = []} {w = w} so_far (g.none, omega arith)
none_left (t ∷ rest) w so_far none = absurd (omega arith)
