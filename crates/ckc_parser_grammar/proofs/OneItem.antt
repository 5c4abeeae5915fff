-- Tokens spell one tree.
use Rattle.std.proofs.Common.{◌≡◌, ℕ, Bool, true, false, List, [], ◌∷◌, Option, refl, sym, ap, subst, ◌∙◌, arith}
use Rattle.std.specs.Option.{is_some}
use Rattle.ckc_text.specs.declared.place.Span.{Span}
use Rattle.ckc_lexer.specs.declared.token.CheckedScope.{CheckedScope}
use Rattle.ckc_lexer.specs.declared.token.Token.{Token}
use Rattle.ckc_lexer.specs.declared.token.TokenKind.{TokenKind}
use Rattle.ckc_lexer.specs.declared.keyword.Keyword.TheVariants as keywords
use Rattle.ckc_lexer.specs.declared.token.TokenKind.TheVariants as kinds
use Rattle.ckc_tree.specs.declared.identifier.Identifier.{Identifier}
use Rattle.ckc_tree.specs.declared.stmt.Mark.{Mark}
use Rattle.ckc_tree.specs.declared.item.Region.{Region}
use Rattle.ckc_tree.specs.declared.item.FunctionKind.{FunctionKind}
use Rattle.ckc_tree.specs.Types.{TypeTree, TypeName}
use Rattle.ckc_tree.specs.Expressions.{Bounds}
use Rattle.ckc_tree.specs.declared.stmt.ArrayForm.{ArrayForm}
use Rattle.ckc_tree.specs.Statements.{Declarator, Initializer}
use Rattle.ckc_tree.specs.Items as trees
use Rattle.ckc_tree.specs.Items.{Member, ResultForm, Parameters, Body, Item, Tree}
use Rattle.ckc_parser_grammar.specs.Tokens as words
use Rattle.ckc_parser_grammar.specs.Tokens.{token, join, from_first}
use Rattle.ckc_parser_grammar.specs.TypeGrammar.{SpellsStars, SpellsType}
use Rattle.ckc_parser_grammar.specs.TypeGrammar as types
use Rattle.ckc_parser_grammar.specs.StatementGrammar as stmts
use Rattle.ckc_parser_grammar.specs.StatementGrammar.{SpellsOptionalBounds, SpellsOptionalArray, SpellsOptionalInitializer, SpellsDeclarator, SpellsDeclarators, SpellsStatements}
use Rattle.ckc_parser_grammar.specs.ItemGrammar as g
use Rattle.ckc_parser_grammar.specs.ItemGrammar.{SpellsTainted, SpellsKind, SpellsOptionalMark, SpellsMember, SpellsMembers, SpellsResult, SpellsListed, SpellsParameters, SpellsBody, SpellsRegion, SpellsItem, SpellsItems, SpellsProgram}
use Rattle.ckc_parser_grammar.proofs.OneType.{Same, first_span, rest_of, stars_same, type_same, type_name_same}
use Rattle.ckc_parser_grammar.proofs.OneExpression.{Read, SameRead, first_kind, behind, form, typed, after}
use Rattle.ckc_parser_grammar.proofs.Roles.{role_at, type_role, mark_role}
use Rattle.ckc_parser_grammar.proofs.OneStatement.{first_name, stands, optional_bounds_same, declarators_from, statements_same}
use Rattle.ckc_parser_grammar.proofs.OneMeaning.{same_word, says_nothing, pointer_struct}
use Rattle.ckc_parser_grammar.specs.StuckItems.{struct_word}

pub tainted_same : {ts r r' : List Token} {b b' : Bool} → SpellsTainted ts b r → SpellsTainted ts b' r' → Same b r b' r'
tainted_same (g.absent f) (g.absent f') = refl
tainted_same (g.absent f) g.present = absurd cc
tainted_same g.present (g.absent f) = absurd cc
tainted_same g.present g.present = refl

pub kind_same : {ts r r' : List Token} {k k' : FunctionKind} → SpellsKind ts k r → SpellsKind ts k' r' → Same k r k' r'
kind_same (g.trusted f) (g.trusted f') = refl
kind_same (g.trusted f) g.tainted = absurd cc
kind_same (g.trusted f) g.callback = absurd cc
kind_same g.tainted (g.trusted f) = absurd cc
kind_same g.callback (g.trusted f) = absurd cc
kind_same g.tainted g.tainted = refl
kind_same g.callback g.callback = refl

pub optional_mark_same : {ts r r' : List Token} {m m' : Option Mark} → SpellsOptionalMark ts m r → SpellsOptionalMark ts m' r' → Same m r m' r'
optional_mark_same (g.absent f) (g.absent f') = refl
optional_mark_same (g.absent f) (g.present w) = let h : true ≡ false = sym (ap is_some w) ∙ f in absurd cc
optional_mark_same (g.present w) (g.absent f) = let h : true ≡ false = sym (ap is_some w) ∙ f in absurd cc
optional_mark_same (g.present w) (g.present w') = rw (same_word w w') refl

-- what is read of a member
pub record Parts : Type 0 where
  pub type : TypeName
  pub name : Identifier
  pub written : Option Bounds

member_same : {ts r r' : List Token} {t t' : TypeName} {n n' : Identifier} {b b' : Option Bounds} {o o' : Span} → SpellsMember ts t n b o r → SpellsMember ts t' n' b' o' r'
    → SameRead {A = Parts} (record { type = t; name = n; written = b }) o r (record { type = t'; name = n'; written = b' }) o' r'
member_same (g.member {ts} d b) (g.member {w = w'} {rest = rest'} {written = written'} d' b') =
    let type_is = type_name_same d d' in
    let bounds_is = optional_bounds_same b (subst (λ (x : List Token). SpellsOptionalBounds (from_first ts (first_span x)) (rest_of x) written' w' rest') (sym (after type_is)) b') in
    rw (typed type_is, ap first_name (after type_is), ap first_span (after type_is), form bounds_is, stands bounds_is, behind bounds_is) refl

move_members : {us ts r : List Token} {ms : List Member} → us ≡ ts → SpellsMembers ts ms r → SpellsMembers us ms r
move_members {r} {ms} same d = subst (λ (x : List Token). SpellsMembers x ms r) (sym same) d

abbrev member_of : Parts → Span → Member
member_of p s = record { type = p.type; name = p.name; bounds = p.written; span = s }

no_member : {ts r : List Token} {t : TypeName} {n : Identifier} {b : Option Bounds} {o : Span} → SpellsMember ts t n b o r → role_at ts ≡ 1
no_member (g.member (types.type_name d e) b) = type_role d

members_role : {ts r : List Token} {ms : List Member} → SpellsMembers ts ms r → role_at ts ≡ 1
members_role (g.one d) = no_member d
members_role (g.more d m) = no_member d

brace_apart : {us rest : List Token} {p : Span} → us ≡ token kinds.CloseBrace p ∷ rest → role_at us ≡ 1 → ⊥
brace_apart same h =
    let e : 0 ≡ 1 = sym (ap role_at same) ∙ h in
    absurd (omega (arith, e))

members_same : {ts r r' : List Token} {ms ms' : List Member} → SpellsMembers ts ms r → SpellsMembers ts ms' r' → Same ms r ms' r'
members_same (g.one d) (g.one d') =
    ap (λ (x : Read Parts). (member_of x.0 (join x.1 (first_span x.2)) ∷ [], rest_of (rest_of x.2))) (member_same d d')
members_same (g.one d) (g.more d' m') = absurd (brace_apart (sym (ap rest_of (behind (member_same d d')))) (members_role m'))
members_same (g.more d m) (g.one d') = absurd (brace_apart (ap rest_of (behind (member_same d d'))) (members_role m))
members_same (g.more d m) (g.more {rest = r'} {members = members'} d' m') =
    let first_is = member_same d d' in
    let others = members_same m (move_members (ap rest_of (behind first_is)) m') in
    rw (typed others, after others) (ap (λ (x : Read Parts). (member_of x.0 (join x.1 (first_span x.2)) ∷ members', r')) first_is)

-- ---- functions

result_same : {ts r r' : List Token} {t t' : ResultForm} → SpellsResult ts t r → SpellsResult ts t' r' → Same t r t' r'
result_same g.void g.void = refl
result_same g.void (g.value d) = absurd (omega (arith, type_role d))
result_same (g.value d) g.void = absurd (omega (arith, type_role d))
result_same (g.value d) (g.value d') = ap (λ (x : TypeTree × List Token). (trees.Value x.0, x.1)) (type_same d d')

move_listed : {us ts r : List Token} {ms : List Member} {t : Span} → us ≡ ts → SpellsListed ts ms t r → SpellsListed us ms t r
move_listed {r} {ms} {t} same d = subst (λ (x : List Token). SpellsListed x ms t r) (sym same) d

paren_comma : {ts us : List Token} {s t : Span} → ◌≡◌ {A = List Token} (token kinds.CloseParen s ∷ ts) (token kinds.Comma t ∷ us) → ⊥
paren_comma same =
    let h : kinds.CloseParen ≡ kinds.Comma = ap first_kind same in
    absurd cc

listed_same : {ts r r' : List Token} {ms ms' : List Member} {t t' : Span} → SpellsListed ts ms t r → SpellsListed ts ms' t' r' → SameRead ms t r ms' t' r'
listed_same (g.one d) (g.one d') = ap (λ (x : Read Parts). (member_of x.0 x.1 ∷ [], first_span x.2, rest_of x.2)) (member_same d d')
listed_same (g.one d) (g.more d' m') = absurd (paren_comma (behind (member_same d d')))
listed_same (g.more d m) (g.one d') = absurd (paren_comma (sym (behind (member_same d d'))))
listed_same (g.more d m) (g.more {t = t'} {rest = r'} {members = members'} d' m') =
    let first_is = member_same d d' in
    let others = listed_same m (move_listed (ap rest_of (behind first_is)) m') in
    rw (form others, stands others, behind others) (ap (λ (x : Read Parts). (member_of x.0 x.1 ∷ members', t', r')) first_is)

listed_role : {ts r : List Token} {ms : List Member} {t : Span} → SpellsListed ts ms t r → role_at ts ≡ 1
listed_role (g.one d) = no_member d
listed_role (g.more d m) = no_member d

pub parameters_same : {ts r r' : List Token} {ms ms' : Parameters} {t t' : Span} → SpellsParameters ts ms t r → SpellsParameters ts ms' t' r' → SameRead ms t r ms' t' r'
parameters_same g.nothing g.nothing = refl
parameters_same g.void g.void = refl
parameters_same g.nothing (g.listed d) = absurd (omega (arith, listed_role d))
parameters_same (g.listed d) g.nothing = absurd (omega (arith, listed_role d))
parameters_same g.void (g.listed d) = absurd (omega (arith, listed_role d))
parameters_same (g.listed d) g.void = absurd (omega (arith, listed_role d))
parameters_same (g.listed d) (g.listed d') = ap (λ (x : Read (List Member)). (trees.Listed x.0, x.1, x.2)) (listed_same d d')

not_body : {m : Option Mark} {s t : Span} {ts us : List Token} → SpellsOptionalMark (token kinds.Semicolon t ∷ ts) m (token kinds.OpenBrace s ∷ us) → ⊥
not_body (g.present w) = says_nothing w

body_same : {ts r r' : List Token} {b b' : Option Body} {t t' : Span} → SpellsBody ts b t r → SpellsBody ts b' t' r' → SameRead b t r b' t' r'
body_same g.absent g.absent = refl
body_same g.absent (g.present m d) = absurd (not_body m)
body_same (g.present m d) g.absent = absurd (not_body m)
body_same (g.present {ts} m d) (g.present {t = t'} {rest = r'} {statements = statements'} m' d') =
    let mark_is = optional_mark_same m m' in
    let inner = statements_same d (subst (λ (x : List Token). SpellsStatements x statements' t' r') (sym (ap rest_of (after mark_is))) d') in
    rw (typed mark_is, form inner, stands inner, behind inner) refl

-- ---- items of two kinds start apart

-- a star or a name
abbrev pub names : TokenKind → Bool
names kinds.Star = true
names (kinds.Name x) = true
names _ = false

abbrev pub names_at : List Token → Bool
names_at [] = false
names_at (t ∷ ts) = names t.kind

pub stars_name : {ts r : List Token} {n : ℕ} {x : List ℕ} {s : Span} → SpellsStars ts n (token (kinds.Name x) s ∷ r) → names_at ts ≡ true
stars_name (types.none f) = refl
stars_name (types.more d) = refl

pub declarator_name : {ts r : List Token} {d : Declarator} → SpellsDeclarator ts d r → names_at ts ≡ true
declarator_name (stmts.declarator st a b i) = stars_name st

pub declarators_name : {ts r : List Token} {ds : List Declarator} {w : Span} → SpellsDeclarators ts ds w r → names_at ts ≡ true
declarators_name (stmts.one d f) = declarator_name d
declarators_name (stmts.more d m) = declarator_name d

pub struct_rest : {ts r us : List Token} {b : TypeTree} {s t : Span} {x : List ℕ} → ts ≡ token (kinds.Keyword keywords.Struct) s ∷ token (kinds.Name x) t ∷ r → SpellsType ts b us → us ≡ r
struct_rest same types.int = let h : (kinds.Keyword keywords.Int) ≡ (kinds.Keyword keywords.Struct) = ap first_kind same in absurd cc
struct_rest same types.char = let h : (kinds.Keyword keywords.Char) ≡ (kinds.Keyword keywords.Struct) = ap first_kind same in absurd cc
struct_rest same types.struct = ap (λ (x : List Token). rest_of (rest_of x)) same
struct_rest same (types.pointer {k} w d e) = let h : true ≡ false = sym (ap struct_word (ap first_kind same)) ∙ pointer_struct k w in absurd cc

brace_names : {us ts : List Token} {p : Span} → us ≡ token kinds.OpenBrace p ∷ ts → names_at us ≡ true → ⊥
brace_names same h = let e : false ≡ true = sym (ap names_at same) ∙ h in absurd cc

-- behind the words before an item that starts with a type, none of them is left
pub plain_kind : {tokens ts us : List Token} {b : Bool} {k : FunctionKind} → SpellsTainted tokens b ts → SpellsKind tokens k us → role_at ts ≡ 1 → ts ≡ us
plain_kind (g.absent f) (g.trusted f') h = refl
plain_kind (g.absent f) g.tainted h = absurd cc
plain_kind (g.absent f) g.callback h = absurd (omega (arith, h))
plain_kind g.present (g.trusted f) h = absurd cc
plain_kind g.present g.tainted h = refl

plain_mark : {us vs : List Token} {m : Option Mark} → SpellsOptionalMark us m vs → role_at us ≡ 1 → us ≡ vs
plain_mark (g.absent f) h = refl
plain_mark (g.present {k} w) h = absurd (omega (arith, h, mark_role k w))

pub plain : {tokens ts us vs : List Token} {b : Bool} {k : FunctionKind} {m : Option Mark} → SpellsTainted tokens b ts → SpellsKind tokens k us → SpellsOptionalMark us m vs → role_at ts ≡ 1 → ts ≡ vs
plain t k m h =
    let same = plain_kind t k h in
    same ∙ plain_mark m (subst (λ (x : List Token). role_at x ≡ 1) same h)

-- the result of a function that starts with a type
pub value_type : {us vs : List Token} {t : ResultForm} → SpellsResult us t vs → role_at us ≡ 1 → (base : TypeTree) × SpellsType us base vs
value_type g.void h = absurd (omega (arith, h))
value_type (g.value {base} d) h = (base, d)

array_first : {o p : Span} {us vs : List Token} {a : Option ArrayForm} → SpellsOptionalArray o us a p vs → first_kind us ≡ kinds.OpenParen → first_kind vs ≡ kinds.OpenParen
array_first (stmts.absent f) same = same
array_first (stmts.present w) same = let h : true ≡ false = sym (ap is_some w) ∙ ap words.array_word same in absurd cc

bounds_first : {o p : Span} {us vs : List Token} {a : Option Bounds} → SpellsOptionalBounds o us a p vs → first_kind us ≡ kinds.OpenParen → first_kind vs ≡ kinds.OpenParen
bounds_first (stmts.absent f) same = same
bounds_first (stmts.present d) same = absurd cc

initializer_first : {o p : Span} {us vs : List Token} {a : Option Initializer} → SpellsOptionalInitializer o us a p vs → first_kind us ≡ kinds.OpenParen → first_kind vs ≡ kinds.OpenParen
initializer_first (stmts.absent f) same = same
initializer_first (stmts.value d) same = absurd cc
initializer_first (stmts.constants d) same = absurd cc

declarator_call : {ts r zs : List Token} {n : ℕ} {x : List ℕ} {s p : Span} {d : Declarator} → SpellsStars ts n (token (kinds.Name x) s ∷ token kinds.OpenParen p ∷ zs) → SpellsDeclarator ts d r → first_kind r ≡ kinds.OpenParen
declarator_call st (stmts.declarator st' a b i) =
    initializer_first i (bounds_first b (array_first a (ap (λ (x : List Token). first_kind (rest_of x)) (sym (after (stars_same st st'))))))

pub not_call : {ts r zs : List Token} {n : ℕ} {x : List ℕ} {s p q w : Span} {ds : List Declarator} → SpellsStars ts n (token (kinds.Name x) s ∷ token kinds.OpenParen p ∷ zs) → SpellsDeclarators ts ds w (token kinds.Semicolon q ∷ r) → ⊥
not_call st (stmts.one d f) = let h = declarator_call st d in absurd cc
not_call st (stmts.more d m) = let h = declarator_call st d in absurd cc

structure_global : {tokens ts us vs r : List Token} {b b' : Bool} {x : List ℕ} {s t p w : Span} {base : TypeTree} {ds : List Declarator}
    → SpellsTainted tokens b (token (kinds.Keyword keywords.Struct) s ∷ token (kinds.Name x) t ∷ token kinds.OpenBrace p ∷ ts) → SpellsTainted tokens b' us → SpellsType us base vs → SpellsDeclarators vs ds w r → ⊥
structure_global t t' d e = brace_names (struct_rest (sym (after (tainted_same t t'))) d) (declarators_name e)

pub structure_function : {tokens ts us vs ws zs : List Token} {b : Bool} {k : FunctionKind} {m : Option Mark} {x y : List ℕ} {s t p q : Span} {res : ResultForm} {n : ℕ}
    → SpellsTainted tokens b (token (kinds.Keyword keywords.Struct) s ∷ token (kinds.Name x) t ∷ token kinds.OpenBrace p ∷ ts) → SpellsKind tokens k us → SpellsOptionalMark us m vs → SpellsResult vs res ws → SpellsStars ws n (token (kinds.Name y) q ∷ zs) → ⊥
structure_function t k m d e =
    let same = plain t k m refl in
    let value = value_type d (subst (λ (x : List Token). role_at x ≡ 1) same refl) in
    brace_names (struct_rest (sym same) value.1) (stars_name e)

pub global_function : {tokens ts us us' vs ws zs r : List Token} {b : Bool} {k : FunctionKind} {m : Option Mark} {y : List ℕ} {q q' o p : Span} {res : ResultForm} {n : ℕ} {base : TypeTree} {ds : List Declarator}
    → SpellsTainted tokens b ts → SpellsType ts base us' → SpellsDeclarators us' ds o (token kinds.Semicolon q' ∷ r) → SpellsKind tokens k us → SpellsOptionalMark us m vs → SpellsResult vs res ws → SpellsStars ws n (token (kinds.Name y) q ∷ token kinds.OpenParen p ∷ zs) → ⊥
global_function {us'} {ws} {zs} {y} {q} {p} {n} t d e k m res st =
    let same = plain t k m (type_role d) in
    let value = value_type res (subst (λ (x : List Token). role_at x ≡ 1) same (type_role d)) in
    let base_is = type_same d (subst (λ (x : List Token). SpellsType x value.0 ws) (sym same) value.1) in
    not_call (subst (λ (x : List Token). SpellsStars x n (token (kinds.Name y) q ∷ token kinds.OpenParen p ∷ zs)) (sym (after base_is)) st) e

pub scope_global : {ts us r : List Token} {b : Bool} {sc : CheckedScope} {s : Span} {base : TypeTree} → SpellsTainted (token (kinds.Scope sc) s ∷ r) b ts → SpellsType ts base us → ⊥
scope_global (g.absent f) d = absurd (omega (arith, type_role d))

pub scope_function : {ts us vs r : List Token} {k : FunctionKind} {m : Option Mark} {sc : CheckedScope} {s : Span} {t : ResultForm} → SpellsKind (token (kinds.Scope sc) s ∷ r) k ts → SpellsOptionalMark ts m us → SpellsResult us t vs → ⊥
scope_function (g.trusted f) (g.absent f') (g.value d) = absurd (omega (arith, type_role d))
scope_function (g.trusted f) (g.present w) d = says_nothing w

region_same : {sc : CheckedScope} {x y : Region} → SpellsRegion sc x → SpellsRegion sc y → x ≡ y
region_same g.on g.on = refl
region_same g.off g.off = refl

-- ---- two readings of a source are one

pub item_same : {ts r r' : List Token} {i i' : Item} → SpellsItem ts i r → SpellsItem ts i' r' → Same i r i' r'
item_same (g.region w) (g.region w') = rw (region_same w w') refl
item_same (g.region w) (g.structure t m) = elim t [ ]
item_same (g.region w) (g.global t d e) = absurd (scope_global t d)
item_same (g.region w) (g.function k m d e p b y) = absurd (scope_function k m d)
item_same (g.structure t m) (g.region w) = elim t [ ]
item_same (g.global t d e) (g.region w) = absurd (scope_global t d)
item_same (g.function k m d e p b y) (g.region w) = absurd (scope_function k m d)
item_same (g.structure t m) (g.global t' d e) = absurd (structure_global t t' d e)
item_same (g.global t' d e) (g.structure t m) = absurd (structure_global t t' d e)
item_same (g.structure t m') (g.function k m d e p b y) = absurd (structure_function t k m d e)
item_same (g.function k m d e p b y) (g.structure t m') = absurd (structure_function t k m d e)
item_same (g.global t d' e') (g.function k m d e p b y) = absurd (global_function t d' e' k m d e)
item_same (g.function k m d e p b y) (g.global t d' e') = absurd (global_function t d' e' k m d e)
item_same (g.structure t m) (g.structure t' m') =
    let head_is = tainted_same t t' in
    let members_are = members_same m (move_members (ap (λ (x : List Token). rest_of (rest_of (rest_of x))) (after head_is)) m') in
    rw (typed head_is, ap (λ (x : List Token). first_name (rest_of x)) (after head_is), ap (λ (x : List Token). first_span (rest_of x)) (after head_is), typed members_are, ap first_span (after members_are), ap rest_of (after members_are)) refl
item_same (g.global t d e) (g.global {us = us'} {base = base'} t' d' e') =
    let head_is = tainted_same t t' in
    let base_is = type_same d (subst (λ (x : List Token). SpellsType x base' us') (sym (after head_is)) d') in
    let declared_is = declarators_from (after base_is) e e' in
    rw (typed head_is, typed base_is, form declared_is, ap first_span (behind declared_is), ap rest_of (behind declared_is)) refl
item_same (g.function {tokens} k m d e p b y) (g.function {n = n'} {x = x'} {s = s'} {t = t'} {p = p'} {q = q'} {w = w'} {us = us'} {vs = vs'} {ws = ws'} {xs = xs'} {ys = ys'} {rest = r'} {written = written'} {optional_mark = mark'} {result = result'} {parameters = parameters'} {body = body'} k' m' d' e' h' b' y') =
    let kind_is = kind_same k k' in
    let mark_is = optional_mark_same m (subst (λ (x : List Token). SpellsOptionalMark x mark' us') (sym (after kind_is)) m') in
    let result_is = result_same d (subst (λ (x : List Token). SpellsResult x result' vs') (sym (after mark_is)) d') in
    let name_is = stars_same e (subst (λ (x : List Token). SpellsStars x n' (token (kinds.Name x') s' ∷ token kinds.OpenParen p' ∷ ws')) (sym (after result_is)) e') in
    let parameters_are = parameters_same p (subst (λ (x : List Token). SpellsParameters x parameters' t' xs') (sym (ap (λ (x : List Token). rest_of (rest_of x)) (after name_is))) h') in
    let bounds_are = optional_bounds_same b (subst (λ (x : Read Parameters). SpellsOptionalBounds (from_first tokens x.1) x.2 written' w' ys') (sym parameters_are) b') in
    let body_is = body_same y (subst (λ (x : List Token). SpellsBody x body' q' r') (sym (behind bounds_are)) y') in
    rw (typed kind_is, typed mark_is, typed result_is, typed name_is, ap first_name (after name_is), ap first_span (after name_is), form parameters_are, form bounds_are, form body_is, stands body_is, behind body_is) refl

no_item : {r : List Token} {i : Item} → SpellsItem [] i r → ⊥
no_item (g.structure t m) = elim t [ ]
no_item (g.global (g.absent f) d e) = elim d [ ]
no_item (g.function (g.trusted f) (g.absent f') (g.value d) e p b y) = elim d [ ]

pub items_same : {ts : List Token} {is is' : List Item} → SpellsItems ts is → SpellsItems ts is' → is ≡ is'
items_same g.none g.none = refl
items_same g.none (g.more d m) = absurd (no_item d)
items_same (g.more d m) g.none = absurd (no_item d)
items_same (g.more d m) (g.more {item} {items} d' m') =
    let first_is = item_same d d' in
    rw (typed first_is) (ap (λ (x : List Item). item ∷ x) (items_same m (subst (λ (x : List Token). SpellsItems x items) (sym (after first_is)) m')))

pub at_most_one_tree : (length : ℕ) (tokens : List Token) (t u : Tree) → SpellsProgram length tokens t → SpellsProgram length tokens u → t ≡ u
at_most_one_tree length tokens t u (g.program d) (g.program d') = rw (items_same d d') refl
