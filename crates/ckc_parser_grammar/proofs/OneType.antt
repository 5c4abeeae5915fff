-- Tokens that begin with a type begin with one type.
use Rattle.std.proofs.Common.{◌≡◌, ℕ, suc, List, [], ◌∷◌, refl, sym, ap, subst}
use Rattle.ckc_text.specs.declared.place.Span.{Span}
use Rattle.ckc_lexer.specs.declared.token.Token.{Token}
use Rattle.ckc_lexer.specs.declared.token.TokenKind.TheVariants as kinds
use Rattle.ckc_tree.specs.declared.type_form.PointerWord.{PointerWord}
use Rattle.ckc_tree.specs.Types.{TypeTree, PointerType, TypeName}
use Rattle.ckc_parser_grammar.specs.Tokens.{token, join}
use Rattle.ckc_parser_grammar.specs.TypeGrammar as grammar
use Rattle.ckc_parser_grammar.specs.TypeGrammar.{SpellsStars, SpellsType, SpellsTypeName, SpellsAngled}
use Rattle.ckc_parser_grammar.proofs.OneMeaning.{same_word, says_nothing}

pub stars_same : {ts r r' : List Token} {n n' : ℕ} → SpellsStars ts n r → SpellsStars ts n' r' → ◌≡◌ {A = ℕ × List Token} (n, r) (n', r')
stars_same (grammar.none end) (grammar.none end') = refl
stars_same (grammar.none end) (grammar.more d) = absurd cc
stars_same (grammar.more d) (grammar.none end) = absurd cc
stars_same (grammar.more d) (grammar.more d') = ap (λ (x : ℕ × List Token). (suc x.0, x.1)) (stars_same d d')

abbrev pub first_span : List Token → Span
first_span [] = record { from = 0; to = 0 }
first_span (t ∷ ts) = t.span

abbrev pub rest_of : List Token → List Token
rest_of [] = []
rest_of (t ∷ ts) = ts

-- what is read is one tree and one rest
abbrev pub Same : {A : Type 0} → A → List Token → A → List Token → Type 0
Same {A} a r b r' = ◌≡◌ {A = A × List Token} (a, r) (b, r')

-- the parts of a pointer type, of which the stars begin where the element ends
pointer_same : (s : Span) {w w' : PointerWord} {t t' : Span} {element element' : TypeTree} {n n' : ℕ} {mid mid' rest rest' : List Token}
    → w ≡ w' → Same element mid element' mid' → SpellsStars mid n (token kinds.Greater t ∷ rest) → SpellsStars mid' n' (token kinds.Greater t' ∷ rest')
    → Same (PointerType w element n (join s t)) rest (PointerType w' element' n' (join s t')) rest'
pointer_same s {t'} {n'} {rest'} word inner stars stars' =
    let e = stars_same stars (subst (λ (ts : List Token). SpellsStars ts n' (token kinds.Greater t' ∷ rest')) (sym (ap (λ (x : TypeTree × List Token). x.1) inner)) stars') in
    rw (word, ap (λ (x : TypeTree × List Token). x.0) inner, ap (λ (x : ℕ × List Token). x.0) e, ap (λ (x : ℕ × List Token). first_span x.1) e, ap (λ (x : ℕ × List Token). rest_of x.1) e) refl

pub type_same : {ts r r' : List Token} {t t' : TypeTree} → SpellsType ts t r → SpellsType ts t' r' → ◌≡◌ {A = TypeTree × List Token} (t, r) (t', r')
type_same grammar.int grammar.int = refl
type_same grammar.int (grammar.pointer w d e) = says_nothing w
type_same grammar.char grammar.char = refl
type_same grammar.char (grammar.pointer w d e) = says_nothing w
type_same grammar.struct grammar.struct = refl
type_same (grammar.pointer w d e) grammar.int = says_nothing w
type_same (grammar.pointer w d e) grammar.char = says_nothing w
type_same (grammar.pointer {s} w d e) (grammar.pointer w' d' e') = pointer_same s (same_word w w') (type_same d d') e e'

pub type_name_same : {ts r r' : List Token} {t t' : TypeName} → SpellsTypeName ts t r → SpellsTypeName ts t' r' → Same t r t' r'
type_name_same (grammar.type_name d e) (grammar.type_name {n = n'} {rest} d' e') =
    let inner = type_same d d' in
    let same = stars_same e (subst (λ (ts : List Token). SpellsStars ts n' rest) (sym (ap (λ (x : TypeTree × List Token). x.1) inner)) e') in
    rw (ap (λ (x : TypeTree × List Token). x.0) inner, ap (λ (x : ℕ × List Token). x.0) same, ap (λ (x : ℕ × List Token). x.1) same) refl

pub angled_same : {ts r r' : List Token} {t t' : TypeName} → SpellsAngled ts t r → SpellsAngled ts t' r' → Same t r t' r'
angled_same (grammar.angled d) (grammar.angled d') = ap (λ (x : TypeName × List Token). (x.0, rest_of (rest_of x.1))) (type_name_same d d')
