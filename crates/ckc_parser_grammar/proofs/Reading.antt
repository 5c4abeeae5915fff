-- Tokens that are read as a form, or that have a refusal: which of the two, and how it goes on behind a part.
use Rattle.std.proofs.Common.{◌≡◌, ◌≤◌, ◌<◌, ℕ, zero, suc, nat_lt, length, Bool, true, false, List, [], ◌∷◌, refl, arith, sym, true≢false}
use Rattle.std.proofs.lemmas.Bool.{ltb-true, ltb-false}
use Rattle.ckc_text.specs.declared.place.Span.{Span}
use Rattle.ckc_lexer.specs.declared.token.Token.{Token}
use Rattle.ckc_lexer.specs.declared.token.TokenKind.{TokenKind}
use Rattle.ckc_lexer.specs.declared.token.TokenKind.TheVariants as kinds
use Rattle.ckc_parser_grammar.specs.Tokens.{token, next_is}
use Rattle.ckc_parser_grammar.specs.Failures as failures
use Rattle.ckc_parser_grammar.specs.Failures.{Failure}
use Rattle.ckc_parser_grammar.specs.StuckTypes.{name_token}
use Rattle.ckc_parser_grammar.proofs.Forms.{Is, it, IsName, name}

-- a failure that is a refusal of the source: no want of memory
pub data IsRefusal : Failure → Type 0 where
  unexpected : {at : List Token} → IsRefusal (failures.unexpected at)
  too_deep : {start : ℕ} → IsRefusal (failures.too_deep start)

-- what is read, up to a rest, or where reading fails with a refusal
pub data Reading {X : Type 0} (Reads : X → List Token → Type 0) (Fails : Failure → Type 0) : Type 0 where
  read : (x : X) (rest : List Token) → Reads x rest → Reading Reads Fails
  refused : (f : Failure) → IsRefusal f → Fails f → Reading Reads Fails

-- ---- recursion on the number of tokens

pub by_length : (P : List Token → Type 0) → ((ts : List Token) → ((us : List Token) → length us < length ts → P us) → P ts) → (ts : List Token) → P ts
by_length P step ts = upto (suc (length ts)) ts (omega arith)
  where
    upto : (n : ℕ) (us : List Token) → length us < n → P us
    upto zero us less = absurd (omega (arith, less))
    upto (suc n) us less = step us (λ vs shorter. upto n vs (omega (arith, less, shorter)))

-- whether a node may stand inside so many
pub by_room : {A : Type 0} (d : ℕ) → (d < 200 → A) → (200 ≤ d → A) → A
by_room {A} d some none = by (nat_lt d 200) refl
  where
    by : (b : Bool) → nat_lt d 200 ≡ b → A
    by true less = some (ltb-true d 200 less)
    by false less = none (ltb-false d 200 less)

-- ---- the next token

-- it is such a token, or another, or none
pub data Next (K : TokenKind → Type 0) (is : TokenKind → Bool) : List Token → Type 0 where
  here : {k : TokenKind} {s : Span} {rest : List Token} → K k → Next K is (token k s ∷ rest)
  other : {ts : List Token} → next_is is ts ≡ false → Next K is ts

pub next : {K : TokenKind → Type 0} {is : TokenKind → Bool} → ((k : TokenKind) → is k ≡ true → K k) → (ts : List Token) → Next K is ts
next known [] = other refl
next {K} {is} known (t ∷ ts) = by (is t.kind) refl
  where
    by : (b : Bool) → is t.kind ≡ b → Next K is (t ∷ ts)
    by true so = here (known t.kind so)
    by false so = other so

-- a test that this mark alone meets
abbrev pub Marks : TokenKind → (TokenKind → Bool) → Type 0
Marks k is = (j : TokenKind) → is j ≡ true → Is k j

pub marked : {k : TokenKind} {is : TokenKind → Bool} → Marks k is → (P : List Token → Type 0) (ts : List Token) → ((us : List Token) → next_is is us ≡ false → P us) → ((s : Span) (us : List Token) → P (token k s ∷ us)) → P ts
marked {k} {is} mark P ts otherwise so = by (next mark ts)
  where
    by : {us : List Token} → Next (Is k) is us → P us
    by (here it) = so _ _
    by (other none) = otherwise _ none

is_name : (j : TokenKind) → name_token j ≡ true → IsName j
is_name (kinds.Name x) so = name
is_name _ so = absurd (true≢false (sym so))

pub named : (P : List Token → Type 0) (ts : List Token) → ((us : List Token) → next_is name_token us ≡ false → P us) → ((x : List ℕ) (s : Span) (us : List Token) → P (token (kinds.Name x) s ∷ us)) → P ts
named P ts otherwise so = by (next is_name ts)
  where
    by : {us : List Token} → Next IsName name_token us → P us
    by (here name) = so _ _ _
    by (other none) = otherwise _ none

-- ---- behind what is read

pub behind : {X Y : Type 0} {R : X → List Token → Type 0} {Q : Y → List Token → Type 0} {S T : Failure → Type 0}
    → Reading R S → ((f : Failure) → S f → T f) → ((x : X) (rest : List Token) → R x rest → Reading Q T) → Reading Q T
behind (read x rest d) fails go = go x rest d
behind (refused f is stuck) fails go = refused f is (fails f stuck)

-- behind it and a mark
pub ended : {X Y : Type 0} {k : TokenKind} {is : TokenKind → Bool} {R : X → List Token → Type 0} {Q : Y → List Token → Type 0} {S T : Failure → Type 0}
    → Marks k is → Reading R S → ((f : Failure) → S f → T f) → ((x : X) (rest : List Token) → R x rest → next_is is rest ≡ false → T (failures.unexpected rest))
    → ((x : X) (s : Span) (rest : List Token) → R x (token k s ∷ rest) → Reading Q T) → Reading Q T
ended {R} {Q} {T} mark reading fails unmarked go = behind reading fails (λ x rest d. marked mark (λ us. R x us → Reading Q T) rest (λ us none r. refused _ unexpected (unmarked x us r none)) (λ s us r. go x s us r) d)
