-- What a function that reads a form answers, from what the functions that it calls answered.
use Rattle.std.proofs.Common.{◌≡◌, ℕ, zero, suc, ◌+◌, ◌<◌, ◌≤◌, Bool, false, List, [], ◌∷◌, Result, Ok, Err, length, refl, ap, ◌∙◌, arith}
use Rattle.std.specs.Result.{IsErrAnd}
use Rattle.ckc_lexer.specs.declared.token.Token.{Token}
use Rattle.ckc_lexer.specs.declared.token.TokenKind.{TokenKind}
use Rattle.ckc_tree.specs.declared.identifier.Identifier.{Identifier}
use Rattle.ckc_tree.specs.Heights.{Reach, around}
use Rattle.ckc_parser_grammar.specs.declared.stuck.Stuck.{Stuck}
use Rattle.ckc_parser_grammar.specs.Tokens.{token, identifier, next_is}
use Rattle.ckc_parser_grammar.specs.Failures.{Failure, unexpected, no_memory, IsLow}
use Rattle.ckc_parser_grammar.specs.StuckTypes.{name_token}
use Rattle.ckc_parser_grammar.specs.Answers.{FailsName, no_name, no_room, TakesTokens, MayTakeTokens}

-- an error that is passed on
pub err : {T : Type 0} (r : Result T Stuck) (e : Stuck) → IsErrAnd r (λ x. x ≡ e) → r ≡ Err e
err (Ok x) e h = absurd h
err (Err d) e h = ap Err h

-- tokens that begin with a token of this kind
pub begins : (ts rest : List Token) (t : Token) (k : TokenKind) → ts ≡ t ∷ rest → t.kind ≡ k → ts ≡ token k t.span ∷ rest
begins ts rest t k e is = e ∙ ap (λ (kind : TokenKind). token kind t.span ∷ rest) is

pub next : (is : TokenKind → Bool) (ts rest : List Token) (t : Token) (b : Bool) → ts ≡ t ∷ rest → is t.kind ≡ b → next_is is ts ≡ b
next is ts rest t b e h = ap (next_is is) e ∙ h

pub next_none : (is : TokenKind → Bool) (ts : List Token) → length ts ≡ 0 → next_is is ts ≡ false
next_none is [] e = refl
next_none is (t ∷ ts) e = absurd (omega arith)

pub token_is : (t : Token) (k : TokenKind) → t.kind ≡ k → t ≡ token k t.span
token_is t k is = ap (λ (kind : TokenKind). token kind t.span) is

-- where a name isn't read, the form that it belongs to isn't
pub name_fails : {ts : List Token} {f : Failure} (Fails : Failure → Type 0) → FailsName ts f → (next_is name_token ts ≡ false → Fails (unexpected ts)) → Fails no_memory → Fails f
name_fails Fails (no_name other) stops full = stops other
name_fails Fails no_room stops full = full

-- tokens are taken, whatever a last call answers that takes none
pub takes : {X : Type 0} (ts rest : List Token) (r : Result X Stuck) → length rest < length ts → TakesTokens ts r rest
takes ts rest (Ok found) less = less
takes ts rest (Err e) less = tt

pub may_take : {X : Type 0} (ts rest : List Token) (r : Result X Stuck) → length rest ≤ length ts → MayTakeTokens ts r rest
may_take ts rest (Ok found) less = less
may_take ts rest (Err e) less = tt

-- the same of a last call that takes tokens of those that are left
pub takes_more : {X : Type 0} (ts mid rest : List Token) (r : Result X Stuck) → length mid ≤ length ts → TakesTokens mid r rest → TakesTokens ts r rest
takes_more ts mid rest (Ok found) less shorter = omega arith
takes_more ts mid rest (Err e) less shorter = tt

pub low_around : (d s : ℕ) (r : Reach) → d < 200 → IsLow (suc d) r → IsLow d (around s r)
low_around d s r less low = around_low r.height r.start less low
  where
    around_low : (h t : ℕ) → d < 200 → suc d + h ≤ 200 → IsLow d (around s (record { height = h; start = t }))
    around_low zero t less low = omega arith
    around_low (suc h) t less low = omega arith

-- ---- names

-- a name without a number is its bytes and its span
pub named : (x : Identifier) → x.number ≡ 0 → x ≡ identifier x.name x.span
named x none = ap (λ (n : ℕ). numbered n) none
  where
    numbered : ℕ → Identifier
    numbered n = record { name = x.name; number = n; span = x.span }
