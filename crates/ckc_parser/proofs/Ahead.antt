-- Tokens of which several may stand.
use Rattle.std.proofs.Common.{◌≡◌, false, List, [], ◌∷◌, refl}
use Rattle.ckc_lexer.specs.declared.token.Token.{Token}
use Rattle.ckc_lexer.specs.declared.token.TokenKind.{TokenKind}
use Rattle.ckc_lexer.specs.declared.token.TokenKind.TheVariants as kinds
use Rattle.ckc_parser_grammar.specs.Tokens.{next_is, comma}
use Rattle.ckc_parser_grammar.specs.StuckStatements.{minus, store_word, constant_token, minus_or_constant, step_word, assign_word, comma_or_brace, close_brace}

pub no_minus_or_constant : (ts : List Token) → next_is minus ts ≡ false → next_is constant_token ts ≡ false → next_is minus_or_constant ts ≡ false
no_minus_or_constant [] m c = refl
no_minus_or_constant (t ∷ ts) m c = rw (m, c) refl

pub no_assign_word : (ts : List Token) → next_is store_word ts ≡ false → next_is step_word ts ≡ false → next_is assign_word ts ≡ false
no_assign_word [] m c = refl
no_assign_word (t ∷ ts) m c = rw (m, c) refl

neither_comma : (k : TokenKind) → comma k ≡ false → close_brace k ≡ false → comma_or_brace k ≡ false
neither_comma kinds.Comma m c = m
neither_comma kinds.CloseBrace m c = c
neither_comma k m c = refl

pub no_comma_or_brace : (ts : List Token) → next_is comma ts ≡ false → next_is close_brace ts ≡ false → next_is comma_or_brace ts ≡ false
no_comma_or_brace [] m c = refl
no_comma_or_brace (t ∷ ts) m c = neither_comma t.kind m c
