-- Tokens that are always spelled the same: a token is a terminal where it is spelled as that terminal is.
use Rattle.std.proofs.Common.{◌≡◌, false, Some, refl}
use Rattle.std.proofs.lemmas.Option.{same_Some, none-some}
use Rattle.ckc_lexer.specs.declared.token.TokenKind.{TokenKind}
use Rattle.ckc_lexer.specs.declared.keyword.Keyword.TheVariants as keywords
use Rattle.ckc_lexer.specs.declared.token.TokenKind.TheVariants as kinds
use Rattle.ckc_parser_grammar.specs.declared.terminal.Terminal.{Terminal}
use Rattle.ckc_parser_grammar.specs.declared.terminal.Terminal.TheVariants as terminals
use Rattle.ckc_parser_grammar.specs.Terminals.{kind_of, is_terminal, terminal_of}

pub spelled : (t : Terminal) (k : TokenKind) → terminal_of k ≡ Some t → k ≡ kind_of t
spelled t kinds.OpenParen h = rw (← same_Some _ _ h) refl
spelled t kinds.CloseParen h = rw (← same_Some _ _ h) refl
spelled t kinds.OpenBrace h = rw (← same_Some _ _ h) refl
spelled t kinds.CloseBrace h = rw (← same_Some _ _ h) refl
spelled t kinds.OpenBracket h = rw (← same_Some _ _ h) refl
spelled t kinds.CloseBracket h = rw (← same_Some _ _ h) refl
spelled t kinds.Less h = rw (← same_Some _ _ h) refl
spelled t kinds.Greater h = rw (← same_Some _ _ h) refl
spelled t kinds.Comma h = rw (← same_Some _ _ h) refl
spelled t kinds.Star h = rw (← same_Some _ _ h) refl
spelled t kinds.Semicolon h = rw (← same_Some _ _ h) refl
spelled t kinds.Colon h = rw (← same_Some _ _ h) refl
spelled t kinds.Equal h = rw (← same_Some _ _ h) refl
spelled t kinds.Minus h = rw (← same_Some _ _ h) refl
spelled t (kinds.Keyword keywords.Else) h = rw (← same_Some _ _ h) refl
spelled t (kinds.Keyword keywords.Void) h = rw (← same_Some _ _ h) refl
spelled t (kinds.Keyword keywords.Struct) h = rw (← same_Some _ _ h) refl
spelled t _ h = absurd (none-some _ h)

pub other : (t : Terminal) (k : TokenKind) → (terminal_of k ≡ Some t → ⊥) → is_terminal t k ≡ false
other terminals.OpenParen kinds.OpenParen h = absurd (h refl)
other terminals.OpenParen _ h = refl
other terminals.CloseParen kinds.CloseParen h = absurd (h refl)
other terminals.CloseParen _ h = refl
other terminals.OpenBrace kinds.OpenBrace h = absurd (h refl)
other terminals.OpenBrace _ h = refl
other terminals.CloseBrace kinds.CloseBrace h = absurd (h refl)
other terminals.CloseBrace _ h = refl
other terminals.OpenBracket kinds.OpenBracket h = absurd (h refl)
other terminals.OpenBracket _ h = refl
other terminals.CloseBracket kinds.CloseBracket h = absurd (h refl)
other terminals.CloseBracket _ h = refl
other terminals.Less kinds.Less h = absurd (h refl)
other terminals.Less _ h = refl
other terminals.Greater kinds.Greater h = absurd (h refl)
other terminals.Greater _ h = refl
other terminals.Comma kinds.Comma h = absurd (h refl)
other terminals.Comma _ h = refl
other terminals.Star kinds.Star h = absurd (h refl)
other terminals.Star _ h = refl
other terminals.Semicolon kinds.Semicolon h = absurd (h refl)
other terminals.Semicolon _ h = refl
other terminals.Colon kinds.Colon h = absurd (h refl)
other terminals.Colon _ h = refl
other terminals.Equal kinds.Equal h = absurd (h refl)
other terminals.Equal _ h = refl
other terminals.Minus kinds.Minus h = absurd (h refl)
other terminals.Minus _ h = refl
other terminals.Else (kinds.Keyword keywords.Else) h = absurd (h refl)
other terminals.Else _ h = refl
other terminals.Void (kinds.Keyword keywords.Void) h = absurd (h refl)
other terminals.Void _ h = refl
other terminals.Struct (kinds.Keyword keywords.Struct) h = absurd (h refl)
other terminals.Struct _ h = refl
