-- Inside: what selects a part of an expression, in the code's types.
use Rattle.std.specs.Prelude.{◌≡◌, false, List, ◌∷◌, Option, Some, None}
use Rattle.ckc_text.specs.declared.place.Span.{Span}
use Rattle.ckc_lexer.specs.declared.token.Token.{Token}
use Rattle.ckc_lexer.specs.declared.token.TokenKind.{TokenKind}
use Rattle.ckc_lexer.specs.declared.token.TokenKind.TheVariants as kinds
use Rattle.ckc_parser.specs.declared.expressions.Selector.{Selector}
use Rattle.ckc_parser.specs.declared.expressions.Selector.TheVariants as code
use Rattle.ckc_parser_grammar.specs.Tokens.{token, next_is, selector}

-- the first token of an index or a member
abbrev pub selector_kind : Selector → TokenKind
selector_kind code.Index = kinds.OpenBracket
selector_kind code.Dot = kinds.Dot
selector_kind code.Arrow = kinds.Arrow

-- what a token selects
abbrev pub SelectsBy : TokenKind → Option Selector → Type 0
SelectsBy k None = selector k ≡ false
SelectsBy k (Some found) = k ≡ selector_kind found

-- taking the first token of an index or a member, where one stands next
abbrev pub IsSelector : List Token → Option Selector → List Token → Type 0
IsSelector ts None rest = (rest ≡ ts) × (next_is selector ts ≡ false)
IsSelector ts (Some found) rest = (start : Span) × (ts ≡ token (selector_kind found) start ∷ rest)
