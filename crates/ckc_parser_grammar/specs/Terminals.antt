-- Inside: tokens that are always spelled the same.
use Rattle.std.specs.Prelude.{◌≡◌, Bool, true, false, Option, Some, None}
use Rattle.ckc_lexer.specs.declared.token.TokenKind.{TokenKind}
use Rattle.ckc_lexer.specs.declared.keyword.Keyword.TheVariants as keywords
use Rattle.ckc_lexer.specs.declared.token.TokenKind.TheVariants as kinds
use Rattle.ckc_parser_grammar.specs.Tokens as words
use Rattle.ckc_parser_grammar.specs.StuckTypes as types
use Rattle.ckc_parser_grammar.specs.StuckExpressions as expressions
use Rattle.ckc_parser_grammar.specs.StuckStatements as statements
use Rattle.ckc_parser_grammar.specs.StuckItems as items
use Rattle.ckc_parser_grammar.specs.declared.terminal.Terminal.{Terminal}
use Rattle.ckc_parser_grammar.specs.declared.terminal.Terminal.TheVariants as terminals

-- the token that a terminal is
abbrev pub kind_of : Terminal → TokenKind
kind_of terminals.OpenParen = kinds.OpenParen
kind_of terminals.CloseParen = kinds.CloseParen
kind_of terminals.OpenBrace = kinds.OpenBrace
kind_of terminals.CloseBrace = kinds.CloseBrace
kind_of terminals.OpenBracket = kinds.OpenBracket
kind_of terminals.CloseBracket = kinds.CloseBracket
kind_of terminals.Less = kinds.Less
kind_of terminals.Greater = kinds.Greater
kind_of terminals.Comma = kinds.Comma
kind_of terminals.Star = kinds.Star
kind_of terminals.Semicolon = kinds.Semicolon
kind_of terminals.Colon = kinds.Colon
kind_of terminals.Equal = kinds.Equal
kind_of terminals.Minus = kinds.Minus
kind_of terminals.Else = kinds.Keyword keywords.Else
kind_of terminals.Void = kinds.Keyword keywords.Void
kind_of terminals.Struct = kinds.Keyword keywords.Struct

-- whether a token is this terminal
abbrev pub is_terminal : Terminal → TokenKind → Bool
is_terminal terminals.OpenParen = words.open_paren
is_terminal terminals.CloseParen = expressions.close_paren
is_terminal terminals.OpenBrace = statements.open_brace
is_terminal terminals.CloseBrace = statements.close_brace
is_terminal terminals.OpenBracket = statements.open_bracket
is_terminal terminals.CloseBracket = expressions.close_bracket
is_terminal terminals.Less = types.less
is_terminal terminals.Greater = types.greater
is_terminal terminals.Comma = words.comma
is_terminal terminals.Star = words.star
is_terminal terminals.Semicolon = statements.semicolon
is_terminal terminals.Colon = words.colon
is_terminal terminals.Equal = words.equal
is_terminal terminals.Minus = statements.minus
is_terminal terminals.Else = words.else_word
is_terminal terminals.Void = items.void_word
is_terminal terminals.Struct = items.struct_word

-- the terminal that a token is
abbrev pub terminal_of : TokenKind → Option Terminal
terminal_of kinds.OpenParen = Some terminals.OpenParen
terminal_of kinds.CloseParen = Some terminals.CloseParen
terminal_of kinds.OpenBrace = Some terminals.OpenBrace
terminal_of kinds.CloseBrace = Some terminals.CloseBrace
terminal_of kinds.OpenBracket = Some terminals.OpenBracket
terminal_of kinds.CloseBracket = Some terminals.CloseBracket
terminal_of kinds.Less = Some terminals.Less
terminal_of kinds.Greater = Some terminals.Greater
terminal_of kinds.Comma = Some terminals.Comma
terminal_of kinds.Star = Some terminals.Star
terminal_of kinds.Semicolon = Some terminals.Semicolon
terminal_of kinds.Colon = Some terminals.Colon
terminal_of kinds.Equal = Some terminals.Equal
terminal_of kinds.Minus = Some terminals.Minus
terminal_of (kinds.Keyword keywords.Else) = Some terminals.Else
terminal_of (kinds.Keyword keywords.Void) = Some terminals.Void
terminal_of (kinds.Keyword keywords.Struct) = Some terminals.Struct
terminal_of _ = None

-- the answer to whether a token is this terminal
abbrev pub Matches : Terminal → TokenKind → Bool → Type 0
Matches terminal kind true = kind ≡ kind_of terminal
Matches terminal kind false = is_terminal terminal kind ≡ false
