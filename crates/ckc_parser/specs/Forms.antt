-- Inside: the words of bounds.
use Rattle.std.specs.Prelude.{◌≡◌, ℕ, false, List, ◌∷◌, codes, Option, Some, None, Result, Ok, Err}
use Rattle.ckc_text.specs.declared.place.Span.{Span}
use Rattle.ckc_lexer.specs.declared.token.Token.{Token}
use Rattle.ckc_lexer.specs.declared.token.TokenKind.TheVariants as kinds
use Rattle.ckc_parser.specs.declared.bounds.BoundsForm.{BoundsForm}
use Rattle.ckc_parser.specs.declared.bounds.BoundsForm.TheVariants as forms
use Rattle.ckc_parser_grammar.specs.declared.stuck.Stuck.{Stuck}
use Rattle.ckc_parser_grammar.specs.Tokens.{token}
use Rattle.ckc_parser_grammar.specs.StuckExpressions.{bounds_word}
use Rattle.ckc_parser_grammar.specs.Answers.{Stops}

-- the word of bounds that say this
abbrev pub form_word : BoundsForm → List ℕ
form_word forms.Count = codes "count"
form_word forms.ByteCount = codes "byte_count"
form_word forms.Ends = codes "bounds"

-- what bounds with this word say
abbrev pub IsBoundsForm : List ℕ → Option BoundsForm → Type 0
IsBoundsForm x None = bounds_word (kinds.Name x) ≡ false
IsBoundsForm x (Some form) = x ≡ form_word form

-- what a function that reads a word of bounds answers: what they say and the word's span before the tokens that are left, or
-- that another token stands there
abbrev pub ReadsBoundsWord : List Token → Result (BoundsForm × Span) Stuck → List Token → Type 0
ReadsBoundsWord ts (Ok found) rest = ts ≡ token (kinds.Name (form_word found.0)) found.1 ∷ rest
ReadsBoundsWord ts (Err e) rest = Stops bounds_word ts e rest
