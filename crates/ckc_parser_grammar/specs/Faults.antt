-- Inside: which bytes the refusal of a source names.
use Rattle.std.specs.Prelude.{ℕ, List, [], ◌∷◌}
use Rattle.ckc_text.specs.declared.place.Span.{Span}
use Rattle.ckc_lexer.specs.declared.token.Token.{Token}
use Rattle.ckc_parser_grammar.specs.Parsing.{point}

-- the bytes of the first token that is left, and the end of a source of so many bytes where none is
abbrev pub first_span : ℕ → List Token → Span
first_span length [] = point length
first_span length (first ∷ others) = first.span
