-- The piece at the front of a text, by what the text begins with: blanks, comments, directives and tokens, each taken to its end, and what is none of these.
use Rattle.std.specs.Prelude.{◌≡◌, ℕ, ◌+◌, Bool, true, false, ◌&&◌, cond, List, [], ◌∷◌, take, drop, codes, ◌==◌, Option}
use Rattle.std.specs.List.{list_any, prefix_len}
use Rattle.std.specs.Str.{bytes_eq}
use Rattle.ckc_text.specs.declared.code.Code.TheVariants.{E01, E02}
use Rattle.ckc_text.specs.Names.{is_word_byte, begins_with}
use Rattle.ckc_lexer.specs.Bytes.{is_blank, is_line_feed, is_in_line, is_control, is_forbidden}
use Rattle.ckc_lexer.specs.Words.{word_piece}
use Rattle.ckc_lexer.specs.Marks.{mark_piece}
use Rattle.ckc_lexer.specs.Rules.{comment}
use Rattle.ckc_lexer.specs.Runs.{Extent}
use Rattle.ckc_lexer.specs.Quoted.{IsContent, string_piece, character_piece}
use Rattle.ckc_lexer.specs.Directives.{part, named_directive}
use Rattle.ckc_lexer.specs.declared.front.Front.{Front}
use Rattle.ckc_lexer.specs.declared.front.Front.TheVariants.{BlankByte, LineComment, BlockComment, StringQuote, CharacterQuote, Word, Hash, Mark}
use Rattle.ckc_lexer.specs.declared.run.Run.TheVariants.{Comment, Directive, Quoted}
use Rattle.ckc_lexer.specs.declared.piece.Piece.{Piece}
use Rattle.ckc_lexer.specs.declared.piece.Piece.TheVariants.{Gap, Include, CommentFault, Forbidden, Fault}

-- what a slash begins, by what follows it
abbrev pub slash_front : List ℕ → Front
slash_front [] = Mark
slash_front (c ∷ cs) = cond (c == 47) LineComment (cond (c == 42) BlockComment Mark)

-- what a quote or a `#` begins
abbrev pub quote_front : ℕ → Front
quote_front b = cond (b == 34) StringQuote (cond (b == 39) CharacterQuote (cond (b == 35) Hash Mark))

-- what the text begins with
abbrev pub front_of : List ℕ → Front
front_of [] = Mark
front_of (b ∷ bs) = cond (is_blank b) BlankByte (cond (is_word_byte b) Word (cond (b == 47) (slash_front bs) (quote_front b)))

-- how many bytes show what the text begins with
abbrev pub front_len : Front → ℕ
front_len BlankByte = 1
front_len LineComment = 2
front_len BlockComment = 2
front_len StringQuote = 1
front_len CharacterQuote = 1
front_len Word = 1
front_len Hash = 1
front_len Mark = 0

-- a comment, by what stands in it and by whether it is closed
abbrev pub comment_piece : List ℕ → Bool → Piece
comment_piece body closed = cond (list_any is_control body) (CommentFault E01) (comment closed (list_any is_line_feed body))

-- `#include` and the rest of its line
abbrev pub include_piece : List ℕ → Piece
include_piece line = cond (list_any is_control line) Forbidden Include

-- another directive
abbrev pub directive_piece : List ℕ → Piece
directive_piece shown = cond (list_any is_forbidden shown) Forbidden (named_directive (part shown))

-- a blank
abbrev pub IsBlankByte : List ℕ → Piece → ℕ → Type 0
IsBlankByte text piece n = (piece ≡ Gap (begins_with is_line_feed text)) × (n ≡ 1)

abbrev pub line_len : List ℕ → ℕ
line_len text = prefix_len is_in_line text

-- a comment to the end of its line, by the text behind `//`
abbrev pub IsLineComment : List ℕ → Piece → ℕ → Type 0
IsLineComment inner piece n = (piece ≡ comment_piece (take (line_len inner) inner) true) × (n ≡ 2 + line_len inner)

abbrev pub closing_len : Bool → ℕ
closing_len true = 2
closing_len false = 0

abbrev pub is_closing : List ℕ → Bool
is_closing [] = false
is_closing (b ∷ bs) = b == 42 && begins_with (λ c. c == 47) bs

-- a comment to the next `*/`, or to the end where there is none, by the text behind `/*` and the distance of that place
abbrev pub IsBlockComment : List ℕ → ℕ → Piece → ℕ → Type 0
IsBlockComment inner m piece n =
    (piece ≡ comment_piece (take m inner) (is_closing (drop m inner))) × (n ≡ 2 + (m + closing_len (is_closing (drop m inner))))

abbrev pub quote_len : Bool → ℕ
quote_len true = 1
quote_len false = 0

abbrev pub is_quote : ℕ → List ℕ → Bool
is_quote quote rest = begins_with (λ b. b == quote) rest

-- a string to the next `"` that no backslash takes, or to the end of the line, by the text behind its quote, the distance of that place and what it means
abbrev pub IsString : List ℕ → ℕ → Option (List ℕ) → Piece → ℕ → Type 0
IsString inner m content piece n =
    (piece ≡ string_piece (list_any is_control (take m inner)) content (is_quote 34 (drop m inner))) × (n ≡ 1 + (m + quote_len (is_quote 34 (drop m inner))))

-- a character constant, in the same way
abbrev pub IsCharacter : List ℕ → ℕ → Option (List ℕ) → Piece → ℕ → Type 0
IsCharacter inner m content piece n =
    (piece ≡ character_piece (list_any is_forbidden (take m inner)) content (is_quote 39 (drop m inner)))
    × (n ≡ 1 + (m + quote_len (is_quote 39 (drop m inner))))

abbrev pub word_len : List ℕ → ℕ
word_len text = prefix_len is_word_byte text

-- a keyword, a name or a number
abbrev pub IsWord : List ℕ → Piece → ℕ → Type 0
IsWord text piece n = (piece ≡ word_piece (take (word_len text) text)) × (n ≡ word_len text)

-- the first part is `include`
abbrev pub is_include : List ℕ → Bool
is_include shown = bytes_eq (part shown).0 (codes "include")

-- a directive, by the text behind its `#` and by its length up to a comment or the end of the line
abbrev pub IsDirective : List ℕ → ℕ → Bool → Piece → ℕ → Type 0
IsDirective inner m true piece n = (piece ≡ include_piece (take (line_len inner) inner)) × (n ≡ 1 + line_len inner)
IsDirective inner m false piece n = (piece ≡ directive_piece (take m inner)) × (n ≡ 1 + m)

-- a `#` begins a directive where it is the first mark of its line
abbrev pub IsHash : Bool → List ℕ → Piece → ℕ → Type 0
IsHash false inner piece n = (piece ≡ Fault E02) × (n ≡ 1)
IsHash true inner piece n = (m : ℕ) × Extent Directive inner m × IsDirective inner m (is_include (take m inner)) piece n

-- the piece and its length, for each beginning
abbrev pub StandsAs : Front → Bool → List ℕ → Piece → ℕ → Type 0
StandsAs BlankByte first text piece n = IsBlankByte text piece n
StandsAs LineComment first text piece n = IsLineComment (drop 2 text) piece n
StandsAs BlockComment first text piece n = (m : ℕ) × Extent Comment (drop 2 text) m × IsBlockComment (drop 2 text) m piece n
StandsAs StringQuote first text piece n =
    (m : ℕ) × Extent (Quoted 34) (drop 1 text) m × (content : Option (List ℕ)) × IsContent (take m (drop 1 text)) content
    × IsString (drop 1 text) m content piece n
StandsAs CharacterQuote first text piece n =
    (m : ℕ) × Extent (Quoted 39) (drop 1 text) m × (content : Option (List ℕ)) × IsContent (take m (drop 1 text)) content
    × IsCharacter (drop 1 text) m content piece n
StandsAs Word first text piece n = IsWord text piece n
StandsAs Hash first text piece n = IsHash first (drop 1 text) piece n
StandsAs Mark first text piece n = (piece, n) ≡ mark_piece text

-- the piece that stands at the front of a text, and its length, where no mark stands before it on its line, or one does
abbrev pub Stands : Bool → List ℕ → Piece → ℕ → Type 0
Stands first text piece n = StandsAs (front_of text) first text piece n
