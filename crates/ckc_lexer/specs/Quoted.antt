-- What stands between quotes.
use Rattle.std.specs.Prelude.{◌≡◌, ℕ, ◌+◌, ◌*◌, Bool, true, false, ◌&&◌, cond, List, [], ◌∷◌, drop, ◌==◌, Option, Some, None}
use Rattle.std.specs.Char.{digit_value}
use Rattle.ckc_text.specs.declared.code.Code.TheVariants.{E02, E03}
use Rattle.ckc_lexer.specs.Bytes.{is_hexadecimal_digit}
use Rattle.ckc_lexer.specs.declared.token.TokenKind.TheVariants.{Character, Text}
use Rattle.ckc_lexer.specs.declared.piece.Piece.{Piece}
use Rattle.ckc_lexer.specs.declared.piece.Piece.TheVariants.{Lexeme, Forbidden, Fault}

-- `\n \t \r \0 \\ \' \"`, by the byte behind the backslash: the byte that it is, and the escape's length
abbrev pub simple_escape : ℕ → Option (ℕ × ℕ)
simple_escape c =
    cond (c == 110) (Some (10, 2))
    (cond (c == 116) (Some (9, 2))
    (cond (c == 114) (Some (13, 2))
    (cond (c == 48) (Some (0, 2)) (cond (c == 92) (Some (92, 2)) (cond (c == 39) (Some (39, 2)) (cond (c == 34) (Some (34, 2)) None))))))

-- `\x` and two hexadecimal digits, by what follows the `x`
abbrev pub hexadecimal_escape : List ℕ → Option (ℕ × ℕ)
hexadecimal_escape [] = None
hexadecimal_escape (h ∷ []) = None
hexadecimal_escape (h ∷ l ∷ rest) =
    cond (is_hexadecimal_digit h && is_hexadecimal_digit l) (Some (16 * digit_value h + digit_value l, 4)) None

abbrev pub escape : List ℕ → Option (ℕ × ℕ)
escape [] = None
escape (c ∷ cs) = cond (c == 120) (hexadecimal_escape cs) (simple_escape c)

-- the byte that stands first between quotes, itself or by an escape, and how many bytes it takes
abbrev pub quoted_byte : List ℕ → Option (ℕ × ℕ)
quoted_byte [] = None
quoted_byte (b ∷ bs) = cond (b == 92) (escape bs) (Some (b, 1))

-- the text between quotes means these bytes
pub data Means : List ℕ → List ℕ → Type 0 where
  nothing : Means [] []
  byte : {text bytes : List ℕ} (b n : ℕ) → quoted_byte text ≡ Some (b, n) → Means (drop n text) bytes → Means text (b ∷ bytes)

-- what the text between quotes means, if each escape in it is one
abbrev pub IsContent : List ℕ → Option (List ℕ) → Type 0
IsContent text None = (bytes : List ℕ) → Means text bytes → ⊥
IsContent text (Some bytes) = Means text bytes

-- a string, by whether it holds a byte that may not stand in it, by its content, and by whether it is closed on its line
abbrev pub string_piece : Bool → Option (List ℕ) → Bool → Piece
string_piece true content closed = Forbidden
string_piece false None closed = Fault E02
string_piece false (Some bytes) true = Lexeme (Text bytes)
string_piece false (Some bytes) false = Fault E03

-- a closed character constant holds one byte
abbrev pub one_byte : List ℕ → Piece
one_byte [] = Fault E02
one_byte (b ∷ []) = Lexeme (Character b)
one_byte (b ∷ c ∷ bs) = Fault E02

-- a character constant, in the same way
abbrev pub character_piece : Bool → Option (List ℕ) → Bool → Piece
character_piece true content closed = Forbidden
character_piece false None closed = Fault E02
character_piece false (Some bytes) true = one_byte bytes
character_piece false (Some bytes) false = Fault E03
