-- Marks, of one and of two bytes.
use Rattle.std.specs.Prelude.{ℕ, cond, List, [], ◌∷◌, codes, Option, Some, None}
use Rattle.ckc_text.specs.declared.code.Code.TheVariants.{E02}
use Rattle.ckc_lexer.specs.Bytes.{is_forbidden}
use Rattle.ckc_lexer.specs.Words.{listed}
use Rattle.ckc_lexer.specs.declared.token.TokenKind.{TokenKind}
use Rattle.ckc_lexer.specs.declared.token.TokenKind.TheVariants.{OpenBrace, CloseBrace, OpenParen, CloseParen, OpenBracket, CloseBracket}
use Rattle.ckc_lexer.specs.declared.token.TokenKind.TheVariants.{Less, Greater, LessEqual, GreaterEqual, EqualEqual, NotEqual, Equal}
use Rattle.ckc_lexer.specs.declared.token.TokenKind.TheVariants.{PlusEqual, MinusEqual, PlusPlus, MinusMinus, Plus, Minus, Star, Slash}
use Rattle.ckc_lexer.specs.declared.token.TokenKind.TheVariants.{Percent, Ampersand, AndAnd, Bar, OrOr, Caret, Tilde, Not, ShiftLeft, Dot}
use Rattle.ckc_lexer.specs.declared.token.TokenKind.TheVariants.{Arrow, Comma, Semicolon, Colon}
use Rattle.ckc_lexer.specs.declared.piece.Piece.{Piece}
use Rattle.ckc_lexer.specs.declared.piece.Piece.TheVariants.{Lexeme, Forbidden, Fault}

abbrev pub long_marks : List (List ℕ × TokenKind)
long_marks =
    (codes "<=", LessEqual) ∷ (codes ">=", GreaterEqual) ∷ (codes "==", EqualEqual) ∷ (codes "!=", NotEqual) ∷ (codes "+=", PlusEqual)
    ∷ (codes "-=", MinusEqual) ∷ (codes "++", PlusPlus) ∷ (codes "--", MinusMinus) ∷ (codes "&&", AndAnd) ∷ (codes "||", OrOr)
    ∷ (codes "<<", ShiftLeft) ∷ (codes "->", Arrow) ∷ []

abbrev pub short_marks : List (List ℕ × TokenKind)
short_marks =
    (codes "{", OpenBrace) ∷ (codes "}", CloseBrace) ∷ (codes "(", OpenParen) ∷ (codes ")", CloseParen) ∷ (codes "[", OpenBracket)
    ∷ (codes "]", CloseBracket) ∷ (codes "<", Less) ∷ (codes ">", Greater) ∷ (codes "=", Equal) ∷ (codes "+", Plus) ∷ (codes "-", Minus)
    ∷ (codes "*", Star) ∷ (codes "/", Slash) ∷ (codes "%", Percent) ∷ (codes "&", Ampersand) ∷ (codes "|", Bar) ∷ (codes "^", Caret)
    ∷ (codes "~", Tilde) ∷ (codes "!", Not) ∷ (codes ".", Dot) ∷ (codes ",", Comma) ∷ (codes ";", Semicolon) ∷ (codes ":", Colon) ∷ []

-- the mark of two bytes that the text begins with
abbrev pub long_mark : List ℕ → Option TokenKind
long_mark [] = None
long_mark (b ∷ []) = None
long_mark (b ∷ c ∷ cs) = listed (b ∷ c ∷ []) long_marks

-- the mark of one byte that the text begins with; a byte that is none may be one that may not stand here at all
abbrev pub short_mark : List ℕ → Option TokenKind
short_mark [] = None
short_mark (b ∷ bs) = listed (b ∷ []) short_marks

-- the longest mark is taken; the piece and its length
abbrev pub marked : Option TokenKind → Option TokenKind → Piece × ℕ
marked (Some long) short = (Lexeme long, 2)
marked None (Some short) = (Lexeme short, 1)
marked None None = (Fault E02, 1)

-- what stands at the front where no blank, comment, word, quote or `#` does
abbrev pub mark_piece : List ℕ → Piece × ℕ
mark_piece [] = (Fault E02, 1)
mark_piece (b ∷ bs) = cond (is_forbidden b) (Forbidden, 1) (marked (long_mark (b ∷ bs)) (short_mark (b ∷ bs)))
