-- What is printed: words and marks, one behind the other, and lines between them.
use Rattle.std.specs.Prelude.{ℕ, ◌+◌, ◌/◌, ◌%◌, Bool, true, false, not, ◌&&◌, ◌||◌, cond, List, [], ◌∷◌, ◌++◌, ◌==◌, nat_le, nat_lt, codes, decimal}
use Rattle.std.specs.List.{flat_map}
use Rattle.ckc_lexer.specs.declared.token.CheckedScope.{CheckedScope}
use Rattle.ckc_lexer.specs.declared.token.CheckedScope.TheVariants.{On, Off}
use Rattle.ckc_lexer.specs.declared.token.TokenKind.{TokenKind}
use Rattle.ckc_lexer.specs.declared.keyword.Keyword.{Keyword}
use Rattle.ckc_lexer.specs.declared.keyword.Keyword.TheVariants as keywords
use Rattle.ckc_lexer.specs.declared.token.TokenKind.TheVariants as kinds

-- what stands in a line: a token, or the two marks `>` of a right shift, which touch
pub data Sign : Type 0 where
  One : (kind : TokenKind) → Sign
  RightShift : Sign

-- a piece of the text: a sign, or a line of its own that leads to a scope
pub data Piece : Type 0 where
  InLine : (sign : Sign) → Piece
  ScopeLine : (scope : CheckedScope) → Piece

-- ---- what each piece is printed as

-- a hexadecimal digit, in lower case
abbrev pub hexadecimal_digit : ℕ → ℕ
hexadecimal_digit n = cond (nat_lt n 10) (48 + n) (87 + n)

-- a byte that stands for itself between quotes: from 0x20 to 0x7E, and no quote and no backslash
abbrev pub is_plain : ℕ → Bool
is_plain b = (nat_le 32 b && nat_le b 126) && not (b == 34 || (b == 39 || b == 92))

-- a byte between quotes: itself, or `\x` and two digits
abbrev pub quoted_byte : ℕ → List ℕ
quoted_byte b = cond (is_plain b) (b ∷ []) (92 ∷ 120 ∷ hexadecimal_digit (b / 16) ∷ hexadecimal_digit (b % 16) ∷ [])

abbrev pub string_text : List ℕ → List ℕ
string_text bytes = 34 ∷ (flat_map quoted_byte bytes ++ 34 ∷ [])

abbrev pub character_text : ℕ → List ℕ
character_text b = 39 ∷ (quoted_byte b ++ 39 ∷ [])

abbrev pub scope_text : CheckedScope → List ℕ
scope_text On = codes "#pragma CHECKED_SCOPE on"
scope_text Off = codes "#pragma CHECKED_SCOPE off"

-- a keyword, a pointer word in its short spelling
abbrev pub keyword_text : Keyword → List ℕ
keyword_text keywords.Int = codes "int"
keyword_text keywords.Char = codes "char"
keyword_text keywords.Void = codes "void"
keyword_text keywords.Struct = codes "struct"
keyword_text keywords.If = codes "if"
keyword_text keywords.Else = codes "else"
keyword_text keywords.While = codes "while"
keyword_text keywords.For = codes "for"
keyword_text keywords.Return = codes "return"
keyword_text keywords.Break = codes "break"
keyword_text keywords.Continue = codes "continue"
keyword_text keywords.Sizeof = codes "sizeof"
keyword_text keywords.Malloc = codes "malloc"
keyword_text keywords.Calloc = codes "calloc"
keyword_text keywords.NtCalloc = codes "nt_calloc"
keyword_text keywords.TMalloc = codes "t_malloc"
keyword_text keywords.Ptr = codes "ptr"
keyword_text keywords.ArrayPtr = codes "array_ptr"
keyword_text keywords.NtArrayPtr = codes "nt_array_ptr"
keyword_text keywords.TPtr = codes "_TPtr"
keyword_text keywords.TArrayPtr = codes "_TArray_ptr"
keyword_text keywords.TNtArrayPtr = codes "_TNt_array_ptr"
keyword_text keywords.Checked = codes "_Checked"
keyword_text keywords.NtChecked = codes "_Nt_checked"
keyword_text keywords.Unchecked = codes "_Unchecked"
keyword_text keywords.Bundled = codes "_Bundled"
keyword_text keywords.Tainted = codes "_Tainted"
keyword_text keywords.Callback = codes "_Callback"
keyword_text keywords.DynamicBoundsCast = codes "_Dynamic_bounds_cast"
keyword_text keywords.AssumeBoundsCast = codes "_Assume_bounds_cast"

abbrev pub kind_text : TokenKind → List ℕ
kind_text (kinds.Keyword keyword) = keyword_text keyword
kind_text (kinds.Name name) = name
kind_text (kinds.Number n) = decimal n
kind_text (kinds.Character b) = character_text b
kind_text (kinds.Text bytes) = string_text bytes
kind_text (kinds.Scope scope) = scope_text scope
kind_text kinds.OpenBrace = codes "{"
kind_text kinds.CloseBrace = codes "}"
kind_text kinds.OpenParen = codes "("
kind_text kinds.CloseParen = codes ")"
kind_text kinds.OpenBracket = codes "["
kind_text kinds.CloseBracket = codes "]"
kind_text kinds.Less = codes "<"
kind_text kinds.Greater = codes ">"
kind_text kinds.LessEqual = codes "<="
kind_text kinds.GreaterEqual = codes ">="
kind_text kinds.EqualEqual = codes "=="
kind_text kinds.NotEqual = codes "!="
kind_text kinds.Equal = codes "="
kind_text kinds.PlusEqual = codes "+="
kind_text kinds.MinusEqual = codes "-="
kind_text kinds.PlusPlus = codes "++"
kind_text kinds.MinusMinus = codes "--"
kind_text kinds.Plus = codes "+"
kind_text kinds.Minus = codes "-"
kind_text kinds.Star = codes "*"
kind_text kinds.Slash = codes "/"
kind_text kinds.Percent = codes "%"
kind_text kinds.Ampersand = codes "&"
kind_text kinds.AndAnd = codes "&&"
kind_text kinds.Bar = codes "|"
kind_text kinds.OrOr = codes "||"
kind_text kinds.Caret = codes "^"
kind_text kinds.Tilde = codes "~"
kind_text kinds.Not = codes "!"
kind_text kinds.ShiftLeft = codes "<<"
kind_text kinds.Dot = codes "."
kind_text kinds.Arrow = codes "->"
kind_text kinds.Comma = codes ","
kind_text kinds.Semicolon = codes ";"
kind_text kinds.Colon = codes ":"

abbrev pub sign_text : Sign → List ℕ
sign_text (One kind) = kind_text kind
sign_text RightShift = codes ">>"

abbrev pub piece_text : Piece → List ℕ
piece_text (InLine sign) = sign_text sign
piece_text (ScopeLine scope) = scope_text scope

-- ---- what stands between two pieces

-- a space; before and behind a line of its own a line feed
abbrev pub gap : Piece → Piece → ℕ
gap (InLine sign) (InLine next) = 32
gap (InLine sign) (ScopeLine scope) = 10
gap (ScopeLine scope) next = 10

-- behind the last piece stands a line feed
abbrev pub gap_behind : Piece → List Piece → ℕ
gap_behind piece [] = 10
gap_behind piece (next ∷ others) = gap piece next

abbrev pub pieces_text : List Piece → List ℕ
pieces_text [] = []
pieces_text (piece ∷ others) = piece_text piece ++ gap_behind piece others ∷ pieces_text others

-- the text of all pieces; with none it is one line feed
abbrev pub text_of : List Piece → List ℕ
text_of [] = 10 ∷ []
text_of (piece ∷ others) = pieces_text (piece ∷ others)

-- ---- signs that occur again and again

abbrev pub around : Bool → List Sign → List Sign
around false signs = signs
around true signs = One kinds.OpenParen ∷ (signs ++ One kinds.CloseParen ∷ [])

-- each of a list behind a comma
abbrev pub after_commas : {A : Type 0} → (A → List Sign) → List A → List Sign
after_commas pieces [] = []
after_commas pieces (x ∷ xs) = One kinds.Comma ∷ (pieces x ++ after_commas pieces xs)

-- a list with commas between
abbrev pub with_commas : {A : Type 0} → (A → List Sign) → List A → List Sign
with_commas pieces [] = []
with_commas pieces (x ∷ xs) = pieces x ++ after_commas pieces xs
