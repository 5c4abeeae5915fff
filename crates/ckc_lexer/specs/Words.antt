-- Keywords, names and numbers.
use Rattle.std.specs.Prelude.{ℕ, Bool, false, ◌||◌, ◌&&◌, cond, List, [], ◌∷◌, drop, ◌==◌, nat_le, codes, Option, Some, None, Result, Ok, Err}
use Rattle.std.specs.List.{list_all}
use Rattle.std.specs.Str.{bytes_eq}
use Rattle.std.specs.Str.Parse.{digits_value}
use Rattle.ckc_text.specs.declared.code.Code.{Code}
use Rattle.ckc_text.specs.declared.code.Code.TheVariants.{E02, E04}
use Rattle.ckc_text.specs.Names.{is_digit, begins_with}
use Rattle.ckc_lexer.specs.Bytes.{is_hexadecimal_digit}
use Rattle.ckc_lexer.specs.declared.keyword.Keyword.{Keyword}
use Rattle.ckc_lexer.specs.declared.keyword.Keyword.TheVariants.{Int, Char, Void, Struct, If, Else, While, For, Return}
use Rattle.ckc_lexer.specs.declared.keyword.Keyword.TheVariants.{Break, Continue, Sizeof, Malloc, Calloc, NtCalloc, TMalloc, Ptr, ArrayPtr}
use Rattle.ckc_lexer.specs.declared.keyword.Keyword.TheVariants.{NtArrayPtr, TPtr, TArrayPtr, TNtArrayPtr}
use Rattle.ckc_lexer.specs.declared.keyword.Keyword.TheVariants.{Checked, NtChecked, Unchecked, Bundled, Tainted}
use Rattle.ckc_lexer.specs.declared.keyword.Keyword.TheVariants.{Callback, DynamicBoundsCast, AssumeBoundsCast}
use Rattle.ckc_lexer.specs.declared.token.TokenKind.TheVariants as kinds
use Rattle.ckc_lexer.specs.declared.piece.Piece.{Piece}
use Rattle.ckc_lexer.specs.declared.piece.Piece.TheVariants.{Lexeme, Named, Fault}

-- how each keyword is spelled
abbrev pub keywords : List (List ℕ × Keyword)
keywords =
    (codes "int", Int) ∷ (codes "char", Char) ∷ (codes "void", Void) ∷ (codes "struct", Struct) ∷ (codes "if", If) ∷ (codes "else", Else)
    ∷ (codes "while", While) ∷ (codes "for", For) ∷ (codes "return", Return) ∷ (codes "break", Break) ∷ (codes "continue", Continue)
    ∷ (codes "sizeof", Sizeof) ∷ (codes "malloc", Malloc) ∷ (codes "calloc", Calloc) ∷ (codes "nt_calloc", NtCalloc) ∷ (codes "t_malloc", TMalloc)
    ∷ (codes "ptr", Ptr) ∷ (codes "_Ptr", Ptr) ∷ (codes "array_ptr", ArrayPtr) ∷ (codes "_Array_ptr", ArrayPtr) ∷ (codes "nt_array_ptr", NtArrayPtr)
    ∷ (codes "_Nt_array_ptr", NtArrayPtr) ∷ (codes "_TPtr", TPtr) ∷ (codes "_TArray_ptr", TArrayPtr) ∷ (codes "_TNt_array_ptr", TNtArrayPtr)
    ∷ (codes "_Checked", Checked) ∷ (codes "_Nt_checked", NtChecked) ∷ (codes "_Unchecked", Unchecked) ∷ (codes "_Bundled", Bundled)
    ∷ (codes "_Tainted", Tainted) ∷ (codes "_Callback", Callback) ∷ (codes "_Dynamic_bounds_cast", DynamicBoundsCast)
    ∷ (codes "_Assume_bounds_cast", AssumeBoundsCast) ∷ []

-- what the whole text is by a table
abbrev pub listed : {A : Type 0} → List ℕ → List (List ℕ × A) → Option A
listed text [] = None
listed text (entry ∷ entries) = cond (bytes_eq text entry.0) (Some entry.1) (listed text entries)

-- `0`, or digits of which the first isn't 0
abbrev pub is_decimal : List ℕ → Bool
is_decimal [] = false
is_decimal (b ∷ []) = is_digit b
is_decimal (b ∷ c ∷ bs) = (nat_le 49 b && nat_le b 57) && list_all is_digit (c ∷ bs)

-- `0x` or `0X`, and hexadecimal digits, one at least
abbrev pub is_hexadecimal : List ℕ → Bool
is_hexadecimal [] = false
is_hexadecimal (b ∷ []) = false
is_hexadecimal (b ∷ c ∷ []) = false
is_hexadecimal (b ∷ c ∷ d ∷ ds) = (b == 48 && (c == 120 || c == 88)) && list_all is_hexadecimal_digit (d ∷ ds)

-- a number is at most 2147483647
abbrev pub limited : ℕ → Result ℕ Code
limited n = cond (nat_le n 2147483647) (Ok n) (Err E04)

-- the value of letters and digits that begin with a digit: where they are no number, a letter or digit follows one directly
abbrev pub number_of : List ℕ → Result ℕ Code
number_of text =
    cond (is_decimal text) (limited (digits_value 10 text)) (cond (is_hexadecimal text) (limited (digits_value 16 (drop 2 text))) (Err E02))

abbrev pub number_piece : Result ℕ Code → Piece
number_piece (Ok n) = Lexeme (kinds.Number n)
number_piece (Err code) = Fault code

-- what isn't in the table is a name
abbrev pub name_piece : List ℕ → Option Keyword → Piece
name_piece text None = Named text
name_piece text (Some keyword) = Lexeme (kinds.Keyword keyword)

-- what letters and digits are, taken to their end
abbrev pub word_piece : List ℕ → Piece
word_piece text = cond (begins_with is_digit text) (number_piece (number_of text)) (name_piece text (listed text keywords))
