-- Directives by their parts: words, and other bytes one by one, with blanks between.
use Rattle.std.specs.Prelude.{ℕ, min, max, Bool, true, false, not, ◌||◌, ◌&&◌, cond, List, length, take, drop, codes, Option, Some, None, is_some}
use Rattle.std.specs.Prelude.{Result, Ok, Err}
use Rattle.std.specs.List.{list_all, prefix_len}
use Rattle.std.specs.Str.{bytes_eq, str_eq_ignore_ascii_case}
use Rattle.ckc_text.specs.declared.code.Code.{Code}
use Rattle.ckc_text.specs.declared.code.Code.TheVariants.{E05}
use Rattle.ckc_text.specs.Names.{is_digit, is_letter, is_word_byte, begins_with}
use Rattle.ckc_lexer.specs.Bytes.{is_blank}
use Rattle.ckc_lexer.specs.Words.{keywords, listed, number_of}
use Rattle.ckc_lexer.specs.declared.piece.ScopeWord.{ScopeWord}
use Rattle.ckc_lexer.specs.declared.piece.ScopeWord.TheVariants as scope
use Rattle.ckc_lexer.specs.declared.piece.Piece.{Piece}
use Rattle.ckc_lexer.specs.declared.piece.Piece.TheVariants.{Define, Scope, Fault}

-- the text from its first byte on that is no blank
abbrev pub unblanked : List ℕ → List ℕ
unblanked text = drop (prefix_len is_blank text) text

-- a part is a word, taken to its end, or one other byte
abbrev pub part_len : List ℕ → ℕ
part_len text = max (prefix_len is_word_byte text) (min 1 (length text))

-- the first part of a text and what stands behind it
unfoldable pub part : List ℕ → List ℕ × List ℕ
part text = (take (part_len (unblanked text)) (unblanked text), drop (part_len (unblanked text)) (unblanked text))

-- the word is a keyword
abbrev pub is_keyword : List ℕ → Bool
is_keyword text = is_some (listed text keywords)

-- `#define name number`: a keyword can't be defined, and nothing stands behind the number
unfoldable pub numbered_definition : List ℕ → Bool → List ℕ → Result ℕ Code → Piece
numbered_definition name negative rest (Err code) = Fault code
numbered_definition name negative rest (Ok value) =
    cond (is_keyword name || not (list_all is_blank rest)) (Fault E05) (Define (record { name = name; negative = negative; value = value }))

unfoldable pub signed_definition : List ℕ → Bool → List ℕ × List ℕ → Piece
signed_definition name negative (number, rest) =
    cond (begins_with is_letter name && begins_with is_digit number) (numbered_definition name negative rest (number_of number)) (Fault E05)

-- the number may have a minus
unfoldable pub definition_of : List ℕ → List ℕ × List ℕ → Piece
definition_of name (sign, rest) = cond (bytes_eq sign (codes "-")) (signed_definition name true (part rest)) (signed_definition name false (sign, rest))

-- the words of `#pragma CHECKED_SCOPE`, in any letter case
abbrev pub scope_word : List ℕ → Option ScopeWord
scope_word word =
    cond (str_eq_ignore_ascii_case word (codes "on")) (Some scope.On)
    (cond (str_eq_ignore_ascii_case word (codes "off")) (Some scope.Off)
    (cond (str_eq_ignore_ascii_case word (codes "push")) (Some scope.Push) (cond (str_eq_ignore_ascii_case word (codes "pop")) (Some scope.Pop) None)))

abbrev pub scope_piece : Option ScopeWord → Piece
scope_piece None = Fault E05
scope_piece (Some word) = Scope word

unfoldable pub scope_of : List ℕ × List ℕ → Piece
scope_of (word, rest) = cond (list_all is_blank rest) (scope_piece (scope_word word)) (Fault E05)

unfoldable pub pragma_of : List ℕ × List ℕ → Piece
pragma_of (word, rest) = cond (bytes_eq word (codes "CHECKED_SCOPE")) (scope_of (part rest)) (Fault E05)

-- a directive other than `#include`, by its first part
unfoldable pub named_directive : List ℕ × List ℕ → Piece
named_directive (word, rest) =
    cond (bytes_eq word (codes "define")) (definition_of (part rest).0 (part (part rest).1))
    (cond (bytes_eq word (codes "pragma")) (pragma_of (part rest)) (Fault E05))
