-- What a piece of a source says can be spelled.
use Rattle.std.proofs.Common.{rules, ◌≡◌, ℕ, zero, suc, ◌+◌, ◌*◌, ◌<◌, ◌≤◌, Bool, true, false, ◌&&◌, ◌||◌, ◌==◌, not, cond, nat_le, List, [], ◌∷◌, take, drop, bytes_eq, codes, Option, Some, None, Result, Ok, Err, IfSome, IfOk, refl, sym, subst, arith}
use Rattle.std.specs.List.{AllByRecursion, list_all, list_any, prefix_len}
use Rattle.std.specs.Char.{digit_value}
use Rattle.std.specs.Str.Parse.{digits_value}
use Rattle.std.proofs.lemmas.Bool.Decides.{nat_tests}
use Rattle.ckc_text.specs.declared.code.Code.{Code}
use Rattle.ckc_text.specs.declared.code.Code.TheVariants.{E01, E02, E04, E05}
use Rattle.ckc_text.specs.Names.{is_digit, is_letter, is_word_byte, begins_with, IsName}
use Rattle.ckc_lexer.specs.Bytes.{is_blank, is_line_feed, is_in_line, is_control, is_forbidden, is_hexadecimal_digit}
use Rattle.ckc_lexer.specs.Words.{keywords, listed, is_decimal, is_hexadecimal, limited, number_of, number_piece, name_piece, word_piece}
use Rattle.ckc_lexer.specs.Marks.{long_marks, short_marks, long_mark, short_mark, marked, mark_piece}
use Rattle.ckc_lexer.specs.Quoted.{Means, nothing, byte, IsContent, quoted_byte, escape, simple_escape, hexadecimal_escape, string_piece, character_piece}
use Rattle.ckc_lexer.specs.Directives.{part, is_keyword, numbered_definition, signed_definition, definition_of, scope_word, scope_piece, scope_of, pragma_of, named_directive}
use Rattle.ckc_lexer.specs.Rules.{comment}
use Rattle.ckc_lexer.specs.Pieces.{front_of, comment_piece, is_closing, is_quote, is_include, IsDirective, IsHash, StandsAs, Stands}
use Rattle.ckc_lexer.specs.declared.front.Front.{Front}
use Rattle.ckc_lexer.specs.declared.front.Front.TheVariants.{BlankByte, LineComment, BlockComment, StringQuote, CharacterQuote, Word, Hash, Mark}
use Rattle.ckc_lexer.specs.declared.piece.Piece.{Piece}
use Rattle.ckc_lexer.specs.declared.piece.Piece.TheVariants.{Lexeme, Named, Include, Define, CommentFault, Forbidden, Fault}
use Rattle.ckc_lexer.specs.declared.piece.ScopeWord.{ScopeWord}
use Rattle.ckc_lexer.specs.declared.keyword.Keyword.{Keyword}
use Rattle.ckc_lexer.specs.declared.token.TokenKind.{TokenKind}
use Rattle.ckc_lexer.proofs.Words.{IsWordText, word_text, name_of_word}
use Rattle.ckc_printer.specs.ReadingBack.{IsFreeName, IsLexical, AreBytes}

-- its token can be spelled, its name is one, and the number of its definition is in range
abbrev pub IsLexicalPiece : Piece → Type 0
IsLexicalPiece (Lexeme k) = IsLexical k
IsLexicalPiece (Named name) = IsFreeName name
IsLexicalPiece (Define d) = d.value ≤ 2147483647
IsLexicalPiece piece = Unit {0}

-- ---- choices

decided : {A : Type 0} (P : A → Type 0) (c : Bool) (x y : A) → (c ≡ true → P x) → (c ≡ false → P y) → P (cond c x y)
decided P true x y h k = h refl
decided P false x y h k = k refl

pub either : {A : Type 0} (P : A → Type 0) (c : Bool) (x y : A) → P x → P y → P (cond c x y)
either P c x y h k = decided P c x y (λ e. h) (λ e. k)

-- ---- words and marks

-- what a table lists can be spelled if all its kinds can
listed_lexical : (text : List ℕ) (entries : List (List ℕ × TokenKind)) → AllByRecursion (λ (entry : List ℕ × TokenKind). IsLexical entry.1) entries → IfSome (listed text entries) IsLexical
listed_lexical text [] h = tt
listed_lexical text (entry ∷ entries) h =
    either (λ (found : Option TokenKind). IfSome found IsLexical) (bytes_eq text entry.0) (Some entry.1) (listed text entries) h.0 (listed_lexical text entries h.1)

limited_small : (n : ℕ) → IfOk (limited n) (λ n. n ≤ 2147483647)
limited_small n = decided (λ (r : Result ℕ Code). IfOk r (λ n. n ≤ 2147483647)) (nat_le n 2147483647) (Ok n) (Err E04) (λ e. grind (arith, nat_tests)) (λ e. tt)

number_small : (text : List ℕ) → IfOk (number_of text) (λ n. n ≤ 2147483647)
number_small text =
    let small = λ (r : Result ℕ Code). IfOk r (λ n. n ≤ 2147483647) in
    let sixteen = limited (digits_value 16 (drop 2 text)) in
    either small (is_decimal text) (limited (digits_value 10 text)) (cond (is_hexadecimal text) sixteen (Err E02)) (limited_small (digits_value 10 text))
    (either small (is_hexadecimal text) sixteen (Err E02) (limited_small (digits_value 16 (drop 2 text))) tt)

number_lexical : (r : Result ℕ Code) → IfOk r (λ n. n ≤ 2147483647) → IsLexicalPiece (number_piece r)
number_lexical (Ok n) h = h
number_lexical (Err code) h = tt

name_lexical : (text : List ℕ) (found : Option Keyword) → IsName text → listed text keywords ≡ found → IsLexicalPiece (name_piece text found)
name_lexical text None word free = record { word = word; free = free }
name_lexical text (Some keyword) word is = tt

word_lexical : (text : List ℕ) → IsWordText text → IsLexicalPiece (word_piece text)
word_lexical text word =
    decided IsLexicalPiece (begins_with is_digit text) (number_piece (number_of text)) (name_piece text (listed text keywords)) (λ e. number_lexical (number_of text) (number_small text))
    (λ e. name_lexical text (listed text keywords) (name_of_word text word e) refl)

word_taken : (text : List ℕ) → front_of text ≡ Word → IsLexicalPiece (word_piece (take (prefix_len is_word_byte text) text))
word_taken text e = word_lexical (take (prefix_len is_word_byte text) text) (word_text text e)

long_lexical : (text : List ℕ) → IfSome (long_mark text) IsLexical
long_lexical [] = tt
long_lexical (b ∷ []) = tt
long_lexical (b ∷ c ∷ cs) = listed_lexical (b ∷ c ∷ []) long_marks (search rules)

short_lexical : (text : List ℕ) → IfSome (short_mark text) IsLexical
short_lexical [] = tt
short_lexical (b ∷ bs) = listed_lexical (b ∷ []) short_marks (search rules)

marked_lexical : (long short : Option TokenKind) → IfSome long IsLexical → IfSome short IsLexical → IsLexicalPiece (marked long short).0
marked_lexical (Some k) short h i = h
marked_lexical None (Some k) h i = i
marked_lexical None None h i = tt

mark_lexical : (text : List ℕ) → IsLexicalPiece (mark_piece text).0
mark_lexical [] = tt
mark_lexical (b ∷ bs) =
    let found = marked (long_mark (b ∷ bs)) (short_mark (b ∷ bs)) in
    either (λ (x : Piece × ℕ). IsLexicalPiece x.0) (is_forbidden b) (Forbidden, 1) found tt (marked_lexical (long_mark (b ∷ bs)) (short_mark (b ∷ bs)) (long_lexical (b ∷ bs)) (short_lexical (b ∷ bs)))

-- ---- strings and characters

abbrev FirstIsByte : Option (ℕ × ℕ) → Type 0
FirstIsByte o = IfSome o (λ (x : ℕ × ℕ). x.0 < 256)

simple_byte : (c : ℕ) → FirstIsByte (simple_escape c)
simple_byte c =
    either FirstIsByte (c == 110) _ _ (omega arith)
    (either FirstIsByte (c == 116) _ _ (omega arith)
    (either FirstIsByte (c == 114) _ _ (omega arith)
    (either FirstIsByte (c == 48) _ _ (omega arith) (either FirstIsByte (c == 92) _ _ (omega arith) (either FirstIsByte (c == 39) _ _ (omega arith) (either FirstIsByte (c == 34) _ _ (omega arith) tt))))))

hexadecimal_small : (d : ℕ) → is_hexadecimal_digit d ≡ true → digit_value d < 16
hexadecimal_small d h = grind (arith, nat_tests)

both_true : (a b : Bool) → (a && b) ≡ true → (a ≡ true) × (b ≡ true)
both_true true b e = (refl, e)
both_true false b e = cc

hexadecimal_byte : (text : List ℕ) → FirstIsByte (hexadecimal_escape text)
hexadecimal_byte [] = tt
hexadecimal_byte (h ∷ []) = tt
hexadecimal_byte (h ∷ l ∷ rest) =
    decided FirstIsByte (is_hexadecimal_digit h && is_hexadecimal_digit l) (Some (16 * digit_value h + digit_value l, 4)) None
    (λ e. let both = both_true (is_hexadecimal_digit h) (is_hexadecimal_digit l) e in omega (arith, hexadecimal_small h both.0, hexadecimal_small l both.1)) (λ e. tt)

escape_byte : (text : List ℕ) → FirstIsByte (escape text)
escape_byte [] = tt
escape_byte (c ∷ cs) = either FirstIsByte (c == 120) (hexadecimal_escape cs) (simple_escape c) (hexadecimal_byte cs) (simple_byte c)

first_byte : (text : List ℕ) → AreBytes text → FirstIsByte (quoted_byte text)
first_byte [] h = tt
first_byte (b ∷ bs) h = either FirstIsByte (b == 92) (escape bs) (Some (b, 1)) (escape_byte bs) h.0

pub dropped : (n : ℕ) (text : List ℕ) → AreBytes text → AreBytes (drop n text)
dropped zero text h = h
dropped (suc n) [] h = tt
dropped (suc n) (b ∷ bs) h = dropped n bs h.1

taken : (n : ℕ) (text : List ℕ) → AreBytes text → AreBytes (take n text)
taken zero text h = tt
taken (suc n) [] h = tt
taken (suc n) (b ∷ bs) h = (h.0, taken n bs h.1)

means_bytes : {text bytes : List ℕ} → Means text bytes → AreBytes text → AreBytes bytes
means_bytes nothing h = tt
means_bytes {text} (byte b n e rest) h = (subst FirstIsByte e (first_byte text h), means_bytes rest (dropped n text h))

content_bytes : (text : List ℕ) (content : Option (List ℕ)) → IsContent text content → AreBytes text → IfSome content AreBytes
content_bytes text None c h = tt
content_bytes text (Some bytes) c h = means_bytes c h

string_lexical : (forbidden : Bool) (content : Option (List ℕ)) (closed : Bool) → IfSome content AreBytes → IsLexicalPiece (string_piece forbidden content closed)
string_lexical true content closed h = tt
string_lexical false None closed h = tt
string_lexical false (Some bytes) true h = h
string_lexical false (Some bytes) false h = tt

character_lexical : (forbidden : Bool) (content : Option (List ℕ)) (closed : Bool) → IfSome content AreBytes → IsLexicalPiece (character_piece forbidden content closed)
character_lexical true content closed h = tt
character_lexical false None closed h = tt
character_lexical false (Some []) true h = tt
character_lexical false (Some (b ∷ [])) true h = h.0
character_lexical false (Some (b ∷ c ∷ bs)) true h = tt
character_lexical false (Some bytes) false h = tt

-- ---- comments and directives

closed_lexical : (closed ends_line : Bool) → IsLexicalPiece (comment closed ends_line)
closed_lexical true ends_line = tt
closed_lexical false ends_line = tt

comment_lexical : (body : List ℕ) (closed : Bool) → IsLexicalPiece (comment_piece body closed)
comment_lexical body closed =
    let ends_line = list_any is_line_feed body in
    either IsLexicalPiece (list_any is_control body) (CommentFault E01) (comment closed ends_line) tt (closed_lexical closed ends_line)

numbered_lexical : (name : List ℕ) (negative : Bool) (rest : List ℕ) (r : Result ℕ Code) → IfOk r (λ n. n ≤ 2147483647) → IsLexicalPiece (numbered_definition name negative rest r)
unfolding numbered_definition
numbered_lexical name negative rest (Err code) h = tt
numbered_lexical name negative rest (Ok value) h =
    either IsLexicalPiece (is_keyword name || not (list_all is_blank rest)) (Fault E05) (Define (record { name = name; negative = negative; value = value })) tt h

signed_lexical : (name : List ℕ) (negative : Bool) (shown : List ℕ × List ℕ) → IsLexicalPiece (signed_definition name negative shown)
unfolding signed_definition
signed_lexical name negative (number, rest) =
    either IsLexicalPiece (begins_with is_letter name && begins_with is_digit number) (numbered_definition name negative rest (number_of number)) (Fault E05)
    (numbered_lexical name negative rest (number_of number) (number_small number)) tt

definition_lexical : (name : List ℕ) (shown : List ℕ × List ℕ) → IsLexicalPiece (definition_of name shown)
unfolding definition_of
definition_lexical name (sign, rest) =
    either IsLexicalPiece (bytes_eq sign (codes "-")) (signed_definition name true (part rest)) (signed_definition name false (sign, rest)) (signed_lexical name true (part rest)) (signed_lexical name false (sign, rest))

scope_lexical : (found : Option ScopeWord) → IsLexicalPiece (scope_piece found)
scope_lexical None = tt
scope_lexical (Some word) = tt

scope_of_lexical : (shown : List ℕ × List ℕ) → IsLexicalPiece (scope_of shown)
unfolding scope_of
scope_of_lexical (word, rest) = either IsLexicalPiece (list_all is_blank rest) (scope_piece (scope_word word)) (Fault E05) (scope_lexical (scope_word word)) tt

pragma_lexical : (shown : List ℕ × List ℕ) → IsLexicalPiece (pragma_of shown)
unfolding pragma_of
pragma_lexical (word, rest) = either IsLexicalPiece (bytes_eq word (codes "CHECKED_SCOPE")) (scope_of (part rest)) (Fault E05) (scope_of_lexical (part rest)) tt

named_lexical : (shown : List ℕ × List ℕ) → IsLexicalPiece (named_directive shown)
unfolding named_directive
named_lexical (word, rest) =
    let definition = definition_of (part rest).0 (part (part rest).1) in
    let other = cond (bytes_eq word (codes "pragma")) (pragma_of (part rest)) (Fault E05) in
    either IsLexicalPiece (bytes_eq word (codes "define")) definition other (definition_lexical (part rest).0 (part (part rest).1))
    (either IsLexicalPiece (bytes_eq word (codes "pragma")) (pragma_of (part rest)) (Fault E05) (pragma_lexical (part rest)) tt)

directive_lexical : (inner : List ℕ) (m : ℕ) (include : Bool) (piece : Piece) (n : ℕ) → IsDirective inner m include piece n → IsLexicalPiece piece
directive_lexical inner m true piece n (is, len) =
    let line = take (prefix_len is_in_line inner) inner in
    subst IsLexicalPiece (sym is) (either IsLexicalPiece (list_any is_control line) Forbidden Include tt tt)
directive_lexical inner m false piece n (is, len) =
    let shown = take m inner in
    subst IsLexicalPiece (sym is) (either IsLexicalPiece (list_any is_forbidden shown) Forbidden (named_directive (part shown)) tt (named_lexical (part shown)))

hash_lexical : (first : Bool) (inner : List ℕ) (piece : Piece) (n : ℕ) → IsHash first inner piece n → IsLexicalPiece piece
hash_lexical false inner piece n (is, len) = subst IsLexicalPiece (sym is) tt
hash_lexical true inner piece n (m, e, d) = directive_lexical inner m (is_include (take m inner)) piece n d

-- ---- all pieces

lexical_as : (front : Front) (first : Bool) (text : List ℕ) (piece : Piece) (n : ℕ) → front_of text ≡ front → AreBytes text → StandsAs front first text piece n → IsLexicalPiece piece
lexical_as BlankByte first text piece n f h (is, len) = subst IsLexicalPiece (sym is) tt
lexical_as LineComment first text piece n f h (is, len) =
    let inner = drop 2 text in
    subst IsLexicalPiece (sym is) (comment_lexical (take (prefix_len is_in_line inner) inner) true)
lexical_as BlockComment first text piece n f h (m, e, (is, len)) =
    let inner = drop 2 text in
    subst IsLexicalPiece (sym is) (comment_lexical (take m inner) (is_closing (drop m inner)))
lexical_as StringQuote first text piece n f h (m, e, content, c, (is, len)) =
    let inner = drop 1 text in
    subst IsLexicalPiece (sym is) (string_lexical (list_any is_control (take m inner)) content (is_quote 34 (drop m inner)) (content_bytes (take m inner) content c (taken m inner (dropped 1 text h))))
lexical_as CharacterQuote first text piece n f h (m, e, content, c, (is, len)) =
    let inner = drop 1 text in
    subst IsLexicalPiece (sym is) (character_lexical (list_any is_forbidden (take m inner)) content (is_quote 39 (drop m inner)) (content_bytes (take m inner) content c (taken m inner (dropped 1 text h))))
lexical_as Word first text piece n f h (is, len) = subst IsLexicalPiece (sym is) (word_taken text f)
lexical_as Hash first text piece n f h d = hash_lexical first (drop 1 text) piece n d
lexical_as Mark first text piece n f h e = subst (λ (x : Piece × ℕ). IsLexicalPiece x.0) (sym e) (mark_lexical text)

pub piece_lexical : (first : Bool) (text : List ℕ) (piece : Piece) (n : ℕ) → AreBytes text → Stands first text piece n → IsLexicalPiece piece
piece_lexical first text piece n h stands = lexical_as (front_of text) first text piece n refl h stands
