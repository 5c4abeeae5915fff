-- Each token's text before a gap is lexed as that token: words, names, numbers and marks.
use Rattle.std.proofs.Common.{rules, ◌≡◌, ◌≢◌, ℕ, zero, suc, ◌<◌, ◌≤◌, Bool, true, false, List, [], ◌∷◌, ◌++◌, length, get_or, take, decimal, Ok, refl, sym, ap, ◌∙◌, subst, arith}
use Rattle.std.specs.List.{list_all, prefix_len}
use Rattle.std.specs.Str.Parse.{AllDigits, digits_value}
use Rattle.std.proofs.Math.Seq.{take-append_seam}
use Rattle.std.proofs.lemmas.Bool.Decides.{nat_tests}
use Rattle.std.proofs.lemmas.Fmt.{decimal_is_IsNumeral, decimal_digit, first_decimal}
use Rattle.std.proofs.lemmas.List.Folds.{prefix_len-append}
use Rattle.std.proofs.lemmas.Str.Parse.{digit_from_value}
use Rattle.ckc_text.specs.Names.{is_digit, is_letter, is_word_byte, begins_with}
use Rattle.ckc_lexer.specs.Words.{is_decimal, limited, word_piece}
use Rattle.ckc_lexer.specs.Pieces.{StandsAs, Stands, front_of}
use Rattle.ckc_lexer.specs.declared.front.Front.{Front}
use Rattle.ckc_lexer.specs.declared.front.Front.TheVariants.{Word}
use Rattle.ckc_lexer.specs.declared.piece.Piece.{Piece}
use Rattle.ckc_lexer.specs.declared.piece.Piece.TheVariants.{Lexeme, Named}
use Rattle.ckc_lexer.specs.declared.token.TokenKind.{TokenKind}
use Rattle.ckc_lexer.specs.declared.keyword.Keyword.{Keyword}
use Rattle.ckc_lexer.specs.declared.keyword.Keyword.TheVariants as keywords
use Rattle.ckc_lexer.specs.declared.token.TokenKind.TheVariants as kinds
use Rattle.ckc_lexer.proofs.Numerals.{is_decimal_digits}
use Rattle.ckc_printer.specs.Pieces.{kind_text}
use Rattle.ckc_lexer.proofs.Words.{IsWordText}
use Rattle.ckc_printer.specs.ReadingBack.{IsFreeName}

-- a line feed or a space
abbrev pub gap_byte : Bool → ℕ
gap_byte true = 10
gap_byte false = 32

-- ---- words and marks

-- this kind has one text
abbrev pub IsFixed : TokenKind → Type 0
IsFixed (kinds.Name name) = ⊥
IsFixed (kinds.Number n) = ⊥
IsFixed (kinds.Character b) = ⊥
IsFixed (kinds.Text bytes) = ⊥
IsFixed (kinds.Scope scope) = ⊥
IsFixed kind = Unit {0}

abbrev pub StandsBefore : Bool → TokenKind → Piece → Type 0
StandsBefore ends k piece = (first : Bool) (rest : List ℕ) → Stands first (kind_text k ++ gap_byte ends ∷ rest) piece (length (kind_text k))

keyword_before : (word : Keyword) → StandsBefore true (kinds.Keyword word) (Lexeme (kinds.Keyword word)) × StandsBefore false (kinds.Keyword word) (Lexeme (kinds.Keyword word))
keyword_before keywords.Int = (λ first rest. search rules, λ first rest. search rules)
keyword_before word = (λ first rest. search rules, λ first rest. search rules)

fixed_before : (k : TokenKind) → IsFixed k → StandsBefore true k (Lexeme k) × StandsBefore false k (Lexeme k)
fixed_before (kinds.Name name) f = absurd f
fixed_before (kinds.Number n) f = absurd f
fixed_before (kinds.Character b) f = absurd f
fixed_before (kinds.Text bytes) f = absurd f
fixed_before (kinds.Scope scope) f = absurd f
fixed_before (kinds.Keyword word) f = keyword_before word
fixed_before k f = (λ first rest. search rules, λ first rest. search rules)

pub fixed_stands : (ends : Bool) (k : TokenKind) → IsFixed k → StandsBefore ends k (Lexeme k)
fixed_stands true k f = (fixed_before k f).0
fixed_stands false k f = (fixed_before k f).1

-- ---- names and numbers

word_front : (b : ℕ) (bs : List ℕ) → is_word_byte b ≡ true → front_of (b ∷ bs) ≡ Word
word_front b bs h = grind (arith, nat_tests)

word_ends : (w ys : List ℕ) → prefix_len is_word_byte w ≡ length w → prefix_len is_word_byte ys ≡ 0 → prefix_len is_word_byte (w ++ ys) ≡ length w
word_ends w ys h e = grind (arith, nat_tests, prefix_len-append is_word_byte w ys)

word_stands : (first : Bool) (w ys : List ℕ) → IsWordText w → prefix_len is_word_byte ys ≡ 0 → Stands first (w ++ ys) (word_piece w) (length w)
word_stands first [] ys h e = let s = h.starts in absurd (cc)
word_stands first (b ∷ bs) ys h e =
    let w = b ∷ bs in
    let len = word_ends w ys h.whole e in
    subst (λ (f : Front). StandsAs f first (w ++ ys) (word_piece w) (length w)) (sym (word_front b (bs ++ ys) h.starts))
    (sym (ap (λ k. word_piece (take k (w ++ ys))) len ∙ ap word_piece (take-append_seam w ys)), sym len)

no_digit : (name : List ℕ) → begins_with is_letter name ≡ true → begins_with is_digit name ≡ false
no_digit [] h = refl
no_digit (b ∷ bs) h = grind (arith, nat_tests)

letter_starts : (name : List ℕ) → begins_with is_letter name ≡ true → begins_with is_word_byte name ≡ true
letter_starts [] h = h
letter_starts (b ∷ bs) h = grind (arith, nat_tests)

name_is : {name : List ℕ} → IsFreeName name → word_piece name ≡ Named name
name_is {name} h = let d = no_digit name h.word.starts in let f = h.free in rw (d, f) refl

pub name_stands : (ends : Bool) {name : List ℕ} → IsFreeName name → StandsBefore ends (kinds.Name name) (Named name)
name_stands true {name} h first rest = subst (λ p. Stands first (name ++ 10 ∷ rest) p (length name)) (name_is h) (word_stands first name (10 ∷ rest) (record { starts = letter_starts name h.word.starts; whole = h.word.whole }) refl)
name_stands false {name} h first rest = subst (λ p. Stands first (name ++ 32 ∷ rest) p (length name)) (name_is h) (word_stands first name (32 ∷ rest) (record { starts = letter_starts name h.word.starts; whole = h.word.whole }) refl)

digits_pass : (ds : List ℕ) → AllDigits 10 ds → list_all is_digit ds ≡ true
digits_pass [] h = refl
digits_pass (b ∷ bs) h =
    let d = digit_from_value b h.0 in
    let others = digits_pass bs h.1 in
    grind (arith, nat_tests)

digits_whole : (ds : List ℕ) → AllDigits 10 ds → prefix_len is_word_byte ds ≡ length ds
digits_whole [] h = refl
digits_whole (b ∷ bs) h =
    let d = digit_from_value b h.0 in
    let others = digits_whole bs h.1 in
    grind (arith, nat_tests)

digits_start : (ds : List ℕ) → 0 < length ds → list_all is_digit ds ≡ true → begins_with is_digit ds ≡ true
digits_start [] some h = absurd (omega arith)
digits_start (b ∷ bs) some h = grind (arith, nat_tests)

digit_starts : (ds : List ℕ) → begins_with is_digit ds ≡ true → begins_with is_word_byte ds ≡ true
digit_starts [] h = h
digit_starts (b ∷ bs) h = grind (arith, nat_tests)

-- of several digits the first is no 0
first_digit : (n : ℕ) → n ≤ 2147483647 → 1 < length (decimal n) → get_or (decimal n) 0 0 ≢ 48
first_digit zero h several = absurd (omega (arith, ap length (decimal_digit 0 (omega arith))))
first_digit (suc n) h several = let f = first_decimal (suc n) (omega arith) (omega arith) in omega arith

numeral_is : (ds : List ℕ) (n : ℕ) → begins_with is_digit ds ≡ true → is_decimal ds ≡ true → digits_value 10 ds ≡ n → n ≤ 2147483647 → word_piece ds ≡ Lexeme (kinds.Number n)
numeral_is ds n s d v h =
    let l : limited n ≡ Ok n = grind (arith, nat_tests) in
    rw (s, d, v, l) refl

-- what a number is printed as: a word, and the number
record IsNumeralText (n : ℕ) (ds : List ℕ) : Type 0 where
  word : IsWordText ds
  is : word_piece ds ≡ Lexeme (kinds.Number n)

number_is : (n : ℕ) → n ≤ 2147483647 → IsNumeralText n (decimal n)
number_is n h =
    let d = decimal_is_IsNumeral n (omega arith) in
    let all = digits_pass (decimal n) d.0.1 in
    let starts = digits_start (decimal n) d.0.0 all in
    record {
      word = record { starts = digit_starts (decimal n) starts; whole = digits_whole (decimal n) d.0.1 };
      is = numeral_is (decimal n) n starts (sym (is_decimal_digits (decimal n) d.0.0 (first_digit n h)) ∙ all) d.1 h;
    }

pub number_stands : (ends : Bool) {n : ℕ} → n ≤ 2147483647 → StandsBefore ends (kinds.Number n) (Lexeme (kinds.Number n))
number_stands true {n} h first rest =
    let d = number_is n h in
    subst (λ p. Stands first (decimal n ++ 10 ∷ rest) p (length (decimal n))) d.is (word_stands first (decimal n) (10 ∷ rest) d.word refl)
number_stands false {n} h first rest =
    let d = number_is n h in
    subst (λ p. Stands first (decimal n ++ 32 ∷ rest) p (length (decimal n))) d.is (word_stands first (decimal n) (32 ∷ rest) d.word refl)
