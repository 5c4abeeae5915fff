-- What is printed between quotes is lexed as the bytes that it is printed of.
use Rattle.std.proofs.Common.{◌≡◌, ℕ, ◌+◌, ◌*◌, ◌/◌, ◌%◌, ◌<◌, Bool, true, false, ◌==◌, cond, List, [], ◌∷◌, ◌++◌, length, take, flat_map, Some, refl, sym, ap, ◌∙◌, subst, subst₂, append_assoc, append-nil, length-append, arith}
use Rattle.std.specs.List.{list_any}
use Rattle.std.specs.Char.{digit_value}
use Rattle.std.proofs.Math.Seq.{take-append_seam, drop-append_seam}
use Rattle.std.proofs.lemmas.Bool.Decides.{nat_tests}
use Rattle.ckc_lexer.specs.Bytes.{is_control, is_forbidden, is_hexadecimal_digit}
use Rattle.ckc_lexer.specs.Quoted as lexed
use Rattle.ckc_lexer.specs.Quoted.{Means}
use Rattle.ckc_lexer.specs.Runs.{width, Extent, ends, goes}
use Rattle.ckc_lexer.specs.Pieces.{Stands, IsString, IsCharacter}
use Rattle.ckc_lexer.specs.declared.run.Run.TheVariants.{Quoted}
use Rattle.ckc_lexer.specs.declared.piece.Piece.TheVariants.{Lexeme}
use Rattle.ckc_lexer.specs.declared.token.TokenKind.TheVariants.{Character, Text}
use Rattle.ckc_printer.specs.Pieces.{hexadecimal_digit, is_plain, quoted_byte, string_text, character_text}
use Rattle.ckc_printer.specs.ReadingBack.{AreBytes}

-- ---- bytes between quotes

-- nothing that is printed between quotes is this byte
record IsQuote (quote : ℕ) : Type 0 where
  plain : (b : ℕ) → is_plain b ≡ true → (b == quote) ≡ false
  backslash : (92 == quote) ≡ false

plain_width : {quote : ℕ} (b : ℕ) (bs : List ℕ) → IsQuote quote → is_plain b ≡ true → width (Quoted quote) (b ∷ bs) ≡ 1
plain_width b bs q h = let differs = q.plain b h in grind (arith, nat_tests)

escape_width : {quote : ℕ} (bs : List ℕ) → IsQuote quote → width (Quoted quote) (92 ∷ 120 ∷ bs) ≡ 2
escape_width bs q = let differs = q.backslash in rw differs refl

quote_width : (quote : ℕ) (bs : List ℕ) → width (Quoted quote) (quote ∷ bs) ≡ 0
quote_width quote bs = grind (arith, nat_tests)

-- a text between quotes that means these bytes, up to the quote
record Between (text bytes : List ℕ) : Type 0 where
  extent : {quote : ℕ} (rest : List ℕ) → IsQuote quote → Extent (Quoted quote) (text ++ quote ∷ rest) (length text)
  means : Means text bytes
  allowed : list_any is_forbidden text ≡ false
  printed : list_any is_control text ≡ false

none_between : Between [] []
none_between = record { extent = λ {quote} rest q. ends (quote_width quote rest); means = lexed.nothing; allowed = refl; printed = refl }

plain_between : {text bytes : List ℕ} (b : ℕ) → is_plain b ≡ true → Between text bytes → Between (b ∷ text) (b ∷ bytes)
plain_between {text} b h t =
    let is : lexed.quoted_byte (b ∷ text) ≡ Some (b, 1) = grind (arith, nat_tests) in
    let may = t.allowed in
    let in_print = t.printed in
    record {
      extent = λ {quote} rest q. subst (λ n. Extent (Quoted quote) (b ∷ (text ++ quote ∷ rest)) n) (omega arith) (goes 0 (plain_width b (text ++ quote ∷ rest) q h) (t.extent rest q));
      means = lexed.byte b 1 is t.means;
      allowed = grind (arith, nat_tests);
      printed = grind (arith, nat_tests);
    }

-- a hexadecimal digit of this value
record IsHexadecimal (d n : ℕ) : Type 0 where
  plain : is_plain d ≡ true
  digit : is_hexadecimal_digit d ≡ true
  value : digit_value d ≡ n
  allowed : is_forbidden d ≡ false
  printed : is_control d ≡ false

hexadecimal : (n : ℕ) → n < 16 → IsHexadecimal (hexadecimal_digit n) n
hexadecimal n h = record { plain = grind (arith, nat_tests); digit = grind (arith, nat_tests); value = grind (arith, nat_tests); allowed = grind (arith, nat_tests); printed = grind (arith, nat_tests) }

escape_is : {d e x y : ℕ} (text : List ℕ) → IsHexadecimal d x → IsHexadecimal e y → lexed.quoted_byte (92 ∷ 120 ∷ d ∷ e ∷ text) ≡ Some (16 * x + y, 4)
escape_is text h i =
    let a = h.digit in
    let b = i.digit in
    let c = h.value in
    let d = i.value in
    rw (a, b, c, d) refl

escape_between : {text bytes : List ℕ} {d e x y : ℕ} (b : ℕ) → IsHexadecimal d x → IsHexadecimal e y → 16 * x + y ≡ b → Between text bytes → Between (92 ∷ 120 ∷ d ∷ e ∷ text) (b ∷ bytes)
escape_between {text} {d} {e} b h i same t =
    let h_allowed = h.allowed in
    let i_allowed = i.allowed in
    let h_printed = h.printed in
    let i_printed = i.printed in
    record {
      extent = λ {quote} rest q.
          let more = text ++ quote ∷ rest in
          subst (λ n. Extent (Quoted quote) (92 ∷ 120 ∷ d ∷ e ∷ more) n) (omega arith)
          (goes 1 (escape_width (d ∷ e ∷ more) q) (goes 0 (plain_width d (e ∷ more) q h.plain) (goes 0 (plain_width e more q i.plain) (t.extent rest q))));
      means = lexed.byte b 4 (escape_is text h i ∙ ap (λ n. Some (n, 4)) same) t.means;
      allowed = rw (h_allowed, i_allowed) t.allowed;
      printed = rw (h_printed, i_printed) t.printed;
    }

byte_between : {text bytes : List ℕ} (b : ℕ) (plain : Bool) → is_plain b ≡ plain → b < 256 → Between text bytes
    → Between (cond plain (b ∷ []) (92 ∷ 120 ∷ hexadecimal_digit (b / 16) ∷ hexadecimal_digit (b % 16) ∷ []) ++ text) (b ∷ bytes)
byte_between b true h small t = plain_between b h t
byte_between b false h small t = escape_between b (hexadecimal (b / 16) (omega arith)) (hexadecimal (b % 16) (omega arith)) (omega arith) t

bytes_between : (bytes : List ℕ) → AreBytes bytes → Between (flat_map quoted_byte bytes) bytes
bytes_between [] h = none_between
bytes_between (b ∷ bytes) h = byte_between b (is_plain b) refl h.0 (bytes_between bytes h.1)

-- ---- strings and characters

double : IsQuote 34
double = record { plain = λ b h. grind (arith, nat_tests); backslash = refl }

single : IsQuote 39
single = record { plain = λ b h. grind (arith, nat_tests); backslash = refl }

string_is : (q bytes rest : List ℕ) → Between q bytes → IsString (q ++ 34 ∷ rest) (length q) (Some bytes) (Lexeme (Text bytes)) (1 + (length q + 1))
string_is q bytes rest t = let printed = t.printed in rw (take-append_seam q (34 ∷ rest), drop-append_seam q (34 ∷ rest), printed) (refl, refl)

character_is : (q : List ℕ) (b : ℕ) (rest : List ℕ) → Between q (b ∷ []) → IsCharacter (q ++ 39 ∷ rest) (length q) (Some (b ∷ [])) (Lexeme (Character b)) (1 + (length q + 1))
character_is q b rest t = let allowed = t.allowed in rw (take-append_seam q (39 ∷ rest), drop-append_seam q (39 ∷ rest), allowed) (refl, refl)

content_is : {q bytes : List ℕ} (rest : List ℕ) → Between q bytes → Means (take (length q) (q ++ rest)) bytes
content_is {q} {bytes} rest t = subst (λ text. Means text bytes) (sym (take-append_seam q rest)) t.means

pub string_stands : (first : Bool) (bytes rest : List ℕ) → AreBytes bytes → Stands first (string_text bytes ++ rest) (Lexeme (Text bytes)) (length (string_text bytes))
string_stands first bytes rest h =
    let q = flat_map quoted_byte bytes in
    let t = bytes_between bytes h in
    subst₂ (λ inner n. Stands first (34 ∷ inner) (Lexeme (Text bytes)) n) (sym (append_assoc q (34 ∷ []) rest)) (omega (arith, length-append q (34 ∷ [])))
    (length q, t.extent rest double, Some bytes, content_is (34 ∷ rest) t, string_is q bytes rest t)

pub character_stands : (first : Bool) (b : ℕ) (rest : List ℕ) → b < 256 → Stands first (character_text b ++ rest) (Lexeme (Character b)) (length (character_text b))
character_stands first b rest h =
    let q = quoted_byte b in
    let t = subst (λ text. Between text (b ∷ [])) (append-nil q) (bytes_between (b ∷ []) (h, tt)) in
    subst₂ (λ inner n. Stands first (39 ∷ inner) (Lexeme (Character b)) n) (sym (append_assoc q (39 ∷ []) rest)) (omega (arith, length-append q (39 ∷ [])))
    (length q, t.extent rest single, Some (b ∷ []), content_is (39 ∷ rest) t, character_is q b rest t)
