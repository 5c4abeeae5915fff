-- For private clauses: what the words of a line are written as.
use Rattle.std.specs.Prelude.{ℕ, List, ◌∷◌, decimal, flat_map}
use Rattle.std.specs.Fmt.{signed_decimal}
use Rattle.hex.specs.Hex.{encode_lower}
use Rattle.code_words_listing.specs.declared.field.Field.{Field}
use Rattle.code_words_listing.specs.declared.field.Field.TheVariants as shapes
use Rattle.code_words_listing.specs.Fields.{optional_text, place_text}

abbrev pub shown : Field → List ℕ
shown (shapes.Word word) = word.now
shown (shapes.Named name) = name.now
shown (shapes.Number number) = decimal number
shown (shapes.Signed number) = signed_decimal number
shown (shapes.NumberOrNone number) = optional_text number
shown (shapes.Bytes bytes) = encode_lower bytes.now
shown (shapes.At place) = place_text place

-- each word with a space before it
abbrev pub behind_spaces : List (List ℕ) → List ℕ
behind_spaces words = flat_map (λ word. 32 ∷ word) words
