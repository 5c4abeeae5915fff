-- The words of a line of a listing: each has a text, and limits.
use Rattle.std.specs.Prelude.{ℕ, ◌<◌, ◌≤◌, ◌^◌, List, ◌++◌, Option, Some, None, codes, decimal, FitsSigned, All}
use Rattle.std.proofs.Common.{ℤ}
use Rattle.std.specs.Int.{w32, w64}
use Rattle.std.specs.Fmt.{signed_decimal}
use Rattle.hex.specs.Hex.{encode_lower}
use Rattle.ckc_text.specs.declared.place.Place.{Place}
use Rattle.ckc_text.specs.Names.{IsName}

-- a word that stands in such a line always, or what varies: a number or a size, both of 32 bits, a number with a sign of 32 bits
-- or of 64, a number or none, a name, bytes, a place
pub data Field : Type 0 where
  Fixed : (word : List ℕ) → Field
  Number : (number : ℕ) → Field
  Size : (number : ℕ) → Field
  Signed32 : (number : ℤ) → Field
  Signed64 : (number : ℤ) → Field
  NumberOrNone : (number : Option ℕ) → Field
  Named : (name : List ℕ) → Field
  Bytes : (bytes : List ℕ) → Field
  At : (place : Place) → Field

-- a number, or `-` for none
abbrev pub optional_text : Option ℕ → List ℕ
optional_text None = codes "-"
optional_text (Some number) = decimal number

-- a place, as `@line:col`
abbrev pub place_text : Place → List ℕ
place_text place = codes "@" ++ decimal place.line ++ codes ":" ++ decimal place.col

-- numbers are in decimal, without leading zeros; bytes have two hexadecimal digits in lower case each
abbrev pub word_of : Field → List ℕ
word_of (Fixed word) = word
word_of (Number number) = decimal number
word_of (Size number) = decimal number
word_of (Signed32 number) = signed_decimal number
word_of (Signed64 number) = signed_decimal number
word_of (NumberOrNone number) = optional_text number
word_of (Named name) = name
word_of (Bytes bytes) = encode_lower bytes
word_of (At place) = place_text place

abbrev pub IsNumber : ℕ → Type 0
IsNumber number = number < 2 ^ 32

abbrev pub IsNumberOrNone : Option ℕ → Type 0
IsNumberOrNone None = Unit {0}
IsNumberOrNone (Some number) = IsNumber number

-- what may stand there
abbrev pub Fits : Field → Type 0
Fits (Fixed word) = Unit {0}
Fits (Number number) = IsNumber number
Fits (Size number) = (1 ≤ number) × IsNumber number
Fits (Signed32 number) = FitsSigned w32 number
Fits (Signed64 number) = FitsSigned w64 number
Fits (NumberOrNone number) = IsNumberOrNone number
Fits (Named name) = IsName name
Fits (Bytes bytes) = All (λ b. b < 256) bytes
Fits (At place) = IsNumber place.line × IsNumber place.col
