-- For private clauses: what the types of an image's numbers say of their words in a listing.
use Rattle.std.specs.Prelude.{ℕ, ◌<◌, List, [], ◌∷◌, All, FitsSigned}
use Rattle.std.specs.Int.{w32, w64}
use Rattle.code_words.specs.Formats.{HasNames}
use Rattle.code_words.specs.Functions.{Func}
use Rattle.code_words.specs.Images.{Image}
use Rattle.code_words.specs.declared.op.Op.{Op}
use Rattle.code_words_listing.specs.Fields.{Field, Fixed, Number, Size, Signed32, Signed64, NumberOrNone, Named, Bytes, At, IsNumber}
use Rattle.code_words_listing.specs.Instructions.{operands}

-- the number has the bits that its word has room for
abbrev pub FitsWord : Field → Type 0
FitsWord (Fixed word) = Unit {0}
FitsWord (Number number) = IsNumber number
FitsWord (Size number) = IsNumber number
FitsWord (Signed32 number) = FitsSigned w32 number
FitsWord (Signed64 number) = FitsSigned w64 number
FitsWord (NumberOrNone number) = Unit {0}
FitsWord (Named name) = Unit {0}
FitsWord (Bytes bytes) = Unit {0}
FitsWord (At place) = IsNumber place.line × IsNumber place.col

abbrev pub FitWords : List Field → Type 0
FitWords [] = Unit {0}
FitWords (field ∷ fields) = FitsWord field × FitWords fields

abbrev pub HasWords : Op → Type 0
HasWords op = FitWords (operands op)

abbrev pub IsBytes : List ℕ → Type 0
IsBytes bytes = All (λ b. b < 256) bytes

abbrev pub AreWords : Func → Type 0
AreWords f = All HasWords f.ops

-- the trusted side of an image has names, bytes and numbers of so many bits
pub record FitsWords (image : Image) : Type 0 where
  pub names : HasNames image
  pub bytes : All IsBytes image.trusted.blocks
  pub numbers : All AreWords image.trusted.funs
