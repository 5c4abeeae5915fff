-- Why a text is no listing.
use Rattle.std.specs.Prelude.{ℕ}
use Rattle.code_words_listing.specs.declared.read_listing.ListRefused.{ListRefused}
use Rattle.code_words_listing.specs.declared.read_listing.ListRefused.TheVariants.{Line, NoMemory}

-- this holds of the line that is refused, unless memory ran out
abbrev pub AtLine : (ℕ → Type 0) → ListRefused → Type 0
AtLine holds (Line number) = holds number
AtLine holds NoMemory = Unit {0}
