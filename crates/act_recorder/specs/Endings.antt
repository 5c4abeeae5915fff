-- The line that says how a run ended, and lines about places.
use Rattle.std.specs.Prelude.{ℕ, List, [], ◌∷◌, ◌++◌, codes, decimal, Option, Some, None}
use Rattle.std.specs.Fmt.{signed_decimal}
use Rattle.ckc_text.specs.declared.place.Place.{Place}
use Rattle.ckc_text.specs.declared.code.Code.{Code}
use Rattle.ckc_text.specs.Texts.{number_of, name_of}
use Rattle.act_words.specs.declared.ending.Ending.{Ending}
use Rattle.act_words.specs.declared.ending.Ending.TheVariants.{Exit, Check, Stop}

-- with its line feed
abbrev pub line : List ℕ → List ℕ
line text = text ++ 10 ∷ []

-- a line about what stands at a place, as `[check C2 6:5 bounds]`
abbrev pub placed_text : List ℕ → Code → Place → List ℕ
placed_text word code place = line (codes "[" ++ word ++ codes " " ++ number_of code ++ codes " " ++ decimal place.line ++ codes ":" ++ decimal place.col
    ++ codes " " ++ name_of code ++ codes "]")

-- the number of an act, where a stop names one
abbrev pub act_number_text : Option ℕ → List ℕ
act_number_text None = []
act_number_text (Some act) = codes "act " ++ decimal act ++ codes " "

-- how a run ended
abbrev pub ending_text : Ending → List ℕ
ending_text (Exit value) = line (codes "[exit " ++ signed_decimal value ++ codes "]")
ending_text (Check code place) = placed_text (codes "check") code place
ending_text (Stop code act) = line (codes "[stop " ++ number_of code ++ codes " " ++ act_number_text act ++ name_of code ++ codes "]")
