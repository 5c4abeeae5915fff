-- The lines that say that a source is accepted, or why a program or a listing wasn't run, or why its run broke off. Each ends with a
-- line feed.
use Rattle.std.specs.Prelude.{ℕ, List, ◌++◌, codes, decimal}
use Rattle.ckc_text.specs.declared.place.Place.{Place}
use Rattle.ckc_text.specs.declared.code.Code.{Code}
use Rattle.ckc_text.specs.Texts.{number_of, name_of}
use Rattle.act_recorder.specs.Endings.{line, placed_text}

-- an accepted source: all of its code is checked
abbrev pub accepted_text : List ℕ
accepted_text = line (codes "[accepted all checked]")

-- a refused source, at its place, as `[refused E17 2:3 bounds not proved]`
abbrev pub refused_text : Code → Place → List ℕ
refused_text code place = placed_text (codes "refused") code place

-- a refused line of the acts, as `[act line 3 A1 not JSON]`
abbrev pub act_refused_text : ℕ → Code → List ℕ
act_refused_text number code = line (codes "[act line " ++ decimal number ++ codes " " ++ number_of code ++ codes " " ++ name_of code ++ codes "]")

-- a file that isn't there
abbrev pub missing_text : List ℕ → List ℕ
missing_text name = line (codes "[missing " ++ name ++ codes "]")

-- a listing that is refused at the line of this number, as `[listing line 4]`
abbrev pub listing_refused_text : ℕ → List ℕ
listing_refused_text number = line (codes "[listing line " ++ decimal number ++ codes "]")

-- a listing whose image doesn't fit the settings
abbrev pub unfit_text : List ℕ
unfit_text = line (codes "[listing unfit]")

-- words that spell no request
abbrev pub usage_text : List ℕ
usage_text = line (codes "[usage] ccbox check|split|run|record|big|exec")
