-- What the readers of acts answer.
use Rattle.std.specs.Prelude.{◌≡◌, Option, Some, None, Result, Ok, Err}
use Rattle.ckc_text.specs.declared.code.Code.{Code}
use Rattle.act_words.specs.declared.reading.ActFault.{ActFault}
use Rattle.act_words.specs.declared.reading.ActFault.TheVariants.{Bad, NoMemory}
use Rattle.ckc_text.specs.declared.code.Code.TheVariants.{A2}
use Rattle.serde_json.specs.Data.{Data}
use Rattle.act_words.specs.declared.form.Form.{Form}
use Rattle.act_words.specs.Readings.{Reading, Refuses, or_refuse, shape_with, shape_reading}

-- a fault is the refusal that the reading is; want of memory says nothing of it
abbrev pub IsRefused : Reading → ActFault → Type 0
IsRefused reading (Bad code) = reading ≡ Refuses code
IsRefused reading NoMemory = Unit {0}

-- for private clauses: this value, or the refusal exactly where there is none
abbrev pub Gives : {A B : Type 0} → Code → (A → B) → Result A ActFault → Option B → Type 0
Gives code view (Ok value) wanted = wanted ≡ Some (view value)
Gives code view (Err (Bad why)) wanted = (why ≡ code) × (wanted ≡ None)
Gives code view (Err NoMemory) wanted = Unit {0}

-- for private clauses: what the members of a form say
abbrev pub form_reading : Form → Data → Reading
form_reading form value = or_refuse A2 (shape_with form value) shape_reading
