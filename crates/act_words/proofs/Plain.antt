-- Lines that aren't too long.
use Rattle.std.proofs.Common.{◌≡◌, ◌≤◌, ℕ, List, length, Bool, true, false, nat_lt, cond, Some, None, refl, sym, ◌∙◌}
use Rattle.std.specs.Str.{is_utf8, IsUtf8}
use Rattle.std.proofs.lemmas.Bool.{le-ltb}
use Rattle.std.proofs.lemmas.Str.{is_utf8-from_IsUtf8, IsUtf8-from_is_utf8}
use Rattle.json.proofs.Printed.Utf8.{are_ascii, IsUtf8-are_ascii}
use Rattle.serde_json.specs.Data.{Data}
use Rattle.serde_json.specs.Read.{read}
use Rattle.ckc_text.specs.declared.code.Code.TheVariants.{A1}
use Rattle.act_words.specs.Readings.{Refuses, or_refuse, value_reading, value_of_line, line_reading}

-- such a line that is UTF-8 says what its value says
pub plain_line : (line : List ℕ) → IsUtf8 line → nat_lt 4096 (length line) ≡ false → line_reading line ≡ or_refuse A1 (read line) value_reading
plain_line line text short = rw (short, is_utf8-from_IsUtf8 line text)

pub ascii_line : (line : List ℕ) → are_ascii line ≡ true → nat_lt 4096 (length line) ≡ false → line_reading line ≡ or_refuse A1 (read line) value_reading
ascii_line line ascii short = plain_line line (IsUtf8-are_ascii line ascii) short

pub valued_line : (line : List ℕ) (value : Data) → length line ≤ 4096 → IsUtf8 line → read line ≡ Some value → value_reading value ≡ line_reading line
valued_line line value short text reads = sym (plain_line line text (le-ltb 4096 (length line) short) ∙ rw reads)

unvalued : (line : List ℕ) (text : Bool) → is_utf8 line ≡ text → (IsUtf8 line → read line ≡ None) → cond text (read line) None ≡ None
unvalued line true is none = none (IsUtf8-from_is_utf8 line is)
unvalued line false is none = refl

pub bad_line : (line : List ℕ) → length line ≤ 4096 → (IsUtf8 line → read line ≡ None) → line_reading line ≡ Refuses A1
bad_line line short none =
    let nothing : value_of_line line ≡ None = unvalued line (is_utf8 line) refl none in
    rw (le-ltb 4096 (length line) short, nothing)
