-- What a file says are acts.
use Rattle.std.proofs.Common.{◌≡◌, ℕ, ◌+◌, Bool, true, false, nat_lt, List, [], ◌∷◌, length, refl}
use Rattle.std.specs.Prelude.{if◌then◌else◌}
use Rattle.std.specs.List.{All}
use Rattle.std.proofs.lemmas.List.Elements.{All-nil, All-cons}
use Rattle.ckc_text.specs.declared.code.Code.TheVariants.{A4}
use Rattle.act_words.specs.Acts.{Act, IsAct}
use Rattle.act_words.specs.Readings.{Reading, Says, Refuses, line_reading}
use Rattle.act_words.proofs.Said.{line_said}
use Rattle.sandbox_actor.specs.ActLists.{ActList, no_acts, act_then, refused_at, without_feed, is_skipped, reading_to, reading_then, line_then, acts_from}

abbrev HasActs : ActList → Type 0
HasActs list = All IsAct list.acts

reading_said : (end : ℕ) (line : List ℕ) (a : Act) → reading_to end line ≡ Says a → IsAct a
reading_said end line a h = by (nat_lt 1048576 end) h
  where
    by : (long : Bool) → (if long then Refuses A4 else line_reading line) ≡ Says a → IsAct a
    by true g = cc
    by false g = line_said line a g

line_acts : (number end : ℕ) (line : List ℕ) (rest : ActList) → HasActs rest → HasActs (line_then number end line rest)
line_acts number end line rest h = by_skipped (is_skipped end line)
  where
    by_reading : (r : Reading) → reading_to end line ≡ r → HasActs (reading_then number r rest)
    by_reading (Says act) e = All-cons IsAct act rest.acts (reading_said end line act e) h
    by_reading (Refuses code) e = All-nil IsAct

    by_skipped : (skipped : Bool) → HasActs (if skipped then rest else reading_then number (reading_to end line) rest)
    by_skipped true = h
    by_skipped false = by_reading (reading_to end line) refl

pub are_acts : (number offset : ℕ) (lines : List (List ℕ)) → HasActs (acts_from number offset lines)
are_acts number offset [] = All-nil IsAct
are_acts number offset (line ∷ lines) = by (nat_lt 16777216 number) (are_acts (number + 1) (offset + length line) lines)
  where
    by : (past : Bool) → HasActs (acts_from (number + 1) (offset + length line) lines) → HasActs (if past then no_acts else line_then number (offset + length line) (without_feed line) (acts_from (number + 1) (offset + length line) lines))
    by true h = All-nil IsAct
    by false h = line_acts number (offset + length line) (without_feed line) _ h
