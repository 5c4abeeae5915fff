-- The text of a run: what the program wrote, what was released and shown, and the line that says how the run ended.
use Rattle.std.specs.Prelude.{ℕ, ◌||◌, if◌then◌else◌, List, [], ◌∷◌, ◌++◌, flat_map, ◌==◌}
use Rattle.act_words.specs.declared.ending.Ending.{Ending}
use Rattle.act_words.specs.declared.settings.Settings.{Settings}
use Rattle.act_words.specs.World.{Event, Took, Output, Released, Showed, NoAct}
use Rattle.act_words.specs.Shown.{Shown}
use Rattle.act_recorder.specs.Lines.{seen_text, release_text, output_line, block_text}
use Rattle.act_recorder.specs.Endings.{ending_text}

-- ---- events

-- Output is written as it is, or as a line where other lines are asked for
abbrev pub event_text : Settings → Event → List ℕ
event_text settings (Took turn act) = []
event_text settings (Output bytes) = if settings.view || settings.releases then output_line bytes else bytes
event_text settings (Released release) = if settings.releases then release_text release else []
event_text settings (Showed seen) = if settings.view then seen_text seen else []
event_text settings (NoAct turn) = []

abbrev pub events_text : Settings → List Event → List ℕ
events_text settings events = flat_map (event_text settings) events

-- the line feed that a text lacks: one, where it isn't empty and doesn't end with one
abbrev pub missing_feed : List ℕ → List ℕ
missing_feed [] = []
missing_feed (b ∷ []) = if b == 10 then [] else 10 ∷ []
missing_feed (b ∷ c ∷ bytes) = missing_feed (c ∷ bytes)

-- events, and what stands behind them on a line of its own
abbrev pub with_last_line : List ℕ → List ℕ → List ℕ
with_last_line text last = text ++ missing_feed text ++ last

-- the last blocks, where they are asked for
abbrev pub dump_text : Settings → List Shown → List ℕ
dump_text settings blocks = if settings.dump then flat_map block_text blocks else []

-- a run: its events, then its ending, then the last blocks
abbrev pub run_text : Settings → List Event → Ending → List Shown → List ℕ
run_text settings events ending blocks = with_last_line (events_text settings events) (ending_text ending) ++ dump_text settings blocks

-- a run up to an act that can't be given: the line that says so is left to the caller
abbrev pub front_text : Settings → List Event → List ℕ
front_text settings events = with_last_line (events_text settings events) []
