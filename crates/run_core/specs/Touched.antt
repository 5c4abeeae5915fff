-- What a touch tells, and what was shown last.
use Rattle.std.specs.Prelude.{List, [], ◌∷◌, Option, Some, None}
use Rattle.act_words.specs.declared.act as code
use Rattle.act_words.specs.Acts.{Seen, seen_view, release_view}
use Rattle.act_words.specs.World.{Event, Took, Output, Released, Showed, NoAct}

-- what was shown last, where this was shown last before the events
abbrev pub last_of : Option Seen → List Event → Option Seen
last_of last [] = last
last_of last (Took turn act ∷ events) = last_of last events
last_of last (Output bytes ∷ events) = last_of last events
last_of last (Released release ∷ events) = last_of last events
last_of last (Showed seen ∷ events) = last_of (Some seen) events
last_of last (NoAct turn ∷ events) = last_of last events

-- what a touch tells: what it released, and then what the sandbox was shown of it
abbrev pub touched : code.Release.Release → Option code.Seen.Seen → List Event
touched release None = Released (release_view release) ∷ []
touched release (Some seen) = Released (release_view release) ∷ Showed (seen_view seen) ∷ []
