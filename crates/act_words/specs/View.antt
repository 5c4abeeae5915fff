-- What the sandbox is shown, from its starting memory, the acts that were taken and the releases alone.
use Rattle.std.specs.Prelude.{◌≡◌, ℕ, Bool, true, false, List, [], ◌∷◌, ◌++◌, length, Option, Some, None, option_map}
use Rattle.act_words.specs.declared.act.Turn.{Turn}
use Rattle.act_words.specs.declared.act.Turn.TheVariants as turns
use Rattle.act_words.specs.Acts.{Act, Go, Read, Write, Call, Return, Stop, Seen, SeenBytes, SeenCall, SeenReply, Release, Looked, Wrote, Passed, Replied}
use Rattle.act_words.specs.World.{World, Event, Took, Output, Released, Showed, NoAct}
use Rattle.act_words.specs.Acting.{lies_in, bytes_at, with_bytes}

-- no act is left, and the trusted side has the turn: it makes touches until the sandbox has the turn
abbrev pub view_without_acts : List Release → List Seen
view_without_acts [] = []
view_without_acts (Looked ∷ releases) = view_without_acts releases
view_without_acts (Wrote at bytes ∷ releases) = view_without_acts releases
view_without_acts (Passed fun args ∷ releases) = SeenCall fun args ∷ []
view_without_acts (Replied value ∷ releases) = SeenReply value ∷ []

abbrev pub and_then_if : Bool → List Seen → List Seen
and_then_if true seen = seen
and_then_if false seen = []

-- the view over acts, from a turn and the sandbox's bytes
abbrev pub view_from : List Act → Turn → List ℕ → List Release → List Seen
view_from [] turns.Trusted memory releases = view_without_acts releases
view_from [] turns.Sandbox memory releases = []
view_from (Read at len ∷ acts) turn memory releases =
    and_then_if (lies_in at len memory) (SeenBytes at (bytes_at at len memory) ∷ view_from acts turn memory releases)
view_from (Write at bytes ∷ acts) turn memory releases =
    and_then_if (lies_in at (length bytes) memory) (view_from acts turn (with_bytes at bytes memory) releases)
view_from (Stop ∷ acts) turn memory releases = []
view_from (Go ∷ acts) turns.Sandbox memory releases = view_from acts turns.Sandbox memory releases
view_from (Call fun args ∷ acts) turns.Sandbox memory releases = view_from acts turns.Trusted memory releases
view_from (Return value ∷ acts) turns.Sandbox memory releases = view_from acts turns.Trusted memory releases
view_from (Call fun args ∷ acts) turns.Trusted memory releases = []
view_from (Return value ∷ acts) turns.Trusted memory releases = []
view_from (Go ∷ acts) turns.Trusted memory [] = []
view_from (Go ∷ acts) turns.Trusted memory (Looked ∷ releases) = view_from acts turns.Trusted memory releases
view_from (Go ∷ acts) turns.Trusted memory (Wrote at bytes ∷ releases) = view_from acts turns.Trusted (with_bytes at bytes memory) releases
view_from (Go ∷ acts) turns.Trusted memory (Passed fun args ∷ releases) = SeenCall fun args ∷ view_from acts turns.Sandbox memory releases
view_from (Go ∷ acts) turns.Trusted memory (Replied value ∷ releases) = SeenReply value ∷ view_from acts turns.Sandbox memory releases

-- the trusted side has the turn at first
abbrev pub view_fold : List ℕ → List Act → List Release → List Seen
view_fold memory acts releases = view_from acts turns.Trusted memory releases

-- ---- the parts of what can be seen of a run

-- what the program wrote
abbrev pub output_of : List Event → List ℕ
output_of [] = []
output_of (Took turn act ∷ events) = output_of events
output_of (Output bytes ∷ events) = bytes ++ output_of events
output_of (Released release ∷ events) = output_of events
output_of (Showed seen ∷ events) = output_of events
output_of (NoAct turn ∷ events) = output_of events

abbrev pub releases_of : List Event → List Release
releases_of [] = []
releases_of (Took turn act ∷ events) = releases_of events
releases_of (Output bytes ∷ events) = releases_of events
releases_of (Released release ∷ events) = release ∷ releases_of events
releases_of (Showed seen ∷ events) = releases_of events
releases_of (NoAct turn ∷ events) = releases_of events

-- the acts that were taken, in either side's turn
abbrev pub acts_of : List Event → List Act
acts_of [] = []
acts_of (Took turn act ∷ events) = act ∷ acts_of events
acts_of (Output bytes ∷ events) = acts_of events
acts_of (Released release ∷ events) = acts_of events
acts_of (Showed seen ∷ events) = acts_of events
acts_of (NoAct turn ∷ events) = acts_of events

-- what the sandbox was shown
abbrev pub view_of : List Event → List Seen
view_of [] = []
view_of (Took turn act ∷ events) = view_of events
view_of (Output bytes ∷ events) = view_of events
view_of (Released release ∷ events) = view_of events
view_of (Showed seen ∷ events) = seen ∷ view_of events
view_of (NoAct turn ∷ events) = view_of events

-- the events before the first moment at which an act was due and none was left, if there was one
abbrev pub due_front : List Event → Option (List Event)
due_front [] = None
due_front (Took turn act ∷ events) = option_map (λ front. Took turn act ∷ front) (due_front events)
due_front (Output bytes ∷ events) = option_map (λ front. Output bytes ∷ front) (due_front events)
due_front (Released release ∷ events) = option_map (λ front. Released release ∷ front) (due_front events)
due_front (Showed seen ∷ events) = option_map (λ front. Showed seen ∷ front) (due_front events)
due_front (NoAct turn ∷ events) = Some []

-- acts of the list were taken up to those that are left, and what the sandbox was shown is the fold over its starting memory,
-- the acts that were taken, and the releases
pub record ViewIsFold (start : List ℕ) (all : List Act) (w : World) : Type 0 where
  pub taken : List Act
  pub are : all ≡ taken ++ w.acts
  pub view : view_of w.events ≡ view_fold start taken (releases_of w.events)

-- the second view begins with the first
abbrev pub IsFront : List Seen → List Seen → Type 0
IsFront first second = (more : List Seen) × (second ≡ first ++ more)
