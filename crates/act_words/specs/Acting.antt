-- What one act does, by whose turn it is.
use Rattle.std.specs.Prelude.{ℕ, ◌+◌, Bool, true, false, nat_le, List, [], ◌∷◌, ◌++◌, length, take, drop, Option, Some, None}
use Rattle.ckc_text.specs.declared.code.Code.{Code}
use Rattle.ckc_text.specs.declared.code.Code.TheVariants.{S3, S4, S5}
use Rattle.act_words.specs.declared.act.Turn.TheVariants as turns
use Rattle.act_words.specs.declared.ending.Ending.{Ending}
use Rattle.act_words.specs.declared.ending.Ending.TheVariants as endings
use Rattle.act_words.specs.Acts.{Act, Go, Read, Write, Call, Return, Stop, SeenBytes}
use Rattle.act_words.specs.World.{World, Showed, telling, holding, in_turn}

-- ---- the sandbox's memory

-- these bytes lie in a memory
abbrev pub lies_in : (at len : ℕ) → List ℕ → Bool
lies_in at len memory = nat_le (at + len) (length memory)

-- the bytes of a memory from a place on
abbrev pub bytes_at : (at len : ℕ) → List ℕ → List ℕ
bytes_at at len memory = take len (drop at memory)

-- a memory with other bytes from a place on
abbrev pub with_bytes : (at : ℕ) → (bytes memory : List ℕ) → List ℕ
with_bytes at bytes memory = take at memory ++ bytes ++ drop (at + length bytes) memory

-- shows the bytes, where they lie in the memory
abbrev pub shown_if : Bool → (at len : ℕ) → World → Option World
shown_if true at len w = Some (telling (Showed (SeenBytes at (bytes_at at len w.sandbox)) ∷ []) w)
shown_if false at len w = None

-- stores the bytes, where they lie in the memory
abbrev pub written_if : Bool → ℕ → List ℕ → World → Option World
written_if true at bytes w = Some (holding (with_bytes at bytes w.sandbox) w)
written_if false at bytes w = None

abbrev pub shown : (at len : ℕ) → World → Option World
shown at len w = shown_if (lies_in at len w.sandbox) at len w

abbrev pub written : ℕ → List ℕ → World → Option World
written at bytes w = written_if (lies_in at (length bytes) w.sandbox) at bytes w

-- ---- stops

-- S3: the sandbox ended
abbrev pub sandbox_ended : Ending
sandbox_ended = endings.Stop S3 None

-- S4 and S5 name the act that was taken last by its number
abbrev pub stopped_by_act : Code → World → Ending
stopped_by_act code w = endings.Stop code (Some w.taken)

-- ---- acts

-- what an act leads to that is taken while the trusted side has the turn, before a touch
pub data BeforeTouch : Type 0 where
  -- the touch waits for the next act
  Waits : (world : World) → BeforeTouch
  -- the touch is made
  Touches : (world : World) → BeforeTouch
  Ends : (ending : Ending) (world : World) → BeforeTouch

-- what an act leads to that is taken while the sandbox has the turn
pub data InSandbox : Type 0 where
  -- the sandbox keeps the turn
  Keeps : (world : World) → InSandbox
  -- the innermost tainted call ends with this word
  Answers : (word : ℕ) (world : World) → InSandbox
  -- the sandbox calls a callback with these words
  Calls : (fun : ℕ) (words : List ℕ) (world : World) → InSandbox
  Ends : (ending : Ending) (world : World) → InSandbox

abbrev pub waits_or_ends : Option World → World → BeforeTouch
waits_or_ends (Some after) w = BeforeTouch.Waits after
waits_or_ends None w = BeforeTouch.Ends (stopped_by_act S4 w) w

abbrev pub keeps_or_ends : Option World → World → InSandbox
keeps_or_ends (Some after) w = InSandbox.Keeps after
keeps_or_ends None w = InSandbox.Ends (stopped_by_act S4 w) w

-- the act, in a world in which it is counted
abbrev pub act_before_touch : Act → World → BeforeTouch
act_before_touch Go w = BeforeTouch.Touches w
act_before_touch (Read at len) w = waits_or_ends (shown at len w) w
act_before_touch (Write at bytes) w = waits_or_ends (written at bytes w) w
act_before_touch (Call fun args) w = BeforeTouch.Ends (stopped_by_act S5 w) w
act_before_touch (Return value) w = BeforeTouch.Ends (stopped_by_act S5 w) w
act_before_touch Stop w = BeforeTouch.Ends sandbox_ended w

abbrev pub act_in_sandbox : Act → World → InSandbox
act_in_sandbox Go w = InSandbox.Keeps w
act_in_sandbox (Read at len) w = keeps_or_ends (shown at len w) w
act_in_sandbox (Write at bytes) w = keeps_or_ends (written at bytes w) w
act_in_sandbox (Call fun args) w = InSandbox.Calls fun args w
act_in_sandbox (Return value) w = InSandbox.Answers value (in_turn turns.Trusted w)
act_in_sandbox Stop w = InSandbox.Ends sandbox_ended w
