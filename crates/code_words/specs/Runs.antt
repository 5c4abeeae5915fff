-- Whole runs of an image over a list of acts.
use Rattle.std.specs.Prelude.{◌≡◌, ℕ, zero, suc, ◌+◌, ◌-◌, List, [], ◌∷◌, ◌++◌, length, map, replicate, Option, Some, None, slice_get}
use Rattle.std.proofs.Common.{ℤ}
use Rattle.act_words.specs.declared.ending.Ending.{Ending}
use Rattle.act_words.specs.declared.settings.Settings.{Settings}
use Rattle.act_words.specs.Acts.{Act}
use Rattle.flat_bytes.specs.Blocks.{first_offset, rounded_up, grown, blocks_of}
use Rattle.act_words.specs.World.{Event, new_world}
use Rattle.code_words.specs.Table.{Frame, Runs, State, Step, Goes, Over, frame_for}
use Rattle.code_words.specs.Moves.{move}
use Rattle.code_words.specs.Functions.{Func}
use Rattle.code_words.specs.Images.{Image}

-- ---- static blocks

-- the bytes of blocks one behind the other, with zeros between
abbrev pub spread : List (List ℕ) → List ℕ
spread [] = []
spread (block ∷ blocks) = block ++ replicate (rounded_up (length block) - length block + 16) 0 ++ spread blocks

-- the offset behind blocks, of which the first stands at an offset
abbrev pub counter_behind : ℕ → List (List ℕ) → ℕ
counter_behind counter [] = counter
counter_behind counter (block ∷ blocks) = counter_behind (grown counter (length block)) blocks

-- a memory of a size in which the blocks stand, and zeros elsewhere
abbrev pub memory_of : ℕ → List (List ℕ) → List ℕ
memory_of size blocks = replicate first_offset 0 ++ spread blocks ++ replicate (size - counter_behind first_offset blocks) 0

-- ---- the run

-- the number of the function that is `main`
abbrev pub main_of : Image → ℕ
main_of image = number (image.layout.main)
  where
    number : Option ℕ → ℕ
    number None = 0
    number (Some k) = k

abbrev pub main_frame : ℕ → Option Func → Frame
main_frame number None = record { function = number; next = 0; slots = []; stack = [] }
main_frame number (Some fun) = frame_for number fun []

-- before the first move: the static blocks in both memories, and `main` called
abbrev pub started : Image → Settings → List ℤ → List Act → State
started image settings inputs acts =
    record {
      memory =
          record { bytes = memory_of settings.trusted image.trusted.blocks; base = settings.base; counter = counter_behind first_offset image.trusted.blocks };
      blocks = blocks_of settings.trusted (map length image.trusted.blocks);
      control = Runs (main_frame (main_of image) (slice_get image.trusted.funs (main_of image)));
      callers = [];
      world = new_world (memory_of settings.sandbox image.sandbox.blocks) (counter_behind first_offset image.sandbox.blocks) inputs acts;
    }

-- a run so far: it may go on, or it is over
pub data Run : Type 0 where
  Unfinished : (state : State) → Run
  Finished : (ending : Ending) (state : State) → Run

-- what happened so far
abbrev pub events_of : Run → List Event
events_of (Unfinished s) = s.world.events
events_of (Finished ending s) = s.world.events

-- goes on from a move, unless it ends the run
abbrev pub go_on : Step → (State → Run) → Run
go_on (Goes s) rest = rest s
go_on (Over ending s) rest = Finished ending s

-- at most n moves
abbrev pub exec : Image → Settings → ℕ → State → Run
exec image settings zero s = Unfinished s
exec image settings (suc n) s = go_on (move image settings s) (exec image settings n)

-- the image's run over these inputs and acts ends so, after some number of moves
abbrev pub CodeRun : Image → Settings → List ℤ → List Act → Ending → State → Type 0
CodeRun image settings inputs acts ending s = (n : ℕ) × (exec image settings n (started image settings inputs acts) ≡ Finished ending s)
