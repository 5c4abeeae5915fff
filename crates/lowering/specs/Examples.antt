-- The code of small programs at work.
use Rattle.std.specs.Prelude.{◌≡◌, ℕ, List, [], ◌∷◌, length, map, replicate, Option, Some, None, slice_get, false, pos}
use Rattle.act_words.specs.declared.ending.Ending.{Ending}
use Rattle.act_words.specs.declared.settings.Settings.{Settings}
use Rattle.act_words.specs.World.{new_world}
use Rattle.flat_bytes.specs.Blocks.{first_offset, blocks_of}
use Rattle.pointer_modes.specs.Types.{Int}
use Rattle.ckc_core.specs.declared.program.Direction.TheVariants as directions
use Rattle.ckc_core.specs.Core as core
use Rattle.ckc_core.specs.Core.{Core, Expression}
use Rattle.ckc_core.specs.Examples.{site, number, ints, with_array, array, element, sum}
use Rattle.check_insertion.specs.Erased.{Erased}
use Rattle.code_words.specs.Table.{State, Runs}
use Rattle.code_words.specs.Runs.{Run, Unfinished, Finished, exec, memory_of, counter_behind, main_frame}
use Rattle.code_words.specs.declared.image.Image.{Image}
use Rattle.lowering.specs.Images.{image_of}
use Rattle.act_words.specs.Shown.{Shown}
use Rattle.code_words.specs.Dumps.{blocks_held}

-- small memories, at a base address
abbrev settings : ℕ → Settings
settings budget = record { budget = budget; sandbox = 64; trusted = 64; base = 65536; view = false; releases = false; dump = false; code = false }

abbrev before : Image → State
before image =
    record {
      memory = record { bytes = memory_of 64 image.trusted.blocks; base = 65536; counter = counter_behind first_offset image.trusted.blocks };
      blocks = blocks_of 64 (map length image.trusted.blocks);
      control = Runs (main_frame 0 (slice_get image.trusted.funs 0));
      callers = [];
      world = new_world (replicate 64 0) first_offset [] [];
    }

abbrev last : Run → Option State
last (Unfinished s) = None
last (Finished ending s) = Some s

abbrev ending_of : Run → Option Ending
ending_of (Unfinished s) = None
ending_of (Finished ending s) = Some ending

-- how the code of a program whose first function is `main` ends within 200 moves
abbrev pub ends : Erased → ℕ → Ending → Type 0
ends program budget ending = ending_of (exec (image_of program) (settings budget) 200 (before (image_of program))) ≡ Some ending

abbrev held : Option State → List Shown
held None = []
held (Some s) = blocks_held s

-- the blocks behind the run
abbrev pub holds : Erased → List Shown → Type 0
holds program shown = held (last (exec (image_of program) (settings 100) 200 (before (image_of program)))) ≡ shown

abbrev pub shown_members : List Shown
shown_members = (record { address = 65552; bytes = 44 ∷ 0 ∷ 0 ∷ 0 ∷ 7 ∷ 0 ∷ 0 ∷ 0 ∷ [] }) ∷ []

-- { array_ptr<int> a : count(3) = calloc<int>(3, sizeof(int)); a[2] = 7; return *(a + 2); }
abbrev pub stored_element : Core
stored_element =
    with_array 3 (core.Store Int (element (pos 2)) (number 7)
    ∷ (core.Return (core.Load Int (core.Through (sum (pos 2)) (core.Element (number 0) false) 0 (site 2 8)) None) ∷ []))

-- { array_ptr<int> a : count(3) = calloc<int>(3, sizeof(int)); return !E; }
abbrev pub not_of : Expression → Core
not_of e = with_array 3 (core.Return (core.Not e) ∷ [])

-- a - n
abbrev pub back : ℕ → Expression
back n = core.Sum array directions.Backward (number n) (site 2 9) (ints (pos n) (pos 3))
