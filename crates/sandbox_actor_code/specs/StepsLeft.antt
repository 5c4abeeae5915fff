-- How many instructions code of a paced image can still make at most before it calls, returns or stops: a number that falls with
-- each.
use Rattle.std.specs.Prelude.{ℕ, ◌+◌, ◌-◌, ◌*◌, List, [], ◌∷◌, Option, Some, None}
use Rattle.code_words.specs.Images.{Image}
use Rattle.code_words.specs.Left.{longest, ops_of, rest_in}
use Rattle.code_words.specs.SandboxCode.{Frame, Held, Calls, Entered, CallsBack, Doing, Runs, Looks, Rests, State, function_of}
use Rattle.sandbox_actor_code.specs.Answering.{CodeState}

-- of an open call, up to its next tick
abbrev pub rest_of : Image → Frame → ℕ
rest_of image f = rest_in (longest image.sandbox.funs) (ops_of (function_of image f.function)) f.next

-- what is called next has as many instructions at most
abbrev pub rest_of_doing : Image → Doing → ℕ
rest_of_doing image (Runs f) = rest_of image f
rest_of_doing image (Looks f) = rest_of image f
rest_of_doing image Rests = 3 * longest image.sandbox.funs + 4

abbrev pub rest_of_held : Image → List Held → ℕ
rest_of_held image [] = 0
rest_of_held image (Calls f ∷ held) = rest_of image f + rest_of_held image held
rest_of_held image (Entered ∷ held) = rest_of_held image held
rest_of_held image (CallsBack f k ∷ held) = rest_of image f + rest_of_held image held

-- each tick that is left pays for what code can make before the next one, and so does each open call
unfoldable pub steps_left : Image → ℕ → State → ℕ
steps_left image budget s = (budget - s.ticks) * (6 * longest image.sandbox.funs + 8) + rest_of_doing image s.doing + rest_of_held image s.held

-- none are left to what has stopped
abbrev pub steps_left_of : Image → ℕ → Option State → ℕ
steps_left_of image budget None = 0
steps_left_of image budget (Some s) = steps_left image budget s

-- to code in this state
abbrev pub left_to : CodeState → ℕ
left_to c = steps_left_of c.image c.budget c.state
