-- How many moves a run of a paced image can still make at most: a number that falls with each move.
use Rattle.std.specs.Prelude.{ℕ, ◌+◌, ◌-◌, ◌*◌, max, Bool, true, false, List, [], ◌∷◌, length, Option, Some, None, slice_get}
use Rattle.act_words.specs.declared.act.Turn.{Turn}
use Rattle.act_words.specs.declared.act.Turn.TheVariants as turns
use Rattle.act_words.specs.declared.settings.Settings.{Settings}
use Rattle.act_words.specs.Acts.{Act, Go, Read, Write, Call, Return, Stop}
use Rattle.code_words.specs.Paced.{is_tick, is_call, tested}
use Rattle.code_words.specs.Table.{Frame, Caller, Calls, Waits, CalledBack, Control, Runs, Touches, Away, State, behind}
use Rattle.code_words.specs.declared.op.Op.{Op}
use Rattle.code_words.specs.Functions.{Func}
use Rattle.code_words.specs.Images.{Image}

-- the number of instructions of the longest function
abbrev pub longest : List Func → ℕ
longest [] = 0
longest (f ∷ funs) = max (length f.ops) (longest funs)

-- the instructions of a function, if it is there
abbrev pub ops_of : Option Func → List Op
ops_of None = []
ops_of (Some f) = f.ops

-- of the code from an instruction on, by whether that is a tick or a call
abbrev pub rest_by : ℕ → Bool → Bool → ℕ → ℕ
rest_by most true call moves = 3
rest_by most false true moves = moves + (3 * most + 4)
rest_by most false false moves = moves

-- the moves that code can make before its next tick, where no function has more than so many instructions: it begins each
-- instruction from the next one on, makes its touch, and gets its reply. A call comes before the next tick just once, and
-- what it calls makes as many moves at most. A tick pays for what comes behind it
abbrev pub rest_in : ℕ → List Op → ℕ → ℕ
rest_in most ops next = rest_by most (tested is_tick (slice_get ops next)) (tested is_call (slice_get ops next)) (3 * (length ops - next) + 3)

-- the same of an open call
abbrev pub rest_of : Image → Frame → ℕ
rest_of image f = rest_in (longest image.trusted.funs) (ops_of (slice_get image.trusted.funs f.function)) f.next

abbrev pub rest_of_control : Image → Control → ℕ
rest_of_control image (Runs f) = rest_of image f
rest_of_control image (Touches f touch) = rest_of image (behind f f.stack) + 2
rest_of_control image Away = 0

abbrev pub rest_of_callers : Image → List Caller → ℕ
rest_of_callers image [] = 0
rest_of_callers image (Calls f ∷ callers) = rest_of image f + rest_of_callers image callers
rest_of_callers image (Waits f import place ∷ callers) = rest_of image f + 1 + rest_of_callers image callers
rest_of_callers image (CalledBack k ∷ callers) = rest_of_callers image callers

-- each tick that is left pays for what code can make before the next one, and so does each open call
unfoldable pub moves_left : Image → Settings → State → ℕ
moves_left image settings s =
    (settings.budget - s.world.ticks) * (6 * longest image.trusted.funs + 8) + rest_of_control image s.control + rest_of_callers image s.callers

-- an act that leaves the turn, and makes no touch: as many moves are left behind it
abbrev pub LeavesTurn : Act → Turn → Type 0
LeavesTurn Go turns.Trusted = ⊥
LeavesTurn Go turns.Sandbox = Unit {0}
LeavesTurn (Read at len) turn = Unit {0}
LeavesTurn (Write at bytes) turn = Unit {0}
LeavesTurn (Call fun args) turn = ⊥
LeavesTurn (Return value) turn = ⊥
LeavesTurn Stop turn = ⊥
