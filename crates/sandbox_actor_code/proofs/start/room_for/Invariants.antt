use Rattle.std.proofs.Common.{ℕ, ◌<◌, get_or}
use Rattle.code_words.specs.Functions.{Func}
use Rattle.sandbox_actor_code.specs.CallFrames.{IsRoomFor}
use Rattle.sandbox_actor_code.proofs.start.room_for.Given as goal

-- each function so far has room
abbrev pub invariant-loop-fun : goal.invariant-loop-fun
invariant-loop-fun l = (k : ℕ) (d : Func) → k < l.fun-index → IsRoomFor (get_or l.funs k d) l.room
