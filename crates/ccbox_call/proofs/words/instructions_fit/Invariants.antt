use Rattle.std.proofs.Common.{take}
use Rattle.std.specs.Prelude.{All}
use Rattle.ccbox_call.specs.Words.{HasWords}
use Rattle.ccbox_call.proofs.words.instructions_fit.Given as goal

abbrev pub invariant-loop-op : goal.invariant-loop-op
invariant-loop-op l = All HasWords (take l.op-index l.ops)
