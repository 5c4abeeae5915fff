use Rattle.std.proofs.Common.{take}
use Rattle.std.specs.Prelude.{All}
use Rattle.ccbox_call.specs.Words.{AreWords}
use Rattle.ccbox_call.proofs.words.functions_fit.Given as goal

abbrev pub invariant-loop-f : goal.invariant-loop-f
invariant-loop-f l = All AreWords (take l.f-index l.funs)
