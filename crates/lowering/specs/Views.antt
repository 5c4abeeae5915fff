-- Where `break` and `continue` go, as the code has it.
use Rattle.lowering.specs.Code.{Places}
use Rattle.lowering.specs.declared.loops.Targets.{Targets}

abbrev pub targets_of : Targets → Places
targets_of t = record { scratch = t.scratch; on_break = t.on_break; on_continue = t.on_continue }
