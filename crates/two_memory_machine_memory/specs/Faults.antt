-- Faults of the words that the sandbox passes.
use Rattle.std.specs.Prelude.{List, Option, Some, None, slice_get}
use Rattle.ckc_text.specs.declared.code.Code.{Code}
use Rattle.ckc_text.specs.declared.code.Code.TheVariants.{C4, C9, S6}
use Rattle.act_words.specs.declared.ending.Ending.{Ending}
use Rattle.act_words.specs.declared.ending.Ending.TheVariants as endings
use Rattle.marshalling.specs.declared.fault.MarshalFault.{MarshalFault}
use Rattle.marshalling.specs.declared.fault.MarshalFault.TheVariants as faults
use Rattle.marshalling.specs.declared.signature.Param.{Param}

-- how a fault of a parameter ends the run: at its place
abbrev pub ending_at : Code → Option Param → Ending
ending_at code None = endings.Stop S6 None
ending_at code (Some p) = endings.Check code p.place

-- how a fault ends the run
abbrev pub fault_ending : List Param → Option MarshalFault → Option Ending
fault_ending params None = None
fault_ending params (Some faults.Count) = Some (endings.Stop S6 None)
fault_ending params (Some (faults.Char param)) = Some (ending_at C9 (slice_get params param))
fault_ending params (Some (faults.Range param)) = Some (ending_at C4 (slice_get params param))
