-- Inside: why a walk ends early, by why the front end gave no answer.
use Rattle.ckc_text.specs.declared.fault.Refused.{Refused}
use Rattle.ckc_text.specs.declared.fault.Refused.TheVariants as refusals
use Rattle.region_typing_scope.specs.declared.refusals.CheckError.{CheckError}
use Rattle.region_typing_scope.specs.declared.refusals.CheckError.TheVariants.{Source, NoMemory}

abbrev pub error_of : Refused → CheckError
error_of (refusals.Source fault) = Source fault
error_of refusals.NoMemory = NoMemory
