use Rattle.std.proofs.Common.{length, take}
use Rattle.std.specs.Prelude.{All}
use Rattle.marshalling.specs.declared.signature.Param.{Param}
use Rattle.marshalling.specs.Signatures.{IsParameterOf}
use Rattle.marshalling.proofs.signature.are_parameters.Given as goal

-- those before this one may stand among all
abbrev pub invariant-loop-param : goal.invariant-loop-param
invariant-loop-param l = All (λ (p : Param). IsParameterOf (length l.params) p.kind p.region) (take l.param-index l.params)
