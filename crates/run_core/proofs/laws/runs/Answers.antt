use Rattle.std.proofs.Common.{refl}
use Rattle.std.specs.Fmt.{digits}
use Rattle.hex.proofs.OnLiterals.{hex_on_literals}
use Rattle.run_core.proofs.laws.runs.Goals as goal

pub returns : goal.returns
unfolding digits hex_on_literals
returns c = record { number = refl; none = refl; blocks = refl }
