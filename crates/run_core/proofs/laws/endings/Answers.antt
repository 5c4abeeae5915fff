use Rattle.std.proofs.Common.{refl}
use Rattle.std.specs.Fmt.{digits}
use Rattle.run_core.proofs.laws.endings.Goals as goal

pub returns : goal.returns
unfolding digits
returns c = record { exit = refl; check = refl; stop = refl; act = refl }
