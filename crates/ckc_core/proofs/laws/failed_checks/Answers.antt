use Rattle.ckc_core.proofs.FailedChecks.{failed_checks}
use Rattle.ckc_core.proofs.laws.failed_checks.Goals as goal

pub returns : goal.returns
returns c = failed_checks
