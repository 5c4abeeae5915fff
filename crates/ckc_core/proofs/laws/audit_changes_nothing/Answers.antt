use Rattle.ckc_core.proofs.Audits.{changes_nothing}
use Rattle.ckc_core.proofs.laws.audit_changes_nothing.Goals as goal

pub returns : goal.returns
returns c = changes_nothing
