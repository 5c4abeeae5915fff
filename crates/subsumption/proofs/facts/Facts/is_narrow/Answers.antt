use Rattle.std.proofs.Common.{subst}
use Rattle.subsumption.specs.Facts.{HasOneEach}
use Rattle.subsumption.specs.Tables.{Table}
use Rattle.subsumption.proofs.KeptTables.{FactsOf, narrow_shown, one_kept, shows_kept}
use Rattle.subsumption.proofs.facts.Facts.is_narrow.Goals as goal

pub returns-clause-shows : goal.returns-clause-shows
returns-clause-shows c = subst FactsOf c.self.view_is (shows_kept _ _ _ _ c.self.invariant)

pub returns-clause-about : goal.returns-clause-about
returns-clause-about c = (returns-clause-shows c).about

pub returns-clause-one_each : goal.returns-clause-one_each
returns-clause-one_each c = subst (λ (t : Table). HasOneEach t.facts) c.self.view_is (one_kept _ _ _ _ c.self.invariant)

pub returns-clause-narrow : goal.returns-clause-narrow
returns-clause-narrow c = narrow_shown _ _ _ (returns-clause-shows c)
