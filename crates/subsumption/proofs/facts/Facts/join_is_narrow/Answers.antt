use Rattle.std.proofs.Common.{subst}
use Rattle.subsumption.proofs.KeptTables.{FactsOf, joins_become, joins_narrow, shows_kept}
use Rattle.subsumption.proofs.facts.Facts.join_is_narrow.Goals as goal

pub returns-clause-narrow : goal.returns-clause-narrow
returns-clause-narrow c = joins_narrow c.args.self.now c.args.other.now (subst FactsOf c.self.view_is (shows_kept _ _ _ _ c.self.invariant)) (subst FactsOf c.other.view_is (shows_kept _ _ _ _ c.other.invariant)) c.requires

pub returns-clause-step : goal.returns-clause-step
returns-clause-step c = joins_become c.args.self.now c.args.other.now (subst FactsOf c.self.view_is (shows_kept _ _ _ _ c.self.invariant)) (subst FactsOf c.other.view_is (shows_kept _ _ _ _ c.other.invariant)) c.requires
