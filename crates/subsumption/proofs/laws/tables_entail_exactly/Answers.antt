use Rattle.subsumption.proofs.TableSteps.{entails_exactly, entails_terms_exactly, no_facts_met}
use Rattle.subsumption.proofs.laws.tables_entail_exactly.Goals as goal

pub returns-clause-facts : goal.returns-clause-facts
returns-clause-facts c = entails_exactly

pub returns-clause-terms : goal.returns-clause-terms
returns-clause-terms c = entails_terms_exactly

pub returns-clause-none : goal.returns-clause-none
returns-clause-none c = no_facts_met
