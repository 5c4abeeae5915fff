use Rattle.subsumption.proofs.ShownTables.{answers_are_shown, show_one}
use Rattle.subsumption.proofs.laws.facts_show_tables.Goals as goal

pub returns-clause-answers : goal.returns-clause-answers
returns-clause-answers c = answers_are_shown

pub returns-clause-one : goal.returns-clause-one
returns-clause-one c = show_one
