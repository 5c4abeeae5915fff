use Rattle.subsumption.specs.declared.fact.Answer.TheVariants.{Yes}
use Rattle.subsumption.proofs.Paths.{contradiction_answer}
use Rattle.subsumption.proofs.ShownTables.{answers_are_shown, about_nodes}
use Rattle.subsumption.proofs.search.answer.Goals as goal

pub returns-in-Contradictory-clause-answers : goal.returns-in-Contradictory-clause-answers
returns-in-Contradictory-clause-answers c = contradiction_answer _ _ c.args.goal.now _ _ _ c.in-Contradictory.is c.in_ok-facts.ensures

pub returns-in-Contradictory-clause-table : goal.returns-in-Contradictory-clause-table
returns-in-Contradictory-clause-table c = λ t shows. answers_are_shown _ _ t c.args.goal.now (Yes (record { facts = c.in-Contradictory.facts })) shows (about_nodes _ _ c.requires.left c.requires.right) (returns-in-Contradictory-clause-answers c)

pub returns-in_ok-answer-in-Settled-clause-table : goal.returns-in_ok-answer-in-Settled-clause-table
returns-in_ok-answer-in-Settled-clause-table c = λ t shows. answers_are_shown _ _ t c.args.goal.now c.in_ok-answer-in-Settled.answer shows (about_nodes _ _ c.requires.left c.requires.right) c.in_ok-answer-in-Settled.ensures
