use Rattle.ccbox_call.proofs.Processes.{answers_given, unmade_without}
use Rattle.ccbox_call.proofs.process.process.Goals as goal

pub returns-clause-answers : goal.returns-clause-answers
returns-clause-answers g c = λ words given. rw (c.from.ensures, c.number.ensures) (answers_given _ _ _ _ _ _ _ c.status_by_words-status.ensures words given)

pub returns-clause-unmade : goal.returns-clause-unmade
returns-clause-unmade g c = λ none. rw (c.from.ensures, c.number.ensures) (unmade_without _ _ _ _ _ _ _ c.status_by_words-status.ensures none)
