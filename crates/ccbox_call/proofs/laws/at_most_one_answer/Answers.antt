use Rattle.ccbox_call.proofs.Fronts.{one_core, one_refusal, core_or_fault}
use Rattle.ccbox_call.proofs.OneAnswer.{one_answer}
use Rattle.ccbox_call.proofs.ReadListings.{one_image, one_line, image_or_line}
use Rattle.ccbox_call.proofs.laws.at_most_one_answer.Goals as goal

pub returns-clause-core : goal.returns-clause-core
returns-clause-core c = one_core

pub returns-clause-fault : goal.returns-clause-fault
returns-clause-fault c = λ src f g a b. one_refusal a b

pub returns-clause-core_or_fault : goal.returns-clause-core_or_fault
returns-clause-core_or_fault g = λ src c f a b. core_or_fault a b

pub returns-clause-text : goal.returns-clause-text
returns-clause-text c = λ files words t u m n a b. (one_answer files words a b).text

pub returns-clause-status : goal.returns-clause-status
returns-clause-status c = λ files words t u m n a b. (one_answer files words a b).status

pub returns-clause-image : goal.returns-clause-image
returns-clause-image c = one_image

pub returns-clause-line : goal.returns-clause-line
returns-clause-line c = one_line

pub returns-clause-image_or_line : goal.returns-clause-image_or_line
returns-clause-image_or_line c = image_or_line
