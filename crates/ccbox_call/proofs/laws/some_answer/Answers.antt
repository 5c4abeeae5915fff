use Rattle.ccbox_call.proofs.SomeAnswer.{core_or_fault_of, some_core_or_fault, some_answer}
use Rattle.ccbox_call.proofs.ReadListings.{some_image_or_line}
use Rattle.ccbox_call.proofs.laws.some_answer.Goals as goal

pub returns-clause-core_or_fault : goal.returns-clause-core_or_fault
returns-clause-core_or_fault c = some_core_or_fault

pub returns-clause-answer : goal.returns-clause-answer
returns-clause-answer c = some_answer

pub returns-clause-tree : goal.returns-clause-tree
returns-clause-tree c = core_or_fault_of

pub returns-clause-image_or_line : goal.returns-clause-image_or_line
returns-clause-image_or_line c = some_image_or_line
