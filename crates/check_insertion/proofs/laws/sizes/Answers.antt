use Rattle.check_insertion.proofs.Sizes.{same_body, few_in_statements}
use Rattle.check_insertion.proofs.laws.sizes.Goals as goal

pub returns-clause-stack : goal.returns-clause-stack
returns-clause-stack c = same_body

pub returns-clause-nodes : goal.returns-clause-nodes
returns-clause-nodes c = λ f. few_in_statements f.body
