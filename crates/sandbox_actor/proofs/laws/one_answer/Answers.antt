use Rattle.sandbox_actor.proofs.GivenActs.{answer_of, left_of, same_answer, some_answer}
use Rattle.sandbox_actor.proofs.laws.one_answer.Goals as goal

pub returns : goal.returns
returns c = record {
  one = λ before after after' files files' now now' x y. same_answer before after after' x y;
  some = λ before files now. (answer_of before.acts before.refused, left_of before.acts before.refused, some_answer before.acts before.refused);
}
