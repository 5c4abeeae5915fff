use Rattle.sandbox_actor.proofs.GivenActs.{given_front, given_ended, given_refused, all_given}
use Rattle.sandbox_actor.proofs.laws.given_in_order.Goals as goal

pub returns : goal.returns
returns c = record {
  front = λ list left acts. given_front;
  ended = λ list left after acts. given_ended;
  refused = λ list left after acts line code. given_refused;
  all = all_given;
}
