use Rattle.std.proofs.lemmas.Grind.{elements}
use Rattle.std.proofs.Common.{arith, rules}
use Rattle.sandbox_actor_code.proofs.code_actor.CodeActor.call_back.Goals as goal

pub returns-in_default : goal.returns-in_default
returns-in_default c = grind (arith, elements)

pub returns-in_default-top_words : goal.returns-in_default-top_words
returns-in_default-top_words c = grind (arith, elements)

pub pop-requires : goal.pop-requires
pop-requires c = search rules

pub push-requires-clause-few : goal.push-requires-clause-few
push-requires-clause-few c = search rules

pub push-requires-clause-room : goal.push-requires-clause-room
push-requires-clause-room c = search rules

pub invariant_of-self : goal.invariant_of-self
invariant_of-self c = search rules

pub returns : goal.returns
returns c = grind (arith, elements)
