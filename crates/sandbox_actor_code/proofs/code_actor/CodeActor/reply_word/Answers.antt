use Rattle.std.proofs.lemmas.Grind.{elements}
use Rattle.std.proofs.Common.{arith}
use Rattle.sandbox_actor_code.proofs.code_actor.CodeActor.reply_word.Goals as goal

pub returns-in-Void : goal.returns-in-Void
returns-in-Void c = grind (arith, elements)

pub returns-in-Int : goal.returns-in-Int
returns-in-Int c = grind (arith, elements)

pub returns-in-None : goal.returns-in-None
returns-in-None c = grind (arith, elements)
