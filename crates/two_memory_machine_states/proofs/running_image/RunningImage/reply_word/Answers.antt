use Rattle.std.proofs.lemmas.Grind.{elements}
use Rattle.std.proofs.Common.{arith}
use Rattle.two_memory_machine_states.proofs.running_image.RunningImage.reply_word.Goals as goal

pub returns-in_err-callback : goal.returns-in_err-callback
returns-in_err-callback c = grind (arith, elements)

pub returns-in-Void : goal.returns-in-Void
returns-in-Void c = grind (arith, elements)

pub returns-in-Int : goal.returns-in-Int
returns-in-Int c = grind (arith, elements)
