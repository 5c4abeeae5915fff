use Rattle.std.proofs.lemmas.Grind.{elements}
use Rattle.std.proofs.Common.{rules, arith}
use Rattle.two_memory_machine_memory.proofs.calls.CallWords.word.Goals as goal

pub index-requires : goal.index-requires
index-requires c = search rules

pub returns-then-self-clause-word : goal.returns-then-self-clause-word
returns-then-self-clause-word c = grind (arith, elements)

pub returns-then-self-clause-room : goal.returns-then-self-clause-room
returns-then-self-clause-room c = grind (arith, elements)

pub returns-else-self-clause-word : goal.returns-else-self-clause-word
returns-else-self-clause-word c = grind (arith, elements)

pub returns-else-self-clause-room : goal.returns-else-self-clause-room
returns-else-self-clause-room c = grind (arith, elements)
