use Rattle.std.proofs.Common.{rules}
use Rattle.two_memory_machine_memory.proofs.bounds.near_end.Goals as goal

pub returns : goal.returns
returns c = search rules
