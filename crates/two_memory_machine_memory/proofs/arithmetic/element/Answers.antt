use Rattle.std.proofs.Common.{◌*◌, ◌^◌}
use Rattle.std.proofs.Math.Nat.{add-mod-mod}
use Rattle.two_memory_machine_memory.proofs.arithmetic.element.Goals as goal

pub returns : goal.returns
returns c = add-mod-mod c.args.pointer (c.args.index * c.args.size) (2 ^ 32)
