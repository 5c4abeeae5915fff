use Rattle.std.proofs.lemmas.Grind.{elements}
use Rattle.std.proofs.Common.{arith}
use Rattle.ckc_printer.proofs.program.put_region.Goals as goal

pub returns-in-On : goal.returns-in-On
returns-in-On c = grind (arith, elements)

pub returns-in-Off : goal.returns-in-Off
returns-in-Off c = grind (arith, elements)
