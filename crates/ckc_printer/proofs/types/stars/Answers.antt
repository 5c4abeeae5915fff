use Rattle.ckc_printer.proofs.Texts.{leaves_less, star_first}
use Rattle.ckc_printer.proofs.types.stars.Goals as goal

pub loop-preserved : goal.loop-preserved
loop-preserved c = leaves_less c.loop.invariant c.put.ensures (star_first c.args.count c.loop.counter c.loop-test.true)
