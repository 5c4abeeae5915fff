use Rattle.std.proofs.Common.{ap}
use Rattle.two_memory_machine_states.specs.Insides.{machine}
use Rattle.two_memory_machine_states.proofs.running_image.RunningImage.count_act.Goals as goal

pub returns-clause-counts : goal.returns-clause-counts
returns-clause-counts c = rw (← c.self.view_is) (ap (λ n. record (machine c.self.inside) { taken = n }) c.saturating_add-self-inside.ensures)

pub returns-clause-paced : goal.returns-clause-paced
returns-clause-paced c = rw (← c.self.view_is) c.self.invariant.format.paced
