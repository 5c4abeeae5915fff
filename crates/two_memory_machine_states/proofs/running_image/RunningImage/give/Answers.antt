use Rattle.std.proofs.Common.{to_z, of_z, refl}
use mir.Syntax.{w32}
use Rattle.two_memory_machine_states.proofs.Moving.{number_of}
use Rattle.two_memory_machine_states.proofs.Ends.{give_sooner}
use Rattle.two_memory_machine_states.proofs.running_image.RunningImage.give.Goals as goal

pub returns-clause-sooner : goal.returns-clause-sooner
returns-clause-sooner c =
    let needs_it = number_of c.args.self.now.over c.args.self.now.doing c.requires in
    give_sooner c.args.self.now _ (to_z w32 (of_z w32 c.args.number)) needs_it.0 needs_it.1 (rw (← c.self.view_is) refl)
