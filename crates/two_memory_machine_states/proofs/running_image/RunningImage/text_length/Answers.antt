use Rattle.std.proofs.Common.{◌≡◌, ◌+◌, Some, length, drop, refl, ◌∙◌}
use Rattle.std.specs.Prelude.{slice_get}
use Rattle.code_words.specs.Table.{State, push, count_from}
use Rattle.two_memory_machine_memory.specs.Texts.{with_ticks}
use Rattle.two_memory_machine_states.specs.Machines.{Machine, state_of}
use Rattle.two_memory_machine_states.specs.Insides.{machine}
use Rattle.two_memory_machine_states.specs.Steps.{IsIn, GoesBy}
use Rattle.two_memory_machine_states.proofs.Outcomes.{brings_at, pop_found}
use Rattle.two_memory_machine_states.proofs.running_image.RunningImage.text_length.Goals as goal

pub returns-in-Zero : goal.returns-in-Zero
returns-in-Zero c = rw (← c.self.view_is)
    (λ f here acts inputs events.
    let i = c.self.inside in
    let m = machine i in
    let walk = c.walk_text-walk.result in
    let stack = drop 1 m.frame.stack in
    let s : State = state_of m acts inputs events in
    let found : Some c.in-Some.start ≡ slice_get m.frame.stack 0 = rw (← c.self.view_is) at c.in-Some.ensures in
    let counted : count_from (length m.memory.bytes) f m.settings.budget c.in-Some.start 0 stack m.frame s ≡ push f walk.count stack m.frame (with_ticks (m.ticks + walk.count + 1) s) =
    c.walk_text-walk.ensures.walked f stack m.frame s refl refl ∙ rw c.in-Zero.is refl in
    let after : Machine = record m { ticks = m.ticks + walk.count + 1 } in
    let pushes : IsIn after f → GoesBy (push f walk.count stack m.frame) after c.push.result c.push.new.self = (rw (c.set_ticks-2.ensures, ← c.self.view_is) at c.push.ensures) f in
    rw (pop_found m.frame.stack c.in-Some.start _ _ found, counted) (brings_at acts inputs events _ m after c.push.new.self c.push.result refl refl (pushes here acts inputs events)))
