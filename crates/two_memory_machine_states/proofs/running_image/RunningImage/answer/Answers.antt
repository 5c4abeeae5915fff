use Rattle.std.proofs.Common.{◌≡◌, Some, None, refl, sym, ap, ◌∙◌}
use Rattle.std.specs.Prelude.{slice_get}
use Rattle.two_memory_machine_states.specs.Machines.{TellsAct}
use Rattle.two_memory_machine_states.specs.Insides.{machine}
use Rattle.two_memory_machine_states.specs.Steps.{IsIn}
use Rattle.two_memory_machine_states.proofs.Callers.{item_found}
use Rattle.two_memory_machine_states.proofs.Moving.{gives_at}
use Rattle.two_memory_machine_states.proofs.running_image.RunningImage.answer.Goals as goal

pub returns-in-Some : goal.returns-in-Some
returns-in-Some c = rw (← c.self.view_is)
    (λ acts inputs events.
    let i = c.self.inside in
    let found : slice_get i.image.now.layout.imports c.in-Suspended.import ≡ Some c.in-Some.tainted.now = rw c.imports.ensures at (sym (item_found c.imports.result.now c.in-Suspended.import (Some c.in-Some.tainted) c.in-Some.ensures.lookup)) in
    let here : IsIn (machine i) i.calls.fun = ap (λ funs. slice_get funs i.calls.frame.function) (sym c.self.invariant.funs) ∙ c.self.invariant.there in
    rw (c.in-Suspended.is, found) (gives_at TellsAct acts inputs events _ _ _ c.take_reply.new.self c.take_reply.result refl refl (rw c.result.ensures at (c.take_reply.ensures i.calls.fun here acts inputs events))))

pub returns-in-None : goal.returns-in-None
returns-in-None c = rw (← c.self.view_is)
    (λ acts inputs events.
    let i = c.self.inside in
    let none : slice_get i.image.now.layout.imports c.in-Suspended.import ≡ None = rw c.imports.ensures at (sym (item_found c.imports.result.now c.in-Suspended.import None c.in-None.ensures.lookup)) in
    rw (c.in-Suspended.is, none) (c.end_move.ensures.line acts inputs events))
