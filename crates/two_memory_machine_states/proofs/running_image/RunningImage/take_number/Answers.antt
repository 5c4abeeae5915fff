use Rattle.std.proofs.Common.{◌≡◌, Some, [], length, sym, ap, subst, ◌∙◌}
use Rattle.std.specs.Prelude.{slice_get}
use Rattle.std.proofs.lemmas.Int.{to_z-of_z}
use mir.Syntax.{w32}
use Rattle.act_words.specs.Numbers.{word}
use Rattle.code_words.specs.declared.op.Op.TheVariants.{NextInput}
use Rattle.code_words.specs.Table.{push}
use Rattle.two_memory_machine_states.specs.declared.running_image.Phase.TheVariants as phases
use Rattle.two_memory_machine_states.specs.Machines.{Machine, Running, Steps}
use Rattle.two_memory_machine_states.specs.Insides.{machine, doing_of, IsPhaseOf}
use Rattle.two_memory_machine_states.specs.Steps.{EventBy, GoesBy, IsIn}
use Rattle.two_memory_machine_states.proofs.Callers.{has}
use Rattle.two_memory_machine_states.proofs.Moving.{takes_number, step_over, event_told}
use Rattle.two_memory_machine_states.proofs.running_image.RunningImage.take_number.Goals as goal
use Rattle.two_memory_machine_states.proofs.running_image.RunningImage.take_number.Goals.{After-event}

holds : (c : After-event) → c.self.inside.phase ≡ phases.HasNumber c.args.number
holds c = has c.self.inside.phase c.args.number (ap (λ (m : Machine). m.doing) c.self.view_is ∙ c.requires.given)

here : (c : After-event) → IsIn (machine c.self.inside) c.self.inside.calls.fun
here c = ap (λ funs. slice_get funs c.self.inside.calls.frame.function) (sym c.self.invariant.funs) ∙ c.self.invariant.there

stands : (c : After-event) → slice_get c.self.inside.calls.fun.ops c.self.inside.calls.frame.next ≡ Some NextInput
stands c = (subst (λ p. IsPhaseOf p c.self.inside.calls (length c.self.inside.sandbox.items) c.self.inside.depth) (holds c) c.self.invariant.phase).0

goes : (c : After-event) → EventBy (push c.self.inside.calls.fun (word c.args.number) c.self.inside.calls.frame.stack c.self.inside.calls.frame) (record (machine c.self.inside) { doing = Running }) c.event.result c.push-outcome.new.self
goes c =
    let i = c.self.inside in
    let w : c.cast_unsigned.result ≡ word c.args.number = c.cast_unsigned.ensures ∙ ap word (to_z-of_z w32 c.args.number c.ranges.number) in
    event_told (push i.calls.fun (word c.args.number) i.calls.frame.stack i.calls.frame) (record (machine i) { doing = Running }) c.push-outcome.new.self c.event.result c.push-outcome.result c.event.ensures
    (subst (λ n. GoesBy (push i.calls.fun n i.calls.frame.stack i.calls.frame) (record (machine i) { doing = Running }) c.push-outcome.result c.push-outcome.new.self) w (c.push-outcome.ensures i.calls.fun (here c)))

pub returns-clause-over : goal.returns-clause-over
returns-clause-over c = step_over [] [] [] _ (record (machine c.self.inside) { doing = Running }) c.push-outcome.new.self c.event.result (goes c [] [] [])

pub returns-clause-steps : goal.returns-clause-steps
returns-clause-steps c =
    subst (λ m. Steps m c.event.result c.push-outcome.new.self) c.self.view_is
    (takes_number (machine c.self.inside) c.push-outcome.new.self c.event.result c.self.inside.calls.fun c.args.number (ap doing_of (holds c)) (here c) (stands c) (goes c))
