use Rattle.std.proofs.Common.{◌≡◌, Some, length, refl, ap, sym, ◌∙◌}
use Rattle.std.specs.Prelude.{slice_get}
use Rattle.two_memory_machine_states.specs.Machines.{next_op_of}
use Rattle.two_memory_machine_states.specs.Insides.{machine, doing_of, IsConsistent, IsPhaseOf}
use Rattle.two_memory_machine_states.specs.Steps.{IsGivenTo}
use Rattle.two_memory_machine_states.specs.declared.running_image.Phase.{Phase}
use Rattle.two_memory_machine_states.specs.declared.running_image.Phase.TheVariants as phases
use Rattle.two_memory_machine_states.specs.declared.running_image.RunningImage.TheInside.{Inside}
use Rattle.two_memory_machine_states.proofs.running_image.RunningImage.op.Goals as goal

here : (i : Inside) → IsConsistent i → slice_get i.image.now.trusted.funs i.calls.frame.function ≡ Some i.calls.fun
here i h = ap (λ funs. slice_get funs i.calls.frame.function) (sym h.funs) ∙ h.there

-- the instruction that the innermost call would do next is the machine's
next_is : (i : Inside) → IsConsistent i → next_op_of (machine i) ≡ slice_get i.calls.fun.ops i.calls.frame.next
next_is i h = rw (here i h) refl

given_to : (i : Inside) → IsConsistent i → IsGivenTo (machine i).doing (next_op_of (machine i))
given_to i h = by i.phase h.phase
  where
    by : (phase : Phase) → IsPhaseOf phase i.calls (length i.sandbox.items) i.depth → IsGivenTo (doing_of phase) (next_op_of (machine i))
    by phases.Running at = _
    by phases.NeedsNumber at = _
    by (phases.HasNumber number) at = next_is i h ∙ at.0
    by (phases.Touching touch) at = _
    by (phases.Suspended import place) at = _

pub returns-clause-op : goal.returns-clause-op
returns-clause-op c = c.op.ensures.op ∙ sym (rw (← c.self.view_is) (next_is c.self.inside c.self.invariant))

pub returns-clause-given : goal.returns-clause-given
returns-clause-given c = rw (← c.self.view_is) (given_to c.self.inside c.self.invariant)

pub returns-clause-paced : goal.returns-clause-paced
returns-clause-paced c = rw (← c.self.view_is) c.self.invariant.format.paced
