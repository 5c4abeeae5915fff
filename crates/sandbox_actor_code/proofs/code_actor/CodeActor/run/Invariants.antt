use Rattle.std.proofs.Common.{◌≡◌, ◌≤◌}
use Rattle.sandbox_actor_code.specs.declared.code_actor.Phase.TheVariants as phases
use Rattle.sandbox_actor_code.specs.Codes.{IsSame, code_left}
use Rattle.sandbox_actor_code.proofs.Led.{AreSteps}
use Rattle.sandbox_actor_code.proofs.code_actor.CodeActor.run.Given as goal

-- the steps so far made no act
abbrev pub invariant-steps : goal.invariant-steps
invariant-steps l = record {
  runs : l.self.phase ≡ phases.Runs;
  same : IsSame l.fn.self l.self;
  leads : AreSteps l.fn.self l.self;
  less : code_left l.self ≤ code_left l.fn.self;
}

abbrev pub decreases-steps : goal.decreases-steps
decreases-steps l = code_left l.self
