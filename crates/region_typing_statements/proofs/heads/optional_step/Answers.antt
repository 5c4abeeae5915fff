use Rattle.ckc_core.specs.Core as core
use Rattle.region_typing_scope.specs.OnHeap.{statement}
use Rattle.region_typing_statements.proofs.Walking.{done}
use Rattle.region_typing_statements.proofs.heads.optional_step.Goals as goal

pub returns-in_ok-nothing-in-None : goal.returns-in_ok-nothing-in-None
returns-in_ok-nothing-in-None c = rw c.in-None.is (done statement c.in_ok-nothing-in-None.field-0 core.Nothing c.args.scope.now c.in_ok-nothing-in-None.ensures)
