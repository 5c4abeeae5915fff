use Rattle.ckc_core.specs.Core as core
use Rattle.region_typing_scope.specs.OnHeap.{statement}
use Rattle.region_typing_statements.proofs.Walking.{done}
use Rattle.region_typing_statements.proofs.heads.first_part.Goals as goal

pub returns-in_ok-nothing-in-Nothing : goal.returns-in_ok-nothing-in-Nothing
returns-in_ok-nothing-in-Nothing c = rw c.in-Nothing.is (done statement c.in_ok-nothing-in-Nothing.field-0 core.Nothing c.args.scope.now c.in_ok-nothing-in-Nothing.ensures)
