use Rattle.std.proofs.Common.{refl}
use Rattle.region_typing_scope.proofs.Going.{goes_on, refused}
use Rattle.region_typing_statements.proofs.local_arrays.refused_initial.Goals as goal

pub returns-in_err-typed : goal.returns-in_err-typed
returns-in_err-typed c = refused _ c.from_residual.result c.from_residual.ensures.1 c.in_err-typed.ensures

pub returns : goal.returns
returns c = goes_on _ c.in_ok-typed.ensures (rw c.refusal.ensures (record { so = refl }))
