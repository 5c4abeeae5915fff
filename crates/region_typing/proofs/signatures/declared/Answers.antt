use Rattle.std.proofs.Common.{refl}
use Rattle.region_typing_scope.proofs.Going.{goes_on, refused}
use Rattle.region_typing.proofs.signatures.declared.Goals as goal

pub returns-in_err-returned : goal.returns-in_err-returned
returns-in_err-returned c = refused _ c.from_residual.result c.from_residual.ensures.1 c.in_err-returned.ensures

pub returns-in_err-heading : goal.returns-in_err-heading
returns-in_err-heading c = goes_on _ c.in_ok-returned.ensures (refused _ c.from_residual-in_err-heading.result c.from_residual-in_err-heading.ensures.1 c.in_err-heading.ensures.known)

pub returns : goal.returns
returns c = goes_on _ c.in_ok-returned.ensures (goes_on _ c.in_ok-heading.ensures.known (record { so = rw c.in_ok-signature.ensures refl }))
