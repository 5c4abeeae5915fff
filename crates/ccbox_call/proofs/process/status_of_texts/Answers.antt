use Rattle.std.proofs.Common.{refl}
use Rattle.ccbox_call.proofs.Calls.{unmade_ends}
use Rattle.ccbox_call.proofs.process.status_of_texts.Goals as goal

pub returns-in-Ok : goal.returns-in-Ok
returns-in-Ok g c = rw (← c.in-Ok.ensures, ← c.as_slice.ensures.value) c.status_of_call.ensures

pub returns-in-Err : goal.returns-in-Err
returns-in-Err g c = unmade_ends _ _ _ _ _ _ _ refl refl refl
