use Rattle.std.proofs.Common.{refl, ◌∙◌}
use Rattle.ccbox_call.proofs.Calls.{unmade_ends}
use Rattle.ccbox_call.proofs.Processes.{behind_first}
use Rattle.ccbox_call.proofs.process.status_of_arguments.Goals as goal

pub returns-in-Ok : goal.returns-in-Ok
returns-in-Ok g c = behind_first _ _ (c.as_slice.ensures.value ∙ c.in-Ok.ensures) _ _ _ _ _ _ c.status_of_texts.ensures

pub returns-in-Err : goal.returns-in-Err
returns-in-Err g c = unmade_ends _ _ _ _ _ _ _ refl refl refl
