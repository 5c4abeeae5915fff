use Rattle.std.proofs.Common.{sym, map, refl}
use Rattle.ccbox_call.specs.Calls.{asked}
use Rattle.ccbox_call.proofs.Calls.{unmade_ends}
use Rattle.ccbox_call.proofs.Runs.{may_run, listing_may_run}
use Rattle.ccbox_call.proofs.call.status_of_call.Goals as goal

pub run_file-requires : goal.run_file-requires
run_file-requires g c = let some = c.in-Ok-Some-Run in may_run (map (λ word. word.now) c.args.words.now) _ _ (sym (rw (some.field-0-is, some.field-0-0-is) at some.ensures))

pub returns-in-Ok-Some-Check : goal.returns-in-Ok-Some-Check
returns-in-Ok-Some-Check g c = let some = c.in-Ok-Some-Check in asked _ (sym (rw (some.field-0-is, some.field-0-0-is) at some.ensures)) c.check_file.ensures

pub returns-in-Ok-Some-Split : goal.returns-in-Ok-Some-Split
returns-in-Ok-Some-Split g c = let some = c.in-Ok-Some-Split in asked _ (sym (rw (some.field-0-is, some.field-0-0-is) at some.ensures)) c.split_file.ensures

pub returns-in-Ok-Some-Run : goal.returns-in-Ok-Some-Run
returns-in-Ok-Some-Run g c = let some = c.in-Ok-Some-Run in asked _ (sym (rw (some.field-0-is, some.field-0-0-is) at some.ensures)) c.run_file.ensures

pub exec_file-requires : goal.exec_file-requires
exec_file-requires g c = let some = c.in-Ok-Some-Exec in listing_may_run (map (λ word. word.now) c.args.words.now) _ _ (sym (rw (some.field-0-is, some.field-0-0-is) at some.ensures))

pub returns-in-Ok-Some-Exec : goal.returns-in-Ok-Some-Exec
returns-in-Ok-Some-Exec g c = let some = c.in-Ok-Some-Exec in asked _ (sym (rw (some.field-0-is, some.field-0-0-is) at some.ensures)) c.exec_file.ensures

pub returns-in-Err : goal.returns-in-Err
returns-in-Err g c = unmade_ends _ _ _ _ _ _ _ refl refl refl
