use Rattle.std.proofs.Common.{refl}
use Rattle.ckc_core.specs.Core.{core}
use Rattle.act_recorder.specs.Diagnostics.{accepted_text}
use Rattle.ccbox_call_words.specs.Requests.{Check}
use Rattle.ccbox_call.specs.Answers.{CheckAnswer, says_so}
use Rattle.ccbox_call.proofs.Giving.{gives_behind, done_gives, no_core_gives}
use Rattle.ccbox_call.proofs.check.check_file.Goals as goal

pub returns-in-Ok : goal.returns-in-Ok
returns-in-Ok g c =
    gives_behind (g.F.Shelf.files c.args.shelf.now) (Check c.args.file.now) (core c.in-Ok._program) refl c.in-Ok.ensures.program.1 c.in-Ok.ensures.program.2 c.in-Ok.ensures.program.3
    (λ text status a files tells. (a, tt)) (done_gives {Is = CheckAnswer} accepted_text says_so c.give_accepted.ensures)

pub returns-in-Err : goal.returns-in-Err
returns-in-Err g c = no_core_gives (g.F.Shelf.files c.args.shelf.now) (Check c.args.file.now) refl c.in-Err.ensures.program
