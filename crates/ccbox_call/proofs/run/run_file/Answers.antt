use Rattle.std.proofs.Common.{refl, ◌∙◌}
use Rattle.ckc_core.specs.Core.{core}
use Rattle.ccbox_call_words.specs.Requests.{Run}
use Rattle.ccbox_call_words.specs.Requested.{options as options_view}
use Rattle.ccbox_call.proofs.Giving.{gives_behind, no_core_gives}
use Rattle.ccbox_call.proofs.run.run_file.Goals as goal

pub returns-in-Ok : goal.returns-in-Ok
returns-in-Ok g c =
    gives_behind (g.F.Shelf.files c.args.shelf.now) (Run c.args.file.now (options_view c.args.options.now)) (core c.in-Ok.program) refl c.in-Ok.ensures.program.1 c.in-Ok.ensures.program.2 c.in-Ok.ensures.program.3
    (λ text status a files tells. (a files (c.in-Ok.ensures.files ∙ tells), tt)) c.run_program.ensures

pub returns-in-Err : goal.returns-in-Err
returns-in-Err g c = no_core_gives (g.F.Shelf.files c.args.shelf.now) (Run c.args.file.now (options_view c.args.options.now)) refl c.in-Err.ensures.program
