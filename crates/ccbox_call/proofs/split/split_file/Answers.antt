use Rattle.std.proofs.Common.{refl}
use Rattle.ckc_core.specs.Core.{core}
use Rattle.ccbox_call_words.specs.Requests.{Split}
use Rattle.ccbox_call.proofs.Giving.{gives_behind, same_code, no_core_gives}
use Rattle.ccbox_call.proofs.split.split_file.Goals as goal

pub print_code-requires : goal.print_code-requires
print_code-requires g c = record { accepted = c.in-Ok.ensures.program.0 }

pub returns-in-Ok : goal.returns-in-Ok
returns-in-Ok g c =
    let told = g.F.Shelf.files c.args.shelf.now in
    let p = core c.in-Ok.program in
    let there = c.in-Ok.ensures.program.1 in
    gives_behind told (Split c.args.file.now) p refl there c.in-Ok.ensures.program.2 c.in-Ok.ensures.program.3
    (λ text status a files tells. (a.0, same_code files c.args.file.now p (there files tells) a.1)) (c.print_code.ensures _ _)

pub returns-in-Err : goal.returns-in-Err
returns-in-Err g c = no_core_gives (g.F.Shelf.files c.args.shelf.now) (Split c.args.file.now) refl c.in-Err.ensures.program
