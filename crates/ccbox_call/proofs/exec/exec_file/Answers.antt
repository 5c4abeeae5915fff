use Rattle.std.proofs.Common.{◌∙◌}
use Rattle.ccbox_call_words.specs.Requested.{options as options_view}
use Rattle.ccbox_call.proofs.Giving.{no_image_gives, image_gives}
use Rattle.ccbox_call.proofs.exec.exec_file.Goals as goal

pub exec_image-requires : goal.exec_image-requires
exec_image-requires g c = record { allowed = c.requires; paced = c.in-Ok.ensures.image.0 }

pub returns-in-Ok : goal.returns-in-Ok
returns-in-Ok g c =
    image_gives (g.F.Shelf.files c.args.shelf.now) c.args.file.now (options_view c.args.options.now) c.in-Ok.image c.in-Ok.ensures.image.1 c.in-Ok.ensures.image.2 c.in-Ok.ensures.image.3
    (λ text status a files tells. a files (c.in-Ok.ensures.files ∙ tells)) c.exec_image.ensures

pub returns-in-Err : goal.returns-in-Err
returns-in-Err g c = no_image_gives (g.F.Shelf.files c.args.shelf.now) c.args.file.now (options_view c.args.options.now) c.in-Err.ensures.image
