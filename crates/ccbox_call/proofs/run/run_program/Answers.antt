use Rattle.std.proofs.Common.{refl, ap, arith}
use Rattle.code_words.specs.Images.{Image}
use Rattle.ckc_core.specs.Core.{core}
use Rattle.ccbox_call_words.specs.Requests.{settings_of}
use Rattle.ccbox_call_words.specs.Requested.{options as options_view}
use Rattle.ccbox_call.specs.Calls.{no_memory}
use Rattle.ccbox_call.proofs.Giving.{gives_as, code_run}
use Rattle.ccbox_call.proofs.run.run_program.Goals as goal

pub run_image-requires : goal.run_image-requires
run_image-requires g c =
    let o = options_view c.args.options.now in
    record { allowed = c.requires.allowed; fits = (c.in-Ok.ensures.meaning).fits (settings_of o) (c.requires.allowed).settings; paced = ((c.in-Ok.ensures.meaning).format).paced }

pub returns-in-Ok : goal.returns-in-Ok
returns-in-Ok g c =
    let o = options_view c.args.options.now in
    gives_as (λ text status a files told. code_run files o (core c.args.program.now) c.in-Ok.image c.requires.accepted c.in-Ok.ensures.meaning (ap (λ (i : Image). i.sandbox.funs) c.in-Ok.ensures.code) c.requires.allowed (a files told)) c.run_image.ensures

pub returns-in-Err : goal.returns-in-Err
returns-in-Err g c = no_memory refl (omega arith) refl refl
