use Rattle.std.proofs.Common.{refl, subst, inr, arith}
use Rattle.code_words.specs.Fitting.{Fits}
use Rattle.act_recorder.specs.Diagnostics.{unfit_text}
use Rattle.ccbox_call.specs.Answers.{unfit, fits}
use Rattle.ccbox_call.proofs.Giving.{gives_as, line_gives}
use Rattle.ccbox_call.proofs.Fitting.{unless_fits}
use Rattle.ccbox_call.proofs.exec.exec_image.Goals as goal

pub run_image-requires : goal.run_image-requires
run_image-requires g c = record { allowed = c.requires.allowed; fits = subst (Fits c.args.image.now) c.settings.ensures (c.fits.ensures.0 c.if-fits.true); paced = c.requires.paced }

pub returns-then-fits : goal.returns-then-fits
returns-then-fits g c =
    gives_as (λ text status a files told. fits (subst (Fits c.args.image.now) c.settings.ensures (c.fits.ensures.0 c.if-fits.true)) (a files told)) c.run_image.ensures

pub returns-else-fits : goal.returns-else-fits
returns-else-fits g c =
    line_gives unfit_text 11 (λ files told. unfit (unless_fits c.args.image.now c.settings.ensures c.fits.ensures.1 c.if-fits.false)) (refl, inr (inr (inr (inr (inr (inr refl)))), refl)) (omega arith) c.give_unfit.ensures
