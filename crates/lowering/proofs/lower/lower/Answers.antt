use Rattle.std.proofs.Common.{sym, subst}
use Rattle.std.proofs.lemmas.Result.{IfOk-weaker}
use Rattle.check_insertion.specs.Erased.{erased}
use Rattle.lowering.specs.Correct.{KeepsMeaning}
use Rattle.lowering.proofs.Fits.{image_keeps}
use Rattle.lowering.proofs.lower.lower.Goals as goal

pub returns-clause-meaning : goal.returns-clause-meaning
returns-clause-meaning c =
    IfOk-weaker c.emit_image.result _ _ (λ image e. subst (KeepsMeaning (erased c.args.program.now)) (sym e) (image_keeps (erased c.args.program.now) c.requires)) c.emit_image.ensures
