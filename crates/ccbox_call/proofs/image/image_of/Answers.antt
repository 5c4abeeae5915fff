use Rattle.std.proofs.Common.{sym, subst}
use Rattle.std.specs.Prelude.{◌≡◌, IfOk}
use Rattle.ckc_core.specs.Core.{core}
use Rattle.lowering.specs.Correct.{IsLowerable, KeepsMeaning}
use Rattle.lowering.specs.Images as images
use Rattle.ccbox_call.proofs.Runs.{lowerable}
use Rattle.ccbox_call.proofs.image.image_of.Goals as goal

pub lower-requires : goal.lower-requires
lower-requires c = subst IsLowerable (sym c.in_ok-erased.ensures) (lowerable (core c.args.program.now) c.requires.accepted)

pub returns-clause-code : goal.returns-clause-code
returns-clause-code c = subst (λ p. IfOk c.lower.result (λ image. image ≡ images.image_of p)) c.in_ok-erased.ensures c.lower.ensures.code

pub returns-clause-meaning : goal.returns-clause-meaning
returns-clause-meaning c = subst (λ p. IfOk c.lower.result (λ image. KeepsMeaning p image)) c.in_ok-erased.ensures c.lower.ensures.meaning
