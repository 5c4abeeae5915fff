use Rattle.lowering.proofs.Fits.{image_keeps}
use Rattle.lowering.proofs.laws.code_keeps_meaning.Goals as goal

pub returns : goal.returns
returns c = image_keeps
