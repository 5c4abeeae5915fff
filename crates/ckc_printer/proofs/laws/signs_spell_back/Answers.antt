use Rattle.ckc_printer.proofs.ReadItems.{spelled_back}
use Rattle.ckc_printer.proofs.laws.signs_spell_back.Goals as goal

pub returns : goal.returns
returns c = spelled_back
