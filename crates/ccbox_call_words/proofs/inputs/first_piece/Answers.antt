use Rattle.std.proofs.Common.{refl}
use Rattle.ccbox_call_words.proofs.Cuts.{pieces_split}
use Rattle.ccbox_call_words.proofs.inputs.first_piece.Goals as goal

pub returns-in-Some : goal.returns-in-Some
returns-in-Some c = rw (pieces_split c.args.text.now c.split_once.result c.split_once.ensures.cases, c.in-Some.is) refl

pub returns-in-None : goal.returns-in-None
returns-in-None c = rw (pieces_split c.args.text.now c.split_once.result c.split_once.ensures.cases, c.in-None.is) refl
