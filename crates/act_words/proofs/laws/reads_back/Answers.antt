use Rattle.act_words.proofs.Back.Texts.{act_text-compact_text}
use Rattle.act_words.proofs.Back.Lines.{reading-act_text}
use Rattle.act_words.proofs.laws.reads_back.Goals as goal

pub returns : goal.returns
returns c = record { says = reading-act_text; compact = act_text-compact_text }
