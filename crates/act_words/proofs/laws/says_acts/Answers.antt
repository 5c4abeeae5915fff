use Rattle.act_words.proofs.Said.{line_said}
use Rattle.act_words.proofs.laws.says_acts.Goals as goal

pub returns : goal.returns
returns c = line_said
