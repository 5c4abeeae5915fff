use Rattle.std.proofs.Common.{append_assoc}
use Rattle.act_words.proofs.writing.return_line.Goals as goal

pub returns : goal.returns
returns c = rw c.into_bytes.ensures.value (simp append_assoc c.in_ok-format.ensures.ok)
