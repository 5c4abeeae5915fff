use Rattle.std.proofs.Common.{append_assoc}
use Rattle.act_recorder.proofs.diagnostics.listing_refused_line.Goals as goal

pub returns : goal.returns
returns c = rw c.into_bytes.ensures.value (simp append_assoc c.in_ok-format.ensures.ok)
