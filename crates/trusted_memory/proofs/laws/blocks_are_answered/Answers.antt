use Rattle.std.proofs.Common.{ℕ}
use Rattle.std.proofs.lemmas.List.{length-replicate}
use Rattle.trusted_memory.specs.Memories.{started}
use Rattle.trusted_memory.proofs.BlockLemmas.{answered}
use Rattle.trusted_memory.proofs.laws.blocks_are_answered.Goals as goal

pub returns : goal.returns
returns c = λ size base asked h. rw (length-replicate {A = ℕ} size 0) at (answered (started size base) asked h)
