use Rattle.std.proofs.Common.{refl}
use Rattle.trusted_memory.proofs.BlockLemmas.{stand, apart}
use Rattle.trusted_memory.proofs.laws.blocks_stand_apart.Goals as goal

pub returns-clause-apart : goal.returns-clause-apart
returns-clause-apart c = λ size asked. apart size 16 asked refl

pub returns-clause-aligned : goal.returns-clause-aligned
returns-clause-aligned c = λ size asked k d h. (stand size 16 asked refl k d h).aligned

pub returns-clause-inside : goal.returns-clause-inside
returns-clause-inside c = λ size asked k d h. let b = stand size 16 asked refl k d h in (b.from, b.behind)

pub returns-clause-not_empty : goal.returns-clause-not_empty
returns-clause-not_empty c = λ size asked k d h. (stand size 16 asked refl k d h).some
