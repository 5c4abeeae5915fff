use Rattle.partitioner.proofs.Partitions.{partition}
use Rattle.partitioner.proofs.laws.partition.Goals as goal

pub returns : goal.returns
returns c = partition
