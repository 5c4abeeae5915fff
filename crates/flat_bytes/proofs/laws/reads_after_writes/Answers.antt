use Rattle.flat_bytes.proofs.Accesses.{length-with_word, read_apart, read_same}
use Rattle.flat_bytes.proofs.laws.reads_after_writes.Goals as goal

pub returns-clause-same : goal.returns-clause-same
returns-clause-same c = read_same

pub returns-clause-apart : goal.returns-clause-apart
returns-clause-apart c = read_apart

pub returns-clause-len : goal.returns-clause-len
returns-clause-len c = length-with_word
