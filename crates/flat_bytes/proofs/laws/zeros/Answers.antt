use Rattle.flat_bytes.proofs.Accesses.{read_zeros}
use Rattle.flat_bytes.proofs.laws.zeros.Goals as goal

pub returns : goal.returns
returns c = read_zeros
