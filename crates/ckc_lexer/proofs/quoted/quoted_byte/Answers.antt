use Rattle.std.proofs.lemmas.Grind.{elements}
use Rattle.std.proofs.Common.{arith}
use Rattle.ckc_lexer.proofs.quoted.quoted_byte.Goals as goal

pub returns-in-92-clause-byte : goal.returns-in-92-clause-byte
returns-in-92-clause-byte c = grind (arith, elements)
