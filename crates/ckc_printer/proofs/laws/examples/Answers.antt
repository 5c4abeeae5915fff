use Rattle.std.proofs.Common.{refl, arith}
use Rattle.std.proofs.lemmas.Fmt.{decimal_digit, decimal_step}
use Rattle.ckc_printer.proofs.laws.examples.Goals as goal

pub returns-clause-small : goal.returns-clause-small
returns-clause-small c = rw (decimal_step 41 (omega arith) (omega arith), decimal_digit 4 (omega arith), decimal_digit 1 (omega arith)) refl

pub returns-clause-regions : goal.returns-clause-regions
returns-clause-regions c = rw (decimal_digit 1 (omega arith)) refl
