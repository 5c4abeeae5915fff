use Rattle.std.proofs.lemmas.Bool.Decides.{nat_tests}
use Rattle.std.proofs.Common.{arith, rules}
use Rattle.std.proofs.lemmas.Grind.{common_steps}
use Rattle.code_words_listing.proofs.read_lines.read_region.Goals as goal

pub returns-in_err-hi_var : goal.returns-in_err-hi_var
returns-in_err-hi_var c = grind (arith, common_steps)

pub returns-in_err-hi_plus : goal.returns-in_err-hi_plus
returns-in_err-hi_plus c = grind (arith, common_steps)

pub returns-in_err-size : goal.returns-in_err-size
returns-in_err-size c = grind (arith, common_steps)

pub returns-in_err-more : goal.returns-in_err-more
returns-in_err-more c = grind (arith, common_steps)

pub returns-in_err-place : goal.returns-in_err-place
returns-in_err-place c = grind (arith, common_steps)

pub returns-in_err-end : goal.returns-in_err-end
returns-in_err-end c = grind (arith, common_steps)

pub returns : goal.returns
returns c = grind (arith, common_steps)

pub returns-in_err-base : goal.returns-in_err-base
returns-in_err-base c = search rules

pub returns-in_err-lo_var : goal.returns-in_err-lo_var
returns-in_err-lo_var c = search rules

pub returns-in_err-lo_plus : goal.returns-in_err-lo_plus
returns-in_err-lo_plus c = grind (arith, nat_tests)
