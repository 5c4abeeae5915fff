use Rattle.std.proofs.lemmas.Bool.Decides.{nat_tests}
use Rattle.std.proofs.Common.{rules, arith}
use Rattle.code_words_listing.proofs.read_lines.read_parameter.Goals as goal

pub returns-in_err-word : goal.returns-in_err-word
returns-in_err-word c = search rules

pub returns-then-eq : goal.returns-then-eq
returns-then-eq c = search rules

pub returns-in_err-kind : goal.returns-in_err-kind
returns-in_err-kind c = search rules

pub returns-in_err-place : goal.returns-in_err-place
returns-in_err-place c = grind (arith, nat_tests)

pub returns-in_err-end : goal.returns-in_err-end
returns-in_err-end c = grind (arith, nat_tests)

pub returns : goal.returns
returns c = grind (arith, nat_tests)
