use Rattle.std.proofs.lemmas.Bool.Decides.{nat_tests}
use Rattle.std.proofs.Common.{arith, rules}
use Rattle.code_words_listing.proofs.states.tainted_function.Goals as goal

pub returns-then-not-is_before_callbacks : goal.returns-then-not-is_before_callbacks
returns-then-not-is_before_callbacks c = grind (arith, nat_tests)

pub returns-in_err-push : goal.returns-in_err-push
returns-in_err-push c = search rules

pub returns : goal.returns
returns c = grind (arith, nat_tests)
