use Rattle.std.proofs.lemmas.Bool.Decides.{nat_tests}
use Rattle.std.proofs.Common.{arith, rules}
use Rattle.code_words_listing.proofs.states.trusted_block.Goals as goal

pub returns-then-not-is_before_imports : goal.returns-then-not-is_before_imports
returns-then-not-is_before_imports c = grind (arith, nat_tests)

pub returns-in_err-push : goal.returns-in_err-push
returns-in_err-push c = search rules

pub returns : goal.returns
returns c = grind (arith, nat_tests)
