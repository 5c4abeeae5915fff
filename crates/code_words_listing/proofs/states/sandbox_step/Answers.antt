use Rattle.std.proofs.lemmas.Bool.Decides.{nat_tests}
use Rattle.std.proofs.Common.{[], subst, lit<, rules, arith}
use Rattle.code_words_listing.specs.Fields.{Fixed}
use Rattle.code_words_listing.specs.Lines.{IsAllowed}
use Rattle.code_words_listing.specs.Told.{told}
use Rattle.code_words_listing.proofs.states.sandbox_step.Goals as goal

pub from_slice-requires : goal.from_slice-requires
from_slice-requires c = (subst (λ l. IsAllowed (told l)) c.in-Begin.is c.requires).words 2 (Fixed []) (lit< tt)

pub returns-in-StaticBlock : goal.returns-in-StaticBlock
returns-in-StaticBlock c = rw c.in-StaticBlock.is c.sandbox_block.ensures

pub drop-draft-requires : goal.drop-draft-requires
drop-draft-requires c κs = search rules

pub returns-in_err-from_slice-in-Begin : goal.returns-in_err-from_slice-in-Begin
returns-in_err-from_slice-in-Begin c = search rules

pub drop-draft-requires-in-Heading-3 : goal.drop-draft-requires-in-Heading-3
drop-draft-requires-in-Heading-3 c κs = search rules

pub drop-draft-requires-in-Heading-4 : goal.drop-draft-requires-in-Heading-4
drop-draft-requires-in-Heading-4 c κs = search rules

pub returns-in_ok-from_slice-in-Begin : goal.returns-in_ok-from_slice-in-Begin
returns-in_ok-from_slice-in-Begin c = grind (arith, nat_tests)

pub returns-in-Close : goal.returns-in-Close
returns-in-Close c = grind (arith, nat_tests)

pub returns-in_default : goal.returns-in_default
returns-in_default c = grind (arith, nat_tests)
