use Rattle.std.proofs.lemmas.Bool.Decides.{nat_tests}
use Rattle.std.proofs.Common.{[], subst, lit<, rules, arith}
use Rattle.code_words_listing.specs.Fields.{Fixed}
use Rattle.code_words_listing.specs.Lines.{IsAllowed}
use Rattle.code_words_listing.specs.Told.{told}
use Rattle.code_words_listing.proofs.states.trusted_step.Goals as goal

pub from_slice-requires-in-Begin : goal.from_slice-requires-in-Begin
from_slice-requires-in-Begin c = (subst (λ l. IsAllowed (told l)) c.in-Begin.is c.requires).words 2 (Fixed []) (lit< tt)

pub returns-in-StaticBlock : goal.returns-in-StaticBlock
returns-in-StaticBlock c = rw c.in-StaticBlock.is c.trusted_block.ensures

pub returns-in-Entry : goal.returns-in-Entry
returns-in-Entry c = rw c.in-Entry.is c.begin_callback.ensures

pub returns-in-Main : goal.returns-in-Main
returns-in-Main c = rw c.in-Main.is c.main.ensures

pub from_slice-requires : goal.from_slice-requires
from_slice-requires c = search rules

pub from_residual-requires : goal.from_residual-requires
from_residual-requires c κs = search rules

pub returns-in_err-name-in-TaintedFunction : goal.returns-in_err-name-in-TaintedFunction
returns-in_err-name-in-TaintedFunction c = search rules

pub new-requires-clause-named : goal.new-requires-clause-named
new-requires-clause-named c = search rules

pub new-requires-clause-few : goal.new-requires-clause-few
new-requires-clause-few c = search rules

pub returns-in_err-from_slice-in-Begin : goal.returns-in_err-from_slice-in-Begin
returns-in_err-from_slice-in-Begin c = search rules

pub returns-in_ok-name-in-TaintedFunction : goal.returns-in_ok-name-in-TaintedFunction
returns-in_ok-name-in-TaintedFunction c = grind (arith, nat_tests)

pub returns-in_ok-from_slice-in-Begin : goal.returns-in_ok-from_slice-in-Begin
returns-in_ok-from_slice-in-Begin c = grind (arith, nat_tests)

pub returns-in-SandboxSide : goal.returns-in-SandboxSide
returns-in-SandboxSide c = grind (arith, nat_tests)

pub returns-in_default : goal.returns-in_default
returns-in_default c = grind (arith, nat_tests)
