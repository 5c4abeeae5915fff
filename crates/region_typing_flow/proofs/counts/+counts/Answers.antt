use Rattle.std.proofs.lemmas.Bool.Decides.{nat_tests}
use Rattle.std.proofs.lemmas.Grind.{common_steps}
use Rattle.std.proofs.Common.{ap, ◌∙◌, rules, arith}
use Rattle.region_typing_rules.specs.Items.{limited}
use Rattle.region_typing_flow.proofs.Rows.{block_declares}
use Rattle.region_typing_flow.proofs.counts.+counts.Goals as goal

pub declared_in-returns-in-Block : goal.declared_in-returns-in-Block
declared_in-returns-in-Block t c =
    c.all_declared.ensures ∙ ap (limited 256) (block_declares c.args.written.now c.in-Block.mark c.in-Block.statements c.in-Block.span c.as_slice.result.now c.in-Block.is c.as_slice.ensures.value)

pub all_declared-loop-listed-init : goal.all_declared-loop-listed-init
all_declared-loop-listed-init t c = search rules

pub all_declared-loop-listed-preserved : goal.all_declared-loop-listed-preserved
all_declared-loop-listed-preserved t c = grind (arith, common_steps)

pub all_declared-returns : goal.all_declared-returns
all_declared-returns t c = grind (arith, common_steps)

pub declared_in-deref-requires-in-Some : goal.declared_in-deref-requires-in-Some
declared_in-deref-requires-in-Some t c κs = search rules

pub declared_in-deref-requires-in-Some-2 : goal.declared_in-deref-requires-in-Some-2
declared_in-deref-requires-in-Some-2 t c κs = search rules

pub declared_in-sum-requires-clause-a : goal.declared_in-sum-requires-clause-a
declared_in-sum-requires-clause-a t c = search rules

pub declared_in-sum-requires-clause-b : goal.declared_in-sum-requires-clause-b
declared_in-sum-requires-clause-b t c = search rules

pub declared_in-returns-in-Declare : goal.declared_in-returns-in-Declare
declared_in-returns-in-Declare t c = grind (arith, common_steps)

pub declared_in-returns-in-Some : goal.declared_in-returns-in-Some
declared_in-returns-in-Some t c = grind (arith, nat_tests)

pub declared_in-returns-in-Declare-initial : goal.declared_in-returns-in-Declare-initial
declared_in-returns-in-Declare-initial t c = grind (arith, common_steps)

pub declared_in-returns-in_default-initial : goal.declared_in-returns-in_default-initial
declared_in-returns-in_default-initial t c = search rules
