use Rattle.std.proofs.lemmas.Grind.{elements, common_steps}
use Rattle.std.proofs.Common.{[], ◌∷◌, ◌++◌, sym, ap, ◌∙◌, arith, rules}
use Rattle.run_core.proofs.Dumping.{bytes_more}
use Rattle.run_core.proofs.dump.block_bytes.Goals as goal

pub reading-preserved : goal.reading-preserved
reading-preserved c =
    let at = c.reading.invariant in
    record {
      place = omega (arith, at.place);
      same = c.in_ok-push.ensures.items ∙ ap (λ xs. xs ++ c.in-Some.byte ∷ []) at.same ∙ sym (bytes_more c.args.machine.now.memory c.args.address c.reading.at c.reading._count c.in-Some.byte c.requires at.place c.in-Some.ensures.byte);
    }

pub returns-in_default : goal.returns-in_default
returns-in_default c = grind (arith, elements)

pub returns-in_err-push : goal.returns-in_err-push
returns-in_err-push c = grind (arith, common_steps)

pub overflow_add-at : goal.overflow_add-at
overflow_add-at c = search rules

pub reading-smaller : goal.reading-smaller
reading-smaller c = search rules

pub returns : goal.returns
returns c = search rules
