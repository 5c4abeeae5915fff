use Rattle.std.proofs.Common.{◌+◌, [], ◌∷◌, map, ap, ◌∙◌, arith}
use Rattle.ckc_tree.specs.Items.{item}
use Rattle.region_typing_rules.specs.Items.{limited, variables_declared}
use Rattle.region_typing.proofs.DeclaredVariables.{count_more, count_all, limited_few}
use Rattle.region_typing.proofs.counts.variables_declared.Goals as goal

pub loop-listed-preserved : goal.loop-listed-preserved
loop-listed-preserved c =
    let declared = variables_declared (item c.listed-item.result ∷ []) in
    let counted = c.sum-count.ensures ∙ ap (λ n. limited 4096 (c.loop-listed.count + n)) c.declared_by.ensures in
    record {
      few = rw counted (limited_few (c.loop-listed.count + declared));
      so_far = count_more c.args.written.now c.loop-listed.listed-index c.listed-item.result (limited 4096 (variables_declared (map item c.args.written.now))) c.loop-listed.count c.sum-count.result (omega (arith, c.loop-listed-test.true)) c.listed-item.is counted c.loop-listed.invariant.so_far;
    }

pub returns-clause-count : goal.returns-clause-count
returns-clause-count c = count_all c.args.written.now c.loop-listed.listed-index (limited 4096 (variables_declared (map item c.args.written.now))) c.loop-listed.count (omega (arith, c.loop-listed-test.false)) c.loop-listed.invariant.few c.loop-listed.invariant.so_far
