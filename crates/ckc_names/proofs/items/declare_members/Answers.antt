use Rattle.std.proofs.Common.{arith}
use Rattle.ckc_tree.specs.Items.{member}
use Rattle.ckc_names_rules.specs.Mentions.{member_mentions}
use Rattle.ckc_names.proofs.Going.{part_more}
use Rattle.ckc_names.proofs.items.declare_members.Goals as goal

pub loop-member-preserved : goal.loop-member-preserved
loop-member-preserved c = record {
  so_far = part_more (λ x. member_mentions (member x)) c.args.members.now c.loop-member.member-index c.member-item.result (omega (arith, c.loop-member-test.true)) c.member-item.is c.loop-member.invariant.so_far c.listed.ensures;
}
