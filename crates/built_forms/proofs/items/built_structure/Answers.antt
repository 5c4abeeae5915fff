use Rattle.std.proofs.Common.{ap, not}
use Rattle.ckc_tree.specs.Items.{member}
use Rattle.built_forms.specs.Built as built
use Rattle.built_forms.proofs.Rows.{seen, behind}
use Rattle.built_forms.proofs.items.built_structure.Goals as goal

pub returns-then-not-written : goal.returns-then-not-written
returns-then-not-written c =
    behind _ _ _ (ap not c.if-not-written.true)
    (seen built.built_member member c.as_slice.result.now c.args.written.now.members.items c.built_members.result c.built_members.ensures c.as_slice.ensures.value)
