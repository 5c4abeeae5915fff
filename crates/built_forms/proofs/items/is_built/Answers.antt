use Rattle.ckc_tree.specs.Items.{item}
use Rattle.built_forms.specs.Built as built
use Rattle.built_forms.proofs.Rows.{seen}
use Rattle.built_forms.proofs.items.is_built.Goals as goal

pub returns : goal.returns
returns c = seen built.built_item item c.as_slice.result.now c.args.program.now.items.items c.built_items.result c.built_items.ensures c.as_slice.ensures.value
