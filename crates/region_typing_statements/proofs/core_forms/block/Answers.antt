use Rattle.region_typing_statements.proofs.Blocks.{boxed_block}
use Rattle.region_typing_statements.proofs.core_forms.block.Goals as goal

pub returns : goal.returns
returns c = boxed_block c.args.statements c.boxed.result c.boxed.ensures
