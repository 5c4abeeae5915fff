use Rattle.ckc_parser.proofs.Blocks.{block_is}
use Rattle.ckc_parser.proofs.statements.block.Goals as goal

pub returns : goal.returns
returns c = rw c.join-span.ensures (block_is _ _ _)
