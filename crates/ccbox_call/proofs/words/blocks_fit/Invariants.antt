use Rattle.std.proofs.Common.{take}
use Rattle.std.specs.Prelude.{All}
use Rattle.ccbox_call.specs.Words.{IsBytes}
use Rattle.ccbox_call.proofs.words.blocks_fit.Given as goal

abbrev pub invariant-loop-block : goal.invariant-loop-block
invariant-loop-block l = All IsBytes (take l.block-index l.blocks)
