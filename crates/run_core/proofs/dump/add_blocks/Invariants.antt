use Rattle.std.proofs.Common.{◌≡◌, ◌-◌, ◌++◌, length, take}
use Rattle.std.specs.Prelude.{flat_map}
use Rattle.act_recorder.specs.Lines.{block_text}
use Rattle.run_core.specs.Progress.{blocks_of}
use Rattle.run_core.proofs.dump.add_blocks.Given as goal

abbrev pub invariant-adding : goal.invariant-adding
invariant-adding l = l.text.items ≡ l.fn.text.items ++ flat_map block_text (take l.k (blocks_of l.machine))

abbrev pub decreases-adding : goal.decreases-adding
decreases-adding l = length l.machine.blocks - l.k
