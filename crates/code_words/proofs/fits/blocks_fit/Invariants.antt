use Rattle.std.proofs.Common.{◌≤◌, drop}
use Rattle.flat_bytes.specs.Blocks.{first_offset}
use Rattle.code_words.specs.Fitting.{BlocksFit}
use Rattle.code_words.proofs.fits.blocks_fit.Given as goal

-- all blocks fit just where those that are left do
abbrev pub invariant-loop-block : goal.invariant-loop-block
invariant-loop-block l =
    record {
      low : l.offset ≤ l.size;
      all : BlocksFit l.size l.offset (drop l.block-index l.blocks) → BlocksFit l.size first_offset l.blocks;
      left : BlocksFit l.size first_offset l.blocks → BlocksFit l.size l.offset (drop l.block-index l.blocks);
    }
