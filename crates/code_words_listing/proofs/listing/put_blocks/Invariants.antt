use Rattle.std.proofs.Common.{◌≡◌, ◌++◌, drop}
use Rattle.code_words_listing.specs.Listings.{lines_text, block_lines}
use Rattle.code_words_listing.proofs.listing.put_blocks.Given as goal

-- the text so far with the blocks that are left is that of all
abbrev pub invariant-loop-number : goal.invariant-loop-number
invariant-loop-number l = l.out.items ++ lines_text (block_lines l.number (drop l.number l.blocks)) ≡ l.initial.out.items ++ lines_text (block_lines 0 l.blocks)
