use Rattle.std.proofs.Common.{◌≡◌, ◌++◌, take, map}
use Rattle.code_words_listing.specs.Lines.{Instruction}
use Rattle.code_words_listing.specs.Listings.{lines_text}
use Rattle.code_words_listing.proofs.listing.put_instructions.Given as goal

abbrev pub invariant-loop-op : goal.invariant-loop-op
invariant-loop-op l = l.out.items ≡ l.initial.out.items ++ lines_text (map Instruction (take l.op-index l.ops))
