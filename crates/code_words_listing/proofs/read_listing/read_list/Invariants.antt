use Rattle.std.proofs.Common.{length}
use Rattle.code_words_listing.specs.States.{seen}
use Rattle.code_words_listing.proofs.ListRead.{IsRead}
use Rattle.code_words_listing.proofs.read_listing.read_list.Given as goal

-- the lines so far lead to the state
abbrev pub invariant-loop-line : goal.invariant-loop-line
invariant-loop-line l = IsRead l.text (seen l.state) l.number l.left

abbrev pub decreases-loop-line : goal.decreases-loop-line
decreases-loop-line l = length l.left
