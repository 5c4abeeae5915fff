use Rattle.std.proofs.Common.{◌≡◌, length}
use denote.Text.{Utf8}
use denote.Shadow.{shadow}
use Rattle.ccbox_call_words.specs.Requests.{numbers_in, pieces_of}
use Rattle.ccbox_call_words.proofs.Lists.{joined}
use Rattle.ccbox_call_words.proofs.inputs.InputList.numbers.Given as goal

-- the numbers of the text are those that were read, and those of the rest
abbrev pub invariant-numbers : goal.invariant-numbers
invariant-numbers l = shadow (Utf8 l.rest) × (numbers_in (pieces_of l.self.text.now) ≡ joined l.numbers.items (numbers_in (pieces_of l.rest)))

abbrev pub decreases-numbers : goal.decreases-numbers
decreases-numbers l = length (pieces_of l.rest)
