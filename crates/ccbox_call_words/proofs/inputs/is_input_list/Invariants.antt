use Rattle.std.proofs.Common.{length}
use denote.Text.{Utf8}
use denote.Shadow.{shadow}
use Rattle.ccbox_call_words.specs.Requests.{pieces_of}
use Rattle.ccbox_call_words.proofs.Lists.{Counted}
use Rattle.ccbox_call_words.proofs.inputs.is_input_list.Given as goal

abbrev pub invariant-numbers : goal.invariant-numbers
invariant-numbers l = shadow (Utf8 l.rest) × Counted l.text l.rest l.count

abbrev pub decreases-numbers : goal.decreases-numbers
decreases-numbers l = length (pieces_of l.rest)
