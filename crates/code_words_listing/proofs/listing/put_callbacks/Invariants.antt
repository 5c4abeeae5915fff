use Rattle.std.proofs.Common.{◌≡◌, ◌++◌, take, flat_map}
use Rattle.code_words_listing.specs.Listings.{lines_text, callback_lines}
use Rattle.code_words_listing.proofs.listing.put_callbacks.Given as goal

abbrev pub invariant-loop-callback : goal.invariant-loop-callback
invariant-loop-callback l = l.out.items ≡ l.initial.out.items ++ lines_text (flat_map callback_lines (take l.callback-index l.callbacks))
