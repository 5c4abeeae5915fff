use Rattle.std.proofs.Common.{◌≡◌, ◌++◌, take, flat_map}
use Rattle.code_words_listing.specs.Listings.{lines_text, function_lines}
use Rattle.code_words_listing.proofs.listing.put_functions.Given as goal

abbrev pub invariant-loop-f : goal.invariant-loop-f
invariant-loop-f l = l.out.items ≡ l.initial.out.items ++ lines_text (flat_map function_lines (take l.f-index l.funs))
