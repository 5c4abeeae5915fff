use Rattle.std.proofs.Common.{◌≡◌, ◌++◌, take, map}
use Rattle.code_words_listing.specs.Lines.{Parameter}
use Rattle.code_words_listing.specs.Listings.{lines_text}
use Rattle.code_words_listing.proofs.listing.put_parameters.Given as goal

abbrev pub invariant-loop-param : goal.invariant-loop-param
invariant-loop-param l = l.out.items ≡ l.initial.out.items ++ lines_text (map Parameter (take l.param-index l.params))
