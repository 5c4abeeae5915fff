use Rattle.std.proofs.Common.{◌≡◌, ◌++◌, take, map}
use Rattle.code_words_listing.specs.Lines.{TaintedFunction}
use Rattle.code_words_listing.specs.Listings.{lines_text}
use Rattle.code_words_listing.proofs.listing.put_imports.Given as goal

abbrev pub invariant-loop-import : goal.invariant-loop-import
invariant-loop-import l = l.out.items ≡ l.initial.out.items ++ lines_text (map TaintedFunction (take l.import-index l.imports))
