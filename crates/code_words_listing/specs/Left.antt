-- For private clauses: the words that are left of a line.
use Rattle.std.specs.Prelude.{ℕ, ◌==◌, List, [], Option, Some, None}
use Rattle.std.specs.List.{slice_split}
use Rattle.std.proofs.Common.{Bor}
use Rattle.code_words_listing.specs.declared.line_words.Words.{Words}

abbrev pub words_in : Option (Bor (List ℕ)) → List (List ℕ)
words_in None = []
words_in (Some bytes) = slice_split (λ b. b == 32) bytes.now

abbrev pub words_left : Words → List (List ℕ)
words_left words = words_in words.left
