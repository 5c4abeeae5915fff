-- Inside: the table of keywords in the code.
use Rattle.std.specs.Prelude.{ℕ, List}
use Rattle.std.specs.Borrow.{Bor}
use Rattle.ckc_lexer.specs.declared.keyword.Keyword.{Keyword}

-- an entry of the table, which refers to its text
abbrev pub spelled : Bor (List ℕ) × Keyword → List ℕ × Keyword
spelled entry = (entry.0.now, entry.1)
