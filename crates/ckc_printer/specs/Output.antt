-- For private clauses: what calls do to a text that is being printed.
use Rattle.std.specs.Prelude.{ℕ, true, List, ◌++◌, ◌≡◌}
use Rattle.ckc_printer.specs.declared.output.Output.{Output}

-- unless memory ran out, a text is put behind the text so far
pub record Puts (old new : Output) (text : List ℕ) : Type 0 where
  pub put : new.is_whole ≡ true → (old.is_whole ≡ true) × (new.bytes.items ≡ old.bytes.items ++ text)

-- unless memory ran out, the text is this one
pub record Makes (old new : Output) (text : List ℕ) : Type 0 where
  pub made : new.is_whole ≡ true → (old.is_whole ≡ true) × (new.bytes.items ≡ text)

-- unless memory ran out, the text so far with what is left is all of it
pub record Leaves (old new : Output) (left whole : List ℕ) : Type 0 where
  pub all : new.is_whole ≡ true → (old.is_whole ≡ true) × (new.bytes.items ++ left ≡ old.bytes.items ++ whole)
