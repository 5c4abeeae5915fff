-- Inside: the definitions that a map from names to numbers holds.
use Rattle.std.specs.Prelude.{ℕ, Bool, List, map, Vec}
use Rattle.std.proofs.Common.{Global}
use Rattle.ckc_lexer.specs.declared.piece.Definition.{Definition}

-- a name, and the sign and the number that it stands for
abbrev pub definition : Vec ℕ Global × (Bool × ℕ) → Definition
definition e = record { name = e.0.items; negative = e.1.0; value = e.1.1 }

abbrev pub definitions_of : List (Vec ℕ Global × (Bool × ℕ)) → List Definition
definitions_of entries = map definition entries
