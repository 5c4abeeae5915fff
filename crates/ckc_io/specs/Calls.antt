-- The calls of a device in memory.
use Rattle.std.specs.Prelude.{ℕ, ◌+◌, ◌-◌, ◌^◌, min, List, [], ◌∷◌, ◌++◌, Contains}

-- one more, up to the end of a count of 64 bits
abbrev pub raised : ℕ → ℕ
raised count = min (count + 1) (2 ^ 64 - 1)

-- which calls fail, by their numbers from 1, and how many were made
pub record CallState : Type 0 where
  pub failing : List ℕ
  pub made : ℕ

-- none was made, and none fails
abbrev pub no_calls : CallState
no_calls = record { failing = []; made = 0 }

-- a call more is to fail
abbrev pub also_failing : CallState → ℕ → CallState
also_failing calls call = record { failing = calls.failing ++ call ∷ []; made = calls.made }

-- the next call is one that fails
abbrev pub FailsNext : CallState → Type 0
FailsNext calls = Contains calls.failing (raised calls.made)

-- one call more was made
abbrev pub one_more : CallState → CallState
one_more calls = record { failing = calls.failing; made = raised calls.made }
