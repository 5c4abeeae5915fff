use Rattle.std.proofs.Common.{length, ◌-◌, ◌++◌, ◌≤◌, ℕ, List, drop}
use Rattle.ckc_lexer.specs.Quoted.{Means}
use Rattle.ckc_lexer.proofs.quoted.content.Given as goal

-- what is left completes the bytes so far, and whatever the text means begins with bytes that take it here
abbrev pub invariant-loop-at : goal.invariant-loop-at
invariant-loop-at l = record {
  within : l.at ≤ length l.text;
  completed : (others : List ℕ) → Means (drop l.at l.text) others → Means l.text (l.bytes.items ++ others);
  begun : (all : List ℕ) → Means l.text all → (others : List ℕ) × Means (drop l.at l.text) others;
}

abbrev pub decreases-loop-at : goal.decreases-loop-at
decreases-loop-at l = length l.text - l.at
