use Rattle.std.proofs.Common.{◌≡◌, ◌≤◌, length, ℕ, ◌+◌, ◌-◌, drop}
use Rattle.ckc_lexer.specs.Runs.{width, Extent}
use Rattle.ckc_lexer.proofs.run.extent.Given as goal

-- the run has what it has from here on, and the bytes before it
abbrev pub invariant-loop-step : goal.invariant-loop-step
invariant-loop-step l = record {
  within : l.at ≤ length l.text;
  step : l.step ≡ width l.run (drop l.at l.text);
  room : l.step ≤ length (drop l.at l.text);
  extent : (n : ℕ) → Extent l.run (drop l.at l.text) n → Extent l.run l.text (l.at + n);
}

abbrev pub decreases-loop-step : goal.decreases-loop-step
decreases-loop-step l = length l.text - l.at
