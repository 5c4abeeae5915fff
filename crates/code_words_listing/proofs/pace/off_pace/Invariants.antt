use Rattle.std.proofs.Common.{◌≡◌, ℕ, ◌+◌, drop}
use Rattle.code_words_listing.specs.Verdicts.{off_pace_in}
use Rattle.code_words_listing.proofs.pace.off_pace.Given as goal

-- nothing before this place breaks the pace
abbrev pub invariant-loop-place : goal.invariant-loop-place
invariant-loop-place l = (number : ℕ) → off_pace_in number l.ops 0 l.ops ≡ off_pace_in (number + l.place) l.ops l.place (drop l.place l.ops)
