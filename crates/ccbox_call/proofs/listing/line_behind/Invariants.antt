use Rattle.std.proofs.Common.{◌≡◌, ◌≤◌, ◌+◌, take}
use Rattle.ckc_text.specs.Places.{line_behind}
use Rattle.ccbox_call.proofs.listing.line_behind.Given as goal

-- the line so far
abbrev pub invariant-loop-b : goal.invariant-loop-b
invariant-loop-b l = record { line : l.line ≡ line_behind (take l.b-index l.front); fits : l.line ≤ l.b-index + 1 }
