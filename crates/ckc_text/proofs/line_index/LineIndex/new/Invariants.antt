use Rattle.std.proofs.Common.{◌≡◌, take}
use Rattle.ckc_text.specs.Places.{line_feeds_of}
use Rattle.ckc_text.proofs.line_index.LineIndex.new.Given as goal

-- the line feeds so far
abbrev pub invariant-loop-at : goal.invariant-loop-at
invariant-loop-at l = l.line_feeds.items ≡ line_feeds_of (take l.at l.src)
