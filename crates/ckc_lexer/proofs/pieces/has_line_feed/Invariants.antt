use Rattle.std.proofs.Common.{◌≡◌, drop}
use Rattle.std.specs.List.{list_any}
use Rattle.ckc_lexer.specs.Bytes.{is_line_feed}
use Rattle.ckc_lexer.proofs.pieces.has_line_feed.Given as goal

-- the bytes that are left decide it
abbrev pub invariant-loop-b : goal.invariant-loop-b
invariant-loop-b l = list_any is_line_feed (drop l.b-index l.bytes) ≡ list_any is_line_feed l.bytes
