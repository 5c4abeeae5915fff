use Rattle.std.proofs.Common.{◌≡◌, ◌≤◌, ◌+◌, take}
use Rattle.ckc_text.specs.Places.{line_behind, column_behind}
use Rattle.ckc_text.proofs.place.place_of.Given as goal

-- the line and the column so far
abbrev pub invariant-loop-b : goal.invariant-loop-b
invariant-loop-b l = record {
  line : l.line ≡ line_behind (take l.b-index l.b-items);
  col : l.col ≡ column_behind (take l.b-index l.b-items);
  line_fits : l.line ≤ l.b-index + 1;
  col_fits : l.col ≤ l.b-index + 1;
}
