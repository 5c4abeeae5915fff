-- Where a cursor comes that moves from place to place.
use Rattle.std.specs.Prelude.{ℕ, true, nat_le, ◌&&◌}
use Rattle.ckc_text.specs.declared.place.Span.{Span}
use Rattle.ckc_tree.specs.declared.cursor.Cursor.{Cursor}

abbrev pub begun : Cursor
begun = record { at = 0; in_order = true }

-- the cursor moves to a byte, which is in order unless it moves back
abbrev pub reached : Cursor → ℕ → Cursor
reached cursor byte = record { at = byte; in_order = cursor.in_order && nat_le cursor.at byte }

-- to where a span begins, and to where it ends
abbrev pub passed : Cursor → Span → Cursor
passed cursor span = reached (reached cursor span.from) span.to
