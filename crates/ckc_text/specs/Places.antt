-- Lines and columns, as an editor counts them: lines end at line feeds, and a column counts bytes.
use Rattle.std.specs.Prelude.{ℕ, ◌+◌, Bool, not, List, take, map, filter, count_by, ◌==◌}
use Rattle.std.specs.List.{suffix_len, enumerate_from}
use Rattle.ckc_text.specs.declared.place.Place.{Place}

-- the byte ends a line
abbrev pub is_line_feed : ℕ → Bool
is_line_feed b = b == 10

-- the line just behind these bytes: one more than the lines that have ended
abbrev pub line_behind : List ℕ → ℕ
line_behind front = 1 + count_by is_line_feed front

-- the column just behind these bytes: one more than the bytes since the last line feed
abbrev pub column_behind : List ℕ → ℕ
column_behind front = 1 + suffix_len (λ b. not (is_line_feed b)) front

-- the place of the byte at a distance from the start
abbrev pub place_at : List ℕ → ℕ → Place
place_at src at = record { line = line_behind (take at src); col = column_behind (take at src) }

-- the offsets of the bytes that are line feeds, in order
abbrev pub line_feeds_of : List ℕ → List ℕ
line_feeds_of src = map (λ p. p.0) (filter (λ p. is_line_feed p.1) (enumerate_from 0 src))
