-- Classes of bytes.
use Rattle.std.specs.Prelude.{ℕ, Bool, not, ◌||◌, ◌&&◌, ◌==◌, nat_le, nat_lt}
use Rattle.ckc_text.specs.Names.{is_digit}

-- space, tab, carriage return and line feed stand between tokens
abbrev pub is_blank : ℕ → Bool
is_blank b = b == 32 || (b == 9 || (b == 13 || b == 10))

abbrev pub is_hexadecimal_digit : ℕ → Bool
is_hexadecimal_digit b = is_digit b || ((nat_le 97 b && nat_le b 102) || (nat_le 65 b && nat_le b 70))

-- what ends a line
abbrev pub is_line_feed : ℕ → Bool
is_line_feed b = b == 10

abbrev pub is_in_line : ℕ → Bool
is_in_line b = not (is_line_feed b)

-- what may stand nowhere: 0x00 to 0x1F but for tab, carriage return and line feed, and 0x7F
abbrev pub is_control : ℕ → Bool
is_control b = (nat_lt b 32 && not (is_blank b)) || b == 127

-- what may stand in comments, strings and `#include` lines alone: also the bytes from 0x80 on may not stand elsewhere
abbrev pub is_forbidden : ℕ → Bool
is_forbidden b = is_control b || nat_le 128 b
