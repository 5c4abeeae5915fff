-- Names: a letter or `_`, and letters, `_` and digits behind it.
use Rattle.std.specs.Prelude.{◌≡◌, ℕ, Bool, true, false, ◌||◌, ◌&&◌, List, [], ◌∷◌, length, ◌==◌, nat_le}
use Rattle.std.specs.List.{prefix_len}

abbrev pub is_digit : ℕ → Bool
is_digit b = nat_le 48 b && nat_le b 57

-- a letter or `_`
abbrev pub is_letter : ℕ → Bool
is_letter b = (nat_le 97 b && nat_le b 122) || ((nat_le 65 b && nat_le b 90) || b == 95)

-- what goes on with a word
abbrev pub is_word_byte : ℕ → Bool
is_word_byte b = is_letter b || is_digit b

-- the text has a first byte, and that is such a byte
abbrev pub begins_with : (ℕ → Bool) → List ℕ → Bool
begins_with p [] = false
begins_with p (b ∷ bs) = p b

-- letters and digits, of which the first is no digit
pub record IsName (text : List ℕ) : Type 0 where
  pub starts : begins_with is_letter text ≡ true
  pub whole : prefix_len is_word_byte text ≡ length text
