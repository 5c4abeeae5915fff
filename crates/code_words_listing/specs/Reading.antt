-- For laws and private clauses: the values that words spell, if they spell some.
use Rattle.std.specs.Prelude.{ℕ, ◌+◌, ◌^◌, Bool, true, false, cond, ◌&&◌, ◌==◌, nat_lt, nat_le, List, [], ◌∷◌, length, take, drop, position, codes, decimal}
use Rattle.std.specs.Prelude.{Option, Some, None, option_map, option_and_then, pos, neg_ℤ}
use Rattle.std.proofs.Common.{ℤ}
use Rattle.std.specs.Int.{Width, int_wrap}
use Rattle.std.specs.Ordering.{int_eq}
use Rattle.std.specs.List.{prefix_len}
use Rattle.std.specs.Fmt.{signed_decimal}
use Rattle.std.specs.Str.{bytes_eq}
use Rattle.std.specs.Str.Parse.{digits_value}
use Rattle.std.specs.Result.{result_ok}
use Rattle.hex.specs.Hex.{encode_lower, decode_of}
use Rattle.ckc_text.specs.declared.place.Place.{Place}
use Rattle.ckc_text.specs.Names.{is_letter, is_word_byte, begins_with}

-- a value, where a test holds
abbrev pub when : {A : Type 0} → Bool → A → Option A
when true value = Some value
when false value = None

-- ---- single words

-- a number of 32 bits, as it is written
abbrev pub number_in : List ℕ → Option ℕ
number_in word = when (bytes_eq word (decimal (digits_value 10 word)) && nat_lt (digits_value 10 word) (2 ^ 32)) (digits_value 10 word)

abbrev pub size_in : List ℕ → Option ℕ
size_in word = option_and_then (λ n. when (nat_le 1 n) n) (number_in word)

-- the number of digits, which may stand behind a minus
abbrev pub signed_value : List ℕ → ℤ
signed_value word = cond (begins_with (λ b. b == 45) word) (neg_ℤ (pos (digits_value 10 (drop 1 word)))) (pos (digits_value 10 word))

-- a number with a sign, as it is written, that a width has room for
abbrev pub signed_in : Width → List ℕ → Option ℤ
signed_in w word = when (bytes_eq word (signed_decimal (signed_value word)) && int_eq (int_wrap w (signed_value word)) (signed_value word)) (signed_value word)

abbrev pub number_or_none_in : List ℕ → Option (Option ℕ)
number_or_none_in word = cond (bytes_eq word (codes "-")) (Some None) (option_map Some (number_in word))

abbrev pub name_in : List ℕ → Option (List ℕ)
name_in word = when (begins_with is_letter word && prefix_len is_word_byte word == length word) word

abbrev pub bytes_in : List ℕ → Option (List ℕ)
bytes_in word = option_and_then (λ bytes. when (bytes_eq word (encode_lower bytes)) bytes) (result_ok (decode_of word))

-- a place, as `@line:col`
abbrev pub place_in : List ℕ → Option Place
place_in [] = None
place_in (first ∷ rest) =
    option_and_then (λ colon. option_and_then (λ line. option_and_then (λ col. when (first == 64) (record {
      line = line;
      col = col;
    })) (number_in (drop (colon + 1) rest)))
    (number_in (take colon rest))) (position (λ b. b == 58) rest)

-- ---- words one behind the other

-- a value of the first word, and what the others spell
abbrev pub one : {A R : Type 0} → (List ℕ → Option A) → (A → List (List ℕ) → Option R) → List (List ℕ) → Option R
one value next [] = None
one value next (word ∷ words) = option_and_then (λ a. next a words) (value word)

-- a word that always stands there
abbrev pub fixed : {R : Type 0} → List ℕ → (List (List ℕ) → Option R) → List (List ℕ) → Option R
fixed text next [] = None
fixed text next (word ∷ words) = cond (bytes_eq word text) (next words) None

-- no more words
abbrev pub done : {R : Type 0} → R → List (List ℕ) → Option R
done result [] = Some result
done result (word ∷ words) = None
