-- The value of an act says the act.
use Rattle.std.proofs.Common.{◌≡◌, ℕ, ◌<◌, ◌^◌, lit<, List, [], ◌∷◌, length, map, Some, inl, inr, refl, arith, lt-ltb, le-leb}
use Rattle.std.specs.List.{All}
use Rattle.std.proofs.lemmas.List.Elements.{All-head, All-tail}
use Rattle.std.proofs.lemmas.Bool.{cases_lt}
use Rattle.std.proofs.lemmas.List.{get_or_past}
use Rattle.hex.specs.Hex.{IsBytes}
use Rattle.hex.proofs.HexLemmas.{decode_of-encode_lower}
use Rattle.serde_json.specs.Data.{unsigned}
use Rattle.act_words.specs.Acts.{Act, Go, Read, Write, Call, Return, Stop, IsAct, IsWord}
use Rattle.act_words.specs.Readings.{Says, numbers_of, words_of, word_of, value_reading}
use Rattle.act_words.specs.Values.{words, act_value}

word_back : (n : ℕ) → IsWord n → word_of (unsigned n) ≡ Some n
word_back n h = rw (lt-ltb n (2 ^ 32) h)

numbers_back : (ns : List ℕ) → numbers_of (words ns) ≡ Some (map unsigned ns)
numbers_back [] = refl
numbers_back (n ∷ ns) = rw (numbers_back ns)

words_back : (ns : List ℕ) → All IsWord ns → words_of (map unsigned ns) ≡ Some ns
words_back [] h = refl
words_back (n ∷ ns) h = rw (word_back n (All-head IsWord n ns h), words_back ns (All-tail IsWord n ns h))

are_bytes : (bytes : List ℕ) → All (λ b. b < 256) bytes → IsBytes bytes
are_bytes bytes small i = elim (cases_lt i (length bytes)) [
  | inl within ↦ small i 0 within
  | inr past ↦ rw (get_or_past bytes i 0 past) (lit< tt)
]

pub saying : (a : Act) → IsAct a → value_reading (act_value a) ≡ Says a
saying Go h = refl
saying (Read at len) h = let small : IsWord len = omega arith in rw (word_back at h.0, word_back len small, le-leb 1 len h.1, le-leb len 64 h.2)
saying (Write at bytes) h = rw (decode_of-encode_lower bytes (are_bytes bytes h.3), word_back at h.0, le-leb 1 (length bytes) h.1, le-leb (length bytes) 64 h.2)
saying (Call fun args) h = rw (numbers_back args, word_back fun h.0, words_back args h.2, le-leb (length args) 16 h.1)
saying (Return value) h = rw (word_back value h)
saying Stop h = refl
