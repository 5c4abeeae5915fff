-- The text of an act is short, and is ASCII.
use Rattle.std.proofs.Common.{◌≡◌, ℕ, ◌*◌, ◌≤◌, true, List, [], ◌∷◌, ◌++◌, length, codes, decimal, flat_map, refl, arith, lit≤, length-append, ltb-true}
use Rattle.std.specs.List.{All}
use Rattle.std.specs.Str.{IsAscii}
use Rattle.std.proofs.lemmas.Bool.{and_parts}
use Rattle.std.proofs.lemmas.Fmt.{length-decimal-le, IsAscii-decimal}
use Rattle.std.proofs.lemmas.List.Elements.{All-head, All-tail}
use Rattle.std.proofs.lemmas.Str.{IsAscii-append}
use Rattle.std.proofs.lemmas.Str.Ascii.{IsAscii-nil, IsAscii-cons}
use Rattle.hex.specs.Hex.{encode_lower, lower_digits}
use Rattle.hex.proofs.HexLemmas.{length-encode_with, IsAscii-encode_with}
use Rattle.json.proofs.Printed.Utf8.{are_ascii}
use Rattle.act_words.specs.Acts.{Act, Go, Read, Write, Call, Return, Stop, IsAct, IsWord}
use Rattle.act_words.specs.Lines.{listed, act_text}

literal : (text : List ℕ) → are_ascii text ≡ true → IsAscii text
literal [] e = IsAscii-nil
literal (b ∷ text) e = let parts = and_parts _ _ e in IsAscii-cons b text (ltb-true b 128 parts.0) (literal text parts.1)

ascii_digits : (n : ℕ) → IsWord n → IsAscii (decimal n)
ascii_digits n h = IsAscii-decimal n (omega arith)

few_digits : (n : ℕ) → IsWord n → length (decimal n) ≤ 10
few_digits n h = length-decimal-le 10 n (omega arith) (omega arith) (omega arith)

-- ---- lists of numbers

abbrev behind_comma : ℕ → List ℕ
behind_comma m = codes "," ++ decimal m

ascii_later : (ns : List ℕ) → All IsWord ns → IsAscii (flat_map behind_comma ns)
ascii_later [] h = IsAscii-nil
ascii_later (n ∷ ns) h = IsAscii-append (behind_comma n) _ (IsAscii-append (codes ",") (decimal n) (literal (codes ",") refl) (ascii_digits n (All-head IsWord n ns h))) (ascii_later ns (All-tail IsWord n ns h))

ascii_list : (ns : List ℕ) → All IsWord ns → IsAscii (listed ns)
ascii_list [] h = IsAscii-nil
ascii_list (n ∷ ns) h = IsAscii-append (decimal n) _ (ascii_digits n (All-head IsWord n ns h)) (ascii_later ns (All-tail IsWord n ns h))

short_later : (ns : List ℕ) → All IsWord ns → length (flat_map behind_comma ns) ≤ 11 * length ns
short_later [] h = omega arith
short_later (n ∷ ns) h = simp length-append (omega (arith, few_digits n (All-head IsWord n ns h), short_later ns (All-tail IsWord n ns h)))

short_list : (ns : List ℕ) → All IsWord ns → length (listed ns) ≤ 11 * length ns
short_list [] h = omega arith
short_list (n ∷ ns) h = simp length-append (omega (arith, few_digits n (All-head IsWord n ns h), short_later ns (All-tail IsWord n ns h)))

-- ---- whole texts

-- texts between literals
one : (a x b : List ℕ) → are_ascii a ≡ true → are_ascii b ≡ true → IsAscii x → IsAscii (a ++ x ++ b)
one a x b la lb ax = IsAscii-append (a ++ x) b (IsAscii-append a x (literal a la) ax) (literal b lb)

two : (a x b y c : List ℕ) → are_ascii a ≡ true → are_ascii b ≡ true → are_ascii c ≡ true → IsAscii x → IsAscii y → IsAscii (a ++ x ++ b ++ y ++ c)
two a x b y c la lb lc ax ay = IsAscii-append (a ++ x ++ b ++ y) c (IsAscii-append (a ++ x ++ b) y (one a x b la lb ax) ay) (literal c lc)

pub ascii-act_text : (a : Act) → IsAct a → IsAscii (act_text a)
ascii-act_text Go h = literal (act_text Go) refl
ascii-act_text (Read at len) h = two (codes "{\"act\":\"read\",\"at\":") (decimal at) (codes ",\"len\":") (decimal len) (codes "}") refl refl refl (ascii_digits at h.0) (ascii_digits len (omega arith))
ascii-act_text (Write at bytes) h =
    two (codes "{\"act\":\"write\",\"at\":") (decimal at) (codes ",\"hex\":\"") (encode_lower bytes) (codes "\"}") refl refl refl (ascii_digits at h.0) (IsAscii-encode_with lower_digits bytes (literal lower_digits refl))
ascii-act_text (Call fun args) h = two (codes "{\"act\":\"call\",\"args\":[") (listed args) (codes "],\"fun\":") (decimal fun) (codes "}") refl refl refl (ascii_list args h.2) (ascii_digits fun h.0)
ascii-act_text (Return value) h = one (codes "{\"act\":\"return\",\"value\":") (decimal value) (codes "}") refl refl (ascii_digits value h)
ascii-act_text Stop h = literal (act_text Stop) refl

pub short-act_text : (a : Act) → IsAct a → length (act_text a) ≤ 4096
short-act_text Go h = lit≤ tt
short-act_text (Read at len) h = let small : IsWord len = omega arith in simp length-append (omega (arith, few_digits at h.0, few_digits len small))
short-act_text (Write at bytes) h = simp (length-append, length-encode_with) (omega (arith, few_digits at h.0))
short-act_text (Call fun args) h = simp length-append (omega (arith, few_digits fun h.0, short_list args h.2))
short-act_text (Return value) h = simp length-append (omega (arith, few_digits value h))
short-act_text Stop h = lit≤ tt
