-- The text of an act is the compact text of its value, and is read back as this value.
use Rattle.std.proofs.Common.{◌≡◌, ℕ, zero, suc, ◌<◌, ◌≤◌, ◌/◌, ◌%◌, ◌^◌, ◌&&◌, List, [], ◌∷◌, ◌++◌, Bool, true, codes, decimal, flat_map, slice_index, Option, Some, option_and_then, lit≤, false, inl, inr, refl, sym, ap, ◌∙◌, arith, append_assoc, append-nil}
use Rattle.std.specs.List.{All}
use Rattle.std.specs.Str.{bytes_eq}
use Rattle.std.proofs.lemmas.Bool.{and_parts, cases_eq}
use Rattle.std.proofs.lemmas.List.Elements.{All-head, All-tail}
use Rattle.std.proofs.lemmas.Slice.Eq.{bytes_eq-Decides}
use Rattle.hex.specs.Hex.{encode_with, encode_lower, lower_digits}
use Rattle.json.specs.Json as json
use Rattle.json.specs.Token.{Token}
use Rattle.json.specs.Lex.{tokens}
use Rattle.json.specs.Print.{escape_byte, escape}
use Rattle.json.specs.Tree.{json_tokens, HasNumbers, ItemsHaveNumbers}
use Rattle.json.specs.Tree as tree
use Rattle.json.proofs.OnLiterals.{json_on_literals}
use Rattle.json.proofs.Printed.Decimals.{IsNumber-decimal}
use Rattle.json.proofs.Printed.Tokens.{tokens-print}
use Rattle.json.proofs.Printed.Trees.{value-json_tokens, ArePrintable-json_tokens}
use Rattle.serde_json.specs.Data.{Data}
use Rattle.serde_json.specs.Read.{of_json, of_items, read, max_depth}
use Rattle.serde_json.specs.Written.{compact_text, items_text, outline, items_outline}
use Rattle.serde_json.proofs.Numbers.{number_of-decimal}
use Rattle.serde_json.proofs.Texts.{print-outline}
use Rattle.act_words.specs.Acts.{Act, Go, Read, Write, Call, Return, Stop, IsAct, IsWord}
use Rattle.act_words.specs.Lines.{listed, act_text}
use Rattle.act_words.specs.Values.{words, act_value}

-- ---- what holds of each number below n

abbrev below : (ℕ → Bool) → ℕ → Bool
below p zero = true
below p (suc n) = p n && below p n

below-at : (p : ℕ → Bool) (n d : ℕ) → below p n ≡ true → d < n → p d ≡ true
below-at p zero d h lt = absurd (omega arith)
below-at p (suc n) d h lt =
    let parts = and_parts (p n) (below p n) h in
    elim (cases_eq d n) [
      | inl same ↦ ap p same ∙ parts.0
      | inr other ↦ below-at p n d parts.1 (omega (arith, other))
    ]

-- ---- hexadecimal needs no escape

stays : ℕ → Bool
stays d = bytes_eq (escape_byte (slice_index lower_digits d)) (slice_index lower_digits d ∷ [])

all_stay : below stays 16 ≡ true
unfolding stays escape_byte
all_stay = refl

digit_stays : (d : ℕ) → d < 16 → escape_byte (slice_index lower_digits d) ≡ slice_index lower_digits d ∷ []
unfolding stays
digit_stays d h = (bytes_eq-Decides _ _).0 (below-at stays 16 d all_stay h)

pub escape-encode_lower : (bytes : List ℕ) → All (λ b. b < 256) bytes → escape (encode_lower bytes) ≡ encode_lower bytes
unfolding encode_with
escape-encode_lower [] small = refl
escape-encode_lower (b ∷ bytes) small =
    let fits : b < 256 = All-head (λ x. x < 256) b bytes small in
    let high = digit_stays (b / 16) (omega arith) in
    let low = digit_stays (b % 16) (omega arith) in
    rw (high, low) (ap (λ rest. slice_index lower_digits (b / 16) ∷ slice_index lower_digits (b % 16) ∷ rest) (escape-encode_lower bytes (All-tail (λ x. x < 256) b bytes small)))

-- ---- the text

more_words : (ns : List ℕ) → items_text true (words ns) ≡ flat_map (λ m. codes "," ++ decimal m) ns ++ 93 ∷ []
more_words [] = refl
more_words (n ∷ ns) = ap (λ rest. 44 ∷ (decimal n ++ rest)) (more_words ns) ∙ ap (λ rest. 44 ∷ rest) (sym (append_assoc (decimal n) _ (93 ∷ [])))

all_words : (ns : List ℕ) → items_text false (words ns) ≡ listed ns ++ 93 ∷ []
all_words [] = refl
all_words (n ∷ ns) = ap (λ rest. decimal n ++ rest) (more_words ns) ∙ sym (append_assoc (decimal n) _ (93 ∷ []))

pub act_text-compact_text : (a : Act) → IsAct a → act_text a ≡ compact_text (act_value a)
unfolding json_on_literals
act_text-compact_text Go h = refl
act_text-compact_text (Read at len) h = simp append_assoc
act_text-compact_text (Write at bytes) h =
    rw (escape-encode_lower bytes h.3) (simp append_assoc (ap (λ rest. codes "{\"act\":\"write\",\"at\":" ++ (decimal at ++ (codes ",\"hex\":\"" ++ rest))) (sym (append_assoc (encode_lower bytes) (34 ∷ []) (125 ∷ [])))))
act_text-compact_text (Call fun args) h = rw (all_words args) (simp append_assoc)
act_text-compact_text (Return value) h = simp append_assoc
act_text-compact_text Stop h = refl

-- ---- the value

wide : (n : ℕ) → IsWord n → n < 2 ^ 64
wide n h = omega arith

numbers_written : (ns : List ℕ) → All IsWord ns → ItemsHaveNumbers (items_outline (words ns))
numbers_written [] h = tt
numbers_written (n ∷ ns) h = (IsNumber-decimal n (wide n (All-head IsWord n ns h)), numbers_written ns (All-tail IsWord n ns h))

written : (a : Act) → IsAct a → HasNumbers (outline (act_value a))
written Go h = (tt, tt)
written (Read at len) h = (tt, (IsNumber-decimal at (wide at h.0), (IsNumber-decimal len (omega arith), tt)))
written (Write at bytes) h = (tt, (IsNumber-decimal at (wide at h.0), (tt, tt)))
written (Call fun args) h = (tt, (numbers_written args h.2, (IsNumber-decimal fun (wide fun h.0), tt)))
written (Return value) h = (tt, (IsNumber-decimal value (wide value h), tt))
written Stop h = (tt, tt)

flat : (ns : List ℕ) → tree.items_depth (items_outline (words ns)) ≡ 0
flat [] = refl
flat (n ∷ ns) = rw (flat ns)

shallow : (a : Act) → tree.depth (outline (act_value a)) ≤ max_depth
shallow Go = lit≤ tt
shallow (Read at len) = lit≤ tt
shallow (Write at bytes) = lit≤ tt
shallow (Call fun args) = rw (flat args) (lit≤ tt)
shallow (Return value) = lit≤ tt
shallow Stop = lit≤ tt

words_back : (ns : List ℕ) → All IsWord ns → of_items (items_outline (words ns)) ≡ Some (words ns)
words_back [] h = refl
words_back (n ∷ ns) h = rw (number_of-decimal n (wide n (All-head IsWord n ns h)), words_back ns (All-tail IsWord n ns h))

value_back : (a : Act) → IsAct a → of_json (outline (act_value a)) ≡ Some (act_value a)
value_back Go h = refl
value_back (Read at len) h = let small : len < 2 ^ 64 = omega arith in rw (number_of-decimal at (wide at h.0), number_of-decimal len small)
value_back (Write at bytes) h = rw (number_of-decimal at (wide at h.0))
value_back (Call fun args) h = rw (words_back args h.2, number_of-decimal fun (wide fun h.0))
value_back (Return value) h = rw (number_of-decimal value (wide value h))
value_back Stop h = refl

abbrev whole : Option (json.Json × List Token) → Option Data
whole o = option_and_then of_json (option_and_then (λ p. json.if_last p.0 p.1) o)

tokens_back : (d : Data) → HasNumbers (outline d) → tokens (compact_text d) ≡ json_tokens (outline d) ++ []
tokens_back d h = ap tokens (sym (print-outline d)) ∙ tokens-print (json_tokens (outline d)) (ArePrintable-json_tokens (outline d) h) ∙ sym (append-nil _)

pub read-act_text : (a : Act) → IsAct a → read (act_text a) ≡ Some (act_value a)
read-act_text a h =
    ap read (act_text-compact_text a h)
    ∙ ap (λ ts. whole (json.value max_depth ts)) (tokens_back (act_value a) (written a h))
    ∙ ap whole (value-json_tokens (outline (act_value a)) max_depth [] (shallow a))
    ∙ value_back a h
