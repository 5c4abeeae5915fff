-- The last blocks, and their bytes one by one.
use Rattle.std.proofs.Common.{◌≡◌, ℕ, zero, suc, ◌+◌, ◌-◌, ◌<◌, ◌≤◌, Bool, true, false, Option, Some, None, List, [], ◌∷◌, ◌++◌, length, take, drop, refl, sym, ap, ◌∙◌, append-nil, arith}
use Rattle.std.specs.Prelude.{slice_get, nat_le, flat_map}
use Rattle.std.proofs.lemmas.Bool.Decides.{nat_tests}
use Rattle.std.proofs.lemmas.List.{take_more, take_all, get_or-drop, length-drop}
use Rattle.std.proofs.lemmas.List.Concat.{flat_map-append}
use Rattle.std.proofs.lemmas.Option.{slice_get_within, get_or_from_slice_get, slice_get-map}
use Rattle.flat_bytes.specs.Blocks.{Block}
use Rattle.trusted_memory.specs.Memories.{Memory, byte_of}
use Rattle.act_words.specs.Shown.{Shown}
use Rattle.two_memory_machine.specs.Machines.{Machine, block_of}
use Rattle.act_recorder.specs.Lines.{block_text}
use Rattle.run_core.specs.Progress.{blocks_of}

-- ---- lists

none_past : {X : Type 0} (xs : List X) (k : ℕ) → None ≡ slice_get xs k → length xs ≤ k
none_past [] k none = omega arith
none_past (x ∷ xs) zero none = absurd (cc)
none_past (x ∷ xs) (suc k) none = omega (arith, none_past xs k none)

one_more : {X : Type 0} (xs : List X) (k : ℕ) (x : X) → slice_get xs k ≡ Some x → take (k + 1) xs ≡ take k xs ++ x ∷ []
one_more xs k x there =
    take_more xs k x (slice_get_within xs k x there) ∙ ap (λ y. take k xs ++ y ∷ []) (get_or_from_slice_get xs k x x there)

flat_more : {X : Type 0} (f : X → List ℕ) (xs : List X) (k : ℕ) (x : X) → slice_get xs k ≡ Some x → flat_map f (take (k + 1) xs) ≡ flat_map f (take k xs) ++ f x
flat_more f xs k x there =
    ap (flat_map f) (one_more xs k x there) ∙ flat_map-append f (take k xs) (x ∷ []) ∙ ap (λ t. flat_map f (take k xs) ++ t) (append-nil (f x))

-- ---- blocks

-- a block of a machine
record IsBlock (m : Machine) (k address len : ℕ) : Type 0 where
  b : Block
  there : slice_get m.blocks k ≡ Some b
  address_is : address ≡ m.memory.base + b.offset
  len_is : len ≡ b.bytes

is_block : (m : Machine) (k address len : ℕ) → Some (address, len) ≡ block_of m k → IsBlock m k address len
is_block m k address len found = by (slice_get m.blocks k) refl
  where
    by : (o : Option Block) → slice_get m.blocks k ≡ o → IsBlock m k address len
    by None e = absurd (let no : Some (address, len) ≡ None = rw e at found in cc)
    by (Some b) e =
        let both : Some (address, len) ≡ Some (m.memory.base + b.offset, b.bytes) = rw e at found in
        let same : (address, len) ≡ (m.memory.base + b.offset, b.bytes) = cc in
        record { b = b; there = e; address_is = ap (λ (p : ℕ × ℕ). p.0) same; len_is = ap (λ (p : ℕ × ℕ). p.1) same }

pub above_base : (m : Machine) (k address len : ℕ) → Some (address, len) ≡ block_of m k → m.memory.base ≤ address
above_base m k address len found = omega (arith, (is_block m k address len found).address_is)

pub block_within : (m : Machine) (k address len : ℕ) → Some (address, len) ≡ block_of m k → k < length m.blocks
block_within m k address len found = let i = is_block m k address len found in slice_get_within m.blocks k i.b i.there

pub text_more : (m : Machine) (k address len : ℕ) → Some (address, len) ≡ block_of m k →
    flat_map block_text (take (k + 1) (blocks_of m)) ≡ flat_map block_text (take k (blocks_of m)) ++ block_text (record { address = address; bytes = take len (drop (address - m.memory.base) m.memory.bytes) })
text_more m k address len found =
    let i = is_block m k address len found in
    let shown : Block → Shown = λ b. record { address = m.memory.base + b.offset; bytes = take b.bytes (drop b.offset m.memory.bytes) } in
    let shown_at : ℕ → ℕ → ℕ → Shown = λ a n o. record { address = a; bytes = take n (drop o m.memory.bytes) } in
    let offset : i.b.offset ≡ address - m.memory.base = omega (arith, i.address_is) in
    let there : slice_get (blocks_of m) k ≡ Some (shown i.b) = slice_get-map shown m.blocks k ∙ rw i.there refl in
    let same : shown i.b ≡ shown_at address len (address - m.memory.base) =
    ap (λ a. shown_at a i.b.bytes i.b.offset) (sym i.address_is) ∙ ap (λ n. shown_at address n i.b.offset) (sym i.len_is) ∙ ap (λ o. shown_at address len o) offset in
    flat_more block_text (blocks_of m) k (shown i.b) there ∙ ap (λ (s : Shown). flat_map block_text (take k (blocks_of m)) ++ block_text s) same

pub text_whole : (m : Machine) (k : ℕ) → None ≡ block_of m k → flat_map block_text (take k (blocks_of m)) ≡ flat_map block_text (blocks_of m)
text_whole m k none = by (slice_get m.blocks k) refl
  where
    shown : Block → Shown
    shown b = record { address = m.memory.base + b.offset; bytes = take b.bytes (drop b.offset m.memory.bytes) }

    by : (o : Option Block) → slice_get m.blocks k ≡ o → flat_map block_text (take k (blocks_of m)) ≡ flat_map block_text (blocks_of m)
    by None e =
        let past : None ≡ slice_get (blocks_of m) k = sym (slice_get-map shown m.blocks k ∙ rw e refl) in
        ap (flat_map block_text) (take_all k (blocks_of m) (none_past (blocks_of m) k past))
    by (Some b) e = absurd (let no : None ≡ Some (m.memory.base + b.offset, b.bytes) = rw e at none in cc)

-- ---- bytes

-- what a memory has at an address that isn't below its base
at_base : (m : Memory) (at : ℕ) → m.base ≤ at → byte_of m at ≡ slice_get m.bytes (at - m.base)
at_base m at low = by (nat_le m.base at) refl
  where
    by : (b : Bool) → nat_le m.base at ≡ b → byte_of m at ≡ slice_get m.bytes (at - m.base)
    by true e = rw e refl
    by false e = absurd (let high : at < m.base = grind (arith, nat_tests) in omega arith)

pub bytes_more : (m : Memory) (address at n byte : ℕ) → m.base ≤ address → at ≡ address + n → Some byte ≡ byte_of m at →
    take (n + 1) (drop (address - m.base) m.bytes) ≡ take n (drop (address - m.base) m.bytes) ++ byte ∷ []
bytes_more m address at n byte low is found =
    let o = address - m.base in
    let same : at - m.base ≡ o + n = omega (arith, is) in
    let there : slice_get m.bytes (o + n) ≡ Some byte = rw same at (sym (found ∙ at_base m at (omega (arith, is)))) in
    let within : n < length (drop o m.bytes) = omega (arith, slice_get_within m.bytes (o + n) byte there, length-drop o m.bytes) in
    take_more (drop o m.bytes) n byte within ∙ ap (λ b. take n (drop o m.bytes) ++ b ∷ []) (get_or-drop o m.bytes n byte ∙ get_or_from_slice_get m.bytes (o + n) byte byte there)

pub bytes_end : (m : Memory) (address at n len : ℕ) → m.base ≤ address → at ≡ address + n → n ≤ len → None ≡ byte_of m at →
    take n (drop (address - m.base) m.bytes) ≡ take len (drop (address - m.base) m.bytes)
bytes_end m address at n len low is less none =
    let o = address - m.base in
    let same : at - m.base ≡ o + n = omega (arith, is) in
    let past : length m.bytes ≤ o + n = none_past m.bytes (o + n) (rw same at (none ∙ at_base m at (omega (arith, is)))) in
    let short : length (drop o m.bytes) ≤ n = omega (arith, length-drop o m.bytes) in
    take_all n (drop o m.bytes) short ∙ sym (take_all len (drop o m.bytes) (omega arith))
