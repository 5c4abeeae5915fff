-- Where blocks stand.
use Rattle.std.proofs.Common.{◌≡◌, ℕ, ◌+◌, ◌%◌, ◌<◌, ◌≤◌, ◌⊎◌, inl, inr, Bool, true, false, ◌||◌, nat_eq, nat_lt, List, [], ◌∷◌, length, map, filter, All, AllPairs, refl, ap, arith}
use Rattle.std.proofs.lemmas.Bool.Decides.{nat_tests}
use Rattle.std.proofs.lemmas.List.Elements.{All-nil, All-cons}
use Rattle.std.proofs.lemmas.List.Kept.{AllPairs-cons}
use Rattle.flat_bytes.specs.Blocks.{Block, grown, is_refused, blocks_from}
use Rattle.trusted_memory.specs.Memories.{Memory, addresses_made}

-- a block stands at a counter or behind it, in its place in the memory
pub record Stands (size counter : ℕ) (b : Block) : Type 0 where
  pub from : counter ≤ b.offset
  pub aligned : b.offset % 16 ≡ 0
  pub behind : b.offset + b.bytes + 16 ≤ size
  pub some : 0 < b.bytes

-- what isn't refused has a byte, and the memory has room for it
accepted : (bytes size end : ℕ) → (nat_eq bytes 0 || nat_lt size end) ≡ false → (0 < bytes) × (end ≤ size)
accepted bytes size end e = grind (arith, nat_tests)

refused_or_not : (r : Bool) → (r ≡ true) ⊎ (r ≡ false)
refused_or_not true = inl refl
refused_or_not false = inr refl

pub stand : (size counter : ℕ) (asked : List ℕ) → counter % 16 ≡ 0 → All (Stands size counter) (blocks_from size counter asked)
stand size counter [] aligned = All-nil (Stands size counter)
stand size counter (bytes ∷ rest) aligned =
    elim (refused_or_not (is_refused size counter bytes)) [
      | inl is ↦ rw is (stand size counter rest aligned)
      | inr isnt ↦
          let room = accepted bytes size (grown counter bytes) isnt in
          let next : grown counter bytes % 16 ≡ 0 = omega arith in
          let first : Stands size counter (record { offset = counter; bytes = bytes }) = record { from = omega arith; aligned = aligned; behind = omega arith; some = room.0 } in
          let later = stand size (grown counter bytes) rest next in
          rw isnt (All-cons (Stands size counter) _ (blocks_from size (grown counter bytes) rest) first (λ k d h. record { from = omega (arith, (later k d h).from); aligned = (later k d h).aligned; behind = (later k d h).behind; some = (later k d h).some }))
    ]

-- a block and its gap stand before another block
abbrev Before : Block → Block → Type 0
Before a b = a.offset + a.bytes + 16 ≤ b.offset

pub apart : (size counter : ℕ) (asked : List ℕ) → counter % 16 ≡ 0 → AllPairs Before (blocks_from size counter asked)
apart size counter [] aligned = λ i j d lt h. absurd (omega arith)
apart size counter (bytes ∷ rest) aligned =
    elim (refused_or_not (is_refused size counter bytes)) [
      | inl is ↦ rw is (apart size counter rest aligned)
      | inr isnt ↦
          let next : grown counter bytes % 16 ≡ 0 = omega arith in
          let later = stand size (grown counter bytes) rest next in
          rw isnt (AllPairs-cons Before _ (blocks_from size (grown counter bytes) rest) (λ k d h. omega (arith, (later k d h).from)) (apart size (grown counter bytes) rest next))
    ]

-- the addresses that are answered, but for the zeros of refusals, are those of the blocks
pub answered : (m : Memory) (asked : List ℕ) → 0 < m.base → filter (λ a. nat_lt 0 a) (addresses_made m asked) ≡ map (λ b. m.base + b.offset) (blocks_from (length m.bytes) m.counter asked)
answered m [] h = refl
answered m (bytes ∷ rest) h =
    elim (refused_or_not (is_refused (length m.bytes) m.counter bytes)) [
      | inl is ↦ rw is (answered m rest h)
      | inr isnt ↦
          let positive : nat_lt 0 (m.base + m.counter) ≡ true = grind (arith, nat_tests) in
          rw (isnt, positive) (ap (λ xs. (m.base + m.counter) ∷ xs) (answered (record m { counter = grown m.counter bytes }) rest h))
    ]
