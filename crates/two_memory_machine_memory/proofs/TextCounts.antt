-- What the table's count over a text comes to, tick by tick.
use Rattle.std.proofs.Common.{◌≡◌, ℕ, zero, suc, ◌+◌, ◌-◌, ◌<◌, ◌≤◌, Bool, true, false, nat_lt, nat_le, List, Option, Some, None, length, refl, sym, ◌∙◌, arith}
use Rattle.std.specs.Prelude.{slice_get}
use Rattle.std.proofs.lemmas.Bool.Decides.{nat_tests}
use Rattle.std.proofs.lemmas.Option.{slice_get_past, slice_get_within, slice_get-get_or}
use Rattle.ckc_text.specs.declared.code.Code.TheVariants.{S1}
use Rattle.act_words.specs.declared.ending.Ending.TheVariants.{Stop}
use Rattle.trusted_memory.specs.Memories.{Memory, byte_of}
use Rattle.code_words.specs.Functions.{Func}
use Rattle.code_words.specs.Table.{Frame, State, Over, wild, push, byte_at, count_from}
use Rattle.two_memory_machine_memory.specs.Texts.{with_ticks}

-- the table reads the byte that the memory has there
byte_same : (s : State) (at : ℕ) → byte_at s at ≡ byte_of s.memory at
byte_same s at = by (nat_le s.memory.base at) refl (nat_le (at + 1) (s.memory.base + length s.memory.bytes)) refl
  where
    by : (low : Bool) → nat_le s.memory.base at ≡ low → (high : Bool) → nat_le (at + 1) (s.memory.base + length s.memory.bytes) ≡ high → byte_at s at ≡ byte_of s.memory at
    by false e high h = rw e refl
    by true e true h =
        let base : s.memory.base ≤ at = grind (arith, nat_tests) in
        let end : at + 1 ≤ s.memory.base + length s.memory.bytes = grind (arith, nat_tests) in
        rw (e, h) (sym (slice_get-get_or s.memory.bytes (at - s.memory.base) 0 (omega arith)))
    by true e false h =
        let base : s.memory.base ≤ at = grind (arith, nat_tests) in
        let end : s.memory.base + length s.memory.bytes < at + 1 = grind (arith, nat_tests) in
        rw (e, h) (sym (slice_get_past s.memory.bytes (at - s.memory.base) (omega arith)))

-- no tick is left
pub no_tick : (left : ℕ) (fun : Func) (budget at count : ℕ) (stack : List ℕ) (f : Frame) (s : State) → budget ≤ s.world.ticks → count_from left fun budget at count stack f s ≡ Over (Stop S1 None) s
no_tick zero fun budget at count stack f s h = let late : nat_lt s.world.ticks budget ≡ false = grind (arith, nat_tests) in rw late refl
no_tick (suc left) fun budget at count stack f s h = let late : nat_lt s.world.ticks budget ≡ false = grind (arith, nat_tests) in rw late refl

-- no byte is there
pub outside : (left : ℕ) (fun : Func) (budget at count : ℕ) (stack : List ℕ) (f : Frame) (s : State) → s.world.ticks < budget → byte_of s.memory at ≡ None → count_from left fun budget at count stack f s ≡ wild (with_ticks (s.world.ticks + 1) s)
outside zero fun budget at count stack f s h none = let early : nat_lt s.world.ticks budget ≡ true = grind (arith, nat_tests) in rw early refl
outside (suc left) fun budget at count stack f s h none =
    let early : nat_lt s.world.ticks budget ≡ true = grind (arith, nat_tests) in
    let byte : byte_at (with_ticks (s.world.ticks + 1) s) at ≡ None = byte_same (with_ticks (s.world.ticks + 1) s) at ∙ none in
    rw (early, byte) refl

-- the byte is the last one, or there are more
pub at_zero : (left : ℕ) (fun : Func) (budget at count : ℕ) (stack : List ℕ) (f : Frame) (s : State) → s.world.ticks < budget → byte_of s.memory at ≡ Some 0 → count_from (suc left) fun budget at count stack f s ≡ push fun count stack f (with_ticks (s.world.ticks + 1) s)
at_zero left fun budget at count stack f s h zero_there =
    let early : nat_lt s.world.ticks budget ≡ true = grind (arith, nat_tests) in
    let byte : byte_at (with_ticks (s.world.ticks + 1) s) at ≡ Some 0 = byte_same (with_ticks (s.world.ticks + 1) s) at ∙ zero_there in
    rw (early, byte) refl

pub one_more : (left : ℕ) (fun : Func) (budget at count byte : ℕ) (stack : List ℕ) (f : Frame) (s : State) → s.world.ticks < budget → byte_of s.memory at ≡ Some (suc byte) → count_from (suc left) fun budget at count stack f s ≡ count_from left fun budget (at + 1) (count + 1) stack f (with_ticks (s.world.ticks + 1) s)
one_more left fun budget at count byte stack f s h there =
    let early : nat_lt s.world.ticks budget ≡ true = grind (arith, nat_tests) in
    let is : byte_at (with_ticks (s.world.ticks + 1) s) at ≡ Some (suc byte) = byte_same (with_ticks (s.world.ticks + 1) s) at ∙ there in
    rw (early, is) refl

-- where a byte is, an address of the memory is
pub record IsInside (m : Memory) (at : ℕ) : Type 0 where
  pub base : m.base ≤ at
  pub within : at < m.base + length m.bytes

pub inside : (m : Memory) (at byte : ℕ) → byte_of m at ≡ Some byte → IsInside m at
inside m at byte e = by (nat_le m.base at) refl
  where
    by : (low : Bool) → nat_le m.base at ≡ low → IsInside m at
    by false h = let nothing : ◌≡◌ {A = Option ℕ} None (Some byte) = rw h at e in absurd (cc)
    by true h =
        let base : m.base ≤ at = grind (arith, nat_tests) in
        let there : slice_get m.bytes (at - m.base) ≡ Some byte = rw h at e in
        record { base = base; within = omega (arith, slice_get_within m.bytes (at - m.base) byte there) }

pub one_left : (len count : ℕ) → count < len → len - count ≡ suc (len - (count + 1))
one_left len count h = omega arith

pub not_zero : (n : ℕ) → (n ≡ 0 → ⊥) → n ≡ suc (n - 1)
not_zero zero h = absurd (h refl)
not_zero (suc n) h = omega arith
