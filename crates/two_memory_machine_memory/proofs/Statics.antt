-- Static blocks, one after another.
use Rattle.std.proofs.Common.{◌≡◌, ℕ, zero, suc, ◌+◌, ◌*◌, ◌<◌, ◌≤◌, false, List, [], ◌∷◌, Some, length, drop, map, get_or, refl, sym, ap, ◌∙◌, arith}
use Rattle.std.specs.Prelude.{slice_get, All}
use Rattle.std.proofs.lemmas.Bool.Decides.{nat_tests}
use Rattle.std.proofs.Common.{drop-cons}
use Rattle.flat_bytes.specs.Blocks.{grown, is_refused, blocks_from}
use Rattle.code_words.specs.Runs.{counter_behind}
use Rattle.code_words.specs.Table.{offset_from, at_base}
use Rattle.code_words.proofs.Fitting.{counter_grows}
use Rattle.two_memory_machine_memory.specs.Places.{offsets_from}

-- the list of places has the place of each block
pub places_listed : (blocks : List (List ℕ)) (base offset place k : ℕ) → base + offset ≡ place → slice_get (offsets_from place blocks) k ≡ at_base base (offset_from offset blocks k)
places_listed [] base offset place k e = refl
places_listed (block ∷ blocks) base offset place zero e = ap Some (sym e)
places_listed (block ∷ blocks) base offset place (suc k) e = places_listed blocks base (grown offset (length block)) (grown place (length block)) k (omega arith)

pub offsets_listed : (blocks : List (List ℕ)) (offset k : ℕ) → slice_get (offsets_from offset blocks) k ≡ offset_from offset blocks k
offsets_listed [] offset k = refl
offsets_listed (block ∷ blocks) offset zero = refl
offsets_listed (block ∷ blocks) offset (suc k) = offsets_listed blocks (grown offset (length block)) k

-- behind as many bytes the counter is as much larger
pub counter_at_base : (base counter : ℕ) (blocks : List (List ℕ)) → counter_behind (base + counter) blocks ≡ base + counter_behind counter blocks
counter_at_base base counter [] = refl
counter_at_base base counter (block ∷ blocks) =
    let same : grown (base + counter) (length block) ≡ base + grown counter (length block) = omega arith in
    ap (λ n. counter_behind n blocks) same ∙ counter_at_base base (grown counter (length block)) blocks

-- a block that isn't empty and fits isn't refused
pub not_refused : (size counter bytes : ℕ) → 0 < bytes → grown counter bytes ≤ size → is_refused size counter bytes ≡ false
not_refused size counter bytes some fits = grind (arith, nat_tests)

-- the block at a place, and the counter behind it
pub next_within : (blocks : List (List ℕ)) (counter i : ℕ) (block : List ℕ) → i < length blocks → block ≡ get_or blocks i block → grown counter (length block) ≤ counter_behind counter (drop i blocks)
next_within blocks counter i block h e = rw (drop-cons blocks i block h, ← e) (counter_grows (grown counter (length block)) (drop (suc i) blocks))

-- one more static block
pub blocks_from-block : (size counter : ℕ) (block : List ℕ) (lens : List ℕ) → 0 < length block → grown counter (length block) ≤ size → blocks_from size counter (length block ∷ lens) ≡ (record { offset = counter; bytes = length block }) ∷ blocks_from size (grown counter (length block)) lens
blocks_from-block size counter block lens some fits = rw (not_refused size counter (length block) some fits) refl

-- blocks that aren't empty take 32 bytes at least
pub counter_room : (counter : ℕ) (blocks : List (List ℕ)) → All (λ block. 0 < length block) blocks → counter + 32 * length blocks ≤ counter_behind counter blocks
counter_room counter [] some = omega arith
counter_room counter (block ∷ blocks) some =
    let first : 0 < length block = some 0 block (omega arith) in
    omega (arith, first, counter_room (grown counter (length block)) blocks (λ k d h. some (suc k) d (omega (arith, h))))

pub slice_get-map : {A B : Type 0} (f : A → B) (xs : List A) (k : ℕ) (x : A) → slice_get xs k ≡ Some x → slice_get (map f xs) k ≡ Some (f x)
slice_get-map f [] k x h = absurd (cc)
slice_get-map f (y ∷ ys) zero x h = let same : y ≡ x = cc in ap (λ z. Some (f z)) same
slice_get-map f (y ∷ ys) (suc k) x h = slice_get-map f ys k x h
