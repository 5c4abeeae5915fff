-- Parts of a list, and what a write in the list does to them.
use Rattle.std.proofs.Common.{◌≡◌, ℕ, ◌+◌, ◌-◌, ◌<◌, ◌≤◌, List, ◌∷◌, length, take, drop, ap, ◌∙◌, arith}
use Rattle.std.specs.Prelude.{slice_set}
use Rattle.std.proofs.lemmas.List.{take-set-le, drop-set-lt, drop-set-add, drop-set, length-drop, length-take-le, drop-drop}
use Rattle.std.proofs.Math.Seq.{take-set-lt}
use Rattle.two_memory_machine_memory.specs.CallInsides.{window}

pub length-window : {A : Type 0} (low high : ℕ) (xs : List A) → high ≤ length xs → length (window low high xs) ≡ high - low
length-window low high xs h = length-drop low (take high xs) ∙ ap (λ n. n - low) (length-take-le high xs h)

-- a write behind a part, and one before it
pub window-set_behind : {A : Type 0} (low high i : ℕ) (xs : List A) (x : A) → high ≤ i → window low high (slice_set xs i x) ≡ window low high xs
window-set_behind low high i xs x h = ap (drop low) (take-set-le high xs i x h)

pub window-set_before : {A : Type 0} (low high i : ℕ) (xs : List A) (x : A) → i < low → low ≤ high → window low high (slice_set xs i x) ≡ window low high xs
window-set_before low high i xs x h k = ap (drop low) (take-set-lt high xs i x (omega arith)) ∙ drop-set-lt low (take high xs) i x h

-- a write in it
pub window-set_in : {A : Type 0} (low high k : ℕ) (xs : List A) (x : A) → low + k < high → window low high (slice_set xs (low + k) x) ≡ slice_set (window low high xs) k x
window-set_in low high k xs x h = ap (drop low) (take-set-lt high xs (low + k) x h) ∙ drop-set-add low (take high xs) k x

-- a write just before a part makes it longer
pub window-set_first : {A : Type 0} (i low high : ℕ) (xs : List A) (x : A) → i + 1 ≡ low → low ≤ high → high ≤ length xs → window i high (slice_set xs i x) ≡ x ∷ window low high xs
window-set_first i low high xs x e h k =
    let len = length-take-le high xs k in
    ap (drop i) (take-set-lt high xs i x (omega arith)) ∙ drop-set (take high xs) i x (omega (arith, len)) ∙ ap (λ n. x ∷ drop n (take high xs)) e

pub drop-window : {A : Type 0} (n low high : ℕ) (xs : List A) → drop n (window low high xs) ≡ window (low + n) high xs
drop-window n low high xs = drop-drop n low (take high xs)
