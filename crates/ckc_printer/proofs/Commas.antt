-- A list with commas between, item by item.
use Rattle.std.proofs.Common.{◌≡◌, ◌∙◌, ℕ, zero, suc, ◌+◌, ◌<◌, true, nat_lt, List, [], ◌∷◌, ◌++◌, map, drop, get_or, length, refl, ap, sym, drop-cons, add-one, arith}
use Rattle.std.proofs.lemmas.Bool.Decides.{nat_tests}
use Rattle.ckc_printer.specs.Pieces.{Sign, after_commas}
use Rattle.ckc_printer.specs.Slices.{commas_from}
use Rattle.ckc_printer.specs.declared.output.Output.{Output}
use Rattle.ckc_printer.specs.Output.{Puts, Leaves}
use Rattle.ckc_printer.specs.Spaced.{spaced, spaced_if, spaced_text}
use Rattle.ckc_printer.proofs.Texts.{spaced_append, leaves_less}

positive : (k : ℕ) → nat_lt 0 (suc k) ≡ true
positive k = grind (arith, nat_tests)

-- an item behind its comma, if it has one, and those that are left
item_first : {A : Type 0} (pieces : A → List Sign) (i : ℕ) (x : A) (xs : List A) → spaced_text (commas_from i pieces (x ∷ xs)) ≡ spaced_if (nat_lt 0 i) (44 ∷ []) ++ (spaced_text (pieces x) ++ spaced_text (after_commas pieces xs))
item_first pieces zero x xs = spaced_append (pieces x) (after_commas pieces xs)
item_first pieces (suc k) x xs = rw (positive k) (ap (λ l. spaced (44 ∷ []) ++ l) (spaced_append (pieces x) (after_commas pieces xs)))

-- one more item
pub one_more_item : {A B : Type 0} (pieces : A → List Sign) (view : B → A) (xs : List B) (i : ℕ) (x : B) {first old mid new : Output} {whole : List ℕ} → i < length xs → x ≡ get_or xs i x → Puts old mid (spaced_if (nat_lt 0 i) (44 ∷ [])) → Puts mid new (spaced_text (pieces (view x))) → Leaves first old (spaced_text (commas_from i pieces (map view (drop i xs)))) whole → Leaves first new (spaced_text (commas_from (i + 1) pieces (map view (drop (i + 1) xs)))) whole
one_more_item pieces view xs i x {first} {old} {mid} {new} {whole} low is comma put so_far =
    let here : drop i xs ≡ x ∷ drop (suc i) xs = drop-cons xs i x low ∙ ap (λ y. y ∷ drop (suc i) xs) (sym is) in
    let split = ap (λ l. spaced_text (commas_from i pieces (map view l))) here ∙ item_first pieces i (view x) (map view (drop (suc i) xs)) in
    let left = spaced_text (after_commas pieces (map view (drop (suc i) xs))) in
    let item_left : Leaves first mid (spaced_text (pieces (view x)) ++ left) whole = leaves_less so_far comma split in
    rw add-one (leaves_less item_left put refl)
