-- The functions that have bodies.
use Rattle.std.proofs.Common.{◌≡◌, ℕ, ◌+◌, ◌<◌, ◌≤◌, Bool, true, false, ◌&&◌, ◌||◌, is_some, List, [], ◌∷◌, ◌++◌, length, map, take, get_or, Result, Ok, Err, Option, Some, None, refl, sym, ap, ◌∙◌}
use Rattle.std.specs.Prelude.{◌==◌}
use Rattle.std.specs.Result.{OnOk}
use Rattle.std.proofs.lemmas.List.{map-append, take_more, take_all}
use Rattle.ckc_tree.specs.declared.item.Item as code_item
use Rattle.ckc_tree.specs.declared.item.Item.TheVariants as items
use Rattle.ckc_tree.specs.declared.item.Function as code_function
use Rattle.ckc_tree.specs.declared.item.Block as code_block
use Rattle.ckc_tree.specs.Items as i
use Rattle.region_typing_rules.specs.Verdicts.{picked}
use Rattle.region_typing_rules.specs.Items.{defines, is_defined}
use Rattle.region_typing_scope.specs.Tables.{place_in, or_last, Noted}
use Rattle.region_typing.specs.Definitions.{Knows}

defined_last : (items : List i.Item) (x : i.Item) (name : ℕ) → is_defined (items ++ x ∷ []) name ≡ (is_defined items name || defines name x)
defined_last [] x name = by (defines name x)
  where
    by : (b : Bool) → picked b true false ≡ b
    by true = refl
    by false = refl
defined_last (y ∷ items) x name = by (defines name y) (defined_last items x name)
  where
    by : (b : Bool) → is_defined (items ++ x ∷ []) name ≡ (is_defined items name || defines name x) → picked b true (is_defined (items ++ x ∷ []) name) ≡ (picked b true (is_defined items name) || defines name x)
    by true rest = refl
    by false rest = rest

-- before the first item
pub knows_first : (table : List (Option ℕ)) (xs : List code_item.Item) → table ≡ [] → Knows table (map i.item (take 0 xs))
knows_first table xs none = rw none (record { same = λ name. first xs name })
  where
    first : (ys : List code_item.Item) (name : ℕ) → false ≡ is_defined (map i.item (take 0 ys)) name
    first [] name = refl
    first (y ∷ ys) name = refl

-- behind the last item
pub knows_all : (table : List (Option ℕ)) (xs : List code_item.Item) (k : ℕ) → length xs ≤ k → Knows table (map i.item (take k xs)) → Knows table (map i.item xs)
knows_all table xs k end knows = let all = rw (take_all k xs end) at knows in all

-- an item that is no body
pub knows_same : (table : List (Option ℕ)) (items : List i.Item) (x : i.Item) → ((name : ℕ) → defines name x ≡ false) → Knows table items → Knows table (items ++ x ∷ [])
knows_same table items x none knows = record { same = λ name. knows.same name ∙ by (is_defined items name) ∙ ap (λ b. is_defined items name || b) (sym (none name)) ∙ sym (defined_last items x name) }
  where
    by : (b : Bool) → b ≡ (b || false)
    by true = refl
    by false = refl

-- the body of a function
pub knows_more : (old new : List (Option ℕ)) (items : List i.Item) (x : i.Item) (name place : ℕ) → ((other : ℕ) → defines other x ≡ (other == name)) → Noted name place old new → Knows old items → Knows new (items ++ x ∷ [])
knows_more old new items x name place body noted knows = record {
  same = λ other.
      ap is_some (noted.at other) ∙ found (place_in old other) (other == name)
      ∙ ap (λ b. b || (other == name)) (knows.same other)
      ∙ ap (λ b. is_defined items other || b) (sym (body other))
      ∙ sym (defined_last items x other);
}
  where
    found : (o : Option ℕ) (b : Bool) → is_some (or_last o b place) ≡ (is_some o || b)
    found None true = refl
    found None false = refl
    found (Some k) b = refl

-- the same, where there is memory
pub knows_if_noted : {E : Type 0} (r : Result (Unit {0}) E) (old new : List (Option ℕ)) (x : i.Item) (name place : ℕ) → ((other : ℕ) → defines other x ≡ (other == name)) → OnOk r (Noted name place old new)
    → OnOk r ((items : List i.Item) → Knows old items → Knows new (items ++ x ∷ []))
knows_if_noted (Ok done) old new x name place body noted = λ items knows. knows_more old new items x name place body noted knows
knows_if_noted (Err e) old new x name place body noted = tt

and_true : (b : Bool) → (b && true) ≡ b
and_true true = refl
and_true false = refl

and_false : (b : Bool) → (b && false) ≡ false
and_false true = refl
and_false false = refl

-- the item of a function with a body
pub body_defines : (it : code_item.Item) (f : code_function.Function) (b : code_block.Block) → it ≡ items.Function f → f.body ≡ Some b → (other : ℕ) → defines other (i.item it) ≡ (other == f.name.number)
body_defines it f b is has other = rw (is, has) (and_true (other == f.name.number))

-- the item of one without a body
pub none_defines : (it : code_item.Item) (f : code_function.Function) → it ≡ items.Function f → f.body ≡ None → (other : ℕ) → defines other (i.item it) ≡ false
none_defines it f is none other = rw (is, none) (and_false (other == f.name.number))

-- one item more of a source
pub knows_next : (table : List (Option ℕ)) (xs : List code_item.Item) (k : ℕ) (x : code_item.Item) → k < length xs → x ≡ get_or xs k x → Knows table (map i.item (take k xs) ++ i.item x ∷ []) → Knows table (map i.item (take (k + 1) xs))
knows_next table xs k x less is knows = rw (take_more xs k x less, ← is, map-append i.item (take k xs) (x ∷ [])) knows
