-- A map finds the definition of a name as a search from the first one does.
use Rattle.std.proofs.Common.{◌≡◌, ℕ, Bool, true, false, cond, bytes_eq, List, [], ◌∷◌, ◌++◌, Vec, Global, Some, None, refl, sym, ap, ◌∙◌}
use Rattle.std.specs.List.{find}
use Rattle.std.specs.Map.{lookup}
use Rattle.std.specs.Option.{option_map}
use Rattle.std.proofs.lemmas.Slice.Eq.{bytes_eq-Decides}
use Rattle.indexmap.specs.IndexMap.{insert_entry}
use Rattle.ckc_lexer.specs.Tokens.{definition_for}
use Rattle.ckc_lexer.specs.Defined.{definition, definitions_of}

same_either_way : (xs ys : List ℕ) → bytes_eq xs ys ≡ bytes_eq ys xs
same_either_way xs ys = by (bytes_eq xs ys) refl (bytes_eq ys xs) refl
  where
    back : (vs ws : List ℕ) → bytes_eq vs ws ≡ true → bytes_eq ws vs ≡ true
    back vs ws e = (bytes_eq-Decides ws vs).1 (sym ((bytes_eq-Decides vs ws).0 e))

    by : (b : Bool) → bytes_eq xs ys ≡ b → (c : Bool) → bytes_eq ys xs ≡ c → b ≡ c
    by true e true f = refl
    by true e false f = sym (back xs ys e) ∙ f
    by false e true f = sym e ∙ back ys xs f
    by false e false f = refl

pub found_by_key : (name : List ℕ) (entries : List (Vec ℕ Global × (Bool × ℕ))) → lookup (λ v. bytes_eq name v.items) entries ≡ definition_for name (definitions_of entries)
found_by_key name [] = refl
found_by_key name (e ∷ entries) =
    rw (same_either_way name e.0.items) (by (bytes_eq e.0.items name) (found_by_key name entries))
  where
    by : (b : Bool) → lookup (λ v. bytes_eq name v.items) entries ≡ definition_for name (definitions_of entries)
        → cond b (Some e.1) (lookup (λ v. bytes_eq name v.items) entries)
        ≡ option_map (λ d. (d.negative, d.value)) (cond b (Some (definition e)) (find (λ d. bytes_eq d.name name) (definitions_of entries)))
    by true rest = refl
    by false rest = rest

pub put_last : (entries : List (Vec ℕ Global × (Bool × ℕ))) (name : Vec ℕ Global) (n : Bool × ℕ) → definition_for name.items (definitions_of entries) ≡ None
    → definitions_of (insert_entry (λ a b. bytes_eq a.items b.items) entries name n) ≡ definitions_of entries ++ definition (name, n) ∷ []
put_last [] name n none = refl
put_last (e ∷ entries) name n none = by (bytes_eq e.0.items name.items) refl (λ rest. put_last entries name n rest)
  where
    by : (b : Bool) → bytes_eq e.0.items name.items ≡ b
        → (definition_for name.items (definitions_of entries) ≡ None → definitions_of (insert_entry (λ a b. bytes_eq a.items b.items) entries name n) ≡ definitions_of entries ++ definition (name, n) ∷ [])
        → definitions_of (insert_entry (λ a b. bytes_eq a.items b.items) (e ∷ entries) name n) ≡ definitions_of (e ∷ entries) ++ definition (name, n) ∷ []
    by true same later = let there = rw same at none in absurd (cc)
    by false other later =
        let rest = rw other at none in
        rw (same_either_way name.items e.0.items, other) (ap (λ ds. definition e ∷ ds) (later rest))
