-- Lists that are made of those that numbers name, number by number.
use Rattle.std.proofs.Common.{◌≡◌, ℕ, zero, suc, ◌+◌, ◌<◌, ◌≤◌, List, [], ◌∷◌, ◌++◌, length, map, drop, get_or, Option, Some, None, refl, ap, sym, ◌∙◌, append_assoc, arith}
use Rattle.std.proofs.lemmas.List.{append-nil, drop_more, drop_all}
use Rattle.std.specs.Prelude.{slice_get}
use Rattle.std.specs.Option.{option_map, option_copied}
use Rattle.std.specs.Slice.{IsItemAt}
use Rattle.std.specs.Borrow.{Bor}
use Rattle.std.proofs.lemmas.Option.{slice_get_past, slice_get_read}
use Rattle.ckc_core.specs.Programs.{trusted_of, tainted_of}
use Rattle.ckc_core.specs.declared.program.Definition.{Definition}
use Rattle.ckc_core.specs.declared.program.Definition.TheVariants as definitions
use Rattle.ckc_core.specs.declared.program.Object.{Object}
use Rattle.ckc_core.specs.Core as core
use Rattle.ckc_core.specs.Core.{object}
use Rattle.partitioner.specs.Parts.{named, name_before}
use Rattle.check_insertion.specs.Insert as insert
use Rattle.check_insertion.specs.Sides.{trusted_at, tainted_at}

-- what `get` of a slice finds
pub item_found : {X : Type 0} (xs : List X) (k : ℕ) (item : Option (Bor X)) → IsItemAt xs k item → option_copied item ≡ slice_get xs k
item_found xs k None found = sym (slice_get_past xs k found.3)
item_found xs k (Some item) found = sym (slice_get_read xs _ k item.now refl found.3.0 found.1)

module _ {T : Type 0} (of : List ℕ → List T) where
  -- a number more
  pub named_more : ((k : ℕ) (ks : List ℕ) → of (k ∷ ks) ≡ of (k ∷ []) ++ of ks) → (ks : List ℕ) (i k : ℕ) (old new : List T) → i < length ks → k ≡ get_or ks i k → new ≡ old ++ of (k ∷ []) → of ks ≡ old ++ of (drop i ks) → of ks ≡ new ++ of (drop (i + 1) ks)
  named_more one ks i k old new less is are so_far =
      let rest = drop (i + 1) ks in
      so_far
      ∙ ap (λ ys. old ++ of ys) (drop_more ks i k less ∙ ap (λ y. y ∷ rest) (sym is))
      ∙ ap (λ ys. old ++ ys) (one k rest)
      ∙ sym (append_assoc old (of (k ∷ [])) (of rest))
      ∙ ap (λ ys. ys ++ of rest) (sym are)

  -- all numbers
  pub named_all : of [] ≡ [] → (ks : List ℕ) (i : ℕ) (built : List T) → length ks ≤ i → of ks ≡ built ++ of (drop i ks) → built ≡ of ks
  named_all none ks i built end so_far = sym (so_far ∙ ap (λ ys. built ++ of ys) (drop_all i ks end) ∙ ap (λ ys. built ++ ys) none ∙ append-nil built)

-- an item that is there is the same by each default
pub item_same : (ks : List ℕ) (i d e : ℕ) → i < length ks → get_or ks i d ≡ get_or ks i e
item_same [] i d e less = absurd (omega (arith, less))
item_same (k ∷ ks) zero d e less = refl
item_same (k ∷ ks) (suc i) d e less = item_same ks i d e (omega (arith, less))

pub objects_one : (objects : List Object) (k : ℕ) (ks : List ℕ) → map object (named objects (k ∷ ks)) ≡ map object (named objects (k ∷ [])) ++ map object (named objects ks)
objects_one objects k ks = by (slice_get objects k)
  where
    by : (o : Option Object) → map object (name_before o (named objects ks)) ≡ map object (name_before o []) ++ map object (named objects ks)
    by None = refl
    by (Some x) = refl

pub functions_one : (ds : List Definition) (k : ℕ) (ks : List ℕ) → map insert.function (trusted_at ds (k ∷ ks)) ≡ map insert.function (trusted_at ds (k ∷ [])) ++ map insert.function (trusted_at ds ks)
functions_one ds k ks = by (slice_get ds k)
  where
    by : (o : Option Definition) → map insert.function (trusted_of (map core.definition (name_before o (named ds ks)))) ≡ map insert.function (trusted_of (map core.definition (name_before o []))) ++ map insert.function (trusted_at ds ks)
    by None = refl
    by (Some (definitions.Trusted f)) = refl
    by (Some (definitions.Tainted i)) = refl

pub imports_one : (ds : List Definition) (k : ℕ) (ks : List ℕ) → tainted_at ds (k ∷ ks) ≡ tainted_at ds (k ∷ []) ++ tainted_at ds ks
imports_one ds k ks = by (slice_get ds k)
  where
    by : (o : Option Definition) → tainted_of (map core.definition (name_before o (named ds ks))) ≡ tainted_of (map core.definition (name_before o [])) ++ tainted_at ds ks
    by None = refl
    by (Some (definitions.Trusted f)) = refl
    by (Some (definitions.Tainted i)) = refl

-- what is named of the views are the views of what is named
pub named_views : {X Y : Type 0} (view : X → Y) (xs : List X) (ks : List ℕ) → named (map view xs) ks ≡ map view (named xs ks)
named_views view xs [] = refl
named_views view xs (k ∷ ks) = rw (got xs k, named_views view xs ks) (put (slice_get xs k))
  where
    got : (ys : List _) (i : ℕ) → slice_get (map view ys) i ≡ option_map view (slice_get ys i)
    got [] i = refl
    got (y ∷ ys) zero = refl
    got (y ∷ ys) (suc i) = got ys i

    put : (o : Option _) → name_before (option_map view o) (map view (named xs ks)) ≡ map view (name_before o (named xs ks))
    put None = refl
    put (Some x) = refl
