-- The places of bodies among functions.
use Rattle.std.proofs.Common.{◌≡◌, ℕ, suc, ◌<◌, Bool, true, false, List, [], ◌∷◌, ◌++◌, length, map, set, get_or, Option, Some, None, refl, ap, ◌∙◌, append_assoc, arith}
use Rattle.std.proofs.lemmas.List.{map-append}
use Rattle.std.specs.Prelude.{◌==◌}
use Rattle.std.specs.Option.{option_map}
use Rattle.std.proofs.lemmas.Bool.{eqb-true}
use Rattle.ckc_core.specs.Programs.{Trusted}
use Rattle.region_typing_rules.specs.Verdicts.{picked}
use Rattle.region_typing_rules.specs.Scopes.{Signature, function_named}
use Rattle.region_typing_rules.specs.Calls.{is_import}
use Rattle.region_typing_rules.specs.Items.{Defined}
use Rattle.region_typing_rules.specs.Cores.{definition_of, definitions_of}
use Rattle.region_typing_scope.specs.declared.signature.Signature as code
use Rattle.region_typing_scope.specs.Views.{signature}
use Rattle.region_typing_scope.specs.Names.{Distinct}
use Rattle.region_typing_scope.specs.Tables.{place_of}
use Rattle.region_typing_scope.proofs.FileLevel.{turned}
use Rattle.region_typing.specs.declared.walk as code_walk
use Rattle.region_typing.specs.CoreParts.{trusted_place}
use Rattle.region_typing.specs.Items.{defined}

-- ---- the place of a name

later_place : (i : Bool) (k : ℕ) → option_map suc (picked i None (Some k)) ≡ picked i None (Some (suc k))
later_place true k = refl
later_place false k = refl

-- the place that is found, if its function is trusted
pub place_found : (fs : List code.Signature) (name k : ℕ) (d : code.Signature) → place_of (λ f. name == f.name) fs ≡ Some k → trusted_place (map signature fs) name ≡ picked (is_import (signature (get_or fs k d))) None (Some k)
place_found [] name k d e = absurd (cc)
place_found (f ∷ fs) name k d e = by (name == f.name) refl (place_of (λ g. name == g.name) fs) refl (λ j. place_found fs name j d)
  where
    by : (t : Bool) → (name == f.name) ≡ t → (o : Option ℕ) → place_of (λ g. name == g.name) fs ≡ o
        → ((j : ℕ) → place_of (λ g. name == g.name) fs ≡ Some j → trusted_place (map signature fs) name ≡ picked (is_import (signature (get_or fs j d))) None (Some j))
        → trusted_place (map signature (f ∷ fs)) name ≡ picked (is_import (signature (get_or (f ∷ fs) k d))) None (Some k)
    by true here o there rest = let first = rw here at e in let same : k ≡ 0 = cc in rw (here, same) refl
    by false here None there rest = let none = rw (here, there) at e in absurd (cc)
    by false here (Some j) there rest =
        let later = rw (here, there) at e in
        let same : k ≡ suc j = cc in
        rw (here, same, rest j there) (later_place (is_import (signature (get_or fs j d))) j)

-- the name of no function
pub no_place : (fs : List code.Signature) (name : ℕ) → place_of (λ f. name == f.name) fs ≡ None → trusted_place (map signature fs) name ≡ None
no_place [] name e = refl
no_place (f ∷ fs) name e = by (name == f.name) refl (place_of (λ g. name == g.name) fs) refl (no_place fs name)
  where
    by : (t : Bool) → (name == f.name) ≡ t → (o : Option ℕ) → place_of (λ g. name == g.name) fs ≡ o
        → (place_of (λ g. name == g.name) fs ≡ None → trusted_place (map signature fs) name ≡ None) → trusted_place (map signature (f ∷ fs)) name ≡ None
    by true here o there rest = let some = rw here at e in absurd (cc)
    by false here None there rest = rw (here, rest there) refl
    by false here (Some j) there rest = let some = rw (here, there) at e in absurd (cc)

-- ---- bodies

-- a function that has another name
other_one : (b : Defined) (bodies : List Defined) (f : Signature) → (b.name == f.name) ≡ false → definition_of (b ∷ bodies) f ≡ definition_of bodies f
other_one b bodies f e = rw (turned f.name b.name, e) refl

unnamed : (b : Defined) (bodies : List Defined) (fs : List Signature) → function_named fs b.name ≡ None → definitions_of (b ∷ bodies) fs ≡ definitions_of bodies fs
unnamed b bodies [] none = refl
unnamed b bodies (f ∷ fs) none = by (b.name == f.name) refl (λ rest. unnamed b bodies fs rest)
  where
    by : (t : Bool) → (b.name == f.name) ≡ t → (function_named fs b.name ≡ None → definitions_of (b ∷ bodies) fs ≡ definitions_of bodies fs) → definitions_of (b ∷ bodies) (f ∷ fs) ≡ definitions_of bodies (f ∷ fs)
    by true e later = let found = rw e at none in absurd (cc)
    by false e later = let rest = rw e at none in rw (other_one b bodies f e, later rest) refl

-- the first of the functions has the name: it gets the body where it is trusted
here_placed : (b : Defined) (bodies : List Defined) (f : Signature) (i : Bool) → (b.name == f.name) ≡ true → is_import f ≡ i → definition_of (b ∷ bodies) f ≡ picked i (definition_of bodies f) (Trusted b.function)
here_placed b bodies f true e e' = rw e' refl
here_placed b bodies f false e e' = rw (e', turned f.name b.name, e) refl

pub placed : (b : Defined) (bodies : List Defined) (fs : List Signature) (k : ℕ) → Distinct fs → trusted_place fs b.name ≡ Some k → definitions_of (b ∷ bodies) fs ≡ set (definitions_of bodies fs) k (Trusted b.function)
placed b bodies [] k apart e = absurd (cc)
placed b bodies (f ∷ fs) k apart e = by (b.name == f.name) refl (is_import f) refl (trusted_place fs b.name) refl (λ j. placed b bodies fs j apart.1)
  where
    by : (t : Bool) → (b.name == f.name) ≡ t → (i : Bool) → is_import f ≡ i → (o : Option ℕ) → trusted_place fs b.name ≡ o
        → ((j : ℕ) → trusted_place fs b.name ≡ Some j → definitions_of (b ∷ bodies) fs ≡ set (definitions_of bodies fs) j (Trusted b.function))
        → definitions_of (b ∷ bodies) (f ∷ fs) ≡ set (definitions_of bodies (f ∷ fs)) k (Trusted b.function)
    by true here true side o there rest = let none = rw (here, side) at e in absurd (cc)
    by true here false side o there rest =
        let first = rw (here, side) at e in
        let same : k ≡ 0 = cc in
        let none : function_named fs b.name ≡ None = ap (function_named fs) (eqb-true b.name f.name here) ∙ apart.0 in
        rw (same, here_placed b bodies f false here side, unnamed b bodies fs none) refl
    by false here i side None there rest = let none = rw (here, there) at e in absurd (cc)
    by false here i side (Some j) there rest =
        let later = rw (here, there) at e in
        let same : k ≡ suc j = cc in
        rw (same, other_one b bodies f here, rest j there) refl

pub not_placed : (b : Defined) (bodies : List Defined) (fs : List Signature) → Distinct fs → trusted_place fs b.name ≡ None → definitions_of (b ∷ bodies) fs ≡ definitions_of bodies fs
not_placed b bodies [] apart e = refl
not_placed b bodies (f ∷ fs) apart e = by (b.name == f.name) refl (is_import f) refl (trusted_place fs b.name) refl (not_placed b bodies fs apart.1)
  where
    by : (t : Bool) → (b.name == f.name) ≡ t → (i : Bool) → is_import f ≡ i → (o : Option ℕ) → trusted_place fs b.name ≡ o
        → (trusted_place fs b.name ≡ None → definitions_of (b ∷ bodies) fs ≡ definitions_of bodies fs)
        → definitions_of (b ∷ bodies) (f ∷ fs) ≡ definitions_of bodies (f ∷ fs)
    by true here true side o there rest =
        let none : function_named fs b.name ≡ None = ap (function_named fs) (eqb-true b.name f.name here) ∙ apart.0 in
        rw (here_placed b bodies f true here side, unnamed b bodies fs none) refl
    by true here false side o there rest = let some = rw (here, side) at e in absurd (cc)
    by false here i side None there rest = rw (other_one b bodies f here, rest there) refl
    by false here i side (Some j) there rest = let some = rw (here, there) at e in absurd (cc)

pub place_within : (fs : List Signature) (name k : ℕ) → trusted_place fs name ≡ Some k → k < length fs
place_within [] name k e = absurd (cc)
place_within (f ∷ fs) name k e = by (name == f.name) refl (is_import f) refl (trusted_place fs name) refl (λ j. place_within fs name j)
  where
    by : (t : Bool) → (name == f.name) ≡ t → (i : Bool) → is_import f ≡ i → (o : Option ℕ) → trusted_place fs name ≡ o → ((j : ℕ) → trusted_place fs name ≡ Some j → j < length fs) → k < length (f ∷ fs)
    by true here true side o there rest = let none = rw (here, side) at e in absurd (cc)
    by true here false side o there rest = let first = rw (here, side) at e in let same : k ≡ 0 = cc in omega (arith, same)
    by false here i side None there rest = let none = rw (here, there) at e in absurd (cc)
    by false here i side (Some j) there rest =
        let later = rw (here, there) at e in
        let same : k ≡ suc j = cc in
        omega (arith, same, rest j there)

pub definitions_length : (bodies : List Defined) (fs : List Signature) → length (definitions_of bodies fs) ≡ length fs
definitions_length bodies [] = refl
definitions_length bodies (f ∷ fs) = ap suc (definitions_length bodies fs)

pub body_popped : (all : List Defined) (old new : List code_walk.Defined.Defined) (b : code_walk.Defined.Defined) (placed_bodies : List Defined) → old ≡ new ++ b ∷ [] → all ≡ map defined old ++ placed_bodies → all ≡ map defined new ++ defined b ∷ placed_bodies
body_popped all old new b placed_bodies are so_far =
    so_far ∙ ap (λ xs. xs ++ placed_bodies) (ap (map defined) are ∙ map-append defined new (b ∷ [])) ∙ append_assoc (map defined new) (defined b ∷ []) placed_bodies
