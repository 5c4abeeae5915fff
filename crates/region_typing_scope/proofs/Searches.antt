-- Searches in lists, by the place that they find.
use Rattle.std.proofs.Common.{◌≡◌, ℕ, suc, ◌+◌, Bool, true, false, cond, position, List, [], ◌∷◌, length, map, get_or, slice_get, Option, Some, None, refl, sym, ap, ◌∙◌, arith}
use Rattle.std.specs.Prelude.{◌==◌}
use Rattle.std.specs.List.{position_from}
use Rattle.std.specs.Option.{option_map}
use Rattle.std.proofs.lemmas.Iterator.Adapters.{position_from-zero}
use Rattle.std.proofs.lemmas.List.Quantifiers.{position-Some}
use Rattle.std.proofs.lemmas.Option.{slice_get_read}
use Rattle.pointer_modes.specs.declared.ctype.Member as code_member
use Rattle.pointer_modes.specs.Types.{member, ctype}
use Rattle.region_typing_rules.specs.Verdicts.{picked}
use Rattle.region_typing_rules.specs.Scopes.{object_of, found_if, object_named, function_named}
use Rattle.region_typing_rules.specs.Operands.{member_from}
use Rattle.region_typing_scope.specs.declared.scope as code
use Rattle.region_typing_scope.specs.declared.signature.Signature as code_signature
use Rattle.region_typing_scope.specs.Views.{variable, signature}
use Rattle.region_typing_scope.specs.Tables.{place_of}
use Rattle.region_typing_scope.specs.Searches.{object_at, member_at, function_at}

place_from : {X : Type 0} (p : X → Bool) (n : ℕ) (xs : List X) → position_from p n xs ≡ option_map (λ k. n + k) (place_of p xs)
place_from p n [] = refl
place_from p n (x ∷ xs) = by (p x) (place_of p xs) (place_from p (n + 1) xs)
  where
    by : (b : Bool) (o : Option ℕ) → position_from p (n + 1) xs ≡ option_map (λ k. (n + 1) + k) o → cond b (Some n) (position_from p (n + 1) xs) ≡ option_map (λ k. n + k) (cond b (Some 0) (option_map suc o))
    by true o rest = let e : n ≡ n + 0 = omega arith in ap Some e
    by false None rest = rest
    by false (Some k) rest = let e : (n + 1) + k ≡ n + suc k = omega arith in rest ∙ ap Some e

same_place : (o : Option ℕ) → option_map (λ k. 0 + k) o ≡ o
same_place None = refl
same_place (Some k) = let e : 0 + k ≡ k = omega arith in ap Some e

-- the place that a search finds
pub place_found : {X : Type 0} (p : X → Bool) (xs : List X) → position p xs ≡ place_of p xs
place_found p xs = position_from-zero p xs ∙ place_from p 0 xs ∙ same_place (place_of p xs)

pub object_found : (name : ℕ) (n : ℕ) (vs : List code.Variable.Variable) → object_named n (map variable vs) name ≡ object_at n vs (place_of (λ v. name == v.name) vs)
object_found name n [] = refl
object_found name n (v ∷ vs) = by (name == v.name) (place_of (λ w. name == w.name) vs) (object_found name (suc n) vs)
  where
    by : (b : Bool) (o : Option ℕ) → object_named (suc n) (map variable vs) name ≡ object_at (suc n) vs o → found_if b (Some (object_of n (variable v) v.length)) (object_named (suc n) (map variable vs) name) ≡ object_at n (v ∷ vs) (cond b (Some 0) (option_map suc o))
    by true o rest = let e : n ≡ n + 0 = omega arith in ap (λ k. Some (object_of k (variable v) v.length)) e
    by false None rest = rest
    by false (Some k) rest = let e : suc n + k ≡ n + suc k = omega arith in rest ∙ ap (λ j. option_map (λ w. object_of j (variable w) w.length) (slice_get vs k)) e

pub member_found : (name : ℕ) (n : ℕ) (names : List ℕ) (ms : List code_member.Member) → member_from n names (map member ms) name ≡ member_at n ms (place_of (λ other. name == other) names)
member_found name n [] ms = refl
member_found name n (other ∷ names) [] = none (place_of (λ k. name == k) (other ∷ names))
  where
    none : (o : Option ℕ) → None ≡ member_at n [] o
    none None = refl
    none (Some k) = refl
member_found name n (other ∷ names) (m ∷ ms) = by (name == other) (place_of (λ k. name == k) names) (member_found name (suc n) names ms)
  where
    by : (b : Bool) (o : Option ℕ) → member_from (suc n) names (map member ms) name ≡ member_at (suc n) ms o → picked b (Some (n, ctype m.ctype)) (member_from (suc n) names (map member ms) name) ≡ member_at n (m ∷ ms) (cond b (Some 0) (option_map suc o))
    by true o rest = let e : n ≡ n + 0 = omega arith in ap (λ k. Some (k, ctype m.ctype)) e
    by false None rest = rest
    by false (Some k) rest = let e : suc n + k ≡ n + suc k = omega arith in rest ∙ ap (λ j. option_map (λ w. (j, ctype w.ctype)) (slice_get ms k)) e

pub function_found : (name : ℕ) (fs : List code_signature.Signature) → function_named (map signature fs) name ≡ function_at fs (place_of (λ f. name == f.name) fs)
function_found name [] = refl
function_found name (f ∷ fs) = by (name == f.name) (place_of (λ w. name == w.name) fs) (function_found name fs)
  where
    by : (b : Bool) (o : Option ℕ) → function_named (map signature fs) name ≡ function_at fs o → picked b (Some (signature f)) (function_named (map signature fs) name) ≡ function_at (f ∷ fs) (cond b (Some 0) (option_map suc o))
    by true o rest = refl
    by false None rest = rest
    by false (Some k) rest = rest

-- what was read at a place that a search found
pub read_at : {X : Type 0} (p : X → Bool) (xs slice : List X) (k : ℕ) (x : X) → position p slice ≡ Some k → slice ≡ xs → x ≡ get_or xs k x → (place_of p xs ≡ Some k) × (slice_get xs k ≡ Some x)
read_at p xs slice k x found same is =
    let here : position p xs ≡ Some k = ap (position p) (sym same) ∙ found in
    (sym (place_found p xs) ∙ here, slice_get_read xs (length xs) k x refl (position-Some p xs k x here).0 is)

pub none_at : {X : Type 0} (p : X → Bool) (xs slice : List X) → position p slice ≡ None → slice ≡ xs → place_of p xs ≡ None
none_at p xs slice found same = sym (place_found p xs) ∙ ap (position p) (sym same) ∙ found

pub object_there : (name : ℕ) (vs : List code.Variable.Variable) (k : ℕ) (v : code.Variable.Variable) → place_of (λ w. name == w.name) vs ≡ Some k → slice_get vs k ≡ Some v → Some (object_of k (variable v) v.length) ≡ object_named 0 (map variable vs) name
object_there name vs k v place at =
    let e : 0 + k ≡ k = omega arith in
    sym (object_found name 0 vs ∙ ap (object_at 0 vs) place ∙ ap (option_map (λ w. object_of (0 + k) (variable w) w.length)) at ∙ ap (λ j. Some (object_of j (variable v) v.length)) e)

pub member_there : (name : ℕ) (names : List ℕ) (ms : List code_member.Member) (k : ℕ) (m : code_member.Member) → place_of (λ other. name == other) names ≡ Some k → slice_get ms k ≡ Some m → member_from 0 names (map member ms) name ≡ Some (k, ctype m.ctype)
member_there name names ms k m place at =
    let e : 0 + k ≡ k = omega arith in
    member_found name 0 names ms ∙ ap (member_at 0 ms) place ∙ ap (option_map (λ w. (0 + k, ctype w.ctype))) at ∙ ap (λ j. Some (j, ctype m.ctype)) e

pub function_there : (name : ℕ) (fs : List code_signature.Signature) (k : ℕ) (f : code_signature.Signature) → place_of (λ w. name == w.name) fs ≡ Some k → slice_get fs k ≡ Some f → Some (signature f) ≡ function_named (map signature fs) name
function_there name fs k f place at = sym (function_found name fs ∙ ap (function_at fs) place ∙ ap (option_map signature) at)
