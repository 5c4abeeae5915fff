-- What becomes known at file level.
use Rattle.std.proofs.Common.{◌≡◌, ℕ, zero, suc, Bool, true, false, not, ◌&&◌, is_some, List, [], ◌∷◌, ◌++◌, length, map, Option, Some, None, refl, ap, ◌∙◌, arith}
use Rattle.std.specs.Prelude.{◌==◌}
use Rattle.std.specs.List.{list_all}
use Rattle.std.proofs.lemmas.List.{map-append}
use Rattle.std.proofs.lemmas.Bool.Decides.{nat_tests}
use Rattle.pointer_modes.specs.Types.{Member, Structure}
use Rattle.pointer_modes.specs.Declaring.{with_members}
use Rattle.region_typing_rules.specs.Scopes.{Signature, function_named}
use Rattle.region_typing_rules.specs.Types.{is_scalar}
use Rattle.region_typing_scope.specs.declared.signature.Signature as code
use Rattle.region_typing_scope.specs.Signatures.{signature}
use Rattle.region_typing_scope.specs.Names.{Distinct, are_distinct}

both_hold : (a b : Bool) → a ≡ true → b ≡ true → (a && b) ≡ true
both_hold a b first second = rw (first, second) refl

first_holds : (a b : Bool) → (a && b) ≡ true → a ≡ true
first_holds true b both = refl
first_holds false b both = both

second_holds : (a b : Bool) → (a && b) ≡ true → b ≡ true
second_holds true b both = both
second_holds false b both = absurd (cc)

-- ---- structs

abbrev pub all_scalar : List Structure → Bool
all_scalar structs = list_all (λ d. list_all (λ m. is_scalar m.ctype) d.members) structs

pub scalar_more : (structs : List Structure) (tainted : Bool) → all_scalar structs ≡ true → all_scalar (structs ++ record { tainted = tainted; members = [] } ∷ []) ≡ true
scalar_more [] tainted all = refl
scalar_more (s ∷ structs) tainted all = both_hold _ _ (first_holds _ _ all) (scalar_more structs tainted (second_holds _ _ all))

pub scalar_given : (structs : List Structure) (k : ℕ) (members : List Member) → list_all (λ m. is_scalar m.ctype) members ≡ true → all_scalar structs ≡ true → all_scalar (with_members structs k members) ≡ true
scalar_given [] k members scalar all = refl
scalar_given (s ∷ structs) zero members scalar all = both_hold _ _ scalar (second_holds _ _ all)
scalar_given (s ∷ structs) (suc k) members scalar all = both_hold _ _ (first_holds _ _ all) (scalar_given structs k members scalar (second_holds _ _ all))

pub length_given : (structs : List Structure) (k : ℕ) (members : List Member) → length (with_members structs k members) ≡ length structs
length_given [] k members = refl
length_given (s ∷ structs) zero members = refl
length_given (s ∷ structs) (suc k) members = ap suc (length_given structs k members)

-- ---- functions

pub turned : (x y : ℕ) → (x == y) ≡ (y == x)
turned x y = grind (arith, nat_tests)

named_later : (fs : List Signature) (f : Signature) (name : ℕ) → function_named fs name ≡ None → (name == f.name) ≡ false → function_named (fs ++ f ∷ []) name ≡ None
named_later [] f name none other = rw other refl
named_later (g ∷ fs) f name none other = by (name == g.name) refl (λ rest. named_later fs f name rest other)
  where
    by : (b : Bool) → (name == g.name) ≡ b → (function_named fs name ≡ None → function_named (fs ++ f ∷ []) name ≡ None) → function_named ((g ∷ fs) ++ f ∷ []) name ≡ None
    by true e later = let found = rw e at none in absurd (cc)
    by false e later = let rest = rw e at none in rw e (later rest)

other_name : (g : Signature) (fs : List Signature) (name : ℕ) → function_named (g ∷ fs) name ≡ None → (name == g.name) ≡ false
other_name g fs name none = by (name == g.name) refl
  where
    by : (b : Bool) → (name == g.name) ≡ b → (name == g.name) ≡ false
    by true e = let found = rw e at none in absurd (cc)
    by false e = e

none_later : (g : Signature) (fs : List Signature) (name : ℕ) → function_named (g ∷ fs) name ≡ None → function_named fs name ≡ None
none_later g fs name none = let rest = rw (other_name g fs name none) at none in rest

-- a function of a name that none has
distinct_more : (fs : List Signature) (f : Signature) → Distinct fs → function_named fs f.name ≡ None → Distinct (fs ++ f ∷ [])
distinct_more [] f apart none = (refl, tt)
distinct_more (g ∷ fs) f apart none =
    (named_later fs f g.name apart.0 (turned g.name f.name ∙ other_name g fs f.name none), distinct_more fs f apart.1 (none_later g fs f.name none))

unnamed : (o : Option Signature) → not (is_some o) ≡ true → o ≡ None
unnamed None none = refl
unnamed (Some f) none = absurd (cc)

pub distinct : (fs : List Signature) → are_distinct fs ≡ true → Distinct fs
distinct [] apart = tt
distinct (f ∷ fs) apart = (unnamed (function_named fs f.name) (first_holds _ _ apart), distinct fs (second_holds _ _ apart))

found_distinct : (fs : List Signature) → Distinct fs → are_distinct fs ≡ true
found_distinct [] apart = refl
found_distinct (f ∷ fs) apart = rw apart.0 (found_distinct fs apart.1)

are_distinct_more : (fs : List Signature) (f : Signature) → are_distinct fs ≡ true → function_named fs f.name ≡ None → are_distinct (fs ++ f ∷ []) ≡ true
are_distinct_more fs f apart none = found_distinct (fs ++ f ∷ []) (distinct_more fs f (distinct fs apart) none)

-- a function that is pushed
pub pushed_distinct : (old new : List code.Signature) (f : code.Signature) → new ≡ old ++ f ∷ [] → are_distinct (map signature old) ≡ true → function_named (map signature old) f.name ≡ None → are_distinct (map signature new) ≡ true
pushed_distinct old new f is apart none =
    rw (ap (map signature) is ∙ map-append signature old (f ∷ [])) (are_distinct_more (map signature old) (signature f) apart none)
