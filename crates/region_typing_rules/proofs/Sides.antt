-- The two sides of a program that was walked.
use Rattle.std.proofs.Common.{◌≡◌, ℕ, ◌+◌, ◌≤◌, Bool, true, false, List, [], ◌∷◌, ◌++◌, map, Option, refl, ap}
use Rattle.std.specs.Prelude.{nat_le}
use Rattle.std.proofs.lemmas.Bool.{leb-true}
use Rattle.ckc_text.specs.declared.place.Span.{Span}
use Rattle.bounds_exprs.specs.declared.term.Bounds.{Bounds}
use Rattle.ckc_core.specs.Programs.{Import, Trusted, Tainted, trusted_of, tainted_of, parted}
use Rattle.ckc_core.specs.Core as core
use Rattle.ckc_core.specs.Core.{Core, Parted}
use Rattle.region_typing_rules.specs.Verdicts.{Passes, picked}
use Rattle.region_typing_rules.specs.Scopes.{Signature, bounds_in}
use Rattle.region_typing_rules.specs.Calls.{is_import, side_number}
use Rattle.region_typing_rules.specs.Strings.{texts_size, text_object}
use Rattle.region_typing_rules.specs.Items.{Defined, Walk}
use Rattle.region_typing_rules.specs.Cores.{body_of, import_of, definitions_of, core_of, small_core}

-- functions that aren't tainted, in their order
abbrev pub trusted_functions : List Defined → List Signature → List core.Function
trusted_functions bodies [] = []
trusted_functions bodies (f ∷ functions) = picked (is_import f) (trusted_functions bodies functions) (body_of bodies f ∷ trusted_functions bodies functions)

-- and the bounds of their parameters
abbrev pub trusted_bounds : List Signature → List (List (Option Bounds))
trusted_bounds [] = []
trusted_bounds (f ∷ functions) = picked (is_import f) (trusted_bounds functions) (map bounds_in f.bounds ∷ trusted_bounds functions)

-- and those of their results
abbrev pub trusted_results : List Signature → List (Option Bounds)
trusted_results [] = []
trusted_results (f ∷ functions) = picked (is_import f) (trusted_results functions) (bounds_in f.result_bounds ∷ trusted_results functions)

-- tainted functions in that order
abbrev pub tainted_functions : List Signature → List Import
tainted_functions [] = []
tainted_functions (f ∷ functions) = picked (is_import f) (import_of f ∷ tainted_functions functions) (tainted_functions functions)

-- the two sides of what was walked
abbrev pub sides_of : ℕ → Walk → Parted
sides_of entry w =
    record {
      objects = w.objects ++ map text_object w.scope.strings.texts;
      imports = tainted_functions w.scope.functions;
      functions = trusted_functions w.bodies w.scope.functions;
      main = side_number false w.scope.functions entry 0;
    }

trusted_same : (bodies : List Defined) (functions : List Signature) → trusted_functions bodies functions ≡ trusted_of (definitions_of bodies functions)
trusted_same bodies [] = refl
trusted_same bodies (f ∷ functions) = by (is_import f) (trusted_same bodies functions)
  where
    by : (test : Bool) → trusted_functions bodies functions ≡ trusted_of (definitions_of bodies functions)
        → picked test (trusted_functions bodies functions) (body_of bodies f ∷ trusted_functions bodies functions)
        ≡ trusted_of (picked test (Tainted (import_of f)) (Trusted (body_of bodies f)) ∷ definitions_of bodies functions)
    by true again = again
    by false again = ap (λ fs. body_of bodies f ∷ fs) again

tainted_same : (bodies : List Defined) (functions : List Signature) → tainted_functions functions ≡ tainted_of (definitions_of bodies functions)
tainted_same bodies [] = refl
tainted_same bodies (f ∷ functions) = by (is_import f) (tainted_same bodies functions)
  where
    by : (test : Bool) → tainted_functions functions ≡ tainted_of (definitions_of bodies functions)
        → picked test (import_of f ∷ tainted_functions functions) (tainted_functions functions)
        ≡ tainted_of (picked test (Tainted (import_of f)) (Trusted (body_of bodies f)) ∷ definitions_of bodies functions)
    by true again = ap (λ fs. import_of f ∷ fs) again
    by false again = again

pub sides_parted : (entry : ℕ) (w : Walk) → sides_of entry w ≡ parted (core_of entry w)
sides_parted entry w = rw (trusted_same w.bodies w.scope.functions, tainted_same w.bodies w.scope.functions) refl

-- the core of a walk, whose variables and strings take few bytes
pub record IsCoreOf (entry : ℕ) (w : Walk) (c : Core) : Type 0 where
  pub same : core_of entry w ≡ c
  pub room : w.taken + texts_size w.scope.strings.texts ≤ 32768

pub core_is : (entry : ℕ) (span : Span) (w : Walk) (c : Core) → small_core entry span w ≡ Passes c → IsCoreOf entry w c
core_is entry span w c e = by (nat_le (w.taken + texts_size w.scope.strings.texts) 32768) refl
  where
    by : (test : Bool) → nat_le (w.taken + texts_size w.scope.strings.texts) 32768 ≡ test → IsCoreOf entry w c
    by true few = record { same = (let e' = rw few at e in cc); room = leb-true (w.taken + texts_size w.scope.strings.texts) 32768 few }
    by false few = absurd (let e' = rw few at e in cc)
