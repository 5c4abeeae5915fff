-- Functions whose bodies have types, and are never stuck where they begin with parameters that are valid with their bounds.
use Rattle.std.proofs.Common.{◌≡◌, ℕ, zero, suc, ◌<◌, ◌≤◌, true, false, List, [], ◌∷◌, take, Option, Some, refl, subst}
use Rattle.std.specs.Prelude.{slice_get}
use Rattle.bounds_exprs.specs.declared.term.Bounds.{Bounds}
use Rattle.ckc_core.specs.Core as core
use Rattle.ckc_core.specs.States.{State}
use Rattle.ckc_core.specs.Meaning.{Setting, effects, knot}
use Rattle.ckc_core.specs.Core.{Parted}
use Rattle.std.specs.List.{AllByRecursion}
use Rattle.region_typing_rules.specs.Typed.{Frame, HasResultBounds, HaveRows, IsFunction, IsTyped}
use Rattle.region_typing_rules.specs.Items.{names}
use Rattle.region_typing_rules.specs.KnownIsSo.{WhereGiven}
use Rattle.ckc_core.specs.Steps.{Flow}
use Rattle.region_typing_rules.proofs.Calls.{AreEntered}
use Rattle.region_typing_rules.proofs.Goes.{EndsAs, IsKept, IsKnot, Runs}

abbrev pub setting_of : Frame → (budget sandbox trusted : ℕ) → Setting
setting_of g budget sandbox trusted = record { program = g.program; budget = budget; sandbox = sandbox; trusted = trusted }

-- calls that come in so many ticks at most
abbrev pub KnotsUpTo : Frame → (budget sandbox trusted n : ℕ) → Type 0
KnotsUpTo g budget sandbox trusted n = (m : ℕ) → m ≤ n → IsKnot g budget m (knot true (setting_of g budget sandbox trusted) m)

pub record IsSafe (g : Frame) (bs : List (Option Bounds)) (r : Option Bounds) (f : core.Function) : Type 0 where
  pub typed : IsFunction g f
  pub rows : HaveRows (take f.parameters f.locals) bs
  pub sound : HasResultBounds (take f.parameters f.locals) f.result r
  -- its body leaves the parameters that the bounds of its result name as they were
  pub keeps : (budget sandbox trusted n : ℕ) (x : ℕ) → names r x ≡ true → x < f.parameters → (s : State) → WhereGiven (λ (flow : Flow) (t : State). slice_get t.locals x ≡ slice_get s.locals x) (effects true (setting_of g budget sandbox trusted) (knot true (setting_of g budget sandbox trusted) n) f.body s)
  pub runs : (budget sandbox trusted n : ℕ) → KnotsUpTo g budget sandbox trusted n → (low : ℕ) (s : State) → IsKept g budget n low f.locals s → AreEntered g.structs bs s
      → Runs g budget n low f.locals (EndsAs g f.result r false) (effects true (setting_of g budget sandbox trusted) (knot true (setting_of g budget sandbox trusted) n) f.body s)

-- each function with its bounds
abbrev pub AreSafe : Frame → List core.Function → List (List (Option Bounds)) → List (Option Bounds) → Type 0
AreSafe g [] [] [] = Unit {0}
AreSafe g [] [] (r ∷ results) = ⊥
AreSafe g [] (bs ∷ bounds) results = ⊥
AreSafe g (f ∷ functions) [] results = ⊥
AreSafe g (f ∷ functions) (bs ∷ bounds) [] = ⊥
AreSafe g (f ∷ functions) (bs ∷ bounds) (r ∷ results) = IsSafe g bs r f × AreSafe g functions bounds results

-- the one of a number
pub record SafeThere (g : Frame) (bounds : List (List (Option Bounds))) (results : List (Option Bounds)) (n : ℕ) (f : core.Function) : Type 0 where
  pub bs : List (Option Bounds)
  pub known : slice_get bounds n ≡ Some bs
  pub r : Option Bounds
  pub told : slice_get results n ≡ Some r
  pub safe : IsSafe g bs r f

pub safe_there : (g : Frame) (functions : List core.Function) (bounds : List (List (Option Bounds))) (results : List (Option Bounds)) (n : ℕ) (f : core.Function) → AreSafe g functions bounds results → slice_get functions n ≡ Some f → SafeThere g bounds results n f
safe_there g [] bounds results n f all is = absurd (cc)
safe_there g (x ∷ functions) [] results n f all is = absurd all
safe_there g (x ∷ functions) (bs ∷ bounds) [] n f all is = absurd all
safe_there g (x ∷ functions) (bs ∷ bounds) (r ∷ results) zero f all is = let same : x ≡ f = cc in record { bs = bs; known = refl; r = r; told = refl; safe = subst (IsSafe g bs r) same all.0 }
safe_there g (x ∷ functions) (bs ∷ bounds) (r ∷ results) (suc n) f all is = let it = safe_there g functions bounds results n f all.1 is in record { bs = it.bs; known = it.known; r = it.r; told = it.told; safe = it.safe }

pub safe_at : (g : Frame) (functions : List core.Function) (bounds : List (List (Option Bounds))) (results : List (Option Bounds)) (n : ℕ) (f : core.Function) (bs : List (Option Bounds)) (r : Option Bounds) → AreSafe g functions bounds results → slice_get functions n ≡ Some f → slice_get bounds n ≡ Some bs → slice_get results n ≡ Some r
    → IsSafe g bs r f
safe_at g functions bounds results n f bs r all is known told =
    let it = safe_there g functions bounds results n f all is in
    let same : it.bs ≡ bs = (let a = it.known in cc) in
    let same_result : it.r ≡ r = (let a = it.told in cc) in
    subst (λ bs. IsSafe g bs r f) same (subst (λ r. IsSafe g it.bs r f) same_result it.safe)

-- the functions have types
pub functions_typed : (g : Frame) (functions : List core.Function) (bounds : List (List (Option Bounds))) (results : List (Option Bounds)) → AreSafe g functions bounds results → AllByRecursion (IsFunction g) functions
functions_typed g [] bounds results all = tt
functions_typed g (f ∷ functions) [] results all = absurd all
functions_typed g (f ∷ functions) (bs ∷ bounds) [] all = absurd all
functions_typed g (f ∷ functions) (bs ∷ bounds) (r ∷ results) all = (all.0.typed, functions_typed g functions bounds results all.1)

-- a program of two sides has types, and each of its functions is safe
pub record IsSafeProgram (program : Parted) : Type 0 where
  pub typed : IsTyped program
  pub functions : AreSafe (record { program = program; structs = typed.structs; bounds = typed.bounds; result_bounds = typed.result_bounds; object_bounds = typed.object_bounds }) program.functions typed.bounds typed.result_bounds
