-- Bounds over the parameters of a function that is called, and over the variables of its caller.
use Rattle.std.specs.Prelude.{ℕ, ◌≡◌, ℤ, List, Option, Some, None, slice_get, slice_index_or}
use Rattle.bounds_exprs.specs.declared.term.Term.{Term}
use Rattle.bounds_exprs.specs.declared.term.Bounds.{Bounds}
use Rattle.bounds_exprs.specs.Changes.{ends_filled_in}
use Rattle.pointer_modes.specs.Types.{Structure}
use Rattle.ckc_core.specs.States.{Number, Local, State, Grows, shapes}
use Rattle.ckc_core.specs.Bounds.{term_value}
use Rattle.bounds_flow_meaning.specs.Holding.{IsValid}

-- a parameter holds the number of a term of the caller
pub record HoldsTerm (x : ℕ) (t : Term) (caller callee : List Local) : Type 0 where
  pub number : ℤ
  pub local : Local
  pub is : term_value t caller ≡ Some number
  pub there : slice_get callee x ≡ Some local
  pub holds : local.value ≡ Number number

-- each parameter whose argument has a term holds its number
abbrev pub HoldTerms : List (Option Term) → List Local → List Local → Type 0
HoldTerms terms caller callee = (x : ℕ) (t : Term) → slice_index_or terms x None ≡ Some t → HoldsTerm x t caller callee

-- An argument that is valid with the bounds of its parameter, where terms stand for parameters, is valid with them in the function
-- that is called. What that gives back is valid in the caller with its bounds, where terms stand for parameters.
pub record CallKeepsValidity (structs : List Structure) (b d : Bounds) (l : Local) (caller callee : State) : Type 0 where
  pub enter : Grows (shapes caller.blocks) (shapes callee.blocks) → IsValid structs (Some d) l caller → IsValid structs (Some b) l callee
  pub back : Grows (shapes callee.blocks) (shapes caller.blocks) → IsValid structs (Some b) l callee → IsValid structs (Some d) l caller

abbrev pub CallsKeep : Type 0
CallsKeep = (structs : List Structure) (terms : List (Option Term)) (b d : Bounds) (l : Local) (caller callee : State) → b.base ≡ None
    → ends_filled_in terms b ≡ Some d → HoldTerms terms caller.locals callee.locals → CallKeepsValidity structs b d l caller callee
