-- The parameters of callbacks.
use Rattle.std.specs.Prelude.{ℕ, ◌<◌, ◌≤◌, List, length, Option, Some, None, All}
use Rattle.marshalling.specs.declared.kind.WordKind.{WordKind}
use Rattle.marshalling.specs.declared.kind.WordKind.TheVariants as kinds
use Rattle.marshalling.specs.declared.signature.Region.{Region}
use Rattle.marshalling.specs.declared.signature.Param.{Param}

-- the number of a parameter, if there is one
abbrev pub IsBelow : ℕ → Option ℕ → Type 0
IsBelow count None = Unit {0}
IsBelow count (Some number) = number < count

-- a pointer of so many parameters has bounds over these parameters alone; its elements have a size
pub record IsRegionAmong (count : ℕ) (r : Region) : Type 0 where
  pub base : r.base < count
  pub low : IsBelow count r.lo_var
  pub high : IsBelow count r.hi_var
  pub size : 1 ≤ r.size

-- what may stand among so many parameters
abbrev pub IsParameterOf : ℕ → WordKind → Option Region → Type 0
IsParameterOf count kinds.Void region = ⊥
IsParameterOf count kinds.Pointer None = Unit {0}
IsParameterOf count kinds.Pointer (Some region) = IsRegionAmong count region
IsParameterOf count kinds.Int None = Unit {0}
IsParameterOf count kinds.Int (Some region) = ⊥
IsParameterOf count kinds.Char None = Unit {0}
IsParameterOf count kinds.Char (Some region) = ⊥

-- the parameters of a callback: at most as many as a call has words, each as it may stand among them
pub record IsSignature (params : List Param) : Type 0 where
  pub few : length params ≤ 16
  pub parameters : All (λ (p : Param). IsParameterOf (length params) p.kind p.region) params
