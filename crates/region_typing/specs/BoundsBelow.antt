-- Inside: that bounds speak of variables below a number has one proof at most.
use Rattle.std.proofs.Common.{ℕ, Option, Some, None}
use Rattle.std.proofs.Props.{props}
use Rattle.bounds_exprs.specs.declared.term.Bounds.{Bounds}
use Rattle.bounds_flow.specs.Conditions.{AreBoundsBelow, AreEndsBelow}
use Rattle.subsumption.specs.Facts.{IsBelow}

variable_prop : (n : ℕ) (o : Option ℕ) → IsProp (IsBelow n o)
variable_prop n None = Prim.hlevel props
variable_prop n (Some x) = Prim.hlevel props

ends_prop : (n : ℕ) (b : Bounds) → IsProp (AreEndsBelow n b)
ends_prop n b = Prim.hlevel (props, variable_prop)

pub bounds_prop : (n : ℕ) (o : Option Bounds) → IsProp (AreBoundsBelow n o)
bounds_prop n None = Prim.hlevel props
bounds_prop n (Some b) = ends_prop n b
