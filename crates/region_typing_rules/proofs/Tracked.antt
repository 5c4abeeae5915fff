-- The bounds that an assignment takes from an expression speak of the flow's variables alone, so none are lost for want of them.
use Rattle.std.proofs.Common.{◌≡◌, ℕ, Bool, true, false, List, Option, Some, None, refl, subst, arith}
use Rattle.std.proofs.lemmas.Bool.{and_from}
use Rattle.std.proofs.lemmas.Bool.Decides.{nat_tests}
use Rattle.ckc_tree.specs.Expressions.{Expression}
use Rattle.pointer_modes.specs.declared.ctype.Kind.{Kind}
use Rattle.pointer_modes.specs.declared.ctype.Kind.TheVariants as kinds
use Rattle.pointer_modes.specs.Types.{CType, Int, Char, Struct, Pointer, Structure}
use Rattle.bounds_exprs.specs.declared.term.Bounds.{Bounds}
use Rattle.bounds_exprs.specs.Normal.{is_same}
use Rattle.subsumption.specs.Facts.{IsBelow}
use Rattle.bounds_flow.specs.Conditions.{AreEndsBelow, AreBoundsBelow}
use Rattle.ckc_core.specs.declared.program.PointerBounds.{PointerBounds}
use Rattle.ckc_core.specs.Core as core
use Rattle.ckc_core.specs.Meaning.{bounds_of}
use Rattle.region_typing_rules.specs.Verdicts.{picked}
use Rattle.region_typing_rules.specs.Scopes.{Scope}
use Rattle.region_typing_rules.specs.Readings.{own_bounds, based_bounds}
use Rattle.region_typing_rules.specs.Operands.{Places, Typed, Value, AStruct}
use Rattle.region_typing_rules.specs.Expressions.{typed}
use Rattle.region_typing_rules.specs.Knowing.{is_below, are_below, given_from, given_bounds}
use Rattle.region_typing_rules.specs.Typed.{Frame}
use Rattle.region_typing_rules.proofs.Verdicts.{Promises, promised_so}
use Rattle.region_typing_rules.proofs.Knowledge.{Knows}
use Rattle.region_typing_rules.proofs.Nodes.{AreCounted, IsRow}
use Rattle.region_typing_rules.proofs.Operands.{Fits}
use Rattle.region_typing_rules.proofs.Expressions.{typed_promises}

end_below : (vars : ℕ) (var : Option ℕ) → IsBelow vars var → is_below vars var ≡ true
end_below vars None h = refl
end_below vars (Some x) h = grind (arith, nat_tests)

ends_below : (vars : ℕ) (b : Bounds) → AreEndsBelow vars b → are_below vars b ≡ true
ends_below vars b h = and_from (is_below vars b.lo.var) (is_below vars b.hi.var) (end_below vars b.lo.var h.lo) (end_below vars b.hi.var h.hi)

own_below : (structs : List Structure) (vars : ℕ) (kind : Kind) (t : CType) (value : core.Expression) → IsRow structs vars kind t value → AreBoundsBelow vars (own_bounds value)
own_below structs vars kind t value row = by (bounds_of value) refl row.own
  where
    by : (o : Option PointerBounds) → bounds_of value ≡ o → AreCounted structs vars kind t o → AreBoundsBelow vars (own_bounds value)
    by None e counted = rw e tt
    by (Some p) e counted = rw e counted.below

based_below : (structs : List Structure) (vars : ℕ) (kind : Kind) (t : CType) (value : core.Expression) → IsRow structs vars kind t value → AreBoundsBelow vars (based_bounds value)
based_below structs vars kind t value row = by (based_bounds value) refl
  where
    by : (o : Option Bounds) → based_bounds value ≡ o → AreBoundsBelow vars (based_bounds value)
    by None e = rw e tt
    by (Some b) e = rw e (row.based b e)

picked_below : (vars : ℕ) (test : Bool) (a b : Option Bounds) → AreBoundsBelow vars a → AreBoundsBelow vars b → AreBoundsBelow vars (picked test a b)
picked_below vars true a b h h' = h
picked_below vars false a b h h' = h'

from_below : (vars : ℕ) (base : Option ℕ) (based own : Option Bounds) → AreBoundsBelow vars based → AreBoundsBelow vars own → AreBoundsBelow vars (given_from base based own)
from_below vars base None own h h' = h'
from_below vars base (Some b) own h h' = picked_below vars (is_same base b.base) (Some b) own h h'

given_below : (vars : ℕ) (declared : Option Bounds) (value : core.Expression) → AreBoundsBelow vars (based_bounds value) → AreBoundsBelow vars (own_bounds value) → AreBoundsBelow vars (given_bounds declared value)
given_below vars None value h h' = h'
given_below vars (Some d) value h h' = from_below vars d.base (based_bounds value) (own_bounds value) h h'

-- bounds that are given with a pointer speak of the flow's variables, whatever is declared where it is assigned
abbrev pub AreTracked : Scope → Typed → Type 0
AreTracked s (Value (Pointer mode kinds.Array target) zero value place) = (declared : Option Bounds) (b : Bounds) → given_bounds declared value ≡ Some b → are_below s.flow.vars b ≡ true
AreTracked s (Value (Pointer mode kinds.Nt target) zero value place) = (declared : Option Bounds) (b : Bounds) → given_bounds declared value ≡ Some b → are_below s.flow.vars b ≡ true
AreTracked s _ = Unit {0}

row_tracked : (structs : List Structure) (vars : ℕ) (kind : Kind) (t : CType) (value : core.Expression) → IsRow structs vars kind t value → (declared : Option Bounds) (b : Bounds) → given_bounds declared value ≡ Some b → are_below vars b ≡ true
row_tracked structs vars kind t value row declared b e =
    ends_below vars b (subst (AreBoundsBelow vars) e (given_below vars declared value (based_below structs vars kind t value row) (own_below structs vars kind t value row)))

fitting_tracked : (g : Frame) (types : List CType) (s : Scope) (t : Typed) → Fits g types s t → AreTracked s t
fitting_tracked g types s (Value Int zero value place) h = tt
fitting_tracked g types s (Value Char zero value place) h = tt
fitting_tracked g types s (Value (Struct n) zero value place) h = tt
fitting_tracked g types s (Value (Pointer m kinds.One t) zero value place) h = tt
fitting_tracked g types s (Value (Pointer m kinds.Array t) zero value place) h = row_tracked g.structs s.flow.vars kinds.Array t value h.node
fitting_tracked g types s (Value (Pointer m kinds.Nt t) zero value place) h = row_tracked g.structs s.flow.vars kinds.Nt t value h.node
fitting_tracked g types s (AStruct n place) h = tt

-- and so do those of each expression that breaks no rule
pub tracked : (g : Frame) (types : List CType) (s : Scope) → Knows g types s → (at : Places) (x : Expression) → Promises (AreTracked s) (typed at s x)
tracked g types s knows at x = promised_so (Fits g types s) (AreTracked s) (typed at s x) (typed_promises g types s knows at x) (fitting_tracked g types s)
