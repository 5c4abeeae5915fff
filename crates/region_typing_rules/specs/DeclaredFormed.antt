-- Bounds that are declared for a local of a type are formed: a law.
use Rattle.std.specs.Prelude.{ℕ, ◌<◌, ◌≡◌, Option, None, Some, List, slice_get}
use Rattle.ckc_tree.specs.Expressions as e
use Rattle.bounds_exprs.specs.declared.term.Bounds.{Bounds}
use Rattle.pointer_modes.specs.declared.ctype.Mode.{Mode}
use Rattle.pointer_modes.specs.declared.ctype.Kind.{Kind}
use Rattle.pointer_modes.specs.Types.{CType, Pointer, Structure}
use Rattle.pointer_modes.specs.Layout.{size_of}
use Rattle.bounds_flow_meaning.specs.Holding.{AreInts}
use Rattle.region_typing_rules.specs.Verdicts.{Passes}
use Rattle.region_typing_rules.specs.Scopes.{Scope}
use Rattle.region_typing_rules.specs.Types.{Counts}
use Rattle.region_typing_rules.specs.KnownIsSo.{AreLimited}
use Rattle.region_typing_rules.specs.DeclaredBounds.{declared_bounds}

-- What is declared for a local of a type, where the locals have these types: the local is a pointer to elements that have bytes, the ends speak
-- of `int` locals, the base is a pointer of the same mode and element, and the constants are those of terms
pub record IsFormedFor (structs : List Structure) (types : List CType) (t : CType) (b : Bounds) : Type 0 where
  pub mode : Mode
  pub kind : Kind
  pub counts : Counts kind
  pub element : CType
  pub own : t ≡ Pointer mode kind element
  pub some : 0 < size_of structs element
  pub ints : AreInts types b
  pub base : (q : ℕ) → b.base ≡ Some q → (k : Kind) × (slice_get types q ≡ Some (Pointer mode k element))
  pub limited : AreLimited b

-- the bounds are, where there are any
abbrev pub IsFormedIf : List Structure → List CType → CType → Option Bounds → Type 0
IsFormedIf structs types t None = Unit {0}
IsFormedIf structs types t (Some b) = IsFormedFor structs types t b

-- where no rule is broken, what is declared is formed
abbrev pub DeclaredFormed : Type 0
DeclaredFormed = (s : Scope) (t : CType) (own : ℕ) (o : Option e.Bounds) (b : Option Bounds) → declared_bounds s t own o ≡ Passes b
    → IsFormedIf s.structs s.locals t b
