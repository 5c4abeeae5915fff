-- What is known of a program while it is walked: its structs, its functions, its file-level variables, and the locals of
-- the function that is walked. Names are numbers here.
use Rattle.std.specs.Prelude.{ℕ, suc, Bool, true, false, ◌==◌, List, [], ◌∷◌, Option, Some, None, position, slice_get, slice_index_or}
use Rattle.ckc_tree.specs.declared.item.FunctionKind.{FunctionKind}
use Rattle.pointer_modes.specs.Types.{CType, Structure}
use Rattle.ckc_names_rules.specs.declared.given.Given.{Given}
use Rattle.bounds_exprs.specs.declared.term.Bounds.{Bounds}
use Rattle.bounds_flow.specs.Flows.{Knowledge}
use Rattle.region_typing_rules.specs.Verdicts.{Verdict, meant, picked}
use Rattle.region_typing_rules.specs.Strings.{Strings}

-- what is written for bounds: nothing, that they are unknown, or bounds
abbrev pub WrittenBounds : Type 0
WrittenBounds = Option (Option Bounds)

-- the bounds that are written
abbrev pub bounds_in : WrittenBounds → Option Bounds
bounds_in None = None
bounds_in (Some bounds) = bounds

-- a declared function: its name and how that is written, its kind, its parameters, and what it returns, with what is written for their bounds
pub record Signature : Type 0 where
  pub name : ℕ
  pub text : List ℕ
  pub kind : FunctionKind
  pub parameters : List CType
  pub bounds : List WrittenBounds
  pub result : Option CType
  pub result_bounds : WrittenBounds

-- a file-level variable; an array has so many elements of the type, of which the last one may be the zero that ends it, and a pointer may have
-- bounds that are written for it
pub record FileVariable : Type 0 where
  pub name : ℕ
  pub type : CType
  pub length : Option ℕ
  pub ended : Bool
  pub bounds : WrittenBounds

-- a local that is visible: its name, and its number in its function
pub record Visible : Type 0 where
  pub name : ℕ
  pub local : ℕ

pub record Scope : Type 0 where
  -- the names that have a meaning in every program
  pub given : Given
  -- the tags of structs in the order of their declarations, the names of their members, and the structs
  pub tags : List ℕ
  pub members : List (List ℕ)
  pub structs : List Structure
  -- functions in the order in which their names are first declared
  pub functions : List Signature
  pub variables : List FileVariable
  pub strings : Strings
  -- the types of all locals of the function so far, those of them that are arrays, and those that are visible, the innermost first
  pub locals : List CType
  pub arrays : List ℕ
  pub visible : List Visible
  -- what the function returns and the bounds that this is asked for, whether a loop is around and how many locals there are outside of it, and
  -- whether the region is unchecked
  pub result : Option CType
  pub result_bounds : Option Bounds
  pub in_loop : Bool
  pub outside : ℕ
  pub is_off : Bool
  -- what is known where the walk stands, and at the `break`s and the `continue`s of the innermost loop so far
  pub flow : Knowledge
  pub breaks : Option Knowledge
  pub continues : Option Knowledge

-- what a name stands for as an expression
pub data Named : Type 0 where
  Local : (local : ℕ) (type : CType) → Named
  -- a file-level variable, with the bounds that are written for it
  Object : (object : ℕ) (type : CType) (bounds : WrittenBounds) → Named
  -- an array of so many elements, which a zero ends or not
  Array : (object : ℕ) (type : CType) (length : ℕ) (ended : Bool) → Named
  -- `NULL`
  Nothing : Named

abbrev pub local_if : Option CType → ℕ → Option Named
local_if None local = None
local_if (Some type) local = Some (Local local type)

abbrev pub found_if : Bool → Option Named → Option Named → Option Named
found_if true this other = this
found_if false this other = other

-- the innermost local of a name
abbrev pub local_named : List CType → List Visible → ℕ → Option Named
local_named types [] name = None
local_named types (v ∷ visible) name = found_if (name == v.name) (local_if (slice_get types v.local) v.local) (local_named types visible name)

abbrev pub object_of : ℕ → FileVariable → Option ℕ → Named
object_of number v None = Object number v.type v.bounds
object_of number v (Some length) = Array number v.type length v.ended

-- the file-level variable of a name, where the first of these has a number
abbrev pub object_named : ℕ → List FileVariable → ℕ → Option Named
object_named number [] name = None
object_named number (v ∷ variables) name = found_if (name == v.name) (Some (object_of number v v.length)) (object_named (suc number) variables name)

abbrev pub or_else : Option Named → Option Named → Option Named
or_else (Some this) other = Some this
or_else None other = other

abbrev pub null_named : Given → ℕ → Option Named
null_named given name = found_if (name == given.null) (Some Nothing) None

-- what a name stands for: a local, else a file-level variable, else `NULL`
abbrev pub named : Scope → ℕ → Verdict Named
named s name = meant (or_else (local_named s.locals s.visible name) (or_else (object_named 0 s.variables name) (null_named s.given name)))

abbrev pub function_named : List Signature → ℕ → Option Signature
function_named [] name = None
function_named (f ∷ functions) name = picked (name == f.name) (Some f) (function_named functions name)

-- the number of a struct
abbrev pub struct_named : Scope → ℕ → Option ℕ
struct_named s tag = position (λ other. tag == other) s.tags

-- the names of the members of a struct
abbrev pub members_named : Scope → (struct : ℕ) → List ℕ
members_named s struct = slice_index_or s.members struct []
