-- Types as plain data, which definitions speak of, and the view from the types of the code to them.
use Rattle.std.specs.Prelude.{ℕ, Bool, true, false, List, [], Option, Some, None, slice_get}
use Rattle.ckc_text.specs.declared.place.Span.{Span}
use Rattle.pointer_modes.specs.declared.ctype as code
use Rattle.pointer_modes.specs.declared.ctype.Mode.{Mode}
use Rattle.pointer_modes.specs.declared.ctype.Mode.TheVariants as modes
use Rattle.pointer_modes.specs.declared.ctype.Kind.{Kind}
use Rattle.pointer_modes.specs.declared.ctype.CType.TheVariants as ctypes

-- a type; structs are numbered from 0
pub data CType : Type 0 where
  Int : CType
  Char : CType
  Struct : (number : ℕ) → CType
  Pointer : (mode : Mode) (kind : Kind) (target : CType) → CType

-- a pointer into trusted memory
abbrev pub is_checked_pointer : CType → Bool
is_checked_pointer (Pointer modes.Checked kind target) = true
is_checked_pointer (Pointer modes.Tainted kind target) = false
is_checked_pointer (Pointer modes.Raw kind target) = false
is_checked_pointer Int = false
is_checked_pointer Char = false
is_checked_pointer (Struct number) = false

-- a member of a struct
pub record Member : Type 0 where
  pub name : List ℕ
  pub ctype : CType
  pub span : Span

-- a declared struct, which has no members before they are given
pub record Structure : Type 0 where
  pub tainted : Bool
  pub members : List Member

-- the type that a value of the code's type stands for
abbrev pub ctype : code.CType.CType → CType
ctype ctypes.Int = Int
ctype ctypes.Char = Char
ctype (ctypes.Struct number) = Struct number
ctype (ctypes.Pointer' mode kind p target) = Pointer mode kind (ctype target)

-- the member
abbrev pub member : code.Member.Member → Member
member m = record { name = m.name; ctype = ctype m.ctype; span = m.span }

-- the members of the struct of a number, and none where no struct has it
abbrev pub members_of : List Structure → ℕ → List Member
members_of structs number = members (slice_get structs number)
  where
    members : Option Structure → List Member
    members None = []
    members (Some s) = s.members

-- the struct of a number is declared as tainted
abbrev pub is_tainted : List Structure → ℕ → Bool
is_tainted structs number = tainted (slice_get structs number)
  where
    tainted : Option Structure → Bool
    tainted None = false
    tainted (Some s) = s.tainted
