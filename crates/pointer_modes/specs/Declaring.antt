-- Which structs may be declared, and which members they may be given.
use Rattle.std.specs.Prelude.{◌≡◌, ℕ, zero, suc, ◌<◌, ◌≤◌, Bool, true, false, ◌||◌, bytes_eq, List, [], ◌∷◌, ◌++◌, length, Option, Some, None}
use Rattle.std.specs.Prelude.{Result, Ok, Err, slice_get}
use Rattle.ckc_text.specs.declared.place.Span.{Span}
use Rattle.ckc_text.specs.declared.code.Code.{Code}
use Rattle.ckc_text.specs.declared.code.Code.TheVariants.{E08, E11, E27}
use Rattle.ckc_text.specs.declared.fault.SourceFault.{SourceFault}
use Rattle.ckc_text.specs.declared.fault.Refused.{Refused}
use Rattle.ckc_text.specs.declared.fault.Refused.TheVariants.{Source, NoMemory}
use Rattle.pointer_modes.specs.Types.{CType, Int, Char, Struct, Pointer, Member, Structure}

-- a struct that was just declared
abbrev pub declared : Bool → Structure
declared tainted = record { tainted = tainted; members = [] }

-- what a declaration answers: the next number, or a refusal where 4,096 structs are declared, which changes nothing
abbrev pub Declares : List Structure → Bool → Span → Result ℕ Refused → List Structure → Type 0
Declares old tainted span (Ok number) new = (length old < 4096) × (number ≡ length old) × (new ≡ old ++ declared tainted ∷ [])
Declares old tainted span (Err (Source fault)) new = (4096 ≤ length old) × (fault ≡ record { code = E08; span = span }) × (new ≡ old)
Declares old tainted span (Err NoMemory) new = (length old < 4096) × (new ≡ old)

-- a name is that of one of the members
abbrev pub is_named : List ℕ → List Member → Bool
is_named name [] = false
is_named name (m ∷ members) = bytes_eq name m.name || is_named name members

abbrev pub is_struct : CType → Bool
is_struct Int = false
is_struct Char = false
is_struct (Struct number) = true
is_struct (Pointer mode kind target) = false

-- the place of a member that a test finds, or else of one behind it
abbrev pub found_or : Bool → Member → Option Span → Option Span
found_or true m later = Some m.span
found_or false m later = later

-- the place of the first member that a test finds, which sees the member and all that stand before it
abbrev pub first_where : (List Member → Member → Bool) → List Member → List Member → Option Span
first_where test before [] = None
first_where test before (m ∷ members) = found_or (test before m) m (first_where test (before ++ m ∷ []) members)

-- the first member whose name stands before it
abbrev pub first_twice : List Member → Option Span
first_twice members = first_where (λ before m. is_named m.name before) [] members

-- the first member that is a struct
abbrev pub first_struct : List Member → Option Span
first_struct members = first_where (λ before m. is_struct m.ctype) [] members

-- the 65th member
abbrev pub one_too_many : List Member → Option Span
one_too_many members = place (slice_get members 64)
  where
    place : Option Member → Option Span
    place None = None
    place (Some m) = Some m.span

-- the fault that is first of a kind, where there is one, and else another fault, where there is that
abbrev pub fault_or : Code → Option Span → Option SourceFault → Option SourceFault
fault_or code None other = other
fault_or code (Some span) other = Some (record { code = code; span = span })

-- what is wrong with the members of a struct, if anything is: there is a 65th, a name stands twice, or one is a struct
abbrev pub members_fault : List Member → Option SourceFault
members_fault members = fault_or E08 (one_too_many members) (fault_or E11 (first_twice members) (fault_or E27 (first_struct members) None))

-- the structs, where that of a number has members
abbrev pub with_members : List Structure → ℕ → List Member → List Structure
with_members [] number members = []
with_members (s ∷ structs) zero members = (record s { members = members }) ∷ structs
with_members (s ∷ structs) (suc number) members = s ∷ with_members structs number members

-- what giving members answers: it is done, or refused for the fault, which changes nothing; it takes no memory
abbrev pub Adds : List Structure → ℕ → List Member → Result (Unit {0}) Refused → List Structure → Type 0
Adds old number members (Ok done) new = (members_fault members ≡ None) × (new ≡ with_members old number members)
Adds old number members (Err (Source fault)) new = (members_fault members ≡ Some fault) × (new ≡ old)
Adds old number members (Err NoMemory) new = ⊥

-- what a test of the members answers
abbrev pub MayBe : List Member → Result (Unit {0}) Refused → Type 0
MayBe members (Ok done) = members_fault members ≡ None
MayBe members (Err (Source fault)) = members_fault members ≡ Some fault
MayBe members (Err NoMemory) = ⊥
