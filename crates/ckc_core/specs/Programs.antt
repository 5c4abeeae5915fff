-- Programs over bodies of any kind.
use Rattle.std.specs.Prelude.{ℕ, Bool, false, List, [], ◌∷◌, Option}
use Rattle.std.proofs.Common.{ℤ}
use Rattle.pointer_modes.specs.Types.{CType}

-- a trusted function: how many of its locals are parameters, the types of all of them, what it returns, and its body
pub record FunctionOf (Body : Type 0) : Type 0 where
  pub name : List ℕ
  pub parameters : ℕ
  pub locals : List CType
  pub result : Option CType
  pub body : Body

-- a tainted function: its name, how many parameters it has, and what it returns
pub record Import : Type 0 where
  pub name : List ℕ
  pub parameters : ℕ
  pub result : Option CType

-- a function of a source on its side: trusted, with its body, or tainted
pub data Definition (Body : Type 0) : Type 0 where
  Trusted : (function : FunctionOf Body) → Definition Body
  Tainted : (import : Import) → Definition Body

-- those of each side, in their order
abbrev pub trusted_of : {Body : Type 0} → List (Definition Body) → List (FunctionOf Body)
trusted_of [] = []
trusted_of (Trusted f ∷ others) = f ∷ trusted_of others
trusted_of (Tainted i ∷ others) = trusted_of others

abbrev pub tainted_of : {Body : Type 0} → List (Definition Body) → List Import
tainted_of [] = []
tainted_of (Trusted f ∷ others) = tainted_of others
tainted_of (Tainted i ∷ others) = i ∷ tainted_of others

-- a cell of a file-level variable before the run: its type, the bytes from its first one to that of the next cell, or to the
-- variable's end, and its number; a pointer is null
pub record Initial : Type 0 where
  pub type : CType
  pub stride : ℕ
  pub number : ℤ

-- a file-level variable or a string before the run: its cells, whether a zero ends it, and whether no pointer leads to it
pub record Variable : Type 0 where
  pub cells : List Initial
  pub zero_ended : Bool
  pub is_sealed : Bool

-- one that pointers may lead to
abbrev pub open_variable : List Initial → Variable
open_variable cells = record { cells = cells; zero_ended = false; is_sealed = false }

-- a whole source: its file-level variables, its functions in the order in which they are first declared, and the number of `main`
-- among those that are trusted
pub record SourceOf (Body : Type 0) : Type 0 where
  pub objects : List Variable
  pub definitions : List (Definition Body)
  pub main : ℕ

-- a whole program of two sides: a call names a function by its number among those of its side
pub record ProgramOf (Body : Type 0) : Type 0 where
  pub objects : List Variable
  pub imports : List Import
  pub functions : List (FunctionOf Body)
  pub main : ℕ

-- the two sides of a source
abbrev pub parted : {Body : Type 0} → SourceOf Body → ProgramOf Body
parted s = record { objects = s.objects; imports = tainted_of s.definitions; functions = trusted_of s.definitions; main = s.main }
