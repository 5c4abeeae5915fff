-- Structs and members to try definitions on.
use Rattle.std.specs.Prelude.{ℕ, ◌+◌, false, List, [], ◌∷◌, map, Option, Some}
use Rattle.ckc_text.specs.declared.code.Code.{Code}
use Rattle.ckc_text.specs.declared.fault.SourceFault.{SourceFault}
use Rattle.pointer_modes.specs.Types.{CType, Member, Structure}
use Rattle.pointer_modes.specs.Layout.{Cell}

-- a member with a name of one byte, declared by the one byte at a place
abbrev pub named : ℕ → CType → ℕ → Member
named byte t place = record { name = byte ∷ []; ctype = t; span = record { from = place; to = place + 1 } }

-- one struct, whose members have these types
abbrev pub consisting_of : List CType → List Structure
consisting_of types = (record { tainted = false; members = map (λ t. named 0 t 0) types }) ∷ []

-- a cell at a byte place
abbrev pub cell : ℕ → ℕ → Cell
cell offset size = record { offset = offset; size = size }

-- a fault at the member that is declared at a place
abbrev pub fault : Code → ℕ → Option SourceFault
fault code place = Some (record { code = code; span = record { from = place; to = place + 1 } })
