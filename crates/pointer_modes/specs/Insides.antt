-- What callers see of the declared structs, and what is always true of them.
use Rattle.std.specs.Prelude.{◌≤◌, List, All, length, map}
use Rattle.pointer_modes.specs.declared.structs.Declared.{Declared}
use Rattle.pointer_modes.specs.declared.structs.Structs.TheInside.{Inside}
use Rattle.pointer_modes.specs.Types.{Structure, member}

-- a declared struct
abbrev pub structure : Declared → Structure
structure s = record { tainted = s.tainted; members = map member s.members.items }

-- all of them
abbrev pub structs : Inside → List Structure
structs s = map structure s.items.items

-- none has more members than 64
abbrev pub AreSmall : Inside → Type 0
AreSmall s = All (λ d. length d.members.items ≤ 64) s.items.items
