-- What becomes of all pointers at once (*inside*).
use Rattle.std.specs.Prelude.{Bool, List}
use Rattle.bounds_flow.specs.declared.held.Held.{Held}
use Rattle.bounds_flow.specs.declared.changes.Change.{Change}
use Rattle.bounds_flow.specs.declared.changes.Change.TheVariants.{Shift, Number, Base, Leave, Head, Settle}
use Rattle.bounds_flow.specs.Conditions.{IsSmall}
use Rattle.bounds_flow.specs.Pointers.{after_shift, after_number, after_base, after_leaving, with_declared, settled_pointer}

-- what a change makes of one
abbrev pub changed : List Bool → Change → Held → Held
changed assigned (Shift x c) h = after_shift x c h
changed assigned (Number x) h = after_number x assigned h
changed assigned (Base p moved) h = after_base p moved h
changed assigned (Leave x) h = after_leaving x h
changed assigned Head h = with_declared h
changed assigned Settle h = settled_pointer h

-- the constant of the change isn't too large to be subtracted
abbrev pub IsChangeSmall : Change → Type 0
IsChangeSmall (Shift x c) = Unit {0}
IsChangeSmall (Number x) = Unit {0}
IsChangeSmall (Base p moved) = IsSmall moved
IsChangeSmall (Leave x) = Unit {0}
IsChangeSmall Head = Unit {0}
IsChangeSmall Settle = Unit {0}
