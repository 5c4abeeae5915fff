-- The end that a value of the code's type is.
use Rattle.bounds_exprs.specs.declared.normalize.Place.{Place}
use Rattle.bounds_exprs.specs.Normal.{End}

-- the end
abbrev pub end_here : Place → End
end_here place = record { pointer = place.pointer; offset = place.offset }
