-- Inside: functions whose names differ.
use Rattle.std.specs.Prelude.{◌≡◌, Bool, true, not, ◌&&◌, List, [], ◌∷◌, is_some, None}
use Rattle.region_typing_rules.specs.Scopes.{Signature, function_named}

-- no two functions have one name
abbrev pub are_distinct : List Signature → Bool
are_distinct [] = true
are_distinct (f ∷ functions) = not (is_some (function_named functions f.name)) && are_distinct functions

abbrev pub Distinct : List Signature → Type 0
Distinct [] = Unit {0}
Distinct (f ∷ functions) = (function_named functions f.name ≡ None) × Distinct functions
