-- Inside: parameters, as the code holds them.
use Rattle.std.specs.Prelude.{◌≡◌, ℕ, Bool, false, ◌||◌, List, [], ◌∷◌, map, reverse, is_some}
use Rattle.std.specs.List.{All}
use Rattle.ckc_tree.specs.Items.{Member}
use Rattle.pointer_modes.specs.Types.{ctype}
use Rattle.bounds_flow.specs.Conditions.{AreBoundsBelow}
use Rattle.region_typing_rules.specs.Scopes.{Scope, WrittenBounds, bounds_in}
use Rattle.region_typing_rules.specs.Items.{Parameter, types_ahead, seen_parameters}
use Rattle.region_typing_scope.specs.Views.{visible}
use Rattle.region_typing.specs.declared.prototype.TypedParameter as code
use Rattle.region_typing.specs.declared.prototype.Heading as code_heading
use Rattle.region_typing.specs.declared.parameters.Among as code_among

abbrev pub parameter : code.TypedParameter → Parameter
parameter p = record { name = p.name; type = ctype p.ctype; bounds = p.bounds }

-- parameters, and what is written for the bounds of the result
abbrev pub heading : code_heading.Heading → List Parameter × WrittenBounds
heading h = (map parameter h.parameters.items, h.bounds)

-- the bounds of parameters speak of so many parameters alone
abbrev pub AreOver : ℕ → List code.TypedParameter → Type 0
AreOver n ps = All (λ p. AreBoundsBelow n (bounds_in p.bounds)) ps

-- whether bounds are written for one of the parameters
abbrev pub any_bounds : List Member → Bool
any_bounds [] = false
any_bounds (p ∷ ps) = is_some p.bounds || any_bounds ps

-- the types of all parameters before the rules of these are asked, and their names
pub record IsAmong (g : Scope) (all : List Member) (a : code_among.Among) : Type 0 where
  pub types : map ctype a.types.items ≡ types_ahead g all
  pub names : reverse (map visible a.visible.items) ≡ seen_parameters 0 all
