-- Inside: the pointer that bounds are for and the place where they stand, as the rules see these.
use Rattle.std.specs.Prelude.{map, reverse}
use Rattle.pointer_modes.specs.Types.{ctype}
use Rattle.region_typing_rules.specs.Scopes.{Scope}
use Rattle.region_typing_rules.specs.DeclaredBounds.{Bounded}
use Rattle.region_typing_scope.specs.Views.{scope, visible}
use Rattle.region_typing_scope.specs.declared.names.Bounded as code
use Rattle.region_typing_scope.specs.declared.place.Place as code_place

abbrev pub bounded : code.Bounded → Bounded
bounded p = record { own = p.own; mode = p.mode; element = ctype p.element.now }

-- the locals of which bounds may speak are the ones of the place
abbrev pub place : code_place.Place → Scope
place p = record (scope p.scope.now) { locals = map ctype p.locals.now; visible = reverse (map visible p.visible.now) }
