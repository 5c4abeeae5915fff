-- Inside: bounds that are declared for a local.
use Rattle.std.specs.Prelude.{◌-◌, length, Option}
use Rattle.bounds_exprs.specs.declared.term.Bounds.{Bounds}
use Rattle.bounds_flow.specs.Flows.{entered}
use Rattle.region_typing_rules.specs.Scopes.{Scope}
use Rattle.region_typing_rules.specs.Knowing.{knowing}

-- the local that was added last has these bounds at its declaration, or none
abbrev pub last_declared : Option Bounds → Scope → Scope
last_declared bounds g = knowing (entered (length g.locals - 1) bounds g.flow) g
