-- What is known behind a condition that came out so is so.
use Rattle.std.specs.Prelude.{ℕ, ◌≤◌, Bool, List, length}
use Rattle.pointer_modes.specs.Types.{CType}
use Rattle.bounds_flow.specs.Conditions.{IsFlow}
use Rattle.bounds_flow_meaning.specs.Zeros.{EndInZeros}
use Rattle.ckc_core.specs.States.{State}
use Rattle.ckc_core.specs.Steps.{truth}
use Rattle.ckc_core.specs.Meaning.{Setting, knot, value}
use Rattle.ckc_core.specs.Core.{Expression}
use Rattle.region_typing_rules.specs.Scopes.{Scope}
use Rattle.region_typing_rules.specs.Knowing.{when}
use Rattle.region_typing_rules.specs.KnownIsSo.{HasLocals, IsKnown, WhereGiven}
use Rattle.region_typing_rules.specs.Typed.{Frame, HasType}

-- of a condition that has a type, where null-terminated blocks end in zeros
abbrev pub ConditionsAreSo : Type 0
ConditionsAreSo = (frame : Frame) (types : List CType) (g : Scope) (c : Expression) (t : CType) → HasType frame types g c t
    → IsFlow g.flow → length g.locals ≤ g.flow.vars → (audited : Bool) (setting : Setting) (ticks : ℕ)
    (s : State) → HasLocals g.locals s → EndInZeros s.blocks → IsKnown frame.structs g s
    → WhereGiven (λ v u. IsKnown frame.structs (when c (truth v) g) u) (value audited setting (knot audited setting ticks) c s)
