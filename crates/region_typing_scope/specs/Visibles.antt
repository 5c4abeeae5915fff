-- Inside: locals that are visible, and the one that a search finds.
use Rattle.std.specs.Prelude.{ℕ, List, slice_get, Option, Some, None}
use Rattle.pointer_modes.specs.Types.{CType}
use Rattle.region_typing_rules.specs.Scopes.{Named, Visible, local_if}
use Rattle.region_typing_scope.specs.declared.visible.Visible as code

abbrev pub visible : code.Visible → Visible
visible v = record { name = v.name; local = v.local }

-- the local that is found
abbrev pub local_at : List CType → Option ℕ → Option Named
local_at types None = None
local_at types (Some local) = local_if (slice_get types local) local
