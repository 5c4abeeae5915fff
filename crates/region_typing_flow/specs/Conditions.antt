-- What a flow asks of locals and terms.
use Rattle.std.specs.Prelude.{ℕ, ◌<◌, Option, Some, None}
use Rattle.bounds_exprs.specs.declared.term.Term.{Term}
use Rattle.bounds_flow.specs.Conditions.{IsTermWithin}

-- the local, where there is one, is below this number
abbrev pub IsLocalBelow : ℕ → Option ℕ → Type 0
IsLocalBelow vars None = Unit {0}
IsLocalBelow vars (Some local) = local < vars

-- the term, where there is one, is of a variable below this number, and its constant is small
abbrev pub IsTermSmall : ℕ → Option Term → Type 0
IsTermSmall vars None = Unit {0}
IsTermSmall vars (Some t) = IsTermWithin vars t
