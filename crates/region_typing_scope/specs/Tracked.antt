-- Inside: flows of as many variables.
use Rattle.std.specs.Prelude.{◌≡◌, ℕ, Option, None, Some}
use Rattle.bounds_flow.specs.Flows.{Knowledge}

-- how many variables a flow has, if there is one
abbrev pub vars_or : ℕ → Option Knowledge → ℕ
vars_or vars None = vars
vars_or vars (Some f) = f.vars

-- the flow, if there is one, has so many variables
abbrev pub HasVars : ℕ → Option Knowledge → Type 0
HasVars vars f = vars_or vars f ≡ vars
