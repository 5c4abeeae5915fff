-- Inside: why a form isn't read.
use Rattle.std.specs.Prelude.{◌≤◌, ◌+◌, ℕ, List}
use Rattle.ckc_lexer.specs.declared.token.Token.{Token}
use Rattle.ckc_tree.specs.Heights.{Reach}

-- a token before which the form can't end and with which it can't go on, or the end; a node that is too deep, by its start; no memory
pub data Failure : Type 0 where
  unexpected : (at : List Token) → Failure
  too_deep : (start : ℕ) → Failure
  no_memory : Failure

-- with so many nodes around it, no node of a form with this reach is deeper than 200
abbrev pub IsLow : ℕ → Reach → Type 0
IsLow d r = d + r.height ≤ 200
