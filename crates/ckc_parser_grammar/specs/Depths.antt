-- Inside: whether a node is too deep.
use Rattle.std.specs.Prelude.{◌≡◌, ℕ, ◌<◌, ◌≤◌, Result, Ok, Err}
use Rattle.ckc_parser_grammar.specs.declared.stuck.Stuck.{Stuck}
use Rattle.ckc_parser_grammar.specs.declared.stuck.Stuck.TheVariants.{TooDeep}

-- what a function answers that refuses a node which starts at this byte, with so many nodes around it
abbrev pub MayStand : ℕ → ℕ → Result (Unit {0}) Stuck → Type 0
MayStand depth start (Ok done) = depth < 200
MayStand depth start (Err e) = (e ≡ TooDeep start) × (200 ≤ depth)
