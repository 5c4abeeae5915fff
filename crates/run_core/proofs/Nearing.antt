-- An act lowers the actor's measure while the turn goes on, and at its end fewer moves are left.
use Rattle.std.proofs.Common.{ℕ, ◌<◌, ◌≤◌, ⊎_elim, arith}
use Rattle.act_words.specs.declared.act.Turn.{Turn}
use Rattle.act_words.specs.declared.act.Turn.TheVariants as turns
use Rattle.act_words.specs.Acts.{Act, Go, Read, Write, Call, Return, Stop}
use Rattle.code_words.specs.Left.{LeavesTurn}
use Rattle.sandbox_actor.specs.Answers.{Lowers}
use Rattle.two_memory_machine.specs.Machines.{Machine, Sooner, moves_left, turn_of}
use Rattle.run_core.specs.declared.play.Progressed.{Progressed}
use Rattle.run_core.specs.declared.play.Progressed.TheVariants as progressed
use Rattle.run_core.specs.Progress.{IsAsked, IsOnward, FallsUnless, NearsBy, Nears, ending_in}

-- an act that leaves the turn lowers the measure
pub lowers_by : (turn : Turn) (act : Act) (before after : ℕ) → Lowers turn act before after → LeavesTurn act turn → after < before
lowers_by turns.Trusted Go before after h leaves = absurd leaves
lowers_by turns.Sandbox Go before after h leaves = h
lowers_by turns.Trusted (Read at len) before after h leaves = h
lowers_by turns.Sandbox (Read at len) before after h leaves = h
lowers_by turns.Trusted (Write at bytes) before after h leaves = h
lowers_by turns.Sandbox (Write at bytes) before after h leaves = h
lowers_by turn (Call fun args) before after h leaves = absurd leaves
lowers_by turn (Return value) before after h leaves = absurd leaves
lowers_by turn Stop before after h leaves = absurd leaves

pub act_nears : (p : Progressed) (act : Act) (old new : Machine) (before after : ℕ) → NearsBy act p old new → Lowers (turn_of old.doing) act before after → Nears p old new before after
act_nears progressed.Stays act old new before after near lowers = (near.0, near.1, lowers_by (turn_of old.doing) act before after lowers near.2)
act_nears progressed.Moves act old new before after near lowers = near
act_nears (progressed.Ends ending) act old new before after near lowers = tt

pub none_nears : (p : Progressed) (old new : Machine) (before after : ℕ) → IsOnward p → FallsUnless (ending_in p) old new → Nears p old new before after
none_nears progressed.Stays old new before after onward falls = absurd onward
none_nears progressed.Moves old new before after onward falls = falls
none_nears (progressed.Ends ending) old new before after onward falls = tt

-- where the turn goes on, as many moves may be left; where it doesn't, fewer are
pub no_more : (act : Act) (old new : Machine) → Sooner act old new → moves_left new ≤ moves_left old
no_more act old new sooner = ⊎_elim (λ less. omega (arith, less)) (λ same. omega (arith, same.0)) sooner

pub fewer : (act : Act) (old new : Machine) → (IsAsked new → LeavesTurn act (turn_of old.doing) → ⊥) → Sooner act old new → moves_left new < moves_left old
fewer act old new not sooner = ⊎_elim (λ less. less) (λ same. absurd (not (record { waits = same.1 }) same.2)) sooner
