-- What an actor is asked and what it answers, as plain data, and what each answer leaves.
use Rattle.std.specs.Prelude.{◌≡◌, ◌<◌, ℕ, Option, option_map, Result, Ok, Err}
use Rattle.ckc_text.specs.declared.code.Code.{Code}
use Rattle.ckc_io.specs.Counts.{Rises}
use Rattle.act_words.specs.declared.act as code
use Rattle.act_words.specs.declared.act.Turn.{Turn}
use Rattle.act_words.specs.declared.act.Turn.TheVariants.{Trusted, Sandbox}
use Rattle.act_words.specs.Acts.{Act, Go, Read, Write, Call, Return, Stop, Seen, act_view, seen_view}
use Rattle.sandbox_actor.specs.declared.actor.Now.{Now}
use Rattle.sandbox_actor.specs.declared.actor.ActorFault.{ActorFault}
use Rattle.sandbox_actor.specs.declared.actor.ActorFault.TheVariants as faults

-- when an actor is asked: whose turn it is, and what the sandbox was shown last
pub record Moment : Type 0 where
  pub turn : Turn
  pub last : Option Seen

abbrev pub moment_of : Now → Moment
moment_of now = record { turn = now.turn; last = option_map seen_view now.last }

-- what an actor can answer
pub data Answer : Type 0 where
  -- an act
  Gives : (act : Act) → Answer
  -- no act is left
  Ended : Answer
  -- the line of this number is refused
  Refused : (line : ℕ) (code : Code) → Answer
  -- the actor's file isn't there
  Missing : Answer

-- the answer is one that may come, with the state behind it. A failed device and want of memory are no answers
abbrev pub Answered : {S : Type 0} → (Answer → S → Type 0) → S → Result code.Act.Act ActorFault → Type 0
Answered may after (Ok act) = may (Gives (act_view act)) after
Answered may after (Err faults.Ended) = may Ended after
Answered may after (Err (faults.Line line code)) = may (Refused line code) after
Answered may after (Err faults.Missing) = may Missing after
Answered may after (Err faults.Failed) = Unit {0}
Answered may after (Err faults.NoMemory) = Unit {0}

-- a refused line, a missing file and a failed device leave the state
abbrev pub Stays : {S : Type 0} → Result code.Act.Act ActorFault → S → S → Type 0
Stays (Ok act) before after = Unit {0}
Stays (Err faults.Ended) before after = Unit {0}
Stays (Err (faults.Line line code)) before after = after ≡ before
Stays (Err faults.Missing) before after = after ≡ before
Stays (Err faults.Failed) before after = after ≡ before
Stays (Err faults.NoMemory) before after = Unit {0}

-- an act that leaves the turn, and makes no touch, lowers the measure
abbrev pub Lowers : Turn → Act → ℕ → ℕ → Type 0
Lowers Trusted Go before after = Unit {0}
Lowers Sandbox Go before after = after < before
Lowers turn (Read at len) before after = after < before
Lowers turn (Write at bytes) before after = after < before
Lowers turn (Call fun args) before after = Unit {0}
Lowers turn (Return value) before after = Unit {0}
Lowers turn Stop before after = Unit {0}

-- what the answer says of the lent shelf's two counts: `Missing` and `Failed` each raise their own count alone
abbrev pub ActorCounts : {A : Type 0} → Result A ActorFault → ℕ → ℕ → ℕ → ℕ → Type 0
ActorCounts (Ok x) misses misses' failures failures' = (misses' ≡ misses) × (failures' ≡ failures)
ActorCounts (Err faults.Ended) misses misses' failures failures' = (misses' ≡ misses) × (failures' ≡ failures)
ActorCounts (Err (faults.Line line code)) misses misses' failures failures' = (misses' ≡ misses) × (failures' ≡ failures)
ActorCounts (Err faults.Missing) misses misses' failures failures' = Rises misses misses' × (failures' ≡ failures)
ActorCounts (Err faults.Failed) misses misses' failures failures' = (misses' ≡ misses) × Rises failures failures'
ActorCounts (Err faults.NoMemory) misses misses' failures failures' = (misses' ≡ misses) × (failures' ≡ failures)
