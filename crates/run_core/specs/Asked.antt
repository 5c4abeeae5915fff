-- What an actor answers in a run, and what its answer leaves.
use Rattle.std.specs.Prelude.{◌≡◌, ℕ, Option, Some, None, Bool, true, false, Result, Ok, Err}
use Rattle.ckc_io.specs.Counts.{Rises}
use Rattle.ckc_io.specs.Files.{Files}
use Rattle.act_words.specs.declared.act as code
use Rattle.act_words.specs.declared.act.Turn.{Turn}
use Rattle.act_words.specs.Acts.{act_view}
use Rattle.sandbox_actor.specs.Answers.{Moment, Answer, Gives, Ended, Refused, Missing, Lowers}
use Rattle.run_core.specs.declared.fault.RunFault.{RunFault}
use Rattle.run_core.specs.declared.fault.RunFault.TheVariants as faults

-- what an actor may answer, and which state is behind it
abbrev pub Answering : Type 0 → Type 1
Answering S = S → Option Files → Moment → Answer → S → Type 0

-- no act is left: the actor had ended before, or ends now
abbrev pub HasEnded : {S : Type 0} → Answering S → Option Files → Moment → S → S → Bool → Type 0
HasEnded answers files moment before after true = after ≡ before
HasEnded answers files moment before after false = answers before files moment Ended after

-- what an actor answers, if it is asked: it isn't once it has ended. A failed shelf leaves its state
abbrev pub AskAnswers : {S : Type 0} → Answering S → Option Files → Moment → Bool → S → S → Result (Option code.Act.Act) RunFault → Type 0
AskAnswers answers files moment ended before after (Ok (Some act)) = (ended ≡ false) × answers before files moment (Gives (act_view act)) after
AskAnswers answers files moment ended before after (Ok None) = HasEnded answers files moment before after ended
AskAnswers answers files moment ended before after (Err (faults.Line line code)) = (ended ≡ false) × answers before files moment (Refused line code) after
AskAnswers answers files moment ended before after (Err faults.Missing) = (ended ≡ false) × answers before files moment Missing after
AskAnswers answers files moment ended before after (Err faults.ShelfFailed) = (ended ≡ false) × (after ≡ before)
AskAnswers answers files moment ended before after (Err faults.SinkFailed) = ⊥
AskAnswers answers files moment ended before after (Err faults.NoMemory) = ended ≡ false

-- an act that is given lowers the actor's measure, where it leaves the turn and makes no touch
abbrev pub AskLowers : Turn → Result (Option code.Act.Act) RunFault → ℕ → ℕ → Type 0
AskLowers turn (Ok (Some act)) before after = Lowers turn (act_view act) before after
AskLowers turn (Ok None) before after = Unit {0}
AskLowers turn (Err e) before after = Unit {0}

-- what the answer says of the lent shelf's two counts
abbrev pub PlayCounts : {A : Type 0} → Result A RunFault → ℕ → ℕ → ℕ → ℕ → Type 0
PlayCounts (Ok x) misses misses' failures failures' = (misses' ≡ misses) × (failures' ≡ failures)
PlayCounts (Err (faults.Line line code)) misses misses' failures failures' = (misses' ≡ misses) × (failures' ≡ failures)
PlayCounts (Err faults.Missing) misses misses' failures failures' = Rises misses misses' × (failures' ≡ failures)
PlayCounts (Err faults.ShelfFailed) misses misses' failures failures' = (misses' ≡ misses) × Rises failures failures'
PlayCounts (Err faults.SinkFailed) misses misses' failures failures' = ⊥
PlayCounts (Err faults.NoMemory) misses misses' failures failures' = (misses' ≡ misses) × (failures' ≡ failures)
