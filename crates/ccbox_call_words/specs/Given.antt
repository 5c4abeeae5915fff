-- What was written of a text, and the status behind it.
use Rattle.std.specs.Prelude.{◌≡◌, ℕ, ◌≤◌, List, length, take, Option, Result, Ok, Err}
use Rattle.act_words.specs.declared.ending.Ending.{Ending}
use Rattle.ckc_io.specs.Counts.{Rises}
use Rattle.ckc_io.specs.Written.{grown}
use Rattle.run_core.specs.declared.fault.RunFault.{RunFault}
use Rattle.run_core.specs.declared.fault.RunFault.TheVariants as faults
use Rattle.act_recorder.specs.Diagnostics.{act_refused_text}
use Rattle.ccbox_call_words.specs.Statuses.{status_of}

-- a text was written, and the status is that of its answer; or the output failed behind a front of it
pub data TextGiven (text : List ℕ) (status : ℕ) (old new : Option (List ℕ)) (faults faults' : ℕ) : ℕ → Type 0 where
  all : new ≡ grown old text → faults' ≡ faults → TextGiven text status old new faults faults' status
  failed : (k : ℕ) → k ≤ length text → new ≡ grown old (take k text) → Rises faults faults' → TextGiven text status old new faults faults' 5

-- or memory ran out before
pub data LineGiven (text : List ℕ) (status : ℕ) (old new : Option (List ℕ)) (faults faults' result : ℕ) : Type 0 where
  given : TextGiven text status old new faults faults' result → LineGiven text status old new faults faults' result
  unmade : result ≡ 9 → new ≡ old → faults' ≡ faults → LineGiven text status old new faults faults' result

-- this status, and nothing was written
abbrev pub NoneGiven : (status : ℕ) (old new : Option (List ℕ)) (faults faults' result : ℕ) → Type 0
NoneGiven status old new faults faults' result = (result ≡ status) × (new ≡ old) × (faults' ≡ faults)

-- behind what a run came to: the line of a refused line of the acts, which the run leaves to its caller, and the status
abbrev pub OutcomeGiven : Result Ending RunFault → (old new : Option (List ℕ)) (faults faults' result : ℕ) → Type 0
OutcomeGiven (Ok ending) old new faults faults' result = NoneGiven (status_of ending) old new faults faults' result
OutcomeGiven (Err (faults.Line line code)) old new faults faults' result = LineGiven (act_refused_text line code) 8 old new faults faults' result
OutcomeGiven (Err faults.Missing) old new faults faults' result = NoneGiven 3 old new faults faults' result
OutcomeGiven (Err faults.ShelfFailed) old new faults faults' result = NoneGiven 4 old new faults faults' result
OutcomeGiven (Err faults.SinkFailed) old new faults faults' result = NoneGiven 5 old new faults faults' result
OutcomeGiven (Err faults.NoMemory) old new faults faults' result = NoneGiven 9 old new faults faults' result
