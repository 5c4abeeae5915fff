-- What is written where a run has come to an outcome.
use Rattle.std.specs.Prelude.{◌≡◌, ℕ, ◌≤◌, List, [], ◌++◌, length, take, Option, Result, Ok, Err}
use Rattle.ckc_io.specs.Counts.{Rises}
use Rattle.ckc_io.specs.Written.{grown}
use Rattle.act_words.specs.declared.ending.Ending.{Ending}
use Rattle.act_words.specs.declared.settings.Settings.{Settings}
use Rattle.act_words.specs.Shown.{Shown}
use Rattle.run_core.specs.declared.fault.RunFault.{RunFault}
use Rattle.run_core.specs.declared.fault.RunFault.TheVariants as faults
use Rattle.act_recorder.specs.Endings.{ending_text}
use Rattle.run_core.specs.Texts.{dump_text, with_last_line}

-- a front of a text was written
pub record Fronts (text : List ℕ) (old new : Option (List ℕ)) : Type 0 where
  pub size : ℕ
  pub fits : size ≤ length text
  pub front : new ≡ grown old (take size text)

-- a run that has come to an outcome, with this text, ends so: the text was written, or the sink failed, or memory ran out
pub data Finish (text : List ℕ) (outcome : Result Ending RunFault) (old new : Option (List ℕ)) (before after : ℕ) : Result Ending RunFault → Type 0 where
  whole : new ≡ grown old text → after ≡ before → Finish text outcome old new before after outcome
  failed : Fronts text old new → Rises before after → Finish text outcome old new before after (Err faults.SinkFailed)
  no_memory : new ≡ old → after ≡ before → Finish text outcome old new before after (Err faults.NoMemory)

-- with these blocks behind the line of the ending, where they are asked for; nothing is written where the shelf failed or
-- memory ran out
abbrev pub Finishes : List ℕ → Settings → List Shown → Result Ending RunFault → (old new : Option (List ℕ)) → (before after : ℕ) → Result Ending RunFault
    → Type 0
Finishes text settings blocks (Ok ending) old new before after result =
    Finish (with_last_line text (ending_text ending ++ dump_text settings blocks)) (Ok ending) old new before after result
Finishes text settings blocks (Err (faults.Line line code)) old new before after result =
    Finish (with_last_line text []) (Err (faults.Line line code)) old new before after result
Finishes text settings blocks (Err faults.Missing) old new before after result =
    Finish (with_last_line text []) (Err faults.Missing) old new before after result
Finishes text settings blocks (Err faults.ShelfFailed) old new before after result = (result ≡ Err faults.ShelfFailed) × (new ≡ old) × (after ≡ before)
Finishes text settings blocks (Err faults.SinkFailed) old new before after result = (result ≡ Err faults.SinkFailed) × (new ≡ old) × (after ≡ before)
Finishes text settings blocks (Err faults.NoMemory) old new before after result = (result ≡ Err faults.NoMemory) × (new ≡ old) × (after ≡ before)
