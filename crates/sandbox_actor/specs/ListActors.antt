-- What making an actor of a file answers.
use Rattle.std.specs.Prelude.{◌≡◌, ℕ, List, Some, None, Result, Ok, Err}
use Rattle.ckc_io.specs.Files.{Files, file_at}
use Rattle.sandbox_actor.specs.declared.actor.ActorFault.{ActorFault}
use Rattle.sandbox_actor.specs.declared.actor.ActorFault.TheVariants as faults
use Rattle.sandbox_actor.specs.declared.list_actor.ListActor.{ListActor}
use Rattle.sandbox_actor.specs.ActLists.{acts_of_file}

-- over the files that are told: the acts of the file, or `Missing` only where there is none of the name
abbrev pub StartAnswers : Files → List ℕ → Result ListActor ActorFault → Type 0
StartAnswers files name (Ok actor) = (file : List ℕ) × (file_at files name ≡ Some file) × (actor ≡ acts_of_file file)
StartAnswers files name (Err faults.Ended) = ⊥
StartAnswers files name (Err (faults.Line line code)) = ⊥
StartAnswers files name (Err faults.Missing) = file_at files name ≡ None
StartAnswers files name (Err faults.Failed) = Unit {0}
StartAnswers files name (Err faults.NoMemory) = Unit {0}

-- a fault of a file, or want of memory
abbrev pub IsReadFault : ActorFault → Type 0
IsReadFault faults.Ended = ⊥
IsReadFault (faults.Line line code) = ⊥
IsReadFault faults.Missing = Unit {0}
IsReadFault faults.Failed = Unit {0}
IsReadFault faults.NoMemory = Unit {0}
