-- What a process does that makes the call: from the outcome of reading its words to the status that it ends with.
use Rattle.std.specs.Prelude.{◌≡◌, ℕ, ◌⊎◌, List, [], map, drop, Option, Some, None, Result, Ok, Err}
use Rattle.std.specs.declared.string.String.{String}
use Rattle.std.specs.declared.vec.IntoIter.{IntoIter}
use Rattle.std.specs.String.{string_bytes}
use Rattle.std.specs.Vec.Iter.{into_iter_items}
use Rattle.std.specs.IoError.{error_kind}
use Rattle.std.specs.declared.io.Error.{Error}
use Rattle.std.specs.declared.io.ErrorKind.{ErrorKind}
use Rattle.std.specs.declared.io.ErrorKind.TheVariants.{OutOfMemory}
use Rattle.ckc_io.specs.Files.{Files, Told}
use Rattle.run_core.specs.Runs.{Counts}
use Rattle.act_recorder.specs.Diagnostics.{usage_text}
use Rattle.ccbox_call_words.specs.Given.{LineGiven}
use Rattle.ccbox_call_words.specs.Requests.{request_of}
use Rattle.ccbox_call.specs.Calls.{CallEnds}
use Rattle.ccbox_call.specs.Answers.{GivesFront, GivesWhole, IsCutShort, IsFailure, IsStatus, Exactly, Tells, SourceIsRefused, FileIsMissing, Succeeds}
use Rattle.ccbox_call.specs.Answers.{CheckFails, RunStops, LineIsRefused, ListingFails, PrintedRun, PrintedImageRun, PrintedAccepted, IsComplete}
use Rattle.ccbox_call.specs.Answers.{IsQuiet, IsUntouched}
use Rattle.ccbox_call.specs.PrintedCode.{PrintedCode}

-- the words of an outcome without any: memory ran out, or one of them is no text, and then they count as none
abbrev pub words_without : ErrorKind → Option (List (List ℕ))
words_without OutOfMemory = None
words_without _ = Some []

-- the words behind the program's own name, as they came; none where memory ran out
abbrev pub words_given : {A : Type 0} → Result (IntoIter (String A) A) Error → Option (List (List ℕ))
words_given (Ok arguments) = Some (drop 1 (map string_bytes (into_iter_items arguments)))
words_given (Err error) = words_without (error_kind error)

-- all that the call ensures of words, where the files are told or not
pub record Answers (told : Option Files) (words : List (List ℕ)) (old new : Option (List ℕ)) (before after : Counts) (status : ℕ) : Type 0 where
  pub front : Told told (λ files. GivesFront files words old new)
  pub whole : Told told (λ files. GivesWhole files words old new status ⊎ IsFailure status)
  pub cut_short : Told told (λ files. (status ≡ 4) ⊎ (status ≡ 9) → IsCutShort files words old new)
  pub printed_run : Told told (λ files. PrintedRun files words old new status)
  pub printed_image_run : Told told (λ files. PrintedImageRun files words old new status)
  pub accepted : Told told (λ files. PrintedAccepted files words old new status)
  pub printed_code : Told told (λ files. PrintedCode files words old new status)
  pub complete : Told told (λ files. IsQuiet before.faults after.faults → IsQuiet before.sink after.sink → IsComplete files words old new status)
  pub is_status : IsStatus status
  pub succeeds : Told told (λ files. Exactly 0 status (Succeeds files words))
  pub refused : Told told (λ files. Exactly 1 status (SourceIsRefused files words))
  pub usage : Exactly 2 status (request_of words ≡ None)
  pub usage_line : request_of words ≡ None → LineGiven usage_text 2 old new before.sink after.sink status
  pub missing : Told told (λ files. Exactly 3 status (FileIsMissing files words))
  pub checks : Told told (λ files. Exactly 6 status (CheckFails files words))
  pub stops : Told told (λ files. Exactly 7 status (RunStops files words))
  pub acts_refused : Told told (λ files. Exactly 8 status (LineIsRefused files words))
  pub listing_refused : Told told (λ files. Exactly 11 status (ListingFails files words))
  pub untouched : request_of words ≡ None → IsUntouched before.misses after.misses before.faults after.faults
  pub misses : Tells status 3 before.misses after.misses ((status ≡ 3) ⊎ ((status ≡ 5) ⊎ (status ≡ 9)))
  pub shelf_faults : Tells status 4 before.faults after.faults (status ≡ 4)
  pub sink_faults : Tells status 5 before.sink after.sink (status ≡ 5)

-- memory ran out before the call: nothing was written, and nothing was counted
pub record IsUnmade (old new : Option (List ℕ)) (before after : Counts) (status : ℕ) : Type 0 where
  pub status_is : status ≡ 9
  pub unwritten : new ≡ old
  pub uncounted : after ≡ before

-- Inside: how a process ends, by the words that it was given
abbrev pub ProcessEnds : Option (List (List ℕ)) → (told : Option Files) (old new : Option (List ℕ)) (before after : Counts) (status : ℕ) → Type 0
ProcessEnds None told old new before after status = IsUnmade old new before after status
ProcessEnds (Some words) told old new before after status = CallEnds words told old new before after status
