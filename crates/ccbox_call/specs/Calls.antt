-- How a call of the program ends, part by part: what it wrote, its status, and the counts of failures.
use Rattle.std.specs.Prelude.{◌≡◌, ℕ, ◌<◌, ◌≤◌, ◌⊎◌, All, IsTrue, List, length, take, Option, Some, None, Result, Ok, Err}
use Rattle.act_words.specs.Checks.{is_word_number}
use Rattle.act_words.specs.Limits.{AreAllowed}
use Rattle.ckc_io.specs.Counts.{Rises}
use Rattle.ckc_io.specs.Files.{Files, Told, file_at}
use Rattle.ckc_io.specs.Written.{grown}
use Rattle.ckc_core.specs.declared.program as code
use Rattle.ckc_core.specs.Core.{Core, core}
use Rattle.check_insertion.specs.Insert.{inserted}
use Rattle.lowering.specs.Images.{image_of}
use Rattle.code_words.specs.Images.{Image}
use Rattle.code_words.specs.Paced.{is_paced}
use Rattle.code_words_listing.specs.Listings.{InFormat}
use Rattle.code_words_listing.specs.Refusals.{AtLine}
use Rattle.code_words_listing.specs.declared.read_listing.ListRefused.{ListRefused}
use Rattle.run_core.specs.Runs.{Counts}
use Rattle.ccbox_call_words.specs.Requests.{Request, Check, Split, Run, Exec, Options, settings_of, inputs_of, request_of}
use Rattle.act_recorder.specs.Diagnostics.{usage_text}
use Rattle.ccbox_call_words.specs.Given.{LineGiven}
use Rattle.ccbox_call_words.specs.declared.status.Status.{Status}
use Rattle.ccbox_call_words.specs.Statuses.{number_of}
use Rattle.ccbox_call.specs.Acceptance.{Accepts, IsAcceptedCore}
use Rattle.ccbox_call.specs.Answers.{SourceAnswer, ListingAnswer, FileAnswer, RequestAnswer}
use Rattle.ccbox_call.specs.ReadListings.{Spells, IsRefusedAt}

-- the options may be run with: their settings are allowed, and their input numbers have 32 bits
pub record MayRun (options : Options) : Type 0 where
  pub settings : AreAllowed (settings_of options)
  pub inputs : All (λ z. IsTrue (is_word_number z)) (inputs_of options)

-- a status of an answer for which all files were found
abbrev pub IsFoundStatus : ℕ → Type 0
IsFoundStatus status = (status ≡ 0) ⊎ ((status ≡ 1) ⊎ ((status ≡ 6) ⊎ ((status ≡ 7) ⊎ ((status ≡ 8) ⊎ (status ≡ 11)))))

-- what the status of an answer says of the files' counts: a missing file is counted
abbrev pub StatusCounts : ℕ → Counts → Counts → Type 0
StatusCounts status before after =
    (after.faults ≡ before.faults) × (((status ≡ 3) × Rises before.misses after.misses) ⊎ (IsFoundStatus status × (after.misses ≡ before.misses)))

-- an answer was given: its text and its status meet Is. Or something failed
pub data Gives (Is : List ℕ → ℕ → Type 0) (old new : Option (List ℕ)) (before after : Counts) : ℕ → Type 0 where
  -- the answer was written whole
  answered : (text : List ℕ) (status : ℕ) → Is text status → StatusCounts status before after → new ≡ grown old text → after.sink ≡ before.sink
      → Gives Is old new before after status
  -- the output failed, behind a front of the answer
  output_failed : (text : List ℕ) (status k : ℕ) → Is text status → before.misses ≤ after.misses → after.faults ≡ before.faults → k ≤ length text
      → new ≡ grown old (take k text) → Rises before.sink after.sink → Gives Is old new before after 5
  -- the files failed, and nothing was written
  files_failed : new ≡ old → after.misses ≡ before.misses → Rises before.faults after.faults → after.sink ≡ before.sink → Gives Is old new before after 4
  -- memory ran out, and nothing was written
  no_memory : new ≡ old → before.misses ≤ after.misses → after.faults ≡ before.faults → after.sink ≡ before.sink → Gives Is old new before after 9
  -- memory ran out behind a front of the answer
  no_memory_behind : (text : List ℕ) (status k : ℕ) → Is text status → k < length text → new ≡ grown old (take k text) → before.misses ≤ after.misses
      → after.faults ≡ before.faults → after.sink ≡ before.sink → Gives Is old new before after 9

-- the text and the status of a source, and of a file, without a core: the file isn't there, or its source is refused
abbrev pub RefusedAnswer : List ℕ → List ℕ → ℕ → Type 0
RefusedAnswer src text status = SourceAnswer (λ c t n. ⊥) src text status

abbrev pub NoCoreAnswer : Files → List ℕ → List ℕ → ℕ → Type 0
NoCoreAnswer files name text status = FileAnswer files RefusedAnswer name text status

-- the file is there, and is a source with this core
abbrev pub IsFileOf : Files → List ℕ → Core → Type 0
IsFileOf files name c = (src : List ℕ) × (file_at files name ≡ Some src) × Accepts src c

-- what the front end and the line of a refusal come to: a core, and nothing was written; or the status behind the answer of a
-- source without one
abbrev pub SourceRead : List ℕ → (old new : Option (List ℕ)) (sink sink' : ℕ) → Result code.Core.Core Status → Type 0
SourceRead src old new sink sink' (Ok program) = Accepts src (core program) × (new ≡ old) × (sink' ≡ sink)
SourceRead src old new sink sink' (Err status) =
    (misses faults : ℕ) → Gives (RefusedAnswer src) old new (record { misses = misses; faults = faults; sink = sink })
    (record { misses = misses; faults = faults; sink = sink' }) (number_of status)

-- what reading the program of a file comes to: a core, and nothing was written; or the status behind the answer of a file without
-- one
abbrev pub ProgramRead : Option Files → List ℕ → (old new : Option (List ℕ)) (before after : Counts) → Result code.Core.Core Status → Type 0
ProgramRead told name old new before after (Ok program) =
    IsAcceptedCore (core program) × Told told (λ files. IsFileOf files name (core program)) × (new ≡ old) × (after ≡ before)
ProgramRead told name old new before after (Err status) =
    Gives (λ text n. Told told (λ files. NoCoreAnswer files name text n)) old new before after (number_of status)

-- the same of a listing without an image
abbrev pub NoImageAnswer : List ℕ → List ℕ → ℕ → Type 0
NoImageAnswer listed text status = ListingAnswer (λ image t n. ⊥) listed text status

abbrev pub NoListingAnswer : Files → List ℕ → List ℕ → ℕ → Type 0
NoListingAnswer files name text status = FileAnswer files NoImageAnswer name text status

-- the file is there, and is the listing of this image
abbrev pub IsListingOf : Files → List ℕ → Image → Type 0
IsListingOf files name image = (listed : List ℕ) × (file_at files name ≡ Some listed) × Spells listed image

-- what reading an image from bytes comes to
abbrev pub ImageOrLine : List ℕ → Result Image ListRefused → Type 0
ImageOrLine listed (Ok image) = Spells listed image
ImageOrLine listed (Err e) = AtLine (IsRefusedAt listed) e

-- the same, and the line of a refusal: an image, and nothing was written; or the status behind the answer of a listing without one
abbrev pub ListingRead : List ℕ → (old new : Option (List ℕ)) (sink sink' : ℕ) → Result Image Status → Type 0
ListingRead listed old new sink sink' (Ok image) = Spells listed image × (new ≡ old) × (sink' ≡ sink)
ListingRead listed old new sink sink' (Err status) =
    (misses faults : ℕ) → Gives (NoImageAnswer listed) old new (record { misses = misses; faults = faults; sink = sink })
    (record { misses = misses; faults = faults; sink = sink' }) (number_of status)

-- what reading the listing of a file comes to: an image, and nothing was written; or the status behind the answer of a file without
-- one
abbrev pub ImageRead : Option Files → List ℕ → (old new : Option (List ℕ)) (before after : Counts) → Result Image Status → Type 0
ImageRead told name old new before after (Ok image) =
    IsTrue (is_paced image) × Told told (λ files. IsListingOf files name image) × (new ≡ old) × (after ≡ before)
ImageRead told name old new before after (Err status) =
    Gives (λ text n. Told told (λ files. NoListingAnswer files name text n)) old new before after (number_of status)

-- the code that a request prints is in the format
abbrev pub IsInFormat : Files → Request → Type 0
IsInFormat files (Check name) = Unit {0}
IsInFormat files (Split name) = (c : Core) → IsFileOf files name c → InFormat (image_of (inserted c))
IsInFormat files (Run name options) = Unit {0}
IsInFormat files (Exec name options) = Unit {0}

-- what is given to a request
abbrev pub IsGiven : Option Files → Request → List ℕ → ℕ → Type 0
IsGiven told request text status = Told told (λ files. RequestAnswer files request text status × IsInFormat files request)

-- how a call ends
pub data CallEnds (words : List (List ℕ)) (told : Option Files) (old new : Option (List ℕ)) (before after : Counts) (result : ℕ) : Type 0 where
  -- the words spell no request, and no file was touched
  usage : request_of words ≡ None → LineGiven usage_text 2 old new before.sink after.sink result → after.misses ≡ before.misses → after.faults ≡ before.faults
      → CallEnds words told old new before after result
  -- they spell a request, which has an answer
  asked : (request : Request) → request_of words ≡ Some request
      → Gives (IsGiven told request) old new before after result
      → CallEnds words told old new before after result
