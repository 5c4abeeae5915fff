-- The statuses.
use Rattle.std.specs.Prelude.{ℕ}
use Rattle.act_words.specs.declared.ending.Ending.{Ending}
use Rattle.act_words.specs.declared.ending.Ending.TheVariants.{Exit, Check, Stop}
use Rattle.ccbox_call_words.specs.declared.status.Status.{Status}
use Rattle.ccbox_call_words.specs.declared.status.Status.TheVariants as statuses

-- the number with which the program ends
abbrev pub number_of : Status → ℕ
number_of statuses.Success = 0
number_of statuses.SourceRefused = 1
number_of statuses.Usage = 2
number_of statuses.FileMissing = 3
number_of statuses.FilesFailed = 4
number_of statuses.OutputFailed = 5
number_of statuses.CheckFailed = 6
number_of statuses.Stopped = 7
number_of statuses.LineRefused = 8
number_of statuses.NoMemory = 9
number_of statuses.ListingRefused = 11

-- the status of a run that ended so
abbrev pub status_of : Ending → ℕ
status_of (Exit value) = 0
status_of (Check code place) = 6
status_of (Stop code act) = 7
