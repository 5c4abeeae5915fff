-- The Answer of the words over files: a text and a status. And what a call says of it.
use Rattle.std.specs.Prelude.{◌≡◌, ℕ, ◌<◌, ◌≤◌, ◌⊎◌, Bool, true, false, List, ◌++◌, length, take, replicate, Option, Some, None}
use Rattle.std.proofs.Common.{ℤ}
use Rattle.ckc_io.specs.Files.{Files, file_at}
use Rattle.ckc_io.specs.Written.{grown}
use Rattle.ckc_io.specs.Counts.{Rose}
use Rattle.ckc_text.specs.declared.fault.SourceFault.{SourceFault}
use Rattle.ckc_text.specs.Places.{place_at}
use Rattle.ckc_text.specs.declared.code.Code.{Code}
use Rattle.ckc_text.specs.declared.place.Place.{Place}
use Rattle.act_words.specs.declared.ending.Ending.{Ending}
use Rattle.act_words.specs.declared.ending.Ending.TheVariants.{Exit, Check, Stop}
use Rattle.act_words.specs.declared.settings.Settings.{Settings}
use Rattle.ckc_core.specs.Outcome.{Ends}
use Rattle.act_words.specs.World.{Event}
use Rattle.act_words.specs.Shown.{Shown}
use Rattle.act_words.specs.Acts.{Act}
use Rattle.act_words.specs.View.{ViewIsFold, view_fold, view_of, releases_of}
use Rattle.ckc_core.specs.Core.{Core}
use Rattle.ckc_core.specs.States as meant
use Rattle.ckc_core.specs.Meaning.{audited_meaning}
use Rattle.code_words.specs.Dumps.{blocks_held}
use Rattle.code_words.specs.Fitting.{Fits}
use Rattle.code_words.specs.Images.{Image}
use Rattle.code_words.specs.Runs.{CodeRun, memory_of}
use Rattle.code_words.specs.Table as machine
use Rattle.sandbox_actor.specs.ActLists.{RefusedLine}
use Rattle.run_core.specs.Texts.{run_text, front_text}
use Rattle.run_core.specs.Moments.{before_due}
use Rattle.check_insertion.specs.Insert.{inserted}
use Rattle.code_words_listing.specs.Listings.{listing}
use Rattle.lowering.specs.Correct.{blocks_meant}
use Rattle.lowering.specs.Images.{image_of}
use Rattle.ccbox_call_words.specs.Requests.{Request, Run, Exec, Options, file_of, is_of_source, settings_of, inputs_of, request_of}
use Rattle.ccbox_call_words.specs.Requests as requests
use Rattle.act_recorder.specs.Diagnostics.{accepted_text, usage_text, missing_text, refused_text, act_refused_text, listing_refused_text, unfit_text}
use Rattle.ccbox_call_words.specs.Statuses.{status_of}
use Rattle.ccbox_call.specs.Acceptance.{Accepts, IsRefused}
use Rattle.ccbox_call.specs.Programs.{Program, Meant, Coded, RunsTo, Runs}
use Rattle.ccbox_call.specs.ReadListings.{Spells, IsRefusedAt}
use Rattle.ccbox_call.specs.Supplies.{Supply, supply_at, Supplied, needed_line}

-- ---- runs

-- the text of a run with these events and these last blocks: up to its end, or up to the act that is refused
abbrev pub text_with : Settings → Option RefusedLine → List Event → Ending → List Shown → List ℕ
text_with settings None events ending blocks = run_text settings events ending blocks
text_with settings (Some refused) events ending blocks = front_text settings (before_due events) ++ act_refused_text refused.line refused.code

-- the status of such a run
abbrev pub status_with : Option RefusedLine → Ending → ℕ
status_with None ending = status_of ending
status_with (Some refused) ending = 8

-- ---- the Answer

-- the text and the status of a program with input numbers, whose acts come from a supply
pub data SupplyAnswer (program : Program) (settings : Settings) (inputs : List ℤ) (supply : Supply) : List ℕ → ℕ → Type 0 where
  ran : (acts : List Act) (ending : Ending) (events : List Event) (blocks : List Shown) → Runs program settings inputs acts ending events blocks
      → Supplied program settings supply acts events
      → SupplyAnswer program settings inputs supply (text_with settings (needed_line supply events) events ending blocks)
      (status_with (needed_line supply events) ending)

-- of a program whose run is asked for
pub data RunAnswer (files : Files) (options : Options) (program : Program) : List ℕ → ℕ → Type 0 where
  acts_missing : (name : List ℕ) → options.acts ≡ Some name → file_at files name ≡ None → RunAnswer files options program (missing_text name) 3
  acts : {text : List ℕ} {status : ℕ} (supply : Supply) → supply_at files options.acts ≡ Some supply
      → SupplyAnswer program (settings_of options) (inputs_of options) supply text status → RunAnswer files options program text status

-- of a core that is checked
pub data CheckAnswer : List ℕ → ℕ → Type 0 where
  says_so : CheckAnswer accepted_text 0

-- of one whose code is asked for
pub data SplitAnswer (c : Core) : List ℕ → ℕ → Type 0 where
  lists : SplitAnswer c (listing (image_of (inserted c))) 0

-- of an image whose run is asked for: it must fit the settings
pub data ExecAnswer (files : Files) (options : Options) (image : Image) : List ℕ → ℕ → Type 0 where
  unfit : (Fits image (settings_of options) → ⊥) → ExecAnswer files options image unfit_text 11
  fits : {text : List ℕ} {status : ℕ} → Fits image (settings_of options) → RunAnswer files options (Coded image) text status
      → ExecAnswer files options image text status

-- of a source, by what is asked of its core
pub data SourceAnswer (Of : Core → List ℕ → ℕ → Type 0) (src : List ℕ) : List ℕ → ℕ → Type 0 where
  refused : (fault : SourceFault) → IsRefused src fault → SourceAnswer Of src (refused_text fault.code (place_at src fault.span.from)) 1
  accepted : {text : List ℕ} {status : ℕ} (c : Core) → Accepts src c → Of c text status → SourceAnswer Of src text status

-- of a listing, by what is asked of its image
pub data ListingAnswer (Of : Image → List ℕ → ℕ → Type 0) (listed : List ℕ) : List ℕ → ℕ → Type 0 where
  refused_at : (number : ℕ) → IsRefusedAt listed number → ListingAnswer Of listed (listing_refused_text number) 11
  spells : {text : List ℕ} {status : ℕ} (image : Image) → Spells listed image → Of image text status → ListingAnswer Of listed text status

-- of a file, by what is asked of its bytes
pub data FileAnswer (files : Files) (Of : List ℕ → List ℕ → ℕ → Type 0) (name : List ℕ) : List ℕ → ℕ → Type 0 where
  missing : file_at files name ≡ None → FileAnswer files Of name (missing_text name) 3
  is_there : {text : List ℕ} {status : ℕ} (bytes : List ℕ) → file_at files name ≡ Some bytes → Of bytes text status → FileAnswer files Of name text status

-- what a request asks of the core of its source
abbrev pub AskedOfCore : Files → Request → Core → List ℕ → ℕ → Type 0
AskedOfCore files (requests.Check name) c text status = CheckAnswer text status
AskedOfCore files (requests.Split name) c text status = SplitAnswer c text status
AskedOfCore files (Run name options) c text status = RunAnswer files options (Meant c) text status
AskedOfCore files (Exec name options) c text status = ⊥

-- and of the image of its listing
abbrev pub AskedOfImage : Files → Request → Image → List ℕ → ℕ → Type 0
AskedOfImage files (requests.Check name) image text status = ⊥
AskedOfImage files (requests.Split name) image text status = ⊥
AskedOfImage files (Run name options) image text status = ⊥
AskedOfImage files (Exec name options) image text status = ExecAnswer files options image text status

-- of the bytes of the file, which are a source or a listing
abbrev pub BytesAnswer : Files → Request → Bool → List ℕ → List ℕ → ℕ → Type 0
BytesAnswer files request true bytes text status = SourceAnswer (AskedOfCore files request) bytes text status
BytesAnswer files request false bytes text status = ListingAnswer (AskedOfImage files request) bytes text status

-- of a request
abbrev pub RequestAnswer : Files → Request → List ℕ → ℕ → Type 0
RequestAnswer files request text status = FileAnswer files (BytesAnswer files request (is_of_source request)) (file_of request) text status

-- of the words
pub data Answer (files : Files) (words : List (List ℕ)) : List ℕ → ℕ → Type 0 where
  usage : request_of words ≡ None → Answer files words usage_text 2
  asked : {text : List ℕ} {status : ℕ} (request : Request) → request_of words ≡ Some request → RequestAnswer files request text status
      → Answer files words text status

-- ---- what a call gives

-- a status of a failure: of the files, of the output, or of memory
abbrev pub IsFailure : ℕ → Type 0
IsFailure status = (status ≡ 4) ⊎ ((status ≡ 5) ⊎ (status ≡ 9))

-- what was written is a front of the text
abbrev pub WritesFront : List ℕ → Option (List ℕ) → Option (List ℕ) → Type 0
WritesFront text old new = (k : ℕ) × (k ≤ length text) × (new ≡ grown old (take k text))

-- whatever the Answer is, what was written is a front of its text
abbrev pub GivesFront : Files → List (List ℕ) → Option (List ℕ) → Option (List ℕ) → Type 0
GivesFront files words old new = (text : List ℕ) (status : ℕ) → Answer files words text status → WritesFront text old new

-- nothing was written, or less than the whole text, whatever the Answer is
abbrev pub IsCutShort : Files → List (List ℕ) → Option (List ℕ) → Option (List ℕ) → Type 0
IsCutShort files words old new =
    (new ≡ old) ⊎ ((text : List ℕ) (status : ℕ) → Answer files words text status → (k : ℕ) × (k < length text) × (new ≡ grown old (take k text)))

-- the Answer was given whole
pub record GivesWhole (files : Files) (words : List (List ℕ)) (old new : Option (List ℕ)) (status : ℕ) : Type 0 where
  pub text : List ℕ
  pub answer : Answer files words text status
  pub all : new ≡ grown old text

-- the status comes where this holds, and there alone, unless something fails
pub record Exactly (n status : ℕ) (P : Type 0) : Type 0 where
  pub only : status ≡ n → P
  pub always : P → (status ≡ n) ⊎ IsFailure status

-- ---- causes

-- the words spell a request about a file that is there, with these bytes
pub record AsksAbout (files : Files) (words : List (List ℕ)) (request : Request) (src : List ℕ) : Type 0 where
  pub spelled : request_of words ≡ Some request
  pub there : file_at files (file_of request) ≡ Some src

-- they spell a request about a source that is there, with these bytes
pub record AsksAboutSource (files : Files) (words : List (List ℕ)) (request : Request) (src : List ℕ) : Type 0 where
  pub about : AsksAbout files words request src
  pub of_source : is_of_source request ≡ true

-- and one about a listing
pub record AsksAboutListing (files : Files) (words : List (List ℕ)) (name : List ℕ) (options : Options) (listed : List ℕ) : Type 0 where
  pub spelled : request_of words ≡ Some (Exec name options)
  pub there : file_at files name ≡ Some listed

-- they spell a request about a source with this core
pub record AsksOf (files : Files) (words : List (List ℕ)) (request : Request) (c : Core) : Type 0 where
  pub src : List ℕ
  pub asks : AsksAbout files words request src
  pub accepted : Accepts src c

-- they ask to run a source with this core, with these options
pub record AsksToRunCore (files : Files) (words : List (List ℕ)) (options : Options) (c : Core) : Type 0 where
  pub name : List ℕ
  pub src : List ℕ
  pub request : request_of words ≡ Some (Run name options)
  pub there : file_at files name ≡ Some src
  pub accepted : Accepts src c

-- they ask to run a listing with this image, which fits the settings
pub record AsksToRunImage (files : Files) (words : List (List ℕ)) (options : Options) (image : Image) : Type 0 where
  pub name : List ℕ
  pub listed : List ℕ
  pub asks : AsksAboutListing files words name options listed
  pub spells_it : Spells listed image
  pub fits_settings : Fits image (settings_of options)

-- they ask to run this program
abbrev pub AsksToRun : Files → List (List ℕ) → Options → Program → Type 0
AsksToRun files words options (Meant c) = AsksToRunCore files words options c
AsksToRun files words options (Coded image) = AsksToRunImage files words options image

-- with its acts from here
pub record AsksFor (files : Files) (words : List (List ℕ)) (options : Options) (supply : Supply) (program : Program) : Type 0 where
  pub asks : AsksToRun files words options program
  pub supply_is : supply_at files options.acts ≡ Some supply

abbrev pub SourceIsRefused : Files → List (List ℕ) → Type 0
SourceIsRefused files words =
    (request : Request) × (src : List ℕ) × (fault : SourceFault) × AsksAboutSource files words request src × IsRefused src fault

-- a line of the listing is refused
abbrev pub ListingIsRefused : Files → List (List ℕ) → Type 0
ListingIsRefused files words =
    (name : List ℕ) × (options : Options) × (listed : List ℕ) × (number : ℕ) × AsksAboutListing files words name options listed × IsRefusedAt listed number

-- the listing's image doesn't fit the settings
abbrev pub ListingIsUnfit : Files → List (List ℕ) → Type 0
ListingIsUnfit files words =
    (name : List ℕ) × (options : Options) × (listed : List ℕ) × (image : Image) × AsksAboutListing files words name options listed
    × Spells listed image × (Fits image (settings_of options) → ⊥)

abbrev pub ListingFails : Files → List (List ℕ) → Type 0
ListingFails files words = ListingIsRefused files words ⊎ ListingIsUnfit files words

-- the source is accepted, and the words ask whether it is
abbrev pub SourceIsChecked : Files → List (List ℕ) → Type 0
SourceIsChecked files words = (name : List ℕ) × (c : Core) × AsksOf files words (requests.Check name) c

-- the source is accepted, and they ask for its code
abbrev pub CodeIsListed : Files → List (List ℕ) → Type 0
CodeIsListed files words = (name : List ℕ) × (c : Core) × AsksOf files words (requests.Split name) c

-- a run is asked for, and ends so, or needs this refused line before
abbrev pub RunEndsWith : Files → List (List ℕ) → Option RefusedLine → Ending → Type 0
RunEndsWith files words needed ending =
    (options : Options) × (supply : Supply) × (program : Program) × (acts : List Act) × (events : List Event) × (blocks : List Shown)
    × AsksFor files words options supply program × Runs program (settings_of options) (inputs_of options) acts ending events blocks
    × Supplied program (settings_of options) supply acts events × (needed_line supply events ≡ needed)

abbrev pub RunExits : Files → List (List ℕ) → Type 0
RunExits files words = (value : ℤ) × RunEndsWith files words None (Exit value)

-- all that is asked for is done
abbrev pub Succeeds : Files → List (List ℕ) → Type 0
Succeeds files words = RunExits files words ⊎ (SourceIsChecked files words ⊎ CodeIsListed files words)

abbrev pub CheckFails : Files → List (List ℕ) → Type 0
CheckFails files words = (code : Code) × (place : Place) × RunEndsWith files words None (Check code place)

abbrev pub RunStops : Files → List (List ℕ) → Type 0
RunStops files words = (code : Code) × (act : Option ℕ) × RunEndsWith files words None (Stop code act)

abbrev pub LineIsRefused : Files → List (List ℕ) → Type 0
LineIsRefused files words = (refused : RefusedLine) × (ending : Ending) × RunEndsWith files words (Some refused) ending

abbrev pub RequestedIsMissing : Files → List (List ℕ) → Type 0
RequestedIsMissing files words = (request : Request) × (request_of words ≡ Some request) × (file_at files (file_of request) ≡ None)

-- a run is asked for, and the file of acts isn't there
abbrev pub ActsAreMissing : Files → List (List ℕ) → Type 0
ActsAreMissing files words =
    (name : List ℕ) × (options : Options) × (program : Program) × AsksToRun files words options program × (options.acts ≡ Some name)
    × (file_at files name ≡ None)

abbrev pub FileIsMissing : Files → List (List ℕ) → Type 0
FileIsMissing files words = RequestedIsMissing files words ⊎ ActsAreMissing files words

-- a count of failures that is told by a status: the status comes only where the count rose, and where it went up
-- the status is among these
pub record Tells (status n old new : ℕ) (Among : Type 0) : Type 0 where
  pub cause : status ≡ n → Rose old new
  pub told : old < new → Among

-- what the sandbox is shown by these events is the fold of its starting memory, these acts and the releases
abbrev pub ViewIsFoldOf : List ℕ → List Act → List Event → Type 0
ViewIsFoldOf start taken events = view_of events ≡ view_fold start taken (releases_of events)

-- the text of a program's run is printed, with its status, unless something fails
abbrev pub IsPrinted : Options → Supply → Ending → List Event → List Shown → Option (List ℕ) → Option (List ℕ) → ℕ → Type 0
IsPrinted options supply ending events blocks old new status =
    ((status ≡ status_with (needed_line supply events) ending)
    × (new ≡ grown old (text_with (settings_of options) (needed_line supply events) events ending blocks))) ⊎ IsFailure status

-- the run of an accepted source, whose acts come from a supply, is never stuck, and each pointer in it is valid with its bounds; what
-- the sandbox is shown is the fold of its starting memory, the acts that were taken and the releases, and so is what it is shown up to
-- a refused line that the run needs; and the text of the run is printed, unless something fails
pub record PrintsRun (options : Options) (supply : Supply) (c : Core) (old new : Option (List ℕ)) (status : ℕ) : Type 0 where
  pub acts : List Act
  pub ending : Ending
  pub last : meant.State
  pub runs : RunsTo c (settings_of options) (inputs_of options) acts ending last
  pub supplied : Supplied (Meant c) (settings_of options) supply acts last.world.events
  pub audited : audited_meaning c (settings_of options) (inputs_of options) acts ≡ Ends ending last
  pub view : ViewIsFold (replicate (settings_of options).sandbox 0) acts last.world
  pub view_before : (refused : RefusedLine) → needed_line supply last.world.events ≡ Some refused
      → ViewIsFoldOf (replicate (settings_of options).sandbox 0) acts (before_due last.world.events)
  pub printed : IsPrinted options supply ending last.world.events (blocks_meant (settings_of options).base last) old new status

abbrev pub PrintedRun : Files → List (List ℕ) → Option (List ℕ) → Option (List ℕ) → ℕ → Type 0
PrintedRun files words old new status =
    (options : Options) (supply : Supply) (c : Core) → AsksFor files words options supply (Meant c) → PrintsRun options supply c old new status

-- the run of a listing whose image fits ends, whoever wrote it and wherever its acts come from; what the sandbox is shown is the fold
-- of its starting memory, in which its static blocks stand, the acts that were taken and the releases, and so is what it is shown up to
-- a refused line that the run needs; and the text of the run is printed, unless something fails
pub record PrintsImageRun (options : Options) (supply : Supply) (image : Image) (old new : Option (List ℕ)) (status : ℕ) : Type 0 where
  pub acts : List Act
  pub ending : Ending
  pub last : machine.State
  pub runs : CodeRun image (settings_of options) (inputs_of options) acts ending last
  pub supplied : Supplied (Coded image) (settings_of options) supply acts last.world.events
  pub view : ViewIsFold (memory_of (settings_of options).sandbox image.sandbox.blocks) acts last.world
  pub view_before : (refused : RefusedLine) → needed_line supply last.world.events ≡ Some refused
      → ViewIsFoldOf (memory_of (settings_of options).sandbox image.sandbox.blocks) acts (before_due last.world.events)
  pub printed : IsPrinted options supply ending last.world.events (blocks_held last) old new status

abbrev pub PrintedImageRun : Files → List (List ℕ) → Option (List ℕ) → Option (List ℕ) → ℕ → Type 0
PrintedImageRun files words old new status =
    (options : Options) (supply : Supply) (image : Image) → AsksFor files words options supply (Coded image)
    → PrintsImageRun options supply image old new status

-- where the words ask whether an accepted source is accepted, the line that says so is printed, unless something fails
abbrev pub PrintedAccepted : Files → List (List ℕ) → Option (List ℕ) → Option (List ℕ) → ℕ → Type 0
PrintedAccepted files words old new status =
    (name : List ℕ) (c : Core) → AsksOf files words (requests.Check name) c → ((status ≡ 0) × (new ≡ grown old accepted_text)) ⊎ IsFailure status

-- where no failure is counted, the Answer is given whole, unless memory runs out
abbrev pub IsComplete : Files → List (List ℕ) → Option (List ℕ) → Option (List ℕ) → ℕ → Type 0
IsComplete files words old new status =
    (text : List ℕ) (n : ℕ) → Answer files words text n → ((status ≡ n) × (new ≡ grown old text)) ⊎ (status ≡ 9)

-- a count of failures didn't rise
abbrev pub IsQuiet : ℕ → ℕ → Type 0
IsQuiet old new = Rose old new → ⊥

-- no miss and no fault of the files is counted
pub record IsUntouched (misses misses' faults faults' : ℕ) : Type 0 where
  pub misses_stay : misses' ≡ misses
  pub faults_stay : faults' ≡ faults

-- every status that a call ends with
abbrev pub IsStatus : ℕ → Type 0
IsStatus status =
    (status ≡ 0) ⊎ ((status ≡ 1) ⊎ ((status ≡ 2) ⊎ ((status ≡ 3) ⊎ ((status ≡ 6) ⊎ ((status ≡ 7) ⊎ ((status ≡ 8) ⊎ ((status ≡ 11) ⊎ IsFailure status)))))))
