-- What the end of a call says: of its Answer, of its status and of the counts.
use Rattle.std.proofs.Common.{◌≡◌, ℕ, ◌≤◌, ◌⊎◌, Bool, true, false, inl, inr, ⊎_elim, ℤ, List, take, length, Option, Some, None, refl, sym, ap, ◌∙◌, subst, arith}
use Rattle.std.specs.Prelude.{◌≢◌}
use Rattle.std.proofs.lemmas.List.{take_all}
use Rattle.ckc_text.specs.declared.code.Code.{Code}
use Rattle.ckc_text.specs.declared.place.Place.{Place}
use Rattle.ckc_text.specs.declared.fault.SourceFault.{SourceFault}
use Rattle.ckc_text.specs.Places.{place_at}
use Rattle.ckc_io.specs.Files.{Files}
use Rattle.ckc_io.specs.Written.{grown}
use Rattle.ckc_io.proofs.Fronts.{grown-nothing}
use Rattle.act_words.specs.declared.ending.Ending.{Ending}
use Rattle.act_words.specs.declared.ending.Ending.TheVariants.{Exit, Check, Stop}
use Rattle.ckc_core.specs.Core.{Core}
use Rattle.act_words.specs.Shown.{Shown}
use Rattle.act_words.specs.Acts.{Act}
use Rattle.act_words.specs.World.{Event}
use Rattle.code_words.specs.Images.{Image}
use Rattle.sandbox_actor.specs.ActLists.{RefusedLine}
use Rattle.run_core.specs.Runs.{Counts}
use Rattle.check_insertion.specs.Insert.{inserted}
use Rattle.lowering.specs.Images.{image_of}
use Rattle.code_words_listing.specs.Listings.{listing, InFormat}
use Rattle.ccbox_call_words.specs.Requests.{Request, Run, Exec, Options, file_of, is_of_source, settings_of, inputs_of, request_of}
use Rattle.ccbox_call_words.specs.Requests as requests
use Rattle.act_recorder.specs.Diagnostics.{accepted_text, usage_text, missing_text, refused_text, listing_refused_text, unfit_text}
use Rattle.ccbox_call_words.specs.Given.{TextGiven, all, failed, LineGiven, given, unmade}
use Rattle.ccbox_call.specs.Acceptance.{Accepts, IsRefused, IsAcceptedCore}
use Rattle.ccbox_call.specs.Supplies.{Supply, Supplied, needed_line}
use Rattle.ccbox_call.specs.Answers.{text_with, status_with, ran, RunAnswer, acts_missing, acts, CheckAnswer, says_so, SplitAnswer, lists, ExecAnswer, unfit, fits, SourceAnswer, refused, accepted, ListingAnswer, refused_at, spells, missing, is_there, AskedOfCore, AskedOfImage, BytesAnswer, RequestAnswer, Answer, IsFailure, WritesFront, GivesFront, IsCutShort, GivesWhole, Exactly, AsksAbout, AsksAboutSource, AsksAboutListing, AsksOf, AsksToRun, AsksFor, SourceIsRefused, ListingFails, SourceIsChecked, CodeIsListed, RunEndsWith, RunExits, Succeeds, CheckFails, RunStops, LineIsRefused, FileIsMissing, PrintsRun, PrintedRun, PrintedImageRun, PrintedAccepted, IsComplete, IsQuiet, IsUntouched}
use Rattle.ccbox_call.specs.Answers as answers
use Rattle.ccbox_call.specs.PrintedCode.{SpellsAlone, PrintedCode}
use Rattle.ccbox_call.specs.Programs.{Program, Meant, Coded, Runs}
use Rattle.ccbox_call.specs.ReadListings.{Spells, IsRefusedAt}
use Rattle.ccbox_call.specs.Calls.{StatusCounts, Gives, answered, output_failed, files_failed, no_memory, no_memory_behind, IsFileOf, IsInFormat, IsGiven, CallEnds, usage, asked}
use Rattle.ccbox_call.proofs.OneAnswer.{one_answer}
use Rattle.ccbox_call.proofs.PrintedCode.{parts_kept, spells_alone, kept_code, does_as}
use Rattle.ccbox_call.proofs.SuppliedRuns.{ends_over, view_over, view_before_over, image_ends_over, image_view_over, image_view_before_over}

-- ---- from what is asked for to its Answer

-- a program that is asked for has the answer of its run
program_answer : (files : Files) (words : List (List ℕ)) (options : Options) (program : Program) → AsksToRun files words options program → {text : List ℕ} {n : ℕ} → RunAnswer files options program text n → Answer files words text n
program_answer files words options (Meant c) a x = answers.asked (Run a.name options) a.request (is_there a.src a.there (accepted c a.accepted x))
program_answer files words options (Coded image) a x = answers.asked (Exec a.name options) (a.asks).spelled (is_there a.listed (a.asks).there (spells image a.spells_it (fits a.fits_settings x)))

-- so the run of a program that is asked for has its Answer
pub run_answer : (files : Files) (words : List (List ℕ)) (options : Options) (supply : Supply) (program : Program) (taken : List Act) (ending : Ending) (events : List Event) (blocks : List Shown) → AsksFor files words options supply program → Runs program (settings_of options) (inputs_of options) taken ending events blocks → Supplied program (settings_of options) supply taken events → Answer files words (text_with (settings_of options) (needed_line supply events) events ending blocks) (status_with (needed_line supply events) ending)
run_answer files words options supply program taken ending events blocks a runs from = program_answer files words options program a.asks (acts supply a.supply_is (ran taken ending events blocks runs from))

-- so has the line of an accepted source, and the listing of its code
check_answer : (files : Files) (words : List (List ℕ)) (name : List ℕ) (c : Core) → AsksOf files words (requests.Check name) c → Answer files words accepted_text 0
check_answer files words name c a = answers.asked (requests.Check name) a.asks.spelled (is_there a.src a.asks.there (accepted c a.accepted says_so))

split_answer : (files : Files) (words : List (List ℕ)) (name : List ℕ) (c : Core) → AsksOf files words (requests.Split name) c → Answer files words (listing (image_of (inserted c))) 0
split_answer files words name c a = answers.asked (requests.Split name) a.asks.spelled (is_there a.src a.asks.there (accepted c a.accepted lists))

refused_answer : (files : Files) (words : List (List ℕ)) (request : Request) (src : List ℕ) (fault : SourceFault) → AsksAboutSource files words request src → IsRefused src fault → (text : List ℕ) × Answer files words text 1
refused_answer files words request src fault a r =
    (_, answers.asked request (a.about).spelled (is_there src (a.about).there (subst (λ b. BytesAnswer files request b src (refused_text fault.code (place_at src fault.span.from)) 1) (sym a.of_source) (refused fault r))))

listing_answer : (files : Files) (words : List (List ℕ)) → ListingFails files words → (text : List ℕ) × Answer files words text 11
listing_answer files words (inl x) = let a = x.4 in (listing_refused_text x.3, answers.asked (Exec x.0 x.1) a.spelled (is_there x.2 a.there (refused_at x.3 x.5)))
listing_answer files words (inr x) = let a = x.4 in (unfit_text, answers.asked (Exec x.0 x.1) a.spelled (is_there x.2 a.there (spells x.3 x.5 (unfit x.6))))

missing_answer : (files : Files) (words : List (List ℕ)) → FileIsMissing files words → (text : List ℕ) × Answer files words text 3
missing_answer files words (inl m) = (missing_text (file_of m.0), answers.asked m.0 m.1 (missing m.2))
missing_answer files words (inr m) = (missing_text m.0, program_answer files words m.1 m.2 m.3 (acts_missing m.0 m.4 m.5))

-- ---- what an Answer says of its status

-- the causes of the statuses that files and words have
abbrev Cause : Files → List (List ℕ) → ℕ → Type 0
Cause files words n =
    ((n ≡ 1) × SourceIsRefused files words) ⊎ (((n ≡ 3) × FileIsMissing files words) ⊎ (((n ≡ 2) × (request_of words ≡ None)) ⊎ (((n ≡ 11) × ListingFails files words)
    ⊎ (((n ≡ 0) × (SourceIsChecked files words ⊎ CodeIsListed files words)) ⊎ ((needed : Option RefusedLine) × (ending : Ending) × (n ≡ status_with needed ending) × RunEndsWith files words needed ending)))))

run_cause : (files : Files) (words : List (List ℕ)) (options : Options) (program : Program) → AsksToRun files words options program → {text : List ℕ} {n : ℕ} → RunAnswer files options program text n → Cause files words n
run_cause files words options program asks (acts_missing name e none) = inr (inl (refl, inr (name, options, program, asks, e, none)))
run_cause files words options program asks (acts supply at (ran taken ending events blocks runs from)) =
    inr (inr (inr (inr (inr (needed_line supply events, ending, refl, (options, supply, program, taken, events, blocks, record { asks = asks; supply_is = at }, runs, from, refl))))))

check_cause : (files : Files) (words : List (List ℕ)) (name : List ℕ) (c : Core) → AsksOf files words (requests.Check name) c → {text : List ℕ} {n : ℕ} → CheckAnswer text n → Cause files words n
check_cause files words name c a says_so = inr (inr (inr (inr (inl (refl, inl (name, c, a))))))

split_cause : (files : Files) (words : List (List ℕ)) (name : List ℕ) (c : Core) → AsksOf files words (requests.Split name) c → {text : List ℕ} {n : ℕ} → SplitAnswer c text n → Cause files words n
split_cause files words name c a lists = inr (inr (inr (inr (inl (refl, inr (name, c, a))))))

core_cause : (files : Files) (words : List (List ℕ)) (request : Request) (src : List ℕ) (c : Core) → AsksAbout files words request src → Accepts src c → (text : List ℕ) (n : ℕ) → AskedOfCore files request c text n → Cause files words n
core_cause files words (requests.Check name) src c asks is text n a = check_cause files words name c (record { src = src; asks = asks; accepted = is }) a
core_cause files words (requests.Split name) src c asks is text n a = split_cause files words name c (record { src = src; asks = asks; accepted = is }) a
core_cause files words (Run name options) src c asks is text n a = run_cause files words options (Meant c) (record { name = name; src = src; request = asks.spelled; there = asks.there; accepted = is }) a
core_cause files words (Exec name options) src c asks is text n a = absurd a

exec_cause : (files : Files) (words : List (List ℕ)) (name : List ℕ) (options : Options) (listed : List ℕ) (image : Image) → AsksAboutListing files words name options listed → Spells listed image → {text : List ℕ} {n : ℕ} → ExecAnswer files options image text n → Cause files words n
exec_cause files words name options listed image asks is (unfit misfit) = inr (inr (inr (inl (refl, inr (name, options, listed, image, asks, is, misfit)))))
exec_cause files words name options listed image asks is (fits f a) =
    run_cause files words options (Coded image) (record { name = name; listed = listed; asks = asks; spells_it = is; fits_settings = f }) a

image_cause : (files : Files) (words : List (List ℕ)) (request : Request) (listed : List ℕ) (image : Image) → AsksAbout files words request listed → Spells listed image → (text : List ℕ) (n : ℕ) → AskedOfImage files request image text n → Cause files words n
image_cause files words (requests.Check name) listed image asks is text n a = absurd a
image_cause files words (requests.Split name) listed image asks is text n a = absurd a
image_cause files words (Run name options) listed image asks is text n a = absurd a
image_cause files words (Exec name options) listed image asks is text n a = exec_cause files words name options listed image (record { spelled = asks.spelled; there = asks.there }) is a

source_cause : (files : Files) (words : List (List ℕ)) (request : Request) (src : List ℕ) → AsksAbout files words request src → is_of_source request ≡ true → {text : List ℕ} {n : ℕ} → SourceAnswer (AskedOfCore files request) src text n → Cause files words n
source_cause files words request src asks of_source (refused fault r) = inl (refl, (request, src, fault, record { about = asks; of_source = of_source }, r))
source_cause files words request src asks of_source (accepted c is a) = core_cause files words request src c asks is _ _ a

-- a line of a listing is refused where the request is about a listing
line_cause : (files : Files) (words : List (List ℕ)) (request : Request) (listed : List ℕ) (number : ℕ) → AsksAbout files words request listed → is_of_source request ≡ false → IsRefusedAt listed number → ListingFails files words
line_cause files words (requests.Check name) listed number asks of_listing r = absurd (cc)
line_cause files words (requests.Split name) listed number asks of_listing r = absurd (cc)
line_cause files words (Run name options) listed number asks of_listing r = absurd (cc)
line_cause files words (Exec name options) listed number asks of_listing r = inl (name, options, listed, number, record { spelled = asks.spelled; there = asks.there }, r)

listing_cause : (files : Files) (words : List (List ℕ)) (request : Request) (listed : List ℕ) → AsksAbout files words request listed → is_of_source request ≡ false → {text : List ℕ} {n : ℕ} → ListingAnswer (AskedOfImage files request) listed text n → Cause files words n
listing_cause files words request listed asks of_listing (refused_at number r) = inr (inr (inr (inl (refl, line_cause files words request listed number asks of_listing r))))
listing_cause files words request listed asks of_listing (spells image is a) = image_cause files words request listed image asks is _ _ a

bytes_cause : (files : Files) (words : List (List ℕ)) (request : Request) (bytes : List ℕ) → AsksAbout files words request bytes → (b : Bool) → is_of_source request ≡ b → (text : List ℕ) (n : ℕ) → BytesAnswer files request b bytes text n → Cause files words n
bytes_cause files words request bytes asks true e text n a = source_cause files words request bytes asks e a
bytes_cause files words request bytes asks false e text n a = listing_cause files words request bytes asks e a

file_cause : (files : Files) (words : List (List ℕ)) (request : Request) → request_of words ≡ Some request → {text : List ℕ} {n : ℕ} → RequestAnswer files request text n → Cause files words n
file_cause files words request e (missing none) = inr (inl (refl, inl (request, e, none)))
file_cause files words request e (is_there bytes at a) = bytes_cause files words request bytes (record { spelled = e; there = at }) (is_of_source request) refl _ _ a

cause : (files : Files) (words : List (List ℕ)) {text : List ℕ} {n : ℕ} → Answer files words text n → Cause files words n
cause files words (answers.usage e) = inr (inr (inl (refl, e)))
cause files words (answers.asked request e a) = file_cause files words request e a

-- the status of a run tells which line it needed, and how it ended
data StatusOf : ℕ → Option RefusedLine → Ending → Type 0 where
  exit : (value : ℤ) → StatusOf 0 None (Exit value)
  check : (code : Code) (place : Place) → StatusOf 6 None (Check code place)
  stop : (code : Code) (act : Option ℕ) → StatusOf 7 None (Stop code act)
  refusal : (needed : RefusedLine) (ending : Ending) → StatusOf 8 (Some needed) ending

status_of_run : (needed : Option RefusedLine) (ending : Ending) → StatusOf (status_with needed ending) needed ending
status_of_run None (Exit value) = exit value
status_of_run None (Check code place) = check code place
status_of_run None (Stop code act) = stop code act
status_of_run (Some needed) ending = refusal needed ending

exit_from : (files : Files) (words : List (List ℕ)) (n : ℕ) (needed : Option RefusedLine) (ending : Ending) → StatusOf n needed ending → n ≡ 0 → RunEndsWith files words needed ending → RunExits files words
exit_from files words _ _ _ (exit value) e r = (value, r)
exit_from files words _ _ _ (check code place) e r = absurd (omega arith)
exit_from files words _ _ _ (stop code act) e r = absurd (omega arith)
exit_from files words _ _ _ (refusal needed ending) e r = absurd (omega arith)

check_from : (files : Files) (words : List (List ℕ)) (n : ℕ) (needed : Option RefusedLine) (ending : Ending) → StatusOf n needed ending → n ≡ 6 → RunEndsWith files words needed ending → CheckFails files words
check_from files words _ _ _ (exit value) e r = absurd (omega arith)
check_from files words _ _ _ (check code place) e r = (code, place, r)
check_from files words _ _ _ (stop code act) e r = absurd (omega arith)
check_from files words _ _ _ (refusal needed ending) e r = absurd (omega arith)

stop_from : (files : Files) (words : List (List ℕ)) (n : ℕ) (needed : Option RefusedLine) (ending : Ending) → StatusOf n needed ending → n ≡ 7 → RunEndsWith files words needed ending → RunStops files words
stop_from files words _ _ _ (exit value) e r = absurd (omega arith)
stop_from files words _ _ _ (check code place) e r = absurd (omega arith)
stop_from files words _ _ _ (stop code act) e r = (code, act, r)
stop_from files words _ _ _ (refusal needed ending) e r = absurd (omega arith)

line_from : (files : Files) (words : List (List ℕ)) (n : ℕ) (needed : Option RefusedLine) (ending : Ending) → StatusOf n needed ending → n ≡ 8 → RunEndsWith files words needed ending → LineIsRefused files words
line_from files words _ _ _ (exit value) e r = absurd (omega arith)
line_from files words _ _ _ (check code place) e r = absurd (omega arith)
line_from files words _ _ _ (stop code act) e r = absurd (omega arith)
line_from files words _ _ _ (refusal needed ending) e r = (needed, ending, r)

-- a status that only runs have comes with a run
of_run : (files : Files) (words : List (List ℕ)) (n : ℕ) (P : Type 0) → (n ≡ 1 → ⊥) → (n ≡ 2 → ⊥) → (n ≡ 3 → ⊥) → (n ≡ 11 → ⊥) → (n ≡ 0 → SourceIsChecked files words ⊎ CodeIsListed files words → P) → ((needed : Option RefusedLine) (ending : Ending) → StatusOf n needed ending → RunEndsWith files words needed ending → P) → (text : List ℕ) → Answer files words text n → P
of_run files words n P one two three eleven done take_run text a = by (cause files words a)
  where
    by : Cause files words n → P
    by (inl x) = absurd (one x.0)
    by (inr (inl x)) = absurd (three x.0)
    by (inr (inr (inl x))) = absurd (two x.0)
    by (inr (inr (inr (inl x)))) = absurd (eleven x.0)
    by (inr (inr (inr (inr (inl x))))) = done x.0 x.1
    by (inr (inr (inr (inr (inr x))))) = take_run x.0 x.1 (subst (λ m. StatusOf m x.0 x.1) (sym x.2) (status_of_run x.0 x.1)) x.3

-- no run has the status 1, 3 or 11
no_run : (n : ℕ) (needed : Option RefusedLine) (ending : Ending) → StatusOf n needed ending → (n ≢ 1) × (n ≢ 3) × (n ≢ 11)
no_run _ _ _ (exit value) = (λ e. omega arith, λ e. omega arith, λ e. omega arith)
no_run _ _ _ (check code place) = (λ e. omega arith, λ e. omega arith, λ e. omega arith)
no_run _ _ _ (stop code act) = (λ e. omega arith, λ e. omega arith, λ e. omega arith)
no_run _ _ _ (refusal needed ending) = (λ e. omega arith, λ e. omega arith, λ e. omega arith)

refused_from : (files : Files) (words : List (List ℕ)) (text : List ℕ) → Answer files words text 1 → SourceIsRefused files words
refused_from files words text a = by (cause files words a)
  where
    by : Cause files words 1 → SourceIsRefused files words
    by (inl x) = x.1
    by (inr (inl x)) = absurd (omega (arith, x.0))
    by (inr (inr (inl x))) = absurd (omega (arith, x.0))
    by (inr (inr (inr (inl x)))) = absurd (omega (arith, x.0))
    by (inr (inr (inr (inr (inl x))))) = absurd (omega (arith, x.0))
    by (inr (inr (inr (inr (inr x))))) = absurd ((no_run (status_with x.0 x.1) x.0 x.1 (status_of_run x.0 x.1)).0 (sym x.2))

missing_from : (files : Files) (words : List (List ℕ)) (text : List ℕ) → Answer files words text 3 → FileIsMissing files words
missing_from files words text a = by (cause files words a)
  where
    by : Cause files words 3 → FileIsMissing files words
    by (inl x) = absurd (omega (arith, x.0))
    by (inr (inl x)) = x.1
    by (inr (inr (inl x))) = absurd (omega (arith, x.0))
    by (inr (inr (inr (inl x)))) = absurd (omega (arith, x.0))
    by (inr (inr (inr (inr (inl x))))) = absurd (omega (arith, x.0))
    by (inr (inr (inr (inr (inr x))))) = absurd ((no_run (status_with x.0 x.1) x.0 x.1 (status_of_run x.0 x.1)).1 (sym x.2))

listing_from : (files : Files) (words : List (List ℕ)) (text : List ℕ) → Answer files words text 11 → ListingFails files words
listing_from files words text a = by (cause files words a)
  where
    by : Cause files words 11 → ListingFails files words
    by (inl x) = absurd (omega (arith, x.0))
    by (inr (inl x)) = absurd (omega (arith, x.0))
    by (inr (inr (inl x))) = absurd (omega (arith, x.0))
    by (inr (inr (inr (inl x)))) = x.1
    by (inr (inr (inr (inr (inl x))))) = absurd (omega (arith, x.0))
    by (inr (inr (inr (inr (inr x))))) = absurd ((no_run (status_with x.0 x.1) x.0 x.1 (status_of_run x.0 x.1)).2 (sym x.2))

-- ---- the end of a call

module _ (words : List (List ℕ)) (told : Option Files) (old new : Option (List ℕ)) (before after : Counts) where
  module _ (files : Files) (tells : told ≡ Some files) where
    -- how a call ends where the files are told
    data Settled : ℕ → Type 0 where
      whole_answer : (text : List ℕ) (status : ℕ) → Answer files words text status → new ≡ grown old text → Settled status
      front_answer : (text : List ℕ) (status k result : ℕ) → Answer files words text status → k ≤ length text → new ≡ grown old (take k text) → IsFailure result → Settled result
      nothing : (result : ℕ) → new ≡ old → IsFailure result → Settled result

    settled_text : (text : List ℕ) (status result : ℕ) → Answer files words text status → TextGiven text status old new before.sink after.sink result → Settled result
    settled_text text status _ a (all is same) = whole_answer text status a is
    settled_text text status _ a (failed k le is rises) = front_answer text status k 5 a le is (inr (inl refl))

    settled_line : (result : ℕ) → request_of words ≡ None → LineGiven usage_text 2 old new before.sink after.sink result → Settled result
    settled_line result e (given x) = settled_text usage_text 2 result (answers.usage e) x
    settled_line result e (unmade is same still) = nothing result same (inr (inr is))

    settled_gives : (request : Request) (result : ℕ) → request_of words ≡ Some request → Gives (IsGiven told request) old new before after result → Settled result
    settled_gives request _ e (answered text status is counts whole sink) = whole_answer text status (answers.asked request e (is files tells).0) whole
    settled_gives request _ e (output_failed text status k is more faults le front sink) = front_answer text status k 5 (answers.asked request e (is files tells).0) le front (inr (inl refl))
    settled_gives request _ e (files_failed same misses faults sink) = nothing 4 same (inl refl)
    settled_gives request _ e (no_memory same misses faults sink) = nothing 9 same (inr (inr refl))
    settled_gives request _ e (no_memory_behind text status k is le front misses faults sink) = front_answer text status k 9 (answers.asked request e (is files tells).0) (omega (arith, le)) front (inr (inr refl))

    settled : (result : ℕ) → CallEnds words told old new before after result → Settled result
    settled result (usage e line misses faults) = settled_line result e line
    settled result (asked request e gives) = settled_gives request result e gives

    front_of : (result : ℕ) → Settled result → GivesFront files words old new
    front_of _ (whole_answer text status b is) t n a =
        let same = one_answer files words b a in
        (length t, omega arith, is ∙ ap (grown old) (same.text ∙ sym (take_all (length t) t (omega arith))))
    front_of _ (front_answer text status k result b le is fails) t n a =
        let same = one_answer files words b a in
        (k, omega (arith, ap length same.text), is ∙ ap (λ (x : List ℕ). grown old (take k x)) same.text)
    front_of _ (nothing result is fails) t n a = (0, omega arith, is ∙ sym (grown-nothing old))

    whole_of : (result : ℕ) → Settled result → GivesWhole files words old new result ⊎ IsFailure result
    whole_of _ (whole_answer text status a is) = inl (record { text = text; answer = a; all = is })
    whole_of _ (front_answer text status k result a le is fails) = inr fails
    whole_of _ (nothing result is fails) = inr fails

    -- whatever the Answer is, it was given whole, or something failed
    is_given : (result : ℕ) → Settled result → {text : List ℕ} {n : ℕ} → Answer files words text n → ((result ≡ n) × (new ≡ grown old text)) ⊎ IsFailure result
    is_given _ (whole_answer text status b is) a =
        let same = one_answer files words b a in
        inl (same.status, is ∙ ap (grown old) same.text)
    is_given _ (front_answer text status k result b le is fails) a = inr fails
    is_given _ (nothing result is fails) a = inr fails

    pub front : (result : ℕ) → CallEnds words told old new before after result → GivesFront files words old new
    front result h = front_of result (settled result h)

    pub whole : (result : ℕ) → CallEnds words told old new before after result → GivesWhole files words old new result ⊎ IsFailure result
    whole result h = whole_of result (settled result h)

    -- behind a fault of the files, and where memory ran out, the text isn't whole
    abbrev Cut : ℕ → Type 0
    Cut result = (result ≡ 4) ⊎ (result ≡ 9) → IsCutShort files words old new

    cut_usage : (result : ℕ) → LineGiven usage_text 2 old new before.sink after.sink result → Cut result
    cut_usage _ (given (all is same)) fails = absurd (omega (arith, fails))
    cut_usage _ (given (failed k le is rises)) fails = absurd (omega (arith, fails))
    cut_usage result (unmade is same still) fails = inl same

    found_safe : (status : ℕ) → StatusCounts status before after → (status ≡ 4) ⊎ (status ≡ 9) → ⊥
    found_safe status counts fails = omega (arith, counts.1, fails)

    cut_gives : (request : Request) (result : ℕ) → request_of words ≡ Some request → Gives (IsGiven told request) old new before after result → Cut result
    cut_gives request _ e (answered text status is counts whole sink) fails = absurd (found_safe status counts fails)
    cut_gives request _ e (output_failed text status k is more faults le front sink) fails = absurd (omega (arith, fails))
    cut_gives request _ e (files_failed same misses faults sink) fails = inl same
    cut_gives request _ e (no_memory same misses faults sink) fails = inl same
    cut_gives request _ e (no_memory_behind text status k is le front misses faults sink) fails = inr (λ t n a.
        let same = one_answer files words (answers.asked request e (is files tells).0) a in
        (k, omega (arith, le, ap length same.text), front ∙ ap (λ (x : List ℕ). grown old (take k x)) same.text))

    pub cut_short : (result : ℕ) → CallEnds words told old new before after result → Cut result
    cut_short result (usage e line misses faults) = cut_usage result line
    cut_short result (asked request e gives) = cut_gives request result e gives

    pub printed_run : (result : ℕ) → CallEnds words told old new before after result → PrintedRun files words old new result
    printed_run result h options supply c a =
        let e = ends_over files words options c supply a in
        record {
          acts = e.acts;
          ending = e.ending;
          last = e.last;
          runs = e.runs;
          supplied = e.supplied;
          audited = e.audited;
          view = view_over files words options c supply a e.acts e.are e.ending e.last e.runs;
          view_before = view_before_over files words options c supply a e.acts e.are e.ending e.last e.runs;
          printed = is_given result (settled result h) (run_answer files words options supply (Meant c) e.acts e.ending (e.last).world.events _ a (record { last = e.last; runs = e.runs; events_are = refl; blocks_are = refl }) e.supplied);
        }

    pub printed_image_run : (result : ℕ) → CallEnds words told old new before after result → PrintedImageRun files words old new result
    printed_image_run result h options supply image a =
        let e = image_ends_over options image ((a.asks).spells_it).paced supply in
        record {
          acts = e.acts;
          ending = e.ending;
          last = e.last;
          runs = e.runs;
          supplied = e.supplied;
          view = image_view_over options image e.acts e.ending e.last e.runs;
          view_before = image_view_before_over options image e.acts e.ending e.last e.runs supply;
          printed = is_given result (settled result h) (run_answer files words options supply (Coded image) e.acts e.ending (e.last).world.events _ a (record { last = e.last; runs = e.runs; events_are = refl; blocks_are = refl }) e.supplied);
        }

    -- a failure is one of memory, where no device fails
    memory_alone : (result : ℕ) → CallEnds words told old new before after result → IsQuiet before.faults after.faults → IsQuiet before.sink after.sink → IsFailure result → result ≡ 9
    memory_alone result (usage e (given (all is same)) misses faults) files_quiet sink_quiet fails = absurd (omega arith)
    memory_alone result (usage e (given (failed k le is rises)) misses faults) files_quiet sink_quiet fails = absurd (sink_quiet rises.rose)
    memory_alone result (usage e (unmade is same still) misses faults) files_quiet sink_quiet fails = is
    memory_alone result (asked request e gives) files_quiet sink_quiet fails = by result gives fails
      where
        found : (status : ℕ) → StatusCounts status before after → IsFailure status → status ≡ 9
        found status counts f = absurd (omega (arith, counts.1, f))

        by : (n : ℕ) → Gives (IsGiven told request) old new before after n → IsFailure n → n ≡ 9
        by _ (answered text status is counts whole sink) f = found status counts f
        by _ (output_failed text status k is more faults le front sink) f = absurd (sink_quiet sink.rose)
        by _ (files_failed same misses faults sink) f = absurd (files_quiet faults.rose)
        by _ (no_memory same misses faults sink) f = refl
        by _ (no_memory_behind text status k is le front misses faults sink) f = refl

    -- the line of an accepted source
    pub printed_accepted : (result : ℕ) → CallEnds words told old new before after result → PrintedAccepted files words old new result
    printed_accepted result h name c a = is_given result (settled result h) (check_answer files words name c a)

    -- the code that is printed is in the format
    given_code : (request : Request) (name : List ℕ) (c : Core) → request ≡ requests.Split name → IsFileOf files name c → (result : ℕ) → Gives (IsGiven told request) old new before after result → InFormat (image_of (inserted c)) ⊎ IsFailure result
    given_code request name c same f _ (answered text status is counts given_all sink) = inl (subst (IsInFormat files) same (is files tells).1 c f)
    given_code request name c same f _ (output_failed text status k is more faults le part sink) = inr (inr (inl refl))
    given_code request name c same f _ (files_failed unwritten misses faults sink) = inr (inl refl)
    given_code request name c same f _ (no_memory unwritten misses faults sink) = inr (inr (inr refl))
    given_code request name c same f _ (no_memory_behind text status k is le part misses faults sink) = inr (inr (inr refl))

    code_given : (result : ℕ) → CallEnds words told old new before after result → (name : List ℕ) (c : Core) → AsksOf files words (requests.Split name) c → InFormat (image_of (inserted c)) ⊎ IsFailure result
    code_given result (usage e line misses faults) name c a = absurd (no_request (sym e ∙ a.asks.spelled))
      where
        no_request : {r : Request} → None ≡ Some r → ⊥
        no_request e = cc
    code_given result (asked request e gives) name c a = given_code request name c (one_request (sym e ∙ a.asks.spelled)) (a.src, a.asks.there, a.accepted) result gives
      where
        one_request : {r s : Request} → Some r ≡ Some s → r ≡ s
        one_request e = cc

    printed_alone : (result : ℕ) → CallEnds words told old new before after result → (name : List ℕ) (c : Core) → AsksOf files words (requests.Split name) c
        → ((result ≡ 0) × (new ≡ grown old (listing (image_of (inserted c))))) ⊎ IsFailure result
        → ((result ≡ 0) × (new ≡ grown old (listing (image_of (inserted c)))) × SpellsAlone (image_of (inserted c))) ⊎ IsFailure result
    printed_alone result h name c a (inr fails) = inr fails
    printed_alone result h name c a (inl whole) =
        ⊎_elim (λ f. inl (whole.0, whole.1, spells_alone (image_of (inserted c)) (kept_code c (a.src, a.accepted)).format f)) inr (code_given result h name c a)

    -- and the listing of its code
    pub printed_code : (result : ℕ) → CallEnds words told old new before after result → PrintedCode files words old new result
    printed_code result h name c a =
        let is : IsAcceptedCore c = (a.src, a.accepted) in
        let keeps = kept_code c is in
        record {
          image = image_of (inserted c);
          fits = keeps.fits;
          format = keeps.format;
          parts = parts_kept c;
          does = does_as c is;
          printed = printed_alone result h name c a (is_given result (settled result h) (split_answer files words name c a));
        }

    pub complete : (result : ℕ) → CallEnds words told old new before after result → IsQuiet before.faults after.faults → IsQuiet before.sink after.sink → IsComplete files words old new result
    complete result h files_quiet sink_quiet text n a = ⊎_elim inl (λ fails. inr (memory_alone result h files_quiet sink_quiet fails)) (is_given result (settled result h) a)

    -- a status that is no failure has its Answer
    answer_of : (result n : ℕ) → CallEnds words told old new before after result → result ≡ n → (IsFailure n → ⊥) → (text : List ℕ) × Answer files words text n
    answer_of result n h e safe = ⊎_elim (λ w. (w.text, subst (Answer files words w.text) e w.answer)) (λ f. absurd (safe (subst IsFailure e f))) (whole result h)

    -- a status comes exactly with its cause
    exactly : (n result : ℕ) (P : Type 0) → CallEnds words told old new before after result → (IsFailure n → ⊥) → ((text : List ℕ) → Answer files words text n → P) → (P → (text : List ℕ) × Answer files words text n) → Exactly n result P
    exactly n result P h safe only always = record {
      only = λ e. let a = answer_of result n h e safe in only a.0 a.1;
      always = λ p. let a = always p in ⊎_elim (λ s. inl s.0) inr (is_given result (settled result h) a.1);
    }

    -- the Answer of a run with this line needed and this ending
    run_ended : (needed : Option RefusedLine) (ending : Ending) (n : ℕ) → status_with needed ending ≡ n → RunEndsWith files words needed ending → (text : List ℕ) × Answer files words text n
    run_ended needed ending n e r =
        (_, subst (λ m. Answer files words (text_with (settings_of r.0) (needed_line r.1 r.4) r.4 ending r.5) m) (ap (λ x. status_with x ending) r.9 ∙ e) (run_answer files words r.0 r.1 r.2 r.3 ending r.4 r.5 r.6 r.7 r.8))

    safe : (n : ℕ) → n ≢ 4 → n ≢ 5 → n ≢ 9 → IsFailure n → ⊥
    safe n a b c (inl e) = a e
    safe n a b c (inr (inl e)) = b e
    safe n a b c (inr (inr e)) = c e

    success_answer : Succeeds files words → (text : List ℕ) × Answer files words text 0
    success_answer (inl p) = run_ended None (Exit p.0) 0 refl p.1
    success_answer (inr (inl p)) = (accepted_text, check_answer files words p.0 p.1 p.2)
    success_answer (inr (inr p)) = (listing (image_of (inserted p.1)), split_answer files words p.0 p.1 p.2)

    pub succeeds : (result : ℕ) → CallEnds words told old new before after result → Exactly 0 result (Succeeds files words)
    succeeds result h =
        exactly 0 result (Succeeds files words) h (safe 0 (omega arith) (omega arith) (omega arith))
        (of_run files words 0 (Succeeds files words) (omega arith) (omega arith) (omega arith) (omega arith) (λ zero d. inr d) (λ needed ending status r. inl (exit_from files words 0 needed ending status refl r)))
        success_answer

    pub checks : (result : ℕ) → CallEnds words told old new before after result → Exactly 6 result (CheckFails files words)
    checks result h =
        exactly 6 result (CheckFails files words) h (safe 6 (omega arith) (omega arith) (omega arith))
        (of_run files words 6 (CheckFails files words) (omega arith) (omega arith) (omega arith) (omega arith) (λ zero d. absurd (omega arith)) (λ needed ending status r. check_from files words 6 needed ending status refl r))
        (λ p. run_ended None (Check p.0 p.1) 6 refl p.2)

    pub stops : (result : ℕ) → CallEnds words told old new before after result → Exactly 7 result (RunStops files words)
    stops result h =
        exactly 7 result (RunStops files words) h (safe 7 (omega arith) (omega arith) (omega arith))
        (of_run files words 7 (RunStops files words) (omega arith) (omega arith) (omega arith) (omega arith) (λ zero d. absurd (omega arith)) (λ needed ending status r. stop_from files words 7 needed ending status refl r))
        (λ p. run_ended None (Stop p.0 p.1) 7 refl p.2)

    pub acts_refused : (result : ℕ) → CallEnds words told old new before after result → Exactly 8 result (LineIsRefused files words)
    acts_refused result h =
        exactly 8 result (LineIsRefused files words) h (safe 8 (omega arith) (omega arith) (omega arith))
        (of_run files words 8 (LineIsRefused files words) (omega arith) (omega arith) (omega arith) (omega arith) (λ zero d. absurd (omega arith)) (λ needed ending status r. line_from files words 8 needed ending status refl r))
        (λ p. run_ended (Some p.0) p.1 8 refl p.2)

    pub refuses : (result : ℕ) → CallEnds words told old new before after result → Exactly 1 result (SourceIsRefused files words)
    refuses result h =
        exactly 1 result (SourceIsRefused files words) h (safe 1 (omega arith) (omega arith) (omega arith))
        (refused_from files words) (λ p. refused_answer files words p.0 p.1 p.2 p.3 p.4)

    pub listing_fails : (result : ℕ) → CallEnds words told old new before after result → Exactly 11 result (ListingFails files words)
    listing_fails result h =
        exactly 11 result (ListingFails files words) h (safe 11 (omega arith) (omega arith) (omega arith))
        (listing_from files words) (listing_answer files words)

    pub misses : (result : ℕ) → CallEnds words told old new before after result → Exactly 3 result (FileIsMissing files words)
    misses result h =
        exactly 3 result (FileIsMissing files words) h (safe 3 (omega arith) (omega arith) (omega arith))
        (missing_from files words) (missing_answer files words)

  -- words that spell no request touch no file
  pub untouched : (result : ℕ) → CallEnds words told old new before after result → request_of words ≡ None → IsUntouched before.misses after.misses before.faults after.faults
  untouched result (usage e line still quiet) none = record { misses_stay = still; faults_stay = quiet }
  untouched result (asked request e gives) none = absurd (cc)

  -- they get the line of usage
  pub usage_line : (result : ℕ) → CallEnds words told old new before after result → request_of words ≡ None → LineGiven usage_text 2 old new before.sink after.sink result
  usage_line result (usage e line still quiet) none = line
  usage_line result (asked request e gives) none = absurd (cc)

  -- words of a call whose memory ran out before anything was read
  pub unmade_ends : (o : Option Request) → request_of words ≡ o → new ≡ old → after ≡ before → CallEnds words told old new before after 9
  unmade_ends None e same still = usage e (unmade refl same (ap (λ (c : Counts). c.sink) still)) (ap (λ (c : Counts). c.misses) still) (ap (λ (c : Counts). c.faults) still)
  unmade_ends (Some request) e same still =
      asked request e (no_memory same (subst (λ (c : Counts). before.misses ≤ c.misses) (sym still) (omega arith)) (ap (λ (c : Counts). c.faults) still) (ap (λ (c : Counts). c.sink) still))
