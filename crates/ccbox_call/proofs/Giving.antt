-- How the parts of a call give their answers.
use Rattle.std.proofs.Common.{◌≡◌, ℕ, ℤ, ◌+◌, ◌<◌, ◌≤◌, nat_lt, Bool, true, false, inl, inr, List, ◌++◌, length, take, Option, Some, None, refl, sym, ap, ◌∙◌, subst, arith, length-append, [], ◌∷◌}
use Rattle.std.specs.Prelude.{Result, Ok, Err, codes, decimal}
use Rattle.ckc_text.specs.Texts.{number_of, name_of}
use Rattle.std.proofs.lemmas.Bool.{ltb-true, ltb-false}
use Rattle.std.proofs.lemmas.List.{take-append-le, take_all, length-take}
use Rattle.std.proofs.Math.Seq.{take-append_seam, take-append-add}
use Rattle.ckc_text.specs.declared.code.Code.{Code}
use Rattle.ckc_text.specs.declared.code.Code.TheVariants.{E08}
use Rattle.ckc_text.specs.declared.fault.SourceFault.{SourceFault}
use Rattle.ckc_text.specs.Places.{place_at}
use Rattle.ckc_lexer.specs.Tokens.{great, fault_at}
use Rattle.ckc_io.specs.Counts.{Rises}
use Rattle.ckc_io.specs.Files.{Files, Told, file_at}
use Rattle.ckc_io.specs.Written.{grown}
use Rattle.ckc_io.proofs.Fronts.{grown-grown}
use Rattle.act_words.specs.declared.ending.Ending.{Ending}
use Rattle.act_words.specs.declared.ending.Ending.TheVariants.{Exit, Check, Stop}
use Rattle.act_words.specs.declared.settings.Settings.{Settings}
use Rattle.ckc_core.specs.declared.program as code
use Rattle.ckc_core.specs.Core.{Core, core}
use Rattle.code_words.specs.Images.{Image}
use Rattle.lowering.specs.Correct.{KeepsMeaning}
use Rattle.run_core.specs.Asked.{Answering}
use Rattle.run_core.specs.declared.fault.RunFault.{RunFault}
use Rattle.run_core.specs.declared.fault.RunFault.TheVariants as faults
use Rattle.run_core.specs.Runs.{Outcome, Ends, LineRefused, FileMissing, Comes, WritesAll, WritesFront, RunWrites, Counts, RunCounts}
use Rattle.act_recorder.specs.Diagnostics.{refused_text, act_refused_text}
use Rattle.ccbox_call_words.specs.Statuses.{status_of}
use Rattle.ccbox_call_words.specs.Given.{all, failed, LineGiven, given, unmade, OutcomeGiven}
use Rattle.ccbox_call_words.specs.declared.status.Status.{Status}
use Rattle.ccbox_call_words.specs.Requests.{Request, Options, file_of, is_of_source, settings_of, inputs_of}
use Rattle.ccbox_call_words.specs.Requests as requests
use Rattle.check_insertion.specs.Insert.{inserted}
use Rattle.lowering.specs.Images.{image_of}
use Rattle.code_words_listing.specs.Listings.{InFormat}
use Rattle.ccbox_call.specs.Acceptance.{Accepts, IsAcceptedCore, no_tokens}
use Rattle.ccbox_call.specs.Answers.{SupplyAnswer, RunAnswer, acts_missing, acts, ExecAnswer, SourceAnswer, refused, accepted, refused_at, spells, missing, is_there, AskedOfCore, BytesAnswer, RequestAnswer}
use Rattle.ccbox_call.specs.Calls.{IsFoundStatus, StatusCounts, Gives, answered, output_failed, files_failed, no_memory, no_memory_behind, RefusedAnswer, NoCoreAnswer, IsFileOf, NoImageAnswer, NoListingAnswer, IsListingOf, IsInFormat, IsGiven, MayRun, SourceRead, ProgramRead, ListingRead, ImageRead}
use Rattle.ccbox_call.specs.Programs.{Program, Meant, Coded}
use Rattle.ccbox_call.specs.ReadListings.{Spells}
use Rattle.ccbox_call.proofs.Fronts.{one_core, core_or_fault, one_refusal}
use Rattle.ccbox_call.specs.Supplies.{Supply, supply_at}
use Rattle.ccbox_call.proofs.ListRuns.{Answers, whole, front, meant_answer}
use Rattle.ccbox_call.proofs.ReadListings.{file_spells, file_refused}
use Rattle.ccbox_call.proofs.Runs.{acts_there}

-- an answer of one kind is an answer of another
pub gives_as : {Is Is' : List ℕ → ℕ → Type 0} {old new : Option (List ℕ)} {before after : Counts} {result : ℕ} → ((text : List ℕ) (status : ℕ) → Is text status → Is' text status) → Gives Is old new before after result → Gives Is' old new before after result
gives_as turn (answered text status is counts complete sink) = answered text status (turn text status is) counts complete sink
gives_as turn (output_failed text status k is more faults le part sink) = output_failed text status k (turn text status is) more faults le part sink
gives_as turn (files_failed same misses faults sink) = files_failed same misses faults sink
gives_as turn (no_memory same misses faults sink) = no_memory same misses faults sink
gives_as turn (no_memory_behind text status k is le part misses faults sink) = no_memory_behind text status k (turn text status is) le part misses faults sink

-- counts that are the same
pub same_counts : (m m' f f' k : ℕ) → m' ≡ m → f' ≡ f → ◌≡◌ {A = Counts} (record { misses = m'; faults = f'; sink = k }) (record { misses = m; faults = f; sink = k })
same_counts m m' f f' k h i = rw (h, i) refl

-- a part that touched no file before
pub gives_from : {Is : List ℕ → ℕ → Type 0} {old new : Option (List ℕ)} {mid before after : Counts} {result : ℕ} → mid ≡ before → Gives Is old new mid after result → Gives Is old new before after result
gives_from {Is} {old} {new} {mid} {before} {after} {result} same h = subst (λ b. Gives Is old new b after result) same h

-- a line is an answer
pub line_gives : {Is : List ℕ → ℕ → Type 0} {old new : Option (List ℕ)} {m m' f f' k k' result : ℕ} (text : List ℕ) (status : ℕ) → Is text status → StatusCounts status (record { misses = m; faults = f; sink = k }) (record { misses = m'; faults = f'; sink = k' }) → m ≤ m' → LineGiven text status old new k k' result → Gives Is old new (record { misses = m; faults = f; sink = k }) (record { misses = m'; faults = f'; sink = k' }) result
line_gives text status is counts more (given (all complete same)) = answered text status is counts complete same
line_gives text status is counts more (given (failed k le part rises)) = output_failed text status k is more counts.0 le part rises
line_gives {Is} {old} {new} {m} {m'} {f} {f'} {k} {k'} text status is counts more (unmade nine same still) =
    subst (Gives Is old new (record { misses = m; faults = f; sink = k }) (record { misses = m'; faults = f'; sink = k' })) (sym nine) (no_memory same more counts.0 still)

-- ---- runs

-- every ending has a status of its own
found : (ending : Ending) → IsFoundStatus (status_of ending)
found (Exit value) = inl refl
found (Check code place) = inr (inr (inl refl))
found (Stop code act) = inr (inr (inr (inl refl)))

line_found : IsFoundStatus 8
line_found = inr (inr (inr (inr (inl refl))))

unchanged : (ending : Ending) (before : Counts) → StatusCounts (status_of ending) before before
unchanged ending before = (refl, inr (found ending, refl))

-- the text of what a run with an actor comes to is that of an answer, or the front of one
module _ {S : Type 0} (answering : Answering S) (files : Option Files) (image : Image) (settings : Settings) (inputs : List ℤ) (first : S) (IsAnswer : List ℕ → ℕ → Type 0)
    (answers_of : (last : S) (outcome : Outcome) (text : List ℕ) → Comes answering files image settings inputs first last outcome text → Answers IsAnswer text outcome) where
  -- a run that ended
  ended_gives : (text : List ℕ) (ending : Ending) (old new : Option (List ℕ)) (before : Counts) → Answers IsAnswer text (Ends ending) → new ≡ grown old text → Gives IsAnswer old new before before (status_of ending)
  ended_gives text _ old new before (whole ending a) written = answered text (status_of ending) a (unchanged ending before) written refl

  run_gives : {last : S} {old new : Option (List ℕ)} {before after : Counts} (ending : Ending) (status : ℕ) → WritesAll answering files image settings inputs first last (Ends ending) old new → after ≡ before → status ≡ status_of ending → Gives IsAnswer old new before after status
  run_gives {last} {old} {new} {before} {after} ending status w same is_status =
      subst (λ x. Gives IsAnswer old new before x status) (sym same)
      (subst (Gives IsAnswer old new before before) (sym is_status) (ended_gives w.0 ending old new before (answers_of _ _ _ w.1) w.2))

  -- a run that needs a refused line, and the line that says so
  behind : (text more : List ℕ) (k : ℕ) (old mid new : Option (List ℕ)) → mid ≡ grown old text → new ≡ grown mid (take k more) → new ≡ grown old (take (length text + k) (text ++ more))
  behind text more k old mid new first second =
      second ∙ ap (λ o. grown o (take k more)) first ∙ grown-grown old text (take k more) ∙ ap (grown old) (sym (take-append-add text more k))

  -- a line has its end
  ends_line : (text : List ℕ) → 0 < length (text ++ 10 ∷ [])
  ends_line text = omega (arith, length-append text (10 ∷ []))

  refused_long : (line : ℕ) (code : Code) → 0 < length (act_refused_text line code)
  refused_long line code = ends_line (codes "[act line " ++ decimal line ++ codes " " ++ number_of code ++ codes " " ++ name_of code ++ codes "]")

  refused_gives : (text : List ℕ) (line : ℕ) (code : Code) (old mid new : Option (List ℕ)) (m f k k' result : ℕ) → Answers IsAnswer text (LineRefused line code) → mid ≡ grown old text → LineGiven (act_refused_text line code) 8 mid new k k' result →
      Gives IsAnswer old new (record { misses = m; faults = f; sink = k }) (record { misses = m; faults = f; sink = k' }) result
  refused_gives text _ _ old mid new m f k k' _ (front line code a) first (given (all second same)) =
      answered (text ++ act_refused_text line code) 8 a (refl, inr (line_found, refl)) (second ∙ ap (λ o. grown o (act_refused_text line code)) first ∙ grown-grown old text (act_refused_text line code)) same
  refused_gives text _ _ old mid new m f k k' _ (front line code a) first (given (failed n le second rises)) =
      output_failed (text ++ act_refused_text line code) 8 (length text + n) a (omega arith) refl (omega (arith, length-append text (act_refused_text line code), le)) (behind text (act_refused_text line code) n old mid new first second) rises
  refused_gives text _ _ old mid new m f k k' result (front line code a) first (unmade nine same still) =
      subst (Gives IsAnswer old new (record { misses = m; faults = f; sink = k }) (record { misses = m; faults = f; sink = k' })) (sym nine)
      (no_memory_behind (text ++ act_refused_text line code) 8 (length text) a (omega (arith, length-append text (act_refused_text line code), refused_long line code)) (same ∙ first ∙ ap (grown old) (sym (take-append_seam text (act_refused_text line code)))) (omega arith) refl still)

  line_refused_gives : {last : S} {old mid new : Option (List ℕ)} (line : ℕ) (code : Code) (m m' f f' k j k' result : ℕ) → WritesAll answering files image settings inputs first last (LineRefused line code) old mid → ◌≡◌ {A = Counts} (record { misses = m'; faults = f'; sink = j }) (record { misses = m; faults = f; sink = k }) → LineGiven (act_refused_text line code) 8 mid new j k' result →
      Gives IsAnswer old new (record { misses = m; faults = f; sink = k }) (record { misses = m'; faults = f'; sink = k' }) result
  line_refused_gives {last} {old} {mid} {new} line code m m' f f' k j k' result w same made =
      let misses = ap (λ (x : Counts). x.misses) same in
      let faults = ap (λ (x : Counts). x.faults) same in
      let sink = ap (λ (x : Counts). x.sink) same in
      rw (misses, faults) (refused_gives w.0 line code old mid new m f k k' result (answers_of _ _ _ w.1) w.2 (rw sink at made))

  -- a file of acts was read before the run
  not_missing : {text : List ℕ} → Answers IsAnswer text FileMissing → ⊥
  not_missing a = by FileMissing a refl
    where
      by : {text : List ℕ} (outcome : Outcome) → Answers IsAnswer text outcome → outcome ≡ FileMissing → ⊥
      by _ (whole ending a) e = cc
      by _ (front line code a) e = cc

  never_missing : {last : S} (old new : Option (List ℕ)) → WritesAll answering files image settings inputs first last FileMissing old new → ⊥
  never_missing old new w = not_missing (answers_of _ _ _ w.1)

  -- a front of a run's text
  fronted : (text : List ℕ) (outcome : Outcome) (n : ℕ) (old new : Option (List ℕ)) (before after : Counts) → Answers IsAnswer text outcome → n ≤ length text → new ≡ grown old (take n text) → before.misses ≤ after.misses → after.faults ≡ before.faults → Rises before.sink after.sink → Gives IsAnswer old new before after 5
  fronted text _ n old new before after (whole ending a) le part misses faults rises = output_failed text (status_of ending) n a misses faults le part rises
  fronted text _ n old new before after (front line code a) le part misses faults rises =
      output_failed (text ++ act_refused_text line code) 8 n a misses faults (omega (arith, length-append text (act_refused_text line code), le)) (part ∙ ap (grown old) (sym (take-append-le n text (act_refused_text line code) le))) rises

  output_gives : {last : S} {old new : Option (List ℕ)} {before after : Counts} → WritesFront answering files image settings inputs first last old new → before.misses ≤ after.misses → after.faults ≡ before.faults → Rises before.sink after.sink → Gives IsAnswer old new before after 5
  output_gives {last} {old} {new} {before} {after} w misses faults rises = fronted w.text w.outcome w.size old new before after (answers_of _ _ _ w.comes) w.fits w.front misses faults rises

  -- what a run came to, and the line and the status behind it
  pub outcome_gives : (last : S) (old mid new : Option (List ℕ)) (outcome : Result Ending RunFault) (m m' f f' k j k' status : ℕ) → RunWrites answering files image settings inputs first last old mid outcome →
      RunCounts outcome (record { misses = m; faults = f; sink = k }) (record { misses = m'; faults = f'; sink = j }) → OutcomeGiven outcome mid new j k' status → Gives IsAnswer old new (record { misses = m; faults = f; sink = k }) (record { misses = m'; faults = f'; sink = k' }) status
  outcome_gives last old mid new (Ok ending) m m' f f' k j k' status w counts made = rw (made.1, made.2) (run_gives ending status w counts made.0)
  outcome_gives last old mid new (Err (faults.Line line code)) m m' f f' k j k' status w counts made = line_refused_gives line code m m' f f' k j k' status w counts made
  outcome_gives last old mid new (Err faults.Missing) m m' f f' k j k' status w counts made = absurd (never_missing old mid w)
  outcome_gives last old mid new (Err faults.ShelfFailed) m m' f f' k j k' status w counts made = rw (made.0, made.1, made.2) (files_failed w.nothing counts.0 counts.1 counts.2)
  outcome_gives last old mid new (Err faults.SinkFailed) m m' f f' k j k' status w counts made = rw (made.0, made.1, made.2) (output_gives w counts.0 counts.1 counts.2)
  outcome_gives last old mid new (Err faults.NoMemory) m m' f f' k j k' status w counts made = rw (made.0, made.1, made.2) (no_memory w.nothing counts.0 counts.1 counts.2)

-- ---- from supplies to files

-- an answer of a supply is one of a run, where the options ask for that supply
pub supply_run : (told : Option Files) (options : Options) (program : Program) (settings : Settings) (inputs : List ℤ) (supply : Supply) → settings ≡ settings_of options → inputs ≡ inputs_of options → ((files : Files) → told ≡ Some files → supply_at files options.acts ≡ Some supply) → (text : List ℕ) (status : ℕ) → SupplyAnswer program settings inputs supply text status → Told told (λ files. RunAnswer files options program text status)
supply_run told options program settings inputs supply same same_inputs there text status a = λ files is. acts supply (there files is) (subst (λ xs. SupplyAnswer program (settings_of options) xs supply text status) same_inputs (subst (λ s. SupplyAnswer program s inputs supply text status) same a))

-- an answer of a program's code is one of the program
pub code_run : (files : Files) (options : Options) (c : Core) (image : Image) → IsAcceptedCore c → KeepsMeaning (inserted c) image → image.sandbox.funs ≡ [] → MayRun options → {text : List ℕ} {status : ℕ} → RunAnswer files options (Coded image) text status → RunAnswer files options (Meant c) text status
code_run files options c image is keeps bare may (acts_missing name e none) = acts_missing name e none
code_run files options c image is keeps bare may (acts supply at a) =
    acts supply at (meant_answer c image (settings_of options) (inputs_of options) is keeps bare may.settings may.inputs supply (acts_there files options.acts supply at) a)

-- ---- a file is read up to one byte more than a source may have

short_file : (file : List ℕ) → length file ≤ 1048576 → take 1048577 file ≡ file
short_file file short = take_all 1048577 file (omega arith)

-- a longer file is refused as what was read of it is
long_file : (file : List ℕ) → 1048576 < length file → {text : List ℕ} {status : ℕ} → RefusedAnswer (take 1048577 file) text status → RefusedAnswer file text status
long_file file long (refused fault r) =
    let front = take 1048577 file in
    let same : fault ≡ fault_at E08 0 = one_refusal r (no_tokens (great (omega (arith, length-take 1048577 file, long)))) in
    subst (λ (f : SourceFault). RefusedAnswer file (refused_text f.code (place_at front f.span.from)) 1) (sym same) (refused (fault_at E08 0) (no_tokens (great long)))
long_file file long (accepted c a x) = absurd x

-- and isn't accepted
long_core : (file : List ℕ) (c : Core) → 1048576 < length file → Accepts (take 1048577 file) c → ⊥
long_core file c long a = core_or_fault a (no_tokens (great (omega (arith, length-take 1048577 file, long))))

whole_file : (file : List ℕ) {text : List ℕ} {status : ℕ} → RefusedAnswer (take 1048577 file) text status → RefusedAnswer file text status
whole_file file {text} {status} a = by_test (nat_lt 1048576 (length file)) refl
  where
    by_test : (b : Bool) → nat_lt 1048576 (length file) ≡ b → RefusedAnswer file text status
    by_test true long = long_file file (ltb-true 1048576 (length file) long) a
    by_test false short = subst (λ f. RefusedAnswer f text status) (short_file file (ltb-false 1048576 (length file) short)) a

whole_core : (file : List ℕ) (c : Core) → Accepts (take 1048577 file) c → Accepts file c
whole_core file c a = by_test (nat_lt 1048576 (length file)) refl
  where
    by_test : (b : Bool) → nat_lt 1048576 (length file) ≡ b → Accepts file c
    by_test true long = absurd (long_core file c (ltb-true 1048576 (length file) long) a)
    by_test false short = subst (λ f. Accepts f c) (short_file file (ltb-false 1048576 (length file) short)) a

-- what is read of a file: its bytes, up to a limit
abbrev IsRead : Option Files → List ℕ → List ℕ → Type 0
IsRead told name src = Told told (λ files. (file : List ℕ) × (file_at files name ≡ Some file) × (src ≡ take 1048577 file))

-- a source that was read of a file has come to what the file comes to
pub file_read : (told : Option Files) (name src read : List ℕ) (old new : Option (List ℕ)) (m m' f f' k k' : ℕ) → m' ≡ m → f' ≡ f → src ≡ read → IsRead told name read → (result : Result code.Core.Core Status) → SourceRead src old new k k' result →
    ProgramRead told name old new (record { misses = m; faults = f; sink = k }) (record { misses = m'; faults = f'; sink = k' }) result
file_read told name src read old new m m' f f' k k' same_misses same_faults is content (Ok program) h =
    ((src, h.0), λ files tells. let x = content files tells in (x.0, x.1, whole_core x.0 (core program) (subst (λ s. Accepts s (core program)) (is ∙ x.2) h.0)), h.1, rw (same_misses, same_faults, h.2) refl)
file_read told name src read old new m m' f f' k k' same_misses same_faults is content (Err status) h =
    rw (same_misses, same_faults)
    (gives_as (λ text n a files tells. let x = content files tells in in_file files name x.0 x.1 (whole_file x.0 (subst (λ s. RefusedAnswer s text n) (is ∙ x.2) a))) (h m f))
  where
    in_file : (files : Files) (name file : List ℕ) → file_at files name ≡ Some file → {text : List ℕ} {n : ℕ} → RefusedAnswer file text n → NoCoreAnswer files name text n
    in_file files name file at a = is_there file at a

-- the same of a listing
no_image_whole : (file : List ℕ) {text : List ℕ} {status : ℕ} → NoImageAnswer (take 16777217 file) text status → NoImageAnswer file text status
no_image_whole file (refused_at number r) = refused_at number (file_refused file number r)
no_image_whole file (spells image a x) = absurd x

abbrev IsListingRead : Option Files → List ℕ → List ℕ → Type 0
IsListingRead told name listed = Told told (λ files. (file : List ℕ) × (file_at files name ≡ Some file) × (listed ≡ take 16777217 file))

pub listing_read : (told : Option Files) (name listed read : List ℕ) (old new : Option (List ℕ)) (m m' f f' k k' : ℕ) → m' ≡ m → f' ≡ f → listed ≡ read → IsListingRead told name read → (result : Result Image Status) → ListingRead listed old new k k' result →
    ImageRead told name old new (record { misses = m; faults = f; sink = k }) (record { misses = m'; faults = f'; sink = k' }) result
listing_read told name listed read old new m m' f f' k k' same_misses same_faults is content (Ok image) h =
    ((h.0).paced, λ files tells. let x = content files tells in (x.0, x.1, file_spells x.0 image (subst (λ s. Spells s image) (is ∙ x.2) h.0)), h.1, rw (same_misses, same_faults, h.2) refl)
listing_read told name listed read old new m m' f f' k k' same_misses same_faults is content (Err status) h =
    rw (same_misses, same_faults)
    (gives_as (λ text n a files tells. let x = content files tells in in_file files name x.0 x.1 (no_image_whole x.0 (subst (λ s. NoImageAnswer s text n) (is ∙ x.2) a))) (h m f))
  where
    in_file : (files : Files) (name file : List ℕ) → file_at files name ≡ Some file → {text : List ℕ} {n : ℕ} → NoImageAnswer file text n → NoListingAnswer files name text n
    in_file files name file at a = is_there file at a

-- ---- from a core to what is asked about its file

-- a source and a file without a core have the same answer whatever is asked
refused_alone : (src : List ℕ) (Of : Core → List ℕ → ℕ → Type 0) {text : List ℕ} {n : ℕ} → RefusedAnswer src text n → SourceAnswer Of src text n
refused_alone src Of (refused fault r) = refused fault r
refused_alone src Of (accepted c a x) = absurd x

without_core : (files : Files) (request : Request) → is_of_source request ≡ true → {text : List ℕ} {n : ℕ} → NoCoreAnswer files (file_of request) text n → RequestAnswer files request text n
without_core files request of_source (missing none) = missing none
without_core files request of_source {text} {n} (is_there src at a) = is_there src at (subst (λ b. BytesAnswer files request b src text n) (sym of_source) (refused_alone src (AskedOfCore files request) a))

refused_core : (src : List ℕ) (c : Core) {text : List ℕ} {n : ℕ} → RefusedAnswer src text n → Accepts src c → ⊥
refused_core src c (refused fault r) a = core_or_fault a r
refused_core src c (accepted d b x) a = absurd x

no_core_there : (files : Files) (name : List ℕ) (c : Core) {text : List ℕ} {n : ℕ} → NoCoreAnswer files name text n → IsFileOf files name c → ⊥
no_core_there files name c (missing none) f = let e : None ≡ Some f.0 = sym none ∙ f.1 in cc
no_core_there files name c {text} {n} (is_there src at a) f =
    let same : src ≡ f.0 = some_same (sym at ∙ f.1) in
    refused_core f.0 c (subst (λ (s : List ℕ). RefusedAnswer s text n) same a) f.2
  where
    some_same : {x y : List ℕ} → Some x ≡ Some y → x ≡ y
    some_same e = cc

no_code : (files : Files) (request : Request) {text : List ℕ} {n : ℕ} → NoCoreAnswer files (file_of request) text n → IsInFormat files request
no_code files (requests.Check name) a = tt
no_code files (requests.Split name) a = λ c f. absurd (no_core_there files name c a f)
no_code files (requests.Run name options) a = tt
no_code files (requests.Exec name options) a = tt

pub no_core_gives : (told : Option Files) (request : Request) → is_of_source request ≡ true → {old new : Option (List ℕ)} {before after : Counts} {result : ℕ} → Gives (λ text n. Told told (λ files. NoCoreAnswer files (file_of request) text n)) old new before after result → Gives (IsGiven told request) old new before after result
no_core_gives told request of_source h = gives_as (λ text n a files tells. (without_core files request of_source (a files tells), no_code files request (a files tells))) h

-- a core's code is in the format, and so is that of each core of the same file
pub same_code : (files : Files) (name : List ℕ) (c : Core) → IsFileOf files name c → InFormat (image_of (inserted c)) → IsInFormat files (requests.Split name)
same_code files name c f is d g =
    let sources : f.0 ≡ g.0 = some_same (sym f.1 ∙ g.1) in
    subst (λ (x : Core). InFormat (image_of (inserted x))) (one_core g.0 c d (subst (λ (s : List ℕ). Accepts s c) sources f.2) g.2) is
  where
    some_same : {x y : List ℕ} → Some x ≡ Some y → x ≡ y
    some_same e = cc

-- what is given of a core behind the reading of its file is given of the file
pub gives_behind : (told : Option Files) (request : Request) (c : Core) → is_of_source request ≡ true → {Is : List ℕ → ℕ → Type 0} {old mid new : Option (List ℕ)} {before between after : Counts} {result : ℕ} → Told told (λ files. IsFileOf files (file_of request) c) → mid ≡ old → between ≡ before →
    ((text : List ℕ) (n : ℕ) → Is text n → Told told (λ files. AskedOfCore files request c text n × IsInFormat files request)) → Gives Is mid new between after result → Gives (IsGiven told request) old new before after result
gives_behind told request c of_source {Is} {old} {mid} {new} {before} {between} {after} {result} found same still turn h =
    gives_as (λ text n a files tells. let f = found files tells in let b = turn text n a files tells in (is_there f.0 f.1 (subst (λ s. BytesAnswer files request s f.0 text n) (sym of_source) (accepted c f.2 b.0)), b.1))
    (gives_from still (subst (λ o. Gives Is o new between after result) same h))

-- the same of a listing: what is given without an image, and what is given of its image
pub no_image_gives : (told : Option Files) (name : List ℕ) (options : Options) {old new : Option (List ℕ)} {before after : Counts} {result : ℕ} → Gives (λ text n. Told told (λ files. NoListingAnswer files name text n)) old new before after result → Gives (IsGiven told (requests.Exec name options)) old new before after result
no_image_gives told name options h = gives_as (λ text n a files tells. (by files (a files tells), tt)) h
  where
    by_bytes : (files : Files) (listed : List ℕ) {text : List ℕ} {n : ℕ} → NoImageAnswer listed text n → BytesAnswer files (requests.Exec name options) false listed text n
    by_bytes files listed (refused_at number r) = refused_at number r
    by_bytes files listed (spells image a x) = absurd x

    by : (files : Files) {text : List ℕ} {n : ℕ} → NoListingAnswer files name text n → RequestAnswer files (requests.Exec name options) text n
    by files (missing none) = missing none
    by files (is_there listed at a) = is_there listed at (by_bytes files listed a)

pub image_gives : (told : Option Files) (name : List ℕ) (options : Options) (image : Image) {Is : List ℕ → ℕ → Type 0} {old mid new : Option (List ℕ)} {before between after : Counts} {result : ℕ} → Told told (λ files. IsListingOf files name image) → mid ≡ old → between ≡ before →
    ((text : List ℕ) (n : ℕ) → Is text n → Told told (λ files. ExecAnswer files options image text n)) → Gives Is mid new between after result → Gives (IsGiven told (requests.Exec name options)) old new before after result
image_gives told name options image {Is} {old} {mid} {new} {before} {between} {after} {result} found same still turn h =
    gives_as (λ text n a files tells. let f = found files tells in (is_there f.0 f.1 (spells image f.2 (turn text n a files tells)), tt))
    (gives_from still (subst (λ o. Gives Is o new between after result) same h))

-- a text that is an answer with the status 0
pub done_gives : {Is : List ℕ → ℕ → Type 0} {old new : Option (List ℕ)} {m f k k' result : ℕ} (text : List ℕ) → Is text 0 → LineGiven text 0 old new k k' result → Gives Is old new (record { misses = m; faults = f; sink = k }) (record { misses = m; faults = f; sink = k' }) result
done_gives text is h = line_gives text 0 is (refl, inr (inl refl, refl)) (omega arith) h
