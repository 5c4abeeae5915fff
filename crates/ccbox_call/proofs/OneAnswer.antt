-- Words have one Answer.
use Rattle.std.proofs.Common.{◌≡◌, ℕ, ℤ, Bool, true, false, List, Option, Some, None, option_map, refl, sym, ap, ◌∙◌, subst}
use Rattle.std.specs.Prelude.{All, IsTrue}
use Rattle.ckc_text.specs.declared.fault.SourceFault.{SourceFault}
use Rattle.ckc_text.specs.Places.{place_at}
use Rattle.ckc_io.specs.Files.{Files, file_at}
use Rattle.act_words.specs.declared.ending.Ending.{Ending}
use Rattle.act_words.specs.declared.settings.Settings.{Settings}
use Rattle.act_words.specs.Acts.{Act}
use Rattle.act_words.specs.Checks.{is_word_number}
use Rattle.act_words.specs.Limits.{AreAllowed}
use Rattle.act_words.specs.Shown.{Shown}
use Rattle.act_words.specs.World.{Event}
use Rattle.ckc_core.specs.Outcome.{Outcome, Ends}
use Rattle.ckc_core.specs.Core.{Core}
use Rattle.ckc_core.specs.States.{State}
use Rattle.code_words.specs.Dumps.{blocks_held}
use Rattle.code_words.specs.Images.{Image}
use Rattle.code_words.specs.Paced.{is_paced}
use Rattle.code_words.specs.Runs.{started}
use Rattle.code_words.specs.Table as machine
use Rattle.code_words.proofs.Runs.{one_end, same_ending, same_last}
use Rattle.lowering.specs.Correct.{blocks_meant}
use Rattle.sandbox_actor.specs.ActLists.{acts_of_file}
use Rattle.ccbox_call_words.specs.Requests.{Request, Run, Options, file_of, is_of_source, settings_of, inputs_of, request_of}
use Rattle.ccbox_call_words.specs.Requests as requests
use Rattle.act_recorder.specs.Diagnostics.{missing_text, refused_text, listing_refused_text}
use Rattle.ccbox_call.specs.Answers.{text_with, status_with, SupplyAnswer, ran, RunAnswer, acts_missing, acts, CheckAnswer, says_so, SplitAnswer, lists, ExecAnswer, unfit, fits, SourceAnswer, refused, accepted, ListingAnswer, refused_at, spells, FileAnswer, missing, is_there, AskedOfCore, AskedOfImage, BytesAnswer, RequestAnswer, Answer, usage, asked}
use Rattle.ccbox_call.specs.Acceptance.{IsAcceptedCore}
use Rattle.ccbox_call.specs.Supplies.{Supply, Listed, Own, supply_at, IsOwn, Supplied, needed_line}
use Rattle.ccbox_call.specs.Programs.{Program, Meant, Coded, MeantRun, ImageRun, Runs}
use Rattle.ccbox_call.proofs.OwnCode.{one_own}
use Rattle.ccbox_call.proofs.OwnRuns.{one_own_meant}
use Rattle.ccbox_call.proofs.Runs.{may_run}
use Rattle.ccbox_call.proofs.Fronts.{one_core, core_or_fault, one_refusal}
use Rattle.ccbox_call.proofs.ReadListings.{one_image, image_or_line, one_line}

-- two texts and statuses that are the same
pub record Same (t u : List ℕ) (m n : ℕ) : Type 0 where
  pub text : t ≡ u
  pub status : m ≡ n

-- how a run ended, and what can be seen of it, that are the same
record SameRun (e f : Ending) (xs ys : List Event) (bs cs : List Shown) : Type 0 where
  ending : e ≡ f
  events : xs ≡ ys
  blocks : bs ≡ cs

-- a run ends in one way
one_meant : (c : Core) (settings : Settings) (inputs : List ℤ) (taken : List Act) (e f : Ending) (xs ys : List Event) (bs cs : List Shown) → MeantRun c settings inputs taken e xs bs → MeantRun c settings inputs taken f ys cs → SameRun e f xs ys bs cs
one_meant c settings inputs taken e f xs ys bs cs x y =
    let both : ◌≡◌ {A = Outcome State (Unit {0})} (Ends e x.last) (Ends f y.last) = sym x.runs ∙ y.runs in
    let last : x.last ≡ y.last = cc in
    record {
      ending = cc;
      events = sym x.events_are ∙ ap (λ (z : State). z.world.events) last ∙ y.events_are;
      blocks = sym x.blocks_are ∙ ap (λ (z : State). blocks_meant settings.base z) last ∙ y.blocks_are;
    }

one_coded : (image : Image) (settings : Settings) (inputs : List ℤ) (taken : List Act) (e f : Ending) (xs ys : List Event) (bs cs : List Shown) → ImageRun image settings inputs taken e xs bs → ImageRun image settings inputs taken f ys cs → SameRun e f xs ys bs cs
one_coded image settings inputs taken e f xs ys bs cs x y =
    let both = one_end image settings (x.runs).0 (y.runs).0 (started image settings inputs taken) e f x.last y.last (x.runs).1 (y.runs).1 in
    let last = same_last e f x.last y.last both in
    record {
      ending = same_ending e f x.last y.last both;
      events = sym x.events_are ∙ ap (λ (z : machine.State). z.world.events) last ∙ y.events_are;
      blocks = sym x.blocks_are ∙ ap blocks_held last ∙ y.blocks_are;
    }

one_run : (program : Program) (settings : Settings) (inputs : List ℤ) (taken : List Act) (e f : Ending) (xs ys : List Event) (bs cs : List Shown) → Runs program settings inputs taken e xs bs → Runs program settings inputs taken f ys cs → SameRun e f xs ys bs cs
one_run (Meant c) = one_meant c
one_run (Coded image) = one_coded image

-- what can be run with these settings and input numbers: an accepted core, or a paced image
abbrev pub MayBeRun : Program → Settings → List ℤ → Type 0
MayBeRun (Meant c) settings inputs = IsAcceptedCore c × AreAllowed settings × All (λ z. IsTrue (is_word_number z)) inputs
MayBeRun (Coded image) settings inputs = IsTrue (is_paced image)

one_own_run : (program : Program) (settings : Settings) (inputs : List ℤ) → MayBeRun program settings inputs → (mine others : List Act) (e f : Ending) (xs ys : List Event) (bs cs : List Shown)
    → Runs program settings inputs mine e xs bs → Runs program settings inputs others f ys cs → Supplied program settings Own mine xs → Supplied program settings Own others ys → SameRun e f xs ys bs cs
one_own_run (Meant c) settings inputs may mine others e f xs ys bs cs x y p q =
    let same = one_own_meant c may.0 settings inputs may.1 may.2 mine others e f xs ys bs cs x y p q in
    record { ending = same.ending; events = same.events; blocks = same.blocks }
one_own_run (Coded image) settings inputs may mine others e f xs ys bs cs x y p q =
    let same = one_own image settings inputs may mine others e f x.last y.last x.runs y.runs (subst (IsOwn (Coded image) settings) (sym x.events_are) p.1) (subst (IsOwn (Coded image) settings) (sym y.events_are) q.1) in
    record {
      ending = same.ending;
      events = sym x.events_are ∙ same.events ∙ y.events_are;
      blocks = sym x.blocks_are ∙ same.blocks ∙ y.blocks_are;
    }

one_supply_run : (program : Program) (settings : Settings) (inputs : List ℤ) → MayBeRun program settings inputs → (supply : Supply) (mine others : List Act) (e f : Ending) (xs ys : List Event) (bs cs : List Shown)
    → Runs program settings inputs mine e xs bs → Runs program settings inputs others f ys cs → Supplied program settings supply mine xs → Supplied program settings supply others ys → SameRun e f xs ys bs cs
one_supply_run program settings inputs may (Listed list) mine others e f xs ys bs cs x y p q =
    one_run program settings inputs list.acts e f xs ys bs cs (subst (λ taken. Runs program settings inputs taken e xs bs) p x) (subst (λ taken. Runs program settings inputs taken f ys cs) q y)
one_supply_run program settings inputs may Own mine others e f xs ys bs cs x y p q = one_own_run program settings inputs may mine others e f xs ys bs cs x y p q

one_supply : (program : Program) (settings : Settings) (inputs : List ℤ) → MayBeRun program settings inputs → (supply : Supply) {t u : List ℕ} {m n : ℕ} → SupplyAnswer program settings inputs supply t m → SupplyAnswer program settings inputs supply u n → Same t u m n
one_supply program settings inputs may supply (ran mine e xs bs x p) (ran others f ys cs y q) =
    let same = one_supply_run program settings inputs may supply mine others e f xs ys bs cs x y p q in
    record {
      text = ap (λ (z : List Event). text_with settings (needed_line supply z) z e bs) same.events ∙ ap (λ (z : List Shown). text_with settings (needed_line supply ys) ys e z) same.blocks
          ∙ ap (λ (g : Ending). text_with settings (needed_line supply ys) ys g cs) same.ending;
      status = ap (λ (z : List Event). status_with (needed_line supply z) e) same.events ∙ ap (λ (g : Ending). status_with (needed_line supply ys) g) same.ending;
    }

-- acts whose file is missing aren't there
acts_there : (files : Files) (o : Option (List ℕ)) (name : List ℕ) (supply : Supply) → o ≡ Some name → file_at files name ≡ None → supply_at files o ≡ Some supply → ⊥
acts_there files o name supply e none there =
    let wrong : None ≡ Some supply = sym (ap (supply_at files) e ∙ ap (option_map (λ file. Listed (acts_of_file file))) none) ∙ there in
    cc

-- a program of words that may be run
abbrev MayRunWith : Options → Program → Type 0
MayRunWith options program = MayBeRun program (settings_of options) (inputs_of options)

one_run_answer : (files : Files) (options : Options) (program : Program) → MayRunWith options program → {t u : List ℕ} {m n : ℕ} → RunAnswer files options program t m → RunAnswer files options program u n → Same t u m n
one_run_answer files options program may (acts_missing name e none) (acts_missing other f none') =
    let same : name ≡ other = cc in
    record { text = ap missing_text same; status = refl }
one_run_answer files options program may (acts_missing name e none) (acts supply there a) = absurd (acts_there files options.acts name supply e none there)
one_run_answer files options program may (acts supply there a) (acts_missing name e none) = absurd (acts_there files options.acts name supply e none there)
one_run_answer files options program may {t} {u} {m} {n} (acts supply there a) (acts other there' b) =
    let same : other ≡ supply = cc in
    one_supply program (settings_of options) (inputs_of options) may supply a (subst (λ l. SupplyAnswer program (settings_of options) (inputs_of options) l u n) same b)

-- what is asked of a core, or of an image, has one answer
abbrev HasOne : {P : Type 0} → (P → Type 0) → (P → List ℕ → ℕ → Type 0) → Type 0
HasOne {P} Is Of = (x : P) → Is x → (t u : List ℕ) (m n : ℕ) → Of x t m → Of x u n → Same t u m n

-- whatever bytes are asked about
abbrev AnyBytes : List ℕ → Type 0
AnyBytes bytes = Unit {0}

one_source_answer : (Of : Core → List ℕ → ℕ → Type 0) (one : HasOne IsAcceptedCore Of) (src t u : List ℕ) (m n : ℕ) → SourceAnswer Of src t m → SourceAnswer Of src u n → Same t u m n
one_source_answer Of one src t u m n (refused fault r) (refused other s) = record { text = ap (λ (f : SourceFault). refused_text f.code (place_at src f.span.from)) (one_refusal r s); status = refl }
one_source_answer Of one src t u m n (refused fault r) (accepted c a x) = absurd (core_or_fault a r)
one_source_answer Of one src t u m n (accepted c a x) (refused fault r) = absurd (core_or_fault a r)
one_source_answer Of one src t u m n (accepted c a x) (accepted d b y) =
    one c (src, a) t u m n x (subst (λ z. Of z u n) (one_core src d c b a) y)

one_listing_answer : (Of : Image → List ℕ → ℕ → Type 0) (one : HasOne (λ image. IsTrue (is_paced image)) Of) (listed t u : List ℕ) (m n : ℕ) → ListingAnswer Of listed t m → ListingAnswer Of listed u n → Same t u m n
one_listing_answer Of one listed t u m n (refused_at k r) (refused_at l s) = record { text = ap listing_refused_text (one_line listed k l r s); status = refl }
one_listing_answer Of one listed t u m n (refused_at k r) (spells image a x) = absurd (image_or_line listed image k a r)
one_listing_answer Of one listed t u m n (spells image a x) (refused_at k r) = absurd (image_or_line listed image k a r)
one_listing_answer Of one listed t u m n (spells image a x) (spells other b y) =
    one image a.paced t u m n x (subst (λ z. Of z u n) (one_image listed other image b a) y)

one_file_answer : (files : Files) (Of : List ℕ → List ℕ → ℕ → Type 0) (one : HasOne AnyBytes Of) (name : List ℕ) {t u : List ℕ} {m n : ℕ} → FileAnswer files Of name t m → FileAnswer files Of name u n → Same t u m n
one_file_answer files Of one name (missing none) (missing none') = record { text = refl; status = refl }
one_file_answer files Of one name (missing none) (is_there src at x) = absurd (cc)
one_file_answer files Of one name (is_there src at x) (missing none) = absurd (cc)
one_file_answer files Of one name {t} {u} {m} {n} (is_there src at x) (is_there other at' y) =
    let same : other ≡ src = cc in
    one src tt t u m n x (subst (λ z. Of z u n) same y)

one_check : {t u : List ℕ} {m n : ℕ} → CheckAnswer t m → CheckAnswer u n → Same t u m n
one_check says_so says_so = record { text = refl; status = refl }

one_split : (c : Core) {t u : List ℕ} {m n : ℕ} → SplitAnswer c t m → SplitAnswer c u n → Same t u m n
one_split c lists lists = record { text = refl; status = refl }

one_exec : (files : Files) (options : Options) (image : Image) → IsTrue (is_paced image) → {t u : List ℕ} {m n : ℕ} → ExecAnswer files options image t m → ExecAnswer files options image u n → Same t u m n
one_exec files options image paced (unfit misfit) (unfit misfit') = record { text = refl; status = refl }
one_exec files options image paced (unfit misfit) (fits f x) = absurd (misfit f)
one_exec files options image paced (fits f x) (unfit misfit) = absurd (misfit f)
one_exec files options image paced (fits f x) (fits g y) = one_run_answer files options (Coded image) paced x y

module _ (files : Files) (words : List (List ℕ)) where
  one_of_core : (request : Request) → request_of words ≡ Some request → HasOne IsAcceptedCore (AskedOfCore files request)
  one_of_core (requests.Check name) e c is t u m n x y = one_check x y
  one_of_core (requests.Split name) e c is t u m n x y = one_split c x y
  one_of_core (Run name options) e c is t u m n x y = let may = may_run words name options e in one_run_answer files options (Meant c) (is, may.settings, may.inputs) x y
  one_of_core (requests.Exec name options) e c is t u m n x y = absurd x

  one_of_image : (request : Request) → HasOne (λ image. IsTrue (is_paced image)) (AskedOfImage files request)
  one_of_image (requests.Check name) image paced t u m n x y = absurd x
  one_of_image (requests.Split name) image paced t u m n x y = absurd x
  one_of_image (Run name options) image paced t u m n x y = absurd x
  one_of_image (requests.Exec name options) image paced t u m n x y = one_exec files options image paced x y

  one_of_bytes : (request : Request) → request_of words ≡ Some request → (b : Bool) → HasOne AnyBytes (BytesAnswer files request b)
  one_of_bytes request e true bytes any = one_source_answer (AskedOfCore files request) (one_of_core request e) bytes
  one_of_bytes request e false bytes any = one_listing_answer (AskedOfImage files request) (one_of_image request) bytes

pub one_answer : (files : Files) (words : List (List ℕ)) {t u : List ℕ} {m n : ℕ} → Answer files words t m → Answer files words u n → Same t u m n
one_answer files words (usage e) (usage f) = record { text = refl; status = refl }
one_answer files words (usage e) (asked request f x) = absurd (cc)
one_answer files words (asked request e x) (usage f) = absurd (cc)
one_answer files words {t} {u} {m} {n} (asked request e x) (asked other f y) =
    let same : other ≡ request = cc in
    one_file_answer files (BytesAnswer files request (is_of_source request)) (one_of_bytes files words request e (is_of_source request)) (file_of request) x (subst (λ (r : Request). RequestAnswer files r u n) same y)
