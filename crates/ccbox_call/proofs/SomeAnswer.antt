-- Words have an Answer over every map of files.
use Rattle.std.proofs.Common.{◌≡◌, ℕ, ◌⊎◌, Bool, true, false, List, length, Option, Some, None, option_map, Result, Ok, Err, refl, sym, ap, ◌∙◌, inl, inr, ⊎_elim}
use Rattle.ckc_text.specs.declared.fault.SourceFault.{SourceFault}
use Rattle.ckc_text.specs.Places.{place_at}
use Rattle.ckc_text.specs.Refusals.{not_built as not_built_fault}
use Rattle.ckc_lexer.specs.declared.token.Token.{Token}
use Rattle.ckc_lexer.specs.Tokens.{Lexes}
use Rattle.ckc_lexer.proofs.Cutting.{some_answer as some_cut}
use Rattle.ckc_tree.specs.Items.{Tree}
use Rattle.ckc_parser_grammar.proofs.ReadItems.{tree_or_fault}
use Rattle.ckc_io.specs.Files.{Files, file_at}
use Rattle.built_forms.specs.Built.{is_built}
use Rattle.ckc_names_rules.specs.Naming.{naming_fault, named_of}
use Rattle.region_typing_rules.specs.Verdicts.{Verdict, Passes, Stops, Broken, Nameless}
use Rattle.region_typing_rules.specs.Cores.{checked}
use Rattle.region_typing_rules.proofs.NamedItems.{all_named}
use Rattle.ckc_core.specs.Core.{Core}
use Rattle.act_words.specs.declared.ending.Ending.{Ending}
use Rattle.act_words.specs.Acts.{Act}
use Rattle.act_words.specs.Shown.{Shown}
use Rattle.act_words.specs.World.{Event}
use Rattle.code_words.specs.Fitting.{Fits}
use Rattle.code_words.specs.Images.{Image}
use Rattle.sandbox_actor.specs.ActLists.{acts_of_file}
use Rattle.ccbox_call_words.specs.Requests.{Request, Run, Options, file_of, is_of_source, settings_of, inputs_of, request_of}
use Rattle.ccbox_call_words.specs.Requests as requests
use Rattle.ccbox_call.specs.Acceptance.{HasTree, Accepts, CoreOrFault, no_tokens, no_tree, not_built, misnamed, breaks}
use Rattle.ccbox_call.specs.Supplies.{Supply, Listed, supply_at, Supplied}
use Rattle.ccbox_call.specs.Answers.{AsksToRunCore, ran, RunAnswer, acts_missing, acts, says_so, lists, ExecAnswer, unfit, fits, refused, accepted, refused_at, spells, missing, is_there, AskedOfCore, BytesAnswer, Answer, usage, asked}
use Rattle.ccbox_call.specs.Programs.{Program, Meant, Coded, Runs}
use Rattle.ccbox_call.specs.ReadListings.{Spells, ImageOrRefusal}
use Rattle.ccbox_call.proofs.Fitting.{fits_or_not}
use Rattle.ccbox_call.proofs.ReadListings.{some_image_or_line}
use Rattle.ccbox_call.proofs.Runs.{listing_may_run}
use Rattle.ccbox_call.proofs.SuppliedRuns.{ends_over, image_ends_over}

-- ---- a source has a core or a fault

module _ (src : List ℕ) where
  by_rules : (tree : Tree) → HasTree src tree → is_built tree ≡ true → naming_fault tree ≡ None → (v : Verdict Core) → checked (place_at src) (named_of tree) ≡ v → CoreOrFault src
  by_rules tree has built named (Passes c) e = inl (c, record { tree = tree; has_tree = has; forms = built; has_core = record { forms = built; names = named; rules = e } })
  by_rules tree has built named (Stops (Broken fault)) e = inr (fault, breaks tree has built named e)
  by_rules tree has built named (Stops Nameless) e = absurd (all_named (place_at src) tree built named e)

  by_names : (tree : Tree) → HasTree src tree → is_built tree ≡ true → (o : Option SourceFault) → naming_fault tree ≡ o → CoreOrFault src
  by_names tree has built (Some fault) e = inr (fault, misnamed tree has built e)
  by_names tree has built None e = by_rules tree has built e (checked (place_at src) (named_of tree)) refl

  by_forms : (tree : Tree) → HasTree src tree → (b : Bool) → is_built tree ≡ b → CoreOrFault src
  by_forms tree has true e = by_names tree has e (naming_fault tree) refl
  by_forms tree has false e = inr (not_built_fault, not_built tree has e)

-- a source with a tree has the one or the other
pub core_or_fault_of : (src : List ℕ) (tree : Tree) → HasTree src tree → CoreOrFault src
core_or_fault_of src tree has = by_forms src tree has (is_built tree) refl

by_cut : (src : List ℕ) (answer : Result (List Token) SourceFault) → Lexes src answer → CoreOrFault src
by_cut src (Err fault) h = inr (fault, no_tokens h)
by_cut src (Ok tokens) h =
    ⊎_elim (λ x. core_or_fault_of src x.0 (record { tokens = tokens; are_tokens = h; is_tree = x.1 })) (λ x. inr (x.0, no_tree tokens h x.1)) (tree_or_fault (length src) tokens)

pub some_core_or_fault : (src : List ℕ) → CoreOrFault src
some_core_or_fault src = let cut = some_cut src in by_cut src cut.0 cut.1

-- ---- words have an Answer

-- the Answer of these words
abbrev HasAnswer : Files → List (List ℕ) → Type 0
HasAnswer files words = (text : List ℕ) × (status : ℕ) × Answer files words text status

-- what is asked of a core has an answer
abbrev HasSome : Files → Request → Core → Type 0
HasSome files request c = (text : List ℕ) × (status : ℕ) × AskedOfCore files request c text status

-- so has a program whose run ends with each supply
abbrev HasRun : Files → Options → Program → Type 0
HasRun files options program = (text : List ℕ) × (status : ℕ) × RunAnswer files options program text status

abbrev EndsOver : Options → Program → Supply → Type 0
EndsOver options program supply =
    (acts : List Act) × (ending : Ending) × (events : List Event) × (blocks : List Shown) × Runs program (settings_of options) (inputs_of options) acts ending events blocks × Supplied program (settings_of options) supply acts events

module _ (files : Files) (options : Options) (program : Program) (over : (supply : Supply) → supply_at files options.acts ≡ Some supply → EndsOver options program supply) where
  by_file : (name : List ℕ) → options.acts ≡ Some name → supply_at files (Some name) ≡ None → (o : Option (List ℕ)) → file_at files name ≡ o → HasRun files options program
  by_file name e none None gone = (_, _, acts_missing name e gone)
  by_file name e none (Some text) found = let wrong : None ≡ Some (Listed (acts_of_file text)) = sym none ∙ ap (option_map (λ file. Listed (acts_of_file file))) found in cc

  by_acts : (o : Option (List ℕ)) → options.acts ≡ o → (supply : Option Supply) → supply_at files o ≡ supply → HasRun files options program
  by_acts None e None supply_is = absurd (cc)
  by_acts (Some name) e None supply_is = by_file name e supply_is (file_at files name) refl
  by_acts o e (Some supply) supply_is =
      let at : supply_at files options.acts ≡ Some supply = ap (supply_at files) e ∙ supply_is in
      let end = over supply at in
      (_, _, acts supply at (ran end.0 end.1 end.2 end.3 end.4 end.5))

  some_run : HasRun files options program
  some_run = by_acts options.acts refl (supply_at files options.acts) refl

module _ (files : Files) (words : List (List ℕ)) where
  core_ends : (name : List ℕ) (options : Options) (src : List ℕ) (c : Core) → request_of words ≡ Some (Run name options) → file_at files name ≡ Some src → Accepts src c → (supply : Supply) → supply_at files options.acts ≡ Some supply → EndsOver options (Meant c) supply
  core_ends name options src c request at is supply supply_is =
      let asks : AsksToRunCore files words options c = record { name = name; src = src; request = request; there = at; accepted = is } in
      let end = ends_over files words options c supply (record { asks = asks; supply_is = supply_is }) in
      (end.acts, end.ending, (end.last).world.events, _, record { last = end.last; runs = end.runs; events_are = refl; blocks_are = refl }, end.supplied)

  by_core : (request : Request) (src : List ℕ) (c : Core) → is_of_source request ≡ true → request_of words ≡ Some request → file_at files (file_of request) ≡ Some src → Accepts src c → HasSome files request c
  by_core (requests.Check name) src c of_source e at is = (_, _, says_so)
  by_core (requests.Split name) src c of_source e at is = (_, _, lists)
  by_core (Run name options) src c of_source e at is = some_run files options (Meant c) (core_ends name options src c e at is)
  by_core (requests.Exec name options) src c of_source e at is = absurd (cc)

  image_ends : (options : Options) (listed : List ℕ) (image : Image) → Spells listed image → (supply : Supply) → EndsOver options (Coded image) supply
  image_ends options listed image a supply =
      let end = image_ends_over options image a.paced supply in
      (end.acts, end.ending, (end.last).world.events, _, record { last = end.last; runs = end.runs; events_are = refl; blocks_are = refl }, end.supplied)

  by_fit : (options : Options) (listed : List ℕ) (image : Image) → Spells listed image → Fits image (settings_of options) ⊎ (Fits image (settings_of options) → ⊥) → (text : List ℕ) × (status : ℕ) × ExecAnswer files options image text status
  by_fit options listed image a (inl f) =
      let run = some_run files options (Coded image) (λ supply at. image_ends options listed image a supply) in
      (run.0, run.1, fits f run.2)
  by_fit options listed image a (inr misfit) = (_, _, unfit misfit)

  by_listing : (name : List ℕ) (options : Options) (listed : List ℕ) → request_of words ≡ Some (requests.Exec name options) → ImageOrRefusal listed → (text : List ℕ) × (status : ℕ) × BytesAnswer files (requests.Exec name options) false listed text status
  by_listing name options listed e (inl x) =
      let a = by_fit options listed x.0 x.1 (fits_or_not x.0 (settings_of options) (listing_may_run words name options e).settings) in
      (a.0, a.1, spells x.0 x.1 a.2)
  by_listing name options listed e (inr x) = (_, _, refused_at x.0 x.1)

  by_source : (request : Request) (src : List ℕ) → is_of_source request ≡ true → request_of words ≡ Some request → file_at files (file_of request) ≡ Some src → CoreOrFault src → (text : List ℕ) × (status : ℕ) × BytesAnswer files request true src text status
  by_source request src of_source e at (inl x) = let a = by_core request src x.0 of_source e at x.1 in (a.0, a.1, accepted x.0 x.1 a.2)
  by_source request src of_source e at (inr x) = (_, _, refused x.0 x.1)

  by_bytes : (request : Request) (bytes : List ℕ) → request_of words ≡ Some request → file_at files (file_of request) ≡ Some bytes → (text : List ℕ) × (status : ℕ) × BytesAnswer files request (is_of_source request) bytes text status
  by_bytes (requests.Check name) bytes e at = by_source (requests.Check name) bytes refl e at (some_core_or_fault bytes)
  by_bytes (requests.Split name) bytes e at = by_source (requests.Split name) bytes refl e at (some_core_or_fault bytes)
  by_bytes (Run name options) bytes e at = by_source (Run name options) bytes refl e at (some_core_or_fault bytes)
  by_bytes (requests.Exec name options) bytes e at = by_listing name options bytes e (some_image_or_line bytes)

  by_there : (request : Request) → request_of words ≡ Some request → (o : Option (List ℕ)) → file_at files (file_of request) ≡ o → HasAnswer files words
  by_there request e None gone = (_, _, asked request e (missing gone))
  by_there request e (Some bytes) at = let a = by_bytes request bytes e at in (a.0, a.1, asked request e (is_there bytes at a.2))

  by_request : (o : Option Request) → request_of words ≡ o → HasAnswer files words
  by_request None e = (_, _, usage e)
  by_request (Some request) e = by_there request e (file_at files (file_of request)) refl

pub some_answer : (files : Files) (words : List (List ℕ)) → (text : List ℕ) × (status : ℕ) × Answer files words text status
some_answer files words = by_request files words (request_of words) refl
