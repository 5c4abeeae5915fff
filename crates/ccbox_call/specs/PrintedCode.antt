-- The code that is printed of a core: what its image is, and that it does what the core means.
use Rattle.std.specs.Prelude.{◌≡◌, ℕ, ◌⊎◌, IsTrue, List, [], map, All, Option, Some, None}
use Rattle.std.proofs.Common.{ℤ}
use Rattle.ckc_io.specs.Files.{Files}
use Rattle.ckc_io.specs.Written.{grown}
use Rattle.act_words.specs.declared.ending.Ending.{Ending}
use Rattle.act_words.specs.declared.settings.Settings.{Settings}
use Rattle.act_words.specs.Acts.{Act, IsAct}
use Rattle.act_words.specs.Checks.{is_word_number}
use Rattle.act_words.specs.Limits.{AreAllowed}
use Rattle.ckc_core.specs.Core.{Core, Function}
use Rattle.ckc_core.specs.Meaning.{meaning}
use Rattle.ckc_core.specs.Outcome.{Ends}
use Rattle.ckc_core.specs.Programs.{trusted_of, tainted_of}
use Rattle.ckc_core.specs.States.{State}
use Rattle.code_words.specs.Fitting.{Fits}
use Rattle.code_words.specs.Formats.{KeepsFormat}
use Rattle.code_words.specs.Functions.{Func}
use Rattle.code_words.specs.Images.{Image}
use Rattle.code_words.specs.Runs.{CodeRun}
use Rattle.code_words.specs.Table as machine
use Rattle.code_words_listing.specs.Listings.{listing, InFormat}
use Rattle.code_words_listing.specs.Verdicts.{Verdict}
use Rattle.check_insertion.specs.Insert.{inserted}
use Rattle.lowering.specs.Code.{result_kind}
use Rattle.lowering.specs.Correct.{SameEnd}
use Rattle.lowering.specs.Images.{object_bytes, imports_from, image_of}
use Rattle.ccbox_call_words.specs.Requests.{Options, Split}
use Rattle.ccbox_call.specs.Answers.{AsksOf, AsksToRunCore, AsksAboutListing, Answer, IsFailure}
use Rattle.ccbox_call.specs.ReadListings.{Spells}

-- the trusted side of an image has a static block for each file-level variable of a core, the tainted functions of the core, its
-- trusted functions in their order, each with its name, and its `main`; there are no callbacks, and nothing is in the sandbox
pub record HasPartsOf (c : Core) (image : Image) : Type 0 where
  pub blocks : image.trusted.blocks ≡ map object_bytes c.objects
  pub imports : image.layout.imports ≡ imports_from 0 (tainted_of c.definitions)
  pub callbacks : image.layout.callbacks ≡ []
  pub names : map (λ (f : Func). f.name) image.trusted.funs ≡ map (λ (f : Function). f.name) (trusted_of c.definitions)
  pub parameters : map (λ (f : Func). f.args) image.trusted.funs ≡ map (λ (f : Function). f.parameters) (trusted_of c.definitions)
  pub results : map (λ (f : Func). f.result) image.trusted.funs ≡ map (λ (f : Function). result_kind f.result) (trusted_of c.definitions)
  pub main : image.layout.main ≡ Some c.main
  pub sandbox_blocks : image.sandbox.blocks ≡ []
  pub sandbox_functions : image.sandbox.funs ≡ []

-- the run of a core ends, and the run of an image ends in the same way: with the same output, the same acts taken and left, the
-- same releases and the same view, and the last blocks hold the bytes of the core's
pub record RunsAs (c : Core) (image : Image) (settings : Settings) (inputs : List ℤ) (acts : List Act) : Type 0 where
  pub ending : Ending
  pub meant : State
  pub last : machine.State
  pub means : meaning c settings inputs acts ≡ Ends ending meant
  pub runs : CodeRun image settings inputs acts ending last
  pub same : SameEnd settings.base meant last

-- an image does what a core means, under all settings that are allowed, with all inputs and over all acts
abbrev pub DoesAs : Core → Image → Type 0
DoesAs c image =
    (settings : Settings) (inputs : List ℤ) (acts : List Act) → AreAllowed settings → All (λ z. IsTrue (is_word_number z)) inputs → All IsAct acts
    → RunsAs c image settings inputs acts

-- an image is in the format; no line of its listing is refused, and no other image in the format has this listing
pub record SpellsAlone (image : Image) : Type 0 where
  pub in_format : InFormat image
  pub stands : Verdict (listing image) None
  pub alone : (other : Image) → InFormat other → listing other ≡ listing image → other ≡ image

-- an image fits all settings that are allowed, keeps the orders and limits of a listing and the pace, has the parts of the core and
-- does what the core means; and its listing, which spells this image alone, is printed, unless something fails
pub record PrintsCode (c : Core) (old new : Option (List ℕ)) (status : ℕ) : Type 0 where
  pub image : Image
  pub fits : (settings : Settings) → AreAllowed settings → Fits image settings
  pub format : KeepsFormat image
  pub parts : HasPartsOf c image
  pub does : DoesAs c image
  pub printed : ((status ≡ 0) × (new ≡ grown old (listing image)) × SpellsAlone image) ⊎ IsFailure status

abbrev pub PrintedCode : Files → List (List ℕ) → Option (List ℕ) → Option (List ℕ) → ℕ → Type 0
PrintedCode files words old new status = (name : List ℕ) (c : Core) → AsksOf files words (Split name) c → PrintsCode c old new status

-- ---- the code that was printed, run

-- some words ask to run a source, and others, with the same options, the listing of its code
pub record AskAlike (files : Files) (words others : List (List ℕ)) : Type 0 where
  pub options : Options
  pub program : Core
  pub name : List ℕ
  pub listed : List ℕ
  pub of_source : AsksToRunCore files words options program
  pub of_listing : AsksAboutListing files others name options listed
  pub its_code : Spells listed (image_of (inserted program))

-- the Answer of those is that of these
abbrev pub RunsAsSource : Type 0
RunsAsSource =
    (files : Files) (words others : List (List ℕ)) (text : List ℕ) (status : ℕ) → AskAlike files words others → Answer files others text status
    → Answer files words text status
