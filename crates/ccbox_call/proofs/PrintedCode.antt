-- The code of an accepted program has the program's parts, and does what the program means.
use Rattle.std.proofs.Common.{◌≡◌, ℕ, suc, List, [], ◌∷◌, map, refl, ap}
use Rattle.std.specs.Prelude.{IfOk, Result, Ok, Err}
use Rattle.ckc_core.specs.Core.{Core, Function}
use Rattle.ckc_core.specs.Programs.{trusted_of}
use Rattle.check_insertion.specs.Insert.{function, inserted}
use Rattle.code_words.specs.Formats.{KeepsFormat}
use Rattle.code_words.specs.Functions.{Func}
use Rattle.code_words.specs.Images.{Image}
use Rattle.code_words_listing.specs.Listings.{InFormat}
use Rattle.code_words_listing.proofs.ImagesBack.{listing-injective}
use Rattle.code_words_listing.proofs.PacedLines.{listing-stands}
use Rattle.lowering.specs.Code.{result_kind}
use Rattle.lowering.specs.Correct.{KeepsMeaning}
use Rattle.lowering.specs.Images.{functions_from, image_of}
use Rattle.lowering.proofs.Fits.{image_keeps}
use Rattle.ccbox_call.specs.Acceptance.{IsAcceptedCore}
use Rattle.ccbox_call.specs.PrintedCode.{HasPartsOf, SpellsAlone, DoesAs}
use Rattle.ccbox_call.specs.Words.{FitsWords}
use Rattle.ccbox_call.proofs.Formats.{in_format}
use Rattle.ccbox_call.proofs.Runs.{lowerable, ends, inserted_ends}

-- functions keep their names, their parameters and what they return
names_kept : (number : ℕ) (functions : List Function) → map (λ (f : Func). f.name) (functions_from number (map function functions)) ≡ map (λ (f : Function). f.name) functions
names_kept number [] = refl
names_kept number (f ∷ functions) = ap (λ names. f.name ∷ names) (names_kept (suc number) functions)

parameters_kept : (number : ℕ) (functions : List Function) → map (λ (f : Func). f.args) (functions_from number (map function functions)) ≡ map (λ (f : Function). f.parameters) functions
parameters_kept number [] = refl
parameters_kept number (f ∷ functions) = ap (λ counts. f.parameters ∷ counts) (parameters_kept (suc number) functions)

results_kept : (number : ℕ) (functions : List Function) → map (λ (f : Func). f.result) (functions_from number (map function functions)) ≡ map (λ (f : Function). result_kind f.result) functions
results_kept number [] = refl
results_kept number (f ∷ functions) = ap (λ kinds. result_kind f.result ∷ kinds) (results_kept (suc number) functions)

pub parts_kept : (c : Core) → HasPartsOf c (image_of (inserted c))
parts_kept c =
    let functions = trusted_of c.definitions in
    record {
      blocks = refl;
      imports = refl;
      callbacks = refl;
      names = names_kept 0 functions;
      parameters = parameters_kept 0 functions;
      results = results_kept 0 functions;
      main = refl;
      sandbox_blocks = refl;
      sandbox_functions = refl;
    }

pub spells_alone : (image : Image) → KeepsFormat image → InFormat image → SpellsAlone image
spells_alone image k f = record { in_format = f; stands = listing-stands image f k.paced; alone = λ other g same. listing-injective other image g f same }

-- a fact holds wherever a call gives something
pub if_ok : {A E : Type 0} (P : Type 0) (r : Result A E) → P → IfOk r (λ x. P)
if_ok P (Ok x) p = p
if_ok P (Err e) p = tt

-- a core whose numbers fit their words has an image in the format
pub code_in_format : (c : Core) → IsAcceptedCore c → FitsWords (image_of (inserted c)) → InFormat (image_of (inserted c))
code_in_format c is fits = in_format (inserted c) (lowerable c is) fits

pub kept_code : (c : Core) → IsAcceptedCore c → KeepsMeaning (inserted c) (image_of (inserted c))
kept_code c is = image_keeps (inserted c) (lowerable c is)

pub does_as : (c : Core) → IsAcceptedCore c → DoesAs c (image_of (inserted c))
does_as c is settings inputs acts allowed are_words are =
    let e = ends c is settings inputs acts are_words are in
    let r = (kept_code c is).ends settings inputs acts e.0 e.1 allowed are_words are (inserted_ends c settings inputs acts e.0 e.1 e.2) in
    record { ending = e.0; meant = e.1; last = r.0; means = e.2; runs = r.1; same = r.2 }
