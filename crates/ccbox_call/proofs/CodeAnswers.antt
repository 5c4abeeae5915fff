-- The listing of a source's code has the Answer of the source.
use Rattle.std.proofs.Common.{◌≡◌, ℕ, false, List, Some, None, refl, sym, ◌∙◌, subst}
use Rattle.ckc_io.specs.Files.{Files, file_at}
use Rattle.ckc_core.specs.Core.{Core}
use Rattle.check_insertion.specs.Insert.{inserted}
use Rattle.code_words.specs.Images.{Image}
use Rattle.lowering.specs.Images.{image_of}
use Rattle.ccbox_call_words.specs.Requests.{Request, Run, Exec, Options, settings_of}
use Rattle.ccbox_call.specs.Acceptance.{IsAcceptedCore}
use Rattle.ccbox_call.specs.Answers.{RunAnswer, ExecAnswer, unfit, fits, accepted, ListingAnswer, refused_at, spells, FileAnswer, missing, is_there, AskedOfImage, BytesAnswer, RequestAnswer, Answer, usage, asked}
use Rattle.ccbox_call.specs.Calls.{MayRun}
use Rattle.ccbox_call.specs.PrintedCode.{AskAlike}
use Rattle.ccbox_call.specs.Programs.{Meant}
use Rattle.ccbox_call.specs.ReadListings.{Spells}
use Rattle.ccbox_call.proofs.Giving.{code_run}
use Rattle.ccbox_call.proofs.PrintedCode.{kept_code}
use Rattle.ccbox_call.proofs.ReadListings.{one_image, image_or_line}
use Rattle.ccbox_call.proofs.Runs.{may_run}

module _ (files : Files) (options : Options) (c : Core) (is : IsAcceptedCore c) (may : MayRun options) where
  -- the code fits, and its run is the core's
  of_image : {text : List ℕ} {status : ℕ} → ExecAnswer files options (image_of (inserted c)) text status → RunAnswer files options (Meant c) text status
  of_image (unfit misfit) = absurd (misfit ((kept_code c is).fits (settings_of options) may.settings))
  of_image (fits f x) = code_run files options c (image_of (inserted c)) is (kept_code c is) refl may x

  module _ (name listed : List ℕ) (its : Spells listed (image_of (inserted c))) where
    of_listing : {text : List ℕ} {status : ℕ} → ListingAnswer (AskedOfImage files (Exec name options)) listed text status → RunAnswer files options (Meant c) text status
    of_listing (refused_at number r) = absurd (image_or_line listed (image_of (inserted c)) number its r)
    of_listing {text} {status} (spells image a x) = of_image (subst (λ (z : Image). ExecAnswer files options z text status) (one_image listed image (image_of (inserted c)) a its) x)

    of_file : file_at files name ≡ Some listed → {text : List ℕ} {status : ℕ} → FileAnswer files (BytesAnswer files (Exec name options) false) name text status → RunAnswer files options (Meant c) text status
    of_file there (missing gone) = let wrong : None ≡ Some listed = sym gone ∙ there in absurd (cc)
    of_file there {text} {status} (is_there bytes at x) =
        let same : Some bytes ≡ Some listed = sym at ∙ there in
        let is_listed : bytes ≡ listed = cc in
        of_listing (subst (λ (z : List ℕ). ListingAnswer (AskedOfImage files (Exec name options)) z text status) is_listed x)

module _ (files : Files) (words others : List (List ℕ)) (a : AskAlike files words others) where
  pub runs_as_source : {text : List ℕ} {status : ℕ} → Answer files others text status → Answer files words text status
  runs_as_source (usage none) = let wrong : None ≡ Some (Exec a.name a.options) = sym none ∙ (a.of_listing).spelled in absurd (cc)
  runs_as_source {text} {status} (asked request e x) =
      let s = a.of_source in
      let same : Some request ≡ Some (Exec a.name a.options) = sym e ∙ (a.of_listing).spelled in
      let is_exec : request ≡ Exec a.name a.options = cc in
      let answer = subst (λ (r : Request). RequestAnswer files r text status) is_exec x in
      let run = of_file files a.options a.program (s.src, s.accepted) (may_run words s.name a.options s.request) a.name a.listed a.its_code (a.of_listing).there answer in
      asked (Run s.name a.options) s.request (is_there s.src s.there (accepted a.program s.accepted run))
