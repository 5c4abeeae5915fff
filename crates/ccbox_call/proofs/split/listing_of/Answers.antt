use Rattle.std.proofs.Common.{subst}
use Rattle.std.specs.Prelude.{◌≡◌, IfOk}
use Rattle.ckc_core.specs.Core.{core}
use Rattle.check_insertion.specs.Insert.{inserted}
use Rattle.lowering.specs.Images as images
use Rattle.code_words_listing.specs.Listings.{listing, InFormat}
use Rattle.ccbox_call.specs.Words.{FitsWords}
use Rattle.ccbox_call.proofs.PrintedCode.{code_in_format, if_ok}
use Rattle.ccbox_call.proofs.split.listing_of.Goals as goal

pub returns-clause-listing : goal.returns-clause-listing
returns-clause-listing c = subst (λ image. IfOk c.list.result (λ text. text.items ≡ listing image)) c.in_ok-image.ensures.code c.list.ensures

pub returns-clause-format : goal.returns-clause-format
returns-clause-format c =
    let p = core c.args.program.now in
    let fits : FitsWords (images.image_of (inserted p)) = subst FitsWords c.in_ok-image.ensures.code c.fits_words.ensures in
    if_ok (InFormat (images.image_of (inserted p))) c.list.result (code_in_format p c.requires.accepted fits)
