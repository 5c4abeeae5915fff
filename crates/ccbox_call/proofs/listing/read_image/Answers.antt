use Rattle.std.proofs.Common.{refl, inl, arith}
use Rattle.ccbox_call.specs.Answers.{missing}
use Rattle.ccbox_call.specs.Calls.{files_failed, no_memory}
use Rattle.ccbox_call.proofs.Giving.{line_gives, listing_read}
use Rattle.ccbox_call.proofs.listing.read_image.Goals as goal

pub returns-in-Ok-clause-image : goal.returns-in-Ok-clause-image
returns-in-Ok-clause-image g c =
    let h = c.in-Ok.ensures in
    listing_read (g.F.Shelf.files c.args.shelf.now) c.args.file.now _ _ _ _ _ _ _ _ _ _ h.counts.0 h.counts.1 c.as_slice.ensures.value h.content c.image_of_bytes.result c.image_of_bytes.ensures

pub returns-in-Err-Missing-clause-image : goal.returns-in-Err-Missing-clause-image
returns-in-Err-Missing-clause-image g c =
    let h = rw c.in-Err-Missing.field-0-is at c.in-Err-Missing.ensures in
    line_gives _ 3 (λ files told. missing (h.content files told)) (h.counts.1, inl (refl, h.counts.0)) h.counts.0.no_less c.give_missing.ensures

pub returns-in-Err-Failed-clause-image : goal.returns-in-Err-Failed-clause-image
returns-in-Err-Failed-clause-image g c =
    let h = rw c.in-Err-Failed.field-0-is at c.in-Err-Failed.ensures in
    files_failed refl h.counts.0 h.counts.1 refl

pub returns-in-Err-NoMemory-clause-image : goal.returns-in-Err-NoMemory-clause-image
returns-in-Err-NoMemory-clause-image g c =
    let h = rw c.in-Err-NoMemory.field-0-is at c.in-Err-NoMemory.ensures in
    no_memory refl (omega (arith, h.counts.0)) h.counts.1 refl
