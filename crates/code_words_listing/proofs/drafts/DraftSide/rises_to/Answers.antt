use Rattle.std.proofs.Common.{length, ◌-◌, ap, sym, ◌∙◌}
use Rattle.std.specs.Prelude.{nat_lt, slice_get}
use Rattle.code_words_listing.proofs.Whole.{rises}
use Rattle.code_words_listing.proofs.drafts.DraftSide.rises_to.Goals as goal

pub returns-in-Some : goal.returns-in-Some
returns-in-Some c =
    ap (λ n. nat_lt n c.args.number) c.number.ensures
    ∙ rises c.args.self.now.funs.items c.in-Some.f.now c.args.number (ap (λ funs. slice_get funs (length funs - 1)) (sym c.deref.ensures.value) ∙ sym c.in-Some.ensures.value)
