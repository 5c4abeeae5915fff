use Rattle.std.proofs.Common.{ap, sym, ◌∙◌}
use Rattle.ckc_names.specs.Slices.{block_mentions}
use Rattle.ckc_names.proofs.Rows.{body_says}
use Rattle.ckc_names.proofs.items.body.Goals as goal

pub returns-in-Some : goal.returns-in-Some
returns-in-Some c =
    let says = body_says c.in-Some.block.statements.items ∙ ap block_mentions (sym c.as_slice.ensures.value) in
    rw (c.in-Some.is, says) c.statements.ensures
