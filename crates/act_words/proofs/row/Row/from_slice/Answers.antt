use Rattle.act_words.specs.Rows.{row_of}
use Rattle.act_words.proofs.row.Row.from_slice.Goals as goal

pub invariant_of-result : goal.invariant_of-result
invariant_of-result g c = rw (c.copy_from_slice.ensures.after, c.BLANK-cells.ensures) (row_of _ _ c.args.items.now c.if-len.false)
