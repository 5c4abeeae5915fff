use Rattle.std.proofs.Common.{◌∙◌, ap}
use Rattle.ckc_names.specs.Insides.{meaning_at}
use Rattle.ckc_names.proofs.Tables.{innermost_in_table}
use Rattle.ckc_names.proofs.table.Table.innermost.Goals as goal

pub returns : goal.returns
returns c =
    let inside = c.self.inside in
    let less = rw (← c.self.view_is) at c.requires in
    rw (← c.self.view_is) (c.meaning_at.ensures ∙ ap (meaning_at c.as_slice.result.now) c.within-place.ensures ∙ innermost_in_table inside.names inside.current.items inside.held.items c.as_slice.result.now inside.block c.args.number c.index.result.now c.self.invariant less c.as_slice.ensures.value c.index.ensures)
