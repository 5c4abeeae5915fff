use Rattle.std.proofs.Common.{refl, sym, ◌∙◌}
use Rattle.std.specs.Prelude.{slice_set}
use Rattle.ckc_names.proofs.Tables.{restored_table, outside_restored, none_left}
use Rattle.ckc_names.proofs.table.Table.close.Goals as goal

pub loop-held-preserved : goal.loop-held-preserved
loop-held-preserved c =
    let inside = c.loop-held.self-inside in
    let name = c.in-Name in
    let pops = rw name.is at c.in-Some.ensures.items in
    record {
      table = restored_table inside.names inside.current.items (slice_set inside.current.items name.number name.hides) inside.held.items c.pop.new.self.items inside.block name.number name.meaning name.hides c.loop-held.invariant.table pops refl;
      names = c.loop-held.invariant.names;
      tags = c.loop-held.invariant.tags;
      blocks = outside_restored inside.names inside.held.items c.pop.new.self.items name.number name.meaning name.hides pops ∙ c.loop-held.invariant.blocks;
    }

pub returns : goal.returns
returns c =
    let inside = c.loop-held.self-inside in
    let known = c.loop-held.invariant in
    rw (← c.self.view_is, known.names, known.tags) (none_left c.self.inside.names c.pop.new.self.items inside.held.items c.self.inside.held.items c.self.inside.tags (sym c.pop.new.self.ok.0 ∙ c.in_default.ensures.cases.1) c.in_default.ensures.items (rw known.names at known.blocks))
