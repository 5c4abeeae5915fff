use Rattle.std.proofs.Common.{Some, ap, ◌∙◌, not}
use Rattle.std.specs.Prelude.{slice_set}
use Rattle.ckc_names.specs.NameLists.{name_at}
use Rattle.ckc_names_rules.specs.Meanings.{meaning}
use Rattle.ckc_names.proofs.Tables.{no_entry, declared_table}
use Rattle.ckc_names.proofs.table.Table.stand_for.Goals as goal

pub returns-then-is_none : goal.returns-then-is_none
returns-then-is_none c =
    let inside = c.self.inside in
    rw (← c.self.view_is) (no_entry inside.names inside.current.items inside.held.items inside.block inside.tags (name_at inside.names c.args.number) (meaning c.args.meaning) c.self.invariant (c.is_none.ensures ∙ ap not c.if-is_none.true))

pub invariant_of-self-2 : goal.invariant_of-self-2
invariant_of-self-2 c =
    let inside = c.self.inside in
    let less = rw (← c.self.view_is) at c.requires in
    let sets = ap (λ place. slice_set inside.current.items c.args.number (Some place)) (c.len-place.ensures ∙ inside.held.ok.0) in
    declared_table inside.names inside.current.items (slice_set inside.current.items c.args.number (Some c.len-place.result)) inside.held.items c.push.new.self.items inside.block c.args.number c.args.meaning c.index-hides.result.now c.self.invariant less (c.is_none.ensures ∙ ap not c.if-is_none.false) c.index-hides.ensures sets c.in_ok-push.ensures.items
