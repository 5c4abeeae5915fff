use Rattle.std.proofs.Common.{◌+◌, subst}
use Rattle.ckc_names_rules.specs.Scopes.{is_among}
use Rattle.ckc_names.specs.Insides.{HasRoom}
use Rattle.ckc_names.proofs.Tables.{seen_table, seen_state}
use Rattle.ckc_names.proofs.table.Table.see.Goals as goal

pub invariant_of-self-2 : goal.invariant_of-self-2
invariant_of-self-2 c =
    let inside = c.self.inside in
    let room = subst (λ n. HasRoom (n + 1) inside.current.items c.make_room.new.current.items) c.len.ensures c.in_ok-make_room.ensures.room in
    seen_table inside.names c.number.new.self inside.current.items c.make_room.new.current.items inside.held.items inside.block c.args.name.now (is_among inside.names c.args.name.now) c.number.result c.self.invariant room c.number.ensures.distinct c.number.ensures.names c.number.ensures.err

pub returns-clause-seen : goal.returns-clause-seen
returns-clause-seen c =
    let inside = c.self.inside in
    rw (← c.self.view_is) (seen_state inside.names c.number.new.self inside.held.items inside.tags c.args.name.now (is_among inside.names c.args.name.now) c.number.result c.self.invariant.settled c.number.ensures.names)
