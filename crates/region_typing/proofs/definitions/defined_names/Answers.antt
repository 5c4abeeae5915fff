use Rattle.std.proofs.Common.{◌<◌, length, map, take, arith}
use Rattle.ckc_tree.specs.Items.{item}
use Rattle.region_typing.proofs.DefinedNames.{knows_first, knows_next, knows_all}
use Rattle.region_typing.proofs.definitions.defined_names.Goals as goal

pub loop-item-init : goal.loop-item-init
loop-item-init c = knows_first c.new-defined.result c.args.items.now c.new-defined.ensures

pub loop-item-preserved : goal.loop-item-preserved
loop-item-preserved c =
    let less : c.loop-item.item-index < length c.args.items.now = omega (arith, c.loop-item-test.true) in
    knows_next c.note_definition.new.defined c.args.items.now c.loop-item.item-index c.item-item.result less c.item-item.is
    (c.in_ok-note_definition.ensures (map item (take c.loop-item.item-index c.args.items.now)) c.loop-item.invariant)

pub returns : goal.returns
returns c = knows_all c.loop-item.defined c.args.items.now c.loop-item.item-index (omega (arith, c.loop-item-test.false)) c.loop-item.invariant
