use Rattle.std.proofs.Common.{◌<◌, length, map, arith}
use Rattle.ckc_text.specs.Places.{place_at}
use Rattle.ckc_tree.specs.Items as trees
use Rattle.region_typing_rules.specs.Items.{items}
use Rattle.region_typing_scope.proofs.Going.{refused_by}
use Rattle.region_typing.specs.Items.{walk}
use Rattle.region_typing_scope.proofs.Steps.{part_more, part_breaks, parts_done}
use Rattle.region_typing.proofs.Outside.{stays_outside}
use Rattle.region_typing.proofs.ItemSteps.{item_step, items_from, item_by_step}
use Rattle.region_typing.proofs.items.each_item.Goals as goal

pub loop-listed-preserved : goal.loop-listed-preserved
loop-listed-preserved c =
    let at = place_at c.args.context.now in
    let all = map trees.item c.args.listing.now.items.now in
    record {
      so_far = part_more (items_from at all) (item_step at all) (item_by_step at all) trees.item c.args.listing.now.items.now c.loop-listed.listed-index c.listed-item.result (items at all (walk c.args.walk.now) all) (walk c.loop-listed.walk) (walk c.item.new.walk) (omega (arith, c.loop-listed-test.true)) c.listed-item.is c.loop-listed.invariant.so_far c.in_ok-item.ensures.so;
      outside = stays_outside at all (walk c.loop-listed.walk) (walk c.item.new.walk) (trees.item c.listed-item.result) c.loop-listed.invariant.outside c.in_ok-item.ensures.so;
    }

pub returns-in_err-item : goal.returns-in_err-item
returns-in_err-item c =
    let at = place_at c.args.context.now in
    let all = map trees.item c.args.listing.now.items.now in
    let less : c.loop-listed.listed-index < length c.args.listing.now.items.now = omega (arith, c.loop-listed-test.true) in
    refused_by c.from_residual.result c.from_residual.ensures.1
    (λ stop breaks. part_breaks (items_from at all) (item_step at all) (item_by_step at all) trees.item c.args.listing.now.items.now c.loop-listed.listed-index c.listed-item.result (items at all (walk c.args.walk.now) all) (walk c.loop-listed.walk) stop less c.listed-item.is c.loop-listed.invariant.so_far breaks)
    c.in_err-item.ensures

pub returns : goal.returns
returns c =
    let at = place_at c.args.context.now in
    let all = map trees.item c.args.listing.now.items.now in
    record { so = parts_done (items_from at all) (item_step at all) (item_by_step at all) trees.item c.args.listing.now.items.now c.loop-listed.listed-index (items at all (walk c.args.walk.now) all) (walk c.loop-listed.walk) (omega (arith, c.loop-listed-test.false)) c.loop-listed.invariant.so_far }
