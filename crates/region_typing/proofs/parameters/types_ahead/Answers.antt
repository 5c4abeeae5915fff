use Rattle.std.proofs.Common.{map, refl, arith}
use Rattle.ckc_tree.specs.Items as trees
use Rattle.pointer_modes.specs.Types.{ctype}
use Rattle.region_typing_rules.specs.Types.{type_named}
use Rattle.region_typing_rules.specs.Items.{type_ahead, types_ahead}
use Rattle.region_typing_scope.specs.Views.{scope}
use Rattle.region_typing.proofs.Lists.{made_more, made_all, item_pushed}
use Rattle.region_typing.proofs.parameters.types_ahead.Goals as goal

pub loop-p-preserved : goal.loop-p-preserved
loop-p-preserved c =
    let g = scope c.args.scope.now in
    let ps = c.args.written.now in
    record { so_far = made_more trees.parameter (types_ahead g) (λ p qs. refl) ps c.loop-p.p-index c.p-item.result (types_ahead g (map trees.parameter ps)) (map ctype c.loop-p.types.items) (map ctype c.push.new.self.items) (omega (arith, c.loop-p-test.true)) c.p-item.is (item_pushed ctype c.loop-p.types.items c.push.new.self.items c.in_ok-type_ahead.field-0 (type_ahead (type_named g (trees.parameter c.p-item.result).type)) c.in_ok-push.ensures.items c.in_ok-type_ahead.ensures) c.loop-p.invariant.so_far }

pub returns : goal.returns
returns c =
    let g = scope c.args.scope.now in
    let ps = c.args.written.now in
    made_all trees.parameter (types_ahead g) refl ps c.loop-p.p-index (types_ahead g (map trees.parameter ps)) (map ctype c.loop-p.types.items) (omega (arith, c.loop-p-test.false)) c.loop-p.invariant.so_far
