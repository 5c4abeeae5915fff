use Rattle.std.proofs.Common.{map, drop, reverse, ◌+◌, ◌++◌, refl, ap, sym, ◌∙◌, arith}
use Rattle.std.proofs.lemmas.List.{reverse-reverse, append-nil}
use Rattle.ckc_tree.specs.Items as trees
use Rattle.region_typing_rules.specs.Items.{seen_parameters}
use Rattle.region_typing_scope.specs.Views.{visible}
use Rattle.region_typing_scope.proofs.Steps.{parts_at, no_parts}
use Rattle.region_typing.proofs.Lists.{item_pushed}
use Rattle.region_typing.proofs.ParameterBounds.{seen_more, map_reversed}
use Rattle.region_typing.proofs.parameters.seen_parameters.Goals as goal

pub loop-p-preserved : goal.loop-p-preserved
loop-p-preserved c =
    let ps = c.args.written.now in
    let k = c.loop-p.p-index in
    record {
      so_far = seen_more (map trees.parameter (drop k ps)) (trees.parameter c.p-item.result) (map trees.parameter (drop (k + 1) ps)) c.loop-p.local _ (seen_parameters 0 (map trees.parameter ps)) (map visible c.loop-p.visible.items) (map visible c.push.new.self.items)
          (parts_at trees.parameter ps k c.p-item.result (omega (arith, c.loop-p-test.true)) c.p-item.is) c.in_ok-local.ensures (item_pushed visible c.loop-p.visible.items c.push.new.self.items _ _ c.in_ok-push.ensures.items refl) c.loop-p.invariant.so_far;
    }

pub returns : goal.returns
returns c =
    let ps = c.args.written.now in
    let names = map visible c.loop-p.visible.items in
    let so_far = c.loop-p.invariant.so_far ∙ ap (λ qs. names ++ seen_parameters c.loop-p.local qs) (no_parts trees.parameter ps c.loop-p.p-index (omega (arith, c.loop-p-test.false))) ∙ append-nil names in
    ap (λ vs. reverse (map visible vs)) c.reverse.ensures.items ∙ ap reverse (map_reversed visible c.loop-p.visible.items) ∙ reverse-reverse names ∙ sym so_far
