use Rattle.std.proofs.Common.{sym, ◌∙◌}
use Rattle.ckc_tree.specs.Items.{tree}
use Rattle.ckc_tree.proofs.Decided.{in_order_placed, placed_in_order}
use Rattle.ckc_tree.proofs.item.Program.well_placed.Goals as goal

pub returns : goal.returns
returns c =
    let whole = tree c.args.self.now in
    (λ h. in_order_placed c.args.len whole (sym c.is_placed.ensures ∙ h), λ x. c.is_placed.ensures ∙ placed_in_order c.args.len whole x)
