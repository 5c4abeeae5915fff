use Rattle.std.proofs.Common.{ap, ◌∙◌}
use Rattle.ckc_tree.specs.Items.{Tree, tree}
use Rattle.ckc_names_rules.specs.Naming.{NamedTree}
use Rattle.ckc_names.proofs.resolve.resolve.Goals as goal

pub new-requires : goal.new-requires
new-requires c =
    let with_names : Tree → NamedTree = λ t. record { tree = t; names = c.in-Ok.names } in
    record { source = tree c.args.program; fine = c.in-Ok.ensures.0; named = ap with_names c.program.ensures ∙ c.in-Ok.ensures.1 }
