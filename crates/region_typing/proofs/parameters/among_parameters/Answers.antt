use Rattle.std.proofs.Common.{◌≡◌, length, map, ap, sym, ◌∙◌, arith}
use Rattle.std.proofs.lemmas.List.{length-map}
use Rattle.ckc_tree.specs.Items as trees
use Rattle.pointer_modes.specs.Types.{ctype}
use Rattle.region_typing_scope.specs.Views.{scope}
use Rattle.region_typing.proofs.ParameterBounds.{count_ahead}
use Rattle.region_typing.proofs.parameters.among_parameters.Goals as goal

pub returns-then-asked-clause-few : goal.returns-then-asked-clause-few
returns-then-asked-clause-few c =
    let ps = c.args.written.now in
    let types = c.in_ok-types.types.items in
    let same : length types ≡ length ps =
    sym (length-map types ctype) ∙ ap length c.in_ok-types.ensures ∙ count_ahead (scope c.args.scope.now) (map trees.parameter ps) ∙ length-map ps trees.parameter in
    omega (arith, same)
