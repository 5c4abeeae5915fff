use Rattle.std.proofs.Common.{◌≡◌, Some, None, length, map, set, sym, ap, ◌∙◌}
use Rattle.std.proofs.lemmas.List.{length-map, length-set, map-set}
use Rattle.ckc_core.specs.declared.program.Definition.TheVariants.{Trusted}
use Rattle.ckc_core.specs.Core.{definition}
use Rattle.region_typing_scope.specs.Views.{signature}
use Rattle.region_typing_scope.proofs.FileLevel.{distinct}
use Rattle.region_typing.specs.CoreParts.{trusted_place}
use Rattle.region_typing.specs.Items.{defined}
use Rattle.region_typing.proofs.Placing.{placed, not_placed, place_within}
use Rattle.region_typing.proofs.cores.place.Goals as goal

pub put-requires : goal.put-requires
put-requires c =
    let fs = map signature c.args.scope.now.functions.items in
    let is : trusted_place fs c.args.body.name ≡ Some c.in-Some.place = sym c.in-Some.ensures in
    rw (c.requires, ← length-map c.args.scope.now.functions.items signature) (place_within fs c.args.body.name c.in-Some.place is)

pub returns-in-Some-clause-all : goal.returns-in-Some-clause-all
returns-in-Some-clause-all c = ap length c.put.ensures ∙ length-set c.args.built.now.items c.in-Some.place (Trusted c.args.body.function)

pub returns-in-Some-clause-placed : goal.returns-in-Some-clause-placed
returns-in-Some-clause-placed c bodies so_far =
    let fs = map signature c.args.scope.now.functions.items in
    let is : trusted_place fs c.args.body.name ≡ Some c.in-Some.place = sym c.in-Some.ensures in
    ap (map definition) c.put.ensures
    ∙ map-set definition c.args.built.now.items c.in-Some.place (Trusted c.args.body.function)
    ∙ ap (λ xs. set xs c.in-Some.place (definition (Trusted c.args.body.function))) so_far
    ∙ sym (placed (defined c.args.body) bodies fs c.in-Some.place (distinct fs c.args.scope.now.distinct) is)

pub returns-in-None-clause-placed : goal.returns-in-None-clause-placed
returns-in-None-clause-placed c bodies so_far =
    let fs = map signature c.args.scope.now.functions.items in
    let is : trusted_place fs c.args.body.name ≡ None = sym c.in-None.ensures in
    so_far ∙ sym (not_placed (defined c.args.body) bodies fs (distinct fs c.args.scope.now.distinct) is)
