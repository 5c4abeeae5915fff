use Rattle.std.proofs.Common.{[], ◌++◌, map, length, sym, ap, ◌∙◌}
use Rattle.std.proofs.lemmas.List.{append-nil, length-map, nil_from_length}
use Rattle.ckc_core.specs.Core.{definition}
use Rattle.region_typing_rules.specs.Cores.{definitions_of}
use Rattle.region_typing_scope.specs.Views.{signature}
use Rattle.region_typing.specs.Items.{defined}
use Rattle.region_typing.proofs.Placing.{definitions_length, body_popped}
use Rattle.region_typing.proofs.cores.definitions.Goals as goal

pub loop-body-init : goal.loop-body-init
loop-body-init c =
    let bare = rw c.as_slice.ensures.value at c.in_ok-built.ensures in
    record {
      so_far = ([], sym (append-nil (map defined c.args.bodies.now.items)), bare);
      all = sym (length-map c.in_ok-built.built.items definition) ∙ ap length bare ∙ definitions_length [] (map signature c.args.scope.now.functions.items) ∙ length-map c.args.scope.now.functions.items signature;
    }

pub loop-body-preserved : goal.loop-body-preserved
loop-body-preserved c =
    let before = c.loop-body.invariant.so_far in
    record {
      so_far = (_, body_popped (map defined c.args.bodies.now.items) c.loop-body.bodies.items c.pop.new.self.items c.in-Some.body before.0 c.in-Some.ensures.items before.1, c.place.ensures.placed before.0 before.2);
      all = c.place.ensures.all ∙ c.loop-body.invariant.all;
    }

pub returns : goal.returns
returns c =
    let before = c.loop-body.invariant.so_far in
    let none = nil_from_length c.loop-body.bodies.items (sym c.loop-body.bodies.ok.0 ∙ c.in_default.ensures.cases.0) in
    before.2 ∙ ap (λ bs. definitions_of bs (map signature c.args.scope.now.functions.items)) (sym (before.1 ∙ ap (λ xs. map defined xs ++ before.0) none))
