use Rattle.std.proofs.Common.{◌≡◌, ◌+◌, ◌<◌, length, ap, sym, ◌∙◌, subst, arith}
use Rattle.bounds_flow.specs.Conditions.{AreBoundsBelow}
use Rattle.bounds_flow.specs.Flows.{entered}
use Rattle.region_typing_rules.specs.Scopes.{Scope, bounds_in}
use Rattle.region_typing_rules.specs.Knowing.{knowing}
use Rattle.region_typing_scope.specs.Views.{scope}
use Rattle.region_typing.specs.declared.prototype.TypedParameter.{TypedParameter}
use Rattle.region_typing.proofs.ParameterBounds.{bounds_more, bounds_all, known_alone}
use Rattle.region_typing.proofs.functions.add_bounds.Goals as goal

pub loop-p-preserved : goal.loop-p-preserved
loop-p-preserved c =
    let old = scope c.loop-p.scope in
    let new = scope c.give_bounds.new.self in
    let known : new ≡ knowing (entered c.loop-p.p-index (bounds_in c.p-item.result.bounds) old.flow) old = rw (c.bounds_in.ensures, c.loop-p.invariant.counted) at c.in_ok-give_bounds.ensures.known in
    let flow = ap (λ (g : Scope). g.flow) known in
    record {
      so_far = c.loop-p.invariant.so_far ∙ bounds_more c.args.parameters.now c.loop-p.p-index c.p-item.result old.flow new.flow (omega (arith, c.loop-p-test.true)) c.p-item.is flow;
      same = known_alone old new (scope c.args.scope.now) (entered c.loop-p.p-index (bounds_in c.p-item.result.bounds) old.flow) known c.loop-p.invariant.same;
      there = ap length c.in_ok-give_bounds.ensures.locals ∙ c.loop-p.invariant.there;
      size = c.in_ok-give_bounds.ensures.size ∙ c.loop-p.invariant.size;
      counted = ap (λ n. n + 1) c.loop-p.invariant.counted;
    }

pub give_bounds-requires-clause-below : goal.give_bounds-requires-clause-below
give_bounds-requires-clause-below c =
    let less : c.loop-p.p-index < length c.args.parameters.now = omega (arith, c.loop-p-test.true) in
    let there = c.requires.below c.loop-p.p-index c.p-item.result less in
    rw (c.bounds_in.ensures, c.loop-p.invariant.size) (subst (λ (p : TypedParameter). AreBoundsBelow c.args.scope.now.flow.vars (bounds_in p.bounds)) (sym c.p-item.is) there)

pub give_bounds-requires-clause-there : goal.give_bounds-requires-clause-there
give_bounds-requires-clause-there c =
    rw (c.loop-p.invariant.counted, c.loop-p.invariant.there) (omega (arith, c.loop-p-test.true))

pub returns : goal.returns
returns c =
    let g = scope c.args.scope.now in
    let all = c.loop-p.invariant.so_far ∙ bounds_all c.args.parameters.now c.loop-p.p-index (scope c.loop-p.scope).flow (omega (arith, c.loop-p-test.false)) in
    c.loop-p.invariant.same ∙ ap (λ f. knowing f g) (sym all)
