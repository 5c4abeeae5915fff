use Rattle.std.proofs.Common.{◌≡◌, ◌<◌, length, sym, ◌∙◌, arith}
use Rattle.region_typing_scope.specs.Views.{scope}
use Rattle.region_typing.specs.Parameters.{parameter}
use Rattle.region_typing.proofs.Bodies.{parameter_added, parameters_all, local_counted}
use Rattle.region_typing.proofs.functions.add_parameters.Goals as goal

pub loop-p-preserved : goal.loop-p-preserved
loop-p-preserved c =
    let known = rw c.in_ok-ctype.ensures at c.in_ok-add_local.ensures.known in
    record {
      so_far = c.loop-p.invariant.so_far ∙ parameter_added c.args.parameters.now c.loop-p.p-index c.p-item.result (scope c.loop-p.scope) (scope c.add_local.new.self) (omega (arith, c.loop-p-test.true)) c.p-item.is known;
      few = local_counted (parameter c.p-item.result) c.loop-p.scope c.add_local.new.self c.loop-p.p-index known c.loop-p.invariant.few;
      size = c.in_ok-add_local.ensures.size ∙ c.loop-p.invariant.size;
    }

pub add_local-requires : goal.add_local-requires
add_local-requires c =
    let less : c.loop-p.p-index < length c.args.parameters.now = omega (arith, c.loop-p-test.true) in
    rw (c.loop-p.invariant.few, c.loop-p.invariant.size) (omega (arith, c.requires.few))

pub returns-clause-known : goal.returns-clause-known
returns-clause-known c = sym (c.loop-p.invariant.so_far ∙ parameters_all c.args.parameters.now c.loop-p.p-index (scope c.loop-p.scope) (omega (arith, c.loop-p-test.false)))

pub returns-clause-locals : goal.returns-clause-locals
returns-clause-locals c =
    let all : c.loop-p.p-index ≡ length c.args.parameters.now = omega (arith, c.loop-p-test.false, c.loop-p.auto.p-index-end) in
    c.loop-p.invariant.few ∙ all
