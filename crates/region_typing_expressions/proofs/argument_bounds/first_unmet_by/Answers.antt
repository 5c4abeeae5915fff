use Rattle.std.proofs.Common.{◌<◌, length, sym, ◌∙◌, arith}
use Rattle.region_typing_expressions.proofs.Unmet.{one_met, one_unmet}
use Rattle.region_typing_expressions.proofs.argument_bounds.first_unmet_by.Goals as goal

pub returns-then-not-branch : goal.returns-then-not-branch
returns-then-not-branch c =
    let arguments = c.args.arguments.now in
    let types = c.args.f.now.parameters.items in
    let less : c.loop-i.i < length arguments = omega (arith, c.loop-i-test.true) in
    let type_less : c.loop-i.i < length types = omega (arith, less, c.requires) in
    let type_at = rw c.as_slice-types.ensures.value at c.index-types-i.is in
    let unmet = rw (c.deref.ensures, c.bounds_of-declared.ensures) at c.in_ok-argument_meets.ensures in
    one_unmet c.args.flow.now c.args.passed.now.terms.items c.args.passed.now.pointers.items arguments types c.args.f.now.bounds.items c.loop-i.i
    c.index-arguments-i.result c.index-types-i.result less c.index-arguments-i.is type_less type_at _ (sym unmet ∙ c.if-not-branch.true) c.loop-i.invariant.left

pub loop-i-preserved : goal.loop-i-preserved
loop-i-preserved c =
    let arguments = c.args.arguments.now in
    let types = c.args.f.now.parameters.items in
    let less : c.loop-i.i < length arguments = omega (arith, c.loop-i-test.true) in
    let type_less : c.loop-i.i < length types = omega (arith, less, c.requires) in
    let type_at = rw c.as_slice-types.ensures.value at c.index-types-i.is in
    let met = rw (c.deref.ensures, c.bounds_of-declared.ensures) at c.in_ok-argument_meets.ensures in
    record {
      left = one_met c.args.flow.now c.args.passed.now.terms.items c.args.passed.now.pointers.items arguments types c.args.f.now.bounds.items c.loop-i.i
          c.index-arguments-i.result c.index-types-i.result less c.index-arguments-i.is type_less type_at _ (sym met ∙ c.if-not-branch.false) c.loop-i.invariant.left;
    }
