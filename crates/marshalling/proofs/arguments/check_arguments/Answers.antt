use Rattle.std.proofs.Common.{◌≡◌, ◌+◌, suc, Err, sym, ap, ◌∙◌, arith}
use Rattle.std.proofs.lemmas.Result.{err_from_is_err_and}
use Rattle.marshalling.specs.Crossing.{unless_fault}
use Rattle.marshalling.proofs.ArgumentFaults.{left_from, none_here, fault_here}
use Rattle.marshalling.proofs.arguments.check_arguments.Goals as goal

pub loop-i-preserved : goal.loop-i-preserved
loop-i-preserved c =
    let params = c.args.params.now in
    let words = c.args.words.now in
    let i = c.loop-i.i in
    let next : suc i ≡ i + 1 = omega arith in
    c.loop-i.invariant ∙ none_here params words c.args.size i _ c.loop-i-test.true c.requires.count c.in_ok-check_argument.ensures
    ∙ ap (left_from params words c.args.size) next

pub returns-in_err-check_argument : goal.returns-in_err-check_argument
returns-in_err-check_argument c =
    let fault = c.in_err-check_argument.field-0.0 in
    let told = err_from_is_err_and c.from_residual.result c.from_residual.ensures.1 in
    let here = fault_here c.args.params.now c.args.words.now c.args.size c.loop-i.i _ fault c.loop-i-test.true c.requires.count c.in_err-check_argument.ensures in
    told.1 ∙ ap Err told.2 ∙ here ∙ ap unless_fault (sym c.loop-i.invariant)
