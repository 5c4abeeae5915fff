use Rattle.std.proofs.Common.{refl, sym, ap, ◌∙◌, arith}
use Rattle.std.proofs.lemmas.Result.{IfOk-weaker}
use Rattle.ckc_core.specs.Core as core
use Rattle.ckc_core.proofs.Rows as rows
use Rattle.check_insertion.specs.Erased as erased
use Rattle.check_insertion.specs.Insert as insert
use Rattle.check_insertion.proofs.Made.{made_more, made_all}
use Rattle.check_insertion.proofs.Rows.{call_value}
use Rattle.check_insertion.proofs.expressions.+expressions.Goals as goal

pub expression-returns-in-Call : goal.expression-returns-in-Call
expression-returns-in-Call t c =
    let shape = rows.call_of c.args.expr.now c.in-Call.call c.in-Call.bounds c.as_slice.result.now c.in-Call.is c.as_slice.ensures.value in
    IfOk-weaker c.call_value.result _ _ (λ _ e. e ∙ ap insert.expression (sym shape)) c.call_value.ensures

pub call_value-returns : goal.call_value-returns
call_value-returns t c =
    let made = c.in_ok-call.call in
    call_value made ∙ ap (λ callee. erased.Call callee (erased.arguments_of made.arguments.items)) c.in_ok-call.ensures.entered ∙ ap (erased.Call c.args.callee) c.in_ok-call.ensures.passed

pub arguments_of-loop-argument-preserved : goal.arguments_of-loop-argument-preserved
arguments_of-loop-argument-preserved t c =
    made_more erased.expression erased.More (λ xs. insert.arguments_of (core.arguments_of xs)) (λ x. insert.expression (core.expression x)) (λ x rest. refl) c.args.arguments.now c.loop-argument.argument-index c.argument-item.result c.loop-argument.built.items c.push.new.self.items c.in_ok-expression.field-0
    (omega (arith, c.loop-argument-test.true)) c.argument-item.is c.in_ok-push.ensures.items c.in_ok-expression.ensures c.loop-argument.invariant

pub arguments_of-returns : goal.arguments_of-returns
arguments_of-returns t c =
    made_all erased.expression erased.More (λ xs. insert.arguments_of (core.arguments_of xs)) erased.arguments_of refl (λ y ys. refl) c.args.arguments.now c.loop-argument.argument-index c.loop-argument.built.items (omega (arith, c.loop-argument-test.false)) c.loop-argument.invariant
