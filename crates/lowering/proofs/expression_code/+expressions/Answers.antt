use Rattle.std.proofs.Common.{◌++◌, length, refl, sym, ap, ◌∙◌, subst, arith, rules, [], ◌∷◌}
use Rattle.std.proofs.lemmas.Result.{IfOk-weaker}
use Rattle.code_words.specs.declared.op.Op.TheVariants as ops
use Rattle.check_insertion.specs.declared.erased.Expr.{the_lemmas}
use Rattle.check_insertion.specs.Erased.{expression, index, place}
use Rattle.check_insertion.proofs.Rows.{call_of}
use Rattle.lowering.specs.Code.{expression_size, expression_code, Still, checks_code, order_code, place_code, sum_code, through_code}
use Rattle.lowering.specs.Sized.{SizedExpression}
use Rattle.lowering.proofs.Emitting.{place_after, after_expression, and_emitted, or_emitted, both_emitted, target_emitted, argument_at, argument_sized, argument_room, arguments_emitted, emitted_then, both_then, right_emitted}
use Rattle.lowering.proofs.expression_code.+expressions.Goals as goal

pub emit_and-returns : goal.emit_and-returns
emit_and-returns t c =
    IfOk-weaker c.end_and.result _ _ (λ _ e.
    and_emitted c.args.slot (expression c.args.left.now) (expression c.args.right.now) c.expression_size.result c.args.ops.now.items c.emit_expression.new.ops.items c.begin_and.new.ops.items c.emit_expression-2.new.ops.items c.end_and.new.ops.items
    c.expression_size.ensures c.in_ok-emit_expression.ensures c.in_ok-begin_and.ensures c.in_ok-emit_expression-2.ensures e)
    c.end_and.ensures

pub emit_or-returns : goal.emit_or-returns
emit_or-returns t c =
    IfOk-weaker c.put_two.result _ _ (λ _ e.
    or_emitted c.args.slot (expression c.args.left.now) (expression c.args.right.now) c.expression_size.result c.args.ops.now.items c.emit_expression.new.ops.items c.begin_or.new.ops.items c.emit_expression-2.new.ops.items c.put_two.new.ops.items
    c.expression_size.ensures c.in_ok-emit_expression.ensures c.in_ok-begin_or.ensures c.in_ok-emit_expression-2.ensures e)
    c.put_two.ensures

pub emit_expression-returns-in-Call : goal.emit_expression-returns-in-Call
emit_expression-returns-in-Call t c =
    let old = c.args.ops.now.items in
    let shape = call_of c.args.expr.now c.in-Call.call c.as_slice.result.now c.in-Call.is c.as_slice.ensures.value in
    IfOk-weaker c.emit_call.result _ _ (λ _ e. e ∙ ap (λ x. old ++ expression_code c.args.slot (length old) x) (sym shape)) c.emit_call.ensures

pub emit_arguments-loop-place-preserved : goal.emit_arguments-loop-place-preserved
emit_arguments-loop-place-preserved t c =
    let args = c.args.arguments.now in
    let at = argument_at args c.loop-place.place c.loop-place-test.true in
    let ensured = c.emit_argument.ensures at.0 at.1.0 in
    let emitted = rw c.in_ok-emit_argument.was at ensured in
    arguments_emitted c.args.slot args c.loop-place.place at.0 c.loop-place.ops.items c.emit_argument.new.ops.items _ c.loop-place-test.true at.1.1 c.loop-place.invariant emitted

pub emit_call-returns : goal.emit_call-returns
emit_call-returns t c = IfOk-weaker c.put_call.result _ _ (λ _ e. emitted_then c.args.ops.now.items c.emit_arguments.new.ops.items _ _ _ c.in_ok-emit_arguments.ensures (e ∙ ap (λ o. c.emit_arguments.new.ops.items ++ ops.Tick ∷ o ∷ []) c.callee_op.ensures)) c.put_call.ensures

pub emit_expression-returns-in_ok-emit_place-in-Load : goal.emit_expression-returns-in_ok-emit_place-in-Load
emit_expression-returns-in_ok-emit_place-in-Load t c =
    let old = c.args.ops.now.items in
    IfOk-weaker c.put-in-Load.result _ _ (λ _ e. emitted_then old c.emit_place.new.ops.items _ _ _ c.in_ok-emit_place-in-Load.ensures (e ∙ ap (λ o. c.emit_place.new.ops.items ++ o ∷ []) c.load_op.ensures) ∙ sym (ap (λ x. old ++ expression_code c.args.slot (length old) (expression x)) c.in-Load.is)) c.put-in-Load.ensures

pub emit_expression-returns-in_ok-emit_both-in-Sum : goal.emit_expression-returns-in_ok-emit_both-in-Sum
emit_expression-returns-in_ok-emit_both-in-Sum t c =
    let old = c.args.ops.now.items in
    let mid = c.emit_both.new.ops.items in
    let first = rw (c.deref-in-Sum.ensures, c.deref-in-Sum-2.ensures) at c.in_ok-emit_both-in-Sum.ensures in
    IfOk-weaker c.emit_sum.result _ _ (λ _ e. both_then old mid _ _ _ _ first (e ∙ ap (λ cs. mid ++ sum_code c.args.slot c.in-Sum.direction c.in-Sum.size cs) c.as_slice-in-Sum.ensures.value) ∙ sym (ap (λ x. old ++ expression_code c.args.slot (length old) (expression x)) c.in-Sum.is)) c.emit_sum.ensures

pub emit_expression-returns-in_ok-emit_both-in-Order : goal.emit_expression-returns-in_ok-emit_both-in-Order
emit_expression-returns-in_ok-emit_both-in-Order t c =
    let old = c.args.ops.now.items in
    let mid = c.emit_both-in-Order.new.ops.items in
    let first = rw (c.deref-in-Order.ensures, c.deref-in-Order-2.ensures) at c.in_ok-emit_both-in-Order.ensures in
    IfOk-weaker c.emit_order.result _ _ (λ _ e. both_then old mid _ _ _ _ first (e ∙ ap (λ cs. mid ++ order_code c.args.slot c.in-Order.comparison cs c.as_slice-in-Order.result.now) c.as_slice-left.ensures.value ∙ ap (λ cs. mid ++ order_code c.args.slot c.in-Order.comparison c.in-Order.left_checks.items cs) c.as_slice-in-Order.ensures.value) ∙ sym (ap (λ x. old ++ expression_code c.args.slot (length old) (expression x)) c.in-Order.is)) c.emit_order.ensures

pub emit_expression-returns-in_ok-emit_expression-in-Length : goal.emit_expression-returns-in_ok-emit_expression-in-Length
emit_expression-returns-in_ok-emit_expression-in-Length t c =
    let old = c.args.ops.now.items in
    let mid = c.emit_expression.new.ops.items in
    let first = rw (c.deref-in-Length.ensures) at c.in_ok-emit_expression-in-Length.ensures in
    IfOk-weaker c.emit_length.result _ _ (λ _ e. emitted_then old mid _ _ _ first (e ∙ ap (λ cs. mid ++ (checks_code c.args.slot (Still c.in-Length.size) cs ++ ops.TextLength ∷ [])) c.as_slice-in-Length.ensures.value) ∙ sym (ap (λ x. old ++ expression_code c.args.slot (length old) (expression x)) c.in-Length.is)) c.emit_length.ensures

pub emit_expression-returns-in_ok-emit_expression-in-Cast : goal.emit_expression-returns-in_ok-emit_expression-in-Cast
emit_expression-returns-in_ok-emit_expression-in-Cast t c =
    let old = c.args.ops.now.items in
    let mid = c.emit_expression-in-Cast.new.ops.items in
    let first = rw (c.deref-in-Cast.ensures) at c.in_ok-emit_expression-in-Cast.ensures in
    IfOk-weaker c.emit_checks.result _ _ (λ _ e. emitted_then old mid _ _ _ first (e ∙ ap (λ cs. mid ++ checks_code c.args.slot (Still c.in-Cast.size) cs) c.as_slice-in-Cast.ensures.value) ∙ sym (ap (λ x. old ++ expression_code c.args.slot (length old) (expression x)) c.in-Cast.is)) c.emit_checks.ensures

pub emit_place-returns-in_ok-emit_target-in-Through : goal.emit_place-returns-in_ok-emit_target-in-Through
emit_place-returns-in_ok-emit_target-in-Through t c =
    let old = c.args.ops.now.items in
    let mid = c.emit_target.new.ops.items in
    let first = rw (c.deref.ensures) at c.in_ok-emit_target-in-Through.ensures in
    IfOk-weaker c.emit_through.result _ _ (λ _ e. both_then old mid _ _ _ _ first (e ∙ ap (λ cs. mid ++ through_code c.args.slot (index c.in-Through.index) c.in-Through.offset cs) c.as_slice.ensures.value) ∙ sym (ap (λ x. old ++ place_code c.args.slot (length old) (place x)) c.in-Through.is)) c.emit_through.ensures

pub emit_two-returns : goal.emit_two-returns
emit_two-returns t c = right_emitted c.args.slot (expression c.args.left.now) (expression c.args.right.now) c.args.ops.now.items c.emit_expression.new.ops.items c.emit_with.new.ops.items c.args.op c.emit_with.result c.in_ok-emit_expression.ensures c.emit_with.ensures

pub emit_with-returns : goal.emit_with-returns
emit_with-returns t c = IfOk-weaker c.put.result _ _ (λ _ e. emitted_then c.args.ops.now.items c.emit_expression.new.ops.items _ _ _ c.in_ok-emit_expression.ensures e) c.put.ensures

-- ---- room for what is left

pub emit_expression-emit_call-requires : goal.emit_expression-emit_call-requires
emit_expression-emit_call-requires t c =
    let shape = call_of c.args.expr.now c.in-Call.call c.as_slice.result.now c.in-Call.is c.as_slice.ensures.value in
    (search (rules, the_lemmas), (c.requires.slot, (subst (SizedExpression c.args.slot) shape c.requires.sized, omega (arith, c.requires.room, ap expression_size shape))))

pub emit_two-emit_with-requires : goal.emit_two-emit_with-requires
emit_two-emit_with-requires t c =
    let behind = after_expression c.args.slot (expression c.args.left.now) c.args.ops.now.items c.emit_expression.new.ops.items c.in_ok-emit_expression.ensures in
    (search (rules, the_lemmas), (c.requires.slot, (c.requires.sized.1, omega (arith, c.requires.room, behind))))

pub emit_and-begin_and-requires : goal.emit_and-begin_and-requires
emit_and-begin_and-requires t c =
    let behind = after_expression c.args.slot (expression c.args.left.now) c.args.ops.now.items c.emit_expression.new.ops.items c.in_ok-emit_expression.ensures in
    omega (arith, c.requires.room, behind, c.expression_size.ensures)

pub emit_and-emit_expression-requires-2 : goal.emit_and-emit_expression-requires-2
emit_and-emit_expression-requires-2 t c =
    let behind = after_expression c.args.slot (expression c.args.left.now) c.args.ops.now.items c.emit_expression.new.ops.items c.in_ok-emit_expression.ensures in
    let jumped = place_after c.emit_expression.new.ops.items c.begin_and.new.ops.items _ 1 refl c.in_ok-begin_and.ensures in
    (search (rules, the_lemmas), (c.requires.slot, (c.requires.sized.1, omega (arith, c.requires.room, behind, jumped))))

pub emit_and-end_and-requires : goal.emit_and-end_and-requires
emit_and-end_and-requires t c =
    let behind = after_expression c.args.slot (expression c.args.left.now) c.args.ops.now.items c.emit_expression.new.ops.items c.in_ok-emit_expression.ensures in
    let jumped = place_after c.emit_expression.new.ops.items c.begin_and.new.ops.items _ 1 refl c.in_ok-begin_and.ensures in
    let tested = after_expression c.args.slot (expression c.args.right.now) c.begin_and.new.ops.items c.emit_expression-2.new.ops.items c.in_ok-emit_expression-2.ensures in
    omega (arith, c.requires.room, behind, jumped, tested)

pub emit_or-begin_or-requires : goal.emit_or-begin_or-requires
emit_or-begin_or-requires t c =
    let behind = after_expression c.args.slot (expression c.args.left.now) c.args.ops.now.items c.emit_expression.new.ops.items c.in_ok-emit_expression.ensures in
    omega (arith, c.requires.room, behind, c.expression_size.ensures)

pub emit_or-emit_expression-requires-2 : goal.emit_or-emit_expression-requires-2
emit_or-emit_expression-requires-2 t c =
    let behind = after_expression c.args.slot (expression c.args.left.now) c.args.ops.now.items c.emit_expression.new.ops.items c.in_ok-emit_expression.ensures in
    let jumped = place_after c.emit_expression.new.ops.items c.begin_or.new.ops.items _ 3 refl c.in_ok-begin_or.ensures in
    (search (rules, the_lemmas), (c.requires.slot, (c.requires.sized.1, omega (arith, c.requires.room, behind, jumped))))

pub emit_arguments-emit_argument-requires : goal.emit_arguments-emit_argument-requires
emit_arguments-emit_argument-requires t c =
    let now = c.loop-place in
    (search (rules, the_lemmas), (c.requires.slot, ((λ argument found. argument_sized c.args.slot c.args.arguments.now now.place argument found c.requires.sized), (c.loop-place-test.true, λ argument found. argument_room c.args.slot c.args.arguments.now now.place argument now.ops.items c.args.ops.now.items c.loop-place-test.true found now.invariant c.requires.room))))

pub emit_both-emit_expression-requires-2 : goal.emit_both-emit_expression-requires-2
emit_both-emit_expression-requires-2 t c =
    let behind = after_expression c.args.slot (expression c.args.left.now) c.args.ops.now.items c.emit_expression.new.ops.items c.in_ok-emit_expression.ensures in
    (search (rules, the_lemmas), (c.requires.slot, (c.requires.sized.1, omega (arith, c.requires.room, behind))))

pub emit_both-returns : goal.emit_both-returns
emit_both-returns t c =
    IfOk-weaker c.emit_expression-2.result _ _ (λ _ e.
    both_emitted c.args.slot (expression c.args.left.now) (expression c.args.right.now) c.args.ops.now.items c.emit_expression.new.ops.items c.emit_expression-2.new.ops.items c.in_ok-emit_expression.ensures e)
    c.emit_expression-2.ensures

pub emit_target-emit_index-requires : goal.emit_target-emit_index-requires
emit_target-emit_index-requires t c =
    let behind = after_expression c.args.slot (expression c.args.pointer.now) c.args.ops.now.items c.emit_expression.new.ops.items c.in_ok-emit_expression.ensures in
    (search (rules, the_lemmas), (c.requires.slot, (c.requires.sized.1, omega (arith, c.requires.room, behind))))

pub emit_target-returns : goal.emit_target-returns
emit_target-returns t c =
    IfOk-weaker c.emit_index.result _ _ (λ _ e.
    target_emitted c.args.slot (expression c.args.pointer.now) (index c.args.index.now) c.args.ops.now.items c.emit_expression.new.ops.items c.emit_index.new.ops.items c.in_ok-emit_expression.ensures e)
    c.emit_index.ensures
