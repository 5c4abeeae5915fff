use Rattle.std.proofs.Common.{◌≡◌, ◌<◌, ◌+◌, suc, arith, ◌∙◌, ap}
use Rattle.ckc_tree.specs.Heights.{Reach, expression_reach}
use Rattle.ckc_tree.specs.Expressions.{expression}
use Rattle.ckc_parser_grammar.specs.Failures.{IsLow}
use Rattle.ckc_parser_grammar.specs.StuckExpressions as s
use Rattle.ckc_parser_grammar.proofs.Readings.{err}
use Rattle.ckc_parser.proofs.Waiting.{waiting_last}
use Rattle.ckc_parser.proofs.ContextSteps.{needs_in, right_waits, right_deep}
use Rattle.ckc_parser.proofs.expressions.wait_for_right.Goals as goal

pub returns-in_err-check_around : goal.returns-in_err-check_around
returns-in_err-check_around c = λ b ts us found within has.
    let height : c.args.left.reach.height ≡ (expression_reach (expression c.args.left.expr.value)).height = ap (λ (r : Reach). r.height) c.args.left.exact in
    let start : c.args.left.reach.start ≡ (expression_reach (expression c.args.left.expr.value)).start = ap (λ (r : Reach). r.start) c.args.left.exact in
    rw (err _ _ c.from_residual.ensures.1, c.in_err-check_around.ensures.0, start) (right_deep has found within (rw height at c.in_err-check_around.ensures.1))

pub returns-in_err-push : goal.returns-in_err-push
returns-in_err-push c = λ b ts us found within has.
    let height : c.args.left.reach.height ≡ (expression_reach (expression c.args.left.expr.value)).height = ap (λ (r : Reach). r.height) c.args.left.exact in
    rw (err _ _ c.from_residual-in_err-push.ensures.1) ((right_waits has found within (rw height at c.in_ok-check_around.ensures)).stuck s.binary_no_room)

pub returns : goal.returns
returns c = λ b ts us found within has.
    let height : c.args.left.reach.height ≡ (expression_reach (expression c.args.left.expr.value)).height = ap (λ (r : Reach). r.height) c.args.left.exact in
    let room : c.args.around.now.depth + (expression_reach (expression c.args.left.expr.value)).height < 200 = rw height at c.in_ok-check_around.ensures in
    let low : IsLow (suc c.args.around.now.depth) (expression_reach (expression c.args.left.expr.value)) = omega arith in
    needs_in b _ _ _ (waiting_last _ _ _ c.in_ok-push.ensures) has.around.loosest (c.deeper-around.ensures ∙ ap suc has.around.depth) (rw has.around.loosest at within, (rw has.around.depth at low, has.around.fits)) (right_waits has found within room)
