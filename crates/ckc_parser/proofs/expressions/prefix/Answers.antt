use Rattle.std.proofs.Common.{◌≤◌, ◌<◌, suc, arith, ◌∙◌, ap, sym}
use Rattle.ckc_parser_grammar.specs.StuckExpressions as s
use Rattle.ckc_parser_grammar.specs.StuckExpressions.{prefix_word}
use Rattle.ckc_parser_grammar.proofs.Readings.{err, next_none}
use Rattle.ckc_parser.proofs.Waiting.{waiting_last}
use Rattle.ckc_parser.proofs.Contexts.{needs_fails, needs_parens, needs_operand}
use Rattle.ckc_parser.proofs.ContextSteps.{needs_in, no_prefix_word}
use Rattle.ckc_parser.proofs.expressions.prefix.Goals as goal

pub returns-in_err-push-clause-reads : goal.returns-in_err-push-clause-reads
returns-in_err-push-clause-reads c = λ b has. rw (err _ _ c.from_residual.ensures.1) (has.needs.stuck s.binary_no_room)

pub returns-in-Ok-clause-reads : goal.returns-in-Ok-clause-reads
returns-in-Ok-clause-reads c = λ b has.
    let inside = needs_parens (rw c.in-Ok.ensures at has.needs) in
    needs_in b _ _ _ (waiting_last _ _ _ c.in_ok-push.ensures) has.around.loosest has.around.depth has.around.fits inside

pub returns-in_default-split_first-clause-reads : goal.returns-in_default-split_first-clause-reads
returns-in_default-split_first-clause-reads c = λ b has.
    let none = next_none prefix_word c.open_paren.new.tokens.now c.in_default-split_first.ensures.cases in
    rw c.in_default.ensures.left (has, rw c.in_default.ensures.left at none)

pub returns-in_default-unary_operator-clause-reads : goal.returns-in_default-unary_operator-clause-reads
returns-in_default-unary_operator-clause-reads c = λ b has.
    let is = sym c.in_default.ensures.left ∙ c.in-Some.ensures.cases.0 in
    rw c.in_default.ensures.left (has, no_prefix_word _ _ is c.in_default.ensures.other c.in_default-unary_operator.ensures)

pub returns-in_err-check-clause-reads : goal.returns-in_err-check-clause-reads
returns-in_err-check-clause-reads c = λ b has.
    let deep = c.in_err-check.ensures.1 in
    let is = sym c.in_default.ensures.left ∙ c.in-Some.ensures.cases.0 in
    rw (err _ _ c.from_residual-in_err-check.ensures.1, c.in_err-check.ensures.0) (needs_fails (rw is at has.needs) (s.deep_operator (sym c.in-Some-unary_operator.ensures) (rw has.around.depth at deep)))

pub returns-in_err-push-2-clause-reads : goal.returns-in_err-push-2-clause-reads
returns-in_err-push-2-clause-reads c = λ b has. rw (err _ _ c.from_residual-in_err-push-2.ensures.1) (has.needs.stuck s.binary_no_room)

pub returns-clause-reads : goal.returns-clause-reads
returns-clause-reads c = λ b has.
    let less = rw has.around.depth at c.in_ok-check.ensures in
    let is = sym c.in_default.ensures.left ∙ c.in-Some.ensures.cases.0 in
    let operand = needs_operand (sym c.in-Some-unary_operator.ensures) less (rw is at has.needs) in
    needs_in b _ _ _ (waiting_last _ _ _ c.in_ok-push-2.ensures) has.around.loosest (c.deeper-around.ensures ∙ ap suc has.around.depth) (less, has.around.fits) operand
