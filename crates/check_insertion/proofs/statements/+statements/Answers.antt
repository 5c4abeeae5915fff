use Rattle.std.proofs.Common.{refl, sym, ap, ◌∙◌, arith}
use Rattle.std.proofs.lemmas.Result.{IfOk-weaker}
use Rattle.ckc_core.specs.Core as core
use Rattle.ckc_core.proofs.Rows as rows
use Rattle.check_insertion.specs.Erased as erased
use Rattle.check_insertion.specs.Insert as insert
use Rattle.check_insertion.proofs.Made.{made_more, made_all}
use Rattle.check_insertion.proofs.Rows.{block_value}
use Rattle.check_insertion.proofs.statements.+statements.Goals as goal

pub statement-returns-in-Block : goal.statement-returns-in-Block
statement-returns-in-Block t c =
    let shape = rows.block_of c.args.stmt.now c.in-Block.inner c.as_slice.result.now c.in-Block.is c.as_slice.ensures.value in
    IfOk-weaker c.block.result _ _ (λ _ e. e ∙ ap insert.statement (sym shape)) c.block.ensures

pub block-returns : goal.block-returns
block-returns t c = block_value c.in_ok-inner.inner ∙ ap erased.Block c.in_ok-inner.ensures

pub statements-loop-stmt-preserved : goal.statements-loop-stmt-preserved
statements-loop-stmt-preserved t c =
    made_more erased.statement erased.Then (λ xs. insert.statements (core.statements_of xs)) (λ x. insert.statement (core.statement x)) (λ x rest. refl) c.args.stmts.now c.loop-stmt.stmt-index c.stmt-item.result c.loop-stmt.built.items c.push.new.self.items c.in_ok-statement.field-0
    (omega (arith, c.loop-stmt-test.true)) c.stmt-item.is c.in_ok-push.ensures.items c.in_ok-statement.ensures c.loop-stmt.invariant

pub statements-returns : goal.statements-returns
statements-returns t c =
    made_all erased.statement erased.Then (λ xs. insert.statements (core.statements_of xs)) erased.statements_of refl (λ y ys. refl) c.args.stmts.now c.loop-stmt.stmt-index c.loop-stmt.built.items (omega (arith, c.loop-stmt-test.false)) c.loop-stmt.invariant
