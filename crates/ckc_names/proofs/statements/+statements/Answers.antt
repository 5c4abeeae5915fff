use Rattle.std.proofs.Common.{[], ◌∷◌, refl, ap, sym, ◌∙◌, arith}
use Rattle.std.specs.List.{flat_map}
use Rattle.std.specs.Option.{option_map}
use Rattle.ckc_tree.specs.Statements.{assignment, for_initial, on_heap, statement}
use Rattle.ckc_names_rules.specs.Mentions.{Open, Close, optional_mentions, expression_mentions, assignment_mentions, for_initial_mentions, in_block, statement_mentions}
use Rattle.ckc_names.proofs.Going.{on, part_more, flat_shown, for_parts}
use Rattle.ckc_names.proofs.Rows.{block_says}
use Rattle.ckc_names.proofs.statements.+statements.Goals as goal

pub nested-returns : goal.nested-returns
nested-returns t c =
    on refl c.open.ensures (on refl c.statement.ensures c.close.ensures)

pub statement-returns-in-Block : goal.statement-returns-in-Block
statement-returns-in-Block t c =
    on (block_says c.args.written.now c.in-Block.mark c.in-Block.inner c.in-Block.span c.as_slice.result.now c.in-Block.is c.as_slice.ensures.value) c.open.ensures (on refl c.statements.ensures c.close.ensures)

pub statement-returns-in-None : goal.statement-returns-in-None
statement-returns-in-None t c =
    on (rw (c.in-If.is, c.in-None.is, c.deref-in-None.ensures, c.deref-in-None-2.ensures) refl) c.expression-in-None.ensures c.nested.ensures

pub statement-returns-in-Some : goal.statement-returns-in-Some
statement-returns-in-Some t c =
    on (rw (c.in-If.is, c.in-Some.is, c.deref-in-Some.ensures, c.deref-in-Some-2.ensures, c.deref-in-Some-3.ensures) refl) c.expression-in-Some.ensures (on refl c.nested-in-Some.ensures c.nested-in-Some-2.ensures)

pub statement-returns-in-While : goal.statement-returns-in-While
statement-returns-in-While t c =
    on (rw (c.in-While.is, c.deref-in-While.ensures, c.deref-in-While-2.ensures) refl) c.expression-in-While.ensures c.nested-in-While.ensures

pub statement-returns-in-For : goal.statement-returns-in-For
statement-returns-in-For t c =
    on (rw (c.in-For.is, c.deref-in-For.ensures) (ap (λ ms. Open ∷ ms) (for_parts (for_initial_mentions (for_initial c.in-For.initial)) (optional_mentions expression_mentions (option_map on_heap c.in-For.condition)) (optional_mentions assignment_mentions (option_map assignment c.in-For.step)) (in_block (statement_mentions (statement c.in-For.body.value))) (Close ∷ [])))) c.open-in-For.ensures (on refl c.head.ensures (on refl c.nested-in-For.ensures c.close-in-For.ensures))

pub statement-returns-in-Bundle : goal.statement-returns-in-Bundle
statement-returns-in-Bundle t c =
    let says = flat_shown assignment_mentions assignment c.in-Bundle.inner.items ∙ ap (flat_map (λ x. assignment_mentions (assignment x))) (sym c.as_slice-in-Bundle.ensures.value) in
    rw (c.in-Bundle.is, says) c.assignments.ensures

pub statements-loop-listed-preserved : goal.statements-loop-listed-preserved
statements-loop-listed-preserved t c =
    record {
      so_far = part_more (λ x. statement_mentions (statement x)) c.args.written.now c.loop-listed.listed-index c.listed-item.result (omega (arith, c.loop-listed-test.true)) c.listed-item.is c.loop-listed.invariant.so_far c.statement.ensures;
    }

pub statement-returns-in-Declare : goal.statement-returns-in-Declare
statement-returns-in-Declare t c = rw c.in-Declare.is c.declaration.ensures

pub statement-returns-in-Assign : goal.statement-returns-in-Assign
statement-returns-in-Assign t c = rw c.in-Assign.is c.assignment.ensures

pub statement-returns-in-Call : goal.statement-returns-in-Call
statement-returns-in-Call t c = rw (c.in-Call.is, ← c.deref.ensures) c.expression.ensures

pub statement-returns-in-Return : goal.statement-returns-in-Return
statement-returns-in-Return t c = rw c.in-Return.is c.optional_expression.ensures
