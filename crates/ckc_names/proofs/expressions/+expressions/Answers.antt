use Rattle.std.proofs.Common.{refl, arith}
use Rattle.ckc_tree.specs.Expressions.{expression as expression_of}
use Rattle.ckc_names_rules.specs.Mentions.{expression_mentions}
use Rattle.ckc_names.proofs.Going.{on, part_more}
use Rattle.ckc_names.proofs.Rows.{call_mentions}
use Rattle.ckc_names.proofs.expressions.+expressions.Goals as goal

pub expression-returns-in-Index : goal.expression-returns-in-Index
expression-returns-in-Index t c =
    on (rw (c.in-Index.is, c.deref-in-Index.ensures, c.deref-in-Index-2.ensures) refl) c.expression-in-Index.ensures c.expression-in-Index-2.ensures

pub expression-returns-in-Binary : goal.expression-returns-in-Binary
expression-returns-in-Binary t c =
    on (rw (c.in-Binary.is, c.deref-in-Binary.ensures, c.deref-in-Binary-2.ensures) refl) c.expression-in-Binary.ensures c.expression-in-Binary-2.ensures

pub expression-returns-in-Dot : goal.expression-returns-in-Dot
expression-returns-in-Dot t c =
    on (rw (c.in-Dot.is, c.deref-in-Dot.ensures) refl) c.expression-in-Dot.ensures c.select.ensures

pub expression-returns-in-Arrow : goal.expression-returns-in-Arrow
expression-returns-in-Arrow t c =
    on (rw (c.in-Arrow.is, c.deref-in-Arrow.ensures) refl) c.expression-in-Arrow.ensures c.select-in-Arrow.ensures

pub expression-returns-in-Malloc : goal.expression-returns-in-Malloc
expression-returns-in-Malloc t c =
    on (rw (c.in-Malloc.is, c.deref-in-Malloc.ensures) refl) c.type_form-in-Malloc.ensures c.expression-in-Malloc.ensures

pub expression-returns-in-Calloc : goal.expression-returns-in-Calloc
expression-returns-in-Calloc t c =
    on (rw (c.in-Calloc.is, c.deref-in-Calloc.ensures, c.deref-in-Calloc-2.ensures) refl) c.type_form-in-Calloc.ensures (on refl c.expression-in-Calloc.ensures c.expression-in-Calloc-2.ensures)

pub expression-returns-in-Call : goal.expression-returns-in-Call
expression-returns-in-Call t c =
    on (call_mentions c.args.written.now c.in-Call.callee c.in-Call.arguments c.in-Call.span c.as_slice.result.now c.in-Call.is c.as_slice.ensures.value) c.call.ensures c.expressions.ensures

pub bounds-returns-in-Range : goal.bounds-returns-in-Range
bounds-returns-in-Range t c =
    on (rw (c.in-Range.is, c.deref.ensures, c.deref-in-Range.ensures) refl) c.expression.ensures c.expression-in-Range.ensures

pub expressions-loop-argument-preserved : goal.expressions-loop-argument-preserved
expressions-loop-argument-preserved t c =
    record {
      so_far = part_more (λ x. expression_mentions (expression_of x)) c.args.arguments.now c.loop-argument.argument-index c.argument-item.result (omega (arith, c.loop-argument-test.true)) c.argument-item.is c.loop-argument.invariant.so_far c.expression.ensures;
    }

pub expression-returns-in-None : goal.expression-returns-in-None
expression-returns-in-None t c =
    on (rw (c.in-Cast.is, c.in-None.is, c.deref.ensures) refl) c.type_form-in-None.ensures c.expression.ensures

pub expression-returns-in-Some : goal.expression-returns-in-Some
expression-returns-in-Some t c =
    on (rw (c.in-Cast.is, c.in-Some.is, c.deref-in-Some.ensures, c.deref-in-Some-2.ensures) refl) c.type_form-in-Some.ensures (on refl c.expression-in-Some.ensures c.bounds.ensures)

pub expression-returns-in-Name : goal.expression-returns-in-Name
expression-returns-in-Name t c = rw c.in-Name.is c.use_value.ensures

pub expression-returns-in-SizeOf : goal.expression-returns-in-SizeOf
expression-returns-in-SizeOf t c = rw c.in-SizeOf.is c.type_form.ensures

pub expression-returns-in-Unary : goal.expression-returns-in-Unary
expression-returns-in-Unary t c = rw (c.in-Unary.is, ← c.deref-in-Unary.ensures) c.expression-in-Unary.ensures
