use Rattle.std.proofs.lemmas.Grind.{common_steps, elements}
use Rattle.std.proofs.Common.{◌≡◌, length, sym, ap, subst, arith, rules}
use Rattle.std.proofs.lemmas.List.{length-map}
use Rattle.pointer_modes.specs.Types.{ctype}
use Rattle.check_insertion.specs.Erased.{function, statements_of}
use Rattle.lowering.specs.Sized.{SizedStatements}
use Rattle.lowering.specs.Code.{statements_size}
use Rattle.lowering.proofs.Weights.{body_short}
use Rattle.lowering.proofs.images.function_ops.Goals as goal

pub statements_size-end-requires : goal.statements_size-end-requires
statements_size-end-requires c =
    let same = ap (λ stmts. statements_size (statements_of stmts)) c.as_slice-body.ensures.value in
    omega (arith, body_short (statements_of c.args.f.now.body.items) c.requires.few_nodes, same)

pub emit_statements-requires-clause-room : goal.emit_statements-requires-clause-room
emit_statements-requires-clause-room c =
    let same = ap (λ stmts. statements_size (statements_of stmts)) c.as_slice-body.ensures.value in
    omega (arith, body_short (statements_of c.args.f.now.body.items) c.requires.few_nodes, same, ap length c.new-ops.ensures.items)

pub emit_statements-requires-clause-slot : goal.emit_statements-requires-clause-slot
emit_statements-requires-clause-slot c =
    let slots : c.len.result ≡ length (function c.args.f.now).locals = omega (arith, c.len.ensures, c.args.f.now.locals.ok.0, length-map c.args.f.now.locals.items ctype) in
    omega (arith, c.requires.frame, slots)

pub emit_statements-requires-clause-sized : goal.emit_statements-requires-clause-sized
emit_statements-requires-clause-sized c =
    let slots : c.len.result ≡ length (function c.args.f.now).locals = omega (arith, c.len.ensures, c.args.f.now.locals.ok.0, length-map c.args.f.now.locals.items ctype) in
    subst (λ xs. SizedStatements c.len.result (statements_of xs)) (sym c.as_slice-body.ensures.value)
    (subst (λ k. SizedStatements k (statements_of c.args.f.now.body.items)) (sym slots) c.requires.sized)

pub overflow_cast-targets : goal.overflow_cast-targets
overflow_cast-targets c = grind (arith, common_steps)

pub returns-in_err-emit_statements : goal.returns-in_err-emit_statements
returns-in_err-emit_statements c = grind (arith, elements)

pub returns-in_err-emit_ending : goal.returns-in_err-emit_ending
returns-in_err-emit_ending c = search rules

pub returns : goal.returns
returns c = grind (arith, elements)
