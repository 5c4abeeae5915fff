use Rattle.std.proofs.Common.{◌≡◌, length, ap, arith}
use Rattle.std.proofs.lemmas.List.{length-map}
use Rattle.ckc_text.specs.Names.{IsName}
use Rattle.pointer_modes.specs.Types.{ctype}
use Rattle.check_insertion.specs.Erased.{function, statements_of}
use Rattle.check_insertion.specs.Stacks.{statements_stack, body_stack}
use Rattle.lowering.proofs.Fits.{is_func}
use Rattle.lowering.proofs.images.emit_function.Goals as goal

pub new-requires : goal.new-requires
new-requires c =
    let f = function c.args.f.now in
    let named : IsName f.name = rw c.in_ok-name.ensures.same at c.in_ok-name.ensures.word in
    let slots : c.len.result ≡ length f.locals =
    omega (arith, c.len.ensures, c.args.f.now.locals.ok.0, length-map c.args.f.now.locals.items ctype) in
    let stack : c.max-stack.result ≡ body_stack f =
    omega (arith, c.max-stack.ensures, c.statements_stack.ensures, ap (λ stmts. statements_stack (statements_of stmts)) c.as_slice.ensures.value) in
    rw (c.in_ok-name.ensures.same, slots, stack, c.result_kind-returned.ensures, c.in_ok-ops.ensures) (is_func c.args.number f named c.requires)
