use Rattle.std.proofs.Common.{refl, ap, ◌∙◌, Vec, Global}
use Rattle.ckc_tree.specs.declared.expr.Expr as code
use Rattle.ckc_tree.specs.declared.expr.Expr.{Expr}
use Rattle.ckc_tree.specs.Numbers.{number_name}
use Rattle.ckc_names_rules.specs.Given.{number_in}
use Rattle.ckc_names.proofs.Numbered.{call_numbered}
use Rattle.ckc_names.proofs.numbered_expressions.+numbered.Goals as goal

pub expression-returns-in-Call : goal.expression-returns-in-Call
unfolding code.out-Expr denote.Hole.Carrier.out
expression-returns-in-Call t c =
    let slice = c.as_mut_slice.ensures.value ∙ ap (λ (v : Vec Expr Global). v.items) c.in-Call.arguments-is in
    call_numbered (number_in c.args.names.now) c.args.written.now c.in-Call.callee c.name-in-Call.new.name c.in-Call.arguments _ c.in-Call.span _ c.as_mut_slice.result.now c.expressions.new.arguments c.in-Call.is slice c.in-Call.arguments-is (rw c.in-Call.is (refl {a = c.in-Call.span}))
    c.expressions.ensures.all c.expressions.ensures.walked (c.name-in-Call.ensures ∙ ap (number_name (number_in c.args.names.now)) c.in-Call.callee-is)
