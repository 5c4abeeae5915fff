use Rattle.std.proofs.Common.{length, map, nat_lt, refl, ap, ◌∙◌}
use Rattle.ckc_text.specs.declared.code.Code.TheVariants.{E08}
use Rattle.ckc_tree.specs.Statements.{declarator}
use Rattle.region_typing_rules.specs.Cells.{is_length}
use Rattle.region_typing_rules.specs.Statements.{first_length}
use Rattle.region_typing_scope.specs.Views.{scope}
use Rattle.region_typing_statements.proofs.Testing.{walk_fails, walks_behind}
use Rattle.region_typing_statements.proofs.Walking.{goes_on, refused}
use Rattle.region_typing_statements.proofs.declarations.declaration.Goals as goal

pub returns-in_err-few_locals : goal.returns-in_err-few_locals
returns-in_err-few_locals c =
    let few = nat_lt (length (scope c.args.scope.now).locals) (scope c.args.scope.now).flow.vars in
    walk_fails few few E08 c.args.d.now.span _ c.from_residual.result refl c.from_residual.ensures.1 c.in_err-few_locals.ensures.few

pub returns-in_err-needs : goal.returns-in_err-needs
returns-in_err-needs c =
    let few = nat_lt (length (scope c.args.scope.now).locals) (scope c.args.scope.now).flow.vars in
    let fits = c.is_length.ensures ∙ ap is_length (c.first_length-elements.ensures ∙ ap (λ ds. first_length (map declarator ds)) c.as_slice.ensures.value) in
    walks_behind few few E08 c.args.d.now.span _ refl c.in_ok-few_locals.ensures.few
    (walk_fails _ _ E08 c.args.d.now.span _ c.from_residual-in_err-needs.result fits c.from_residual-in_err-needs.ensures.1 c.in_err-needs.ensures)

pub returns-in_err-t : goal.returns-in_err-t
returns-in_err-t c =
    let few = nat_lt (length (scope c.args.scope.now).locals) (scope c.args.scope.now).flow.vars in
    let fits = c.is_length.ensures ∙ ap is_length (c.first_length-elements.ensures ∙ ap (λ ds. first_length (map declarator ds)) c.as_slice.ensures.value) in
    walks_behind few few E08 c.args.d.now.span _ refl c.in_ok-few_locals.ensures.few
    (walks_behind _ _ E08 c.args.d.now.span _ fits c.in_ok-needs.ensures
    (refused _ c.from_residual-in_err-t.result c.from_residual-in_err-t.ensures.1 c.in_err-t.ensures))

pub returns : goal.returns
returns c =
    let few = nat_lt (length (scope c.args.scope.now).locals) (scope c.args.scope.now).flow.vars in
    let fits = c.is_length.ensures ∙ ap is_length (c.first_length-elements.ensures ∙ ap (λ ds. first_length (map declarator ds)) c.as_slice.ensures.value) in
    walks_behind few few E08 c.args.d.now.span _ refl c.in_ok-few_locals.ensures.few
    (walks_behind _ _ E08 c.args.d.now.span _ fits c.in_ok-needs.ensures
    (goes_on _ c.in_ok-t.ensures (rw c.as_slice-2.ensures.value at c.declarators.ensures)))
