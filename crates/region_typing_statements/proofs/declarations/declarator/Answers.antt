use Rattle.std.proofs.Common.{length, nat_lt, refl}
use Rattle.ckc_text.specs.declared.code.Code.TheVariants.{E08}
use Rattle.ckc_text.specs.Places.{place_at}
use Rattle.ckc_tree.specs.Types.{type_tree}
use Rattle.ckc_tree.specs.Statements.{declarator}
use Rattle.pointer_modes.specs.Types.{ctype}
use Rattle.region_typing_scope.specs.Views.{scope}
use Rattle.region_typing_statements.proofs.Locals.{array_declared}
use Rattle.region_typing_statements.proofs.Testing.{walk_fails, walks_behind}
use Rattle.region_typing_statements.proofs.declarations.declarator.Goals as goal

pub returns-in_err-few_locals : goal.returns-in_err-few_locals
returns-in_err-few_locals c =
    let few = nat_lt (length (scope c.args.scope.now).locals) (scope c.args.scope.now).flow.vars in
    walk_fails few few E08 c.args.span _ c.from_residual.result refl c.from_residual.ensures.1 c.in_err-few_locals.ensures.few

pub returns-in-None : goal.returns-in-None
returns-in-None c =
    let few = nat_lt (length (scope c.args.scope.now).locals) (scope c.args.scope.now).flow.vars in
    rw c.in-None.is (walks_behind few few E08 c.args.span _ refl c.in_ok-few_locals.ensures.few c.plain_local.ensures)

pub returns-in-Some : goal.returns-in-Some
returns-in-Some c =
    let few = nat_lt (length (scope c.args.scope.now).locals) (scope c.args.scope.now).flow.vars in
    array_declared (place_at c.args.context.now) (type_tree c.args.base.now) (ctype c.args.t.now) c.args.span (declarator c.args.d.now) c.in-Some.array c.args.scope.now c.array_local.new.scope c.array_local.result c.in-Some.is
    (walks_behind few few E08 c.args.span _ refl c.in_ok-few_locals.ensures.few c.array_local.ensures)
