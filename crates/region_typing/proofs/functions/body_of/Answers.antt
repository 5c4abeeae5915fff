use Rattle.std.proofs.Common.{map, length, refl, ap, ◌∙◌}
use Rattle.region_typing_rules.specs.Scopes.{Scope}
use Rattle.region_typing_rules.specs.Items.{names}
use Rattle.region_typing_rules.specs.KeptParameters.{all_changed}
use Rattle.ckc_text.specs.Places.{place_at}
use Rattle.ckc_tree.specs.Items.{statement_list}
use Rattle.ckc_core.specs.Core.{function, statements_of}
use Rattle.region_typing_scope.specs.Views.{scope, signature}
use Rattle.region_typing.specs.Parameters.{parameter}
use Rattle.region_typing.proofs.Bodies.{left_function, body_built, body_refused, core_built}
use Rattle.region_typing.proofs.functions.body_of.Goals as goal

pub returns-in_err-built-clause-core : goal.returns-in_err-built-clause-core
returns-in_err-built-clause-core c =
    body_refused (place_at c.args.context.now) (signature c.args.f.now) (map parameter c.args.parameters.now) (statement_list c.args.body.now) c.args.scope.now c.enter.new.scope c.from_residual-in_err-built.result c.in_ok-enter.ensures c.from_residual-in_err-built.ensures.1 c.in_err-built.ensures

pub returns-clause-core : goal.returns-clause-core
returns-clause-core c =
    let same = left_function (signature c.args.f.now) (map parameter c.args.parameters.now) (statement_list c.args.body.now) c.args.scope.now c.enter.new.scope c.statements.new.scope c.exit.new.self c.requires.outside c.in_ok-enter.ensures c.in_ok-built.ensures.so.1 c.in_ok-locals.ensures.known in
    record { so = body_built (place_at c.args.context.now) (signature c.args.f.now) (map parameter c.args.parameters.now) (statement_list c.args.body.now) (statements_of c.in_ok-built.built.items) (function c.core_function-function.result) c.args.scope.now c.enter.new.scope c.statements.new.scope c.exit.new.self c.in_ok-enter.ensures same c.in_ok-built.ensures.so.0 (core_built c.args.f.now c.in_ok-heading.heading c.args.parameters.now (length c.args.parameters.now) refl c.in_ok-locals.locals.items (scope c.statements.new.scope) c.in_ok-locals.ensures.locals c.in_ok-built.built.items c.core_function-function.result c.in_ok-heading.ensures c.core_function-function.ensures) }

pub returns-clause-changed : goal.returns-clause-changed
returns-clause-changed c =
    let g = scope c.args.scope.now in
    let ps = map parameter c.args.parameters.now in
    let body = statement_list c.args.body.now in
    c.in_ok-changed.ensures ∙ ap (λ (h : Scope). all_changed (names h.result_bounds) (length h.locals) h.visible body) c.in_ok-enter.ensures
