use Rattle.std.proofs.Common.{◌≡◌, Some, map, ap, sym, ◌∙◌, subst}
use Rattle.ckc_text.specs.Places.{place_at}
use Rattle.ckc_tree.specs.Items as trees
use Rattle.ckc_tree.specs.Texts.{body_texts}
use Rattle.ckc_core.specs.Core.{function}
use Rattle.region_typing_rules.specs.Scopes.{Scope}
use Rattle.region_typing_rules.specs.Items.{Walk, body_scope}
use Rattle.region_typing_rules.proofs.TextBlocks.{changed_beside}
use Rattle.region_typing_scope.specs.Views.{scope, signature}
use Rattle.region_typing.specs.Parameters.{parameter}
use Rattle.region_typing_scope.proofs.Going.{goes_on, refused}
use Rattle.region_typing.specs.Items.{walk, Outside, changed_in}
use Rattle.region_typing.proofs.Bodies.{function_body_parts, bodies_more, scope_kept}
use Rattle.region_typing.proofs.Outside.{texts_outside}
use Rattle.region_typing_statements.proofs.Testing.{holds, fails}
use Rattle.region_typing.proofs.functions.with_body.Goals as goal

pub body_of-requires-clause-outside : goal.body_of-requires-clause-outside
body_of-requires-clause-outside c =
    let w = walk c.args.walk.now in
    let b = trees.body c.args.body.now in
    let known : scope c.add_texts.new.walk.scope ≡ body_scope w b = ap (λ (v : Walk). v.scope) c.in_ok-add_texts.ensures in
    subst Outside (sym known) (texts_outside w b c.requires.outside)

pub returns-in_err-built-clause-core : goal.returns-in_err-built-clause-core
returns-in_err-built-clause-core c =
    let broken = rw c.as_slice-written.ensures.value at c.in_err-built.ensures.core in
    rw (function_body_parts (place_at c.args.context.now) (walk c.args.walk.now) (signature c.args.f.now) (map parameter c.args.parameters.now) (trees.body c.args.body.now) (walk c.add_texts.new.walk) c.in_ok-add_texts.ensures)
    (refused _ c.from_residual-in_err-built.result c.from_residual-in_err-built.ensures.1 broken)

pub returns-in_err-needs-clause-core : goal.returns-in_err-needs-clause-core
returns-in_err-needs-clause-core c =
    let passes = rw c.as_slice-written.ensures.value at c.in_ok-built.ensures.core in
    rw (function_body_parts (place_at c.args.context.now) (walk c.args.walk.now) (signature c.args.f.now) (map parameter c.args.parameters.now) (trees.body c.args.body.now) (walk c.add_texts.new.walk) c.in_ok-add_texts.ensures)
    (goes_on _ passes (fails _ _ _ _ _ c.from_residual-in_err-needs.result c.is_checked-checked.ensures c.from_residual-in_err-needs.ensures.1 c.in_err-needs.ensures))

pub returns-clause-core : goal.returns-clause-core
returns-clause-core c =
    let passes = rw c.as_slice-written.ensures.value at c.in_ok-built.ensures.core in
    let before = c.add_texts.new.walk in
    rw (function_body_parts (place_at c.args.context.now) (walk c.args.walk.now) (signature c.args.f.now) (map parameter c.args.parameters.now) (trees.body c.args.body.now) (walk before) c.in_ok-add_texts.ensures)
    (goes_on _ passes (holds _ _ _ _ _ c.is_checked-checked.ensures c.in_ok-needs.ensures
    (record { so = bodies_more (walk before) (scope c.body_of.new.scope) before.bodies.items c.push.new.self.items (record { name = c.args.f.now.name; function = c.in_ok-built.built.function }) (scope_kept (place_at c.args.context.now) (scope before.scope) (signature c.args.f.now) (map parameter c.args.parameters.now) (trees.statement_list c.args.body.now.statements.items) (function c.in_ok-built.built.function) (scope c.body_of.new.scope) passes.so) c.in_ok-push.ensures.items })))

pub returns-clause-changed : goal.returns-clause-changed
returns-clause-changed c =
    let w = walk c.args.walk.now in
    let b = trees.body c.args.body.now in
    let f = signature c.args.f.now in
    let ps = map parameter c.args.parameters.now in
    let known : scope c.add_texts.new.walk.scope ≡ body_scope w b = ap (λ (v : Walk). v.scope) c.in_ok-add_texts.ensures in
    let changed = rw c.as_slice-written.ensures.value at c.in_ok-built.ensures.changed in
    changed ∙ ap (λ (g : Scope). changed_in g f ps b.statements) known ∙ changed_beside f ps (Some b) w.taken (body_texts b) w.scope
