use Rattle.std.proofs.Common.{◌≡◌, ◌∷◌, [], length, ap, ◌∙◌, arith}
use Rattle.std.specs.Option.{option_map}
use Rattle.std.proofs.lemmas.List.{length-append}
use Rattle.ckc_text.specs.Places.{place_at}
use Rattle.ckc_tree.specs.Expressions.{bounds}
use Rattle.ckc_tree.specs.Statements.{declarator}
use Rattle.pointer_modes.specs.Types.{ctype}
use Rattle.region_typing_rules.specs.Statements.{bounded_local}
use Rattle.region_typing_scope.specs.Views.{scope}
use Rattle.region_typing_statements.proofs.Locals.{local_added, bounds_declared, local_declared}
use Rattle.region_typing_statements.proofs.Walking.{goes_on, refused, one_more}
use Rattle.region_typing_statements.proofs.declarations.declared.Goals as goal

pub returns-in_err-bounds : goal.returns-in_err-bounds
returns-in_err-bounds c =
    let count : c.len-local.result ≡ length c.args.scope.now.locals.items = omega (arith, c.args.scope.now.locals.ok.0) in
    let here = local_added c.args.d.now.name.number (ctype c.args.t.now) (ctype c.in_ok-kept.kept) c.args.scope.now c.add_local.new.self c.in_ok-add_local.ensures.known c.in_ok-kept.ensures in
    refused (bounded_local (place_at c.args.context.now) (scope c.args.scope.now) (declarator c.args.d.now) (ctype c.args.t.now) c.args.span) c.from_residual-in_err-bounds.result c.from_residual-in_err-bounds.ensures.1
    (bounds_declared c.args.d.now.name.number (ctype c.args.t.now) c.len-local.result (option_map bounds c.args.d.now.bounds) c.args.scope.now c.add_local.new.self _ here count c.in_err-bounds.ensures.known)

pub declare-requires-clause-last : goal.declare-requires-clause-last
declare-requires-clause-last c =
    let more = c.in_ok-add_local.ensures.locals in
    let count = length-append c.args.scope.now.locals.items (c.in_ok-kept.kept ∷ []) in
    let held = ap length more in
    omega (arith, held, count)

pub returns : goal.returns
returns c =
    let count : c.len-local.result ≡ length c.args.scope.now.locals.items = omega (arith, c.args.scope.now.locals.ok.0) in
    let name = c.args.d.now.name.number in
    let here = local_added name (ctype c.args.t.now) (ctype c.in_ok-kept.kept) c.args.scope.now c.add_local.new.self c.in_ok-add_local.ensures.known c.in_ok-kept.ensures in
    let there = c.in_ok-declare.ensures.added (scope c.args.scope.now) name (ctype c.args.t.now) here in
    let seen = c.in_ok-add_local.ensures.seen in
    goes_on (bounded_local (place_at c.args.context.now) (scope c.args.scope.now) (declarator c.args.d.now) (ctype c.args.t.now) c.args.span)
    (bounds_declared name (ctype c.args.t.now) c.len-local.result (option_map bounds c.args.d.now.bounds) c.args.scope.now c.add_local.new.self _ here count c.in_ok-bounds.ensures.known)
    (local_declared (place_at c.args.context.now) (declarator c.args.d.now) (ctype c.args.t.now) c.in_ok-bounds.bounds c.len-local.result c.args.span c.args.scope.now c.declare.new.self c.from_zero.new.scope c.from_zero.result there count
    (one_more name (ctype c.args.t.now) c.in_ok-bounds.bounds c.args.scope.now c.declare.new.self there (seen.0, c.in_ok-declare.ensures.seen ∙ seen.1)) c.from_zero.ensures)
