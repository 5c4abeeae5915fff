use Rattle.std.proofs.Common.{◌≡◌, length, arith}
use Rattle.ckc_text.specs.Places.{place_at}
use Rattle.ckc_tree.specs.Statements.{declarator}
use Rattle.pointer_modes.specs.Types.{ctype}
use Rattle.region_typing_statements.proofs.Locals.{array_added}
use Rattle.region_typing_statements.proofs.local_arrays.add_array.Goals as goal

pub returns : goal.returns
returns c =
    let count : c.len-local.result ≡ length c.args.scope.now.locals.items = omega (arith, c.args.scope.now.locals.ok.0) in
    array_added (place_at c.args.context.now) (declarator c.args.d.now) (ctype c.args.t) c.args.count c.len-local.result c.args.ended c.args.span c.args.scope.now c.add_array.new.self c.array.new.scope c.array.result
    (c.in_ok-add_array.ensures.known (ctype c.args.t) c.in_ok-row.ensures) count c.in_ok-add_array.ensures.seen c.array.ensures
