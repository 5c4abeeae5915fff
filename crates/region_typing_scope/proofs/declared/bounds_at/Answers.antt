use Rattle.std.proofs.Common.{◌≤◌, length, Some, arith}
use Rattle.std.proofs.lemmas.List.{length-map}
use Rattle.ckc_tree.specs.Expressions.{bounds}
use Rattle.pointer_modes.specs.Types.{ctype}
use Rattle.region_typing_scope.specs.DeclaredViews.{place}
use Rattle.region_typing_scope.proofs.Below.{answered_below}
use Rattle.region_typing_scope.proofs.declared.bounds_at.Goals as goal

pub returns-in-Some-clause-below : goal.returns-in-Some-clause-below
returns-in-Some-clause-below c =
    let p = c.args.place.now in
    let few : length (place p).locals ≤ length p.locals.now = omega (arith, length-map p.locals.now ctype) in
    answered_below (place p) (ctype c.args.t.now) c.args.own (length p.locals.now) (Some (bounds c.in-Some.bounds)) c.written_bounds.result few c.written_bounds.ensures
