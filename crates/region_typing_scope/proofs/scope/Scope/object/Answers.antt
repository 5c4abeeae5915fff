use Rattle.std.proofs.Common.{refl, sym, ap, ◌∙◌}
use Rattle.std.specs.Prelude.{◌==◌}
use Rattle.region_typing_scope.specs.Searches.{object_at}
use Rattle.region_typing_scope.proofs.Searches.{object_found, object_there, none_at, read_at}
use Rattle.region_typing_scope.proofs.scope.Scope.object.Goals as goal

pub returns-in_err-number : goal.returns-in_err-number
returns-in_err-number c =
    let name = c.args.name in
    let vs = c.args.self.now.variables.items in
    rw c.from_residual.ensures (sym (object_found name 0 vs ∙ ap (object_at 0 vs) (none_at (λ w. name == w.name) vs vs (sym c.variable_place.ensures ∙ c.in_err-number.was) refl)))

pub returns : goal.returns
returns c =
    let name = c.args.name in
    let vs = c.args.self.now.variables.items in
    let read = read_at (λ w. name == w.name) vs vs c.in_ok-number.number c.index-variable.result.now (sym c.variable_place.ensures ∙ c.in_ok-number.was) refl c.index-variable.ensures in
    object_there name vs c.in_ok-number.number c.index-variable.result.now read.0 read.1
