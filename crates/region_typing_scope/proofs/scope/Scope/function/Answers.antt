use Rattle.std.proofs.Common.{refl, sym, ap, ◌∙◌}
use Rattle.std.specs.Prelude.{◌==◌}
use Rattle.region_typing_scope.specs.Searches.{function_at}
use Rattle.region_typing_scope.proofs.Searches.{function_found, function_there, none_at, read_at}
use Rattle.region_typing_scope.proofs.scope.Scope.function.Goals as goal

pub returns-in_err-place : goal.returns-in_err-place
returns-in_err-place c =
    let name = c.args.name in
    let fs = c.args.self.now.functions.items in
    rw c.from_residual.ensures (sym (function_found name fs ∙ ap (function_at fs) (none_at (λ w. name == w.name) fs fs (sym c.function_place.ensures ∙ c.in_err-place.was) refl)))

pub returns : goal.returns
returns c =
    let name = c.args.name in
    let fs = c.args.self.now.functions.items in
    let read = read_at (λ w. name == w.name) fs fs c.in_ok-place.place c.index.result.now (sym c.function_place.ensures ∙ c.in_ok-place.was) refl c.index.ensures in
    function_there name fs c.in_ok-place.place c.index.result.now read.0 read.1
