use Rattle.std.proofs.Common.{None, Some, sym, ap, ◌∙◌}
use Rattle.std.specs.Prelude.{◌==◌}
use Rattle.region_typing_rules.specs.Verdicts.{picked}
use Rattle.region_typing_rules.specs.Calls.{is_import}
use Rattle.region_typing_scope.specs.Views.{signature}
use Rattle.region_typing_scope.proofs.Searches as searches
use Rattle.region_typing.proofs.Placing.{place_found, no_place}
use Rattle.region_typing.proofs.cores.trusted_place.Goals as goal

pub returns-in_err-place : goal.returns-in_err-place
returns-in_err-place c =
    let functions = c.args.scope.now.functions.items in
    let none = sym (searches.place_found (λ f. c.args.name == f.name) functions) ∙ sym c.function_place.ensures ∙ c.in_err-place.was in
    c.from_residual.ensures ∙ sym (no_place functions c.args.name none)

pub returns-then-is_import : goal.returns-then-is_import
returns-then-is_import c =
    let functions = c.args.scope.now.functions.items in
    let place = c.in_ok-place.place in
    let found = sym (searches.place_found (λ f. c.args.name == f.name) functions) ∙ sym c.function_place.ensures ∙ c.in_ok-place.was in
    ap (λ i. picked i None (Some place)) (c.if-is_import.ensures ∙ ap (λ f. is_import (signature f)) c.index.ensures)
    ∙ sym (place_found functions c.args.name place c.index.result.now found)

pub returns-else-is_import : goal.returns-else-is_import
returns-else-is_import c =
    let functions = c.args.scope.now.functions.items in
    let place = c.in_ok-place.place in
    let found = sym (searches.place_found (λ f. c.args.name == f.name) functions) ∙ sym c.function_place.ensures ∙ c.in_ok-place.was in
    ap (λ i. picked i None (Some place)) (c.if-is_import.ensures ∙ ap (λ f. is_import (signature f)) c.index.ensures)
    ∙ sym (place_found functions c.args.name place c.index.result.now found)
