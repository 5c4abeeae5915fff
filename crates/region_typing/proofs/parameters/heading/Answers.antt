use Rattle.std.proofs.Common.{◌≡◌, true, map, reverse, is_some, refl, sym, ◌∙◌}
use Rattle.std.specs.Option.{option_map}
use Rattle.std.proofs.lemmas.List.{length-map}
use Rattle.ckc_tree.specs.Expressions.{bounds as bounds_tree}
use Rattle.ckc_tree.specs.Items as trees
use Rattle.pointer_modes.specs.Types.{ctype}
use Rattle.region_typing_rules.specs.Scopes.{Scope}
use Rattle.region_typing_scope.specs.Views.{scope, visible}
use Rattle.region_typing_scope.proofs.Going.{goes_on, refused}
use Rattle.region_typing.specs.Parameters.{any_bounds}
use Rattle.region_typing.proofs.ParameterBounds.{or_true, place_among, result_among}
use Rattle.region_typing.proofs.parameters.heading.Goals as goal

pub returns-in_err-parameters-clause-known : goal.returns-in_err-parameters-clause-known
returns-in_err-parameters-clause-known c =
    let g = scope c.args.scope.now in
    let all = map trees.parameter c.listed-all.result.now in
    let among = c.in_ok-among.among in
    let there = λ (h : c.is_asked-asked.result ≡ true). place_among g all among c.as_slice.result.now c.as_slice-2.result.now c.as_slice.ensures.value c.as_slice-2.ensures.value (c.in_ok-among.ensures.known h) in
    let parameters = c.in_err-parameters.ensures.types (λ any. there (c.is_asked-asked.ensures ∙ or_true (is_some (option_map bounds_tree c.args.bounds.now)) (any_bounds all) any)) in
    rw (← c.listed-all.ensures) (refused _ c.from_residual-in_err-parameters.result c.from_residual-in_err-parameters.ensures.1 parameters)

pub returns-in_err-bounds-clause-known : goal.returns-in_err-bounds-clause-known
returns-in_err-bounds-clause-known c =
    let g = scope c.args.scope.now in
    let all = map trees.parameter c.listed-all.result.now in
    let among = c.in_ok-among.among in
    let place : Scope = record g { locals = map ctype c.as_slice.result.now; visible = reverse (map visible c.as_slice-2.result.now) } in
    let there = λ (h : c.is_asked-asked.result ≡ true). place_among g all among c.as_slice.result.now c.as_slice-2.result.now c.as_slice.ensures.value c.as_slice-2.ensures.value (c.in_ok-among.ensures.known h) in
    let parameters = c.in_ok-parameters.ensures.types (λ any. there (c.is_asked-asked.ensures ∙ or_true (is_some (option_map bounds_tree c.args.bounds.now)) (any_bounds all) any)) in
    let count = c.len-number.ensures ∙ c.in_ok-parameters.parameters.ok.0 ∙ c.in_ok-parameters.ensures.each ∙ sym (length-map c.listed-all.result.now trees.parameter) in
    let same = result_among g place all (option_map ctype c.args.result_type.now) c.len-number.result (option_map bounds_tree c.args.bounds.now) (λ some. there (c.is_asked-asked.ensures ∙ rw some refl)) count in
    let bounds = rw same at c.in_err-bounds.ensures in
    rw (← c.listed-all.ensures) (goes_on _ parameters (refused _ c.from_residual-in_err-bounds.result c.from_residual-in_err-bounds.ensures.1 bounds))

pub returns-clause-known : goal.returns-clause-known
returns-clause-known c =
    let g = scope c.args.scope.now in
    let all = map trees.parameter c.listed-all.result.now in
    let among = c.in_ok-among.among in
    let place : Scope = record g { locals = map ctype c.as_slice.result.now; visible = reverse (map visible c.as_slice-2.result.now) } in
    let there = λ (h : c.is_asked-asked.result ≡ true). place_among g all among c.as_slice.result.now c.as_slice-2.result.now c.as_slice.ensures.value c.as_slice-2.ensures.value (c.in_ok-among.ensures.known h) in
    let parameters = c.in_ok-parameters.ensures.types (λ any. there (c.is_asked-asked.ensures ∙ or_true (is_some (option_map bounds_tree c.args.bounds.now)) (any_bounds all) any)) in
    let count = c.len-number.ensures ∙ c.in_ok-parameters.parameters.ok.0 ∙ c.in_ok-parameters.ensures.each ∙ sym (length-map c.listed-all.result.now trees.parameter) in
    let same = result_among g place all (option_map ctype c.args.result_type.now) c.len-number.result (option_map bounds_tree c.args.bounds.now) (λ some. there (c.is_asked-asked.ensures ∙ rw some refl)) count in
    let bounds = rw same at c.in_ok-bounds.ensures in
    rw (← c.listed-all.ensures) (goes_on _ parameters (goes_on _ bounds (record { so = refl })))
