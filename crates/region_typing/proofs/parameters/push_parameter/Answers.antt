use Rattle.std.proofs.Common.{◌≡◌, nat_lt, length, map, refl, ap, sym, ◌∙◌, arith}
use Rattle.std.proofs.lemmas.List.{length-map}
use Rattle.ckc_tree.specs.Items as trees
use Rattle.pointer_modes.specs.Types.{ctype}
use Rattle.region_typing_rules.specs.Verdicts.{Passes}
use Rattle.region_typing_rules.specs.Scopes.{bounds_in}
use Rattle.region_typing_rules.specs.Items.{among_parameters}
use Rattle.region_typing_scope.specs.Views.{scope}
use Rattle.region_typing_scope.specs.DeclaredViews.{place}
use Rattle.region_typing.specs.Items.{bounds_written}
use Rattle.region_typing.specs.Parameters.{parameter}
use Rattle.region_typing.proofs.Lists.{item_pushed}
use Rattle.region_typing.proofs.ParameterBounds.{written_among, bounds_below_more, over_pushed}
use Rattle.region_typing_scope.proofs.Going.{goes_on, refused}
use Rattle.region_typing_statements.proofs.Testing.{holds, fails}
use Rattle.region_typing.proofs.parameters.push_parameter.Goals as goal

pub returns-in_err-needs-clause-types : goal.returns-in_err-needs-clause-types
returns-in_err-needs-clause-types c all among =
    let room = ap (λ n. nat_lt n 16) (c.len.ensures ∙ c.args.parameters.now.ok.0 ∙ sym (length-map c.args.parameters.now.items parameter)) in
    let full = rw c.span.ensures at c.in_err-needs.ensures in
    fails _ _ _ _ _ c.from_residual.result room c.from_residual.ensures.1 full

pub returns-in_err-ctype-clause-types : goal.returns-in_err-ctype-clause-types
returns-in_err-ctype-clause-types c all among =
    let room = ap (λ n. nat_lt n 16) (c.len.ensures ∙ c.args.parameters.now.ok.0 ∙ sym (length-map c.args.parameters.now.items parameter)) in
    let few = rw c.span.ensures at c.in_ok-needs.ensures in
    holds _ _ _ _ _ room few (refused _ c.from_residual-in_err-ctype.result c.from_residual-in_err-ctype.ensures.1 c.in_err-ctype.ensures)

pub returns-in_err-bounds-clause-types : goal.returns-in_err-bounds-clause-types
returns-in_err-bounds-clause-types c all among =
    let ps = c.args.parameters.now in
    let room = ap (λ n. nat_lt n 16) (c.len.ensures ∙ ps.ok.0 ∙ sym (length-map ps.items parameter)) in
    let few = rw c.span.ensures at c.in_ok-needs.ensures in
    let g = among_parameters (scope c.args.place.now.scope.now) all in
    let t = ctype c.in_ok-ctype.ctype in
    let o = (trees.parameter c.args.written.now).bounds in
    let count : c.len-local.result ≡ length (map parameter ps.items) = omega (arith, c.len-local.ensures, c.reserve.ensures.len, ps.ok.0, length-map ps.items parameter) in
    let same = written_among (place c.args.place.now) g t c.len-local.result o among ∙ ap (λ n. bounds_written g t n o) count in
    let bounds = rw same at c.in_err-bounds.ensures.known in
    holds _ _ _ _ _ room few (goes_on _ c.in_ok-ctype.ensures (refused _ c.from_residual-in_err-bounds.result c.from_residual-in_err-bounds.ensures.1 bounds))

pub returns-clause-types : goal.returns-clause-types
returns-clause-types c all among =
    let ps = c.args.parameters.now in
    let room = ap (λ n. nat_lt n 16) (c.len.ensures ∙ ps.ok.0 ∙ sym (length-map ps.items parameter)) in
    let few = rw c.span.ensures at c.in_ok-needs.ensures in
    let g = among_parameters (scope c.args.place.now.scope.now) all in
    let t = ctype c.in_ok-ctype.ctype in
    let o = (trees.parameter c.args.written.now).bounds in
    let count : c.len-local.result ≡ length (map parameter ps.items) = omega (arith, c.len-local.ensures, c.reserve.ensures.len, ps.ok.0, length-map ps.items parameter) in
    let same = written_among (place c.args.place.now) g t c.len-local.result o among ∙ ap (λ n. bounds_written g t n o) count in
    let bounds = rw same at c.in_ok-bounds.ensures.known in
    let pushed = rw c.reserve.ensures.items at c.push_reserved.ensures.items in
    holds _ _ _ _ _ room few (goes_on _ c.in_ok-ctype.ensures (goes_on _ bounds (record { so = ap Passes (sym (item_pushed parameter ps.items c.push_reserved.new.self.items _ _ pushed refl)) })))

pub returns-clause-below : goal.returns-clause-below
returns-clause-below c n more over =
    let pushed = rw c.reserve.ensures.items at c.push_reserved.ensures.items in
    over_pushed n c.args.parameters.now.items c.push_reserved.new.self.items _ pushed (bounds_below_more (length c.args.place.now.locals.now) n (bounds_in c.in_ok-bounds.bounds) more c.in_ok-bounds.ensures.below) over
