use Rattle.std.proofs.Common.{◌≡◌, Option, ap, subst, ◌∙◌}
use Rattle.std.specs.Prelude.{IfOk}
use Rattle.std.specs.Option.{option_map}
use Rattle.ckc_tree.specs.Expressions.{expression}
use Rattle.pointer_modes.specs.Types.{ctype}
use Rattle.ckc_core.specs.Core as core
use Rattle.region_typing_scope.specs.OnHeap.{expression as boxed_expression}
use Rattle.region_typing_scope.specs.Views.{scope}
use Rattle.region_typing_expressions.specs.Allocations.{alone_in, factor_in}
use Rattle.region_typing_expressions.proofs.Elements.{elements_alone}
use Rattle.region_typing_expressions.proofs.allocations.elements_in.Goals as goal

pub returns-else-keep_factor : goal.returns-else-keep_factor
returns-else-keep_factor c =
    let value = boxed_expression c.args.value in
    let none = rw (c.deref_mut.ensures.value, c.if-keep_factor.false) at c.keep_factor.ensures.kept in
    let beside = c.in_ok-beside.ensures value ∙ ap (λ f. factor_in f value) c.in-Some.is ∙ none in
    let same : c.keep_factor.new.value ≡ c.args.value.value = c.keep_factor.ensures.other c.if-keep_factor.false ∙ c.deref_mut.ensures.value in
    let alone : IfOk c.elements_alone.result (λ count. option_map boxed_expression count ≡ alone_in (scope c.args.scope.now) (ctype c.args.t.now) (expression c.args.size.now) value) = rw (← same) c.elements_alone.ensures in
    subst (λ (o : Option core.Expression). IfOk c.elements_alone.result (λ count. option_map boxed_expression count ≡ o))
    (elements_alone (scope c.args.scope.now) (ctype c.args.t.now) (expression c.args.size.now) value beside) alone

pub returns-in-None : goal.returns-in-None
returns-in-None c =
    let value = boxed_expression c.args.value in
    let beside = c.in_ok-beside.ensures value ∙ ap (λ f. factor_in f value) c.in-None.is in
    subst (λ (o : Option core.Expression). IfOk c.elements_alone-in-None.result (λ count. option_map boxed_expression count ≡ o))
    (elements_alone (scope c.args.scope.now) (ctype c.args.t.now) (expression c.args.size.now) value beside) c.elements_alone-in-None.ensures
