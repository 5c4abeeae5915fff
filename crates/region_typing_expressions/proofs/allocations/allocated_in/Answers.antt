use Rattle.std.proofs.Common.{Option, Err, ap, sym, subst, refl, ◌∙◌}
use Rattle.std.specs.Option.{option_map}
use Rattle.ckc_text.specs.Places.{place_at}
use Rattle.ckc_tree.specs.Expressions.{expression}
use Rattle.pointer_modes.specs.Types.{ctype}
use Rattle.ckc_core.specs.Core as core
use Rattle.region_typing_rules.specs.Operands.{site_at}
use Rattle.region_typing_rules.specs.NewMemory.{elements_in, allocation_if}
use Rattle.region_typing_scope.specs.Answering.{Answers}
use Rattle.region_typing_scope.specs.OnHeap.{typed, expression as boxed_expression}
use Rattle.region_typing_scope.specs.Views.{scope}
use Rattle.region_typing_scope.proofs.Going.{goes_on, refused}
use Rattle.region_typing_expressions.proofs.Continuing.{number_then}
use Rattle.region_typing_expressions.proofs.allocations.allocated_in.Goals as goal

pub returns-in_err-value : goal.returns-in_err-value
returns-in_err-value c =
    let s = scope c.args.scope.now in
    let site = site_at (place_at c.args.context.now) c.args.span in
    rw (number_then (typed c.args.value) c.args.span (λ value. allocation_if s (ctype c.args.t) (elements_in s (ctype c.args.t) (expression c.args.size.now) value) site c.args.span))
    (refused _ c.from_residual.result c.from_residual.ensures.1 c.in_err-value.ensures)

pub returns-in-None : goal.returns-in-None
returns-in-None c =
    let s = scope c.args.scope.now in
    let site = site_at (place_at c.args.context.now) c.args.span in
    let none = sym c.in_ok-elements_in.ensures ∙ ap (option_map boxed_expression) c.in-None.is in
    rw (number_then (typed c.args.value) c.args.span (λ value. allocation_if s (ctype c.args.t) (elements_in s (ctype c.args.t) (expression c.args.size.now) value) site c.args.span))
    (goes_on _ c.in_ok-value.ensures (subst (λ (o : Option core.Expression). Answers typed (allocation_if s (ctype c.args.t) o site c.args.span) (Err c.refusal.result)) (sym none) (record { so = rw c.refusal.ensures refl })))

pub returns-in-Some : goal.returns-in-Some
returns-in-Some c =
    let s = scope c.args.scope.now in
    let site = site_at (place_at c.args.context.now) c.args.span in
    let some = sym c.in_ok-elements_in.ensures ∙ ap (option_map boxed_expression) c.in-Some.is in
    rw (number_then (typed c.args.value) c.args.span (λ value. allocation_if s (ctype c.args.t) (elements_in s (ctype c.args.t) (expression c.args.size.now) value) site c.args.span))
    (goes_on _ c.in_ok-value.ensures (subst (λ (o : Option core.Expression). Answers typed (allocation_if s (ctype c.args.t) o site c.args.span) c.allocation.result) (sym some) c.allocation.ensures))
