use Rattle.std.proofs.Common.{ap, ◌∙◌}
use Rattle.ckc_text.specs.declared.code.Code.TheVariants.{E13}
use Rattle.ckc_text.specs.Places.{place_at}
use Rattle.ckc_tree.specs.Types.{type_tree}
use Rattle.ckc_tree.specs.Statements.{declarator}
use Rattle.pointer_modes.specs.Types.{ctype}
use Rattle.region_typing_rules.specs.Statements.{length_of}
use Rattle.region_typing_scope.proofs.Going.{refused, refused_by}
use Rattle.region_typing_statements.proofs.Testing.{tested}
use Rattle.region_typing.specs.declared.globals.WalkedVariable.{WalkedVariable}
use Rattle.region_typing.specs.Items.{walk}
use Rattle.region_typing.proofs.JudgedVariables.{stars_break, element_breaks, bounds_break, one_more_variable, variable_unmade}
use Rattle.region_typing.proofs.globals.variable.Goals as goal

pub returns-in_err-taken : goal.returns-in_err-taken
returns-in_err-taken c = refused _ c.from_residual.result c.from_residual.ensures.1 c.in_err-taken.ensures.room

pub returns-in_err-needs : goal.returns-in_err-needs
returns-in_err-needs c =
    let broken = rw c.span.ensures at c.in_err-needs.ensures in
    refused_by c.from_residual-in_err-needs.result c.from_residual-in_err-needs.ensures.1
    (λ stop breaks. stars_break (place_at c.args.context.now) (type_tree c.args.base.now) c.args.span (declarator c.args.d.now) (ctype c.args.t.now) c.in_ok-taken.taken (walk c.args.walk.now) stop c.in_ok-taken.ensures.room.so breaks)
    broken

pub returns-in_err-array_element : goal.returns-in_err-array_element
returns-in_err-array_element c =
    let broken = rw c.is_ended_array-ended.ensures at c.in_err-array_element.ensures in
    refused_by c.from_residual-in_err-array_element.result c.from_residual-in_err-array_element.ensures.1
    (λ stop breaks. element_breaks (place_at c.args.context.now) (type_tree c.args.base.now) c.args.span (declarator c.args.d.now) (ctype c.args.t.now) c.in_ok-taken.taken (walk c.args.walk.now) c.in_ok-taken.ensures.room.so (tested _ _ _ c.in_ok-needs.ensures) stop breaks)
    broken

pub returns-in_err-bounds : goal.returns-in_err-bounds
returns-in_err-bounds c =
    let leads = tested _ E13 _ (rw c.is_ended_array-ended.ensures at c.in_ok-array_element.ensures) in
    refused_by c.from_residual-in_err-bounds.result c.from_residual-in_err-bounds.ensures.1
    (λ stop breaks. bounds_break (place_at c.args.context.now) (type_tree c.args.base.now) c.args.span (declarator c.args.d.now) (ctype c.args.t.now) c.in_ok-taken.taken (walk c.args.walk.now) c.in_ok-taken.ensures.room.so (tested _ _ _ c.in_ok-needs.ensures) leads stop breaks)
    c.in_err-bounds.ensures

pub returns-in_err-initial : goal.returns-in_err-initial
returns-in_err-initial c =
    let leads = tested _ E13 _ (rw c.is_ended_array-ended.ensures at c.in_ok-array_element.ensures) in
    refused_by c.from_residual-in_err-initial.result c.from_residual-in_err-initial.ensures.1
    (λ stop breaks. variable_unmade (place_at c.args.context.now) (type_tree c.args.base.now) c.args.span (declarator c.args.d.now) (ctype c.args.t.now) c.in_ok-taken.taken (walk c.args.walk.now) c.in_ok-taken.ensures.room.so (tested _ _ _ c.in_ok-needs.ensures) c.in_ok-bounds.bounds (walk c.add_variable.new.walk) c.in_ok-add_variable.ensures leads c.in_ok-bounds.ensures.so stop breaks)
    c.in_err-initial.ensures

pub returns : goal.returns
returns c =
    let leads = tested _ E13 _ (rw c.is_ended_array-ended.ensures at c.in_ok-array_element.ensures) in
    let b = c.in_ok-bounds.bounds in
    let j = c.in_ok-initial.initial in
    let ended = c.is_ended_array-ended.result in
    let made : WalkedVariable = record { count = c.length_of.result; ended = ended; bounds = b; initial = j } in
    let same = ap (λ n. record { count = n; ended = ended; bounds = b; initial = j }) c.length_of.ensures
    ∙ ap (λ e. record { count = length_of (declarator c.args.d.now); ended = e; bounds = b; initial = j }) c.is_ended_array-ended.ensures in
    record { so = one_more_variable (place_at c.args.context.now) (type_tree c.args.base.now) c.args.span (declarator c.args.d.now) (ctype c.args.t.now) c.in_ok-taken.taken (walk c.args.walk.now) c.in_ok-taken.ensures.room.so (tested _ _ _ c.in_ok-needs.ensures) b (walk c.add_variable.new.walk) c.in_ok-add_variable.ensures leads c.in_ok-bounds.ensures.so made j same c.in_ok-initial.ensures.so }
