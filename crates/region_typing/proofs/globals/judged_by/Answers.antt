use Rattle.std.proofs.Common.{Some, ap, ◌∙◌}
use Rattle.ckc_text.specs.Places.{place_at}
use Rattle.ckc_tree.specs.Statements.{initializer}
use Rattle.region_typing_scope.specs.Views.{scope}
use Rattle.region_typing.specs.Items.{judged_initializer}
use Rattle.region_typing.proofs.Constants.{list_parts}
use Rattle.region_typing.proofs.globals.judged_by.Goals as goal

pub returns-in-List : goal.returns-in-List
returns-in-List c =
    let at = place_at c.args.context.now in
    let g = scope c.args.scope.now in
    let listed = rw c.as_slice.ensures.value at c.judged_list.ensures in
    rw (ap (λ w. judged_initializer at g (Some (initializer w))) c.in-List.is ∙ list_parts at g c.in-List.constants.items c.in-List.span) listed
