use Rattle.std.proofs.Common.{◌≡◌, ap, sym, ◌∙◌}
use Rattle.std.specs.List.{list_any}
use Rattle.ckc_tree.specs.declared.item.Program.{Program}
use Rattle.ckc_tree.specs.Items.{item, tree}
use Rattle.ckc_names_rules.specs.Naming.{is_main, has_main}
use Rattle.ckc_names.proofs.Shown.{any_shown}
use Rattle.ckc_names.proofs.Endings.{names_with_main, refused_without_main}
use Rattle.ckc_names.proofs.main_function.with_main.Goals as goal

-- whether one of the items in a slice is a main
in_slice : (program : Program) (slice : _) → slice ≡ program.items.items → list_any (λ x. is_main (item x)) slice ≡ has_main (tree program)
in_slice program slice is = ap (list_any (λ x. is_main (item x))) is ∙ sym (any_shown is_main item program.items.items)

pub returns-in-Ok : goal.returns-in-Ok
returns-in-Ok c =
    let says = c.has_main.ensures ∙ in_slice c.args.program.now c.as_slice.result.now c.as_slice.ensures.value in
    names_with_main (has_main (tree c.args.program.now)) c.args.names (rw (c.in-Ok.is, says) at c.need_main.ensures)

pub returns-in-Err : goal.returns-in-Err
returns-in-Err c =
    let says = c.has_main.ensures ∙ in_slice c.args.program.now c.as_slice.result.now c.as_slice.ensures.value in
    refused_without_main (has_main (tree c.args.program.now)) c.args.names c.in-Err.refused (rw (c.in-Err.is, says) at c.need_main.ensures)
