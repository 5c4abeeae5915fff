use Rattle.std.proofs.Common.{map, ap, sym, ◌∙◌}
use Rattle.pointer_modes.specs.Types.{ctype}
use Rattle.ckc_core.specs.Core.{expression}
use Rattle.region_typing_rules.specs.Readings.{behind_local}
use Rattle.region_typing_flow.proofs.readings.+behind_local.Goals as goal

pub returns-in-Sum : goal.returns-in-Sum
returns-in-Sum t c =
    let types = map ctype c.args.locals.now in
    c.further.ensures types (expression c.in-Sum.pointer.value) (expression c.in-Sum.number.value) c.in-Sum.site c.in-Sum.bounds (rw c.deref.ensures at c.constant.ensures) (rw c.deref-in-Sum.ensures at c.behind_local.ensures)
    ∙ ap (λ e. behind_local types (expression e)) (sym c.in-Sum.is)
